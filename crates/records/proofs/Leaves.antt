-- The head of a queue leaves it, on the bytes: those behind it move up, and its own record is written anew.
use Prim.Native.Nat.{ℕ, ◌+◌, ◌-◌, ◌*◌, ◌<◌}
use mathlib.Core.Path.{◌≡◌, refl, sym, ap, ◌∙◌}
use mathlib.Core.Logic.{◌≢◌}
use mathlib.Core.Bool.{true}
use mathlib.Core.List.{List}
use native.Mathlib.Nat.{le_refl, add_assoc}
use native.Mathlib.Omega.{arith}
use native.Mathlib.Decide.{ℕ_discrete, dec_lt}
use lib.ListN.{length, length-set}
use lib.Seq.{get_or-set_other}
use lib.Dec.{eqb}
use borrow.Author.Tests.{eqb-true, eq-eqb, ne_eqb}
use Rattle.tid.specs.Sizes.{priorities}
use Rattle.tid.specs.Tid.{slot_of, tid_of}
use Rattle.queue.specs.Choose.{choose}
use Rattle.queue.specs.Numbering.{ready_queue, event_queue, send_queue, queues_for}
use Rattle.queue.specs.Row.{place_at, popped_row}
use Rattle.queue.specs.Rows.{no_row}
use Rattle.queue.proofs.Below.{by_test}
use Rattle.queue.proofs.Turns.{popped_len}
use Rattle.task.specs.declared.task.Outcome.{Outcome}
use Rattle.task.specs.declared.task.Outcome.TheVariants.{Nothing}
use Rattle.task.specs.declared.task.State.{State}
use Rattle.task.specs.declared.task.State.TheVariants.{Active, ReplyBlocked}
use Rattle.task.specs.declared.task.Task.{Task}
use Rattle.task.specs.Task.{reply_of, is_used, task_as}
use Rattle.task.proofs.Stands.{stands_used}
use Rattle.kernel.specs.declared.table.Table.{Table}
use Rattle.kernel.specs.Table.{slots, task_at, queue_at, with_queue}
use Rattle.kernel.specs.Moves.{left_as, activated}
use Rattle.kernel.proofs.Editions.{fewer_wait}
use Rattle.rules.specs.Facts.{standing, nobody, Waking}
use Rattle.rules.proofs.Replaced.{set_replaces}
use Rattle.kept.proofs.Change.{quiet_set, waiters_set, row_leaves}
use Rattle.kept.proofs.Moves.{row_head, stander_used, received_kept, activated_kept}
use Rattle.kept.proofs.Tasks.{is_free, free}
use Rattle.image.specs.Record.{record_length, at_priority, at_parent, at_awaited, at_entry, stored_place, fields, task_record, record_of, byte_at, entry_at}
use Rattle.image.specs.Image.{image_of}
use Rattle.image.proofs.Stands.{stored_in, stored_none}
use Rattle.records.specs.Records.{Records, with_record, queues, moved_up, closed_up}
use Rattle.records.specs.Stage.{Stage, left_bytes}
use Rattle.records.proofs.Numbers.{number_same}
use Rattle.records.proofs.Records.{with_record_lem, closed_up_lem}
use Rattle.records.proofs.Rows.{leaves_same, leaves_other}
use Rattle.records.proofs.Told.{Told, ready_told, sender_told}
use Rattle.records.proofs.Heads.{closed_byte, closed_used}
use Rattle.records.proofs.Images.{records_image}
use Rattle.records.proofs.Tasks.{byte_priority, byte_parent, entry_at_lem}
use Rattle.records.proofs.Changes.{same_record}

-- a record that moves up is that of the task, one place nearer the head
up_record : (x : Task) (place : ℕ) (code at key : ℕ) → is_used x.state ≡ true → queues code at key (task_record x place) ≡ true
    → moved_up code at key (task_record x place) ≡ task_record x (place - 1)
unfolding task_record
up_record x place code at key used e = rw (e, used)

-- the slot at the head of a queue
abbrev pub head_at : Table → ℕ → ℕ
head_at t k = slot_of (place_at (queue_at t k) 0)

-- the head leaves its queue
abbrev pub head_gone : Table → ℕ → Table
head_gone t k = with_queue t k (popped_row (queue_at t k))

-- and is left in a state
abbrev head_left : Table → ℕ → State → Table
head_left t k st = left_as (head_gone t k) (head_at t k) st Nothing

module _ {n used a : ℕ} {t : Table} {b count : List ℕ} (g : Stage n used a nobody t b count)
    {code at key k : ℕ} (q : Told n t code at key k) (some : 0 < (queue_at t k).len) where
  inside : k < length t.queues
  inside = rw g.rules.lined.shaped.count q.within

  pub head_used : head_at t k < used
  head_used = stander_used g.rules (head_at t k) k (row_head g.rules k q.within some) q.within

  head_below : head_at t k < n
  head_below = omega (arith, head_used, g.rules.tasks.fits)

  -- the rules hold but for the head, which is to be woken
  pub gone_kept : Waking n used a (λ j. eqb j (head_at t k)) (head_gone t k)
  gone_kept =
      let f = g.rules in
      let s = head_at t k in
      record {
        size = f.size;
        tasks = f.tasks;
        lined = row_leaves f.lined k q.within some (rw (eq-eqb s s refl) (le_refl (queues_for n))) (λ j _ ne. rw (ne_eqb j s ne));
        quiet = quiet_set n t.queues (task_at t) k _ f.quiet
            (λ j same e. absurd (omega (arith, f.quiet j (omega (arith, q.within)) e, ap (λ (i : ℕ). (queue_at t i).len) same))) inside;
        waiters = waiters_set t.edition t.queues k _ f.waiters
            (λ e h same. fewer_wait t.edition (queue_at t (event_queue e)).len (popped_row (queue_at t k)).len
            (omega (arith, popped_len (queue_at t k) some, ap (λ (i : ℕ). (queue_at t i).len) same)) (f.waiters e h)) inside;
      }

  -- those behind the head are one place nearer, and all others where they were
  places_left : (i : ℕ) → i < n → i ≢ head_at t k
      → stored_place (head_gone t k) i ≡ choose (eqb (standing n (task_at t i)) k) (stored_place t i - 1) (stored_place t i)
  places_left i l ne =
      let t' = head_gone t k in
      let key = standing n (task_at t i) in
      let size = g.rules.size in
      let was = g.rules.lined.holds in
      let now = gone_kept.lined.holds in
      elim (ℕ_discrete key k) [
        | yes own ↦
            rw (eq-eqb key k own, stored_in n t i size own q.within)
            (stored_in n t' i size own q.within ∙ leaves_same k was now inside some i l own ne)
        | no other ↦
            rw (ne_eqb key k other)
            (elim (dec_lt key (queues_for n)) [
              | yes within ↦
                  stored_in n t' i size refl within ∙ leaves_other k was now inside some i key other
                  ∙ sym (stored_in n t i size refl within)
              | no past ↦ stored_none n t' i size refl (omega arith) ∙ sym (stored_none n t i size refl (omega arith))
            ])
      ]

  records_left : (i : ℕ) → i < n → i ≢ head_at t k → moved_up code at key (record_of t i) ≡ record_of (head_gone t k) i
  records_left i l ne =
      let x = task_at t i in
      rw (places_left i l ne)
      (by_test (eqb (standing n x) k)
      (λ e. rw e (up_record x (stored_place t i) code at key (stands_used (queues_for n) x (eqb-true _ k e) q.within) (q.same i l ∙ e)))
      (λ e. rw (q.same i l, e)))

  -- closing up, and writing the head's record
  pub head_written : (t' : Table) (r : List ℕ) → length r ≡ record_length → r ≡ record_of t' (head_at t k)
      → ((i : ℕ) → i ≢ head_at t k → record_of (head_gone t k) i ≡ record_of t' i)
      → Records n (record_of t') (with_record (closed_up code at key b used) (head_at t k) r)
  head_written t' r size new others =
      with_record_lem (rw (closed_used g q) at (closed_up_lem n (record_of t) b g.records code at key q.near)) (head_at t k) r head_below size new
      (λ i l ne. records_left i l ne ∙ others i ne)

  -- closing up changes no task
  pub closed_priority : byte_at (closed_up code at key b used) (head_at t k) at_priority ≡ (task_at t (head_at t k)).priority
  closed_priority = closed_byte g code at key used (head_at t k) at_priority (omega arith) (λ e. omega arith) ∙ byte_priority g (head_at t k) head_below

  closed_entry : entry_at (closed_up code at key b used) (head_at t k) ≡ entry_at b (head_at t k)
  closed_entry =
      let s = head_at t k in
      let at' = s * record_length + at_entry in
      number_same (closed_up code at key b used) b at' at' 4
      (λ d h. rw (add_assoc (s * record_length) at_entry d) (closed_byte g code at key used s (at_entry + d) (omega arith) (λ e. omega arith)))

  pub closed_left : (st : State) (o : Outcome) (place : ℕ) → let s = head_at t k in
      left_bytes (closed_up code at key b used) s st o place ≡ with_record (closed_up code at key b used) s (fields (task_as st o (task_at t s)) place)
  closed_left st o place =
      let s = head_at t k in
      rw (closed_priority, closed_byte g code at key used s at_parent (omega arith) (λ e. omega arith), byte_parent g s head_below, closed_entry, entry_at_lem g s head_below)

  -- the head is left in a state in which it stands in no queue
  head_leaves : (st : State) → is_free st ≡ true → Records n (record_of (head_left t k st)) (left_bytes (closed_up code at key b used) (head_at t k) st Nothing 0)
  unfolding task_record
  head_leaves st stays =
      let s = head_at t k in
      let t' = head_left t k st in
      let x = task_as st Nothing (task_at t s) in
      let size : slots t' ≡ n = length-set t.tasks s x ∙ g.rules.size in
      let replaced = set_replaces t.tasks s x (omega (arith, head_below, g.rules.size)) in
      let new = free n x stays in
      let nowhere = stored_none n t' s size (ap (standing n) replaced.here ∙ new.nowhere) (le_refl (queues_for n)) in
      rw (closed_left st Nothing)
      (head_written t' (fields x 0) refl (rw (nowhere, replaced.here, new.in_use))
      (λ i ne. same_record n (head_gone t k) t' g.rules.size size i (replaced.other i ne) (λ _ _ _. refl)))

module _ {n used a : ℕ} {t : Table} {b count : List ℕ} (g : Stage n used a nobody t b count) where
  -- the head of a send queue leaves it, and waits for a reply; those behind it move up
  pub receives_stage : (c : ℕ) → c < n → 0 < (queue_at t (send_queue c)).len
      → let k = send_queue c in
      let s = slot_of (place_at (queue_at t k) 0) in
      let st = ReplyBlocked (reply_of (task_at t s).state) in
      Stage n used a nobody (left_as (with_queue t k (popped_row (queue_at t k))) s st Nothing) (left_bytes (closed_up 4 at_awaited (tid_of c) b used) s st Nothing 0) count
  receives_stage c l some =
      let k = send_queue c in
      let rules = received_kept g.rules c l some in
      record {
        rules = rules;
        records = head_leaves g (sender_told g.rules c l) some (ReplyBlocked (reply_of (task_at t (head_at t k)).state)) refl;
        counts = λ p low. rw (get_or-set_other t.queues k (ready_queue p) (popped_row (queue_at t k)) no_row (λ e. omega arith)) (g.counts p low);
        long = g.long;
      }

-- the head of a ready queue becomes active, where no task is, and the bytes are the image
module _ {n used : ℕ} {t : Table} {b count : List ℕ} (g : Stage n used n nobody t b count) (p : ℕ) (low : p < priorities) (some : 0 < (queue_at t (ready_queue p)).len) where
  pub activated_image : let s = slot_of (place_at (queue_at t (ready_queue p)) 0) in
      left_bytes (closed_up 2 at_priority p b used) s Active Nothing 0 ≡ image_of (activated t p s)
  unfolding activated
  activated_image =
      let rules = activated_kept g.rules p (le_refl n) low some in
      records_image n (head_left t (ready_queue p) Active) _ rules.size
      (head_leaves g (ready_told g.rules p low) some Active refl)
