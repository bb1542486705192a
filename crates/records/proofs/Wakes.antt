-- The head of a queue leaves it and joins the ready queue of its priority, on the bytes; so do all who stand there.
use Prim.Native.Nat.{ℕ, zero, suc, ◌+◌, ◌*◌, ◌≤◌, ◌<◌}
use mathlib.Core.Path.{◌≡◌, refl, sym, ap, ap₂, ◌∙◌}
use mathlib.Core.Logic.{◌≢◌}
use mathlib.Core.Bool.{Bool, true}
use mathlib.Core.List.{List}
use native.Mathlib.Nat.{zero-add, add-zero, le_refl}
use native.Mathlib.Omega.{arith}
use lib.ListN.{length, get_or, set, replicate}
use lib.Seq.{get_or-set_same, get_or-set_other, set_comm, set-set, set-get_or}
use lib.Dec.{eqb}
use borrow.Author.Tests.{eq-eqb, ne_eqb}
use Rattle.tid.specs.Sizes.{priorities}
use Rattle.tid.specs.Tid.{mark_of}
use Rattle.queue.specs.declared.Queue.{Queue}
use Rattle.queue.specs.Row.{place_at, empty_row, emptied, pushed_row, popped_row}
use Rattle.queue.specs.Row as Row
use Rattle.queue.specs.Rows.{no_row}
use Rattle.queue.specs.Facts.{RowFacts}
use Rattle.queue.proofs.Turns.{popped_len, popped_place}
use Rattle.queue.proofs.Refilled.{early_none, early_all}
use Rattle.task.specs.declared.task.Outcome.{Outcome}
use Rattle.task.specs.declared.task.State.TheVariants.{Ready}
use Rattle.task.specs.Task.{task_as}
use Rattle.kernel.specs.declared.table.Table.{Table}
use Rattle.kernel.specs.Table.{slots, task_at, queue_at, with_queue}
use Rattle.kernel.specs.Moves.{queued, joined, woken, woken_up_to, woken_row}
use Rattle.rules.specs.Good.{good_result}
use Rattle.rules.specs.Facts.{nobody, Rules}
use Rattle.kept.proofs.Moves.{woken_is}
use Rattle.image.specs.Record.{record_length, at_awaited, fields, record_of}
use Rattle.image.proofs.Record.{length_record_of}
use Rattle.records.specs.Records.{with_record, closed_up, head_of}
use Rattle.records.specs.Stage.{Stage, joined_bytes, joined_count}
use Rattle.records.specs.Woken.{Held, woken_in}
use Rattle.records.proofs.Records.{paste_again, closed_length}
use Rattle.records.proofs.Tasks.{byte_priority}
use Rattle.records.proofs.Changes.{left_is}
use Rattle.records.proofs.Told.{Told}
use Rattle.records.proofs.Heads.{headed}
use Rattle.records.proofs.Joins.{joins_stage}
use Rattle.records.proofs.Leaves.{head_at, head_gone, head_used, gone_kept, head_written, closed_priority, closed_left}

module _ {n used a : ℕ} {t : Table} {b count : List ℕ} (g : Stage n used a nobody t b count)
    {code at key k : ℕ} (q : Told n t code at key k) (past : priorities ≤ k) (some : 0 < (queue_at t k).len) where
  -- between the two moves the head alone is being woken; its record could be any, since it is written anew at once
  gone_stage : Stage n used a (λ j. eqb j (head_at t k)) (head_gone t k)
      (with_record (closed_up code at key b used) (head_at t k) (record_of (head_gone t k) (head_at t k))) count
  gone_stage =
      record {
        rules = gone_kept g q some;
        records = head_written g q some (head_gone t k) _ (length_record_of (head_gone t k) (head_at t k)) refl (λ _ _. refl);
        counts = λ p low. rw (get_or-set_other t.queues k p (popped_row (queue_at t k)) no_row (λ e. omega arith)) (g.counts p low);
        long = g.long;
      }

  pub wakes_stage : (o : Outcome) → good_result used o ≡ true → let s = head_at t k in
      let c = closed_up code at key b used in
      Stage n used a nobody (woken (head_gone t k) (mark_of s) o) (joined_bytes c count s o) (joined_count c count s)
  unfolding joined_bytes joined_count
  wakes_stage o good =
      let s = head_at t k in
      let c = closed_up code at key b used in
      let l : s < n = omega (arith, head_used g q some, g.rules.tasks.fits) in
      let next = joins_stage gone_stage s a o (head_used g q some) (rw (eq-eqb s s refl)) (λ _. refl) good (λ j _ ne. ne_eqb j s ne) in
      let fits : s * record_length + record_length ≤ length c = omega (arith, closed_length code at key q.near b used, g.records.size) in
      let again = paste_again c s (record_of (head_gone t k) s) fits (length_record_of (head_gone t k) s) (fields (task_as Ready o (task_at t s)) (get_or count (task_at t s).priority 0)) in
      rw (closed_left g q some Ready o, closed_priority g q some) (rw (left_is gone_stage s l Ready o, byte_priority gone_stage s l, again) at next)

-- One after the other.

-- who is woken joins a ready queue: another stays, and could as well be replaced before
module _ (x : Table) (k s : ℕ) (o : Outcome) (r : Queue) (l : s < slots x) (ne : (task_at x s).priority ≢ k) where
  woken_stays : k < length x.queues → queue_at (woken (with_queue x k r) (mark_of s) o) k ≡ r
  woken_stays inside =
      rw (woken_is (with_queue x k r) s o l, get_or-set_other (set x.queues k r) (task_at x s).priority k _ no_row (λ e. ne (sym e))) (get_or-set_same x.queues k r no_row inside)

  woken_apart : (r' : Queue) → with_queue (woken (with_queue x k r) (mark_of s) o) k r' ≡ woken (with_queue x k r') (mark_of s) o
  woken_apart r' =
      let p = (task_at x s).priority in
      rw (
        woken_is (with_queue x k r) s o l,
        woken_is (with_queue x k r') s o l,
        get_or-set_other x.queues k p r no_row ne,
        get_or-set_other x.queues k p r' no_row ne,
        set_comm (set x.queues k r) p k (pushed_row (queue_at x p) (mark_of s)) r' ne,
        set-set x.queues k r r',
      )

-- who is woken leaves the edition as it is
pub woken_edition : (x : Table) (mark : ℕ) (o : Outcome) → (woken x mark o).edition ≡ x.edition
unfolding woken joined queued
woken_edition x mark o = refl

-- a row where nobody stands is an emptied one
nobody_stands : {n : ℕ} {mine : ℕ → Bool} {q : Queue} → RowFacts n mine q → (w : ℕ) → length q.marks ≡ w → q.len ≡ 0 → q ≡ empty_row w
nobody_stands {q = q} f w size none =
    let marks = sym (early_all 0 q.marks (replicate w 0) (early_none q.marks w size) (λ p. omega (arith, f.past p (omega arith)))) in
    λ i. record { marks = marks i; len = none i }

-- the table after as many heads of queue k as i says were woken
unfoldable pub heads_woken : Table → ℕ → Outcome → ℕ → Table
heads_woken t k o zero = t
heads_woken t k o (suc i) = let x = heads_woken t k o i in woken (head_gone x k) (mark_of (head_at x k)) o

-- what is known then: the others stand there as they did, and those are woken who stood at the first places
pub record Round (n used a k : ℕ) (t : Table) (o : Outcome) (h : Held) (i : ℕ) : Type 0 where
  pub stage : Stage n used a nobody (heads_woken t k o i) h.bytes h.counts
  pub left : (queue_at (heads_woken t k o i) k).len + i ≡ (queue_at t k).len
  pub place : (p : ℕ) → place_at (queue_at (heads_woken t k o i) k) p ≡ place_at (queue_at t k) (p + i)
  pub edition : (heads_woken t k o i).edition ≡ t.edition
  pub rest : let q = queue_at t k in with_queue (heads_woken t k o i) k (emptied q) ≡ woken_up_to (with_queue t k (emptied q)) q o i

module _ {n used a : ℕ} {t : Table} {b count : List ℕ} (g : Stage n used a nobody t b count)
    {code key k : ℕ} (told : (x : Table) → Rules n used a x → Told n x code at_awaited key k) (past : priorities ≤ k)
    (o : Outcome) (good : good_result used o ≡ true) where
  round_none : Round n used a k t o (woken_in n used code key o b count 0) 0
  unfolding heads_woken woken_in woken_up_to
  round_none = record { stage = g; left = omega arith; place = λ p. rw add-zero; edition = refl; rest = refl }

  module _ {i : ℕ} (r : Round n used a k t o (woken_in n used code key o b count i) i) (some : i < (queue_at t k).len) where
    pub stands : 0 < (queue_at (heads_woken t k o i) k).len
    stands = omega (arith, r.left)

    -- the head is the one that the code finds
    pub round_head : head_of code at_awaited key n (woken_in n used code key o b count i).bytes used ≡ head_at (heads_woken t k o i) k
    round_head = headed r.stage (told _ r.stage.rules) n stands

    round_more : Round n used a k t o (woken_in n used code key o b count (suc i)) (suc i)
    unfolding heads_woken woken_in woken_up_to
    round_more =
        let x = heads_woken t k o i in
        let f = r.stage.rules in
        let q = told x f in
        let s = head_at x k in
        let u : s < used = head_used r.stage q stands in
        let l : s < slots x = omega (arith, f.tasks.fits, f.size) in
        let inside : k < length x.queues = omega (arith, f.lined.shaped.count, q.within) in
        let other : (task_at x s).priority ≢ k = λ e. omega (arith, (f.tasks.each s u).priority) in
        let after = woken_stays x k s o (popped_row (queue_at x k)) l other inside in
        let mark : mark_of s ≡ place_at (queue_at t k) i = omega (arith, (f.lined.holds.row k inside).mark 0 stands, rw zero-add at (r.place 0)) in
        record {
          stage = rw round_head (wakes_stage r.stage q past stands o good);
          left = rw after (omega (arith, popped_len (queue_at x k) stands, r.left));
          place = λ p. rw after (popped_place (queue_at x k) stands p ∙ r.place (p + 1) ∙ ap (place_at (queue_at t k)) (omega arith));
          edition = woken_edition (head_gone x k) (mark_of s) o ∙ r.edition;
          rest = woken_apart x k s o (popped_row (queue_at x k)) l other _ ∙ ap₂ (λ (y : Table) (m : ℕ). woken y m o) r.rest mark;
        }

  pub rounds : (i : ℕ) → i ≤ (queue_at t k).len → Round n used a k t o (woken_in n used code key o b count i) i
  rounds zero h = round_none
  rounds (suc i) h = round_more (rounds i (omega arith)) (omega arith)

  -- all of them: nobody stands there any more, and the edition is what it was
  pub all_woken : let q = queue_at t k in
      let t' = woken_row (with_queue t k (emptied q)) q o in
      let h = woken_in n used code key o b count q.len in
      Stage n used a nobody t' h.bytes h.counts × ((queue_at t' k).len ≡ 0) × (t'.edition ≡ t.edition)
  all_woken =
      let q = queue_at t k in
      let x = heads_woken t k o q.len in
      let r = rounds q.len (le_refl q.len) in
      let f = r.stage.rules in
      let inside = (told x f).within in
      let row = f.lined.holds.row k (rw f.lined.shaped.count inside) in
      let none : (queue_at x k).len ≡ 0 = omega (arith, r.left) in
      let empty : queue_at x k ≡ emptied q = nobody_stands row (length q.marks) (f.lined.shaped.places k inside ∙ sym (g.rules.lined.shaped.places k inside)) none in
      let all : Row.count q ≡ q.len = omega (arith, (g.rules.lined.holds.row k (rw g.rules.lined.shaped.count inside)).fits) in
      rw (all, ← r.rest, ← empty, set-get_or x.queues k no_row) (r.stage, none, r.edition)
