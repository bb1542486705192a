-- A slot that stood in no queue joins the tail of one: its record is written, with the number of those who stand there as its place.
use Prim.Native.Nat.{ℕ, ◌+◌, ◌≤◌, ◌<◌}
use mathlib.Core.Path.{◌≡◌, refl, sym, ap, ◌∙◌}
use mathlib.Core.Logic.{◌≢◌}
use mathlib.Core.Bool.{Bool, true, false}
use mathlib.Core.List.{List}
use native.Mathlib.Omega.{arith}
use native.Mathlib.Decide.{ℕ_discrete}
use lib.ListN.{length, set, length-set}
use lib.Seq.{get_or-set_same, get_or-set_other}
use Rattle.tid.specs.Sizes.{priorities, events}
use Rattle.tid.specs.Tid.{mark_of}
use Rattle.queue.specs.Numbering.{event_queue, send_queue, queues_for}
use Rattle.queue.specs.Row.{pushed_row}
use Rattle.queue.specs.Rows.{no_row}
use Rattle.queue.proofs.Turns.{pushed_len}
use Rattle.queue.proofs.Rules.{room}
use Rattle.task.specs.declared.task.Outcome.{Outcome}
use Rattle.task.specs.declared.task.Outcome.TheVariants.{Nothing}
use Rattle.task.specs.declared.task.State.{State}
use Rattle.task.specs.declared.task.State.TheVariants.{Ready}
use Rattle.task.specs.declared.task.Task.{Task}
use Rattle.task.specs.Task.{no_task, is_used, is_active, is_ready, is_quiet, task_as}
use Rattle.task.proofs.Stands.{stands_ready}
use Rattle.kernel.specs.declared.table.Table.{Table}
use Rattle.kernel.specs.Edition.{may_wait}
use Rattle.kernel.specs.Table.{task_at, queue_at}
use Rattle.kernel.specs.Moves.{left_as, queued, woken}
use Rattle.rules.specs.Good.{good_result, good_state}
use Rattle.rules.specs.Facts.{standing, key_of, nobody, Rules}
use Rattle.kept.proofs.Tasks.{code_at, free}
use Rattle.kept.proofs.Moves.{slot_used, woken_is, woken_kept, queued_kept}
use Rattle.image.specs.Record.{fields, record_of}
use Rattle.image.proofs.Stands.{stored_in}
use Rattle.records.specs.Records.{Records, with_record}
use Rattle.records.specs.Stage.{Stage, left_bytes, joined_bytes, joined_count}
use Rattle.records.proofs.Rows.{joins_last, joins_other}
use Rattle.records.proofs.Tasks.{byte_priority}
use Rattle.records.proofs.Changes.{same_record, one_written, left_is}

-- the task of slot s is x, and its mark joined queue k
abbrev with_joined : Table → ℕ → ℕ → Task → Table
with_joined t s k x = record { edition = t.edition; tasks = set t.tasks s x; queues = set t.queues k (pushed_row (queue_at t k) (mark_of s)) }

module _ {n used a : ℕ} {w : ℕ → Bool} {t : Table} {b count : List ℕ} (g : Stage n used a w t b count) (s k : ℕ)
    (l : s < used) (out : key_of n w t s ≡ queues_for n) (h : k < queues_for n) where
  within : k < length t.queues
  within = omega (arith, g.rules.lined.shaped.count)

  -- there is room for one more, since s does not stand there
  space : (queue_at t k).len < length (queue_at t k).marks
  space =
      omega (
        arith,
        room g.rules.lined.holds k within s (omega (arith, g.rules.tasks.fits)) (λ e. omega arith),
        g.rules.lined.shaped.places k h,
      )

  joined_records : {after : ℕ} (x : Task) → Rules n used after (with_joined t s k x) → is_used x.state ≡ true → standing n x ≡ k
      → ((j : ℕ) → j < n → j ≢ s → w j ≡ false)
      → Records n (record_of (with_joined t s k x)) (with_record b s (fields x (queue_at t k).len))
  joined_records x f in_use own alone =
      let t' = with_joined t s k x in
      let old = g.rules.lined.holds in
      let new = f.lined.holds in
      let here : task_at t' s ≡ x = get_or-set_same t.tasks s x no_task (omega (arith, g.rules.tasks.fits, g.rules.size)) in
      one_written g.records t' s x (queue_at t k).len (omega (arith, g.rules.tasks.fits)) in_use here
      (stored_in n t' s f.size (ap (standing n) here ∙ own) h ∙ joins_last k s old new within space)
      (λ i m ne. same_record n t t' g.rules.size f.size i (get_or-set_other t.tasks s i x no_task ne)
      (λ j stands low. joins_other k s old new within space i j m (rw (alone i m ne) stands) (omega (arith, g.rules.lined.shaped.count))))

module _ {n used a : ℕ} {w : ℕ → Bool} {t : Table} {b count : List ℕ} (g : Stage n used a w t b count) where
  -- a slot that stands in no queue becomes ready, and joins the tail of the queue of its priority; nobody else is being woken
  pub joins_stage : (s after : ℕ) (o : Outcome) → s < used → key_of n w t s ≡ queues_for n → (a ≢ s → a ≡ after)
      → good_result used o ≡ true → ((j : ℕ) → j < n → j ≢ s → w j ≡ false)
      → Stage n used after nobody (woken t (mark_of s) o) (joined_bytes b count s o) (joined_count b count s)
  unfolding joined_bytes joined_count
  joins_stage s after o l out was good alone =
      let f = g.rules in
      let inside : s < n = omega (arith, f.tasks.fits) in
      let x = task_as Ready o (task_at t s) in
      let p = (task_at t s).priority in
      let low : p < priorities = (f.tasks.each s l).priority in
      let at : p < queues_for n = omega arith in
      let is = woken_is t s o (omega arith) in
      let rules : Rules n used after (with_joined t s p x) = rw is at (woken_kept f s after nobody o l out was good refl (λ j m ne. sym (alone j m ne))) in
      rw (is, left_is g s inside Ready o, byte_priority g s inside, g.counts p low)
      (record {
        rules = rules;
        records = joined_records g s p l out at x rules refl (stands_ready (queues_for n) x refl) alone;
        counts = λ q m. elim (ℕ_discrete q p) [
          | yes e ↦ rw (e, get_or-set_same count p _ 0 (omega (arith, g.long)), get_or-set_same t.queues p _ no_row (within g s p l out at), pushed_len (queue_at t p) (mark_of s) (space g s p l out at))
          | no ne ↦ rw (get_or-set_other count p q _ 0 ne, get_or-set_other t.queues p q _ no_row ne) (g.counts q m)
        ];
        long = rw length-set g.long;
      })

-- The last move of the active task, that of slot c, where it stops to stand in a queue, at its tail: then none is active.
module _ {n used c : ℕ} {t : Table} {b count : List ℕ} (g : Stage n used c nobody t b count) (runs : code_at t c ≡ 1) where
  pub queues_stage : (k : ℕ) (st : State) → is_used st ≡ true → is_active st ≡ false → is_ready st ≡ false → is_quiet st ≡ false → good_state used c st ≡ true
      → priorities ≤ k → k < queues_for n → standing n (task_as st Nothing (task_at t c)) ≡ k
      → ((j : ℕ) → send_queue j ≡ k → is_quiet (task_at t j).state ≡ false)
      → ((e : ℕ) → e < events → event_queue e ≡ k → may_wait t.edition ((queue_at t k).len + 1) ≡ true)
      → Stage n used n nobody (left_as (queued t k (mark_of c)) c st Nothing) (left_bytes b c st Nothing (queue_at t k).len) count
  unfolding queued
  queues_stage k st in_use still unready unblocked good past h stands quiet fits =
      let f = g.rules in
      let x = task_as st Nothing (task_at t c) in
      let l : c < used = slot_used f (rw runs) in
      let rules = queued_kept f c n k st (rw runs) (λ ne. absurd (ne refl)) in_use still unready unblocked good h stands quiet fits in
      rw (left_is g c (omega (arith, f.tasks.fits)) st Nothing)
      (record {
        rules = rules;
        records = joined_records g c k l (free n (task_at t c) (rw runs)).nowhere h x rules in_use stands (λ _ _ _. refl);
        counts = λ p m. rw (get_or-set_other t.queues k p _ no_row (λ e. omega arith)) (g.counts p m);
        long = g.long;
      })
