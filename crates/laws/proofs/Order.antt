-- In which order those who are woken join the ready queues, and who runs next. One argument for whatever is woken: a row joins behind those who
-- are ready already, and then the next task is chosen.
use Prim.Native.Nat.{ℕ, zero, suc, ◌≤◌, ◌<◌}
use mathlib.Core.Path.{◌≡◌, refl, sym, ap, ◌∙◌}
use mathlib.Core.Bool.{Bool, true}
use mathlib.Core.List.{List, [], ◌∷◌, ◌++◌, append-nil, append_assoc}
use native.Mathlib.Omega.{arith}
use native.Mathlib.Decide.{ℕ_discrete}
use lib.ListN.{length, take, drop}
use lib.Seq.{length-take-le, take-suc, get_or-take, get_or-set_same, get_or-set_other}
use lib.Dec.{ltb, eqb}
use borrow.Author.Tests.{eqb-true, eq-eqb, ne_eqb, ltb-true, ltb-false}
use Rattle.queue.specs.declared.Queue.{Queue}
use Rattle.queue.specs.Numbering.{ready_queue, queues_for}
use Rattle.queue.specs.Row.{place_at, members, count, emptied, pushed_row, popped_row}
use Rattle.queue.specs.Rows.{row_at, no_row}
use Rattle.queue.specs.Facts.{RowFacts}
use Rattle.queue.proofs.Below.{first_below_lem, first_equal}
use Rattle.queue.proofs.Rules.{alone_row_lem}
use Rattle.queue.proofs.Turns.{pushed_members, popped_members}
use Rattle.tid.specs.Sizes.{priorities}
use Rattle.tid.specs.Tid.{mark_of, slot_of}
use Rattle.task.specs.declared.task.Outcome.{Outcome}
use Rattle.task.specs.declared.task.State.TheVariants.{Ready}
use Rattle.task.specs.declared.task.Task.{Task}
use Rattle.task.specs.Task.{no_task, task_as}
use Rattle.task.proofs.Tests.{chosen}
use Rattle.kernel.specs.declared.table.Table.{Table}
use Rattle.kernel.specs.declared.table.Effect.{Effect}
use Rattle.kernel.specs.Table.{task_at, queue_at, with_queue}
use Rattle.kernel.specs.Moves.{queued, joined, woken, woken_up_to, woken_row, first_ready, activated, dispatched}
use Rattle.kernel.proofs.Waking.{woken_shape}
use Rattle.rules.specs.Good.{good_result}
use Rattle.rules.specs.Facts.{standing, Waking, Rules}
use Rattle.kept.proofs.Choices.{through}
use Rattle.kept.proofs.Tasks.{is_free, free}
use Rattle.kept.proofs.Moves.{slot_used, woken_other, waking_one, vacated_kept}
use Rattle.kept.proofs.Woken.{row_woken, one_joins, others_woken}
use Rattle.kept.proofs.Entries.{standers_used}
use Rattle.laws.specs.Order.{of_priority, ready_with, first_with, TakesTurns}
use Rattle.laws.proofs.Lists.{at_set}

-- WHO HAS A PRIORITY

-- of two lists: those of the one, then those of the other
of_append : (t : Table) (p : ℕ) (ms ns : List ℕ) → of_priority t p (ms ++ ns) ≡ of_priority t p ms ++ of_priority t p ns
unfolding of_priority
of_append t p [] ns = refl
of_append t p (m ∷ ms) ns =
    rw (of_append t p ms ns) (sym (through (λ (l : List ℕ). l ++ of_priority t p ns) (eqb (task_at t (slot_of m)).priority p) _ _))

-- in two tables every slot has the same priority
abbrev pub SamePriorities : Table → Table → Type 0
SamePriorities x t = (s : ℕ) → (task_at x s).priority ≡ (task_at t s).priority

of_same : (x t : Table) → SamePriorities x t → (p : ℕ) (ms : List ℕ) → of_priority x p ms ≡ of_priority t p ms
unfolding of_priority
of_same x t same p [] = refl
of_same x t same p (m ∷ ms) = rw (same (slot_of m), of_same x t same p ms)

-- nobody's changes while others are woken
woken_priority : (t : Table) (mark : ℕ) (o : Outcome) → SamePriorities (woken t mark o) t
unfolding woken joined queued
woken_priority t mark o s =
    elim (ℕ_discrete s (slot_of mark)) [
      | yes same ↦
          at_set (λ (x : Task). x.priority ≡ (task_at t s).priority) t.tasks (slot_of mark) s (task_as Ready o (task_at t (slot_of mark))) no_task
          (ap (λ (k : ℕ). (task_at t k).priority) (sym same)) refl
      | no other ↦ ap (λ (x : Task). x.priority) (woken_other t mark o other)
    ]

row_priority : (t : Table) (q : Queue) (o : Outcome) (i : ℕ) → SamePriorities (woken_up_to t q o i) t
unfolding woken_up_to
row_priority t q o zero s = refl
row_priority t q o (suc i) s = woken_priority (woken_up_to t q o i) (place_at q i) o s ∙ row_priority t q o i s

-- A ROW IS WOKEN

-- In these queues those are ready who were in t and, behind them, the marks that have joined.
pub record InTurn (t : Table) (joining : List ℕ) (queues : List Queue) : Type 0 where
  pub rows : priorities ≤ length queues
  pub fits : (p : ℕ) → p < priorities → let q = row_at queues (ready_queue p) in q.len ≤ length q.marks
  pub stands : (p : ℕ) → p < priorities → members (row_at queues (ready_queue p)) ≡ ready_with t joining p

module _ {n used a : ℕ} {w : ℕ → Bool} {x : Table} (f : Waking n used a w x) where
  rules_rows : priorities ≤ length x.queues
  rules_rows = omega (arith, f.lined.shaped.count)

  rules_fits : (p : ℕ) → p < priorities → let q = queue_at x (ready_queue p) in q.len ≤ length q.marks
  rules_fits p low = (f.lined.holds.row p (omega (arith, rules_rows))).fits

  module _ {q : Queue} (row : RowFacts n w q) (o : Outcome) (good : good_result used o ≡ true)
      (ours : (s : ℕ) → s < n → w s ≡ true → s < used) where
    -- whoever stands at place i joins behind all others of its priority
    next_joins : (p i : ℕ) → i < q.len
        → members (queue_at (woken_up_to x q o (suc i)) (ready_queue p))
        ≡ members (queue_at (woken_up_to x q o i) (ready_queue p)) ++ of_priority x p (place_at q i ∷ [])
    unfolding of_priority
    next_joins p i l =
        let t' = woken_up_to x q o i in
        let m = place_at q i in
        let s = slot_of m in
        let (low, room, joined) = one_joins f row o good ours i l in
        let kept : (task_at t' s).priority ≡ (task_at x s).priority = row_priority x q o i s in
        elim (ℕ_discrete (task_at x s).priority p) [
          | yes e ↦
              let own : (task_at t' s).priority ≡ p = kept ∙ e in
              let inside : p < length t'.queues = omega (arith, (woken_shape x q o i).1, f.lined.shaped.count) in
              rw (eq-eqb (task_at x s).priority p e, joined, own, get_or-set_same t'.queues p (pushed_row (queue_at t' p) m) no_row inside)
              (pushed_members (queue_at t' p) m (rw own at room))
          | no ne ↦
              rw (ne_eqb (task_at x s).priority p ne, joined, get_or-set_other t'.queues _ p _ no_row (λ e. ne (sym kept ∙ sym e)))
              (sym (append-nil _))
        ]

    -- so do all who stand before place i, in their order
    up_to : (p i : ℕ) → i ≤ q.len
        → members (queue_at (woken_up_to x q o i) (ready_queue p)) ≡ members (queue_at x (ready_queue p)) ++ of_priority x p (take i q.marks)
    unfolding woken_up_to of_priority
    up_to p zero h = sym (append-nil _)
    up_to p (suc i) h =
        let inside : i < length q.marks = omega (arith, row.fits) in
        rw (next_joins p i (omega arith), up_to p i (omega arith), take-suc q.marks i 0, of_append, append_assoc)

    -- they join in the order of the row, behind those who are ready already
    pub row_joins : {t : Table} {joining : List ℕ} → SamePriorities x t → InTurn t joining x.queues
        → InTurn t (joining ++ members q) (woken_row x q o).queues
    unfolding ready_with
    row_joins {t} {joining} same now =
        let all : count q ≡ q.len = omega (arith, row.fits) in
        let woke = row_woken f row o good ours in
        record {
          rows = omega (arith, woke.lined.shaped.count);
          fits = λ p low. (woke.lined.holds.row p (omega (arith, woke.lined.shaped.count))).fits;
          stands = λ p low.
              rw (all, up_to p q.len (omega arith), now.stands p low, of_same x t same p (members q), of_append t p joining (members q), append_assoc);
        }

-- a task that stands in no queue is woken alone
pub one_joins_last : {n used a : ℕ} {x : Table} → Rules n used a x → (s : ℕ) → is_free (task_at x s).state ≡ true → (o : Outcome) → good_result used o ≡ true
    → {t : Table} {joining : List ℕ} → SamePriorities x t → InTurn t joining x.queues
    → InTurn t (joining ++ mark_of s ∷ []) (woken x (mark_of s) o).queues
unfolding woken_up_to pushed_row
one_joins_last {n} {used} {x = x} f s task_free o good =
    let l : s < used = slot_used f (free n (task_at x s) task_free).in_use in
    row_joins (waking_one f s task_free) (alone_row_lem n s (omega (arith, f.tasks.fits))) o good (λ j _ e. omega (arith, eqb-true j s e))

-- A queue that is no ready queue is woken whole.
module _ {n used a : ℕ} {t : Table} (f : Rules n used a t) (k : ℕ) (other : priorities ≤ k) (l : k < queues_for n)
    (o : Outcome) (good : good_result used o ≡ true) where
  abbrev left : Table
  left = with_queue t k (emptied (queue_at t k))

  gone : Waking n used a (λ s. eqb (standing n (task_at t s)) k) left
  gone = vacated_kept f k l

  row : RowFacts n (λ s. eqb (standing n (task_at t s)) k) (queue_at t k)
  row = f.lined.holds.row k (omega (arith, f.lined.shaped.count))

  pub queue_woken : Rules n used a (woken_row left (queue_at t k) o)
  queue_woken = row_woken gone row o good (standers_used f k l)

  -- who stands in no queue is as before
  pub queue_aside : (s : ℕ) → is_free (task_at t s).state ≡ true → task_at (woken_row left (queue_at t k) o) s ≡ task_at t s
  queue_aside s task_free = others_woken gone row o s (rw (free n (task_at t s) task_free).nowhere (ne_eqb (queues_for n) k (omega arith)))

  pub queue_priority : SamePriorities (woken_row left (queue_at t k) o) t
  queue_priority = row_priority left (queue_at t k) o (count (queue_at t k))

  none_joined : InTurn t [] left.queues
  unfolding ready_with of_priority
  none_joined =
      record {
        rows = rules_rows gone;
        fits = rules_fits gone;
        stands = λ p low. rw (get_or-set_other t.queues k p (emptied (queue_at t k)) no_row (λ e. omega arith)) (sym (append-nil _));
      }

  pub queue_joins : InTurn t (members (queue_at t k)) (woken_row left (queue_at t k) o).queues
  queue_joins = row_joins gone row o good (standers_used f k l) (λ s. refl) none_joined

-- THE NEXT TASK IS CHOSEN

module _ {t : Table} {joining : List ℕ} (x : Table) (now : InTurn t joining x.queues) where
  -- the first queue that is not empty is the same
  same_first : first_ready x ≡ first_with t joining
  unfolding first_ready
  same_first =
      first_equal priorities _ _ (λ p low. ap (ltb 0) (sym (length-take-le _ _ (now.fits p low)) ∙ ap length (now.stands p low)))

  pub takes_turns : (e : Effect) → TakesTurns t joining (dispatched e x)
  unfolding dispatched first_ready activated
  takes_turns e =
      let p = first_ready x in
      let q = queue_at x (ready_queue p) in
      let first = first_below_lem priorities (λ p. ltb 0 (queue_at x (ready_queue p)).len) in
      chosen (TakesTurns t joining) (ltb p priorities)
      (λ found.
      let low : p < priorities = ltb-true p priorities found in
      let same = now.stands p low in
      record {
        next = rw (← same_first, found, ← same, get_or-take q.len q.marks 0 0 (ltb-true 0 q.len (first.passes low)));
        ready = λ k near. elim (ℕ_discrete k p) [
          | yes e ↦
              rw (e, ← same_first, eq-eqb p p refl, get_or-set_same x.queues p (popped_row q) no_row (omega (arith, now.rows)), popped_members q (now.fits p low))
              (ap (drop 1) same)
          | no ne ↦ rw (← same_first, ne_eqb k p ne, get_or-set_other x.queues p k (popped_row q) no_row ne) (now.stands k near)
        ];
      })
      (λ none.
      record {
        next = rw (← same_first, none);
        ready = λ k near. rw (← same_first, ne_eqb k p (λ e. omega (arith, ltb-false p priorities none))) (now.stands k near);
      })
