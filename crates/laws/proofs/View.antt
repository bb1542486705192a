-- The end of an entry as one task sees it: what those who are woken, the caller that joins again and the choice of the next task make of the
-- record of a slot.
use Prim.Native.Nat.{ℕ, zero, suc, ◌≤◌, ◌<◌}
use mathlib.Core.Path.{◌≡◌, refl, sym, ap, ◌∙◌}
use mathlib.Core.Logic.{◌≢◌}
use mathlib.Core.Bool.{Bool, true}
use native.Mathlib.Omega.{arith}
use native.Mathlib.Decide.{ℕ_discrete, dec_lt}
use lib.ListN.{length}
use lib.Seq.{get_or-set_same, get_or-set_other, set_out}
use lib.Dec.{ltb}
use borrow.Author.Tests.{ltb-true, lt-ltb}
use Rattle.queue.specs.declared.Queue.{Queue}
use Rattle.queue.specs.Choose.{choose}
use Rattle.queue.specs.Numbering.{ready_queue}
use Rattle.queue.specs.Row.{place_at, pushed_row, count}
use Rattle.queue.specs.Rows.{no_row}
use Rattle.queue.specs.Facts.{RowFacts}
use Rattle.queue.proofs.Below.{by_test, first_below_lem}
use Rattle.tid.specs.Sizes.{priorities}
use Rattle.tid.specs.Tid.{mark_of, slot_of, tid_of, slot_named}
use Rattle.tid.proofs.Trips.{slot_of_mark}
use Rattle.task.specs.declared.task.Outcome.{Outcome}
use Rattle.task.specs.declared.task.Outcome.TheVariants.{Nothing}
use Rattle.task.specs.declared.task.State.{State}
use Rattle.task.specs.declared.task.State.TheVariants.{Ready}
use Rattle.task.specs.declared.task.Task.{Task}
use Rattle.task.specs.Task.{no_task, is_ready, task_as}
use Rattle.task.proofs.Tests.{chosen, clash}
use Rattle.kernel.specs.declared.table.Table.{Table}
use Rattle.kernel.specs.declared.table.Effect.{Effect}
use Rattle.kernel.specs.declared.table.Decision.{Decision}
use Rattle.kernel.specs.Table.{slots, task_at, queue_at}
use Rattle.kernel.specs.Moves.{left_as, queued, joined, woken, woken_up_to, woken_row, rejoined, first_ready, activated, dispatched}
use Rattle.kernel.proofs.Waking.{woken_shape}
use Rattle.kept.proofs.Moves.{woken_other}
use Rattle.laws.specs.View.{Ends, runs, waits}
use Rattle.kept.proofs.Choices.{through, choose_same}
use Rattle.laws.proofs.Lists.{at_set}

-- WHO STANDS AT THE HEADS OF THE READY QUEUES

-- P holds of the head of each ready queue that is not empty
abbrev pub Heads : (ℕ → Type 0) → Table → Type 0
Heads P t = (p : ℕ) → p < priorities → 0 < (queue_at t (ready_queue p)).len → P (place_at (queue_at t (ready_queue p)) 0)

module _ (P : ℕ → Type 0) where
  head_pushed : (q : Queue) (mark : ℕ) → (0 < q.len → P (place_at q 0)) → P mark → 0 < (pushed_row q mark).len → P (place_at (pushed_row q mark) 0)
  unfolding pushed_row
  head_pushed q mark old new =
      chosen (λ (r : Queue). 0 < r.len → P (place_at r 0)) (ltb q.len (length q.marks))
      (λ room _. elim (ℕ_discrete q.len 0) [
        | yes none ↦ rw (none, get_or-set_same q.marks 0 mark 0 (omega (arith, ltb-true q.len (length q.marks) room))) new
        | no some ↦ rw (get_or-set_other q.marks q.len 0 mark 0 (λ e. omega arith)) (old (omega arith))
      ])
      (λ _. old)

  heads_queued : (t : Table) (k mark : ℕ) → Heads P t → P mark → Heads P (queued t k mark)
  unfolding queued
  heads_queued t k mark old new p low =
      let q = pushed_row (queue_at t k) mark in
      elim (dec_lt k (length t.queues)) [
        | yes fits ↦ elim (ℕ_discrete (ready_queue p) k) [
          | yes here ↦ rw (here, get_or-set_same t.queues k q no_row fits) (head_pushed (queue_at t k) mark (rw here at (old p low)) new)
          | no other ↦ rw (get_or-set_other t.queues k (ready_queue p) q no_row other) (old p low)
        ]
        | no past ↦ let out : length t.queues ≤ k = omega arith in rw (set_out t.queues k q out) (old p low)
      ]

  heads_up_to : (t : Table) (q : Queue) (o : Outcome) → Heads P t → ((p : ℕ) → p < count q → P (place_at q p))
      → (i : ℕ) → i ≤ count q → Heads P (woken_up_to t q o i)
  unfolding woken_up_to woken joined
  heads_up_to t q o old new zero h = old
  heads_up_to t q o old new (suc i) h =
      heads_queued (left_as (woken_up_to t q o i) (slot_of (place_at q i)) Ready o) _ (place_at q i)
      (heads_up_to t q o old new i (omega arith)) (new i (omega arith))

  pub heads_woken : (t : Table) (q : Queue) (o : Outcome) → Heads P t → ((p : ℕ) → p < count q → P (place_at q p)) → Heads P (woken_row t q o)
  heads_woken t q o old new = heads_up_to t q o old new (count q) (omega arith)

  pub heads_rejoined : (t : Table) (c : ℕ) (st : State) (o : Outcome) → Heads P t → (c < slots t → is_ready st ≡ true → P (mark_of c))
      → Heads P (rejoined t c st o)
  unfolding rejoined joined
  heads_rejoined t c st o old new =
      chosen (Heads P) (ltb c (slots t))
      (λ here. chosen (Heads P) (is_ready st)
      (λ ready. heads_queued (left_as t c st o) _ (mark_of c) old (new (ltb-true c (slots t) here) ready))
      (λ _. old))
      (λ _. old)

-- WHAT BECOMES OF THE RECORD OF SLOT s

woken_here : (t : Table) (mark : ℕ) (o : Outcome) → slot_of mark < slots t → task_at (woken t mark o) (slot_of mark) ≡ task_as Ready o (task_at t (slot_of mark))
unfolding woken joined queued
woken_here t mark o h = get_or-set_same t.tasks (slot_of mark) _ no_task h

-- it stands in the row that is woken, or it does not
module _ (t : Table) (q : Queue) (o : Outcome) (s : ℕ) where
  row_out : ((p : ℕ) → p < count q → slot_of (place_at q p) ≢ s) → (i : ℕ) → i ≤ count q → task_at (woken_up_to t q o i) s ≡ task_at t s
  unfolding woken_up_to
  row_out out zero h = refl
  row_out out (suc i) h =
      woken_other (woken_up_to t q o i) (place_at q i) o (λ e. out i (omega arith) (sym e)) ∙ row_out out i (omega arith)

  module _ (below : s < slots t) where
    -- one who is woken keeps its priority, its parent and its entry number
    woken_as : (i : ℕ) → task_as Ready o (task_at (woken_up_to t q o i) s) ≡ task_as Ready o (task_at t s)
    unfolding woken_up_to
    woken_as zero = refl
    woken_as (suc i) =
        let t' = woken_up_to t q o i in
        elim (ℕ_discrete (slot_of (place_at q i)) s) [
          | yes same ↦ ap (task_as Ready o) (rw same at (woken_here t' (place_at q i) o (omega (arith, (woken_shape t q o i).0)))) ∙ woken_as i
          | no other ↦ ap (task_as Ready o) (woken_other t' (place_at q i) o (λ e. other (sym e))) ∙ woken_as i
        ]

    row_in : (p : ℕ) → slot_of (place_at q p) ≡ s → (i : ℕ) → p < i → task_at (woken_up_to t q o i) s ≡ task_as Ready o (task_at t s)
    unfolding woken_up_to
    row_in p stands zero h = absurd (omega arith)
    row_in p stands (suc i) h =
        let t' = woken_up_to t q o i in
        elim (ℕ_discrete (slot_of (place_at q i)) s) [
          | yes same ↦ (rw same at (woken_here t' (place_at q i) o (omega (arith, (woken_shape t q o i).0)))) ∙ woken_as i
          | no other ↦
              let before : p ≢ i = λ e. other (ap (λ (p : ℕ). slot_of (place_at q p)) (sym e) ∙ stands) in
              woken_other t' (place_at q i) o (λ e. other (sym e)) ∙ row_in p stands i (omega arith)
        ]

-- whoever belongs in the row is woken, and nobody else
pub row_seen : {n : ℕ} {w : ℕ → Bool} {q : Queue} (t : Table) (o : Outcome) (s : ℕ) → RowFacts n w q → slots t ≡ n → s < n
    → task_at (woken_row t q o) s ≡ choose (w s) (task_as Ready o (task_at t s)) (task_at t s)
row_seen {n} {w} {q} t o s row size below =
    by_test (w s)
    (λ own.
    let (p, l, e) = row.found s below own in
    rw own (row_in t q o s (omega arith) p (omega arith) (count q) (omega (arith, row.fits))))
    (λ none.
    rw none (row_out t q o s (λ p h e. clash (row.belongs p (omega (arith, row.fits))) (ap w e ∙ none)) (count q) (omega arith)))

pub rejoined_here : (t : Table) (c : ℕ) (st : State) (o : Outcome) → c < slots t → task_at (rejoined t c st o) c ≡ task_as st o (task_at t c)
unfolding rejoined joined queued
rejoined_here t c st o h =
    rw (lt-ltb c (slots t) h)
    (through (λ (t : Table). task_at t c) (is_ready st) _ _ ∙ choose_same (is_ready st) _ ∙ get_or-set_same t.tasks c _ no_task h)

pub rejoined_other : (t : Table) (c : ℕ) (st : State) (o : Outcome) (s : ℕ) → s ≢ c → task_at (rejoined t c st o) s ≡ task_at t s
unfolding rejoined joined queued
rejoined_other t c st o s other =
    chosen (λ (t' : Table). task_at t' s ≡ task_at t s) (ltb c (slots t))
    (λ _. through (λ (t : Table). task_at t s) (is_ready st) _ _ ∙ choose_same (is_ready st) _ ∙ get_or-set_other t.tasks c s _ no_task other)
    (λ _. refl)

-- THE CHOICE OF THE NEXT TASK

-- a mark of a task that is ready
abbrev pub IsReady : Table → ℕ → Type 0
IsReady t mark = (task_at t (slot_of mark)).state ≡ Ready

pub dispatch_seen : (s : ℕ) (e : Effect) (t : Table) → s < slots t → Heads (IsReady t) t → Ends s (task_at t s) (dispatched e t)
unfolding dispatched first_ready activated
dispatch_seen s e t here ready =
    let p = first_ready t in
    let head = slot_of (place_at (queue_at t (ready_queue p)) 0) in
    let first = first_below_lem priorities (λ p. ltb 0 (queue_at t (ready_queue p)).len) in
    chosen (Ends s (task_at t s)) (ltb p priorities)
    (λ found.
    let low = ltb-true p priorities found in
    elim (ℕ_discrete head s) [
      | yes mine ↦
          runs (rw mine at (ready p low (ltb-true 0 _ (first.passes low)))) (ap tid_of mine) (ap (λ (k : ℕ). (task_at t k).result) mine)
          (rw mine (get_or-set_same t.tasks s _ no_task here))
      | no other ↦ waits (λ e. other (omega arith)) (get_or-set_other t.tasks head s _ no_task (λ e. other (sym e)))
    ])
    (λ _. waits (λ e. omega arith) refl)

-- P holds of what each task holds after a step, and of what the task that runs next is told
pub record AllTold (P : ℕ → Outcome → Type 0) (d : Decision) : Type 0 where
  pub held : (s : ℕ) → P s (task_at d.table s).result
  pub shown : P (slot_named d.answer.next) d.answer.result

-- who runs next is told what it held, and holds nothing any more
pub dispatch_tells : (P : ℕ → Outcome → Type 0) → ((s : ℕ) → P s Nothing) → (e : Effect) (t : Table) → ((s : ℕ) → P s (task_at t s).result)
    → AllTold P (dispatched e t)
unfolding dispatched activated
dispatch_tells P none e t all =
    let p = first_ready t in
    let head = slot_of (place_at (queue_at t (ready_queue p)) 0) in
    chosen (AllTold P) (ltb p priorities)
    (λ _.
    record {
      held = λ s. at_set (λ (x : Task). P s x.result) t.tasks head s _ no_task (none s) (all s);
      shown = rw slot_of_mark (all head);
    })
    (λ _. record { held = all; shown = none _ })
