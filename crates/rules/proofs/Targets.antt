-- Where each queue holds whom it is to hold, `good_receivers` and `good_targets` say that no sender is queued at a quiet task.
use Prim.Native.Nat.{ℕ, ◌<◌}
use mathlib.Core.Path.{◌≡◌, refl, ap}
use mathlib.Core.Logic.{⊎_elim}
use mathlib.Core.Bool.{Bool, true, false, not, ◌||◌, ◌&&◌, true≢false, or-true}
use native.Mathlib.Decide.{dec_lt}
use native.Mathlib.Omega.{arith}
use lib.ListN.{length}
use lib.Dec.{eqb, ltb}
use borrow.Author.Tests.{eqb-true, eq-eqb, ne_eqb, ltb-true, lt-ltb}
use Rattle.tid.specs.Sizes.{events}
use Rattle.tid.specs.Tid.{slot_of, slot_named}
use Rattle.queue.specs.Choose.{all_below}
use Rattle.queue.specs.Numbering.{send_queue, queues_for}
use Rattle.queue.specs.Row.{place_at}
use Rattle.queue.specs.Facts.{RowsFacts}
use Rattle.queue.proofs.Below.{by_test, both_true, true_both, same_test, all_below_lem, below_all}
use Rattle.task.specs.declared.task.State.{State}
use Rattle.task.specs.declared.task.State.TheVariants.{Unused, Active, Ready, SendBlocked, ReceiveBlocked, ReplyBlocked, EventBlocked, Exited}
use Rattle.task.specs.Standing.{queue_of}
use Rattle.task.specs.Task.{state_code, awaited, is_used, is_alive, is_send_blocked, is_receive_blocked, is_exited, is_quiet}
use Rattle.task.proofs.Stands.{stands_in, stands_used}
use Rattle.task.proofs.Tests.{clash, implied, implies}
use Rattle.kernel.specs.declared.table.Table.{Table}
use Rattle.kernel.specs.Edition.{is_edition}
use Rattle.kernel.specs.Table.{slots, task_at, queue_at, used_slots}
use Rattle.kernel.specs.Kinds.{alive}
use Rattle.rules.specs.Good.{good_tasks, good_active, good_queues, good_receivers, good_targets, good_table}
use Rattle.rules.specs.Facts.{standing, TasksFacts, Quiet}
use Rattle.rules.proofs.States.{state_facts}

-- who is used and has not exited exists
lives : (x : State) → is_used x ≡ true → is_exited x ≡ false → is_alive x ≡ true
lives Unused used stays = used
lives Active used stays = refl
lives Ready used stays = refl
lives (SendBlocked b) used stays = refl
lives (ReceiveBlocked g m r) used stays = refl
lives (ReplyBlocked r) used stays = refl
lives (EventBlocked e) used stays = refl
lives Exited used stays = absurd (true≢false stays)

exited_gone : (x : State) → is_exited x ≡ true → is_alive x ≡ true → ⊥
exited_gone x gone here = absurd (omega (arith, eqb-true (state_code x) 7 gone, ltb-true (state_code x) 7 (both_true (ltb 0 (state_code x)) _ here).1))

-- no slot has a queued sender if its task is quiet
abbrev pub all_quiet : Table → Bool
all_quiet t = all_below (slots t) (λ s. not (is_quiet (task_at t s).state) || eqb (queue_at t (send_queue s)).len 0)

module _ {n used a : ℕ} (t : Table) (f : TasksFacts n used a (task_at t)) where
  pub used_slot : (s : ℕ) → is_used (task_at t s).state ≡ true → s < used
  used_slot s e =
      elim (dec_lt s used) [
        | yes l ↦ l
        | no ge ↦ clash e (ap (λ x. is_used x.state) (f.unused s (omega arith)))
      ]

  -- who stands in a send queue sends to its slot
  pub sender : (s j : ℕ) → s < n → standing n (task_at t j) ≡ send_queue s
      → (state_code (task_at t j).state ≡ 4) × (slot_named (awaited (task_at t j).state) ≡ s)
  sender s j h e =
      let x = task_at t j in
      let old = f.each j (used_slot j (stands_used (queues_for n) x e (omega arith))) in
      ⊎_elim (λ r. absurd (omega (arith, old.priority)))
      (⊎_elim (λ q. (q.0, omega (arith, q.1)))
      (λ v. absurd (omega (arith, v.1, ltb-true (awaited x.state) events ((state_facts used j x.state old.state).event (eq-eqb _ 6 v.0))))))
      (stands_in (queues_for n) x e (omega arith))

module _ {a : ℕ} (t : Table) (f : TasksFacts (slots t) (used_slots t) a (task_at t))
    (rows : RowsFacts (slots t) t.queues (λ s. standing (slots t) (task_at t s))) (count : length t.queues ≡ queues_for (slots t)) where
  abbrev n : ℕ
  n = slots t

  pub quiet_facts : good_receivers t ≡ true → good_targets t ≡ true → (s : ℕ) → Quiet n t.queues s (task_at t s)
  unfolding good_receivers good_targets
  quiet_facts receivers targets s l quiet =
      by_test (is_send_blocked (task_at t s).state)
      (λ waits. eqb-true _ 0 (implied _ _ (all_below_lem n _ receivers s l) waits))
      (λ busy.
      let q = queue_at t (send_queue s) in
      let j = slot_of (place_at q 0) in
      let row = rows.row (send_queue s) (omega (arith, count)) in
      elim (dec_lt 0 q.len) [
        | yes some ↦
            let (code, named) = sender t f s j l (eqb-true _ _ (row.belongs 0 some)) in
            let here = implied _ _ (all_below_lem n _ targets j (omega (arith, row.mark 0 some))) (eq-eqb _ 4 code) in
            let alive-one : is_alive (task_at t s).state ≡ true = rw named at (both_true (ltb 0 (awaited (task_at t j).state)) _ here).1 in
            absurd (exited_gone (task_at t s).state (rw busy at quiet) alive-one)
        | no none ↦ omega arith
      ])

  pub receivers_test : ((s : ℕ) → Quiet n t.queues s (task_at t s)) → good_receivers t ≡ true
  unfolding good_receivers
  receivers_test quiet = below_all n _ (λ s l. implies (is_send_blocked (task_at t s).state) _ (λ e. eq-eqb _ 0 (quiet s l (rw e))))

  pub targets_test : ((s : ℕ) → Quiet n t.queues s (task_at t s)) → good_targets t ≡ true
  unfolding good_targets queue_of
  targets_test quiet =
      below_all n _
      (λ j l. implies (is_receive_blocked (task_at t j).state) (alive t (awaited (task_at t j).state)) (λ e.
      let x = task_at t j in
      let g = awaited x.state in
      let s = slot_named g in
      let code = eqb-true (state_code x.state) 4 e in
      let (some, near, other) = (state_facts (used_slots t) j x.state (f.each j (used_slot t f j (rw code))).state).target e in
      let in_use = (f.each s (omega arith)).in_use in
      let row = rows.row (send_queue s) (omega (arith, count, f.fits)) in
      let stands : standing n x ≡ send_queue s = rw (ne_eqb (state_code x.state) 2 (omega (arith, code)), e) in
      true_both (lt-ltb 0 g (omega arith))
      (by_test (is_exited (task_at t s).state)
      (λ gone.
      let (p, inside, holds) = row.found j l (eq-eqb (standing n x) (send_queue s) stands) in
      let none : (queue_at t (send_queue s)).len ≡ 0 = quiet s (omega (arith, f.fits)) (rw gone (or-true (is_send_blocked (task_at t s).state))) in
      absurd (omega (arith, inside)))
      (λ stays. lives (task_at t s).state in_use stays))))

  -- what the check asks of each slot is what the rules ask of all
  pub quiet_targets : all_quiet t ≡ (good_receivers t && good_targets t)
  quiet_targets =
      same_test
      (λ e.
      let quiet : (s : ℕ) → Quiet n t.queues s (task_at t s) = λ s l q. eqb-true _ 0 (implied _ _ (all_below_lem n _ e s l) q) in
      true_both (receivers_test quiet) (targets_test quiet))
      (λ e.
      let (receivers, targets) = both_true (good_receivers t) _ e in
      below_all n _ (λ s l. implies _ _ (λ q. eq-eqb _ 0 (quiet_facts receivers targets s l q))))

-- the target of whoever is receive-blocked in a good table exists
pub target_lives : (t : Table) → good_table t ≡ true → (s : ℕ) → s < slots t → is_receive_blocked (task_at t s).state ≡ true
    → alive t (awaited (task_at t s).state) ≡ true
unfolding good_table good_targets
target_lives t h s l blocked =
    let others = is_edition t.edition && good_tasks t && good_active t && good_queues t && good_receivers t in
    let targets = (both_true others _ (both_true (others && good_targets t) _ h).0).1 in
    implied _ _ (all_below_lem (slots t) _ targets s l) blocked
