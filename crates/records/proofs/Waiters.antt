-- In an image no two tasks wait for one event at the same place, and where one waits, no two wait for it at all.
use Prim.Native.Nat.{ℕ, ◌<◌}
use mathlib.Core.Path.{◌≡◌, sym, ap, ◌∙◌}
use mathlib.Core.Logic.{◌≢◌}
use mathlib.Core.Bool.{true}
use mathlib.Core.List.{List}
use native.Mathlib.Decide.{ℕ_discrete}
use native.Mathlib.Omega.{arith}
use borrow.Author.Tests.{eq-eqb, ne_eqb, ltb-true, leb-true}
use Rattle.tid.specs.Sizes.{events}
use Rattle.tid.specs.Tid.{mark_of}
use Rattle.queue.specs.Numbering.{event_queue}
use Rattle.queue.specs.Row.{place_at}
use Rattle.queue.proofs.Facts.{slot_place}
use Rattle.task.specs.Task.{awaited}
use Rattle.task.specs.Standing.{queue_of}
use Rattle.kernel.specs.declared.table.Table.{Table}
use Rattle.kernel.specs.Edition.{many_wait}
use Rattle.kernel.specs.Table.{task_at, queue_at, used_slots, active_slot}
use Rattle.rules.specs.Facts.{standing, Rules}
use Rattle.rules.proofs.States.{state_facts}
use Rattle.kept.proofs.Moves.{slot_used}
use Rattle.kept.proofs.Tasks.{code_at}
use Rattle.image.specs.Record.{at_state, at_place, at_awaited, record_of, byte_at}
use Rattle.image.specs.Image.{table_of, is_image}
use Rattle.image.proofs.Laws.{write_back, edition_read}
use Rattle.image.proofs.Stands.{stored_in}
use Rattle.records.specs.Records.{Records}
use Rattle.records.proofs.Images.{read_records}
use Rattle.records.proofs.Tasks.{code_told, awaited_told}
use Rattle.records.proofs.Told.{waiter_told}
use Rattle.records.proofs.Heads.{place_told}

module _ (n ed : ℕ) (b : List ℕ) (image : is_image n ed b ≡ true) where
  abbrev t : Table
  t = table_of n ed b

  rules : Rules n (used_slots t) (active_slot t) t
  rules = (write_back n ed image).0.rules

  records : Records n (record_of t) b
  records = read_records n ed b image

  -- Slot s waits for an event.
  module _ (s : ℕ) (l : s < n) (six : byte_at b s at_state ≡ 6) where
    code : code_at t s ≡ 6
    code = sym (code_told rules records s l) ∙ six

    event : byte_at b s at_awaited < events
    event =
        let x = (task_at t s).state in
        let good = (rules.tasks.each s (slot_used rules (rw code))).state in
        rw (awaited_told rules records s l) (ltb-true (awaited x) events ((state_facts (used_slots t) s x good).event (eq-eqb (code_at t s) 6 code)))

    -- its place is the one where it stands in the event's queue
    place : let q = queue_at t (event_queue (byte_at b s at_awaited)) in (byte_at b s at_place < q.len) × (place_at q (byte_at b s at_place) ≡ mark_of s)
    unfolding queue_of
    place =
        let e = byte_at b s at_awaited in
        let k = event_queue e in
        let own : standing n (task_at t s) ≡ k = rw (awaited_told rules records s l, code) in
        let at = place_told (waiter_told rules e event) b s l (records.each s l) ∙ stored_in n t s rules.size own (omega (arith, event)) in
        let row = rules.lined.holds.row k (omega (arith, event, rules.lined.shaped.count)) in
        rw at (slot_place row s l (eq-eqb (standing n (task_at t s)) k own))

  pub waiters_apart_in : (s s' : ℕ) → s < n → s' < n → byte_at b s at_state ≡ 6 → byte_at b s' at_state ≡ 6
      → byte_at b s at_awaited ≡ byte_at b s' at_awaited → s ≢ s' → (byte_at b s at_place ≢ byte_at b s' at_place) × (ed ≡ many_wait)
  waiters_apart_in s s' l l' six six' same other =
      let e = byte_at b s' at_awaited in
      let q = queue_at t (event_queue e) in
      let (low, here) = rw same at (place s l six) in
      let (low', here') = place s' l' six' in
      let apart : byte_at b s at_place ≢ byte_at b s' at_place = λ at. other (omega (arith, sym here ∙ ap (place_at q) at ∙ here')) in
      let fits = rw (edition_read n ed b n) at (rules.waiters e (event s' l' six')) in (
        apart,
        elim (ℕ_discrete ed many_wait) [
          | yes many ↦ many
          | no one ↦ absurd (apart (omega (arith, leb-true q.len 1 (rw (ne_eqb ed many_wait one) at fits))))
        ],
      )
