-- `inplace::end::settled` meets its contract: way by way, what is dispatched are the bytes at the end of the entry.
use Rattle.std.proofs.Common.{◌≡◌, sym, ◌∙◌, lt-ltb, le-ltb, eq-eqb, ne_eqb}
use Rattle.tid.specs.Sizes.{slot_count}
use Rattle.image.specs.Image.{table_of}
use Rattle.inplace.specs.Ends.{woken_bytes, woken_count, end_bytes, end_count}
use Rattle.inplace.proofs.Dispatched.{dispatched_does}
use Rattle.inplace.proofs.end.settled.Goals as goal
use Rattle.inplace.proofs.end.settled.Goals.{Joined-woken-lt-SLOTS, then-woken-lt-SLOTS, else-woken-lt-SLOTS}
use Rattle.inplace.proofs.end.settled.Goals.{Joined-c-lt-SLOTS, then-c-lt-SLOTS+then-state_code-eq-READY, then-c-lt-SLOTS+else-state_code-eq-READY, else-c-lt-SLOTS}

-- the bytes and the counts once whoever is woken has joined
woke : (c : Joined-woken-lt-SLOTS) →
    (c.if-woken-lt-SLOTS.image ≡ woken_bytes slot_count c.args.image.now c.args.count.now c.args.turn)
    × (c.if-woken-lt-SLOTS.count ≡ woken_count slot_count c.args.image.now c.args.count.now c.args.turn)
woke c = elim c.if-woken-lt-SLOTS.branch [
  | then-woken-lt-SLOTS w ↦ rw (lt-ltb _ _ w.if-woken-lt-SLOTS.true) (w.image-is ∙ w.join.ensures.image, w.count-is ∙ w.join.ensures.count)
  | else-woken-lt-SLOTS w ↦ rw (le-ltb _ _ w.if-woken-lt-SLOTS.false) (w.image-is, w.count-is)
]

-- then those once the caller has joined too, or was left
ended : (c : Joined-c-lt-SLOTS) →
    (c.if-c-lt-SLOTS.image ≡ end_bytes slot_count c.args.image.now c.args.count.now c.args.caller.slot c.args.turn)
    × (c.if-c-lt-SLOTS.count ≡ end_count slot_count c.args.image.now c.args.count.now c.args.caller.slot c.args.turn)
unfolding end_bytes end_count
ended c =
    let first = woke (goal.at.Joined-c-lt-SLOTS c).Joined-woken-lt-SLOTS in
    rw (← first.0, ← first.1)
    (elim c.if-c-lt-SLOTS.branch [
      | then-c-lt-SLOTS+then-state_code-eq-READY w ↦
          rw (lt-ltb _ slot_count w.if-c-lt-SLOTS.true, eq-eqb _ 2 (sym w.state_code.ensures ∙ w.if-state_code-eq-READY.true))
          (w.image-is ∙ w.join-then-state_code-eq-READY.ensures.image, w.count-is ∙ w.join-then-state_code-eq-READY.ensures.count)
      | then-c-lt-SLOTS+else-state_code-eq-READY w ↦
          rw (lt-ltb _ slot_count w.if-c-lt-SLOTS.true, ne_eqb _ 2 (λ e. w.if-state_code-eq-READY.false (w.state_code.ensures ∙ e)))
          (w.image-is ∙ w.leave.ensures, w.count-is)
      | else-c-lt-SLOTS w ↦ rw (le-ltb _ slot_count w.if-c-lt-SLOTS.false) (w.image-is, w.count-is)
    ])

pub dispatch-answer-requires : goal.dispatch-answer-requires
dispatch-answer-requires c =
    let last = ended (goal.at.dispatch-answer-requires c).Joined-c-lt-SLOTS in
    rw (last.0, last.1) c.requires.stage

pub returns : goal.returns
returns c =
    let a = c.args in
    dispatched_does (table_of slot_count a.caller.edition (end_bytes slot_count a.image.now a.count.now a.caller.slot a.turn)) a.turn.effect
    (rw (ended (goal.at.returns c).Joined-c-lt-SLOTS).0 at c.dispatch-answer.ensures)
