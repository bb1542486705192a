use Rattle.std.proofs.Common.{◌≡◌, ◌+◌, ◌<◌, ◌≤◌, ◌∷◌, ◌++◌, [], length, get_or, take, add-one, refl, sym, ◌∙◌, arith, length-take, take-suc, take_all}
use Rattle.clock.specs.Row.{room, picked, sleeper, asleep}
use Rattle.clock.proofs.Sorted.{sorted_due, sorted_kept, sorted_all}
use Rattle.clock.proofs.clock.Clock.ticked.Goals as goal
use Rattle.clock.proofs.clock.Clock.ticked.Goals.{then-is_due, else-is_due}

pub loop-x-init : goal.loop-x-init
unfolding picked
loop-x-init c = record { kept = c.empty-row.ensures; heard = c.one-to.ensures }

pub loop-x-preserved : goal.loop-x-preserved
loop-x-preserved c =
    let xs = c.asleep-x-items.result.now in
    let i = c.loop-x.x-index in
    let here : i < length xs = omega arith in
    let most : length xs ≤ room = rw (c.asleep-x-items.ensures, length-take) (omega arith) in
    let fewer : length (take i xs) < room = simp length-take (omega arith) in
    let next : take (i + 1) xs ≡ take i xs ++ (get_or xs i (sleeper 0 0) ∷ []) = rw add-one (take-suc xs i (sleeper 0 0) here) in
    let x = get_or xs i (sleeper 0 0) in
    rw next
    (elim c.if-is_due.branch [
      | then-is_due w ↦
          rw (w.row-is, w.to-is, w.push.ensures) (sorted_due x fewer (sym c.is_due.ensures ∙ w.if-is_due.true) c.loop-x.invariant)
      | else-is_due w ↦
          rw (w.to-is, w.row-is, w.push-else-is_due.ensures) (sorted_kept x fewer (sym c.is_due.ensures ∙ w.if-is_due.false) c.loop-x.invariant)
    ])

pub returns : goal.returns
returns c =
    let clock = c.args.self.now in
    let xs = c.asleep-x-items.result.now in
    let i = c.loop-x.x-index in
    let all : take i xs ≡ asleep clock.row = take_all i xs (omega arith) ∙ c.asleep-x-items.ensures in
    sorted_all clock _ refl (rw (← all) c.loop-x.invariant)
