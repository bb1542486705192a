-- `audit::places::all_judged` meets its contract. The loop's invariant: the slots before s passed, and their places are taken.
use Rattle.tid.specs.Sizes.{slot_count}
use Rattle.audit.proofs.Passed.{Passed}
use Rattle.audit.proofs.places.all_judged.Given as goal

abbrev pub invariant-loop-s : goal.invariant-loop-s
invariant-loop-s l = Passed slot_count l.edition l.image l.used l.active l.count l.base l.taken l.given l.s
