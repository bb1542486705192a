-- `audit::survey::surveyed` meets its contract. The loop's invariant: the records before s were passed. The measure is what is left of
-- them.
use Rattle.std.proofs.Common.{◌≡◌}
use Rattle.tid.specs.Sizes.{slot_count}
use Rattle.audit.proofs.Seen.{Passed}
use Rattle.audit.proofs.survey.surveyed.Given as goal

abbrev pub invariant-loop-s : goal.invariant-loop-s
invariant-loop-s l = (l.used ≡ slot_count) × Passed slot_count l.image l.count l.active l.s
