use Rattle.std.proofs.Common.{◌<◌, arith}
use borrow.Author.Tests.{lt-leb}
use Rattle.clock.specs.declared.clock.Said.TheVariants.{Count}
use Rattle.clock.specs.Row.{room}
use Rattle.clock.specs.Clock.{waits, sleeps}
use Rattle.clock.proofs.clock.Clock.waits.Goals as goal

-- by which number a row is full, so that another number of places falls here
pub returns : goal.returns
unfolding waits sleeps
returns c =
    let clock = c.args.self.now in
    let free : clock.row.len < room = omega arith in
    rw (← c.is_due.ensures, c.if-is_due.false, lt-leb _ _ free)
    (λ i. record {
      clock = record { notifier = clock.notifier; count = clock.count; row = c.push.ensures i };
      said = Count clock.count;
      to = c.none.ensures i;
    })
