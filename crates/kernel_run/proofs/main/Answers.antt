-- `main`: a fresh kernel of an edition, priority 16 and entry number 0, with areas of zeros, is where the run of no input stands.
use Rattle.std.proofs.Common.{◌≡◌, true, []}
use Rattle.kernel.specs.Edition.{is_edition}
use Rattle.lines.proofs.Printed.{reached_none}
use Rattle.kernel_run.proofs.main.Goals as goal

pub run-requires : goal.run-requires
run-requires c =
    let known : is_edition c.in-Some.edition ≡ true = rw c.in-Some.is at c.edition_asked.ensures in
    rw c.fresh_block.ensures ([], reached_none c.in-Some.edition known)
