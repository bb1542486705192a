-- `turned`: what is left are the entries that are done here; the others promise it themselves.
use Rattle.std.proofs.Common.{◌<◌, arith}
use Rattle.tid.specs.Sizes.{slot_count}
use Rattle.tid.proofs.Byte.{in_byte}
use Rattle.inplace.proofs.Requests.{my_tid_ends, my_parent_tid_ends, yield_ends}
use Rattle.inplace.proofs.kinds.turned.Goals as goal

pub returns-in-MyTid : goal.returns-in-MyTid
returns-in-MyTid c = let running : c.args.caller.slot < slot_count = rw c.in-MyTid.is at c.requires.0 in
    rw (c.resumes.ensures, c.number.ensures, c.tid_of.ensures, in_byte c.args.caller.slot (omega arith), c.in-MyTid.is)
    (my_tid_ends c.requires.1 (omega arith) running)

pub returns-in-MyParentTid : goal.returns-in-MyParentTid
returns-in-MyParentTid c = let running : c.args.caller.slot < slot_count = rw c.in-MyParentTid.is at c.requires.0 in
    rw (c.my_parent_tid.ensures, c.in-MyParentTid.is) (my_parent_tid_ends c.requires.1 (omega arith) running)

pub returns-in-Yield : goal.returns-in-Yield
returns-in-Yield c = let running : c.args.caller.slot < slot_count = rw c.in-Yield.is at c.requires.0 in
    rw (c.resumes-in-Yield.ensures, c.number-in-Yield.ensures, c.in-Yield.is) (yield_ends c.requires.1 (omega arith) running)
