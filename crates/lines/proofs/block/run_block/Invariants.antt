-- `block::run_block`. The loop's invariant: which bytes are left, and that the records before them have been stepped, with short lines.
use Rattle.std.proofs.Common.{◌≡◌, ◌*◌, ◌≤◌, length, drop}
use Rattle.std.specs.Slice.Iter.{chunks_exact_rest, chunks_exact_size}
use Rattle.queue.specs.Choose.{choose}
use Rattle.image.specs.Call.{request_length}
use Rattle.lines.specs.Line.{longest}
use Rattle.lines.specs.State.{longest_wide}
use Rattle.lines.specs.Block.{Ran, ran, requests_in}
use Rattle.lines.proofs.block.run_block.Given as goal

abbrev pub invariant-loop-record : goal.invariant-loop-record
invariant-loop-record l = record {
  size : chunks_exact_size l.record-iterator ≡ request_length;
  within : length l.yielded * request_length ≤ length l.records;
  left : chunks_exact_rest l.record-iterator ≡ drop (length l.yielded * request_length) l.records;
  done : Ran (ran l.wide l.initial.b l.initial.areas (requests_in l.records (length l.yielded))) l.initial.b l.initial.out l.b l.areas l.out;
  short : length (ran l.wide l.initial.b l.initial.areas (requests_in l.records (length l.yielded))).text ≤ choose l.wide longest_wide longest * length l.yielded;
}
