-- `text::Line::text`. The loop's invariant: the bytes before this one are there.
use Rattle.std.proofs.Common.{take}
use Rattle.lines.specs.Written.{Written}
use Rattle.lines.proofs.text.Line.text.Given as goal

abbrev pub invariant-loop-byte : goal.invariant-loop-byte
invariant-loop-byte l = Written l.initial.self (take l.byte-index l.bytes) l.self
