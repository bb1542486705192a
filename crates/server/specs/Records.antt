-- The two records of a step from a task's side: what it asks, as bytes, and what it is told, from bytes.
use Rattle.std.specs.Prelude.{ℕ, ◌+◌, List, ◌++◌, length, ltb, leb, eqb}
use Rattle.std.proofs.Math.Seq.{paste}
use Rattle.queue.specs.Choose.{choose}
use Rattle.task.specs.declared.task.Outcome.{Outcome}
use Rattle.task.specs.declared.task.Outcome.TheVariants.{Nothing}
use Rattle.kernel.specs.declared.table.Request.{Request}
use Rattle.image.specs.Bytes.{bytes_of, number_in}
use Rattle.image.specs.Call.{request_length, at_kind, at_sender, at_cut_word, answer_from}

-- bytes with a word put at a place, where there is room for all four
abbrev pub with_word : List ℕ → ℕ → ℕ → List ℕ
with_word xs at x = choose (leb (at + 4) (length xs)) (paste xs at (bytes_of 4 x) 4) xs

-- the kind and the five arguments, a word each
unfoldable pub request_bytes : Request → List ℕ
request_bytes r =
    bytes_of 4 r.kind
    ++ bytes_of 4 r.arg0
    ++ bytes_of 4 r.arg1
    ++ bytes_of 4 r.arg2
    ++ bytes_of 4 r.arg3
    ++ bytes_of 4 r.arg4

-- the bytes after a request is put into them; nothing is where they are of another length
abbrev pub requested : Request → List ℕ → List ℕ
requested r bytes = choose (eqb (length bytes) request_length) (request_bytes r) bytes

-- the result that an answer tells (`answer_from`); a kind or a sender of more than a byte, or a last word above 1, which no answer of the
-- kernel has, tells nothing
unfoldable pub result_in : List ℕ → Outcome
result_in answer =
    choose (ltb 255 (number_in answer at_kind 4)) Nothing
    (choose (ltb 255 (number_in answer at_sender 4)) Nothing
    (choose (ltb 1 (number_in answer at_cut_word 4)) Nothing
    (answer_from answer).result))
