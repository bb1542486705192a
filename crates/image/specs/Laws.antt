-- Demand 2: what is written reads back, and what is read is written again unchanged, in every form. Each is a statement; proofs/Laws.antt proves it
-- under the same name in small letters. `image::stored::write` and `image::stored::read` promise `written` and `read_image`.
use Rattle.std.specs.Prelude.{◌≡◌, ℕ, ◌*◌, ◌^◌, ◌<◌, true, List, length}
use Rattle.kernel.specs.declared.table.Table.{Table}
use Rattle.kernel.specs.declared.table.Answer.{Answer}
use Rattle.kernel.specs.Edition.{one_waits, many_wait}
use Rattle.kernel.specs.Numbers.{accepted}
use Rattle.kernel.specs.Table.{in_edition}
use Rattle.kernel.specs.Shape.{Shaped}
use Rattle.rules.specs.Good.{good_result}
use Rattle.image.specs.Image.{reading}
use Rattle.image.specs.Stored.{read_image, write_verdict, written, convert_verdict, converted}
use Rattle.image.specs.Record.{record_length}
use Rattle.image.specs.Call.{answer_bytes, answer_from}

-- A table of n slots that was written as records reads back, in its edition, as that table, whatever the bytes held before.
abbrev pub WrittenIsRead : Type 0
WrittenIsRead =
    (n : ℕ) (t : Table) (bytes : List ℕ) → Shaped n t → write_verdict t (length bytes) ≡ accepted
    → read_image n t.edition (written t bytes) ≡ reading t accepted

-- Records that were accepted are written again unchanged.
abbrev pub ReadIsWritten : Type 0
ReadIsWritten =
    (n ed : ℕ) (bytes : List ℕ) → let t = (read_image n ed bytes).table in
    (read_image n ed bytes).verdict ≡ accepted → (write_verdict t (length bytes) ≡ accepted) × (written t bytes ≡ bytes)

-- Conversion.

-- What was converted reads as the table that was there.
-- Ruled out: a conversion that drops the entry number of a task that has exited.
abbrev pub ConvertedIsRead : Type 0
ConvertedIsRead =
    (n ed : ℕ) (image out : List ℕ) → convert_verdict n ed image (length out) ≡ accepted
    → read_image n ed (converted n ed image out) ≡ read_image n ed image

-- Converted back into the length that it came from, an image is what it was, whatever the bytes held that it is written into.
abbrev pub ThereAndBack : Type 0
ThereAndBack =
    (n ed : ℕ) (image out back : List ℕ) → length back ≡ length image → convert_verdict n ed image (length out) ≡ accepted
    → let there = converted n ed image out in
    (convert_verdict n ed there (length back) ≡ accepted) × (converted n ed there back ≡ image)

-- Every image that is read is written in the newest form: the way from an old form is refused by 12, 7 or 2 alone.
abbrev pub NewestHoldsAll : Type 0
NewestHoldsAll =
    (n ed : ℕ) (image : List ℕ) → (read_image n ed image).verdict ≡ accepted → convert_verdict n ed image (n * record_length) ≡ accepted

-- The edition stands in no image. One that is read where one waits is read where many wait, as the same tasks in the same queues. The other
-- way an image may be refused by 2: where two tasks wait for one event.
-- Ruled out: places of waiters that mean something else in the other edition, so that a host could not go over to it.
abbrev pub OneIsReadAsMany : Type 0
OneIsReadAsMany =
    (n : ℕ) (image : List ℕ) → let r = read_image n one_waits image in
    r.verdict ≡ accepted → read_image n many_wait image ≡ reading (in_edition many_wait r.table) accepted

-- The bytes of an answer tell that answer, where its numbers are words and its result is one that may be shown of n tids.
abbrev pub AnswerIsRead : Type 0
AnswerIsRead =
    (n : ℕ) (a : Answer) → n < 2 ^ 32 → a.verdict < 2 ^ 32 → a.next < 2 ^ 32 → good_result n a.result ≡ true
    → answer_from (answer_bytes a) ≡ a
