-- Reading and writing images of every form; and converting one, which is a reading and a writing.
use Rattle.std.specs.Prelude.{ℕ, not, List, length, ◌==◌, nat_lt}
use Rattle.queue.specs.Choose.{choose}
use Rattle.kernel.specs.declared.table.Table.{Table}
use Rattle.kernel.specs.Edition.{is_edition}
use Rattle.kernel.specs.Numbers.{accepted, bad_table, bad_image, entry_lost, bad_edition}
use Rattle.kernel.specs.Table.{slots}
use Rattle.rules.specs.Good.{good_table}
use Rattle.image.specs.declared.stored.Reading.{Reading}
use Rattle.image.specs.Record.{record_length}
use Rattle.image.specs.Form.{is_form, form_of, holds, reformed}
use Rattle.image.specs.Image.{image_of, unread, read_newest}

-- what reading in an edition gives: refused by 12 where there is no such edition, then by 7 for a length that is no form's; else it is read
-- as the newest form
unfoldable pub read_image : ℕ → ℕ → List ℕ → Reading
read_image n ed bytes =
    choose (not (is_edition ed)) (unread n bad_edition)
    (choose (not (is_form n (length bytes))) (unread n bad_image)
    (read_newest n ed (reformed n (form_of n (length bytes)).bytes record_length bytes)))

-- what writing a table into so many bytes answers: refused by 12 where there is no such edition, then by 7 for a length that is no form's,
-- then by 2 for a broken rule, then by 11 where the form lacks what the table has. An image does not hold the edition
unfoldable pub write_verdict : Table → ℕ → ℕ
write_verdict t len =
    choose (not (is_edition t.edition)) bad_edition
    (choose (not (is_form (slots t) len)) bad_image
    (choose (not (good_table t)) bad_table
    (choose (not (holds (form_of (slots t) len) t)) entry_lost
    accepted)))

-- the bytes after it; a refusal writes none
unfoldable pub written : Table → List ℕ → List ℕ
written t bytes =
    choose (write_verdict t (length bytes) == accepted)
    (reformed (slots t) record_length (form_of (slots t) (length bytes)).bytes (image_of t))
    bytes

-- what converting an image into so many bytes answers: the edition, then both lengths are asked before a rule is
unfoldable pub convert_verdict : ℕ → ℕ → List ℕ → ℕ → ℕ
convert_verdict n ed image len =
    let r = read_image n ed image in
    choose (not (is_edition ed)) bad_edition
    (choose (not (is_form n len)) bad_image
    (choose (nat_lt accepted r.verdict) r.verdict
    (write_verdict r.table len)))

-- the bytes after it; a refusal writes none
unfoldable pub converted : ℕ → ℕ → List ℕ → List ℕ → List ℕ
converted n ed image out =
    choose (convert_verdict n ed image (length out) == accepted) (written (read_image n ed image).table out) out
