-- The forms of stored records. A form is a row: for how many slots it has records, how many bytes a record has, and whether a record holds
-- an entry number. Every rule is asked of the newest form; another is read as the newest with 0 in what it lacks, and is written from the
-- newest without what it lacks.
use Rattle.std.specs.Prelude.{ℕ, ◌*◌, Bool, Option, true, false, ◌&&◌, ◌||◌, List, ◌++◌, length, take, replicate, ◌==◌, nat_eq, nat_lt}
use Rattle.std.proofs.Common.{Some, None}
use Rattle.queue.specs.Choose.{choose, all_below, first_below}
use Rattle.kernel.specs.declared.table.Table.{Table}
use Rattle.kernel.specs.Table.{slots, task_at}
use Rattle.image.specs.declared.form.Form.{Form}
use Rattle.image.specs.Bytes.{in_order, record_at}
use Rattle.image.specs.Record.{record_length}

-- how many forms there are
abbrev pub form_count : ℕ
form_count = 2

-- the forms of n slots, the oldest first; the last is the newest
abbrev pub form_at : ℕ → ℕ → Form
form_at n k =
    choose (k == 0)
    (record { slots = n; bytes = 20; entries = false })
    (record { slots = n; bytes = record_length; entries = true })

-- how long an image of a form is
abbrev pub image_length : Form → ℕ
image_length f = f.slots * f.bytes

-- which form has so many bytes; `form_count` where none has
abbrev pub form_for : ℕ → ℕ → ℕ
form_for n len = first_below form_count (λ k. nat_eq len (image_length (form_at n k)))

-- whether an image of so many bytes is of a form, and of which
abbrev pub is_form : ℕ → ℕ → Bool
is_form n len = nat_lt (form_for n len) form_count

abbrev pub form_of : ℕ → ℕ → Form
form_of n len = form_at n (form_for n len)

-- both in one
abbrev pub form_found : ℕ → ℕ → Option Form
form_found n len = choose (is_form n len) (Some (form_of n len)) None

-- a record with w bytes: cut off, or filled up with 0
abbrev pub fitted : ℕ → List ℕ → List ℕ
fitted w r = take w (r ++ replicate w 0)

-- n records of one length with another
unfoldable pub reformed : ℕ → ℕ → ℕ → List ℕ → List ℕ
reformed n from to bytes = in_order (λ s. fitted to (record_at from bytes s)) n

-- an image put into bytes of another length, or of the same, each by the form that it has; nothing is put where either has none
unfoldable pub reformed_into : ℕ → List ℕ → List ℕ → List ℕ
reformed_into n image out =
    choose (is_form n (length image) && is_form n (length out))
    (reformed n (form_of n (length image)).bytes (form_of n (length out)).bytes image)
    out

-- what a form asks of a table beside its rules: where it holds no entry number, each is 0
abbrev pub holds : Form → Table → Bool
holds f t = f.entries || all_below (slots t) (λ s. nat_eq (task_at t s).entry 0)
