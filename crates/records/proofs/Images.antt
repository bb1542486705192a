-- The image of a table is its records, and nothing else is.
use Prim.Native.Nat.{ℕ, ◌*◌}
use mathlib.Core.Path.{◌≡◌, sym, subst}
use mathlib.Core.Bool.{true}
use mathlib.Core.List.{List}
use native.Mathlib.Omega.{arith}
use lib.Seq.{take_all}
use Rattle.kernel.specs.declared.table.Table.{Table}
use Rattle.kernel.specs.Table.{slots}
use Rattle.image.specs.Bytes.{record_at}
use Rattle.image.specs.Record.{record_length, record_of}
use Rattle.image.specs.Image.{image_of, table_of, is_image}
use Rattle.image.proofs.Bytes.{length_in_order}
use Rattle.image.proofs.Record.{length_record_of}
use Rattle.image.proofs.Laws.{write_back}
use Rattle.image.proofs.Exact.{image_is, record_found}
use Rattle.image.proofs.Fitted.{in_order_same, records_all}
use Rattle.records.specs.Records.{Records}

pub image_records : (n : ℕ) (t : Table) → slots t ≡ n → Records n (record_of t) (image_of t)
image_records n t size =
    record {
      size = rw (image_is t n size) (length_in_order record_length (record_of t) (length_record_of t) n);
      each = λ s h. record_found t s (omega arith);
    }

pub records_image : (n : ℕ) (t : Table) (b : List ℕ) → slots t ≡ n → Records n (record_of t) b → b ≡ image_of t
records_image n t b size r =
    rw (image_is t n size, ← in_order_same (record_at record_length b) (record_of t) n r.each, records_all record_length b n)
    (sym (take_all (n * record_length) b (omega arith)))

-- bytes that are an image are the records of the table that they are read as
pub read_records : (n ed : ℕ) (b : List ℕ) → is_image n ed b ≡ true → Records n (record_of (table_of n ed b)) b
read_records n ed b image =
    let t = table_of n ed b in
    let (good, same) = write_back n ed image in
    subst (λ (x : List ℕ). Records n (record_of t) x) same (image_records n t good.rules.size)
