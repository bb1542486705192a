-- What a conversion comes to on each of its ways, told by the newest form of the image.
use Prim.Native.Nat.{ℕ, ◌≤◌, ◌<◌}
use mathlib.Core.Path.{◌≡◌, sym, ap, ◌∙◌}
use mathlib.Core.Bool.{Bool, true, false, ◌||◌}
use mathlib.Core.List.{List}
use lib.ListN.{length}
use lib.Dec.{eqb}
use native.Mathlib.Omega.{arith}
use Rattle.queue.specs.Choose.{all_below}
use Rattle.queue.proofs.Below.{by_test, all_same}
use Rattle.kernel.specs.declared.table.Table.{Table}
use Rattle.kernel.specs.Edition.{is_edition}
use Rattle.kernel.specs.Numbers.{accepted, bad_table, bad_image, entry_lost}
use Rattle.kernel.specs.Table.{slots}
use Rattle.rules.proofs.Good.{facts_good}
use Rattle.image.specs.Record.{record_length, entry_at}
use Rattle.image.specs.Form.{is_form, form_of, reformed, reformed_into, holds}
use Rattle.image.specs.declared.stored.Reading.{Reading}
use Rattle.image.specs.Image.{table_of, is_image, reading}
use Rattle.image.specs.Stored.{read_image, write_verdict, written, convert_verdict, converted}
use Rattle.image.proofs.Fitted.{length_reformed}
use Rattle.image.proofs.Forms.{from_newest}
use Rattle.image.proofs.Laws.{write_back}
use Rattle.image.proofs.Made.{write_lost, write_good, read_other, read_given, read_broken, convert_other, convert_refused, convert_written}
use Rattle.records.proofs.Images.{read_records}
use Rattle.records.proofs.Tasks.{entry_told}

module _ (n ed : ℕ) (image out : List ℕ) where
  -- a conversion answers v and leaves o
  abbrev pub Converts : ℕ → List ℕ → Type 0
  Converts v o = (v ≡ convert_verdict n ed image (length out)) × (o ≡ converted n ed image out)

  module _ (known : is_edition ed ≡ true) where
    -- what is read with a refusal is refused by its number
    refuses : {r : Reading} → read_image n ed image ≡ r → accepted < r.verdict → is_form n (length out) ≡ true → Converts r.verdict out
    refuses e some to = rw (← e) (convert_refused n ed image out known to (rw (← e) at some))

    pub convert_from : is_form n (length image) ≡ false → Converts bad_image out
    convert_from other =
        by_test (is_form n (length out)) (refuses (sym (read_other n ed image known other)) (omega arith)) (convert_other n ed image out known)

    module _ (from : is_form n (length image) ≡ true) (to : is_form n (length out) ≡ true) where
      abbrev newest : List ℕ
      newest = reformed n (form_of n (length image)).bytes record_length image

      pub convert_bad : is_image n ed newest ≡ false → Converts bad_table out
      convert_bad bad = refuses (sym (read_broken n ed image known from (rw bad (omega arith)))) (omega arith) to

      module _ (is : is_image n ed newest ≡ true) where
        abbrev table : Table
        table = table_of n ed newest

        read : read_image n ed image ≡ reading table accepted
        read = sym (read_given n ed image known from (rw is)) ∙ rw is

        -- it is the writing of the table that is read
        writes : {v : ℕ} {o : List ℕ} → (v ≡ write_verdict table (length out)) × (o ≡ written table out) → Converts v o
        writes (verdict, bytes) =
            let (given, left) = convert_written n ed image out known to (rw read) in
            (verdict ∙ sym (rw read) ∙ given, bytes ∙ sym (rw read) ∙ left)

        size : slots table ≡ n
        size = (write_back n ed is).0.rules.size

        -- whether the form has room for it, told by the bytes
        held : {b : Bool} → b ≡ ((form_of n (length out)).entries || all_below n (λ s. eqb (entry_at newest s) 0))
            → holds (form_of (slots table) (length out)) table ≡ b
        held {b} e =
            let rules = (write_back n ed is).0.rules in
            let same = all_same n (λ s. eqb (entry_at newest s) 0) _ (λ s l. ap (λ (x : ℕ). eqb x 0) (entry_told rules (read_records n ed newest is) s l)) in
            sym (e ∙ ap (λ (x : Bool). (form_of n (length out)).entries || x) same ∙ rw size)

        pub convert_lost : false ≡ ((form_of n (length out)).entries || all_below n (λ s. eqb (entry_at newest s) 0)) → Converts entry_lost out
        convert_lost lost = writes (write_lost table out (write_back n ed is).0.edition (rw size to) (facts_good n table (write_back n ed is).0) (held lost))

        pub convert_made : 1 ≤ n → {o : List ℕ} → true ≡ ((form_of n (length out)).entries || all_below n (λ s. eqb (entry_at newest s) 0))
            → o ≡ reformed_into n newest out → Converts accepted o
        convert_made some {o} room e =
            writes (write_good table out (write_back n ed is).0.edition (rw size to) (facts_good n table (write_back n ed is).0) o (held room)
            (e ∙ from_newest n some newest out to (length_reformed n _ record_length image) ∙ rw (size, (write_back n ed is).1)))
