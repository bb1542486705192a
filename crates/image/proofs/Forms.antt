-- What a length tells of its form, and an image of any form as the newest.
use Rattle.std.proofs.Common.{◌≡◌, ℕ, ◌*◌, ◌<◌, ◌≤◌, Bool, ap, true, false, eqb, List, length, get_or, sym, refl, ◌∙◌, arith, ltb-true, eq-eqb, ne_eqb, eqb-true}
use mathlib.Core.Bool.{not, true≢false}
use lib.ListN.{get_or-eq_default}
use Rattle.std.specs.Prelude.{Option, unwrap_or, is_some}
use Rattle.std.proofs.Common.{Some, None}
use Rattle.queue.specs.Choose.{choose}
use Rattle.queue.proofs.Below.{by_test, all_below_lem, below_all, first_below_lem, first_ends}
use Rattle.task.specs.declared.task.Task.{Task}
use Rattle.task.specs.Task.{is_used}
use Rattle.task.proofs.Tests.{chosen}
use Rattle.kernel.specs.declared.table.Table.{Table}
use Rattle.kernel.specs.Table.{slots, task_at}
use Rattle.image.specs.Bytes.{record_at}
use Rattle.image.specs.Record.{record_length, at_entry, task_record, record_of, used_from, task_from, byte_in, at_state}
use Rattle.image.specs.declared.form.Form.{Form}
use Rattle.image.specs.Form.{form_count, form_at, image_length, form_for, is_form, form_of, form_found, fitted, reformed, reformed_into, holds}
use Rattle.image.specs.Image.{image_of, table_of}
use Rattle.image.proofs.Record.{length_record_of}
use Rattle.image.proofs.Bytes.{length_in_order}
use Rattle.image.proofs.Exact.{record_found}
use Rattle.image.proofs.Placed.{task_read}
use Rattle.image.proofs.Shape.{table_shaped}
use Rattle.image.proofs.Fitted.{length_record, fitted_byte, fitted_longer, record_reformed, reformed_back}

-- the oldest records, and those of every form but the newest, end before the entry number; the newest have it
bytes_of_lem : (n k : ℕ) → (form_at n k).bytes ≡ choose (eqb k 0) at_entry record_length
bytes_of_lem n k = by_test (eqb k 0) (λ e. rw e) (λ e. rw e)

slots_of : (n k : ℕ) → (form_at n k).slots ≡ n
slots_of n k = by_test (eqb k 0) (λ e. rw e) (λ e. rw e)

module _ (n len : ℕ) where
  -- a length that is a form's is that of its records
  pub form_length : is_form n len ≡ true → len ≡ n * (form_of n len).bytes
  form_length is =
      let k = form_for n len in
      let found = (first_below_lem form_count (λ k. eqb len (image_length (form_at n k)))).passes (ltb-true k form_count is) in
      eqb-true len (image_length (form_at n k)) found ∙ rw (slots_of n k)

  pub form_within : (form_of n len).bytes ≤ record_length
  form_within = chosen (λ (f : Form). f.bytes ≤ record_length) (eqb (form_for n len) 0) (λ _. omega arith) (λ _. omega arith)

-- whether a length is a form's, by the form that was found or missed

some_of : (b : Bool) (g f : Form) → Some f ≡ choose b (Some g) None → (b ≡ true) × (f ≡ g)
some_of true g f e = (refl, ap (λ (o : Option Form). unwrap_or o g) e)
some_of false g f e = absurd (true≢false (ap (λ (o : Option Form). is_some o) e))

told : (b : Bool) (g : Form) → is_some (choose b (Some g) None) ≡ b
told true g = refl
told false g = refl

pub some_form : (n len : ℕ) (f : Form) → Some f ≡ form_found n len → (is_form n len ≡ true) × (f ≡ form_of n len)
some_form n len f e = some_of (is_form n len) (form_of n len) f e

pub none_form : (n len : ℕ) → None ≡ form_found n len → is_form n len ≡ false
none_form n len e = sym (ap (λ (o : Option Form). is_some o) e ∙ told (is_form n len) (form_of n len))

pub form_asked : (n len : ℕ) (none : Bool) {o : Option Form} → o ≡ form_found n len → is_some o ≡ not none → is_form n len ≡ not none
form_asked n len none e t = sym (ap (λ (o : Option Form). is_some o) e ∙ told (is_form n len) (form_of n len)) ∙ t

-- the newest form by its length
pub newest_form : (n : ℕ) → 1 ≤ n → form_for n (n * record_length) ≡ 1
newest_form n some =
    sym (first_ends form_count (λ k. eqb (n * record_length) (image_length (form_at n k))) 1 (omega arith)
    (λ j h. let zero : j ≡ 0 = omega arith in rw zero (ne_eqb (n * record_length) (n * 20) (omega arith)))
    (λ _. eq-eqb (n * record_length) (n * record_length) refl))

-- bytes of any form put into those of the newest, and of the newest into any
module _ (n : ℕ) (some : 1 ≤ n) (image out : List ℕ) where
  pub into_newest : is_form n (length image) ≡ true → length out ≡ n * record_length
      → reformed_into n image out ≡ reformed n (form_of n (length image)).bytes record_length image
  unfolding reformed_into
  into_newest is size = rw (size, is, newest_form n some)

  pub from_newest : is_form n (length out) ≡ true → length image ≡ n * record_length
      → reformed_into n image out ≡ reformed n record_length (form_of n (length out)).bytes image
  unfolding reformed_into
  from_newest is size = rw (size, is, newest_form n some)

-- a form without entry numbers, and one with them
pub by_form : {C : Type 0} (n len : ℕ)
    → (((form_of n len).bytes ≡ at_entry) → ((form_of n len).entries ≡ false) → C)
    → (((form_of n len).bytes ≡ record_length) → ((form_of n len).entries ≡ true) → C) → C
by_form n len old new =
    by_test (eqb (form_for n len) 0) (λ e. old (rw e) (rw e)) (λ e. new (rw e) (rw e))

-- bytes of a form come back from the newest's
pub old_back : (n len : ℕ) (bytes : List ℕ) → let w = (form_of n len).bytes in length bytes ≡ n * w
    → reformed n record_length w (reformed n w record_length bytes) ≡ bytes
old_back n len bytes whole =
    let w = (form_of n len).bytes in
    reformed_back n w record_length bytes whole
    (λ s l. fitted_longer w record_length (record_at w bytes s) (form_within n len) (length_record n w bytes s l whole))

-- how long the image of any table is
pub length_image : (t : Table) → length (image_of t) ≡ slots t * record_length
unfolding image_of
length_image t = length_in_order record_length (record_of t) (length_record_of t) (slots t)

-- a record whose task has the entry number 0 comes back from the oldest form
bare_back : (x : Task) (place : ℕ) → x.entry ≡ 0 → fitted record_length (fitted at_entry (task_record x place)) ≡ task_record x place
unfolding task_record
bare_back x place none = by_test (is_used x.state) (λ e. rw (e, none)) (λ e. rw e)

-- the newest form of a table that a form holds comes back from that form
pub newest_back : (len : ℕ) (t : Table) → let n = slots t in holds (form_of n len) t ≡ true → let w = (form_of n len).bytes in
    reformed n w record_length (reformed n record_length w (image_of t)) ≡ image_of t
newest_back len t held =
    let n = slots t in
    let w = (form_of n len).bytes in
    reformed_back n record_length w (image_of t) (length_image t)
    (λ s l. rw (record_found t s l)
    (by_form n len
    (λ old without. rw old (bare_back (task_at t s) _ (eqb-true _ 0 (all_below_lem (slots t) _ (rw without at held) s l))))
    (λ new _. rw new (fitted_longer record_length record_length (record_of t s) (omega arith) (length_record_of t s)))))

-- a short record gives a task without an entry number
short_bare : (r : List ℕ) → length r ≡ at_entry → (task_from (fitted record_length r)).entry ≡ 0
unfolding task_from used_from
short_bare r size =
    let past : (i : ℕ) → at_entry ≤ i → i < record_length → get_or (fitted record_length r) i 0 ≡ 0 =
    λ i h l. fitted_byte record_length r i l ∙ get_or-eq_default r 0 {n = i} (omega arith) in
    chosen (λ (x : Task). x.entry ≡ 0) (eqb (byte_in (fitted record_length r) at_state) 0) (λ _. refl)
    (λ _. rw (past 20 (omega arith) (omega arith), past 21 (omega arith) (omega arith), past 22 (omega arith) (omega arith), past 23 (omega arith) (omega arith)))

-- so a form without entry numbers is read as a table without them
pub read_held : (n ed len : ℕ) (bytes : List ℕ) → let w = (form_of n len).bytes in length bytes ≡ n * w
    → holds (form_of n len) (table_of n ed (reformed n w record_length bytes)) ≡ true
read_held n ed len bytes whole =
    let w = (form_of n len).bytes in
    let b = reformed n w record_length bytes in
    let bare : w ≡ at_entry → (s : ℕ) → s < n → eqb (task_at (table_of n ed b) s).entry 0 ≡ true =
    λ old s l. rw (task_read n ed b n s (omega arith) l, record_reformed n w record_length bytes s l)
    (eq-eqb _ 0 (short_bare (record_at w bytes s) (length_record n w bytes s l whole ∙ old))) in
    by_form n len
    (λ old without. rw (without, (table_shaped n ed b n).tasks) (below_all n _ (bare old)))
    (λ _ with. rw with)
