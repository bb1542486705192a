-- Blocks, each stepped from where the one before it ended, are one run.
use Rattle.std.proofs.Common.{◌≡◌, ℕ, zero, suc, ◌+◌, ◌*◌, ◌/◌, ◌%◌, ◌≤◌, Bool, true, List, [], ◌∷◌, ◌++◌, length, drop, sym, refl, ap, ◌∙◌, append_assoc, append-nil, add-zero, add-suc, arith, length-append, length-drop, eq-eqb}
use mathlib.Core.List.{flatten}
use lib.Seq.{take-append-le, drop-append-le, drop-append-add}
use Rattle.tid.specs.Sizes.{slot_count}
use Rattle.kernel.specs.Edition.{is_edition}
use Rattle.rules.specs.Fresh.{fresh}
use Rattle.step.specs.Every.{Every, none, more}
use Rattle.step.specs.Run.{run, last_of}
use Rattle.image.specs.Call.{request_length}
use Rattle.lines.specs.declared.block.Block.{Block}
use Rattle.lines.specs.Block.{Standing, Ran, lines_from, number_after, requests_in, requests, fresh_block, ran, end_of, showed}
use Rattle.lines.specs.Printed.{Whole, first_priority, first_entry, first_areas, steps_of, lines_of, Reached, printed, PrintedIsRun}
use Rattle.lines.proofs.Onward.{from, joined, ran_append}

-- the requests of two rows of bytes, of which the first are whole records
module _ (xs ys : List ℕ) where
  requests_before : (k : ℕ) → k * request_length ≤ length xs → requests_in (xs ++ ys) k ≡ requests_in xs k
  unfolding requests_in
  requests_before zero h = refl
  requests_before (suc k) h =
      let here : k * request_length ≤ length xs = omega arith in
      let room : request_length ≤ length (drop (k * request_length) xs) = simp length-drop (omega arith) in
      rw (requests_before k here, drop-append-le, take-append-le)

  requests_behind : (m k : ℕ) → length xs ≡ m * request_length → requests_in (xs ++ ys) (m + k) ≡ requests_in xs m ++ requests_in ys k
  unfolding requests_in
  requests_behind m zero h = rw (add-zero, append-nil) (requests_before m (omega arith))
  requests_behind m (suc k) h =
      let place : (m + k) * request_length ≡ length xs + k * request_length = omega arith in
      rw (add-suc, place, drop-append-add, requests_behind m k h, append_assoc)

  requests_append : Whole xs → requests (xs ++ ys) ≡ requests xs ++ requests ys
  requests_append whole =
      let size = length-append xs ys in
      let count : length (xs ++ ys) / request_length ≡ length xs / request_length + length ys / request_length = omega arith in
      rw count (requests_behind (length xs / request_length) (length ys / request_length) (omega arith))

-- nothing stands behind whole records
whole_ends : (xs : List ℕ) → Whole xs → end_of (length xs) ≡ []
unfolding end_of
whole_ends xs whole = rw (eq-eqb (length xs % request_length) 0 whole)

-- a text behind the lines
abbrev ended : Standing → List ℕ → Standing
ended s end = record { table = s.table; areas = s.areas; step = s.step; text = s.text ++ end }

-- bytes behind whole records are shown from where those lead
showed_append : (wide : Bool) (b : Block) (areas xs ys : List ℕ) → Whole xs → let s = ran wide b areas (requests xs) in
    showed wide b areas (xs ++ ys) ≡ joined s (showed wide (from s) s.areas ys)
unfolding end_of
showed_append wide b areas xs ys whole =
    let same = ap (ran wide b areas) (requests_append xs ys whole) ∙ ran_append wide b areas (requests xs) (requests ys) in
    let size : length (xs ++ ys) % request_length ≡ length ys % request_length = omega (arith, length-append xs ys) in
    ap (λ (s : Standing). ended s (end_of (length (xs ++ ys)))) same ∙ rw (size, append_assoc)

printed_ran : (wide : Bool) (b : Block) (areas : List ℕ) (blocks : List (List ℕ)) (last : List ℕ) → Every Whole blocks
    → printed wide b areas (blocks ++ last ∷ []) ≡ (showed wide b areas (flatten blocks ++ last)).text
unfolding printed flatten
printed_ran wide b areas [] last none = append-nil _
printed_ran wide b areas (bytes ∷ blocks) last (more whole rest) =
    let s = ran wide b areas (requests bytes) in
    rw (whole_ends bytes whole, append-nil, append_assoc)
    (ap (λ (text : List ℕ). s.text ++ text) (printed_ran wide (from s) s.areas blocks last rest)
    ∙ sym (ap (λ (s : Standing). s.text) (showed_append wide b areas bytes (flatten blocks ++ last) whole)))

-- the block that a fresh kernel of an edition starts from
abbrev first_block : ℕ → Block
first_block ed = record { table = fresh slot_count ed first_priority first_entry; step = 1; end = 0 }

-- a start in an edition is not refused
begins : (ed : ℕ) → is_edition ed ≡ true → fresh_block ed first_priority first_entry ≡ first_block ed
begins ed known = rw known

pub printed_is_run : PrintedIsRun
printed_is_run wide ed blocks last known whole = rw (begins ed known) (printed_ran wide (first_block ed) first_areas blocks last whole)

-- where a program stands that has read nothing
pub reached_none : (ed : ℕ) → is_edition ed ≡ true
    → let b = fresh_block ed first_priority first_entry in Reached ed [] b.table b.step first_areas
unfolding requests_in run last_of number_after
reached_none ed known = record { whole = refl; stands = ap (λ (b : Block). b.table) (begins ed known); counted = refl; left = refl }

-- where it stands after an input
abbrev standing : Bool → ℕ → List ℕ → Standing
standing wide ed input = ran wide (first_block ed) first_areas (requests input)

-- where it stands after bytes more, with their lines
module _ (wide : Bool) (b : Block) {ed : ℕ} {input areas : List ℕ} (at : Reached ed input b.table b.step areas) (bytes : List ℕ) where
  shown_from : showed wide (first_block ed) first_areas (input ++ bytes) ≡ joined (standing wide ed input) (showed wide b areas bytes)
  shown_from =
      showed_append wide (first_block ed) first_areas input bytes at.whole
      ∙ (λ i. joined (standing wide ed input) (showed wide (record { table = sym at.stands i; step = sym at.counted i; end = 0 }) (sym at.left i) bytes))

  pub reached_more : {first b' : Block} {before out areas' : List ℕ} → Whole bytes → Ran (showed wide b areas bytes) first before b' areas' out
      → Reached ed (input ++ bytes) b'.table b'.step areas'
  reached_more whole made =
      record {
        whole = omega (arith, at.whole, length-append input bytes);
        stands = made.reached ∙ sym (ap (λ (s : Standing). s.table) shown_from);
        counted = made.counted ∙ sym (ap (λ (s : Standing). s.step) shown_from);
        left = made.changed ∙ sym (ap (λ (s : Standing). s.areas) shown_from);
      }

  pub lines_more : lines_from wide 1 (steps_of ed input) ++ (showed wide b areas bytes).text ≡ lines_of wide ed (input ++ bytes)
  lines_more = sym (ap (λ (s : Standing). s.text) shown_from)
