-- A run that goes on from where another ends, and its lines.
use Rattle.std.proofs.Common.{◌≡◌, ℕ, ◌+◌, ◌*◌, ◌≤◌, Bool, List, [], ◌∷◌, ◌++◌, length, take, drop, sym, refl, ap, ◌∙◌, append_assoc, mul-add, add-one, arith, length-append, length-drop}
use native.Mathlib.Nat.{add-mul}
use lib.Seq.{take_at, drop_at, drop-drop}
use Rattle.kernel.specs.declared.table.Request.{Request}
use Rattle.step.specs.Run.{Done, run, last_of}
use Rattle.step.proofs.Runs.{run_append, last_append}
use Rattle.lines.specs.declared.block.Block.{Block}
use Rattle.image.specs.Bytes.{record_at}
use Rattle.image.specs.Call.{request_length, request_from}
use Rattle.lines.specs.Block.{Standing, Ran, following, lines_from, number_after, requests_in, ran}
use Rattle.lines.proofs.Joined.{nothing, then, known_as}

-- a record more at the front of the bytes that are left
pub front_is : (w k : ℕ) (bytes r rest : List ℕ) → drop (k * w) bytes ≡ r ++ rest → length r ≡ w → r ≡ record_at w bytes k
front_is w k bytes r rest e size = sym (take_at r rest w size) ∙ ap (take w) (sym e)

pub front_fits : (w k : ℕ) (bytes r rest : List ℕ) → k * w ≤ length bytes → drop (k * w) bytes ≡ r ++ rest → length r ≡ w → (k + 1) * w ≤ length bytes
front_fits w k bytes r rest within e size = omega (arith, add-mul k 1 w, simp (length-drop, length-append) at (ap length e))

pub behind_front : (w k : ℕ) (bytes r rest : List ℕ) → drop (k * w) bytes ≡ r ++ rest → length r ≡ w → rest ≡ drop ((k + 1) * w) bytes
behind_front w k bytes r rest e size =
    let next : k * w + w ≡ (k + 1) * w = omega (arith, add-mul k 1 w) in
    sym (drop_at r rest w size) ∙ ap (drop w) (sym e) ∙ drop-drop w (k * w) bytes ∙ ap (λ (i : ℕ). drop i bytes) next

number_append : (k : ℕ) (u w : List Done) → number_after k (u ++ w) ≡ number_after (number_after k u) w
unfolding number_after
number_append k [] w = refl
number_append k (s ∷ u) w = number_append (following k) u w

lines_append : (wide : Bool) (k : ℕ) (u w : List Done) → lines_from wide k (u ++ w) ≡ lines_from wide k u ++ lines_from wide (number_after k u) w
unfolding lines_from number_after
lines_append wide k [] w = refl
lines_append wide k (s ∷ u) w = rw (lines_append wide (following k) u w, append_assoc)

-- a block that starts where a run stands
abbrev pub from : Standing → Block
from s = record { table = s.table; step = s.step; end = 0 }

-- where a run stands that led to s first, and from there to w
abbrev pub joined : Standing → Standing → Standing
joined s w = record { table = w.table; areas = w.areas; step = w.step; text = s.text ++ w.text }

-- where requests more lead
abbrev pub onward : Bool → Standing → List Request → Standing
onward wide s rs = joined s (ran wide (from s) s.areas rs)

pub ran_append : (wide : Bool) (b : Block) (xs : List ℕ) (rs qs : List Request) → ran wide b xs (rs ++ qs) ≡ onward wide (ran wide b xs rs) qs
ran_append wide b xs rs qs = simp (run_append, last_append, number_append, lines_append)

module _ {due : Standing} {first b : Block} {before out areas : List ℕ} (p : Ran due first before b areas out) (wide : Bool) (rs : List Request) where
  -- a block goes on from where its run stands
  same_ran : ran wide b areas rs ≡ ran wide (from due) due.areas rs
  same_ran = λ i. ran wide (record { table = p.reached i; step = p.counted i; end = 0 }) (p.changed i) rs

  -- requests more, behind what a block has done
  goes_on : {b' : Block} {out' areas' : List ℕ} → Ran (ran wide b areas rs) b out b' areas' out' → Ran (onward wide due rs) first before b' areas' out'
  goes_on q =
      record {
        reached = q.reached ∙ ap (λ (s : Standing). s.table) same_ran;
        counted = q.counted ∙ ap (λ (s : Standing). s.step) same_ran;
        changed = q.changed ∙ ap (λ (s : Standing). s.areas) same_ran;
        shown = then p.shown (known_as (ap (λ (s : Standing). s.text) same_ran) q.shown);
      }

-- one record more of a row
module _ (wide : Bool) (first : Block) (xs bytes : List ℕ) (i : ℕ) {b : Block} {before out areas r : List ℕ} (e : r ≡ record_at request_length bytes i)
    (p : Ran (ran wide first xs (requests_in bytes i)) first before b areas out) where
  more : ran wide first xs (requests_in bytes (i + 1)) ≡ onward wide (ran wide first xs (requests_in bytes i)) (request_from r ∷ [])
  unfolding requests_in
  more = rw (add-one, e) (ran_append wide first xs (requests_in bytes i) (request_from (record_at request_length bytes i) ∷ []))

  pub run_more : {b' : Block} {out' areas' : List ℕ} → Ran (ran wide b areas (request_from r ∷ [])) b out b' areas' out'
      → Ran (ran wide first xs (requests_in bytes (i + 1))) first before b' areas' out'
  run_more q = rw more (goes_on p wide (request_from r ∷ []) q)

  -- how long the lines can be, where none is longer than `most`
  pub size_more : (most : ℕ) → length (ran wide first xs (requests_in bytes i)).text ≤ most * i
      → length (ran wide b areas (request_from r ∷ [])).text ≤ most
      → length (ran wide first xs (requests_in bytes (i + 1))).text ≤ most * (i + 1)
  size_more most h l =
      let size : Standing → ℕ = λ s. length s.text in
      omega (arith, mul-add most i 1, simp length-append at (ap size more), ap size (same_ran p wide (request_from r ∷ [])))

-- no record yet
pub run_none : (wide : Bool) (first : Block) (bytes areas out : List ℕ) → Ran (ran wide first areas (requests_in bytes 0)) first out first areas out
unfolding requests_in run last_of lines_from number_after
run_none wide first bytes areas out =
    record { reached = refl; counted = refl; changed = refl; shown = nothing }
