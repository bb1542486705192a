-- `image::fields::task_read` meets its contract, part by part.
use Rattle.std.proofs.Common.{◌≡◌, ◌==◌, ℕ, Bool, true, false, ◌&&◌, List, refl, ap, arith}
use mathlib.Core.Bool.{and_comm}
use Rattle.task.specs.declared.task.Outcome.{Outcome}
use Rattle.image.specs.declared.fields.Parts.{Parts}
use Rattle.image.specs.declared.fields.Stated.{Stated}
use Rattle.image.specs.declared.fields.ResultParts.{ResultParts}
use Rattle.queue.proofs.Chains.{list_all_below}
use Rattle.image.specs.Bytes.{number_in}
use Rattle.image.specs.ResultParts.{result_parts_of}
use Rattle.image.specs.Record.{record_length, at_state, at_priority, at_parent, at_place, at_entry, byte_in, parts_of, parts_in, result_parts_in, state_from, result_of, task_from}
use Rattle.image.specs.Exact.{same_parts, same_result_parts, exact_place, stated_from, exact_record, task_read}
use Rattle.image.proofs.Made.{entry_made}
use Rattle.image.proofs.fields.task_read.Goals as goal

-- the place is asked with the state
regrouped : (a b c : Bool) → (a && b && c) ≡ (a && c && b)
regrouped true b c = and_comm b c
regrouped false b c = refl

-- what a used record gives, from its state with its place
entry_stated : (r : List ℕ) (parts : Parts) (told : ResultParts) (stated : Stated) (result : Outcome) (entry : ℕ) (q : Bool)
    → (byte_in r at_state ≡ 0 → ⊥) → parts ≡ parts_in r → told ≡ result_parts_in r → stated ≡ stated_from parts (byte_in r at_place)
    → result ≡ result_of told → entry ≡ number_in r at_entry 4 → q ≡ same_result_parts (result_parts_of (result_of told)) told
    → record {
      task = record { state = stated.state; priority = byte_in r at_priority; parent = byte_in r at_parent; entry = entry; result = result };
      exact = stated.exact && q;
    } ≡ task_read r
entry_stated r parts told stated result entry q some a b c d word e = let same = same_parts (parts_of (state_from parts)) parts in
    let placed = exact_place parts.code (byte_in r at_place) in
    let rest = ap (λ (p : Parts). exact_place p.code (byte_in r at_place)) a in
    rw (c, word, regrouped same placed q)
    (entry_made r parts told (state_from parts) result same q placed some a b refl d refl e rest)

pub returns-then-r-eq-UNUSED : goal.returns-then-r-eq-UNUSED
unfolding task_from exact_record
returns-then-r-eq-UNUSED c = rw (c.if-r-eq-UNUSED.true, c.all_zero.ensures, list_all_below (λ b. b == 0) c.args.r.now 0 {n = record_length} (omega arith))

pub returns : goal.returns
returns c =
    entry_stated c.args.r.now _ _ _ _ _ _ c.if-r-eq-UNUSED.false
    c.parts_in.ensures
    c.result_parts_in-numbers.ensures
    c.stated_from-stated.ensures
    c.result_of.ensures
    c.word_in.ensures
    c.exact_result.ensures
