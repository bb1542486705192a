-- The work of a request is that of the entry that it asks for.
use mathlib.Core.Path.{◌≡◌, refl, sym, ◌∙◌, ap}
use mathlib.Core.Bool.{Bool, true, false, true≢false}
use Prim.Native.Nat.{ℕ}
use lib.Dec.{eqb}
use Rattle.std.proofs.Common.{Ok, Err}
use Rattle.std.specs.Prelude.{Result}
use borrow.Author.Tests.{eqb-true}
use Rattle.queue.specs.Choose.{choose}
use Rattle.queue.proofs.Below.{by_test}
use Rattle.kernel.specs.declared.table.Table.{Table}
use Rattle.kernel.specs.declared.table.Request.{Request}
use Rattle.kernel.specs.declared.table.Turn.{Turn}
use Rattle.kernel.specs.declared.call.Entry.{Entry}
use Rattle.kernel.specs.declared.call.Call.{Call}
use Rattle.kernel.specs.declared.call.Call.TheVariants as C
use Rattle.kernel.specs.declared.refusal.Refusal.{Refusal}
use Rattle.kernel.specs.Kinds
use Rattle.kernel.specs.Decide.{turn_of}
use Rattle.kernel.specs.Call.{call_of, entry_turn}

-- what is done with a choice is done with what is chosen
through : {A B : Type 0} (f : A → B) (b : Bool) (x y : A) → f (choose b x y) ≡ choose b (f x) (f y)
through f true x y = refl
through f false x y = refl

choose_same : {A : Type 0} (b : Bool) (x : A) → choose b x x ≡ x
choose_same true x = refl
choose_same false x = refl

-- `turn_of` answers with an event where no other entry is asked for
abbrev turn_by : Table → ℕ → Request → Result Call Refusal → Turn
turn_by t c r (Ok (C.Entry e)) = entry_turn t c e
turn_by t c r (Ok (C.OwnWrite o b)) = Kinds.event t r.arg0 r.arg1
turn_by t c r (Err f) = Kinds.event t r.arg0 r.arg1

pub turned_by : (t : Table) (c : ℕ) (r : Request) (e : Entry) → call_of r ≡ Ok (C.Entry e) → turn_of t c r ≡ entry_turn t c e
unfolding turn_of
turned_by t c r e h =
    let asked : turn_by t c r (call_of r) ≡ turn_of t c r = simp (through (turn_by t c r), choose_same) in
    sym asked ∙ ap (turn_by t c r) h

abbrev is_own : Result Call Refusal → Bool
is_own (Ok (C.Entry e)) = false
is_own (Ok (C.OwnWrite o b)) = true
is_own (Err f) = false

-- no entry has the kind of an own write
pub entry_kind : (r : Request) (e : Entry) → call_of r ≡ Ok (C.Entry e) → eqb r.kind 11 ≡ false
entry_kind r e h =
    by_test (eqb r.kind 11) (λ y. absurd (true≢false (rw (eqb-true r.kind 11 y) at (ap is_own h)))) (λ n. n)
