-- What a value says of the delivery that gave it: whether that was cut. Each law is a statement; proofs/Laws.antt proves it under the same
-- name in small letters.
use Rattle.std.specs.Prelude.{ℕ, ◌≡◌, Bool, false, ◌&&◌, ◌||◌, List, [], ◌∷◌, map, ltb, eqb}
use Rattle.queue.specs.Choose.{choose}
use Rattle.tid.specs.Tid.{slot_named}
use Rattle.task.specs.declared.task.Outcome.TheVariants.{Nothing, Value}
use Rattle.task.specs.Result.{result_cut}
use Rattle.kernel.specs.declared.table.Table.{Table}
use Rattle.kernel.specs.declared.table.Request.{Request}
use Rattle.kernel.specs.declared.table.Answer.{Answer}
use Rattle.kernel.specs.declared.table.Effect.{Effect}
use Rattle.kernel.specs.declared.table.Effect.TheVariants.{Keep, Copy, Put}
use Rattle.kernel.specs.Table.{task_at, active_slot}
use Rattle.step.specs.Run.{Done, run, answers, last_of}
use Rattle.laws.specs.Parties.{parties}
use Rattle.laws.specs.View.{is_entry, is_sent_to, is_replied_to, is_signalled, is_turned_away, Steps}

-- a step gives the task of slot s a result, to be told when it runs: the task calls or is interrupted, a message or a reply reaches it, its
-- event happens, or the task that it sends to exits
abbrev pub is_given : Table → Request → ℕ → Bool
is_given t r s =
    is_entry t r && (eqb s (active_slot t) || is_sent_to t r s || is_replied_to t r s || is_signalled t r s || is_turned_away t r s)

-- the steps of a run that give it one, in their order
unfoldable pub givings : ℕ → List Done → List Done
givings s [] = []
givings s (d ∷ ds) = choose (is_given d.before d.request s) (d ∷ givings s ds) (givings s ds)

-- an effect copies fewer bytes than a length
abbrev pub copies_less : ℕ → Effect → Bool
copies_less len Keep = false
copies_less len (Copy source dest n cut) = ltb n len
copies_less len (Put at byte) = false

-- a step is a delivery that copied fewer bytes than the length sent
abbrev pub is_short : Done → Bool
is_short d = copies_less (parties d.before d.request).given.len d.decision.effect

-- whether the last step that gave the task of slot s a result was such a delivery; before the first one the task holds what the table says
abbrev pub last_is_short : Table → ℕ → List Done → Bool
last_is_short t s u = last_of (eqb (result_cut (task_at t s).result) 1) (map is_short (givings s u))

-- what a run shows last; every step of a run is the last one of a shorter run
abbrev pub last_shown : List Done → Answer
last_shown u = last_of (record { verdict = 0; next = 0; result = Nothing }) (answers u)

-- A value is cut exactly if the delivery that gave it copied fewer bytes than the length sent; one that no delivery gave never is.
-- Ruled out: a value that is cut for the message where the reply came whole, one that was cut and is whole by the time the task runs, and a
-- delivery that just filled its buffer and is called cut.
abbrev pub CutIsTold : Type 0
CutIsTold =
    (n : ℕ) (t : Table) (xs : List ℕ) (rs : List Request) (from v : ℕ) (cut : Bool) → Steps n t xs
    → let u = run t xs rs in (last_shown u).result ≡ Value from cut v → cut ≡ last_is_short t (slot_named (last_shown u).next) u
