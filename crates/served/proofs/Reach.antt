-- A Reply of the server reaches the one who waits for it.
use Prim.Native.Nat.{ℕ, ◌+◌, ◌≤◌, ◌<◌, min}
use mathlib.Core.Path.{◌≡◌, refl, sym, ap, subst, ◌∙◌}
use mathlib.Core.Logic.{◌≢◌}
use mathlib.Core.Bool.{true, false}
use mathlib.Core.List.{◌∷◌, []}
use native.Mathlib.Omega.{arith}
use lib.ListN.{length, get_or}
use lib.Dec.{ltb}
use borrow.Author.Tests.{eqb-true, eq-eqb, ltb-true, lt-ltb, le-ltb, le-leb}
use Rattle.queue.proofs.Below.{by_test, both_true}
use Rattle.tid.specs.Sizes.{area_bytes}
use Rattle.tid.specs.Tid.{tid_of, slot_named}
use Rattle.tid.proofs.Trips.{tid_named}
use Rattle.task.specs.declared.task.Buffer.{Buffer}
use Rattle.task.specs.declared.task.Outcome.{Outcome}
use Rattle.task.specs.declared.task.Outcome.TheVariants.{Value}
use Rattle.task.specs.declared.task.State.TheVariants.{ReplyBlocked}
use Rattle.task.specs.declared.task.Task.{Task}
use Rattle.kernel.specs.declared.table.Request.{Request}
use Rattle.kernel.specs.Numbers.{create_kind, receive_kind, reply_kind, own_write_kind}
use Rattle.kernel.specs.Table.{slots, task_at, active_slot}
use Rattle.kernel.specs.Refusal.{refusal_of}
use Rattle.kernel.specs.Decide.{active_tid}
use Rattle.step.specs.Run as Run
use Rattle.laws.specs.View.{is_entry, is_replied_to, bytes_at, Gets}
use Rattle.laws.proofs.Laws.{reply_reaches, stays_reply_blocked}
use Rattle.server.specs.declared.phase.Phase.{Phase}
use Rattle.server.specs.declared.phase.Phase.TheVariants.{Making, Made, Writing, Replying, Listening}
use Rattle.server.specs.Phase.{place, ask, request_in}
use Rattle.server.specs.Service.{Machine, Service, Serving, request, serving}
use Rattle.served.specs.World.{World, bytes_in, decided, areas_after, asks_now, advanced, ended}
use Rattle.served.specs.Laws.{Fits, AWorldIsARun, AnswerReaches}
use Rattle.served.proofs.Moves.{slot_of_lem}
use Rattle.served.proofs.Serves.{Serves, answer_stands, serves_ended, begins_serves}

-- a world goes as the kernel's run does
pub a_world_is_a_run : {S : Type 0} (m : Machine S) → AWorldIsARun m
unfolding ended advanced Run.run Run.last_of
a_world_is_a_run m g w [] = (refl, refl)
a_world_is_a_run m g w (r ∷ rs) = a_world_is_a_run m g (advanced m g w r) rs

-- a server asks for a Reply only while it replies
pub reply_phase : (p : Phase) (priority size len byte tid : ℕ) (r : Request) → r ≡ request_in p priority size len byte tid → r.kind ≡ reply_kind
    → (k : ℕ) × (p ≡ Replying k) × (k < len) × (r ≡ ask reply_kind r.arg0 size size)
reply_phase p priority size len byte tid r same kind = go p same
  where
    Is : Phase → Type 0
    Is p = (k : ℕ) × (p ≡ Replying k) × (k < len) × (r ≡ ask reply_kind r.arg0 size size)

    other : (p : Phase) (k : ℕ) → r.kind ≡ k → k ≢ reply_kind → Is p
    other p k is ne = absurd (ne (sym is ∙ kind))

    go : (p : Phase) → r ≡ request_in p priority size len byte tid → Is p
    go Making e = other Making create_kind (ap (λ (r : Request). r.kind) e) (λ z. omega arith)
    go Made e = other Made receive_kind (ap (λ (r : Request). r.kind) e) (λ z. omega arith)
    go (Writing k) e = other (Writing k) own_write_kind (ap (λ (r : Request). r.kind) e) (λ z. omega arith)
    go (Replying k) e =
        by_test (ltb k len)
        (λ more. let here = rw more at e in
        (k, refl, ltb-true k len more, here ∙ ap (λ (x : ℕ). ask reply_kind x size size) (sym (ap (λ (q : Request). q.arg0) here))))
        (λ done. other (Replying k) receive_kind (ap (λ (r : Request). r.kind) (rw done at e)) (λ z. omega arith))
    go Listening e = other Listening receive_kind (ap (λ (r : Request). r.kind) e) (λ z. omega arith)

-- one Reply, in a world in which the server serves
one_reaches : {M : Type 0} (sv : Service M) (fits : Fits sv) {n g : ℕ} (w : World (Serving M)) (r : Request) (b : Buffer) → Serves sv n g w
    → asks_now g w r ≡ true → r ≡ request sv w.state → r.kind ≡ reply_kind
    → 1 ≤ r.arg0 → (task_at w.table (slot_named r.arg0)).state ≡ ReplyBlocked b → sv.size ≤ b.len
    → Gets (slot_named r.arg0) (Value 0 false sv.size) (decided w r)
    × (bytes_in r.arg0 b.start sv.size (areas_after w r) ≡ w.state.answer)
unfolding refusal_of
one_reaches sv fits {n} {g} w r b serves asks same kind some blocked enough =
    let t = w.table in
    let q = w.state in
    let size = sv.size in
    let x = slot_named r.arg0 in
    let at = place q.phase in
    let (k, phase, low, is) = reply_phase q.phase q.priority size (length q.to) (get_or q.answer at 0) (get_or q.to at 0) r same kind in
    let (here, mine) = slot_of_lem t g serves.least (eqb-true (active_tid t) g (both_true _ _ asks).0) in
    let entry : is_entry t r ≡ true = rw (kind, lt-ltb (active_slot t) (slots t) here) in
    let start : r.arg1 ≡ size = ap (λ (q : Request). q.arg1) is in
    let len : r.arg2 ≡ size = ap (λ (q : Request). q.arg2) is in
    let replied : is_replied_to t r x ≡ true =
    rw (kind, eq-eqb r.arg0 (tid_of x) (sym (tid_named r.arg0 some)), blocked, start, len) (le-leb (size + size) area_bytes fits.room) in
    let reach = reply_reaches n t r w.areas x b serves.steps entry replied blocked in
    let least : min r.arg2 b.len ≡ size = omega (arith, len) in
    let whole : ltb b.len r.arg2 ≡ false = le-ltb b.len r.arg2 (omega (arith, len)) in
    let given : bytes_at (active_slot t) r.arg1 (min r.arg2 b.len) w.areas ≡ bytes_in g size size w.areas = rw (least, start, ← mine) in (
      subst (λ (o : Outcome). Gets x o (decided w r)) (λ i. Value 0 (whole i) (len i)) reach.gets,
      ap (λ (m : ℕ). bytes_in r.arg0 b.start m (areas_after w r)) (sym least) ∙ reach.bytes ∙ given
          ∙ answer_stands sv fits w serves k phase low,
    )

pub answer_reaches_lem : {M : Type 0} (sv : Service M) → Fits sv → AnswerReaches sv
answer_reaches_lem sv fits n g w rs rs' r b begins obeys obeys' some blocked enough never asks same kind =
    let m = serving sv in
    let asleep = ended m g w rs in
    let x = slot_named r.arg0 in
    let serves = serves_ended sv fits rs w (begins_serves sv fits begins) obeys in
    let whole = tid_named r.arg0 some in
    let stays = stays_reply_blocked n asleep.table asleep.areas rs' x b serves.steps blocked (rw whole never) in
    let still : (task_at (ended m g asleep rs').table x).state ≡ ReplyBlocked b =
    rw (a_world_is_a_run m g asleep rs').0 (ap (λ (y : Task). y.state) stays ∙ blocked) in
    one_reaches sv fits (ended m g asleep rs') r b (serves_ended sv fits rs' asleep serves obeys') asks same kind some still enough
