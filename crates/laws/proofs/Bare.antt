-- Entry numbers decide nothing: the second law of specs/Entries. What is decided of a table and a request that are made bare is what is
-- decided of them, made bare; then along a run.
use Prim.Native.Nat.{ℕ, zero, suc, ◌*◌, ◌<◌}
use mathlib.Core.Path.{◌≡◌, refl, sym, ap, ap₂, ◌∙◌}
use mathlib.Core.Bool.{Bool, true, false, not}
use mathlib.Core.List.{List, [], ◌∷◌, ◌++◌, map}
use native.Mathlib.Omega.{arith}
use lib.ListN.{length, get_or, length-map, get_or-map}
use lib.Dec.{eqb}
use borrow.Author.Tests.{eqb-true}
use Rattle.queue.specs.declared.Queue.{Queue}
use Rattle.queue.specs.Choose.{choose}
use Rattle.queue.specs.Row.{place_at}
use Rattle.queue.proofs.Below.{by_test}
use Rattle.tid.specs.Sizes.{area_bytes}
use Rattle.tid.specs.Tid.{slot_of}
use Rattle.task.specs.declared.task.Buffer.{Buffer}
use Rattle.task.specs.declared.task.Outcome.{Outcome}
use Rattle.task.specs.declared.task.State.{State}
use Rattle.task.specs.declared.task.State.TheVariants.{Ready}
use Rattle.task.specs.declared.task.Task.{Task}
use Rattle.task.specs.Task.{first_negative, no_task}
use Rattle.kernel.specs.declared.table.Table.{Table}
use Rattle.kernel.specs.declared.table.Request.{Request}
use Rattle.kernel.specs.declared.table.Effect.{Effect}
use Rattle.kernel.specs.declared.table.Turn.{Turn}
use Rattle.kernel.specs.declared.table.Decision.{Decision}
use Rattle.kernel.specs.Numbers.{create_kind, my_tid_kind, my_parent_tid_kind, yield_kind, exit_kind, send_kind, receive_kind, reply_kind, await_event_kind, own_write_kind, bad_areas}
use Rattle.kernel.specs.Table.{slots, active_slot, used_slots}
use Rattle.kernel.specs.Moves.{left_as, queued, joined, woken, woken_up_to, rejoined, first_ready, activated, dispatched}
use Rattle.kernel.specs.Turn.{settled}
use Rattle.kernel.specs.Kinds.{create, my_tid, my_parent_tid, yield, exit, send, receive, reply, await_event, event}
use Rattle.kernel.specs.Refusal.{refusal_of}
use Rattle.kernel.specs.Decide.{refused, buffer, turn_of, own_write, decide_at, decide}
use Rattle.rules.specs.Facts.{Good}
use Rattle.rules.proofs.Good.{good_facts, facts_good}
use Rattle.step.specs.Step.{step, after}
use Rattle.step.specs.Run.{Done, run, answers, tables}
use Rattle.laws.specs.Movement.{movement_of, movements_from}
use Rattle.laws.specs.Entries.{bare_task, bare_table, bare_request, EntriesDecideNothing}
use Rattle.kept.proofs.Choices.{through}
use Rattle.laws.proofs.Lists.{map_set}
use Rattle.laws.proofs.Steps.{step_sound}

abbrev bare_turn : Turn → Turn
bare_turn u =
    record { table = bare_table u.table; woken = u.woken; told = u.told; state = u.state; result = u.result; effect = u.effect }

abbrev bare_decision : Decision → Decision
bare_decision d = record { table = bare_table d.table; answer = d.answer; effect = d.effect }

-- THE MOVES

bare_at : (l : List Task) (s : ℕ) → get_or (map bare_task l) s no_task ≡ bare_task (get_or l s no_task)
bare_at l s = get_or-map bare_task l s no_task

used_bare : (t : Table) → used_slots (bare_table t) ≡ used_slots t
unfolding used_slots
used_bare t = simp (length-map, bare_at)

active_bare : (t : Table) → active_slot (bare_table t) ≡ active_slot t
unfolding active_slot
active_bare t = simp (length-map, bare_at)

left_bare : (t : Table) (s : ℕ) (st : State) (o : Outcome) → left_as (bare_table t) s st o ≡ bare_table (left_as t s st o)
left_bare t s st o = simp (bare_at, map_set)

joined_bare : (t : Table) (mark : ℕ) → joined (bare_table t) mark ≡ bare_table (joined t mark)
unfolding joined queued
joined_bare t mark = simp bare_at

woken_bare : (t : Table) (mark : ℕ) (o : Outcome) → woken (bare_table t) mark o ≡ bare_table (woken t mark o)
unfolding woken
woken_bare t mark o = rw (left_bare t (slot_of mark) Ready o) (joined_bare (left_as t (slot_of mark) Ready o) mark)

row_bare : (t : Table) (q : Queue) (o : Outcome) (i : ℕ) → woken_up_to (bare_table t) q o i ≡ bare_table (woken_up_to t q o i)
unfolding woken_up_to
row_bare t q o zero = refl
row_bare t q o (suc i) = rw (row_bare t q o i) (woken_bare (woken_up_to t q o i) (place_at q i) o)

rejoined_bare : (t : Table) (c : ℕ) (st : State) (o : Outcome) → rejoined (bare_table t) c st o ≡ bare_table (rejoined t c st o)
unfolding rejoined
rejoined_bare t c st o = simp (through bare_table, length-map, left_bare, joined_bare)

dispatched_bare : (e : Effect) (t : Table) → dispatched e (bare_table t) ≡ bare_decision (dispatched e t)
unfolding dispatched first_ready activated
dispatched_bare e t = simp (through bare_decision, bare_at, map_set)

settled_bare : (c : ℕ) (u : Turn) → settled c (bare_turn u) ≡ bare_decision (settled c u)
unfolding settled
settled_bare c u = simp (row_bare, rejoined_bare, dispatched_bare)

-- THE KINDS

-- the first turn is the second, made bare
record Bared (u' u : Turn) : Type 0 where
  same : u' ≡ bare_turn u

create_bare : (t : Table) (c p e : ℕ) → Bared (create (bare_table t) c p 0) (create t c p e)
unfolding create
create_bare t c p e = record { same = simp (through bare_turn, length-map, map_set, used_bare) }

send_bare : (t : Table) (c g : ℕ) (m r : Buffer) → Bared (send (bare_table t) c g m r) (send t c g m r)
unfolding send queued
send_bare t c g m r = record { same = simp (through bare_turn, bare_at) }

receive_bare : (t : Table) (c : ℕ) (b : Buffer) → Bared (receive (bare_table t) c b) (receive t c b)
unfolding receive
receive_bare t c b = record { same = simp (through bare_turn, bare_at, map_set) }

reply_bare : (t : Table) (c g : ℕ) (b : Buffer) → Bared (reply (bare_table t) c g b) (reply t c g b)
unfolding reply
reply_bare t c g b = record { same = simp (through bare_turn, bare_at) }

await_bare : (t : Table) (c e : ℕ) → Bared (await_event (bare_table t) c e) (await_event t c e)
unfolding await_event queued
await_bare t c e = record { same = simp (through bare_turn) }

parent_bare : (t : Table) (c : ℕ) → Bared (my_parent_tid (bare_table t) c) (my_parent_tid t c)
unfolding my_parent_tid
parent_bare t c = record { same = simp bare_at }

also : {x y x' y' : Turn} (b : Bool) → Bared x' x → Bared y' y → Bared (choose b x' y') (choose b x y)
also true e f = e
also false e f = f

turn_bare : (t : Table) (c : ℕ) (r : Request) → Bared (turn_of (bare_table t) c (bare_request r)) (turn_of t c r)
unfolding turn_of my_tid yield exit event
turn_bare t c r =
    let k = r.kind in
    by_test (eqb k create_kind) (λ made. rw (eqb-true k create_kind made) (create_bare t c r.arg0 r.arg1))
    (λ other. rw (other, other)
    (also (eqb k my_tid_kind) (record { same = refl })
    (also (eqb k my_parent_tid_kind) (parent_bare t c)
    (also (eqb k yield_kind) (record { same = refl })
    (also (eqb k exit_kind) (record { same = refl })
    (also (eqb k send_kind) (send_bare t c r.arg0 (buffer r.arg1 r.arg2) (buffer r.arg3 r.arg4))
    (also (eqb k receive_kind) (receive_bare t c (buffer r.arg0 r.arg1))
    (also (eqb k reply_kind) (reply_bare t c r.arg0 (buffer r.arg1 r.arg2))
    (also (eqb k await_event_kind) (await_bare t c r.arg0) (record { same = refl }))))))))))

-- THE DECISION

refusal_bare : (n a : ℕ) (r : Request) → refusal_of n a (bare_request r) ≡ refusal_of n a r
unfolding refusal_of
refusal_bare n a r = by_test (eqb r.kind create_kind) (λ made. rw (eqb-true r.kind create_kind made)) (λ other. rw other)

-- an own write is no Create
write_bare : (t : Table) (a : ℕ) (r : Request) (d : Decision) → let q = bare_request r in
    choose (eqb q.kind own_write_kind) (own_write (bare_table t) a q.arg0 q.arg1) (bare_decision d)
    ≡ bare_decision (choose (eqb r.kind own_write_kind) (own_write t a r.arg0 r.arg1) d)
unfolding own_write
write_bare t a r d =
    by_test (eqb r.kind create_kind) (λ made. rw (eqb-true r.kind create_kind made)) (λ other. rw other (simp (through bare_decision)))

decide_bare : (t : Table) (r : Request) → decide (bare_table t) (bare_request r) ≡ bare_decision (decide t r)
unfolding decide decide_at
decide_bare t r =
    let a = active_slot t in
    rw (active_bare t, length-map, refusal_bare, (turn_bare t a r).same, settled_bare, write_bare) (simp (through bare_decision))

-- A STEP

-- a step of a good table, which is not checked
unfoldable trusting : Table → Request → ℕ → Decision
trusting t r len = choose (not (eqb len (slots t * area_bytes))) (refused t bad_areas 0) (decide t r)

trusting_bare : (t : Table) (r : Request) (len : ℕ) → trusting (bare_table t) (bare_request r) len ≡ bare_decision (trusting t r len)
unfolding trusting
trusting_bare t r len = simp (through bare_decision, length-map, decide_bare)

step_trusts : {n : ℕ} {t : Table} → Good n t → (r : Request) (len : ℕ) → step t r len ≡ trusting t r len
unfolding step trusting
step_trusts {n} {t} good r len = rw (good.edition, facts_good n t good)

step_bare : {n : ℕ} {t : Table} → Good n t → (r : Request) (len : ℕ) → bare_decision (step t r len) ≡ trusting (bare_table t) (bare_request r) len
step_bare {n} {t} good r len = ap bare_decision (step_trusts good r len) ∙ sym (trusting_bare t r len)

-- ALONG A RUN

-- as AlikeButEntries, with the movements from any number on
record Along (u v : List Done) : Type 0 where
  answered : answers u ≡ answers v
  tabled : map bare_table (tables u) ≡ map bare_table (tables v)
  moved : (k : ℕ) → movements_from k u ≡ movements_from k v
  changed : map (λ s. s.areas) u ≡ map (λ s. s.areas) v

module _ {n : ℕ} (small : n < first_negative) where
  run_alike : (rs rs' : List Request) (t t' : Table) (xs xs' : List ℕ) → Good n t → Good n t' → bare_table t ≡ bare_table t'
      → map bare_request rs ≡ map bare_request rs' → xs ≡ xs' → Along (run t xs rs) (run t' xs' rs')
  unfolding run movements_from
  run_alike [] [] t t' xs xs' good good' same asked areas = record { answered = refl; tabled = refl; moved = λ k. refl; changed = refl }
  run_alike [] (r ∷ rs) t t' xs xs' good good' same asked areas = let z : ◌≡◌ {A = ℕ} 0 1 = cc in absurd (omega arith)
  run_alike (r ∷ rs) [] t t' xs xs' good good' same asked areas = let z : ◌≡◌ {A = ℕ} 0 1 = cc in absurd (omega arith)
  run_alike (r ∷ rs) (r' ∷ rs') t t' xs xs' good good' same asked areas =
      let d = step t r (length xs) in
      let d' = step t' r' (length xs') in
      let first : bare_request r ≡ bare_request r' = cc in
      let rest : map bare_request rs ≡ map bare_request rs' = cc in
      let alike : bare_decision d ≡ bare_decision d' =
      step_bare good r (length xs) ∙ (rw (same, first, areas)) ∙ sym (step_bare good' r' (length xs')) in
      let after_both : after d.effect xs ≡ after d'.effect xs' = ap₂ (λ (d : Decision) (xs : List ℕ). after d.effect xs) alike areas in
      let later = run_alike rs rs' d.table d'.table (after d.effect xs) (after d'.effect xs')
      (step_sound small t r (length xs) good).good (step_sound small t' r' (length xs') good').good
      (ap (λ (d : Decision). d.table) alike) rest after_both in
      record {
        answered = ap₂ ◌∷◌ (ap (λ (d : Decision). d.answer) alike) later.answered;
        tabled = ap₂ ◌∷◌ (ap (λ (d : Decision). d.table) alike) later.tabled;
        moved = λ k. ap₂ ◌++◌ (ap (λ (d : Decision). movement_of k d.effect) alike) (later.moved (suc k));
        changed = ap₂ ◌∷◌ after_both later.changed;
      }

pub entries_decide_nothing : EntriesDecideNothing
entries_decide_nothing n t t' xs rs rs' small shaped shaped' good good' same asked =
    let all = run_alike small rs rs' t t' xs xs (good_facts n t shaped good) (good_facts n t' shaped' good') same asked refl in
    record { same_answers = all.answered; same_tables = all.tabled; same_movements = all.moved 1; same_areas = all.changed }
