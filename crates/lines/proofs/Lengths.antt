-- How long a line can be, and that a text which fits is there whole.
use Rattle.std.proofs.Common.{◌≡◌, ℕ, zero, suc, ◌+◌, ◌-◌, ◌*◌, ◌/◌, ◌%◌, ◌^◌, ◌<◌, ◌≤◌, Bool, true, false, eqb, List, [], ◌∷◌, ◌++◌, length, get_or, take, drop, sym, arith, length-append, length-take-le, take_at, rules, le-ltb, lt-ltb, eq-eqb, ne_eqb}
use mir.Val.{Val}
use denote.Shadow.{shadow}
use denote.Array.{each}
use native.Mathlib.Omega.{pow_step}
use native.Mathlib.Decide.{dec_lt}
use lib.Seq.{sets-eq}
use Rattle.queue.specs.Choose.{choose}
use Rattle.task.specs.declared.task.Outcome.{Outcome}
use Rattle.task.specs.declared.task.Outcome.TheVariants.{Nothing, Value, Fault}
use Rattle.task.specs.declared.task.State.{State}
use Rattle.task.specs.declared.task.State.TheVariants.{Unused, Active, Ready, SendBlocked, ReceiveBlocked, ReplyBlocked, EventBlocked, Exited}
use Rattle.task.specs.declared.task.Task.{Task}
use Rattle.task.specs.contracts.task.Outcome as OutcomeKept
use Rattle.task.specs.contracts.task.Task as TaskKept
use Rattle.kernel.specs.contracts.table.Answer as AnswerKept
use Rattle.kernel.specs.contracts.table.Effect as EffectKept
use Rattle.kernel.specs.contracts.table.Table as TableKept
use Rattle.kernel.proofs.Owned.{owned_shaped}
use Rattle.queue.proofs.Below.{first_below_lem}
use Rattle.tid.specs.Sizes.{slot_count}
use Rattle.task.specs.Task.{first_negative, state_code, no_task}
use Rattle.task.specs.Result.{negated, bit}
use Rattle.kernel.specs.declared.table.Answer.{Answer}
use Rattle.kernel.specs.declared.table.Table.{Table}
use Rattle.kernel.specs.Table.{task_at, used_slots}
use Rattle.kernel.specs.declared.table.Effect.{Effect}
use Rattle.kernel.specs.declared.table.Effect.TheVariants.{Keep, Copy, Put}
use Rattle.lines.specs.Text.{Appended, digits, decimal, signed}
use Rattle.task.proofs.Tests.{chosen}
use Rattle.image.specs.Call.{request_length}
use Rattle.lines.specs.Line.{verdict_text, result_text, answer_text, step_text, longest, end_line}
use Rattle.lines.specs.State.{effect_text, task_text, tasks_text, longest_wide}
use Rattle.lines.specs.Block.{end_of, room_for}

digits_size : (k m n : ℕ) → n < 10 ^ suc m → length (digits k n) ≤ suc m
unfolding digits
digits_size zero m n h = omega arith
digits_size (suc k) zero n h = rw (lt-ltb n 10 (omega arith)) (omega arith)
digits_size (suc k) (suc m) n h = elim (dec_lt n 10) [
  | yes l ↦ rw (lt-ltb n 10 l) (omega arith)
  | no ge ↦
      let rest : n / 10 < 10 ^ suc m = omega (arith, pow_step 10 (suc m)) in
      rw (le-ltb n 10 (omega arith), length-append) (omega (arith, digits_size k m (n / 10) rest))
]

-- a number below 10^(m + 1) has at most m + 1 digits
pub decimal_size : (m n : ℕ) → n < 10 ^ suc m → length (decimal n) ≤ suc m
decimal_size m n h = digits_size n m n h

signed_size : (w : ℕ) → w < 2 ^ 32 → length (signed w) ≤ 11
unfolding signed
signed_size w h = elim (dec_lt w first_negative) [
  | yes l ↦ rw (lt-ltb w first_negative l) (omega (arith, decimal_size 9 w (omega arith)))
  | no ge ↦ rw (le-ltb w first_negative (omega arith)) (omega (arith, decimal_size 9 (2 ^ 32 - w) (omega arith)))
]

verdict_size : (v : ℕ) → v < 256 → length (verdict_text v) ≤ 4
unfolding verdict_text
verdict_size v h = elim (dec_lt 0 v) [
  | yes l ↦ rw (ne_eqb v 0 (λ e. omega arith)) (omega (arith, decimal_size 2 v (omega arith)))
  | no ge ↦ rw (eq-eqb v 0 (omega arith)) (omega arith)
]

bit_size : (b : Bool) → length (decimal (bit b)) ≤ 1
bit_size true = decimal_size 0 1 (omega arith)
bit_size false = decimal_size 0 0 (omega arith)

-- the numbers of a result, of an answer and of an effect that a function owns fit their types
result_size : (o : Outcome) (vs : List Val) → shadow (OutcomeKept.the_row.own_val o vs) → length (result_text o) ≤ 19
unfolding result_text
result_size Nothing vs h = omega arith
result_size (Value from cut value) vs h =
    let few : from < 256 = search rules in
    let word : value < 2 ^ 32 = search rules in
    simp length-append (omega (arith, signed_size value word, decimal_size 2 from (omega arith), bit_size cut))
result_size (Fault f) vs h = omega (arith, signed_size (negated f) (omega arith))

pub answer_size : (a : Answer) (vs : List Val) → shadow (AnswerKept.the_row.own_val a vs) → length (answer_text a) ≤ 28
unfolding answer_text
answer_size a vs h =
    let verdict : a.verdict < 256 = search rules in
    let next : a.next < 256 = search rules in
    let result : length (result_text a.result) ≤ 19 = search (rules, result_size) in
    simp length-append (omega (arith, verdict_size a.verdict verdict, decimal_size 2 a.next (omega arith)))

pub step_size : (step kind : ℕ) (a : Answer) → step < 2 ^ 64 → kind < 2 ^ 32 → length (answer_text a) ≤ 28 → length (step_text step kind a) < longest
unfolding step_text
step_size step kind a h l g =
    simp length-append (omega (arith, decimal_size 19 step (omega arith), signed_size kind l))

pub effect_size : (e : Effect) (vs : List Val) → shadow (EffectKept.the_row.own_val e vs) → length (effect_text e) ≤ 66
unfolding effect_text
effect_size Keep vs h = omega arith
effect_size (Copy source dest n cut) vs h =
    let of : (k : ℕ) → k < 2 ^ 64 → length (decimal k) ≤ 20 = λ k less. decimal_size 19 k (omega arith) in
    simp length-append (omega (arith, of source (search rules), of dest (search rules), of n (search rules), bit_size cut))
effect_size (Put at byte) vs h = omega (arith, decimal_size 19 at (search rules))

state_size : (st : State) → state_code st < 10
state_size Unused = omega arith
state_size Active = omega arith
state_size Ready = omega arith
state_size (SendBlocked _) = omega arith
state_size (ReceiveBlocked _ _ _) = omega arith
state_size (ReplyBlocked _) = omega arith
state_size (EventBlocked _) = omega arith
state_size Exited = omega arith

-- the text of a task, and of each task of a table
task_size : (x : Task) (vs : List Val) → shadow (TaskKept.the_row.own_val x vs) → length (task_text x) ≤ 19
task_size x vs h =
    let priority : x.priority < 256 = search rules in
    let entry : x.entry < 2 ^ 32 = search rules in
    let state : length (decimal (state_code x.state)) ≤ 1 = decimal_size 0 (state_code x.state) (omega (arith, state_size x.state)) in
    simp length-append (omega (arith, decimal_size 2 x.priority (omega arith), decimal_size 9 x.entry (omega arith)))

each_size : (xs : List Task) (us : List Val) → shadow (each _ TaskKept.the_row.own_val xs us)
    → (s : ℕ) → s < length xs → length (task_text (get_or xs s no_task)) ≤ 19
each_size [] us h s l = absurd (omega arith)
each_size (x ∷ xs) [] h s l = absurd h
each_size (x ∷ xs) (u ∷ us) h zero l = task_size x (u ∷ []) h.0
each_size (x ∷ xs) (u ∷ us) h (suc s) l = each_size xs us h.1 s (omega arith)

tasks_size : (t : Table) → ((s : ℕ) → s < slot_count → length (task_text (task_at t s)) ≤ 19) → (k : ℕ) → k ≤ slot_count → length (tasks_text t k) ≤ 19 * k
unfolding tasks_text
tasks_size t each zero h = omega arith
tasks_size t each (suc k) h = rw length-append (omega (arith, tasks_size t each k (omega arith), each k (omega arith)))

pub table_size : (t : Table) (vs : List Val) → shadow (TableKept.the_row.own_val t vs) → length (tasks_text t (used_slots t)) ≤ 19 * slot_count
unfolding used_slots
table_size t vs h =
    let tasks = h.1.1.1.0 in
    let size : length t.tasks ≡ slot_count = (owned_shaped t vs h).tasks in
    let most : used_slots t ≤ slot_count = rw size (first_below_lem slot_count _).most in
    omega (arith, tasks_size t (λ s l. each_size t.tasks tasks.0 tasks.1.1 s (omega arith)) (used_slots t) most)

pub end_size : (wide : Bool) (count : ℕ) → length (end_of count) ≤ choose wide longest_wide longest
unfolding end_of end_line verdict_text digits
end_size wide count =
    let most : longest ≤ choose wide longest_wide longest = chosen (λ (m : ℕ). longest ≤ m) wide (λ e. omega arith) (λ e. omega arith) in
    chosen (λ (x : List ℕ). length x ≤ choose wide longest_wide longest) (eqb (count % request_length) 0) (λ e. omega arith) (λ e. omega arith)

-- room for wide lines is room for lines
pub wide_room : (wide : Bool) (count : ℕ) → room_for wide count ≤ longest_wide * (count / request_length + 1)
wide_room true count = omega arith
wide_room false count = omega arith

behind : {before after text : List ℕ} {at end : ℕ} → Appended before at text after end → at + length text ≤ length before
    → take end after ≡ take at before ++ text
behind {before} {after} {text} {at} {end} p fits =
    let last : end ≡ at + length text = omega (arith, p.ended) in
    let size : length (take at before ++ text) ≡ end = rw (length-append, length-take-le at before (omega arith)) (sym last) in
    rw (p.stored, sets-eq text before at fits) (take_at (take at before ++ text) (drop (at + length text) before) end size)

-- a text that fits an empty buffer is not cut
pub whole : {before after text : List ℕ} {at end : ℕ} → Appended before at text after end → at ≡ 0 → length text ≤ length before
    → take end after ≡ text
whole {before} {after} {text} {at} {end} p none fits = rw none at (behind p (omega arith))
