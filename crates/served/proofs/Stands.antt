-- Where the server's task stands in the kernel, by the phase of its server.
use Prim.Native.Nat.{ℕ, ◌+◌, ◌≤◌, ◌<◌}
use mathlib.Core.Path.{◌≡◌, refl, sym, ap, ◌∙◌}
use mathlib.Core.Logic.{◌≢◌}
use mathlib.Core.Bool.{Bool, true, false, false≢true}
use mathlib.Core.List.{List, []}
use native.Mathlib.Omega.{arith}
use Rattle.task.specs.declared.task.Outcome.{Outcome}
use Rattle.task.specs.declared.task.Outcome.TheVariants.{Nothing, Value, Fault}
use Rattle.task.specs.declared.task.State.TheVariants.{Active, Ready, SendBlocked}
use Rattle.task.specs.declared.task.Task.{Task}
use Rattle.task.specs.Task.{state_code, message_of, reply_of}
use Rattle.kernel.specs.Decide.{buffer}
use Rattle.server.specs.declared.phase.Phase.{Phase}
use Rattle.server.specs.declared.phase.Phase.TheVariants.{Making, Made, Writing, Replying, Listening}
use Rattle.served.specs.Letters.{read_in}

-- a server in this phase reads no letter, whatever it is told
abbrev pub Unread : Phase → Type 0
Unread p = (size : ℕ) (o : Outcome) (area : List ℕ) → read_in p size o area ≡ []

-- it reads only where it listens
pub elsewhere_unread : (p : Phase) → p ≢ Listening → Unread p
elsewhere_unread Making other size o area = refl
elsewhere_unread Made other size o area = refl
elsewhere_unread (Writing k) other size o area = refl
elsewhere_unread (Replying k) other size o area = refl
elsewhere_unread Listening other size o area = absurd (other refl)

-- whether a server in this phase has something to ask once it is told this
abbrev pub goes_on : Phase → Outcome → Bool
goes_on Making o = true
goes_on Made Nothing = false
goes_on Made (Value from cut v) = true
goes_on Made (Fault f) = true
goes_on (Writing k) o = true
goes_on (Replying k) o = true
goes_on Listening Nothing = false
goes_on Listening (Value from cut v) = true
goes_on Listening (Fault f) = false

-- whatever it is told
abbrev pub busy : Phase → Bool
busy p = goes_on p Nothing

pub busy_goes : (p : Phase) (o : Outcome) → busy p ≡ true → goes_on p o ≡ true
busy_goes Making o b = refl
busy_goes Made o b = absurd (false≢true b)
busy_goes (Writing k) o b = refl
busy_goes (Replying k) o b = refl
busy_goes Listening o b = absurd (false≢true b)

pub busy_unread : (p : Phase) → busy p ≡ true → Unread p
busy_unread p b = elsewhere_unread p (λ e. false≢true (sym (ap busy e) ∙ b))

-- the server's task is not active: it will be told what lets it go on, or it waits for a message
pub data Waits (size : ℕ) (x : Task) (p : Phase) : Type 0 where
  ready : x.state ≡ Ready → goes_on p x.result ≡ true → Waits size x p
  listening : x.state ≡ SendBlocked (buffer 0 size) → p ≡ Listening → Waits size x p

pub data Stands (size : ℕ) (x : Task) (p : Phase) : Type 0 where
  works : x.state ≡ Active → busy p ≡ true → Stands size x p
  rests : Waits size x p → Stands size x p

pub wait_code : {size : ℕ} {x : Task} {p : Phase} → Waits size x p → (2 ≤ state_code x.state) × (state_code x.state ≤ 3)
wait_code (ready e b) = rw e (omega arith, omega arith)
wait_code (listening e l) = rw e (omega arith, omega arith)

pub stand_code : {size : ℕ} {x : Task} {p : Phase} → Stands size x p → 0 < state_code x.state
stand_code (works e b) = rw e (omega arith)
stand_code (rests w) = omega (arith, wait_code w)

-- its buffers end where its answer begins
pub message_ends : {size : ℕ} {x : Task} {p : Phase} → Stands size x p → (message_of x.state).start + (message_of x.state).len ≤ size
message_ends (works e b) = rw e (omega arith)
message_ends (rests (ready e b)) = rw e (omega arith)
message_ends (rests (listening e l)) = rw e (omega arith)

pub reply_ends : {size : ℕ} {x : Task} {p : Phase} → Stands size x p → (reply_of x.state).start + (reply_of x.state).len ≤ size
reply_ends (works e b) = rw e (omega arith)
reply_ends (rests (ready e b)) = rw e (omega arith)
reply_ends (rests (listening e l)) = rw e (omega arith)
