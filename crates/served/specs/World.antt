-- A kernel in which one task is a machine: the kernel goes by `step`, and the task with tid g asks what the machine says. All others ask what
-- they like, and events come when they like.
use Rattle.std.specs.Prelude.{ℕ, ◌≡◌, Bool, true, not, ◌&&◌, List, [], ◌∷◌, length, eqb}
use Rattle.queue.specs.Choose.{choose}
use Rattle.tid.specs.Sizes.{area_bytes}
use Rattle.tid.specs.Tid.{slot_named}
use Rattle.kernel.specs.declared.table.Table.{Table}
use Rattle.kernel.specs.declared.table.Request.{Request}
use Rattle.kernel.specs.declared.table.Decision.{Decision}
use Rattle.kernel.specs.Numbers.{event_kind}
use Rattle.kernel.specs.Decide.{active_tid}
use Rattle.step.specs.Step as Step
use Rattle.laws.specs.View.{bytes_at}
use Rattle.server.specs.Service.{Machine}

-- the kernel's table and areas, and what the machine keeps
pub record World (S : Type 0) : Type 0 where
  pub table : Table
  pub areas : List ℕ
  pub state : S

-- n bytes of the area of the task that a tid names, from an offset on
abbrev pub bytes_in : ℕ → ℕ → ℕ → List ℕ → List ℕ
bytes_in g offset n areas = bytes_at (slot_named g) offset n areas

-- all of it
abbrev pub area_of : ℕ → List ℕ → List ℕ
area_of g areas = bytes_in g 0 area_bytes areas

module _ {S : Type 0} where
  abbrev pub decided : World S → Request → Decision
  decided w r = Step.step w.table r (length w.areas)

  abbrev pub areas_after : World S → Request → List ℕ
  areas_after w r = Step.after (decided w r).effect w.areas

  -- whether it is the machine that asks: its task is active, and it is no event of the hardware
  abbrev pub asks_now : ℕ → World S → Request → Bool
  asks_now g w r = eqb (active_tid w.table) g && not (eqb r.kind event_kind)

  -- whether it runs next
  abbrev pub runs_next : ℕ → World S → Request → Bool
  runs_next g w r = eqb (decided w r).answer.next g

module _ {S : Type 0} (m : Machine S) (g : ℕ) where
  -- what the machine keeps once it has asked, if it is the one that asks
  abbrev pub state_asked : World S → Request → S
  state_asked w r = choose (asks_now g w r) (m.asked w.state) w.state

  -- one step: the kernel's, and the machine is told what is shown if its task runs next
  unfoldable pub advanced : World S → Request → World S
  advanced w r =
      record {
        table = (decided w r).table;
        areas = areas_after w r;
        state =
            choose (runs_next g w r)
            (m.told (state_asked w r) (decided w r).answer.result (area_of g (areas_after w r)))
            (state_asked w r);
      }

  -- the world after a list of requests; its table and areas are those of the kernel's run (`AWorldIsARun`)
  unfoldable pub ended : World S → List Request → World S
  ended w [] = w
  ended w (r ∷ rs) = ended (advanced w r) rs

  -- whenever its task asks, it asks what the machine says
  unfoldable pub Obeys : World S → List Request → Type 0
  Obeys w [] = Unit
  Obeys w (r ∷ rs) = (asks_now g w r ≡ true → r ≡ m.request w.state) × Obeys (advanced w r) rs
