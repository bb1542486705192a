-- Each exported function's own promise leaves no choice: see `Determines` in tid/specs/Determined.antt. The bytes that are lent to be
-- written are part of the result: of the parameters at exit, s.0, s.1.0 and so on, the state and the room for a request or an outcome.
use Rattle.std.proofs.Common.{ℕ, List, ap}
use mathlib.Core.Path.{◌∙⁻¹◌}
use Rattle.tid.specs.Determined.{Determines}
use Rattle.clock_tasks.specs.Calls.{Kept, Written}
use Rattle.clock_tasks_c.proofs.clock_start.Reads as clock_start
use Rattle.clock_tasks_c.proofs.clock_asks.Reads as clock_asks
use Rattle.clock_tasks_c.proofs.clock_told.Reads as clock_told
use Rattle.clock_tasks_c.proofs.notifier_start.Reads as notifier_start
use Rattle.clock_tasks_c.proofs.notifier_asks.Reads as notifier_asks
use Rattle.clock_tasks_c.proofs.notifier_told.Reads as notifier_told
use Rattle.clock_tasks_c.proofs.client_start.Reads as client_start
use Rattle.clock_tasks_c.proofs.client_asks.Reads as client_asks
use Rattle.clock_tasks_c.proofs.client_told.Reads as client_told
use Rattle.clock_tasks_c.proofs.client_outcome.Reads as client_outcome

-- the state and the request
abbrev Two : Type 0
Two = List ℕ × List ℕ

-- THE CLOCK

clock_start_determined : (κs : _) (a : _) → Determines (clock_start.Post κs a) (λ s. s.1.0.now)
clock_start_determined κs a r r' s s' p p' =
    let same = p ∙⁻¹ p' in
    (ap (λ (c : Kept). c.verdict) same, ap (λ (c : Kept). c.state) same)

clock_asks_determined : (κs : _) (a : _) → Determines {E = Two} (clock_asks.Post κs a) (λ s. (s.0.now, s.1.0.now))
clock_asks_determined κs a r r' s s' p p' =
    let same = p ∙⁻¹ p' in
    (ap (λ (c : Written). c.verdict) same, ap {B = Two} (λ (c : Written). (c.state, c.out)) same)

clock_told_determined : (κs : _) (a : _) → Determines (clock_told.Post κs a) (λ s. s.0.now)
clock_told_determined κs a r r' s s' p p' =
    let same = p ∙⁻¹ p' in
    (ap (λ (c : Kept). c.verdict) same, ap (λ (c : Kept). c.state) same)

-- THE NOTIFIER

notifier_start_determined : (κs : _) (a : _) → Determines (notifier_start.Post κs a) (λ s. s.1.0.now)
notifier_start_determined κs a r r' s s' p p' =
    let same = p ∙⁻¹ p' in
    (ap (λ (c : Kept). c.verdict) same, ap (λ (c : Kept). c.state) same)

notifier_asks_determined : (κs : _) (a : _) → Determines {E = Two} (notifier_asks.Post κs a) (λ s. (s.0.now, s.1.0.now))
notifier_asks_determined κs a r r' s s' p p' =
    let same = p ∙⁻¹ p' in
    (ap (λ (c : Written). c.verdict) same, ap {B = Two} (λ (c : Written). (c.state, c.out)) same)

notifier_told_determined : (κs : _) (a : _) → Determines (notifier_told.Post κs a) (λ s. s.0.now)
notifier_told_determined κs a r r' s s' p p' =
    let same = p ∙⁻¹ p' in
    (ap (λ (c : Kept). c.verdict) same, ap (λ (c : Kept). c.state) same)

-- A CALL OF A CLIENT

client_start_determined : (κs : _) (a : _) → Determines (client_start.Post κs a) (λ s. s.1.1.1.1.0.now)
client_start_determined κs a r r' s s' p p' =
    let same = p ∙⁻¹ p' in
    (ap (λ (c : Kept). c.verdict) same, ap (λ (c : Kept). c.state) same)

client_asks_determined : (κs : _) (a : _) → Determines {E = Two} (client_asks.Post κs a) (λ s. (s.0.now, s.1.0.now))
client_asks_determined κs a r r' s s' p p' =
    let same = p ∙⁻¹ p' in
    (ap (λ (c : Written). c.verdict) same, ap {B = Two} (λ (c : Written). (c.state, c.out)) same)

client_told_determined : (κs : _) (a : _) → Determines (client_told.Post κs a) (λ s. s.0.now)
client_told_determined κs a r r' s s' p p' =
    let same = p ∙⁻¹ p' in
    (ap (λ (c : Kept). c.verdict) same, ap (λ (c : Kept). c.state) same)

client_outcome_determined : (κs : _) (a : _) → Determines (client_outcome.Post κs a) (λ s. s.1.0.now)
client_outcome_determined κs a r r' s s' p p' =
    let same = p ∙⁻¹ p' in
    (ap (λ (c : Kept). c.verdict) same, ap (λ (c : Kept). c.state) same)
