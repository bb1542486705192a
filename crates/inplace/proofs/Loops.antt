-- One turn of the loop that closes a queue up.
use Prim.Native.Nat.{ℕ, ◌+◌, ◌<◌}
use mathlib.Core.Path.{◌≡◌, sym, ap, ◌∙◌}
use mathlib.Core.List.{List}
use native.Mathlib.Nat.{le_refl}
use native.Mathlib.Numerals.{add-one}
use native.Mathlib.Omega.{arith}
use Rattle.queue.specs.Choose.{choose}
use Rattle.image.specs.Record.{record_length, at_state, at_place, byte_in, byte_at}
use Rattle.records.specs.Records.{leads_at, up_at, closed_up, head_of}
use Rattle.image.proofs.Bytes.{byte_in_lem}
use Rattle.records.proofs.Records.{closed_later}

-- a slot that was not reached leads where it led
closed_leads : (code at key : ℕ) → at < record_length → (b : List ℕ) (s : ℕ)
    → leads_at code at key (closed_up code at key b s) s ≡ leads_at code at key b s
closed_leads code at key near b s =
    let same : (j : ℕ) → j < record_length → byte_at (closed_up code at key b s) s j ≡ byte_at b s j =
    λ j l. sym (byte_in_lem (closed_up code at key b s) s j l) ∙ ap (λ (r : List ℕ). byte_in r j) (closed_later code at key near b s s (le_refl s)) ∙ byte_in_lem b s j l in
    rw (same at_state (omega arith), same at near, same at_place (omega arith))

-- one slot more is closed up
pub close_more : (code at key none : ℕ) → at < record_length → (b b' b'' : List ℕ) (s h h' : ℕ)
    → b' ≡ closed_up code at key b s → h ≡ head_of code at key none b s
    → b'' ≡ up_at code at key b' s → h' ≡ choose (leads_at code at key b' s) s h
    → (b'' ≡ closed_up code at key b (s + 1)) × (h' ≡ head_of code at key none b (s + 1))
unfolding closed_up head_of
close_more code at key none near b b' b'' s h h' e f g l =
    rw add-one (
      g ∙ ap (λ (x : List ℕ). up_at code at key x s) e,
      l ∙ rw (e, f, closed_leads code at key near b s),
    )
