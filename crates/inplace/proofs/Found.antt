-- What a search answers, by the number that stands for it: the place that is found, or the end where none is.
use Rattle.std.proofs.Common.{ℕ, ◌≡◌, ◌<◌, Some}
use Rattle.std.specs.Prelude.{Option, unwrap_or, IfSome}

pub found_at : (m : ℕ) (o : Option ℕ) (s : ℕ) {n : ℕ} → o ≡ Some s → unwrap_or o m ≡ n → s ≡ n
found_at m o s e h = rw e at h

pub found_below : (m : ℕ) (o : Option ℕ) (s : ℕ) → o ≡ Some s → IfSome o (λ k. k < m) → s < m
found_below m o s e h = rw e at h
