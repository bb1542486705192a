-- A start that was accepted wrote the image of a fresh kernel, which keeps the rules.
use mathlib.Core.Path.{◌≡◌}
use mathlib.Core.List.{List}
use native.Mathlib.Omega.{arith}
use Prim.Native.Nat.{ℕ}
use Rattle.tid.specs.Sizes.{slot_count}
use Rattle.rules.specs.Facts.{Good}
use Rattle.rules.proofs.Fresh.{fresh_good}
use Rattle.image.specs.Image.{image_of}
use Rattle.entry.proofs.Starts.{start_known, start_fresh}
use Rattle.calls.specs.Laws.{Setting, start_of, Started, fresh_of}

pub good_start : (k : Setting) (bytes : List ℕ) → Started k bytes → Good slot_count (fresh_of k) × ((start_of k bytes).image ≡ image_of (fresh_of k))
good_start k bytes started =
    let known = start_known slot_count k.edition k.priority k.entry bytes started in
    let (low, made) = start_fresh slot_count k.edition k.priority k.entry bytes started in
    (fresh_good slot_count k.edition k.priority k.entry known (omega arith) low, made)
