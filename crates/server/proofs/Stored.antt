-- Words written into bytes, one after another.
use Prim.Native.Nat.{ℕ, ◌+◌, ◌≤◌}
use mathlib.Core.Path.{◌≡◌, refl, ◌∙◌, ap}
use mathlib.Core.Bool.{true}
use mathlib.Core.List.{List, [], ◌++◌, append-nil}
use native.Mathlib.Omega.{arith}
use lib.ListN.{length, drop, length-append, length-drop, drop_of_length-le}
use lib.Dec.{leb}
use borrow.Author.Tests.{le-leb}
use Rattle.kernel.specs.declared.table.Request.{Request}
use Rattle.image.specs.Bytes.{bytes_of}
use Rattle.image.specs.Call.{request_length}
use Rattle.image.proofs.Made.{paste_next}
use Rattle.server.specs.Records.{with_word, request_bytes}

-- a word behind those that are written
pub next_word : (done rest out : List ℕ) (at x : ℕ) → length done ≡ at → 4 ≤ length rest → out ≡ done ++ rest
    → with_word out at x ≡ (done ++ bytes_of 4 x) ++ drop 4 rest
next_word done rest out at x size room e =
    let fits : leb (at + 4) (length (done ++ rest)) ≡ true = le-leb (at + 4) (length (done ++ rest)) (simp length-append (omega arith)) in
    rw (e, fits) (paste_next done rest (bytes_of 4 x) at 4 size refl)

-- six words written one after another are a request's bytes
pub request_made : (r : Request) (out o₁ o₂ o₃ o₄ o₅ o₆ : List ℕ) → length out ≡ request_length
    → o₁ ≡ with_word out 0 r.kind
    → o₂ ≡ with_word o₁ 4 r.arg0
    → o₃ ≡ with_word o₂ 8 r.arg1
    → o₄ ≡ with_word o₃ 12 r.arg2
    → o₅ ≡ with_word o₄ 16 r.arg3
    → o₆ ≡ with_word o₅ 20 r.arg4
    → o₆ ≡ request_bytes r
unfolding request_bytes
request_made r out o₁ o₂ o₃ o₄ o₅ o₆ size e₁ e₂ e₃ e₄ e₅ e₆ =
    let one = bytes_of 4 r.kind in
    let two = one ++ bytes_of 4 r.arg0 in
    let three = two ++ bytes_of 4 r.arg1 in
    let four = three ++ bytes_of 4 r.arg2 in
    let five = four ++ bytes_of 4 r.arg3 in
    let six = five ++ bytes_of 4 r.arg4 in
    let h₁ = e₁ ∙ next_word [] out out 0 r.kind refl (omega arith) refl in
    let h₂ = e₂ ∙ next_word one (drop 4 out) o₁ 4 r.arg0 refl (simp length-drop (omega arith)) h₁ in
    let h₃ = e₃ ∙ next_word two (drop 4 (drop 4 out)) o₂ 8 r.arg1 refl (simp length-drop (omega arith)) h₂ in
    let h₄ = e₄ ∙ next_word three (drop 4 (drop 4 (drop 4 out))) o₃ 12 r.arg2 refl (simp length-drop (omega arith)) h₃ in
    let h₅ = e₅ ∙ next_word four (drop 4 (drop 4 (drop 4 (drop 4 out)))) o₄ 16 r.arg3 refl (simp length-drop (omega arith)) h₄ in
    let rest = drop 4 (drop 4 (drop 4 (drop 4 (drop 4 out)))) in
    let h₆ = e₆ ∙ next_word five rest o₅ 20 r.arg4 refl (simp length-drop (omega arith)) h₅ in
    let last : length rest ≤ 4 = simp length-drop (omega arith) in
    h₆ ∙ ap (λ (d : List ℕ). six ++ d) (drop_of_length-le rest {i = 4} last) ∙ append-nil six
