-- An own write is decided of by what it asks for.
use mathlib.Core.Path.{◌≡◌, sym, ap}
use mathlib.Core.Bool.{Bool, true, false, true≢false}
use Prim.Native.Nat.{ℕ}
use lib.Dec.{eqb}
use Rattle.std.proofs.Common.{Ok, Err}
use Rattle.std.specs.Prelude.{Result}
use Rattle.queue.specs.Choose.{choose}
use Rattle.queue.proofs.Below.{by_test}
use Rattle.kernel.specs.declared.table.Request.{Request}
use Rattle.kernel.specs.declared.call.Call.{Call}
use Rattle.kernel.specs.declared.call.Call.TheVariants as C
use Rattle.kernel.specs.declared.refusal.Refusal.{Refusal}
use Rattle.kernel.specs.Call.{call_of}

abbrev is_own : Result Call Refusal → Bool
is_own (Ok (C.Entry e)) = false
is_own (Ok (C.OwnWrite o b)) = true
is_own (Err f) = false

abbrev own_of : {A : Type 0} → (ℕ → ℕ → A) → A → Result Call Refusal → A
own_of f x (Ok (C.Entry e)) = x
own_of f x (Ok (C.OwnWrite o b)) = f o b
own_of f x (Err e) = x

-- what an own write is asked for
pub own_by : {A : Type 0} (f : ℕ → ℕ → A) (x : A) (r : Request) (o b : ℕ) → call_of r ≡ Ok (C.OwnWrite o b)
    → choose (eqb r.kind 11) (f r.arg0 r.arg1) x ≡ f o b
own_by f x r o b h =
    let g : own_of f x (call_of r) ≡ f o b = ap (own_of f x) h in
    let w : is_own (call_of r) ≡ true = ap is_own h in
    by_test (eqb r.kind 1) (λ y. absurd (true≢false (sym (rw (y) at w)))) (λ n1.
    by_test (eqb r.kind 2) (λ y. absurd (true≢false (sym (rw (n1, y) at w)))) (λ n2.
    by_test (eqb r.kind 3) (λ y. absurd (true≢false (sym (rw (n1, n2, y) at w)))) (λ n3.
    by_test (eqb r.kind 4) (λ y. absurd (true≢false (sym (rw (n1, n2, n3, y) at w)))) (λ n4.
    by_test (eqb r.kind 5) (λ y. absurd (true≢false (sym (rw (n1, n2, n3, n4, y) at w)))) (λ n5.
    by_test (eqb r.kind 6) (λ y. absurd (true≢false (sym (rw (n1, n2, n3, n4, n5, y) at w)))) (λ n6.
    by_test (eqb r.kind 7) (λ y. absurd (true≢false (sym (rw (n1, n2, n3, n4, n5, n6, y) at w)))) (λ n7.
    by_test (eqb r.kind 8) (λ y. absurd (true≢false (sym (rw (n1, n2, n3, n4, n5, n6, n7, y) at w)))) (λ n8.
    by_test (eqb r.kind 9) (λ y. absurd (true≢false (sym (rw (n1, n2, n3, n4, n5, n6, n7, n8, y) at w)))) (λ n9.
    by_test (eqb r.kind 10) (λ y. absurd (true≢false (sym (rw (n1, n2, n3, n4, n5, n6, n7, n8, n9, y) at w)))) (λ n10.
    by_test (eqb r.kind 11) (λ y. rw y (rw (n1, n2, n3, n4, n5, n6, n7, n8, n9, n10, y) at g)) (λ y. absurd (true≢false (sym (rw (n1, n2, n3, n4, n5, n6, n7, n8, n9, n10, y) at w))))))))))))))
