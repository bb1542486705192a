-- Texts put one behind the other.
use Rattle.std.proofs.Common.{◌≡◌, ℕ, zero, suc, ◌+◌, ◌/◌, ◌<◌, ◌≤◌, max, ltb, Bool, true, false, List, [], ◌∷◌, ◌++◌, length, get_or, take, set, sym, refl, ap, ◌∙◌, add-zero, add-one, arith, length-append, le-ltb, lt-ltb}
use mir.Val.{bool_byte}
use native.Mathlib.Decide.{dec_lt}
use lib.Seq.{sets, length-sets, take-suc}
use Rattle.queue.specs.Choose.{choose}
use Rattle.task.specs.Result.{bit}
use Rattle.step.proofs.Copies.{sets_out}
use Rattle.lines.specs.declared.text.Line.{Line}
use Rattle.lines.specs.Written.{Written}
use Rattle.lines.specs.Text.{Appended, digit, digits, decimal}

-- a run of stores in two parts
sets_append : (xs ys l : List ℕ) (i : ℕ) → sets l i (xs ++ ys) ≡ sets (sets l i xs) (i + length xs) ys
sets_append [] ys l i = rw add-zero
sets_append (x ∷ xs) ys l i =
    let next : i + suc (length xs) ≡ suc i + length xs = omega arith in
    rw next (sets_append xs ys (set l i x) (suc i))

-- no text
pub nothing : {before : List ℕ} {at : ℕ} → Appended before at [] before at
nothing = record { stored = refl; ended = omega arith }

-- one text, and another behind it
pub then : {before mid after : List ℕ} {at mark end : ℕ} {xs ys : List ℕ}
    → Appended before at xs mid mark → Appended mid mark ys after end → Appended before at (xs ++ ys) after end
then {before} {mid} {after} {at} {mark} {end} {xs} {ys} p q =
    let size : length mid ≡ length before = rw p.stored (length-sets before at xs) in
    let both : length (xs ++ ys) ≡ length xs + length ys = length-append xs ys in
    record {
      stored = elim (dec_lt (max at (length before)) (at + length xs)) [
        | yes cut ↦
            let here : length mid ≤ mark = omega (arith, p.ended) in
            let there : length mid ≤ at + length xs = omega arith in
            q.stored ∙ sets_out ys mid mark here ∙ sym (sets_out ys mid (at + length xs) there) ∙ rw p.stored (sym (sets_append xs ys before at))
        | no fits ↦
            let whole : mark ≡ at + length xs = omega (arith, p.ended) in
            q.stored ∙ rw (whole, p.stored) (sym (sets_append xs ys before at))
      ];
      ended = omega (arith, p.ended, q.ended);
    }

-- the same text by another name
pub known_as : {before after : List ℕ} {at end : ℕ} {xs ys : List ℕ} → xs ≡ ys → Appended before at xs after end → Appended before at ys after end
known_as e p = rw (← e) p

-- the same of what a line has written
pub unwritten : {l : Line} → Written l [] l
unwritten = record { put = nothing; same = refl }

pub and_then : {before mid after : Line} {xs ys : List ℕ} → Written before xs mid → Written mid ys after → Written before (xs ++ ys) after
and_then p q = record { put = then p.put q.put; same = q.same ∙ p.same }

-- one byte of a text more
pub one_more : {before mid after : Line} (xs : List ℕ) (i : ℕ) → i < length xs
    → Written before (take i xs) mid → Written mid (get_or xs i 0 ∷ []) after → Written before (take (i + 1) xs) after
one_more xs i h p q = rw (add-one, take-suc xs i 0 h) (and_then p q)

-- a digit more or less to spare makes no difference
digits_spare : (k j n : ℕ) → n ≤ k → n ≤ j → digits k n ≡ digits j n
unfolding digits
digits_spare zero zero n h g = refl
digits_spare zero (suc j) n h g = rw (lt-ltb n 10 (omega arith))
digits_spare (suc k) zero n h g = rw (lt-ltb n 10 (omega arith))
digits_spare (suc k) (suc j) n h g = elim (dec_lt n 10) [
  | yes l ↦ rw (lt-ltb n 10 l)
  | no ge ↦ ap (λ (d : List ℕ). choose (ltb n 10) [] d ++ (digit n ∷ [])) (digits_spare k j (n / 10) (omega arith) (omega arith))
]

-- a number of one digit, and one of more
pub decimal_one : (n : ℕ) → n < 10 → digit n ∷ [] ≡ decimal n
unfolding digits
decimal_one zero h = refl
decimal_one (suc k) h = rw (lt-ltb (suc k) 10 h)

pub decimal_more : (n : ℕ) → 10 ≤ n → decimal (n / 10) ++ (digit n ∷ []) ≡ decimal n
unfolding digits
decimal_more zero h = absurd (omega arith)
decimal_more (suc k) h =
    rw (le-ltb (suc k) 10 h) (ap (λ (d : List ℕ). d ++ (digit (suc k) ∷ [])) (digits_spare (suc k / 10) k (suc k / 10) (omega arith) (omega arith)))

-- what a bool is as a number
pub bit_is : (b : Bool) → bool_byte b ≡ bit b
bit_is true = refl
bit_is false = refl
