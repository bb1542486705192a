-- A record is exact exactly where it is what its task is written as.
use Rattle.std.proofs.Common.{◌≡◌, ℕ, zero, suc, ◌+◌, ◌*◌, ◌/◌, ◌%◌, ◌^◌, ◌<◌, Bool, true, false, ◌&&◌, ◌||◌, eqb, ltb, List, [], ◌∷◌, ◌++◌, length, get_or, drop, replicate, sym, refl, ap, ◌∙◌, arith, drop_of_length-le, drop-cons, ext_get_or, lt-ltb, eq-eqb, ne_eqb, eqb-true}
use native.Mathlib.Omega.{pow_step}
use native.Mathlib.Decide.{ℕ_discrete}
use lib.ListN.{get_or-replicate}
use Rattle.queue.specs.Choose.{choose}
use Rattle.queue.proofs.Below.{both_true, true_both, by_test, same_test, all_below_lem, below_all}
use Rattle.task.specs.declared.task.Outcome.{Outcome}
use Rattle.task.specs.declared.task.Outcome.TheVariants.{Nothing, Fault}
use Rattle.task.specs.declared.task.State.{State}
use Rattle.task.specs.Task.{state_code, message_of, reply_of, is_used, is_ready, is_receive_blocked, is_event_blocked}
use Rattle.task.specs.declared.task.Task.{Task}
use Rattle.image.specs.declared.fields.Parts.{Parts}
use Rattle.image.specs.declared.fields.ResultParts.{ResultParts}
use Rattle.image.specs.Bytes.{bytes_of, number_in, same}
use Rattle.task.specs.Result.{negated, result_word}
use Rattle.image.specs.ResultParts.{result_parts_of}
use Rattle.image.specs.Record.{record_length, at_state, at_priority, at_parent, at_place, at_awaited, at_result, at_message, at_reply, at_from, at_cut, at_word, at_entry, byte_in, buffer_in, buffer_bytes, parts_of, parts_in, result_parts_in, state_from, result_of, fields, task_record, used_from, task_from, place_from}
use Rattle.image.specs.Exact.{same_parts, same_result_parts, exact_place, exact_used, exact_record}
use Rattle.image.proofs.Made.{record_made, eqb_same}
use Rattle.image.proofs.Bytes.{number_back, same_true, same_refl}

-- every element is a byte
abbrev pub Bytes : List ℕ → Type 0
Bytes r = (i : ℕ) → get_or r i 0 < 256

-- the next k elements from an index on
abbrev listed : ℕ → ℕ → List ℕ → List ℕ
listed zero at r = []
listed (suc k) at r = get_or r at 0 ∷ listed k (suc at) r

listed_drop : (k at : ℕ) (r : List ℕ) → length r ≡ at + k → listed k at r ≡ drop at r
listed_drop zero at r e = sym (drop_of_length-le r {i = at} (omega arith))
listed_drop (suc k) at r e = ap (λ (l : List ℕ). get_or r at 0 ∷ l) (listed_drop k (suc at) r (omega arith)) ∙ sym (drop-cons r at 0 (omega arith))

bytes_back : (k at : ℕ) (r : List ℕ) → Bytes r → bytes_of k (number_in r at k) ≡ listed k at r
bytes_back zero at r small = refl
bytes_back (suc k) at r small =
    let b = get_or r at 0 in
    let n = number_in r (suc at) k in
    let low : (b + 256 * n) % 256 ≡ b = omega (arith, small at) in
    let high : (b + 256 * n) / 256 ≡ n = omega (arith, small at) in
    λ i. low i ∷ (ap (bytes_of k) high ∙ bytes_back k (suc at) r small) i

pub number_small : (k at : ℕ) (r : List ℕ) → Bytes r → number_in r at k < 256 ^ k
number_small zero at r small = omega arith
number_small (suc k) at r small = omega (arith, small at, number_small k (suc at) r small, pow_step 256 k)

-- the numbers of a record, written again
rebuilt : (r : List ℕ) (place : ℕ) → length r ≡ record_length → Bytes r → place ≡ byte_in r at_place
    → byte_in r at_state ∷ byte_in r at_priority ∷ byte_in r at_parent ∷ place ∷ byte_in r at_awaited ∷ byte_in r at_result
    ∷ (buffer_bytes (buffer_in r at_message) ++ buffer_bytes (buffer_in r at_reply))
    ++ (byte_in r at_from ∷ byte_in r at_cut ∷ bytes_of 4 (number_in r at_word 4))
    ++ bytes_of 4 (number_in r at_entry 4)
    ≡ r
rebuilt r place size small p =
    let m₁ = bytes_back 2 6 r small in
    let m₂ = bytes_back 2 8 r small in
    let r₁ = bytes_back 2 10 r small in
    let r₂ = bytes_back 2 12 r small in
    let w = bytes_back 4 16 r small in
    let e = bytes_back 4 20 r small in
    let again : _ ≡ listed record_length 0 r =
    λ i. byte_in r at_state ∷ byte_in r at_priority ∷ byte_in r at_parent ∷ p i ∷ byte_in r at_awaited ∷ byte_in r at_result
    ∷ ((m₁ i ++ m₂ i) ++ (r₁ i ++ r₂ i)) ++ (byte_in r at_from ∷ byte_in r at_cut ∷ w i) ++ e i in
    again ∙ listed_drop record_length 0 r size

-- the place that a record's task is written with
abbrev pub place_kept : List ℕ → Task → ℕ
place_kept r x = choose (is_ready x.state || is_receive_blocked x.state || is_event_blocked x.state) (place_from r) 0

abbrev pub kept_place : List ℕ → ℕ
kept_place r = place_kept r (task_from r)

used_fields : (x : Task) (place : ℕ) → is_used x.state ≡ true → task_record x place ≡ fields x place
unfolding task_record
used_fields x place e = rw e

unused_fields : (x : Task) (place : ℕ) → is_used x.state ≡ false → task_record x place ≡ replicate record_length 0
unfolding task_record
unused_fields x place e = rw e

same_parts_lem : (p q : Parts) → same_parts p q ≡ true → p ≡ q
same_parts_lem p q h =
    let (h₅, e₆) = both_true _ _ h in
    let (h₄, e₅) = both_true _ _ h₅ in
    let (h₃, e₄) = both_true _ _ h₄ in
    let (h₂, e₃) = both_true _ _ h₃ in
    let (e₁, e₂) = both_true _ _ h₂ in
    λ i. record {
      code = eqb-true p.code q.code e₁ i;
      awaited = eqb-true p.awaited q.awaited e₂ i;
      message = record { start = eqb-true p.message.start q.message.start e₃ i; len = eqb-true p.message.len q.message.len e₄ i };
      reply = record { start = eqb-true p.reply.start q.reply.start e₅ i; len = eqb-true p.reply.len q.reply.len e₆ i };
    }

same_result_parts_lem : (p q : ResultParts) → same_result_parts p q ≡ true → p ≡ q
same_result_parts_lem p q h =
    let (h₃, e₄) = both_true _ _ h in
    let (h₂, e₃) = both_true _ _ h₃ in
    let (e₁, e₂) = both_true _ _ h₂ in
    λ i. record {
      kind = eqb-true p.kind q.kind e₁ i;
      from = eqb-true p.from q.from e₂ i;
      cut = eqb-true p.cut q.cut e₃ i;
      word = eqb-true p.word q.word e₄ i;
    }

same_parts_refl : (p : Parts) → same_parts p p ≡ true
same_parts_refl p = simp eqb_same

same_result_parts_refl : (p : ResultParts) → same_result_parts p p ≡ true
same_result_parts_refl p = simp eqb_same

-- the numbers of what was read fit their bytes
record Fits (st : State) : Type 0 where
  message_start : (message_of st).start < 256 ^ 2
  message_len : (message_of st).len < 256 ^ 2
  reply_start : (reply_of st).start < 256 ^ 2
  reply_len : (reply_of st).len < 256 ^ 2

either : {A : Type 0} (P : A → Type 0) (b : Bool) {x y : A} → P x → P y → P (choose b x y)
either P true px py = px
either P false px py = py

module _ (r : List ℕ) (size : length r ≡ record_length) (small : Bytes r) where
  fits : Fits (state_from (parts_in r))
  fits =
      let code = byte_in r at_state in
      let m₁ = number_small 2 6 r small in
      let m₂ = number_small 2 8 r small in
      let r₁ = number_small 2 10 r small in
      let r₂ = number_small 2 12 r small in
      let none : 0 < 256 ^ 2 = omega arith in
      either Fits (eqb code 1) (record { message_start = none; message_len = none; reply_start = none; reply_len = none })
      (either Fits (eqb code 2) (record { message_start = none; message_len = none; reply_start = none; reply_len = none })
      (either Fits (eqb code 3) (record { message_start = m₁; message_len = m₂; reply_start = none; reply_len = none })
      (either Fits (eqb code 4) (record { message_start = m₁; message_len = m₂; reply_start = r₁; reply_len = r₂ })
      (either Fits (eqb code 5) (record { message_start = none; message_len = none; reply_start = r₁; reply_len = r₂ })
      (either Fits (eqb code 6) (record { message_start = none; message_len = none; reply_start = none; reply_len = none })
      (either Fits (eqb code 7) (record { message_start = none; message_len = none; reply_start = none; reply_len = none })
      (record { message_start = none; message_len = none; reply_start = none; reply_len = none })))))))

  word_fits : result_word (result_of (result_parts_in r)) < 256 ^ 4
  word_fits =
      let Small : Outcome → Type 0 = λ o. result_word o < 256 ^ 4 in
      let word = (result_parts_in r).word in
      let fault : Small (Fault (negated word)) = omega arith in
      let none : Small Nothing = omega arith in
      either Small (eqb (result_parts_in r).kind 1) (number_small 4 16 r small)
      (either Small (eqb (result_parts_in r).kind 2) (either Small (ltb (negated 4) word) fault none) none)

  unused_exact : byte_in r at_state ≡ 0 → exact_record r ≡ true → task_record (task_from r) (kept_place r) ≡ r
  unfolding task_from task_record exact_record
  unused_exact z h =
      rw z
      (let zeros = all_below_lem record_length (λ i. eqb (get_or r i 0) 0) (rw z at h) in
      ext_get_or 0 (replicate record_length 0) r (sym size)
      (λ k l. get_or-replicate record_length k 0 0 l ∙ sym (eqb-true (get_or r k 0) 0 (zeros k l))))

  exact_unused : byte_in r at_state ≡ 0 → task_record (task_from r) (kept_place r) ≡ r → exact_record r ≡ true
  unfolding task_from task_record exact_record
  exact_unused z =
      rw z
      (λ h. below_all record_length (λ i. eqb (get_or r i 0) 0)
      (λ k l. eq-eqb (get_or r k 0) 0 (ap (λ (x : List ℕ). get_or x k 0) (sym h) ∙ get_or-replicate record_length k 0 0 l)))

  -- A used record, by the task that it gives.

  module _ (some : byte_in r at_state ≡ 0 → ⊥) where
    task_used : task_from r ≡ used_from r
    unfolding task_from
    task_used = rw (ne_eqb (byte_in r at_state) 0 some)

    exact_is : exact_record r ≡ exact_used r
    unfolding exact_record
    exact_is = rw (ne_eqb (byte_in r at_state) 0 some)

    used_exact : exact_used r ≡ true → task_record (used_from r) (place_kept r (used_from r)) ≡ r
    unfolding used_from
    used_exact h =
        let p = parts_of (state_from (parts_in r)) in
        let o = result_parts_of (result_of (result_parts_in r)) in
        let queued = eqb (byte_in r at_state) 2 || eqb (byte_in r at_state) 4 || eqb (byte_in r at_state) 6 in
        let (front, places) = both_true (same_parts p (parts_in r) && same_result_parts o (result_parts_in r)) (queued || eqb (byte_in r at_place) 0) h in
        let (parts_same, told_same) = both_true (same_parts p (parts_in r)) (same_result_parts o (result_parts_in r)) front in
        let parts : p ≡ parts_in r = same_parts_lem p (parts_in r) parts_same in
        let told : o ≡ result_parts_in r = same_result_parts_lem o (result_parts_in r) told_same in
        let code : state_code (state_from (parts_in r)) ≡ byte_in r at_state = ap (λ (q : Parts). q.code) parts in
        let place : place_kept r (used_from r) ≡ byte_in r at_place =
        rw code
        (by_test queued (λ e. rw e) (λ e. rw e (sym (eqb-true (byte_in r at_place) 0 (rw e at places))))) in
        used_fields (used_from r) (place_kept r (used_from r)) (rw code (lt-ltb 0 (byte_in r at_state) (omega (arith, some))))
        ∙ sym (record_made (used_from r) (place_kept r (used_from r)) (parts_in r) (result_parts_in r) (sym parts) (sym told))
        ∙ rebuilt r (place_kept r (used_from r)) size small place

    fields_exact : fields (used_from r) (place_kept r (used_from r)) ≡ r → exact_used r ≡ true
    unfolding used_from
    fields_exact h =
        let st = state_from (parts_in r) in
        let at : (k : ℕ) → get_or (fields (used_from r) (place_kept r (used_from r))) k 0 ≡ get_or r k 0 = λ k. ap (λ (x : List ℕ). get_or x k 0) h in
        let two : (k : ℕ) → number_in (fields (used_from r) (place_kept r (used_from r))) k 2 ≡ number_in r k 2 = λ k. ap (λ (y : List ℕ). number_in y k 2) h in
        let word : result_word (result_of (result_parts_in r)) ≡ number_in r at_word 4 =
        sym (number_back 4 (result_word (result_of (result_parts_in r))) word_fits) ∙ ap (λ (y : List ℕ). number_in y 16 4) h in
        let m₁ = sym (number_back 2 (message_of st).start fits.message_start) ∙ two 6 in
        let m₂ = sym (number_back 2 (message_of st).len fits.message_len) ∙ two 8 in
        let r₁ = sym (number_back 2 (reply_of st).start fits.reply_start) ∙ two 10 in
        let r₂ = sym (number_back 2 (reply_of st).len fits.reply_len) ∙ two 12 in
        let parts : parts_of st ≡ parts_in r =
        λ i. record { code = at 0 i; awaited = at 4 i; message = record { start = m₁ i; len = m₂ i }; reply = record { start = r₁ i; len = r₂ i } } in
        let told : result_parts_of (result_of (result_parts_in r)) ≡ result_parts_in r = λ i. record { kind = at 5 i; from = at 14 i; cut = at 15 i; word = word i } in
        let same-p : same_parts (parts_of st) (parts_in r) ≡ true = ap (λ (q : Parts). same_parts q (parts_in r)) parts ∙ same_parts_refl (parts_in r) in
        let same-o : same_result_parts (result_parts_of (result_of (result_parts_in r))) (result_parts_in r) ≡ true = ap (λ (q : ResultParts). same_result_parts q (result_parts_in r)) told ∙ same_result_parts_refl (result_parts_in r) in
        let code : state_code st ≡ byte_in r at_state = at 0 in
        let kept : place_kept r (used_from r) ≡ byte_in r at_place = at 3 in
        let placed : exact_place (byte_in r at_state) (byte_in r at_place) ≡ true =
        by_test (eqb (byte_in r at_state) 2 || eqb (byte_in r at_state) 4 || eqb (byte_in r at_state) 6) (λ q. rw q)
        (λ q. rw (q, eq-eqb (byte_in r at_place) 0 (sym (rw (code, q) at kept)))) in
        true_both (true_both same-p same-o) placed

    exact_used_lem : task_record (used_from r) (place_kept r (used_from r)) ≡ r → exact_used r ≡ true
    exact_used_lem h =
        by_test (is_used (used_from r).state) (λ e. fields_exact (sym (used_fields (used_from r) _ e) ∙ h))
        (λ e. absurd (some (ap (λ (x : List ℕ). get_or x 0 0) (sym h ∙ unused_fields (used_from r) (place_kept r (used_from r)) e))))

  -- written with the place that it has, a record's task is the record, exactly where the record is exact
  pub exact_record_lem : exact_record r ≡ same (task_record (task_from r) (kept_place r)) r
  exact_record_lem = elim (ℕ_discrete (byte_in r at_state) 0) [
    | yes z ↦ same_test (λ h. rw (unused_exact z h) (same_refl r)) (λ h. exact_unused z (same_true _ r h))
    | no some ↦
        rw (exact_is some, task_used some)
        (same_test (λ h. rw (used_exact some h) (same_refl r)) (λ h. exact_used_lem some (same_true _ r h)))
  ]
