-- A list of calls of the byte entry, as a host makes them, and the run that they are.
use Rattle.std.specs.Prelude.{ℕ, Bool, ◌&&◌, List, [], ◌∷◌, map, length, eqb}
use Rattle.queue.specs.Choose.{choose}
use Rattle.kernel.specs.declared.table.Request.{Request}
use Rattle.step.specs.Run.{Done}
use Rattle.image.specs.Image.{image_of}
use Rattle.image.specs.Call.{request_length, request_from, answer_length, answer_bytes}
use Rattle.entry.specs.Entry.{Call, call, called}

-- what a host lends for one call, beside the image and the areas that it keeps: a request and room for the answer, of any lengths
pub record Lent : Type 0 where
  pub request : List ℕ
  pub answer : List ℕ

-- each call on the image and the areas that the call before it left, all in one edition
unfoldable pub calls : ℕ → ℕ → List ℕ → List ℕ → List Lent → List Call
calls n ed image areas [] = []
calls n ed image areas (l ∷ ls) =
    let c = called n ed image areas l.request l.answer in
    c ∷ calls n ed c.image c.areas ls

-- whether a call is taken: its two lengths are right, so that it comes to a step
abbrev pub is_taken : Lent → Bool
is_taken l = eqb (length l.answer) answer_length && eqb (length l.request) request_length

-- of a list with an entry for each call, the entries of those that are taken
unfoldable pub of_taken {ℓ} : {A : Type ℓ} → List Lent → List A → List A
of_taken [] xs = []
of_taken (l ∷ ls) [] = []
of_taken (l ∷ ls) (x ∷ xs) = choose (is_taken l) (x ∷ of_taken ls xs) (of_taken ls xs)

-- the requests that are taken
abbrev pub requests_of : List Lent → List Request
requests_of ls = map (λ l. request_from l.request) (of_taken ls ls)

-- a step of a run, as a call's verdict and bytes
abbrev pub as_call : Done → Call
as_call s =
    let d = s.decision in
    call d.answer.verdict (image_of d.table) s.areas (answer_bytes d.answer)
