-- What a step shows as: one line of text.
use Rattle.std.specs.Prelude.{ℕ, List, [], ◌∷◌, ◌++◌, ◌==◌}
use Rattle.queue.specs.Choose.{choose}
use Rattle.task.specs.declared.task.Outcome.{Outcome}
use Rattle.task.specs.Result.{result_kind, result_word, result_from, result_cut}
use Rattle.kernel.specs.declared.table.Answer.{Answer}
use Rattle.kernel.specs.Numbers.{accepted, bad_record}
use Rattle.lines.specs.Text.{decimal, signed}

-- The characters of a line, by their ASCII codes.

abbrev pub newline : ℕ
newline = 10

abbrev pub space : ℕ
space = 32

abbrev pub minus : ℕ
minus = 45

abbrev pub letter_r : ℕ
letter_r = 82

abbrev pub letter_e : ℕ
letter_e = 101

abbrev pub letter_v : ℕ
letter_v = 118

-- "ok"
abbrev pub ok : List ℕ
ok = 111 ∷ 107 ∷ []

-- ok, or R and the refusal
unfoldable pub verdict_text : ℕ → List ℕ
verdict_text v = choose (v == accepted) ok (letter_r ∷ decimal v)

-- a minus for nothing; v, the value, from, and whether it was cut; e and the fault, a negative word
unfoldable pub result_text : Outcome → List ℕ
result_text o =
    choose (result_kind o == 0) (minus ∷ [])
    (choose (result_kind o == 1) (letter_v ∷ space ∷ signed (result_word o) ++ space ∷ decimal (result_from o) ++ space ∷ decimal (result_cut o))
    (letter_e ∷ space ∷ signed (result_word o)))

-- the verdict, the next tid and that task's result
unfoldable pub answer_text : Answer → List ℕ
answer_text a =
    verdict_text a.verdict
    ++ space ∷ decimal a.next
    ++ space ∷ result_text a.result

-- the step's number, its kind, and what it answered
unfoldable pub step_text : ℕ → ℕ → Answer → List ℕ
step_text step kind a =
    decimal step
    ++ space ∷ signed kind
    ++ space ∷ answer_text a

-- no line is longer than this
abbrev pub longest : ℕ
longest = 62

-- the line of a step
unfoldable pub line_of : ℕ → ℕ → Answer → List ℕ
line_of step kind a = step_text step kind a ++ newline ∷ []

-- "end" and refusal 5: the last record is incomplete
unfoldable pub end_line : List ℕ
end_line = letter_e ∷ 110 ∷ 100 ∷ space ∷ verdict_text bad_record ++ newline ∷ []
