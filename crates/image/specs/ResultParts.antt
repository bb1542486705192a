-- The numbers of a result together, as the stored record and the answer have them.
use Rattle.task.specs.declared.task.Outcome.{Outcome}
use Rattle.task.specs.Result.{result_kind, result_word, result_from, result_cut}
use Rattle.image.specs.declared.fields.ResultParts.{ResultParts}

abbrev pub result_parts_of : Outcome → ResultParts
result_parts_of o = record { kind = result_kind o; from = result_from o; cut = result_cut o; word = result_word o }
