-- The two records of a step: what is asked, and what is answered, as bytes and read from bytes.
use Rattle.std.specs.Prelude.{ℕ, List, ◌++◌, length, ◌==◌}
use Rattle.queue.specs.Choose.{choose}
use Rattle.kernel.specs.declared.table.Request.{Request}
use Rattle.kernel.specs.declared.table.Answer.{Answer}
use Rattle.image.specs.Bytes.{bytes_of, number_in}
use Rattle.image.specs.Record.{result_of}
use Rattle.task.specs.Result.{result_kind, result_word, result_from, result_cut}

abbrev pub request_length : ℕ
request_length = 24

-- no kind, so that a step refuses it
abbrev pub no_request : Request
no_request = record { kind = 0; arg0 = 0; arg1 = 0; arg2 = 0; arg3 = 0; arg4 = 0 }

-- the kind and the five arguments, a word each; a record of another length asks nothing
unfoldable pub request_from : List ℕ → Request
request_from r =
    choose (length r == request_length)
    (record {
      kind = number_in r 0 4;
      arg0 = number_in r 4 4;
      arg1 = number_in r 8 4;
      arg2 = number_in r 12 4;
      arg3 = number_in r 16 4;
      arg4 = number_in r 20 4;
    })
    no_request

-- The answer: its length, and where each word starts.

abbrev pub answer_length : ℕ
answer_length = 24

abbrev pub at_verdict : ℕ
at_verdict = 0

abbrev pub at_next : ℕ
at_next = 4

abbrev pub at_kind : ℕ
at_kind = 8

abbrev pub at_value : ℕ
at_value = 12

abbrev pub at_sender : ℕ
at_sender = 16

abbrev pub at_cut_word : ℕ
at_cut_word = 20

-- the words of an answer, in their order
unfoldable pub answer_bytes : Answer → List ℕ
answer_bytes a =
    bytes_of 4 a.verdict
    ++ bytes_of 4 a.next
    ++ bytes_of 4 (result_kind a.result)
    ++ bytes_of 4 (result_word a.result)
    ++ bytes_of 4 (result_from a.result)
    ++ bytes_of 4 (result_cut a.result)

-- the bytes after an answer is put into them; nothing is where they are of another length
abbrev pub answered : Answer → List ℕ → List ℕ
answered a bytes = choose (length bytes == answer_length) (answer_bytes a) bytes

-- the answer that bytes tell: by the word at `at_kind` the result is nothing, a value or a fault
unfoldable pub answer_from : List ℕ → Answer
answer_from bytes =
    record {
      verdict = number_in bytes at_verdict 4;
      next = number_in bytes at_next 4;
      result = result_of (record {
        kind = number_in bytes at_kind 4;
        from = number_in bytes at_sender 4;
        cut = number_in bytes at_cut_word 4;
        word = number_in bytes at_value 4;
      });
    }
