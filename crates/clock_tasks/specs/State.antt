-- The clock's task as the words that a host keeps. Bytes are taken exactly if they are written again unchanged from what they are read as, so
-- that every number is in its range, and every place past the last sleeper, or past the last who is answered, is zero.
use Rattle.std.specs.Prelude.{ℕ, ◌+◌, ◌-◌, ◌*◌, min, Bool, List, [], ◌∷◌, ◌++◌, map, ◌==◌, slice_index}
use mathlib.Core.List.{flatten}
use Rattle.queue.specs.Choose.{choose}
use Rattle.tid.specs.Sizes.{priorities}
use Rattle.step.specs.Every.{numbers}
use Rattle.task.specs.Result.{negated}
use Rattle.image.specs.Bytes.{same}
use Rattle.clock.specs.declared.row.Sleeper.{Sleeper}
use Rattle.clock.specs.declared.clock.Said.{Said}
use Rattle.clock.specs.declared.clock.Said.TheVariants.{Count, Refused}
use Rattle.clock.specs.Row.{room, hearers, sleeper, row_of, hearers_of}
use Rattle.clock.specs.Message.{status_of, count_of}
use Rattle.server.specs.declared.phase.Phase.{Phase}
use Rattle.server.specs.declared.phase.Phase.TheVariants.{Making, Made, Writing, Replying, Listening}
use Rattle.server.specs.Phase.{place}
use Rattle.clock_tasks.specs.declared.serving.Server.{Server}
use Rattle.clock_tasks.specs.Server.{answered}

-- how many words, and where each stands among them: phase, its place, the notifier's priority and tid, the count, the status and count last
-- said, how many sleep, the sleepers, how many are answered, and whom
abbrev pub words : ℕ
words = 58

abbrev pub sleepers_at : ℕ
sleepers_at = 8

abbrev pub hearers_at : ℕ
hearers_at = 41

abbrev pub phase_code : Phase → ℕ
phase_code Making = 0
phase_code Made = 1
phase_code (Writing k) = 2
phase_code (Replying k) = 3
phase_code Listening = 4

-- a sleeper is two words: who, and when it is due
abbrev pub sleeper_words : Sleeper → List ℕ
sleeper_words x = x.tid ∷ x.due ∷ []

-- WRITTEN

abbrev pub server_words : Server → List ℕ
server_words s =
    phase_code s.phase ∷ place s.phase ∷ s.priority ∷ s.clock.notifier ∷ s.clock.count ∷ status_of s.said ∷ count_of s.said
    ∷ min s.clock.row.len room ∷ flatten (map sleeper_words s.clock.row.places) ++ (answered s.to ∷ s.to.tids)

-- READ, each number within its range

abbrev pub phase_of : ℕ → ℕ → Phase
phase_of code k =
    choose (code == 0) Making
    (choose (code == 1) Made
    (choose (code == 2) (Writing (min k 7))
    (choose (code == 3) (Replying (min k hearers))
    Listening)))

-- a status that is no refusal's is read as that of a count
abbrev pub said_of : ℕ → ℕ → Said
said_of status count =
    choose (status == negated 2) (Refused 2)
    (choose (status == negated 3) (Refused 3)
    (choose (status == negated 4) (Refused 4)
    (Count count)))

-- the first n sleepers, and the first n who are answered
abbrev pub sleepers_in : List ℕ → ℕ → List Sleeper
sleepers_in ws n = map (λ i. sleeper (slice_index ws (sleepers_at + 2 * i)) (slice_index ws (sleepers_at + 2 * i + 1))) (numbers 0 n)

abbrev pub hearers_in : List ℕ → ℕ → List ℕ
hearers_in ws n = map (λ i. slice_index ws (hearers_at + i)) (numbers 0 n)

abbrev pub server_from : List ℕ → Server
server_from ws =
    record {
      priority = min (slice_index ws 2) (priorities - 1);
      clock =
          record {
            notifier = slice_index ws 3;
            count = slice_index ws 4;
            row = row_of (sleepers_in ws (min (slice_index ws 7) room));
          };
      said = said_of (slice_index ws 5) (slice_index ws 6);
      to = hearers_of (hearers_in ws (min (slice_index ws 40) hearers));
      phase = phase_of (slice_index ws 0) (slice_index ws 1);
    }

-- whether words are those of a clock's task
abbrev pub is_server : List ℕ → Bool
is_server ws = same (server_words (server_from ws)) ws
