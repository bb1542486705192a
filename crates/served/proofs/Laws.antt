-- The laws of specs/Laws, each under its name in small letters.
use Rattle.server.specs.Service.{Machine, Service}
use Rattle.served.specs.Laws.{Fits, AWorldIsARun, LettersAreRead, RepliesAreAnswers, MindIsKept, AnswerReaches}
use Rattle.served.proofs.Replies.{replies_are_answers_lem, mind_is_kept_lem}
use Rattle.served.proofs.Letters.{letters_are_read_lem}
use Rattle.served.proofs.Reach.{a_world_is_a_run, answer_reaches_lem}

pub a_world_is_arun : {S : Type 0} (m : Machine S) → AWorldIsARun m
a_world_is_arun = a_world_is_a_run

pub letters_are_read : {M : Type 0} (sv : Service M) → Fits sv → LettersAreRead sv
letters_are_read = letters_are_read_lem

pub replies_are_answers : {M : Type 0} (sv : Service M) → Fits sv → RepliesAreAnswers sv
replies_are_answers = replies_are_answers_lem

pub mind_is_kept : {M : Type 0} (sv : Service M) → Fits sv → MindIsKept sv
mind_is_kept = mind_is_kept_lem

pub answer_reaches : {M : Type 0} (sv : Service M) → Fits sv → AnswerReaches sv
answer_reaches = answer_reaches_lem
