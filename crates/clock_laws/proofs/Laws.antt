-- The laws of specs/Laws, each under its name in small letters.
use Rattle.clock_laws.specs.Laws.{ClockKeepsTime, AnswerReaches, CallIsSent, TickIsSent}
use Rattle.clock_laws.proofs.KeepsTime.{clock_keeps_time_lem}
use Rattle.clock_laws.proofs.Reach.{answer_reaches_lem}
use Rattle.clock_laws.proofs.Call.{call_is_sent_lem}
use Rattle.clock_laws.proofs.Tick.{tick_is_sent_lem}

pub clock_keeps_time : ClockKeepsTime
clock_keeps_time = clock_keeps_time_lem

pub answer_reaches : AnswerReaches
answer_reaches = answer_reaches_lem

pub call_is_sent : CallIsSent
call_is_sent = call_is_sent_lem

pub tick_is_sent : TickIsSent
tick_is_sent = tick_is_sent_lem
