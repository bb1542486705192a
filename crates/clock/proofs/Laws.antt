-- The laws of specs/Laws, each under its name in small letters.
use Rattle.std.proofs.Common.{[], ◌∙◌}
use Rattle.clock.specs.Laws.{AsPlanned, EachOnce, DelayIsTicks, SaysProper, AskedIsRead, AnswersFit, SaidIsMeant, CountsApart, RefusalsApart}
use Rattle.clock.proofs.Planned.{as_planned_lem}
use Rattle.clock.proofs.Once.{plan_by_book}
use Rattle.clock.proofs.Meanings.{says_proper_lem, asked_is_read_lem, said_is_meant_lem, counts_apart_lem, refusals_apart_lem}
use Rattle.clock.proofs.Fits.{answers_fit_lem}
use Rattle.clock.proofs.Ticks.{delay_is_ticks_lem}

pub as_planned : AsPlanned
as_planned = as_planned_lem

pub each_once : EachOnce
each_once n count ms = as_planned_lem n count ms ∙ plan_by_book n count [] 0 ms

pub delay_is_ticks : DelayIsTicks
delay_is_ticks = delay_is_ticks_lem

pub says_proper : SaysProper
says_proper = says_proper_lem

pub asked_is_read : AskedIsRead
asked_is_read = asked_is_read_lem

pub answers_fit : AnswersFit
answers_fit = answers_fit_lem

pub said_is_meant : SaidIsMeant
said_is_meant = said_is_meant_lem

pub counts_apart : CountsApart
counts_apart = counts_apart_lem

pub refusals_apart : RefusalsApart
refusals_apart = refusals_apart_lem
