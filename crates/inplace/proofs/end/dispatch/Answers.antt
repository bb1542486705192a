-- `inplace::end::dispatch` meets its contract: the first queue that is counted is the first ready one, and its head is found below the last slot.
use Rattle.std.proofs.Common.{◌≡◌, arith, rules}
use native.Mathlib.Nat.{le_refl}
use Rattle.tid.specs.Sizes.{priorities}
use Rattle.tid.specs.Tid.{tid_of}
use Rattle.inplace.proofs.Found.{found_at, found_below}
use Rattle.inplace.proofs.Dispatched.{dispatch_none, dispatch_some, head_below}
use Rattle.inplace.proofs.end.dispatch.Goals as goal

pub returns-in_default : goal.returns-in_default
returns-in_default c = rw c.accepted.ensures (dispatch_none c.requires _ c.first_ready.ensures.found (rw c.in_default.is (le_refl priorities)))

pub result_at-result-requires : goal.result_at-result-requires
result_at-result-requires c =
    let p = c.in-Some.p in
    (head_below c.requires p c.close_up-s.result (found_at priorities _ p c.in-Some.is c.first_ready.ensures.found) (found_below priorities _ p c.in-Some.is c.first_ready.ensures.below) c.close_up-s.ensures.head, search rules)

pub leave-requires : goal.leave-requires
leave-requires c =
    let p = c.in-Some.p in
    (head_below c.requires p c.close_up-s.result (found_at priorities _ p c.in-Some.is c.first_ready.ensures.found) (found_below priorities _ p c.in-Some.is c.first_ready.ensures.below) c.close_up-s.ensures.head, search rules)

pub returns : goal.returns
returns c =
    let s = c.close_up-s.result in
    let p = c.in-Some.p in
    let first = found_at priorities _ p c.in-Some.is c.first_ready.ensures.found in
    let low = found_below priorities _ p c.in-Some.is c.first_ready.ensures.below in
    let below = head_below c.requires p s first low c.close_up-s.ensures.head in
    let next : c.tid_of.result ≡ tid_of s = omega (arith, below, c.tid_of.ensures) in
    rw (c.accepted-2.ensures, next)
    (dispatch_some c.requires p s first low c.close_up-s.ensures.head c.result_at-result.result c.close_up-s.new.image c.leave.new.image
    c.close_up-s.ensures.image c.result_at-result.ensures c.leave.ensures)
