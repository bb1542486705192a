use Rattle.std.proofs.Common.{not, ap, ◌+◌, ◌-◌, ◌≤◌, ◌<◌, arith, get_or}
use Rattle.tid.specs.Sizes.{slot_count}
use Rattle.queue.proofs.Below.{tells_all}
use Rattle.audit.proofs.Passed.{Next, Placed, passed_none, unjudged, judged_next, passed_past, placed_high, opened_most, placed_fresh, placed_kept, placed_inside, placed_twice, passed_more}
use Rattle.audit.proofs.places.all_judged.Goals as goal
use Rattle.audit.proofs.places.all_judged.Goals.{After-queue_at-k, After-wide-in-loop-s, Joined-base-k-eq0, Then-base-k-eq0, else-base-k-eq0, then-base-k-eq0}

-- a slot whose record is good
next : (c : After-queue_at-k) →
    let a = c.args in
    Next slot_count a.edition a.image.now a.used a.active a.count c.loop-s.base c.loop-s.taken c.loop-s.given c.loop-s.s c.queue_at-k.result
next c = judged_next c.loop-s.invariant c.loop-s-test.true c.judged.result c.judged.ensures
    (ap not c.if-not-judged.false) c.queue_at-k.result c.queue_at-k.ensures

-- the first of its queue: there is room for them all
room : (c : Then-base-k-eq0) →
    let a = c.args in
    c.loop-s.given + get_or a.count c.queue_at-k.result 0 ≤ slot_count
room c = omega (arith, opened_most (next (goal.at.Then-base-k-eq0 c).After-queue_at-k) c.if-k-ge-QUEUES.false c.requires.1.1 c.if-base-k-eq0.true)

-- its queue has a run, given out now or before
placed : (c : Joined-base-k-eq0) →
    let a = c.args in
    Placed slot_count a.edition a.image.now a.used a.active a.count c.if-base-k-eq0.base c.loop-s.taken c.if-base-k-eq0.given c.loop-s.s c.queue_at-k.result
placed c = let low = c.if-k-ge-QUEUES.false in
    let fits = c.if-many-place.false in
    elim c.if-base-k-eq0.branch [
      | then-base-k-eq0 w ↦ placed_fresh (next (goal.at.Joined-base-k-eq0 c).After-queue_at-k) low c.requires.1.1 w.if-base-k-eq0.true w.base-is w.given-is fits
      | else-base-k-eq0 w ↦ placed_kept (next (goal.at.Joined-base-k-eq0 c).After-queue_at-k) w.if-base-k-eq0.false w.base-is w.given-is fits
    ]

-- its place is one of the array's
inside : (c : After-wide-in-loop-s) → c.wide.result - 1 + c.wide-in-loop-s.result < slot_count
inside c = omega (arith, placed_inside (placed (goal.at.After-wide-in-loop-s c).Joined-base-k-eq0) c.wide.result c.wide-in-loop-s.result c.wide.ensures c.wide-in-loop-s.ensures)

pub loop-s-init : goal.loop-s-init
loop-s-init c = let a = c.args in
    passed_none slot_count a.edition a.image.now a.used a.active a.count c.requires.0

pub returns-then-not-judged : goal.returns-then-not-judged
returns-then-not-judged c = unjudged c.loop-s.invariant c.loop-s-test.true c.judged.result c.judged.ensures
    (ap not c.if-not-judged.true)

pub loop-s-preserved-then-k-ge-QUEUES : goal.loop-s-preserved-then-k-ge-QUEUES
loop-s-preserved-then-k-ge-QUEUES c = passed_past (next (goal.at.loop-s-preserved-then-k-ge-QUEUES c).After-queue_at-k) c.if-k-ge-QUEUES.true

pub returns-then-many-place : goal.returns-then-many-place
returns-then-many-place c = placed_high (next (goal.at.returns-then-many-place c).After-queue_at-k) c.if-k-ge-QUEUES.false c.if-many-place.true

pub returns-then-taken-i-ne0 : goal.returns-then-taken-i-ne0
returns-then-taken-i-ne0 c = placed_twice (placed (goal.at.returns-then-taken-i-ne0 c).Joined-base-k-eq0) c.wide.result c.wide-in-loop-s.result c.wide.ensures c.wide-in-loop-s.ensures
    c.if-taken-i-ne0.true

pub loop-s-preserved : goal.loop-s-preserved
loop-s-preserved c = passed_more (placed (goal.at.loop-s-preserved c).Joined-base-k-eq0) c.wide.result c.wide-in-loop-s.result c.wide.ensures c.wide-in-loop-s.ensures
    c.if-taken-i-ne0.false

pub returns : goal.returns
returns c = tells_all c.loop-s.invariant.told c.loop-s-test.false

pub overflow_add-base : goal.overflow_add-base
overflow_add-base c = omega (arith, room c)

pub overflow_add-given : goal.overflow_add-given
overflow_add-given c = omega (arith, room c)

pub overflow_sub-i : goal.overflow_sub-i
overflow_sub-i c = omega (arith, (placed (goal.at.overflow_sub-i c).Joined-base-k-eq0).has, c.wide.ensures)

pub overflow_add-i : goal.overflow_add-i
overflow_add-i c = omega (arith, inside c)

pub bounds-taken-i : goal.bounds-taken-i
bounds-taken-i c = inside c

pub bounds-taken-i-in-loop-s : goal.bounds-taken-i-in-loop-s
bounds-taken-i-in-loop-s c = inside (goal.at.bounds-taken-i-in-loop-s c).After-wide-in-loop-s
