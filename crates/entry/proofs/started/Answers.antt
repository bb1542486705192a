-- `started`: the edition, then the priority, then the length, then zeros, then the first task.
use Rattle.std.proofs.Common.{ℕ, ◌*◌, ◌≡◌, sym, ap, ◌∙◌, List, arith, length, set, length-set}
use lib.Seq.{paste}
use Rattle.tid.specs.Sizes.{slot_count}
use Rattle.image.specs.Bytes.{bytes_of}
use Rattle.image.specs.Record.{record_length, at_state, at_priority, at_entry}
use Rattle.entry.proofs.Starts.{start_unknown, start_refused, start_wrong, start_made, first_stored}
use Rattle.entry.proofs.started.Goals as goal

pub returns-then-not-is_edition : goal.returns-then-not-is_edition
returns-then-not-is_edition c = let a = c.args in
    start_unknown slot_count a.edition a.priority a.entry a.image.now (sym c.is_edition.ensures ∙ c.if-not-is_edition.true)

pub returns-then-priority-ge-PRIORITIES : goal.returns-then-priority-ge-PRIORITIES
returns-then-priority-ge-PRIORITIES c = let a = c.args in
    start_refused slot_count a.edition a.priority a.entry a.image.now (sym c.is_edition.ensures ∙ c.if-not-is_edition.false) (omega arith)

pub returns-then-image-ne-IMAGE : goal.returns-then-image-ne-IMAGE
returns-then-image-ne-IMAGE c = let a = c.args in
    start_wrong slot_count a.edition a.priority a.entry a.image.now (sym c.is_edition.ensures ∙ c.if-not-is_edition.false) (omega arith) (λ e. omega arith)

pub bounds-image-1 : goal.bounds-image-1
bounds-image-1 c = omega (arith, length-set {A = ℕ})

-- two bytes are stored over bytes of one length
pub shape_of-image : goal.shape_of-image
shape_of-image c = omega (arith, length-set {A = ℕ})

pub returns : goal.returns
returns c = let edition = c.args.edition in
    let priority = c.args.priority in
    let entry = c.args.entry in
    let sized : length c.args.image.now ≡ slot_count * record_length = omega arith in
    start_made slot_count edition priority entry c.args.image.now (sym c.is_edition.ensures ∙ c.if-not-is_edition.false) (omega arith) sized
    (ap (λ (l : List ℕ). set (set l at_state 1) at_priority priority)
    (c.put_entry.ensures ∙ ap (λ (l : List ℕ). paste l at_entry (bytes_of 4 entry) 4) (c.fill.ensures.after (λ y e. e)))
    ∙ first_stored edition priority entry _ (omega arith) sized)
