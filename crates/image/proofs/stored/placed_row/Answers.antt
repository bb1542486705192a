-- `image::stored::placed_row` meets its contract, field by field: a put past the end changes nothing.
use Rattle.std.proofs.Common.{◌≡◌, ◌+◌, min, max, length, set, ap, ◌∙◌, arith}
use lib.Seq.{set_out}
use Rattle.queue.specs.declared.Queue.{Queue}
use Rattle.queue.specs.Numbering.{places}
use Rattle.image.proofs.stored.placed_row.Goals as goal
use Rattle.image.proofs.stored.placed_row.Goals.{then-p-lt-PLACES, else-p-lt-PLACES}

pub returns : goal.returns
returns c =
    let q = c.args.q in
    let place = c.args.place in
    let mark = c.args.mark in
    let l : length q.marks ≡ places = omega arith in
    let put : c.if-p-lt-PLACES.q ≡ record { marks = set q.marks place mark; len = q.len } =
    elim c.if-p-lt-PLACES.branch [
      | then-p-lt-PLACES w ↦ w.q-is ∙ rw c.wide-p.ensures
      | else-p-lt-PLACES w ↦ w.q-is ∙ rw (set_out q.marks place mark (omega (arith, c.wide-p.ensures)))
    ] in
    let reaches : c.reach.result ≡ max q.len (min (place + 1) (length q.marks)) =
    c.reach.ensures ∙ rw (ap (λ (x : Queue). x.len) put, l) in
    λ i. record { marks = (put i).marks; len = reaches i }
