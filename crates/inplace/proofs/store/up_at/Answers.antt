-- `inplace::store::up_at` meets its contract: at the head the place stays 0.
use Rattle.std.proofs.Common.{◌+◌, ◌*◌, ◌≡◌, sym, ap, ◌∙◌, get_or, set, eq-eqb, ne_eqb}
use lib.Seq.{set-get_or}
use Rattle.image.specs.Record.{record_length, at_place}
use Rattle.inplace.proofs.store.up_at.Goals as goal

pub returns-then-image-r : goal.returns-then-image-r
returns-then-image-r c = record { image = rw (ne_eqb _ _ c.if-image-r.true); found = rw (ne_eqb _ _ c.if-image-r.true) }

pub returns-then-image-r-2 : goal.returns-then-image-r-2
returns-then-image-r-2 c = let code = eq-eqb _ _ c.if-image-r.false in
    let key = ne_eqb _ _ c.if-image-r-2.true in
    record { image = rw (code, key); found = rw (code, key) }

pub returns-then-place-eq0 : goal.returns-then-place-eq0
returns-then-place-eq0 c = let a = c.args in
    let b = a.image.now in
    let at = a.s * record_length + at_place in
    let none : get_or b at 0 ≡ 0 = c.if-place-eq0.true in
    let code = eq-eqb _ _ c.if-image-r.false in
    let key = eq-eqb _ _ c.if-image-r-2.false in
    record {
      image = rw (code, key, none) (sym (ap (set b at) (sym none) ∙ set-get_or b at 0));
      found = rw (code, key, eq-eqb _ _ none);
    }

pub returns : goal.returns
returns c = let code = eq-eqb _ _ c.if-image-r.false in
    let key = eq-eqb _ _ c.if-image-r-2.false in
    record { image = rw (code, key); found = rw (code, key, ne_eqb _ 0 c.if-place-eq0.false) }
