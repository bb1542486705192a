use Rattle.std.proofs.Common.{◌≡◌, ℕ, ◌*◌, [], ◌∷◌, length, refl, ap, ◌∙◌, arith}
use Rattle.clock_tasks.proofs.Rows.{pairs, length_pairs, words_made}
use Rattle.clock_tasks.proofs.state.words_of.Goals as goal

pub returns : goal.returns
returns c =
    let s = c.args.s in
    let l : length s.clock.row.places ≡ 16 = omega arith in
    let m : length s.to.tids ≡ 17 = omega arith in
    rw (
      ← c.phase_code.ensures,
      ← c.place.ensures,
      ← c.from.ensures,
      ← c.from-2.ensures,
      ← c.status_of.ensures,
      ← c.count_of.ensures,
      ← c.asleep.ensures,
      ← c.answered.ensures,
      ← c.from-3.ensures,
    )
    (words_made
    (c.phase_code.result ∷ c.from.result ∷ c.from-2.result ∷ s.clock.notifier ∷ s.clock.count ∷ c.status_of.result
    ∷ c.count_of.result ∷ c.asleep.result ∷ [])
    (pairs s.clock.row.places) s.to.tids _ _ c.from-3.result refl (length_pairs s.clock.row.places ∙ ap (λ (n : ℕ). 2 * n) l) m
    c.put_sleepers.ensures c.put_hearers.ensures)
