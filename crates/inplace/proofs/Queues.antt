-- A whole queue is woken before the entry ends.
use Prim.Native.Nat.{ℕ, ◌≤◌, ◌<◌}
use mathlib.Core.Path.{◌≡◌, refl, ◌∙◌}
use mathlib.Core.Bool.{true, false}
use mathlib.Core.List.{List}
use native.Mathlib.Omega.{arith}
use lib.Dec.{eqb}
use borrow.Author.Tests.{ne_eqb}
use Rattle.tid.specs.Sizes.{priorities}
use Rattle.queue.specs.Numbering.{queues_for}
use Rattle.queue.specs.Row.{emptied}
use Rattle.task.specs.declared.task.Outcome.{Outcome}
use Rattle.task.specs.declared.task.Outcome.TheVariants.{Nothing}
use Rattle.kernel.specs.declared.table.Table.{Table}
use Rattle.kernel.specs.Table.{task_at, queue_at, with_queue}
use Rattle.kernel.specs.Moves.{woken_row}
use Rattle.rules.specs.Good.{good_result}
use Rattle.rules.specs.Facts.{standing, Rules}
use Rattle.kept.proofs.Tasks.{same_code, free}
use Rattle.kept.proofs.Moves.{vacated_kept}
use Rattle.kept.proofs.Woken.{others_woken}
use Rattle.image.specs.Record.{at_priority, at_awaited}
use Rattle.image.specs.Image.{table_of}
use Rattle.image.proofs.Laws.{edition_read}
use Rattle.records.specs.Woken.{woken_in}
use Rattle.records.proofs.Told.{Told}
use Rattle.records.proofs.Heads.{closed_byte}
use Rattle.records.proofs.Leaves.{head_at, head_used}
use Rattle.records.proofs.Wakes.{heads_woken, stands, round_head, rounds, all_woken}
use Rattle.inplace.specs.Ends.{Begins, Wakes}
use Rattle.inplace.proofs.Ways.{joinable, Woke, nobody_woke}

module _ {n ed used c : ℕ} {b count : List ℕ} (g : Begins n ed used c b count) (small : n < 255)
    (code key k : ℕ) (told : (x : Table) → Rules n used c x → Told n x code at_awaited key k) (past : priorities ≤ k)
    (o : Outcome) (good : good_result used o ≡ true) where
  pub queue_wakes : Wakes n used code key (queue_at (table_of n ed b) k).len o b count
  queue_wakes =
      let f = g.stage.rules in
      record {
        fits = f.tasks.fits;
        size = g.stage.records.size;
        joins = λ i l.
            let x = heads_woken (table_of n ed b) k o i in
            let s = head_at x k in
            let r = rounds g.stage told past o good i (omega arith) in
            let u : s < used = head_used r.stage (told x r.stage.rules) (stands g.stage told past o good r l) in
            let can = joinable r.stage small s u in
            let own = closed_byte r.stage code at_awaited key used s at_priority (omega arith) (λ e. omega arith) in
            rw (round_head g.stage told past o good r l)
            (omega (arith, f.tasks.fits), record { priority = rw own can.priority; room = rw own can.room });
      }

  pub queue_woke : let q = queue_at (table_of n ed b) k in
      let t = with_queue (table_of n ed b) k (emptied q) in
      let h = woken_in n used code key o b count q.len in
      Woke n ed used c n Nothing q o t h.bytes h.counts (woken_row t q o) h.bytes h.counts × ((queue_at (woken_row t q o) k).len ≡ 0)
  queue_woke =
      let f = g.stage.rules in
      let t = table_of n ed b in
      let within = (told t f).within in
      let row = f.lined.holds.row k (rw f.lined.shaped.count within) in
      let out : c < n → eqb (standing n (task_at t c)) k ≡ false = λ h. rw (free n (task_at t c) (rw (g.runs h))).nowhere (ne_eqb (queues_for n) k (omega arith)) in
      let (stage, none, same) = all_woken g.stage told past o good in (
        nobody_woke stage small g.near (λ h. same_code (others_woken (vacated_kept f k within) row o c (out h)) (g.runs h)) refl (same ∙ edition_read n ed b n),
        none,
      )
