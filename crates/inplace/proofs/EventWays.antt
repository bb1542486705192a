-- Each way of Await event, and of an event of the hardware.
use Prim.Native.Nat.{ℕ, ◌+◌, ◌≤◌, ◌<◌}
use mathlib.Core.Path.{◌≡◌, refl, ◌∙◌}
use mathlib.Core.Bool.{true, false}
use mathlib.Core.List.{List}
use native.Mathlib.Decide.{dec_lt}
use native.Mathlib.Omega.{arith}
use lib.ListN.{get_or}
use borrow.Author.Tests.{le-leb, lt-leb, lt-ltb}
use Rattle.tid.specs.Sizes.{events}
use Rattle.queue.specs.Numbering.{event_queue}
use Rattle.task.specs.declared.task.Outcome.TheVariants.{Nothing, Fault}
use Rattle.task.specs.declared.task.State.TheVariants.{EventBlocked}
use Rattle.task.specs.Standing.{queue_of}
use Rattle.kernel.specs.declared.table.Effect.TheVariants.{Keep}
use Rattle.kernel.specs.Edition.{may_wait}
use Rattle.kernel.specs.Table.{queue_at}
use Rattle.kernel.specs.Kinds.{signal, await_event, event}
use Rattle.kept.proofs.Tasks.{signal_good}
use Rattle.image.specs.Image.{table_of}
use Rattle.image.proofs.Laws.{edition_read}
use Rattle.records.specs.Woken.{woken_in}
use Rattle.records.proofs.Told.{waiter_told}
use Rattle.inplace.specs.Ends.{Wakes, Begins, resumes_at, stops_at, Ends}
use Rattle.inplace.proofs.Ways.{nobody_ends, goes_on_ends, queues_ends}
use Rattle.inplace.proofs.Queues.{queue_wakes, queue_woke}
use Rattle.inplace.proofs.Requests.{resumes_ends}

-- how many wait for an event
waiting : {n ed used c : ℕ} {b count : List ℕ} → Begins n ed used c b count → (e : ℕ) → e < events
    → get_or count (event_queue e) 0 ≡ (queue_at (table_of n ed b) (event_queue e)).len
waiting g e low = g.counted (event_queue e) (omega arith)

module _ {n ed used c : ℕ} {b count : List ℕ} (g : Begins n ed used c b count) (small : n < 255) (running : c < n) where
  -- Await event.
  module _ (e : ℕ) where
    pub await_unknown : events ≤ e → Ends n ed c (await_event (table_of n ed b) c e) (resumes_at n used (Fault 1)) b count
    unfolding await_event
    await_unknown past = rw (le-leb events e past) (resumes_ends g small running (Fault 1) refl)

    module _ (low : e < events) where
      -- whether the caller may wait, too
      asks : may_wait (table_of n ed b).edition ((queue_at (table_of n ed b) (event_queue e)).len + 1) ≡ may_wait ed (get_or count (event_queue e) 0 + 1)
      asks = rw (edition_read n ed b n, waiting g e low)

      pub await_taken : may_wait ed (get_or count (event_queue e) 0 + 1) ≡ false
          → Ends n ed c (await_event (table_of n ed b) c e) (resumes_at n used (Fault 3)) b count
      unfolding await_event
      await_taken taken = rw (lt-leb events e low, asks ∙ taken) (resumes_ends g small running (Fault 3) refl)

      -- the caller stands behind those who wait already
      pub await_waits : may_wait ed (get_or count (event_queue e) 0 + 1) ≡ true
          → Ends n ed c (await_event (table_of n ed b) c e) (stops_at n used (EventBlocked e) (get_or count (event_queue e) 0)) b count
      unfolding await_event queue_of
      await_waits fits =
          rw (lt-leb events e low, asks ∙ fits)
          (queues_ends g.stage (edition_read n ed b n) running (g.runs running) (event_queue e) (EventBlocked e) (get_or count (event_queue e) 0)
          refl refl refl refl (lt-ltb e events low) (omega arith) (omega arith) refl
          (λ j same. absurd (omega arith)) (λ _ _ _. asks ∙ fits) (waiting g e low))

-- An event of the hardware, whether or not a task is active: all who wait for it are woken.
module _ {n ed used c : ℕ} {b count : List ℕ} (g : Begins n ed used c b count) (small : n < 255) (e word : ℕ) (low : e < events) where
  pub event_wakes : Wakes n used 6 e (get_or count (event_queue e) 0) (signal word) b count
  event_wakes = rw (waiting g e low) (queue_wakes g small 6 e (event_queue e) (λ x f. waiter_told f e low) (omega arith) (signal word) (signal_good used word))

  -- then the caller goes on, if there is one
  pub event_ends : let h = woken_in n used 6 e (signal word) b count (get_or count (event_queue e) 0) in
      Ends n ed c (event (table_of n ed b) e word) (resumes_at n used Nothing) h.bytes h.counts
  unfolding event
  event_ends =
      let (woke, _) = queue_woke g small 6 e (event_queue e) (λ x f. waiter_told f e low) (omega arith) (signal word) (signal_good used word) in
      rw (waiting g e low)
      (elim (dec_lt c n) [
        | yes running ↦ goes_on_ends woke Keep running Nothing refl
        | no none ↦ nobody_ends woke Keep Nothing (omega arith)
      ])
