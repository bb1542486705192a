use Rattle.std.proofs.Common.{◌≡◌, refl, ap, ◌∙◌, arith, le-leb}
use borrow.Author.Tests.{lt-leb}
use Rattle.clock.specs.declared.clock.Asked.{Asked}
use Rattle.clock.specs.Message.{asked_by}
use Rattle.clock_tasks.specs.declared.client.Client.{Client}
use Rattle.clock_tasks.specs.Client.{new_client}
use Rattle.clock_tasks.specs.ClientState.{words, client_words, last_offset}
use Rattle.clock_tasks.specs.Calls.{is_call, started_with, client_start}
use Rattle.clock_tasks.proofs.client_calls.client_start.Goals as goal
use Rattle.clock_tasks.proofs.client_calls.client_start.Goals.{then-not-is_call, else-not-is_call+then-offset-gt-LAST_OFFSET, else-not-is_call+else-offset-gt-LAST_OFFSET}

pub returns : goal.returns
unfolding client_start
returns c =
    let offset = c.args.offset in
    let called : c.is_call.result ≡ is_call (asked_by c.args.op c.args.argument) = c.is_call.ensures ∙ ap is_call c.asked_by-asked.ensures in
    rw (c.from.ensures, c.verdict.ensures, ← called)
    (elim c.if-not-is_call.branch [
      | then-not-is_call w ↦ rw (w.state-is, w.done-is, w.if-not-is_call.true) refl
      | else-not-is_call+then-offset-gt-LAST_OFFSET w ↦
          rw (w.state-is, w.done-is, w.if-not-is_call.false, lt-leb offset last_offset (omega arith)) refl
      | else-not-is_call+else-offset-gt-LAST_OFFSET w ↦
          let made = w.new.ensures ∙ ap (λ (x : Asked). new_client c.args.clock x offset) c.asked_by-asked.ensures in
          rw (w.state-is, w.done-is, w.if-not-is_call.false, le-leb offset last_offset (omega arith))
          (w.start.ensures ∙ ap (λ (s : Client). started_with 0 words (client_words s) c.args.state.now) made)
    ])
