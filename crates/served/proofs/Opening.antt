-- The opening: nothing is read and nothing is replied until the task that a server makes is named.
use Prim.Native.Nat.{ℕ, ◌+◌}
use mathlib.Core.Path.{◌≡◌, refl, sym, ap, ◌∙◌}
use mathlib.Core.Bool.{true, false, false≢true}
use mathlib.Core.List.{List, [], ◌∷◌}
use lib.ListN.{length}
use lib.Dec.{ltb, eqb}
use Rattle.queue.proofs.Below.{by_test}
use Rattle.task.specs.declared.task.Outcome.{Outcome}
use Rattle.task.proofs.Tests.{chosen}
use Rattle.kernel.specs.declared.table.Request.{Request}
use Rattle.kernel.specs.Numbers.{reply_kind}
use Rattle.server.specs.declared.phase.Phase.{Phase}
use Rattle.server.specs.declared.phase.Phase.TheVariants.{Making, Made, Writing, Replying, Listening}
use Rattle.server.specs.Phase.{request_in, after}
use Rattle.server.specs.Service.{Service, Serving, request, told, serving}
use Rattle.served.specs.World.{World, area_of, decided, areas_after, asks_now, runs_next, state_asked, advanced}
use Rattle.served.specs.Letters.{Letter, read_now, Sent, reply_now, sent_to, left_in, unsent}
use Rattle.served.specs.Laws.{is_opening, first_mind}
use Rattle.served.proofs.Stands.{elsewhere_unread}
use Rattle.served.proofs.Serves.{told_keeps}

module _ {M : Type 0} (sv : Service M) where
  after_opening : (p : Phase) (size len : ℕ) → is_opening (after p size len) ≡ is_opening p
  after_opening Making size len = refl
  after_opening Made size len = refl
  after_opening (Writing k) size len = chosen (λ (p : Phase). is_opening p ≡ false) (ltb (k + 1) size) (λ _. refl) (λ _. refl)
  after_opening (Replying k) size len = chosen (λ (p : Phase). is_opening p ≡ false) (ltb k len) (λ _. refl) (λ _. refl)
  after_opening Listening size len = refl

  pub opening_unsent : (p : Phase) (all : List Sent) → is_opening p ≡ true → left_in p all ≡ []
  opening_unsent Making all yet = refl
  opening_unsent Made all yet = refl
  opening_unsent (Writing k) all yet = absurd (false≢true yet)
  opening_unsent (Replying k) all yet = absurd (false≢true yet)
  opening_unsent Listening all yet = refl

  -- it asks for no Reply
  opening_kind : (p : Phase) (priority size len byte tid : ℕ) → is_opening p ≡ true → eqb (request_in p priority size len byte tid).kind reply_kind ≡ false
  opening_kind Making priority size len byte tid yet = refl
  opening_kind Made priority size len byte tid yet = refl
  opening_kind (Writing k) priority size len byte tid yet = absurd (false≢true yet)
  opening_kind (Replying k) priority size len byte tid yet = absurd (false≢true yet)
  opening_kind Listening priority size len byte tid yet = refl

  told_opening : (q : Serving M) (o : Outcome) (area : List ℕ) → is_opening q.phase ≡ true → unsent (told sv q o area) ≡ []
  told_opening q o area yet =
      told_keeps sv (λ q. unsent q ≡ []) q o area (opening_unsent q.phase (sent_to q.answer q.to) yet) (λ _. refl)
      (λ from v l. absurd (false≢true (sym (ap is_opening l) ∙ yet)))

  module _ (g : ℕ) (w : World (Serving M)) (r : Request) where
    pub asked_opening : is_opening (state_asked (serving sv) g w r).phase ≡ is_opening w.state.phase
    asked_opening =
        by_test (asks_now g w r)
        (λ asks. rw asks (after_opening w.state.phase sv.size (length w.state.to)))
        (λ still. rw still)

    -- once past it stays so
    pub stays_past : is_opening w.state.phase ≡ false → is_opening (advanced (serving sv) g w r).state.phase ≡ false
    unfolding advanced
    stays_past past =
        let q = state_asked (serving sv) g w r in
        let Past : Serving M → Type 0 = λ q. is_opening q.phase ≡ false in
        let here : Past q = asked_opening ∙ past in
        chosen Past (runs_next g w r)
        (λ _. told_keeps sv Past q (decided w r).answer.result (area_of g (areas_after w r)) here (λ _. refl)
        (λ from v _. chosen (λ (p : Phase). is_opening p ≡ false) (eqb (length (sv.hear q.mind from v (area_of g (areas_after w r))).to) 0) (λ _. refl) (λ _. refl)))
        (λ _. here)

    module _ (yet : is_opening w.state.phase ≡ true) where
      pub reads_none : read_now sv g w r ≡ []
      reads_none =
          chosen (λ (l : List Letter). l ≡ []) (runs_next g w r)
          (λ _. elsewhere_unread (state_asked (serving sv) g w r).phase (λ l. false≢true (sym (ap is_opening l) ∙ asked_opening ∙ yet))
          sv.size (decided w r).answer.result (area_of g (areas_after w r)))
          (λ _. refl)

      pub sends_none : (asks_now g w r ≡ true → r ≡ request sv w.state) → reply_now sv g w r ≡ []
      sends_none obeys =
          by_test (asks_now g w r)
          (λ asks.
          let q = w.state in
          let kind : eqb r.kind reply_kind ≡ false =
          ap (λ (r : Request). eqb r.kind reply_kind) (obeys asks) ∙ opening_kind q.phase q.priority sv.size (length q.to) _ _ yet in
          rw (asks, kind))
          (λ still. rw still)

      pub has_none : unsent (advanced (serving sv) g w r).state ≡ []
      unfolding advanced
      has_none =
          let q = state_asked (serving sv) g w r in
          let still : is_opening q.phase ≡ true = asked_opening ∙ yet in
          chosen (λ (q : Serving M). unsent q ≡ []) (runs_next g w r)
          (λ _. told_opening q (decided w r).answer.result (area_of g (areas_after w r)) still)
          (λ _. opening_unsent q.phase (sent_to q.answer q.to) still)

  -- what it keeps as it first listens is what it keeps once it is past the opening
  pub past_mind : (g : ℕ) (w : World (Serving M)) (rs : List Request) → is_opening w.state.phase ≡ false → first_mind sv g w rs ≡ w.state.mind
  unfolding first_mind
  past_mind g w [] past = refl
  past_mind g w (r ∷ rs) past = rw past
