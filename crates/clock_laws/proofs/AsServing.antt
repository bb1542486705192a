-- The clock's machine is the task of its service, step by step and along any run.
use Prim.Native.Nat.{ℕ, ◌<◌, min}
use mathlib.Core.Path.{◌≡◌, refl, sym, ap, subst, ◌∙◌}
use mathlib.Core.List.{List, [], ◌∷◌}
use native.Mathlib.Omega.{arith}
use lib.ListN.{length, get_or, take, length-take}
use lib.Seq.{get_or-take}
use lib.Dec.{ltb, eqb}
use borrow.Author.Tests.{eqb-true, eq-eqb, ltb-true}
use Rattle.queue.specs.Choose.{choose}
use Rattle.queue.proofs.Below.{by_test, same_test}
use Rattle.task.specs.declared.task.Outcome.{Outcome}
use Rattle.task.specs.declared.task.Outcome.TheVariants.{Nothing, Value, Fault}
use Rattle.task.proofs.Tests.{chosen}
use Rattle.kernel.specs.declared.table.Request.{Request}
use Rattle.kernel.specs.Numbers.{reply_kind}
use Rattle.clock.specs.declared.row.Hearers.{Hearers}
use Rattle.clock.specs.declared.clock.Clock.{Clock}
use Rattle.clock.specs.Row.{hearers, answered_tids}
use Rattle.clock.specs.Clock.{hear}
use Rattle.clock.specs.Message.{size, asked_in, answer_bytes}
use Rattle.server.specs.declared.phase.Phase.{Phase}
use Rattle.server.specs.declared.phase.Phase.TheVariants.{Making, Made, Writing, Replying, Listening}
use Rattle.server.specs.Phase.{place, ask, request_in, after}
use Rattle.server.specs.Service as Service
use Rattle.server.specs.Service.{Serving, serving}
use Rattle.served.specs.World.{World, area_of, decided, areas_after, asks_now, runs_next, state_asked, advanced, ended, Obeys}
use Rattle.clock_tasks.specs.declared.serving.Server.{Server}
use Rattle.clock_tasks.specs.Server.{answered, request, asked, heard, value_in, fault_in, told, clock_service, as_serving}
use Rattle.clock_tasks.specs.Laws.{clock_machine}
use Rattle.clock_laws.specs.Laws.{served}
use Rattle.clock_laws.proofs.Sound.{Sound, hear_fine, asked_sound, told_sound}

-- as many are answered as the row names
all_answered : (to : Hearers) → length to.tids ≡ hearers → answered to ≡ length (answered_tids to)
all_answered to places = sym (rw (length-take to.len to.tids) (ap (min to.len) places))

same_none : (to : Hearers) → length to.tids ≡ hearers → eqb to.len 0 ≡ eqb (length (answered_tids to)) 0
same_none to places =
    let len = to.len in
    let many : length (answered_tids to) ≡ min len hearers = sym (all_answered to places) in
    same_test
    (λ none. eq-eqb (length (answered_tids to)) 0 (omega (arith, eqb-true len 0 none)))
    (λ none. eq-eqb len 0 (omega (arith, eqb-true (length (answered_tids to)) 0 none)))

-- the tid that is replied to is the row's
same_request : (p : Phase) (priority len len' byte : ℕ) (tids : List ℕ) → len ≡ length (take len' tids)
    → let named = take len' tids in
    request_in p priority size len byte (get_or tids (place p) 0) ≡ request_in p priority size (length named) byte (get_or named (place p) 0)
same_request Making priority len len' byte tids many = refl
same_request Made priority len len' byte tids many = refl
same_request (Writing k) priority len len' byte tids many = refl
same_request (Replying k) priority len len' byte tids many =
    by_test (ltb k len)
    (λ more.
    let low : k < len' = omega (arith, ltb-true k len more, length-take len' tids) in
    rw (← many, more) (ap (λ (x : ℕ). ask reply_kind x size size) (sym (get_or-take len' tids k 0 low))))
    (λ done. rw (← many, done))
same_request Listening priority len len' byte tids many = refl

module _ (s : Server) (sound : Sound s) where
  pub asks_so : request s ≡ Service.request clock_service (as_serving s)
  asks_so = same_request s.phase s.priority (answered s.to) s.to.len _ s.to.tids (all_answered s.to sound.to)

  asked_so : as_serving (asked s) ≡ Service.asked clock_service (as_serving s)
  asked_so = ap (λ (n : ℕ). record {
    priority = s.priority;
    mind = s.clock;
    answer = answer_bytes s.said;
    to = answered_tids s.to;
    phase = after s.phase size n;
  }) (all_answered s.to sound.to)

  heard_so : (from v : ℕ) (area : List ℕ)
      → as_serving (heard s from v area) ≡ Service.answering clock_service s.priority (clock_service.hear s.clock from v area)
  heard_so from v area =
      let h = hear s.clock from (asked_in v area) in
      let fine = hear_fine s.clock sound.clock from (asked_in v area) in
      ap (λ b. record {
        priority = s.priority;
        mind = h.clock;
        answer = answer_bytes h.said;
        to = answered_tids h.to;
        phase = choose b (Replying 0) (Writing 0);
      }) (same_none h.to fine.to)

  told_so : (o : Outcome) (area : List ℕ) → as_serving (told s o area) ≡ Service.told clock_service (as_serving s) o area
  told_so Nothing area = refl
  told_so (Value from cut v) area = go s.phase
    where
      go : (p : Phase) → as_serving (value_in p s from v area) ≡ Service.value_in clock_service p (as_serving s) from cut v area
      go Making = refl
      go Made = refl
      go (Writing k) = refl
      go (Replying k) = refl
      go Listening = heard_so from v area
  told_so (Fault f) area = go s.phase
    where
      go : (p : Phase) → as_serving (fault_in p s) ≡ Service.fault_in clock_service p (as_serving s) f
      go Making = refl
      go Made = refl
      go (Writing k) = refl
      go (Replying k) = refl
      go Listening = refl

-- A WORLD OF THE CLOCK'S MACHINE, as one of the task of its service

module _ (g : ℕ) (w : World Server) (r : Request) (sound : Sound w.state) where
  abbrev now : Server
  now = state_asked clock_machine g w r

  now_sound : Sound now
  now_sound = chosen Sound (asks_now g w r) (λ _. asked_sound sound) (λ _. sound)

  now_so : as_serving now ≡ state_asked (serving clock_service) g (served w) r
  now_so = by_test (asks_now g w r) (λ asks. rw asks (asked_so w.state sound)) (λ still. rw still)

  pub advanced_sound : Sound (advanced clock_machine g w r).state
  unfolding advanced
  advanced_sound = chosen Sound (runs_next g w r) (λ _. told_sound now (decided w r).answer.result (area_of g (areas_after w r)) now_sound) (λ _. now_sound)

  pub advanced_so : served (advanced clock_machine g w r) ≡ advanced (serving clock_service) g (served w) r
  unfolding advanced
  advanced_so =
      let o = (decided w r).answer.result in
      let area = area_of g (areas_after w r) in
      let q = state_asked (serving clock_service) g (served w) r in
      let state : as_serving (choose (runs_next g w r) (told now o area) now) ≡ choose (runs_next g w r) (Service.told clock_service q o area) q =
      by_test (runs_next g w r)
      (λ runs. rw runs (told_so now now_sound o area ∙ ap (λ (q : Serving Clock). Service.told clock_service q o area) now_so))
      (λ still. rw still now_so) in
      λ i. record { table = (decided w r).table; areas = areas_after w r; state = state i }

pub ended_sound : (g : ℕ) (rs : List Request) (w : World Server) → Sound w.state → Sound (ended clock_machine g w rs).state
unfolding ended
ended_sound g [] w sound = sound
ended_sound g (r ∷ rs) w sound = ended_sound g rs (advanced clock_machine g w r) (advanced_sound g w r sound)

pub ended_so : (g : ℕ) (rs : List Request) (w : World Server) → Sound w.state
    → served (ended clock_machine g w rs) ≡ ended (serving clock_service) g (served w) rs
unfolding ended
ended_so g [] w sound = refl
ended_so g (r ∷ rs) w sound =
    ended_so g rs (advanced clock_machine g w r) (advanced_sound g w r sound)
    ∙ ap (λ (v : World (Serving Clock)). ended (serving clock_service) g v rs) (advanced_so g w r sound)

pub obeys_so : (g : ℕ) (rs : List Request) (w : World Server) → Sound w.state
    → Obeys clock_machine g w rs → Obeys (serving clock_service) g (served w) rs
unfolding Obeys
obeys_so g [] w sound obeys = tt
obeys_so g (r ∷ rs) w sound obeys = (
  λ asks. obeys.0 asks ∙ asks_so w.state sound,
  subst (λ (v : World (Serving Clock)). Obeys (serving clock_service) g v rs) (advanced_so g w r sound)
      (obeys_so g rs (advanced clock_machine g w r) (advanced_sound g w r sound) obeys.1),
)
