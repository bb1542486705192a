-- The clock's Replies are those of the plan.
use Prim.Native.Nat.{ℕ}
use mathlib.Core.Path.{◌≡◌, refl, sym, ap, ap₂, ◌∙◌}
use mathlib.Core.Logic.{inl}
use mathlib.Core.Bool.{true, false≢true}
use mathlib.Core.List.{List, [], ◌∷◌, ◌++◌, map, flatten, map-map, map-append}
use Rattle.queue.proofs.Below.{by_test}
use Rattle.task.proofs.Tests.{chosen}
use Rattle.kernel.specs.declared.table.Request.{Request}
use Rattle.clock.specs.declared.clock.Clock.{Clock}
use Rattle.clock.specs.Row.{answered_tids}
use Rattle.clock.specs.Clock.{new_clock, hear}
use Rattle.clock.specs.Message.{asked_in}
use Rattle.clock.specs.Plan as Plan
use Rattle.clock.specs.Plan.{Answer, plan}
use Rattle.clock.proofs.Laws.{as_planned}
use Rattle.server.specs.Service.{Serving, serving}
use Rattle.served.specs.World.{World, area_of, decided, areas_after, asks_now, runs_next, state_asked, advanced, ended}
use Rattle.served.specs.Letters.{Letter, read, unread, replies, unsent, answers, mind_after}
use Rattle.served.specs.Laws as Served
use Rattle.served.specs.Laws.{is_opening, first_mind}
use Rattle.served.proofs.Laws.{letters_are_read, replies_are_answers, mind_is_kept}
use Rattle.served.proofs.Opening.{asked_opening}
use Rattle.served.proofs.Serves.{told_keeps}
use Rattle.clock_tasks.specs.declared.serving.Server.{Server}
use Rattle.clock_tasks.specs.Server.{new_server, made_tid, clock_service}
use Rattle.clock_tasks.specs.Laws.{clock_machine}
use Rattle.clock_laws.specs.Laws.{Begins, served, arrival, sent, ClockKeepsTime}
use Rattle.clock_laws.proofs.Service.{clock_fits}
use Rattle.clock_laws.proofs.Sound.{Whole, hear_fine, new_whole, Sound, new_sound}
use Rattle.clock_laws.proofs.AsServing.{ended_so, obeys_so}

-- WHAT THE SERVICE ANSWERS, as the clock does

map_flatten : {A B : Type 0} (f : A → B) (xss : List (List A)) → flatten (map (map f) xss) ≡ map f (flatten xss)
unfolding flatten
map_flatten f [] = refl
map_flatten f (xs ∷ xss) = ap (λ ys. map f xs ++ ys) (map_flatten f xss) ∙ sym (map-append f xs (flatten xss))

same_answers_lem : (c : Clock) (ls : List Letter) → answers clock_service c ls ≡ map (map sent) (Plan.answers c (map arrival ls))
unfolding answers Plan.answers
same_answers_lem c [] = refl
same_answers_lem c (l ∷ ls) =
    let h = hear c l.from (asked_in l.length l.bytes) in
    let told : ℕ → Answer = λ g. record { to = g; said = h.said } in
    ap₂ ◌∷◌ (sym (map-map sent told (answered_tids h.to))) (same_answers_lem h.clock ls)

-- the notifier stays
same_notifier : (c : Clock) (whole : Whole c) (ls : List Letter) → (mind_after clock_service c ls).notifier ≡ c.notifier
unfolding mind_after
same_notifier c whole [] = refl
same_notifier c whole (l ∷ ls) =
    let fine = hear_fine c whole l.from (asked_in l.length l.bytes) in
    same_notifier (hear c l.from (asked_in l.length l.bytes)).clock fine.whole ls ∙ fine.notifier

-- WHAT IT KEEPS AS IT FIRST LISTENS

-- a clock where nobody sleeps yet, with a count of 0
abbrev IsNew : Clock → Type 0
IsNew c = (v : ℕ) × (c ≡ new_clock v 0)

module _ (g : ℕ) where
  opening_new : (w : World (Serving Clock)) (r : Request) → is_opening w.state.phase ≡ true → IsNew w.state.mind
      → IsNew (advanced (serving clock_service) g w r).state.mind
  unfolding advanced
  opening_new w r yet new =
      let New : Serving Clock → Type 0 = λ q. IsNew q.mind in
      let q = state_asked (serving clock_service) g w r in
      let o = (decided w r).answer.result in
      let now : New q = chosen New (asks_now g w r) (λ _. new) (λ _. new) in
      chosen New (runs_next g w r)
      (λ _. told_keeps clock_service New q o (area_of g (areas_after w r)) now (λ o. (made_tid o, refl))
      (λ from v l. absurd (false≢true (sym (ap is_opening l) ∙ asked_opening clock_service g w r ∙ yet))))
      (λ _. now)

  first_new : (rs : List Request) (w : World (Serving Clock)) → IsNew w.state.mind → IsNew (first_mind clock_service g w rs)
  unfolding first_mind
  first_new [] w new = new
  first_new (r ∷ rs) w new =
      by_test (is_opening w.state.phase)
      (λ yet. rw yet (first_new rs (advanced (serving clock_service) g w r) (opening_new w r yet new)))
      (λ past. rw past new)

-- as it begins
pub begins_served : {n g : ℕ} {w : World Server} (priority : ℕ) → Begins n g w → w.state ≡ new_server priority → Served.Begins clock_service n g (served w)
begins_served priority b new =
    record { steps = b.steps; least = b.least; used = b.used; waits = b.waits; nothing = b.nothing; first = inl (ap (λ (s : Server). s.phase) new) }

pub clock_keeps_time_lem : ClockKeepsTime
clock_keeps_time_lem n g priority w rs begins new obeys =
    let sv = clock_service in
    let sound : Sound w.state = rw new (new_sound priority) in
    let begun = begins_served priority begins new in
    let obeyed = obeys_so g rs w sound obeys in
    let same = ended_so g rs w sound in
    let first = first_new g rs (served w) (0, ap (λ (s : Server). s.clock) new) in
    let v = first.0 in
    let ls = read sv g (served w) rs in
    let kept : (ended clock_machine g w rs).state.clock.notifier ≡ v =
    ap (λ (x : World (Serving Clock)). x.state.mind.notifier) same
    ∙ ap (λ (c : Clock). c.notifier) (mind_is_kept sv clock_fits n g (served w) rs begun obeyed ∙ ap (λ c. mind_after sv c ls) first.1)
    ∙ same_notifier (new_clock v 0) (new_whole v) ls in
    record {
      letters = letters_are_read sv clock_fits n g (served w) rs begun obeyed ∙ ap (λ (x : World (Serving Clock)). ls ++ unread sv g x) (sym same);
      answers =
          ap (λ (x : World (Serving Clock)). replies sv g (served w) rs ++ unsent x.state) same
          ∙ replies_are_answers sv clock_fits n g (served w) rs begun obeyed
          ∙ ap (λ (c : Clock). flatten (answers sv c ls)) first.1
          ∙ ap flatten (same_answers_lem (new_clock v 0) ls)
          ∙ map_flatten sent (Plan.answers (new_clock v 0) (map arrival ls))
          ∙ ap (λ (xss : List (List Answer)). map sent (flatten xss)) (as_planned v 0 (map arrival ls))
          ∙ ap (λ (k : ℕ). map sent (flatten (plan k 0 [] 0 (map arrival ls)))) (sym kept);
    }
