-- Two lists of calls that differ only in bytes show the same, call by call.
use Prim.Native.Nat.{ℕ, ◌<◌}
use mathlib.Core.Path.{◌≡◌, refl, sym, subst, ap, ap₂, ◌∙◌}
use mathlib.Core.List.{List, ◌∷◌, map, Forall₂}
use lib.ListN.{length}
use Rattle.queue.proofs.Below.{by_test}
use Rattle.task.specs.Task.{first_negative}
use Rattle.kernel.specs.declared.table.Table.{Table}
use Rattle.rules.specs.Facts.{Good}
use Rattle.image.specs.Image.{image_of}
use Rattle.image.specs.Call.{request_from, answer_bytes}
use Rattle.laws.specs.Same.{SameButWrites}
use Rattle.laws.proofs.SameRuns.{length_after, same_step, same_table}
use Rattle.laws.proofs.Steps.{step_sound}
use Rattle.laws.proofs.Waits.{step_keeps}
use Rattle.calls.specs.Calls.{Lent, calls, is_taken, of_taken, requests_of}
use Rattle.calls.specs.Laws.{SameButByte, seen}
use Rattle.calls.proofs.Calls.{same_taken, not_taken, known_edition, other_call, taken_call}

pub same_requests : {ls ls' : List Lent} → Forall₂ SameButByte ls ls' → SameButWrites (requests_of ls) (requests_of ls')
unfolding of_taken
same_requests Forall₂.nil = Forall₂.nil
same_requests (Forall₂.cons {a = l} {b = l'} h hs) =
    let both = same_taken l l' h.sized h.room in
    by_test (is_taken l) (λ taken. rw (both, taken) (Forall₂.cons h.asked (same_requests hs))) (λ other. rw (both, other) (same_requests hs))

pub same_seen : {n ed : ℕ} → n < first_negative → {ls ls' : List Lent} → Forall₂ SameButByte ls ls' → {t t' : Table} → t ≡ t' → Good n t → t.edition ≡ ed
    → (areas areas' : List ℕ) → length areas ≡ length areas'
    → map seen (calls n ed (image_of t) areas ls) ≡ map seen (calls n ed (image_of t') areas' ls')
unfolding calls
same_seen small Forall₂.nil e good own areas areas' size = refl
same_seen {n} {ed} small (Forall₂.cons {a = l} {b = l'} h hs) {t} {t'} e good own areas areas' size =
    let both = same_taken l l' h.sized h.room in
    let known = known_edition good own in
    by_test (is_taken l)
    (λ taken.
    rw (taken_call good own areas l taken, taken_call (subst (Good n) e good) (ap (λ (x : Table). x.edition) (sym e) ∙ own) areas' l' (both ∙ taken))
    (ap₂ ◌∷◌ (same_step (λ _ d. (d.answer.verdict, image_of d.table, answer_bytes d.answer)) (λ _ t a at v w. refl) h.asked e size)
    (same_seen small hs (same_table h.asked e size) (step_sound small t (request_from l.request) (length areas) good).good
    (step_keeps t (request_from l.request) (length areas) ∙ own) _ _
    (simp length_after size))))
    (λ other.
    rw (other_call n ed known (image_of t) areas l other, other_call n ed known (image_of t') areas' l' (both ∙ other))
    (ap₂ ◌∷◌ (ap₂ (λ t answer. seen (not_taken (image_of t) areas answer)) e h.room) (same_seen small hs e good own areas areas' size)))
