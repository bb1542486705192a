-- Entry numbers by the bytes of the image, from what a step leaves of them and what bytes tell of a table.
use Prim.Native.Nat.{ℕ}
use mathlib.Core.Path.{◌≡◌, refl, sym, ap, ap₂, ◌∙◌}
use mathlib.Core.List.{List, [], ◌∷◌, map, Forall₂}
use native.Mathlib.Omega.{arith}
use lib.ListN.{length, length-map, get_or-map}
use Rattle.queue.proofs.Below.{by_test}
use Rattle.tid.specs.Sizes.{slot_count}
use Rattle.task.specs.declared.task.Task.{Task}
use Rattle.task.specs.Task.{no_task, is_used}
use Rattle.task.specs.Standing.{queue_of}
use Rattle.task.proofs.Tests.{zero_test}
use Rattle.kernel.specs.declared.table.Table.{Table}
use Rattle.kernel.specs.declared.table.Request.{Request}
use Rattle.kernel.specs.declared.table.Decision.{Decision}
use Rattle.kernel.specs.Table.{slots, task_at}
use Rattle.rules.specs.Facts.{Good}
use Rattle.rules.proofs.Good.{facts_good, good_shaped}
use Rattle.step.specs.Step.{step, after}
use Rattle.step.specs.Run.{run}
use Rattle.image.specs.Record.{record_length, at_entry, stored_place, task_record}
use Rattle.image.specs.Form.{fitted, reformed}
use Rattle.image.specs.Image.{image_of, table_of}
use Rattle.image.specs.Call.{request_from}
use Rattle.image.proofs.Fitted.{in_order_same}
use Rattle.image.proofs.Exact.{record_found}
use Rattle.image.proofs.Laws.{write_back}
use Rattle.records.proofs.Images.{image_records, read_records}
use Rattle.records.proofs.Tasks.{code_told, entry_told}
use Rattle.laws.specs.Entries.{bare_task, bare_table, bare_request}
use Rattle.laws.proofs.Steps.{step_sound}
use Rattle.laws.proofs.Waits.{step_keeps}
use Rattle.laws.proofs.Entries.{entries_stay}
use Rattle.laws.proofs.Bare.{entries_decide_nothing}
use Rattle.calls.specs.Calls.{Lent, calls, is_taken}
use Rattle.calls.specs.Laws.{HostFindsEntries, SameButEntry, seen_bare, HostsAlikeButEntries}
use Rattle.calls.proofs.Calls.{same_taken, known_edition, other_call, taken_call}
use Rattle.calls.proofs.Starts.{good_start}
use Rattle.calls.proofs.Accepted.{accepted_call}

-- WHICH TASK HAS WHICH

pub host_finds_entries : HostFindsEntries
host_finds_entries ed image areas request answer s below e =
    let (is, _, after) = accepted_call slot_count ed image areas request answer e in
    let t = table_of slot_count ed image in
    let r = request_from request in
    let t' = (step t r (length areas)).table in
    let good = (write_back slot_count ed is).0 in
    let good' = (step_sound (omega arith) t r (length areas) good).good in
    let records = read_records slot_count ed image is in
    let records' = image_records slot_count t' good'.rules.size in
    let keeps = entries_stay slot_count t r (length areas) s (omega arith) (good_shaped good) in
    rw (
      after,
      entry_told good.rules records s below,
      entry_told good'.rules records' s below,
      code_told good.rules records s below,
      code_told good'.rules records' s below,
      zero_test,
    ) (keeps.entry, keeps.by)

-- THAT THEY DECIDE NOTHING

-- a record without its last four bytes is that of the task without its entry number
record_bare : (x : Task) (place : ℕ) → fitted at_entry (task_record x place) ≡ fitted at_entry (task_record (bare_task x) place)
unfolding task_record
record_bare x place = by_test (is_used x.state) (λ e. rw e) (λ e. rw e)

at_bare : (t : Table) (s : ℕ) → task_at (bare_table t) s ≡ bare_task (task_at t s)
at_bare t s = get_or-map bare_task t.tasks s no_task

place_bare : (t : Table) (s : ℕ) → stored_place (bare_table t) s ≡ stored_place t s
unfolding stored_place queue_of
place_bare t s = rw (length-map, at_bare t s)

-- the image of a table without the last four bytes of each record
abbrev bare_image : Table → List ℕ
bare_image t = reformed slot_count record_length at_entry (image_of t)

image_bare : (t : Table) → slots t ≡ slot_count → bare_image t ≡ bare_image (bare_table t)
unfolding reformed
image_bare t size =
    in_order_same _ _ slot_count
    (λ s l. rw (record_found t s (omega arith), record_found (bare_table t) s (rw length-map (omega arith)), at_bare t s, place_bare t s)
    (record_bare (task_at t s) (stored_place t s)))

-- two good tables that are the same but for entry numbers
record AlikeTables (t t' : Table) : Type 0 where
  good : Good slot_count t
  good' : Good slot_count t'
  same : bare_table t ≡ bare_table t'

same_image : {t t' : Table} → AlikeTables t t' → bare_image t ≡ bare_image t'
same_image {t} {t'} a = image_bare t a.good.rules.size ∙ ap bare_image a.same ∙ sym (image_bare t' a.good'.rules.size)

-- both steps are alike, and leave alike tables
record AlikeSteps (xs : List ℕ) (d d' : Decision) : Type 0 where
  answer : d.answer ≡ d'.answer
  tables : AlikeTables d.table d'.table
  areas : after d.effect xs ≡ after d'.effect xs

step_alike : {t t' : Table} → AlikeTables t t' → (r r' : Request) → bare_request r ≡ bare_request r' → (xs : List ℕ)
    → AlikeSteps xs (step t r (length xs)) (step t' r' (length xs))
unfolding run
step_alike {t} {t'} a r r' asked xs =
    let n = slot_count in
    let u = entries_decide_nothing n t t' xs (r ∷ []) (r' ∷ []) (omega arith) (good_shaped a.good) (good_shaped a.good')
    (facts_good n t a.good) (facts_good n t' a.good') a.same (ap (λ r. r ∷ []) asked) in
    record {
      answer = cc;
      tables = record {
        good = (step_sound (omega arith) t r (length xs) a.good).good;
        good' = (step_sound (omega arith) t' r' (length xs) a.good').good;
        same = cc;
      };
      areas = cc;
    }

-- what is seen of two calls that are the same but for the image
seen_alike : (verdict : ℕ) (areas answer : List ℕ) {image image' : List ℕ} → image ≡ image'
    → ◌≡◌ {A = ℕ × List ℕ × List ℕ × List ℕ} (verdict, image, areas, answer) (verdict, image', areas, answer)
seen_alike verdict areas answer e = ap (λ image. (verdict, image, areas, answer)) e

same_seen : (ed : ℕ) {ls ls' : List Lent} → Forall₂ SameButEntry ls ls' → {t t' : Table} → AlikeTables t t' → t.edition ≡ ed → (areas : List ℕ)
    → map seen_bare (calls slot_count ed (image_of t) areas ls) ≡ map seen_bare (calls slot_count ed (image_of t') areas ls')
unfolding calls
same_seen ed Forall₂.nil a own areas = refl
same_seen ed (Forall₂.cons {a = l} {b = l'} h hs) {t} {t'} a own areas =
    let both = same_taken l l' h.sized h.room in
    let own' : t'.edition ≡ ed = sym (ap (λ (x : Table). x.edition) a.same) ∙ own in
    let known = known_edition a.good own in
    by_test (is_taken l)
    (λ taken.
    let s = step_alike a (request_from l.request) (request_from l'.request) h.asked areas in
    rw (taken_call a.good own areas l taken, taken_call a.good' own' areas l' (both ∙ taken), s.answer, ← s.areas)
    (ap₂ ◌∷◌ (seen_alike _ _ _ (same_image s.tables)) (same_seen ed hs s.tables (step_keeps t (request_from l.request) (length areas) ∙ own)
    (after (step t (request_from l.request) (length areas)).effect areas))))
    (λ other.
    rw (other_call slot_count ed known (image_of t) areas l other, other_call slot_count ed known (image_of t') areas l' (both ∙ other), h.room)
    (ap₂ ◌∷◌ (seen_alike _ _ _ (same_image a)) (same_seen ed hs a own areas)))

pub hosts_alike_but_entries : HostsAlikeButEntries
hosts_alike_but_entries k entry' bytes bytes' areas ls ls' started started' same =
    let (good, made) = good_start k bytes started in
    let (good', made') = good_start _ bytes' started' in
    rw (made, made') (same_seen k.edition same (record { good = good; good' = good'; same = refl }) refl areas)
