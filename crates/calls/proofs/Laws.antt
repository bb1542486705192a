-- The laws for a host, from what each call is.
use Prim.Native.Nat.{ℕ}
use mathlib.Core.Path.{◌≡◌, refl, sym, ap, ◌∙◌}
use mathlib.Core.List.{List, [], ◌∷◌, map, map-map, Forall₂}
use native.Mathlib.Omega.{arith}
use lib.ListN.{length}
use Rattle.tid.specs.Sizes.{slot_count}
use Rattle.kernel.specs.Edition.{is_edition}
use Rattle.queue.specs.Choose.{choose}
use Rattle.queue.proofs.Below.{by_test}
use Rattle.step.specs.Run.{last_of}
use Rattle.image.specs.Call.{answer_length}
use Rattle.lines.specs.Line.{line_of}
use Rattle.lines.specs.State.{effect_text, wide_line_of}
use Rattle.lines.specs.Block.{following, lines_from}
use Rattle.laws.proofs.SameRuns.{same_joined}
use Rattle.laws.proofs.Laws.{bytes_decide_nothing, bytes_have_origins}
use Rattle.entry.specs.Entry.{Call}
use Rattle.entry.specs.Laws.{Tells}
use Rattle.entry.proofs.Laws.{answer_tells}
use Rattle.calls.specs.Calls.{Lent, calls, requests_of, as_call}
use Rattle.calls.specs.Laws.{fresh_of, run_from, CallsAreRun, OthersChangeNothing, EachAnswerTells, HostIsToldOfCuts, HostsAlike, HostBytesHaveOrigins, LinesAlike}
use Rattle.calls.proofs.Calls.{other_call, unknown_call, calls_run, last_taken}
use Rattle.calls.proofs.Starts.{good_start}
use Rattle.calls.proofs.Alike.{same_requests, same_seen}
use Rattle.calls.proofs.Cuts.{run_cuts}

pub calls_are_run : CallsAreRun
calls_are_run k bytes areas ls started =
    let (good, made) = good_start k bytes started in
    rw made (calls_run (omega arith) ls good refl areas)

pub others_change_nothing : OthersChangeNothing
others_change_nothing ed image areas l other =
    by_test (is_edition ed) (λ known. rw (other_call slot_count ed known image areas l other) (refl, refl))
    (λ unknown. unknown_call slot_count ed unknown image areas l.request l.answer)

-- of calls on any bytes
each_tells : (ed : ℕ) (ls : List Lent) (image areas : List ℕ)
    → Forall₂ (λ l c. length l.answer ≡ answer_length → Tells c) ls (calls slot_count ed image areas ls)
unfolding calls
each_tells ed [] image areas = Forall₂.nil
each_tells ed (l ∷ ls) image areas = Forall₂.cons (answer_tells ed image areas l.request l.answer) (each_tells ed ls _ _)

pub each_answer_tells : EachAnswerTells
each_answer_tells k bytes areas ls = each_tells k.edition ls _ areas

pub host_is_told_of_cuts : HostIsToldOfCuts
host_is_told_of_cuts k bytes areas ls started size =
    let (good, _) = good_start k bytes started in
    let answer_of : Call → List ℕ = λ c. c.answer in
    rw (calls_are_run k bytes areas ls started, map-map answer_of as_call (run_from k areas ls))
    (run_cuts (omega arith) good areas (requests_of ls) size)

pub hosts_alike : HostsAlike
hosts_alike k bytes bytes' areas areas' ls ls' started started' size same =
    let (good, made) = good_start k bytes started in
    let made' = (good_start k bytes' started').1 in (
      rw (made, made') (same_seen (omega arith) same refl good refl areas areas' size),
      (bytes_decide_nothing (fresh_of k) areas areas' (requests_of ls) (requests_of ls') size (same_requests same)).same_movements,
    )

pub host_bytes_have_origins : HostBytesHaveOrigins
host_bytes_have_origins k bytes areas ls started =
    let u = run_from k areas ls in
    let areas_of : Call → List ℕ = λ c. c.areas in
    bytes_have_origins (fresh_of k) areas (requests_of ls)
    ∙ sym (ap (λ cs. last_of areas (map areas_of cs)) (calls_are_run k bytes areas ls started) ∙ ap (last_of areas) (map-map areas_of as_call u))
    ∙ last_taken slot_count k.edition (good_start k bytes started).0.edition ls _ areas

pub lines_alike : LinesAlike
unfolding lines_from wide_line_of effect_text
lines_alike wide t areas areas' input input' size same =
    same_joined following (λ k kind d. choose wide (wide_line_of k kind d) (line_of k kind d.answer)) (λ _ _ t a at v w. refl) (lines_from wide)
    (λ _ _ _. refl) same refl areas areas' size 1
