-- The bytes of the answer in the server's own area: it alone writes them.
use Prim.Native.Nat.{ℕ, ◌+◌, ◌≤◌, ◌<◌}
use mathlib.Core.Path.{◌≡◌, refl, sym, ap, ◌∙◌}
use mathlib.Core.Logic.{◌≢◌}
use mathlib.Core.Bool.{true}
use mathlib.Core.List.{List}
use native.Mathlib.Omega.{arith}
use native.Mathlib.Decide.{ℕ_discrete}
use lib.ListN.{length, get_or, set, take, drop, length-take, length-drop}
use lib.Seq.{get_or-set_same, get_or-set_other, get_or-take, get_or-drop, ext_get_or}
use lib.Dec.{ltb, eqb}
use borrow.Author.Tests.{eqb-true, ltb-true, ltb-false}
use Rattle.queue.proofs.Below.{by_test}
use Rattle.tid.specs.Sizes.{area_bytes}
use Rattle.tid.specs.Tid.{slot_named}
use Rattle.tid.proofs.Trips.{tid_named}
use Rattle.task.proofs.Tests.{chosen}
use Rattle.kernel.specs.declared.table.Table.{Table}
use Rattle.kernel.specs.declared.table.Request.{Request}
use Rattle.kernel.specs.declared.table.Effect.{Effect}
use Rattle.kernel.specs.declared.table.Effect.TheVariants.{Keep, Copy, Put}
use Rattle.kernel.specs.Numbers.{create_kind, send_kind, receive_kind, reply_kind, own_write_kind}
use Rattle.kernel.specs.Table.{task_at}
use Rattle.kernel.specs.Kinds.{place_in}
use Rattle.kernel.specs.Decide.{active_tid}
use Rattle.step.specs.Step.{after}
use Rattle.laws.specs.Parties.{Parties, parties, Lands}
use Rattle.laws.proofs.Areas.{Spares, spared, InBuffer, copy_writes, put_writes}
use Rattle.server.specs.declared.phase.Phase.{Phase}
use Rattle.server.specs.declared.phase.Phase.TheVariants.{Making, Made, Writing, Replying, Listening}
use Rattle.server.specs.Phase as Phases
use Rattle.served.specs.Letters.{copies}
use Rattle.served.proofs.Stands.{Stands, message_ends, reply_ends}

-- the i-th byte from an offset on, as it stands in the area of slot s; an answer's offset is its size
abbrev pub cell : ℕ → List ℕ → ℕ → ℕ → ℕ
cell offset xs s i = get_or xs (place_in s (offset + i)) 0

-- a step leaves it alone, unless it delivers into a buffer that it lies in, or is an own write of its task
pub cell_spared : (t : Table) (r : Request) (g : ℕ) → 1 ≤ g → (offset i : ℕ) → offset + i < area_bytes → (e : Effect) (xs : List ℕ) → Lands t r e
    → (copies e ≡ true → InBuffer (parties t r) (slot_named g) (offset + i) → ⊥) → (r.kind ≡ own_write_kind → active_tid t ≢ g)
    → cell offset (after e xs) (slot_named g) i ≡ cell offset xs (slot_named g) i
cell_spared t r g least offset i low e xs lands out other = spared e xs (place_in (slot_named g) (offset + i)) (spares e lands out)
  where
    spares : (e : Effect) → Lands t r e → (copies e ≡ true → InBuffer (parties t r) (slot_named g) (offset + i) → ⊥)
        → Spares e (place_in (slot_named g) (offset + i))
    spares Keep lands out = tt
    spares (Copy from to m cut) lands out = λ j h same. out refl (copy_writes lands (slot_named g) (offset + i) j low h same)
    spares (Put at byte) lands out = λ same. other lands.own (put_writes lands (slot_named g) (offset + i) low same ∙ tid_named g least)

-- a server receives into a buffer that ends where its answer begins
pub request_ends : (p : Phase) (priority size len byte tid : ℕ) (r : Request) → r ≡ Phases.request_in p priority size len byte tid → r.kind ≡ receive_kind
    → r.arg0 + r.arg1 ≤ size
request_ends p priority size len byte tid r same kind = go p same
  where
    other : (k : ℕ) → r.kind ≡ k → k ≢ receive_kind → r.arg0 + r.arg1 ≤ size
    other k is ne = absurd (ne (sym is ∙ kind))

    whole : r ≡ Phases.receives size → r.arg0 + r.arg1 ≤ size
    whole e = omega (arith, ap (λ (r : Request). r.arg0) e, ap (λ (r : Request). r.arg1) e)

    go : (p : Phase) → r ≡ Phases.request_in p priority size len byte tid → r.arg0 + r.arg1 ≤ size
    go Making e = other create_kind (ap (λ (r : Request). r.kind) e) (λ z. omega arith)
    go Made e = whole e
    go (Writing k) e = other own_write_kind (ap (λ (r : Request). r.kind) e) (λ z. omega arith)
    go (Replying k) e =
        by_test (ltb k len)
        (λ more. other reply_kind (ap (λ (r : Request). r.kind) (rw more at e)) (λ z. omega arith))
        (λ done. whole (rw done at e))
    go Listening e = whole e

-- A step leaves the answer's bytes alone, unless it is an own write of the server's task.
module _ {size : ℕ} (room : size + size ≤ area_bytes) (t : Table) (r : Request) (g : ℕ) (least : 1 ≤ g) {p : Phase}
    (stands : Stands size (task_at t (slot_named g)) p)
    (own-ends : active_tid t ≡ g → r.kind ≡ receive_kind → r.arg0 + r.arg1 ≤ size) where
  abbrev s : ℕ
  s = slot_named g

  narrow : (parties t r).taker ≡ g → (parties t r).taken.start + (parties t r).taken.len ≤ size
  narrow =
      let Ends : Parties → Type 0 = λ q. q.taker ≡ g → q.taken.start + q.taken.len ≤ size in
      chosen Ends (eqb r.kind send_kind) (λ _ e. rw e (message_ends stands))
      (λ _. chosen Ends (eqb r.kind receive_kind)
      (λ kind e. own-ends e (eqb-true r.kind receive_kind kind))
      (λ _ e. rw e (reply_ends stands)))

  pub cell_kept : (e : Effect) (xs : List ℕ) (i : ℕ) → i < size → Lands t r e → (r.kind ≡ own_write_kind → active_tid t ≢ g)
      → cell size (after e xs) s i ≡ cell size xs s i
  cell_kept e xs i low lands other =
      cell_spared t r g least size i (omega (arith, room)) e xs lands
      (λ _ lies. let ends = narrow (lies.taker ∙ tid_named g least) in omega (arith, lies.least, lies.most)) other

-- bytes, so many of them
pub record Sized (size : ℕ) (bytes : List ℕ) : Type 0 where
  pub long : length bytes ≡ size
  pub small : (k : ℕ) → get_or bytes k 0 < 256

-- the first k of them stand in the area of slot s, from an offset on
pub record Begun (k offset size : ℕ) (bytes xs : List ℕ) (s : ℕ) : Type 0 where
  pub sized : Sized size bytes
  pub each : (i : ℕ) → i < k → cell offset xs s i ≡ get_or bytes i 0

module _ {k offset size : ℕ} {bytes xs : List ℕ} {s : ℕ} (old : Begun k offset size bytes xs s) where
  -- they stay where they are kept, and fewer of them do
  pub begun_kept : (ys : List ℕ) (k' : ℕ) → k' ≤ k → ((i : ℕ) → i < k → cell offset ys s i ≡ cell offset xs s i) → Begun k' offset size bytes ys s
  begun_kept ys k' fewer same = record { sized = old.sized; each = λ i h. same i (omega arith) ∙ old.each i (omega arith) }

  -- one more
  pub begun_more : place_in s (offset + k) < length xs → Begun (k + 1) offset size bytes (set xs (place_in s (offset + k)) (get_or bytes k 0)) s
  begun_more fits =
      let v = get_or bytes k 0 in
      record {
        sized = old.sized;
        each = λ i h.
            elim (ℕ_discrete i k) [
              | yes here ↦ rw here (get_or-set_same xs (place_in s (offset + k)) v 0 fits)
              | no other ↦
                  get_or-set_other xs (place_in s (offset + k)) (place_in s (offset + i)) v 0 (λ e. other (omega arith)) ∙ old.each i (omega arith)
            ];
      }

  -- all of them
  pub begun_whole : place_in s offset + size ≤ length xs → size ≤ k → take size (drop (place_in s offset) xs) ≡ bytes
  begun_whole fits all =
      let at = place_in s offset in
      let l : length (take size (drop at xs)) ≡ size = simp (length-take, length-drop) (omega arith) in
      ext_get_or 0 (take size (drop at xs)) bytes (l ∙ sym old.sized.long)
      (λ i h.
      let low : i < size = omega arith in
      let place : at + i ≡ place_in s (offset + i) = omega arith in
      get_or-take size (drop at xs) i 0 low ∙ get_or-drop at xs i 0 ∙ ap (λ (k : ℕ). get_or xs k 0) place ∙ old.each i (omega arith))

-- what is written of an answer to so many in a phase
abbrev pub Written : Phase → ℕ → List ℕ → ℕ → List ℕ → ℕ → Type 0
Written Making size answer len xs s = Unit
Written Made size answer len xs s = Unit
Written (Writing k) size answer len xs s = (k < size) × Begun k size size answer xs s
Written (Replying k) size answer len xs s = k < len → Begun size size size answer xs s
Written Listening size answer len xs s = Unit

-- what was written stays where the bytes are kept
pub written_kept : (p : Phase) (size : ℕ) (answer : List ℕ) (len : ℕ) (xs ys : List ℕ) (s : ℕ)
    → ((i : ℕ) → i < size → cell size ys s i ≡ cell size xs s i)
    → Written p size answer len xs s → Written p size answer len ys s
written_kept Making size answer len xs ys s same w = tt
written_kept Made size answer len xs ys s same w = tt
written_kept (Writing k) size answer len xs ys s same w = (w.0, begun_kept w.1 ys k (omega arith) (λ i h. same i (omega (arith, w.0))))
written_kept (Replying k) size answer len xs ys s same w = λ more. begun_kept (w more) ys size (omega arith) same
written_kept Listening size answer len xs ys s same w = tt

-- one more byte
pub written_more : (k size : ℕ) (answer : List ℕ) (len : ℕ) (xs : List ℕ) (s : ℕ) → place_in s (size + k) < length xs
    → Written (Writing k) size answer len xs s
    → Written (Phases.after (Writing k) size len) size answer len (set xs (place_in s (size + k)) (get_or answer k 0)) s
written_more k size answer len xs s fits w =
    let more = begun_more w.1 fits in
    by_test (ltb (k + 1) size)
    (λ low. rw low (ltb-true (k + 1) size low, more))
    (λ last. rw last (λ _. begun_kept more _ size (omega (arith, ltb-false (k + 1) size last)) (λ _ _. refl)))
