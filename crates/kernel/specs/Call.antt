-- What a raw request asks for.
use Rattle.std.specs.Prelude.{ℕ, ◌<◌, Result, eqb}
use Rattle.std.proofs.Common.{Ok, Err}
use Rattle.queue.specs.Choose.{choose}
use Rattle.tid.specs.Sizes.{events, area_bytes}
use Rattle.kernel.specs.declared.table.Table.{Table}
use Rattle.kernel.specs.declared.table.Request.{Request}
use Rattle.kernel.specs.declared.table.Turn.{Turn}
use Rattle.kernel.specs.declared.call.Entry.{Entry}
use Rattle.kernel.specs.declared.call.Entry.TheVariants.{Create, MyTid, MyParentTid, Yield, Exit, Send, Receive, Reply, AwaitEvent, Event}
use Rattle.kernel.specs.declared.call.Call.{Call}
use Rattle.kernel.specs.declared.call.Call.TheVariants as C
use Rattle.kernel.specs.declared.refusal.Refusal.{Refusal}
use Rattle.kernel.specs.declared.refusal.Refusal.TheVariants.{BadKind}
use Rattle.kernel.specs.Kinds
use Rattle.kernel.specs.Numbers.{create_kind, my_tid_kind, my_parent_tid_kind, yield_kind, exit_kind, send_kind, receive_kind, reply_kind, await_event_kind, event_kind, own_write_kind}
use Rattle.kernel.specs.Decide.{buffer}

-- the call that a record asks for
abbrev pub call_of : Request → Result Call Refusal
call_of r =
    choose (eqb r.kind create_kind) (Ok (C.Entry (Create r.arg0 r.arg1)))
    (choose (eqb r.kind my_tid_kind) (Ok (C.Entry MyTid))
    (choose (eqb r.kind my_parent_tid_kind) (Ok (C.Entry MyParentTid))
    (choose (eqb r.kind yield_kind) (Ok (C.Entry Yield))
    (choose (eqb r.kind exit_kind) (Ok (C.Entry Exit))
    (choose (eqb r.kind send_kind) (Ok (C.Entry (Send r.arg0 (buffer r.arg1 r.arg2) (buffer r.arg3 r.arg4))))
    (choose (eqb r.kind receive_kind) (Ok (C.Entry (Receive (buffer r.arg0 r.arg1))))
    (choose (eqb r.kind reply_kind) (Ok (C.Entry (Reply r.arg0 (buffer r.arg1 r.arg2))))
    (choose (eqb r.kind await_event_kind) (Ok (C.Entry (AwaitEvent r.arg0)))
    (choose (eqb r.kind event_kind) (Ok (C.Entry (Event r.arg0 r.arg1)))
    (choose (eqb r.kind own_write_kind) (Ok (C.OwnWrite r.arg0 r.arg1))
    (Err BadKind)))))))))))

-- the work of an entry by the task of slot c
abbrev pub entry_turn : Table → ℕ → Entry → Turn
entry_turn t c (Create p e) = Kinds.create t c p e
entry_turn t c MyTid = Kinds.my_tid t c
entry_turn t c MyParentTid = Kinds.my_parent_tid t c
entry_turn t c Yield = Kinds.yield t
entry_turn t c Exit = Kinds.exit t c
entry_turn t c (Send g m r) = Kinds.send t c g m r
entry_turn t c (Receive b) = Kinds.receive t c b
entry_turn t c (Reply g b) = Kinds.reply t c g b
entry_turn t c (AwaitEvent e) = Kinds.await_event t c e
entry_turn t c (Event e w) = Kinds.event t e w

-- an entry that the kernel may do
abbrev pub Enters_by : ℕ → ℕ → Entry → Type 0
Enters_by n a (Create p e) = a < n
Enters_by n a MyTid = a < n
Enters_by n a MyParentTid = a < n
Enters_by n a Yield = a < n
Enters_by n a Exit = a < n
Enters_by n a (Send g m r) = a < n
Enters_by n a (Receive b) = a < n
Enters_by n a (Reply g b) = a < n
Enters_by n a (AwaitEvent e) = a < n
Enters_by n a (Event e w) = e < events

abbrev pub Admits : ℕ → ℕ → Call → Type 0
Admits n a (C.Entry e) = Enters_by n a e
Admits n a (C.OwnWrite o b) = (a < n) × ((o < area_bytes) × (b < 256))
