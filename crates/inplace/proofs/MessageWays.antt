-- Each way of Send, Reply and Receive.
use Prim.Native.Nat.{ℕ, ◌+◌, ◌*◌, ◌≤◌, ◌<◌, min}
use mathlib.Core.Path.{◌≡◌, refl, sym, ap, ◌∙◌}
use mathlib.Core.Logic.{◌≢◌}
use mathlib.Core.Bool.{Bool, true, false, ◌&&◌, false≢true}
use mathlib.Core.List.{List}
use native.Mathlib.Omega.{arith}
use lib.ListN.{get_or}
use lib.Seq.{get_or-set_other}
use lib.Dec.{ltb, leb, eqb}
use borrow.Author.Tests.{eq-eqb, ne_eqb, leb-true, le-leb, ltb-true}
use Rattle.queue.specs.Numbering.{send_queue}
use Rattle.queue.specs.Row.{place_at}
use Rattle.queue.proofs.Below.{by_test, both_true, true_both}
use Rattle.tid.specs.Tid.{slot_of, tid_of, slot_named}
use Rattle.tid.proofs.Trips.{slot_of_mark}
use Rattle.task.specs.declared.task.Buffer.{Buffer}
use Rattle.task.specs.declared.task.Outcome.TheVariants.{Nothing, Value, Fault}
use Rattle.task.specs.declared.task.State.TheVariants.{Ready, SendBlocked, ReceiveBlocked, ReplyBlocked}
use Rattle.task.specs.Task.{no_task, good_buffer, message_of, reply_of, is_alive, is_send_blocked}
use Rattle.task.specs.Standing.{queue_of}
use Rattle.kernel.specs.Table.{task_at, queue_at}
use Rattle.kernel.specs.Kinds.{delivery, is_cut, alive, send, receive, reply}
use Rattle.rules.specs.Good.{good_state}
use Rattle.rules.proofs.States.{state_facts, facts_state}
use Rattle.kept.proofs.Tasks.{code_at, same_code, unquiet, apart, value_good, buffer_small}
use Rattle.kept.proofs.Moves.{slot_used, sender_head}
use Rattle.kept.proofs.Woken.{wakes_none}
use Rattle.kept.proofs.Entries.{alive_used}
use Rattle.image.specs.Record.{at_state, at_awaited, at_message, at_reply, record_length, byte_at, buffer_in}
use Rattle.image.specs.Image.{table_of}
use Rattle.image.proofs.Laws.{edition_read}
use Rattle.records.specs.Records.{closed_up, head_of}
use Rattle.records.specs.Stage.{left_bytes}
use Rattle.records.proofs.Tasks.{byte_code}
use Rattle.records.proofs.Heads.{sender_headed}
use Rattle.records.proofs.Leaves.{receives_stage}
use Rattle.inplace.specs.declared.turn.Turn.{Turn}
use Rattle.inplace.specs.Ends.{alive_at, Begins, resumes_at, stops_at, Ends, delivers_at}
use Rattle.inplace.proofs.Buffers.{message_at, reply_at, closed_buffer}
use Rattle.inplace.proofs.Ways.{nobody_woke, goes_on_ends, halts_ends, queues_ends}
use Rattle.inplace.proofs.Requests.{caller_used, resumes_ends, stops_ends, one_wakes}

-- the turn of a Receive from slot s, whose message is there: the caller is told of it
abbrev receives_at : ℕ → ℕ → ℕ → Buffer → ℕ → Buffer → Turn
receives_at n used c b s sent =
    let copy = delivery s sent c b in
    record {
      used = used;
      woken = n;
      told = Nothing;
      state = Ready;
      place = 0;
      result = Value (tid_of s) (is_cut copy) sent.len;
      effect = copy;
    }

-- that of a Reply to slot s, which waits for it: both are told of it
abbrev replies_at : ℕ → ℕ → Buffer → ℕ → Buffer → Turn
replies_at used c b s into =
    let copy = delivery c b s into in
    record {
      used = used;
      woken = s;
      told = Value 0 (is_cut copy) b.len;
      state = Ready;
      place = 0;
      result = Value 0 (is_cut copy) (min b.len into.len);
      effect = copy;
    }

module _ {n ed used c : ℕ} {b count : List ℕ} (g : Begins n ed used c b count) (small : n < 255) (running : c < n) where
  -- The slot of a tid, as the code finds it.
  module _ (s target : ℕ) (found : s ≡ alive_at n b target) where
    abbrev lives : Bool
    lives = ltb 0 target && leb target n && (ltb 0 (byte_at b (slot_named target) at_state) && ltb (byte_at b (slot_named target) at_state) 7)

    -- no task of that tid exists
    lost : n ≤ s → alive (table_of n ed b) target ≡ false
    unfolding alive_at
    lost past =
        by_test (alive (table_of n ed b) target)
        (λ y.
        let (one, live) = both_true (ltb 0 target) _ y in
        let l = alive_used g.stage.rules (g.runs running) target y in
        let fits = g.stage.rules.tasks.fits in
        let all : lives ≡ true = true_both (true_both one (le-leb target n (omega arith))) (rw (byte_code g.stage (slot_named target) (omega arith)) live) in
        let is : s ≡ slot_named target = rw all at found in
        absurd (omega arith))
        (λ y. y)

    -- it is that of slot s
    named : s < n → (alive (table_of n ed b) target ≡ true) × (target ≡ tid_of s)
    unfolding alive_at
    named low =
        by_test lives
        (λ y.
        let (two, live) = both_true (ltb 0 target && leb target n) _ y in
        let (one, most) = both_true (ltb 0 target) _ two in
        let some = ltb-true 0 target one in
        let fits = leb-true target n most in
        let is : s ≡ slot_named target = rw y at found in
        (true_both one (rw (byte_code g.stage (slot_named target) (omega arith)) at live), omega arith))
        (λ y. let past : s ≡ n = rw y at found in absurd (omega arith))

    -- Send.
    module _ (m r : Buffer) where
      pub send_lost : n ≤ s → Ends n ed c (send (table_of n ed b) c target m r) (resumes_at n used (Fault 1)) b count
      unfolding send
      send_lost past = rw (lost past) (resumes_ends g small running (Fault 1) refl)

      module _ (l : s < n) where
        pub send_self : s ≡ c → Ends n ed c (send (table_of n ed b) c target m r) (resumes_at n used (Fault 2)) b count
        unfolding send
        send_self own = rw ((named l).0, eq-eqb target (tid_of c) (omega (arith, (named l).1))) (resumes_ends g small running (Fault 2) refl)

        module _ (other : s ≢ c) where
          another : eqb target (tid_of c) ≡ false
          another = ne_eqb target (tid_of c) (λ e. omega (arith, (named l).1))

          pub send_unfit : (good_buffer m && good_buffer r) ≡ false → Ends n ed c (send (table_of n ed b) c target m r) (resumes_at n used (Fault 3)) b count
          unfolding send
          send_unfit bad = rw ((named l).0, another, bad) (resumes_ends g small running (Fault 3) refl)

          module _ (fit : (good_buffer m && good_buffer r) ≡ true) where
            buffers : (good_buffer m ≡ true) × (good_buffer r ≡ true)
            buffers = both_true (good_buffer m) (good_buffer r) fit

            -- the target is busy: the caller stands at the tail of its send queue
            pub send_waits : byte_at b s at_state ≢ 3
                → Ends n ed c (send (table_of n ed b) c target m r) (stops_at n used (ReceiveBlocked (tid_of s) m r) (get_or count (send_queue s) 0)) b count
            unfolding send queue_of
            send_waits busy =
                let (live, is) = named l in
                let st = ReceiveBlocked (tid_of s) m r in
                let x = (task_at (table_of n ed b) s).state in
                let code : is_send_blocked x ≡ false = ne_eqb _ 3 (λ e. busy (byte_code g.stage s l ∙ e)) in
                let exists : is_alive x ≡ true = rw (is, slot_of_mark s) at (both_true (ltb 0 target) _ live).1 in
                let inside : s < used = omega (arith, alive_used g.stage.rules (g.runs running) target live) in
                let good : good_state used c st ≡ true = facts_state used c st
                (record {
                  message = buffers.0;
                  reply = buffers.1;
                  target = λ _. (omega arith, omega arith, λ e. other (omega arith));
                  event = λ e. absurd (false≢true e);
                }) in
                rw (live, another, fit, is, slot_of_mark s, code)
                (queues_ends g.stage (edition_read n ed b n) running (g.runs running) (send_queue s) st (get_or count (send_queue s) 0) refl refl refl refl good (omega arith) (omega arith) (omega arith)
                (λ j same. let own : j ≡ s = omega arith in rw own (unquiet x exists code))
                (λ e h same. absurd (omega arith)) (g.counted (send_queue s) (omega arith)))

            -- the target waits for it: it is woken with the message, and the caller waits for a reply
            pub send_delivers : byte_at b s at_state ≡ 3 → (into : Buffer) → into ≡ buffer_in b (s * record_length + at_message)
                → Ends n ed c (send (table_of n ed b) c target m r)
                (delivers_at used c m r s into)
                b count
            unfolding send
            send_delivers waits into read =
                let (live, is) = named l in
                let code : code_at (table_of n ed b) s ≡ 3 = sym (byte_code g.stage s l) ∙ waits in
                let good = value_good used m.len (tid_of c) (buffer_small m buffers.0) (omega (arith, caller_used g small running)) in
                let whole : into ≡ message_of (task_at (table_of n ed b) s).state = read ∙ message_at g.stage s l in
                rw (live, another, fit, is, slot_of_mark s, code, whole)
                (halts_ends (one_wakes g small running s 3 (delivers_at used c m r s (message_of (task_at (table_of n ed b) s).state)).told code (rw code) (omega arith) good) _ running
                (ReplyBlocked r) refl refl refl (rw buffers.1) (λ e. absurd (false≢true e)))

    -- Reply.
    module _ (d : Buffer) where
      pub reply_lost : n ≤ s → Ends n ed c (reply (table_of n ed b) c target d) (resumes_at n used (Fault 1)) b count
      unfolding reply
      reply_lost past = rw (lost past) (resumes_ends g small running (Fault 1) refl)

      module _ (l : s < n) where
        pub reply_idle : byte_at b s at_state ≢ 5 → Ends n ed c (reply (table_of n ed b) c target d) (resumes_at n used (Fault 2)) b count
        unfolding reply
        reply_idle other =
            let (live, is) = named l in
            rw (live, is, slot_of_mark s, ← byte_code g.stage s l, ne_eqb (byte_at b s at_state) 5 other) (resumes_ends g small running (Fault 2) refl)

        module _ (waits : byte_at b s at_state ≡ 5) where
          pub reply_unfit : good_buffer d ≡ false → Ends n ed c (reply (table_of n ed b) c target d) (resumes_at n used (Fault 3)) b count
          unfolding reply
          reply_unfit bad =
              let (live, is) = named l in
              rw (live, is, slot_of_mark s, ← byte_code g.stage s l, waits, bad) (resumes_ends g small running (Fault 3) refl)

          -- the sender is woken with the reply, and the caller goes on behind it
          pub reply_delivers : good_buffer d ≡ true → (awaited : Buffer) → awaited ≡ buffer_in b (s * record_length + at_reply)
              → Ends n ed c (reply (table_of n ed b) c target d)
              (replies_at used c d s awaited)
              b count
          unfolding reply
          reply_delivers fit awaited read =
              let (live, is) = named l in
              let code : code_at (table_of n ed b) s ≡ 5 = sym (byte_code g.stage s l) ∙ waits in
              let low = buffer_small d fit in
              let whole : awaited ≡ reply_of (task_at (table_of n ed b) s).state = read ∙ reply_at g.stage s l in
              let held = reply_of (task_at (table_of n ed b) s).state in
              let v = min d.len held.len in
              let turn = replies_at used c d s held in
              rw (live, is, slot_of_mark s, code, fit, whole)
              (goes_on_ends (one_wakes g small running s 5 turn.told code (rw code) (omega arith) (value_good used d.len 0 low (omega arith)))
              _ running turn.result (value_good used v 0 (omega arith) (omega arith)))

  -- Receive.
  module _ (d : Buffer) where
    pub receive_unfit : good_buffer d ≡ false → Ends n ed c (receive (table_of n ed b) c d) (resumes_at n used (Fault 3)) b count
    unfolding receive
    receive_unfit bad = rw bad (resumes_ends g small running (Fault 3) refl)

    module _ (fit : good_buffer d ≡ true) where
      many : get_or count (send_queue c) 0 ≡ (queue_at (table_of n ed b) (send_queue c)).len
      many = g.counted (send_queue c) (omega arith)

      -- nobody sends: the caller waits
      pub receive_waits : get_or count (send_queue c) 0 ≡ 0 → Ends n ed c (receive (table_of n ed b) c d) (stops_at n used (SendBlocked d) 0) b count
      unfolding receive
      receive_waits none =
          let empty : (queue_at (table_of n ed b) (send_queue c)).len ≡ 0 = sym many ∙ none in
          rw (fit, empty) (stops_ends g small running (SendBlocked d) refl refl refl (rw fit) (λ _. empty))

      module _ (s : ℕ) (found : s ≡ head_of 4 at_awaited (tid_of c) n b used) (some : get_or count (send_queue c) 0 ≢ 0) where
        filled : 0 < (queue_at (table_of n ed b) (send_queue c)).len
        filled = omega (arith, many)

        head : s ≡ slot_of (place_at (queue_at (table_of n ed b) (send_queue c)) 0)
        head = found ∙ sender_headed g.stage c n running filled

        sends : code_at (table_of n ed b) s ≡ 4
        sends = ap (code_at (table_of n ed b)) head ∙ sender_head g.stage.rules c running filled

        -- so the slot that the code found is one
        pub sender_used : s < used
        sender_used = slot_used g.stage.rules (rw sends)

        -- the head of the caller's send queue is received from, and waits for a reply; the caller goes on
        pub receive_takes : (b' b'' : List ℕ) (sent reply : Buffer) → b' ≡ closed_up 4 at_awaited (tid_of c) b used
            → sent ≡ buffer_in b' (s * record_length + at_message) → reply ≡ buffer_in b' (s * record_length + at_reply)
            → b'' ≡ left_bytes b' s (ReplyBlocked reply) Nothing 0
            → Ends n ed c (receive (table_of n ed b) c d)
            (receives_at n used c d s sent)
            b'' count
        unfolding receive
        receive_takes b' b'' sent reply closed read awaited left =
            let t = table_of n ed b in
            let sender = (task_at t s).state in
            let f = g.stage.rules in
            let l : s < n = omega (arith, sender_used, f.tasks.fits) in
            let stays : (at : ℕ) → 4 ≤ at → at + 4 ≤ record_length → buffer_in b' (s * record_length + at) ≡ buffer_in b (s * record_length + at) =
            λ at past fits. ap (λ (x : List ℕ). buffer_in x (s * record_length + at)) closed ∙ closed_buffer g.stage 4 (tid_of c) used s at past fits in
            let message : sent ≡ message_of sender = read ∙ stays at_message (omega arith) (omega arith) ∙ message_at g.stage s l in
            let answer : reply ≡ reply_of sender = awaited ∙ stays at_reply (omega arith) (omega arith) ∙ reply_at g.stage s l in
            let next = rw (← head) at (receives_stage g.stage c running filled) in
            let good = value_good used (message_of sender).len (tid_of s) (buffer_small (message_of sender) (state_facts used s sender (f.tasks.each s sender_used).state).message) (omega (arith, sender_used)) in
            rw (fit, ne_eqb (queue_at t (send_queue c)).len 0 (λ e. omega (arith, filled)), ← head, message, left, answer, closed)
            (goes_on_ends (nobody_woke next small g.near (λ _. same_code (get_or-set_other t.tasks s c _ no_task (apart t 1 4 (g.runs running) sends (omega arith))) (g.runs running)) (wakes_none _ Nothing) (edition_read n ed b n))
            _ running (receives_at n used c d s (message_of sender)).result good)
