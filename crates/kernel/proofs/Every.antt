-- Names for a proof's `unfolding` line, each of which opens several definitions.
use Rattle.kernel.specs.Kinds.{create, my_tid, my_parent_tid, yield, exit, send, receive, reply, await_event, event}
use Rattle.kernel.specs.Moves.{queued, joined, woken, woken_up_to, rejoined}

-- what every kind does
unfoldable pub every_kind : Unit {0}
unfolding create my_tid my_parent_tid yield exit send receive reply await_event event
every_kind = tt

-- every move up to the choice of the next task
unfoldable pub every_move : Unit {0}
unfolding queued joined woken woken_up_to rejoined
every_move = tt
