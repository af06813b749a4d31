-- Gap, send and tick on the state and the memory.
use Rattle.std.specs.Prelude.{ℕ, Bool, cond, List}
use Rattle.telegram.specs.declared.reader.Reader.{Reader}
use Rattle.telegram.specs.declared.sender.Sender.{Sender}
use Rattle.telegram.specs.Reading.{start, off}
use Rattle.telegram.specs.Sending.{left, sent}
use Rattle.state.specs.declared.state.Reply.{Reply}
use Rattle.state.specs.declared.state.State.{State}
use Rattle.rules.specs.Line.{ticked}
use Rattle.state.specs.With.{with_reply}
use Rattle.steps.specs.Stepped.{Stepped, unchanged}
use Rattle.steps.specs.Line.{begun, busy}
use Rattle.steps.specs.Outcome.{carried, settle}
use Rattle.state.specs.Start.{no_reply}
use Rattle.steps.specs.Replies.{asked_for}
use Rattle.steps.specs.Reading.{read_by}

-- a gap: the next octet may begin a telegram
unfoldable pub paused : State → List ℕ → Stepped
paused s m = settle (read_by s start) m

-- the reply with its sender gone on
abbrev pub sent_by : Reply → Sender → Reply
sent_by r x = record { drawn = r.drawn; sender = x; place = r.place; header = r.header }

-- what send answers: the next octet of the reply, 256 when no octet is left
unfoldable pub send_told : State → List ℕ → ℕ
send_told s m = cond (left s.reply.sender) (sent s.reply.sender (asked_for s m)).octet 256

-- and what it leaves: the sender gone on, if an octet was left
unfoldable pub send_left : State → List ℕ → Stepped
send_left s m =
    cond (left s.reply.sender)
    (settle (with_reply s (sent_by s.reply (sent s.reply.sender (asked_for s m)).sender)) m)
    (unchanged s m)

-- the reading that a Tick leaves: a telegram that is coming is dropped
abbrev pub silenced_reader : Bool → Reader → Reader
silenced_reader inside r = cond inside off r

-- the next Tick after a clear was noted drops telegram or reply, so that it is carried out, counting nothing
unfoldable pub elapsed : State → List ℕ → Stepped
elapsed s m =
    cond s.control.noted
    (settle (with_reply (read_by s (silenced_reader (begun s) s.incoming.reader)) no_reply) m)
    (carried s m (ticked (busy s) s.control) 0)
