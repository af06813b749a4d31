-- The proof that the answers of the steps over the memory are the ledger's. Its files in the order of reading, what each shows and what for:
-- what is known between two calls
--   Relation: the relation of a state and a memory to a ledger, and a call that both sides tell alike: what all files below show of a step
--   Steady: facts of every ledger that calls lead to; with the relation they are Related, which every call starts from
-- what a change leaves as it was
--   OtherBuffersStay: a memory that changed in one buffer: what the relation says of the others stays, for every store and every list written
--   LineStays: reading and reply agree as before where the change is beside what they look at, for every step that keeps one of them
--   SameLine: begun, busy, unfinished and open are the same on both sides, so that both sides take the same way
--   OnePartChanges: the relation where the control part, the diagnosis buffers, the reading or the reply alone changed, for the steps that do no more
-- an outcome of the rules
--   OutcomeCarried: it is carried out alike, with the data of a telegram or without: for a last octet, and for Tick, leave, judging and settling
--   SettleAgrees: a delayed diagnosis and a noted clear take effect alike, at the end of every call of the bus
--   OutcomesKeepOrder: an outcome keeps the facts that have nothing to do with the line, for the next
--   CallsKeepSteady: every call keeps all facts of the ledger
-- the octet
--   DataOctetStored: a data octet is stored: its buffer begins with one more, and every other buffer stays
--   ReadingChanges: the relation where the reading and the buffer that data goes into alone changed, for inner octets
--   DataStands: the data octets that came stand where the header says, for inner octets and the last one
--   InnerOctetAgrees: an inner octet lengthens the telegram alike
--   ReplyDrawn: the reply that is drawn is the ledger's, for the last octet
--   LastOctetAgrees: a last octet has the same outcome on both sides and draws the same reply
--   OctetAgrees: every octet, by what it is
-- the other calls
--   SendAgrees: send tells the same octet of the reply
--   GapAndTickAgree: a gap and a Tick
--   UserCallsAgree: the calls of the vat program but read and write
--   ReadWriteAgrees: read and write, which reach for one octet in the memory
--   CallsKeepReply: every call keeps the fact on the reply that Related has
-- every list of calls
--   StartAgrees: behind a setup that Start laid out both sides are related
--   EveryCallAgrees: every call is told alike and leaves both sides related
--   PackedAgrees: the state packed in front of the memory again: both sides still agree
--   StepAgrees: one step over a memory that holds a state does what the ledger does
--   Agreement: with the check in front, the same of every list of calls over the lent memory: the theorem
--   Bench: document 01's bench list over the memory
mod Relation
mod Steady
mod OtherBuffersStay
mod LineStays
mod SameLine
mod OnePartChanges
mod OutcomeCarried
mod SettleAgrees
mod OutcomesKeepOrder
mod CallsKeepSteady
mod DataOctetStored
mod ReadingChanges
mod DataStands
mod InnerOctetAgrees
mod ReplyDrawn
mod LastOctetAgrees
mod OctetAgrees
mod SendAgrees
mod GapAndTickAgree
mod UserCallsAgree
mod ReadWriteAgrees
mod CallsKeepReply
mod StartAgrees
mod EveryCallAgrees
mod PackedAgrees
pub mod StepAgrees
pub mod Agreement
pub mod Bench
