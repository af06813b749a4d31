-- Demand 2: the station takes exactly the telegrams of the grammar, acts on each as the service rules say, and sends exactly the reply
-- that they give. The rules are the definitions of the crate rules, carried out on lists in Outcome.antt; demand 3 ties them to the memory.
use Rattle.telegram.specs.Telegram.{Telegram}
use Rattle.telegram.specs.Framing.{FramingPromise, FirstOctets}
use Rattle.telegram.specs.Sending.{SendingPromise}
use Rattle.state.specs.declared.setup.Setup.{Setup}
use Rattle.rules.specs.declared.request.Request.{Request}
use Rattle.ledger.specs.Ledger.{Ledger}
use Rattle.ledger.specs.History.{DeedsMake, WithheldTold, ClearLast, TakesTold}
use Rattle.ledger.specs.Hearing.{Hears, Dialogue}
use Rattle.ledger.specs.ByGrammar.{ByGrammar, Sd4WithoutEffect}
use Rattle.ledger.specs.ReadBack.{ReadingBack}
use Rattle.ledger.specs.Octets.{SentOctets}
use Rattle.ledger.specs.EventsFollow.{EventsOpen, PublishingRaises}
use Rattle.ledger.specs.ModesKept.{ModesAlways}
use Rattle.ledger.specs.Repeats.{InOctets, ChainUnseen, RepeatExactly, RepeatIs, StartHasNone, NoneRepeated, ChainKept, ChainGoesOn, DrawnAgain, E5Again, SetPrmOnce, NoDeedAgain}
use Rattle.ledger.specs.OneWay.{OneWay}
use Rattle.ledger.specs.Watchdog.{WatchdogBase}

pub record Demand2 : Type 0 where
  -- of every list of octets the reader tells what the grammar says
  pub framing : FramingPromise
  -- a telegram begins with 10, 68, A2 or DC
  pub first_octets : FirstOctets
  -- every ledger hears by the grammar, octet by octet, whatever calls come between
  pub by_grammar : ByGrammar
  -- SD4 is without effect
  pub sd4 : Sd4WithoutEffect
  -- a telegram heard after a gap acts whole
  pub hears : (l : Ledger) (t : Telegram) → Hears l t
  -- and is replied to whole, then 256
  pub dialogue : (l : Ledger) (t : Telegram) → Dialogue l t
  -- events 10 and 11 are set exactly while a set of that kind is open
  pub events_open : EventsOpen
  -- every call makes of the outputs what its deeds say
  pub deeds_make : DeedsMake
  -- a sync or an unsync finds something held back exactly if the deeds say so
  pub withheld_told : WithheldTold
  -- and a clear in the same telegram comes last
  pub clear_last : ClearLast
  -- a take answers what the deeds say
  pub takes_told : TakesTold
  -- whatever publishes raises 13, and nothing else does
  pub publishing_raises : PublishingRaises
  -- a mode is on in DATA_EXCH alone and where Set_Prm allowed it, and something is held back in sync alone
  pub modes_kept : ModesAlways
  -- what is a request, its bits 4 and 5 and its master, in octets
  pub in_octets : (g : Setup) (r : Request) → InOctets g r
  -- a repeat is exactly a request with FC bit 4 set and the last one's master and bit 5
  pub repeat_exactly : RepeatExactly
  -- a repeat refills the owner's watchdog and draws what the earlier request drew, nothing else, but that it lets go what waits for its end
  pub repeat_is : RepeatIs
  -- at first there is no request to repeat
  pub start_has_none : StartHasNone
  -- and without one nothing is a repeat
  pub none_repeated : NoneRepeated
  -- nothing but a new request touches the chain
  pub chain_kept : ChainKept
  -- which goes into it or ends it; a repeat leaves it
  pub chain_goes_on : (l : Ledger) (t : Telegram) → ChainGoesOn l t
  -- what is no repeat does not look at it
  pub chain_unseen : ChainUnseen
  -- whatever a request drew is drawn again when it is sent again
  pub drawn_again : DrawnAgain
  -- a request that drew E5 and is sent again draws E5, and nothing else comes of it
  pub e5_again : E5Again
  -- so a Set_Prm's event comes once
  pub set_prm_once : SetPrmOnce
  -- and the outputs of a Data_Exchange are accepted once
  pub no_deed_again : NoDeedAgain
  -- stations without inputs or without outputs: the empty list is published, and the reply without inputs is E5 or tells Diag_Flag
  pub one_way : OneWay
  -- the watchdog has 1 or 10 times the product of its factors, by octet 7 of Set_Prm, and never more than 650,250 ticks
  pub watchdog_base : WatchdogBase
  -- the sender of a telegram sends its octets
  pub sending : SendingPromise
  -- every reply but E5 reads back as a telegram with the same fields
  pub reading_back : ReadingBack
  -- what is sent are octets, and 256 says that none is left
  pub sent_octets : SentOctets
