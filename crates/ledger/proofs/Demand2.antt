-- Demand 2 whole (specs/Demand2.antt).
use Rattle.telegram.proofs.Framing.{framing}
use Rattle.telegram.proofs.FirstOctets.{first_octets}
use Rattle.telegram.proofs.Sends.{sending}
use Rattle.rules.proofs.Repeats.{repeat_exactly, none_repeated}
use Rattle.rules.proofs.ChainUnseen.{unseen}
use Rattle.ledger.specs.Demand2.{Demand2}
use Rattle.ledger.proofs.ByGrammar.{by_grammar, sd4_without_effect}
use Rattle.ledger.proofs.Hearing.{hears, dialogue}
use Rattle.ledger.proofs.History.{deeds_make, withheld_told, clear_last, takes_told}
use Rattle.ledger.proofs.EventsFollow.{events_open, publishing_raises}
use Rattle.ledger.proofs.ModesKept.{modes_always}
use Rattle.ledger.proofs.RequestKept.{chain_kept, chain_goes_on, start_has_none}
use Rattle.ledger.proofs.Repeats.{in_octets, repeat_is, drawn_again, e5_again, set_prm_once, no_deed_again}
use Rattle.ledger.proofs.OneWay.{one_way}
use Rattle.ledger.proofs.Watchdog.{watchdog_base}
use Rattle.ledger.proofs.Fit.{replies_read}
use Rattle.ledger.proofs.Octets.{sent_octets}

pub demand_2 : Demand2
demand_2 = record {
  framing = framing;
  first_octets = first_octets;
  by_grammar = by_grammar;
  sd4 = sd4_without_effect;
  hears = hears;
  dialogue = dialogue;
  events_open = events_open;
  deeds_make = deeds_make;
  withheld_told = withheld_told;
  clear_last = clear_last;
  takes_told = takes_told;
  publishing_raises = publishing_raises;
  modes_kept = modes_always;
  in_octets = in_octets;
  repeat_exactly = repeat_exactly;
  repeat_is = repeat_is;
  start_has_none = start_has_none;
  none_repeated = none_repeated;
  chain_kept = chain_kept;
  chain_goes_on = chain_goes_on;
  chain_unseen = unseen;
  drawn_again = drawn_again;
  e5_again = e5_again;
  set_prm_once = set_prm_once;
  no_deed_again = no_deed_again;
  one_way = one_way;
  watchdog_base = watchdog_base;
  sending = sending;
  reading_back = replies_read;
  sent_octets = sent_octets;
}
