-- `station::reading::hear_datum` meets its contract.
use Rattle.station.proofs.HeardOverMemory.{heard_data}
use Rattle.station.proofs.reading.hear_datum.Goals as goal

pub returns : goal.returns
returns c = rw (heard_data c.args.s c.args.mem.now c.args.b c.requires.1)
    (record {
      states = rw (c.keep_octets-s.ensures, c.take_data.ensures);
      leaves = c.store_data.ensures;
    })
