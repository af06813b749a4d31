-- `station::hearing::hear_data` meets its contract.
use Rattle.state.specs.Unpack.{unpacked}
use Rattle.station.proofs.HeardOverMemory.{leaves_data}
use Rattle.station.proofs.hearing.hear_data.Goals as goal

pub returns : goal.returns
returns c =
    let m = c.args.mem.now in
    leaves_data m (unpacked m) c.requires.0 c.args.b c.incoming-old.result c.incoming-old.ensures c.requires.1 _ _ _ _
    c.store_received.ensures c.take_data-next.ensures c.save_read.ensures c.keep_octet.ensures
