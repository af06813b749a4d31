-- `ranges::word::half` meets its contract.
use Rattle.std.proofs.Common.{sym, ap, ◌∙◌, arith}
use Rattle.ranges.specs.Octets.{number}
use Rattle.ranges.proofs.Words.{reads, part_reads}
use Rattle.ranges.proofs.word.half.Goals as goal

pub returns : goal.returns
unfolding number reads
returns c = c.from_le_bytes.ensures ∙ omega arith ∙ ap number (sym (part_reads c.args.mem.now c.args.at 3 c.requires))
