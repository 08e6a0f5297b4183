use Rattle.std.proofs.Common.{refl}
use Rattle.cache_core.specs.Replay.{touched, lines_of, touch_of, number_of}
use Rattle.cache_core.proofs.laws.five_accesses_count.Goals as goal

pub returns : goal.returns
unfolding touched lines_of touch_of number_of
returns c = record { lru_reads = refl; lru_write = refl; fifo_reads = refl; fifo_write = refl }
