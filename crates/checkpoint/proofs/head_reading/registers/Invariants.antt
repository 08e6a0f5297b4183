use Rattle.std.proofs.Common.{◌≡◌, length, take}
use Rattle.checkpoint.specs.Reading.{words_at}
use Rattle.checkpoint.proofs.head_reading.registers.Given as goal

abbrev pub invariant-loop-k : goal.invariant-loop-k
invariant-loop-k l = record {
  so_far : take l.k l.regs ≡ words_at l.k l.bytes 24;
  count : length l.regs ≡ 31;
}
