-- the known bytes have grown by what was written so far, and the rest is what is left
use Rattle.std.proofs.Common.{◌≡◌, ◌≤◌, length, drop, take, ◌-◌}
use Rattle.std.specs.Io.KnownBytes.{Appends}
use Rattle.ss_base.proofs.host.write_whole.Given as goal

abbrev pub invariant-loop : goal.invariant-loop
invariant-loop g l = record {
  shorter : length l.rest ≤ length l.bytes;
  left : l.rest ≡ drop (length l.bytes - length l.rest) l.bytes;
  grown : Appends (g.W.Write.contents l.fn.out) (g.W.Write.contents l.out) (take (length l.bytes - length l.rest) l.bytes);
}
