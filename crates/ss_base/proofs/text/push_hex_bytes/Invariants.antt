-- the digits so far and those of the bytes that are left are the digits of all
use Rattle.std.proofs.Common.{◌≡◌, ◌++◌, drop}
use Rattle.ss_base.specs.Text.{hex_bytes}
use Rattle.ss_base.specs.Outside.{BeginsWith}
use Rattle.ss_base.proofs.text.push_hex_bytes.Given as goal

abbrev pub invariant-loop-byte : goal.invariant-loop-byte
invariant-loop-byte l = record {
  text : l.into.items ++ hex_bytes (drop l.byte-index l.bytes) ≡ l.fn.into.items ++ hex_bytes l.bytes;
  begins : BeginsWith l.into.items l.fn.into.items;
}
