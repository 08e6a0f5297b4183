use Rattle.std.proofs.Common.{◌≡◌, vec_len, reverse}
use Rattle.pisa_asm.specs.Passes.{parts_in, text_in}
use Rattle.pisa_asm.proofs.Laying.{parts_from, text_from}
use Rattle.pisa_asm.proofs.assembling.lay.Given as goal

abbrev pub invariant-pieces : goal.invariant-pieces
invariant-pieces l = record {
  text : text_from l.pieces.items l.laid.text ≡ text_in l.initial.pieces.items;
  parts : parts_from l.pieces.items (reverse l.laid.parts.items) ≡ parts_in l.initial.pieces.items;
}

abbrev pub decreases-pieces : goal.decreases-pieces
decreases-pieces l = vec_len l.pieces
