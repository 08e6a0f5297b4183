use Rattle.std.proofs.Common.{◌≡◌, ◌∙◌, List, [], reverse, sym, ap, rules}
use Rattle.ecoff_load.specs.declared.image.Part.{Part}
use Rattle.pisa_asm.specs.declared.sheet.Piece.{Piece}
use Rattle.pisa_asm.proofs.Laying.{parts_from, parts_last, parts_whole, text_from, text_last, text_whole}
use Rattle.pisa_asm.proofs.assembling.lay.Goals as goal

pub pieces-init : goal.pieces-init
pieces-init c =
    let none : c.new.result.items ≡ [] = search rules in
    record {
      text = text_whole c.args.pieces.items;
      parts = ap (λ (xs : List Part). parts_from c.args.pieces.items (reverse xs)) none ∙ parts_whole c.args.pieces.items;
    }

pub pieces-preserved : goal.pieces-preserved
pieces-preserved c =
    let front = c.pop.new.self.items in
    let piece = c.in-Some.piece in
    record {
      text =
          ap (text_from front) c.in-Ok.ensures.text ∙ sym (text_last front piece c.pieces.laid.text)
          ∙ sym (ap (λ (ps : List Piece). text_from ps c.pieces.laid.text) c.in-Some.ensures.items) ∙ c.pieces.invariant.text;
      parts =
          ap (parts_from front) c.in-Ok.ensures.parts ∙ sym (parts_last front piece (reverse c.pieces.laid.parts.items))
          ∙ sym (ap (λ (ps : List Piece). parts_from ps (reverse c.pieces.laid.parts.items)) c.in-Some.ensures.items) ∙ c.pieces.invariant.parts;
    }
