use Rattle.std.proofs.Common.{◌∙◌, ◌∷◌, [], List, ℕ, sym, ap, map, nat_eq}
use Rattle.std.specs.List.{slice_split}
use Rattle.pisa_asm.specs.Letters.{trim}
use Rattle.pisa_asm.specs.Views.{going}
use Rattle.text_lines.specs.LineLaws.{more_pieces, no_more_pieces}
use Rattle.pisa_asm.proofs.operands.say.Goals as goal

pub pieces-preserved : goal.pieces-preserved
pieces-preserved c =
    let split = more_pieces 44 c.pieces.rest.now (c.in-Some.piece.now, c.in-Some.others.now) (sym c.in-Some.ensures.value) in
    c.taking-judge.ensures (map trim (slice_split (λ b. nat_eq b 44) c.in-Some.others.now))
    ∙ ap (λ (t : List ℕ). going c.pieces.judge c.args.pc (t ∷ map trim (slice_split (λ b. nat_eq b 44) c.in-Some.others.now))) c.trim.ensures
    ∙ sym (ap (λ (ps : List (List ℕ)). going c.pieces.judge c.args.pc (map trim ps)) split)
    ∙ c.pieces.invariant

pub returns : goal.returns
returns c =
    let split = no_more_pieces 44 c.pieces.rest.now (sym c.in_default.ensures.value) in
    c.end-2.ensures
    ∙ c.taking.ensures []
    ∙ ap (λ (t : List ℕ). going c.pieces.judge c.args.pc (t ∷ [])) c.trim-2.ensures
    ∙ sym (ap (λ (ps : List (List ℕ)). going c.pieces.judge c.args.pc (map trim ps)) split)
    ∙ c.pieces.invariant
