use Rattle.std.proofs.Common.{◌∙◌, subst, sym, ap}
use Rattle.pisa_isa.specs.Coding.{Codes, decoded}
use Rattle.pisa_isa.specs.CodingLaws.{word_codes, codes_decoded}
use Rattle.pisa_isa.proofs.coding.encode.Goals as goal

pub returns-clause-coding : goal.returns-clause-coding
returns-clause-coding c =
    subst (λ second. Codes c.number_of.result second c.args.i.now) (sym c.joined_fields.ensures) (word_codes c.args.i.now c.number_of.result c.requires c.number_of.ensures)

pub returns-clause-round_trip : goal.returns-clause-round_trip
returns-clause-round_trip c =
    ap (decoded c.number_of.result) c.joined_fields.ensures ∙ codes_decoded _ _ c.args.i.now (word_codes c.args.i.now c.number_of.result c.requires c.number_of.ensures)
