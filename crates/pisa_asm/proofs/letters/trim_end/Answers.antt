use Rattle.std.proofs.Common.{◌∙◌, sym, arith}
use Rattle.pisa_asm.proofs.Trims.{trim_end_blank, trim_end_other}
use Rattle.pisa_asm.proofs.letters.trim_end.Goals as goal

pub loop-front-preserved : goal.loop-front-preserved
loop-front-preserved c =
    trim_end_blank c.loop-front.front.now (omega arith) (sym c.is_blank.ensures ∙ c.if-not-is_blank.false) ∙ c.loop-front.invariant

pub returns-then-not-is_blank : goal.returns-then-not-is_blank
returns-then-not-is_blank c =
    trim_end_other c.loop-front.front.now (omega arith) (sym c.is_blank.ensures ∙ c.if-not-is_blank.true) ∙ c.loop-front.invariant
