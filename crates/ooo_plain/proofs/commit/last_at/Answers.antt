use Rattle.std.proofs.Common.{cond, length, Some, None, sym, ap, ◌∙◌}
use Rattle.ooo_plain.proofs.Untils.{at_place}
use Rattle.ooo_plain.proofs.commit.last_at.Goals as goal

pub returns-then-is_last : goal.returns-then-is_last
returns-then-is_last c = λ set olds r k.
    let p = at_place set c.args.at c.args.rows.now olds r c.index-rows-at.result c.requires c.index-rows-at.is k in
    ap Some p.number ∙ sym (ap (λ b. cond b (Some (length olds)) None) (sym (c.is_last.ensures set olds r p.first p.rest) ∙ c.if-is_last.true))

pub returns-else-is_last : goal.returns-else-is_last
returns-else-is_last c = λ set olds r k.
    let p = at_place set c.args.at c.args.rows.now olds r c.index-rows-at.result c.requires c.index-rows-at.is k in
    sym (ap (λ b. cond b (Some (length olds)) None) (sym (c.is_last.ensures set olds r p.first p.rest) ∙ c.if-is_last.false))
