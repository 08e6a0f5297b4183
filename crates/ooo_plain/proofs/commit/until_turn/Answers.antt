use Rattle.std.proofs.Common.{arith}
use Rattle.ooo_plain.proofs.Untils.{until_here, until_passed}
use Rattle.ooo_plain.proofs.commit.until_turn.Goals as goal

pub returns-in-Some : goal.returns-in-Some
returns-in-Some c = λ set first e s. until_passed set c.args.cycle c.args.most c.args.at c.in-Some.row first c.args.rows.now c.args.ended (omega (arith, s.many)) c.in-Some.is s

pub returns-in-None : goal.returns-in-None
returns-in-None c = λ set first e s.
    until_here set c.args.cycle c.args.most c.args.at first c.args.rows.now c.commit_turn.new.rows c.args.ended c.last_at.result (omega (arith, s.many)) c.in-None.is s (c.commit_turn.ensures set e)
    (λ olds r k. c.last_at.ensures set olds r k)
