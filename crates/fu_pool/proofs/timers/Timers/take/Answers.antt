use Rattle.std.proofs.Common.{sym, ◌∙◌, arith}
use Rattle.fu_pool.proofs.Free.{take_possible, take_answer}
use Rattle.fu_pool.proofs.timers.Timers.take.Goals as goal

pub unreachable-requires : goal.unreachable-requires
unreachable-requires c = take_possible _ _ _ _ (sym c.first_free.ensures ∙ c.in-None.is) c.self.view_is c.requires

pub returns : goal.returns
returns c = take_answer _ _ _ _ _ _ (sym c.first_free.ensures ∙ c.in-Some.is) c.self.view_is (omega (arith, c.self.told, c.self.invariant))
