use Rattle.fu_pool.proofs.Free.{free_answer}
use Rattle.fu_pool.proofs.timers.Timers.is_free.Goals as goal

pub returns : goal.returns
returns c = free_answer _ _ _ _ c.any_free.ensures c.self.view_is
