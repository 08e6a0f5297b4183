use Rattle.std.proofs.Common.{◌∙◌, ap, ◌-◌}
use Rattle.ruu_core.proofs.Calls.{squash_sound, squash_returns, squash_counts}
use Rattle.ruu_core.proofs.unit.Ruu.squash_after.Goals as goal

pub invariant_of-self : goal.invariant_of-self
invariant_of-self c = squash_sound c.self.inside.slots c.truncate_back.new.self c.self.inside.last c.args.row c.count_up_to-count.result c.self.invariant c.count_up_to-count.ensures.slots c.truncate_back.ensures

pub returns-clause-rows : goal.returns-clause-rows
returns-clause-rows c = squash_returns c.self.inside.slots c.truncate_back.new.self c.args.self.now c.self.inside.last c.self.inside.past c.args.row c.count_up_to-count.result c.self.view_is c.self.invariant c.count_up_to-count.ensures.slots c.truncate_back.ensures

pub returns-clause-dropped : goal.returns-clause-dropped
returns-clause-dropped c =
    ap (λ n. n - c.count_up_to-count.result) c.len.ensures.len
    ∙ squash_counts c.self.inside.slots c.args.self.now c.self.inside.last c.self.inside.past c.args.row c.count_up_to-count.result c.self.view_is c.self.invariant c.count_up_to-count.ensures.slots c.count_up_to-count.ensures.within
