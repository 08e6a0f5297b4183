use Rattle.std.proofs.Common.{sym, subst, IfOk}
use Rattle.pisa_step.specs.Actions.{action_of}
use Rattle.pisa_step.specs.Effect.{effect_of}
use Rattle.pisa_step.specs.Proper.{IsProper}
use Rattle.pisa_step.proofs.Pairs.{pair_below, registers_below}
use Rattle.pisa_step.proofs.Properness.{outcome_proper}
use Rattle.pisa_step.proofs.effects.effect.Goals as goal

pub by_operation-requires-clause-pair : goal.by_operation-requires-clause-pair
by_operation-requires-clause-pair g c = pair_below c.args.i.now c.requires.well_formed

pub returns-clause-value : goal.returns-clause-value
unfolding effect_of
returns-clause-value g c = c.by_operation.ensures

pub returns-clause-proper : goal.returns-clause-proper
returns-clause-proper g c =
    subst (λ r. IfOk r (IsProper c.args.text)) (sym c.by_operation.ensures)
    (outcome_proper (action_of c.args.i.now.op) (g.M.Machine.reads c.args.m.now) c.args.i.now c.args.pc c.args.text
    (registers_below c.args.i.now c.requires.well_formed)
    (pair_below c.args.i.now c.requires.well_formed))
