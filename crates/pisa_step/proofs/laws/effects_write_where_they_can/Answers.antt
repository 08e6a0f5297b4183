use Rattle.pisa_step.specs.Actions.{action_of}
use Rattle.pisa_step.specs.Effect.{effect_of}
use Rattle.pisa_step.proofs.Pairs.{pair_below, registers_below}
use Rattle.pisa_step.proofs.Properness.{outcome_proper}
use Rattle.pisa_step.proofs.laws.effects_write_where_they_can.Goals as goal

pub returns : goal.returns
unfolding effect_of
returns c s i pc text formed = outcome_proper (action_of i.op) s i pc text (registers_below i formed) (pair_below i formed)
