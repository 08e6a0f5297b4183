use Rattle.ruu_core.proofs.Calls.{named_live, written_answer}
use Rattle.ruu_core.proofs.Places.{rows_rise}
use Rattle.ruu_core.proofs.unit.Ruu.written_at.Goals as goal

pub named-requires : goal.named-requires
named-requires c = record {
  live = named_live c.args.row c.self.inside.slots c.args.self.now c.self.inside.last c.self.inside.past c.self.view_is c.requires;
  rises = rows_rise c.self.inside.last c.self.inside.slots.items c.self.invariant.rises;
}

pub returns : goal.returns
returns c = written_answer c.args.row c.self.inside.slots c.args.self.now c.self.inside.last c.self.inside.past c.named.result.now c.self.view_is c.self.invariant c.named.ensures
