use Rattle.std.proofs.Common.{ap}
use Rattle.mem_hier.specs.Replay.{Timing}
use Rattle.mem_hier.proofs.Steps.{translated_none, translated_some}
use Rattle.mem_hier.proofs.levels.translate.Goals as goal

pub returns-in-None-clause-served : goal.returns-in-None-clause-served
returns-in-None-clause-served c = λ shape calls met.
    translated_none c.args.timing.now shape calls c.args.addr c.args.cycle _ _ c.args.tlb.now c.in-None.is (ap (λ (t : Timing). t.lookup) c.timing.view_is) met

pub returns-in-Some-clause-served : goal.returns-in-Some-clause-served
returns-in-Some-clause-served c = λ shape calls met.
    translated_some c.args.timing.now shape calls c.args.addr c.args.cycle _ _ c.args.tlb.now c.in-Some.tlb c.reach.new.cache c.in-Some.is c.reach.ensures.served met
