use Rattle.std.proofs.Common.{ap}
use Rattle.mem_hier.specs.Replay.{Timing}
use Rattle.mem_hier.proofs.Steps.{way_none, way_one, way_two}
use Rattle.mem_hier.proofs.levels.pass.Goals as goal

pub returns-in-None-clause-passed : goal.returns-in-None-clause-passed
returns-in-None-clause-passed c = λ shape calls shape' calls' met met'.
    way_none c.args.timing.now shape calls c.args.behind.now shape' calls' c.args.addr c.args.write c.args.cycle _ _ _ c.args.first.now c.args.second.now c.in-None.is (ap (λ (t : Timing). t.lookup) c.timing.view_is) met met'

pub returns-in-None-second-clause-passed : goal.returns-in-None-second-clause-passed
returns-in-None-second-clause-passed c = λ shape calls shape' calls' met met'.
    way_one c.args.timing.now shape calls c.args.behind.now shape' calls' c.args.addr c.args.write c.args.cycle _ _ _ c.args.first.now c.args.second.now c.in-Some.first c.reach.new.cache
    c.in-Some.is c.in-None-second.is c.reach.ensures.served met met'

pub returns-in-Some-second-clause-passed : goal.returns-in-Some-second-clause-passed
returns-in-Some-second-clause-passed c = λ shape calls shape' calls' met met'.
    way_two c.args.timing.now shape calls c.args.behind.now shape' calls' c.args.addr c.args.write c.args.cycle _ _ _ c.args.first.now c.args.second.now c.in-Some.first c.in-Some-second.second c.reach_over.new.first c.reach_over.new.second
    c.in-Some.is c.in-Some-second.is c.reach_over.ensures.passed met met'
