use Rattle.std.proofs.Common.{◌+◌, ◌≤◌, arith}
use Rattle.mem_hier.specs.Sound.{shown}
use Rattle.mem_hier.proofs.Ways.{answered_data, by_more}
use Rattle.mem_hier.proofs.caches.Caches.data_way.Goals as goal

pub returns-clause-answer : goal.returns-clause-answer
returns-clause-answer c = λ config s is met.
    answered_data config s c.args.timings.now (shown c.args.self.now) c.args.addr c.args.write c.args.cycle c.pass.result c.pass.new.first c.pass.new.second is met c.pass.ensures.passed

pub returns-clause-accesses : goal.returns-clause-accesses
returns-clause-accesses c = λ n by.
    let more : n ≤ n + 2 = omega arith in
    record {
      il1 = by_more _ _ _ more by.il1;
      dl1 = c.pass.ensures.first n by.dl1;
      il2 = by_more _ _ _ more by.il2;
      dl2 = c.pass.ensures.second n by.dl2;
      itlb = by_more _ _ _ more by.itlb;
      dtlb = by_more _ _ _ more by.dtlb;
    }
