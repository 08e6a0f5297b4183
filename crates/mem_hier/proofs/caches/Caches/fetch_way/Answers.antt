use Rattle.std.proofs.Common.{◌+◌, ◌≤◌, arith, sym, ◌∙◌}
use Rattle.mem_hier.specs.Sound.{shown}
use Rattle.mem_hier.proofs.Ways.{answered_first, answered_shared, answered_own, by_more}
use Rattle.mem_hier.proofs.caches.Caches.fetch_way.Goals as goal

pub returns-then-is_shared-clause-answer : goal.returns-then-is_shared-clause-answer
returns-then-is_shared-clause-answer c = λ s is met.
    answered_first c.args.config.now s (shown c.data_way.new.self) c.args.pc c.args.cycle c.data_way.result (sym c.is_shared.ensures ∙ c.if-is_shared.true) (c.data_way.ensures.answer _ s is met)

pub returns-then-is_shared-2-clause-answer : goal.returns-then-is_shared-2-clause-answer
returns-then-is_shared-2-clause-answer c = λ s is met.
    answered_shared c.args.config.now s c.args.timings.now (shown c.args.self.now) c.args.pc c.args.cycle c.pass.result c.pass.new.first c.pass.new.second is
    (sym c.is_shared.ensures ∙ c.if-is_shared.false) (sym c.is_shared-else-is_shared.ensures ∙ c.if-is_shared-2.true) met c.pass.ensures.passed

pub returns-then-is_shared-2-clause-accesses : goal.returns-then-is_shared-2-clause-accesses
returns-then-is_shared-2-clause-accesses c = λ n by.
    let more : n ≤ n + 2 = omega arith in
    record {
      il1 = c.pass.ensures.first n by.il1;
      dl1 = by_more _ _ _ more by.dl1;
      il2 = by_more _ _ _ more by.il2;
      dl2 = c.pass.ensures.second n by.dl2;
      itlb = by_more _ _ _ more by.itlb;
      dtlb = by_more _ _ _ more by.dtlb;
    }

pub returns-else-is_shared-2-clause-answer : goal.returns-else-is_shared-2-clause-answer
returns-else-is_shared-2-clause-answer c = λ s is met.
    answered_own c.args.config.now s c.args.timings.now (shown c.args.self.now) c.args.pc c.args.cycle c.pass-else-is_shared-2.result c.pass-else-is_shared-2.new.first c.pass-else-is_shared-2.new.second is
    (sym c.is_shared.ensures ∙ c.if-is_shared.false) (sym c.is_shared-else-is_shared.ensures ∙ c.if-is_shared-2.false) met c.pass-else-is_shared-2.ensures.passed

pub returns-else-is_shared-2-clause-accesses : goal.returns-else-is_shared-2-clause-accesses
returns-else-is_shared-2-clause-accesses c = λ n by.
    let more : n ≤ n + 2 = omega arith in
    record {
      il1 = c.pass-else-is_shared-2.ensures.first n by.il1;
      dl1 = by_more _ _ _ more by.dl1;
      il2 = c.pass-else-is_shared-2.ensures.second n by.il2;
      dl2 = by_more _ _ _ more by.dl2;
      itlb = by_more _ _ _ more by.itlb;
      dtlb = by_more _ _ _ more by.dtlb;
    }
