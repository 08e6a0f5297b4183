use Rattle.std.proofs.Common.{subst, sym}
use Rattle.mem_hier.specs.Sound.{shown, AccessesBy}
use Rattle.mem_hier.proofs.Ways.{data_answered}
use Rattle.mem_hier.proofs.caches.Caches.data.Goals as goal

pub returns-clause-answer : goal.returns-clause-answer
returns-clause-answer c = λ config s is met.
    data_answered config s c.args.timings.now (shown c.args.self.now) (shown c.data_way-way.new.self) c.args.addr c.args.write c.args.cycle c.max.result c.data_way-way.result c.translate-page.result c.translate-page.new.tlb is met
    (c.data_way-way.ensures.answer config s is met) c.data_way-way.ensures.tlbs.1 c.translate-page.ensures.served c.max.ensures

pub returns-clause-accesses : goal.returns-clause-accesses
returns-clause-accesses c = λ n by.
    let way = c.data_way-way.ensures.accesses n by in
    record {
      il1 = way.il1;
      dl1 = way.dl1;
      il2 = way.il2;
      dl2 = way.dl2;
      itlb = way.itlb;
      dtlb = c.translate-page.ensures.accesses n (subst (λ o. AccessesBy o n) (sym c.data_way-way.ensures.tlbs.1) by.dtlb);
    }
