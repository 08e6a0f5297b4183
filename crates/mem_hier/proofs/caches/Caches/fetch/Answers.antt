use Rattle.std.proofs.Common.{subst, sym}
use Rattle.mem_hier.specs.Sound.{shown, AccessesBy}
use Rattle.mem_hier.proofs.Ways.{fetch_answered}
use Rattle.mem_hier.proofs.caches.Caches.fetch.Goals as goal

pub returns-clause-answer : goal.returns-clause-answer
returns-clause-answer c = λ s is met.
    fetch_answered c.args.config.now s c.args.timings.now (shown c.args.self.now) (shown c.fetch_way-way.new.self) c.args.pc c.args.cycle c.max.result c.fetch_way-way.result c.translate-page.result c.translate-page.new.tlb is met
    (c.fetch_way-way.ensures.answer s is met) c.fetch_way-way.ensures.tlbs.0 c.translate-page.ensures.served c.max.ensures

pub returns-clause-accesses : goal.returns-clause-accesses
returns-clause-accesses c = λ n by.
    let way = c.fetch_way-way.ensures.accesses n by in
    record {
      il1 = way.il1;
      dl1 = way.dl1;
      il2 = way.il2;
      dl2 = way.dl2;
      dtlb = way.dtlb;
      itlb = c.translate-page.ensures.accesses n (subst (λ o. AccessesBy o n) (sym c.fetch_way-way.ensures.tlbs.0) by.itlb);
    }
