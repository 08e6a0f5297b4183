use Rattle.mem_hier.proofs.caches.Caches.settle.Goals as goal

pub returns-clause-accesses : goal.returns-clause-accesses
returns-clause-accesses c = λ n by.
    record {
      il1 = c.settle_level.ensures.accesses n by.il1;
      dl1 = c.settle_level-2.ensures.accesses n by.dl1;
      il2 = c.settle_level-3.ensures.accesses n by.il2;
      dl2 = c.settle_level-4.ensures.accesses n by.dl2;
      itlb = c.settle_level-5.ensures.accesses n by.itlb;
      dtlb = c.settle_level-6.ensures.accesses n by.dtlb;
    }
