use Rattle.mem_hier.specs.Replay.{calls_of}
use Rattle.mem_hier.proofs.Ways.{of_shape}
use Rattle.mem_hier.proofs.caches.Caches.new.Goals as goal

pub returns-clause-stands : goal.returns-clause-stands
unfolding calls_of
returns-clause-stands c =
    record {
      il1 = of_shape _ _ _ _ c.own.ensures c.in_ok-new_level.ensures.stands;
      dl1 = of_shape _ _ _ _ c.own-2.ensures c.in_ok-new_level-2.ensures.stands;
      il2 = of_shape _ _ _ _ c.own-3.ensures c.in_ok-new_level-3.ensures.stands;
      dl2 = of_shape _ _ _ _ c.own-4.ensures c.in_ok-new_level-4.ensures.stands;
      itlb = c.in_ok-new_level-5.ensures.stands;
      dtlb = c.in_ok-new_level-6.ensures.stands;
    }
