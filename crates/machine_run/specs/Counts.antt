-- What the caches and TLBs of a hierarchy have counted.
use Rattle.std.specs.Prelude.{List, Option}
use Rattle.cache_core.specs.declared.answers.Counts.{Counts}
use Rattle.mem_hier.specs.declared.config.HierConfig.{HierConfig}
use Rattle.mem_hier.specs.declared.config.Which.{Which}
use Rattle.mem_hier.specs.declared.config.Which.TheVariants.{Il1, Dl1, Il2, Dl2, Itlb, Dtlb}
use Rattle.mem_hier.specs.Replay.{Reference, counts_at}
use Rattle.machine_run.specs.declared.plan.CacheCounts.{CacheCounts}

-- each after these references
abbrev pub caches_counted : HierConfig → List Reference → CacheCounts
caches_counted c h =
    record {
      il1 = counts_at c h Il1;
      dl1 = counts_at c h Dl1;
      il2 = counts_at c h Il2;
      dl2 = counts_at c h Dl2;
      itlb = counts_at c h Itlb;
      dtlb = counts_at c h Dtlb;
    }

-- those of one of them
abbrev pub counted_by : CacheCounts → Which → Option Counts
counted_by n Il1 = n.il1
counted_by n Dl1 = n.dl1
counted_by n Il2 = n.il2
counted_by n Dl2 = n.dl2
counted_by n Itlb = n.itlb
counted_by n Dtlb = n.dtlb
