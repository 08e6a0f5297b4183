-- The lines of what is counted of caches and of predictions, in the order in which the commands print them.
use Rattle.std.specs.Prelude.{◌++◌, ℕ, List, [], Option, Some, None, codes}
use Rattle.sim_safe.specs.Statistics.{count_line}
use Rattle.cache_core.specs.declared.answers.Counts.{Counts}
use Rattle.mem_hier.specs.declared.config.Which.{Which}
use Rattle.mem_hier.specs.declared.config.Which.TheVariants.{Il1, Dl1, Il2, Dl2, Itlb, Dtlb}
use Rattle.sim_refs.specs.declared.pred_run.PredCounts.{PredCounts}

-- the lines of a cache or TLB of this name
abbrev pub cache_lines : List ℕ → Counts → List ℕ
cache_lines name n =
    count_line (name ++ codes ".accesses") n.accesses
    ++ count_line (name ++ codes ".hits") n.hits
    ++ count_line (name ++ codes ".misses") n.misses
    ++ count_line (name ++ codes ".replacements") n.replacements
    ++ count_line (name ++ codes ".writebacks") n.writebacks

-- one that isn't there, or that has no cache of its own, has no lines
abbrev pub cache_text : List ℕ → Option Counts → List ℕ
cache_text name None = []
cache_text name (Some n) = cache_lines name n

-- the lines of all caches and TLBs with these counts
abbrev pub caches_text : (Which → Option Counts) → List ℕ
caches_text counts =
    cache_text (codes "il1") (counts Il1)
    ++ cache_text (codes "dl1") (counts Dl1)
    ++ cache_text (codes "il2") (counts Il2)
    ++ cache_text (codes "dl2") (counts Dl2)
    ++ cache_text (codes "itlb") (counts Itlb)
    ++ cache_text (codes "dtlb") (counts Dtlb)

-- the lines of predictions
abbrev pub predictions_text : PredCounts → List ℕ
predictions_text n =
    count_line (codes "bpred.control") n.control
    ++ count_line (codes "bpred.cond") n.cond
    ++ count_line (codes "bpred.taken") n.taken
    ++ count_line (codes "bpred.dir_hits") n.dir_hits
    ++ count_line (codes "bpred.addr_hits") n.addr_hits
