use Rattle.std.proofs.Common.{sym, subst}
use Rattle.mem_hier.specs.Stands.{Held, StandsFor}
use Rattle.ooo_table.specs.Finish.{references_by}
use Rattle.ooo_table.specs.Machine.{setting_of}
use Rattle.core_statistics.specs.declared.stats.CoreStats.{CoreStats}
use Rattle.core_statistics.specs.Standing.{HasStats}
use Rattle.machine_run.specs.Timed.{timed_finish}
use Rattle.machine_run.proofs.timed.timed_core.Goals as goal

pub returns-in-Ok-clause-comes : goal.returns-in-Ok-clause-comes
returns-in-Ok-clause-comes g c = λ run sound trace stands.
    let f = timed_finish run c.args.limits.now in
    let left = c.in-Ok.ensures.ends run sound trace stands in
    let h = references_by (setting_of run) f.extent f.passed in
    let caches = (c.histories_are_so_far.ensures run f.extent f.passed c.observe_parts.new.core.parts left.stands).hierarchy in
    record {
      statistics = subst (λ (o : CoreStats). HasStats (setting_of run) f.extent f.passed o) (sym c.stats.ensures) left.stats;
      caches = c.of.ensures run.hier h (subst (λ (v : Held). StandsFor v run.hier h) (sym c.hier.ensures) caches);
      end = left.word_is;
    }
