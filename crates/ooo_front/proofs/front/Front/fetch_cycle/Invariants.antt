use Rattle.std.proofs.Common.{◌≡◌, ◌≤◌, ◌-◌, ◌++◌, length}
use Rattle.std.specs.Prelude.{reverse}
use Rattle.mem_hier.specs.declared.config.HierConfig.{HierConfig}
use Rattle.bpred_unit.specs.declared.config.PredConfig.{PredConfig}
use Rattle.ooo_front.specs.Fetching.{Stage, fetch_cycle}
use Rattle.ooo_front.specs.Stands.{Stands, Refers, LooksUp, Counts}
use Rattle.ooo_front.proofs.Turns.{IsUnderWay}
use Rattle.ooo_front.proofs.front.Front.fetch_cycle.Given as goal

abbrev pub invariant-loop : goal.invariant-loop
invariant-loop l = record {
  under_way : (c : HierConfig) (p : PredConfig) (s : Stage) → Stands l.fn.self l.fn.hier l.fn.pred c p s
      → IsUnderWay c p l.text l.cycle (l.end - l.counter) l.self l.hier l.pred (fetch_cycle c p l.text l.cycle s);
  rows : l.self.rows ≡ reverse l.rows.items ++ l.fn.self.rows;
  counts : Counts l.fn.self l.self l.rows.items l.cycle;
  few : length l.rows.items ≤ l.counter;
  refers : Refers l.fn.hier l.hier (length l.rows.items) l.cycle;
  looks : LooksUp l.fn.pred l.pred l.rows.items;
  ends : l.end ≡ l.fn.self.width;
}
