use Rattle.std.proofs.Common.{◌-◌, suc, ◌∙◌, arith}
use Rattle.ooo_table.specs.Cycle.{table}
use Rattle.ooo_table.specs.Ends.{rows_at, recovered_cycles}
use Rattle.ooo_table.specs.Machine.{setting_of}
use Rattle.plain_machine.proofs.Shown.{shown_as}
use Rattle.plain_machine.proofs.machine.Plain.events.Goals as goal

pub returns : goal.returns
returns c =
    record {
      going = λ g k e w st.
          shown_as c.events_of.result (setting_of g) (table (setting_of g) (suc k)).rows c.args.self.now.written (suc k) (c.args.self.now.cycles - 1) k w (omega (arith, e))
          (c.events_of.ensures (setting_of g) (table (setting_of g) (suc k)).rows (c.as_slice.ensures.value ∙ st.kept_rows));
      ended = λ g x k e st.
          shown_as c.events_of.result (setting_of g) (rows_at (setting_of g) x k) c.args.self.now.written (recovered_cycles x k) (c.args.self.now.cycles - 1) k st.horizon (omega (arith, e))
          (c.events_of.ensures (setting_of g) (rows_at (setting_of g) x k) (c.as_slice.ensures.value ∙ st.ended.ended_rows));
    }
