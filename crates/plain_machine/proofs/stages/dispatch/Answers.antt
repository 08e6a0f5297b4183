use Rattle.std.proofs.Common.{length, refl, sym, ap, ◌∙◌}
use Rattle.ooo_table.specs.Dispatch.{dispatch_row}
use Rattle.ooo_table.specs.Machine.{setting_of}
use Rattle.plain_machine.specs.Stages.{dispatched_rows}
use Rattle.plain_machine.proofs.Newest.{path_sweep}
use Rattle.plain_machine.proofs.Staged.{newest_dispatched, vec_swept}
use Rattle.plain_machine.proofs.stages.dispatch.Goals as goal

pub returns-clause-stands : goal.returns-clause-stands
returns-clause-stands c = λ g rows next h e st.
    record {
      config_is = st.config_is;
      kept_rows =
          vec_swept (setting_of g) c.args.plain.now.rows.len c.args.plain.now.rows.items c.dispatch.new.rows rows (dispatch_row (setting_of g) c.args.cycle) st.kept_rows
          (c.dispatch.ensures (setting_of g) rows st.config_is (c.as_mut_slice.ensures.value ∙ st.kept_rows)) (sym (ap length c.as_mut_slice.ensures.value) ∙ c.as_mut_slice.ensures.len);
      kept_to_fetch = st.kept_to_fetch;
      path = path_sweep g rows (dispatched_rows g c.args.cycle rows) next c.args.plain.now _ (newest_dispatched (setting_of g) c.args.cycle rows) refl refl refl st.path;
      histories = st.histories;
      predictions = st.predictions;
    }
