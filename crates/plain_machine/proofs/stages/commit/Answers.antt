use Rattle.std.proofs.Common.{length, refl, sym, ap, ◌∙◌}
use Rattle.ooo_table.specs.Machine.{setting_of}
use Rattle.ooo_plain.specs.Until.{committing}
use Rattle.plain_machine.specs.Stages.{committed_rows}
use Rattle.plain_machine.proofs.Newest.{path_sweep}
use Rattle.plain_machine.proofs.Staged.{newest_committed, vec_swept}
use Rattle.plain_machine.proofs.stages.commit.Goals as goal

pub returns-clause-stands : goal.returns-clause-stands
returns-clause-stands c = λ g rows next h e st.
    let left = c.commit_until-last.ensures.rows (setting_of g) rows st.config_is (c.as_mut_slice.ensures.value ∙ st.kept_rows) in
    let after = committed_rows g c.args.cycle c.commit_until-last.result rows in
    let held = vec_swept (setting_of g) c.args.plain.now.rows.len c.args.plain.now.rows.items c.commit_until-last.new.rows rows (committing (setting_of g) c.args.cycle c.commit_until-last.result) st.kept_rows left
    (sym (ap length c.as_mut_slice.ensures.value) ∙ c.as_mut_slice.ensures.len) in
    record {
      last = c.commit_until-last.ensures.last (setting_of g) rows st.config_is (c.as_mut_slice.ensures.value ∙ st.kept_rows);
      stands = record {
        config_is = st.config_is;
        kept_rows = held;
        kept_to_fetch = st.kept_to_fetch;
        path = path_sweep g rows after next c.args.plain.now _ (newest_committed (setting_of g) c.args.cycle c.commit_until-last.result rows) refl refl refl st.path;
        histories = c.refer_stores.ensures.stands g after h (c.as_slice.ensures.value ∙ held) st.histories;
        predictions = c.update_all.ensures.stands g after e (c.as_slice-2.ensures.value ∙ held) st.predictions;
      };
    }
