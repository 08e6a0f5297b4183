use Rattle.std.proofs.Common.{length, refl, sym, ap, ◌∙◌}
use Rattle.ooo_table.specs.Issue.{issue_row}
use Rattle.ooo_table.specs.Machine.{setting_of}
use Rattle.ooo_table.specs.References.{store_references}
use Rattle.plain_machine.specs.Stages.{issued_rows}
use Rattle.plain_machine.proofs.Newest.{path_sweep}
use Rattle.plain_machine.proofs.Staged.{newest_issued, vec_swept}
use Rattle.plain_machine.proofs.stages.issue.Goals as goal

pub returns-clause-stands : goal.returns-clause-stands
returns-clause-stands c = λ g t e none st.
    let left = c.issue.ensures.issues g t st.config_is (c.as_mut_slice.ensures.value ∙ st.kept_rows) none st.histories in
    record {
      config_is = st.config_is;
      kept_rows =
          vec_swept (setting_of g) c.args.plain.now.rows.len c.args.plain.now.rows.items c.issue.new.rows t.rows
          (issue_row (setting_of g) c.args.cycle (store_references (setting_of g) c.args.cycle t.rows t.references) t.rows) st.kept_rows left.rows
          (sym (ap length c.as_mut_slice.ensures.value) ∙ c.as_mut_slice.ensures.len);
      kept_to_fetch = st.kept_to_fetch;
      path = path_sweep g t.rows (issued_rows g c.args.cycle t) t.next_fetch c.args.plain.now _
          (newest_issued (setting_of g) c.args.cycle (store_references (setting_of g) c.args.cycle t.rows t.references) t.rows t.rows) refl refl refl st.path;
      histories = left.hier;
      predictions = st.predictions;
    }
