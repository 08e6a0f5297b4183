use Rattle.std.proofs.Common.{[], length, refl, sym, ap, ◌∙◌}
use Rattle.std.specs.Vec.{with_items}
use Rattle.ooo_table.specs.Recovery.{squash_row}
use Rattle.ooo_table.specs.Machine.{setting_of}
use Rattle.plain_machine.proofs.Staged.{recovered_on, vec_swept}
use Rattle.plain_machine.proofs.stages.recover.Goals as goal

pub returns-clause-stands : goal.returns-clause-stands
returns-clause-stands c = λ g rows next h e st once.
    recovered_on g c.args.cycle rows next h e c.args.plain.now (record c.args.plain.now { rows = with_items c.args.plain.now.rows c.squash.new.rows; next = c.redirect-plain.result }) c.roll_back_if.new.plain
    c.is_some-found.result c.redirected.result st once
    c.is_some-found.ensures (c.redirected.ensures (setting_of g) rows (c.as_slice.ensures.value ∙ st.kept_rows))
    refl
    (vec_swept (setting_of g) c.args.plain.now.rows.len c.args.plain.now.rows.items c.squash.new.rows rows (squash_row (setting_of g) c.args.cycle) st.kept_rows
    (c.squash.ensures (setting_of g) rows (c.as_mut_slice.ensures.value ∙ st.kept_rows)) (sym (ap length c.as_mut_slice.ensures.value) ∙ c.as_mut_slice.ensures.len))
    (c.redirect-plain.ensures (setting_of g) (record { rows = rows; next_fetch = next; references = []; predictor_events = [] }) st.config_is (c.as_slice-2.ensures.value ∙ st.kept_rows) st.kept_to_fetch)
    refl refl refl refl refl c.roll_back_if.ensures
