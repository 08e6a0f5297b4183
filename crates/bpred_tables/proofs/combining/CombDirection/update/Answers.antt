use Rattle.std.proofs.Common.{◌≡◌, ◌<◌, length, sym, subst, rules}
use Rattle.bpred_tables.specs.Updates.{place_in}
use Rattle.bpred_tables.specs.Tables.{ThreeTables, CombiningStands}
use Rattle.bpred_tables.proofs.Learning.{combining_step}
use Rattle.bpred_tables.proofs.combining.CombDirection.update.Goals as goal

pub returns-clause-updated : goal.returns-clause-updated
returns-clause-updated c = λ updates stands.
    let old : ThreeTables = record { bimodal = c.self.inside.bimodal; two_level = c.self.inside.two_level; choosers = c.self.inside.choosers } in
    let before = subst (λ (v : ThreeTables). CombiningStands v updates) (sym c.self.view_is) stands in
    let at : c.index_in-at.result ≡ place_in (length old.choosers) c.args.pc = search rules in
    let within : c.index_in-at.result < length old.choosers = search rules in
    combining_step old _ _ updates (record { pc = c.args.pc; taken = c.args.taken }) c.index_in-at.result _ _ _
    c.update.ensures.same_scheme c.update-2.ensures.same_scheme at within
    (c.predict-bimodal.ensures updates before.bimodal) (c.predict-two_level.ensures updates before.two_level) c.judge.ensures
    (c.update.ensures.updated updates before.bimodal) (c.update-2.ensures.updated updates before.two_level) before
