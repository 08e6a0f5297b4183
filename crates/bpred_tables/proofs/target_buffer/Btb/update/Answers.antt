use Rattle.std.proofs.Common.{◌≡◌, ◌<◌, length, map, sym, ◌∙◌, ap, subst, rules}
use Rattle.bpred_tables.specs.Updates.{place_in}
use Rattle.bpred_tables.specs.Buffer.{Buffer, BufferStands}
use Rattle.bpred_tables.proofs.Latest.{shown, shown_entered, buffer_entered}
use Rattle.bpred_tables.proofs.target_buffer.Btb.update.Goals as goal

pub returns-clause-updated : goal.returns-clause-updated
returns-clause-updated c = λ updates stands.
    let at : c.index_in-at.result ≡ place_in (length c.self.inside.sets.items) c.args.pc = search rules in
    let within : c.index_in-at.result < length c.self.inside.sets.items = search rules in
    let before = subst (λ (v : Buffer). BufferStands v updates) (sym c.self.view_is) stands in
    buffer_entered (λ s. map shown s.items) c.self.inside.sets.items _ c.index_in-at.result _ _ (record { pc = c.args.pc; target = c.args.target }) updates
    at within c.index_mut.ensures.value (ap (map shown) c.enter.ensures ∙ shown_entered _ _ _) before
