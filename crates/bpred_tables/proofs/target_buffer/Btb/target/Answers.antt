use Rattle.std.proofs.Common.{◌≡◌, ◌<◌, length, map, sym, ◌∙◌, ap, subst, rules}
use Rattle.std.specs.Prelude.{find, option_map, ◌==◌}
use Rattle.bpred_tables.specs.Updates.{place_in}
use Rattle.bpred_tables.specs.Buffer.{Buffer, BufferStands, target_of}
use Rattle.bpred_tables.proofs.Latest.{shown, shown_target, buffer_found}
use Rattle.bpred_tables.proofs.target_buffer.Btb.target.Goals as goal

pub returns : goal.returns
returns c = λ updates stands.
    let at : c.index_in.result ≡ place_in (length c.self.inside.sets.items) c.args.pc = search rules in
    let within : c.index_in.result < length c.self.inside.sets.items = search rules in
    let before = subst (λ (v : Buffer). BufferStands v updates) (sym c.self.view_is) stands in
    subst (λ (v : Buffer). c.find_target.result ≡ target_of (length v.sets) v.ways updates c.args.pc) c.self.view_is
    (c.find_target.ensures
    ∙ ap (λ es. option_map (λ e. e.target) (find (λ e. e.pc == c.args.pc) es)) c.as_slice.ensures.value
    ∙ shown_target c.args.pc _
    ∙ buffer_found (λ s. map shown s.items) c.self.inside.sets.items _ c.index_in.result c.args.pc c.index.result.now updates
    at within c.index.ensures before)
