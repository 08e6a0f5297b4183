use Rattle.std.proofs.Common.{◌≡◌, sym, ap, ◌∙◌}
use Rattle.std.specs.Prelude.{Ok}
use Rattle.pisa_step.specs.declared.changes.TextRange.{TextRange}
use Rattle.pisa_step.specs.Effect.{effect_of}
use Rattle.sim_safe.specs.State.{Storage, reader_of, range_of}
use Rattle.sim_safe.proofs.Skips.{done_leaves}
use Rattle.sim_safe.proofs.arch.Arch.pass.Goals as goal

pub returns-in-Ok-reserve_for-clause-step : goal.returns-in-Ok-reserve_for-clause-step
returns-in-Ok-reserve_for-clause-step c =
    let is : effect_of (reader_of c.args.self.now) c.args.instr c.args.self.now.pc (range_of c.args.self.now.text) ≡ Ok c.in-Ok.e =
    ap (λ (text : TextRange). effect_of (reader_of c.args.self.now) c.args.instr c.args.self.now.pc text) (sym c.text_range-text.ensures)
    ∙ ap (λ pc. effect_of (reader_of c.args.self.now) c.args.instr pc c.text_range-text.result) (sym (ap (λ (m : Storage). m.pc) c.self.view_is)) ∙ sym c.effect-outcome.ensures.value ∙ c.in-Ok.is in
    done_leaves c.args.self.now c.reserve_for.new.self c.change.new.self c.args.instr c.in-Ok.e _ is c.reserve_for.ensures.state c.change.ensures.after
