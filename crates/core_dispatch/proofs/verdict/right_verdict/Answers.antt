use Rattle.std.proofs.Common.{◌∙◌, cond, false, ap, sym}
use Rattle.std.specs.Prelude.{◌&&◌}
use Rattle.core_dispatch.specs.declared.verdict.Verdict.TheVariants as verdict
use Rattle.core_dispatch.specs.Verdict.{has_place}
use Rattle.core_dispatch.proofs.Performed.{plain_verdict, call_verdict}
use Rattle.core_dispatch.proofs.verdict.right_verdict.Goals as goal

pub returns-in-Plain : goal.returns-in-Plain
returns-in-Plain c =
    c.right_if.ensures
    ∙ (ap (λ b. cond b verdict.Right verdict.Stays) c.has_place.ensures
    ∙ (ap (λ m. cond (has_place c.args.dispatched c.args.called c.args.parts.now m) verdict.Right verdict.Stays) c.has_access-memory.ensures
    ∙ sym (plain_verdict c.args.trace.now c.args.dispatched c.args.called c.args.parts.now c.in-Plain.instr (sym c.in-Plain.is ∙ c.peek.ensures))))

pub returns-in-Call : goal.returns-in-Call
returns-in-Call c =
    c.right_if-in-Call.ensures
    ∙ (ap (λ b. cond b verdict.Right verdict.Stays)
    (c.both.ensures
    ∙ (ap (λ b. b && c.is_empty-empty.result) c.has_place-place.ensures ∙ ap (λ b. has_place c.args.dispatched c.args.called c.args.parts.now false && b) c.is_empty-empty.ensures))
    ∙ sym (call_verdict c.args.trace.now c.args.dispatched c.args.called c.args.parts.now c.in-Call.field-0 (sym c.in-Call.is ∙ c.peek.ensures)))
