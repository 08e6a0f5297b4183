use Rattle.std.proofs.Common.{ℕ, List, Some, sym, ap, ◌∙◌, subst}
use Rattle.journal.specs.Outcome.{Ends}
use Rattle.answers.specs.declared.answer.Answer.TheVariants as answer
use Rattle.answers.specs.Answer.{refused}
use Rattle.sim_opts.specs.Options.{said_in}
use Rattle.sim_opts.specs.Request.{Request, configured}
use Rattle.sim_opts.specs.RequestLaws.{alone_asks}
use Rattle.sim_main.specs.Parts.{ComesByRequest}
use Rattle.sim_main.proofs.Asked.{alone_over, found_over, long_over, unfound_over}
use Rattle.sim_main.proofs.request.do_options.Goals as goal

pub returns-in_default : goal.returns-in_default
returns-in_default g c =
    let v = g.O.Outside.view in
    let said = said_in c.args.options in
    alone_over v c.args.outside.now c.do_asked.new.outside c.args.options.config (configured c.args.words said) c.do_asked.result c.in_default.is
    (subst (λ (x : Request). ComesByRequest v c.args.outside.now x c.do_asked.new.outside c.do_asked.result) (sym (alone_asks c.args.words said)) c.do_asked.ensures)

pub returns-in-Ok-Whole : goal.returns-in-Ok-Whole
returns-in-Ok-Whole g c =
    let v = g.O.Outside.view in
    let said = said_in c.args.options in
    found_over v c.args.outside.now c.find_file.new.outside c.do_configured.new.outside c.args.options.config c.as_str.result.now c.in-Ok-Whole.text (configured c.args.words said) c.do_configured.result
    (c.in-Some.is ∙ ap (λ (x : List ℕ). Some x) (sym c.as_str.ensures)) (rw c.in-Ok-Whole.field-0-is at c.in-Ok-Whole.ensures)
    (subst (λ (x : List ℕ). ComesByRequest v c.find_file.new.outside (configured c.args.words said (Some x)) c.do_configured.new.outside c.do_configured.result) c.as_slice.ensures c.do_configured.ensures)

pub returns-in-Ok-TooLong : goal.returns-in-Ok-TooLong
returns-in-Ok-TooLong g c =
    let v = g.O.Outside.view in
    long_over v c.args.outside.now c.find_file.new.outside c.refuse_long.new.outside c.args.options.config c.as_str.result.now (configured c.args.words (said_in c.args.options)) c.refuse_long.result
    (c.in-Some.is ∙ ap (λ (x : List ℕ). Some x) (sym c.as_str.ensures)) (rw c.in-Ok-TooLong.field-0-is at c.in-Ok-TooLong.ensures)
    (subst (λ (x : List ℕ). Ends v c.find_file.new.outside (refused (answer.TooLong x)) c.refuse_long.new.outside c.refuse_long.result) (c.as_str-in-Ok-TooLong.ensures ∙ sym c.as_str.ensures) c.refuse_long.ensures)

pub returns-in-Err : goal.returns-in-Err
returns-in-Err g c =
    unfound_over g.O.Outside.view c.args.outside.now c.find_file.new.outside c.args.options.config c.as_str.result.now (configured c.args.words (said_in c.args.options)) c.in-Err.fault
    (c.in-Some.is ∙ ap (λ (x : List ℕ). Some x) (sym c.as_str.ensures)) c.in-Err.ensures
