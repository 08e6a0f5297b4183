use Rattle.std.proofs.Common.{sym, subst}
use Rattle.std.proofs.lemmas.List.{length-map}
use Rattle.std.specs.Prelude.{length, map, string_bytes}
use Rattle.answers.specs.declared.refusal.Refusal.{Refusal}
use Rattle.answers.specs.Judging.{Refuses}
use Rattle.sim_opts.specs.Options.{said_in}
use Rattle.sim_opts.specs.Request.{configured}
use Rattle.sim_opts.specs.RequestLaws.{said_asks, said_config}
use Rattle.sim_opts.proofs.Starts.{said_starts}
use Rattle.sim_main.proofs.Asked.{words_over, unbuilt_words, refused_words}
use Rattle.sim_main.proofs.request.do_words.Goals as goal

pub returns-then-is_unbuilt-clause-comes : goal.returns-then-is_unbuilt-clause-comes
returns-then-is_unbuilt-clause-comes g c =
    unbuilt_words g.O.Outside.view c.args.outside.now (map string_bytes c.args.words.now) c.not_built.result (sym c.if-is_unbuilt.ensures) c.not_built.ensures

pub do_options-requires : goal.do_options-requires
do_options-requires g c = said_starts (map string_bytes c.args.words.now) c.in-Ok.options c.in-Ok.ensures

pub returns-in-Ok-clause-comes : goal.returns-in-Ok-clause-comes
returns-in-Ok-clause-comes g c =
    let words = map string_bytes c.args.words.now in
    let n = length c.args.words.now in
    let o = c.in-Ok.options in
    words_over g.O.Outside.view c.args.outside.now c.do_options.new.outside words o.config (configured n (said_in o)) c.do_options.result
    (said_config words o (sym c.if-is_unbuilt.ensures) c.in-Ok.ensures) (λ text. said_asks words text n o (sym c.if-is_unbuilt.ensures) (sym (length-map c.args.words.now string_bytes)) c.in-Ok.ensures) c.do_options.ensures

pub returns-in-Err-clause-comes : goal.returns-in-Err-clause-comes
returns-in-Err-clause-comes g c =
    refused_words g.O.Outside.view c.args.outside.now c.refuse.new.outside (map string_bytes c.args.words.now) c.in-Err.fault c.refuse.result (sym c.if-is_unbuilt.ensures) c.in-Err.ensures
    (subst (λ (x : Refusal). Refuses g.O.Outside.view c.args.outside.now x c.refuse.new.outside c.refuse.result) c.from.ensures c.refuse.ensures)
