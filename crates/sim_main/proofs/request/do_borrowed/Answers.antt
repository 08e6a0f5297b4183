use Rattle.std.proofs.Common.{refl}
use Rattle.std.specs.Prelude.{map, string_bytes}
use Rattle.journal.specs.Parts.{parts_view, parts_of, names_of}
use Rattle.journal.specs.Through.{comes_through}
use Rattle.sim_main.specs.Outcome.{asked_with, inputs_for, ComesFor}
use Rattle.sim_main.proofs.request.do_borrowed.Goals as goal

pub returns-clause-comes : goal.returns-clause-comes
returns-clause-comes g c =
    let v = parts_view g.H.Shelf.tells g.H.Shelf.calm g.H.Shelf.files g.H.Shelf.faults g.P.Sink.tells g.P.Sink.contents g.P.Sink.faults g.P.Sink.calm g.R.Sink.tells g.R.Sink.contents g.R.Sink.faults g.R.Sink.calm in
    let words = map string_bytes c.args.words.now in
    let p = c.do_words.ensures.comes in
    let asked = asked_with words p.config in
    record {
      config = p.config;
      are = p.are;
      comes = comes_through parts_of names_of v c.args.outside.now c.do_words.new.outside (inputs_for words asked) (ComesFor words asked c.do_words.result) c.do_words.result refl p.comes;
    }
