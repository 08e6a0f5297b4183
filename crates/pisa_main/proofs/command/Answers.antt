use Rattle.std.proofs.Common.{ℕ, refl}
use Rattle.std.specs.Prelude.{map, string_bytes}
use Rattle.ss_base.specs.declared.host.HostShelf.{HostShelf}
use Rattle.journal.specs.Through.{comes_through}
use Rattle.sim_main.specs.Outcome.{asked_with, inputs_for, ComesFor}
use Rattle.pisa_main.specs.Performs.{streams_view}
use Rattle.pisa_main.proofs.command.Goals as goal

-- what the top call says, clause by clause; the real files' counts before and after are what they are
pub returns : goal.returns
returns g c =
    let said = c.simulate.ensures in
    let words = map string_bytes c.args.words.now in
    let counts : ℕ × ℕ = (c.new-shelf.result.faults, c.simulate.new.shelf.faults) in
    let v = streams_view g.P.Sink.tells g.P.Sink.contents g.P.Sink.faults g.P.Sink.calm g.R.Sink.tells g.R.Sink.contents g.R.Sink.faults g.R.Sink.calm in
    let old : HostShelf g.row.F.Denot × g.row.P.Denot × g.row.R.Denot = (c.new-shelf.result, c.args.prog.now, c.args.stat.now) in
    let new : HostShelf g.row.F.Denot × g.row.P.Denot × g.row.R.Denot = (c.simulate.new.shelf, c.simulate.new.prog, c.simulate.new.stat) in
    let seen : HostShelf g.row.F.Denot × g.row.P.Denot × g.row.R.Denot → ℕ × g.row.P.Denot × g.row.R.Denot = λ o. (o.0.faults, o.1, o.2) in
    let p = said.comes.comes in
    let asked = asked_with words p.config in
    record {
      comes = (
        counts,
        record {
          came = said.comes.came;
          ending = said.comes.ending;
          comes = record {
            config = p.config;
            are = p.are;
            comes = comes_through seen (λ o. (0, 0, 0)) v old new (inputs_for words asked) (ComesFor words asked said.comes.came) said.comes.came refl p.comes;
          };
        },
      );
      outcome = said.ending;
      by_words = said.words;
      count = (counts, said.count);
      quiet = said.quiet;
      memory = said.memory;
    }
