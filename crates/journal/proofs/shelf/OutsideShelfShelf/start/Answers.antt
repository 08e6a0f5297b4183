use Rattle.std.proofs.Common.{refl, sym, subst, ◌∙◌}
use Rattle.ss_base.specs.Outside.{PutCounts, Starts}
use Rattle.journal.specs.Write.{Start}
use Rattle.journal.proofs.Alone.{alone_counts, alone_calm, start_file, start_others}
use Rattle.journal.proofs.shelf.OutsideShelfShelf.start.Goals as goal

pub returns-clause-count : goal.returns-clause-count
returns-clause-count g c =
    let v = g.O.Outside.view in
    let old = c.args.self.now.outside.now in
    let new = c.start.new.self in
    subst (λ r. PutCounts (v.faults old) (v.faults new) r) (sym c.put_result.ensures) (alone_counts v old new (Start c.args.name.now) c.start.result refl c.start.ensures)

pub returns-clause-file : goal.returns-clause-file
returns-clause-file g c = λ t.
    let v = g.O.Outside.view in
    let old = c.args.self.now.outside.now in
    let new = c.start.new.self in
    subst (λ r. Starts (v.files old) c.args.name.now (v.files new) r) (sym c.put_result.ensures) (start_file v old new c.args.name.now c.start.result t c.start.ensures)

pub returns-clause-others : goal.returns-clause-others
returns-clause-others g c = λ t. start_others g.O.Outside.view c.args.self.now.outside.now c.start.new.self c.args.name.now c.start.result t c.start.ensures

pub returns-clause-succeeds : goal.returns-clause-succeeds
returns-clause-succeeds g c = λ k e. alone_calm g.O.Outside.view c.args.self.now.outside.now c.start.new.self (Start c.args.name.now) c.start.result refl k c.start.ensures (sym c.put_result.ensures ∙ e)
