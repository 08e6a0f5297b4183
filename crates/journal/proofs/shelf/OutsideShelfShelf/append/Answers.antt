use Rattle.std.proofs.Common.{refl, sym, subst, ◌∙◌}
use Rattle.ss_base.specs.Outside.{PutCounts, Appends}
use Rattle.journal.specs.Write.{Append}
use Rattle.journal.proofs.Alone.{alone_counts, alone_calm, append_file, append_others}
use Rattle.journal.proofs.shelf.OutsideShelfShelf.append.Goals as goal

pub returns-clause-count : goal.returns-clause-count
returns-clause-count g c =
    let v = g.O.Outside.view in
    let old = c.args.self.now.outside.now in
    let new = c.append.new.self in
    subst (λ r. PutCounts (v.faults old) (v.faults new) r) (sym c.put_result.ensures) (alone_counts v old new (Append c.args.name.now c.args.bytes.now) c.append.result refl c.append.ensures)

pub returns-clause-file : goal.returns-clause-file
returns-clause-file g c = λ t.
    let v = g.O.Outside.view in
    let old = c.args.self.now.outside.now in
    let new = c.append.new.self in
    subst (λ r. Appends (v.files old) c.args.name.now c.args.bytes.now (v.files new) r) (sym c.put_result.ensures) (append_file v old new c.args.name.now c.args.bytes.now c.append.result t c.append.ensures)

pub returns-clause-others : goal.returns-clause-others
returns-clause-others g c = λ t. append_others g.O.Outside.view c.args.self.now.outside.now c.append.new.self c.args.name.now c.args.bytes.now c.append.result t c.append.ensures

pub returns-clause-succeeds : goal.returns-clause-succeeds
returns-clause-succeeds g c = λ k e. alone_calm g.O.Outside.view c.args.self.now.outside.now c.append.new.self (Append c.args.name.now c.args.bytes.now) c.append.result refl k c.append.ensures (sym c.put_result.ensures ∙ e)
