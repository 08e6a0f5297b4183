use Rattle.std.proofs.Common.{◌+◌, ◌∙◌, ap, refl}
use Rattle.std.specs.Prelude.{find}
use Rattle.ooo_table.specs.Recovery.{recovers}
use Rattle.ooo_plain.proofs.NextFetches.{redirected_to, stays_by, goes_by}
use Rattle.ooo_plain.proofs.next_fetch.redirect.Goals as goal

pub returns-in-None : goal.returns-in-None
returns-in-None c = λ set t e k i.
    stays_by set c.args.cycle t.next_fetch c.args.next.now _ (find (recovers set c.args.cycle) t.rows) i (c.in-None.ensures set t.rows k) refl

pub returns-in-Some : goal.returns-in-Some
returns-in-Some c = λ set t e k i.
    ap (λ n. redirected_to c.in-Some.pc (c.args.cycle + n)) c.from.ensures
    ∙ goes_by set c.args.cycle c.args.config.now t.next_fetch c.in-Some.pc _ (find (recovers set c.args.cycle) t.rows) e (c.in-Some.ensures set t.rows k) refl
