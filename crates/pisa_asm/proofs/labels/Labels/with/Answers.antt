use Rattle.std.proofs.Common.{ℕ, List, Option, Bor, IfOk, option_map, subst, sym}
use Rattle.pisa_asm.specs.LabelMaps.{Holds}
use Rattle.pisa_asm.specs.Sheets.{with_label}
use Rattle.pisa_asm.proofs.labels.Labels.with.Goals as goal

pub returns-in-Some : goal.returns-in-Some
returns-in-Some c = λ labels held.
    subst (λ (o : Option (Bor (List ℕ))). IfOk c.adding.result (λ now. Holds now (with_label labels (option_map (λ (l : Bor (List ℕ)). l.now) o) c.args.address)))
    (sym c.in-Some.is) (c.adding.ensures labels held)
