use Rattle.std.proofs.Common.{◌∙◌, ap, cond, ℕ, Option, Some}
use Rattle.std.specs.Str.{bytes_eq}
use Rattle.std.proofs.lemmas.Map.Text.{btree_map_updates_str}
use Rattle.pisa_asm.proofs.labels.Labels.adding.Goals as goal

pub returns-in-Ok : goal.returns-in-Ok
returns-in-Ok c = λ labels held name.
    btree_map_updates_str c.args.name.now c.args.self.map c.insert.new.self (Some c.args.address) c.in-Ok.ensures.updates name
    ∙ ap (λ (o : Option ℕ). cond (bytes_eq c.args.name.now name) (Some c.args.address) o) (held name)
