use Rattle.std.proofs.Common.{List, ℕ, Ok, length, map, ap, sym, ◌∙◌}
use Rattle.std.specs.Prelude.{string_bytes}
use Rattle.std.specs.Option.{option_map}
use Rattle.std.proofs.lemmas.List.{take-map}
use Rattle.sim_opts.specs.Table.{row_in}
use Rattle.sim_opts.specs.Kept.{setting_in, placed}
use Rattle.sim_opts.proofs.Walking.{judged_right, setting}
use Rattle.sim_opts.proofs.words.judged.Goals as goal

pub returns-in-None-clause-value : goal.returns-in-None-clause-value
returns-in-None-clause-value c =
    let texts : List (List ℕ) = map string_bytes c.args.behind.now in
    let row = row_in c.in-Some.option in
    sym (ap (placed c.args.at) (judged_right c.args.tool (map setting_in c.args.before.now) c.args.word.now texts row
    (sym c.row_named.ensures ∙ ap (option_map row_in) c.in-Some.is)
    (sym c.row_fault.ensures ∙ c.in_default-row_fault.is)
    (sym c.values_fault.ensures.value ∙ c.in-None.is))
    ∙ ap (λ v. Ok (setting row v)) (take-map string_bytes (length row.slots) c.args.behind.now))
