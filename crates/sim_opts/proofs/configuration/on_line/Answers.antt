use Rattle.std.proofs.Common.{◌≡◌, List, ℕ, ◌∷◌, Option, Some, None, map, ap, sym, ◌∙◌}
use Rattle.std.specs.Prelude.{string_bytes}
use Rattle.std.specs.List.{find}
use Rattle.std.specs.Option.{option_map}
use Rattle.sim_opts.specs.Table.{Row, row_in, row_named}
use Rattle.sim_opts.specs.Configuration.{reasons, option_has, words_have, setting_of, words_settings}
use Rattle.sim_opts.proofs.LineWords.{known_word}
use Rattle.sim_opts.proofs.configuration.on_line.Goals as goal

pub returns-in-Some-option_reason : goal.returns-in-Some-option_reason
returns-in-Some-option_reason c = λ before same.
    let texts : List (List ℕ) = map string_bytes c.in-Some.values.now in
    let text = c.as_str.result.now in
    let row = row_in c.in-Some-row_named.option in
    let words : map string_bytes c.args.words.now ≡ text ∷ texts = ap (map string_bytes) c.in-Some.ensures.cases.0 ∙ ap (λ t. t ∷ texts) (sym c.as_str.ensures.value) in
    let known : row_named text ≡ Some row = sym c.row_named.ensures ∙ ap (option_map row_in) c.in-Some-row_named.is in
    ap (λ w. find (words_have c.args.tool before w) reasons) words
    ∙ known_word c.args.tool before c.args.stood.now text texts row (Some c.in-Some-option_reason.why) known same
    (sym c.in-Some-option_reason.is ∙ c.option_reason.ensures ∙ ap (λ n. find (option_has c.args.tool n row texts) reasons) c.times.ensures)

pub returns-in-None : goal.returns-in-None
returns-in-None c = λ before same.
    let texts : List (List ℕ) = map string_bytes c.in-Some.values.now in
    let text = c.as_str.result.now in
    let row = row_in c.in-Some-row_named.option in
    let words : map string_bytes c.args.words.now ≡ text ∷ texts = ap (map string_bytes) c.in-Some.ensures.cases.0 ∙ ap (λ t. t ∷ texts) (sym c.as_str.ensures.value) in
    let known : row_named text ≡ Some row = sym c.row_named.ensures ∙ ap (option_map row_in) c.in-Some-row_named.is in (
      ap (λ w. find (words_have c.args.tool before w) reasons) words
          ∙ known_word c.args.tool before c.args.stood.now text texts row None known same
          (sym c.in-None.is ∙ c.option_reason.ensures ∙ ap (λ n. find (option_has c.args.tool n row texts) reasons) c.times.ensures),
      ap words_settings words ∙ ap (λ (r : Option Row). setting_of r texts) known,
    )
