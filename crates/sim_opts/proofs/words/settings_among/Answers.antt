use Rattle.std.proofs.Common.{◌≡◌, ◌++◌, List, ℕ, [], ◌∷◌, Bool, true, not, map, ap, sym, ◌∙◌, arith, if◌then◌else◌}
use Rattle.std.specs.Prelude.{string_bytes}
use Rattle.sim_opts.specs.Word.{begins_with_dash}
use Rattle.sim_opts.specs.Words.{walk, judged}
use Rattle.sim_opts.specs.Kept.{setting_in, placed}
use Rattle.sim_opts.proofs.Walking.{options_next}
use Rattle.sim_opts.proofs.words.settings_among.Goals as goal

pub options-preserved : goal.options-preserved
options-preserved c =
    let old = c.options.settings.items in
    let text = c.as_str-in-Some.result.now in
    let texts : List (List ℕ) = map string_bytes c.in-Some.behind.now in
    let pushed : c.push.new.self.items ≡ old ++ c.in-Ok.setting ∷ [] =
    c.push.ensures.items ∙ ap (λ (b : Bool). if b then old ++ c.in-Ok.setting ∷ [] else old) (c.is_err.ensures.negation ∙ ap not c.if-is_err.false) in
    let dash : begins_with_dash text ≡ true =
    ap begins_with_dash (c.as_str-in-Some.ensures.value ∙ sym c.as_str.ensures.value) ∙ sym c.begins_with_dash.ensures ∙ c.if-not-begins_with_dash.false in
    record {
      so_far = options_next c.args.tool old c.push.new.self.items c.in-Ok.setting c.options.at c.options.rest.now c.in-Some.behind.now c.split_at.result.1.now c.in-Some.word.now text c.judged.result
          (walk c.args.tool [] 1 0 (map string_bytes c.args.words.now))
          c.in-Some.ensures.cases.0 c.as_str-in-Some.ensures.value dash
          (c.judged.ensures.value ∙ ap (λ xs. placed c.options.at (judged c.args.tool (map setting_in xs) text texts)) c.as_slice.ensures.value)
          c.in-Ok.is c.in-Ok.ensures.among c.split_at.ensures.back pushed c.options.invariant.so_far;
      within = omega (arith, c.options.invariant.within, c.split_at.ensures.back_len, c.in-Some.ensures.cases.1);
    }
