-- What is said with a configuration, one option after the other.
use Rattle.std.proofs.Common.{◌≡◌, ℕ, nat_eq, Bool, true, false, not, cond, List, [], ◌∷◌, ◌++◌, filter, refl, sym, ap, ◌∙◌}
use Rattle.std.specs.List.{list_any}
use Rattle.std.proofs.lemmas.List.Elements.{filter-append}
use Rattle.sim_opts.specs.Settings.{Setting}
use Rattle.sim_opts.specs.Options.{Said, with_setting, with_settings}
use Rattle.sim_opts.specs.Configuration.{is_left, with_configuration}

pub given_stays : (a : Said) (settings : List Setting) → (with_settings a settings).given ≡ a.given
given_stays a [] = refl
given_stays a (s ∷ later) = given_stays (with_setting a s) later

pub settings_append : (a : Said) (xs ys : List Setting) → with_settings (with_settings a xs) ys ≡ with_settings a (xs ++ ys)
settings_append a [] ys = refl
settings_append a (s ∷ xs) ys = settings_append (with_setting a s) xs ys

-- an option that isn't among the words is set
pub one_left : (a : Said) (s : Setting) → list_any (λ n. nat_eq n s.option.number) a.given ≡ false → with_setting a s ≡ with_configuration a (s ∷ [])
one_left a s e = sym (ap (λ (b : Bool). with_settings a (cond (not b) (s ∷ []) [])) e)

-- and one that is among them isn't
pub one_given : (a : Said) (s : Setting) → list_any (λ n. nat_eq n s.option.number) a.given ≡ true → a ≡ with_configuration a (s ∷ [])
one_given a s e = sym (ap (λ (b : Bool). with_settings a (cond (not b) (s ∷ []) [])) e)

-- one line's option after those of the lines before
pub configured_more : (a : Said) (xs ys : List Setting) → with_configuration (with_configuration a xs) ys ≡ with_configuration a (xs ++ ys)
configured_more a xs ys =
    ap (λ (g : List ℕ). with_settings (with_configuration a xs) (filter (is_left g) ys)) (given_stays a (filter (is_left a.given) xs))
    ∙ settings_append a (filter (is_left a.given) xs) (filter (is_left a.given) ys)
    ∙ ap (with_settings a) (sym (filter-append (is_left a.given) xs ys))
