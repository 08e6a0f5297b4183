-- What is said as one option after the other is set.
use Rattle.std.proofs.Common.{◌≡◌, ◌+◌, ◌<◌, ◌≤◌, ℕ, Bool, true, false, List, [], ◌∷◌, ◌++◌, length, get_or, take, map, filter, if◌then◌else◌, refl, sym, ap, ◌∙◌, arith, length-append, Global}
use Rattle.std.specs.Prelude.{String, string_bytes}
use Rattle.std.proofs.lemmas.List.{take_more, map-append, length-map}
use Rattle.std.proofs.lemmas.List.Elements.{filter-append}
use Rattle.sim_opts.specs.declared.words.Setting.{Setting as KeptSetting}
use Rattle.sim_opts.specs.declared.table.Row.{Row as KeptRow}
use Rattle.sim_opts.specs.Table.{Row, row_in, table}
use Rattle.sim_opts.specs.Settings.{Setting, is_given}
use Rattle.sim_opts.specs.declared.table.Tool.{Tool}
use Rattle.sim_opts.specs.Words.{asks}
use Rattle.sim_opts.specs.Options.{Said, with_setting, with_settings, nothing_said, said_behind, given_in, said_by, kept_if}
use Rattle.sim_opts.specs.Kept.{setting_in}

with_more : (a : Said) (settings : List Setting) (s : Setting) → with_settings a (settings ++ s ∷ []) ≡ with_setting (with_settings a settings) s
with_more a [] s = refl
with_more a (t ∷ later) s = with_more (with_setting a t) later s

taken_more : {X : Type 0} (xs : List X) (i : ℕ) (x : X) → i < length xs → x ≡ get_or xs i x → take (i + 1) xs ≡ take i xs ++ x ∷ []
taken_more xs i x h e = take_more xs i x h ∙ ap (λ y. take i xs ++ y ∷ []) (sym e)

pub set_more : (a old new : Said) (xs : List KeptSetting) (i : ℕ) (x : KeptSetting) → i < length xs → x ≡ get_or xs i x → old ≡ with_settings a (map setting_in (take i xs)) → new ≡ with_setting old (setting_in x) → new ≡ with_settings a (map setting_in (take (i + 1) xs))
set_more a old new xs i x h e so_far step =
    step ∙ ap (λ o. with_setting o (setting_in x)) so_far ∙ sym (with_more a (map setting_in (take i xs)) (setting_in x))
    ∙ ap (with_settings a) (sym (ap (map setting_in) (taken_more xs i x h e) ∙ map-append setting_in (take i xs) (x ∷ [])))

pub names_more : (old new : List (List ℕ)) (xs : List (String Global)) (i : ℕ) (x : String Global) (text : List ℕ) → i < length xs → x ≡ get_or xs i x → text ≡ string_bytes x → old ≡ map string_bytes (take i xs) → new ≡ old ++ text ∷ [] → new ≡ map string_bytes (take (i + 1) xs)
names_more old new xs i x text h e is so_far step =
    step ∙ ap (λ o. o ++ text ∷ []) so_far ∙ ap (λ t. map string_bytes (take i xs) ++ t ∷ []) is
    ∙ sym (ap (map string_bytes) (taken_more xs i x h e) ∙ map-append string_bytes (take i xs) (x ∷ []))

kept_one : (b : Bool) (r : Row) → map (λ (q : Row). q.number) (if b then r ∷ [] else []) ≡ kept_if b r.number
kept_one true r = refl
kept_one false r = refl

-- the numbers of the rows so far that are given
abbrev pub given_of : List Setting → List Row → List ℕ
given_of settings rows = map (λ r. r.number) (filter (λ r. is_given r.number settings) rows)

pub given_more : (settings : List Setting) (old new : List ℕ) (xs : List KeptRow) (i : ℕ) (d : KeptRow) (b : Bool) → i < length xs → old ≡ given_of settings (map row_in (take i xs)) → b ≡ is_given (get_or xs i d).number settings → new ≡ old ++ kept_if b (get_or xs i d).number
    → new ≡ given_of settings (map row_in (take (i + 1) xs))
given_more settings old new xs i d b h so_far test step =
    let r = row_in (get_or xs i d) in
    let p = λ (q : Row). is_given q.number settings in
    let front = map row_in (take i xs) in
    step ∙ ap (λ o. o ++ kept_if b r.number) so_far ∙ ap (λ t. given_of settings front ++ kept_if t r.number) test
    ∙ ap (λ l. given_of settings front ++ l) (sym (kept_one (p r) r))
    ∙ sym (map-append (λ (q : Row). q.number) (filter p front) (filter p (r ∷ [])))
    ∙ ap (map (λ (q : Row). q.number)) (sym (filter-append p front (r ∷ [])))
    ∙ ap (given_of settings) (sym (ap (map row_in) (take_more xs i d h) ∙ map-append row_in (take i xs) (get_or xs i d ∷ [])))

kept_short : (b : Bool) (n : ℕ) → length (kept_if b n) ≤ 1
kept_short true n = omega arith
kept_short false n = omega arith

pub given_few : (old new : List ℕ) (b : Bool) (n i : ℕ) → length old ≤ i → new ≡ old ++ kept_if b n → length new ≤ i + 1
given_few old new b n i few step = omega (arith, ap length step, length-append old (kept_if b n), kept_short b n)

pub table_length : (xs : List KeptRow) → map row_in xs ≡ table → length xs ≡ 44
table_length xs e = sym (length-map xs row_in) ∙ ap length e

-- options keep the command
pub tool_stays : (a : Said) (settings : List Setting) → (with_settings a settings).tool ≡ a.tool
tool_stays a [] = refl
tool_stays a (s ∷ later) = tool_stays (with_setting a s) later

-- first the numbers that are given, then all options, and then what stands behind them
pub said_all : (t : Tool) (xs ys zs : List KeptSetting) (operands : List (List ℕ)) (first begun whole ended : Said) (items : List ℕ) → first ≡ nothing_said t → begun ≡ record first { given = items }
    → ys ≡ xs → items ≡ given_in (map setting_in ys) → zs ≡ xs → whole ≡ with_settings begun (map setting_in zs) → ended ≡ said_behind whole.tool operands whole
    → ended ≡ said_by (asks t (map setting_in xs) operands)
said_all t xs ys zs operands first begun whole ended items new started same_ys given same_zs set behind =
    let settings = map setting_in xs in
    let start : Said = record (nothing_said t) { given = given_in settings } in
    let starts : begun ≡ start =
    started ∙ ap (λ (f : Said). record f { given = items }) new ∙ ap (λ (i : List ℕ). record (nothing_said t) { given = i }) (given ∙ ap (λ l. given_in (map setting_in l)) same_ys) in
    let sets : whole ≡ with_settings start settings =
    set ∙ ap (λ l. with_settings begun (map setting_in l)) same_zs ∙ ap (λ b. with_settings b settings) starts in
    let tool : whole.tool ≡ t = ap (λ (w : Said). w.tool) sets ∙ tool_stays start settings in
    behind ∙ ap (λ k. said_behind k operands whole) tool ∙ ap (said_behind t operands) sets
