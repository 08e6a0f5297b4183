-- Words and a configuration together: an option among the words wins.
use Rattle.std.proofs.Common.{◌≡◌, ◌∙◌, ◌||◌, ℕ, nat_eq, nat_le, Bool, true, false, not, cond, List, [], ◌∷◌, ◌++◌, length, map, filter, Option, Some, None, refl, sym, ap, arith, append-nil}
use Rattle.std.specs.List.{find, list_any}
use Rattle.std.specs.Str.{bytes_eq}
use Rattle.std.proofs.lemmas.List.Elements.{filter-append}
use Rattle.std.proofs.lemmas.Bool.Decides.{nat_tests}
use Rattle.sim_opts.specs.declared.table.Tool.{Tool}
use Rattle.sim_opts.specs.declared.table.Tool.TheVariants.{SimSafe, Record, Asm, Dis}
use Rattle.sim_opts.specs.Table.{Row, table, row_named}
use Rattle.sim_opts.specs.Settings.{Setting, of_option, is_given}
use Rattle.sim_opts.specs.Words.{asks}
use Rattle.sim_opts.specs.Options.{Said, with_setting, with_settings, nothing_said, said_behind, given_in, said_by}
use Rattle.sim_opts.specs.Configuration.{is_left, with_configuration, together}
use Rattle.sim_opts.proofs.Configured.{given_stays, settings_append}

-- ---- a configuration says what the words would

setting_behind : (t : Tool) (operands : List (List ℕ)) (a : Said) (s : Setting) → with_setting (said_behind t operands a) s ≡ said_behind t operands (with_setting a s)
setting_behind SimSafe operands a s = refl
setting_behind Record operands a s = refl
setting_behind Asm operands a s = refl
setting_behind Dis operands a s = refl

settings_behind : (t : Tool) (operands : List (List ℕ)) (a : Said) (settings : List Setting) → with_settings (said_behind t operands a) settings ≡ said_behind t operands (with_settings a settings)
settings_behind t operands a [] = refl
settings_behind t operands a (s ∷ later) = ap (λ b. with_settings b later) (setting_behind t operands a s) ∙ settings_behind t operands (with_setting a s) later

abbrev with_given : List ℕ → Said → Said
with_given numbers a = record a { given = numbers }

given_behind : (t : Tool) (operands : List (List ℕ)) (numbers : List ℕ) (a : Said) → with_given numbers (said_behind t operands a) ≡ said_behind t operands (with_given numbers a)
given_behind SimSafe operands numbers a = refl
given_behind Record operands numbers a = refl
given_behind Asm operands numbers a = refl
given_behind Dis operands numbers a = refl

given_kept : (t : Tool) (operands : List (List ℕ)) (a : Said) → (said_behind t operands a).given ≡ a.given
given_kept SimSafe operands a = refl
given_kept Record operands a = refl
given_kept Asm operands a = refl
given_kept Dis operands a = refl

given_settings : (numbers : List ℕ) (a : Said) (settings : List Setting) → with_given numbers (with_settings a settings) ≡ with_settings (with_given numbers a) settings
given_settings numbers a [] = refl
given_settings numbers a (s ∷ later) = given_settings numbers (with_setting a s) later

pub said_together : (t : Tool) (operands : List (List ℕ)) (words lines : List Setting)
    → with_configuration (said_by (asks t words operands)) lines ≡ record (said_by (asks t (together words lines) operands)) { given = given_in words }
said_together t operands words lines =
    let start : Said = record (nothing_said t) { given = given_in words } in
    let whole : Said = with_settings start words in
    let all : List Setting = together words lines in
    let left : List Setting = filter (is_left (given_in words)) lines in
    let kept : (said_behind t operands whole).given ≡ given_in words = given_kept t operands whole ∙ given_stays start words in
    ap (λ (g : List ℕ). with_settings (said_behind t operands whole) (filter (is_left g) lines)) kept
    ∙ settings_behind t operands whole left
    ∙ ap (said_behind t operands) (settings_append start words left)
    ∙ ap (said_behind t operands) (sym (given_settings (given_in words) (record (nothing_said t) { given = given_in all }) all))
    ∙ sym (given_behind t operands (given_in words) (with_settings (record (nothing_said t) { given = given_in all }) all))

-- ---- an option among the words wins

abbrev is_number : ℕ → ℕ → Bool
is_number n m = nat_eq m n

abbrev rows_left : List Setting → List Row → List Row
rows_left words rows = filter (λ r. is_given r.number words) rows

abbrev rows_given : List Setting → List Row → List ℕ
rows_given words rows = map (λ r. r.number) (filter (λ r. is_given r.number words) rows)

abbrev found_or : Row → Option Row → Row
found_or d None = d
found_or d (Some r) = r

stands_step : (words : List Setting) (p : Row → Bool) (row r : Row) (rows : List Row) (b : Bool) → p r ≡ b → is_given row.number words ≡ true → cond b (Some r) (find p rows) ≡ Some row
    → (find p rows ≡ Some row → list_any (is_number row.number) (rows_given words rows) ≡ true) → list_any (is_number row.number) (rows_given words (r ∷ rows)) ≡ true
stands_step words p row r rows true e given h rest =
    let same : r ≡ row = ap (found_or r) h in
    ap (λ (b : Bool). list_any (is_number row.number) (map (λ (q : Row). q.number) (cond b (r ∷ filter (λ (q : Row). is_given q.number words) rows) (filter (λ (q : Row). is_given q.number words) rows)))) (ap (λ (q : Row). is_given q.number words) same ∙ given)
    ∙ ap (λ (b : Bool). b || list_any (is_number row.number) (rows_given words rows)) (ap (λ (q : Row). nat_eq q.number row.number) same ∙ equal row.number)
  where
    equal : (n : ℕ) → nat_eq n n ≡ true
    equal n = grind (arith, nat_tests)
stands_step words p row r rows false e given h rest = more (is_given r.number words) refl
  where
    or_true : (b : Bool) → (b || true) ≡ true
    or_true true = refl
    or_true false = refl

    more : (b : Bool) → is_given r.number words ≡ b → list_any (is_number row.number) (rows_given words (r ∷ rows)) ≡ true
    more true k =
        ap (λ (b : Bool). list_any (is_number row.number) (map (λ (q : Row). q.number) (cond b (r ∷ rows_left words rows) (rows_left words rows)))) k
        ∙ ap (λ (b : Bool). nat_eq r.number row.number || b) (rest h) ∙ or_true (nat_eq r.number row.number)
    more false k = ap (λ (b : Bool). list_any (is_number row.number) (map (λ (q : Row). q.number) (cond b (r ∷ rows_left words rows) (rows_left words rows)))) k ∙ rest h

row_stands : (words : List Setting) (p : Row → Bool) (row : Row) (rows : List Row) → is_given row.number words ≡ true → find p rows ≡ Some row → list_any (is_number row.number) (rows_given words rows) ≡ true
row_stands words p row [] given h = cc
row_stands words p row (r ∷ rows) given h = stands_step words p row r rows (p r) refl given h (row_stands words p row rows given)

number_stands : (words : List Setting) (word : List ℕ) (row : Row) → row_named word ≡ Some row → is_given row.number words ≡ true → list_any (is_number row.number) (given_in words) ≡ true
unfolding row_named
number_stands words word row known given = row_stands words (λ (r : Row). bytes_eq r.name word) row table given known

absent_step : (words : List Setting) (n : ℕ) (r : Row) (rows : List Row) (b : Bool) → is_given r.number words ≡ b → is_given n words ≡ false → list_any (is_number n) (rows_given words rows) ≡ false → list_any (is_number n) (rows_given words (r ∷ rows)) ≡ false
absent_step words n r rows true k none rest =
    ap (λ (b : Bool). list_any (is_number n) (map (λ (q : Row). q.number) (cond b (r ∷ rows_left words rows) (rows_left words rows)))) k
    ∙ ap (λ (b : Bool). b || list_any (is_number n) (rows_given words rows)) (differ (nat_eq r.number n) refl) ∙ rest
  where
    same_number : (i j : ℕ) → nat_eq i j ≡ true → i ≡ j
    same_number i j h = grind (arith, nat_tests, h)

    differ : (b : Bool) → nat_eq r.number n ≡ b → nat_eq r.number n ≡ false
    differ true h =
        let clash : true ≡ false = sym k ∙ ap (λ i. is_given i words) (same_number r.number n h) ∙ none in
        cc
    differ false h = h
absent_step words n r rows false k none rest =
    ap (λ (b : Bool). list_any (is_number n) (map (λ (q : Row). q.number) (cond b (r ∷ rows_left words rows) (rows_left words rows)))) k ∙ rest

number_absent : (words : List Setting) (n : ℕ) (rows : List Row) → is_given n words ≡ false → list_any (is_number n) (rows_given words rows) ≡ false
number_absent words n [] none = refl
number_absent words n (r ∷ rows) none = absent_step words n r rows (is_given r.number words) refl none (number_absent words n rows none)

same_number : (i j : ℕ) → nat_eq i j ≡ true → i ≡ j
same_number i j h = grind (arith, nat_tests, h)

abbrev settings_if : Bool → Setting → List Setting → List Setting
settings_if b s later = cond b (s ∷ later) later

-- where a number stands, no setting of it is left; where it doesn't, all are
drop_step : (numbers : List ℕ) (n : ℕ) (s : Setting) (later : List Setting) (b : Bool) → nat_eq s.option.number n ≡ b → list_any (is_number n) numbers ≡ true → of_option n (filter (is_left numbers) later) ≡ []
    → of_option n (filter (is_left numbers) (s ∷ later)) ≡ []
drop_step numbers n s later true e stands rest =
    let gone : is_left numbers s ≡ false = ap not (ap (λ m. list_any (is_number m) numbers) (same_number s.option.number n e) ∙ stands) in
    ap (λ b. of_option n (settings_if b s (filter (is_left numbers) later))) gone ∙ rest
drop_step numbers n s later false e stands rest = either (is_left numbers s) refl
  where
    either : (b : Bool) → is_left numbers s ≡ b → of_option n (filter (is_left numbers) (s ∷ later)) ≡ []
    either true k = ap (λ b. of_option n (settings_if b s (filter (is_left numbers) later))) k ∙ ap (λ b. settings_if b s (of_option n (filter (is_left numbers) later))) e ∙ rest
    either false k = ap (λ b. of_option n (settings_if b s (filter (is_left numbers) later))) k ∙ rest

none_left : (numbers : List ℕ) (n : ℕ) (settings : List Setting) → list_any (is_number n) numbers ≡ true → of_option n (filter (is_left numbers) settings) ≡ []
none_left numbers n [] stands = refl
none_left numbers n (s ∷ later) stands = drop_step numbers n s later (nat_eq s.option.number n) refl stands (none_left numbers n later stands)

keep_step : (numbers : List ℕ) (n : ℕ) (s : Setting) (later : List Setting) (b : Bool) → nat_eq s.option.number n ≡ b → list_any (is_number n) numbers ≡ false → of_option n (filter (is_left numbers) later) ≡ of_option n later
    → of_option n (filter (is_left numbers) (s ∷ later)) ≡ of_option n (s ∷ later)
keep_step numbers n s later true e absent rest =
    let here : is_left numbers s ≡ true = ap not (ap (λ m. list_any (is_number m) numbers) (same_number s.option.number n e) ∙ absent) in
    ap (λ b. of_option n (settings_if b s (filter (is_left numbers) later))) here ∙ ap (λ l. settings_if (nat_eq s.option.number n) s l) rest
keep_step numbers n s later false e absent rest = either (is_left numbers s) refl
  where
    either : (b : Bool) → is_left numbers s ≡ b → of_option n (filter (is_left numbers) (s ∷ later)) ≡ of_option n (s ∷ later)
    either true k = ap (λ b. of_option n (settings_if b s (filter (is_left numbers) later))) k ∙ ap (λ l. settings_if (nat_eq s.option.number n) s l) rest
    either false k =
        ap (λ b. of_option n (settings_if b s (filter (is_left numbers) later))) k ∙ rest ∙ sym (ap (λ b. settings_if b s (of_option n later)) e)

all_left : (numbers : List ℕ) (n : ℕ) (settings : List Setting) → list_any (is_number n) numbers ≡ false → of_option n (filter (is_left numbers) settings) ≡ of_option n settings
all_left numbers n [] absent = refl
all_left numbers n (s ∷ later) absent = keep_step numbers n s later (nat_eq s.option.number n) refl absent (all_left numbers n later absent)

pub words_win : (words lines : List Setting) (name : List ℕ) (row : Row) → row_named name ≡ Some row → is_given row.number words ≡ true → of_option row.number (together words lines) ≡ of_option row.number words
words_win words lines name row known given =
    filter-append (λ (s : Setting). nat_eq s.option.number row.number) words (filter (is_left (given_in words)) lines)
    ∙ ap (λ l. of_option row.number words ++ l) (none_left (given_in words) row.number lines (number_stands words name row known given))
    ∙ append-nil (of_option row.number words)

empty_count : (n : ℕ) (settings : List Setting) → is_given n settings ≡ false → of_option n settings ≡ []
empty_count n settings h = empty (of_option n settings) h
  where
    empty : (l : List Setting) → nat_le 1 (length l) ≡ false → l ≡ []
    empty [] k = refl
    empty (s ∷ l) k = absurd (grind (arith, nat_tests, k))

pub lines_hold : (words lines : List Setting) (n : ℕ) → is_given n words ≡ false → of_option n (together words lines) ≡ of_option n lines
lines_hold words lines n none =
    filter-append (λ (s : Setting). nat_eq s.option.number n) words (filter (is_left (given_in words)) lines)
    ∙ ap (λ l. l ++ of_option n (filter (is_left (given_in words)) lines)) (empty_count n words none)
    ∙ all_left (given_in words) n lines (number_absent words n table none)
