-- Configurations are read exactly by the grammar of their lines.
use Rattle.std.proofs.Common.{◌≡◌, ◌+◌, ◌<◌, ◌∙◌, ◌||◌, ◌↔◌, ◌⊎◌, ℕ, nat_eq, nat_le, nat_lt, Bool, true, false, not, cond, List, [], ◌∷◌, ◌++◌, length, Option, Some, None, Result, Ok, Err, refl, sym, ap, ap₂, arith, subst, append_assoc, append-nil, inl, inr}
use Rattle.std.specs.List.{find, list_all}
use Rattle.std.proofs.lemmas.Bool.Decides.{nat_tests}
use Rattle.text_lines.specs.Lines.{is_allowed, words_of}
use Rattle.ss_base.specs.declared.text_fault.TextWhy.{TextWhy}
use Rattle.ss_base.specs.declared.text_fault.TextWhy.TheVariants as why
use Rattle.ss_base.specs.declared.text_fault.AsmFault.{AsmFault}
use Rattle.ss_base.specs.declared.text_fault.AsmFault.TheVariants as faults
use Rattle.sim_opts.specs.declared.table.Slot.{Slot}
use Rattle.sim_opts.specs.declared.table.Tool.{Tool}
use Rattle.sim_opts.specs.declared.values.ValueWhy.{ValueWhy}
use Rattle.sim_opts.specs.declared.values.ValueWhy.TheVariants as value
use Rattle.sim_opts.specs.Table.{Row, row_named, most_of}
use Rattle.sim_opts.specs.Values.{value_fault}
use Rattle.sim_opts.specs.Settings.{Setting, count, AreValues, IsSetting}
use Rattle.sim_opts.specs.Configuration.{reasons, is_reason, some_value, option_has, named_has, words_have, line_has, line_fault, setting_of, words_settings, line_settings, line_or, read_lines, IsEmptyLine, IsOptionLine, AreLines, IsWrongLine}
use Rattle.sim_opts.proofs.LineWords.{line_words}
use Rattle.sim_opts.proofs.Walking.{row_name, values_length}

-- ---- reasons that a line hasn't

none_found : {X : Type 0} (p : X → Bool) (x : X) (xs : List X) → find p (x ∷ xs) ≡ None → (p x ≡ false) × (find p xs ≡ None)
none_found p x xs h = by_test (p x) refl h
  where
    by_test : (b : Bool) → p x ≡ b → cond b (Some x) (find p xs) ≡ None → (p x ≡ false) × (find p xs ≡ None)
    by_test true e k = cc
    by_test false e k = (e, k)

none_here : {X : Type 0} (p : X → Bool) (x : X) (xs : List X) → p x ≡ false → find p xs ≡ None → find p (x ∷ xs) ≡ None
none_here p x xs e h = ap (λ (b : Bool). cond b (Some x) (find p xs)) e ∙ h

-- a list of reasons that are all missing
record Clean (p : TextWhy → Bool) : Type 0 where
  pub char : p why.Char ≡ false
  pub unknown : p why.Option ≡ false
  pub elsewhere : p why.NotHere ≡ false
  pub again : p why.Twice ≡ false
  pub missing : p why.Missing ≡ false
  pub number : p why.Number ≡ false
  pub range : p why.Range ≡ false
  pub form : p why.Form ≡ false
  pub extra : p why.Extra ≡ false

clean : (p : TextWhy → Bool) → find p reasons ≡ None → Clean p
clean p h =
    let a = none_found p why.Char (why.Option ∷ why.NotHere ∷ why.Twice ∷ why.Missing ∷ why.Number ∷ why.Range ∷ why.Form ∷ why.Extra ∷ []) h in
    let b = none_found p why.Option (why.NotHere ∷ why.Twice ∷ why.Missing ∷ why.Number ∷ why.Range ∷ why.Form ∷ why.Extra ∷ []) a.1 in
    let c = none_found p why.NotHere (why.Twice ∷ why.Missing ∷ why.Number ∷ why.Range ∷ why.Form ∷ why.Extra ∷ []) b.1 in
    let d = none_found p why.Twice (why.Missing ∷ why.Number ∷ why.Range ∷ why.Form ∷ why.Extra ∷ []) c.1 in
    let e = none_found p why.Missing (why.Number ∷ why.Range ∷ why.Form ∷ why.Extra ∷ []) d.1 in
    let f = none_found p why.Number (why.Range ∷ why.Form ∷ why.Extra ∷ []) e.1 in
    let g = none_found p why.Range (why.Form ∷ why.Extra ∷ []) f.1 in
    let i = none_found p why.Form (why.Extra ∷ []) g.1 in
    let j = none_found p why.Extra [] i.1 in
    record { char = a.0; unknown = b.0; elsewhere = c.0; again = d.0; missing = e.0; number = f.0; range = g.0; form = i.0; extra = j.0 }

unclean : (p : TextWhy → Bool) → Clean p → find p reasons ≡ None
unclean p k =
    none_here p why.Char (why.Option ∷ why.NotHere ∷ why.Twice ∷ why.Missing ∷ why.Number ∷ why.Range ∷ why.Form ∷ why.Extra ∷ []) k.char
    (none_here p why.Option (why.NotHere ∷ why.Twice ∷ why.Missing ∷ why.Number ∷ why.Range ∷ why.Form ∷ why.Extra ∷ []) k.unknown
    (none_here p why.NotHere (why.Twice ∷ why.Missing ∷ why.Number ∷ why.Range ∷ why.Form ∷ why.Extra ∷ []) k.elsewhere
    (none_here p why.Twice (why.Missing ∷ why.Number ∷ why.Range ∷ why.Form ∷ why.Extra ∷ []) k.again
    (none_here p why.Missing (why.Number ∷ why.Range ∷ why.Form ∷ why.Extra ∷ []) k.missing
    (none_here p why.Number (why.Range ∷ why.Form ∷ why.Extra ∷ []) k.number
    (none_here p why.Range (why.Form ∷ why.Extra ∷ []) k.range
    (none_here p why.Form (why.Extra ∷ []) k.form
    (none_here p why.Extra [] k.extra refl))))))))

-- ---- values

or_first : (a b : Bool) → (a || b) ≡ false → a ≡ false
or_first true b h = h
or_first false b h = refl

or_second : (a b : Bool) → (a || b) ≡ false → b ≡ false
or_second true b h = cc
or_second false b h = h

or_both : (a b : Bool) → a ≡ false → b ≡ false → (a || b) ≡ false
or_both true b h k = h
or_both false b h k = k

no_reason : (o : Option ValueWhy) → is_reason value.Number o ≡ false → is_reason value.Range o ≡ false → is_reason value.Form o ≡ false → o ≡ None
no_reason None n r f = refl
no_reason (Some value.Number) n r f = cc
no_reason (Some value.Range) n r f = cc
no_reason (Some value.Form) n r f = cc

no_fault : (reason : ValueWhy) (o : Option ValueWhy) → o ≡ None → is_reason reason o ≡ false
no_fault reason None h = refl
no_fault reason (Some other) h = cc

are_values : (slots : List Slot) (texts : List (List ℕ)) → length slots ≡ length texts → some_value value.Number slots texts ≡ false → some_value value.Range slots texts ≡ false → some_value value.Form slots texts ≡ false → AreValues slots texts
are_values [] [] e n r f = tt
are_values [] (word ∷ texts) e n r f = absurd (omega (arith, e))
are_values (slot ∷ slots) [] e n r f = absurd (omega (arith, e))
are_values (slot ∷ slots) (word ∷ texts) e n r f =
    let found = value_fault slot word in (
      no_reason found (or_first (is_reason value.Number found) (some_value value.Number slots texts) n) (or_first (is_reason value.Range found) (some_value value.Range slots texts) r) (or_first (is_reason value.Form found) (some_value value.Form slots texts) f),
      are_values slots texts (omega (arith, e)) (or_second (is_reason value.Number found) (some_value value.Number slots texts) n) (or_second (is_reason value.Range found) (some_value value.Range slots texts) r) (or_second (is_reason value.Form found) (some_value value.Form slots texts) f),
    )

values_clean : (reason : ValueWhy) (slots : List Slot) (texts : List (List ℕ)) → AreValues slots texts → some_value reason slots texts ≡ false
values_clean reason [] [] k = refl
values_clean reason [] (word ∷ texts) k = refl
values_clean reason (slot ∷ slots) [] k = refl
values_clean reason (slot ∷ slots) (word ∷ texts) k =
    or_both (is_reason reason (value_fault slot word)) (some_value reason slots texts) (no_fault reason (value_fault slot word) k.0) (values_clean reason slots texts k.1)

not_less : (m n : ℕ) → nat_lt m n ≡ false → nat_lt n m ≡ false → m ≡ n
not_less m n a b = grind (arith, nat_tests, a, b)

-- ---- one line

above : (most times : ℕ) → nat_le most times ≡ false → times < most
above most times h = grind (arith, nat_tests, h)

-- an option of which no reason holds may stand
option_clean : (tool : Tool) (before : List Setting) (word : List ℕ) (texts : List (List ℕ)) (row : Row) → row_named word ≡ Some row → Clean (option_has tool (count row.number before) row texts)
    → IsSetting tool before (record { option = row; values = texts }) × (row.words_alone ≡ false) × (word ≡ row.name)
option_clean tool before word texts row known k =
    let name = row_name word row known in (
      record {
        known = ap row_named name ∙ known;
        often = above (most_of tool row) (count row.number before) k.again;
        values = are_values row.slots texts (sym (not_less (length texts) (length row.slots) k.missing k.extra)) k.number k.range k.form;
      },
      or_first row.words_alone (nat_eq (most_of tool row) 0) k.elsewhere,
      sym name,
    )

not_zero : (most times : ℕ) → times < most → nat_eq most 0 ≡ false
not_zero most times h = grind (arith, nat_tests, h)

not_many : (most times : ℕ) → times < most → nat_le most times ≡ false
not_many most times h = grind (arith, nat_tests, h)

none_less : (m n : ℕ) → m ≡ n → nat_lt m n ≡ false
none_less m n h = grind (arith, nat_tests, h)

-- and of one that may stand no reason holds
setting_clean : (tool : Tool) (before : List Setting) (s : Setting) → IsSetting tool before s → s.option.words_alone ≡ false → Clean (option_has tool (count s.option.number before) s.option s.values)
setting_clean tool before s k alone =
    let long = values_length s.option.slots s.values k.values in
    record {
      char = refl;
      unknown = refl;
      elsewhere = or_both s.option.words_alone (nat_eq (most_of tool s.option) 0) alone (not_zero (most_of tool s.option) (count s.option.number before) k.often);
      again = not_many (most_of tool s.option) (count s.option.number before) k.often;
      missing = none_less (length s.values) (length s.option.slots) long;
      number = values_clean value.Number s.option.slots s.values k.values;
      range = values_clean value.Range s.option.slots s.values k.values;
      form = values_clean value.Form s.option.slots s.values k.values;
      extra = none_less (length s.option.slots) (length s.values) (sym long);
    }

-- what a line is of which no reason holds
abbrev IsClean : Tool → List Setting → List ℕ → Type 0
IsClean tool before line = (IsEmptyLine line × (line_settings line ≡ [])) ⊎ ((s : Setting) × (line_settings line ≡ s ∷ []) × IsOptionLine tool before line s)

named_clean : (tool : Tool) (before : List Setting) (line word : List ℕ) (texts : List (List ℕ)) (r : Option Row) → list_all is_allowed line ≡ true → words_of line ≡ word ∷ texts → row_named word ≡ r → find (named_has tool before r texts) reasons ≡ None → IsClean tool before line
named_clean tool before line word texts None allowed e known h = cc
named_clean tool before line word texts (Some row) allowed e known h =
    let k = option_clean tool before word texts row known (clean (option_has tool (count row.number before) row texts) h) in
    inr (
      record { option = row; values = texts },
      ap words_settings e ∙ ap (λ (r : Option Row). setting_of r texts) known,
      record { allowed = allowed; words = e ∙ ap (λ w. w ∷ texts) k.2; may_stand = k.0; in_files = k.1 },
    )

words_clean : (tool : Tool) (before : List Setting) (line : List ℕ) (texts : List (List ℕ)) → list_all is_allowed line ≡ true → words_of line ≡ texts → find (words_have tool before texts) reasons ≡ None → IsClean tool before line
words_clean tool before line [] allowed e h = inl (record { allowed = allowed; words = e }, ap words_settings e)
words_clean tool before line (word ∷ texts) allowed e h = named_clean tool before line word texts (row_named word) allowed e refl h

not_false : (b : Bool) → not b ≡ false → b ≡ true
not_false true h = refl
not_false false h = cc

line_clean : (tool : Tool) (before : List Setting) (line : List ℕ) → line_fault tool before line ≡ None → IsClean tool before line
line_clean tool before line h =
    let allowed = not_false (list_all is_allowed line) (clean (line_has tool before line) h).char in
    words_clean tool before line (words_of line) allowed refl (sym (line_words tool before line allowed) ∙ h)

empty_right : (tool : Tool) (before : List Setting) (line : List ℕ) → IsEmptyLine line → line_fault tool before line ≡ None
empty_right tool before line k = line_words tool before line k.allowed ∙ ap (λ texts. find (words_have tool before texts) reasons) k.words

option_right : (tool : Tool) (before : List Setting) (line : List ℕ) (s : Setting) → IsOptionLine tool before line s → line_fault tool before line ≡ None
option_right tool before line s k =
    line_words tool before line k.allowed
    ∙ ap (λ texts. find (words_have tool before texts) reasons) k.words
    ∙ ap (λ (r : Option Row). find (named_has tool before r s.values) reasons) k.may_stand.known
    ∙ unclean (option_has tool (count s.option.number before) s.option s.values) (setting_clean tool before s k.may_stand k.in_files)

option_setting : (tool : Tool) (before : List Setting) (line : List ℕ) (s : Setting) → IsOptionLine tool before line s → line_settings line ≡ s ∷ []
option_setting tool before line s k = ap words_settings k.words ∙ ap (λ (r : Option Row). setting_of r s.values) k.may_stand.known

-- ---- all lines

-- lines of the grammar are read, whatever stands behind them
lines_read : (tool : Tool) (before : List Setting) (n : ℕ) (front rest : List (List ℕ)) (settings : List Setting) → AreLines tool before front settings → read_lines tool n before (front ++ rest) ≡ read_lines tool (n + length front) (before ++ settings) rest
lines_read tool before n [] rest settings k =
    let here : n ≡ n + 0 = omega arith in
    ap₂ (λ (m : ℕ) (b : List Setting). read_lines tool m b rest) here (sym (append-nil before) ∙ ap (λ t. before ++ t) (sym k))
lines_read tool before n (line ∷ front) rest settings (inl k) =
    let here : n + 1 + length front ≡ n + length (line ∷ front) = omega arith in
    let later = read_lines tool (n + 1) (before ++ line_settings line) (front ++ rest) in
    ap (λ o. line_or n o later) (empty_right tool before line k.0)
    ∙ ap (λ (t : List Setting). read_lines tool (n + 1) (before ++ t) (front ++ rest)) (ap words_settings k.0.words)
    ∙ ap (λ (b : List Setting). read_lines tool (n + 1) b (front ++ rest)) (append-nil before)
    ∙ lines_read tool before (n + 1) front rest settings k.1
    ∙ ap (λ m. read_lines tool m (before ++ settings) rest) here
lines_read tool before n (line ∷ front) rest settings (inr k) =
    let s = k.0 in
    let later = k.1 in
    let is_line : IsOptionLine tool before line s = k.3 in
    let here : n + 1 + length front ≡ n + length (line ∷ front) = omega arith in
    ap (λ o. line_or n o (read_lines tool (n + 1) (before ++ line_settings line) (front ++ rest))) (option_right tool before line s is_line)
    ∙ ap (λ (t : List Setting). read_lines tool (n + 1) (before ++ t) (front ++ rest)) (option_setting tool before line s is_line)
    ∙ lines_read tool (before ++ s ∷ []) (n + 1) front rest later k.4
    ∙ ap₂ (λ (m : ℕ) (b : List Setting). read_lines tool m b rest) here (append_assoc before (s ∷ []) later ∙ ap (λ t. before ++ t) (sym k.2))

-- what reading says of lines
record IsFirstWrong (tool : Tool) (before : List Setting) (n : ℕ) (lines : List (List ℕ)) (fault : AsmFault) : Type 0 where
  pub front : List (List ℕ)
  pub line : List ℕ
  pub behind : List (List ℕ)
  pub settings : List Setting
  pub reason : TextWhy
  pub order : lines ≡ front ++ line ∷ behind
  pub right : AreLines tool before front settings
  pub is_wrong : line_fault tool (before ++ settings) line ≡ Some reason
  pub told : fault ≡ faults.Bad (n + length front) reason

abbrev Tells : Tool → List Setting → ℕ → List (List ℕ) → Result (List Setting) AsmFault → Type 0
Tells tool before n lines (Ok all) = (settings : List Setting) × (all ≡ before ++ settings) × AreLines tool before lines settings
Tells tool before n lines (Err fault) = IsFirstWrong tool before n lines fault

told_empty : (tool : Tool) (before : List Setting) (n : ℕ) (line : List ℕ) (lines : List (List ℕ)) (r : Result (List Setting) AsmFault) → IsEmptyLine line → Tells tool before (n + 1) lines r → Tells tool before n (line ∷ lines) r
told_empty tool before n line lines (Ok all) k t = (t.0, t.1, inl (k, t.2))
told_empty tool before n line lines (Err fault) k t =
    let here : n + 1 + length t.front ≡ n + length (line ∷ t.front) = omega arith in
    record {
      front = line ∷ t.front;
      line = t.line;
      behind = t.behind;
      settings = t.settings;
      reason = t.reason;
      order = ap (λ l. line ∷ l) t.order;
      right = inl (k, t.right);
      is_wrong = t.is_wrong;
      told = t.told ∙ ap (λ m. faults.Bad m t.reason) here;
    }

told_option : (tool : Tool) (before : List Setting) (n : ℕ) (line : List ℕ) (lines : List (List ℕ)) (s : Setting) (r : Result (List Setting) AsmFault) → IsOptionLine tool before line s → Tells tool (before ++ s ∷ []) (n + 1) lines r → Tells tool before n (line ∷ lines) r
told_option tool before n line lines s (Ok all) k t = (s ∷ t.0, t.1 ∙ append_assoc before (s ∷ []) t.0, inr (s, t.0, refl, k, t.2))
told_option tool before n line lines s (Err fault) k t =
    let here : n + 1 + length t.front ≡ n + length (line ∷ t.front) = omega arith in
    record {
      front = line ∷ t.front;
      line = t.line;
      behind = t.behind;
      settings = s ∷ t.settings;
      reason = t.reason;
      order = ap (λ l. line ∷ l) t.order;
      right = inr (s, t.settings, refl, k, t.right);
      is_wrong = ap (λ b. line_fault tool b t.line) (sym (append_assoc before (s ∷ []) t.settings)) ∙ t.is_wrong;
      told = t.told ∙ ap (λ m. faults.Bad m t.reason) here;
    }

told_clean : (tool : Tool) (before : List Setting) (n : ℕ) (line : List ℕ) (lines : List (List ℕ)) → IsClean tool before line → ((b : List Setting) → Tells tool b (n + 1) lines (read_lines tool (n + 1) b lines))
    → Tells tool before n (line ∷ lines) (read_lines tool (n + 1) (before ++ line_settings line) lines)
told_clean tool before n line lines (inl k) rest =
    let same : before ++ line_settings line ≡ before = ap (λ t. before ++ t) k.1 ∙ append-nil before in
    subst (λ (b : List Setting). Tells tool before n (line ∷ lines) (read_lines tool (n + 1) b lines)) (sym same)
    (told_empty tool before n line lines (read_lines tool (n + 1) before lines) k.0 (rest before))
told_clean tool before n line lines (inr k) rest =
    let s = k.0 in
    subst (λ (t : List Setting). Tells tool before n (line ∷ lines) (read_lines tool (n + 1) (before ++ t) lines)) (sym k.1)
    (told_option tool before n line lines s (read_lines tool (n + 1) (before ++ s ∷ []) lines) k.2 (rest (before ++ s ∷ [])))

told_line : (tool : Tool) (before : List Setting) (n : ℕ) (line : List ℕ) (lines : List (List ℕ)) (o : Option TextWhy) → line_fault tool before line ≡ o → ((b : List Setting) → Tells tool b (n + 1) lines (read_lines tool (n + 1) b lines))
    → Tells tool before n (line ∷ lines) (line_or n o (read_lines tool (n + 1) (before ++ line_settings line) lines))
told_line tool before n line lines None e rest = told_clean tool before n line lines (line_clean tool before line e) rest
told_line tool before n line lines (Some reason) e rest =
    let here : n ≡ n + 0 = omega arith in
    record {
      front = [];
      line = line;
      behind = lines;
      settings = [];
      reason = reason;
      order = refl;
      right = refl;
      is_wrong = ap (λ b. line_fault tool b line) (append-nil before) ∙ e;
      told = ap (λ m. faults.Bad m reason) here;
    }

read_tells : (tool : Tool) (before : List Setting) (n : ℕ) (lines : List (List ℕ)) → Tells tool before n lines (read_lines tool n before lines)
read_tells tool before n [] = ([], sym (append-nil before), refl)
read_tells tool before n (line ∷ lines) = told_line tool before n line lines (line_fault tool before line) refl (λ b. read_tells tool b (n + 1) lines)

abbrev settings_or : List Setting → Result (List Setting) AsmFault → List Setting
settings_or d (Ok s) = s
settings_or d (Err f) = d

abbrev fault_or : AsmFault → Result (List Setting) AsmFault → AsmFault
fault_or d (Ok s) = d
fault_or d (Err f) = f

grammar_read : (tool : Tool) (lines : List (List ℕ)) (settings : List Setting) → AreLines tool [] lines settings → read_lines tool 1 [] lines ≡ Ok settings
grammar_read tool lines settings k = ap (read_lines tool 1 []) (sym (append-nil lines)) ∙ lines_read tool [] 1 lines [] settings k

read_grammar : (tool : Tool) (lines : List (List ℕ)) (settings : List Setting) (r : Result (List Setting) AsmFault) → r ≡ Ok settings → Tells tool [] 1 lines r → AreLines tool [] lines settings
read_grammar tool lines settings (Ok all) e t = subst (AreLines tool [] lines) (sym t.1 ∙ ap (settings_or settings) e) t.2
read_grammar tool lines settings (Err fault) e t = cc

pub lines_iff_read : (tool : Tool) (lines : List (List ℕ)) (settings : List Setting) → AreLines tool [] lines settings ↔ (read_lines tool 1 [] lines ≡ Ok settings)
lines_iff_read tool lines settings = (grammar_read tool lines settings, λ e. read_grammar tool lines settings (read_lines tool 1 [] lines) e (read_tells tool [] 1 lines))

wrong_read : (tool : Tool) (lines : List (List ℕ)) (n : ℕ) (reason : TextWhy) → IsWrongLine tool lines n reason → read_lines tool 1 [] lines ≡ Err (faults.Bad n reason)
wrong_read tool lines n reason k =
    ap (read_lines tool 1 []) k.order ∙ lines_read tool [] 1 k.front (k.line ∷ k.behind) k.settings k.right
    ∙ ap (λ o. line_or (1 + length k.front) o (read_lines tool (1 + length k.front + 1) (k.settings ++ line_settings k.line) k.behind)) k.is_wrong
    ∙ ap (λ m. Err (faults.Bad m reason)) (sym k.place)

abbrev bad_number : AsmFault → AsmFault → (ℕ × TextWhy) → ℕ × TextWhy
bad_number f g d = number_in f
  where
    number_in : AsmFault → ℕ × TextWhy
    number_in (faults.Bad n reason) = (n, reason)
    number_in faults.OutOfMemory = d

read_wrong : (tool : Tool) (lines : List (List ℕ)) (n : ℕ) (reason : TextWhy) (r : Result (List Setting) AsmFault) → r ≡ Err (faults.Bad n reason) → Tells tool [] 1 lines r → IsWrongLine tool lines n reason
read_wrong tool lines n reason (Ok all) e t = cc
read_wrong tool lines n reason (Err fault) e t =
    let same : faults.Bad n reason ≡ faults.Bad (1 + length t.front) t.reason = sym (ap (fault_or fault) e) ∙ t.told in
    let both : (n, reason) ≡ (1 + length t.front, t.reason) = ap (λ f. bad_number f f (n, reason)) same in
    record {
      front = t.front;
      line = t.line;
      behind = t.behind;
      settings = t.settings;
      order = t.order;
      right = t.right;
      is_wrong = t.is_wrong ∙ ap Some (sym (ap (λ p. p.1) both));
      place = ap (λ p. p.0) both;
    }

pub wrong_iff_read : (tool : Tool) (lines : List (List ℕ)) (n : ℕ) (reason : TextWhy) → IsWrongLine tool lines n reason ↔ (read_lines tool 1 [] lines ≡ Err (faults.Bad n reason))
wrong_iff_read tool lines n reason = (wrong_read tool lines n reason, λ e. read_wrong tool lines n reason (read_lines tool 1 [] lines) e (read_tells tool [] 1 lines))
