-- The words of a line, and why a line is wrong.
use Rattle.std.proofs.Common.{◌≡◌, ◌+◌, ◌<◌, ◌≤◌, ◌||◌, ℕ, zero, suc, slice_index, nat_eq, Bool, true, false, not, cond, List, [], ◌∷◌, ◌++◌, length, take, drop, filter, get_or, Option, Some, None, refl, sym, ap, ◌∙◌, arith, length-append}
use Rattle.std.specs.List.{list_all, find}
use Rattle.std.specs.Str.{IsUtf8}
use Rattle.std.proofs.lemmas.Str.{IsUtf8-from_ascii}
use Rattle.std.proofs.lemmas.List.{take_more, drop_all}
use Rattle.std.proofs.lemmas.List.Elements.{filter-append}
use Rattle.std.proofs.lemmas.Bool.Decides.{nat_tests}
use Rattle.text_lines.specs.Lines.{is_allowed, words_of}
use Rattle.ss_base.specs.declared.text_fault.TextWhy.{TextWhy}
use Rattle.ss_base.specs.declared.text_fault.TextWhy.TheVariants as why
use Rattle.sim_opts.specs.declared.table.Slot.{Slot}
use Rattle.sim_opts.specs.declared.table.Tool.{Tool}
use Rattle.sim_opts.specs.declared.values.ValueWhy.{ValueWhy}
use Rattle.sim_opts.specs.Table.{Row, row_named}
use Rattle.sim_opts.specs.Values.{value_fault}
use Rattle.sim_opts.specs.Settings.{Setting, count}
use Rattle.sim_opts.specs.Configuration.{reasons, is_reason, some_value, option_has, named_has, words_have, line_fault}
use Rattle.sim_opts.specs.Lines.{numbers, times}
use Rattle.sim_opts.proofs.Lists.{left_at, item_at, one_if, counted_one}

-- ---- numbers that stood before

pub times_more : (n : ℕ) (xs : List ℕ) (i x : ℕ) (b : Bool) → i < length xs → x ≡ get_or xs i x → nat_eq x n ≡ b → times n (take (i + 1) xs) ≡ times n (take i xs) + one_if b
times_more n xs i x b h e k =
    ap (times n) (take_more xs i x h ∙ ap (λ y. take i xs ++ y ∷ []) (sym e))
    ∙ ap length (filter-append (λ m. nat_eq m n) (take i xs) (x ∷ []))
    ∙ length-append (filter (λ m. nat_eq m n) (take i xs)) (filter (λ m. nat_eq m n) (x ∷ []))
    ∙ ap (λ c. times n (take i xs) + c) (counted_one (λ m. nat_eq m n) x b k)

count_step : (n : ℕ) (s : Setting) (later : List Setting) (b : Bool) → nat_eq s.option.number n ≡ b → times n (numbers later) ≡ count n later → times n (numbers (s ∷ later)) ≡ count n (s ∷ later)
count_step n s later true e h =
    ap (λ (t : Bool). length (cond t (s.option.number ∷ filter (λ m. nat_eq m n) (numbers later)) (filter (λ m. nat_eq m n) (numbers later)))) e
    ∙ ap suc h
    ∙ sym (ap (λ (t : Bool). length (cond t (s ∷ filter (λ (r : Setting). nat_eq r.option.number n) later) (filter (λ (r : Setting). nat_eq r.option.number n) later))) e)
count_step n s later false e h =
    ap (λ (t : Bool). length (cond t (s.option.number ∷ filter (λ m. nat_eq m n) (numbers later)) (filter (λ m. nat_eq m n) (numbers later)))) e
    ∙ h
    ∙ sym (ap (λ (t : Bool). length (cond t (s ∷ filter (λ (r : Setting). nat_eq r.option.number n) later) (filter (λ (r : Setting). nat_eq r.option.number n) later))) e)

-- an option stands as often as its number
pub times_count : (n : ℕ) (settings : List Setting) → times n (numbers settings) ≡ count n settings
times_count n [] = refl
times_count n (s ∷ later) = count_step n s later (nat_eq s.option.number n) refl (times_count n later)

-- ---- a value that is wrong

abbrev or_later : Bool → Bool → Bool
or_later b later = b || later

some_here : (reason : ValueWhy) (slots : List Slot) (texts : List (List ℕ)) (p : ℕ) (d : Slot) (word : List ℕ) → p < length slots → p < length texts → word ≡ get_or texts p word
    → some_value reason (drop p slots) (drop p texts) ≡ or_later (is_reason reason (value_fault (get_or slots p d) word)) (some_value reason (drop (p + 1) slots) (drop (p + 1) texts))
some_here reason slots texts p d word inside within e =
    ap (λ s. some_value reason s (drop p texts)) (left_at slots p d inside)
    ∙ ap (some_value reason (get_or slots p d ∷ drop (p + 1) slots)) (item_at texts p word within e)

pub some_next : (reason : ValueWhy) (slots : List Slot) (texts : List (List ℕ)) (p : ℕ) (d : Slot) (word : List ℕ) (all : Bool) → p < length slots → p < length texts → word ≡ get_or texts p word
    → is_reason reason (value_fault (get_or slots p d) word) ≡ false → some_value reason (drop p slots) (drop p texts) ≡ all → some_value reason (drop (p + 1) slots) (drop (p + 1) texts) ≡ all
some_next reason slots texts p d word all inside within e right h =
    sym (some_here reason slots texts p d word inside within e ∙ ap (λ b. or_later b (some_value reason (drop (p + 1) slots) (drop (p + 1) texts))) right) ∙ h

pub some_hit : (reason : ValueWhy) (slots : List Slot) (texts : List (List ℕ)) (p : ℕ) (d : Slot) (word : List ℕ) (all : Bool) → p < length slots → p < length texts → word ≡ get_or texts p word
    → is_reason reason (value_fault (get_or slots p d) word) ≡ true → some_value reason (drop p slots) (drop p texts) ≡ all → true ≡ all
some_hit reason slots texts p d word all inside within e bad h =
    sym (some_here reason slots texts p d word inside within e ∙ ap (λ b. or_later b (some_value reason (drop (p + 1) slots) (drop (p + 1) texts))) bad) ∙ h

pub some_missing : (reason : ValueWhy) (slots : List Slot) (texts : List (List ℕ)) (p : ℕ) (d : Slot) (all : Bool) → p < length slots → length texts ≤ p → some_value reason (drop p slots) (drop p texts) ≡ all → false ≡ all
some_missing reason slots texts p d all inside past h =
    sym (ap (λ s. some_value reason s (drop p texts)) (left_at slots p d inside) ∙ ap (some_value reason (get_or slots p d ∷ drop (p + 1) slots)) (drop_all p texts past)) ∙ h

pub some_end : (reason : ValueWhy) (slots : List Slot) (texts : List (List ℕ)) (p : ℕ) (all : Bool) → length slots ≤ p → some_value reason (drop p slots) (drop p texts) ≡ all → false ≡ all
some_end reason slots texts p all past h = sym (ap (λ s. some_value reason s (drop p texts)) (drop_all p slots past)) ∙ h

-- ---- the words of a line

pub unknown_word : (tool : Tool) (before : List Setting) (word : List ℕ) (texts : List (List ℕ)) → row_named word ≡ None → find (words_have tool before (word ∷ texts)) reasons ≡ Some why.Option
unknown_word tool before word texts none = ap (λ (r : Option Row). find (named_has tool before r texts) reasons) none

pub known_word : (tool : Tool) (before : List Setting) (stood : List ℕ) (word : List ℕ) (texts : List (List ℕ)) (row : Row) (found : Option TextWhy) → row_named word ≡ Some row → numbers before ≡ stood
    → found ≡ find (option_has tool (times row.number stood) row texts) reasons → find (words_have tool before (word ∷ texts)) reasons ≡ found
known_word tool before stood word texts row found known same h =
    ap (λ (r : Option Row). find (named_has tool before r texts) reasons) known
    ∙ ap (λ n. find (option_has tool n row texts) reasons) (sym (times_count row.number before) ∙ ap (times row.number) same) ∙ sym h

named_char : (tool : Tool) (before : List Setting) (r : Option Row) (texts : List (List ℕ)) → named_has tool before r texts why.Char ≡ false
named_char tool before None texts = refl
named_char tool before (Some row) texts = refl

words_char : (tool : Tool) (before : List Setting) (texts : List (List ℕ)) → words_have tool before texts why.Char ≡ false
words_char tool before [] = refl
words_char tool before (word ∷ texts) = named_char tool before (row_named word) texts

abbrev others : List TextWhy
others = why.Option ∷ why.NotHere ∷ why.Twice ∷ why.Missing ∷ why.Number ∷ why.Range ∷ why.Form ∷ why.Extra ∷ []

abbrev fault_by : Tool → List Setting → Bool → List (List ℕ) → Option TextWhy
fault_by tool before allowed texts = cond (not allowed) (Some why.Char) (find (words_have tool before texts) others)

-- of a line whose bytes may stand there the words decide
pub line_words : (tool : Tool) (before : List Setting) (line : List ℕ) → list_all is_allowed line ≡ true → line_fault tool before line ≡ find (words_have tool before (words_of line)) reasons
line_words tool before line h =
    ap (λ b. fault_by tool before b (words_of line)) h
    ∙ sym (ap (λ (b : Bool). cond b (Some why.Char) (find (words_have tool before (words_of line)) others)) (words_char tool before (words_of line)))

-- a line with another byte is wrong
pub line_char : (tool : Tool) (before : List Setting) (line : List ℕ) → list_all is_allowed line ≡ false → line_fault tool before line ≡ Some why.Char
line_char tool before line h = ap (λ b. fault_by tool before b (words_of line)) h

-- ---- bytes that may stand in a line are a text

allowed_small : (b : ℕ) → is_allowed b ≡ true → b < 128
allowed_small b h = grind (arith, nat_tests, h)

all_head : (q : ℕ → Bool) (y : ℕ) (xs : List ℕ) → list_all q (y ∷ xs) ≡ true → q y ≡ true
all_head q y xs k = grind (arith, k)

all_tail : (q : ℕ → Bool) (y : ℕ) (xs : List ℕ) → list_all q (y ∷ xs) ≡ true → list_all q xs ≡ true
all_tail q y xs k = grind (arith, k)

allowed_at : (bytes : List ℕ) (i : ℕ) → list_all is_allowed bytes ≡ true → slice_index bytes i < 128
allowed_at [] i h = omega arith
allowed_at (b ∷ bs) zero h = allowed_small b (all_head is_allowed b bs h)
allowed_at (b ∷ bs) (suc i) h = allowed_at bs i (all_tail is_allowed b bs h)

pub allowed_utf8 : (bytes : List ℕ) → list_all is_allowed bytes ≡ true → IsUtf8 bytes
allowed_utf8 bytes h = IsUtf8-from_ascii bytes (λ i. allowed_at bytes i h)
