-- What is wrong with the values of an option, and with what stands behind the options.
use Rattle.std.proofs.Common.{◌≡◌, ◌+◌, ◌-◌, ◌<◌, ◌≤◌, ℕ, zero, suc, ◌==◌, Bool, true, false, List, [], ◌∷◌, length, get_or, drop, Option, Some, None, IfSome, if◌then◌else◌, refl, sym, ap, ◌∙◌, subst, arith}
use Rattle.std.proofs.lemmas.List.{drop_all}
use Rattle.sim_opts.specs.declared.table.Slot.{Slot}
use Rattle.sim_opts.specs.declared.table.Tool.{Tool}
use Rattle.sim_opts.specs.declared.table.Tool.TheVariants.{SimSafe, Record, Asm, Dis}
use Rattle.sim_opts.specs.declared.values.ValueWhy.{ValueWhy}
use Rattle.sim_opts.specs.declared.words.WordWhy.TheVariants as why
use Rattle.sim_opts.specs.declared.words.Wrong.{Wrong}
use Rattle.sim_opts.specs.Word.{is_file, fits_start_block}
use Rattle.sim_opts.specs.Values.{value_fault}
use Rattle.sim_opts.specs.Settings.{Setting, is_given}
use Rattle.sim_opts.specs.Words.{wrong, further_on, reason_of, value_or, values_fault, names_fault, start_fault, run_fault, out_fault, fault_or, operands_fault}
use Rattle.sim_opts.proofs.Lists.{left_at, item_at}

pub further_twice : (p q : ℕ) (o : Option Wrong) → further_on p (further_on q o) ≡ further_on (p + q) o
further_twice p q None = refl
further_twice p q (Some w) = ap (λ n. Some (wrong n w.why)) (omega arith)

pub further_none : (o : Option Wrong) → further_on 0 o ≡ o
further_none None = refl
further_none (Some w) = ap (λ n. Some (wrong n w.why)) (omega arith)

-- ---- the values of an option

pub values_next : (slots : List Slot) (texts : List (List ℕ)) (p : ℕ) (d : Slot) (word : List ℕ) (r : Option Wrong) → p < length slots → p < length texts → word ≡ get_or texts p word → value_fault (get_or slots p d) word ≡ None
    → further_on p (values_fault (drop p slots) (drop p texts)) ≡ r → further_on (p + 1) (values_fault (drop (p + 1) slots) (drop (p + 1) texts)) ≡ r
values_next slots texts p d word r inside within e right h =
    let others = values_fault (drop (p + 1) slots) (drop (p + 1) texts) in
    let step : values_fault (drop p slots) (drop p texts) ≡ further_on 1 others =
    ap (λ s. values_fault s (drop p texts)) (left_at slots p d inside)
    ∙ ap (values_fault (get_or slots p d ∷ drop (p + 1) slots)) (item_at texts p word within e)
    ∙ ap (λ o. value_or o others) right in
    sym (further_twice p 1 others) ∙ sym (ap (further_on p) step) ∙ h

pub values_hit : (slots : List Slot) (texts : List (List ℕ)) (p : ℕ) (d : Slot) (word : List ℕ) (reason : ValueWhy) (r : Option Wrong) → p < length slots → p < length texts → word ≡ get_or texts p word → value_fault (get_or slots p d) word ≡ Some reason
    → further_on p (values_fault (drop p slots) (drop p texts)) ≡ r → Some (wrong p (reason_of reason)) ≡ r
values_hit slots texts p d word reason r inside within e bad h =
    let others = values_fault (drop (p + 1) slots) (drop (p + 1) texts) in
    let step : values_fault (drop p slots) (drop p texts) ≡ Some (wrong 0 (reason_of reason)) =
    ap (λ s. values_fault s (drop p texts)) (left_at slots p d inside)
    ∙ ap (values_fault (get_or slots p d ∷ drop (p + 1) slots)) (item_at texts p word within e)
    ∙ ap (λ o. value_or o others) bad in
    let here : p ≡ p + 0 = omega arith in
    ap (λ n. Some (wrong n (reason_of reason))) here ∙ sym (ap (further_on p) step) ∙ h

pub values_missing : (slots : List Slot) (texts : List (List ℕ)) (p : ℕ) (d : Slot) (r : Option Wrong) → p < length slots → length texts ≤ p
    → further_on p (values_fault (drop p slots) (drop p texts)) ≡ r → Some (wrong p why.Missing) ≡ r
values_missing slots texts p d r inside past h =
    let step : values_fault (drop p slots) (drop p texts) ≡ Some (wrong 0 why.Missing) =
    ap (λ s. values_fault s (drop p texts)) (left_at slots p d inside)
    ∙ ap (values_fault (get_or slots p d ∷ drop (p + 1) slots)) (drop_all p texts past) in
    let here : p ≡ p + 0 = omega arith in
    ap (λ n. Some (wrong n why.Missing)) here ∙ sym (ap (further_on p) step) ∙ h

pub values_end : (slots : List Slot) (texts : List (List ℕ)) (p : ℕ) (r : Option Wrong) → length slots ≤ p → further_on p (values_fault (drop p slots) (drop p texts)) ≡ r → None ≡ r
values_end slots texts p r past h = sym (ap (λ s. further_on p (values_fault s (drop p texts))) (drop_all p slots past)) ∙ h

-- where none is wrong there are enough words, and a wrong place is one of them or right behind
value_right : (o : Option ValueWhy) (others : Option Wrong) → value_or o others ≡ None → others ≡ None
value_right (Some reason) others h = cc
value_right None None h = refl
value_right None (Some w) h = cc

pub values_enough : (slots : List Slot) (texts : List (List ℕ)) → values_fault slots texts ≡ None → length slots ≤ length texts
values_enough [] texts h = omega arith
values_enough (slot ∷ slots) [] h = cc
values_enough (slot ∷ slots) (word ∷ texts) h = omega (arith, values_enough slots texts (value_right (value_fault slot word) (values_fault slots texts) h))

abbrev pub IsInside : ℕ → Option Wrong → Type 0
IsInside n o = IfSome o (λ w. w.at ≤ n)

further_inside : (n : ℕ) (o : Option Wrong) → IsInside n o → IsInside (n + 1) (further_on 1 o)
further_inside n None h = tt
further_inside n (Some w) h = omega arith

value_inside : (n : ℕ) (o : Option ValueWhy) (others : Option Wrong) → IsInside n others → IsInside (n + 1) (value_or o others)
value_inside n (Some reason) others h = omega arith
value_inside n None others h = further_inside n others h

grown : (m n : ℕ) (o : Option Wrong) → m ≡ n → IsInside m o → IsInside n o
grown m n o e h = subst (λ k. IsInside k o) e h

pub values_inside : (slots : List Slot) (texts : List (List ℕ)) → IsInside (length texts) (values_fault slots texts)
values_inside [] texts = tt
values_inside (slot ∷ slots) [] = omega arith
values_inside (slot ∷ slots) (word ∷ texts) =
    grown (length texts + 1) (length (word ∷ texts)) (values_fault (slot ∷ slots) (word ∷ texts)) (omega arith)
    (value_inside (length texts) (value_fault slot word) (values_fault slots texts) (values_inside slots texts))

-- ---- names

pub not_file : (word : List ℕ) (b : Bool) → b ≡ (length word == 0) → b ≡ true → is_file word ≡ false
not_file word b e k = grind (arith, e, k)

pub file : (word : List ℕ) (b : Bool) → b ≡ (length word == 0) → b ≡ false → is_file word ≡ true
file word b e k = grind (arith, e, k)

abbrev pub name_or : Bool → Option Wrong → Option Wrong
name_or b others = if b then further_on 1 others else Some (wrong 0 why.Form)

pub names_next : (n : ℕ) (texts : List (List ℕ)) (p : ℕ) (word : List ℕ) (r : Option Wrong) → p < n → p < length texts → word ≡ get_or texts p word → is_file word ≡ true
    → further_on p (names_fault (n - p) (drop p texts)) ≡ r → further_on (p + 1) (names_fault (n - (p + 1)) (drop (p + 1) texts)) ≡ r
names_next n texts p word r inside within e file h =
    let others = names_fault (n - (p + 1)) (drop (p + 1) texts) in
    let less : n - p ≡ suc (n - (p + 1)) = omega arith in
    let step : names_fault (n - p) (drop p texts) ≡ further_on 1 others =
    ap (λ k. names_fault k (drop p texts)) less
    ∙ ap (names_fault (suc (n - (p + 1)))) (item_at texts p word within e)
    ∙ ap (λ b. name_or b others) file in
    sym (further_twice p 1 others) ∙ sym (ap (further_on p) step) ∙ h

pub names_form : (n : ℕ) (texts : List (List ℕ)) (p : ℕ) (word : List ℕ) (r : Option Wrong) → p < n → p < length texts → word ≡ get_or texts p word → is_file word ≡ false
    → further_on p (names_fault (n - p) (drop p texts)) ≡ r → Some (wrong p why.Form) ≡ r
names_form n texts p word r inside within e file h =
    let others = names_fault (n - (p + 1)) (drop (p + 1) texts) in
    let less : n - p ≡ suc (n - (p + 1)) = omega arith in
    let step : names_fault (n - p) (drop p texts) ≡ Some (wrong 0 why.Form) =
    ap (λ k. names_fault k (drop p texts)) less
    ∙ ap (names_fault (suc (n - (p + 1)))) (item_at texts p word within e)
    ∙ ap (λ b. name_or b others) file in
    let here : p ≡ p + 0 = omega arith in
    ap (λ k. Some (wrong k why.Form)) here ∙ sym (ap (further_on p) step) ∙ h

pub names_missing : (n : ℕ) (texts : List (List ℕ)) (p : ℕ) (r : Option Wrong) → p < n → length texts ≤ p
    → further_on p (names_fault (n - p) (drop p texts)) ≡ r → Some (wrong p why.NoObject) ≡ r
names_missing n texts p r inside past h =
    let less : n - p ≡ suc (n - (p + 1)) = omega arith in
    let step : names_fault (n - p) (drop p texts) ≡ Some (wrong 0 why.NoObject) =
    ap (λ k. names_fault k (drop p texts)) less ∙ ap (names_fault (suc (n - (p + 1)))) (drop_all p texts past) in
    let here : p ≡ p + 0 = omega arith in
    ap (λ k. Some (wrong k why.NoObject)) here ∙ sym (ap (further_on p) step) ∙ h

pub names_end : (n : ℕ) (texts : List (List ℕ)) (p : ℕ) (r : Option Wrong) → n ≤ p → p ≤ n → length texts ≤ n → further_on p (names_fault (n - p) (drop p texts)) ≡ r → None ≡ r
names_end n texts p r past within few h =
    let none : n - p ≡ zero = omega arith in
    let all : length texts ≤ p = omega arith in
    sym (ap (λ k. further_on p (names_fault k (drop p texts))) none ∙ ap (λ t. further_on p (names_fault zero t)) (drop_all p texts all)) ∙ h

pub names_extra : (n : ℕ) (texts : List (List ℕ)) (p : ℕ) (r : Option Wrong) → n ≤ p → p ≤ n → n < length texts → further_on p (names_fault (n - p) (drop p texts)) ≡ r → Some (wrong n why.Extra) ≡ r
names_extra n texts p r past within many h =
    let none : n - p ≡ zero = omega arith in
    let more : p < length texts = omega arith in
    let here : n ≡ p + 0 = omega arith in
    ap (λ k. Some (wrong k why.Extra)) here
    ∙ sym (ap (λ k. further_on p (names_fault k (drop p texts))) none ∙ ap (λ t. further_on p (names_fault zero t)) (left_at texts p [] more)) ∙ h

name_inside : (n : ℕ) (b : Bool) (others : Option Wrong) → IsInside n others → IsInside (n + 1) (name_or b others)
name_inside n true others h = further_inside n others h
name_inside n false others h = omega arith

names_inside : (n : ℕ) (texts : List (List ℕ)) → IsInside (length texts) (names_fault n texts)
names_inside zero [] = tt
names_inside zero (word ∷ texts) = omega arith
names_inside (suc n) [] = omega arith
names_inside (suc n) (word ∷ texts) =
    grown (length texts + 1) (length (word ∷ texts)) (names_fault (suc n) (word ∷ texts)) (omega arith)
    (name_inside (length texts) (is_file word) (names_fault n texts) (names_inside n texts))

-- ---- all that stands behind the options

either_inside : (n : ℕ) (first second : Option Wrong) → IsInside n first → IsInside n second → IsInside n (fault_or first second)
either_inside n None second h k = k
either_inside n (Some w) second h k = h

long_inside : (n : ℕ) (b : Bool) → 1 ≤ n → IsInside n (if b then None else Some (wrong 0 why.TooLong))
long_inside n true h = tt
long_inside n false h = omega arith

object_inside : (n : ℕ) (b : Bool) (other : Option Wrong) → IsInside n other → IsInside n (if b then other else Some (wrong 0 why.Form))
object_inside n true other h = h
object_inside n false other h = omega arith

start_inside : (texts : List (List ℕ)) → IsInside (length texts) (start_fault texts)
start_inside [] = omega arith
start_inside (object ∷ args) =
    object_inside (length (object ∷ args)) (is_file object) (if fits_start_block (object ∷ args) then None else Some (wrong 0 why.TooLong))
    (long_inside (length (object ∷ args)) (fits_start_block (object ∷ args)) (omega arith))

out_inside : (texts : List (List ℕ)) (b : Bool) → IsInside (length texts) (if b then None else Some (wrong (length texts) why.Missing))
out_inside texts true = tt
out_inside texts false = omega arith

one_inside : (n : ℕ) (b : Bool) (first second : Option Wrong) → IsInside n first → IsInside n second → IsInside n (if b then first else second)
one_inside n true first second h k = h
one_inside n false first second h k = k

run_inside : (settings : List Setting) (texts : List (List ℕ)) → IsInside (length texts) (run_fault settings texts)
run_inside settings texts = one_inside (length texts) (is_given 2 settings) (names_fault 1 texts) (start_fault texts) (names_inside 1 texts) (start_inside texts)

pub operands_inside : (tool : Tool) (settings : List Setting) (texts : List (List ℕ)) → IsInside (length texts) (operands_fault tool settings texts)
operands_inside SimSafe settings texts = run_inside settings texts
operands_inside Record settings texts = either_inside (length texts) (start_fault texts) (out_fault settings texts) (start_inside texts) (out_inside texts (is_given 9 settings))
operands_inside Asm settings texts = names_inside 2 texts
operands_inside Dis settings texts = names_inside 1 texts
