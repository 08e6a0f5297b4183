-- Walking over the options of words, and the grammar.
use Rattle.std.proofs.Common.{◌≡◌, ◌+◌, ◌<◌, ◌≤◌, ℕ, zero, suc, nat_eq, nat_le, Bool, true, false, List, [], ◌∷◌, ◌++◌, length, take, drop, map, Option, Some, None, Result, Ok, Err, if◌then◌else◌, refl, sym, ap, ◌∙◌, subst, arith}
use Rattle.std.specs.Prelude.{String, string_bytes}
use Rattle.std.specs.Str.{bytes_eq}
use Rattle.std.proofs.lemmas.List.{take_at, drop-map, map-append, length-map, take-append-drop}
use Rattle.std.proofs.lemmas.Slice.Eq.{bytes_eq-Decides}
use Rattle.std.proofs.Common.{Global}
use Rattle.sim_opts.specs.declared.table.Slot.{Slot}
use Rattle.sim_opts.specs.declared.table.Tool.{Tool}
use Rattle.sim_opts.specs.declared.values.ValueWhy.{ValueWhy}
use Rattle.sim_opts.specs.declared.words.WordWhy.{WordWhy}
use Rattle.sim_opts.specs.declared.words.WordWhy.TheVariants as why
use Rattle.sim_opts.specs.declared.words.Wrong.{Wrong}
use Rattle.sim_opts.specs.declared.words.Setting.{Setting as KeptSetting}
use Rattle.sim_opts.specs.Word.{begins_with_dash}
use Rattle.sim_opts.specs.Table.{Row, table, row_named, most_of}
use Rattle.sim_opts.specs.Values.{value_fault}
use Rattle.sim_opts.specs.Settings.{Setting, count, AreValues, IsSetting}
use Rattle.sim_opts.specs.Words.{further, further_on, value_or, values_fault, row_fault, set_to, judged_by, judged_row, judged, Walked, walked, stepped, walk, begins_with_option}
use Rattle.sim_opts.specs.Kept.{setting_in, judged_in, placed}
use Rattle.sim_opts.proofs.Lists.{find_holds, find_all}
use Rattle.sim_opts.proofs.Judged.{values_enough}

abbrev pub setting : Row → List (List ℕ) → Setting
setting row words = record { option = row; values = words }

-- ---- one option

pub judged_right : (tool : Tool) (before : List Setting) (word : List ℕ) (texts : List (List ℕ)) (row : Row) → row_named word ≡ Some row → row_fault tool before row ≡ None → values_fault row.slots texts ≡ None
    → judged tool before word texts ≡ Ok (setting row (take (length row.slots) texts))
judged_right tool before word texts row known may right =
    ap (judged_row tool before texts) known ∙ ap (judged_by row texts) may ∙ ap (set_to row texts) right

-- an option's name begins with '-', and names it
pub row_dash : (word : List ℕ) (row : Row) → row_named word ≡ Some row → begins_with_dash row.name ≡ true
unfolding row_named
row_dash word row e = find_all (λ (r : Row). bytes_eq r.name word) (λ (r : Row). begins_with_dash r.name) table row e refl

pub row_name : (word : List ℕ) (row : Row) → row_named word ≡ Some row → row.name ≡ word
unfolding row_named
row_name word row e = (bytes_eq-Decides row.name word).0 (find_holds (λ (r : Row). bytes_eq r.name word) table row e)

-- values that are right
value_clean : (o : Option ValueWhy) (others : Option Wrong) → value_or o others ≡ None → (o ≡ None) × (others ≡ None)
value_clean (Some reason) others h = cc
value_clean None None h = (refl, refl)
value_clean None (Some w) h = cc

pub are_values : (slots : List Slot) (texts : List (List ℕ)) → values_fault slots texts ≡ None → AreValues slots (take (length slots) texts)
are_values [] texts h = tt
are_values (slot ∷ slots) [] h = cc
are_values (slot ∷ slots) (word ∷ texts) h =
    let k = value_clean (value_fault slot word) (values_fault slots texts) h in
    (k.0, are_values slots texts k.1)

pub values_length : (slots : List Slot) (values : List (List ℕ)) → AreValues slots values → length values ≡ length slots
values_length [] [] k = refl
values_length [] (word ∷ words) k = absurd k
values_length (slot ∷ slots) [] k = absurd k
values_length (slot ∷ slots) (word ∷ words) k = ap suc (values_length slots words k.1)

pub values_right : (slots : List Slot) (values rest : List (List ℕ)) → AreValues slots values → values_fault slots (values ++ rest) ≡ None
values_right [] [] rest k = refl
values_right [] (word ∷ words) rest k = absurd k
values_right (slot ∷ slots) [] rest k = absurd k
values_right (slot ∷ slots) (word ∷ words) rest k =
    ap (λ o. value_or o (values_fault slots (words ++ rest))) k.0 ∙ ap (further_on 1) (values_right slots words rest k.1)

abbrev often_fault : ℕ → ℕ → Option WordWhy
often_fault most times = if nat_eq most 0 then Some why.NotHere else (if nat_le most times then Some why.Twice else None)

may_stand : (most times : ℕ) → times < most → often_fault most times ≡ None
may_stand most times h = grind arith

stands : (most times : ℕ) → often_fault most times ≡ None → times < most
stands most times h = grind arith

-- an option that may stand is judged to be right
pub judged_setting : (tool : Tool) (before : List Setting) (s : Setting) (rest : List (List ℕ)) → IsSetting tool before s → judged tool before s.option.name (s.values ++ rest) ≡ Ok s
judged_setting tool before s rest k =
    judged_right tool before s.option.name (s.values ++ rest) s.option k.known (may_stand (most_of tool s.option) (count s.option.number before) k.often) (values_right s.option.slots s.values rest k.values)
    ∙ ap (λ v. Ok (setting s.option v)) (take_at s.values rest (length s.option.slots) (values_length s.option.slots s.values k.values))

-- and one that is judged to be right may stand
pub record IsJudged (tool : Tool) (before : List Setting) (word : List ℕ) (texts : List (List ℕ)) (s : Setting) : Type 0 where
  pub is : IsSetting tool before s
  pub named : word ≡ s.option.name
  pub values : texts ≡ s.values ++ drop (length s.values) texts
  pub few : length s.values ≤ length texts

setting_judged : (tool : Tool) (before : List Setting) (word : List ℕ) (texts : List (List ℕ)) (row : Row) → row_named word ≡ Some row → row_fault tool before row ≡ None → values_fault row.slots texts ≡ None
    → IsJudged tool before word texts (setting row (take (length row.slots) texts))
setting_judged tool before word texts row known may right =
    let name = row_name word row known in
    let values = are_values row.slots texts right in
    let long : length (take (length row.slots) texts) ≡ length row.slots = values_length row.slots (take (length row.slots) texts) values in
    record {
      is = record {
        known = ap row_named name ∙ known;
        often = stands (most_of tool row) (count row.number before) may;
        values = values;
      };
      named = sym name;
      values = sym (ap (λ n. take (length row.slots) texts ++ drop n texts) long ∙ take-append-drop (length row.slots) texts);
      few = subst (λ n. n ≤ length texts) (sym long) (values_enough row.slots texts right);
    }

ok_same : (r : Result Setting Wrong) (d s : Setting) → r ≡ Ok s → Ok d ≡ r → d ≡ s
ok_same (Ok t) d s h k = ap (unwrap_ok d) (k ∙ h)
  where
    unwrap_ok : Setting → Result Setting Wrong → Setting
    unwrap_ok x (Ok y) = y
    unwrap_ok x (Err w) = x
ok_same (Err w) d s h k = cc

judged_values : (tool : Tool) (before : List Setting) (word : List ℕ) (texts : List (List ℕ)) (row : Row) (s : Setting) (o : Option Wrong) → row_named word ≡ Some row → row_fault tool before row ≡ None → values_fault row.slots texts ≡ o → set_to row texts o ≡ Ok s → IsJudged tool before word texts s
judged_values tool before word texts row s (Some w) known may e h = cc
judged_values tool before word texts row s None known may e h =
    subst (IsJudged tool before word texts) (ok_same (set_to row texts None) (setting row (take (length row.slots) texts)) s h refl) (setting_judged tool before word texts row known may e)

judged_may : (tool : Tool) (before : List Setting) (word : List ℕ) (texts : List (List ℕ)) (row : Row) (s : Setting) (o : Option WordWhy) → row_named word ≡ Some row → row_fault tool before row ≡ o → judged_by row texts o ≡ Ok s → IsJudged tool before word texts s
judged_may tool before word texts row s (Some reason) known e h = cc
judged_may tool before word texts row s None known e h = judged_values tool before word texts row s (values_fault row.slots texts) known e refl h

judged_known : (tool : Tool) (before : List Setting) (word : List ℕ) (texts : List (List ℕ)) (s : Setting) (o : Option Row) → row_named word ≡ o → judged_row tool before texts o ≡ Ok s → IsJudged tool before word texts s
judged_known tool before word texts s None e h = cc
judged_known tool before word texts s (Some row) e h = judged_may tool before word texts row s (row_fault tool before row) e refl h

pub is_judged : (tool : Tool) (before : List Setting) (word : List ℕ) (texts : List (List ℕ)) (s : Setting) → judged tool before word texts ≡ Ok s → IsJudged tool before word texts s
is_judged tool before word texts s h = judged_known tool before word texts s (row_named word) refl h

-- ---- walking

-- values are passed over
pub passed : (tool : Tool) (before : List Setting) (place n : ℕ) (texts : List (List ℕ)) → n ≤ length texts → walk tool before place n texts ≡ walk tool before (place + n) 0 (drop n texts)
passed tool before place zero [] h =
    let here : place ≡ place + 0 = omega arith in
    ap (λ p. walk tool before p 0 []) here
passed tool before place zero (word ∷ texts) h =
    let here : place ≡ place + 0 = omega arith in
    ap (λ p. walk tool before p 0 (word ∷ texts)) here
passed tool before place (suc n) [] h = absurd (omega arith)
passed tool before place (suc n) (word ∷ texts) h =
    let here : place + 1 + n ≡ place + suc n = omega arith in
    passed tool before (place + 1) n texts (omega arith) ∙ ap (λ p. walk tool before p 0 (drop n texts)) here

abbrev walk_if : Tool → List Setting → ℕ → List ℕ → List (List ℕ) → Bool → Result Setting Wrong → Result Walked Wrong
walk_if tool before place word texts b j =
    if b then stepped place j (λ s. walk tool (before ++ s ∷ []) (place + 1) (length s.values) texts) else Ok (walked before place (word ∷ texts))

walk_dash : (tool : Tool) (before : List Setting) (place : ℕ) (word : List ℕ) (texts : List (List ℕ)) (b : Bool) → begins_with_dash word ≡ b → walk tool before place 0 (word ∷ texts) ≡ walk_if tool before place word texts b (judged tool before word texts)
walk_dash tool before place word texts b e = ap (λ d. walk_if tool before place word texts d (judged tool before word texts)) e

-- over an option that is right
pub walk_on : (tool : Tool) (before : List Setting) (place : ℕ) (word : List ℕ) (texts : List (List ℕ)) (s : Setting) → begins_with_dash word ≡ true → judged tool before word texts ≡ Ok s → length s.values ≤ length texts
    → walk tool before place 0 (word ∷ texts) ≡ walk tool (before ++ s ∷ []) (place + (1 + length s.values)) 0 (drop (length s.values) texts)
walk_on tool before place word texts s d j few =
    let here : place + 1 + length s.values ≡ place + (1 + length s.values) = omega arith in
    walk_dash tool before place word texts true d ∙ ap (walk_if tool before place word texts true) j
    ∙ passed tool (before ++ s ∷ []) (place + 1) (length s.values) texts few
    ∙ ap (λ p. walk tool (before ++ s ∷ []) p 0 (drop (length s.values) texts)) here

-- up to one that is wrong
pub walk_wrong : (tool : Tool) (before : List Setting) (place : ℕ) (word : List ℕ) (texts : List (List ℕ)) (w : Wrong) → begins_with_dash word ≡ true → judged tool before word texts ≡ Err w → walk tool before place 0 (word ∷ texts) ≡ Err (further place w)
walk_wrong tool before place word texts w d j = walk_dash tool before place word texts true d ∙ ap (walk_if tool before place word texts true) j

-- up to the first word that is no option
pub walk_end : (tool : Tool) (before : List Setting) (place : ℕ) (texts : List (List ℕ)) → begins_with_option texts ≡ false → walk tool before place 0 texts ≡ Ok (walked before place texts)
walk_end tool before place [] h = refl
walk_end tool before place (word ∷ texts) h = walk_dash tool before place word texts false h

placed_ok : (place : ℕ) (r : Result Setting Wrong) (s : Setting) → placed place r ≡ Ok s → r ≡ Ok s
placed_ok place (Ok t) s h = h
placed_ok place (Err w) s h = cc

-- the same of what is kept
pub options_next : (tool : Tool) (old new : List KeptSetting) (s : KeptSetting) (place : ℕ) (rest behind after : List (String Global)) (item : String Global) (text : List ℕ) (j : Result KeptSetting Wrong) (r : Result Walked Wrong)
    → rest ≡ item ∷ behind → text ≡ string_bytes item → begins_with_dash text ≡ true
    → judged_in j ≡ placed place (judged tool (map setting_in old) text (map string_bytes behind)) → j ≡ Ok s → length s.values.now ≤ length behind
    → after ≡ drop (length s.values.now) behind → new ≡ old ++ s ∷ []
    → walk tool (map setting_in old) place 0 (map string_bytes rest) ≡ r → walk tool (map setting_in new) (place + (1 + length s.values.now)) 0 (map string_bytes after) ≡ r
options_next tool old new s place rest behind after item text j r first is dash judges ok few left pushed so_far =
    let before : List Setting = map setting_in old in
    let texts : List (List ℕ) = map string_bytes behind in
    let kept : Setting = setting_in s in
    let long : length kept.values ≡ length s.values.now = length-map s.values.now string_bytes in
    let right : judged tool before text texts ≡ Ok kept = placed_ok place (judged tool before text texts) kept (sym judges ∙ ap judged_in ok) in
    let within : length kept.values ≤ length texts = omega (arith, long, length-map behind string_bytes, few) in
    let words : map string_bytes rest ≡ text ∷ texts = ap (map string_bytes) first ∙ ap (λ t. t ∷ texts) (sym is) in
    ap (λ b. walk tool b (place + (1 + length s.values.now)) 0 (map string_bytes after)) (ap (map setting_in) pushed ∙ map-append setting_in old (s ∷ []))
    ∙ ap (λ a. walk tool (before ++ kept ∷ []) (place + (1 + length s.values.now)) 0 a) (ap (map string_bytes) left ∙ sym (drop-map string_bytes (length s.values.now) behind))
    ∙ ap (λ n. walk tool (before ++ kept ∷ []) (place + (1 + n)) 0 (drop n texts)) (sym long)
    ∙ sym (walk_on tool before place text texts kept dash right within)
    ∙ ap (walk tool before place 0) (sym words) ∙ so_far
