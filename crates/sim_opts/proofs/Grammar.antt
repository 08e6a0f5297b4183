-- Words are read exactly by the grammar.
use Rattle.std.proofs.Common.{◌≡◌, ◌+◌, ◌≤◌, ℕ, zero, suc, Bool, true, false, List, [], ◌∷◌, ◌++◌, length, drop, Option, Some, None, Result, Ok, Err, ◌↔◌, if◌then◌else◌, refl, sym, ap, ap₂, ◌∙◌, subst, arith, append_assoc, append-nil, length-append, length-drop, inl, inr}
use Rattle.std.specs.Prelude.{◌⊎◌}
use Rattle.std.proofs.lemmas.List.{drop_at}
use Rattle.sim_opts.specs.declared.table.Tool.{Tool}
use Rattle.sim_opts.specs.declared.table.Tool.TheVariants.{SimSafe, Record, Asm, Dis}
use Rattle.sim_opts.specs.declared.words.Wrong.{Wrong}
use Rattle.std.specs.Str.{bytes_eq}
use Rattle.std.specs.Prelude.{codes}
use Rattle.std.proofs.lemmas.Slice.Eq.{bytes_eq-Decides}
use Rattle.sim_opts.specs.Word.{begins_with_dash}
use Rattle.sim_opts.specs.Table.{tool_name, tool_named}
use Rattle.sim_opts.specs.Settings.{Setting, written, AreSettings}
use Rattle.sim_opts.specs.Words.{further, judged, operands_fault, Walked, walked, walk, Asks, asks, ended_by, ended, read_by, read, begins_with_option, Ask, fault_of, rest_fault, IsWrongBehind, IsFirstWrong}
use Rattle.sim_opts.proofs.Walking.{row_dash, judged_setting, IsJudged, is_judged, walk_on, walk_wrong, walk_end}

-- the fault of a refusal, or this one
abbrev wrong_or : {A : Type 0} → Wrong → Result A Wrong → Wrong
wrong_or d (Ok x) = d
wrong_or d (Err u) = u

abbrev fault_if : Tool → List Setting → List ℕ → List (List ℕ) → Bool → Option Wrong
fault_if tool before word texts b = if b then fault_of (judged tool before word texts) else operands_fault tool before (word ∷ texts)

-- ---- the grammar's words are read

-- over options that may stand
written_walk : (tool : Tool) (settings before : List Setting) (place : ℕ) (rest : List (List ℕ)) → AreSettings tool before settings → walk tool before place 0 (written settings ++ rest) ≡ walk tool (before ++ settings) (place + length (written settings)) 0 rest
written_walk tool [] before place rest k =
    let here : place ≡ place + 0 = omega arith in
    ap₂ (λ (b : List Setting) (p : ℕ). walk tool b p 0 rest) (sym (append-nil before)) here
written_walk tool (s ∷ later) before place rest k =
    let behind : List (List ℕ) = written later ++ rest in
    let count : ℕ = length s.values in
    let few : count ≤ length (s.values ++ behind) = omega (arith, length-append s.values behind) in
    let here : place + (1 + count) + length (written later) ≡ place + length (written (s ∷ later)) = omega (arith, length-append s.values (written later)) in
    ap (λ w. walk tool before place 0 (s.option.name ∷ w)) (append_assoc s.values (written later) rest)
    ∙ walk_on tool before place s.option.name (s.values ++ behind) s (row_dash s.option.name s.option k.0.known) (judged_setting tool before s behind k.0) few
    ∙ ap (walk tool (before ++ s ∷ []) (place + (1 + count)) 0) (drop_at s.values behind count refl)
    ∙ written_walk tool later (before ++ s ∷ []) (place + (1 + count)) rest k.1
    ∙ ap₂ (λ (b : List Setting) (p : ℕ). walk tool b p 0 rest) (append_assoc before (s ∷ []) later) here

named_tool : (tool : Tool) → tool_named (tool_name tool) ≡ Some tool
unfolding tool_named
named_tool SimSafe = refl
named_tool Record = refl
named_tool Asm = refl
named_tool Dis = refl

read_written : (tool : Tool) (settings : List Setting) (rest : List (List ℕ)) → AreSettings tool [] settings → read (tool_name tool ∷ (written settings ++ rest)) ≡ ended tool (walk tool settings (1 + length (written settings)) 0 rest)
read_written tool settings rest k =
    ap (λ t. read_by t (written settings ++ rest)) (named_tool tool) ∙ ap (ended tool) (written_walk tool settings [] 1 rest k)

pub ask_read : (words : List (List ℕ)) (a : Asks) → Ask words a → read words ≡ Ok a
ask_read words a k =
    ap read k.order ∙ read_written a.tool a.settings a.operands k.options
    ∙ ap (ended a.tool) (walk_end a.tool a.settings (1 + length (written a.settings)) a.operands k.behind)
    ∙ ap (ended_by a.tool (walked a.settings (1 + length (written a.settings)) a.operands)) k.operands

-- the first wrong word is found
fault_judged : (r : Result Setting Wrong) (w : Wrong) → fault_of r ≡ Some w → r ≡ Err w
fault_judged (Ok s) w h = cc
fault_judged (Err v) w h = ap (err_or v) h
  where
    err_or : Wrong → Option Wrong → Result Setting Wrong
    err_or d None = Err d
    err_or d (Some u) = Err u

word_wrong : (tool : Tool) (settings : List Setting) (place : ℕ) (word : List ℕ) (texts : List (List ℕ)) (fault : Wrong) (b : Bool) → begins_with_dash word ≡ b → rest_fault tool settings (word ∷ texts) ≡ Some fault → ended tool (walk tool settings place 0 (word ∷ texts)) ≡ Err (further place fault)
word_wrong tool settings place word texts fault true e h =
    let judge : fault_of (judged tool settings word texts) ≡ Some fault = grind (arith, e, h) in
    ap (ended tool) (walk_wrong tool settings place word texts fault e (fault_judged (judged tool settings word texts) fault judge))
word_wrong tool settings place word texts fault false e h =
    let judge : operands_fault tool settings (word ∷ texts) ≡ Some fault = grind (arith, e, h) in
    ap (ended tool) (walk_end tool settings place (word ∷ texts) e) ∙ ap (ended_by tool (walked settings place (word ∷ texts))) judge

rest_wrong : (tool : Tool) (settings : List Setting) (place : ℕ) (rest : List (List ℕ)) (fault : Wrong) → rest_fault tool settings rest ≡ Some fault → ended tool (walk tool settings place 0 rest) ≡ Err (further place fault)
rest_wrong tool settings place [] fault h = ap (ended_by tool (walked settings place [])) h
rest_wrong tool settings place (word ∷ texts) fault h = word_wrong tool settings place word texts fault (begins_with_dash word) refl h

behind_wrong : (words : List (List ℕ)) (w : Wrong) → IsWrongBehind words w → read words ≡ Err w
behind_wrong words w k =
    ap read k.order ∙ read_written k.tool k.settings k.rest k.options
    ∙ rest_wrong k.tool k.settings (1 + length (written k.settings)) k.rest k.fault k.is_wrong ∙ ap Err (sym k.place)

pub wrong_read : (words : List (List ℕ)) (w : Wrong) → IsFirstWrong words w → read words ≡ Err w
wrong_read [] w h = ap Err (sym h)
wrong_read (command ∷ words) w (inl h) = ap (λ t. read_by t words) h.0 ∙ ap Err (sym h.1)
wrong_read (command ∷ words) w (inr h) = behind_wrong (command ∷ words) w h

-- ---- and what is read is by the grammar

-- options that may stand, up to a word that is none
pub record Reaches (tool : Tool) (before : List Setting) (place : ℕ) (texts : List (List ℕ)) (k : Walked) : Type 0 where
  pub later : List Setting
  pub options : AreSettings tool before later
  pub settings : k.settings ≡ before ++ later
  pub order : texts ≡ written later ++ k.behind
  pub there : k.place ≡ place + length (written later)
  pub ends : begins_with_option k.behind ≡ false

-- or up to an option that is wrong
pub record Meets (tool : Tool) (before : List Setting) (place : ℕ) (texts : List (List ℕ)) (w : Wrong) : Type 0 where
  pub later : List Setting
  pub options : AreSettings tool before later
  pub rest : List (List ℕ)
  pub fault : Wrong
  pub order : texts ≡ written later ++ rest
  pub is_wrong : rest_fault tool (before ++ later) rest ≡ Some fault
  pub there : w ≡ further (place + length (written later)) fault

abbrev Tells : Tool → List Setting → ℕ → List (List ℕ) → Result Walked Wrong → Type 0
Tells tool before place texts (Ok k) = Reaches tool before place texts k
Tells tool before place texts (Err w) = Meets tool before place texts w

tells_more : (tool : Tool) (before : List Setting) (place : ℕ) (word : List ℕ) (texts : List (List ℕ)) (s : Setting) (r : Result Walked Wrong) → IsJudged tool before word texts s
    → Tells tool (before ++ s ∷ []) (place + (1 + length s.values)) (drop (length s.values) texts) r → Tells tool before place (word ∷ texts) r
tells_more tool before place word texts s (Ok k) j t =
    record {
      later = s ∷ t.later;
      options = (j.is, t.options);
      settings = t.settings ∙ append_assoc before (s ∷ []) t.later;
      order = ap₂ ◌∷◌ j.named (j.values ∙ ap (λ d. s.values ++ d) t.order ∙ sym (append_assoc s.values (written t.later) k.behind));
      there = t.there ∙ omega (arith, length-append s.values (written t.later));
      ends = t.ends;
    }
tells_more tool before place word texts s (Err w) j t =
    let here : place + (1 + length s.values) + length (written t.later) ≡ place + length (written (s ∷ t.later)) = omega (arith, length-append s.values (written t.later)) in
    record {
      later = s ∷ t.later;
      options = (j.is, t.options);
      rest = t.rest;
      fault = t.fault;
      order = ap₂ ◌∷◌ j.named (j.values ∙ ap (λ d. s.values ++ d) t.order ∙ sym (append_assoc s.values (written t.later) t.rest));
      is_wrong = ap (λ b. rest_fault tool b t.rest) (sym (append_assoc before (s ∷ []) t.later)) ∙ t.is_wrong;
      there = t.there ∙ ap (λ n. further n t.fault) here;
    }

tells_end : (tool : Tool) (before : List Setting) (place : ℕ) (texts : List (List ℕ)) → begins_with_option texts ≡ false → Tells tool before place texts (walk tool before place 0 texts)
tells_end tool before place texts h =
    let here : Reaches tool before place texts (walked before place texts) = record {
      later = [];
      options = tt;
      settings = sym (append-nil before);
      order = refl;
      there = omega arith;
      ends = h;
    } in
    subst (Tells tool before place texts) (sym (walk_end tool before place texts h)) here

tells_wrong : (tool : Tool) (before : List Setting) (place : ℕ) (word : List ℕ) (texts : List (List ℕ)) (w : Wrong) → begins_with_dash word ≡ true → judged tool before word texts ≡ Err w → Tells tool before place (word ∷ texts) (walk tool before place 0 (word ∷ texts))
tells_wrong tool before place word texts w e j =
    let here : place ≡ place + 0 = omega arith in
    let judge : rest_fault tool before (word ∷ texts) ≡ Some w = by_dash (begins_with_dash word) e ∙ ap fault_of j in
    let met : Meets tool before place (word ∷ texts) (further place w) = record {
      later = [];
      options = tt;
      rest = word ∷ texts;
      fault = w;
      order = refl;
      is_wrong = ap (λ b. rest_fault tool b (word ∷ texts)) (append-nil before) ∙ judge;
      there = ap (λ n. further n w) here;
    } in
    subst (Tells tool before place (word ∷ texts)) (sym (walk_wrong tool before place word texts w e j)) met
  where
    by_dash : (b : Bool) → b ≡ true → fault_if tool before word texts b ≡ fault_of (judged tool before word texts)
    by_dash true e = refl
    by_dash false e = cc

tells_option : (tool : Tool) (before : List Setting) (place : ℕ) (word : List ℕ) (texts : List (List ℕ)) (r : Result Setting Wrong) → begins_with_dash word ≡ true → judged tool before word texts ≡ r
    → ((s : Setting) → Tells tool (before ++ s ∷ []) (place + (1 + length s.values)) (drop (length s.values) texts) (walk tool (before ++ s ∷ []) (place + (1 + length s.values)) 0 (drop (length s.values) texts)))
    → Tells tool before place (word ∷ texts) (walk tool before place 0 (word ∷ texts))
tells_option tool before place word texts (Err w) e j rest = tells_wrong tool before place word texts w e j
tells_option tool before place word texts (Ok s) e j rest =
    let judge = is_judged tool before word texts s j in
    subst (Tells tool before place (word ∷ texts)) (sym (walk_on tool before place word texts s e j judge.few))
    (tells_more tool before place word texts s (walk tool (before ++ s ∷ []) (place + (1 + length s.values)) 0 (drop (length s.values) texts)) judge (rest s))

tells_word : (tool : Tool) (before : List Setting) (place : ℕ) (word : List ℕ) (texts : List (List ℕ)) (b : Bool) → begins_with_dash word ≡ b
    → ((s : Setting) → Tells tool (before ++ s ∷ []) (place + (1 + length s.values)) (drop (length s.values) texts) (walk tool (before ++ s ∷ []) (place + (1 + length s.values)) 0 (drop (length s.values) texts)))
    → Tells tool before place (word ∷ texts) (walk tool before place 0 (word ∷ texts))
tells_word tool before place word texts true e rest = tells_option tool before place word texts (judged tool before word texts) e refl rest
tells_word tool before place word texts false e rest = tells_end tool before place (word ∷ texts) e

walk_tells : (n : ℕ) (tool : Tool) (before : List Setting) (place : ℕ) (texts : List (List ℕ)) → length texts ≤ n → Tells tool before place texts (walk tool before place 0 texts)
walk_tells n tool before place [] h = tells_end tool before place [] refl
walk_tells zero tool before place (word ∷ texts) h = absurd (omega arith)
walk_tells (suc n) tool before place (word ∷ texts) h =
    tells_word tool before place word texts (begins_with_dash word) refl
    (λ s. walk_tells n tool (before ++ s ∷ []) (place + (1 + length s.values)) (drop (length s.values) texts) (omega (arith, length-drop (length s.values) texts)))

-- the command's name is the first word
abbrev tool_if : Bool → Tool → Option Tool → Option Tool
tool_if b tool other = if b then Some tool else other

name_if : (word name : List ℕ) (tool found : Tool) (other : Option Tool) (b : Bool) → bytes_eq word name ≡ b → tool_name tool ≡ name → tool_if b tool other ≡ Some found → (other ≡ Some found → word ≡ tool_name found) → word ≡ tool_name found
name_if word name tool found other true e n h rest = (bytes_eq-Decides word name).0 e ∙ sym n ∙ ap tool_name (same h)
  where
    same : Some tool ≡ Some found → tool ≡ found
    same k = ap (tool_or tool) k
      where
        tool_or : Tool → Option Tool → Tool
        tool_or d None = d
        tool_or d (Some t) = t
name_if word name tool found other false e n h rest = rest h

named_name : (word : List ℕ) (tool : Tool) → tool_named word ≡ Some tool → word ≡ tool_name tool
unfolding tool_named
named_name word tool h =
    name_if word (codes "sim-safe") SimSafe tool _ (bytes_eq word (codes "sim-safe")) refl refl h (λ h2.
    name_if word (codes "record") Record tool _ (bytes_eq word (codes "record")) refl refl h2 (λ h3.
    name_if word (codes "asm") Asm tool _ (bytes_eq word (codes "asm")) refl refl h3 (λ h4.
    name_if word (codes "dis") Dis tool None (bytes_eq word (codes "dis")) refl refl h4 (λ h5. cc))))

ended_ok : (tool : Tool) (k : Walked) (o : Option Wrong) (a : Asks) → ended_by tool k o ≡ Ok a → (o ≡ None) × (a ≡ asks tool k.settings k.behind)
ended_ok tool k None a h = (refl, ap (asks_or a) (sym h))
  where
    asks_or : Asks → Result Asks Wrong → Asks
    asks_or d (Ok x) = x
    asks_or d (Err w) = d
ended_ok tool k (Some w) a h = cc

ended_err : (tool : Tool) (k : Walked) (o : Option Wrong) (w : Wrong) → ended_by tool k o ≡ Err w → (f : Wrong) × (o ≡ Some f) × (w ≡ further k.place f)
ended_err tool k None w h = cc
ended_err tool k (Some f) w h = (f, refl, ap (wrong_or w) (sym h))

asks_told : (tool : Tool) (texts : List (List ℕ)) (r : Result Walked Wrong) (a : Asks) → Tells tool [] 1 texts r → ended tool r ≡ Ok a → Ask (tool_name tool ∷ texts) a
asks_told tool texts (Err w) a t h = cc
asks_told tool texts (Ok k) a t h =
    let e = ended_ok tool k (operands_fault tool k.settings k.behind) a h in
    let told : Ask (tool_name tool ∷ texts) (asks tool k.settings k.behind) = record {
      order = ap (λ w. tool_name tool ∷ w) (t.order ∙ ap (λ s. written s ++ k.behind) (sym t.settings));
      options = subst (AreSettings tool []) (sym t.settings) t.options;
      behind = t.ends;
      operands = e.0;
    } in
    subst (Ask (tool_name tool ∷ texts)) (sym e.1) told

rest_operands : (tool : Tool) (settings : List Setting) (rest : List (List ℕ)) → begins_with_option rest ≡ false → rest_fault tool settings rest ≡ operands_fault tool settings rest
rest_operands tool settings [] h = refl
rest_operands tool settings (word ∷ texts) h = by_none (begins_with_dash word) h
  where
    by_none : (b : Bool) → b ≡ false → fault_if tool settings word texts b ≡ operands_fault tool settings (word ∷ texts)
    by_none true e = cc
    by_none false e = refl

wrong_told : (tool : Tool) (texts : List (List ℕ)) (r : Result Walked Wrong) (w : Wrong) → Tells tool [] 1 texts r → ended tool r ≡ Err w → IsWrongBehind (tool_name tool ∷ texts) w
wrong_told tool texts (Err v) w t h =
    record {
      tool = tool;
      settings = t.later;
      rest = t.rest;
      fault = t.fault;
      order = ap (λ x. tool_name tool ∷ x) t.order;
      options = t.options;
      is_wrong = t.is_wrong;
      place = ap (wrong_or w) (sym h) ∙ t.there;
    }
wrong_told tool texts (Ok k) w t h =
    let e = ended_err tool k (operands_fault tool k.settings k.behind) w h in
    record {
      tool = tool;
      settings = t.later;
      rest = k.behind;
      fault = e.0;
      order = ap (λ x. tool_name tool ∷ x) t.order;
      options = t.options;
      is_wrong = rest_operands tool t.later k.behind t.ends ∙ ap (λ s. operands_fault tool s k.behind) (sym t.settings) ∙ e.1;
      place = e.2 ∙ ap (λ n. further n e.0) t.there;
    }

read_ask_by : (command : List ℕ) (words : List (List ℕ)) (a : Asks) (t : Option Tool) → tool_named command ≡ t → read_by t words ≡ Ok a → Ask (command ∷ words) a
read_ask_by command words a None e h = cc
read_ask_by command words a (Some tool) e h =
    subst (λ c. Ask (c ∷ words) a) (sym (named_name command tool e))
    (asks_told tool words (walk tool [] 1 0 words) a (walk_tells (length words) tool [] 1 words (omega arith)) h)

pub read_ask : (words : List (List ℕ)) (a : Asks) → read words ≡ Ok a → Ask words a
read_ask [] a h = cc
read_ask (command ∷ words) a h = read_ask_by command words a (tool_named command) refl h

read_wrong_by : (command : List ℕ) (words : List (List ℕ)) (w : Wrong) (t : Option Tool) → tool_named command ≡ t → read_by t words ≡ Err w → IsFirstWrong (command ∷ words) w
read_wrong_by command words w None e h = inl (e, ap (wrong_or w) (sym h))
read_wrong_by command words w (Some tool) e h =
    inr (subst (λ c. IsWrongBehind (c ∷ words) w) (sym (named_name command tool e))
    (wrong_told tool words (walk tool [] 1 0 words) w (walk_tells (length words) tool [] 1 words (omega arith)) h))

pub read_wrong : (words : List (List ℕ)) (w : Wrong) → read words ≡ Err w → IsFirstWrong words w
read_wrong [] w h = ap (wrong_or w) (sym h)
read_wrong (command ∷ words) w h = read_wrong_by command words w (tool_named command) refl h

-- ---- both directions

pub ask_iff_read : (words : List (List ℕ)) (a : Asks) → Ask words a ↔ (read words ≡ Ok a)
ask_iff_read words a = (ask_read words a, read_ask words a)

pub wrong_iff_read : (words : List (List ℕ)) (w : Wrong) → IsFirstWrong words w ↔ (read words ≡ Err w)
wrong_iff_read words w = (wrong_read words w, read_wrong words w)

pub asks_once : (words : List (List ℕ)) (a b : Asks) → Ask words a → Ask words b → a ≡ b
asks_once words a b k l = ap (asks_or b) (sym (ask_read words a k) ∙ ask_read words b l)
  where
    asks_or : Asks → Result Asks Wrong → Asks
    asks_or d (Ok x) = x
    asks_or d (Err w) = d

one_or_other : (words : List (List ℕ)) (r : Result Asks Wrong) → read words ≡ r → ((a : Asks) × Ask words a) ⊎ ((w : Wrong) × IsFirstWrong words w)
one_or_other words (Ok a) e = inl (a, read_ask words a e)
one_or_other words (Err w) e = inr (w, read_wrong words w e)

pub asks_or_is_wrong : (words : List (List ℕ)) → ((a : Asks) × Ask words a) ⊎ ((w : Wrong) × IsFirstWrong words w)
asks_or_is_wrong words = one_or_other words (read words) refl

not_both : (r : Result Asks Wrong) (a : Asks) (w : Wrong) → r ≡ Ok a → r ≡ Err w → ⊥
not_both (Ok b) a w k l = cc
not_both (Err v) a w k l = cc

pub never_both : (words : List (List ℕ)) (a : Asks) (w : Wrong) → Ask words a → IsFirstWrong words w → ⊥
never_both words a w k l = not_both (read words) a w (ask_read words a k) (wrong_read words w l)
