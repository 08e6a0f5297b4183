-- The order of options says nothing: each field goes by the settings of one option.
use Rattle.std.proofs.Common.{arith, ◌≡◌, ℕ, nat_eq, nat_le, Bool, true, false, List, [], ◌∷◌, ◌++◌, length, map, filter, Option, Some, None, Ok, if◌then◌else◌, refl, sym, ap, ◌∙◌}
use Rattle.std.proofs.Math.Path.{fun_ext}
use Rattle.sim_opts.specs.declared.table.Tool.{Tool}
use Rattle.sim_opts.specs.declared.table.Tool.TheVariants.{SimSafe, Record, Asm, Dis}
use Rattle.sim_opts.specs.Table.{table, tool_name}
use Rattle.sim_opts.specs.Settings.{Setting, of_option, count, written, AreSettings}
use Rattle.sim_opts.specs.Words.{asks, begins_with_option, operands_fault, read}
use Rattle.sim_opts.specs.Options.{Said, set_by, first_value, last_number, with_setting, with_settings, nothing_said, said_behind, said_by}
use Rattle.sim_opts.proofs.Grammar.{ask_read}

-- a field after settings that each may change it
abbrev fold_by : {A : Type 0} → (Setting → A → A) → A → List Setting → A
fold_by step x [] = x
fold_by step x (s ∷ later) = fold_by step (step s x) later

-- what one option makes of a field
abbrev step_of : {A : Type 0} → ℕ → (Setting → A → A) → Setting → A → A
step_of n new s old = set_by n s.option.number (new s old) old

fold_test : {A : Type 0} (n : ℕ) (new : Setting → A → A) (x : A) (s : Setting) (later : List Setting) (b : Bool) → nat_eq s.option.number n ≡ b
    → ((y : A) → fold_by (step_of n new) y later ≡ fold_by (step_of n new) y (of_option n later))
    → fold_by (step_of n new) x (s ∷ later) ≡ fold_by (step_of n new) x (of_option n (s ∷ later))
fold_test n new x s later true e rest =
    rest (step_of n new s x) ∙ sym (ap (λ (t : Bool). fold_by (step_of n new) x (if t then s ∷ of_option n later else of_option n later)) e)
fold_test n new x s later false e rest =
    ap (λ (t : Bool). fold_by (step_of n new) (if t then new s x else x) later) e ∙ rest x
    ∙ sym (ap (λ (t : Bool). fold_by (step_of n new) x (if t then s ∷ of_option n later else of_option n later)) e)

-- only the settings of that option count
by_option : {A : Type 0} (n : ℕ) (new : Setting → A → A) (x : A) (settings : List Setting) → fold_by (step_of n new) x settings ≡ fold_by (step_of n new) x (of_option n settings)
by_option n new x [] = refl
by_option n new x (s ∷ later) = fold_test n new x s later (nat_eq s.option.number n) refl (λ y. by_option n new y later)

abbrev file_set : Setting → Option (List ℕ) → Option (List ℕ)
file_set s old = Some (first_value s.values)

abbrev number_set : Setting → ℕ → ℕ
number_set s old = last_number s.values

abbrev point_set : Setting → Option (List ℕ × ℕ) → Option (List ℕ × ℕ)
point_set s old = Some (first_value s.values, last_number s.values)

abbrev file_added : Setting → List (List ℕ) → List (List ℕ)
file_added s old = old ++ first_value s.values ∷ []

-- all fields, each by settings of its own
abbrev said_from : (ℕ → List Setting) → Said → Said
said_from f a = record {
  tool = a.tool;
  object = a.object;
  args = a.args;
  source = a.source;
  given = a.given;
  config = fold_by (step_of 0 file_set) a.config (f 0);
  trace = fold_by (step_of 1 file_set) a.trace (f 1);
  restart = fold_by (step_of 2 file_set) a.restart (f 2);
  commits = fold_by (step_of 3 file_set) a.commits (f 3);
  chkpt = fold_by (step_of 5 point_set) a.chkpt (f 5);
  max_inst = fold_by (step_of 6 number_set) a.max_inst (f 6);
  fastfwd = fold_by (step_of 8 number_set) a.fastfwd (f 8);
  out = fold_by (step_of 9 file_set) a.out (f 9);
  input = fold_by (step_of 10 file_set) a.input (f 10);
  files = fold_by (step_of 11 file_added) a.files (f 11);
}

said_folds : (a : Said) (settings : List Setting) → with_settings a settings ≡ said_from (λ n. settings) a
said_folds a [] = refl
said_folds a (s ∷ later) = said_folds (with_setting a s) later

abbrev said_of : Said → Option (List ℕ) → Option (List ℕ) → Option (List ℕ) → Option (List ℕ) → Option (List ℕ × ℕ) → ℕ → ℕ → Option (List ℕ) → Option (List ℕ) → List (List ℕ) → Said
said_of a c t r m p i k o n l = record a { config = c; trace = t; restart = r; commits = m; chkpt = p; max_inst = i; fastfwd = k; out = o; input = n; files = l }

said_options : (a : Said) (settings : List Setting) → said_from (λ n. settings) a ≡ said_from (λ n. of_option n settings) a
said_options a settings =
    let c = fold_by (step_of 0 file_set) a.config settings in
    let t = fold_by (step_of 1 file_set) a.trace settings in
    let r = fold_by (step_of 2 file_set) a.restart settings in
    let m = fold_by (step_of 3 file_set) a.commits settings in
    let p = fold_by (step_of 5 point_set) a.chkpt settings in
    let i = fold_by (step_of 6 number_set) a.max_inst settings in
    let k = fold_by (step_of 8 number_set) a.fastfwd settings in
    let o = fold_by (step_of 9 file_set) a.out settings in
    let n = fold_by (step_of 10 file_set) a.input settings in
    let l = fold_by (step_of 11 file_added) a.files settings in
    let c2 = fold_by (step_of 0 file_set) a.config (of_option 0 settings) in
    let t2 = fold_by (step_of 1 file_set) a.trace (of_option 1 settings) in
    let r2 = fold_by (step_of 2 file_set) a.restart (of_option 2 settings) in
    let m2 = fold_by (step_of 3 file_set) a.commits (of_option 3 settings) in
    let p2 = fold_by (step_of 5 point_set) a.chkpt (of_option 5 settings) in
    let i2 = fold_by (step_of 6 number_set) a.max_inst (of_option 6 settings) in
    let k2 = fold_by (step_of 8 number_set) a.fastfwd (of_option 8 settings) in
    let o2 = fold_by (step_of 9 file_set) a.out (of_option 9 settings) in
    let n2 = fold_by (step_of 10 file_set) a.input (of_option 10 settings) in
    ap (λ x. said_of a x t r m p i k o n l) (by_option 0 file_set a.config settings)
    ∙ ap (λ x. said_of a c2 x r m p i k o n l) (by_option 1 file_set a.trace settings)
    ∙ ap (λ x. said_of a c2 t2 x m p i k o n l) (by_option 2 file_set a.restart settings)
    ∙ ap (λ x. said_of a c2 t2 r2 x p i k o n l) (by_option 3 file_set a.commits settings)
    ∙ ap (λ x. said_of a c2 t2 r2 m2 x i k o n l) (by_option 5 point_set a.chkpt settings)
    ∙ ap (λ x. said_of a c2 t2 r2 m2 p2 x k o n l) (by_option 6 number_set a.max_inst settings)
    ∙ ap (λ x. said_of a c2 t2 r2 m2 p2 i2 x o n l) (by_option 8 number_set a.fastfwd settings)
    ∙ ap (λ x. said_of a c2 t2 r2 m2 p2 i2 k2 x n l) (by_option 9 file_set a.out settings)
    ∙ ap (λ x. said_of a c2 t2 r2 m2 p2 i2 k2 o2 x l) (by_option 10 file_set a.input settings)
    ∙ ap (λ x. said_of a c2 t2 r2 m2 p2 i2 k2 o2 n2 x) (by_option 11 file_added a.files settings)

-- all that words say, by the settings of each option
abbrev given_from : (ℕ → List Setting) → List ℕ
given_from f = map (λ r. r.number) (filter (λ r. nat_le 1 (length (f r.number))) table)

abbrev said_alone : Tool → List (List ℕ) → (ℕ → List Setting) → Said
said_alone t operands f = said_behind t operands (said_from f (record (nothing_said t) { given = given_from f }))

said_by_options : (t : Tool) (operands : List (List ℕ)) (settings : List Setting) → said_by (asks t settings operands) ≡ said_alone t operands (λ n. of_option n settings)
said_by_options t operands settings =
    let start : Said = record (nothing_said t) { given = given_from (λ n. of_option n settings) } in
    ap (said_behind t operands) (said_folds start settings ∙ said_options start settings)

-- the same settings of each option, in whatever order of the options, say the same
pub same_said : (t : Tool) (operands : List (List ℕ)) (first second : List Setting) → ((n : ℕ) → of_option n first ≡ of_option n second) → said_by (asks t first operands) ≡ said_by (asks t second operands)
same_said t operands first second same =
    said_by_options t operands first ∙ ap (said_alone t operands) (fun_ext same) ∙ sym (said_by_options t operands second)

-- ---- one option alone

empty_count : (settings : List Setting) → length settings ≡ 0 → settings ≡ []
empty_count [] h = refl
empty_count (s ∷ later) h = absurd (omega (arith, h))

max_inst_behind : (t : Tool) (operands : List (List ℕ)) (a : Said) → (said_behind t operands a).max_inst ≡ a.max_inst
max_inst_behind SimSafe operands a = refl
max_inst_behind Record operands a = refl
max_inst_behind Asm operands a = refl
max_inst_behind Dis operands a = refl

-- an option that doesn't stand has its default
pub default_said : (t : Tool) (operands : List (List ℕ)) (settings : List Setting) → count 6 settings ≡ 0 → (said_by (asks t settings operands)).max_inst ≡ 1000000000
default_said t operands settings none =
    ap (λ (x : Said). x.max_inst) (said_by_options t operands settings)
    ∙ max_inst_behind t operands (said_from (λ n. of_option n settings) (record (nothing_said t) { given = given_from (λ n. of_option n settings) }))
    ∙ ap (fold_by (step_of 6 number_set) 1000000000) (empty_count (of_option 6 settings) none)

-- words that are written from options that may stand are read as just these
pub written_read : (t : Tool) (settings : List Setting) (operands : List (List ℕ)) → AreSettings t [] settings → begins_with_option operands ≡ false → operands_fault t settings operands ≡ None → read (tool_name t ∷ (written settings ++ operands)) ≡ Ok (asks t settings operands)
written_read t settings operands may behind right =
    ask_read (tool_name t ∷ (written settings ++ operands)) (asks t settings operands) (record { order = refl; options = may; behind = behind; operands = right })
