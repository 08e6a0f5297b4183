-- An exit was dispatched exactly where the state behind the last dispatched right row has exited.
use Rattle.std.proofs.Common.{◌≡◌, ℕ, Bool, true, false, cond, List, [], ◌∷◌, ◌++◌, Option, Some, None, refl, sym, ap, ◌∙◌}
use Rattle.std.specs.Prelude.{◌&&◌, ◌||◌, is_some, is_none, find}
use Rattle.std.specs.List.{list_any}
use Rattle.std.proofs.lemmas.Bool.{cond-true}
use Rattle.sim_safe.specs.State.{State}
use Rattle.sim_safe.specs.Step.{Outcome, Next, Halt, step_of}
use Rattle.pisa_isa.specs.declared.instr.Instr.{Instr}
use Rattle.ooo_table.specs.Row.{Fetched, Row, sweep}
use Rattle.ooo_table.specs.Execution.{Execution, wrong_execution}
use Rattle.ooo_table.specs.Table.{Setting}
use Rattle.ooo_table.specs.Path.{execution, execution_of, is_exit}
use Rattle.ooo_table.specs.Done.{waiting}
use Rattle.ooo_table.specs.Later.{Each}
use Rattle.ooo_table.specs.PathLaws.{newest}
use Rattle.ooo_table.specs.Machine.{Given, setting_of, executed_as, executed_at, instruction_at}
use Rattle.ooo_table.proofs.Route.{Strays}
use Rattle.core_parts.specs.Stands.{settled, state_after}
use Rattle.core_dispatch.proofs.Partial.{Fit, Left, Untouched}

-- ---- the exit of a right row

exit_by : (i : Instr) (s : State) (o : Outcome) → (executed_as i s o).stops ≡ false → (executed_as i s o).exit ≡ is_some (executed_as i s o).after.ended
exit_by i s (Next did after) e = refl
exit_by i s (Halt why) e = absurd cc

none_by : (i : Instr) (s : State) (o : Outcome) → (executed_as i s o).after.ended ≡ None → (executed_as i s o).exit ≡ false
none_by i s (Next did after) e = ap is_some e
none_by i s (Halt why) e = refl

module _ (g : Given) (f : Fetched) (w : f.right ≡ true) where
  right_at : execution_of (setting_of g) f
      ≡ executed_as (instruction_at f.state.text f.pc) (record f.state { pc = f.pc }) (step_of g.trace (record f.state { pc = f.pc }))
  unfolding execution_of executed_at
  right_at = cond-true f.right (executed_at g.trace f.state f.pc) (wrong_execution f.state (executed_at g.trace f.state f.pc)) w

  pub exit_is : (execution_of (setting_of g) f).stops ≡ false → (execution_of (setting_of g) f).exit ≡ is_some (execution_of (setting_of g) f).after.ended
  exit_is e =
      ap (λ (x : Execution). x.exit) right_at
      ∙ (exit_by (instruction_at f.state.text f.pc) (record f.state { pc = f.pc }) (step_of g.trace (record f.state { pc = f.pc })) (sym (ap (λ (x : Execution). x.stops) right_at) ∙ e)
      ∙ sym (ap (λ (x : Execution). is_some x.after.ended) right_at))

  pub no_exit : (execution_of (setting_of g) f).after.ended ≡ None → (execution_of (setting_of g) f).exit ≡ false
  no_exit e =
      ap (λ (x : Execution). x.exit) right_at
      ∙ none_by (instruction_at f.state.text f.pc) (record f.state { pc = f.pc }) (step_of g.trace (record f.state { pc = f.pc }))
      (sym (ap (λ (x : Execution). x.after.ended) right_at) ∙ e)

-- ---- among rows

abbrev pub is_last : Row → Bool
is_last o = o.fetched.right && is_some o.dispatched

abbrev pub exited : Setting → Row → Bool
exited set o = is_some o.dispatched && is_exit set o

module _ (g : Given) (c : ℕ) where
  abbrev set : Setting
  set = setting_of g

  none_left : (rows : List Row) → Each (λ _. Left set) rows → list_any (exited set) rows ≡ false
  none_left [] h = refl
  none_left (o ∷ rows) h = ap (λ b. b || list_any (exited set) rows) h.0.exit ∙ none_left rows h.1

  parts : (a b : Bool) → (a && b) ≡ true → (a ≡ true) × (b ≡ true)
  parts true true e = (refl, refl)
  parts true false e = absurd cc
  parts false b e = absurd cc

  other : (o : Row) → is_last o ≡ false → exited set o ≡ false
  other o e = by_values (is_some o.dispatched) o.fetched.right (execution set o).exit e
    where
      by_values : (d w x : Bool) → (w && d) ≡ false → (d && (w && x)) ≡ false
      by_values true true x e = absurd cc
      by_values true false x e = refl
      by_values false w x e = refl

  -- where it hasn't exited, none was
  pub exits_none : (rows : List Row) → Each (Fit set c) rows → (settled set rows).ended ≡ None → list_any (exited set) rows ≡ false
  exits_none [] fit e = refl
  exits_none (o ∷ rows) fit e = by_last (is_last o) refl e (exits_none rows fit.1)
    where
      by_last : (b : Bool) → is_last o ≡ b → (state_after set (cond b (Some o) (find is_last rows))).ended ≡ None → ((settled set rows).ended ≡ None → list_any (exited set) rows ≡ false)
          → (exited set o || list_any (exited set) rows) ≡ false
      by_last true l e ih =
          let p = parts o.fetched.right (is_some o.dispatched) l in
          ap (λ b. (is_some o.dispatched && (o.fetched.right && b)) || list_any (exited set) rows) (no_exit g o.fetched p.0 e)
          ∙ (off (is_some o.dispatched) o.fetched.right (list_any (exited set) rows) ∙ none_left rows (fit.0.came p.1))
        where
          off : (a b x : Bool) → ((a && (b && false)) || x) ≡ x
          off true true x = refl
          off true false x = refl
          off false b x = refl
      by_last false l e ih = ap (λ b. b || list_any (exited set) rows) (other o l) ∙ ih e

  -- and where it has, one was
  pub exits_some : (rows : List Row) → Each (Fit set c) rows → is_some (settled set rows).ended ≡ true → list_any is_last rows ≡ true → list_any (exited set) rows ≡ true
  exits_some [] fit e some = absurd cc
  exits_some (o ∷ rows) fit e some = by_last (is_last o) refl e some (exits_some rows fit.1)
    where
      by_last : (b : Bool) → is_last o ≡ b → is_some (state_after set (cond b (Some o) (find is_last rows))).ended ≡ true → (b || list_any is_last rows) ≡ true
          → (is_some (settled set rows).ended ≡ true → list_any is_last rows ≡ true → list_any (exited set) rows ≡ true)
          → (exited set o || list_any (exited set) rows) ≡ true
      by_last true l e some ih =
          let p = parts o.fetched.right (is_some o.dispatched) l in
          ap (λ b. (b && (o.fetched.right && (execution set o).exit)) || list_any (exited set) rows) p.1
          ∙ (ap (λ b. (b && (execution set o).exit) || list_any (exited set) rows) p.0
          ∙ ap (λ b. b || list_any (exited set) rows) (exit_is g o.fetched p.0 (fit.0.proceeds p.0 p.1) ∙ e))
      by_last false l e some ih = ap (λ b. b || list_any (exited set) rows) (other o l) ∙ ih e some

-- ---- a right row before a wrong one

-- a change of rows that leaves what was fetched
abbrev pub Refetched : (List Row → Row → Row) → Type 0
Refetched f = (before : List Row) (r : Row) → (f before r).fetched ≡ r.fetched

some_right : (f : List Row → Row → Row) → Refetched f → (ys older : List Row) → is_some (newest (ys ++ older)) ≡ list_any (λ o. o.fetched.right) (ys ++ sweep f older)
some_right f same [] [] = refl
some_right f same [] (o ∷ older) =
    by_right o.fetched.right (some_right f same [] older)
    ∙ ap (λ b. b || list_any (λ o. o.fetched.right) (sweep f older)) (sym (ap (λ (x : Fetched). x.right) (same (sweep f older) o)))
  where
    by_right : (b : Bool) → is_some (newest older) ≡ list_any (λ o. o.fetched.right) (sweep f older)
        → is_some (cond b (Some o) (newest older)) ≡ (b || list_any (λ o. o.fetched.right) (sweep f older))
    by_right true ih = refl
    by_right false ih = ih
some_right f same (y ∷ ys) older = by_right y.fetched.right (some_right f same ys older)
  where
    by_right : (b : Bool) → is_some (newest (ys ++ older)) ≡ list_any (λ o. o.fetched.right) (ys ++ sweep f older)
        → is_some (cond b (Some y) (newest (ys ++ older))) ≡ (b || list_any (λ o. o.fetched.right) (ys ++ sweep f older))
    by_right true ih = refl
    by_right false ih = ih

strays_some : (setting : Setting) (n : ℕ) (m : Option Row) → Strays setting n m → is_some m ≡ true
strays_some setting n None s = absurd s
strays_some setting n (Some m) s = refl

all_came : (rows : List Row) → Each (λ _ o. waiting o ≡ false) rows → Each (λ _. Untouched) rows → list_any (λ o. o.fetched.right) rows ≡ true → list_any is_last rows ≡ true
all_came [] p u e = absurd cc
all_came (o ∷ rows) p u e = by_right o.fetched.right refl e (all_came rows p.1 u.1)
  where
    came : (d s : Option ℕ) → (is_none d && is_none s) ≡ false → s ≡ None → is_some d ≡ true
    came None None e f = absurd cc
    came None (Some x) e f = absurd cc
    came (Some x) s e f = refl

    by_right : (b : Bool) → o.fetched.right ≡ b → (b || list_any (λ o. o.fetched.right) rows) ≡ true → (list_any (λ o. o.fetched.right) rows ≡ true → list_any is_last rows ≡ true)
        → ((b && is_some o.dispatched) || list_any is_last rows) ≡ true
    by_right true w e ih = ap (λ x. x || list_any is_last rows) (came o.dispatched o.squashed p.0 (u.0 w))
    by_right false w e ih = ih e

-- behind a right row that strays there is a dispatched one
pub last_some : (setting : Setting) (n : ℕ) (f : List Row → Row → Row) → Refetched f → (ys older : List Row) → Strays setting n (newest (ys ++ older))
    → Each (λ _ o. waiting o ≡ false) (ys ++ sweep f older) → Each (λ _. Untouched) (ys ++ sweep f older) → list_any is_last (ys ++ sweep f older) ≡ true
last_some setting n f same ys older s p u =
    all_came (ys ++ sweep f older) p u (sym (some_right f same ys older) ∙ strays_some setting n (newest (ys ++ older)) s)
