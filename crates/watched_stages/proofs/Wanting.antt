-- The dispatch stage wants memory only where a right row of it writes to a page that wasn't reserved before it.
use Rattle.std.proofs.Common.{◌≡◌, ℕ, Bool, true, cond, List, ◌∷◌, ◌++◌, Some, sym, ap, ◌∙◌, subst, append_assoc}
use Rattle.event_trace.specs.declared.trace.Trace.{Trace}
use Rattle.sim_safe.specs.State.{State, state_of}
use Rattle.sim_safe.specs.Step.{TakesNoMemory, step_of}
use Rattle.ooo_table.specs.Row.{Row, is_at, sweep}
use Rattle.ooo_table.specs.Dispatch.{dispatch_row}
use Rattle.ooo_table.specs.Cycle.{after_issue, after_dispatch}
use Rattle.ooo_table.specs.Later.{Each}
use Rattle.ooo_table.specs.Machine.{Given, setting_of}
use Rattle.ooo_table.specs.MachineLaws.{IsSound}
use Rattle.ooo_table.proofs.Deadlines.{sweep_split, each_split}
use Rattle.core_parts.specs.declared.answers.Dispatched.TheVariants as turn
use Rattle.core_parts.specs.declared.parts.Parts.{Parts}
use Rattle.core_parts.specs.Fits.{Fits}
use Rattle.core_parts.specs.Stages.{Dispatching}
use Rattle.core_parts.proofs.Lists.{same_number}
use Rattle.core_dispatch.specs.Turn.{Keeps, Turns, FindsMemory}
use Rattle.core_dispatch.proofs.Wanting.{NextRight, takes_more, wanting_right, next_right}
use Rattle.watched_stages.specs.Dispatching.{HasMemory}

-- ---- the row that wants memory

module _ (g : Given) (sound : IsSound g) (c n : ℕ) (called : Bool) (start now new : Parts) (fits : Fits c 64 now) (younger older : List Row) (k : Dispatching g c n called younger older now) where
  abbrev turned : List Row → List Row
  turned rows = sweep (dispatch_row (setting_of g) c) rows

  abbrev Found : List Row → Row → Type 0
  Found before r = is_at c r.dispatched ≡ true → r.fetched.right ≡ true → TakesNoMemory g.trace start.arch.pages (step_of g.trace r.fetched.state)

  held_by : NextRight g c now younger older → Keeps start.arch now.arch → HasMemory g c start.arch → FindsMemory g.trace now
  held_by w keeps has path =
      let rest : List Row = w.passed ++ older in
      let rows : (after_issue (setting_of g) c).rows ≡ w.left ++ (w.row ∷ rest) =
      k.rows ∙ (ap (λ l. l ++ older) w.is ∙ append_assoc w.left (w.row ∷ w.passed) older) in
      let split : (front : List Row) × (turned (w.left ++ (w.row ∷ rest)) ≡ front ++ turned (w.row ∷ rest)) = sweep_split (dispatch_row (setting_of g) c) w.left (w.row ∷ rest) in
      let marked : Row = record (w.row) { dispatched = Some c } in
      let does : dispatch_row (setting_of g) c (turned rest) w.row ≡ marked = ap (λ b. cond b marked w.row) w.turn in
      let all : (after_dispatch (setting_of g) c).rows ≡ split.0 ++ (marked ∷ turned rest) =
      ap turned rows ∙ (split.1 ∙ ap (λ x. split.0 ++ (x ∷ turned rest)) does) in
      let mine : Found (turned rest) marked = (each_split Found split.0 (turned rest) marked (subst (Each Found) all has)).0 in
      let here : TakesNoMemory g.trace start.arch.pages (step_of g.trace w.row.fetched.state) = mine (same_number c) w.right in
      takes_more start.arch now.arch keeps g.trace (step_of g.trace (state_of now.arch))
      (subst (λ (x : State). TakesNoMemory g.trace start.arch.pages (step_of g.trace x)) (sym w.state) here)

  pub wants_memory : (trace : Trace) → g.trace ≡ trace → Keeps start.arch now.arch → Turns trace c n called now new turn.OutOfMemory → (FindsMemory trace now → ⊥)
      → HasMemory g c start.arch → ⊥
  wants_memory trace same keeps t wants has =
      let there : Turns g.trace c n called now new turn.OutOfMemory = subst (λ x. Turns x c n called now new turn.OutOfMemory) (sym same) t in
      wants (subst (λ x. FindsMemory x now) same (held_by (next_right g sound c n called now fits younger older k (wanting_right g.trace c now new n called there)) keeps has))
