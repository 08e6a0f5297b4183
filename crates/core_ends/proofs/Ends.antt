-- What the state is where a run has come so far, and where it is over.
use Rattle.std.proofs.Common.{◌≡◌, ℕ, ◌≤◌, true, List, Some, sym, ap, ◌∙◌, subst, arith}
use Rattle.pisa_step.specs.declared.cause.Cause.{Cause}
use Rattle.pisa_step.specs.declared.cause.Cause.TheVariants as cause
use Rattle.sim_safe.specs.State.{state_of}
use Rattle.sim_safe.specs.Step.{Halt, step_of}
use Rattle.ooo_table.specs.Row.{Row}
use Rattle.ooo_table.specs.Table.{Setting}
use Rattle.ooo_table.specs.Cycle.{table}
use Rattle.ooo_table.specs.Ends.{Extent, Whole, AtCommit, AtStop, rows_at, stops_in}
use Rattle.ooo_table.specs.Events.{committed_state}
use Rattle.ooo_table.specs.Machine.{Given, setting_of}
use Rattle.ooo_table.specs.MachineLaws.{IsSound}
use Rattle.ooo_table.proofs.Leads.{exited_halts}
use Rattle.ooo_table.proofs.Run.{ran_at, whole, halts_at}
use Rattle.core_parts.specs.declared.parts.Parts.{Parts}
use Rattle.core_parts.specs.Stands.{settled}
use Rattle.core_ends.specs.Extents.{StandsAt, right_in_flight, HasState, IsOver}
use Rattle.core_ends.proofs.InFlight.{empty_unit}
use Rattle.core_ends.proofs.Steps.{settled_after, settled_count, settled_committed, none_in_flight}

module _ (g : Given) where
  abbrev set : Setting
  set = setting_of g

  pub base_at : (e : Extent) (c : ℕ) (parts : Parts) → StandsAt g e c parts → state_of parts.arch ≡ settled set (rows_at set e c)
  base_at Whole c parts stands = stands.states.base
  base_at (AtCommit row) c parts stands = stands.states.base
  base_at AtStop c parts stands = stands.states.base

  pub has_state : (e : Extent) (c : ℕ) (parts : Parts) → IsSound g → StandsAt g e c parts → HasState g e c parts
  has_state e c parts sound stands =
      let base : state_of parts.arch ≡ settled set (rows_at set e c) = base_at e c parts stands in
      record {
        state = base ∙ settled_after g e c sound.config.penalty.least;
        instructions = ap (λ s. s.icnt) base ∙ settled_count g e c sound.config.penalty.least;
      }

  -- ---- where the functional machine halts behind the commits

  over : (e : Extent) (c : ℕ) (why : Cause) (parts : Parts) → IsSound g → StandsAt g e c parts → step_of g.trace (committed_state set (rows_at set e c)) ≡ Halt why → IsOver g e c why parts
  over e c why parts sound stands halts =
      let pen : 1 ≤ g.config.penalty = sound.config.penalty.least in
      let all : List Row = rows_at set e c in
      let base : state_of parts.arch ≡ settled set all = base_at e c parts stands in
      let same : state_of parts.arch ≡ committed_state set all = base ∙ settled_committed g e c pen why halts in
      let none : right_in_flight all ≡ 0 = none_in_flight g e c pen why halts in
      let wholly = whole g all why (ran_at g e c pen) halts in
      record {
        whole = wholly;
        state = λ n le. wholly.state n le ∙ sym same;
        instructions = omega (arith, (has_state e c parts sound stands).instructions, none);
        unit = empty_unit g e c parts stands pen none;
      }

  pub over_at_exit : (e : Extent) (c code : ℕ) (parts : Parts) → IsSound g → StandsAt g e c parts → (committed_state set (rows_at set e c)).ended ≡ Some code
      → IsOver g e c (cause.Exited code) parts
  over_at_exit e c code parts sound stands h = over e c (cause.Exited code) parts sound stands (exited_halts g.trace (committed_state set (rows_at set e c)) code h)

  pub over_at_stop : (c : ℕ) (why : Cause) (parts : Parts) → IsSound g → StandsAt g AtStop c parts → stops_in set c (table set c) ≡ true
      → step_of g.trace (state_of parts.arch) ≡ Halt why → IsOver g AtStop c why parts
  over_at_stop c why parts sound stands stops halts =
      let pen : 1 ≤ g.config.penalty = sound.config.penalty.least in
      let (other, f) = halts_at g c pen stops in
      let same : state_of parts.arch ≡ committed_state set (rows_at set AtStop c) = base_at AtStop c parts stands ∙ settled_committed g AtStop c pen other f in
      over AtStop c why parts sound stands (subst (λ s. step_of g.trace s ≡ Halt why) same halts)
