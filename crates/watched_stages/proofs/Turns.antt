-- Turns of the dispatch stage keep within the width.
use Rattle.std.proofs.Common.{◌≡◌, ℕ, ◌<◌, Bool, true, false, cond, Option, Some, None, refl}
use Rattle.std.specs.Prelude.{◌&&◌, ◌||◌, not, is_some}
use Rattle.std.proofs.lemmas.Bool.{and_parts, ltb-true}
use Rattle.event_trace.specs.declared.trace.Trace.{Trace}
use Rattle.sim_safe.specs.State.{state_of}
use Rattle.sim_safe.specs.Step.{Outcome, Next, Halt, is_call, step_of}
use Rattle.ooo_front.specs.declared.row.FetchRow.{FetchRow}
use Rattle.core_parts.specs.declared.answers.Dispatched.TheVariants as turn
use Rattle.core_parts.specs.declared.parts.Parts.{Parts}
use Rattle.core_dispatch.specs.declared.verdict.WrongAct.{WrongAct}
use Rattle.core_dispatch.specs.declared.verdict.Verdict.{Verdict}
use Rattle.core_dispatch.specs.declared.verdict.Verdict.TheVariants as verdict
use Rattle.core_dispatch.specs.Verdict.{has_access, is_empty, has_place, right_verdict, wrong_verdict, wrong_act, head_of, verdict_at, verdict_of}
use Rattle.core_dispatch.specs.Turn.{TurnBy, Turns}

module _ (trace : Trace) (c n : ℕ) (called : Bool) (old new : Parts) where
  -- no more rows are dispatched than the width allows
  pub row_within : (number : ℕ) (call : Bool) → Turns trace c n called old new (turn.Row number call) → n < old.config.decode
  row_within number call t = by_verdict (verdict_of trace c n called old) refl t.turn
    where
      placed : (memory : Bool) → has_place n called old memory ≡ true → n < old.config.decode
      placed memory e = ltb-true n old.config.decode (and_parts _ _ (and_parts _ _ (and_parts _ _ e).0).0).0

      right : (o : Outcome) → right_verdict n called old o ≡ verdict.Right → n < old.config.decode
      right (Halt why) e = by_test (is_empty old) e
        where
          by_test : (b : Bool) → cond b (verdict.Stops why) verdict.Stays ≡ verdict.Right → n < old.config.decode
          by_test true e = absurd cc
          by_test false e = absurd cc
      right (Next did after) e = by_test (has_place n called old (has_access did.instr) && (not (is_call did.instr.op) || is_empty old)) refl e
        where
          by_test : (b : Bool) → (has_place n called old (has_access did.instr) && (not (is_call did.instr.op) || is_empty old)) ≡ b → cond b verdict.Right verdict.Stays ≡ verdict.Right → n < old.config.decode
          by_test true h e = placed (has_access did.instr) (and_parts _ _ h).0
          by_test false h e = absurd cc

      no_right : (b : Bool) (act : WrongAct) → cond b (verdict.Wrong act) verdict.Stays ≡ verdict.Right → ⊥
      no_right true act e = cc
      no_right false act e = cc

      no_wrong : (o : Outcome) (act : WrongAct) → right_verdict n called old o ≡ verdict.Wrong act → ⊥
      no_wrong (Halt why) act e = by_test (is_empty old) e
        where
          by_test : (b : Bool) → cond b (verdict.Stops why) verdict.Stays ≡ verdict.Wrong act → ⊥
          by_test true e = cc
          by_test false e = cc
      no_wrong (Next did after) act e = by_test (has_place n called old (has_access did.instr) && (not (is_call did.instr.op) || is_empty old)) e
        where
          by_test : (b : Bool) → cond b verdict.Right verdict.Stays ≡ verdict.Wrong act → ⊥
          by_test true e = cc
          by_test false e = cc

      wrong : (act other : WrongAct) → wrong_verdict n called old act ≡ verdict.Wrong other → n < old.config.decode
      wrong act other e =
          by_test (not (is_some old.arch.ended) && not (is_call act.instr.op)) (has_place n called old (is_some act.changes && has_access act.instr)) refl e
        where
          by_test : (a b : Bool) → has_place n called old (is_some act.changes && has_access act.instr) ≡ b → cond (a && b) (verdict.Wrong act) verdict.Stays ≡ verdict.Wrong other → n < old.config.decode
          by_test true true h e = placed (is_some act.changes && has_access act.instr) h
          by_test true false h e = absurd cc
          by_test false b h e = absurd cc

      at : (h : Option FetchRow) (v : Verdict) → verdict_at trace n called old h ≡ v → TurnBy v trace c old new (turn.Row number call) → n < old.config.decode
      at None v e k = none v e k
        where
          none : (v : Verdict) → verdict.Stays ≡ v → TurnBy v trace c old new (turn.Row number call) → n < old.config.decode
          none verdict.Stays e k = absurd cc
          none (verdict.Stops why) e k = absurd cc
          none verdict.Right e k = absurd cc
          none (verdict.Wrong act) e k = absurd cc
      at (Some h) v e k = by_path old.wrong v e k
        where
          by_path : (b : Bool) (v : Verdict) → cond b (wrong_verdict n called old (wrong_act old h.pc)) (right_verdict n called old (step_of trace (state_of old.arch))) ≡ v
              → TurnBy v trace c old new (turn.Row number call) → n < old.config.decode
          by_path b verdict.Stays e k = absurd cc
          by_path b (verdict.Stops why) e k = absurd cc
          by_path true verdict.Right e k = absurd (no_right _ (wrong_act old h.pc) e)
          by_path false verdict.Right e k = right (step_of trace (state_of old.arch)) e
          by_path true (verdict.Wrong act) e k = wrong (wrong_act old h.pc) act e
          by_path false (verdict.Wrong act) e k = absurd (no_wrong (step_of trace (state_of old.arch)) act e)

      by_verdict : (v : Verdict) → verdict_of trace c n called old ≡ v → TurnBy v trace c old new (turn.Row number call) → n < old.config.decode
      by_verdict v e k = at (head_of c old) v e k
