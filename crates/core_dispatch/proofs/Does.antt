-- What the oldest waiting row does, right or wrong.
use Rattle.std.proofs.Common.{◌≡◌, ℕ, Bool, true, false, cond, Option, Some, None, Ok, Err, Result, refl, sym, ap, ◌∙◌}
use Rattle.std.specs.Prelude.{unwrap_or}
use Rattle.std.proofs.lemmas.Bool.{cond-true, cond-false}
use Rattle.pisa_isa.specs.declared.instr.Instr.{Instr}
use Rattle.pisa_isa.specs.Classes.{access_of}
use Rattle.pisa_isa.specs.Coding.{decoded, operation_of}
use Rattle.pisa_step.specs.declared.cause.Cause.{Cause}
use Rattle.pisa_step.specs.declared.changes.Changes.{Changes}
use Rattle.pisa_step.specs.Effect.{changed, effect_of}
use Rattle.ecoff_load.specs.Fetch.{fetch}
use Rattle.sim_safe.specs.State.{State, range_of}
use Rattle.sim_safe.specs.Decoded.{coded_by}
use Rattle.sim_safe.specs.Step.{Outcome, Next, Halt, called, executed, is_call, moved, recorded, step_at, step_decoded, step_fetched, step_of, step_running}
use Rattle.ooo_table.specs.Row.{Fetched}
use Rattle.ooo_table.specs.Execution.{Execution, inert, wrong_execution}
use Rattle.ooo_table.specs.Path.{execution_of}
use Rattle.ooo_table.specs.Machine.{Given, setting_of, nop, instruction_at, done_as, halted_as, executed_as, executed_at}
use Rattle.core_dispatch.specs.declared.verdict.WrongAct.{WrongAct}
use Rattle.core_dispatch.specs.Verdict.{act_by, ok}
use Rattle.core_dispatch.proofs.Performed.{HasUse, IfNext, called_is, effect_uses}

-- ---- right rows

-- at the address of its state it does what the functional machine does
pub right_does : (g : Given) (f : Fetched) → f.right ≡ true → f.pc ≡ f.state.pc
    → execution_of (setting_of g) f ≡ executed_as (instruction_at f.state.text f.state.pc) f.state (step_of g.trace f.state)
unfolding execution_of executed_at
right_does g f w e =
    cond-true f.right (executed_at g.trace f.state f.pc) (wrong_execution f.state (executed_at g.trace f.state f.pc)) w ∙ ap (executed_at g.trace f.state) e

-- ---- wrong rows

-- the execution of a wrong row with these changes
abbrev pub acted : State → ℕ → Instr → Changes → Execution
acted on pc i e =
    record (done_as (recorded (record on { pc = pc }) i e) (moved (record on { pc = pc }) e)) { after = record on { reads = changed on.reads e } }

-- a wrong row can't be done, or it makes its changes
pub data Way (on : State) (pc : ℕ) (x : Execution) (act : WrongAct) : Type 0 where
  Idles : (act.changes ≡ None) → (x ≡ inert on (halted_as act.instr (record on { pc = pc }))) → Way on pc x act
  Makes : (e : Changes) → (act.changes ≡ Some e) → HasUse (access_of act.instr.op) e.access → (x ≡ acted on pc act.instr e) → Way on pc x act

pub record WrongDoes (on : State) (pc : ℕ) (x : Execution) (i : Instr) (act : WrongAct) : Type 0 where
  pub instr : act.instr ≡ i
  pub call : is_call act.instr.op ≡ x.call
  pub way : is_call act.instr.op ≡ false → Way on pc x act

wrong_call : (on : State) (e : Execution) → (wrong_execution on e).call ≡ e.call
wrong_call on e = by_stop e.stops e.call
  where
    by_call : (b : Bool) → (cond b (record e { after = on }) (record e { after = record on { reads = e.after.reads } })).call ≡ e.call
    by_call true = refl
    by_call false = refl

    by_stop : (b d : Bool) → (cond b (inert on e) (cond d (record e { after = on }) (record e { after = record on { reads = e.after.reads } }))).call ≡ e.call
    by_stop true d = refl
    by_stop false d = by_call d

-- two words of zeros code NOP
zeros : unwrap_or (decoded 0 0) nop ≡ nop
unfolding operation_of
zeros = refl

module _ (g : Given) (on : State) (pc : ℕ) where
  abbrev here : State
  here = record on { pc = pc }

  abbrev act_of : Option Instr → WrongAct
  act_of m = act_by (range_of on.text) on.reads pc m

  halted_call : (i : Instr) (o : Outcome) → IfNext i here o → (executed_as i here o).call ≡ is_call i.op
  halted_call i (Halt why) k = refl
  halted_call i (Next did after) k = ap (λ (j : Instr). is_call j.op) k.instr

  -- nothing stands at the address
  idle : (x : Execution) (i : Instr) → i ≡ nop → x ≡ wrong_execution on (halted_as i here) → WrongDoes on pc x i (record { instr = nop; changes = None })
  idle x i n e =
      record {
        instr = sym n;
        call = ap (λ (j : Instr). is_call j.op) (sym n) ∙ ap (λ (y : Execution). y.call) (sym e);
        way = λ _. Idles refl (e ∙ ap (λ j. inert on (halted_as j here)) n);
      }

  by_effect : (x : Execution) (i : Instr) (r : Result Changes Cause) → effect_of on.reads i pc (range_of on.text) ≡ r → is_call i.op ≡ false
      → x ≡ wrong_execution on (executed_as i here (executed here i r)) → WrongDoes on pc x i (record { instr = i; changes = ok r })
  by_effect x i (Err why) is n e =
      record { instr = refl; call = ap (λ (y : Execution). y.call) (sym e); way = λ _. Idles refl e }
  by_effect x i (Ok c) is n e =
      record {
        instr = refl;
        call = sym (wrong_call on (done_as (recorded here i c) (moved here c))) ∙ ap (λ (y : Execution). y.call) (sym e);
        way = λ _. Makes c refl (effect_uses here i c is)
            (e ∙ ap (λ b. cond b (record (done_as (recorded here i c) (moved here c)) { after = on }) (acted on pc i c)) n);
      }

  by_instr : (x : Execution) (i : Instr) → x ≡ wrong_execution on (executed_as i here (step_at g.trace here i)) → WrongDoes on pc x i (act_of (Some i))
  by_instr x i e = by_call (is_call i.op) refl e
    where
      by_call : (b : Bool) → is_call i.op ≡ b
          → x ≡ wrong_execution on (executed_as i here (cond b (called g.trace here i) (executed here i (effect_of on.reads i pc (range_of on.text)))))
          → WrongDoes on pc x i (record { instr = i; changes = cond b None (ok (effect_of on.reads i pc (range_of on.text))) })
      by_call true f e =
          record {
            instr = refl;
            call = sym (ap (λ (y : Execution). y.call) e
                ∙ (wrong_call on (executed_as i here (called g.trace here i)) ∙ halted_call i (called g.trace here i) (called_is g.trace here i f)));
            way = λ n. absurd (differ f n);
          }
        where
          differ : {b : Bool} → b ≡ true → b ≡ false → ⊥
          differ h k = cc
      by_call false f e = by_effect x i (effect_of on.reads i pc (range_of on.text)) refl f e

  by_code : (x : Execution) (m : Option Instr) → x ≡ wrong_execution on (executed_as (unwrap_or m nop) here (step_decoded g.trace here m))
      → WrongDoes on pc x (unwrap_or m nop) (act_of m)
  by_code x None e = idle x nop refl e
  by_code x (Some i) e = by_instr x i e

  by_words : (x : Execution) (m : Option (ℕ × ℕ))
      → x ≡ wrong_execution on (executed_as (unwrap_or (decoded (unwrap_or m (0, 0)).0 (unwrap_or m (0, 0)).1) nop) here (step_fetched g.trace here m))
      → WrongDoes on pc x (unwrap_or (decoded (unwrap_or m (0, 0)).0 (unwrap_or m (0, 0)).1) nop) (act_of (coded_by m))
  by_words x None e = idle x (unwrap_or (decoded 0 0) nop) zeros e
  by_words x (Some words) e = by_code x (decoded words.0 words.1) e

  running : on.ended ≡ None → step_of g.trace here ≡ step_fetched g.trace here (fetch on.text pc)
  unfolding step_of
  running e = ap (step_running g.trace here) e

pub wrong_does : (g : Given) (f : Fetched) → f.right ≡ false → f.state.ended ≡ None
    → WrongDoes f.state f.pc (execution_of (setting_of g) f) (instruction_at f.state.text f.pc) (act_by (range_of f.state.text) f.state.reads f.pc (coded_by (fetch f.state.text f.pc)))
unfolding execution_of executed_at
wrong_does g f w none =
    by_words g f.state f.pc (execution_of (setting_of g) f) (fetch f.state.text f.pc)
    (cond-false f.right (executed_at g.trace f.state f.pc) (wrong_execution f.state (executed_at g.trace f.state f.pc)) w
    ∙ ap (λ o. wrong_execution f.state (executed_as (instruction_at f.state.text f.pc) (record f.state { pc = f.pc }) o)) (running g f.state f.pc none))
