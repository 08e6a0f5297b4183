-- The newest right row, and what the machine holds of it.
use Rattle.std.proofs.Common.{◌≡◌, Bool, true, false, cond, List, [], ◌∷◌, Option, Some, None, refl, sym, ap, ◌∙◌}
use Rattle.std.specs.Prelude.{not, ◌&&◌, ◌==◌, option_map}
use Rattle.std.proofs.lemmas.Bool.{cond-true, and_parts, not-true, eqb-true}
use Rattle.pisa_isa.specs.declared.instr.Instr.{Instr}
use Rattle.sim_safe.specs.State.{State, Storage, state_of}
use Rattle.sim_safe.specs.Step.{Outcome, Next, Halt, step_of}
use Rattle.ooo_table.specs.Row as table
use Rattle.ooo_table.specs.Row.{sweep}
use Rattle.ooo_table.specs.Execution.{wrong_execution}
use Rattle.ooo_table.specs.Table.{NextFetch}
use Rattle.ooo_table.specs.Path.{execution_of, mispredicted}
use Rattle.ooo_table.specs.PathLaws.{newest}
use Rattle.ooo_table.specs.Machine.{Given, setting_of, instruction_at, executed_as, executed_at}
use Rattle.ooo_table.proofs.Leads.{LeadsOn, step_leads}
use Rattle.plain_machine.specs.declared.machine.Plain.{Plain}
use Rattle.plain_machine.specs.Copied.{acting}
use Rattle.plain_machine.specs.Standing.{OnPath, newest_fetched}

-- a stage that only sets marks leaves it
pub newest_sweep : (f : List table.Row → table.Row → table.Row) → ((before : List table.Row) (r : table.Row) → (f before r).fetched ≡ r.fetched) → (rows : List table.Row)
    → newest_fetched (sweep f rows) ≡ newest_fetched rows
newest_sweep f same [] = refl
newest_sweep f same (r ∷ rows) =
    by_right (f (sweep f rows) r) r (newest (sweep f rows)) (newest rows) (same (sweep f rows) r) (newest_sweep f same rows)
  where
    by_right : (s r : table.Row) (m n : Option table.Row) → s.fetched ≡ r.fetched → option_map (λ (x : table.Row). x.fetched) m ≡ option_map (λ (x : table.Row). x.fetched) n
        → option_map (λ (x : table.Row). x.fetched) (cond s.fetched.right (Some s) m) ≡ option_map (λ (x : table.Row). x.fetched) (cond r.fetched.right (Some r) n)
    by_right s r m n e ih = on_right s.fetched.right r.fetched.right (ap (λ (x : table.Fetched). x.right) e)
      where
        on_right : (b d : Bool) → b ≡ d → option_map (λ (x : table.Row). x.fetched) (cond b (Some s) m) ≡ option_map (λ (x : table.Row). x.fetched) (cond d (Some r) n)
        on_right true true h = ap (λ x. Some x) e
        on_right false false h = ih
        on_right true false h = absurd cc
        on_right false true h = absurd cc

-- such a stage leaves the machine on its path
pub path_sweep : (g : Given) (rows rows' : List table.Row) (next : NextFetch) (p : Plain) (q : Plain) → newest_fetched rows' ≡ newest_fetched rows
    → q.arch ≡ p.arch → q.copy ≡ p.copy → q.top ≡ p.top → OnPath g rows next p → OnPath g rows' next q
path_sweep g rows rows' next p q e ea ec et o =
    record {
      text = ap (λ (m : Storage). m.text) ea ∙ o.text;
      behind = ap state_of ea ∙ (o.behind ∙ ap (λ x. after x) (sym e));
      top_is = et ∙ (o.top_is ∙ ap (λ x. option_map (λ (f : table.Fetched). f.top) x) (sym e));
      state = o.state ∙ (ap (λ m. acting m p.copy) (sym ea) ∙ ap (λ k. acting q.arch k) (sym ec));
      straight = λ r. ec ∙ o.straight r;
      there = o.there;
    }
  where
    after : Option table.Fetched → State
    after None = g.start
    after (Some f) = (execution_of (setting_of g) f).after

-- ---- the address behind a right row

leads_by : (i : Instr) (at : State) (o : Outcome) → LeadsOn o → (executed_as i at o).stops ≡ false → (executed_as i at o).next ≡ (executed_as i at o).after.pc
leads_by i at (Next did u) h n = h
leads_by i at (Halt why) h n = absurd cc

pub leads : (g : Given) (s : table.Fetched) → s.right ≡ true → (execution_of (setting_of g) s).stops ≡ false
    → (execution_of (setting_of g) s).next ≡ (execution_of (setting_of g) s).after.pc
unfolding execution_of executed_at
leads g s w n =
    let at : State = record s.state { pc = s.pc } in
    let e : execution_of (setting_of g) s ≡ executed_as (instruction_at s.state.text s.pc) at (step_of g.trace at) =
    cond-true s.right (executed_at g.trace s.state s.pc) (wrong_execution s.state (executed_at g.trace s.state s.pc)) w in
    let k : (executed_as (instruction_at s.state.text s.pc) at (step_of g.trace at)).stops ≡ false = ap (λ x. x.stops) (sym e) ∙ n in
    ap (λ x. x.next) e ∙ (leads_by (instruction_at s.state.text s.pc) at (step_of g.trace at) (step_leads g.trace at) k ∙ ap (λ x. x.after.pc) (sym e))

-- of a right row that is mispredicted, and of one that isn't
pub leads_mispredicted : (g : Given) (r : table.Row) → mispredicted (setting_of g) r ≡ true → (execution_of (setting_of g) r.fetched).next ≡ (execution_of (setting_of g) r.fetched).after.pc
leads_mispredicted g r h =
    let k = and_parts _ _ h in
    let j : (r.fetched.right ≡ true) × (not (execution_of (setting_of g) r.fetched).stops ≡ true) = and_parts _ _ k.0 in
    leads g r.fetched j.0 (not-true _ j.1)

pub record GoesOn (g : Given) (s : table.Fetched) : Type 0 where
  pub right : s.right ≡ true
  pub pc : s.predicted ≡ (execution_of (setting_of g) s).after.pc

pub goes_on : (g : Given) (s : table.Fetched) → (s.right && not (execution_of (setting_of g) s).stops && (s.predicted == (execution_of (setting_of g) s).next)) ≡ true → GoesOn g s
goes_on g s h =
    let k : ((s.right && not (execution_of (setting_of g) s).stops) ≡ true) × ((s.predicted == (execution_of (setting_of g) s).next) ≡ true) = and_parts _ _ h in
    let j : (s.right ≡ true) × (not (execution_of (setting_of g) s).stops ≡ true) = and_parts _ _ k.0 in
    record {
      right = j.0;
      pc = eqb-true s.predicted (execution_of (setting_of g) s).next k.1 ∙ leads g s j.0 (not-true _ j.1);
    }
