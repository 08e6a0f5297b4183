-- How the steps of a look-up come to the history's answer.
use Rattle.std.proofs.Common.{◌≡◌, ℕ, Bool, List, length, Option, Some, None, if◌then◌else◌, refl, ◌∙◌, ap, subst}
use Rattle.std.specs.Option.{unwrap_or}
use Rattle.pisa_isa.specs.declared.instr.Instr.{Instr}
use Rattle.pisa_isa.specs.declared.classes.ControlKind.{ControlKind}
use Rattle.pisa_isa.specs.declared.classes.ControlKind.TheVariants as control
use Rattle.pisa_isa.specs.Classes.{control_of}
use Rattle.bpred_tables.specs.Updates.{predicted}
use Rattle.bpred_tables.specs.Buffer.{target_of}
use Rattle.bpred_tables.specs.Stack.{popped}
use Rattle.bpred_unit.specs.declared.config.PredConfig.{PredConfig}
use Rattle.bpred_unit.specs.declared.predictor.Look.{Look}
use Rattle.bpred_unit.specs.declared.predictor.Predictor.{Predictor}
use Rattle.bpred_unit.specs.History.{Event, following, direction, branches, calls, stacked, cells_for, top_by, transfers, expected, returned, next_by, is_expected, look_of}
use Rattle.bpred_unit.specs.Parts.{popped_by}
use Rattle.bpred_unit.specs.Stands.{StandsFor, scheme_in, cells_of}

-- what the stack pops is where the instruction leads
pub by_stack : (cells : Option ℕ) (k : ControlKind) (c : PredConfig) (h : List Event) (pc a : ℕ)
    → cells ≡ cells_for c.ras → Some a ≡ popped_by cells k (calls h) → a ≡ next_by k c h pc
by_stack None k c h pc a is e = let no : Some a ≡ None = e in cc
by_stack (Some n) control.Return c h pc a is e =
    subst (λ o. a ≡ returned o c h pc) is (ap (λ o. unwrap_or o 0) e)
by_stack (Some n) control.Nothing c h pc a is e = let no : Some a ≡ None = e in cc
by_stack (Some n) control.Cond c h pc a is e = let no : Some a ≡ None = e in cc
by_stack (Some n) control.Jump c h pc a is e = let no : Some a ≡ None = e in cc
by_stack (Some n) control.Call c h pc a is e = let no : Some a ≡ None = e in cc

-- where the stack pops nothing, the buffer says where a taken instruction leads
by_buffer : (cells : Option ℕ) (k : ControlKind) (c : PredConfig) (h : List Event) (pc : ℕ)
    → cells ≡ cells_for c.ras → None ≡ popped_by cells k (calls h)
    → (if is_expected k (direction c h pc) then expected c h pc else following pc) ≡ next_by k c h pc
by_buffer cells control.Nothing c h pc is e = refl
by_buffer cells control.Cond c h pc is e = refl
by_buffer cells control.Jump c h pc is e = refl
by_buffer cells control.Call c h pc is e = refl
by_buffer None control.Return c h pc is e = ap (λ o. returned o c h pc) is
by_buffer (Some n) control.Return c h pc is e = let no : None ≡ Some (popped n (calls h)) = e in cc

-- whether the instruction is expected to be taken
pub expected_so : (v : Predictor) (c : PredConfig) (h : List Event) → StandsFor v c h
    → (k : ControlKind) (pc : ℕ) (taken : Bool)
    → taken ≡ is_expected k (predicted (scheme_in v.directions) (branches h) pc)
    → taken ≡ is_expected k (direction c h pc)
expected_so v c h st k pc taken t = t ∙ ap (λ s. is_expected k (predicted s (branches h) pc)) st.scheme

pub by_tables : (v : Predictor) (c : PredConfig) (h : List Event) → StandsFor v c h
    → (k : ControlKind) (pc : ℕ) (taken : Bool) (next : ℕ)
    → taken ≡ is_expected k (predicted (scheme_in v.directions) (branches h) pc)
    → next ≡ (if taken then unwrap_or (target_of (length v.buffer.sets) v.buffer.ways (transfers (cells_for c.ras) h) pc) (following pc) else following pc)
    → None ≡ popped_by (cells_of v) k (calls h)
    → next ≡ next_by k c h pc
by_tables v c h st k pc taken next t n none =
    let told = transfers (cells_for c.ras) h in
    let sets = subst (λ s. next ≡ (if taken then unwrap_or (target_of s v.buffer.ways told pc) (following pc) else following pc)) st.sets n in
    let ways = subst (λ w. next ≡ (if taken then unwrap_or (target_of c.btb_sets w told pc) (following pc) else following pc)) st.ways sets in
    subst (λ b. next ≡ (if b then expected c h pc else following pc)) (expected_so v c h st k pc taken t) ways
    ∙ by_buffer (cells_of v) k c h pc st.cells none

-- the three parts of an answer
pub answered : (c : PredConfig) (h : List Event) (pc : ℕ) (i : Instr) (k : ControlKind) (next : ℕ) (taken : Bool) (top : ℕ)
    → k ≡ control_of i → next ≡ next_by k c h pc → taken ≡ is_expected k (direction c h pc)
    → top ≡ top_by (cells_for c.ras) (stacked k pc (calls h))
    → ◌≡◌ {A = Look} (record { next = next; taken = taken; top = top }) (look_of c h pc i)
unfolding look_of
answered c h pc i k next taken top is n t p =
    let look : ℕ → Bool → ℕ → Look = λ a b d. record { next = a; taken = b; top = d } in
    ap (λ a. look a taken top) n
    ∙ ap (λ b. look (next_by k c h pc) b top) t
    ∙ ap (λ d. look (next_by k c h pc) (is_expected k (direction c h pc)) d) p
    ∙ ap (λ x. look (next_by x c h pc) (is_expected x (direction c h pc)) (top_by (cells_for c.ras) (stacked x pc (calls h)))) is
