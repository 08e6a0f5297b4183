-- What each part of an answer depends on.
use Rattle.std.proofs.Common.{◌≡◌, ℕ, zero, suc, Bool, true, false, ◌&&◌, ◌==◌, List, [], ◌∷◌, ◌⊎◌, inl, inr, Option, Some, None, if◌then◌else◌, find, option_map, take, refl, ◌∙◌, ap}
use Rattle.std.specs.Option.{unwrap_or}
use Rattle.pisa_isa.specs.declared.instr.Instr.{Instr}
use Rattle.pisa_isa.specs.declared.classes.ControlKind.{ControlKind}
use Rattle.pisa_isa.specs.declared.classes.ControlKind.TheVariants as control
use Rattle.pisa_isa.specs.Classes.{control_of}
use Rattle.bpred_tables.specs.Updates.{predicted}
use Rattle.bpred_tables.specs.Buffer.{Entry, target_of}
use Rattle.bpred_tables.specs.Stack.{Call, SetTop}
use Rattle.bpred_unit.specs.declared.config.PredKind.TheVariants as kind
use Rattle.bpred_unit.specs.declared.config.PredConfig.{PredConfig}
use Rattle.bpred_unit.specs.History.{Event, LookUp, Update, Recover, following, scheme_by, branches, direction, cells_for, calls, top_by, is_held, transfers, expected, returned, next_by, look_of}
use Rattle.bpred_unit.specs.Laws.{cell_by, PutsTopBack, SawNoTransfer}

top_put_back : (cells : Option ℕ) (done later : List Call) → top_by cells (SetTop (top_by cells done) ∷ later) ≡ top_by cells done
top_put_back None done later = refl
top_put_back (Some n) done later = refl

cell_kept : (cells : Option ℕ) (k top : ℕ) (later : List Call) → cell_by cells k (SetTop top ∷ later) ≡ cell_by cells k later
cell_kept None k top later = refl
cell_kept (Some n) k top later = refl

pub put_back : (c : PredConfig) (h : List Event) (pc : ℕ) (i : Instr) (later : List Event) → PutsTopBack c h pc i later
unfolding look_of
put_back c h pc i later =
    record {
      top = top_put_back (cells_for c.ras) (calls (LookUp pc i ∷ h)) (calls later);
      cells = λ k. cell_kept (cells_for c.ras) k (look_of c h pc i).top (calls later);
    }

-- ---- nothing seen

not_told : (k : ControlKind) (taken : Bool) (u : Entry) (older : List Entry)
    → (taken ≡ false ⊎ k ≡ control.Nothing)
    → (if taken && is_held None k then u ∷ older else older) ≡ older
not_told k taken u older (inl e) = ap (λ t. if t && is_held None k then u ∷ older else older) e
not_told k taken u older (inr e) =
    ap (λ x. if taken && is_held None x then u ∷ older else older) e
    ∙ elim taken as (λ t. (if t && false then u ∷ older else older) ≡ older) [ true ↦ refl | false ↦ refl ]

nothing_told : (h : List Event) → SawNoTransfer h → transfers None h ≡ []
nothing_told [] saw = refl
nothing_told (LookUp pc i ∷ h) saw = nothing_told h saw
nothing_told (Update pc i taken next ∷ h) saw =
    not_told (control_of i) taken (record { pc = pc; target = next }) (transfers None h) saw.0 ∙ nothing_told h saw.1
nothing_told (Recover top ∷ h) saw = nothing_told h saw

take_none : (n : ℕ) → take {A = Entry} n [] ≡ []
take_none zero = refl
take_none (suc n) = refl

no_target : (sets ways pc : ℕ) → target_of sets ways [] pc ≡ None
no_target sets ways pc = ap (λ (es : List Entry). option_map (λ e. e.target) (find (λ e. e.pc == pc) es)) (take_none ways)

either_way : (b : Bool) (m n : ℕ) → m ≡ n → (if b then m else n) ≡ n
either_way true m n e = e
either_way false m n e = refl

behind : (k : ControlKind) (c : PredConfig) (h : List Event) (pc : ℕ) → cells_for c.ras ≡ None
    → expected c h pc ≡ following pc → next_by k c h pc ≡ following pc
behind control.Nothing c h pc none e = refl
behind control.Cond c h pc none e = either_way (direction c h pc) (expected c h pc) (following pc) e
behind control.Jump c h pc none e = e
behind control.Call c h pc none e = e
behind control.Return c h pc none e = ap (λ o. returned o c h pc) none ∙ e

pub unseen : (c : PredConfig) (h : List Event) (pc : ℕ) (i : Instr) → c.ras ≡ 0 → SawNoTransfer h → (look_of c h pc i).next ≡ following pc
unfolding look_of
unseen c h pc i size saw =
    let none : cells_for c.ras ≡ None = ap cells_for size in
    let target : List Entry → Option ℕ = λ told. target_of c.btb_sets c.btb_ways told pc in
    behind (control_of i) c h pc none
    (ap (λ o. unwrap_or (target (transfers o h)) (following pc)) none
    ∙ ap (λ told. unwrap_or (target told) (following pc)) (nothing_told h saw)
    ∙ ap (λ o. unwrap_or o (following pc)) (no_target c.btb_sets c.btb_ways pc))

pub not_taken : (c : PredConfig) (h : List Event) (pc : ℕ) (i : Instr)
    → c.kind ≡ kind.NotTaken → control_of i ≡ control.Cond → (look_of c h pc i).next ≡ following pc
unfolding look_of
not_taken c h pc i none is =
    ap (λ k. next_by k c h pc) is
    ∙ ap (λ k. if predicted (scheme_by k c) (branches h) pc then expected c h pc else following pc) none
