-- What each part of an answer depends on.
use Rattle.std.specs.Prelude.{◌≡◌, ℕ, false, List, [], ◌∷◌, ◌⊎◌, Option, Some, None, IsTrue}
use Rattle.pisa_isa.specs.declared.instr.Instr.{Instr}
use Rattle.pisa_isa.specs.declared.classes.ControlKind.{ControlKind}
use Rattle.pisa_isa.specs.declared.classes.ControlKind.TheVariants as control
use Rattle.pisa_isa.specs.Classes.{control_of}
use Rattle.bpred_tables.specs.Stack.{Call, cell_after}
use Rattle.bpred_unit.specs.declared.config.PredConfig.{PredConfig}
use Rattle.bpred_unit.specs.History.{Event, LookUp, Update, Recover, direction, held_target, top_of, cells_for, calls, look_of}

-- the update of a conditional branch
abbrev pub TellsDirections : Event → Type 0
TellsDirections (LookUp pc i) = ⊥
TellsDirections (Update pc i taken next) = control_of i ≡ control.Cond
TellsDirections (Recover top) = ⊥

-- no branch is predicted otherwise after this event
abbrev pub LeavesDirections : PredConfig → List Event → Event → Type 0
LeavesDirections c h e = (pc : ℕ) → direction c (e ∷ h) pc ≡ direction c h pc

-- all transfers have targets in the buffer, but no returns where there is a stack
abbrev pub HasTarget : ℕ → ControlKind → Type 0
HasTarget ras control.Nothing = ⊥
HasTarget ras control.Cond = Unit {0}
HasTarget ras control.Jump = Unit {0}
HasTarget ras control.Call = Unit {0}
HasTarget ras control.Return = ras ≡ 0

-- the update of a taken transfer that has a target in the buffer
abbrev pub TellsBuffer : PredConfig → Event → Type 0
TellsBuffer c (LookUp pc i) = ⊥
TellsBuffer c (Update pc i taken next) = IsTrue taken × HasTarget c.ras (control_of i)
TellsBuffer c (Recover top) = ⊥

-- no other target is held after this event
abbrev pub LeavesTargets : PredConfig → List Event → Event → Type 0
LeavesTargets c h e = (pc : ℕ) → held_target c (e ∷ h) pc ≡ held_target c h pc

abbrev pub IsCallOrReturn : ControlKind → Type 0
IsCallOrReturn control.Nothing = ⊥
IsCallOrReturn control.Cond = ⊥
IsCallOrReturn control.Jump = ⊥
IsCallOrReturn control.Call = Unit {0}
IsCallOrReturn control.Return = Unit {0}

-- the look-up of a call or return, or a recovery
abbrev pub ChangesStack : Event → Type 0
ChangesStack (LookUp pc i) = IsCallOrReturn (control_of i)
ChangesStack (Update pc i taken next) = ⊥
ChangesStack (Recover top) = Unit {0}

-- cell k of the return stack, 0 where there is no stack
abbrev pub cell_by : Option ℕ → ℕ → List Call → ℕ
cell_by None k done = 0
cell_by (Some n) k done = cell_after n k done

abbrev pub cell_of : PredConfig → List Event → ℕ → ℕ
cell_of c h k = cell_by (cells_for c.ras) k (calls h)

-- the stack is the same after this event
pub record LeavesStack (c : PredConfig) (h : List Event) (e : Event) : Type 0 where
  pub top : top_of c (e ∷ h) ≡ top_of c h
  pub cells : (k : ℕ) → cell_of c (e ∷ h) k ≡ cell_of c h k

-- A recovery, after any later events, to the top that the look-up of an instruction answered: the top is what it was
-- after that look-up, and every cell is what it was right before the recovery.
pub record PutsTopBack (c : PredConfig) (h : List Event) (pc : ℕ) (i : Instr) (later : List Event) : Type 0 where
  pub top : top_of c (Recover (look_of c h pc i).top ∷ later) ≡ top_of c (LookUp pc i ∷ h)
  pub cells : (k : ℕ) → cell_of c (Recover (look_of c h pc i).top ∷ later) k ≡ cell_of c later k

-- no update was of a taken transfer
abbrev pub SawNoTransfer : List Event → Type 0
SawNoTransfer [] = Unit {0}
SawNoTransfer (LookUp pc i ∷ h) = SawNoTransfer h
SawNoTransfer (Update pc i taken next ∷ h) = (taken ≡ false ⊎ control_of i ≡ control.Nothing) × SawNoTransfer h
SawNoTransfer (Recover top ∷ h) = SawNoTransfer h
