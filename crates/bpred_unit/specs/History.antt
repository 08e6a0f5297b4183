-- What a predictor answers, as a function of all look-ups, updates and recoveries before.
use Rattle.std.specs.Prelude.{ℕ, zero, suc, ◌+◌, ◌%◌, ◌^◌, Bool, true, false, ◌&&◌, List, [], ◌∷◌, Option, Some, None, if◌then◌else◌}
use Rattle.std.specs.Option.{unwrap_or}
use Rattle.pisa_isa.specs.declared.instr.Instr.{Instr}
use Rattle.pisa_isa.specs.declared.classes.ControlKind.{ControlKind}
use Rattle.pisa_isa.specs.declared.classes.ControlKind.TheVariants as control
use Rattle.pisa_isa.specs.Classes.{control_of}
use Rattle.bpred_tables.specs.Updates as branch
use Rattle.bpred_tables.specs.Updates.{Scheme, Levels, Pair, Constant, Bimodal, Adaptive, Combining, predicted}
use Rattle.bpred_tables.specs.Buffer.{Entry, target_of}
use Rattle.bpred_tables.specs.Stack as stack
use Rattle.bpred_tables.specs.Stack.{Push, Pop, SetTop, popped, top_after, cell_after}
use Rattle.bpred_unit.specs.declared.config.PredKind.{PredKind}
use Rattle.bpred_unit.specs.declared.config.PredKind.TheVariants as kind
use Rattle.bpred_unit.specs.declared.config.PredConfig.{PredConfig}
use Rattle.bpred_unit.specs.declared.predictor.Look.{Look}

-- A call of a predictor: the instruction at pc was looked up; it was done, so that it is known whether it was taken and
-- which address followed; or the top of the return stack was put back. In a history the newest is first.
pub data Event : Type 0 where
  LookUp : (pc : ℕ) → (i : Instr) → Event
  Update : (pc : ℕ) → (i : Instr) → (taken : Bool) → (next : ℕ) → Event
  Recover : (top : ℕ) → Event

-- the address of the instruction behind the one at pc
abbrev pub following : ℕ → ℕ
following pc = (pc + 8) % 2 ^ 32

-- ---- directions

abbrev pub levels_of : PredConfig → Levels
levels_of c = record { first = c.l1; second = c.l2; width = c.width; xored = c.xor }

abbrev pub pair_of : PredConfig → Pair
pair_of c = record { bimodal_size = c.bimod; levels = levels_of c; choosers = c.meta }

abbrev pub scheme_by : PredKind → PredConfig → Scheme
scheme_by kind.NotTaken c = Constant false
scheme_by kind.Taken c = Constant true
scheme_by kind.Bimod c = Bimodal c.bimod
scheme_by kind.TwoLevel c = Adaptive (levels_of c)
scheme_by kind.Comb c = Combining (pair_of c)

-- which direction predictor a configuration has, with its sizes
abbrev pub scheme_of : PredConfig → Scheme
scheme_of c = scheme_by c.kind c

-- an update tells the directions where its instruction is a conditional branch
abbrev pub told : ControlKind → branch.Update → List branch.Update → List branch.Update
told control.Cond u older = u ∷ older
told _ u older = older

-- what the directions were told
abbrev pub branches : List Event → List branch.Update
branches [] = []
branches (LookUp pc i ∷ h) = branches h
branches (Update pc i taken next ∷ h) = told (control_of i) (record { pc = pc; taken = taken }) (branches h)
branches (Recover top ∷ h) = branches h

-- whether the conditional branch at pc is predicted taken
abbrev pub direction : PredConfig → List Event → ℕ → Bool
direction c h pc = predicted (scheme_of c) (branches h) pc

-- ---- return stack

-- the cells of a return stack of this size: there is none where the size is 0
abbrev pub cells_for : ℕ → Option ℕ
cells_for zero = None
cells_for (suc n) = Some (suc n)

-- a look-up of a call pushes the address behind it, and one of a return pops
abbrev pub stacked : ControlKind → ℕ → List stack.Call → List stack.Call
stacked control.Call pc older = Push (following pc) ∷ older
stacked control.Return pc older = Pop ∷ older
stacked _ pc older = older

-- the calls of the return stack. A recovery puts a top back and leaves the cells
abbrev pub calls : List Event → List stack.Call
calls [] = []
calls (LookUp pc i ∷ h) = stacked (control_of i) pc (calls h)
calls (Update pc i taken next ∷ h) = calls h
calls (Recover top ∷ h) = SetTop top ∷ calls h

-- its top, 0 where there is none
abbrev pub top_by : Option ℕ → List stack.Call → ℕ
top_by None done = 0
top_by (Some n) done = top_after n done

abbrev pub top_of : PredConfig → List Event → ℕ
top_of c h = top_by (cells_for c.ras) (calls h)

-- ---- target buffer

-- the buffer holds transfers of every kind, but no returns where there is a stack
abbrev pub is_held : Option ℕ → ControlKind → Bool
is_held cells control.Nothing = false
is_held cells control.Cond = true
is_held cells control.Jump = true
is_held cells control.Call = true
is_held None control.Return = true
is_held (Some n) control.Return = false

-- the taken transfers that the buffer was told
abbrev pub transfers : Option ℕ → List Event → List Entry
transfers cells [] = []
transfers cells (LookUp pc i ∷ h) = transfers cells h
transfers cells (Update pc i taken next ∷ h) =
    if taken && is_held cells (control_of i)
    then record { pc = pc; target = next } ∷ transfers cells h
    else transfers cells h
transfers cells (Recover top ∷ h) = transfers cells h

-- the target that the buffer has for pc, if it has one
abbrev pub held_target : PredConfig → List Event → ℕ → Option ℕ
held_target c h pc = target_of c.btb_sets c.btb_ways (transfers (cells_for c.ras) h) pc

-- where a taken transfer at pc is expected to lead
abbrev pub expected : PredConfig → List Event → ℕ → ℕ
expected c h pc = unwrap_or (held_target c h pc) (following pc)

-- ---- look-ups

-- where the return at pc is expected to lead: by the stack, or by the buffer where there is none
abbrev pub returned : Option ℕ → PredConfig → List Event → ℕ → ℕ
returned None c h pc = expected c h pc
returned (Some n) c h pc = popped n (calls h)

-- the next address after the instruction at pc, by how it directs control
abbrev pub next_by : ControlKind → PredConfig → List Event → ℕ → ℕ
next_by control.Nothing c h pc = following pc
next_by control.Cond c h pc = if direction c h pc then expected c h pc else following pc
next_by control.Jump c h pc = expected c h pc
next_by control.Call c h pc = expected c h pc
next_by control.Return c h pc = returned (cells_for c.ras) c h pc

-- whether it is expected to be taken, where a conditional branch would have this direction
abbrev pub is_expected : ControlKind → Bool → Bool
is_expected control.Nothing direction = false
is_expected control.Cond direction = direction
is_expected control.Jump direction = true
is_expected control.Call direction = true
is_expected control.Return direction = true

-- the answer of a look-up after this history. Its top is the one that the look-up itself leaves
unfoldable pub look_of : PredConfig → List Event → ℕ → Instr → Look
look_of c h pc i =
    record {
      next = next_by (control_of i) c h pc;
      taken = is_expected (control_of i) (direction c h pc);
      top = top_of c (LookUp pc i ∷ h);
    }
