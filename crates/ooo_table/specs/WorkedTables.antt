-- The worked tables: what short programs show, with the cycles of all marks.
use Rattle.std.specs.Prelude.{ℕ, Bool, true, false, List, [], ◌∷◌, Some}
use Rattle.pisa_isa.specs.declared.instr.Op.TheVariants as op
use Rattle.pisa_isa.specs.declared.instr.Instr.{Instr}
use Rattle.mem_hier.specs.declared.config.HierConfig.{HierConfig}
use Rattle.mem_hier.specs.declared.config.Level.TheVariants.{Own}
use Rattle.mem_hier.specs.Laws.{default_config}
use Rattle.bpred_unit.specs.declared.config.PredKind.TheVariants as kind
use Rattle.ooo_table.specs.declared.config.OooConfig.{OooConfig}
use Rattle.ooo_table.specs.MachineLaws.{bare_hierarchy}
use Rattle.ooo_table.specs.Machine.{Given, nop}
use Rattle.ooo_table.specs.Worked.{run_of, default_machine, by_immediate, by_registers, memory_at, syscall, Shows, dash, row, load, tally}

-- ---- the first object: two additions and the exit

abbrev pub first_object : List Instr
first_object = by_immediate op.Addiu 2 0 1 ∷ by_immediate op.Addiu 4 0 7 ∷ syscall ∷ []

-- under the defaults. The first fetch misses everywhere
abbrev pub FirstObject : List (List ℕ) → Type 0
FirstObject args =
    Shows (run_of default_machine (default_config false) kind.Bimod first_object args) 45 2
    (row 0x00 0 38 (Some 39) (Some 40) (Some 41) (Some 42) dash
    ∷ row 0x08 38 38 (Some 39) (Some 40) (Some 41) (Some 42) dash
    ∷ row 0x10 38 38 (Some 42) (Some 43) (Some 44) (Some 45) dash
    ∷ row 0x18 38 38 dash dash dash dash dash
    ∷ row 0x20 39 39 dash dash dash dash dash
    ∷ row 0x28 39 39 dash dash dash dash dash
    ∷ row 0x30 42 42 dash dash dash dash dash
    ∷ [])
    (tally 3 0 0 0 1 7 3 0 0 0 0)

-- with one of everything, and a unit of two places
abbrev pub narrow_machine : OooConfig
narrow_machine = record default_machine { ifq = 1; decode = 1; issue = 1; commit = 1; ruu = 2; lsq = 2; ports = 1 }

abbrev pub FirstObjectOnNarrowMachine : List (List ℕ) → Type 0
FirstObjectOnNarrowMachine args =
    Shows (run_of narrow_machine bare_hierarchy kind.Bimod first_object args) 8 2
    (row 0x00 0 0 (Some 1) (Some 2) (Some 3) (Some 4) dash
    ∷ row 0x08 1 1 (Some 2) (Some 3) (Some 4) (Some 5) dash
    ∷ row 0x10 2 2 (Some 5) (Some 6) (Some 7) (Some 8) dash
    ∷ row 0x18 5 5 dash dash dash dash dash
    ∷ [])
    (tally 3 0 0 0 1 4 3 0 0 0 0)

-- ---- a mispredicted branch, with a load and a store on the wrong path

abbrev pub branch_program : List Instr
branch_program =
    by_immediate op.Addiu 9 0 1
    ∷ by_immediate op.Bne 0 9 8
    ∷ memory_at op.Lw 10 0 29
    ∷ memory_at op.Sw 10 4 29
    ∷ nop
    ∷ nop
    ∷ by_immediate op.Addiu 2 0 1
    ∷ by_immediate op.Addiu 4 0 0
    ∷ syscall
    ∷ []

abbrev pub MispredictedBranch : List (List ℕ) → Type 0
MispredictedBranch args =
    Shows (run_of default_machine bare_hierarchy kind.NotTaken branch_program args) 14 14
    (row 0x00 0 0 (Some 1) (Some 2) (Some 3) (Some 4) dash
    ∷ row 0x08 0 0 (Some 1) (Some 3) (Some 4) (Some 5) dash
    ∷ load 0x10 0 0 (Some 1) (Some 2) (Some 3) (Some 3) (Some 4) dash (Some 4)
    ∷ row 0x18 0 0 (Some 1) (Some 2) (Some 3) dash (Some 4)
    ∷ row 0x20 1 1 (Some 2) (Some 3) (Some 4) dash (Some 4)
    ∷ row 0x28 1 1 (Some 2) (Some 3) (Some 4) dash (Some 4)
    ∷ row 0x30 1 1 (Some 2) dash dash dash (Some 4)
    ∷ row 0x38 1 1 (Some 2) dash dash dash (Some 4)
    ∷ row 0x40 2 2 dash dash dash dash (Some 4)
    ∷ row 0x48 2 2 dash dash dash dash (Some 4)
    ∷ row 0x50 2 2 dash dash dash dash (Some 4)
    ∷ row 0x58 2 2 dash dash dash dash (Some 4)
    ∷ row 0x30 7 7 (Some 8) (Some 9) (Some 10) (Some 11) dash
    ∷ row 0x38 7 7 (Some 8) (Some 9) (Some 10) (Some 11) dash
    ∷ row 0x40 7 7 (Some 11) (Some 12) (Some 13) (Some 14) dash
    ∷ row 0x48 7 7 dash dash dash dash dash
    ∷ row 0x50 8 8 dash dash dash dash dash
    ∷ row 0x58 8 8 dash dash dash dash dash
    ∷ row 0x60 11 11 dash dash dash dash dash
    ∷ [])
    (tally 5 0 0 1 1 19 11 10 1 0 0)

-- where wrong rows don't issue
abbrev pub BranchWithoutWrongIssue : List (List ℕ) → Type 0
BranchWithoutWrongIssue args =
    Shows (run_of (record default_machine { wrong_issue = false }) bare_hierarchy kind.NotTaken branch_program args) 14 14
    (row 0x00 0 0 (Some 1) (Some 2) (Some 3) (Some 4) dash
    ∷ row 0x08 0 0 (Some 1) (Some 3) (Some 4) (Some 5) dash
    ∷ row 0x10 0 0 (Some 1) dash dash dash (Some 4)
    ∷ row 0x18 0 0 (Some 1) dash dash dash (Some 4)
    ∷ row 0x20 1 1 (Some 2) dash dash dash (Some 4)
    ∷ row 0x28 1 1 (Some 2) dash dash dash (Some 4)
    ∷ row 0x30 1 1 (Some 2) dash dash dash (Some 4)
    ∷ row 0x38 1 1 (Some 2) dash dash dash (Some 4)
    ∷ row 0x40 2 2 dash dash dash dash (Some 4)
    ∷ row 0x48 2 2 dash dash dash dash (Some 4)
    ∷ row 0x50 2 2 dash dash dash dash (Some 4)
    ∷ row 0x58 2 2 dash dash dash dash (Some 4)
    ∷ row 0x30 7 7 (Some 8) (Some 9) (Some 10) (Some 11) dash
    ∷ row 0x38 7 7 (Some 8) (Some 9) (Some 10) (Some 11) dash
    ∷ row 0x40 7 7 (Some 11) (Some 12) (Some 13) (Some 14) dash
    ∷ row 0x48 7 7 dash dash dash dash dash
    ∷ row 0x50 8 8 dash dash dash dash dash
    ∷ row 0x58 8 8 dash dash dash dash dash
    ∷ row 0x60 11 11 dash dash dash dash dash
    ∷ [])
    (tally 5 0 0 1 1 19 11 10 1 0 0)

-- ---- a store on the wrong path that would write to the text, which does nothing

abbrev pub text_store_program : List Instr
text_store_program =
    by_immediate op.Lui 11 0 64
    ∷ by_immediate op.Addiu 9 0 1
    ∷ by_immediate op.Bne 0 9 8
    ∷ memory_at op.Lw 10 0 29
    ∷ memory_at op.Sw 0 0 11
    ∷ nop
    ∷ nop
    ∷ by_immediate op.Addiu 2 0 1
    ∷ by_immediate op.Addiu 4 0 0
    ∷ syscall
    ∷ []

abbrev pub text_store_run : List (List ℕ) → Given
text_store_run args = run_of default_machine bare_hierarchy kind.NotTaken text_store_program args

abbrev pub WrongStoreToText : List (List ℕ) → Type 0
WrongStoreToText args =
    Shows (text_store_run args) 14 15
    (row 0x00 0 0 (Some 1) (Some 2) (Some 3) (Some 4) dash
    ∷ row 0x08 0 0 (Some 1) (Some 2) (Some 3) (Some 4) dash
    ∷ row 0x10 0 0 (Some 1) (Some 3) (Some 4) (Some 5) dash
    ∷ load 0x18 0 0 (Some 1) (Some 2) (Some 3) (Some 3) (Some 4) dash (Some 4)
    ∷ row 0x20 1 1 (Some 2) (Some 3) (Some 4) dash (Some 4)
    ∷ row 0x28 1 1 (Some 2) (Some 3) (Some 4) dash (Some 4)
    ∷ row 0x30 1 1 (Some 2) dash dash dash (Some 4)
    ∷ row 0x38 1 1 (Some 2) dash dash dash (Some 4)
    ∷ row 0x40 2 2 (Some 3) dash dash dash (Some 4)
    ∷ row 0x48 2 2 dash dash dash dash (Some 4)
    ∷ row 0x50 2 2 dash dash dash dash (Some 4)
    ∷ row 0x58 2 2 dash dash dash dash (Some 4)
    ∷ row 0x60 3 3 dash dash dash dash (Some 4)
    ∷ row 0x38 7 7 (Some 8) (Some 9) (Some 10) (Some 11) dash
    ∷ row 0x40 7 7 (Some 8) (Some 9) (Some 10) (Some 11) dash
    ∷ row 0x48 7 7 (Some 11) (Some 12) (Some 13) (Some 14) dash
    ∷ row 0x50 7 7 dash dash dash dash dash
    ∷ row 0x58 8 8 dash dash dash dash dash
    ∷ row 0x60 8 8 dash dash dash dash dash
    ∷ row 0x68 11 11 dash dash dash dash dash
    ∷ [])
    (tally 6 0 0 1 1 20 12 10 1 0 0)

-- ---- a load behind a store whose address isn't known yet and which has its block, and a load of another block

abbrev pub store_program : List Instr
store_program =
    by_immediate op.Lui 8 0 4096
    ∷ by_registers op.Addu 9 8 0
    ∷ memory_at op.Sw 0 0 9
    ∷ memory_at op.Lw 10 4 8
    ∷ memory_at op.Lw 11 8 8
    ∷ by_immediate op.Addiu 2 0 1
    ∷ by_immediate op.Addiu 4 0 0
    ∷ syscall
    ∷ []

-- no caches, and each reference of a load takes 5
abbrev pub slow_loads : HierConfig
slow_loads = record bare_hierarchy { dl1lat = 5 }

abbrev pub StoreAndLoads : List (List ℕ) → Type 0
StoreAndLoads args =
    Shows (run_of default_machine slow_loads kind.Bimod store_program args) 14 7
    (row 0x00 0 0 (Some 1) (Some 2) (Some 3) (Some 4) dash
    ∷ row 0x08 0 0 (Some 1) (Some 3) (Some 4) (Some 5) dash
    ∷ row 0x10 0 0 (Some 1) (Some 4) (Some 5) (Some 6) dash
    ∷ load 0x18 0 0 (Some 1) (Some 3) (Some 4) (Some 5) (Some 6) (Some 7) dash
    ∷ load 0x20 1 1 (Some 2) (Some 3) (Some 4) (Some 5) (Some 10) (Some 11) dash
    ∷ row 0x28 1 1 (Some 2) (Some 3) (Some 4) (Some 11) dash
    ∷ row 0x30 1 1 (Some 2) (Some 4) (Some 5) (Some 11) dash
    ∷ row 0x38 1 1 (Some 11) (Some 12) (Some 13) (Some 14) dash
    ∷ row 0x40 2 2 dash dash dash dash dash
    ∷ row 0x48 2 2 dash dash dash dash dash
    ∷ row 0x50 2 2 dash dash dash dash dash
    ∷ row 0x58 11 11 dash dash dash dash dash
    ∷ [])
    (tally 8 2 1 0 1 12 8 0 0 1 0)

-- where issue is in order
abbrev pub StoreAndLoadsInOrder : List (List ℕ) → Type 0
StoreAndLoadsInOrder args =
    Shows (run_of (record default_machine { in_order = true }) slow_loads kind.Bimod store_program args) 14 7
    (row 0x00 0 0 (Some 1) (Some 2) (Some 3) (Some 4) dash
    ∷ row 0x08 0 0 (Some 1) (Some 3) (Some 4) (Some 5) dash
    ∷ row 0x10 0 0 (Some 1) (Some 4) (Some 5) (Some 6) dash
    ∷ load 0x18 0 0 (Some 1) (Some 4) (Some 5) (Some 5) (Some 6) (Some 7) dash
    ∷ load 0x20 1 1 (Some 2) (Some 4) (Some 5) (Some 5) (Some 10) (Some 11) dash
    ∷ row 0x28 1 1 (Some 2) (Some 4) (Some 5) (Some 11) dash
    ∷ row 0x30 1 1 (Some 2) (Some 5) (Some 6) (Some 11) dash
    ∷ row 0x38 1 1 (Some 11) (Some 12) (Some 13) (Some 14) dash
    ∷ row 0x40 2 2 dash dash dash dash dash
    ∷ row 0x48 2 2 dash dash dash dash dash
    ∷ row 0x50 2 2 dash dash dash dash dash
    ∷ row 0x58 11 11 dash dash dash dash dash
    ∷ [])
    (tally 8 2 1 0 1 12 8 0 0 1 0)

-- ---- two divisions with one unit, which each holds for 19 cycles

abbrev pub divide_program : List Instr
divide_program =
    by_immediate op.Addiu 8 0 7
    ∷ by_immediate op.Addiu 9 0 2
    ∷ by_registers op.Div 0 8 9
    ∷ by_registers op.Div 0 8 9
    ∷ by_immediate op.Addiu 2 0 1
    ∷ by_immediate op.Addiu 4 0 0
    ∷ syscall
    ∷ []

abbrev pub TwoDivisions : List (List ℕ) → Type 0
TwoDivisions args =
    Shows (run_of default_machine bare_hierarchy kind.Bimod divide_program args) 46 6
    (row 0x00 0 0 (Some 1) (Some 2) (Some 3) (Some 4) dash
    ∷ row 0x08 0 0 (Some 1) (Some 2) (Some 3) (Some 4) dash
    ∷ row 0x10 0 0 (Some 1) (Some 3) (Some 23) (Some 24) dash
    ∷ row 0x18 0 0 (Some 1) (Some 22) (Some 42) (Some 43) dash
    ∷ row 0x20 1 1 (Some 2) (Some 3) (Some 4) (Some 43) dash
    ∷ row 0x28 1 1 (Some 2) (Some 3) (Some 4) (Some 43) dash
    ∷ row 0x30 1 1 (Some 43) (Some 44) (Some 45) (Some 46) dash
    ∷ row 0x38 1 1 dash dash dash dash dash
    ∷ row 0x40 2 2 dash dash dash dash dash
    ∷ row 0x48 2 2 dash dash dash dash dash
    ∷ row 0x50 43 43 dash dash dash dash dash
    ∷ [])
    (tally 7 0 0 0 1 11 7 0 0 0 0)

-- ---- a call behind a full unit of two places

abbrev pub multiply_program : List Instr
multiply_program =
    by_immediate op.Addiu 2 0 1 ∷ by_immediate op.Addiu 4 0 0 ∷ by_registers op.Mult 0 2 4 ∷ syscall ∷ []

abbrev pub CallBehindFullUnit : List (List ℕ) → Type 0
CallBehindFullUnit args =
    Shows (run_of (record default_machine { ruu = 2 }) bare_hierarchy kind.Bimod multiply_program args) 12 3
    (row 0x00 0 0 (Some 1) (Some 2) (Some 3) (Some 4) dash
    ∷ row 0x08 0 0 (Some 1) (Some 2) (Some 3) (Some 4) dash
    ∷ row 0x10 0 0 (Some 4) (Some 5) (Some 8) (Some 9) dash
    ∷ row 0x18 0 0 (Some 9) (Some 10) (Some 11) (Some 12) dash
    ∷ row 0x20 1 1 dash dash dash dash dash
    ∷ row 0x28 1 1 dash dash dash dash dash
    ∷ row 0x30 4 4 dash dash dash dash dash
    ∷ row 0x38 9 9 dash dash dash dash dash
    ∷ [])
    (tally 4 0 0 0 1 8 4 0 0 0 0)

-- ---- two loads of one block, through a first level of one line

abbrev pub load_program : List Instr
load_program =
    memory_at op.Lw 8 0 29
    ∷ memory_at op.Lw 9 4 29
    ∷ by_registers op.Addu 10 9 9
    ∷ by_immediate op.Addiu 2 0 1
    ∷ by_immediate op.Addiu 4 0 0
    ∷ syscall
    ∷ []

abbrev pub one_line : Bool → HierConfig
one_line wait =
    record bare_hierarchy { dl1 = Own (record { sets = 1; block = 32; ways = 1; fifo = false }); wait = wait }

-- the second load hits, at once
abbrev pub TwoLoadsAtOnce : List (List ℕ) → Type 0
TwoLoadsAtOnce args =
    Shows (run_of default_machine (one_line false) kind.Bimod load_program args) 33 5
    (load 0x00 0 0 (Some 1) (Some 2) (Some 3) (Some 3) (Some 28) (Some 29) dash
    ∷ load 0x08 0 0 (Some 1) (Some 2) (Some 3) (Some 3) (Some 4) (Some 29) dash
    ∷ row 0x10 0 0 (Some 1) (Some 4) (Some 5) (Some 29) dash
    ∷ row 0x18 0 0 (Some 1) (Some 2) (Some 3) (Some 29) dash
    ∷ row 0x20 1 1 (Some 2) (Some 3) (Some 4) (Some 30) dash
    ∷ row 0x28 1 1 (Some 30) (Some 31) (Some 32) (Some 33) dash
    ∷ row 0x30 1 1 dash dash dash dash dash
    ∷ row 0x38 1 1 dash dash dash dash dash
    ∷ row 0x40 2 2 dash dash dash dash dash
    ∷ row 0x48 30 30 dash dash dash dash dash
    ∷ [])
    (tally 6 2 0 0 1 10 6 0 0 0 0)

-- the second load waits for the line of the first
abbrev pub TwoLoadsInFlight : List (List ℕ) → Type 0
TwoLoadsInFlight args =
    Shows (run_of default_machine (one_line true) kind.Bimod load_program args) 33 5
    (load 0x00 0 0 (Some 1) (Some 2) (Some 3) (Some 3) (Some 28) (Some 29) dash
    ∷ load 0x08 0 0 (Some 1) (Some 2) (Some 3) (Some 3) (Some 28) (Some 29) dash
    ∷ row 0x10 0 0 (Some 1) (Some 28) (Some 29) (Some 30) dash
    ∷ row 0x18 0 0 (Some 1) (Some 2) (Some 3) (Some 30) dash
    ∷ row 0x20 1 1 (Some 2) (Some 3) (Some 4) (Some 30) dash
    ∷ row 0x28 1 1 (Some 30) (Some 31) (Some 32) (Some 33) dash
    ∷ row 0x30 1 1 dash dash dash dash dash
    ∷ row 0x38 1 1 dash dash dash dash dash
    ∷ row 0x40 2 2 dash dash dash dash dash
    ∷ row 0x48 30 30 dash dash dash dash dash
    ∷ [])
    (tally 6 2 0 0 1 10 6 0 0 0 0)
