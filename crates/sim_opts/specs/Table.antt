-- The table of options: each option's number, name, values, default and commands.
use Rattle.std.specs.Prelude.{ℕ, List, [], ◌∷◌, Bool, true, false, find, codes, bytes_eq, if◌then◌else◌, Option, Some, None}
use Rattle.sim_opts.specs.declared.table.Tool.{Tool}
use Rattle.sim_opts.specs.declared.table.Tool.TheVariants.{SimSafe, Record, Asm, Dis}
use Rattle.sim_opts.specs.declared.table.Slot.{Slot}
use Rattle.sim_opts.specs.declared.table.Slot.TheVariants as slot
use Rattle.sim_opts.specs.declared.table.Row.{Row as Kept}

-- an option: its number and name, what its values have to be, the number that holds where it is left
-- out (0 where none does), whether it stands among words alone, and how often it may stand on the
-- commands that have options
pub record Row : Type 0 where
  pub number : ℕ
  pub name : List ℕ
  pub slots : List Slot
  pub default : ℕ
  pub words_alone : Bool
  pub sim_safe : ℕ
  pub recording : ℕ

-- the row that a kept one stands for
abbrev pub row_in : Kept → Row
row_in r = record { number = r.number; name = r.name.now; slots = r.slots.now; default = r.default; words_alone = r.words_alone; sim_safe = r.sim_safe; recording = r.recording }

abbrev row : ℕ → List ℕ → List Slot → ℕ → Bool → ℕ → ℕ → Row
row n word shape value alone on_sim_safe on_record = record { number = n; name = word; slots = shape; default = value; words_alone = alone; sim_safe = on_sim_safe; recording = on_record }

-- an option of commands that aren't built
abbrev later : ℕ → List ℕ → Row
later n word = row n word [] 0 false 0 0

abbrev file : Slot
file = slot.File

abbrev most_instructions : Slot
most_instructions = slot.Number 1000000000000

-- number, name, values, default, among words alone, how often on sim-safe and on record
abbrev pub table : List Row
table =
    row 0 (codes "-config") (file ∷ []) 0 true 1 0 ∷
    row 1 (codes "-trace") (file ∷ []) 0 false 1 0 ∷
    row 2 (codes "-restart") (file ∷ []) 0 true 1 0 ∷
    row 3 (codes "-commits") (file ∷ []) 0 false 1 0 ∷
    later 4 (codes "-ptrace") ∷
    row 5 (codes "-chkpt") (file ∷ most_instructions ∷ []) 0 false 1 0 ∷
    row 6 (codes "-max:inst") (most_instructions ∷ []) 1000000000 false 1 1 ∷
    later 7 (codes "-max:cycles") ∷
    row 8 (codes "-fastfwd") (most_instructions ∷ []) 0 false 1 0 ∷
    row 9 (codes "-o") (file ∷ []) 0 false 0 1 ∷
    row 10 (codes "-in") (file ∷ []) 0 false 0 1 ∷
    row 11 (codes "-file") (file ∷ []) 0 false 0 8 ∷
    later 12 (codes "-cache:il1") ∷
    later 13 (codes "-cache:il2") ∷
    later 14 (codes "-cache:dl1") ∷
    later 15 (codes "-cache:dl2") ∷
    later 16 (codes "-tlb:itlb") ∷
    later 17 (codes "-tlb:dtlb") ∷
    later 18 (codes "-cache:il1lat") ∷
    later 19 (codes "-cache:dl1lat") ∷
    later 20 (codes "-cache:il2lat") ∷
    later 21 (codes "-cache:dl2lat") ∷
    later 22 (codes "-mem:lat") ∷
    later 23 (codes "-mem:width") ∷
    later 24 (codes "-tlb:lat") ∷
    later 25 (codes "-bpred") ∷
    later 26 (codes "-bpred:bimod") ∷
    later 27 (codes "-bpred:2lev") ∷
    later 28 (codes "-bpred:comb") ∷
    later 29 (codes "-bpred:btb") ∷
    later 30 (codes "-bpred:ras") ∷
    later 31 (codes "-fetch:ifqsize") ∷
    later 32 (codes "-fetch:mplat") ∷
    later 33 (codes "-decode:width") ∷
    later 34 (codes "-issue:width") ∷
    later 35 (codes "-commit:width") ∷
    later 36 (codes "-ruu:size") ∷
    later 37 (codes "-lsq:size") ∷
    later 38 (codes "-res:ialu") ∷
    later 39 (codes "-res:imult") ∷
    later 40 (codes "-res:memport") ∷
    later 41 (codes "-cache:fill") ∷
    later 42 (codes "-issue:inorder") ∷
    later 43 (codes "-issue:wrongpath") ∷ []

-- the option with a name
unfoldable pub row_named : List ℕ → Option Row
row_named word = find (λ r. bytes_eq r.name word) table

-- how often an option may stand on a command
abbrev pub most_of : Tool → Row → ℕ
most_of SimSafe r = r.sim_safe
most_of Record r = r.recording
most_of Asm r = 0
most_of Dis r = 0

abbrev pub tool_name : Tool → List ℕ
tool_name SimSafe = codes "sim-safe"
tool_name Record = codes "record"
tool_name Asm = codes "asm"
tool_name Dis = codes "dis"

-- the command with a name
unfoldable pub tool_named : List ℕ → Option Tool
tool_named word =
    if bytes_eq word (codes "sim-safe") then Some SimSafe else (
    if bytes_eq word (codes "record") then Some Record else (
    if bytes_eq word (codes "asm") then Some Asm else (
    if bytes_eq word (codes "dis") then Some Dis else None)))

-- the names of the commands that aren't built
unfoldable pub is_unbuilt_name : List ℕ → Bool
is_unbuilt_name word =
    if bytes_eq word (codes "sim-cache") then true else (
    if bytes_eq word (codes "sim-bpred") then true else (
    if bytes_eq word (codes "sim-outorder") then true else bytes_eq word (codes "bench")))
