-- How what the code keeps stands for what the definitions speak of.
use Rattle.std.specs.Prelude.{◌≡◌, ℕ, List, Result, Ok, Err, option_map, is_some}
use Rattle.ss_base.specs.declared.text_fault.TextWhy.{TextWhy}
use Rattle.ss_base.specs.declared.text_fault.AsmFault.{AsmFault}
use Rattle.ss_base.specs.declared.text_fault.AsmFault.TheVariants as faults
use Rattle.pisa_asm.specs.declared.statements.Stop.{Stop}
use Rattle.pisa_asm.specs.declared.statements.Stop.TheVariants as stops
use Rattle.pisa_asm.specs.declared.assembling.Findings.{Findings}
use Rattle.pisa_asm.specs.LabelMaps.{Holds}
use Rattle.pisa_asm.specs.Sheets.{is_known}
use Rattle.pisa_asm.specs.Statements.{Stated}
use Rattle.pisa_asm.specs.Passes.{Found, after_line, read, words_on}

-- findings stand for what was found: the same sections, entry and labels
pub record Matches (kept : Findings) (found : Found) : Type 0 where
  pub sheet : found.sheet ≡ kept.sheet
  pub entry : found.entry ≡ option_map (λ l. l.now) kept.entry
  pub labels : Holds kept.labels found.labels

-- the statement of the next line
abbrev pub next_read : Found → List ℕ → Result Stated TextWhy
next_read found line = read found.sheet (is_some found.entry) (is_known found.labels (words_on line).label) line

-- what a line makes of findings
abbrev pub StepsTo : Result Findings Stop → Found → List ℕ → Type 0
StepsTo (Ok kept) found line = (st : Stated) × (next_read found line ≡ Ok st) × Matches kept (after_line found (words_on line).label st)
StepsTo (Err stops.NoMemory) found line = Unit {0}
StepsTo (Err (stops.Wrong w)) found line = next_read found line ≡ Err w

-- an answer is this one, unless memory ran out
abbrev pub Comes : {A : Type 0} → Result A AsmFault → Result A AsmFault → Type 0
Comes (Ok x) answer = answer ≡ Ok x
Comes (Err faults.OutOfMemory) answer = Unit {0}
Comes (Err (faults.Bad line reason)) answer = answer ≡ Err (faults.Bad line reason)

-- the same of findings
abbrev pub Finds : Result Findings AsmFault → Result Found AsmFault → Type 0
Finds (Ok kept) answer = (found : Found) × (answer ≡ Ok found) × Matches kept found
Finds (Err faults.OutOfMemory) answer = Unit {0}
Finds (Err (faults.Bad line reason)) answer = answer ≡ Err (faults.Bad line reason)

-- the fault of a line
abbrev pub fault_at : ℕ → Stop → AsmFault
fault_at n stops.NoMemory = faults.OutOfMemory
fault_at n (stops.Wrong w) = faults.Bad n w
