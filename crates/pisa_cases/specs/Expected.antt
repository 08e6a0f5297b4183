-- What a command must have come to, for its case to pass.
use Rattle.ss_base.specs.Outside.{Files}
use Rattle.std.specs.Prelude.{◌≡◌, ℕ, List, Option, Some, None}
use Rattle.pisa_cases.specs.declared.case.ExpectedEnding.{ExpectedEnding}
use Rattle.pisa_cases.specs.declared.case.Expected.{Expected}

-- the status and the words for the ending are the expected ones, and some are expected
abbrev pub IsEnding : Option ExpectedEnding → ℕ → List ℕ → Type 0
IsEnding None status words = ⊥
IsEnding (Some ending) status words = (ending.status ≡ status) × (ending.words ≡ words)

-- ending, output and report are the expected ones, and each of the three is expected
pub record Agrees (expected : Expected) (status : ℕ) (words output report : List ℕ) : Type 0 where
  pub ending : IsEnding expected.ending status words
  pub output_is : expected.output ≡ Some output
  pub report_is : expected.report ≡ Some report

-- a file is held alike by both, or by neither
abbrev pub IsSame : Files → Files → List ℕ → Type 0
IsSame found wanted name = found name ≡ wanted name
