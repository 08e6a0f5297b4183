-- Which line of bytes is the first one outside of the grammar, by fronts of texts and apart from any reader.
use Rattle.std.specs.Prelude.{◌≡◌, ◌++◌, ◌+◌, ◌^◌, ◌<◌, ℕ, suc, List, [], ◌∷◌, None, Result, Ok, Err, nat_eq, if◌then◌else◌}
use Rattle.ooo_table.specs.declared.event.Event.{Event}
use Rattle.ooo_table.specs.declared.event.Log.{Log}
use Rattle.pipetrace.specs.declared.fault.PipeFault.{PipeFault}
use Rattle.pipetrace.specs.declared.fault.PipeFault.TheVariants as faults
use Rattle.pipetrace.specs.Text.{cycle_line, events_text}
use Rattle.pipetrace.specs.Grammar.{InOrder, IsTextOf}

-- how many lines end in these bytes
abbrev pub line_count : List ℕ → ℕ
line_count [] = 0
line_count (b ∷ bs) = if nat_eq b 10 then suc (line_count bs) else line_count bs

-- whole lines that keep the rules as far as they go: those of events in order, these and the line of a later cycle, or a whole text
pub data IsFront (bytes : List ℕ) : Type 0 where
  EventLines : (es : List Event) → InOrder (2 ^ 62) None es → bytes ≡ events_text None es → IsFront bytes
  CycleLine : (es : List Event) → (c : ℕ) → InOrder c None es → c < 2 ^ 62 → bytes ≡ events_text None es ++ cycle_line c → IsFront bytes
  WholeText : (log : Log) → IsTextOf bytes log → IsFront bytes

-- the first bad line, by its number from 1: the lines before it keep the rules, with it they don't, or the bytes end before its
-- newline; and the bytes are no text
pub record IsFirstBad (bytes : List ℕ) (line : ℕ) : Type 0 where
  pub front : List ℕ
  pub rest : List ℕ
  pub parts : bytes ≡ front ++ rest
  pub keeps : IsFront front
  pub number : line ≡ line_count front + 1
  pub bad : (next more : List ℕ) → rest ≡ next ++ 10 ∷ more → line_count next ≡ 0 → IsFront (front ++ (next ++ 10 ∷ [])) → ⊥
  pub no_text : (log : Log) → IsTextOf bytes log → ⊥

-- what bytes are read as
abbrev pub Reads : List ℕ → Result Log PipeFault → Type 0
Reads bytes (Ok log) = IsTextOf bytes log
Reads bytes (Err (faults.Bad line)) = IsFirstBad bytes line
Reads bytes (Err faults.OutOfMemory) = Unit {0}
