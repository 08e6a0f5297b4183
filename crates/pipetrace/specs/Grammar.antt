-- Which logs are in the grammar, and which texts: those of these logs.
use Rattle.std.specs.Prelude.{◌≡◌, ◌^◌, ◌<◌, ◌⊎◌, ℕ, List, [], ◌∷◌, Option, Some, None}
use Rattle.pisa_step.specs.declared.cause.Cause.{Cause}
use Rattle.pisa_step.specs.declared.cause.Cause.TheVariants as cause
use Rattle.pisa_step.specs.declared.cause.Field.{Field}
use Rattle.pisa_step.specs.declared.cause.Field.TheVariants as field
use Rattle.ooo_table.specs.declared.event.Mark.{Mark}
use Rattle.ooo_table.specs.declared.event.Mark.TheVariants as mark
use Rattle.ooo_table.specs.declared.event.Event.{Event}
use Rattle.ooo_table.specs.declared.event.EndWord.{EndWord}
use Rattle.ooo_table.specs.declared.event.EndWord.TheVariants as word
use Rattle.ooo_table.specs.declared.event.Log.{Log}
use Rattle.pipetrace.specs.Text.{text_of}

-- ---- the order of events

-- the events of a cycle stand in six groups: commits, write-backs and returns, squashes, issues of both kinds,
-- dispatches, fetches
abbrev pub group : Mark → ℕ
group mark.Committed = 0
group mark.Written = 1
group mark.Returned = 1
group mark.Squashed = 2
group mark.Issued = 3
group mark.Accessed = 3
group mark.Dispatched = 4
group (mark.Fetched pc next queued) = 5

-- a later group, or a later row of the same group
abbrev pub LaterInCycle : Event → Event → Type 0
LaterInCycle a b = (group a.mark < group b.mark) ⊎ ((group a.mark ≡ group b.mark) × (a.row < b.row))

-- a later cycle, or later in the same one
abbrev pub Later : Event → Event → Type 0
Later a b = (a.cycle < b.cycle) ⊎ ((a.cycle ≡ b.cycle) × LaterInCycle a b)

abbrev pub Follows : Option Event → Event → Type 0
Follows None e = Unit {0}
Follows (Some before) e = Later before e

-- ---- the fields

abbrev pub IsMark : Mark → Type 0
IsMark (mark.Fetched pc next queued) = (pc < 2 ^ 32) × (next < 2 ^ 32) × (queued < 2 ^ 62)
IsMark mark.Dispatched = Unit {0}
IsMark mark.Issued = Unit {0}
IsMark mark.Written = Unit {0}
IsMark mark.Accessed = Unit {0}
IsMark mark.Returned = Unit {0}
IsMark mark.Committed = Unit {0}
IsMark mark.Squashed = Unit {0}

-- an event of a run of so many cycles
pub record IsEvent (cycles : ℕ) (e : Event) : Type 0 where
  pub cycle : e.cycle < cycles
  pub row : e.row < 2 ^ 62
  pub mark : IsMark e.mark

abbrev pub IsField : Field → Type 0
IsField field.Count = Unit {0}
IsField field.Pc = Unit {0}
IsField (field.Reg register) = register < 2 ^ 8
IsField (field.Byte addr) = addr < 2 ^ 32

-- why a run stopped, which is no exit
abbrev pub IsStop : Cause → Type 0
IsStop (cause.Exited code) = ⊥
IsStop cause.BadFetch = Unit {0}
IsStop cause.Illegal = Unit {0}
IsStop (cause.FloatingPoint opcode) = opcode < 2 ^ 16
IsStop (cause.Misaligned addr) = addr < 2 ^ 32
IsStop cause.Overflow = Unit {0}
IsStop cause.DivideByZero = Unit {0}
IsStop (cause.TextWrite addr) = addr < 2 ^ 32
IsStop cause.Break = Unit {0}
IsStop (cause.TraceEnd used) = used < 2 ^ 32
IsStop (cause.TraceMismatch f kept found) = IsField f × (kept < 2 ^ 62) × (found < 2 ^ 62)

abbrev pub IsEnd : EndWord → Type 0
IsEnd (word.Exited code) = code < 2 ^ 32
IsEnd word.Budget = Unit {0}
IsEnd (word.Stopped pc icnt why) = (pc < 2 ^ 32) × (icnt < 2 ^ 62) × IsStop why

-- ---- logs and texts

-- events one behind the other
abbrev pub InOrder : ℕ → Option Event → List Event → Type 0
InOrder cycles before [] = Unit {0}
InOrder cycles before (e ∷ es) = Follows before e × IsEvent cycles e × InOrder cycles (Some e) es

-- a log of the grammar; nothing is asked of which marks a row has
pub record IsLog (log : Log) : Type 0 where
  pub events : InOrder log.cycles None log.events
  pub cycles : log.cycles < 2 ^ 62
  pub end : IsEnd log.end

-- the grammar: these bytes are the text of that log
pub record IsTextOf (bytes : List ℕ) (log : Log) : Type 0 where
  pub is_log : IsLog log
  pub bytes_are : bytes ≡ text_of log
