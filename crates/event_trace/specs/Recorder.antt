-- Recording: a trace that gets the record of each call that the closed world answers, within limits.
use Rattle.std.specs.Prelude.{◌≡◌, ◌++◌, ℕ, Bool, true, false, List, [], ◌∷◌, length, Result, Ok, Err, nat_le, if◌then◌else◌}
use Rattle.ss_base.specs.declared.fault.OutOfMemory.{OutOfMemory}
use Rattle.event_trace.specs.declared.trace.Record.{Record}
use Rattle.event_trace.specs.declared.trace.Trace.{Trace}
use Rattle.event_trace.specs.Grammar.{trace_bytes, next_record}
use Rattle.event_trace.specs.World.{WorldState}

-- a world and the trace that was recorded so far
pub record RecorderState : Type 0 where
  pub world : WorldState
  pub trace : Trace

-- the trace of a run before its first call, in version 2
abbrev pub empty_trace : Bool → Trace
empty_trace big = record { file = true; version = 2; big = big; records = [] }

-- a trace with further records at its end
abbrev pub with_more : Trace → List Record → Trace
with_more t more = record t { records = t.records ++ more }

-- how many bytes a trace has
unfoldable pub trace_size : Trace → ℕ
trace_size t = length (trace_bytes t)

-- a trace is within the limits of recording: 1,000,000 records and 67,108,864 bytes
unfoldable pub is_within_limits : Trace → Bool
is_within_limits t = if nat_le (length t.records) 1000000 then nat_le (trace_size t) 67108864 else false

-- the least number of instructions that the next record may have
abbrev pub next_count : ℕ → List Record → ℕ
next_count least [] = least
next_count least (r ∷ rs) = next_count (next_record r) rs

-- what comes of a call that a world answers with a record: the record is added and the next world is
-- the one that the world left; or it would bring the trace above its limits, or memory runs out, and
-- world and trace are as before
abbrev pub Takes : Record × WorldState → RecorderState → RecorderState → Result Bool OutOfMemory → Type 0
Takes answer old new (Ok true) =
    (new ≡ record { world = answer.1; trace = with_more old.trace (answer.0 ∷ []) }) × (is_within_limits (with_more old.trace (answer.0 ∷ [])) ≡ true)
Takes answer old new (Ok false) = (new ≡ old) × (is_within_limits (with_more old.trace (answer.0 ∷ [])) ≡ false)
Takes answer old new (Err _) = new ≡ old

-- a record is added to a trace, or would bring it above its limits and isn't
abbrev pub Adds : Record → RecorderState → RecorderState → Result Bool OutOfMemory → Type 0
Adds r old new (Ok true) =
    (new ≡ record { world = old.world; trace = with_more old.trace (r ∷ []) }) × (is_within_limits (with_more old.trace (r ∷ [])) ≡ true)
Adds r old new (Ok false) = (new ≡ old) × (is_within_limits (with_more old.trace (r ∷ [])) ≡ false)
Adds r old new (Err _) = new ≡ old
