-- A copy of what is read of a state.
use Rattle.std.specs.Prelude.{ℕ, Option, Some, None}
use Rattle.sim_safe.specs.State.{State, Storage, state_of, reader_of}

-- what is read of one state, at an address, with all else of another
abbrev pub copied_at : ℕ → Storage → Storage → State
copied_at pc read counted = record (state_of counted) { pc = pc; reads = reader_of read }

-- the state on which the next wrong row acts, where the right rows left one state and the wrong rows behind them acted on a copy
abbrev pub acting : Storage → Option Storage → State
acting right None = state_of right
acting right (Some copy) = record (state_of right) { reads = reader_of copy }
