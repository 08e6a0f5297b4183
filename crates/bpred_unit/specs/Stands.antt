-- The histories that a predictor stands for.
use Rattle.std.specs.Prelude.{◌≡◌, ℕ, ◌<◌, List, length, Option, Some, None}
use Rattle.bpred_tables.specs.Updates.{Update, Scheme, Constant, Bimodal, Adaptive, Combining}
use Rattle.bpred_tables.specs.Tables as tables
use Rattle.bpred_tables.specs.Tables.{BimodalStands, TwoLevelStands, CombiningStands}
use Rattle.bpred_tables.specs.Buffer.{BufferStands}
use Rattle.bpred_tables.specs.Stack.{Call, Ring, StackStands}
use Rattle.bpred_unit.specs.declared.config.PredConfig.{PredConfig}
use Rattle.bpred_unit.specs.declared.directions.Directions.{Directions}
use Rattle.bpred_unit.specs.declared.directions.Directions.TheVariants as directions
use Rattle.bpred_unit.specs.declared.predictor.Predictor.{Predictor}
use Rattle.bpred_unit.specs.History.{Event, scheme_of, branches, cells_for, calls, transfers}

-- which direction predictor this is, with the sizes of its tables
abbrev pub scheme_in : Directions → Scheme
scheme_in (directions.Fixed d) = Constant d.taken
scheme_in (directions.Bimod d) = Bimodal (length d)
scheme_in (directions.TwoLevel d) = Adaptive (tables.levels_of d)
scheme_in (directions.Comb d) = Combining (tables.pair_of d)

-- its tables are what these updates leave
abbrev pub DirectionsStand : Directions → List Update → Type 0
DirectionsStand (directions.Fixed d) updates = Unit {0}
DirectionsStand (directions.Bimod d) updates = BimodalStands d updates
DirectionsStand (directions.TwoLevel d) updates = TwoLevelStands d updates
DirectionsStand (directions.Comb d) updates = CombiningStands d updates

-- how many cells a return stack has, where there is one
abbrev pub cells_in : Option Ring → Option ℕ
cells_in None = None
cells_in (Some s) = Some (length s.cells)

-- where there is a stack, it is what these calls leave
abbrev pub ReturnsStand : Option Ring → List Call → Type 0
ReturnsStand None calls = Unit {0}
ReturnsStand (Some s) calls = StackStands s calls

-- how many cells the return stack of a predictor has
abbrev pub cells_of : Predictor → Option ℕ
cells_of v = cells_in v.returns.stack

-- a top to which such a stack may recover: below its cells, and 0 without a stack
abbrev pub IsTop : Option ℕ → ℕ → Type 0
IsTop None top = top ≡ 0
IsTop (Some n) top = top < n

-- The predictor has the sizes of the configuration and stands for this history, the newest first: each of its tables is
-- what the history's updates or calls of that table leave.
pub record StandsFor (v : Predictor) (c : PredConfig) (h : List Event) : Type 0 where
  pub scheme : scheme_in v.directions ≡ scheme_of c
  pub directions : DirectionsStand v.directions (branches h)
  pub sets : length v.buffer.sets ≡ c.btb_sets
  pub ways : v.buffer.ways ≡ c.btb_ways
  pub buffer : BufferStands v.buffer (transfers (cells_for c.ras) h)
  pub cells : cells_of v ≡ cells_for c.ras
  pub returns : ReturnsStand v.returns.stack (calls h)
