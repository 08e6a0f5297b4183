-- What the tables of a predictor hold where they stand for a list of updates.
use Rattle.std.specs.Prelude.{◌≡◌, ℕ, ◌^◌, ◌<◌, ◌≤◌, Bool, List, length, slice_index}
use Rattle.bpred_tables.specs.Updates.{Update, Levels, Pair, counter, outcomes_at, fixed_place, pattern_place, history, contests}

-- each counter of the table is that of the outcomes at its place
pub record Counts (place : List Update → ℕ → ℕ) (counters : List ℕ) (updates : List Update)
    : Type 0 where
  pub each : (k : ℕ) → k < length counters
      → slice_index counters k ≡ counter (outcomes_at place k updates)

-- a bimodal predictor is its counters
abbrev pub BimodalStands : List ℕ → List Update → Type 0
BimodalStands counters updates = Counts (fixed_place (length counters)) counters updates

-- what a two-level predictor holds
pub record TwoTables : Type 0 where
  pub histories : List ℕ
  pub counters : List ℕ
  pub width : ℕ
  pub xored : Bool

abbrev pub levels_of : TwoTables → Levels
levels_of t =
    record { first = length t.histories; second = length t.counters; width = t.width; xored = t.xored }

-- sizes and ranges that the tables always have
pub record IsTwoTables (t : TwoTables) : Type 0 where
  pub first : 0 < length t.histories
  pub second : 0 < length t.counters
  pub width : t.width ≤ 16
  pub ranges : (k : ℕ) → slice_index t.histories k < 2 ^ t.width

pub record TwoLevelStands (t : TwoTables) (updates : List Update) : Type 0 where
  pub shifts : (k : ℕ) → k < length t.histories
      → slice_index t.histories k ≡ history (levels_of t) k updates
  pub counts : Counts (pattern_place (levels_of t)) t.counters updates

-- what a combining predictor holds
pub record ThreeTables : Type 0 where
  pub bimodal : List ℕ
  pub two_level : TwoTables
  pub choosers : List ℕ

abbrev pub pair_of : ThreeTables → Pair
pair_of t =
    record {
      bimodal_size = length t.bimodal;
      levels = levels_of t.two_level;
      choosers = length t.choosers;
    }

pub record CombiningStands (t : ThreeTables) (updates : List Update) : Type 0 where
  pub bimodal : BimodalStands t.bimodal updates
  pub two_level : TwoLevelStands t.two_level updates
  pub chooses : (k : ℕ) → k < length t.choosers
      → slice_index t.choosers k ≡ counter (contests (pair_of t) k updates)
