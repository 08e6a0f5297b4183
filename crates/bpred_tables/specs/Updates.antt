-- What direction predictors answer, as a function of all conditional branches that they were told of.
use Rattle.std.specs.Prelude.{ℕ, ◌+◌, ◌-◌, ◌*◌, ◌/◌, ◌%◌, ◌^◌, min, Bool, true, false, not, ◌&&◌, List, [], ◌∷◌, nat_le, ◌==◌, if◌then◌else◌, take, bit_xor}

-- a conditional branch that was done, with its outcome. In a list of updates the newest is first
pub record Update : Type 0 where
  pub pc : ℕ
  pub taken : Bool

-- instructions have eight bytes: the number of the one at pc
abbrev pub instruction_at : ℕ → ℕ
instruction_at pc = pc / 8

-- the place of the instruction at pc in a table of this size
abbrev pub place_in : ℕ → ℕ → ℕ
place_in size pc = instruction_at pc % size

-- ---- counters

-- a two-bit counter goes up at true and down at false, and stays within 0 to 3
abbrev pub counted : Bool → ℕ → ℕ
counted true n = min 3 (n + 1)
counted false n = n - 1

-- the counter that started at 1 and took these outcomes, the newest first
abbrev pub counter : List Bool → ℕ
counter [] = 1
counter (newest ∷ older) = counted newest (counter older)

-- the upper half of a counter's range stands for taken
abbrev pub says_taken : ℕ → Bool
says_taken n = nat_le 2 n

-- the outcomes of those updates whose place, by the updates before each and its pc, is k
abbrev pub outcomes_at : (List Update → ℕ → ℕ) → ℕ → List Update → List Bool
outcomes_at place k [] = []
outcomes_at place k (u ∷ older) =
    if place older u.pc == k then u.taken ∷ outcomes_at place k older else outcomes_at place k older

-- what a table of counters with these places says of pc
abbrev pub table_says : (List Update → ℕ → ℕ) → List Update → ℕ → Bool
table_says place updates pc = says_taken (counter (outcomes_at place (place updates pc) updates))

-- ---- bimodal

-- the place doesn't depend on outcomes
abbrev pub fixed_place : ℕ → List Update → ℕ → ℕ
fixed_place size updates pc = place_in size pc

abbrev pub bimodal : ℕ → List Update → ℕ → Bool
bimodal size updates pc = table_says (fixed_place size) updates pc

-- ---- two-level adaptive

pub record Levels : Type 0 where
  -- how many histories, and how many counters
  pub first : ℕ
  pub second : ℕ
  -- how many outcomes a history has
  pub width : ℕ
  -- whether history and instruction are mixed by exclusive or, else they are concatenated
  pub xored : Bool

abbrev pub digit : Bool → ℕ
digit true = 1
digit false = 0

-- the number with these binary digits, the newest the lowest
abbrev pub number_of : List Bool → ℕ
number_of [] = 0
number_of (newest ∷ older) = 2 * number_of older + digit newest

-- a history: the last outcomes at place k of the first level, as a number
abbrev pub history : Levels → ℕ → List Update → ℕ
history l k updates = number_of (take l.width (outcomes_at (fixed_place l.first) k updates))

-- the place of a counter, by a history and pc
abbrev pub second_place : Levels → ℕ → ℕ → ℕ
second_place l h pc =
    (if l.xored then bit_xor h (instruction_at pc) else h + instruction_at pc * 2 ^ l.width) % l.second

abbrev pub pattern_place : Levels → List Update → ℕ → ℕ
pattern_place l updates pc = second_place l (history l (place_in l.first pc) updates) pc

abbrev pub two_level : Levels → List Update → ℕ → Bool
two_level l updates pc = table_says (pattern_place l) updates pc

-- ---- combining

pub record Pair : Type 0 where
  pub bimodal_size : ℕ
  pub levels : Levels
  -- how many choosers
  pub choosers : ℕ

abbrev pub same : Bool → Bool → Bool
same true b = b
same false b = not b

-- for each update at place k at which both answers, as they were then, differed:
-- whether the two-level one was right
abbrev pub contests : Pair → ℕ → List Update → List Bool
contests p k [] = []
contests p k (u ∷ older) =
    if place_in p.choosers u.pc == k
    && not (same (bimodal p.bimodal_size older u.pc) (two_level p.levels older u.pc))
    then same (two_level p.levels older u.pc) u.taken ∷ contests p k older
    else contests p k older

abbrev pub combined : Pair → List Update → ℕ → Bool
combined p updates pc =
    if says_taken (counter (contests p (place_in p.choosers pc) updates))
    then two_level p.levels updates pc
    else bimodal p.bimodal_size updates pc

-- ---- every kind of predictor, with its sizes

pub data Scheme : Type 0 where
  Constant : Bool → Scheme
  Bimodal : ℕ → Scheme
  Adaptive : Levels → Scheme
  Combining : Pair → Scheme

-- whether the branch at pc is predicted taken after these updates
abbrev pub predicted : Scheme → List Update → ℕ → Bool
predicted (Constant taken) updates pc = taken
predicted (Bimodal size) updates pc = bimodal size updates pc
predicted (Adaptive l) updates pc = two_level l updates pc
predicted (Combining p) updates pc = combined p updates pc
