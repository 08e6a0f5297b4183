-- What the return stack answers, as a function of all calls that changed it.
use Rattle.std.specs.Prelude.{◌≡◌, ℕ, zero, suc, ◌+◌, ◌-◌, ◌%◌, ◌<◌, List, [], ◌∷◌, length, slice_index, ◌==◌, if◌then◌else◌}

-- a call that changes a return stack. In a list of calls the newest is first
pub data Call : Type 0 where
  Push : ℕ → Call
  Pop : Call
  SetTop : ℕ → Call

-- the top of a stack of n cells: a push goes one cell on, a pop one back, both round the ring
abbrev pub top_after : ℕ → List Call → ℕ
top_after n [] = 0
top_after n (Push v ∷ older) = (top_after n older + 1) % n
top_after n (Pop ∷ older) = (top_after n older + n - 1) % n
top_after n (SetTop top ∷ older) = top

-- cell k: the value of the last push that reached it, 0 before the first. Pops and set tops leave all cells
abbrev pub cell_after : ℕ → ℕ → List Call → ℕ
cell_after n k [] = 0
cell_after n k (Push v ∷ older) = if top_after n (Push v ∷ older) == k then v else cell_after n k older
cell_after n k (Pop ∷ older) = cell_after n k older
cell_after n k (SetTop top ∷ older) = cell_after n k older

-- what a pop answers
abbrev pub popped : ℕ → List Call → ℕ
popped n calls = cell_after n (top_after n calls) calls

-- what a return stack holds
pub record Ring : Type 0 where
  pub cells : List ℕ
  pub top : ℕ

-- the stack is what these calls, the newest first, leave of a new one
pub record StackStands (s : Ring) (calls : List Call) : Type 0 where
  pub top : s.top ≡ top_after (length s.cells) calls
  pub each : (k : ℕ) → k < length s.cells → slice_index s.cells k ≡ cell_after (length s.cells) k calls

-- these calls, and then a push of each value, the newest first
abbrev pub pushes : List ℕ → List Call → List Call
pushes [] calls = calls
pushes (newest ∷ older) calls = Push newest ∷ pushes older calls

-- these calls, and then so many pops
abbrev pub pops : ℕ → List Call → List Call
pops zero calls = calls
pops (suc i) calls = Pop ∷ pops i calls
