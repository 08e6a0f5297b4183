-- The right rows are one path, and wrong rows act on a copy of its state.
use Rattle.std.specs.Prelude.{◌≡◌, true, false, not, List, [], ◌∷◌, Option, Some, None, ◌==◌, ◌&&◌, if◌then◌else◌, find, is_some}
use Rattle.sim_safe.specs.State.{State}
use Rattle.ooo_table.specs.Row.{Fetched, Row, is_before}
use Rattle.ooo_table.specs.Execution.{wrong_execution}
use Rattle.ooo_table.specs.Table.{Setting}
use Rattle.ooo_table.specs.Path.{execution, mispredicted}
use Rattle.ooo_table.specs.Done.{written}

-- the newest right row
abbrev pub newest : List Row → Option Row
newest rows = find (λ r. r.fetched.right) rows

module _ (set : Setting) where
  -- A right row goes on where the right row before it leads: at the address that follows there, on the state behind it.
  -- It was fetched after that row's recovery, if that one was mispredicted.
  abbrev pub Starts : Option Row → Fetched → Type 0
  Starts None f = (f.state ≡ set.start) × (f.pc ≡ set.start.pc)
  Starts (Some m) f =
      ((execution set m).stops ≡ false) × (f.state ≡ (execution set m).after) × (f.pc ≡ (execution set m).next)
      × (mispredicted set m ≡ true → is_before f.at (written set m) ≡ true)

  abbrev pub IsPath : List Row → Row → Type 0
  IsPath older r = r.fetched.right ≡ true → Starts (newest older) r.fetched

  -- ---- wrong rows

  -- the row goes on where the one before it was predicted to lead, on the state behind that one, which the path has left
  pub record Continues (p : Row) (f : Fetched) : Type 0 where
    pub pc : f.pc ≡ p.fetched.predicted
    pub state : f.state ≡ (execution set p).after
    pub left : (p.fetched.right && not (execution set p).stops && (p.fetched.predicted == (execution set p).next)) ≡ false

  -- the first row is right, and a wrong row goes on from the one before it
  abbrev pub GoesOn : List Row → Row → Type 0
  GoesOn [] r = r.fetched.right ≡ true
  GoesOn (p ∷ older) r = r.fetched.right ≡ false → Continues p r.fetched

  -- What a wrong row behind these rows acts on: the state that the newest right row leaves, with the effects of the dispatched
  -- wrong rows behind that one in row order, each at its own address.
  abbrev pub copied_state : List Row → State
  copied_state [] = set.start
  copied_state (r ∷ older) =
      if r.fetched.right then (execution set r).after
      else (if is_some r.dispatched
      then (wrong_execution (copied_state older) (set.execute (copied_state older) r.fetched.pc)).after else copied_state older)

  abbrev pub ActsOnCopy : List Row → Row → Type 0
  ActsOnCopy older r = r.fetched.right ≡ false → is_some r.dispatched ≡ true → r.fetched.state ≡ copied_state older
