-- Laws of the rows in flight.
use Rattle.std.specs.Prelude.{◌≡◌, ℕ, ◌≤◌, ◌⊎◌, Bool, true, false, List, [], ◌∷◌, ◌++◌, Option, Some, None}
use Rattle.pisa_isa.specs.declared.places.Place.{Place}
use Rattle.ruu_core.specs.Window.{Row, Window, is_by, is_before, is_above, is_load, is_store, producer, finished, has_produced, second_done, is_done, is_ready, next, passes, row_of, at_row, issuing, squashed}

-- a question is answered with the least row above a number that passes, and with none exactly where no such row does
pub record AnswersTheLeast (test : List Row → Row → Bool) (after : Option ℕ) (w : Window) : Type 0 where
  pub found : (n : ℕ) → next test after w.rows ≡ Some n → (is_above after n ≡ true) × (passes test n w.rows ≡ true)
  pub older_first : (n k : ℕ) → next test after w.rows ≡ Some n → is_above after k ≡ true → passes test k w.rows ≡ true → n ≤ k
  pub none : (k : ℕ) → next test after w.rows ≡ None → is_above after k ≡ true → passes test k w.rows ≡ false

-- a row that has issued isn't ready, at any cycle and behind any rows; so an issue is the row's last
pub record IssuesOnce (n : ℕ) (w : Window) : Type 0 where
  pub row : (c t : ℕ) (older : List Row) (r : Row) → r.issued ≡ Some t → is_ready c older r ≡ false
  pub issue : (c at done : ℕ) → passes (is_ready c) n (at_row n (issuing at done) w).rows ≡ false

-- a squash after a row leaves that row and all older ones with all answers about them
pub record LeavesOlder (n m : ℕ) (w : Window) : Type 0 where
  pub row : row_of n (squashed m w).rows ≡ row_of n w.rows
  pub answers : (test : List Row → Row → Bool) → passes test n (squashed m w).rows ≡ passes test n w.rows

-- a row that completes has its W or its MW there, and is done there where it is neither load nor store, or is a load at
-- its MW, or is a store whose data are done
pub record CompletesThere (c : ℕ) (older : List Row) (r : Row) : Type 0 where
  pub marks : (r.written ≡ Some c) ⊎ (r.returned ≡ Some c)
  pub plain : is_load r.station ≡ false → is_store r.station ≡ false → r.written ≡ Some c → is_done (is_by c) older r ≡ true
  pub load : is_load r.station ≡ true → r.returned ≡ Some c → is_done (is_by c) older r ≡ true
  pub store : is_store r.station ≡ true → r.written ≡ Some c → second_done (is_by c) older r ≡ true → is_done (is_by c) older r ≡ true

-- from a retirement on, at the cycles that calls may name, the row that retired is done, and the rows that are left have
-- the producers that they would have with it
pub record StaysProduced (w : Window) (r : Row) (c : ℕ) : Type 0 where
  pub done : is_before c (finished r) ≡ true
  pub by : (older : List Row) (p : Place) → has_produced (is_by c) (producer (older ++ r ∷ []) p) ≡ has_produced (is_by c) (producer older p)
  pub before : (older : List Row) (p : Place) → has_produced (is_before c) (producer (older ++ r ∷ []) p) ≡ has_produced (is_before c) (producer older p)

-- what calls say of a row by its number is said of the row where it stands
pub record StandsAt (younger older : List Row) (r : Row) (w : Window) : Type 0 where
  pub row : row_of r.station.row w.rows ≡ Some r
  pub answers : (test : List Row → Row → Bool) → passes test r.station.row w.rows ≡ test older r
  pub change : (f : Row → Row) → (at_row r.station.row f w).rows ≡ younger ++ f r ∷ older
