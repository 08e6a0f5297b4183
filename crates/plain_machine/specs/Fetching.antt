-- The fetch of a row.
use Rattle.std.specs.Prelude.{◌≡◌, ℕ, ◌+◌, ◌<◌, Bool, true, false, List, ◌∷◌, None, if◌then◌else◌}
use Rattle.std.specs.Option.{ForSome}
use Rattle.mem_hier.specs.Replay.{Reference, Fetch}
use Rattle.mem_hier.specs.Stands as hierarchy
use Rattle.bpred_unit.specs.History.{Event, LookUp}
use Rattle.bpred_unit.specs.Stands as prediction
use Rattle.bpred_unit.specs.Stands.{cells_of, IsTop}
use Rattle.ooo_table.specs.Row as table
use Rattle.ooo_table.specs.Table.{Setting, Table}
use Rattle.ooo_table.specs.References.{references_of, predictor_events_of}
use Rattle.ooo_table.specs.Fetch.{fetched_row, queue_cycle}
use Rattle.ooo_table.specs.Machine.{Given, setting_of}
use Rattle.ooo_plain.specs.Asked.{Asked}
use Rattle.plain_machine.specs.declared.machine.Plain.{Plain}
use Rattle.plain_machine.specs.declared.row.Fetched.{Fetched}
use Rattle.plain_machine.specs.Copied.{acting}
use Rattle.plain_machine.specs.Performed.{fetched_as}
use Rattle.plain_machine.specs.Fits.{HoldsItsText, IsCopyOf}

module _ (set : Setting) (c : ℕ) (t : Table) where
  abbrev pub references_within : List Reference
  references_within = references_of set c t.rows t.references

  abbrev pub events_within : List Event
  events_within = predictor_events_of set c t.rows t.predictor_events

  -- the row that the table fetches next
  abbrev pub next_row : table.Row
  next_row = fetched_row set c t.next_fetch (set.look t.next_fetch.pc events_within) (queue_cycle set c t.next_fetch.pc references_within)

-- what is settled of the next row of the table, whose reference and look-up the hierarchy and the predictor got
pub record Settles (g : Given) (c : ℕ) (t : Table) (new : Plain) (f : Fetched) : Type 0 where
  pub row_is : f ≡ fetched_as (setting_of g) (next_row (setting_of g) c t).fetched
  pub histories : hierarchy.StandsFor new.hier g.hier
      (if (setting_of g).is_text t.next_fetch.pc then Fetch t.next_fetch.pc c ∷ references_within (setting_of g) c t else references_within (setting_of g) c t)
  pub predictions : prediction.StandsFor new.predictor g.pred
      (LookUp t.next_fetch.pc ((setting_of g).instruction t.next_fetch.pc) ∷ events_within (setting_of g) c t)

-- all else stays
pub record SettleKeeps (c : ℕ) (old new : Plain) (f : Fetched) : Type 0 where
  pub rest : new ≡ record old { hier = new.hier; predictor = new.predictor }
  pub asked : Asked old.hier new.hier c 1
  pub cells : cells_of new.predictor ≡ cells_of old.predictor
  pub top_fits : IsTop (cells_of old.predictor) f.top
  pub path : f.right ≡ old.next.right

-- the row acts next: a right one on the state, a wrong one on the copy
pub record IsNext (g : Given) (s : table.Fetched) (f : Fetched) (old : Plain) : Type 0 where
  pub text : s.state.text ≡ g.start.text
  pub is : f ≡ fetched_as (setting_of g) s
  pub state : s.state ≡ acting old.arch old.copy
  pub straight : s.right ≡ true → old.copy ≡ None
  pub there : s.right ≡ true → s.pc ≡ s.state.pc

-- a right row changes the state alone, and a wrong one the copy
pub record PerformKeeps (right : Bool) (old new : Plain) : Type 0 where
  pub rest : new ≡ record old { arch = new.arch; copy = new.copy }
  pub wrong : right ≡ false → new.arch ≡ old.arch
  pub straight : right ≡ true → new.copy ≡ old.copy
  pub text : HoldsItsText new.arch
  pub same_text : new.arch.text ≡ old.arch.text
  pub copied : ForSome new.copy (IsCopyOf new.arch)
  pub count : new.arch.icnt < old.arch.icnt + 2
