-- The recovery stage, over the parts: which row recovers, what a recovery leaves, and what the queue learns.
use Rattle.std.specs.Prelude.{◌≡◌, ℕ, ◌+◌, Bool, false, not, List, [], ◌∷◌, reverse, option_map, Option, Some, None, ◌==◌, ◌&&◌, if◌then◌else◌}
use Rattle.bpred_unit.specs.declared.config.PredConfig.{PredConfig}
use Rattle.bpred_unit.specs.History.{Event, Recover}
use Rattle.bpred_unit.specs.Stands as predictor
use Rattle.bpred_unit.specs.Stands.{cells_of}
use Rattle.ruu_core.specs.declared.station.Station.{Station}
use Rattle.ruu_core.specs.Window as unit
use Rattle.ruu_core.specs.Window.{is_at, is_by, next, passes, row_of, written_of, second_done}
use Rattle.lsq_core.specs.Queue as queue
use Rattle.lsq_core.specs.Queue.{Queue, with_address, with_data}
use Rattle.ooo_front.specs.Stands.{redirected}
use Rattle.spec_state.specs.Overlay as overlay
use Rattle.core_parts.specs.Addresses as addresses
use Rattle.core_parts.specs.declared.addresses.MemoryRow.{MemoryRow}
use Rattle.core_parts.specs.declared.parts.Parts.{Parts}

-- ---- the row that recovers

-- a right row has its W at the cycle, and another instruction than the predicted one follows
abbrev pub recovers : ℕ → List unit.Row → unit.Row → Bool
recovers c older u = not u.station.wrong && not (u.station.predicted == u.station.actual) && is_at c u.written

-- the least such row
abbrev pub recovering_in : ℕ → List unit.Row → Option ℕ
recovering_in c rows = next (recovers c) None rows

-- ---- what a recovery leaves

-- Rows above that of the station are gone, and none waits. Fetching goes on behind it, on the right path, after the
-- penalty; the return stack has its top again; and nothing is written over the state.
pub record Squashes (c row : ℕ) (s : Station) (old new : Parts) : Type 0 where
  pub same : new ≡ record old {
    unit = unit.squashed row old.unit;
    queue = queue.squashed row old.queue;
    addresses = addresses.squashed row old.addresses;
    front = redirected s.actual (c + old.config.penalty) old.front;
    predictor = new.predictor;
    overlay = new.overlay;
    wrong = false;
  }
  pub events : (pc : PredConfig) (events : List Event) → predictor.StandsFor old.predictor pc events → predictor.StandsFor new.predictor pc (Recover s.top ∷ events)
  pub cells : cells_of new.predictor ≡ cells_of old.predictor
  pub overlay : overlay.StandsFor new.overlay []
  pub size : new.overlay.size ≡ old.overlay.size

-- the row of that number recovers
abbrev pub SquashesAfter : ℕ → ℕ → Parts → Parts → Type 0
SquashesAfter c row old new =
    (s : Station) × (option_map (λ (u : unit.Row). u.station) (row_of row old.unit.rows) ≡ Some s) × Squashes c row s old new

-- all stays where no row recovers
abbrev pub SquashesAny : ℕ → Option ℕ → Parts → Parts → Type 0
SquashesAny c None old new = new ≡ old
SquashesAny c (Some row) old new = SquashesAfter c row old new

-- ---- what the queue learns

abbrev pub address_noted : Bool → ℕ → ℕ → Queue → Queue
address_noted b row c q = if b then with_address row c q else q

abbrev pub data_noted : Bool → ℕ → ℕ → Queue → Queue
data_noted b row c q = if b then with_data row c q else q

-- of a store its address, where its W is by the cycle, and its data, where their producers are done by then
abbrev pub store_learned : ℕ → List unit.Row → ℕ → Queue → Queue
store_learned c rows row q =
    data_noted (passes (second_done (is_by c)) row rows) row c (address_noted (is_by c (written_of row rows)) row c q)

abbrev pub learned : ℕ → List unit.Row → MemoryRow → Queue → Queue
learned c rows x q = if x.store then store_learned c rows x.row q else q

-- of all of these, the oldest first
abbrev pub learned_of : ℕ → List unit.Row → List MemoryRow → Queue → Queue
learned_of c rows [] q = q
learned_of c rows (x ∷ younger) q = learned_of c rows younger (learned c rows x q)

-- ---- the stage

-- first the recovery, and then what the queue learns of the stores that are left
pub record Turns (c : ℕ) (old new : Parts) : Type 0 where
  pub squashed : Parts
  pub squashes : SquashesAny c (recovering_in c old.unit.rows) old squashed
  pub learns : new ≡ record squashed { queue = learned_of c squashed.unit.rows (reverse squashed.addresses.rows) squashed.queue }
