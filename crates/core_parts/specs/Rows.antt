-- What the parts hold of a row of the table.
use Rattle.std.specs.Prelude.{◌≡◌, ℕ, ◌/◌, Bool, true, false, not, List, [], ◌∷◌, length, Option, Some, None, is_some, ◌&&◌, if◌then◌else◌}
use Rattle.pisa_isa.specs.declared.classes.UnitClass.{UnitClass}
use Rattle.pisa_isa.specs.declared.classes.UnitClass.TheVariants.{Free}
use Rattle.pisa_isa.specs.Classes.{unit_of}
use Rattle.sim_safe.specs.declared.record.CommitRecord.{CommitRecord}
use Rattle.sim_safe.specs.Step.{Next, step_of, is_call}
use Rattle.ruu_core.specs.declared.station.Station.{Station}
use Rattle.ruu_core.specs.Window as unit
use Rattle.ruu_core.specs.Window.{main_reads, second_reads, writes}
use Rattle.lsq_core.specs.Queue.{Entry}
use Rattle.ooo_front.specs.declared.row.FetchRow.{FetchRow}
use Rattle.ooo_table.specs.Row.{Fetched, Row, is_before, accessed, returned}
use Rattle.ooo_table.specs.Execution.{is_load, is_store, uses_memory, address}
use Rattle.ooo_table.specs.Table.{Setting}
use Rattle.ooo_table.specs.Path.{execution_of, execution, stores}
use Rattle.ooo_table.specs.Done.{live, written, have_produced}
use Rattle.ooo_table.specs.Machine.{Given, setting_of, words_at, done_as}
use Rattle.core_parts.specs.declared.addresses.MemoryRow.{MemoryRow}

-- ---- rows of a kind

-- a row with those before it
pub record Placed : Type 0 where
  pub row : Row
  pub older : List Row

-- the rows that pass, each with those before it
abbrev pub pick : (Row → Bool) → List Row → List Placed
pick p [] = []
pick p (r ∷ older) = if p r then record { row = r; older = older } ∷ pick p older else pick p older

-- the number of the newest row that passes
abbrev pub newest_number : (Row → Bool) → List Row → Option ℕ
newest_number p [] = None
newest_number p (r ∷ older) = if p r then Some (length older) else newest_number p older

-- a live load or store; an inert row is neither
abbrev pub in_queue : Setting → Row → Bool
in_queue set r = live r && uses_memory (execution set r).memory

-- ---- stations

-- an inert row needs no unit
abbrev pub unit_class : Station → UnitClass
unit_class s = if s.inert then Free else unit_of s.instr.op

-- the record of what the row did on the right path
pub record Did (g : Given) (s : Station) (f : Fetched) : Type 0 where
  pub did : CommitRecord
  pub is : s.commit ≡ Some did
  pub instr : did.instr ≡ s.instr
  pub step : step_of g.trace f.state ≡ Next did (execution_of (setting_of g) f).after
  pub does : execution_of (setting_of g) f ≡ done_as did (execution_of (setting_of g) f).after

-- what a station says of what the row does: where it may issue and when it is done
pub record Operates (set : Setting) (s : Station) (f : Fetched) : Type 0 where
  pub load : unit.is_load s ≡ is_load (execution_of set f).memory
  pub store : unit.is_store s ≡ is_store (execution_of set f).memory
  pub call : is_call s.instr.op ≡ (execution_of set f).call
  pub unit : unit_class s ≡ (execution_of set f).unit
  pub main : main_reads s ≡ (execution_of set f).main
  pub second : second_reads s ≡ (execution_of set f).second
  pub writes : writes s ≡ (execution_of set f).writes

-- and what it is. Only a wrong row is dispatched that can't be done
pub record Describes (g : Given) (s : Station) (f : Fetched) : Type 0 where
  pub pc : s.pc ≡ f.pc
  pub instr : s.instr ≡ (setting_of g).instruction f.pc
  pub wrong : s.wrong ≡ not f.right
  pub inert : s.inert ≡ (execution_of (setting_of g) f).stops
  pub possible : f.right ≡ true → (execution_of (setting_of g) f).stops ≡ false
  pub predicted : s.predicted ≡ f.predicted
  pub top : s.top ≡ f.top
  pub actual : f.right ≡ true → s.actual ≡ (execution_of (setting_of g) f).next
  pub did : f.right ≡ true → Did g s f
  pub operates : Operates (setting_of g) s f

-- the unit's row is the live row, with its D, I, W, MI and MW
pub record Lives (g : Given) (u : unit.Row) (p : Placed) : Type 0 where
  pub row : u.station.row ≡ length p.older
  pub station : Describes g u.station p.row.fetched
  pub dispatched : p.row.dispatched ≡ Some u.dispatched
  pub issued : p.row.issued ≡ u.issued
  pub written : written (setting_of g) p.row ≡ u.written
  pub accessed : accessed p.row ≡ u.accessed
  pub returned : returned p.row ≡ u.returned

-- ---- loads and stores

-- The queue's entry is the live load or store. Of a store, and of no load, it has a cycle of the address exactly where the
-- W is before cycle n, and one of the data exactly where their producers are done before n; those cycles are before n too.
pub record Holds (set : Setting) (n : ℕ) (e : Entry) (p : Placed) : Type 0 where
  pub row : e.row ≡ length p.older
  pub store : e.store ≡ stores set p.row
  pub block : e.block ≡ address (execution set p.row).memory / 8
  pub address : is_some e.address ≡ (e.store && is_before n (written set p.row))
  pub data_done : is_some e.data_done ≡ (e.store && have_produced set n p.older p.row (execution set p.row).second)
  pub address_by : is_some e.address ≡ true → is_before n e.address ≡ true
  pub data_by : is_some e.data_done ≡ true → is_before n e.data_done ≡ true

-- and so its effective address
pub record HasAddress (set : Setting) (x : MemoryRow) (p : Placed) : Type 0 where
  pub row : x.row ≡ length p.older
  pub store : x.store ≡ stores set p.row
  pub addr : x.addr ≡ address (execution set p.row).memory

-- ---- waiting rows

-- the front's row is the waiting row, with its two words
pub record Waits (g : Given) (w : FetchRow) (p : Placed) : Type 0 where
  pub row : w.row ≡ length p.older
  pub pc : w.pc ≡ p.row.fetched.pc
  pub a : w.a ≡ (words_at g.start.text p.row.fetched.pc).0
  pub b : w.b ≡ (words_at g.start.text p.row.fetched.pc).1
  pub next : w.next ≡ p.row.fetched.predicted
  pub top : w.top ≡ p.row.fetched.top
  pub fetched : w.fetched ≡ p.row.fetched.at
  pub queued : w.queued ≡ p.row.fetched.queued
