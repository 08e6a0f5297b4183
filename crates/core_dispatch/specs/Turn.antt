-- A turn of the dispatch stage, over the parts.
use Rattle.std.specs.Prelude.{◌≡◌, ℕ, ◌+◌, ◌/◌, ◌<◌, Bool, true, false, not, List, [], ◌∷◌, ◌++◌, length, Option, Some, None, is_none, unwrap_or, ◌==◌, ◌&&◌, ◌||◌, if◌then◌else◌}
use Rattle.pisa_isa.specs.Coding.{IsWellFormed}
use Rattle.pisa_step.specs.declared.changes.Changes.{Changes}
use Rattle.pisa_step.specs.Reader.{Reader}
use Rattle.pisa_step.specs.Effect.{changed}
use Rattle.paged_mem.specs.Memory.{IsReserved}
use Rattle.event_trace.specs.declared.trace.Trace.{Trace}
use Rattle.sim_safe.specs.declared.record.CommitRecord.{CommitRecord}
use Rattle.sim_safe.specs.State.{State, Storage, state_of, reader_of}
use Rattle.sim_safe.specs.Step.{Next, TakesNoMemory, is_call, step_of}
use Rattle.spec_state.specs.Overlay.{Overlaid, seen}
use Rattle.ruu_core.specs.declared.station.Station.{Station}
use Rattle.ruu_core.specs.Window as unit
use Rattle.ruu_core.specs.Window.{Window, is_load, is_store, is_by, second_reads}
use Rattle.lsq_core.specs.Queue.{Entry, Queue, HasRoom, is_above}
use Rattle.ooo_front.specs.declared.row.FetchRow.{FetchRow}
use Rattle.ooo_front.specs.Stands.{with_rows}
use Rattle.core_parts.specs.declared.addresses.MemoryRow.{MemoryRow}
use Rattle.core_parts.specs.declared.answers.Dispatched.{Dispatched}
use Rattle.core_parts.specs.declared.answers.Dispatched.TheVariants as turn
use Rattle.core_parts.specs.declared.parts.Parts.{Parts}
use Rattle.core_parts.specs.Addresses.{AddressList, pushed}
use Rattle.core_dispatch.specs.declared.verdict.WrongAct.{WrongAct}
use Rattle.core_dispatch.specs.declared.verdict.Verdict.{Verdict}
use Rattle.core_dispatch.specs.declared.verdict.Verdict.TheVariants as verdict
use Rattle.core_dispatch.specs.Verdict.{head_of, verdict_of}

-- ---- stations

-- of a right row, by what it did
abbrev pub right_station : FetchRow → CommitRecord → Station
right_station h did =
    record { row = h.row; pc = h.pc; instr = did.instr; inert = false; wrong = false; predicted = h.next; actual = did.next; top = h.top; commit = Some did }

-- of a wrong one, which is inert where it can't be done
abbrev pub wrong_station : FetchRow → WrongAct → Station
wrong_station h act =
    record { row = h.row; pc = h.pc; instr = act.instr; inert = is_none act.changes; wrong = true; predicted = h.next; actual = h.next; top = h.top; commit = None }

abbrev pub access_in : Option Changes → ℕ
access_in None = 0
access_in (Some e) = unwrap_or e.access 0

-- ---- what a row takes

abbrev pub is_memory : Station → Bool
is_memory s = is_load s || is_store s

-- what it reads besides is done by the cycle, as it enters behind these rows
abbrev pub is_fed : ℕ → List unit.Row → Station → Bool
is_fed c rows s = unit.have_produced (is_by c) rows (second_reads s)

-- of its access nothing is known yet, but for data that are done by then
abbrev pub entry_at : ℕ → Bool → ℕ → Bool → ℕ → Entry
entry_at row store addr fed c =
    record { row = row; store = store; block = addr / 8; address = None; data_done = if store && fed then Some c else None }

abbrev pub entry_of : ℕ → Window → Station → ℕ → Entry
entry_of c w s addr = entry_at s.row (is_store s) addr (is_fed c w.rows s) c

abbrev pub with_entry : Entry → Queue → Queue
with_entry e q = record q { entries = e ∷ q.entries; last = Some e.row }

abbrev pub entered_queue : Bool → Entry → Queue → Queue
entered_queue true e q = with_entry e q
entered_queue false e q = q

abbrev pub address_at : Station → ℕ → MemoryRow
address_at s addr = record { row = s.row; store = is_store s; addr = addr }

abbrev pub entered_addresses : Bool → MemoryRow → AddressList → AddressList
entered_addresses true x a = pushed x a
entered_addresses false x a = a

-- one more may be held
pub record TakesEntry (q : Queue) (a : AddressList) (row : ℕ) : Type 0 where
  pub room : HasRoom q
  pub rises : is_above q.last row ≡ true
  pub addresses : length a.rows < a.size

-- The oldest waiting row leaves the front and enters the unit and, if it is a load or store, the queue. Numbers of waiting
-- rows follow one another.
pub record Enters (c addr : ℕ) (h : FetchRow) (s : Station) (old new : Parts) : Type 0 where
  pub same : new ≡ record old { unit = new.unit; queue = new.queue; addresses = new.addresses; front = new.front; arch = new.arch; overlay = new.overlay; wrong = new.wrong }
  pub unit : new.unit ≡ unit.dispatched s c old.unit
  pub queue : new.queue ≡ entered_queue (is_memory s) (entry_of c old.unit s addr) old.queue
  pub addresses : new.addresses ≡ entered_addresses (is_memory s) (address_at s addr) old.addresses
  pub front : old.front ≡ with_rows (new.front.rows ++ h ∷ []) new.front
  pub number : h.row + length old.front.rows ≡ old.front.row

-- ---- right rows

-- The step is done. The row behind this one is right where it is the one that was predicted.
pub record EntersRight (trace : Trace) (c : ℕ) (old new : Parts) (n : ℕ) (b : Bool) : Type 0 where
  pub head : FetchRow
  pub did : CommitRecord
  pub after : State
  pub first : head_of c old ≡ Some head
  pub steps : step_of trace (state_of old.arch) ≡ Next did after
  pub formed : IsWellFormed did.instr
  pub row : n ≡ head.row
  pub call : b ≡ is_call did.instr.op
  pub enters : Enters c (unwrap_or did.access 0) head (right_station head did) old new
  pub state : state_of new.arch ≡ after
  pub overlay : new.overlay ≡ old.overlay
  pub wrong : new.wrong ≡ not (head.next == did.next)

-- the step wants memory, and nothing is done
pub record StaysBefore (old new : Parts) : Type 0 where
  pub same : new ≡ record old { arch = new.arch }
  pub state : state_of new.arch ≡ state_of old.arch

abbrev pub RightTurn : Trace → ℕ → Parts → Parts → Dispatched → Type 0
RightTurn trace c old new (turn.Row n b) = EntersRight trace c old new n b
RightTurn trace c old new turn.OutOfMemory = StaysBefore old new
RightTurn trace c old new turn.Over = ⊥
RightTurn trace c old new (turn.Stops why) = ⊥

-- ---- wrong rows

-- the changes are made over the state, as one effect
pub record Makes (s : Reader) (e : Changes) (old new : Overlaid) : Type 0 where
  pub reads : seen s new ≡ changed (seen s old) e
  pub applied : new.applied ≡ old.applied + 1
  pub size : new.size ≡ old.size

abbrev pub MakesAny : Reader → Option Changes → Overlaid → Overlaid → Type 0
MakesAny s None old new = new ≡ old
MakesAny s (Some e) old new = Makes s e old new

-- The row acts over the state, which stays, and so does no call. The rows behind it are wrong.
pub record EntersWrong (act : WrongAct) (c : ℕ) (old new : Parts) (n : ℕ) (b : Bool) : Type 0 where
  pub head : FetchRow
  pub first : head_of c old ≡ Some head
  pub formed : IsWellFormed act.instr
  pub row : n ≡ head.row
  pub call : b ≡ false
  pub enters : Enters c (access_in act.changes) head (wrong_station head act) old new
  pub arch : new.arch ≡ old.arch
  pub overlay : MakesAny (reader_of old.arch) act.changes old.overlay new.overlay
  pub wrong : new.wrong ≡ old.wrong

abbrev pub WrongTurn : WrongAct → ℕ → Parts → Parts → Dispatched → Type 0
WrongTurn act c old new (turn.Row n b) = EntersWrong act c old new n b
WrongTurn act c old new turn.OutOfMemory = ⊥
WrongTurn act c old new turn.Over = ⊥
WrongTurn act c old new (turn.Stops why) = ⊥

-- ---- the turn

abbrev pub TurnBy : Verdict → Trace → ℕ → Parts → Parts → Dispatched → Type 0
TurnBy verdict.Stays trace c old new answer = (answer ≡ turn.Over) × (new ≡ old)
TurnBy (verdict.Stops why) trace c old new answer = (answer ≡ turn.Stops why) × (new ≡ old)
TurnBy verdict.Right trace c old new answer = RightTurn trace c old new answer
TurnBy (verdict.Wrong act) trace c old new answer = WrongTurn act c old new answer

-- a right row, or a wrong one that acts so, is dispatched in the cycle
abbrev pub HasRight : Trace → ℕ → Parts → Type 0
HasRight trace c parts = (n : ℕ) × (called : Bool) × (verdict_of trace c n called parts ≡ verdict.Right)

abbrev pub HasWrong : WrongAct → ℕ → Parts → Type 0
HasWrong act c parts = (trace : Trace) × (n : ℕ) × (called : Bool) × (verdict_of trace c n called parts ≡ verdict.Wrong act)

-- no page is given back, and the text stays
pub record Keeps (old new : Storage) : Type 0 where
  pub pages : (number : ℕ) → IsReserved old.pages number → IsReserved new.pages number
  pub text : new.text ≡ old.text

-- in cycle c, after n dispatches, of a call among them or of none
pub record Turns (trace : Trace) (c n : ℕ) (called : Bool) (old new : Parts) (answer : Dispatched) : Type 0 where
  pub turn : TurnBy (verdict_of trace c n called old) trace c old new answer
  pub keeps : Keeps old.arch new.arch

-- ---- memory

-- all that a right row writes lies in reserved pages
abbrev pub FindsMemory : Trace → Parts → Type 0
FindsMemory trace parts = parts.wrong ≡ false → TakesNoMemory trace parts.arch.pages (step_of trace (state_of parts.arch))

abbrev pub WantsNone : Dispatched → Type 0
WantsNone turn.OutOfMemory = ⊥
WantsNone (turn.Row n b) = Unit {0}
WantsNone turn.Over = Unit {0}
WantsNone (turn.Stops why) = Unit {0}
