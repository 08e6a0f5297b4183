-- What a cycle fetches.
use Rattle.std.specs.Prelude.{ℕ, zero, suc, ◌+◌, ◌-◌, Bool, List, ◌∷◌, length, max, is_some, unwrap_or, nat_le, nat_lt, ◌==◌, ◌&&◌, if◌then◌else◌}
use Rattle.pisa_isa.specs.declared.instr.Instr.{Instr}
use Rattle.pisa_isa.specs.declared.instr.Op.TheVariants as op
use Rattle.pisa_isa.specs.Coding.{decoded}
use Rattle.ecoff_load.specs.declared.image.Text.{Text}
use Rattle.ecoff_load.specs.Fetch.{fetch}
use Rattle.mem_hier.specs.declared.config.HierConfig.{HierConfig}
use Rattle.mem_hier.specs.Replay.{Reference, Fetch, latency_of, fetch_hit_of}
use Rattle.bpred_unit.specs.declared.config.PredConfig.{PredConfig}
use Rattle.bpred_unit.specs.History.{Event, LookUp, look_of, following}
use Rattle.ooo_front.specs.declared.row.FetchRow.{FetchRow}

-- A front end: the rows that wait, the newest first, and how many there may be; how many may be fetched in a cycle; of
-- the next row its number, its address and the earliest cycle in which it may be fetched; and the least cycle that may
-- come next.
pub record FrontEnd : Type 0 where
  pub rows : List FetchRow
  pub size : ℕ
  pub width : ℕ
  pub row : ℕ
  pub pc : ℕ
  pub earliest : ℕ
  pub cycle : ℕ

-- the front end, with all references of the hierarchy and all events of the predictor so far, the newest first
pub record Stage : Type 0 where
  pub front : FrontEnd
  pub references : List Reference
  pub events : List Event

abbrev pub nop : Instr
nop = record { op = op.Nop; rs = 0; rt = 0; rd = 0; shamt = 0; imm = 0; target = 0 }

-- the instruction that is looked up for two words: NOP where they code none
abbrev pub looked_up : ℕ → ℕ → Instr
looked_up a b = unwrap_or (decoded a b) nop

-- the two words at an address, 0 and 0 outside of text
abbrev pub words_at : Text → ℕ → ℕ × ℕ
words_at text pc = unwrap_or (fetch text pc) (0, 0)

-- fetching goes on behind a row that is queued at once and is predicted to be followed by the next address
abbrev pub goes_on : FetchRow → Bool
goes_on r = (r.queued == r.fetched) && (r.next == following r.pc)

-- the earliest cycle in which the row behind this one may be fetched
abbrev pub earliest_after : FetchRow → ℕ
earliest_after r = if goes_on r then r.fetched else max (r.fetched + 1) r.queued

-- the row waits, and the next row is the one behind it
abbrev pub with_row : FetchRow → FrontEnd → FrontEnd
with_row r f = record f { rows = r ∷ f.rows; row = r.row + 1; pc = r.next; earliest = earliest_after r }

-- a row may be fetched in the cycle: it isn't too early, and one more may wait
abbrev pub may_fetch : ℕ → FrontEnd → Bool
may_fetch cycle f = nat_le f.earliest cycle && nat_lt (length f.rows) f.size

-- the references after the fetch of the row at this address: one more for an instruction in text
abbrev pub with_reference : Text → ℕ → ℕ → List Reference → List Reference
with_reference text cycle pc h = if is_some (fetch text pc) then Fetch pc cycle ∷ h else h

-- The cycle in which the row at this address is queued. For an instruction in text its reference is waited for, but not
-- what the first level takes for a lookup.
abbrev pub queued_at : HierConfig → Text → ℕ → ℕ → List Reference → ℕ
queued_at c text cycle pc h =
    if is_some (fetch text pc) then cycle + (latency_of c h (Fetch pc cycle) - fetch_hit_of c) else cycle

module _ (c : HierConfig) (p : PredConfig) (text : Text) (cycle : ℕ) where
  -- the next row, where it is fetched in this cycle
  unfoldable pub next_row : Stage → FetchRow
  next_row s =
      let words = words_at text s.front.pc in
      let look = look_of p s.events s.front.pc (looked_up words.0 words.1) in
      record {
        row = s.front.row;
        pc = s.front.pc;
        a = words.0;
        b = words.1;
        next = look.next;
        top = look.top;
        fetched = cycle;
        queued = queued_at c text cycle s.front.pc s.references;
      }

  abbrev pub fetch_one : Stage → Stage
  fetch_one s =
      let words = words_at text s.front.pc in
      record {
        front = with_row (next_row s) s.front;
        references = with_reference text cycle s.front.pc s.references;
        events = LookUp s.front.pc (looked_up words.0 words.1) ∷ s.events;
      }

  -- up to this many rows
  unfoldable pub fetch_up_to : ℕ → Stage → Stage
  fetch_up_to zero s = s
  fetch_up_to (suc n) s = if may_fetch cycle s.front then fetch_up_to n (fetch_one s) else s

  -- the cycle: as many rows as the width has
  abbrev pub fetch_cycle : Stage → Stage
  fetch_cycle s = fetch_up_to s.front.width (record s { front = record s.front { cycle = cycle + 1 } })
