-- Worked tables: what a run of a short program shows, row by row.
use Rattle.std.specs.Prelude.{◌≡◌, ℕ, suc, ◌+◌, ◌-◌, ◌%◌, ◌/◌, ◌^◌, Bool, false, true, List, [], ◌∷◌, ◌++◌, Option, Some, None, map, reverse}
use Rattle.pisa_isa.specs.declared.instr.Op.{Op}
use Rattle.pisa_isa.specs.declared.instr.Op.TheVariants as op
use Rattle.pisa_isa.specs.declared.instr.Instr.{Instr}
use Rattle.pisa_isa.specs.Coding.{number_of, second_word}
use Rattle.ecoff_load.specs.Words.{word_bytes}
use Rattle.ecoff_load.specs.declared.image.Image.{Image}
use Rattle.event_trace.specs.Grammar.{absent_trace}
use Rattle.sim_safe.specs.State.{start_state}
use Rattle.mem_hier.specs.declared.config.HierConfig.{HierConfig}
use Rattle.bpred_unit.specs.declared.config.PredConfig.{PredConfig}
use Rattle.bpred_unit.specs.declared.config.PredKind.{PredKind}
use Rattle.bpred_unit.specs.declared.config.PredKind.TheVariants as kind
use Rattle.ooo_table.specs.declared.config.OooConfig.{OooConfig}
use Rattle.ooo_table.specs.Row.{Row, accessed}
use Rattle.ooo_table.specs.Ends.{Extent, AtCommit, rows_at, written_by, returned_by, end_in}
use Rattle.ooo_table.specs.Counts.{Counts, counts_of}
use Rattle.ooo_table.specs.Machine.{Given, setting_of, nop}

-- ---- runs

-- the bytes of an instruction, and of a text
abbrev pub code_of : List Instr → List ℕ
code_of [] = []
code_of (i ∷ is) = word_bytes false (number_of i.op) ++ (word_bytes false (second_word i) ++ code_of is)

-- a program with nothing but a text
abbrev pub image_of : List Instr → Image
image_of program =
    record { entry = 0x400000; text = record { start = 0x400000; big = false; bytes = code_of program }; parts = [] }

-- the default machine and predictor, with directions of this kind
abbrev pub default_machine : OooConfig
default_machine =
    record { ifq = 4; decode = 4; issue = 4; commit = 4; ruu = 16; lsq = 8; penalty = 3; alus = 4; mults = 1; ports = 2; in_order = false; wrong_issue = true }

abbrev pub predictor : PredKind → PredConfig
predictor kind =
    record { kind = kind; bimod = 2048; l1 = 1; l2 = 1024; width = 8; xor = false; meta = 1024; btb_sets = 512; btb_ways = 4; ras = 8 }

-- a program on a machine, from its start on, with these arguments and no recorded calls
abbrev pub run_of : OooConfig → HierConfig → PredKind → List Instr → List (List ℕ) → Given
run_of config hier kind program args =
    record {
      config = config;
      hier = hier;
      pred = predictor kind;
      trace = absent_trace;
      start = start_state (image_of program) args;
      references = [];
      events = [];
    }

-- ---- instructions

-- with rt, rs and an immediate; with rd, rs and rt; and with rt at rs plus an offset
abbrev pub by_immediate : Op → ℕ → ℕ → ℕ → Instr
by_immediate o t s i = record nop { op = o; rs = s; rt = t; imm = i }

abbrev pub by_registers : Op → ℕ → ℕ → ℕ → Instr
by_registers o d s t = record nop { op = o; rs = s; rt = t; rd = d }

abbrev pub memory_at : Op → ℕ → ℕ → ℕ → Instr
memory_at o t i s = by_immediate o t s i

abbrev pub syscall : Instr
syscall = record nop { op = op.Syscall }

-- ---- what a row shows

-- its address, from the start of the text on, and the cycles of its marks: F, Q, D, I, W, MI, MW, C, X
pub record Line : Type 0 where
  pub pc : ℕ
  pub fetched : ℕ
  pub queued : ℕ
  pub dispatched : Option ℕ
  pub issued : Option ℕ
  pub written : Option ℕ
  pub accessed : Option ℕ
  pub returned : Option ℕ
  pub committed : Option ℕ
  pub squashed : Option ℕ

abbrev pub line_of : Given → Extent → ℕ → Row → Line
line_of g e c r =
    record {
      pc = r.fetched.pc - g.start.text.start;
      fetched = r.fetched.at;
      queued = r.fetched.queued;
      dispatched = r.dispatched;
      issued = r.issued;
      written = written_by (setting_of g) e c r;
      accessed = accessed r;
      returned = returned_by (setting_of g) e c r;
      committed = r.committed;
      squashed = r.squashed;
    }

-- the rows, the oldest first
abbrev pub lines_of : Given → Extent → ℕ → List Line
lines_of g e c = map (line_of g e c) (reverse (rows_at (setting_of g) e c))

-- The run ends in cycle c with the commit of this row, and by then its rows show these lines and its counts are these.
pub record Shows (g : Given) (c row : ℕ) (lines : List Line) (counts : Counts) : Type 0 where
  pub end : end_in (setting_of g) 1000000000 c ≡ Some (AtCommit row)
  pub rows : lines_of g (AtCommit row) c ≡ lines
  pub counted : counts_of (setting_of g) (AtCommit row) c ≡ counts

-- ---- how a line is written

-- a mark that isn't there
abbrev pub dash : Option ℕ
dash = None

-- a row that accesses no memory, with F, Q, D, I, W, C, X
abbrev pub row : ℕ → ℕ → ℕ → Option ℕ → Option ℕ → Option ℕ → Option ℕ → Option ℕ → Line
row pc f q d i w c x =
    record { pc = pc; fetched = f; queued = q; dispatched = d; issued = i; written = w; accessed = None; returned = None; committed = c; squashed = x }

-- a load, with MI and MW too
abbrev pub load : ℕ → ℕ → ℕ → Option ℕ → Option ℕ → Option ℕ → Option ℕ → Option ℕ → Option ℕ → Option ℕ → Line
load pc f q d i w mi mw c x =
    record { pc = pc; fetched = f; queued = q; dispatched = d; issued = i; written = w; accessed = mi; returned = mw; committed = c; squashed = x }

-- the commits, and of them loads, stores, branches and jumps, and calls; the rows that were fetched, dispatched and squashed;
-- recoveries, forwarded loads, and committed branches and jumps that were predicted
abbrev pub tally : ℕ → ℕ → ℕ → ℕ → ℕ → ℕ → ℕ → ℕ → ℕ → ℕ → ℕ → Counts
tally insn loads stores branches calls fetched dispatched squashed recoveries forwarded addr_hits =
    record {
      insn = insn;
      loads = loads;
      stores = stores;
      branches = branches;
      calls = calls;
      fetched = fetched;
      dispatched = dispatched;
      squashed = squashed;
      recoveries = recoveries;
      forwarded = forwarded;
      addr_hits = addr_hits;
    }
