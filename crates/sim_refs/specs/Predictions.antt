-- What a run asks and tells the predictor, by the records of its instructions, and what is counted of the answers.
use Rattle.std.specs.Prelude.{ℕ, ◌+◌, ◌-◌, ◌^◌, Bool, true, false, not, List, [], ◌∷◌, min, ◌==◌, if◌then◌else◌}
use Rattle.pisa_isa.specs.declared.classes.ControlKind.{ControlKind}
use Rattle.pisa_isa.specs.declared.classes.ControlKind.TheVariants as control
use Rattle.pisa_isa.specs.Classes.{control_of}
use Rattle.sim_safe.specs.declared.record.CommitRecord.{CommitRecord}
use Rattle.sim_safe.specs.Statistics.{branch_count}
use Rattle.bpred_unit.specs.declared.config.PredConfig.{PredConfig}
use Rattle.bpred_unit.specs.declared.predictor.Look.{Look}
use Rattle.bpred_unit.specs.History.{Event, LookUp, Update, look_of}
use Rattle.sim_refs.specs.declared.pred_run.PredCounts.{PredCounts}

-- ---- events

-- A branch or jump is looked up, and right after that the predictor is told what it did. All else isn't asked about.
abbrev pub asked_by : ControlKind → CommitRecord → List Event → List Event
asked_by control.Nothing r before = before
asked_by kind r before = Update r.pc r.instr r.taken r.next ∷ (LookUp r.pc r.instr ∷ before)

abbrev pub asked : CommitRecord → List Event → List Event
asked r before = asked_by (control_of r.instr) r before

-- the events of these records; both lists have the newest first
abbrev pub events_of : List CommitRecord → List Event
events_of [] = []
events_of (r ∷ h) = asked r (events_of h)

-- what the look-up of an instruction answers that is done after these
abbrev pub look_at : PredConfig → List CommitRecord → CommitRecord → Look
look_at c h r = look_of c (events_of h) r.pc r.instr

-- ---- counts

-- how many conditional branches one of a kind is
abbrev pub cond_count : ControlKind → ℕ
cond_count control.Nothing = 0
cond_count control.Cond = 1
cond_count control.Jump = 0
cond_count control.Call = 0
cond_count control.Return = 0

-- both are taken, or neither
abbrev pub same_way : Bool → Bool → Bool
same_way true taken = taken
same_way false taken = not taken

-- a count of what is so
abbrev pub where_so : Bool → ℕ → ℕ
where_so so n = if so then n else 0

abbrev pub no_counts : PredCounts
no_counts = record { control = 0; cond = 0; taken = 0; dir_hits = 0; addr_hits = 0 }

-- The counts with one more instruction, of this kind, for which the look-up answered this.
abbrev pub counted : ControlKind → CommitRecord → Look → PredCounts → PredCounts
counted kind r look n =
    record {
      -- branches and jumps, and the conditional branches among them
      control = n.control + branch_count kind;
      cond = n.cond + cond_count kind;
      -- those that were taken, whatever was predicted
      taken = n.taken + where_so r.taken (branch_count kind);
      -- conditional branches whose direction was predicted
      dir_hits = n.dir_hits + where_so (same_way look.taken r.taken) (cond_count kind);
      -- branches and jumps whose next address was predicted
      addr_hits = n.addr_hits + where_so (look.next == r.next) (branch_count kind);
    }

-- the counts of these records, the newest first
abbrev pub counts_of : PredConfig → List CommitRecord → PredCounts
counts_of c [] = no_counts
counts_of c (r ∷ h) = counted (control_of r.instr) r (look_at c h r) (counts_of c h)

-- a count stands still at its type's end
abbrev pub at_most : PredCounts → PredCounts
at_most n =
    record {
      control = min n.control (2 ^ 64 - 1);
      cond = min n.cond (2 ^ 64 - 1);
      taken = min n.taken (2 ^ 64 - 1);
      dir_hits = min n.dir_hits (2 ^ 64 - 1);
      addr_hits = min n.addr_hits (2 ^ 64 - 1);
    }
