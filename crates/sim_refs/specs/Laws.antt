-- Laws of references, events and counts, in words of their own.
use Rattle.std.specs.Prelude.{◌≡◌, ◌≢◌, ℕ, ◌+◌, ◌≤◌, not, List, [], ◌∷◌, ◌++◌, length, IsSome, Some, sum_by, ◌==◌, if◌then◌else◌}
use Rattle.pisa_isa.specs.declared.instr.Op.TheVariants as op
use Rattle.pisa_isa.specs.declared.instr.Instr.{Instr}
use Rattle.pisa_isa.specs.declared.classes.AccessKind.TheVariants as access
use Rattle.pisa_isa.specs.Classes.{access_of, control_of}
use Rattle.sim_safe.specs.declared.record.CommitRecord.{CommitRecord}
use Rattle.sim_safe.specs.Record.{Item}
use Rattle.sim_safe.specs.Step.{Outcome, Next, Halt}
use Rattle.sim_safe.specs.Statistics.{load_count, store_count, branch_count, statistics_back}
use Rattle.cache_core.specs.declared.answers.Counts.{Counts}
use Rattle.mem_hier.specs.declared.config.HierConfig.{HierConfig}
use Rattle.mem_hier.specs.declared.config.Which.TheVariants.{Il1, Dl1, Itlb, Dtlb}
use Rattle.mem_hier.specs.Limits.{is_shared}
use Rattle.mem_hier.specs.Replay.{Reference, Fetch, Load, Store, SettleAll, counts_at}
use Rattle.bpred_unit.specs.declared.config.PredConfig.{PredConfig}
use Rattle.bpred_unit.specs.History.{Event, LookUp, Update, Recover, look_of}
use Rattle.sim_refs.specs.References.{references_of}
use Rattle.sim_refs.specs.Predictions.{events_of, look_at, cond_count, same_way, where_so, counts_of}

-- ---- references

-- how many of these references are fetches, loads, and stores
abbrev pub fetches_in : List Reference → ℕ
fetches_in [] = 0
fetches_in (Fetch pc cycle ∷ h) = fetches_in h + 1
fetches_in (Load addr cycle ∷ h) = fetches_in h
fetches_in (Store addr cycle ∷ h) = fetches_in h
fetches_in (SettleAll ∷ h) = fetches_in h

abbrev pub loads_in : List Reference → ℕ
loads_in [] = 0
loads_in (Fetch pc cycle ∷ h) = loads_in h
loads_in (Load addr cycle ∷ h) = loads_in h + 1
loads_in (Store addr cycle ∷ h) = loads_in h
loads_in (SettleAll ∷ h) = loads_in h

abbrev pub stores_in : List Reference → ℕ
stores_in [] = 0
stores_in (Fetch pc cycle ∷ h) = stores_in h
stores_in (Load addr cycle ∷ h) = stores_in h
stores_in (Store addr cycle ∷ h) = stores_in h + 1
stores_in (SettleAll ∷ h) = stores_in h

-- a load or store has an effective address
abbrev pub HasAddress : CommitRecord → Type 0
HasAddress r = access_of r.instr.op ≢ access.Nothing → IsSome r.access

-- a step that does an instruction gives such a record
abbrev pub StepHasAddress : Outcome → Type 0
StepHasAddress (Next r after) = HasAddress r
StepHasAddress (Halt why) = Unit {0}

-- the records of what was done in a run, the newest first as there
abbrev pub records_of : List Item → List CommitRecord
records_of [] = []
records_of (i ∷ h) = i.did ∷ records_of h

-- the loads and the stores among these instructions
abbrev pub loads_of : List CommitRecord → ℕ
loads_of h = sum_by (λ r. load_count (access_of r.instr.op)) h

abbrev pub stores_of : List CommitRecord → ℕ
stores_of h = sum_by (λ r. store_count (access_of r.instr.op)) h

-- There are as many fetches as instructions, and as many loads and stores as there are among them.
pub record RefersOnce (h : List CommitRecord) : Type 0 where
  pub fetches : fetches_in (references_of h) ≡ length h
  pub loads : loads_in (references_of h) ≡ loads_of h
  pub stores : stores_in (references_of h) ≡ stores_of h

-- A load or store comes directly behind its own instruction's fetch. Other instructions, system calls among them, are
-- fetched and refer to nothing else.
pub record RefersInOrder (r : CommitRecord) (h : List CommitRecord) : Type 0 where
  pub load : (a : ℕ) → access_of r.instr.op ≡ access.Load → r.access ≡ Some a → references_of (r ∷ h) ≡ Load a 0 ∷ (Fetch r.pc 0 ∷ references_of h)
  pub store : (a : ℕ) → access_of r.instr.op ≡ access.Store → r.access ≡ Some a → references_of (r ∷ h) ≡ Store a 0 ∷ (Fetch r.pc 0 ∷ references_of h)
  pub other : access_of r.instr.op ≡ access.Nothing → references_of (r ∷ h) ≡ Fetch r.pc 0 ∷ references_of h
  pub call : r.instr.op ≡ op.Syscall → references_of (r ∷ h) ≡ Fetch r.pc 0 ∷ references_of h

-- What the caches and TLBs in front are asked: each instruction its fetch, and each load and store its data. Where the
-- first level is shared, it gets both.
pub record FrontsCount (c : HierConfig) (h : List CommitRecord) : Type 0 where
  pub il1 : (n : Counts) → counts_at c (references_of h) Il1 ≡ Some n → n.accesses ≡ length h
  pub itlb : (n : Counts) → counts_at c (references_of h) Itlb ≡ Some n → n.accesses ≡ length h
  pub dl1 : (n : Counts) → counts_at c (references_of h) Dl1 ≡ Some n → n.accesses ≡ (if is_shared c.il1 then length h else 0) + (loads_of h + stores_of h)
  pub dtlb : (n : Counts) → counts_at c (references_of h) Dtlb ≡ Some n → n.accesses ≡ loads_of h + stores_of h

-- ---- predictions

-- how many of these events are look-ups, and updates
abbrev pub lookups_in : List Event → ℕ
lookups_in [] = 0
lookups_in (LookUp pc i ∷ h) = lookups_in h + 1
lookups_in (Update pc i taken next ∷ h) = lookups_in h
lookups_in (Recover top ∷ h) = lookups_in h

abbrev pub updates_in : List Event → ℕ
updates_in [] = 0
updates_in (LookUp pc i ∷ h) = updates_in h
updates_in (Update pc i taken next ∷ h) = updates_in h + 1
updates_in (Recover top ∷ h) = updates_in h

-- branches and jumps after which another instruction came than the predicted one
abbrev pub addr_misses : PredConfig → List CommitRecord → ℕ
addr_misses c [] = 0
addr_misses c (r ∷ h) = addr_misses c h + where_so (not ((look_at c h r).next == r.next)) (branch_count (control_of r.instr))

-- conditional branches that went the other way than predicted
abbrev pub dir_misses : PredConfig → List CommitRecord → ℕ
dir_misses c [] = 0
dir_misses c (r ∷ h) = dir_misses c h + where_so (not (same_way (look_at c h r).taken r.taken)) (cond_count (control_of r.instr))

-- Each look-up is one prediction of an address, right or wrong, and those of conditional branches are predictions of a
-- direction as well.
pub record RightOrWrong (c : PredConfig) (h : List CommitRecord) : Type 0 where
  pub lookups : lookups_in (events_of h) ≡ (counts_of c h).control
  pub updates : updates_in (events_of h) ≡ (counts_of c h).control
  pub addresses : (counts_of c h).addr_hits + addr_misses c h ≡ (counts_of c h).control
  pub directions : (counts_of c h).dir_hits + dir_misses c h ≡ (counts_of c h).cond
  pub cond : (counts_of c h).cond ≤ (counts_of c h).control
  pub taken : (counts_of c h).taken ≤ (counts_of c h).control

-- ---- runs in parts

-- What a run asks is what its parts ask, the later part h first in the list. What is counted without the predictor adds
-- up; predictions of the later part stand beside those of the earlier one.
pub record Joins (c : PredConfig) (h g : List CommitRecord) : Type 0 where
  pub references : references_of (h ++ g) ≡ references_of h ++ references_of g
  pub events : events_of (h ++ g) ≡ events_of h ++ events_of g
  pub control : (counts_of c (h ++ g)).control ≡ (counts_of c h).control + (counts_of c g).control
  pub cond : (counts_of c (h ++ g)).cond ≡ (counts_of c h).cond + (counts_of c g).cond
  pub taken : (counts_of c (h ++ g)).taken ≡ (counts_of c h).taken + (counts_of c g).taken
  pub dir_hits : (counts_of c g).dir_hits ≤ (counts_of c (h ++ g)).dir_hits
  pub addr_hits : (counts_of c g).addr_hits ≤ (counts_of c (h ++ g)).addr_hits

-- ---- other instructions

-- one that directs no control asks the predictor nothing and is not counted
pub record AsksNothing (c : PredConfig) (r : CommitRecord) (h : List CommitRecord) : Type 0 where
  pub events : events_of (r ∷ h) ≡ events_of h
  pub counts : counts_of c (r ∷ h) ≡ counts_of c h

-- the events where every instruction is looked up and told, whatever it is
abbrev pub all_events_of : List CommitRecord → List Event
all_events_of [] = []
all_events_of (r ∷ h) = Update r.pc r.instr r.taken r.next ∷ (LookUp r.pc r.instr ∷ all_events_of h)

-- it makes no difference to any answer
abbrev pub AnswersAlike : PredConfig → List CommitRecord → ℕ → Instr → Type 0
AnswersAlike c h pc i = look_of c (all_events_of h) pc i ≡ look_of c (events_of h) pc i

-- ---- statistics

-- what is counted of references and of predictions agrees with the statistics of the run
pub record AgreesWithStatistics (c : PredConfig) (h : List Item) : Type 0 where
  pub insn : length (records_of h) ≡ (statistics_back h).insn
  pub loads : loads_of (records_of h) ≡ (statistics_back h).loads
  pub stores : stores_of (records_of h) ≡ (statistics_back h).stores
  pub branches : (counts_of c (records_of h)).control ≡ (statistics_back h).branches
