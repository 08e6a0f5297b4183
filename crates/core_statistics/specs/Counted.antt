-- What a core counts, and when its counts are those of the table.
use Rattle.std.specs.Prelude.{◌≡◌, ℕ, ◌+◌, ◌-◌, ◌^◌, Bool, true, false, not, List, length, min, ◌==◌, ◌&&◌, if◌then◌else◌, count_by, is_some}
use Rattle.pisa_isa.specs.Classes.{control_of}
use Rattle.sim_safe.specs.declared.statistics.Statistics.{Statistics}
use Rattle.sim_safe.specs.Statistics.{counted, at_most}
use Rattle.ruu_core.specs.declared.station.Station.{Station}
use Rattle.ooo_table.specs.Row.{Row, is_at, accessed, not_forwarded}
use Rattle.ooo_table.specs.Table.{Setting}
use Rattle.ooo_table.specs.Path as path
use Rattle.ooo_table.specs.Path.{execution, mispredicted}
use Rattle.ooo_table.specs.Done.{written}
use Rattle.ooo_table.specs.Recovery as recovery
use Rattle.ooo_table.specs.Ends.{happened}
use Rattle.ooo_table.specs.Counts.{Counts, committed_as}
use Rattle.ooo_table.specs.Counts as table
use Rattle.ooo_table.specs.Machine.{is_control}
use Rattle.core_parts.specs.declared.answers.Issued.{Issued}
use Rattle.core_parts.specs.declared.answers.Issued.TheVariants as what
use Rattle.core_statistics.specs.declared.stats.CoreStats.{CoreStats}

-- ---- what each call adds

-- a count that rises by so many stands still at its type's end
abbrev pub raised : ℕ → ℕ → ℕ
raised by n = min (n + by) (2 ^ 64 - 1)

abbrev pub no_counts : CoreStats
no_counts =
    record {
      insn = 0;
      loads = 0;
      stores = 0;
      branches = 0;
      calls = 0;
      cycles = 0;
      fetched = 0;
      dispatched = 0;
      squashed = 0;
      recoveries = 0;
      forwarded = 0;
      addr_hits = 0;
    }

-- a branch or jump whose predicted address was the next one
abbrev pub is_hit : Station → Bool
is_hit s = is_control (control_of s.instr) && (s.predicted == s.actual)

-- a load whose value an older store gives
abbrev pub is_forwarding : Issued → Bool
is_forwarding (what.Main row) = false
is_forwarding (what.Access row forwarded) = forwarded

-- the counts of commits, as those of a functional run
abbrev pub commits_counted : CoreStats → Statistics
commits_counted o = record { insn = o.insn; loads = o.loads; stores = o.stores; branches = o.branches; calls = o.calls }

abbrev pub with_commit : Station → CoreStats → CoreStats
with_commit s o =
    let done = at_most (counted s.instr (commits_counted o)) in
    record o {
      insn = done.insn;
      loads = done.loads;
      stores = done.stores;
      branches = done.branches;
      calls = done.calls;
      addr_hits = raised (if is_hit s then 1 else 0) o.addr_hits;
    }

abbrev pub with_recovery : ℕ → CoreStats → CoreStats
with_recovery n o = record o { recoveries = raised 1 o.recoveries; squashed = raised n o.squashed }

abbrev pub with_issues : List Issued → CoreStats → CoreStats
with_issues done o = record o { forwarded = raised (count_by is_forwarding done) o.forwarded }

abbrev pub with_dispatches : ℕ → CoreStats → CoreStats
with_dispatches n o = record o { dispatched = raised n o.dispatched }

abbrev pub with_fetches : ℕ → CoreStats → CoreStats
with_fetches n o = record o { fetched = raised n o.fetched }

abbrev pub with_cycle : CoreStats → CoreStats
with_cycle o = record o { cycles = raised 1 o.cycles }

-- ---- counts of the table

abbrev pub capped : ℕ → ℕ
capped n = min n (2 ^ 64 - 1)

-- the table's counts with a number of cycles, as a core has them
abbrev pub stats_of : Counts → ℕ → CoreStats
stats_of k n =
    record {
      insn = capped k.insn;
      loads = capped k.loads;
      stores = capped k.stores;
      branches = capped k.branches;
      calls = capped k.calls;
      cycles = capped n;
      fetched = capped k.fetched;
      dispatched = capped k.dispatched;
      squashed = capped k.squashed;
      recoveries = capped k.recoveries;
      forwarded = capped k.forwarded;
      addr_hits = capped k.addr_hits;
    }

module _ (set : Setting) where
  -- a mispredicted row whose W has come in the first n cycles
  abbrev pub recovered_in : ℕ → Row → Bool
  recovered_in n r = mispredicted set r && is_some (happened n r (written set r))

  -- what is counted of these rows, where n cycles came to their write-backs: `counts_of` of the table, within a cycle too
  abbrev pub counts_in : ℕ → List Row → Counts
  counts_in n rows =
      record {
        insn = count_by (λ r. is_some r.committed) rows;
        loads = count_by (committed_as set (path.loads set)) rows;
        stores = count_by (committed_as set (path.stores set)) rows;
        branches = count_by (committed_as set (λ r. (execution set r).control)) rows;
        calls = count_by (committed_as set (λ r. (execution set r).call)) rows;
        fetched = length rows;
        dispatched = count_by (λ r. is_some r.dispatched) rows;
        squashed = count_by (λ r. is_some r.squashed) rows;
        recoveries = count_by (recovered_in n) rows;
        forwarded = count_by (λ r. not (not_forwarded r.access)) rows;
        addr_hits = count_by (committed_as set (table.is_hit set)) rows;
      }

  -- ---- what each stage of cycle c adds, by its marks in the rows behind it

  abbrev pub commits_now : ℕ → (Row → Bool) → List Row → ℕ
  commits_now c p rows = count_by (λ r. is_at c r.committed && p r) rows

  abbrev pub plus_commits : ℕ → List Row → Counts → Counts
  plus_commits c rows k =
      record k {
        insn = k.insn + count_by (λ r. is_at c r.committed) rows;
        loads = k.loads + commits_now c (path.loads set) rows;
        stores = k.stores + commits_now c (path.stores set) rows;
        branches = k.branches + commits_now c (λ r. (execution set r).control) rows;
        calls = k.calls + commits_now c (λ r. (execution set r).call) rows;
        addr_hits = k.addr_hits + commits_now c (table.is_hit set) rows;
      }

  abbrev pub plus_recovery : ℕ → List Row → Counts → Counts
  plus_recovery c rows k =
      record k {
        recoveries = k.recoveries + count_by (recovery.recovers set c) rows;
        squashed = k.squashed + count_by (λ r. is_at c r.squashed) rows;
      }

  abbrev pub plus_issues : ℕ → List Row → Counts → Counts
  plus_issues c rows k = record k { forwarded = k.forwarded + count_by (λ r. is_at c (accessed r) && not (not_forwarded r.access)) rows }

  abbrev pub plus_dispatches : ℕ → List Row → Counts → Counts
  plus_dispatches c rows k = record k { dispatched = k.dispatched + count_by (λ r. is_at c r.dispatched) rows }

  abbrev pub plus_fetches : ℕ → List Row → Counts → Counts
  plus_fetches c rows k = record k { fetched = k.fetched + count_by (λ r. r.fetched.at == c) rows }
