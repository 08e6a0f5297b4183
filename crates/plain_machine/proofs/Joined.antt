-- The stages of a cycle, one after another.
use Rattle.std.proofs.Common.{◌≡◌, ℕ, ◌≤◌, List, ◌++◌, None, Result, Ok, Err, sym, ap, ◌∙◌, subst}
use Rattle.ss_base.specs.declared.fault.OutOfMemory.{OutOfMemory}
use Rattle.mem_hier.specs.Replay.{Reference}
use Rattle.bpred_unit.specs.History.{Event}
use Rattle.ooo_table.specs.Row as table
use Rattle.ooo_table.specs.Table as given
use Rattle.ooo_table.specs.Table.{Setting, Table}
use Rattle.ooo_table.specs.References.{store_references, load_references, updates_of}
use Rattle.ooo_table.specs.Cycle.{table, after_commit, after_recover, after_issue, after_dispatch}
use Rattle.ooo_table.specs.Ends.{last_commit, or_stop, stops_in}
use Rattle.ooo_table.specs.Machine.{Given, setting_of}
use Rattle.ooo_plain.specs.Kept.{AreKept}
use Rattle.plain_machine.specs.declared.cycle.PlainTurn.{PlainTurn}
use Rattle.plain_machine.specs.declared.cycle.PlainTurn.TheVariants as turn
use Rattle.plain_machine.specs.declared.machine.Plain.{Plain}
use Rattle.plain_machine.specs.Standing.{Stands, StandsWithin, recoveries}
use Rattle.plain_machine.specs.Stages.{RecoversSo, IssuesSo, dispatched_rows}
use Rattle.plain_machine.specs.Cycle.{BehindCommits, EndsBehind, StagesEnd}
use Rattle.plain_machine.proofs.Histories.{recovers_once, none_accessed, stores_stay, references_stand, events_stand}

pub record Behind (g : Given) (c : ℕ) (issued dispatched : Plain) : Type 0 where
  pub rows_issued : AreKept (setting_of g) issued.rows.items (after_issue (setting_of g) c).rows
  pub within : StandsWithin g c (after_dispatch (setting_of g) c) dispatched

with_references : (g : Given) (rows : List table.Row) (next : given.NextFetch) (h k : List Reference) (e : List Event) (p : Plain) → h ≡ k → Stands g rows next h e p → Stands g rows next k e p
with_references g rows next h k e p eq st = subst (λ l. Stands g rows next l e p) eq st

with_events : (g : Given) (rows : List table.Row) (next : given.NextFetch) (h : List Reference) (e d : List Event) (p : Plain) → e ≡ d → Stands g rows next h e p → Stands g rows next h d p
with_events g rows next h e d p eq st = subst (λ l. Stands g rows next h l p) eq st

pub joined : (g : Given) (c : ℕ) (p0 p1 p2 p3 : Plain) → 1 ≤ g.config.penalty → BehindCommits g c p0
    → ((rows : List table.Row) (next : given.NextFetch) (h : List Reference) (e : List Event) → Stands g rows next h e p0 → RecoversSo g c rows next h e p1)
    → ((t : Table) (e : List Event) → IssuesSo g c t e p1 p2)
    → ((rows : List table.Row) (next : given.NextFetch) (h : List Reference) (e : List Event) → Stands g rows next h e p2 → Stands g (dispatched_rows g c rows) next h e p3)
    → Behind g c p2 p3
joined g c p0 p1 p2 p3 penalty st recovers issues dispatches =
    let set : Setting = setting_of g in
    let refs : List Reference = (table set c).references in
    let events : List Event = recoveries set c (after_commit set c).rows ++ updates_of set c (after_commit set c).rows (table set c).predictor_events in
    let one : Stands g (after_recover set c).rows (after_recover set c).next_fetch (store_references set c (after_commit set c).rows refs) events p1 =
    recovers (after_commit set c).rows (table set c).next_fetch (store_references set c (after_commit set c).rows refs) (updates_of set c (after_commit set c).rows (table set c).predictor_events) st
    (recovers_once set c penalty) in
    let two : Stands g (after_issue set c).rows (after_recover set c).next_fetch (load_references set c (after_issue set c).rows (store_references set c (after_recover set c).rows refs)) events p2 =
    issues (after_recover set c) events (none_accessed set c) (with_references g (after_recover set c).rows (after_recover set c).next_fetch _ _ events p1 (stores_stay set c refs) one) in
    let three : Stands g (after_dispatch set c).rows (after_recover set c).next_fetch (load_references set c (after_issue set c).rows (store_references set c (after_recover set c).rows refs)) events p3 =
    dispatches (after_issue set c).rows (after_recover set c).next_fetch _ events two in
    record {
      rows_issued = two.kept_rows;
      within = with_references g (after_dispatch set c).rows (after_recover set c).next_fetch _ _ _ p3 (sym (references_stand set c))
          (with_events g (after_dispatch set c).rows (after_recover set c).next_fetch _ _ _ p3 (sym (events_stand set c)) three);
    }

pub ends_behind : (g : Given) (c most : ℕ) (p : Plain) (result : Result PlainTurn OutOfMemory) → None ≡ last_commit (setting_of g) most c (after_commit (setting_of g) c).rows
    → EndsBehind g c p result → StagesEnd g c most p result
ends_behind g c most p (Ok turn.Going) l k =
    (ap (λ o. or_stop (stops_in (setting_of g) c (table (setting_of g) c)) o) (sym l) ∙ ap (λ b. or_stop b None) k.0, k.1)
ends_behind g c most p (Ok (turn.Committed row)) l k = absurd k
ends_behind g c most p (Ok turn.Stopped) l k =
    (ap (λ o. or_stop (stops_in (setting_of g) c (table (setting_of g) c)) o) (sym l) ∙ ap (λ b. or_stop b None) k.0, k.1)
ends_behind g c most p (Err _) l k = k
