use Rattle.std.proofs.Common.{◌≡◌, ◌-◌, ◌≤◌, true}
use Rattle.ecoff_load.specs.Object.{IsText}
use Rattle.ooo_table.specs.Cycle.{after_issue}
use Rattle.ooo_table.specs.Machine.{Given, setting_of}
use Rattle.ooo_table.specs.MachineLaws.{IsSound}
use Rattle.core_parts.specs.Fits.{Fits}
use Rattle.core_parts.specs.Stands.{Stands}
use Rattle.core_dispatch.specs.Turn.{Keeps}
use Rattle.watched_stages.proofs.Dispatches.{Midway}
use Rattle.watched_stages.proofs.dispatching.dispatch.Given as goal

abbrev pub invariant-rows : goal.invariant-rows
invariant-rows g l =
    Fits l.cycle 64 l.parts
    × IsText l.parts.arch.text
    × (l.dispatched ≤ 32)
    × ((k : Given) → IsSound k → k.trace ≡ l.trace → Stands k l.cycle true l.fn.parts (after_issue (setting_of k) l.cycle)
    → Midway k l.cycle g.W.Watch.took g.W.Watch.cut l.dispatched l.called l.parts l.fn.watch l.watch)
    × (g.W.Watch.faults l.watch ≡ g.W.Watch.faults l.fn.watch)
    × (g.W.Watch.takes_no_memory l.fn.watch → g.W.Watch.takes_no_memory l.watch)
    × (l.stats ≡ l.fn.stats)
    × Keeps l.fn.parts.arch l.parts.arch

abbrev pub decreases-rows : goal.decreases-rows
decreases-rows g l = 32 - l.dispatched
