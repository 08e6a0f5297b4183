use Rattle.std.proofs.Common.{◌∙◌, ◌+◌, refl, ap, sym, arith, drop}
use Rattle.std.specs.Prelude.{reverse}
use Rattle.core_parts.specs.Fits.{queue_tags, unit_tags}
use Rattle.lsq_core.specs.Queue.{Queue}
use Rattle.core_recovery.specs.Recovery.{learned_of}
use Rattle.core_recovery.proofs.Learns.{store_held, row_live, drop_next, drop_rest, learned_keeps}
use Rattle.core_recovery.proofs.learn.learn.Goals as goal

pub loop-at-init : goal.loop-at-init
loop-at-init c = (refl, c.requires.queue)

pub learn_row-requires-clause-held : goal.learn_row-requires-clause-held
learn_row-requires-clause-held c =
    λ store.
    store_held c.args.addresses.now.rows c.loop-at.queue.entries (unit_tags c.args.unit.now.rows) c.loop-at.at c.row_at.result.now c.requires.addresses c.loop-at.invariant.1 c.row_at.ensures store

pub learn_row-requires-clause-live : goal.learn_row-requires-clause-live
learn_row-requires-clause-live c = row_live c.args.addresses.now.rows c.args.unit.now.rows c.loop-at.at c.row_at.result.now c.requires.addresses c.row_at.ensures

pub loop-at-preserved : goal.loop-at-preserved
loop-at-preserved c = (
  ap (λ q. learned_of c.args.cycle c.args.unit.now.rows (drop (c.loop-at.at + 1) (reverse c.args.addresses.now.rows)) q) c.learn_row.ensures
      ∙ (sym (ap (λ xs. learned_of c.args.cycle c.args.unit.now.rows xs c.loop-at.queue) (drop_next (reverse c.args.addresses.now.rows) c.loop-at.at c.row_at.result.now c.row_at.ensures))
      ∙ c.loop-at.invariant.0),
  ap (λ (q : Queue). queue_tags q.entries) c.learn_row.ensures
      ∙ ((learned_keeps c.args.cycle c.args.unit.now.rows c.row_at.result.now c.loop-at.queue).tags ∙ c.loop-at.invariant.1),
)

pub returns : goal.returns
returns c =
    sym (ap (λ xs. learned_of c.args.cycle c.args.unit.now.rows xs c.loop-at.queue) (drop_rest c.args.addresses.now.rows c.loop-at.at (omega (arith, c.len-at-end.ensures, c.loop-at-test.false))))
    ∙ c.loop-at.invariant.0
