use Rattle.std.proofs.Common.{◌+◌, ◌*◌, refl}
use Rattle.sim_safe.proofs.Decoding.{first_more}
use Rattle.sim_safe.proofs.decoded.decoded.Goals as goal

pub loop-k-preserved : goal.loop-k-preserved
loop-k-preserved c =
    first_more c.args.text.now c.loop-k.k c.loop-k.instrs.items c.push.new.self.items c.instruction_at.result (c.args.text.now.start + 8 * c.loop-k.k)
    c.loop-k.invariant refl c.instruction_at.ensures c.in_ok-push.ensures.items
