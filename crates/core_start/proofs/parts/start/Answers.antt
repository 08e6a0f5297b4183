use Rattle.core_start.proofs.First.{begun, fits, starts}
use Rattle.core_start.proofs.parts.start.Goals as goal

pub returns-clause-fits : goal.returns-clause-fits
returns-clause-fits c =
    fits c.args.config.now c.args.arch c.args.hier c.args.predictor _
    (
    begun c.args.config.now c.args.arch c.args.hier c.settled.result c.args.predictor c.in_ok-buffers.buffers.unit c.in_ok-buffers.buffers.queue c.in_ok-buffers.buffers.addresses c.in_ok-buffers.buffers.front c.new-2.result c.in_ok-buffers.buffers.overlay c.pc.result
    c.pc.ensures c.in_ok-buffers.ensures.live c.in_ok-buffers.ensures.front
    (record { alus = c.new-2.ensures.sizes.0; mults = c.new-2.ensures.sizes.1; ports = c.new-2.ensures.sizes.2; time = c.new-2.ensures.start; takes = c.new-2.ensures.stands })
    c.in_ok-buffers.ensures.overlay c.settled.ensures
    )
    c.requires.allowed c.requires.counts.0 c.requires.counts.1

pub returns-clause-starts : goal.returns-clause-starts
returns-clause-starts c =
    starts c.args.config.now c.args.arch c.args.hier c.args.predictor _
    (
    begun c.args.config.now c.args.arch c.args.hier c.settled.result c.args.predictor c.in_ok-buffers.buffers.unit c.in_ok-buffers.buffers.queue c.in_ok-buffers.buffers.addresses c.in_ok-buffers.buffers.front c.new-2.result c.in_ok-buffers.buffers.overlay c.pc.result
    c.pc.ensures c.in_ok-buffers.ensures.live c.in_ok-buffers.ensures.front
    (record { alus = c.new-2.ensures.sizes.0; mults = c.new-2.ensures.sizes.1; ports = c.new-2.ensures.sizes.2; time = c.new-2.ensures.start; takes = c.new-2.ensures.stands })
    c.in_ok-buffers.ensures.overlay c.settled.ensures
    )
