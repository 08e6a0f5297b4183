use Rattle.std.proofs.Common.{length}
use Rattle.sim_opts.specs.Options.{said_in}
use Rattle.sim_opts.proofs.Configuring.{Going}
use Rattle.sim_opts.proofs.configuration.read_config.Given as goal

abbrev pub invariant-lines : goal.invariant-lines
invariant-lines l = Going (said_in l.fn.o) (said_in l.o) l.stood.items l.number l.rest l.text

abbrev pub decreases-lines : goal.decreases-lines
decreases-lines l = length l.rest
