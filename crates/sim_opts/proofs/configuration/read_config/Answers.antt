use Rattle.std.proofs.Common.{sym, subst, Err, arith, rules}
use Rattle.ss_base.specs.declared.text_fault.AsmFault.{AsmFault}
use Rattle.sim_opts.specs.Options.{said_in}
use Rattle.sim_opts.specs.Configuration.{configuration, Configures}
use Rattle.sim_opts.proofs.Configuring.{starts, goes_on, ends_wrong, is_done}
use Rattle.sim_opts.proofs.configuration.read_config.Goals as goal

pub lines-init : goal.lines-init
lines-init c = starts (said_in c.args.o.now) c.new-stood.result.items c.args.text.now (search rules)

pub lines-preserved : goal.lines-preserved
lines-preserved c =
    goes_on (said_in c.args.o.now) (said_in c.lines.o) (said_in c.take_line.new.o) c.lines.stood.items c.take_line.new.stood.items c.lines.number c.lines.rest.now c.args.text.now c.next_line.result.0.now c.next_line.result.1.now c.lines.invariant
    c.next_line.ensures.lines c.next_line.ensures.shorter (λ before same. c.in-Ok.ensures before same)

pub returns-in-Err : goal.returns-in-Err
returns-in-Err c =
    subst (λ (f : AsmFault). Configures (configuration c.args.o.now.tool c.args.text.now) (said_in c.args.o.now) (said_in c.take_line.new.o) (Err f)) (sym c.at.ensures)
    (ends_wrong (said_in c.args.o.now) (said_in c.lines.o) (said_in c.take_line.new.o) c.lines.stood.items c.take_line.new.stood.items c.in-Err.stop c.lines.number c.lines.rest.now c.args.text.now c.next_line.result.0.now c.next_line.result.1.now
    c.lines.invariant c.next_line.ensures.lines (λ before same. c.in-Err.ensures before same))

pub returns : goal.returns
returns c = is_done (said_in c.args.o.now) (said_in c.lines.o) c.lines.stood.items c.lines.number c.lines.rest.now c.args.text.now c.lines.invariant (omega arith)
