use Rattle.std.specs.Option.{option_copied}
use Rattle.pipetrace.specs.Text.{event_text}
use Rattle.core_watch.specs.Shown.{Happened}
use Rattle.sim_watch.specs.Watch.{piece_with}
use Rattle.sim_watch.proofs.Items.{cut_faults, lacks_piece}
use Rattle.machine_watch.specs.Watch.{names_of, pending_of}
use Rattle.machine_watch.specs.Laws.{taken_next, cut_next}
use Rattle.machine_watch.proofs.Taking.{with_text, event_left}
use Rattle.machine_watch.proofs.watch.MachineWatchWatch.event.Goals as goal

pub returns-in-Ok-clause-took : goal.returns-in-Ok-clause-took
returns-in-Ok-clause-took g c = λ start h t.
    let w = c.args.self.now in
    let e = c.args.e.now in
    let text = c.write_event_if_named.new.pending.items in
    record {
      outside_same = t.outside_same;
      names = t.names;
      taken = taken_next g.O.Outside.view start.outside.now w.outside.now c.write_event_if_named.new.outside (names_of start) (names_of w) (pending_of start) (pending_of w) (with_text (pending_of w) e text) h (Happened e) t.names t.taken c.in-Ok.ensures.0 (event_left (names_of w) (pending_of w) e text c.in-Ok.ensures.1);
    }

pub returns-in-Err-clause-took : goal.returns-in-Err-clause-took
returns-in-Err-clause-took g c = λ start h t.
    let w = c.args.self.now in
    record {
      outside_same = t.outside_same;
      cut = cut_next g.O.Outside.view start.outside.now w.outside.now c.write_event_if_named.new.outside (names_of start) (names_of w) (pending_of start) (pending_of w) h (Happened c.args.e.now) c.in-Err.fault t.names t.taken c.in-Err.ensures;
    }

pub returns-in-Err-clause-count : goal.returns-in-Err-clause-count
returns-in-Err-clause-count g c =
    let w = c.args.self.now in
    let file = option_copied w.ptrace.now in
    let text = event_text w.last c.args.e.now in
    cut_faults g.O.Outside.view w.outside.now c.write_event_if_named.new.outside (piece_with file w.text.now.items text) c.in-Err.fault (lacks_piece file w.text.now.items text) c.in-Err.ensures
