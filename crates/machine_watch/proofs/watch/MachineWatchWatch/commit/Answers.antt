use Rattle.std.specs.Option.{option_copied}
use Rattle.std.proofs.Common.{◌∙◌}
use Rattle.sim_safe.specs.Record.{item_of}
use Rattle.sim_safe.specs.Commit.{line_of}
use Rattle.core_watch.specs.Shown.{Committed}
use Rattle.sim_watch.specs.Watch.{puts_of, piece_with, meaning_of, faults_of}
use Rattle.sim_watch.proofs.Items.{cut_faults, same_faults, faults_later, lacks_puts, lacks_piece}
use Rattle.machine_watch.specs.Watch.{names_of, pending_of}
use Rattle.machine_watch.specs.Laws.{taken_next, cut_next}
use Rattle.machine_watch.proofs.Taking.{with_lines, commit_left, commit_written, cut_at_output, cut_at_line}
use Rattle.machine_watch.proofs.watch.MachineWatchWatch.commit.Goals as goal

pub returns-in-Err-clause-took : goal.returns-in-Err-clause-took
returns-in-Err-clause-took g c = λ start h t.
    let v = g.O.Outside.view in
    let w = c.args.self.now in
    let did = item_of c.args.trace.now c.args.r.now in
    record {
      outside_same = t.outside_same;
      cut = cut_next v start.outside.now w.outside.now c.emit.new.outside (names_of start) (names_of w) (pending_of start) (pending_of w) h (Committed did) c.in-Err.fault t.names t.taken
          (cut_at_output v w.outside.now c.emit.new.outside (option_copied w.commits.now) w.lines.now.items did c.emitted.result.now c.in-Err.fault c.emitted.ensures c.in-Err.ensures);
    }

pub returns-in-Err-clause-count : goal.returns-in-Err-clause-count
returns-in-Err-clause-count g c =
    cut_faults g.O.Outside.view c.args.self.now.outside.now c.emit.new.outside (puts_of c.emitted.result.now) c.in-Err.fault (lacks_puts c.emitted.result.now) c.in-Err.ensures

pub returns-in-Ok-write_line_if_named-clause-took : goal.returns-in-Ok-write_line_if_named-clause-took
returns-in-Ok-write_line_if_named-clause-took g c = λ start h t.
    let v = g.O.Outside.view in
    let w = c.args.self.now in
    let did = item_of c.args.trace.now c.args.r.now in
    let lines = c.write_line_if_named.new.pending.items in
    record {
      outside_same = t.outside_same;
      names = t.names;
      taken = taken_next v start.outside.now w.outside.now c.write_line_if_named.new.outside (names_of start) (names_of w) (pending_of start) (pending_of w) (with_lines (pending_of w) lines) h (Committed did) t.names t.taken
          (commit_written v w.outside.now c.emit.new.outside c.write_line_if_named.new.outside (option_copied w.commits.now) w.lines.now.items did c.emitted.result.now c.emitted.ensures c.in-Ok.ensures c.in-Ok-write_line_if_named.ensures.0)
          (commit_left (names_of w) (pending_of w) did lines c.in-Ok-write_line_if_named.ensures.1);
    }

pub returns-in-Ok-write_line_if_named-clause-count : goal.returns-in-Ok-write_line_if_named-clause-count
returns-in-Ok-write_line_if_named-clause-count g c =
    let v = g.O.Outside.view in
    let w = c.args.self.now in
    same_faults v c.emit.new.outside c.write_line_if_named.new.outside (piece_with (option_copied w.commits.now) w.lines.now.items (line_of (item_of c.args.trace.now c.args.r.now))) c.in-Ok-write_line_if_named.ensures.0
    ∙ same_faults v w.outside.now c.emit.new.outside (puts_of c.emitted.result.now) c.in-Ok.ensures

pub returns-in-Err-write_line_if_named-clause-took : goal.returns-in-Err-write_line_if_named-clause-took
returns-in-Err-write_line_if_named-clause-took g c = λ start h t.
    let v = g.O.Outside.view in
    let w = c.args.self.now in
    let did = item_of c.args.trace.now c.args.r.now in
    let f = c.in-Err-write_line_if_named.fault in
    record {
      outside_same = t.outside_same;
      cut = cut_next v start.outside.now w.outside.now c.write_line_if_named.new.outside (names_of start) (names_of w) (pending_of start) (pending_of w) h (Committed did) f t.names t.taken
          (cut_at_line v w.outside.now c.emit.new.outside c.write_line_if_named.new.outside (option_copied w.commits.now) w.lines.now.items did c.emitted.result.now f c.emitted.ensures c.in-Ok.ensures c.in-Err-write_line_if_named.ensures);
    }

pub returns-in-Err-write_line_if_named-clause-count : goal.returns-in-Err-write_line_if_named-clause-count
returns-in-Err-write_line_if_named-clause-count g c =
    let v = g.O.Outside.view in
    let w = c.args.self.now in
    let line = line_of (item_of c.args.trace.now c.args.r.now) in
    let file = option_copied w.commits.now in
    let f = c.in-Err-write_line_if_named.fault in
    faults_later (meaning_of f) (faults_of v w.outside.now) (faults_of v c.emit.new.outside) (faults_of v c.write_line_if_named.new.outside)
    (same_faults v w.outside.now c.emit.new.outside (puts_of c.emitted.result.now) c.in-Ok.ensures)
    (cut_faults v c.emit.new.outside c.write_line_if_named.new.outside (piece_with file w.lines.now.items line) f (lacks_piece file w.lines.now.items line) c.in-Err-write_line_if_named.ensures)
