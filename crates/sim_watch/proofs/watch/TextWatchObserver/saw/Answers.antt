use Rattle.std.specs.Option.{option_copied}
use Rattle.std.proofs.Common.{sym, ap, ◌∙◌, subst, arith}
use Rattle.sim_safe.specs.Record.{item_of}
use Rattle.sim_safe.specs.Commit.{line_of}
use Rattle.sim_safe.specs.Statistics.{IsCountable, counted}
use Rattle.sim_watch.specs.Watch.{puts_of, piece_with, meaning_of, faults_of}
use Rattle.sim_watch.proofs.Countable.{countable_back}
use Rattle.sim_watch.proofs.Items.{item_pending, item_written, item_cut_at_output, item_cut_at_text, cut_faults, same_faults, faults_later, lacks_puts, lacks_piece}
use Rattle.sim_watch.proofs.watch.TextWatchObserver.saw.Goals as goal

pub returns-in-Err-clause-took : goal.returns-in-Err-clause-took
returns-in-Err-clause-took g c = λ start h t. record {
  outside_same = t.outside_same;
  cut = item_cut_at_output g.O.Outside.view start.outside.now c.args.self.now.outside.now c.emit.new.outside (option_copied start.file.now) start.pending.now.items h (item_of c.args.trace.now c.args.r.now) c.emitted.result.now c.in-Err.fault c.emitted.ensures t.wrote c.in-Err.ensures;
}

pub returns-in-Err-clause-count : goal.returns-in-Err-clause-count
returns-in-Err-clause-count g c = cut_faults g.O.Outside.view c.args.self.now.outside.now c.emit.new.outside (puts_of c.emitted.result.now) c.in-Err.fault (lacks_puts c.emitted.result.now) c.in-Err.ensures

pub returns-in-Ok-write_line_if_named-clause-took : goal.returns-in-Ok-write_line_if_named-clause-took
returns-in-Ok-write_line_if_named-clause-took g c = λ start h t.
    let i = item_of c.args.trace.now c.args.r.now in
    record {
      outside_same = t.outside_same;
      file = t.file;
      pending = item_pending (option_copied start.file.now) (option_copied c.args.self.now.file.now) start.pending.now.items c.args.self.now.pending.now.items c.write_line_if_named.new.pending.items h i t.file t.pending c.in-Ok-write_line_if_named.ensures.1;
      wrote = item_written g.O.Outside.view start.outside.now c.args.self.now.outside.now c.emit.new.outside c.write_line_if_named.new.outside (option_copied start.file.now) (option_copied c.args.self.now.file.now) start.pending.now.items c.args.self.now.pending.now.items h i c.emitted.result.now t.file t.pending c.emitted.ensures t.wrote c.in-Ok.ensures c.in-Ok-write_line_if_named.ensures.0;
      statistics = λ e l.
          let s = t.statistics e (omega arith) in
          let k = countable_back h (omega arith) in
          c.count.ensures.exact (subst IsCountable (sym s) k) ∙ ap (λ x. counted c.args.r.now.instr x) s;
    }

pub returns-in-Ok-write_line_if_named-clause-count : goal.returns-in-Ok-write_line_if_named-clause-count
returns-in-Ok-write_line_if_named-clause-count g c =
    let v = g.O.Outside.view in
    same_faults v c.emit.new.outside c.write_line_if_named.new.outside (piece_with (option_copied c.args.self.now.file.now) c.args.self.now.pending.now.items (line_of (item_of c.args.trace.now c.args.r.now))) c.in-Ok-write_line_if_named.ensures.0
    ∙ same_faults v c.args.self.now.outside.now c.emit.new.outside (puts_of c.emitted.result.now) c.in-Ok.ensures

pub returns-in-Err-write_line_if_named-clause-took : goal.returns-in-Err-write_line_if_named-clause-took
returns-in-Err-write_line_if_named-clause-took g c = λ start h t. record {
  outside_same = t.outside_same;
  cut = item_cut_at_text g.O.Outside.view start.outside.now c.args.self.now.outside.now c.emit.new.outside c.write_line_if_named.new.outside (option_copied start.file.now) (option_copied c.args.self.now.file.now) start.pending.now.items c.args.self.now.pending.now.items h (item_of c.args.trace.now c.args.r.now) c.emitted.result.now c.in-Err-write_line_if_named.fault t.file t.pending c.emitted.ensures t.wrote c.in-Ok.ensures c.in-Err-write_line_if_named.ensures;
}

pub returns-in-Err-write_line_if_named-clause-count : goal.returns-in-Err-write_line_if_named-clause-count
returns-in-Err-write_line_if_named-clause-count g c =
    let v = g.O.Outside.view in
    let line = line_of (item_of c.args.trace.now c.args.r.now) in
    let file = option_copied c.args.self.now.file.now in
    let was = c.args.self.now.pending.now.items in
    faults_later (meaning_of c.in-Err-write_line_if_named.fault) (faults_of v c.args.self.now.outside.now) (faults_of v c.emit.new.outside) (faults_of v c.write_line_if_named.new.outside)
    (same_faults v c.args.self.now.outside.now c.emit.new.outside (puts_of c.emitted.result.now) c.in-Ok.ensures)
    (cut_faults v c.emit.new.outside c.write_line_if_named.new.outside (piece_with file was line) c.in-Err-write_line_if_named.fault (lacks_piece file was line) c.in-Err-write_line_if_named.ensures)
