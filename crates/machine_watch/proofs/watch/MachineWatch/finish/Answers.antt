use Rattle.machine_watch.specs.Watch.{names_of, pending_of}
use Rattle.machine_watch.proofs.Taking.{end_cut_first, end_cut_last, end_written}
use Rattle.machine_watch.proofs.watch.MachineWatch.finish.Goals as goal

pub returns-in-Err-clause-writes : goal.returns-in-Err-clause-writes
returns-in-Err-clause-writes g c =
    let w = c.args.self.now in
    end_cut_first g.O.Outside.view w.outside.now c.write_rest.new.outside (names_of w) (pending_of w) c.args.cycles c.args.end.now c.as_slice.result.now c.in-Err.fault c.as_slice.ensures.value c.in-Err.ensures

pub returns-in-Ok-write_end_if_named-clause-writes : goal.returns-in-Ok-write_end_if_named-clause-writes
returns-in-Ok-write_end_if_named-clause-writes g c =
    let w = c.args.self.now in
    end_written g.O.Outside.view w.outside.now c.write_rest.new.outside c.write_end_if_named.new.outside (names_of w) (pending_of w) c.args.cycles c.args.end.now c.as_slice.result.now c.as_slice.ensures.value c.in-Ok.ensures c.in-Ok-write_end_if_named.ensures.writes

pub returns-in-Err-write_end_if_named-clause-writes : goal.returns-in-Err-write_end_if_named-clause-writes
returns-in-Err-write_end_if_named-clause-writes g c =
    let w = c.args.self.now in
    end_cut_last g.O.Outside.view w.outside.now c.write_rest.new.outside c.write_end_if_named.new.outside (names_of w) (pending_of w) c.args.cycles c.args.end.now c.as_slice.result.now c.in-Err-write_end_if_named.fault c.as_slice.ensures.value c.in-Ok.ensures c.in-Err-write_end_if_named.ensures.writes
