use Rattle.std.specs.Option.{option_copied}
use Rattle.std.proofs.Common.{◌-◌, ◌∙◌, [], refl, sym, arith, inl, inr, length}
use Rattle.journal.specs.declared.fault.Fault.TheVariants as fault
use Rattle.sim_safe.specs.State.{state_of}
use Rattle.sim_safe.specs.Commit.{onto}
use Rattle.sim_safe.specs.Run.{items_of, items_count}
use Rattle.sim_watch.specs.Watch.{written_of, last_piece, nothing_written, nothing_pending}
use Rattle.sim_watch.proofs.Steps.{steps_counted, items_counted, stops_at}
use Rattle.sim_watch.proofs.Totals.{statistics_whole}
use Rattle.sim_watch.proofs.Runs.{kept_cut, newest_cut, cut_in_steps, memory_cut, memory_behind, from_nothing, last_is, run_written, last_cut, run_cut, at_end}
use Rattle.sim_watch.proofs.run.observe.Goals as goal

pub returns-in-Err-Watch-clause-same : goal.returns-in-Err-Watch-clause-same
returns-in-Err-Watch-clause-same g c =
    let t = rw c.in-Err-Watch.field-0-is at (c.in-Err-Watch.ensures.took c.args.watch.now [] (record { outside_same = refl; file = refl; pending = nothing_pending (option_copied c.args.watch.now.file.now) c.args.watch.now.pending.now.items; wrote = nothing_written g.O.Outside.view c.args.watch.now.outside.now (option_copied c.args.watch.now.file.now) c.args.watch.now.pending.now.items; statistics = λ e l. e })) in
    t.outside_same

pub returns-in-Err-Watch-clause-writes : goal.returns-in-Err-Watch-clause-writes
returns-in-Err-Watch-clause-writes g c =
    let v = g.O.Outside.view in
    let a = c.args.watch.now.outside.now in
    let b = c.run.new.o.outside.now in
    let file = option_copied c.args.watch.now.file.now in
    let was = c.args.watch.now.pending.now.items in
    let s = state_of c.args.arch.now in
    let done = c.run.new.self.icnt - c.args.arch.now.icnt in
    let h = onto (items_of c.args.trace.now done s) [] in
    let r = c.unwrap_or.result in
    let t = rw c.in-Err-Watch.field-0-is at (c.in-Err-Watch.ensures.took c.args.watch.now [] (record { outside_same = refl; file = refl; pending = nothing_pending (option_copied c.args.watch.now.file.now) c.args.watch.now.pending.now.items; wrote = nothing_written g.O.Outside.view c.args.watch.now.outside.now (option_copied c.args.watch.now.file.now) c.args.watch.now.pending.now.items; statistics = λ e l. e })) in
    let st = rw c.in-Err-Watch.field-0-is at c.in-Err-Watch.ensures.state in
    cut_in_steps v file a b c.args.trace.now done c.args.n s r st.1 (newest_cut v file [] a b h r (kept_cut v file was a b h c.run.new.o.fault c.in-Err-Watch.fault r c.requires.pending c.unwrap_or.ensures t.cut))

pub returns-in-Err-Watch-clause-ends : goal.returns-in-Err-Watch-clause-ends
returns-in-Err-Watch-clause-ends g c =
    let v = g.O.Outside.view in
    let a = c.args.watch.now.outside.now in
    let b = c.run.new.o.outside.now in
    let file = option_copied c.args.watch.now.file.now in
    let was = c.args.watch.now.pending.now.items in
    let s = state_of c.args.arch.now in
    let done = c.run.new.self.icnt - c.args.arch.now.icnt in
    let h = onto (items_of c.args.trace.now done s) [] in
    let t = rw c.in-Err-Watch.field-0-is at (c.in-Err-Watch.ensures.took c.args.watch.now [] (record { outside_same = refl; file = refl; pending = nothing_pending (option_copied c.args.watch.now.file.now) c.args.watch.now.pending.now.items; wrote = nothing_written g.O.Outside.view c.args.watch.now.outside.now (option_copied c.args.watch.now.file.now) c.args.watch.now.pending.now.items; statistics = λ e l. e })) in
    let st = rw c.in-Err-Watch.field-0-is at c.in-Err-Watch.ensures.state in
    record {
      done = done;
      most = st.1;
      state = st.0;
      count = steps_counted c.steps_keep.ensures c.args.trace.now done s (state_of c.run.new.self) st.0 refl;
      at = inl (kept_cut v file was a b h c.run.new.o.fault c.in-Err-Watch.fault c.unwrap_or.result c.requires.pending c.unwrap_or.ensures t.cut);
    }

pub returns-in-Err-OutOfMemory-clause-same : goal.returns-in-Err-OutOfMemory-clause-same
returns-in-Err-OutOfMemory-clause-same g c =
    let t = rw c.in-Err-OutOfMemory.field-0-is at (c.in-Err-OutOfMemory.ensures.took c.args.watch.now [] (record { outside_same = refl; file = refl; pending = nothing_pending (option_copied c.args.watch.now.file.now) c.args.watch.now.pending.now.items; wrote = nothing_written g.O.Outside.view c.args.watch.now.outside.now (option_copied c.args.watch.now.file.now) c.args.watch.now.pending.now.items; statistics = λ e l. e })) in
    t.outside_same

pub returns-in-Err-OutOfMemory-clause-writes : goal.returns-in-Err-OutOfMemory-clause-writes
returns-in-Err-OutOfMemory-clause-writes g c =
    let v = g.O.Outside.view in
    let a = c.args.watch.now.outside.now in
    let b = c.run.new.o.outside.now in
    let file = option_copied c.args.watch.now.file.now in
    let was = c.args.watch.now.pending.now.items in
    let s = state_of c.args.arch.now in
    let done = c.run.new.self.icnt - c.args.arch.now.icnt in
    let h = onto (items_of c.args.trace.now done s) [] in
    let t = rw c.in-Err-OutOfMemory.field-0-is at (c.in-Err-OutOfMemory.ensures.took c.args.watch.now [] (record { outside_same = refl; file = refl; pending = nothing_pending (option_copied c.args.watch.now.file.now) c.args.watch.now.pending.now.items; wrote = nothing_written g.O.Outside.view c.args.watch.now.outside.now (option_copied c.args.watch.now.file.now) c.args.watch.now.pending.now.items; statistics = λ e l. e })) in
    let st = rw c.in-Err-OutOfMemory.field-0-is at c.in-Err-OutOfMemory.ensures.state in
    cut_in_steps v file a b c.args.trace.now done c.args.n s fault.OutOfMemory st.1 (memory_cut v a b (written_of file [] h).journal (from_nothing v file was a b h c.requires.pending t.wrote))

pub returns-in-Err-OutOfMemory-clause-ends : goal.returns-in-Err-OutOfMemory-clause-ends
returns-in-Err-OutOfMemory-clause-ends g c =
    let v = g.O.Outside.view in
    let a = c.args.watch.now.outside.now in
    let b = c.run.new.o.outside.now in
    let file = option_copied c.args.watch.now.file.now in
    let was = c.args.watch.now.pending.now.items in
    let s = state_of c.args.arch.now in
    let done = c.run.new.self.icnt - c.args.arch.now.icnt in
    let h = onto (items_of c.args.trace.now done s) [] in
    let t = rw c.in-Err-OutOfMemory.field-0-is at (c.in-Err-OutOfMemory.ensures.took c.args.watch.now [] (record { outside_same = refl; file = refl; pending = nothing_pending (option_copied c.args.watch.now.file.now) c.args.watch.now.pending.now.items; wrote = nothing_written g.O.Outside.view c.args.watch.now.outside.now (option_copied c.args.watch.now.file.now) c.args.watch.now.pending.now.items; statistics = λ e l. e })) in
    let st = rw c.in-Err-OutOfMemory.field-0-is at c.in-Err-OutOfMemory.ensures.state in
    record {
      done = done;
      most = st.1;
      state = st.0;
      count = steps_counted c.steps_keep.ensures c.args.trace.now done s (state_of c.run.new.self) st.0 refl;
      at = inr (memory_behind v a b (written_of file [] h).journal (last_piece file (written_of file [] h).pending) (from_nothing v file was a b h c.requires.pending t.wrote));
    }

pub returns-in-Ok-write_rest-clause-same : goal.returns-in-Ok-write_rest-clause-same
returns-in-Ok-write_rest-clause-same g c =
    let t = c.in-Ok.ensures.took c.args.watch.now [] (record { outside_same = refl; file = refl; pending = nothing_pending (option_copied c.args.watch.now.file.now) c.args.watch.now.pending.now.items; wrote = nothing_written g.O.Outside.view c.args.watch.now.outside.now (option_copied c.args.watch.now.file.now) c.args.watch.now.pending.now.items; statistics = λ e l. e }) in
    t.outside_same

pub returns-in-Ok-write_rest-clause-writes : goal.returns-in-Ok-write_rest-clause-writes
returns-in-Ok-write_rest-clause-writes g c =
    let v = g.O.Outside.view in
    let a = c.args.watch.now.outside.now in
    let b = c.run.new.o.outside.now in
    let d = c.write_rest.new.outside in
    let file = option_copied c.args.watch.now.file.now in
    let other = option_copied c.run.new.o.file.now in
    let was = c.args.watch.now.pending.now.items in
    let pending = c.run.new.o.pending.now.items in
    let s = state_of c.args.arch.now in
    let is = items_of c.args.trace.now c.args.n s in
    let h = onto is [] in
    let last = last_piece other c.as_slice.result.now in
    let t = c.in-Ok.ensures.took c.args.watch.now [] (record { outside_same = refl; file = refl; pending = nothing_pending (option_copied c.args.watch.now.file.now) c.args.watch.now.pending.now.items; wrote = nothing_written g.O.Outside.view c.args.watch.now.outside.now (option_copied c.args.watch.now.file.now) c.args.watch.now.pending.now.items; statistics = λ e l. e }) in
    run_written v a b d file is last (last_is file other was pending c.as_slice.result.now h c.requires.pending t.file t.pending c.as_slice.ensures.value) (from_nothing v file was a b h c.requires.pending t.wrote) c.in-Ok-write_rest.ensures

pub returns-in-Ok-write_rest-clause-ends : goal.returns-in-Ok-write_rest-clause-ends
returns-in-Ok-write_rest-clause-ends g c =
    let t = c.in-Ok.ensures.took c.args.watch.now [] (record { outside_same = refl; file = refl; pending = nothing_pending (option_copied c.args.watch.now.file.now) c.args.watch.now.pending.now.items; wrote = nothing_written g.O.Outside.view c.args.watch.now.outside.now (option_copied c.args.watch.now.file.now) c.args.watch.now.pending.now.items; statistics = λ e l. e }) in
    record {
      end = c.in-Ok.ensures.state.1;
      state = c.in-Ok.ensures.state.0;
      statistics = statistics_whole c.args.trace.now c.args.n (state_of c.args.arch.now) c.run.new.o.statistics (omega (arith, c.requires.count)) (t.statistics c.requires.statistics);
    }

pub returns-in-Err-clause-same : goal.returns-in-Err-clause-same
returns-in-Err-clause-same g c =
    let t = c.in-Ok.ensures.took c.args.watch.now [] (record { outside_same = refl; file = refl; pending = nothing_pending (option_copied c.args.watch.now.file.now) c.args.watch.now.pending.now.items; wrote = nothing_written g.O.Outside.view c.args.watch.now.outside.now (option_copied c.args.watch.now.file.now) c.args.watch.now.pending.now.items; statistics = λ e l. e }) in
    t.outside_same

pub returns-in-Err-clause-writes : goal.returns-in-Err-clause-writes
returns-in-Err-clause-writes g c =
    let v = g.O.Outside.view in
    let a = c.args.watch.now.outside.now in
    let b = c.run.new.o.outside.now in
    let d = c.write_rest.new.outside in
    let file = option_copied c.args.watch.now.file.now in
    let other = option_copied c.run.new.o.file.now in
    let was = c.args.watch.now.pending.now.items in
    let pending = c.run.new.o.pending.now.items in
    let s = state_of c.args.arch.now in
    let is = items_of c.args.trace.now c.args.n s in
    let h = onto is [] in
    let last = last_piece other c.as_slice.result.now in
    let t = c.in-Ok.ensures.took c.args.watch.now [] (record { outside_same = refl; file = refl; pending = nothing_pending (option_copied c.args.watch.now.file.now) c.args.watch.now.pending.now.items; wrote = nothing_written g.O.Outside.view c.args.watch.now.outside.now (option_copied c.args.watch.now.file.now) c.args.watch.now.pending.now.items; statistics = λ e l. e }) in
    let f = c.in-Err.fault in
    run_cut v a d file is f (last_cut v a b d file h last f (last_is file other was pending c.as_slice.result.now h c.requires.pending t.file t.pending c.as_slice.ensures.value) (from_nothing v file was a b h c.requires.pending t.wrote) c.in-Err.ensures)

pub returns-in-Err-clause-ends : goal.returns-in-Err-clause-ends
returns-in-Err-clause-ends g c =
    let v = g.O.Outside.view in
    let a = c.args.watch.now.outside.now in
    let b = c.run.new.o.outside.now in
    let d = c.write_rest.new.outside in
    let file = option_copied c.args.watch.now.file.now in
    let other = option_copied c.run.new.o.file.now in
    let was = c.args.watch.now.pending.now.items in
    let pending = c.run.new.o.pending.now.items in
    let s = state_of c.args.arch.now in
    let is = items_of c.args.trace.now c.args.n s in
    let h = onto is [] in
    let last = last_piece other c.as_slice.result.now in
    let t = c.in-Ok.ensures.took c.args.watch.now [] (record { outside_same = refl; file = refl; pending = nothing_pending (option_copied c.args.watch.now.file.now) c.args.watch.now.pending.now.items; wrote = nothing_written g.O.Outside.view c.args.watch.now.outside.now (option_copied c.args.watch.now.file.now) c.args.watch.now.pending.now.items; statistics = λ e l. e }) in
    let f = c.in-Err.fault in
    let stops = stops_at c.args.trace.now c.args.n (length is) s refl in
    record {
      done = length is;
      most = items_count c.args.trace.now c.args.n s;
      state = c.in-Ok.ensures.state.0 ∙ sym stops.1;
      count = items_counted c.steps_keep.ensures c.args.trace.now c.args.n s (state_of c.run.new.self) c.in-Ok.ensures.state.0;
      at = at_end v file a d is (items_of c.args.trace.now (length is) s) f stops.0 (last_cut v a b d file h last f (last_is file other was pending c.as_slice.result.now h c.requires.pending t.file t.pending c.as_slice.ensures.value) (from_nothing v file was a b h c.requires.pending t.wrote) c.in-Err.ensures);
    }
