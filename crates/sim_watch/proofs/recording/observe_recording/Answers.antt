use Rattle.std.specs.Option.{option_copied}
use Rattle.std.proofs.Common.{◌-◌, [], refl, arith, inl, inr}
use Rattle.std.specs.Prelude.{None}
use Rattle.journal.specs.declared.fault.Fault.TheVariants as fault
use Rattle.sim_safe.specs.State.{state_of}
use Rattle.sim_safe.specs.Commit.{onto}
use Rattle.sim_safe.specs.Run.{items_of}
use Rattle.sim_watch.specs.Watch.{written_of, nothing_written, nothing_pending}
use Rattle.sim_watch.specs.Recorded.{made_of}
use Rattle.sim_watch.proofs.Steps.{steps_counted}
use Rattle.sim_watch.proofs.Totals.{statistics_whole}
use Rattle.sim_watch.proofs.Runs.{kept_cut, newest_cut, memory_cut, memory_behind, from_nothing, unnamed_cut, unnamed_wrote}
use Rattle.sim_watch.proofs.Recordings.{recording_written, recording_cut, run_recorded, refused_stands}
use Rattle.sim_watch.proofs.recording.observe_recording.Goals as goal

pub returns-in-Ok-clause-same : goal.returns-in-Ok-clause-same
returns-in-Ok-clause-same g c =
    let t = c.in-Ok.ensures.took c.args.watch.now [] (record { outside_same = refl; file = refl; pending = nothing_pending (option_copied c.args.watch.now.file.now) c.args.watch.now.pending.now.items; wrote = nothing_written g.O.Outside.view c.args.watch.now.outside.now (option_copied c.args.watch.now.file.now) c.args.watch.now.pending.now.items; statistics = λ e l. e }) in
    t.outside_same

pub returns-in-Ok-clause-writes : goal.returns-in-Ok-clause-writes
returns-in-Ok-clause-writes g c =
    let v = g.O.Outside.view in
    let a = c.args.watch.now.outside.now in
    let b = c.record.new.o.outside.now in
    let file = option_copied c.args.watch.now.file.now in
    let was = c.args.watch.now.pending.now.items in
    let old = c.args.recorder.now in
    let new = c.record.new.recorder in
    let s = state_of c.args.arch.now in
    let last = state_of c.record.new.self in
    let t = c.in-Ok.ensures.took c.args.watch.now [] (record { outside_same = refl; file = refl; pending = nothing_pending (option_copied c.args.watch.now.file.now) c.args.watch.now.pending.now.items; wrote = nothing_written g.O.Outside.view c.args.watch.now.outside.now (option_copied c.args.watch.now.file.now) c.args.watch.now.pending.now.items; statistics = λ e l. e }) in
    recording_written v a b c.args.n old new s last c.in-Ok.end file c.requires.file c.in-Ok.ensures.trace (from_nothing v file was a b (onto (items_of new.trace c.args.n s) []) c.requires.pending t.wrote)

pub returns-in-Ok-clause-ends : goal.returns-in-Ok-clause-ends
returns-in-Ok-clause-ends g c =
    let t = c.in-Ok.ensures.took c.args.watch.now [] (record { outside_same = refl; file = refl; pending = nothing_pending (option_copied c.args.watch.now.file.now) c.args.watch.now.pending.now.items; wrote = nothing_written g.O.Outside.view c.args.watch.now.outside.now (option_copied c.args.watch.now.file.now) c.args.watch.now.pending.now.items; statistics = λ e l. e }) in
    let counted = statistics_whole c.record.new.recorder.trace c.args.n (state_of c.args.arch.now) c.record.new.o.statistics (omega (arith, c.requires.count)) (t.statistics c.requires.statistics) in
    run_recorded c.args.n c.args.recorder.now c.record.new.recorder (state_of c.args.arch.now) (state_of c.record.new.self) c.in-Ok.end c.record.new.o.statistics c.in-Ok.ensures.trace c.in-Ok.ensures.state counted

pub returns-in-Err-Watch-clause-same : goal.returns-in-Err-Watch-clause-same
returns-in-Err-Watch-clause-same g c =
    let t = rw c.in-Err-Watch.field-0-is at (c.in-Err-Watch.ensures.took c.args.watch.now [] (record { outside_same = refl; file = refl; pending = nothing_pending (option_copied c.args.watch.now.file.now) c.args.watch.now.pending.now.items; wrote = nothing_written g.O.Outside.view c.args.watch.now.outside.now (option_copied c.args.watch.now.file.now) c.args.watch.now.pending.now.items; statistics = λ e l. e })) in
    t.outside_same

pub returns-in-Err-Watch-clause-writes : goal.returns-in-Err-Watch-clause-writes
returns-in-Err-Watch-clause-writes g c =
    let v = g.O.Outside.view in
    let a = c.args.watch.now.outside.now in
    let b = c.record.new.o.outside.now in
    let file = option_copied c.args.watch.now.file.now in
    let was = c.args.watch.now.pending.now.items in
    let old = c.args.recorder.now in
    let new = c.record.new.recorder in
    let s = state_of c.args.arch.now in
    let last = state_of c.record.new.self in
    let done = c.record.new.self.icnt - c.args.arch.now.icnt in
    let whole = (made_of old c.args.n s).0 in
    let h = onto (items_of new.trace done s) [] in
    let t = rw c.in-Err-Watch.field-0-is at (c.in-Err-Watch.ensures.took c.args.watch.now [] (record { outside_same = refl; file = refl; pending = nothing_pending (option_copied c.args.watch.now.file.now) c.args.watch.now.pending.now.items; wrote = nothing_written g.O.Outside.view c.args.watch.now.outside.now (option_copied c.args.watch.now.file.now) c.args.watch.now.pending.now.items; statistics = λ e l. e })) in
    let r = c.unwrap_or.result in
    recording_cut v a b whole new.trace c.args.n done s last r (rw c.in-Err-Watch.field-0-is at c.in-Err-Watch.ensures.trace).0 (newest_cut v None [] a b h r (unnamed_cut v file a b h r c.requires.file (kept_cut v file was a b h c.record.new.o.fault c.in-Err-Watch.fault r c.requires.pending c.unwrap_or.ensures t.cut)))

pub returns-in-Err-Watch-clause-ends : goal.returns-in-Err-Watch-clause-ends
returns-in-Err-Watch-clause-ends g c =
    let v = g.O.Outside.view in
    let a = c.args.watch.now.outside.now in
    let b = c.record.new.o.outside.now in
    let file = option_copied c.args.watch.now.file.now in
    let was = c.args.watch.now.pending.now.items in
    let old = c.args.recorder.now in
    let new = c.record.new.recorder in
    let s = state_of c.args.arch.now in
    let last = state_of c.record.new.self in
    let done = c.record.new.self.icnt - c.args.arch.now.icnt in
    let whole = (made_of old c.args.n s).0 in
    let h = onto (items_of new.trace done s) [] in
    let t = rw c.in-Err-Watch.field-0-is at (c.in-Err-Watch.ensures.took c.args.watch.now [] (record { outside_same = refl; file = refl; pending = nothing_pending (option_copied c.args.watch.now.file.now) c.args.watch.now.pending.now.items; wrote = nothing_written g.O.Outside.view c.args.watch.now.outside.now (option_copied c.args.watch.now.file.now) c.args.watch.now.pending.now.items; statistics = λ e l. e })) in
    let st = rw c.in-Err-Watch.field-0-is at c.in-Err-Watch.ensures.state in
    let left = rw c.in-Err-Watch.field-0-is at c.in-Err-Watch.ensures.trace in
    record {
      done = done;
      most = st.1;
      state = st.0;
      count = steps_counted c.steps_keep.ensures new.trace done s last st.0 refl;
      front = left.0;
      recorder = refused_stands c.unwrap_or.result done old s new last left.1;
      at = inl (unnamed_cut v file a b h c.unwrap_or.result c.requires.file (kept_cut v file was a b h c.record.new.o.fault c.in-Err-Watch.fault c.unwrap_or.result c.requires.pending c.unwrap_or.ensures t.cut));
    }

pub returns-in-Err-OutOfMemory-clause-same : goal.returns-in-Err-OutOfMemory-clause-same
returns-in-Err-OutOfMemory-clause-same g c =
    let t = rw c.in-Err-OutOfMemory.field-0-is at (c.in-Err-OutOfMemory.ensures.took c.args.watch.now [] (record { outside_same = refl; file = refl; pending = nothing_pending (option_copied c.args.watch.now.file.now) c.args.watch.now.pending.now.items; wrote = nothing_written g.O.Outside.view c.args.watch.now.outside.now (option_copied c.args.watch.now.file.now) c.args.watch.now.pending.now.items; statistics = λ e l. e })) in
    t.outside_same

pub returns-in-Err-OutOfMemory-clause-writes : goal.returns-in-Err-OutOfMemory-clause-writes
returns-in-Err-OutOfMemory-clause-writes g c =
    let v = g.O.Outside.view in
    let a = c.args.watch.now.outside.now in
    let b = c.record.new.o.outside.now in
    let file = option_copied c.args.watch.now.file.now in
    let was = c.args.watch.now.pending.now.items in
    let old = c.args.recorder.now in
    let new = c.record.new.recorder in
    let s = state_of c.args.arch.now in
    let last = state_of c.record.new.self in
    let done = c.record.new.self.icnt - c.args.arch.now.icnt in
    let whole = (made_of old c.args.n s).0 in
    let h = onto (items_of new.trace done s) [] in
    let t = rw c.in-Err-OutOfMemory.field-0-is at (c.in-Err-OutOfMemory.ensures.took c.args.watch.now [] (record { outside_same = refl; file = refl; pending = nothing_pending (option_copied c.args.watch.now.file.now) c.args.watch.now.pending.now.items; wrote = nothing_written g.O.Outside.view c.args.watch.now.outside.now (option_copied c.args.watch.now.file.now) c.args.watch.now.pending.now.items; statistics = λ e l. e })) in
    recording_cut v a b whole new.trace c.args.n done s last fault.OutOfMemory (rw c.in-Err-OutOfMemory.field-0-is at c.in-Err-OutOfMemory.ensures.trace).0 (memory_cut v a b (written_of None [] h).journal (unnamed_wrote v file a b h c.requires.file (from_nothing v file was a b h c.requires.pending t.wrote)))

pub returns-in-Err-OutOfMemory-clause-ends : goal.returns-in-Err-OutOfMemory-clause-ends
returns-in-Err-OutOfMemory-clause-ends g c =
    let v = g.O.Outside.view in
    let a = c.args.watch.now.outside.now in
    let b = c.record.new.o.outside.now in
    let file = option_copied c.args.watch.now.file.now in
    let was = c.args.watch.now.pending.now.items in
    let old = c.args.recorder.now in
    let new = c.record.new.recorder in
    let s = state_of c.args.arch.now in
    let last = state_of c.record.new.self in
    let done = c.record.new.self.icnt - c.args.arch.now.icnt in
    let whole = (made_of old c.args.n s).0 in
    let h = onto (items_of new.trace done s) [] in
    let t = rw c.in-Err-OutOfMemory.field-0-is at (c.in-Err-OutOfMemory.ensures.took c.args.watch.now [] (record { outside_same = refl; file = refl; pending = nothing_pending (option_copied c.args.watch.now.file.now) c.args.watch.now.pending.now.items; wrote = nothing_written g.O.Outside.view c.args.watch.now.outside.now (option_copied c.args.watch.now.file.now) c.args.watch.now.pending.now.items; statistics = λ e l. e })) in
    let st = rw c.in-Err-OutOfMemory.field-0-is at c.in-Err-OutOfMemory.ensures.state in
    let left = rw c.in-Err-OutOfMemory.field-0-is at c.in-Err-OutOfMemory.ensures.trace in
    record {
      done = done;
      most = st.1;
      state = st.0;
      count = steps_counted c.steps_keep.ensures new.trace done s last st.0 refl;
      front = left.0;
      recorder = left.1;
      at = inr (memory_behind v a b (written_of None [] h).journal [] (unnamed_wrote v file a b h c.requires.file (from_nothing v file was a b h c.requires.pending t.wrote)));
    }
