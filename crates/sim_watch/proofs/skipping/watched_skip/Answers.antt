use Rattle.std.specs.Prelude.{length}
use Rattle.std.proofs.Common.{refl, sym, ◌∙◌, subst, ◌-◌}
use Rattle.journal.specs.View.{Wrote, Cut}
use Rattle.journal.specs.Laws.{cut_none}
use Rattle.sim_safe.specs.State.{state_of}
use Rattle.sim_safe.specs.Run.{items_of, items_count}
use Rattle.sim_watch.specs.Skip.{skip_journal}
use Rattle.sim_watch.proofs.Steps.{steps_counted, items_counted, stops_at}
use Rattle.sim_watch.proofs.Skips.{skip_records}
use Rattle.sim_watch.proofs.skipping.watched_skip.Goals as goal

pub returns-in-Err-clause-writes : goal.returns-in-Err-clause-writes
returns-in-Err-clause-writes g c = cut_none g.O.Outside.view c.args.outside.now (skip_journal c.args.trace.now c.args.n (state_of c.args.arch.now))

pub returns-in-Err-clause-ends : goal.returns-in-Err-clause-ends
returns-in-Err-clause-ends g c =
    let s = state_of c.args.arch.now in
    let st = c.in-Err.ensures.state in
    let done = c.skip.new.self.icnt - c.args.arch.now.icnt in
    record { done = done; most = st.1; state = st.0; count = steps_counted c.steps_keep.ensures c.args.trace.now done s (state_of c.skip.new.self) st.0 refl }

pub returns-in-Ok-emit_records-clause-writes : goal.returns-in-Ok-emit_records-clause-writes
returns-in-Ok-emit_records-clause-writes g c =
    let v = g.O.Outside.view in
    let s = state_of c.args.arch.now in
    let t = state_of c.skip.new.self in
    let e = skip_records c.args.trace.now c.args.n s t c.used-from.result c.used.result c.as_slice.result.now c.between-records.result.now c.used-from.ensures c.used.ensures c.in-Ok.ensures.state.0 c.as_slice.ensures c.between-records.ensures in
    subst (λ l. Wrote v c.args.outside.now l c.emit_records.new.outside) e c.in-Ok-emit_records.ensures

pub returns-in-Err-emit_records-clause-writes : goal.returns-in-Err-emit_records-clause-writes
returns-in-Err-emit_records-clause-writes g c =
    let v = g.O.Outside.view in
    let s = state_of c.args.arch.now in
    let t = state_of c.skip.new.self in
    let e = skip_records c.args.trace.now c.args.n s t c.used-from.result c.used.result c.as_slice.result.now c.between-records.result.now c.used-from.ensures c.used.ensures c.in-Ok.ensures.state.0 c.as_slice.ensures c.between-records.ensures in
    subst (λ l. Cut v c.args.outside.now l c.in-Err-emit_records.fault c.emit_records.new.outside) e c.in-Err-emit_records.ensures

pub returns-in-Err-emit_records-clause-ends : goal.returns-in-Err-emit_records-clause-ends
returns-in-Err-emit_records-clause-ends g c =
    let s = state_of c.args.arch.now in
    let t = state_of c.skip.new.self in
    let is = items_of c.args.trace.now c.args.n s in
    let stops = stops_at c.args.trace.now c.args.n (length is) s refl in
    record {
      done = length is;
      most = items_count c.args.trace.now c.args.n s;
      state = c.in-Ok.ensures.state.0 ∙ sym stops.1;
      count = items_counted c.steps_keep.ensures c.args.trace.now c.args.n s t c.in-Ok.ensures.state.0;
    }
