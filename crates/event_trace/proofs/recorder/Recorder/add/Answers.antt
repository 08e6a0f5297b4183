use Rattle.std.proofs.Common.{◌≡◌, ◌++◌, List, [], ◌∷◌, sym, subst, arith}
use Rattle.event_trace.specs.declared.trace.Record.{Record}
use Rattle.event_trace.specs.declared.trace.Trace.{Trace}
use Rattle.event_trace.specs.Grammar.{IsTrace, IsRecord}
use Rattle.event_trace.specs.Recorder.{RecorderState, next_count}
use Rattle.event_trace.proofs.Recording.{trace_more, size_more}
use Rattle.event_trace.proofs.recorder.Recorder.add.Goals as goal

pub invariant_of-self : goal.invariant_of-self
invariant_of-self c =
    let t : Trace = c.self.inside.trace in
    let P : RecorderState → Type 0 = λ v. IsRecord (next_count 0 v.trace.records) c.args.call in
    let f : IsRecord (next_count 0 t.records) c.args.call = subst P (sym c.self.view_is) c.requires in
    let e : c.push.new.self ≡ t.records ++ c.args.call ∷ [] = c.in-Ok-push.ensures.ok in
    let Q : List Record → Type 0 = λ x. IsTrace (record t { records = x }) in
    record {
      trace = subst Q (sym e) (trace_more t c.args.call c.self.invariant.trace f (omega (arith, c.len.ensures, c.if-len-ge-MOST_RECORDS.false)));
      version = c.self.invariant.version;
      size = size_more t c.args.call c.push.new.self c.self.inside.size c.in-Ok.more c.saturating_add-size.result e c.self.invariant.size c.in-Ok.ensures c.saturating_add-size.ensures c.if-size-gt-MOST_BYTES.false;
      limit = c.if-size-gt-MOST_BYTES.false;
    }
