-- Steps and runs over a trace that gets further records: what was done is done again, and shows the same.
use Rattle.std.specs.Prelude.{◌≡◌, ◌++◌, ℕ, zero, suc, Bool, true, false, List, [], ◌∷◌, Option, Some, None, Result, Ok, Err, slice_get, if◌then◌else◌}
use Rattle.std.proofs.Common.{refl, sym, ap, ◌∙◌, subst}
use Rattle.ecoff_load.specs.Fetch.{fetch}
use Rattle.pisa_isa.specs.declared.instr.Instr.{Instr}
use Rattle.pisa_isa.specs.Coding.{decoded}
use Rattle.pisa_step.specs.declared.cause.Cause.{Cause}
use Rattle.pisa_step.specs.declared.changes.Changes.{Changes}
use Rattle.pisa_step.specs.Effect.{effect_of}
use Rattle.event_trace.specs.declared.trace.Record.{Record}
use Rattle.event_trace.specs.declared.trace.Trace.{Trace}
use Rattle.sim_safe.specs.declared.record.CallNote.{CallNote}
use Rattle.sim_safe.specs.declared.record.CommitRecord.{CommitRecord}
use Rattle.sim_safe.specs.State.{State, range_of}
use Rattle.sim_safe.specs.Record.{Item, call_by, item_of}
use Rattle.sim_safe.specs.Call.{comparisons, mismatch, block_in_text}
use Rattle.sim_safe.specs.Step.{Outcome, Next, step_of, step_running, step_fetched, step_decoded, called, replayed_next, unrecorded, executed, unless, is_call, served, call_recorded}
use Rattle.sim_safe.specs.Run.{items_of, items_more}
use Rattle.event_trace.specs.Recorder.{with_more}
use Rattle.sim_safe.proofs.Steps.{Leads, Reaches}

get_grown : (xs ys : List Record) (k : ℕ) (c : Record) → slice_get xs k ≡ Some c → slice_get (xs ++ ys) k ≡ Some c
get_grown [] ys k c e = cc
get_grown (x ∷ xs) ys zero c e = e
get_grown (x ∷ xs) ys (suc k) c e = get_grown xs ys k c e

-- a step, and the recorded call that it shows
abbrev Shows : Trace → List Record → CommitRecord → State → Outcome → Type 0
Shows t more r u o = (o ≡ Next r u) × (call_by (with_more t more) r.call ≡ call_by t r.call)

unless_next : (a b : Option Cause) (d : CommitRecord) (v : State) (r : CommitRecord) (u : State) → unless a (unless b (Next d v)) ≡ Next r u → d ≡ r
unless_next None None d v r u e = cc
unless_next None (Some why) d v r u e = cc
unless_next (Some why) b d v r u e = cc

call_same_if : (file : Bool) (xs ys : List Record) (k : ℕ) (c : Record) → slice_get xs k ≡ Some c
    → (if file then slice_get (xs ++ ys) k else None) ≡ (if file then slice_get xs k else None)
call_same_if true xs ys k c g = get_grown xs ys k c g ∙ sym g
call_same_if false xs ys k c g = refl

call_same : (t : Trace) (more : List Record) (k : Option CallNote) (note : CallNote) (c : Record) → k ≡ Some note → slice_get t.records note.used ≡ Some c
    → call_by (with_more t more) k ≡ call_by t k
call_same t more k note c e g =
    let P : Option CallNote → Type 0 = λ x. call_by (with_more t more) x ≡ call_by t x in
    subst P (sym e) (call_same_if t.file t.records more note.used c g)

none_same : (t : Trace) (more : List Record) (k : Option CallNote) → k ≡ None → call_by (with_more t more) k ≡ call_by t k
none_same t more k e =
    let P : Option CallNote → Type 0 = λ x. call_by (with_more t more) x ≡ call_by t x in
    subst P (sym e) refl

executed_grown : (t : Trace) (more : List Record) (s : State) (i : Instr) (o : Result Changes Cause) (r : CommitRecord) (u : State)
    → executed s i o ≡ Next r u → Shows t more r u (executed s i o)
executed_grown t more s i (Err why) r u e = cc
executed_grown t more s i (Ok x) r u e = (e, none_same t more r.call (let k : None ≡ r.call = cc in sym k))

replayed_grown : (t : Trace) (more : List Record) (s : State) (i : Instr) (o : Option Record) (r : CommitRecord) (u : State) → slice_get t.records s.used ≡ o
    → replayed_next s i o ≡ Next r u → Shows t more r u (replayed_next s i (slice_get (t.records ++ more) s.used))
replayed_grown t more s i None r u g e = cc
replayed_grown t more s i (Some c) r u g e =
    let note : CallNote = record { used = s.used; kind = c.kind; code = c.code } in
    let d : call_recorded s i note c.outs ≡ r = unless_next (mismatch (comparisons s c)) (block_in_text (range_of s.text) c.out_blocks) (call_recorded s i note c.outs) (served s c) r u e in
    let P : Option Record → Type 0 = λ x. Shows t more r u (replayed_next s i x) in
    subst P (sym (get_grown t.records more s.used c g)) (e, call_same t more r.call note c (sym (ap (λ x. x.call) d)) g)

called_grown_if : (file : Bool) (t : Trace) (more : List Record) (s : State) (i : Instr) (r : CommitRecord) (u : State) → file ≡ true
    → (if file then replayed_next s i (slice_get t.records s.used) else unrecorded s i) ≡ Next r u
    → Shows t more r u (if file then replayed_next s i (slice_get (t.records ++ more) s.used) else unrecorded s i)
called_grown_if true t more s i r u f e = replayed_grown t more s i (slice_get t.records s.used) r u refl e
called_grown_if false t more s i r u f e = cc

at_grown_if : (b : Bool) (t : Trace) (more : List Record) (s : State) (i : Instr) (r : CommitRecord) (u : State) → t.file ≡ true
    → (if b then called t s i else executed s i (effect_of s.reads i s.pc (range_of s.text))) ≡ Next r u
    → Shows t more r u (if b then called (with_more t more) s i else executed s i (effect_of s.reads i s.pc (range_of s.text)))
at_grown_if true t more s i r u f e = called_grown_if t.file t more s i r u f e
at_grown_if false t more s i r u f e = executed_grown t more s i (effect_of s.reads i s.pc (range_of s.text)) r u e

decoded_grown : (t : Trace) (more : List Record) (s : State) (o : Option Instr) (r : CommitRecord) (u : State) → t.file ≡ true
    → step_decoded t s o ≡ Next r u → Shows t more r u (step_decoded (with_more t more) s o)
decoded_grown t more s None r u f e = cc
decoded_grown t more s (Some i) r u f e = at_grown_if (is_call i.op) t more s i r u f e

fetched_grown : (t : Trace) (more : List Record) (s : State) (o : Option (ℕ × ℕ)) (r : CommitRecord) (u : State) → t.file ≡ true
    → step_fetched t s o ≡ Next r u → Shows t more r u (step_fetched (with_more t more) s o)
fetched_grown t more s None r u f e = cc
fetched_grown t more s (Some w) r u f e = decoded_grown t more s (decoded w.0 w.1) r u f e

running_grown : (t : Trace) (more : List Record) (s : State) (o : Option ℕ) (r : CommitRecord) (u : State) → t.file ≡ true
    → step_running t s o ≡ Next r u → Shows t more r u (step_running (with_more t more) s o)
running_grown t more s (Some code) r u f e = cc
running_grown t more s None r u f e = fetched_grown t more s (fetch s.text s.pc) r u f e

-- a step that goes on does the same over a trace with more records
pub step_grown : (t : Trace) (more : List Record) (s : State) (r : CommitRecord) (u : State) → t.file ≡ true → step_of t s ≡ Next r u → step_of (with_more t more) s ≡ Next r u
unfolding step_of
step_grown t more s r u f e = (running_grown t more s s.ended r u f e).0

-- and shows the same
pub item_grown : (t : Trace) (more : List Record) (s : State) (r : CommitRecord) (u : State) → t.file ≡ true → step_of t s ≡ Next r u → item_of (with_more t more) r ≡ item_of t r
unfolding step_of
item_grown t more s r u f e =
    let g : Option Record → Item = λ b. record { did = r; by = b } in
    ap g (running_grown t more s s.ended r u f e).1

leads_grown : (t : Trace) (more : List Record) (n : ℕ) (s u : State) → t.file ≡ true → Leads t n s u → Leads (with_more t more) n s u
unfolding Leads
leads_grown t more zero s u f e = e
leads_grown t more (suc n) s u f l = (l.0, l.1, step_grown t more s l.0 l.1 f l.2, leads_grown t more n l.1 u f l.3)

-- steps that were done are done over a trace with more records
pub reaches_grown : (t : Trace) (more : List Record) (n : ℕ) (s u : State) → t.file ≡ true → Reaches t n s u → Reaches (with_more t more) n s u
reaches_grown t more n s u f l = record { leads = leads_grown t more n s u f l.leads }

leads_items_grown : (t : Trace) (more : List Record) (n : ℕ) (s u : State) → t.file ≡ true → Leads t n s u → items_of t n s ≡ items_of (with_more t more) n s
unfolding Leads items_of
leads_items_grown t more zero s u f e = refl
leads_items_grown t more (suc n) s u f l =
    let g : Trace = with_more t more in
    ap (items_more t (items_of t n)) l.2 ∙ ap (λ x. x ∷ items_of t n l.1) (sym (item_grown t more s l.0 l.1 f l.2)) ∙ ap (λ x. item_of g l.0 ∷ x) (leads_items_grown t more n l.1 u f l.3) ∙ sym (ap (items_more g (items_of g n)) (step_grown t more s l.0 l.1 f l.2))

-- and show the same
pub items_grown : (t : Trace) (more : List Record) (n : ℕ) (s u : State) → t.file ≡ true → Reaches t n s u → items_of t n s ≡ items_of (with_more t more) n s
items_grown t more n s u f l = leads_items_grown t more n s u f l.leads
