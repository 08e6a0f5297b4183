-- What a run writes and answers, by what its parts wrote and answered.
use Rattle.std.proofs.Common.{◌≡◌, ℕ, ◌-◌, ◌^◌, ◌++◌, Bool, true, false, List, [], ◌∷◌, Option, None, Result, Ok, Err, min, refl, sym, ap, ◌∙◌, subst}
use Rattle.std.specs.Prelude.{unwrap_or, if◌then◌else◌}
use Rattle.ecoff_load.specs.declared.image.Image.{Image}
use Rattle.event_trace.specs.declared.trace.Trace.{Trace}
use Rattle.event_trace.specs.Recorder.{RecorderState, empty_trace}
use Rattle.event_trace.specs.World.{WorldState}
use Rattle.sim_safe.specs.declared.observer.RunEnd.{RunEnd}
use Rattle.sim_safe.specs.declared.observer.RunEnd.TheVariants as ends
use Rattle.sim_safe.specs.declared.recording.RecordEnd.{RecordEnd}
use Rattle.sim_safe.specs.declared.recording.RecordEnd.TheVariants as record_ends
use Rattle.sim_safe.specs.declared.statistics.Statistics.{Statistics}
use Rattle.sim_safe.specs.State.{State, Storage, state_of, start_state}
use Rattle.sim_safe.specs.Record.{Item}
use Rattle.sim_safe.specs.Run.{items_of, after, end_of}
use Rattle.sim_watch.specs.declared.recording.Recorded.{Recorded}
use Rattle.sim_watch.specs.Recorded.{EndsAs, RunRecorded, is_full, made_of}
use Rattle.sim_watch.specs.Statistics.{statistics_of}
use Rattle.sim_watch.specs.Watch.{WritesOrCut, run_journal}
use Rattle.cut_run.specs.declared.cut.Cut.{Cut as RunParts}
use Rattle.cut_run.specs.Plan.{Asked, limited, skipped, timed_items, cut_end, cut_state, is_too_long, cut_journal}
use Rattle.cut_run.specs.Comes.{RunCut}
use Rattle.journal.specs.declared.fault.Fault.{Fault}
use Rattle.journal.specs.declared.fault.Fault.TheVariants as fault
use Rattle.journal.specs.Write.{Write, Journal, Start, Append, Report}
use Rattle.journal.specs.View.{View, Wrote, Cut, GaveUp, Writes}
use Rattle.journal.specs.Outcome.{Outcome, Ends, behind}
use Rattle.journal.specs.Laws.{wrote_more, cut_more, cut_none, cut_within, cut_gave_up, gave_up_cut, ends_more}
use Rattle.answers.specs.declared.answer.Answer.{Answer}
use Rattle.answers.specs.declared.answer.Answer.TheVariants as answer
use Rattle.answers.specs.Answer.{answered, refused, run_answer}
use Rattle.answers.specs.Report.{fault_line, statistics_text}
use Rattle.run_commands.specs.Outcome.{point_file, starts_of, too_long, end_answer, end_report, ran_answer, ran_report, ran, ended, recorded, recorded_end, recorded_for, trace_text}
use Rattle.run_commands.specs.Parts.{ran_behind, run_end}

-- ---- writes

-- a write that was given up was cut
pub written_or_cut : {O T : Type 0} (v : View O) (a b : O) (h : Journal) (r : Result T Fault) → Writes v a h b r → WritesOrCut v a h b r
written_or_cut v a b h (Ok x) q = q
written_or_cut v a b h (Err f) q = gave_up_cut v a b h f q

-- writes that were cut were given up where more and a last one come behind them
pub cut_before : {O : Type 0} (v : View O) (a b : O) (w : Write) (k h : Journal) (f : Fault) → Cut v a h f b → GaveUp v a (w ∷ k ++ h) f b
cut_before v a b w k h f q = cut_gave_up v a b w (k ++ h) f (cut_within v a b h k f q)

-- memory ran out behind writes
pub memory_before : {O : Type 0} (v : View O) (a b : O) (w : Write) (k h : Journal) → Wrote v a h b → GaveUp v a (w ∷ k ++ h) fault.OutOfMemory b
memory_before v a b w k h wrote = cut_before v a b w k h fault.OutOfMemory (cut_more v a b b h [] fault.OutOfMemory wrote (cut_none v b []))

-- further writes come behind
pub written_behind : {O T : Type 0} (v : View O) (a b c : O) (h k : Journal) (r : Result T Fault) → Wrote v a h b → WritesOrCut v b k c r → WritesOrCut v a (k ++ h) c r
written_behind v a b c h k (Ok x) wrote q = wrote_more v a b c h k wrote q
written_behind v a b c h k (Err f) wrote q = cut_more v a b c h k f wrote q

-- ---- reports

-- a report behind the writes of a run ends it
reported_is : (k : ℕ) (items : List Item) (u t : State) (skip : ℕ) (counts : Statistics) (end whole : RunEnd) (pc icnt : ℕ) (h : Journal) → skip ≡ k → counts ≡ statistics_of items → end ≡ whole
    → t ≡ u → pc ≡ t.pc → icnt ≡ t.icnt → behind h (answered (run_answer end pc icnt) (Report (statistics_text skip counts end pc icnt) ∷ [])) ≡ answered (end_answer whole u) (Report (end_report k items whole u) ∷ h)
unfolding end_answer end_report
reported_is k items u t skip counts end whole pc icnt h es ec e et ep ei =
    let made : ℕ → Statistics → RunEnd → ℕ → ℕ → Outcome Answer = λ n m x p i. answered (run_answer x p i) (Report (statistics_text n m x p i) ∷ h) in
    ap (λ (x : ℕ). made x counts end pc icnt) es ∙ ap (λ (x : Statistics). made k x end pc icnt) ec ∙ ap (λ (x : RunEnd). made k (statistics_of items) x pc icnt) e
    ∙ ap (λ (x : ℕ). made k (statistics_of items) whole x icnt) (ep ∙ ap (λ (y : State). y.pc) et) ∙ ap (λ (x : ℕ). made k (statistics_of items) whole u.pc x) (ei ∙ ap (λ (y : State). y.icnt) et)

-- ---- runs

whole_is : (trace : Trace) (asked : Asked) (s : State) → is_too_long trace s asked ≡ false
    → answered (end_answer (cut_end trace s asked) (cut_state trace s asked)) (Report (end_report (skipped trace s asked) (timed_items trace s asked) (cut_end trace s asked) (cut_state trace s asked)) ∷ cut_journal trace s asked) ≡ ran_behind trace asked s
unfolding ran_answer ran_report
whole_is trace asked s fits =
    let a = end_answer (cut_end trace s asked) (cut_state trace s asked) in
    let text = end_report (skipped trace s asked) (timed_items trace s asked) (cut_end trace s asked) (cut_state trace s asked) in
    ap (λ (b : Bool). answered (if b then too_long asked else a) (Report (if b then fault_line (too_long asked) else text) ∷ cut_journal trace s asked)) (sym fits)

long_is : (trace : Trace) (asked : Asked) (s : State) → is_too_long trace s asked ≡ true → behind (cut_journal trace s asked) (refused (too_long asked)) ≡ ran_behind trace asked s
unfolding ran_answer ran_report
long_is trace asked s long =
    let a = end_answer (cut_end trace s asked) (cut_state trace s asked) in
    let text = end_report (skipped trace s asked) (timed_items trace s asked) (cut_end trace s asked) (cut_state trace s asked) in
    ap (λ (b : Bool). answered (if b then too_long asked else a) (Report (if b then fault_line (too_long asked) else text) ∷ cut_journal trace s asked)) (sym long)

-- a run was done whole, and is reported
pub run_reported : {O : Type 0} (v : View O) (a b c : O) (trace : Trace) (asked : Asked) (s t : State) (cut : RunParts) (pc icnt : ℕ) (r : Result Answer Fault) → RunCut trace s asked t cut → pc ≡ t.pc → icnt ≡ t.icnt
    → Wrote v a (cut_journal trace s asked) b → Ends v b (answered (run_answer cut.end pc icnt) (Report (statistics_text cut.skipped cut.statistics cut.end pc icnt) ∷ [])) c r → Ends v a (ran_behind trace asked s) c r
run_reported v a b c trace asked s t cut pc icnt r k p i wrote rest =
    let h = cut_journal trace s asked in
    let e = reported_is (skipped trace s asked) (timed_items trace s asked) (cut_state trace s asked) t cut.skipped cut.statistics cut.end (cut_end trace s asked) pc icnt h k.skipped k.statistics k.end k.state p i in
    subst (λ o. Ends v a o c r) (e ∙ whole_is trace asked s k.fits) (ends_more v a b c h (answered (run_answer cut.end pc icnt) (Report (statistics_text cut.skipped cut.statistics cut.end pc icnt) ∷ [])) r wrote rest)

-- or its point is too long
pub run_long : {O : Type 0} (v : View O) (a b c : O) (trace : Trace) (asked : Asked) (s : State) (name : List ℕ) (r : Result Answer Fault) → is_too_long trace s asked ≡ true → name ≡ unwrap_or (point_file asked.point) []
    → Wrote v a (cut_journal trace s asked) b → Ends v b (refused (answer.TooLong name)) c r → Ends v a (ran_behind trace asked s) c r
run_long v a b c trace asked s name r long e wrote rest =
    let h = cut_journal trace s asked in
    let rest2 = subst (λ (n : List ℕ). Ends v b (refused (answer.TooLong n)) c r) e rest in
    subst (λ o. Ends v a o c r) (long_is trace asked s long) (ends_more v a b c h (refused (too_long asked)) r wrote rest2)

-- or it was given up
pub run_gave_up : {O : Type 0} (v : View O) (a b : O) (trace : Trace) (asked : Asked) (s : State) (f : Fault) → Cut v a (cut_journal trace s asked) f b → Ends v a (ran_behind trace asked s) b (Err f)
run_gave_up v a b trace asked s f q = cut_gave_up v a b (Report (ran_report trace asked s)) (cut_journal trace s asked) f q

-- a run whose files were made empty first
pub started_ends : {O : Type 0} (v : View O) (a b c : O) (trace : Trace) (asked whole : Asked) (s : State) (r : Result Answer Fault) → asked ≡ whole → Wrote v a (starts_of asked) b → Ends v b (ran_behind trace asked s) c r → Ends v a (ran trace whole s) c r
started_ends v a b c trace asked whole s r e wrote rest = subst (λ (x : Asked). Ends v a (ran trace x s) c r) e (ends_more v a b c (starts_of asked) (ran_behind trace asked s) r wrote rest)

-- or weren't
pub unstarted : {O : Type 0} (v : View O) (a b : O) (trace : Trace) (asked whole : Asked) (s : State) (f : Fault) → asked ≡ whole → Cut v a (starts_of asked) f b → Ends v a (ran trace whole s) b (Err f)
unstarted v a b trace asked whole s f e q =
    let given : Result Answer Fault = Err f in
    subst (λ (x : Asked). Ends v a (ran trace x s) b given) e (cut_before v a b (Report (ran_report trace asked s)) (cut_journal trace s asked) (starts_of asked) f q)

-- ---- runs that are recorded

-- at a program's start no instruction is done
pub start_icnt : (a : Storage) (image : Image) (args : List (List ℕ)) → state_of a ≡ start_state image args → a.icnt ≡ 0
unfolding start_state
start_icnt a image args e = ap (λ (s : State). s.icnt) e

recorded_end_is : (made : Trace × Bool) (n : ℕ) (s : State) (trace : Trace) (e : RecordEnd) → made ≡ (trace, is_full e) → EndsAs e (end_of trace n s) → run_end e ≡ recorded_end made n s
recorded_end_is made n s trace (record_ends.Run e) is k =
    let P : Trace × Bool → Type 0 = λ m. e ≡ recorded_end m n s in
    subst P (sym is) k
recorded_end_is made n s trace record_ends.Full is k =
    let P : Trace × Bool → Type 0 = λ m. ends.Limit ≡ recorded_end m n s in
    subst P (sym is) refl

-- the trace that a recorder has after it
pub recorded_trace_is : (old : RecorderState) (n : ℕ) (s : State) (new : RecorderState) (t : State) (r : Recorded) → RunRecorded old n s new t r → new.trace ≡ (made_of old n s).0
recorded_trace_is old n s new t r k = sym (ap (λ (m : Trace × Bool). m.0) k.trace)

-- the trace and the report of a recorded run come behind its output
pub recorded_ends : {O : Type 0} (v : View O) (a b c d : O) (old : RecorderState) (n : ℕ) (s : State) (new : RecorderState) (t : State) (w : Recorded) (end : RunEnd) (pc icnt : ℕ) (out : List ℕ) (r : Result Answer Fault) → RunRecorded old n s new t w → end ≡ run_end w.end → pc ≡ t.pc → icnt ≡ t.icnt
    → Wrote v a (run_journal None (items_of (made_of old n s).0 n s)) b → Wrote v b (Append out (trace_text new.trace) ∷ []) c → Ends v c (answered (run_answer end pc icnt) (Report (statistics_text 0 w.statistics end pc icnt) ∷ [])) d r
    → Ends v a (ended (made_of old n s).0 (recorded_end (made_of old n s) n s) n s (Append out (trace_text (made_of old n s).0) ∷ run_journal None (items_of (made_of old n s).0 n s))) d r
recorded_ends v a b c d old n s new t w end pc icnt out r k e p i wrote trace rest =
    let made = made_of old n s in
    let same : new.trace ≡ made.0 = recorded_trace_is old n s new t w k in
    let h = run_journal None (items_of made.0 n s) in
    let all = Append out (trace_text made.0) ∷ h in
    let both = wrote_more v a b c h (Append out (trace_text made.0) ∷ []) wrote (subst (λ x. Wrote v b (Append out (trace_text x) ∷ []) c) same trace) in
    let is = reported_is 0 (items_of made.0 n s) (after made.0 n s) t 0 w.statistics end (recorded_end made n s) pc icnt all refl (k.statistics ∙ ap (λ (x : Trace). statistics_of (items_of x n s)) same)
    (e ∙ recorded_end_is made n s new.trace w.end k.trace k.end) (k.state ∙ ap (λ (x : Trace). after x n s) same) p i in
    subst (λ o. Ends v a o d r) is (ends_more v a c d all (answered (run_answer end pc icnt) (Report (statistics_text 0 w.statistics end pc icnt) ∷ [])) r both rest)

-- the trace of a recorded run wasn't written whole
pub trace_gave_up : {O : Type 0} (v : View O) (a b c : O) (made trace : Trace) (out : List ℕ) (w : Write) (h : Journal) (f : Fault) → trace ≡ made
    → Wrote v a h b → GaveUp v b (Append out (trace_text trace) ∷ []) f c → GaveUp v a (w ∷ Append out (trace_text made) ∷ h) f c
trace_gave_up v a b c made trace out w h f e wrote rest =
    let rest2 = gave_up_cut v b c (Append out (trace_text made) ∷ []) f (subst (λ x. GaveUp v b (Append out (trace_text x) ∷ []) f c) e rest) in
    cut_gave_up v a c w (Append out (trace_text made) ∷ h) f (cut_more v a b c h (Append out (trace_text made) ∷ []) f wrote rest2)

-- the recorded run from a program's start
pub recorded_is : (world : WorldState) (big : Bool) (out : List ℕ) (old : RecorderState) (max_inst n icnt room : ℕ) (s t : State) → old ≡ record { world = world; trace = empty_trace big } → s ≡ t → icnt ≡ s.icnt
    → room ≡ 10 ^ 15 - icnt → n ≡ min max_inst room → recorded_for (made_of old n s) n s out ≡ recorded world big max_inst t out
recorded_is world big out old max_inst n icnt room s t q e i o m =
    let first : RecorderState = record { world = world; trace = empty_trace big } in
    let limit : n ≡ limited s max_inst = m ∙ ap (λ x. min max_inst x) (o ∙ ap (λ x. 10 ^ 15 - x) i) in
    ap (λ (x : RecorderState). recorded_for (made_of x n s) n s out) q ∙ ap (λ (x : ℕ). recorded_for (made_of first x s) x s out) limit ∙ ap (λ (x : State). recorded world big max_inst x out) e

-- whose file was made empty
pub started_record_ends : {O : Type 0} (v : View O) (a b c : O) (old : RecorderState) (n : ℕ) (s : State) (out : List ℕ) (whole : Outcome Answer) (r : Result Answer Fault) → recorded_for (made_of old n s) n s out ≡ whole
    → Wrote v a (Start out ∷ []) b → Ends v b (ended (made_of old n s).0 (recorded_end (made_of old n s) n s) n s (Append out (trace_text (made_of old n s).0) ∷ run_journal None (items_of (made_of old n s).0 n s))) c r → Ends v a whole c r
started_record_ends v a b c old n s out whole r e wrote rest =
    let made = made_of old n s in
    subst (λ o. Ends v a o c r) e (ends_more v a b c (Start out ∷ []) (ended made.0 (recorded_end made n s) n s (Append out (trace_text made.0) ∷ run_journal None (items_of made.0 n s))) r wrote rest)
