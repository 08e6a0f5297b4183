-- What sim-safe and record write is proper: a file is made empty before bytes are added to it, and the report
-- comes last.
use Rattle.std.proofs.Common.{◌≡◌, ◌++◌, ◌-◌, ℕ, Bool, true, false, List, [], ◌∷◌, Option, Some, None, refl, sym, ◌∙◌, subst, if◌then◌else◌}
use Rattle.std.specs.Prelude.{IsSome, bytes_eq, unwrap_or}
use Rattle.std.proofs.lemmas.Slice.Eq.{bytes_eq-Decides}
use Rattle.ecoff_load.specs.declared.image.Image.{Image}
use Rattle.event_trace.specs.declared.trace.Block.{Block}
use Rattle.event_trace.specs.declared.trace.Trace.{Trace}
use Rattle.event_trace.specs.World.{File}
use Rattle.sim_safe.specs.State.{State, start_state}
use Rattle.sim_safe.specs.Record.{Item}
use Rattle.sim_safe.specs.Commit.{line_of, blocks_of, onto, records_between}
use Rattle.sim_safe.specs.Run.{items_of, after}
use Rattle.sim_watch.specs.Watch.{puts_of, is_short, piece_with, last_piece, written_of, run_journal}
use Rattle.sim_watch.specs.Skip.{record_blocks, skip_journal}
use Rattle.std.specs.List.{flat_map}
use Rattle.cut_run.specs.Parts.{is_large_at, point_writes, cut_writes, is_cut_short, skipped_writes, timed_writes}
use Rattle.cut_run.specs.Plan.{Asked, filtered, to_skip, timed_start, to_do, skipped_point, timed_point, cut_journal, PointElsewhere}
use Rattle.sim_opts.specs.Request.{Run}
use Rattle.journal.specs.declared.fault.Fault.TheVariants as fault
use Rattle.journal.specs.declared.loading.Found.{Found}
use Rattle.journal.specs.Write.{Journal, Start, Append, Output, Report, Lacks, output_of, report_of}
use Rattle.journal.specs.Texts.{text_in, StartsFiles, IsProper}
use Rattle.journal.specs.Propers.{proper_report}
use Rattle.journal.specs.Fronts.{same_name}
use Rattle.journal.specs.Outcome.{Outcome}
use Rattle.answers.specs.declared.answer.Answer.{Answer}
use Rattle.answers.specs.Judging.{LoadsNamed, LoadsEach, JudgesObject}
use Rattle.answers.specs.SoundLaws.{EachOf, file_all, named_all, each_all, object_all}
use Rattle.run_commands.specs.Outcome.{SimSafeOutcome, RecordOutcome, AreApart, asked_of, point_file, ran, ran_report, recorded, recorded_for, start_of, starts_of, trace_text, world_of}
use Rattle.run_commands.specs.ProgramLaws.{program_all}

-- ---- the start of a file that may be named

pub start_output : (file : Option (List ℕ)) → output_of (start_of file) ≡ []
start_output None = refl
start_output (Some file) = refl

pub start_report : (file : Option (List ℕ)) → report_of (start_of file) ≡ []
start_report None = refl
start_report (Some file) = refl

-- ---- journals that put out bytes, and add bytes to files of which a fact holds

abbrev pub AddsTo : (List ℕ → Type 0) → Journal → Type 0
AddsTo Open [] = Unit {0}
AddsTo Open (Start name ∷ h) = ⊥
AddsTo Open (Append name bytes ∷ h) = Open name × AddsTo Open h
AddsTo Open (Output bytes ∷ h) = AddsTo Open h
AddsTo Open (Report bytes ∷ h) = ⊥

-- a file that may be named
abbrev pub MayAdd : (List ℕ → Type 0) → Option (List ℕ) → Type 0
MayAdd Open None = Unit {0}
MayAdd Open (Some file) = Open file

module _ (Open : List ℕ → Type 0) where
  pub adds_more : (k h : Journal) → AddsTo Open k → AddsTo Open h → AddsTo Open (k ++ h)
  adds_more [] h a b = b
  adds_more (Start name ∷ k) h a b = absurd a
  adds_more (Append name bytes ∷ k) h a b = (a.0, adds_more k h a.1 b)
  adds_more (Output bytes ∷ k) h a b = adds_more k h a b
  adds_more (Report bytes ∷ k) h a b = absurd a

  adds_puts : (blocks : List Block) → AddsTo Open (puts_of blocks)
  adds_puts [] = tt
  adds_puts (b ∷ bs) = adds_more (puts_of bs) (Output b.bytes ∷ []) (adds_puts bs) tt

  adds_if : (none : Bool) (file bytes : List ℕ) → Open file → AddsTo Open (if none then [] else Append file bytes ∷ [])
  adds_if true file bytes o = tt
  adds_if false file bytes o = (o, tt)

  adds_piece : (file : Option (List ℕ)) (pending line : List ℕ) → MayAdd Open file → AddsTo Open (piece_with file pending line)
  adds_piece None pending line o = tt
  adds_piece (Some file) pending line o = adds_if (is_short (pending ++ line)) file (pending ++ line) o

  adds_written : (file : Option (List ℕ)) (was : List ℕ) (h : List Item) → MayAdd Open file → AddsTo Open (written_of file was h).journal
  unfolding written_of
  adds_written file was [] o = tt
  adds_written file was (i ∷ h) o =
      let w = written_of file was h in
      let piece = piece_with file w.pending (line_of i) in
      let puts = puts_of (blocks_of i) in
      adds_more (piece ++ puts) w.journal (adds_more piece puts (adds_piece file w.pending (line_of i) o) (adds_puts (blocks_of i))) (adds_written file was h o)

  adds_last : (file : Option (List ℕ)) (pending : List ℕ) → MayAdd Open file → AddsTo Open (last_piece file pending)
  adds_last None pending o = tt
  adds_last (Some file) pending o = (o, tt)

  adds_run : (file : Option (List ℕ)) (is : List Item) → MayAdd Open file → AddsTo Open (run_journal file is)
  adds_run file is o =
      let w = written_of file [] (onto is []) in
      adds_more (last_piece file w.pending) w.journal (adds_last file w.pending o) (adds_written file [] (onto is []) o)

  adds_skip : (trace : Trace) (n : ℕ) (s : State) → AddsTo Open (skip_journal trace n s)
  unfolding skip_journal
  adds_skip trace n s = adds_puts (flat_map record_blocks (records_between s.used (after trace n s).used trace.records))

  -- ---- a part that is cut where a point is taken

  adds_round : (large : Bool) (first point rest : Journal) → AddsTo Open first → AddsTo Open point → AddsTo Open rest → AddsTo Open (if large then first else rest ++ (point ++ first))
  adds_round true first point rest a b c = a
  adds_round false first point rest a b c = adds_more rest (point ++ first) c (adds_more point first b a)

  adds_cut : (writes : ℕ → State → Journal) → ((n : ℕ) (s : State) → AddsTo Open (writes n s)) → (trace : Trace) (n : ℕ) (s : State) (cut : Option (List ℕ × ℕ)) → MayAdd Open (point_file cut) → AddsTo Open (cut_writes writes trace n s cut)
  adds_cut writes all trace n s None o = all n s
  adds_cut writes all trace n s (Some p) o =
      let u = after trace p.1 s in
      adds_round (is_large_at u) (writes p.1 s) (point_writes u p.0) (writes (n - p.1) u) (all p.1 s) (adds_if (is_large_at u) p.0 _ o) (all (n - p.1) u)

  filtered_if : (b : Bool) (file : List ℕ) (at : ℕ) → Open file → MayAdd Open (point_file (if b then Some (file, at) else None))
  filtered_if true file at o = o
  filtered_if false file at o = tt

  adds_filtered : (test : ℕ → Bool) (place : ℕ → ℕ) (p : Option (List ℕ × ℕ)) → MayAdd Open (point_file p) → MayAdd Open (point_file (filtered test place p))
  adds_filtered test place None o = tt
  adds_filtered test place (Some p) o = filtered_if (test p.1) p.0 (place p.1) o

  adds_both : (short : Bool) (first rest : Journal) → AddsTo Open first → AddsTo Open rest → AddsTo Open (if short then first else rest ++ first)
  adds_both true first rest a b = a
  adds_both false first rest a b = adds_more rest first b a

  -- a run adds to the files of its commit text and its point alone
  pub adds_journal : (trace : Trace) (s : State) (asked : Asked) → MayAdd Open asked.commits → MayAdd Open (point_file asked.point) → AddsTo Open (cut_journal trace s asked)
  unfolding cut_journal
  adds_journal trace s asked c p =
      let first = skipped_point trace s asked in
      let second = timed_point trace s asked in
      adds_both (is_cut_short trace s first) (skipped_writes trace (to_skip trace s asked) s first) (timed_writes trace asked.commits (to_do trace s asked) (timed_start trace s asked) second)
      (adds_cut (skip_journal trace) (λ n t. adds_skip trace n t) trace (to_skip trace s asked) s first (adds_filtered _ _ asked.point p))
      (adds_cut (λ n t. run_journal asked.commits (items_of trace n t)) (λ n t. adds_run asked.commits (items_of trace n t) c) trace (to_do trace s asked) (timed_start trace s asked) second (adds_filtered _ _ asked.point p))

-- ---- behind the starts of these files

-- a file was made empty
abbrev pub IsOpen : Journal → List ℕ → Type 0
IsOpen h name = IsSome (text_in h name)

some_of : (b : Bool) (t : Option (List ℕ)) (x : List ℕ) → IsSome t → IsSome (if b then Some x else t)
some_of true t x s = refl
some_of false t x s = s

open_still : (starts : Journal) (name : List ℕ) (h : Journal) → AddsTo (IsOpen starts) h → IsOpen starts name → IsOpen (h ++ starts) name
open_still starts name [] a o = o
open_still starts name (Start other ∷ h) a o = absurd a
open_still starts name (Append other bytes ∷ h) a o = some_of (bytes_eq name other) (text_in (h ++ starts) name) (unwrap_or (text_in (h ++ starts) name) [] ++ bytes) (open_still starts name h a.1 o)
open_still starts name (Output bytes ∷ h) a o = open_still starts name h a o
open_still starts name (Report bytes ∷ h) a o = absurd a

starts_before : (starts h : Journal) → StartsFiles starts → AddsTo (IsOpen starts) h → StartsFiles (h ++ starts)
starts_before starts [] s a = s
starts_before starts (Start name ∷ h) s a = absurd a
starts_before starts (Append name bytes ∷ h) s a = (open_still starts name h a.1 a.0, starts_before starts h s a.1)
starts_before starts (Output bytes ∷ h) s a = (tt, starts_before starts h s a)
starts_before starts (Report bytes ∷ h) s a = absurd a

lacks_before : (starts h : Journal) → Lacks fault.Stat starts → AddsTo (IsOpen starts) h → Lacks fault.Stat (h ++ starts)
lacks_before starts [] s a = s
lacks_before starts (Start name ∷ h) s a = absurd a
lacks_before starts (Append name bytes ∷ h) s a = (λ e. cc, lacks_before starts h s a.1)
lacks_before starts (Output bytes ∷ h) s a = (λ e. cc, lacks_before starts h s a)
lacks_before starts (Report bytes ∷ h) s a = absurd a

proper_behind : (starts h : Journal) (report : List ℕ) → StartsFiles starts → Lacks fault.Stat starts → AddsTo (IsOpen starts) h → IsProper (Report report ∷ h ++ starts)
proper_behind starts h report s l a = record { starts = (tt, starts_before starts h s a); last = lacks_before starts h l a }

-- ---- the starts of a run

not_same : (b : Bool) → (b ≡ true → ⊥) → b ≡ false
not_same true n = absurd (n refl)
not_same false n = refl

other_name : (a b : List ℕ) → bytes_eq a b ≡ false → bytes_eq b a ≡ false
other_name a b e = not_same (bytes_eq b a) (λ t. let k : true ≡ false = sym ((bytes_eq-Decides a b).1 (sym ((bytes_eq-Decides b a).0 t))) ∙ e in cc)

named_open : (file : List ℕ) (h : Journal) → IsOpen (Start file ∷ h) file
named_open file h = subst (λ (b : Bool). IsSome (if b then Some (let e : List ℕ = [] in e) else text_in h file)) (sym (same_name file)) refl

pub run_starts : (commits : Option (List ℕ)) (point : Option (List ℕ × ℕ)) → AreApart commits point → StartsFiles (start_of (point_file point) ++ start_of commits)
run_starts None None a = tt
run_starts (Some file) None a = (refl, tt)
run_starts None (Some p) a = (refl, tt)
run_starts (Some file) (Some p) a = (subst (λ (b : Bool). (if b then Some (let e : List ℕ = [] in e) else None) ≡ None) (sym (other_name file p.0 a)) refl, (refl, tt))

lacks_starts : (commits : Option (List ℕ)) (point : Option (List ℕ × ℕ)) → Lacks fault.Stat (start_of (point_file point) ++ start_of commits)
lacks_starts None None = tt
lacks_starts (Some file) None = (λ e. cc, tt)
lacks_starts None (Some p) = (λ e. cc, tt)
lacks_starts (Some file) (Some p) = (λ e. cc, (λ e. cc, tt))

commits_open : (commits : Option (List ℕ)) (point : Option (List ℕ × ℕ)) → MayAdd (IsOpen (start_of (point_file point) ++ start_of commits)) commits
commits_open None point = tt
commits_open (Some file) None = named_open file []
commits_open (Some file) (Some p) = some_of (bytes_eq file p.0) (text_in (Start file ∷ []) file) [] (named_open file [])

point_open : (commits : Option (List ℕ)) (point : Option (List ℕ × ℕ)) → MayAdd (IsOpen (start_of (point_file point) ++ start_of commits)) (point_file point)
point_open commits None = tt
point_open commits (Some p) = named_open p.0 (start_of commits)

-- ---- outcomes

pub ran_proper : (trace : Trace) (asked : Asked) (s : State) → AreApart asked.commits asked.point → IsProper (ran trace asked s).writes
ran_proper trace asked s apart =
    let starts = starts_of asked in
    proper_behind starts (cut_journal trace s asked) (ran_report trace asked s) (run_starts asked.commits asked.point apart) (lacks_starts asked.commits asked.point)
    (adds_journal (IsOpen starts) trace s asked (commits_open asked.commits asked.point) (point_open asked.commits asked.point))

pub recorded_proper : (made : Trace × Bool) (n : ℕ) (s : State) (out : List ℕ) → IsProper (recorded_for made n s out).writes
recorded_proper made n s out =
    let starts = Start out ∷ [] in
    let is = items_of made.0 n s in
    proper_behind starts (Append out (trace_text made.0) ∷ run_journal None is) _ (refl, tt) (λ e. cc, tt) (named_open out [], adds_run (IsOpen starts) None is tt)

-- ---- commands

pub sim_safe_proper : (r : Run) (loaded : List Found) (o : Outcome Answer) → AreApart r.commits r.point → SimSafeOutcome r loaded o → IsProper o.writes
sim_safe_proper r loaded o apart x =
    let P : Outcome Answer → Type 0 = λ p. IsProper p.writes in
    program_all r P loaded o (λ given s. o ≡ ran given (asked_of r) s) (λ a h. proper_report _) (λ given s e. subst P (sym e) (ran_proper given (asked_of r) s apart)) x

each_proper : (names : List (List ℕ)) (P : List ℕ → Type 0) → ((name : List ℕ) → P name) → EachOf names P
each_proper [] P f = tt
each_proper (name ∷ names) P f = (f name, each_proper names P f)

pub record_proper : (out : List ℕ) (given : Option (List ℕ)) (files : List (List ℕ)) (max_inst : ℕ) (object : List ℕ) (args : List (List ℕ)) (loaded : List Found) (o : Outcome Answer)
    → RecordOutcome out given files max_inst object args loaded o → IsProper o.writes
record_proper out given files max_inst object args loaded o x =
    let P : Outcome Answer → Type 0 = λ p. IsProper p.writes in
    let Ends : Option (List ℕ) → List File → Image → Type 0 = λ bytes opened image. o ≡ recorded (world_of (unwrap_or bytes []) opened image) image.text.big max_inst (start_state image args) out in
    let Reads : List ℕ → Option (List ℕ) → List File → Type 0 = λ program bytes opened. JudgesObject program o (λ image. Ends bytes opened image) in
    file_all P object loaded o (λ program others. LoadsNamed given others o (λ bytes rest. LoadsEach files rest o (λ opened _. Reads program bytes opened))) (proper_report _)
    (λ program others. named_all P given others o (λ bytes rest. LoadsEach files rest o (λ opened _. Reads program bytes opened)) (λ n e. proper_report _)
    (λ bytes rest. each_all P files rest o (λ opened _. Reads program bytes opened) (each_proper files _ (λ name. proper_report _))
    (λ opened _. object_all P program o (λ image. Ends bytes opened image) (λ bad. proper_report _)
    (λ image e. subst P (sym e) (recorded_proper _ _ _ out)))))
    x
