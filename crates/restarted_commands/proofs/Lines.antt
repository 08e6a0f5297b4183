-- Command lines in pieces are commands in pieces.
use Rattle.std.proofs.Common.{◌≡◌, ◌⊎◌, ◌<◌, ◌≤◌, ℕ, Bool, true, false, List, [], ◌∷◌, length, Option, Some, None, inl, inr, refl, sym, ap, ◌∙◌, subst, if◌then◌else◌}
use Rattle.std.specs.Prelude.{map, nat_le, unwrap_or, slice_index}
use Rattle.ss_base.specs.Outside.{Files, bytes_at}
use Rattle.sim_opts.specs.Request.{Run, SimSafe, config_of}
use Rattle.journal.specs.declared.loading.Found.{Found}
use Rattle.journal.specs.declared.loading.Found.TheVariants as found
use Rattle.journal.specs.Load.{Input, input}
use Rattle.journal.specs.Loading.{found_in, found_at}
use Rattle.journal.specs.Outcome.{Outcome}
use Rattle.answers.specs.declared.answer.Answer.{Answer}
use Rattle.answers.specs.declared.answer.Answer.TheVariants as answer
use Rattle.answers.specs.Answer.{refused}
use Rattle.answers.specs.JudgingLaws.{AreBytes, FoundBytes}
use Rattle.run_commands.specs.Program.{named_input, object_limit, point_limit, trace_limit}
use Rattle.run_commands.specs.Outcome.{SimSafeOutcome, sim_safe_inputs}
use Rattle.sim_main.specs.Outcome.{Asked, Asks, config_limit, inputs_for, inputs_in, behind_config, HasOutcome, OutcomeIn, asked_in, HoldBytes}
use Rattle.sim_main.specs.Apart.{FilesApart, apart_in}
use Rattle.restarted_commands.specs.Restarted.{IsDone, Does, CanBegin, GoesOnFrom, InPieces, behind_point, restart_files}
use Rattle.restarted_commands.specs.Files.{DoesOver, GoesOnOver, HoldsSame, WordsInPieces}

-- ---- what words do

behind : (config : Option (List ℕ)) (files : Files) (is : List Input) → behind_config config (map (found_in files) (named_input config_limit config is)) ≡ map (found_in files) is
behind None files is = refl
behind (Some name) files is = refl

-- what a run finds over files
abbrev pub found_of : Run → Files → List Found
found_of r files = map (found_in files) (sim_safe_inputs r)

outcome_is : (words : List (List ℕ)) (files : Files) (r : Run) (o : Outcome Answer) → DoesOver words files r o → SimSafeOutcome r (found_of r files) o
outcome_is words files r o d =
    subst (λ (fs : List Found). SimSafeOutcome r fs o) (behind (config_of words) files (sim_safe_inputs r))
    (subst (λ (a : Asked). HasOutcome a (behind_config (config_of words) (map (found_in files) (inputs_for words a))) o) d.asks d.outcome)

does : (words : List (List ℕ)) (files : Files) (r : Run) (o : Outcome Answer) → DoesOver words files r o → Does r (found_of r files) o
does words files r o d = record {
  outcome = outcome_is words files r o d;
  done = d.done;
  apart = subst FilesApart d.asks (apart_in words files);
}

-- ---- files of bytes

found_byte : (fits : Bool) (bytes : List ℕ) (rest : List Found) → AreBytes bytes → FoundBytes rest → FoundBytes (found_at fits bytes ∷ rest)
found_byte true bytes rest h g = (h, g)
found_byte false bytes rest h g = g

found_bytes : (files : Files) (is : List Input) → HoldBytes files → FoundBytes (map (found_in files) is)
found_bytes files [] h = tt
found_bytes files (i ∷ is) h = found_byte (nat_le (length (bytes_at files i.name)) i.limit) (bytes_at files i.name) (map (found_in files) is) (h i.name) (found_bytes files is h)

-- ---- what the rest finds

same_found : (name : List ℕ) (limit : ℕ) (files later : Files) → later name ≡ files name → found_in later (input name limit) ≡ found_in files (input name limit)
same_found name limit files later same =
    ap (λ (o : Option (List ℕ)). found_at (nat_le (length (unwrap_or o [])) limit) (unwrap_or o [])) same

same_trace : (trace : Option (List ℕ)) (files later : Files) → HoldsSame trace files later → map (found_in later) (named_input trace_limit trace []) ≡ map (found_in files) (named_input trace_limit trace [])
same_trace None files later same = refl
same_trace (Some name) files later same = ap (λ (f : Found). f ∷ []) (same_found name trace_limit files later same)

behind_own : (own : Option (List ℕ)) (files : Files) (is : List Input) → behind_point own (map (found_in files) (named_input point_limit own is)) ≡ map (found_in files) is
behind_own None files is = refl
behind_own (Some name) files is = refl

-- a command that did its run found its point whole
never : (o : Outcome Answer) (a : Answer) → IsDone o.ending → (IsDone a → ⊥) → o ≡ refused a → ⊥
never o a done not e = not (subst (λ (x : Outcome Answer). IsDone x.ending) e done)

long_point : (r : Run) (object : Found) (file : List ℕ) (others : List Found) (o : Outcome Answer) → r.restart ≡ Some file → IsDone o.ending → SimSafeOutcome r (object ∷ found.TooLong ∷ others) o → ⊥
long_point r found.TooLong file others o is done h = never o (answer.TooLong r.object) done (λ x. x) h
long_point r (found.Whole bytes) file others o is done h = never o (answer.TooLong file) done (λ x. x) (rw is at h)

point_if : (r : Run) (object : Found) (file text : List ℕ) (others : List Found) (o : Outcome Answer) (fits : Bool) → r.restart ≡ Some file → IsDone o.ending → SimSafeOutcome r (object ∷ found_at fits text ∷ others) o → found_at fits text ≡ found.Whole text
point_if r object file text others o true is done h = refl
point_if r object file text others o false is done h = absurd (long_point r object file others o is done h)

rest_inputs : (r : Run) (object file : List ℕ) (trace : Option (List ℕ)) → r.object ≡ object → r.restart ≡ Some file → r.trace ≡ trace
    → sim_safe_inputs r ≡ input object object_limit ∷ input file point_limit ∷ named_input trace_limit trace []
rest_inputs r object file trace a b c =
    ap (λ (name : List ℕ). input name object_limit ∷ named_input point_limit r.restart (named_input trace_limit r.trace [])) a
    ∙ ap (λ (own : Option (List ℕ)). input object object_limit ∷ named_input point_limit own (named_input trace_limit r.trace [])) b
    ∙ ap (λ (calls : Option (List ℕ)). input object object_limit ∷ input file point_limit ∷ named_input trace_limit calls []) c

rest_finds : (left r : Run) (o z : Outcome Answer) (files later : Files) (k : ℕ) (g : GoesOnOver left r o files later k) → SimSafeOutcome r (found_of r later) z → IsDone z.ending
    → found_of r later ≡ restart_files left.restart g.text (found_of left files)
rest_finds left r o z files later k g h done =
    let traces = named_input trace_limit left.trace [] in
    let object = found_in later (input left.object object_limit) in
    let others = map (found_in later) traces in
    let held : bytes_at later g.file ≡ g.text = ap (λ (x : Option (List ℕ)). unwrap_or x []) g.point_file in
    let split : found_of r later ≡ object ∷ found_at (nat_le (length g.text) point_limit) g.text ∷ others =
    ap (map (found_in later)) (rest_inputs r left.object g.file left.trace g.object g.restart g.trace)
    ∙ ap (λ (b : List ℕ). object ∷ found_at (nat_le (length b) point_limit) b ∷ others) held in
    split ∙ ap (λ (f : Found). object ∷ f ∷ others) (point_if r object g.file g.text others z (nat_le (length g.text) point_limit) g.restart done (subst (λ (fs : List Found). SimSafeOutcome r fs z) split h))
    ∙ ap (λ (f : Found). f ∷ found.Whole g.text ∷ others) (same_found left.object object_limit files later g.object_file)
    ∙ ap (λ (fs : List Found). found_in files (input left.object object_limit) ∷ found.Whole g.text ∷ fs) (same_trace left.trace files later g.trace_file ∙ sym (behind_own left.restart files traces))

goes_on : (left r : Run) (o z : Outcome Answer) (files later : Files) (k : ℕ) → GoesOnOver left r o files later k → SimSafeOutcome r (found_of r later) z → IsDone z.ending → GoesOnFrom left r (found_of left files) (found_of r later) o k
goes_on left r o z files later k g h done = record {
  file = g.file;
  point = g.point;
  restart = g.restart;
  object = g.object;
  trace = g.trace;
  skip = g.skip;
  text = g.text;
  left = g.written;
  found = rest_finds left r o z files later k g h done;
}

-- ---- the front finds what the whole finds

front_inputs : (w f : Run) → f.object ≡ w.object → f.restart ≡ w.restart → f.trace ≡ w.trace → sim_safe_inputs f ≡ sim_safe_inputs w
front_inputs w f a b c =
    ap (λ (name : List ℕ). input name object_limit ∷ named_input point_limit f.restart (named_input trace_limit f.trace [])) a
    ∙ ap (λ (own : Option (List ℕ)). input w.object object_limit ∷ named_input point_limit own (named_input trace_limit f.trace [])) b
    ∙ ap (λ (calls : Option (List ℕ)). input w.object object_limit ∷ named_input point_limit w.restart (named_input trace_limit calls [])) c

pub pieces_of : (whole front rest : List (List ℕ)) (files later : Files) (w f r : Run) (x y z : Outcome Answer) (k : ℕ) → WordsInPieces whole front rest files later w f r x y z k
    → InPieces w f r (found_of w files) (found_of r later) x y z k
pieces_of whole front rest files later w f r x y z k p =
    let same : found_of f files ≡ found_of w files = ap (map (found_in files)) (front_inputs w f p.is_front.object p.is_front.restart p.is_front.trace) in
    let third = does rest later r z p.does_rest in
    record {
      begins = record { block = p.block; words = p.words; files = found_bytes files (sim_safe_inputs w) p.bytes };
      does_whole = does whole files w x p.does_whole;
      does_front = subst (λ (fs : List Found). Does f fs y) same (does front files f y p.does_front);
      does_rest = third;
      is_front = p.is_front;
      is_rest = rest_of p.is_rest third;
      budget = p.budget;
    }
  where
    rest_of : GoesOnOver w r x files later k ⊎ GoesOnOver f r y files later k → Does r (found_of r later) z → GoesOnFrom w r (found_of w files) (found_of r later) x k ⊎ GoesOnFrom f r (found_of w files) (found_of r later) y k
    rest_of (inl g) d = inl (goes_on w r x z files later k g d.outcome d.done)
    rest_of (inr g) d = inr (subst (λ (fs : List Found). GoesOnFrom f r fs (found_of r later) y k) (ap (map (found_in files)) (front_inputs w f p.is_front.object p.is_front.restart p.is_front.trace)) (goes_on f r y z files later k g d.outcome d.done))
