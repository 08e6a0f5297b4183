-- The loop over lines.
use Rattle.std.proofs.Common.{◌≡◌, ◌++◌, ◌∙◌, ◌+◌, ◌<◌, ◌≤◌, ℕ, suc, List, [], ◌∷◌, Some, None, length, refl, sym, ap, arith, length-append}
use Rattle.std.specs.Prelude.{codes}
use Rattle.ooo_table.specs.declared.event.Event.{Event}
use Rattle.ooo_table.specs.declared.event.Mark.TheVariants as mark
use Rattle.pipetrace.specs.declared.line.Line.{Line}
use Rattle.pipetrace.specs.declared.line.Line.TheVariants as line
use Rattle.pipetrace.specs.declared.reading.Last.{Last}
use Rattle.pipetrace.specs.declared.reading.Last.TheVariants as last
use Rattle.pipetrace.specs.Reading.{◌>>=◌, IsStuck, IsWhole, after_line, line_at, next_line, place, place_after, step, with_act}
use Rattle.pipetrace.proofs.Words.{bind_some, some_is}
use Rattle.pipetrace.proofs.Lines.{line_body, line_is, line_text}

pub loop_starts : (bytes : List ℕ) (es : List Event) → es ≡ [] → place_after 0 bytes ≡ Some (place es last.Nothing bytes)
unfolding place_after
loop_starts bytes es e = ap (λ x. Some (place x last.Nothing bytes)) (sym e)

one_more : (n : ℕ) → n + 1 ≡ suc n
one_more n = omega arith

pub loop_next : (n : ℕ) (bytes : List ℕ) (es : List Event) (before next : Last) (rest after : List ℕ) → place_after n bytes ≡ Some (place es before rest) → next_line before rest ≡ Some (next, after)
    → place_after (n + 1) bytes ≡ Some (place (with_act es next) next after)
unfolding place_after
loop_next n bytes es before next rest after h e =
    ap (λ m. place_after m bytes) (one_more n) ∙ ap (λ o. o >>= step) h ∙ ap (λ o. o >>= λ t. Some (place (with_act es t.0) t.0 t.1)) e

-- a line takes at least its letter and its newline
some_bytes : (l : Line) → 1 ≤ length (line_body l)
some_bytes (line.Cycle c) = omega arith
some_bytes (line.Act r mark.Committed) = omega arith
some_bytes (line.Act r mark.Written) = omega arith
some_bytes (line.Act r mark.Returned) = omega arith
some_bytes (line.Act r mark.Squashed) = omega arith
some_bytes (line.Act r mark.Issued) = omega arith
some_bytes (line.Act r mark.Accessed) = omega arith
some_bytes (line.Act r mark.Dispatched) = omega arith
some_bytes (line.Act r (mark.Fetched pc next queued)) = omega arith
some_bytes (line.End n w) = omega arith

pub line_takes : (before next : Last) (rest after : List ℕ) → next_line before rest ≡ Some (next, after) → length after + 2 ≤ length rest
unfolding next_line
line_takes before next rest after e =
    let found = bind_some (line_at rest) _ (next, after) e in
    let a = bind_some (after_line before found.0.0) _ (next, after) found.2 in
    let l = line_is rest found.0 found.1 in
    let same : found.0.1 ≡ after = ap (λ t. t.1) (some_is (a.0, found.0.1) (next, after) a.2) in
    let one : length (line_body found.0.0 ++ codes "\n") ≡ length (line_body found.0.0) + 1 = length-append (line_body found.0.0) (codes "\n") in
    omega (arith, ap length l.0, length-append (line_text found.0.0) found.0.1, one, ap length same, some_bytes found.0.0)

never_whole : (l : Last) (rest : List ℕ) → 0 < length rest → IsWhole l rest → ⊥
never_whole last.Nothing rest some h = h
never_whole (last.Cycle c) rest some h = h
never_whole (last.Act e) rest some h = h
never_whole (last.End n w) [] some h = omega arith
never_whole (last.End n w) (b ∷ bs) some h = h

pub loop_stuck : (n : ℕ) (bytes : List ℕ) (es : List Event) (before : Last) (rest : List ℕ) → place_after n bytes ≡ Some (place es before rest) → next_line before rest ≡ None → 0 < length rest → IsStuck bytes (n + 1)
loop_stuck n bytes es before rest h e some = record {
  place = place es before rest;
  before = n;
  number = refl;
  comes = h;
  stops = e;
  unfinished = never_whole before rest some;
}

no_bytes : (rest : List ℕ) → length rest ≡ 0 → rest ≡ []
no_bytes [] e = refl
no_bytes (b ∷ bs) e = absurd (omega arith)

pub loop_ends : (n : ℕ) (bytes : List ℕ) (es : List Event) (before : Last) (rest : List ℕ) → place_after n bytes ≡ Some (place es before rest) → length rest ≡ 0 → place_after n bytes ≡ Some (place es before [])
loop_ends n bytes es before rest h e = h ∙ ap (λ r. Some (place es before r)) (no_bytes rest e)

-- no line stands behind the last byte
nothing_left : (before : Last) → next_line before [] ≡ None
unfolding next_line line_at
nothing_left before = refl

missing : (n : ℕ) (bytes : List ℕ) (es : List Event) (before : Last) → (IsWhole before [] → ⊥) → place_after n bytes ≡ Some (place es before []) → IsStuck bytes (n + 1)
missing n bytes es before unended h = record {
  place = place es before [];
  before = n;
  number = refl;
  comes = h;
  stops = nothing_left before;
  unfinished = unended;
}

pub missing_first : (n : ℕ) (bytes : List ℕ) (es : List Event) → place_after n bytes ≡ Some (place es last.Nothing []) → IsStuck bytes (n + 1)
missing_first n bytes es h = missing n bytes es last.Nothing (λ w. w) h

pub missing_event : (n : ℕ) (bytes : List ℕ) (es : List Event) (c : ℕ) → place_after n bytes ≡ Some (place es (last.Cycle c) []) → IsStuck bytes (n + 1)
missing_event n bytes es c h = missing n bytes es (last.Cycle c) (λ w. w) h

pub missing_end : (n : ℕ) (bytes : List ℕ) (es : List Event) (e : Event) → place_after n bytes ≡ Some (place es (last.Act e) []) → IsStuck bytes (n + 1)
missing_end n bytes es e h = missing n bytes es (last.Act e) (λ w. w) h
