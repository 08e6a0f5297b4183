-- What a run writes to the file of its point.
use Rattle.std.proofs.Common.{◌≡◌, ◌-◌, ◌++◌, ◌+◌, ℕ, zero, suc, Bool, true, false, List, [], ◌∷◌, Option, Some, None, refl, sym, ap, ◌∙◌, subst, append_assoc, arith}
use Rattle.std.specs.Prelude.{min, bytes_eq, unwrap_or, ◌||◌, if◌then◌else◌}
use Rattle.std.specs.List.{flat_map}
use Rattle.std.proofs.lemmas.Slice.Eq.{bytes_eq-Decides}
use Rattle.event_trace.specs.declared.trace.Block.{Block}
use Rattle.event_trace.specs.declared.trace.Trace.{Trace}
use Rattle.journal.specs.Write.{Journal, Write, Start, Append, Output}
use Rattle.journal.specs.Texts.{text_in}
use Rattle.journal.specs.Fronts.{same_name}
use Rattle.sim_safe.specs.State.{State}
use Rattle.sim_safe.specs.Record.{Item}
use Rattle.sim_safe.specs.Run.{items_of, after}
use Rattle.sim_safe.specs.Commit.{line_of, blocks_of, onto, records_between}
use Rattle.sim_watch.specs.Watch.{puts_of, is_short, piece_with, last_piece, written_of, run_journal}
use Rattle.sim_watch.specs.Skip.{record_blocks, skip_journal}
use Rattle.checkpoint.specs.Grammar.{point_bytes}
use Rattle.cut_run.specs.Point.{point_of}
use Rattle.cut_run.specs.Parts.{is_large_at, point_writes, is_cut_short, skipped_writes, timed_writes}
use Rattle.cut_run.specs.Plan.{limited, is_too_long, cut_journal}
use Rattle.run_commands.specs.Outcome.{AreApart, start_of, starts_of, ran}
use Rattle.restarted_commands.proofs.Plans.{unskipped, first_point, second_point, writes_by, short_by, journal_is, short_is}

-- ---- journals that leave a file as it is

abbrev Passes : List ℕ → Journal → Type 0
Passes file j = (h : Journal) → text_in (j ++ h) file ≡ text_in h file

-- another file, if one is named
abbrev Elsewhere : List ℕ → Option (List ℕ) → Type 0
Elsewhere file None = Unit {0}
Elsewhere file (Some other) = bytes_eq file other ≡ false

passes_both : (file : List ℕ) (a b : Journal) → Passes file a → Passes file b → Passes file (a ++ b)
passes_both file a b p q h = ap (λ l. text_in l file) (append_assoc a b h) ∙ p (b ++ h) ∙ q h

passes_append : (file other bytes : List ℕ) → bytes_eq file other ≡ false → Passes file (Append other bytes ∷ [])
passes_append file other bytes e h = ap (λ (b : Bool). if b then Some (unwrap_or (text_in h file) [] ++ bytes) else text_in h file) e

passes_puts : (file : List ℕ) (blocks : List Block) → Passes file (puts_of blocks)
passes_puts file [] h = refl
passes_puts file (b ∷ bs) h = passes_both file (puts_of bs) (Output b.bytes ∷ []) (passes_puts file bs) (λ l. refl) h

passes_skip : (file : List ℕ) (trace : Trace) (n : ℕ) (s : State) → Passes file (skip_journal trace n s)
unfolding skip_journal
passes_skip file trace n s h = passes_puts file (flat_map record_blocks (records_between s.used (after trace n s).used trace.records)) h

passes_if : (none : Bool) (file other bytes : List ℕ) → bytes_eq file other ≡ false → Passes file (if none then [] else Append other bytes ∷ [])
passes_if true file other bytes e h = refl
passes_if false file other bytes e h = passes_append file other bytes e h

passes_piece : (file : List ℕ) (commits : Option (List ℕ)) (pending line : List ℕ) → Elsewhere file commits → Passes file (piece_with commits pending line)
passes_piece file None pending line e h = refl
passes_piece file (Some other) pending line e h = passes_if (is_short (pending ++ line)) file other (pending ++ line) e h

passes_written : (file : List ℕ) (commits : Option (List ℕ)) (is : List Item) → Elsewhere file commits → Passes file (written_of commits [] is).journal
unfolding written_of
passes_written file commits [] e h = refl
passes_written file commits (i ∷ is) e h =
    let w = written_of commits [] is in
    let piece = piece_with commits w.pending (line_of i) in
    let puts = puts_of (blocks_of i) in
    passes_both file (piece ++ puts) w.journal (passes_both file piece puts (passes_piece file commits w.pending (line_of i) e) (passes_puts file (blocks_of i))) (passes_written file commits is e) h

passes_last : (file : List ℕ) (commits : Option (List ℕ)) (pending : List ℕ) → Elsewhere file commits → Passes file (last_piece commits pending)
passes_last file None pending e h = refl
passes_last file (Some other) pending e h = passes_append file other pending e h

passes_run : (file : List ℕ) (commits : Option (List ℕ)) (is : List Item) → Elsewhere file commits → Passes file (run_journal commits is)
passes_run file commits is e h =
    let w = written_of commits [] (onto is []) in
    passes_both file (last_piece commits w.pending) w.journal (passes_last file commits w.pending e) (passes_written file commits (onto is []) e) h

-- ---- the point among them

named : (file x : List ℕ) (y : Option (List ℕ)) → (if bytes_eq file file then Some x else y) ≡ Some x
named file x y = ap (λ (b : Bool). if b then Some x else y) (same_name file)

point_added : (large : Bool) (file bytes : List ℕ) (h : Journal) → large ≡ false → text_in h file ≡ Some [] → text_in ((if large then [] else Append file bytes ∷ []) ++ h) file ≡ Some bytes
point_added true file bytes h fits e = absurd (let k : true ≡ false = fits in cc)
point_added false file bytes h fits e = named file (unwrap_or (text_in h file) [] ++ bytes) (text_in h file) ∙ ap (λ (t : Option (List ℕ)). Some (unwrap_or t [] ++ bytes)) e

point_between : (v : State) (file : List ℕ) (first rest h : Journal) → is_large_at v ≡ false → Passes file first → Passes file rest → text_in h file ≡ Some []
    → text_in ((rest ++ (point_writes v file ++ first)) ++ h) file ≡ Some (point_bytes (point_of v))
point_between v file first rest h fits p q e =
    let pw = point_writes v file in
    ap (λ l. text_in l file) (append_assoc rest (pw ++ first) h) ∙ q ((pw ++ first) ++ h) ∙ ap (λ l. text_in l file) (append_assoc pw first h)
    ∙ point_added (is_large_at v) file (point_bytes (point_of v)) (first ++ h) fits (p h ∙ e)

-- a part that is cut where its point is taken
round_text : (v : State) (file : List ℕ) (large : Bool) (first rest h : Journal) → is_large_at v ≡ large → large ≡ false → Passes file first → Passes file rest → text_in h file ≡ Some []
    → text_in ((if large then first else rest ++ (point_writes v file ++ first)) ++ h) file ≡ Some (point_bytes (point_of v))
round_text v file true first rest h is fits p q e = absurd (let k : true ≡ false = fits in cc)
round_text v file false first rest h is fits p q e = point_between v file first rest h is p q e

-- ---- the whole journal

both_parts : (b : Bool) (file : List ℕ) (t : List ℕ) (first rest h : Journal) → b ≡ false → text_in (rest ++ (first ++ h)) file ≡ Some t → text_in ((if b then first else rest ++ first) ++ h) file ≡ Some t
both_parts true file t first rest h fits e = absurd (let k : true ≡ false = fits in cc)
both_parts false file t first rest h fits e = ap (λ l. text_in l file) (append_assoc rest first h) ∙ e

neither : (a b : Bool) → (a || b) ≡ false → (a ≡ false) × (b ≡ false)
neither true b e = absurd cc
neither false b e = (refl, e)

min_none : (n : ℕ) → 0 ≡ min 0 n
min_none n = omega arith

-- whether the point lies at the run's start or behind it
written_point : (trace : Trace) (s : State) (commits : Option (List ℕ)) (file : List ℕ) (n k : ℕ) (h : Journal) → Elsewhere file commits → short_by trace s (first_point file k) s (second_point file n k) ≡ false → text_in h file ≡ Some []
    → text_in (writes_by trace s commits 0 (first_point file k) n s (second_point file n k) ++ h) file ≡ Some (point_bytes (point_of (after trace (min k n) s)))
written_point trace s commits file n zero h apart fits e =
    let v = after trace 0 s in
    let small : is_large_at v ≡ false = (neither (is_large_at v) false fits).0 in
    let skips = skipped_writes trace 0 s (Some (file, 0)) in
    let point : text_in (skips ++ h) file ≡ Some (point_bytes (point_of v)) = round_text v file (is_large_at v) (skip_journal trace 0 s) (skip_journal trace (0 - 0) v) h refl small (passes_skip file trace 0 s) (passes_skip file trace (0 - 0) v) e in
    both_parts (is_large_at v) file (point_bytes (point_of v)) skips (timed_writes trace commits n s None) h small (passes_run file commits (items_of trace n s) apart (skips ++ h) ∙ point)
    ∙ ap (λ (j : ℕ). Some (point_bytes (point_of (after trace j s)))) (min_none n)
written_point trace s commits file n (suc j) h apart fits e =
    let k = min (suc j) n in
    let v = after trace k s in
    let skips = skip_journal trace 0 s in
    let behind : text_in (timed_writes trace commits n s (Some (file, k)) ++ (skips ++ h)) file ≡ Some (point_bytes (point_of v)) =
    round_text v file (is_large_at v) (run_journal commits (items_of trace k s)) (run_journal commits (items_of trace (n - k) v)) (skips ++ h) refl fits
    (passes_run file commits (items_of trace k s) apart) (passes_run file commits (items_of trace (n - k) v) apart) (passes_skip file trace 0 s h ∙ e) in
    ap (λ l. text_in l file) (append_assoc (timed_writes trace commits n s (Some (file, k))) skips h) ∙ behind

-- ---- behind the starts

not_same : (b : Bool) → (b ≡ true → ⊥) → b ≡ false
not_same true n = absurd (n refl)
not_same false n = refl

other_name : (a b : List ℕ) → bytes_eq a b ≡ false → bytes_eq b a ≡ false
other_name a b e = not_same (bytes_eq b a) (λ t. let k : true ≡ false = sym ((bytes_eq-Decides a b).1 (sym ((bytes_eq-Decides b a).0 t))) ∙ e in cc)

elsewhere : (commits : Option (List ℕ)) (file : List ℕ) (k : ℕ) → AreApart commits (Some (file, k)) → Elsewhere file commits
elsewhere None file k a = tt
elsewhere (Some other) file k a = other_name other file a

-- the file of a point has the bytes of the point of the state in which it was taken
pub left_point : (trace : Trace) (s : State) (most : ℕ) (commits : Option (List ℕ)) (file : List ℕ) (k : ℕ) → AreApart commits (Some (file, k)) → is_too_long trace s (unskipped most commits (Some (file, k))) ≡ false
    → text_in (ran trace (unskipped most commits (Some (file, k))) s).writes file ≡ Some (point_bytes (point_of (after trace (min k (limited s most)) s)))
left_point trace s most commits file k apart fits =
    let asked = unskipped most commits (Some (file, k)) in
    ap (λ l. text_in (l ++ starts_of asked) file) (journal_is trace s most commits file k)
    ∙ written_point trace s commits file (limited s most) k (starts_of asked) (elsewhere commits file k apart) (sym (short_is trace s most commits file k) ∙ fits) (named file [] (text_in (start_of commits) file))
