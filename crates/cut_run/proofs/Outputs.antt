-- What a cut run puts out, and the text of its commit file.
use Rattle.std.specs.Prelude.{◌≡◌, ◌≤◌, ◌-◌, ◌++◌, ◌||◌, ℕ, Bool, true, false, List, [], ◌∷◌, min, Option, Some, None, unwrap_or, bytes_eq, nat_lt, nat_le, if◌then◌else◌}
use Rattle.std.proofs.Common.{refl, sym, ap, ◌∙◌, subst, arith, append_assoc, append-nil}
use Rattle.std.specs.List.{flat_map}
use Rattle.std.proofs.lemmas.Bool.{leb-true}
use Rattle.event_trace.specs.declared.trace.Trace.{Trace}
use Rattle.event_trace.specs.declared.trace.Block.{Block}
use Rattle.journal.specs.Write.{Start, Append, Output, Journal, output_of}
use Rattle.journal.specs.Texts.{text_in}
use Rattle.journal.specs.Laws.{output_more}
use Rattle.sim_safe.specs.State.{State}
use Rattle.sim_safe.specs.Record.{Item}
use Rattle.sim_safe.specs.Run.{items_of, after}
use Rattle.sim_safe.specs.Commit.{line_of, blocks_of, onto, output_of as output_of_item, outputs_of, records_between, text_back, text_of, text_onto}
use Rattle.sim_watch.specs.Watch.{puts_of, is_short, left_of, piece_of, written_of, run_journal, TextAt}
use Rattle.sim_watch.specs.Skip.{record_blocks, skip_journal}
use Rattle.sim_watch.proofs.Texts.{run_outputs, named, text_puts, text_piece}
use Rattle.cut_run.specs.Parts.{is_large_at, point_writes, cut_writes, is_cut_short, skipped_writes, timed_writes}
use Rattle.cut_run.specs.Plan.{Asked, filtered, to_skip, timed_start, to_do, timed_items, skipped_point, timed_point, is_too_long, cut_journal, PointElsewhere}
use Rattle.cut_run.proofs.Rounds.{RunsGoOn, items_both}

-- the law that what is put out behind a skipped run is the output of its steps
abbrev pub SkipsPutOut : Type 0
SkipsPutOut = (trace : Trace) (n : ℕ) (s : State) → output_of (skip_journal trace n s) ≡ outputs_of (items_of trace n s)

outputs_append : (xs ys : List Item) → outputs_of (xs ++ ys) ≡ outputs_of xs ++ outputs_of ys
outputs_append [] ys = refl
outputs_append (x ∷ xs) ys = ap (λ t. output_of_item x ++ t) (outputs_append xs ys) ∙ sym (append_assoc (output_of_item x) (outputs_of xs) (outputs_of ys))

-- ---- the cut of a part lies in it

abbrev Within : ℕ → Option (List ℕ × ℕ) → Type 0
Within n None = Unit {0}
Within n (Some p) = p.1 ≤ n

-- ---- output of a part

-- runs of some steps put out what the steps emit
abbrev PutsOut : Trace → (ℕ → State → Journal) → Type 0
PutsOut trace writes = (n : ℕ) (s : State) → output_of (writes n s) ≡ outputs_of (items_of trace n s)

point_output : (large : Bool) (file bytes : List ℕ) → output_of (if large then [] else Append file bytes ∷ []) ≡ []
point_output true file bytes = refl
point_output false file bytes = refl

round_output : (first point rest : Journal) (a b : List ℕ) → output_of first ≡ a → output_of point ≡ [] → output_of rest ≡ b → output_of (rest ++ (point ++ first)) ≡ a ++ b
round_output first point rest a b e q f =
    output_more rest (point ++ first) ∙ ap (λ x. x ++ output_of rest) (output_more point first ∙ ap (λ x. output_of first ++ x) q ∙ append-nil (output_of first) ∙ e) ∙ ap (λ x. a ++ x) f

part_output : RunsGoOn → (trace : Trace) (writes : ℕ → State → Journal) → PutsOut trace writes → (n : ℕ) (s : State) (cut : Option (List ℕ × ℕ)) → Within n cut → is_cut_short trace s cut ≡ false
    → output_of (cut_writes writes trace n s cut) ≡ outputs_of (items_of trace n s)
part_output law trace writes puts n s None within fits = puts n s
part_output law trace writes puts n s (Some p) within fits =
    let k = p.1 in
    let t = after trace k s in
    ap (λ (b : Bool). output_of (if b then writes k s else writes (n - k) t ++ (point_writes t p.0 ++ writes k s))) fits
    ∙ round_output (writes k s) (point_writes t p.0) (writes (n - k) t) (outputs_of (items_of trace k s)) (outputs_of (items_of trace (n - k) t)) (puts k s) (point_output (is_large_at t) p.0 _) (puts (n - k) t)
    ∙ sym (outputs_append (items_of trace k s) (items_of trace (n - k) t)) ∙ ap outputs_of (sym (items_both law trace n k s t within refl))

-- ---- where the point lies

filtered_if : (b : Bool) (file : List ℕ) (at n : ℕ) → (b ≡ true → at ≤ n) → Within n (if b then Some (file, at) else None)
filtered_if true file at n h = h refl
filtered_if false file at n h = tt

filtered_within : (test : ℕ → Bool) (place : ℕ → ℕ) (n : ℕ) (p : Option (List ℕ × ℕ)) → ((at : ℕ) → test at ≡ true → place at ≤ n) → Within n (filtered test place p)
filtered_within test place n None h = tt
filtered_within test place n (Some p) h = filtered_if (test p.1) p.0 (place p.1) n (h p.1)

skipped_within : (trace : Trace) (s : State) (asked : Asked) → Within (to_skip trace s asked) (skipped_point trace s asked)
skipped_within trace s asked = filtered_within (λ at. nat_le at (to_skip trace s asked)) (λ at. at) (to_skip trace s asked) asked.point (λ at e. leb-true at (to_skip trace s asked) e)

timed_within : (trace : Trace) (s : State) (asked : Asked) → Within (to_do trace s asked) (timed_point trace s asked)
timed_within trace s asked =
    filtered_within (λ at. nat_lt (to_skip trace s asked) at) (λ at. min (at - to_skip trace s asked) (to_do trace s asked)) (to_do trace s asked) asked.point (λ at e. omega arith)

elsewhere_if : (b : Bool) (file other : List ℕ) (at : ℕ) → bytes_eq file other ≡ false → PointElsewhere file (if b then Some (other, at) else None)
elsewhere_if true file other at e = e
elsewhere_if false file other at e = tt

filtered_elsewhere : (test : ℕ → Bool) (place : ℕ → ℕ) (file : List ℕ) (p : Option (List ℕ × ℕ)) → PointElsewhere file p → PointElsewhere file (filtered test place p)
filtered_elsewhere test place file None e = tt
filtered_elsewhere test place file (Some p) e = elsewhere_if (test p.1) file p.0 (place p.1) e

neither : (a b : Bool) → (a || b) ≡ false → (a ≡ false) × (b ≡ false)
neither true b e = absurd cc
neither false b e = (refl, e)

-- ---- the output

pub cut_outputs : RunsGoOn → SkipsPutOut → (trace : Trace) (s : State) (asked : Asked) → is_too_long trace s asked ≡ false
    → output_of (cut_journal trace s asked) ≡ outputs_of (items_of trace (to_skip trace s asked) s) ++ outputs_of (timed_items trace s asked)
unfolding cut_journal
cut_outputs law skips trace s asked fits =
    let both = neither (is_cut_short trace s (skipped_point trace s asked)) (is_cut_short trace (timed_start trace s asked) (timed_point trace s asked)) fits in
    let first = skipped_writes trace (to_skip trace s asked) s (skipped_point trace s asked) in
    let rest = timed_writes trace asked.commits (to_do trace s asked) (timed_start trace s asked) (timed_point trace s asked) in
    ap (λ (b : Bool). output_of (if b then first else rest ++ first)) both.0 ∙ output_more rest first
    ∙ ap (λ x. x ++ output_of rest) (part_output law trace (skip_journal trace) (λ n t. skips trace n t) (to_skip trace s asked) s (skipped_point trace s asked) (skipped_within trace s asked) both.0)
    ∙ ap (λ x. outputs_of (items_of trace (to_skip trace s asked) s) ++ x)
    (part_output law trace (λ n t. run_journal asked.commits (items_of trace n t)) (λ n t. run_outputs asked.commits (items_of trace n t)) (to_do trace s asked) (timed_start trace s asked) (timed_point trace s asked) (timed_within trace s asked) both.1)

-- ---- the text

text_puts_none : (file : List ℕ) (blocks : List Block) (h : Journal) → text_in (puts_of blocks ++ h) file ≡ text_in h file
text_puts_none file [] h = refl
text_puts_none file (b ∷ bs) h = ap (λ l. text_in l file) (append_assoc (puts_of bs) (Output b.bytes ∷ []) h) ∙ text_puts_none file bs (Output b.bytes ∷ h)

text_skip : (file : List ℕ) (trace : Trace) (n : ℕ) (s : State) (h : Journal) → text_in (skip_journal trace n s ++ h) file ≡ text_in h file
unfolding skip_journal
text_skip file trace n s h = text_puts_none file (flat_map record_blocks (records_between s.used (after trace n s).used trace.records)) h

text_point : (file other bytes : List ℕ) (large : Bool) (h : Journal) → bytes_eq file other ≡ false → text_in ((if large then [] else Append other bytes ∷ []) ++ h) file ≡ text_in h file
text_point file other bytes true h e = refl
text_point file other bytes false h e = ap (λ (b : Bool). if b then Some (unwrap_or (text_in h file) [] ++ bytes) else text_in h file) e

text_at : (file : List ℕ) (was : Journal) (t : List ℕ) → text_in was file ≡ Some t → (h : List Item) → TextAt file ((written_of (Some file) [] h).journal ++ was) (written_of (Some file) [] h).pending (t ++ text_back h)
unfolding written_of
text_at file was t e [] = record { text = t; is = e; all = refl }
text_at file was t e (i ∷ h) =
    let w = written_of (Some file) [] h in
    let text = w.pending ++ line_of i in
    let puts = puts_of (blocks_of i) in
    let piece = piece_of file text in
    let q = text_piece (is_short text) file w.pending (line_of i) (t ++ text_back h) (puts ++ (w.journal ++ was)) (text_puts file (blocks_of i) (w.journal ++ was) w.pending (t ++ text_back h) (text_at file was t e h)) in
    subst (λ l. TextAt file l (left_of text) (t ++ (text_back h ++ line_of i))) (sym (append_assoc (piece ++ puts) w.journal was ∙ append_assoc piece puts (w.journal ++ was)))
    (subst (λ x. TextAt file (piece ++ (puts ++ (w.journal ++ was))) (left_of text) x) (append_assoc t (text_back h) (line_of i)) q)

-- a run adds its text to what a file has
text_run : (file : List ℕ) (was : Journal) (t : List ℕ) (is : List Item) → text_in was file ≡ Some t → text_in (run_journal (Some file) is ++ was) file ≡ Some (t ++ text_of is)
text_run file was t is e =
    let w = written_of (Some file) [] (onto is []) in
    let before = w.journal ++ was in
    let q = text_at file was t e (onto is []) in
    named file (unwrap_or (text_in before file) [] ++ w.pending) (text_in before file) ∙ ap (λ x. Some (unwrap_or x [] ++ w.pending)) q.is ∙ ap Some (q.all ∙ ap (λ x. t ++ x) (text_onto is []))

text_append : (xs ys : List Item) → text_of (xs ++ ys) ≡ text_of xs ++ text_of ys
text_append [] ys = refl
text_append (x ∷ xs) ys = ap (λ t. line_of x ++ t) (text_append xs ys) ∙ sym (append_assoc (line_of x) (text_of xs) (text_of ys))

round_apart : (first point rest was : Journal) → (rest ++ (point ++ first)) ++ was ≡ rest ++ (point ++ (first ++ was))
round_apart first point rest was = append_assoc rest (point ++ first) was ∙ ap (λ l. rest ++ l) (append_assoc point first was)

text_skipped : (file : List ℕ) (trace : Trace) (n : ℕ) (s : State) (cut : Option (List ℕ × ℕ)) (was : Journal) → PointElsewhere file cut → is_cut_short trace s cut ≡ false → text_in (skipped_writes trace n s cut ++ was) file ≡ text_in was file
text_skipped file trace n s None was e fits = text_skip file trace n s was
text_skipped file trace n s (Some p) was e fits =
    let k = p.1 in
    let t = after trace k s in
    ap (λ (b : Bool). text_in ((if b then skip_journal trace k s else skip_journal trace (n - k) t ++ (point_writes t p.0 ++ skip_journal trace k s)) ++ was) file) fits
    ∙ ap (λ l. text_in l file) (round_apart (skip_journal trace k s) (point_writes t p.0) (skip_journal trace (n - k) t) was) ∙ text_skip file trace (n - k) t (point_writes t p.0 ++ (skip_journal trace k s ++ was))
    ∙ text_point file p.0 _ (is_large_at t) (skip_journal trace k s ++ was) e ∙ text_skip file trace k s was

text_timed : RunsGoOn → (file : List ℕ) (trace : Trace) (n : ℕ) (s : State) (cut : Option (List ℕ × ℕ)) (was : Journal) (t : List ℕ) → Within n cut → PointElsewhere file cut → is_cut_short trace s cut ≡ false → text_in was file ≡ Some t
    → text_in (timed_writes trace (Some file) n s cut ++ was) file ≡ Some (t ++ text_of (items_of trace n s))
text_timed law file trace n s None was t within e fits is = text_run file was t (items_of trace n s) is
text_timed law file trace n s (Some p) was t within e fits is =
    let k = p.1 in
    let u = after trace k s in
    let one = items_of trace k s in
    let two = items_of trace (n - k) u in
    let first = run_journal (Some file) one in
    let rest = run_journal (Some file) two in
    let middle = text_point file p.0 _ (is_large_at u) (first ++ was) e ∙ text_run file was t one is in
    ap (λ (b : Bool). text_in ((if b then first else rest ++ (point_writes u p.0 ++ first)) ++ was) file) fits
    ∙ ap (λ l. text_in l file) (round_apart first (point_writes u p.0) rest was) ∙ text_run file (point_writes u p.0 ++ (first ++ was)) (t ++ text_of one) two middle
    ∙ ap Some (append_assoc t (text_of one) (text_of two) ∙ ap (λ x. t ++ x) (sym (text_append one two) ∙ ap text_of (sym (items_both law trace n k s u within refl))))

pub cut_text : RunsGoOn → (trace : Trace) (s : State) (asked : Asked) (file : List ℕ) → asked.commits ≡ Some file → PointElsewhere file asked.point → is_too_long trace s asked ≡ false
    → text_in (cut_journal trace s asked ++ Start file ∷ []) file ≡ Some (text_of (timed_items trace s asked))
unfolding cut_journal
cut_text law trace s asked file named_so apart fits =
    let both = neither (is_cut_short trace s (skipped_point trace s asked)) (is_cut_short trace (timed_start trace s asked) (timed_point trace s asked)) fits in
    let first = skipped_writes trace (to_skip trace s asked) s (skipped_point trace s asked) in
    let rest : Option (List ℕ) → Journal = λ commits. timed_writes trace commits (to_do trace s asked) (timed_start trace s asked) (timed_point trace s asked) in
    let start = Start file ∷ [] in
    let made : text_in start file ≡ Some [] = named file [] None in
    let before = text_skipped file trace (to_skip trace s asked) s (skipped_point trace s asked) start (filtered_elsewhere _ _ file asked.point apart) both.0 ∙ made in
    ap (λ (b : Bool). text_in ((if b then first else rest asked.commits ++ first) ++ start) file) both.0 ∙ ap (λ (c : Option (List ℕ)). text_in ((rest c ++ first) ++ start) file) named_so
    ∙ ap (λ l. text_in l file) (append_assoc (rest (Some file)) first start)
    ∙ text_timed law file trace (to_do trace s asked) (timed_start trace s asked) (timed_point trace s asked) (first ++ start) [] (timed_within trace s asked) (filtered_elsewhere _ _ file asked.point apart) both.1 before
