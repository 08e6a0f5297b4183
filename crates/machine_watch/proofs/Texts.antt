-- The texts, the output and the report of what is written, and how much is pending.
use Rattle.std.specs.Prelude.{◌≡◌, ◌++◌, ◌<◌, ℕ, Bool, true, false, List, [], ◌∷◌, length, Option, Some, None, bytes_eq, if◌then◌else◌, unwrap_or}
use Rattle.std.proofs.Common.{refl, sym, ap, ◌∙◌, subst, append-nil, append_assoc, arith}
use Rattle.std.proofs.lemmas.Bool.Decides.{nat_tests}
use Rattle.std.proofs.lemmas.Slice.Eq.{bytes_eq-Decides}
use Rattle.event_trace.specs.declared.trace.Block.{Block}
use Rattle.journal.specs.Write.{Journal, Append, Output, output_of, report_of}
use Rattle.journal.specs.Texts.{text_in}
use Rattle.journal.specs.Laws.{output_more, report_more}
use Rattle.sim_safe.specs.Record.{Item}
use Rattle.sim_safe.specs.Commit.{line_of, blocks_of, output_of as output_of_item, outputs_back, outputs_of, text_back, text_of}
use Rattle.sim_watch.specs.Watch.{TextAt, is_short, last_piece, left_of as left_of_text, left_with, piece_of, piece_with, puts_of, writes_of as writes_of_item}
use Rattle.sim_watch.proofs.Texts.{named, text_puts, text_piece, with_output, item_output, last_output, both_empty, with_report, item_report, last_report}
use Rattle.ooo_table.specs.declared.event.EndWord.{EndWord}
use Rattle.pipetrace.specs.Text.{end_line, event_text, events_text}
use Rattle.core_watch.specs.Shown.{Shown, Happened, Committed, behind}
use Rattle.core_watch.specs.Items.{events_among}
use Rattle.machine_watch.specs.Watch.{Names, Pending, nothing_pending, written_of, run_journal}
use Rattle.machine_watch.specs.Texts.{IsShort, commits_among}

-- ---- writes to another file

false_if : (b : Bool) → (b ≡ true → ⊥) → b ≡ false
false_if true n = absurd (n refl)
false_if false n = refl

apart : (a b : List ℕ) → (Some b ≡ Some a → ⊥) → bytes_eq a b ≡ false
apart a b n = false_if (bytes_eq a b) (λ e. n (ap Some (sym ((bytes_eq-Decides a b).0 e))))

other_append : (file other bytes : List ℕ) (h : Journal) → (Some other ≡ Some file → ⊥) → text_in (Append other bytes ∷ h) file ≡ text_in h file
other_append file other bytes h n = ap (λ (b : Bool). if b then Some (unwrap_or (text_in h file) [] ++ bytes) else text_in h file) (apart file other n)

other_if : (short : Bool) (file other bytes : List ℕ) (h : Journal) → (Some other ≡ Some file → ⊥) → text_in ((if short then [] else Append other bytes ∷ []) ++ h) file ≡ text_in h file
other_if true file other bytes h n = refl
other_if false file other bytes h n = other_append file other bytes h n

other_piece : (file : List ℕ) (other : Option (List ℕ)) (was line : List ℕ) (h : Journal) → (other ≡ Some file → ⊥) → text_in (piece_with other was line ++ h) file ≡ text_in h file
other_piece file None was line h n = refl
other_piece file (Some other) was line h n = other_if (is_short (was ++ line)) file other (was ++ line) h n

other_last : (file : List ℕ) (other : Option (List ℕ)) (bytes : List ℕ) (h : Journal) → (other ≡ Some file → ⊥) → text_in (last_piece other bytes ++ h) file ≡ text_in h file
other_last file None bytes h n = refl
other_last file (Some other) bytes h n = other_append file other bytes h n

other_puts : (file : List ℕ) (blocks : List Block) (h : Journal) → text_in (puts_of blocks ++ h) file ≡ text_in h file
other_puts file [] h = refl
other_puts file (b ∷ bs) h =
    ap (λ k. text_in k file) (append_assoc (puts_of bs) (Output b.bytes ∷ []) h) ∙ other_puts file bs (Output b.bytes ∷ h)

-- the blocks of a commit, and its line, to another file
other_item : (file : List ℕ) (other : Option (List ℕ)) (was : List ℕ) (did : Item) (h : Journal) → (other ≡ Some file → ⊥) → text_in (writes_of_item other was did ++ h) file ≡ text_in h file
other_item file other was did h n =
    ap (λ k. text_in k file) (append_assoc (piece_with other was (line_of did)) (puts_of (blocks_of did)) h)
    ∙ other_piece file other was (line_of did) (puts_of (blocks_of did) ++ h) n
    ∙ other_puts file (blocks_of did) h

-- a file that gets nothing has what it had
same_text : (file : List ℕ) (h k : Journal) (pending whole : List ℕ) → text_in k file ≡ text_in h file → TextAt file h pending whole → TextAt file k pending whole
same_text file h k pending whole e q = record { text = q.text; is = e ∙ q.is; all = q.all }

-- what further writes come to
text_joined : (file : List ℕ) (next done before : Journal) (pending whole all : List ℕ) → whole ≡ all → TextAt file (next ++ (done ++ before)) pending whole → TextAt file ((next ++ done) ++ before) pending all
text_joined file next done before pending whole all e q =
    subst (λ (k : Journal). TextAt file k pending all) (sym (append_assoc next done before)) (subst (λ (x : List ℕ). TextAt file (next ++ (done ++ before)) pending x) e q)

-- ---- histories have their texts

-- the cycle of the newest event, and the text of all events
abbrev pub last_back : Option ℕ → List Shown → Option ℕ
last_back last [] = last
last_back last (Happened e ∷ h) = Some e.cycle
last_back last (Committed did ∷ h) = last_back last h

abbrev pub events_back : Option ℕ → List Shown → List ℕ
events_back last [] = []
events_back last (Happened e ∷ h) = events_back last h ++ event_text (last_back last h) e
events_back last (Committed did ∷ h) = events_back last h

last_is : (names : Names) (was : Pending) (h : List Shown) → (written_of names was h).pending.last ≡ last_back was.last h
unfolding written_of
last_is names was [] = refl
last_is names was (Happened e ∷ h) = refl
last_is names was (Committed did ∷ h) = last_is names was h

abbrev to_commits : List ℕ → Option (List ℕ) → Names
to_commits file other = record { commits = Some file; ptrace = other }

abbrev to_ptrace : List ℕ → Option (List ℕ) → Names
to_ptrace file other = record { commits = other; ptrace = Some file }

commit_line_at : (file was whole : List ℕ) (did : Item) (h : Journal) → TextAt file h was whole → TextAt file (writes_of_item (Some file) was did ++ h) (left_with (Some file) was (line_of did)) (whole ++ line_of did)
commit_line_at file was whole did h q =
    let text = was ++ line_of did in
    let puts = puts_of (blocks_of did) in
    let piece = piece_of file text in
    let p = text_piece (is_short text) file was (line_of did) whole (puts ++ h) (text_puts file (blocks_of did) h was whole q) in
    subst (λ (k : Journal). TextAt file k (left_of_text text) (whole ++ line_of did)) (sym (append_assoc piece puts h)) p

pub lines_at : (file : List ℕ) (other : Option (List ℕ)) (before : Journal) (was : Pending) (whole : List ℕ) → (other ≡ Some file → ⊥) → TextAt file before was.lines whole → (h : List Shown)
    → TextAt file ((written_of (to_commits file other) was h).journal ++ before) (written_of (to_commits file other) was h).pending.lines (whole ++ text_back (commits_among h))
unfolding written_of
lines_at file other before was whole n q [] = subst (λ (x : List ℕ). TextAt file before was.lines x) (sym (append-nil whole)) q
lines_at file other before was whole n q (Happened e ∷ h) =
    let w = written_of (to_commits file other) was h in
    let text = event_text w.pending.last e in
    let all = whole ++ text_back (commits_among h) in
    text_joined file (piece_with other w.pending.text text) w.journal before w.pending.lines all all refl
    (same_text file (w.journal ++ before) (piece_with other w.pending.text text ++ (w.journal ++ before)) w.pending.lines all (other_piece file other w.pending.text text (w.journal ++ before) n)
    (lines_at file other before was whole n q h))
lines_at file other before was whole n q (Committed did ∷ h) =
    let w = written_of (to_commits file other) was h in
    let so_far = text_back (commits_among h) in
    text_joined file (writes_of_item (Some file) w.pending.lines did) w.journal before (left_with (Some file) w.pending.lines (line_of did)) ((whole ++ so_far) ++ line_of did) (whole ++ (so_far ++ line_of did))
    (append_assoc whole so_far (line_of did))
    (commit_line_at file w.pending.lines (whole ++ so_far) did (w.journal ++ before) (lines_at file other before was whole n q h))

pub text_at : (file : List ℕ) (other : Option (List ℕ)) (before : Journal) (was : Pending) (whole : List ℕ) → (other ≡ Some file → ⊥) → TextAt file before was.text whole → (h : List Shown)
    → TextAt file ((written_of (to_ptrace file other) was h).journal ++ before) (written_of (to_ptrace file other) was h).pending.text (whole ++ events_back was.last h)
unfolding written_of
text_at file other before was whole n q [] = subst (λ (x : List ℕ). TextAt file before was.text x) (sym (append-nil whole)) q
text_at file other before was whole n q (Happened e ∷ h) =
    let names = to_ptrace file other in
    let w = written_of names was h in
    let so_far = events_back was.last h in
    let line = event_text w.pending.last e in
    let text = w.pending.text ++ line in
    text_joined file (piece_of file text) w.journal before (left_of_text text) ((whole ++ so_far) ++ line) (whole ++ (so_far ++ event_text (last_back was.last h) e))
    (append_assoc whole so_far line ∙ ap (λ l. whole ++ (so_far ++ event_text l e)) (last_is names was h))
    (text_piece (is_short text) file w.pending.text line (whole ++ so_far) (w.journal ++ before) (text_at file other before was whole n q h))
text_at file other before was whole n q (Committed did ∷ h) =
    let w = written_of (to_ptrace file other) was h in
    let all = whole ++ events_back was.last h in
    text_joined file (writes_of_item other w.pending.lines did) w.journal before w.pending.text all all refl
    (same_text file (w.journal ++ before) (writes_of_item other w.pending.lines did ++ (w.journal ++ before)) w.pending.text all (other_item file other w.pending.lines did (w.journal ++ before) n)
    (text_at file other before was whole n q h))

-- ---- what is shown, the oldest first

pub texts_behind : (xs h : List Shown) → text_back (commits_among (behind xs h)) ≡ text_back (commits_among h) ++ text_of (commits_among xs)
texts_behind [] h = sym (append-nil (text_back (commits_among h)))
texts_behind (Happened e ∷ xs) h = texts_behind xs (Happened e ∷ h)
texts_behind (Committed did ∷ xs) h = texts_behind xs (Committed did ∷ h) ∙ append_assoc (text_back (commits_among h)) (line_of did) (text_of (commits_among xs))

pub outputs_behind : (xs h : List Shown) → outputs_back (commits_among (behind xs h)) ≡ outputs_back (commits_among h) ++ outputs_of (commits_among xs)
outputs_behind [] h = sym (append-nil (outputs_back (commits_among h)))
outputs_behind (Happened e ∷ xs) h = outputs_behind xs (Happened e ∷ h)
outputs_behind (Committed did ∷ xs) h = outputs_behind xs (Committed did ∷ h) ∙ append_assoc (outputs_back (commits_among h)) (output_of_item did) (outputs_of (commits_among xs))

pub events_behind : (last : Option ℕ) (xs h : List Shown) → events_back last (behind xs h) ≡ events_back last h ++ events_text (last_back last h) (events_among xs)
events_behind last [] h = sym (append-nil (events_back last h))
events_behind last (Happened e ∷ xs) h =
    events_behind last xs (Happened e ∷ h) ∙ append_assoc (events_back last h) (event_text (last_back last h) e) (events_text (Some e.cycle) (events_among xs))
events_behind last (Committed did ∷ xs) h = events_behind last xs (Committed did ∷ h)

-- ---- so far

from_text : (file : List ℕ) (before : Journal) (text : List ℕ) → text_in before file ≡ Some text → TextAt file before [] text
from_text file before text e = record { text = text; is = e; all = append-nil text }

pub lines_so_far : (file : List ℕ) (other : Option (List ℕ)) (before : Journal) (text : List ℕ) (xs : List Shown) → (other ≡ Some file → ⊥) → text_in before file ≡ Some text
    → TextAt file ((written_of (to_commits file other) nothing_pending (behind xs [])).journal ++ before) (written_of (to_commits file other) nothing_pending (behind xs [])).pending.lines (text ++ text_of (commits_among xs))
lines_so_far file other before text xs n e =
    let w = written_of (to_commits file other) nothing_pending (behind xs []) in
    subst (λ (x : List ℕ). TextAt file (w.journal ++ before) w.pending.lines (text ++ x)) (texts_behind xs []) (lines_at file other before nothing_pending text n (from_text file before text e) (behind xs []))

pub text_so_far : (file : List ℕ) (other : Option (List ℕ)) (before : Journal) (text : List ℕ) (xs : List Shown) → (other ≡ Some file → ⊥) → text_in before file ≡ Some text
    → TextAt file ((written_of (to_ptrace file other) nothing_pending (behind xs [])).journal ++ before) (written_of (to_ptrace file other) nothing_pending (behind xs [])).pending.text (text ++ events_text None (events_among xs))
text_so_far file other before text xs n e =
    let w = written_of (to_ptrace file other) nothing_pending (behind xs []) in
    subst (λ (x : List ℕ). TextAt file (w.journal ++ before) w.pending.text (text ++ x)) (events_behind None xs []) (text_at file other before nothing_pending text n (from_text file before text e) (behind xs []))

-- ---- in the end

-- the rest is written
text_last : (file : List ℕ) (h : Journal) (pending rest whole all : List ℕ) → TextAt file h pending whole → whole ++ rest ≡ all → text_in (Append file (pending ++ rest) ∷ h) file ≡ Some all
text_last file h pending rest whole all q e =
    named file (unwrap_or (text_in h file) [] ++ (pending ++ rest)) (text_in h file)
    ∙ ap (λ x. Some (unwrap_or x [] ++ (pending ++ rest))) q.is
    ∙ ap Some (sym (append_assoc q.text pending rest) ∙ ap (λ l. l ++ rest) q.all ∙ e)

end_joined : (last first done before : Journal) → ((last ++ first) ++ done) ++ before ≡ last ++ (first ++ (done ++ before))
end_joined last first done before = append_assoc (last ++ first) done before ∙ append_assoc last first (done ++ before)

pub run_lines : (file : List ℕ) (other : Option (List ℕ)) (before : Journal) (text : List ℕ) (xs : List Shown) (cycles : ℕ) (end : EndWord) → (other ≡ Some file → ⊥) → text_in before file ≡ Some text
    → text_in (run_journal (to_commits file other) xs cycles end ++ before) file ≡ Some (text ++ text_of (commits_among xs))
run_lines file other before text xs cycles end n e =
    let w = written_of (to_commits file other) nothing_pending (behind xs []) in
    let rest = w.pending.text ++ end_line cycles end in
    let all = text ++ text_of (commits_among xs) in
    ap (λ (k : Journal). text_in k file) (end_joined (last_piece other rest) (Append file w.pending.lines ∷ []) w.journal before)
    ∙ other_last file other rest (Append file w.pending.lines ∷ (w.journal ++ before)) n
    ∙ ap (λ (l : List ℕ). text_in (Append file l ∷ (w.journal ++ before)) file) (sym (append-nil w.pending.lines))
    ∙ text_last file (w.journal ++ before) w.pending.lines [] all all (lines_so_far file other before text xs n e) (append-nil all)

pub run_ptrace : (file : List ℕ) (other : Option (List ℕ)) (before : Journal) (text : List ℕ) (xs : List Shown) (cycles : ℕ) (end : EndWord) → (other ≡ Some file → ⊥) → text_in before file ≡ Some text
    → text_in (run_journal (to_ptrace file other) xs cycles end ++ before) file ≡ Some (text ++ (events_text None (events_among xs) ++ end_line cycles end))
run_ptrace file other before text xs cycles end n e =
    let w = written_of (to_ptrace file other) nothing_pending (behind xs []) in
    let first = last_piece other w.pending.lines in
    let events = events_text None (events_among xs) in
    let done = first ++ (w.journal ++ before) in
    let q = same_text file (w.journal ++ before) done w.pending.text (text ++ events) (other_last file other w.pending.lines (w.journal ++ before) n) (text_so_far file other before text xs n e) in
    ap (λ (k : Journal). text_in k file) (end_joined (Append file (w.pending.text ++ end_line cycles end) ∷ []) first w.journal before)
    ∙ text_last file done w.pending.text (end_line cycles end) (text ++ events) (text ++ (events ++ end_line cycles end)) q (append_assoc text events (end_line cycles end))

-- ---- other files

written_other : (file : List ℕ) (names : Names) (before : Journal) (was : Pending) (h : List Shown) → (names.commits ≡ Some file → ⊥) → (names.ptrace ≡ Some file → ⊥)
    → text_in ((written_of names was h).journal ++ before) file ≡ text_in before file
unfolding written_of
written_other file names before was [] n m = refl
written_other file names before was (Happened e ∷ h) n m =
    let w = written_of names was h in
    let text = event_text w.pending.last e in
    ap (λ (k : Journal). text_in k file) (append_assoc (piece_with names.ptrace w.pending.text text) w.journal before)
    ∙ other_piece file names.ptrace w.pending.text text (w.journal ++ before) m
    ∙ written_other file names before was h n m
written_other file names before was (Committed did ∷ h) n m =
    let w = written_of names was h in
    ap (λ (k : Journal). text_in k file) (append_assoc (writes_of_item names.commits w.pending.lines did) w.journal before)
    ∙ other_item file names.commits w.pending.lines did (w.journal ++ before) n
    ∙ written_other file names before was h n m

pub run_other : (file : List ℕ) (names : Names) (before : Journal) (xs : List Shown) (cycles : ℕ) (end : EndWord) → (names.commits ≡ Some file → ⊥) → (names.ptrace ≡ Some file → ⊥)
    → text_in (run_journal names xs cycles end ++ before) file ≡ text_in before file
run_other file names before xs cycles end n m =
    let w = written_of names nothing_pending (behind xs []) in
    let rest = w.pending.text ++ end_line cycles end in
    ap (λ (k : Journal). text_in k file) (end_joined (last_piece names.ptrace rest) (last_piece names.commits w.pending.lines) w.journal before)
    ∙ other_last file names.ptrace rest (last_piece names.commits w.pending.lines ++ (w.journal ++ before)) m
    ∙ other_last file names.commits w.pending.lines (w.journal ++ before) n
    ∙ written_other file names before nothing_pending (behind xs []) n m

-- ---- the output

then_nothing : (x y z p : List ℕ) → z ≡ x ++ y → x ≡ p → y ≡ [] → z ≡ p
then_nothing x y z p e f g = e ∙ ap (λ l. l ++ y) f ∙ ap (λ l. p ++ l) g ∙ append-nil p

then_more : (x y z p q : List ℕ) → z ≡ x ++ y → x ≡ p → y ≡ q → z ≡ p ++ q
then_more x y z p q e f g = e ∙ ap (λ l. l ++ y) f ∙ ap (λ l. p ++ l) g

pub written_output : (names : Names) (was : Pending) (h : List Shown) → output_of (written_of names was h).journal ≡ outputs_back (commits_among h)
unfolding written_of
written_output names was [] = refl
written_output names was (Happened e ∷ h) =
    let w = written_of names was h in
    let next = piece_with names.ptrace w.pending.text (event_text w.pending.last e) in
    then_nothing (output_of w.journal) (output_of next) (output_of (next ++ w.journal)) (outputs_back (commits_among h)) (output_more next w.journal) (written_output names was h) (with_output names.ptrace w.pending.text (event_text w.pending.last e))
written_output names was (Committed did ∷ h) =
    let w = written_of names was h in
    let next = writes_of_item names.commits w.pending.lines did in
    then_more (output_of w.journal) (output_of next) (output_of (next ++ w.journal)) (outputs_back (commits_among h)) (output_of_item did) (output_more next w.journal) (written_output names was h) (item_output names.commits w.pending.lines did)

pub run_output : (names : Names) (xs : List Shown) (cycles : ℕ) (end : EndWord) → output_of (run_journal names xs cycles end) ≡ outputs_of (commits_among xs)
run_output names xs cycles end =
    let w = written_of names nothing_pending (behind xs []) in
    let last = last_piece names.ptrace (w.pending.text ++ end_line cycles end) in
    let first = last_piece names.commits w.pending.lines in
    then_nothing (output_of w.journal) (output_of (last ++ first)) (output_of ((last ++ first) ++ w.journal)) (outputs_of (commits_among xs)) (output_more (last ++ first) w.journal)
    (written_output names nothing_pending (behind xs []) ∙ outputs_behind xs [])
    (then_nothing (output_of first) (output_of last) (output_of (last ++ first)) [] (output_more last first) (last_output names.commits w.pending.lines) (last_output names.ptrace (w.pending.text ++ end_line cycles end)))

-- ---- no report

written_report : (names : Names) (was : Pending) (h : List Shown) → report_of (written_of names was h).journal ≡ []
unfolding written_of
written_report names was [] = refl
written_report names was (Happened e ∷ h) =
    let w = written_of names was h in
    let next = piece_with names.ptrace w.pending.text (event_text w.pending.last e) in
    both_empty (report_of w.journal) (report_of next) (report_of (next ++ w.journal)) (report_more next w.journal) (written_report names was h) (with_report names.ptrace w.pending.text (event_text w.pending.last e))
written_report names was (Committed did ∷ h) =
    let w = written_of names was h in
    let next = writes_of_item names.commits w.pending.lines did in
    both_empty (report_of w.journal) (report_of next) (report_of (next ++ w.journal)) (report_more next w.journal) (written_report names was h) (item_report names.commits w.pending.lines did)

pub run_report : (names : Names) (xs : List Shown) (cycles : ℕ) (end : EndWord) → report_of (run_journal names xs cycles end) ≡ []
run_report names xs cycles end =
    let w = written_of names nothing_pending (behind xs []) in
    let last = last_piece names.ptrace (w.pending.text ++ end_line cycles end) in
    let first = last_piece names.commits w.pending.lines in
    both_empty (report_of w.journal) (report_of (last ++ first)) (report_of ((last ++ first) ++ w.journal)) (report_more (last ++ first) w.journal) (written_report names nothing_pending (behind xs []))
    (both_empty (report_of first) (report_of last) (report_of (last ++ first)) (report_more last first) (last_report names.commits w.pending.lines) (last_report names.ptrace (w.pending.text ++ end_line cycles end)))

-- ---- how much is pending

short_told : (text : List ℕ) → is_short text ≡ true → length text < 65536
short_told text e = grind (arith, nat_tests)

short_if : (b : Bool) (text : List ℕ) → (b ≡ true → length text < 65536) → length (if b then text else []) < 65536
short_if true text f = f refl
short_if false text f = omega arith

short_with : (file : Option (List ℕ)) (was line : List ℕ) → length was < 65536 → length (left_with file was line) < 65536
short_with None was line s = s
short_with (Some file) was line s = short_if (is_short (was ++ line)) (was ++ line) (short_told (was ++ line))

pub stays_short : (names : Names) (was : Pending) (h : List Shown) → IsShort was → IsShort (written_of names was h).pending
unfolding written_of
stays_short names was [] s = s
stays_short names was (Happened e ∷ h) s =
    let w = written_of names was h in
    let q = stays_short names was h s in
    record { lines = q.lines; text = short_with names.ptrace w.pending.text (event_text w.pending.last e) q.text }
stays_short names was (Committed did ∷ h) s =
    let w = written_of names was h in
    let q = stays_short names was h s in
    record { lines = short_with names.commits w.pending.lines (line_of did) q.lines; text = q.text }

pub little_pending : (names : Names) (h : List Shown) → IsShort (written_of names nothing_pending h).pending
little_pending names h = stays_short names nothing_pending h (record { lines = omega arith; text = omega arith })
