-- The text, the output and the report of a run's journal.
use Rattle.std.proofs.Common.{◌≡◌, ℕ, ◌++◌, Bool, true, false, List, [], ◌∷◌, Option, Some, None, refl, sym, ap, ◌∙◌, subst, append-nil, append_assoc}
use Rattle.std.specs.Prelude.{bytes_eq, if◌then◌else◌, unwrap_or}
use Rattle.event_trace.specs.declared.trace.Block.{Block}
use Rattle.sim_safe.specs.Record.{Item}
use Rattle.sim_safe.specs.Commit.{line_of, blocks_of, onto, block_bytes, output_of as output_of_item, outputs_back, outputs_of, outputs_onto, text_back, text_of, text_onto}
use Rattle.std.specs.List.{flat_map}
use Rattle.sim_watch.specs.Watch.{puts_of, is_short, left_of, piece_of, piece_with, writes_of, written_of, last_piece, run_journal, TextAt}
use Rattle.journal.specs.Write.{output_of, report_of, Journal, Start, Append, Output}
use Rattle.journal.specs.Texts.{text_in}
use Rattle.journal.specs.Fronts.{same_name}
use Rattle.journal.specs.Laws.{output_more, report_more}

-- ---- the output

pub puts_output : (blocks : List Block) → output_of (puts_of blocks) ≡ flat_map block_bytes blocks
puts_output [] = refl
puts_output (b ∷ bs) = output_more (puts_of bs) (Output b.bytes ∷ []) ∙ ap (λ x. b.bytes ++ x) (puts_output bs)

piece_output : (short : Bool) (file text : List ℕ) → output_of (if short then [] else Append file text ∷ []) ≡ []
piece_output true file text = refl
piece_output false file text = refl

pub with_output : (file : Option (List ℕ)) (was line : List ℕ) → output_of (piece_with file was line) ≡ []
with_output None was line = refl
with_output (Some file) was line = piece_output (is_short (was ++ line)) file (was ++ line)

pub item_output : (file : Option (List ℕ)) (was : List ℕ) (i : Item) → output_of (writes_of file was i) ≡ output_of_item i
item_output file was i =
    output_more (piece_with file was (line_of i)) (puts_of (blocks_of i)) ∙ ap (λ x. output_of (puts_of (blocks_of i)) ++ x) (with_output file was (line_of i)) ∙ append-nil (output_of (puts_of (blocks_of i))) ∙ puts_output (blocks_of i)

pub written_output : (file : Option (List ℕ)) (was : List ℕ) (h : List Item) → output_of (written_of file was h).journal ≡ outputs_back h
unfolding written_of
written_output file was [] = refl
written_output file was (i ∷ h) =
    let w = written_of file was h in
    output_more (writes_of file w.pending i) w.journal ∙ ap (λ x. x ++ output_of (writes_of file w.pending i)) (written_output file was h) ∙ ap (λ x. outputs_back h ++ x) (item_output file w.pending i)

pub written_outputs : (file : Option (List ℕ)) (is : List Item) → output_of (written_of file [] (onto is [])).journal ≡ outputs_of is
written_outputs file is = written_output file [] (onto is []) ∙ outputs_onto is []

pub last_output : (file : Option (List ℕ)) (pending : List ℕ) → output_of (last_piece file pending) ≡ []
last_output None pending = refl
last_output (Some file) pending = refl

-- the output of a run is that of its items
pub run_outputs : (file : Option (List ℕ)) (is : List Item) → output_of (run_journal file is) ≡ outputs_of is
run_outputs file is =
    let w = written_of file [] (onto is []) in
    output_more (last_piece file w.pending) w.journal ∙ ap (λ x. output_of w.journal ++ x) (last_output file w.pending) ∙ append-nil (output_of w.journal) ∙ written_outputs file is

pub run_output : (file other : Option (List ℕ)) (is : List Item) → output_of (run_journal file is) ≡ output_of (run_journal other is)
run_output file other is = run_outputs file is ∙ sym (run_outputs other is)

-- ---- no report

puts_report : (blocks : List Block) → report_of (puts_of blocks) ≡ []
puts_report [] = refl
puts_report (b ∷ bs) = report_more (puts_of bs) (Output b.bytes ∷ []) ∙ puts_report bs

piece_report : (short : Bool) (file text : List ℕ) → report_of (if short then [] else Append file text ∷ []) ≡ []
piece_report true file text = refl
piece_report false file text = refl

pub with_report : (file : Option (List ℕ)) (was line : List ℕ) → report_of (piece_with file was line) ≡ []
with_report None was line = refl
with_report (Some file) was line = piece_report (is_short (was ++ line)) file (was ++ line)

pub both_empty : (x y z : List ℕ) → z ≡ x ++ y → x ≡ [] → y ≡ [] → z ≡ []
both_empty x y z e f g = e ∙ ap (λ l. l ++ y) f ∙ g

pub item_report : (file : Option (List ℕ)) (was : List ℕ) (i : Item) → report_of (writes_of file was i) ≡ []
item_report file was i =
    both_empty (report_of (puts_of (blocks_of i))) (report_of (piece_with file was (line_of i))) (report_of (writes_of file was i)) (report_more (piece_with file was (line_of i)) (puts_of (blocks_of i))) (puts_report (blocks_of i)) (with_report file was (line_of i))

written_report : (file : Option (List ℕ)) (was : List ℕ) (h : List Item) → report_of (written_of file was h).journal ≡ []
unfolding written_of
written_report file was [] = refl
written_report file was (i ∷ h) =
    let w = written_of file was h in
    both_empty (report_of w.journal) (report_of (writes_of file w.pending i)) (report_of (writes_of file w.pending i ++ w.journal)) (report_more (writes_of file w.pending i) w.journal) (written_report file was h) (item_report file w.pending i)

pub last_report : (file : Option (List ℕ)) (pending : List ℕ) → report_of (last_piece file pending) ≡ []
last_report None pending = refl
last_report (Some file) pending = refl

-- a run reports nothing by itself
pub run_report : (file : Option (List ℕ)) (is : List Item) → report_of (run_journal file is) ≡ []
run_report file is =
    let w = written_of file [] (onto is []) in
    both_empty (report_of w.journal) (report_of (last_piece file w.pending)) (report_of (run_journal file is)) (report_more (last_piece file w.pending) w.journal) (written_report file [] (onto is [])) (last_report file w.pending)

-- ---- the text

pub named : (file x : List ℕ) (y : Option (List ℕ)) → (if bytes_eq file file then Some x else y) ≡ Some x
named file x y = ap (λ (b : Bool). if b then Some x else y) (same_name file)

pub text_puts : (file : List ℕ) (blocks : List Block) (h : Journal) (pending whole : List ℕ) → TextAt file h pending whole → TextAt file (puts_of blocks ++ h) pending whole
text_puts file [] h pending whole q = q
text_puts file (b ∷ bs) h pending whole q =
    subst (λ l. TextAt file l pending whole) (sym (append_assoc (puts_of bs) (Output b.bytes ∷ []) h)) (text_puts file bs (Output b.bytes ∷ h) pending whole (record { text = q.text; is = q.is; all = q.all }))

pub text_piece : (short : Bool) (file pending line whole : List ℕ) (h : Journal) → TextAt file h pending whole
    → TextAt file ((if short then [] else Append file (pending ++ line) ∷ []) ++ h) (if short then pending ++ line else []) (whole ++ line)
text_piece true file pending line whole h q = record { text = q.text; is = q.is; all = sym (append_assoc q.text pending line) ∙ ap (λ l. l ++ line) q.all }
text_piece false file pending line whole h q = record {
  text = q.text ++ (pending ++ line);
  is = named file (unwrap_or (text_in h file) [] ++ (pending ++ line)) (text_in h file) ∙ ap (λ x. Some (unwrap_or x [] ++ (pending ++ line))) q.is;
  all = append-nil (q.text ++ (pending ++ line)) ∙ sym (append_assoc q.text pending line) ∙ ap (λ l. l ++ line) q.all;
}

text_at : (file : List ℕ) (h : List Item) → TextAt file ((written_of (Some file) [] h).journal ++ Start file ∷ []) (written_of (Some file) [] h).pending (text_back h)
unfolding written_of
text_at file [] = record { text = []; is = named file [] None; all = refl }
text_at file (i ∷ h) =
    let w = written_of (Some file) [] h in
    let start = Start file ∷ [] in
    let text = w.pending ++ line_of i in
    let puts = puts_of (blocks_of i) in
    let piece = piece_of file text in
    let q = text_piece (is_short text) file w.pending (line_of i) (text_back h) (puts ++ (w.journal ++ start)) (text_puts file (blocks_of i) (w.journal ++ start) w.pending (text_back h) (text_at file h)) in
    subst (λ l. TextAt file l (left_of text) (text_back h ++ line_of i)) (sym (append_assoc (piece ++ puts) w.journal start ∙ append_assoc piece puts (w.journal ++ start))) q

-- a file that was made empty before a run holds its text
pub run_text : (file : List ℕ) (is : List Item) → text_in (run_journal (Some file) is ++ Start file ∷ []) file ≡ Some (text_of is)
run_text file is =
    let w = written_of (Some file) [] (onto is []) in
    let before = w.journal ++ Start file ∷ [] in
    let q = text_at file (onto is []) in
    named file (unwrap_or (text_in before file) [] ++ w.pending) (text_in before file) ∙ ap (λ x. Some (unwrap_or x [] ++ w.pending)) q.is ∙ ap Some (q.all ∙ text_onto is [])
