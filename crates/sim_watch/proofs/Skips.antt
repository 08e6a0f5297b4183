-- What is put out behind a skipped run, record by record.
use Rattle.std.specs.Prelude.{◌≡◌, ◌<◌, ◌+◌, ◌++◌, ℕ, List, [], ◌∷◌, length}
use Rattle.std.specs.List.{flat_map}
use Rattle.std.proofs.Common.{refl, sym, ap, ◌∙◌, subst, take, drop, get_or, append_assoc, append-nil}
use Rattle.std.proofs.lemmas.List.{take_more, take-append-drop}
use Rattle.event_trace.specs.declared.trace.Block.{Block}
use Rattle.event_trace.specs.declared.trace.Record.{Record}
use Rattle.event_trace.specs.declared.trace.Trace.{Trace}
use Rattle.journal.specs.declared.fault.Fault.{Fault}
use Rattle.journal.specs.Write.{output_of}
use Rattle.journal.specs.View.{View, Wrote, Cut}
use Rattle.journal.specs.Laws.{wrote_more, cut_more, cut_within}
use Rattle.sim_safe.specs.State.{State}
use Rattle.sim_safe.specs.Commit.{block_bytes, record_output, emitted_by, outputs_of, records_between}
use Rattle.sim_safe.specs.Run.{items_of, after}
use Rattle.sim_watch.specs.Watch.{puts_of}
use Rattle.sim_watch.specs.Skip.{record_blocks, records_journal, skip_journal}
use Rattle.sim_watch.proofs.Items.{puts_more}
use Rattle.sim_watch.proofs.Texts.{puts_output}

bytes_more : (xs ys : List Block) → flat_map block_bytes (xs ++ ys) ≡ flat_map block_bytes xs ++ flat_map block_bytes ys
bytes_more [] ys = refl
bytes_more (x ∷ xs) ys = ap (λ l. x.bytes ++ l) (bytes_more xs ys) ∙ sym (append_assoc x.bytes (flat_map block_bytes xs) (flat_map block_bytes ys))

blocks_more : (xs ys : List Record) → flat_map record_blocks (xs ++ ys) ≡ flat_map record_blocks xs ++ flat_map record_blocks ys
blocks_more [] ys = refl
blocks_more (x ∷ xs) ys = ap (λ l. record_blocks x ++ l) (blocks_more xs ys) ∙ sym (append_assoc (record_blocks x) (flat_map record_blocks xs) (flat_map record_blocks ys))

records_more : (xs ys : List Record) → records_journal (xs ++ ys) ≡ records_journal ys ++ records_journal xs
records_more xs ys = ap puts_of (blocks_more xs ys) ∙ puts_more (flat_map record_blocks xs) (flat_map record_blocks ys)

-- the records before a place, and the one there
records_next : (records : List Record) (k : ℕ) (r : Record) → k < length records → r ≡ get_or records k r → records_journal (take (k + 1) records) ≡ puts_of (record_blocks r) ++ records_journal (take k records)
records_next records k r h e =
    ap records_journal (take_more records k r h) ∙ records_more (take k records) (get_or records k r ∷ []) ∙ ap (λ (x : Record). puts_of (record_blocks x ++ []) ++ records_journal (take k records)) (sym e)
    ∙ ap (λ l. puts_of l ++ records_journal (take k records)) (append-nil (record_blocks r))

records_rest : (records : List Record) (k : ℕ) → records_journal records ≡ records_journal (drop k records) ++ records_journal (take k records)
records_rest records k = ap records_journal (sym (take-append-drop k records)) ∙ records_more (take k records) (drop k records)

-- what one more record emits was put out
pub record_next : {O : Type 0} (v : View O) (a b c : O) (records : List Record) (k : ℕ) (r : Record) (blocks : List Block) → k < length records → r ≡ get_or records k r → blocks ≡ record_blocks r
    → Wrote v a (records_journal (take k records)) b → Wrote v b (puts_of blocks) c → Wrote v a (records_journal (take (k + 1) records)) c
record_next v a b c records k r blocks h e same wrote put =
    subst (λ l. Wrote v a l c) (sym (records_next records k r h e)) (wrote_more v a b c (records_journal (take k records)) (puts_of (record_blocks r)) wrote (subst (λ x. Wrote v b (puts_of x) c) same put))

-- or not all of it
pub record_cut : {O : Type 0} (v : View O) (a b c : O) (records : List Record) (k : ℕ) (r : Record) (blocks : List Block) (f : Fault) → k < length records → r ≡ get_or records k r → blocks ≡ record_blocks r
    → Wrote v a (records_journal (take k records)) b → Cut v b (puts_of blocks) f c → Cut v a (records_journal records) f c
record_cut v a b c records k r blocks f h e same wrote put =
    let cut = cut_more v a b c (records_journal (take k records)) (puts_of (record_blocks r)) f wrote (subst (λ x. Cut v b (puts_of x) f c) same put) in
    let next = subst (λ l. Cut v a l f c) (sym (records_next records k r h e)) cut in
    subst (λ l. Cut v a l f c) (sym (records_rest records (k + 1))) (cut_within v a c (records_journal (take (k + 1) records)) (records_journal (drop (k + 1) records)) f next)

-- the records between are those that the steps used
pub skip_records : (trace : Trace) (n : ℕ) (s t : State) (from to : ℕ) (records found : List Record) → from ≡ s.used → to ≡ t.used → t ≡ after trace n s → records ≡ trace.records → found ≡ records_between from to records
    → records_journal found ≡ skip_journal trace n s
unfolding skip_journal
skip_records trace n s t from to records found f u e r b =
    ap records_journal
    (b ∙ ap (λ (x : ℕ). records_between x to records) f ∙ ap (λ (x : ℕ). records_between s.used x records) (u ∙ ap (λ (y : State). y.used) e)
    ∙ ap (λ (x : List Record). records_between s.used (after trace n s).used x) r)

-- ---- the output

records_output : (records : List Record) → flat_map block_bytes (flat_map record_blocks records) ≡ emitted_by records
records_output [] = refl
records_output (r ∷ rs) = bytes_more (record_blocks r) (flat_map record_blocks rs) ∙ ap (λ x. record_output r ++ x) (records_output rs)

-- the law that a run emits what the records emit that it used
abbrev pub EmitsByRecords : Type 0
EmitsByRecords = (trace : Trace) (n : ℕ) (s : State) → outputs_of (items_of trace n s) ≡ emitted_by (records_between s.used (after trace n s).used trace.records)

pub skip_output : EmitsByRecords → (trace : Trace) (n : ℕ) (s : State) → output_of (skip_journal trace n s) ≡ outputs_of (items_of trace n s)
unfolding skip_journal
skip_output law trace n s =
    let records = records_between s.used (after trace n s).used trace.records in
    puts_output (flat_map record_blocks records) ∙ records_output records ∙ sym (law trace n s)
