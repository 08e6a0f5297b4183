-- What is written of one item, and of further ones.
use Rattle.std.specs.Prelude.{◌≡◌, ◌≤◌, ◌<◌, ◌+◌, ◌++◌, ℕ, Bool, true, false, List, [], ◌∷◌, length, Option, Some, None, Result, Ok, Err, if◌then◌else◌}
use Rattle.std.proofs.Common.{refl, sym, ap, ◌∙◌, subst, inl, inr, append_assoc, append-nil, take, drop, get_or}
use Rattle.std.proofs.lemmas.Bool.{le-ltb}
use Rattle.std.proofs.lemmas.List.{take_more, take-append-drop}
use Rattle.event_trace.specs.declared.trace.Block.{Block}
use Rattle.journal.specs.declared.fault.Fault.{Fault}
use Rattle.journal.specs.declared.fault.Fault.TheVariants as fault
use Rattle.journal.specs.Write.{Journal, Append, Output, Lacks}
use Rattle.journal.specs.View.{View, Wrote, Failed, Cut, GaveUp}
use Rattle.journal.specs.Laws.{wrote_more, cut_more, cut_within, gave_up_cut, lacks_earlier}
use Rattle.sim_safe.specs.declared.observer.Meaning.{Meaning}
use Rattle.sim_safe.specs.Record.{Item}
use Rattle.sim_safe.specs.Commit.{line_of, blocks_of, onto}
use Rattle.sim_safe.specs.Observed.{Faulted}
use Rattle.sim_watch.specs.Watch.{puts_of, is_short, piece_of, piece_with, left_with, writes_of, written_of, faults_of, meaning_of, CutAtNewest, WritesLine, WritesLong}

-- ---- blocks

pub puts_more : (xs ys : List Block) → puts_of (xs ++ ys) ≡ puts_of ys ++ puts_of xs
puts_more [] ys = sym (append-nil (puts_of ys))
puts_more (x ∷ xs) ys = ap (λ h. h ++ Output x.bytes ∷ []) (puts_more xs ys) ∙ append_assoc (puts_of ys) (puts_of xs) (Output x.bytes ∷ [])

-- the blocks before a place, and the one there
pub puts_next : (blocks : List Block) (k : ℕ) (b : Block) → k < length blocks → b ≡ get_or blocks k b → puts_of (take (k + 1) blocks) ≡ Output b.bytes ∷ puts_of (take k blocks)
puts_next blocks k b h e =
    ap puts_of (take_more blocks k b h) ∙ puts_more (take k blocks) (get_or blocks k b ∷ []) ∙ ap (λ (x : Block). Output x.bytes ∷ puts_of (take k blocks)) (sym e)

puts_rest : (blocks : List Block) (k : ℕ) → puts_of blocks ≡ puts_of (drop k blocks) ++ puts_of (take k blocks)
puts_rest blocks k = ap puts_of (sym (take-append-drop k blocks)) ∙ puts_more (take k blocks) (drop k blocks)

-- one more block was put out
pub put_next : {O : Type 0} (v : View O) (a b c : O) (blocks : List Block) (k : ℕ) (x : Block) (bytes : List ℕ) → k < length blocks → x ≡ get_or blocks k x → bytes ≡ x.bytes
    → Wrote v a (puts_of (take k blocks)) b → Wrote v b (Output bytes ∷ []) c → Wrote v a (puts_of (take (k + 1) blocks)) c
put_next v a b c blocks k x bytes h e same wrote put =
    let next : puts_of (take (k + 1) blocks) ≡ Output x.bytes ∷ puts_of (take k blocks) = puts_next blocks k x h e in
    subst (λ l. Wrote v a l c) (sym next) (wrote_more v a b c (puts_of (take k blocks)) (Output x.bytes ∷ []) wrote (subst (λ l. Wrote v b (Output l ∷ []) c) same put))

-- or wasn't
pub put_cut : {O : Type 0} (v : View O) (a b c : O) (blocks : List Block) (k : ℕ) (x : Block) (bytes : List ℕ) (f : Fault) → k < length blocks → x ≡ get_or blocks k x → bytes ≡ x.bytes
    → Wrote v a (puts_of (take k blocks)) b → GaveUp v b (Output bytes ∷ []) f c → Cut v a (puts_of blocks) f c
put_cut v a b c blocks k x bytes f h e same wrote put =
    let next : puts_of (take (k + 1) blocks) ≡ Output x.bytes ∷ puts_of (take k blocks) = puts_next blocks k x h e in
    let put2 = gave_up_cut v b c (Output x.bytes ∷ []) f (subst (λ l. GaveUp v b (Output l ∷ []) f c) same put) in
    let cut = subst (λ l. Cut v a l f c) (sym next) (cut_more v a b c (puts_of (take k blocks)) (Output x.bytes ∷ []) f wrote put2) in
    subst (λ l. Cut v a l f c) (sym (puts_rest blocks (k + 1))) (cut_within v a c (puts_of (take (k + 1) blocks)) (puts_of (drop (k + 1) blocks)) f cut)

-- ---- pieces of text

piece_long : (file text : List ℕ) → 65536 ≤ length text → piece_of file text ≡ Append file text ∷ []
piece_long file text long = ap (λ (t : Bool). if t then [] else Append file text ∷ []) (le-ltb (length text) 65536 long)

-- a piece that is long was written, or wasn't
pub piece_written : {O : Type 0} (v : View O) (a b : O) (file text bytes : List ℕ) → 65536 ≤ length text → bytes ≡ text → Wrote v a (Append file bytes ∷ []) b → Wrote v a (piece_of file text) b
piece_written v a b file text bytes long e q = subst (λ l. Wrote v a l b) (sym (piece_long file text long)) (subst (λ x. Wrote v a (Append file x ∷ []) b) e q)

pub piece_cut : {O : Type 0} (v : View O) (a b : O) (file text bytes : List ℕ) (f : Fault) → 65536 ≤ length text → bytes ≡ text → GaveUp v a (Append file bytes ∷ []) f b → Cut v a (piece_of file text) f b
piece_cut v a b file text bytes f long e q =
    subst (λ l. Cut v a l f b) (sym (piece_long file text long)) (gave_up_cut v a b (Append file text ∷ []) f (subst (λ x. GaveUp v a (Append file x ∷ []) f b) e q))

-- a line that was added, and what was written then
line_by : {O T : Type 0} (v : View O) (a b : O) (file was line pending : List ℕ) (r : Result T Fault) → WritesLong v a file (was ++ line) b pending r → WritesLine v a (Some file) was line b pending r
line_by v a b file was line pending (Ok x) q = q
line_by v a b file was line pending (Err f) q = q

pub line_by_piece : {O T : Type 0} (v : View O) (a b : O) (file was line text pending : List ℕ) (r : Result T Fault) → text ≡ was ++ line → WritesLong v a file text b pending r → WritesLine v a (Some file) was line b pending r
line_by_piece v a b file was line text pending r e q = line_by v a b file was line pending r (subst (λ x. WritesLong v a file x b pending r) e q)

-- ---- one item

pub item_pending : (file other : Option (List ℕ)) (was p q : List ℕ) (h : List Item) (i : Item) → other ≡ file → p ≡ (written_of file was h).pending → q ≡ left_with other p (line_of i) → q ≡ (written_of file was (i ∷ h)).pending
unfolding written_of
item_pending file other was p q h i e f r = r ∙ ap (λ x. left_with x p (line_of i)) e ∙ ap (λ x. left_with file x (line_of i)) f

pub item_written : {O : Type 0} (v : View O) (a b c d : O) (file other : Option (List ℕ)) (was p : List ℕ) (h : List Item) (i : Item) (blocks : List Block) → other ≡ file → p ≡ (written_of file was h).pending → blocks ≡ blocks_of i
    → Wrote v a (written_of file was h).journal b → Wrote v b (puts_of blocks) c → Wrote v c (piece_with other p (line_of i)) d → Wrote v a (written_of file was (i ∷ h)).journal d
unfolding written_of
item_written v a b c d file other was p h i blocks e f k wrote output text =
    let w = written_of file was h in
    let output2 = subst (λ x. Wrote v b (puts_of x) c) k output in
    let text2 = subst (λ x. Wrote v c (piece_with x p (line_of i)) d) e text in
    let text3 = subst (λ x. Wrote v c (piece_with file x (line_of i)) d) f text2 in
    wrote_more v a b d w.journal (writes_of file w.pending i) wrote (wrote_more v b c d (puts_of (blocks_of i)) (piece_with file w.pending (line_of i)) output2 text3)

-- a fault at the output of an item
pub item_cut_at_output : {O : Type 0} (v : View O) (a b c : O) (file : Option (List ℕ)) (was : List ℕ) (h : List Item) (i : Item) (blocks : List Block) (f : Fault) → blocks ≡ blocks_of i
    → Wrote v a (written_of file was h).journal b → Cut v b (puts_of blocks) f c → CutAtNewest v file was a (i ∷ h) f c
item_cut_at_output v a b c file was h i blocks f k wrote output = record {
  between = b;
  wrote = wrote;
  cut = cut_within v b c (puts_of (blocks_of i)) (piece_with file (written_of file was h).pending (line_of i)) f (subst (λ x. Cut v b (puts_of x) f c) k output);
}

-- a fault at its line
pub item_cut_at_text : {O : Type 0} (v : View O) (a b c d : O) (file other : Option (List ℕ)) (was p : List ℕ) (h : List Item) (i : Item) (blocks : List Block) (f : Fault) → other ≡ file → p ≡ (written_of file was h).pending → blocks ≡ blocks_of i
    → Wrote v a (written_of file was h).journal b → Wrote v b (puts_of blocks) c → Cut v c (piece_with other p (line_of i)) f d → CutAtNewest v file was a (i ∷ h) f d
item_cut_at_text v a b c d file other was p h i blocks f e q k wrote output text = record {
  between = b;
  wrote = wrote;
  cut =
      let output2 = subst (λ x. Wrote v b (puts_of x) c) k output in
      let text2 = subst (λ x. Cut v c (piece_with x p (line_of i)) f d) e text in
      let text3 = subst (λ x. Cut v c (piece_with file x (line_of i)) f d) q text2 in
      cut_more v b c d (puts_of (blocks_of i)) (piece_with file (written_of file was h).pending (line_of i)) f output2 text3;
}

-- ---- counts of faults

-- a fault that no write of a journal has isn't the one at which it was cut
not_by : {O : Type 0} (v : View O) (a b : O) (h : Journal) (f : Fault) → Lacks f h → Failed v a h f b → ⊥
not_by v a b h f l q = (lacks_earlier f q.later (q.next ∷ q.done) (subst (Lacks f) q.all l)).0 (sym q.by)

pub same_faults : {O : Type 0} (v : View O) (a b : O) (h : Journal) → Wrote v a h b → faults_of v b ≡ faults_of v a
same_faults v a b h w = ap (λ (x : ℕ × ℕ × ℕ). let y : ℕ × ℕ = (x.0, x.1) in y) w.holds.counts

pub cut_faults : {O : Type 0} (v : View O) (a b : O) (h : Journal) (f : Fault) → Lacks fault.Stat h → Cut v a h f b → Faulted (meaning_of f) (faults_of v a) (faults_of v b)
cut_faults v a b h fault.Shelf l q = (q.counts.0.0, q.counts.0.1, q.counts.1)
cut_faults v a b h fault.Prog l q = (q.counts.0, q.counts.1.0, q.counts.1.1)
cut_faults v a b h fault.Stat l q = absurd (not_by v a b h fault.Stat l q)
cut_faults v a b h fault.OutOfMemory l (inl q) = ap (λ (x : ℕ × ℕ × ℕ). let y : ℕ × ℕ = (x.0, x.1) in y) q.holds.counts
cut_faults v a b h fault.OutOfMemory l (inr q) = ap (λ (x : ℕ × ℕ × ℕ). let y : ℕ × ℕ = (x.0, x.1) in y) q.holds.counts

pub lacks_more : (f : Fault) (k h : Journal) → Lacks f k → Lacks f h → Lacks f (k ++ h)
lacks_more f [] h l m = m
lacks_more f (w ∷ k) h l m = (l.0, lacks_more f k h l.1 m)

pub lacks_puts : (blocks : List Block) → Lacks fault.Stat (puts_of blocks)
lacks_puts [] = tt
lacks_puts (b ∷ bs) = lacks_more fault.Stat (puts_of bs) (Output b.bytes ∷ []) (lacks_puts bs) (λ e. cc, tt)

lacks_if : (short : Bool) (file text : List ℕ) → Lacks fault.Stat (if short then [] else Append file text ∷ [])
lacks_if true file text = tt
lacks_if false file text = (λ e. cc, tt)

pub lacks_piece : (file : Option (List ℕ)) (was line : List ℕ) → Lacks fault.Stat (piece_with file was line)
lacks_piece None was line = tt
lacks_piece (Some file) was line = lacks_if (is_short (was ++ line)) file (was ++ line)

-- what was counted before a write that was cut
pub faults_later : (m : Meaning) (a b c : ℕ × ℕ) → b ≡ a → Faulted m b c → Faulted m a c
faults_later m a b c e q = subst (λ x. Faulted m x c) e q

-- ---- further items

-- what further items write comes later
pub written_grow : (file : Option (List ℕ)) (was : List ℕ) (is h : List Item) → (later : Journal) × ((written_of file was (onto is h)).journal ≡ later ++ (written_of file was h).journal)
unfolding written_of
written_grow file was [] h = ([], refl)
written_grow file was (i ∷ is) h =
    let more = written_grow file was is (i ∷ h) in
    let w = written_of file was h in
    let next = writes_of file w.pending i in
    (more.0 ++ next, more.1 ∙ sym (append_assoc more.0 next w.journal))

pub onto_append : (xs ys h : List Item) → onto (xs ++ ys) h ≡ onto ys (onto xs h)
onto_append [] ys h = refl
onto_append (x ∷ xs) ys h = onto_append xs ys (x ∷ h)
