-- What stands before the pages is written as it is read.
use Rattle.std.proofs.Common.{◌≡◌, ℕ, zero, suc, ◌+◌, ◌*◌, ◌^◌, ◌<◌, ◌≤◌, Bool, true, false, cond, ltb, eqb, Option, Some, None, List, [], ◌∷◌, ◌++◌, length, get_or, take, drop, Result, Ok, Err, refl, sym, ap, subst, ◌∙◌, append_assoc, arith, inl, inr}
use Rattle.std.specs.Int.{w32, w64, to_le_bytes}
use Rattle.std.specs.List.{flat_map, AllByRecursion}
use Rattle.std.proofs.lemmas.Bool.{le-ltb}
use Rattle.std.proofs.lemmas.List.{length-append, drop_at}
use Rattle.ss_base.specs.Text.{word_at, double_at}
use Rattle.event_trace.specs.Grammar.{order_number, order_bytes, IsVersion}
use Rattle.event_trace.proofs.Fields.{double_again}
use Rattle.checkpoint.specs.declared.fault.PointWhy.TheVariants as why
use Rattle.checkpoint.specs.declared.point.Head.{Head}
use Rattle.checkpoint.specs.declared.head_reading.Start.{Start}
use Rattle.checkpoint.specs.Grammar.{magic, ended_words, head_words, head_bytes, IsCode, IsHead}
use Rattle.checkpoint.specs.Reading.{Refusal, ◌>>=◌, Check, check, judged, version_of, order_checks, words_at, ended_of, head_of, start_of, head_check, start_at}
use Rattle.checkpoint.proofs.Checks.{first_passes}
use Rattle.checkpoint.proofs.Words.{all_words, words_count, words_again, words_length, word_behind, word_first, halves, below_append}
use Rattle.checkpoint.proofs.Heads.{head_ok, one_magic, two_magic, order_one, order_low}

-- an exit code as its two words
record Ended (e : Option ℕ) : Type 0 where
  mark : ℕ
  code : ℕ
  words : ended_words e ≡ mark ∷ code ∷ []
  again : ended_of mark code ≡ e
  low : mark ≤ 1
  without : mark ≡ 0 → code ≡ 0

ended_parts : (e : Option ℕ) → Ended e
ended_parts None = record { mark = 0; code = 0; words = refl; again = refl; low = omega arith; without = λ z. refl }
ended_parts (Some c) = record { mark = 1; code = c; words = refl; again = refl; low = omega arith; without = λ z. absurd (omega (arith, z)) }

ended_below : (e : Option ℕ) → IsCode e → AllByRecursion (λ r. r < 2 ^ 32) (ended_words e)
ended_below None h = (omega arith, (omega arith, tt))
ended_below (Some c) h = (omega arith, (h, tt))

ended_length : (e : Option ℕ) → length (ended_words e) ≡ 2
ended_length None = refl
ended_length (Some c) = refl

words_fit : (h : Head) (count : ℕ) → IsHead h → count ≤ 65536 → AllByRecursion (λ r. r < 2 ^ 32) (head_words h count)
words_fit h count fits le =
    let a : List ℕ = h.pc ∷ 0 ∷ [] in
    let b : List ℕ = h.hi ∷ h.lo ∷ h.used ∷ [] in
    let d : List ℕ = h.text_start ∷ h.text_length ∷ count ∷ [] in
    below_append (((a ++ h.regs) ++ b) ++ ended_words h.ended) d
    (below_append ((a ++ h.regs) ++ b) (ended_words h.ended) (below_append (a ++ h.regs) b (below_append a h.regs (fits.pc, (omega arith, tt)) fits.regs) (fits.hi, (fits.lo, (fits.used, tt)))) (ended_below h.ended fits.code))
    (fits.text_start, (fits.text_length, (omega (arith, le), tt)))

in_a_row : (pc z : ℕ) (regs b e d : List ℕ) → ((((pc ∷ z ∷ []) ++ regs) ++ b) ++ e) ++ d ≡ pc ∷ z ∷ (regs ++ (b ++ (e ++ d)))
in_a_row pc z regs b e d = simp append_assoc

row_length : (regs e : List ℕ) (pc z hi lo used s l n : ℕ) → length regs ≡ 31 → length e ≡ 2 → length (pc ∷ z ∷ (regs ++ ((hi ∷ lo ∷ used ∷ []) ++ (e ++ (s ∷ l ∷ n ∷ []))))) ≡ 41
row_length regs e pc z hi lo used s l n r f =
    omega (arith, length-append regs ((hi ∷ lo ∷ used ∷ []) ++ (e ++ (s ∷ l ∷ n ∷ []))), length-append (hi ∷ lo ∷ used ∷ []) (e ++ (s ∷ l ∷ n ∷ [])), length-append e (s ∷ l ∷ n ∷ []), r, f)

abbrev row : Head → ℕ → List ℕ
row h count = h.pc ∷ 0 ∷ (h.regs ++ ((h.hi ∷ h.lo ∷ h.used ∷ []) ++ (ended_words h.ended ++ (h.text_start ∷ h.text_length ∷ count ∷ []))))

row_is : (h : Head) (count : ℕ) → head_words h count ≡ row h count
row_is h count = in_a_row h.pc 0 h.regs (h.hi ∷ h.lo ∷ h.used ∷ []) (ended_words h.ended) (h.text_start ∷ h.text_length ∷ count ∷ [])

count_words : (h : Head) (count : ℕ) → IsHead h → length (head_words h count) ≡ 41
count_words h count fits = ap length (row_is h count) ∙ row_length h.regs (ended_words h.ended) h.pc 0 h.hi h.lo h.used h.text_start h.text_length count fits.count (ended_length h.ended)

-- the words that stand in these bytes
record Reads (bytes : List ℕ) (h : Head) (count : ℕ) : Type 0 where
  pc : word_at bytes 16 ≡ h.pc
  zero : word_at bytes 20 ≡ 0
  regs : words_at 31 bytes 24 ≡ h.regs
  hi : word_at bytes 148 ≡ h.hi
  lo : word_at bytes 152 ≡ h.lo
  used : word_at bytes 156 ≡ h.used
  mark : word_at bytes 160 ≡ (ended_parts h.ended).mark
  code : word_at bytes 164 ≡ (ended_parts h.ended).code
  text_start : word_at bytes 168 ≡ h.text_start
  text_length : word_at bytes 172 ≡ h.text_length
  number : word_at bytes 176 ≡ count

reads : (bytes : List ℕ) (h : Head) (count : ℕ) → IsHead h → words_at 41 bytes 16 ≡ head_words h count → Reads bytes h count
reads bytes h count fits e =
    let w = λ (at : ℕ). word_at bytes at in
    let last : List ℕ = w 148 ∷ w 152 ∷ w 156 ∷ w 160 ∷ w 164 ∷ w 168 ∷ w 172 ∷ w 176 ∷ [] in
    let whole : w 16 ∷ w 20 ∷ (words_at 31 bytes 24 ++ last) ≡ row h count = e ∙ row_is h count in
    let ended = ended_parts h.ended in
    let behind : List ℕ = (h.hi ∷ h.lo ∷ h.used ∷ []) ++ (ended_words h.ended ++ (h.text_start ∷ h.text_length ∷ count ∷ [])) in
    let parts = halves (words_at 31 bytes 24) last h.regs behind (words_count 31 bytes 24 ∙ sym fits.count) (ap (λ (l : List ℕ). drop 2 l) whole) in
    let known : last ≡ h.hi ∷ h.lo ∷ h.used ∷ ended.mark ∷ ended.code ∷ h.text_start ∷ h.text_length ∷ count ∷ [] =
    parts.1 ∙ ap (λ (x : List ℕ). h.hi ∷ h.lo ∷ h.used ∷ (x ++ (h.text_start ∷ h.text_length ∷ count ∷ []))) ended.words in
    record {
      pc = ap (λ (l : List ℕ). get_or l 0 0) whole;
      zero = ap (λ (l : List ℕ). get_or l 1 0) whole;
      regs = parts.0;
      hi = ap (λ (l : List ℕ). get_or l 0 0) known;
      lo = ap (λ (l : List ℕ). get_or l 1 0) known;
      used = ap (λ (l : List ℕ). get_or l 2 0) known;
      mark = ap (λ (l : List ℕ). get_or l 3 0) known;
      code = ap (λ (l : List ℕ). get_or l 4 0) known;
      text_start = ap (λ (l : List ℕ). get_or l 5 0) known;
      text_length = ap (λ (l : List ℕ). get_or l 6 0) known;
      number = ap (λ (l : List ℕ). get_or l 7 0) known;
    }

same_head : (version : ℕ) (big : Bool) (i pc hi lo used s l j qc gi mo vsed t m : ℕ) (regs segs : List ℕ) (e f : Option ℕ) → i ≡ j → pc ≡ qc → regs ≡ segs → hi ≡ gi → lo ≡ mo → used ≡ vsed → e ≡ f → s ≡ t → l ≡ m
    → let x : Head = record { version = version; big = big; icnt = i; pc = pc; regs = regs; hi = hi; lo = lo; used = used; ended = e; text_start = s; text_length = l } in
    let y : Head = record { version = version; big = big; icnt = j; pc = qc; regs = segs; hi = gi; lo = mo; used = vsed; ended = f; text_start = t; text_length = m } in x ≡ y
same_head version big i pc hi lo used s l j qc gi mo vsed t m regs segs e f e0 e1 e2 e3 e4 e5 e6 e7 e8 = rw (e0, e1, e2, e3, e4, e5, e6, e7, e8) refl

head_again : (bytes : List ℕ) (h : Head) (count : ℕ) → double_at bytes 8 ≡ h.icnt → Reads bytes h count → head_of h.version h.big bytes ≡ h
head_again bytes h count icnt r =
    let ended = ended_parts h.ended in
    let code : ended_of (word_at bytes 160) (word_at bytes 164) ≡ h.ended = ap (λ (n : ℕ). ended_of n (word_at bytes 164)) r.mark ∙ ap (λ (n : ℕ). ended_of ended.mark n) r.code ∙ ended.again in
    same_head h.version h.big _ _ _ _ _ _ _ _ _ _ _ _ _ _ _ _ _ _ icnt r.pc r.regs r.hi r.lo r.used code r.text_start r.text_length

start_again_by : (bytes : List ℕ) (h : Head) (count : ℕ) → double_at bytes 8 ≡ h.icnt → Reads bytes h count → start_of h.version h.big bytes ≡ record { head = h; count = count }
start_again_by bytes h count icnt r =
    ap (λ (x : Head). let s : Start = record { head = x; count = word_at bytes 176 } in s) (head_again bytes h count icnt r)
    ∙ ap (λ (n : ℕ). let s : Start = record { head = h; count = n } in s) r.number

checks_again : (bytes : List ℕ) (h : Head) (count : ℕ) → 180 ≤ length bytes → eqb (version_of bytes) 0 ≡ false → double_at bytes 8 ≡ h.icnt → Reads bytes h count → h.icnt ≤ 10 ^ 15 → count ≤ 65536 → head_check bytes ≡ Ok tt
checks_again bytes h count there version icnt r most le =
    let ended = ended_parts h.ended in
    head_ok bytes h.icnt ended.mark ended.code count there version icnt r.zero r.mark r.code r.number most ended.low ended.without le

-- ---- both versions

is_one : (bytes : List ℕ) → head_check bytes ≡ Ok tt → double_at bytes 0 ≡ one_magic → start_at bytes ≡ Ok (start_of 1 false bytes, drop 180 bytes)
unfolding start_at
is_one bytes c e = rw (c, e) refl

is_two : (bytes : List ℕ) → head_check bytes ≡ Ok tt → double_at bytes 0 ≡ two_magic → judged bytes (order_checks bytes) ≡ Ok tt → start_at bytes ≡ Ok (start_of 2 (eqb (word_at bytes 180) 1) bytes, drop 184 bytes)
unfolding start_at
is_two bytes c e o = rw (c, e, o) refl

abbrev front_bytes : Head → List ℕ
front_bytes h = (magic ++ ((48 + h.version) ∷ [])) ++ to_le_bytes w64 h.icnt

shift : (f w o rest : List ℕ) → ((f ++ w) ++ o) ++ rest ≡ f ++ (w ++ (o ++ rest))
shift f w o rest = simp append_assoc

shift_two : (f w o rest : List ℕ) → ((f ++ w) ++ o) ++ rest ≡ (f ++ w) ++ (o ++ rest)
shift_two f w o rest = append_assoc (f ++ w) o rest

-- what is read of a written head, whatever its version
record Laid (h : Head) (count : ℕ) (rest : List ℕ) : Type 0 where
  there : 180 ≤ length (head_bytes h count ++ rest)
  icnt : double_at (head_bytes h count ++ rest) 8 ≡ h.icnt
  reads : Reads (head_bytes h count ++ rest) h count
  size : length (front_bytes h ++ all_words (head_words h count)) ≡ 180
  behind : head_bytes h count ++ rest ≡ (front_bytes h ++ all_words (head_words h count)) ++ (order_bytes h.version h.big ++ rest)

laid : (h : Head) (count : ℕ) (rest : List ℕ) → IsHead h → h.icnt ≤ 10 ^ 15 → count ≤ 65536 → Laid h count rest
laid h count rest fits most le =
    let front = front_bytes h in
    let words = head_words h count in
    let order = order_bytes h.version h.big in
    let bytes = head_bytes h count ++ rest in
    let n : length words ≡ 41 = count_words h count fits in
    let whole : bytes ≡ front ++ (all_words words ++ (order ++ rest)) = shift front (all_words words) order rest in
    let stand : words_at 41 bytes 16 ≡ words =
    ap (λ (k : ℕ). words_at k bytes 16) (sym n) ∙ ap (λ (x : List ℕ). words_at (length words) x 16) whole ∙ words_again words front (order ++ rest) 16 refl (words_fit h count fits le) in
    let size : length (front ++ all_words words) ≡ 180 = omega (arith, length-append front (all_words words), words_length words, n) in
    let two : bytes ≡ (front ++ all_words words) ++ (order ++ rest) = shift_two front (all_words words) order rest in
    record {
      there = omega (arith, ap length two, length-append (front ++ all_words words) (order ++ rest), size);
      icnt = double_again h.icnt (omega (arith, most));
      reads = reads bytes h count fits stand;
      size = size;
      behind = two;
    }

abbrev Again : Head → ℕ → List ℕ → Type 0
Again h count rest = start_at (head_bytes h count ++ rest) ≡ Ok (record { head = h; count = count }, rest)

again_one : (h : Head) (count : ℕ) (rest : List ℕ) → IsHead h → h.icnt ≤ 10 ^ 15 → count ≤ 65536 → h.version ≡ 1 → h.big ≡ false → Again h count rest
again_one h count rest fits most le v o =
    let bytes = head_bytes h count ++ rest in
    let l = laid h count rest fits most le in
    let number : double_at bytes 0 ≡ one_magic = ap (λ (n : ℕ). double_at (80 ∷ 67 ∷ 72 ∷ 75 ∷ 48 ∷ 48 ∷ 48 ∷ (48 + n) ∷ []) 0) v in
    let known : eqb (version_of bytes) 0 ≡ false = rw number refl in
    let c = checks_again bytes h count l.there known l.icnt l.reads most le in
    let order : order_bytes h.version h.big ≡ [] = rw v refl in
    let left : drop 180 bytes ≡ rest = ap (λ (x : List ℕ). drop 180 x) l.behind ∙ drop_at (front_bytes h ++ all_words (head_words h count)) (order_bytes h.version h.big ++ rest) 180 l.size ∙ ap (λ (x : List ℕ). x ++ rest) order in
    let start : start_of 1 false bytes ≡ record { head = h; count = count } =
    ap (λ (n : ℕ). start_of n false bytes) (sym v) ∙ ap (λ (b : Bool). start_of h.version b bytes) (sym o) ∙ start_again_by bytes h count l.icnt l.reads in
    is_one bytes c number ∙ ap (λ (s : Start). Ok (s, drop 180 bytes)) start ∙ ap (λ (x : List ℕ). let s : Start = record { head = h; count = count } in Ok (s, x)) left

again_two : (h : Head) (count : ℕ) (rest : List ℕ) → IsHead h → h.icnt ≤ 10 ^ 15 → count ≤ 65536 → h.version ≡ 2 → Again h count rest
again_two h count rest fits most le v =
    let bytes = head_bytes h count ++ rest in
    let l = laid h count rest fits most le in
    let front = front_bytes h ++ all_words (head_words h count) in
    let mark : List ℕ = to_le_bytes w32 (order_number h.big) in
    let number : double_at bytes 0 ≡ two_magic = ap (λ (n : ℕ). double_at (80 ∷ 67 ∷ 72 ∷ 75 ∷ 48 ∷ 48 ∷ 48 ∷ (48 + n) ∷ []) 0) v in
    let known : eqb (version_of bytes) 0 ≡ false = rw number refl in
    let c = checks_again bytes h count l.there known l.icnt l.reads most le in
    let order : order_bytes h.version h.big ≡ mark = rw v refl in
    let behind : bytes ≡ front ++ (mark ++ rest) = l.behind ∙ ap (λ (x : List ℕ). front ++ (x ++ rest)) order in
    let stands : word_at bytes 180 ≡ order_number h.big =
    ap (λ (x : List ℕ). word_at x 180) behind ∙ ap (λ (k : ℕ). word_at (front ++ (mark ++ rest)) k) (sym l.size) ∙ word_behind front (mark ++ rest) ∙ word_first (order_number h.big) rest (omega (arith, order_low h.big)) in
    let there : 184 ≤ length bytes = omega (arith, ap length behind, length-append front (mark ++ rest), length-append mark rest, l.size) in
    let check_one : Check = check 180 184 (ltb 1 (word_at bytes 180)) why.ByteOrder in
    let judged_order : judged bytes (order_checks bytes) ≡ Ok tt = first_passes bytes check_one [] there (ap (λ (n : ℕ). ltb 1 n) stands ∙ le-ltb 1 (order_number h.big) (order_low h.big)) refl in
    let size : length (front ++ mark) ≡ 184 = omega (arith, length-append front mark, l.size) in
    let left : drop 184 bytes ≡ rest = ap (λ (x : List ℕ). drop 184 x) (behind ∙ sym (append_assoc front mark rest)) ∙ drop_at (front ++ mark) rest 184 size in
    let big : eqb (word_at bytes 180) 1 ≡ h.big = ap (λ (n : ℕ). eqb n 1) stands ∙ order_one h.big in
    let start : start_of 2 (eqb (word_at bytes 180) 1) bytes ≡ record { head = h; count = count } =
    ap (λ (b : Bool). start_of 2 b bytes) big ∙ ap (λ (n : ℕ). start_of n h.big bytes) (sym v) ∙ start_again_by bytes h count l.icnt l.reads in
    is_two bytes c number judged_order ∙ ap (λ (s : Start). Ok (s, drop 184 bytes)) start ∙ ap (λ (x : List ℕ). let s : Start = record { head = h; count = count } in Ok (s, x)) left

pub start_again : (h : Head) (count : ℕ) (rest : List ℕ) → IsHead h → h.icnt ≤ 10 ^ 15 → count ≤ 65536 → Again h count rest
start_again h count rest fits most le =
    elim fits.version [
      | inl v ↦ again_one h count rest fits most le v.0 v.1
      | inr v ↦ again_two h count rest fits most le v
    ]
