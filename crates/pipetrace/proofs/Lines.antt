-- Lines that are read are those that were printed, each of them one line.
use Rattle.std.proofs.Common.{◌≡◌, ◌++◌, ◌∙◌, ◌+◌, ◌-◌, ◌/◌, ◌%◌, ◌^◌, ◌<◌, ◌&&◌, ℕ, suc, Bool, true, false, cond, eqb, List, [], ◌∷◌, Option, Some, None, refl, sym, ap, subst, append_assoc, decimal, arith, inl, inr, ◌⊎◌}
use Rattle.std.specs.Prelude.{codes}
use Rattle.std.specs.Char.{is_ascii_digit}
use Rattle.std.specs.List.{list_all}
use Rattle.std.proofs.lemmas.Bool.Decides.{nat_tests}
use Rattle.ss_base.specs.Text.{hex8, hex_digit}
use Rattle.pisa_step.specs.declared.cause.Cause.{Cause}
use Rattle.pisa_step.specs.declared.cause.Cause.TheVariants as cause
use Rattle.pisa_step.specs.declared.cause.Field.{Field}
use Rattle.pisa_step.specs.declared.cause.Field.TheVariants as field
use Rattle.sim_safe.specs.Ends.{field_text, cause_text}
use Rattle.ooo_table.specs.declared.event.Mark.{Mark}
use Rattle.ooo_table.specs.declared.event.Mark.TheVariants as mark
use Rattle.ooo_table.specs.declared.event.EndWord.{EndWord}
use Rattle.ooo_table.specs.declared.event.EndWord.TheVariants as word
use Rattle.pipetrace.specs.declared.line.Line.{Line}
use Rattle.pipetrace.specs.declared.line.Line.TheVariants as line
use Rattle.pipetrace.specs.Text.{mark_text, word_text}
use Rattle.pipetrace.specs.Grammar.{IsEnd, IsField, IsMark, IsStop}
use Rattle.pipetrace.specs.Fronts.{line_count}
use Rattle.pipetrace.specs.Reading.{behind, count_at, address_at, cycle_at, fetch_at, end_at, mark_of, row_at, line_of, letter_at, line_at, word_at}
use Rattle.pipetrace.proofs.Words.{bind_some, some_is, behind_is}
use Rattle.pipetrace.proofs.Numbers.{digits_all, number_is, number_again, address_is, address_again}
use Rattle.pipetrace.proofs.Ends.{joined, word_is, word_again, stop_text_is}

-- what stands in a line before its newline
abbrev pub line_body : Line → List ℕ
line_body (line.Cycle c) = codes "@ " ++ decimal c
line_body (line.Act r m) = mark_text r m
line_body (line.End n w) = codes ". " ++ decimal n ++ codes " " ++ word_text w

abbrev pub line_text : Line → List ℕ
line_text l = line_body l ++ codes "\n"

abbrev pub FitsLine : Line → Type 0
FitsLine (line.Cycle c) = c < 2 ^ 62
FitsLine (line.Act r m) = (r < 2 ^ 62) × IsMark m
FitsLine (line.End n w) = (n < 2 ^ 62) × IsEnd w

-- ---- what is read

-- a letter and a blank, and what was read behind them
abbrev LineTaken : ℕ → List ℕ → Line × List ℕ → Type 0
LineTaken letter bytes y = (letter ∷ 32 ∷ bytes ≡ line_body y.0 ++ y.1) × FitsLine y.0

cycle_is : (bytes : List ℕ) (y : Line × List ℕ) → cycle_at bytes ≡ Some y → LineTaken 64 bytes y
unfolding cycle_at
cycle_is bytes y e =
    let p = bind_some (count_at bytes) _ y e in
    let n = number_is 4611686018427387904 bytes p.0.0 p.0.1 (omega arith) p.1 in
    subst (λ z. LineTaken 64 bytes z) (some_is (line.Cycle p.0.0, p.0.1) y p.2)
    (joined (64 ∷ 32 ∷ bytes) (codes "@ ") bytes (decimal p.0.0) p.0.1 refl n.0, n.1)

fetch_is : (bytes : List ℕ) (y : Line × List ℕ) → fetch_at bytes ≡ Some y → LineTaken 43 bytes y
unfolding fetch_at
fetch_is bytes y e =
    let p = bind_some (count_at bytes) _ y e in
    let q = bind_some (behind (codes " ") p.0.1) _ y p.2 in
    let r = bind_some (address_at q.0) _ y q.2 in
    let s = bind_some (behind (codes " ") r.0.1) _ y r.2 in
    let t = bind_some (address_at s.0) _ y s.2 in
    let u = bind_some (behind (codes " ") t.0.1) _ y t.2 in
    let v = bind_some (count_at u.0) _ y u.2 in
    let row = number_is 4611686018427387904 bytes p.0.0 p.0.1 (omega arith) p.1 in
    let pc = address_is q.0 r.0.0 r.0.1 r.1 in
    let next = address_is s.0 t.0.0 t.0.1 t.1 in
    let queued = number_is 4611686018427387904 u.0 v.0.0 v.0.1 (omega arith) v.1 in
    let start = 43 ∷ 32 ∷ bytes in
    let a = joined start (codes "+ ") bytes (decimal p.0.0) p.0.1 refl row.0 in
    let b = joined start (codes "+ " ++ decimal p.0.0) p.0.1 (codes " " ++ hex8 r.0.0) r.0.1 a (joined p.0.1 (codes " ") q.0 (hex8 r.0.0) r.0.1 (behind_is (codes " ") p.0.1 q.0 q.1) pc.0) in
    let c = joined start (codes "+ " ++ decimal p.0.0 ++ (codes " " ++ hex8 r.0.0)) r.0.1 (codes " " ++ hex8 t.0.0) t.0.1 b (joined r.0.1 (codes " ") s.0 (hex8 t.0.0) t.0.1 (behind_is (codes " ") r.0.1 s.0 s.1) next.0) in
    let d = joined start (codes "+ " ++ decimal p.0.0 ++ (codes " " ++ hex8 r.0.0) ++ (codes " " ++ hex8 t.0.0)) t.0.1 (codes " " ++ decimal v.0.0) v.0.1 c (joined t.0.1 (codes " ") u.0 (decimal v.0.0) v.0.1 (behind_is (codes " ") t.0.1 u.0 u.1) queued.0) in
    subst (λ z. LineTaken 43 bytes z) (some_is (line.Act p.0.0 (mark.Fetched r.0.0 t.0.0 v.0.0), v.0.1) y v.2) (d, (row.1, (pc.1, next.1, queued.1)))

end_is : (bytes : List ℕ) (y : Line × List ℕ) → end_at bytes ≡ Some y → LineTaken 46 bytes y
unfolding end_at
end_is bytes y e =
    let p = bind_some (count_at bytes) _ y e in
    let q = bind_some (behind (codes " ") p.0.1) _ y p.2 in
    let r = bind_some (word_at q.0) _ y q.2 in
    let n = number_is 4611686018427387904 bytes p.0.0 p.0.1 (omega arith) p.1 in
    let w = word_is q.0 r.0 r.1 in
    let a = joined (46 ∷ 32 ∷ bytes) (codes ". ") bytes (decimal p.0.0) p.0.1 refl n.0 in
    let b = joined (46 ∷ 32 ∷ bytes) (codes ". " ++ decimal p.0.0) p.0.1 (codes " ") q.0 a (behind_is (codes " ") p.0.1 q.0 q.1) in
    let c = joined (46 ∷ 32 ∷ bytes) (codes ". " ++ decimal p.0.0 ++ codes " ") q.0 (word_text r.0.0) r.0.1 b w.0 in
    subst (λ z. LineTaken 46 bytes z) (some_is (line.End p.0.0 r.0.0, r.0.1) y r.2) (c, (n.1, w.1))

-- which of two choices was taken
pub chosen : {A : Type 0} (b : Bool) (x y z : A) → cond b x y ≡ z → ((b ≡ true) × (x ≡ z)) ⊎ ((b ≡ false) × (y ≡ z))
chosen true x y z e = inl (refl, e)
chosen false x y z e = inr (refl, e)

eqb_is : (c b : ℕ) → eqb c b ≡ true → c ≡ b
eqb_is c b e = grind arith

-- the line of a letter
abbrev HasLetter : ℕ → Mark → Type 0
HasLetter letter m = (row : ℕ) → (letter ∷ 32 ∷ decimal row ≡ mark_text row m) × IsMark m

letter_of : (letter code : ℕ) (x m : Mark) → HasLetter code x → (eqb letter code ≡ true) × (Some x ≡ Some m) → HasLetter letter m
letter_of letter code x m h p = subst (λ c. HasLetter c m) (sym (eqb_is letter code p.0)) (subst (λ z. HasLetter code z) (some_is x m p.1) h)

abbrev no_mark : Option Mark
no_mark = None

none_is : (m : Mark) → no_mark ≡ Some m → ⊥
none_is m e = cc

mark_is : (letter : ℕ) (m : Mark) → mark_of letter ≡ Some m → HasLetter letter m
mark_is letter m e =
    elim (chosen (eqb letter 67) _ _ _ e) [
      | inl p ↦ letter_of letter 67 mark.Committed m (λ row. (refl, tt)) p
      | inr f ↦ elim (chosen (eqb letter 87) _ _ _ f.1) [
        | inl p ↦ letter_of letter 87 mark.Written m (λ row. (refl, tt)) p
        | inr g ↦ elim (chosen (eqb letter 82) _ _ _ g.1) [
          | inl p ↦ letter_of letter 82 mark.Returned m (λ row. (refl, tt)) p
          | inr h ↦ elim (chosen (eqb letter 88) _ _ _ h.1) [
            | inl p ↦ letter_of letter 88 mark.Squashed m (λ row. (refl, tt)) p
            | inr i ↦ elim (chosen (eqb letter 73) _ _ _ i.1) [
              | inl p ↦ letter_of letter 73 mark.Issued m (λ row. (refl, tt)) p
              | inr k ↦ elim (chosen (eqb letter 65) _ _ _ k.1) [
                | inl p ↦ letter_of letter 65 mark.Accessed m (λ row. (refl, tt)) p
                | inr l ↦ elim (chosen (eqb letter 68) _ _ _ l.1) [
                  | inl p ↦ letter_of letter 68 mark.Dispatched m (λ row. (refl, tt)) p
                  | inr o ↦ absurd (none_is m o.1)
                ]
              ]
            ]
          ]
        ]
      ]
    ]

row_is : (letter : ℕ) (bytes : List ℕ) (y : Line × List ℕ) → row_at letter bytes ≡ Some y → LineTaken letter bytes y
unfolding row_at
row_is letter bytes y e =
    let p = bind_some (mark_of letter) _ y e in
    let q = bind_some (count_at bytes) _ y p.2 in
    let n = number_is 4611686018427387904 bytes q.0.0 q.0.1 (omega arith) q.1 in
    let m = mark_is letter p.0 p.1 q.0.0 in
    subst (λ z. LineTaken letter bytes z) (some_is (line.Act q.0.0 p.0, q.0.1) y q.2)
    (ap (λ l. letter ∷ 32 ∷ l) n.0 ∙ ap (λ l. l ++ q.0.1) m.0, (n.1, m.1))

at_letter : (letter code : ℕ) (bytes : List ℕ) (y : Line × List ℕ) → eqb letter code ≡ true → LineTaken code bytes y → LineTaken letter bytes y
at_letter letter code bytes y e h = subst (λ c. LineTaken c bytes y) (sym (eqb_is letter code e)) h

line_of_is : (letter : ℕ) (bytes : List ℕ) (y : Line × List ℕ) → line_of letter bytes ≡ Some y → LineTaken letter bytes y
unfolding line_of
line_of_is letter bytes y e =
    elim (chosen (eqb letter 64) _ _ _ e) [
      | inl p ↦ at_letter letter 64 bytes y p.0 (cycle_is bytes y p.1)
      | inr f ↦ elim (chosen (eqb letter 43) _ _ _ f.1) [
        | inl p ↦ at_letter letter 43 bytes y p.0 (fetch_is bytes y p.1)
        | inr g ↦ elim (chosen (eqb letter 46) _ _ _ g.1) [
          | inl p ↦ at_letter letter 46 bytes y p.0 (end_is bytes y p.1)
          | inr p ↦ row_is letter bytes y p.1
        ]
      ]
    ]

letter_is : (bytes : List ℕ) (x : ℕ × List ℕ) → letter_at bytes ≡ Some x → bytes ≡ x.0 ∷ x.1
letter_is [] x e = absurd cc
letter_is (b ∷ bs) x e = ap (λ z. z.0 ∷ z.1) (some_is (b, bs) x e)

pub line_is : (bytes : List ℕ) (y : Line × List ℕ) → line_at bytes ≡ Some y → (bytes ≡ line_text y.0 ++ y.1) × FitsLine y.0
unfolding line_at
line_is bytes y e =
    let p = bind_some (letter_at bytes) _ y e in
    let q = bind_some (behind (codes " ") p.0.1) _ y p.2 in
    let r = bind_some (line_of p.0.0 q.0) _ y q.2 in
    let s = bind_some (behind (codes "\n") r.0.1) _ y r.2 in
    let l = line_of_is p.0.0 q.0 r.0 r.1 in
    let here : bytes ≡ line_body r.0.0 ++ r.0.1 = letter_is bytes p.0 p.1 ∙ ap (λ t. p.0.0 ∷ t) (behind_is (codes " ") p.0.1 q.0 q.1) ∙ l.0 in
    subst (λ z. (bytes ≡ line_text z.0 ++ z.1) × FitsLine z.0) (some_is (r.0.0, s.0) y s.2)
    (joined bytes (line_body r.0.0) r.0.1 (codes "\n") s.0 here (behind_is (codes "\n") r.0.1 s.0 s.1), l.1)

-- ---- what is printed is read again

three : (a b c rest : List ℕ) → (a ++ b ++ c) ++ rest ≡ a ++ (b ++ (c ++ rest))
three a b c rest = simp append_assoc

five : (a b c d e rest : List ℕ) → (a ++ b ++ c ++ d ++ e) ++ rest ≡ a ++ (b ++ (c ++ (d ++ (e ++ rest))))
five a b c d e rest = simp append_assoc

fetched : (a b c d e f g h i rest : List ℕ) → (a ++ b ++ (c ++ d) ++ (e ++ f) ++ (g ++ h) ++ i) ++ rest ≡ a ++ (b ++ (c ++ (d ++ (e ++ (f ++ (g ++ (h ++ (i ++ rest))))))))
fetched a b c d e f g h i rest = simp append_assoc

cycle_again : (c : ℕ) (rest : List ℕ) → c < 2 ^ 62 → line_at (codes "@ " ++ (decimal c ++ (codes "\n" ++ rest))) ≡ Some (line.Cycle c, rest)
unfolding line_at line_of cycle_at behind
cycle_again c rest h = rw (number_again 4611686018427387904 c (codes "\n" ++ rest) (omega arith) h refl) refl

fetch_again : (row pc next queued : ℕ) (rest : List ℕ) → row < 2 ^ 62 → pc < 2 ^ 32 → next < 2 ^ 32 → queued < 2 ^ 62
    → line_at (codes "+ " ++ (decimal row ++ (codes " " ++ (hex8 pc ++ (codes " " ++ (hex8 next ++ (codes " " ++ (decimal queued ++ (codes "\n" ++ rest))))))))) ≡ Some (line.Act row (mark.Fetched pc next queued), rest)
unfolding line_at line_of fetch_at behind
fetch_again row pc next queued rest h k l m =
    rw (
      number_again 4611686018427387904 row (codes " " ++ (hex8 pc ++ (codes " " ++ (hex8 next ++ (codes " " ++ (decimal queued ++ (codes "\n" ++ rest))))))) (omega arith) h refl,
      address_again pc (codes " " ++ (hex8 next ++ (codes " " ++ (decimal queued ++ (codes "\n" ++ rest))))) k,
      address_again next (codes " " ++ (decimal queued ++ (codes "\n" ++ rest))) l,
      number_again 4611686018427387904 queued (codes "\n" ++ rest) (omega arith) m refl,
    ) refl

row_again : (letter row : ℕ) (m : Mark) (rest : List ℕ) → row < 2 ^ 62 → mark_of letter ≡ Some m → line_of letter (decimal row ++ (codes "\n" ++ rest)) ≡ row_at letter (decimal row ++ (codes "\n" ++ rest)) → line_at (letter ∷ 32 ∷ (decimal row ++ (codes "\n" ++ rest))) ≡ Some (line.Act row m, rest)
unfolding line_at row_at behind
row_again letter row m rest h e k = rw (k, e, number_again 4611686018427387904 row (codes "\n" ++ rest) (omega arith) h refl) refl

end_again : (n : ℕ) (end : EndWord) (rest : List ℕ) → n < 2 ^ 62 → IsEnd end → line_at (codes ". " ++ (decimal n ++ (codes " " ++ (word_text end ++ (codes "\n" ++ rest))))) ≡ Some (line.End n end, rest)
unfolding line_at line_of end_at behind
end_again n end rest h k = rw (number_again 4611686018427387904 n (codes " " ++ (word_text end ++ (codes "\n" ++ rest))) (omega arith) h refl, word_again end (codes "\n" ++ rest) k refl) refl

act_again : (row : ℕ) (m : Mark) (rest : List ℕ) → row < 2 ^ 62 → IsMark m → line_at (line_text (line.Act row m) ++ rest) ≡ Some (line.Act row m, rest)
unfolding line_of
act_again row mark.Committed rest h k = ap line_at (three (codes "C ") (decimal row) (codes "\n") rest) ∙ row_again 67 row mark.Committed rest h refl refl
act_again row mark.Written rest h k = ap line_at (three (codes "W ") (decimal row) (codes "\n") rest) ∙ row_again 87 row mark.Written rest h refl refl
act_again row mark.Returned rest h k = ap line_at (three (codes "R ") (decimal row) (codes "\n") rest) ∙ row_again 82 row mark.Returned rest h refl refl
act_again row mark.Squashed rest h k = ap line_at (three (codes "X ") (decimal row) (codes "\n") rest) ∙ row_again 88 row mark.Squashed rest h refl refl
act_again row mark.Issued rest h k = ap line_at (three (codes "I ") (decimal row) (codes "\n") rest) ∙ row_again 73 row mark.Issued rest h refl refl
act_again row mark.Accessed rest h k = ap line_at (three (codes "A ") (decimal row) (codes "\n") rest) ∙ row_again 65 row mark.Accessed rest h refl refl
act_again row mark.Dispatched rest h k = ap line_at (three (codes "D ") (decimal row) (codes "\n") rest) ∙ row_again 68 row mark.Dispatched rest h refl refl
act_again row (mark.Fetched pc next queued) rest h k =
    ap line_at (fetched (codes "+ ") (decimal row) (codes " ") (hex8 pc) (codes " ") (hex8 next) (codes " ") (decimal queued) (codes "\n") rest)
    ∙ fetch_again row pc next queued rest h k.0 k.1 k.2

pub line_again : (l : Line) (rest : List ℕ) → FitsLine l → line_at (line_text l ++ rest) ≡ Some (l, rest)
line_again (line.Cycle c) rest h = ap line_at (three (codes "@ ") (decimal c) (codes "\n") rest) ∙ cycle_again c rest h
line_again (line.Act row m) rest h = act_again row m rest h.0 h.1
line_again (line.End n end) rest h = ap line_at (five (codes ". ") (decimal n) (codes " ") (word_text end) (codes "\n") rest) ∙ end_again n end rest h.0 h.1

-- ---- a line is one line

count_cell : (p : Bool) (k m n : ℕ) → k ≡ m + n → cond p (suc k) k ≡ cond p (suc m) m + n
count_cell true k m n e = omega arith
count_cell false k m n e = e

digit_no_newline : (d : ℕ) → is_ascii_digit d ≡ true → eqb d 10 ≡ false
digit_no_newline d h = grind (arith, nat_tests)

pub count_joined : (a b : List ℕ) → line_count (a ++ b) ≡ line_count a + line_count b
count_joined [] b = omega arith
count_joined (x ∷ a) b = count_cell (eqb x 10) (line_count (a ++ b)) (line_count a) (line_count b) (count_joined a b)

both : (a b : Bool) → (a && b) ≡ true → (a ≡ true) × (b ≡ true)
both true b e = (refl, e)
both false b e = absurd cc

count_digits : (ds : List ℕ) → list_all is_ascii_digit ds ≡ true → line_count ds ≡ 0
count_digits [] h = refl
count_digits (d ∷ ds) h =
    let p = both (is_ascii_digit d) (list_all is_ascii_digit ds) h in
    let other : eqb d 10 ≡ false = digit_no_newline d p.0 in
    ap (λ b. cond b (suc (line_count ds)) (line_count ds)) other ∙ count_digits ds p.1

count_decimal : (n : ℕ) → n < 2 ^ 62 → line_count (decimal n) ≡ 0
count_decimal n h = count_digits (decimal n) (digits_all n (omega arith))

plain_digit : (d : ℕ) → eqb (hex_digit d) 10 ≡ false
plain_digit d = grind (arith, nat_tests)

count_hex : (n : ℕ) → line_count (hex8 n) ≡ 0
count_hex n =
    rw (plain_digit (n / 268435456 % 16), plain_digit (n / 16777216 % 16), plain_digit (n / 1048576 % 16), plain_digit (n / 65536 % 16), plain_digit (n / 4096 % 16), plain_digit (n / 256 % 16), plain_digit (n / 16 % 16), plain_digit (n % 16)) refl

-- parts without a newline
pub both_plain : (a b : List ℕ) → line_count a ≡ 0 → line_count b ≡ 0 → line_count (a ++ b) ≡ 0
both_plain a b h k = omega (arith, count_joined a b)

count_field : (f : Field) → IsField f → line_count (field_text f) ≡ 0
count_field field.Count h = refl
count_field field.Pc h = refl
count_field (field.Reg register) h = count_decimal register (omega arith)
count_field (field.Byte addr) h = both_plain (codes "[" ++ hex8 addr) (codes "]") (both_plain (codes "[") (hex8 addr) refl (count_hex addr)) refl

count_cause : (why : Cause) → IsStop why → line_count (cause_text why) ≡ 0
count_cause (cause.Exited code) h = absurd h
count_cause cause.BadFetch h = refl
count_cause cause.Illegal h = refl
count_cause (cause.FloatingPoint opcode) h = count_hex opcode
count_cause (cause.Misaligned addr) h = count_hex addr
count_cause cause.Overflow h = refl
count_cause cause.DivideByZero h = refl
count_cause (cause.TextWrite addr) h = count_hex addr
count_cause cause.Break h = refl
count_cause (cause.TraceEnd used) h = count_decimal used (omega arith)
count_cause (cause.TraceMismatch f kept found) h =
    both_plain (codes "trace-mismatch " ++ field_text f ++ codes " " ++ decimal kept ++ codes " ") (decimal found)
    (both_plain (codes "trace-mismatch " ++ field_text f ++ codes " " ++ decimal kept) (codes " ")
    (both_plain (codes "trace-mismatch " ++ field_text f ++ codes " ") (decimal kept)
    (both_plain (codes "trace-mismatch " ++ field_text f) (codes " ") (both_plain (codes "trace-mismatch ") (field_text f) refl (count_field f h.0)) refl)
    (count_decimal kept h.1)) refl)
    (count_decimal found h.2)

count_word : (end : EndWord) → IsEnd end → line_count (word_text end) ≡ 0
count_word (word.Exited code) h = count_decimal code (omega arith)
count_word word.Budget h = refl
count_word (word.Stopped pc icnt why) h =
    ap line_count (stop_text_is pc icnt why h.2)
    ∙ both_plain (codes "stopped " ++ hex8 pc ++ codes " " ++ decimal icnt ++ codes " ") (cause_text why)
    (both_plain (codes "stopped " ++ hex8 pc ++ codes " " ++ decimal icnt) (codes " ")
    (both_plain (codes "stopped " ++ hex8 pc ++ codes " ") (decimal icnt)
    (both_plain (codes "stopped " ++ hex8 pc) (codes " ") (count_hex pc) refl)
    (count_decimal icnt h.1)) refl)
    (count_cause why h.2)

count_mark : (row : ℕ) (m : Mark) → row < 2 ^ 62 → IsMark m → line_count (mark_text row m) ≡ 0
count_mark row mark.Committed h k = count_decimal row h
count_mark row mark.Written h k = count_decimal row h
count_mark row mark.Returned h k = count_decimal row h
count_mark row mark.Squashed h k = count_decimal row h
count_mark row mark.Issued h k = count_decimal row h
count_mark row mark.Accessed h k = count_decimal row h
count_mark row mark.Dispatched h k = count_decimal row h
count_mark row (mark.Fetched pc next queued) h k =
    both_plain (codes "+ " ++ decimal row ++ (codes " " ++ hex8 pc) ++ (codes " " ++ hex8 next)) (codes " " ++ decimal queued)
    (both_plain (codes "+ " ++ decimal row ++ (codes " " ++ hex8 pc)) (codes " " ++ hex8 next)
    (both_plain (codes "+ " ++ decimal row) (codes " " ++ hex8 pc) (count_decimal row h) (count_hex pc)) (count_hex next))
    (count_decimal queued k.2)

pub count_body : (l : Line) → FitsLine l → line_count (line_body l) ≡ 0
count_body (line.Cycle c) h = count_decimal c h
count_body (line.Act row m) h = count_mark row m h.0 h.1
count_body (line.End n end) h =
    both_plain (codes ". " ++ decimal n ++ codes " ") (word_text end) (both_plain (codes ". " ++ decimal n) (codes " ") (count_decimal n h.0) refl) (count_word end h.1)

pub count_line : (l : Line) → FitsLine l → line_count (line_text l) ≡ 1
count_line l h = let k : line_count (line_body l ++ codes "\n") ≡ line_count (line_body l) + 1 = count_joined (line_body l) (codes "\n") in omega (arith, k, count_body l h)
