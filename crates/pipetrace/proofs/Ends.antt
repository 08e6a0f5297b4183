-- The words of an end that are read are those that were printed.
use Rattle.std.proofs.Common.{◌≡◌, ◌++◌, ◌∙◌, ◌+◌, ◌/◌, ◌%◌, ◌^◌, ◌<◌, ℕ, List, ◌∷◌, Option, Some, None, refl, sym, ap, subst, append_assoc, decimal, arith, inl, inr}
use Rattle.std.specs.Prelude.{codes}
use Rattle.ss_base.specs.Text.{hex8, hex_digit}
use Rattle.pisa_step.specs.declared.cause.Cause.{Cause}
use Rattle.pisa_step.specs.declared.cause.Cause.TheVariants as cause
use Rattle.pisa_step.specs.declared.cause.Field.{Field}
use Rattle.pisa_step.specs.declared.cause.Field.TheVariants as field
use Rattle.sim_safe.specs.Ends.{field_text, cause_text}
use Rattle.ooo_table.specs.declared.event.EndWord.{EndWord}
use Rattle.ooo_table.specs.declared.event.EndWord.TheVariants as word
use Rattle.pipetrace.specs.Text.{word_text}
use Rattle.pipetrace.specs.Grammar.{IsEnd, IsField, IsStop}
use Rattle.pipetrace.specs.Reading.{digit_count, behind, number_at, count_at, half_at, address_at, first_of, else_of, register_at, place_at, field_at, mismatch_at, trace_end_at, floating_at, misaligned_at, text_write_at, fetch_cause_at, arithmetic_cause_at, word_cause_at, address_cause_at, trace_cause_at, cause_at, stop_at, exit_at, word_at}
use Rattle.pipetrace.proofs.Words.{bind_some, some_is, first_is, else_is, behind_is}
use Rattle.pipetrace.proofs.Numbers.{number_is, number_again, half_is, half_again, address_is, address_again, hex4}

-- one part behind the other
pub joined : (a x b y c : List ℕ) → a ≡ x ++ b → b ≡ y ++ c → a ≡ (x ++ y) ++ c
joined a x b y c p q = p ∙ ap (λ t. x ++ t) q ∙ sym (append_assoc x y c)

-- ---- fields of a recorded call

abbrev FieldTaken : List ℕ → Field × List ℕ → Type 0
FieldTaken bytes y = (bytes ≡ field_text y.0 ++ y.1) × IsField y.0

register_is : (bytes : List ℕ) (y : Field × List ℕ) → register_at bytes ≡ Some y → FieldTaken bytes y
unfolding register_at
register_is bytes y e =
    let p = bind_some (behind (codes "r") bytes) _ y e in
    let q = bind_some (number_at 256 p.0) _ y p.2 in
    let n = number_is 256 p.0 q.0.0 q.0.1 (omega arith) q.1 in
    subst (λ z. FieldTaken bytes z) (some_is (field.Reg q.0.0, q.0.1) y q.2)
    (joined bytes (codes "r") p.0 (decimal q.0.0) q.0.1 (behind_is (codes "r") bytes p.0 p.1) n.0, n.1)

place_is : (bytes : List ℕ) (y : Field × List ℕ) → place_at bytes ≡ Some y → FieldTaken bytes y
unfolding place_at
place_is bytes y e =
    let p = bind_some (behind (codes "[") bytes) _ y e in
    let q = bind_some (address_at p.0) _ y p.2 in
    let r = bind_some (behind (codes "]") q.0.1) _ y q.2 in
    let n = address_is p.0 q.0.0 q.0.1 q.1 in
    subst (λ z. FieldTaken bytes z) (some_is (field.Byte q.0.0, r.0) y r.2)
    (joined bytes (codes "[" ++ hex8 q.0.0) q.0.1 (codes "]") r.0 (joined bytes (codes "[") p.0 (hex8 q.0.0) q.0.1 (behind_is (codes "[") bytes p.0 p.1) n.0) (behind_is (codes "]") q.0.1 r.0 r.1), n.1)

-- a word that was found
found_word : {A : Type 0} (text : A → List ℕ) (w bytes : List ℕ) (x : A) (y : A × List ℕ) → text x ≡ w → (behind w bytes ≡ Some y.1) × (y.0 ≡ x) → bytes ≡ text y.0 ++ y.1
found_word text w bytes x y e p = behind_is w bytes y.1 p.0 ∙ ap (λ l. l ++ y.1) (sym e ∙ ap text (sym p.1))

pub field_is : (bytes : List ℕ) (y : Field × List ℕ) → field_at bytes ≡ Some y → FieldTaken bytes y
unfolding field_at
field_is bytes y e =
    elim (first_is (behind (codes "count") bytes) field.Count _ y e) [
      | inl p ↦ (found_word field_text (codes "count") bytes field.Count y refl p, subst IsField (sym p.1) tt)
      | inr f ↦ elim (first_is (behind (codes "pc") bytes) field.Pc _ y f) [
        | inl p ↦ (found_word field_text (codes "pc") bytes field.Pc y refl p, subst IsField (sym p.1) tt)
        | inr g ↦ elim (else_is (register_at bytes) (place_at bytes) y g) [ inl p ↦ register_is bytes y p | inr p ↦ place_is bytes y p ]
      ]
    ]

pub field_again : (f : Field) (rest : List ℕ) → IsField f → digit_count rest ≡ 0 → field_at (field_text f ++ rest) ≡ Some (f, rest)
unfolding field_at register_at place_at behind
field_again field.Count rest h ends = refl
field_again field.Pc rest h ends = refl
field_again (field.Reg register) rest h ends = rw (number_again 256 register rest (omega arith) h ends) refl
field_again (field.Byte addr) rest h ends = rw (address_again addr (93 ∷ rest) h) refl

-- ---- causes

abbrev CauseTaken : List ℕ → Cause × List ℕ → Type 0
CauseTaken bytes y = (bytes ≡ cause_text y.0 ++ y.1) × IsStop y.0

mismatch_is : (bytes : List ℕ) (y : Cause × List ℕ) → mismatch_at bytes ≡ Some y → CauseTaken bytes y
unfolding mismatch_at
mismatch_is bytes y e =
    let p = bind_some (behind (codes "trace-mismatch ") bytes) _ y e in
    let q = bind_some (field_at p.0) _ y p.2 in
    let r = bind_some (behind (codes " ") q.0.1) _ y q.2 in
    let s = bind_some (count_at r.0) _ y r.2 in
    let t = bind_some (behind (codes " ") s.0.1) _ y s.2 in
    let u = bind_some (count_at t.0) _ y t.2 in
    let f = field_is p.0 q.0 q.1 in
    let kept = number_is 4611686018427387904 r.0 s.0.0 s.0.1 (omega arith) s.1 in
    let found = number_is 4611686018427387904 t.0 u.0.0 u.0.1 (omega arith) u.1 in
    let a = joined bytes (codes "trace-mismatch ") p.0 (field_text q.0.0) q.0.1 (behind_is (codes "trace-mismatch ") bytes p.0 p.1) f.0 in
    let b = joined bytes (codes "trace-mismatch " ++ field_text q.0.0) q.0.1 (codes " ") r.0 a (behind_is (codes " ") q.0.1 r.0 r.1) in
    let c = joined bytes (codes "trace-mismatch " ++ field_text q.0.0 ++ codes " ") r.0 (decimal s.0.0) s.0.1 b kept.0 in
    let d = joined bytes (codes "trace-mismatch " ++ field_text q.0.0 ++ codes " " ++ decimal s.0.0) s.0.1 (codes " ") t.0 c (behind_is (codes " ") s.0.1 t.0 t.1) in
    let g = joined bytes (codes "trace-mismatch " ++ field_text q.0.0 ++ codes " " ++ decimal s.0.0 ++ codes " ") t.0 (decimal u.0.0) u.0.1 d found.0 in
    subst (λ z. CauseTaken bytes z) (some_is (cause.TraceMismatch q.0.0 s.0.0 u.0.0, u.0.1) y u.2) (g, (f.1, kept.1, found.1))

trace_end_is : (bytes : List ℕ) (y : Cause × List ℕ) → trace_end_at bytes ≡ Some y → CauseTaken bytes y
unfolding trace_end_at
trace_end_is bytes y e =
    let p = bind_some (behind (codes "trace-end ") bytes) _ y e in
    let q = bind_some (number_at 4294967296 p.0) _ y p.2 in
    let n = number_is 4294967296 p.0 q.0.0 q.0.1 (omega arith) q.1 in
    subst (λ z. CauseTaken bytes z) (some_is (cause.TraceEnd q.0.0, q.0.1) y q.2)
    (joined bytes (codes "trace-end ") p.0 (decimal q.0.0) q.0.1 (behind_is (codes "trace-end ") bytes p.0 p.1) n.0, n.1)

first_four : (a b c d : ℕ) (rest : List ℕ) → 0 ≡ a → 0 ≡ b → 0 ≡ c → 0 ≡ d → codes "0000" ++ rest ≡ hex_digit a ∷ hex_digit b ∷ hex_digit c ∷ hex_digit d ∷ rest
first_four a b c d rest e f g h = rw (← e, ← f, ← g, ← h) refl

zeros : (n : ℕ) (rest : List ℕ) → n < 65536 → codes "0000" ++ (hex4 n ++ rest) ≡ hex8 n ++ rest
zeros n rest h =
    let a : 0 ≡ n / 268435456 % 16 = omega arith in
    let b : 0 ≡ n / 16777216 % 16 = omega arith in
    let c : 0 ≡ n / 1048576 % 16 = omega arith in
    let d : 0 ≡ n / 65536 % 16 = omega arith in
    first_four (n / 268435456 % 16) (n / 16777216 % 16) (n / 1048576 % 16) (n / 65536 % 16) (hex4 n ++ rest) a b c d

floating_is : (bytes : List ℕ) (y : Cause × List ℕ) → floating_at bytes ≡ Some y → CauseTaken bytes y
unfolding floating_at
floating_is bytes y e =
    let p = bind_some (behind (codes "floating-point 0000") bytes) _ y e in
    let q = bind_some (half_at p.0) _ y p.2 in
    let n = half_is p.0 q.0.0 q.0.1 q.1 in
    subst (λ z. CauseTaken bytes z) (some_is (cause.FloatingPoint q.0.0, q.0.1) y q.2)
    (behind_is (codes "floating-point 0000") bytes p.0 p.1 ∙ ap (λ l. codes "floating-point 0000" ++ l) n.0 ∙ ap (λ l. codes "floating-point " ++ l) (zeros q.0.0 q.0.1 n.1) ∙ sym (append_assoc (codes "floating-point ") (hex8 q.0.0) q.0.1), n.1)

misaligned_is : (bytes : List ℕ) (y : Cause × List ℕ) → misaligned_at bytes ≡ Some y → CauseTaken bytes y
unfolding misaligned_at
misaligned_is bytes y e =
    let p = bind_some (behind (codes "misaligned ") bytes) _ y e in
    let q = bind_some (address_at p.0) _ y p.2 in
    let n = address_is p.0 q.0.0 q.0.1 q.1 in
    subst (λ z. CauseTaken bytes z) (some_is (cause.Misaligned q.0.0, q.0.1) y q.2)
    (joined bytes (codes "misaligned ") p.0 (hex8 q.0.0) q.0.1 (behind_is (codes "misaligned ") bytes p.0 p.1) n.0, n.1)

text_write_is : (bytes : List ℕ) (y : Cause × List ℕ) → text_write_at bytes ≡ Some y → CauseTaken bytes y
unfolding text_write_at
text_write_is bytes y e =
    let p = bind_some (behind (codes "text-write ") bytes) _ y e in
    let q = bind_some (address_at p.0) _ y p.2 in
    let n = address_is p.0 q.0.0 q.0.1 q.1 in
    subst (λ z. CauseTaken bytes z) (some_is (cause.TextWrite q.0.0, q.0.1) y q.2)
    (joined bytes (codes "text-write ") p.0 (hex8 q.0.0) q.0.1 (behind_is (codes "text-write ") bytes p.0 p.1) n.0, n.1)

cause_word : (w bytes : List ℕ) (x : Cause) (y : Cause × List ℕ) → cause_text x ≡ w → IsStop x → (behind w bytes ≡ Some y.1) × (y.0 ≡ x) → CauseTaken bytes y
cause_word w bytes x y e fits p = (found_word cause_text w bytes x y e p, subst IsStop (sym p.1) fits)

abbrev nothing : Option (Cause × List ℕ)
nothing = None

no_cause : (y : Cause × List ℕ) → nothing ≡ Some y → ⊥
no_cause y e = cc

fetch_cause_is : (bytes : List ℕ) (y : Cause × List ℕ) → fetch_cause_at bytes ≡ Some y → CauseTaken bytes y
unfolding fetch_cause_at
fetch_cause_is bytes y e =
    elim (first_is (behind (codes "bad-fetch") bytes) cause.BadFetch (first_of (behind (codes "illegal") bytes) cause.Illegal None) y e) [
      | inl p ↦ cause_word (codes "bad-fetch") bytes cause.BadFetch y refl tt p
      | inr f ↦ elim (first_is (behind (codes "illegal") bytes) cause.Illegal None y f) [
        | inl p ↦ cause_word (codes "illegal") bytes cause.Illegal y refl tt p
        | inr g ↦ absurd (no_cause y g)
      ]
    ]

arithmetic_cause_is : (bytes : List ℕ) (y : Cause × List ℕ) → arithmetic_cause_at bytes ≡ Some y → CauseTaken bytes y
unfolding arithmetic_cause_at
arithmetic_cause_is bytes y e =
    elim (first_is (behind (codes "overflow") bytes) cause.Overflow (first_of (behind (codes "divide-by-zero") bytes) cause.DivideByZero None) y e) [
      | inl p ↦ cause_word (codes "overflow") bytes cause.Overflow y refl tt p
      | inr f ↦ elim (first_is (behind (codes "divide-by-zero") bytes) cause.DivideByZero None y f) [
        | inl p ↦ cause_word (codes "divide-by-zero") bytes cause.DivideByZero y refl tt p
        | inr g ↦ absurd (no_cause y g)
      ]
    ]

word_cause_is : (bytes : List ℕ) (y : Cause × List ℕ) → word_cause_at bytes ≡ Some y → CauseTaken bytes y
unfolding word_cause_at
word_cause_is bytes y e =
    elim (first_is (behind (codes "break") bytes) cause.Break (else_of (fetch_cause_at bytes) (arithmetic_cause_at bytes)) y e) [
      | inl p ↦ cause_word (codes "break") bytes cause.Break y refl tt p
      | inr f ↦ elim (else_is (fetch_cause_at bytes) (arithmetic_cause_at bytes) y f) [ inl p ↦ fetch_cause_is bytes y p | inr p ↦ arithmetic_cause_is bytes y p ]
    ]

address_cause_is : (bytes : List ℕ) (y : Cause × List ℕ) → address_cause_at bytes ≡ Some y → CauseTaken bytes y
unfolding address_cause_at
address_cause_is bytes y e =
    elim (else_is (floating_at bytes) (else_of (misaligned_at bytes) (text_write_at bytes)) y e) [
      | inl p ↦ floating_is bytes y p
      | inr f ↦ elim (else_is (misaligned_at bytes) (text_write_at bytes) y f) [ inl p ↦ misaligned_is bytes y p | inr p ↦ text_write_is bytes y p ]
    ]

trace_cause_is : (bytes : List ℕ) (y : Cause × List ℕ) → trace_cause_at bytes ≡ Some y → CauseTaken bytes y
unfolding trace_cause_at
trace_cause_is bytes y e = elim (else_is (trace_end_at bytes) (mismatch_at bytes) y e) [ inl p ↦ trace_end_is bytes y p | inr p ↦ mismatch_is bytes y p ]

cause_is : (bytes : List ℕ) (y : Cause × List ℕ) → cause_at bytes ≡ Some y → CauseTaken bytes y
unfolding cause_at
cause_is bytes y e =
    elim (else_is (word_cause_at bytes) (else_of (address_cause_at bytes) (trace_cause_at bytes)) y e) [
      | inl p ↦ word_cause_is bytes y p
      | inr f ↦ elim (else_is (address_cause_at bytes) (trace_cause_at bytes) y f) [ inl p ↦ address_cause_is bytes y p | inr p ↦ trace_cause_is bytes y p ]
    ]

mismatch_again : (f : Field) (kept found : ℕ) (rest : List ℕ) → IsField f → kept < 2 ^ 62 → found < 2 ^ 62 → digit_count rest ≡ 0
    → mismatch_at (codes "trace-mismatch " ++ (field_text f ++ (codes " " ++ (decimal kept ++ (codes " " ++ (decimal found ++ rest)))))) ≡ Some (cause.TraceMismatch f kept found, rest)
unfolding mismatch_at behind
mismatch_again f kept found rest h k l ends =
    rw (field_again f (codes " " ++ (decimal kept ++ (codes " " ++ (decimal found ++ rest)))) h refl, number_again 4611686018427387904 kept (codes " " ++ (decimal found ++ rest)) (omega arith) k refl, number_again 4611686018427387904 found rest (omega arith) l ends) refl

six : (a b c d e f rest : List ℕ) → (a ++ b ++ c ++ d ++ e ++ f) ++ rest ≡ a ++ (b ++ (c ++ (d ++ (e ++ (f ++ rest)))))
six a b c d e f rest = simp append_assoc

pub cause_again : (why : Cause) (rest : List ℕ) → IsStop why → digit_count rest ≡ 0 → cause_at (cause_text why ++ rest) ≡ Some (why, rest)
unfolding cause_at word_cause_at fetch_cause_at arithmetic_cause_at address_cause_at trace_cause_at floating_at misaligned_at text_write_at trace_end_at behind
cause_again (cause.Exited code) rest h ends = absurd h
cause_again cause.BadFetch rest h ends = refl
cause_again cause.Illegal rest h ends = refl
cause_again (cause.FloatingPoint opcode) rest h ends =
    ap (λ l. cause_at (codes "floating-point " ++ l)) (sym (zeros opcode rest h)) ∙ rw (half_again opcode rest h) refl
cause_again (cause.Misaligned addr) rest h ends = rw (address_again addr rest h) refl
cause_again cause.Overflow rest h ends = refl
cause_again cause.DivideByZero rest h ends = refl
cause_again (cause.TextWrite addr) rest h ends = rw (address_again addr rest h) refl
cause_again cause.Break rest h ends = refl
cause_again (cause.TraceEnd used) rest h ends = rw (number_again 4294967296 used rest (omega arith) h ends) refl
cause_again (cause.TraceMismatch f kept found) rest h ends =
    ap cause_at (six (codes "trace-mismatch ") (field_text f) (codes " ") (decimal kept) (codes " ") (decimal found) rest)
    ∙ mismatch_again f kept found rest h.0 h.1 h.2 ends

-- ---- ends

abbrev pub EndTaken : List ℕ → EndWord × List ℕ → Type 0
EndTaken bytes y = (bytes ≡ word_text y.0 ++ y.1) × IsEnd y.0

-- a stop is told as one where its cause is no exit
pub stop_text_is : (pc icnt : ℕ) (why : Cause) → IsStop why → word_text (word.Stopped pc icnt why) ≡ codes "stopped " ++ hex8 pc ++ codes " " ++ decimal icnt ++ codes " " ++ cause_text why
stop_text_is pc icnt (cause.Exited code) h = absurd h
stop_text_is pc icnt cause.BadFetch h = refl
stop_text_is pc icnt cause.Illegal h = refl
stop_text_is pc icnt (cause.FloatingPoint opcode) h = refl
stop_text_is pc icnt (cause.Misaligned addr) h = refl
stop_text_is pc icnt cause.Overflow h = refl
stop_text_is pc icnt cause.DivideByZero h = refl
stop_text_is pc icnt (cause.TextWrite addr) h = refl
stop_text_is pc icnt cause.Break h = refl
stop_text_is pc icnt (cause.TraceEnd used) h = refl
stop_text_is pc icnt (cause.TraceMismatch f kept found) h = refl

stop_is : (bytes : List ℕ) (y : EndWord × List ℕ) → stop_at bytes ≡ Some y → EndTaken bytes y
unfolding stop_at
stop_is bytes y e =
    let p = bind_some (behind (codes "stopped ") bytes) _ y e in
    let q = bind_some (address_at p.0) _ y p.2 in
    let r = bind_some (behind (codes " ") q.0.1) _ y q.2 in
    let s = bind_some (count_at r.0) _ y r.2 in
    let t = bind_some (behind (codes " ") s.0.1) _ y s.2 in
    let u = bind_some (cause_at t.0) _ y t.2 in
    let pc = address_is p.0 q.0.0 q.0.1 q.1 in
    let icnt = number_is 4611686018427387904 r.0 s.0.0 s.0.1 (omega arith) s.1 in
    let why = cause_is t.0 u.0 u.1 in
    let a = joined bytes (codes "stopped ") p.0 (hex8 q.0.0) q.0.1 (behind_is (codes "stopped ") bytes p.0 p.1) pc.0 in
    let b = joined bytes (codes "stopped " ++ hex8 q.0.0) q.0.1 (codes " ") r.0 a (behind_is (codes " ") q.0.1 r.0 r.1) in
    let c = joined bytes (codes "stopped " ++ hex8 q.0.0 ++ codes " ") r.0 (decimal s.0.0) s.0.1 b icnt.0 in
    let d = joined bytes (codes "stopped " ++ hex8 q.0.0 ++ codes " " ++ decimal s.0.0) s.0.1 (codes " ") t.0 c (behind_is (codes " ") s.0.1 t.0 t.1) in
    let g = joined bytes (codes "stopped " ++ hex8 q.0.0 ++ codes " " ++ decimal s.0.0 ++ codes " ") t.0 (cause_text u.0.0) u.0.1 d why.0 in
    subst (λ z. EndTaken bytes z) (some_is (word.Stopped q.0.0 s.0.0 u.0.0, u.0.1) y u.2)
    (g ∙ ap (λ l. l ++ u.0.1) (sym (stop_text_is q.0.0 s.0.0 u.0.0 why.1)), (pc.1, icnt.1, why.1))

exit_is : (bytes : List ℕ) (y : EndWord × List ℕ) → exit_at bytes ≡ Some y → EndTaken bytes y
unfolding exit_at
exit_is bytes y e =
    let p = bind_some (behind (codes "exited ") bytes) _ y e in
    let q = bind_some (number_at 4294967296 p.0) _ y p.2 in
    let n = number_is 4294967296 p.0 q.0.0 q.0.1 (omega arith) q.1 in
    subst (λ z. EndTaken bytes z) (some_is (word.Exited q.0.0, q.0.1) y q.2)
    (joined bytes (codes "exited ") p.0 (decimal q.0.0) q.0.1 (behind_is (codes "exited ") bytes p.0 p.1) n.0, n.1)

pub word_is : (bytes : List ℕ) (y : EndWord × List ℕ) → word_at bytes ≡ Some y → EndTaken bytes y
unfolding word_at
word_is bytes y e =
    elim (first_is (behind (codes "budget") bytes) word.Budget (else_of (exit_at bytes) (stop_at bytes)) y e) [
      | inl p ↦ (found_word word_text (codes "budget") bytes word.Budget y refl p, subst IsEnd (sym p.1) tt)
      | inr f ↦ elim (else_is (exit_at bytes) (stop_at bytes) y f) [ inl p ↦ exit_is bytes y p | inr p ↦ stop_is bytes y p ]
    ]

stop_again : (pc icnt : ℕ) (why : Cause) (rest : List ℕ) → pc < 2 ^ 32 → icnt < 2 ^ 62 → IsStop why → digit_count rest ≡ 0
    → stop_at (codes "stopped " ++ (hex8 pc ++ (codes " " ++ (decimal icnt ++ (codes " " ++ (cause_text why ++ rest)))))) ≡ Some (word.Stopped pc icnt why, rest)
unfolding stop_at behind
stop_again pc icnt why rest h k l ends =
    rw (address_again pc (codes " " ++ (decimal icnt ++ (codes " " ++ (cause_text why ++ rest)))) h, number_again 4611686018427387904 icnt (codes " " ++ (cause_text why ++ rest)) (omega arith) k refl, cause_again why rest l ends) refl

pub word_again : (end : EndWord) (rest : List ℕ) → IsEnd end → digit_count rest ≡ 0 → word_at (word_text end ++ rest) ≡ Some (end, rest)
unfolding word_at exit_at behind
word_again (word.Exited code) rest h ends = rw (number_again 4294967296 code rest (omega arith) h ends) refl
word_again word.Budget rest h ends = refl
word_again (word.Stopped pc icnt why) rest h ends =
    ap (λ l. word_at (l ++ rest)) (stop_text_is pc icnt why h.2)
    ∙ ap word_at (six (codes "stopped ") (hex8 pc) (codes " ") (decimal icnt) (codes " ") (cause_text why) rest)
    ∙ stop_again pc icnt why rest h.0 h.1 h.2 ends
