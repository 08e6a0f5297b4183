-- What stands before the pages is read as it was written.
use Rattle.std.proofs.Common.{◌≡◌, ℕ, zero, suc, ◌+◌, ◌-◌, ◌*◌, ◌^◌, ◌<◌, ◌≤◌, ◌⊎◌, Bool, true, false, ◌&&◌, cond, ltb, eqb, Option, Some, None, List, [], ◌∷◌, ◌++◌, length, get_or, take, drop, Result, Ok, Err, refl, sym, ap, subst, ◌∙◌, append_assoc, append-nil, arith, inl, inr}
use Rattle.std.specs.Int.{w32, w64, to_le_bytes}
use Rattle.std.specs.List.{flat_map, AllByRecursion}
use Rattle.std.proofs.lemmas.Bool.{ltb-false, le-ltb, eqb-true}
use Rattle.std.proofs.lemmas.List.{length-append}
use Rattle.ss_base.specs.Text.{word_at, double_at}
use Rattle.event_trace.specs.Grammar.{order_number, order_bytes, IsVersion}
use Rattle.event_trace.proofs.Fields.{IsBytes, IsBytes-drop, Takes, word_parts, double_parts, word_below, word_again, double_again}
use Rattle.checkpoint.specs.declared.fault.PointWhy.TheVariants as why
use Rattle.checkpoint.specs.declared.point.Head.{Head}
use Rattle.checkpoint.specs.declared.head_reading.Start.{Start}
use Rattle.checkpoint.specs.Grammar.{magic, ended_words, head_words, head_bytes, IsCode, IsHead}
use Rattle.checkpoint.specs.Reading.{Refusal, ◌>>=◌, refuse, Check, check, judged, version_of, head_checks, order_checks, words_at, ended_of, head_of, start_of, head_check, start_at}
use Rattle.checkpoint.proofs.Checks.{bind_ok, ok_is, Passed, first_passed, first_passes, not_second, not_both}
use Rattle.checkpoint.proofs.Words.{all_words, words_parts, words_below, words_count, words_again, halves}

chosen : {A : Type 0} (b : Bool) (x y z : A) → cond b x y ≡ z → ((b ≡ true) × (x ≡ z)) ⊎ ((b ≡ false) × (y ≡ z))
chosen true x y z e = inl (refl, e)
chosen false x y z e = inr (refl, e)

-- which magic a version tells of
magic_one : (b c : Bool) → eqb (cond b 1 (cond c 2 0)) 1 ≡ true → b ≡ true
magic_one true c e = refl
magic_one false true e = absurd cc
magic_one false false e = absurd cc

magic_two : (b c : Bool) → eqb (cond b 1 (cond c 2 0)) 0 ≡ false → eqb (cond b 1 (cond c 2 0)) 1 ≡ false → c ≡ true
magic_two true c e f = absurd cc
magic_two false true e f = refl
magic_two false false e f = absurd cc

order_again : (n : ℕ) → n ≤ 1 → order_number (eqb n 1) ≡ n
order_again zero le = refl
order_again (suc zero) le = refl
order_again (suc (suc n)) le = absurd (omega arith)

pub order_one : (big : Bool) → eqb (order_number big) 1 ≡ big
order_one true = refl
order_one false = refl

pub order_low : (big : Bool) → order_number big ≤ 1
order_low true = omega arith
order_low false = omega arith

-- ---- the checks

pub record HeadFits (bytes : List ℕ) : Type 0 where
  pub there : 180 ≤ length bytes
  pub version : eqb (version_of bytes) 0 ≡ false
  pub icnt : double_at bytes 8 ≤ 10 ^ 15
  pub zero : word_at bytes 20 ≡ 0
  pub ended : word_at bytes 160 ≤ 1
  pub code : word_at bytes 160 ≡ 0 → word_at bytes 164 ≡ 0
  pub count : word_at bytes 176 ≤ 65536

no_more : (n : ℕ) → ltb 0 n ≡ false → n ≡ 0
no_more n e = omega (arith, ltb-false 0 n e)

is_true : (n : ℕ) → n ≡ 0 → eqb n 0 ≡ true
is_true n e = ap (λ (k : ℕ). eqb k 0) e

pub head_passes : (bytes : List ℕ) → head_check bytes ≡ Ok tt → HeadFits bytes
unfolding head_check
head_passes bytes e =
    let c0 : Check = check 0 8 (eqb (version_of bytes) 0) why.Magic in
    let c1 : Check = check 8 16 (ltb (10 ^ 15) (double_at bytes 8)) why.Count in
    let c2 : Check = check 20 24 (ltb 0 (word_at bytes 20)) why.Register in
    let c3 : Check = check 160 164 (ltb 1 (word_at bytes 160)) why.Ended in
    let c4 : Check = check 164 168 (eqb (word_at bytes 160) 0 && ltb 0 (word_at bytes 164)) why.Ended in
    let c5 : Check = check 176 180 (ltb 65536 (word_at bytes 176)) why.Pages in
    let p0 = first_passed bytes c0 (c1 ∷ c2 ∷ c3 ∷ c4 ∷ c5 ∷ []) e in
    let p1 = first_passed bytes c1 (c2 ∷ c3 ∷ c4 ∷ c5 ∷ []) p0.others in
    let p2 = first_passed bytes c2 (c3 ∷ c4 ∷ c5 ∷ []) p1.others in
    let p3 = first_passed bytes c3 (c4 ∷ c5 ∷ []) p2.others in
    let p4 = first_passed bytes c4 (c5 ∷ []) p3.others in
    let p5 = first_passed bytes c5 [] p4.others in
    record {
      there = p5.there;
      version = p0.holds;
      icnt = ltb-false (10 ^ 15) (double_at bytes 8) p1.holds;
      zero = no_more (word_at bytes 20) p2.holds;
      ended = ltb-false 1 (word_at bytes 160) p3.holds;
      code = λ z. no_more (word_at bytes 164) (not_second (eqb (word_at bytes 160) 0) (ltb 0 (word_at bytes 164)) p4.holds (is_true (word_at bytes 160) z));
      count = ltb-false 65536 (word_at bytes 176) p5.holds;
    }

pub head_ok : (bytes : List ℕ) (icnt ended code count : ℕ) → 180 ≤ length bytes → eqb (version_of bytes) 0 ≡ false → double_at bytes 8 ≡ icnt → word_at bytes 20 ≡ 0 → word_at bytes 160 ≡ ended → word_at bytes 164 ≡ code → word_at bytes 176 ≡ count → icnt ≤ 10 ^ 15 → ended ≤ 1 → (ended ≡ 0 → code ≡ 0) → count ≤ 65536 → head_check bytes ≡ Ok tt
unfolding head_check
head_ok bytes icnt ended code count there version e8 e20 e160 e164 e176 l8 l160 l164 l176 =
    let c0 : Check = check 0 8 (eqb (version_of bytes) 0) why.Magic in
    let c1 : Check = check 8 16 (ltb (10 ^ 15) (double_at bytes 8)) why.Count in
    let c2 : Check = check 20 24 (ltb 0 (word_at bytes 20)) why.Register in
    let c3 : Check = check 160 164 (ltb 1 (word_at bytes 160)) why.Ended in
    let c4 : Check = check 164 168 (eqb (word_at bytes 160) 0 && ltb 0 (word_at bytes 164)) why.Ended in
    let c5 : Check = check 176 180 (ltb 65536 (word_at bytes 176)) why.Pages in
    let t1 : c1.fails ≡ false = ap (λ (n : ℕ). ltb (10 ^ 15) n) e8 ∙ le-ltb (10 ^ 15) icnt l8 in
    let t2 : c2.fails ≡ false = ap (λ (n : ℕ). ltb 0 n) e20 in
    let t3 : c3.fails ≡ false = ap (λ (n : ℕ). ltb 1 n) e160 ∙ le-ltb 1 ended l160 in
    let t4 : c4.fails ≡ false = not_both (eqb (word_at bytes 160) 0) (ltb 0 (word_at bytes 164)) (λ z. ap (λ (n : ℕ). ltb 0 n) (e164 ∙ l164 (sym e160 ∙ eqb-true (word_at bytes 160) 0 z))) in
    let t5 : c5.fails ≡ false = ap (λ (n : ℕ). ltb 65536 n) e176 ∙ le-ltb 65536 count l176 in
    first_passes bytes c0 (c1 ∷ c2 ∷ c3 ∷ c4 ∷ c5 ∷ []) (omega (arith, there)) version (
    first_passes bytes c1 (c2 ∷ c3 ∷ c4 ∷ c5 ∷ []) (omega (arith, there)) t1 (
    first_passes bytes c2 (c3 ∷ c4 ∷ c5 ∷ []) (omega (arith, there)) t2 (
    first_passes bytes c3 (c4 ∷ c5 ∷ []) (omega (arith, there)) t3 (
    first_passes bytes c4 (c5 ∷ []) (omega (arith, there)) t4 (
    first_passes bytes c5 [] there t5 refl)))))

-- ---- the words

ended_read : (ended code : ℕ) → ended ≤ 1 → (ended ≡ 0 → code ≡ 0) → ended_words (ended_of ended code) ≡ ended ∷ code ∷ []
ended_read zero code le f = ap (λ (c : ℕ). 0 ∷ c ∷ []) (sym (f refl))
ended_read (suc zero) code le f = refl
ended_read (suc (suc n)) code le f = absurd (omega arith)

code_by : (b : Bool) (code : ℕ) → code < 2 ^ 32 → IsCode (cond b None (Some code))
code_by true code lt = tt
code_by false code lt = lt

code_below : (ended code : ℕ) → code < 2 ^ 32 → IsCode (ended_of ended code)
code_below ended code lt = code_by (eqb ended 0) code lt

words_read : (version : ℕ) (big : Bool) (bytes : List ℕ) → HeadFits bytes → head_words (head_of version big bytes) (word_at bytes 176) ≡ words_at 41 bytes 16
words_read version big bytes f =
    let w = λ (at : ℕ). word_at bytes at in
    let text = λ (z : ℕ) (e : List ℕ). (w 16 ∷ z ∷ []) ++ words_at 31 bytes 24 ++ (w 148 ∷ w 152 ∷ w 156 ∷ []) ++ e ++ (w 168 ∷ w 172 ∷ w 176 ∷ []) in
    ap (λ (z : ℕ). text z (ended_words (ended_of (w 160) (w 164)))) (sym f.zero)
    ∙ ap (λ (e : List ℕ). text (w 20) e) (ended_read (w 160) (w 164) f.ended f.code)

pub head_fits : (version : ℕ) (big : Bool) (bytes : List ℕ) → IsBytes bytes → IsVersion version big → IsHead (head_of version big bytes)
head_fits version big bytes fits v = record {
  version = v;
  pc = word_below bytes 16 fits;
  count = words_count 31 bytes 24;
  regs = words_below 31 bytes 24 fits;
  hi = word_below bytes 148 fits;
  lo = word_below bytes 152 fits;
  used = word_below bytes 156 fits;
  code = code_below (word_at bytes 160) (word_at bytes 164) (word_below bytes 164 fits);
  text_start = word_below bytes 168 fits;
  text_length = word_below bytes 172 fits;
}

-- ---- the whole head

abbrev pub one_magic : ℕ
one_magic = 0x313030304b484350

abbrev pub two_magic : ℕ
two_magic = 0x323030304b484350

regroup : (a b c d rest : List ℕ) → a ++ (b ++ (c ++ (d ++ rest))) ≡ (((a ++ b) ++ c) ++ d) ++ rest
regroup a b c d rest = simp append_assoc

-- the magic, the number of instructions and the words in front
front_parts : (version : ℕ) (big : Bool) (bytes : List ℕ) (number : ℕ) → IsBytes bytes → HeadFits bytes → double_at bytes 0 ≡ number
    → bytes ≡ to_le_bytes w64 number ++ (to_le_bytes w64 (double_at bytes 8) ++ (all_words (head_words (head_of version big bytes) (word_at bytes 176)) ++ drop 180 bytes))
front_parts version big bytes number fits f e =
    let icnt = to_le_bytes w64 (double_at bytes 8) in
    let words : drop 16 bytes ≡ all_words (words_at 41 bytes 16) ++ drop 180 bytes = words_parts 41 bytes 16 fits f.there in
    let head : drop 16 bytes ≡ all_words (head_words (head_of version big bytes) (word_at bytes 176)) ++ drop 180 bytes = words ∙ ap (λ (ws : List ℕ). all_words ws ++ drop 180 bytes) (sym (words_read version big bytes f)) in
    double_parts bytes 0 fits (omega (arith, f.there))
    ∙ ap (λ (n : ℕ). to_le_bytes w64 n ++ drop 8 bytes) e
    ∙ ap (λ (x : List ℕ). to_le_bytes w64 number ++ x) (double_parts bytes 8 fits (omega (arith, f.there)) ∙ ap (λ (x : List ℕ). icnt ++ x) head)

pub record StartTakes (bytes : List ℕ) (s : Start) (rest : List ℕ) : Type 0 where
  pub takes : Takes bytes (head_bytes s.head s.count) rest
  pub head : IsHead s.head
  pub icnt : s.head.icnt ≤ 10 ^ 15
  pub count : s.count ≤ 65536

start_one : (bytes : List ℕ) → IsBytes bytes → HeadFits bytes → double_at bytes 0 ≡ one_magic → StartTakes bytes (start_of 1 false bytes) (drop 180 bytes)
start_one bytes fits f e =
    let words = all_words (head_words (head_of 1 false bytes) (word_at bytes 176)) in
    let parts : bytes ≡ (((to_le_bytes w64 one_magic ++ to_le_bytes w64 (double_at bytes 8)) ++ words) ++ []) ++ drop 180 bytes = front_parts 1 false bytes one_magic fits f e ∙ regroup (to_le_bytes w64 one_magic) (to_le_bytes w64 (double_at bytes 8)) words [] (drop 180 bytes) in
    record { takes = record { parts = parts; rest_fits = IsBytes-drop 180 bytes fits }; head = head_fits 1 false bytes fits (inl (refl, refl)); icnt = f.icnt; count = f.count }

start_two : (bytes : List ℕ) → IsBytes bytes → HeadFits bytes → 184 ≤ length bytes → word_at bytes 180 ≤ 1 → double_at bytes 0 ≡ two_magic → StartTakes bytes (start_of 2 (eqb (word_at bytes 180) 1) bytes) (drop 184 bytes)
start_two bytes fits f there low e =
    let big = eqb (word_at bytes 180) 1 in
    let words = all_words (head_words (head_of 2 big bytes) (word_at bytes 176)) in
    let order : drop 180 bytes ≡ to_le_bytes w32 (order_number big) ++ drop 184 bytes = word_parts bytes 180 fits there ∙ ap (λ (n : ℕ). to_le_bytes w32 n ++ drop 184 bytes) (sym (order_again (word_at bytes 180) low)) in
    let front = λ (x : List ℕ). to_le_bytes w64 two_magic ++ (to_le_bytes w64 (double_at bytes 8) ++ (words ++ x)) in
    let parts : bytes ≡ (((to_le_bytes w64 two_magic ++ to_le_bytes w64 (double_at bytes 8)) ++ words) ++ to_le_bytes w32 (order_number big)) ++ drop 184 bytes =
    front_parts 2 big bytes two_magic fits f e ∙ ap front order ∙ regroup (to_le_bytes w64 two_magic) (to_le_bytes w64 (double_at bytes 8)) words (to_le_bytes w32 (order_number big)) (drop 184 bytes) in
    record { takes = record { parts = parts; rest_fits = IsBytes-drop 184 bytes fits }; head = head_fits 2 big bytes fits (inr refl); icnt = f.icnt; count = f.count }

pub start_takes : (bytes : List ℕ) (s : Start) (rest : List ℕ) → IsBytes bytes → start_at bytes ≡ Ok (s, rest) → StartTakes bytes s rest
unfolding start_at
start_takes bytes s rest fits e =
    let Goal = λ (y : Start × List ℕ). StartTakes bytes y.0 y.1 in
    let one : Start × List ℕ = (start_of 1 false bytes, drop 180 bytes) in
    let two : Start × List ℕ = (start_of 2 (eqb (word_at bytes 180) 1) bytes, drop 184 bytes) in
    let second : Result (Start × List ℕ) Refusal = judged bytes (order_checks bytes) >>= λ _. Ok two in
    let p = bind_ok (head_check bytes) (λ _. cond (eqb (version_of bytes) 1) (Ok one) second) (s, rest) e in
    let f = head_passes bytes p.1 in
    elim (chosen (eqb (version_of bytes) 1) (Ok one) second (Ok (s, rest)) p.2) [
      | inl h ↦
          subst Goal (ok_is one (s, rest) h.1) (start_one bytes fits f (eqb-true _ _ (magic_one (eqb (double_at bytes 0) one_magic) (eqb (double_at bytes 0) two_magic) h.0)))
      | inr h ↦
          let q = bind_ok (judged bytes (order_checks bytes)) (λ _. Ok two) (s, rest) h.1 in
          let c : Check = check 180 184 (ltb 1 (word_at bytes 180)) why.ByteOrder in
          let order = first_passed bytes c [] q.1 in
          subst Goal (ok_is two (s, rest) q.2) (start_two bytes fits f order.there (ltb-false 1 (word_at bytes 180) order.holds) (eqb-true _ _ (magic_two (eqb (double_at bytes 0) one_magic) (eqb (double_at bytes 0) two_magic) f.version h.0)))
    ]
