-- The head of a record is read as it was written.
use Rattle.std.proofs.Common.{◌≡◌, ℕ, zero, suc, ◌-◌, ◌^◌, ◌<◌, ◌≤◌, cond, ltb, eqb, List, [], ◌∷◌, ◌++◌, length, drop, Result, Ok, Err, refl, sym, ap, subst, ◌∙◌, arith}
use Rattle.std.specs.Prelude.{slice_index}
use Rattle.std.specs.Int.{w32, w64, to_le_bytes}
use Rattle.std.proofs.lemmas.Bool.{ltb-false, le-ltb}
use Rattle.std.proofs.lemmas.List.{length-append}
use Rattle.ss_base.specs.Text.{word_at, double_at}
use Rattle.event_trace.specs.declared.trace.CallKind.{CallKind}
use Rattle.event_trace.specs.declared.trace.CallKind.TheVariants.{Plain, Emit, Exit}
use Rattle.event_trace.specs.declared.record_reading.Head.{Head}
use Rattle.event_trace.specs.Grammar.{kind_number}
use Rattle.event_trace.specs.Reading.{Refusal, refuse, kind_of, fields_check, exit_check, head_of, head_at}
use Rattle.event_trace.specs.declared.fault.TraceWhy.TheVariants as why
use Rattle.event_trace.proofs.Fields.{IsBytes, IsBytes-drop, bind_ok, passed, at_least, ok_is, Takes, byte_parts, word_parts, double_parts, word_below, word_again, double_again}

-- an exit has no outputs, another call no code
abbrev pub KindFits : CallKind → ℕ → ℕ → ℕ → Type 0
KindFits Exit outs out_blocks code = (outs ≡ 0) × (out_blocks ≡ 0)
KindFits Plain outs out_blocks code = code ≡ 0
KindFits Emit outs out_blocks code = code ≡ 0

pub record HeadFits (least : ℕ) (h : Head) : Type 0 where
  pub rising : least ≤ h.icnt
  pub icnt : h.icnt ≤ 10 ^ 15
  pub pc : h.pc < 2 ^ 32
  pub code : h.code < 2 ^ 32
  pub ins : h.ins ≤ 8
  pub in_blocks : h.in_blocks ≤ 16
  pub outs : h.outs ≤ 8
  pub out_blocks : h.out_blocks ≤ 16
  pub kind : KindFits h.kind h.outs h.out_blocks h.code

abbrev pub head_cells : ℕ → ℕ → CallKind → ℕ → ℕ → ℕ → ℕ → ℕ → List ℕ
head_cells icnt pc kind ins in_blocks outs out_blocks code = to_le_bytes w64 icnt ++ to_le_bytes w32 pc ++ (kind_number kind ∷ ins ∷ in_blocks ∷ outs ∷ out_blocks ∷ []) ++ (0 ∷ 0 ∷ 0 ∷ []) ++ to_le_bytes w32 code

abbrev pub head_text : Head → List ℕ
head_text h = head_cells h.icnt h.pc h.kind h.ins h.in_blocks h.outs h.out_blocks h.code

number_kind : (n : ℕ) → n ≤ 2 → kind_number (kind_of n) ≡ n
number_kind zero le = refl
number_kind (suc zero) le = refl
number_kind (suc (suc zero)) le = refl
number_kind (suc (suc (suc n))) le = absurd (omega arith)

kind_again : (k : CallKind) → kind_of (kind_number k) ≡ k
kind_again Plain = refl
kind_again Emit = refl
kind_again Exit = refl

kind_low : (k : CallKind) → kind_number k ≤ 2
kind_low Plain = omega arith
kind_low Emit = omega arith
kind_low Exit = omega arith

-- ---- the checks

abbrev clear : Result (Unit {0}) Refusal
clear = Ok tt

record FieldsFit (least : ℕ) (bytes : List ℕ) : Type 0 where
  rising : least ≤ double_at bytes 0
  icnt : double_at bytes 0 ≤ 10 ^ 15
  kind : slice_index bytes 12 ≤ 2
  ins : slice_index bytes 13 ≤ 8
  in_blocks : slice_index bytes 14 ≤ 16
  outs : slice_index bytes 15 ≤ 8
  out_blocks : slice_index bytes 16 ≤ 16
  pad17 : slice_index bytes 17 ≡ 0
  pad18 : slice_index bytes 18 ≡ 0
  pad19 : slice_index bytes 19 ≡ 0

fields_pass : (least : ℕ) (bytes : List ℕ) → fields_check least bytes ≡ Ok tt → FieldsFit least bytes
unfolding fields_check
fields_pass least bytes e =
    let size = length bytes in
    let r9 : Result (Unit {0}) Refusal = cond (ltb 0 (slice_index bytes 19)) (refuse (size - 17) why.Pad) clear in
    let r8 : Result (Unit {0}) Refusal = cond (ltb 0 (slice_index bytes 18)) (refuse (size - 17) why.Pad) r9 in
    let r7 : Result (Unit {0}) Refusal = cond (ltb 0 (slice_index bytes 17)) (refuse (size - 17) why.Pad) r8 in
    let r6 : Result (Unit {0}) Refusal = cond (ltb 16 (slice_index bytes 16)) (refuse (size - 16) why.Many) r7 in
    let r5 : Result (Unit {0}) Refusal = cond (ltb 8 (slice_index bytes 15)) (refuse (size - 15) why.Many) r6 in
    let r4 : Result (Unit {0}) Refusal = cond (ltb 16 (slice_index bytes 14)) (refuse (size - 14) why.Many) r5 in
    let r3 : Result (Unit {0}) Refusal = cond (ltb 8 (slice_index bytes 13)) (refuse (size - 13) why.Many) r4 in
    let r2 : Result (Unit {0}) Refusal = cond (ltb 2 (slice_index bytes 12)) (refuse (size - 12) why.Kind) r3 in
    let r1 : Result (Unit {0}) Refusal = cond (ltb (10 ^ 15) (double_at bytes 0)) (refuse size why.Order) r2 in
    let p0 = at_least (double_at bytes 0) least (record { left = size; why = why.Order }) r1 tt e in
    let p1 = at_least (10 ^ 15) (double_at bytes 0) (record { left = size; why = why.Order }) r2 tt p0.1 in
    let p2 = at_least 2 (slice_index bytes 12) (record { left = size - 12; why = why.Kind }) r3 tt p1.1 in
    let p3 = at_least 8 (slice_index bytes 13) (record { left = size - 13; why = why.Many }) r4 tt p2.1 in
    let p4 = at_least 16 (slice_index bytes 14) (record { left = size - 14; why = why.Many }) r5 tt p3.1 in
    let p5 = at_least 8 (slice_index bytes 15) (record { left = size - 15; why = why.Many }) r6 tt p4.1 in
    let p6 = at_least 16 (slice_index bytes 16) (record { left = size - 16; why = why.Many }) r7 tt p5.1 in
    let p7 = at_least 0 (slice_index bytes 17) (record { left = size - 17; why = why.Pad }) r8 tt p6.1 in
    let p8 = at_least 0 (slice_index bytes 18) (record { left = size - 17; why = why.Pad }) r9 tt p7.1 in
    let p9 = at_least 0 (slice_index bytes 19) (record { left = size - 17; why = why.Pad }) clear tt p8.1 in
    record {
      rising = p0.0;
      icnt = p1.0;
      kind = p2.0;
      ins = p3.0;
      in_blocks = p4.0;
      outs = p5.0;
      out_blocks = p6.0;
      pad17 = omega (arith, p7.0);
      pad18 = omega (arith, p8.0);
      pad19 = omega (arith, p9.0);
    }

fields_ok : (least icnt kind ins in_blocks outs out_blocks : ℕ) (bytes : List ℕ) → double_at bytes 0 ≡ icnt → slice_index bytes 12 ≡ kind → slice_index bytes 13 ≡ ins → slice_index bytes 14 ≡ in_blocks → slice_index bytes 15 ≡ outs → slice_index bytes 16 ≡ out_blocks → slice_index bytes 17 ≡ 0 → slice_index bytes 18 ≡ 0 → slice_index bytes 19 ≡ 0
    → least ≤ icnt → icnt ≤ 10 ^ 15 → kind ≤ 2 → ins ≤ 8 → in_blocks ≤ 16 → outs ≤ 8 → out_blocks ≤ 16 → fields_check least bytes ≡ Ok tt
unfolding fields_check
fields_ok least icnt kind ins in_blocks outs out_blocks bytes e0 e12 e13 e14 e15 e16 e17 e18 e19 h0 h1 h2 h3 h4 h5 h6 =
    rw (e0, e12, e13, e14, e15, e16, e17, e18, e19, le-ltb icnt least h0, le-ltb (10 ^ 15) icnt h1, le-ltb 2 kind h2, le-ltb 8 ins h3, le-ltb 16 in_blocks h4, le-ltb 8 outs h5, le-ltb 16 out_blocks h6) refl

none_of : {A : Type 0} (n : ℕ) (d : Refusal) (r : Result A Refusal) (y : A) → cond (ltb 0 n) (Err d) r ≡ Ok y → (n ≡ 0) × (r ≡ Ok y)
none_of n d r y e =
    let p = at_least 0 n d r y e in
    (omega (arith, p.0), p.1)

exit_cases : (n outs out_blocks code : ℕ) (d f g : Refusal) → n ≤ 2 → cond (eqb n 2) (cond (ltb 0 outs) (Err d) (cond (ltb 0 out_blocks) (Err f) clear)) (cond (ltb 0 code) (Err g) clear) ≡ clear → KindFits (kind_of n) outs out_blocks code
exit_cases zero outs out_blocks code d f g le e = (none_of code g clear tt e).0
exit_cases (suc zero) outs out_blocks code d f g le e = (none_of code g clear tt e).0
exit_cases (suc (suc zero)) outs out_blocks code d f g le e =
    let p = none_of outs d (cond (ltb 0 out_blocks) (Err f) clear) tt e in
    (p.0, (none_of out_blocks f clear tt p.1).0)
exit_cases (suc (suc (suc n))) outs out_blocks code d f g le e = absurd (omega arith)

exit_passes : (bytes : List ℕ) → slice_index bytes 12 ≤ 2 → exit_check bytes ≡ Ok tt → KindFits (kind_of (slice_index bytes 12)) (slice_index bytes 15) (slice_index bytes 16) (word_at bytes 20)
unfolding exit_check
exit_passes bytes le e = exit_cases (slice_index bytes 12) (slice_index bytes 15) (slice_index bytes 16) (word_at bytes 20) _ _ _ le e

exit_ok : (k : CallKind) (outs out_blocks code : ℕ) (bytes : List ℕ) → slice_index bytes 12 ≡ kind_number k → slice_index bytes 15 ≡ outs → slice_index bytes 16 ≡ out_blocks → word_at bytes 20 ≡ code → KindFits k outs out_blocks code → exit_check bytes ≡ Ok tt
unfolding exit_check
exit_ok Plain outs out_blocks code bytes e12 e15 e16 e20 fits = rw (e12, e20, fits) refl
exit_ok Emit outs out_blocks code bytes e12 e15 e16 e20 fits = rw (e12, e20, fits) refl
exit_ok Exit outs out_blocks code bytes e12 e15 e16 e20 fits = rw (e12, e15, e16, fits.0, fits.1) refl

-- ---- the whole head

head_parts : (least : ℕ) (bytes : List ℕ) → IsBytes bytes → 24 ≤ length bytes → FieldsFit least bytes → bytes ≡ head_text (head_of bytes) ++ drop 24 bytes
head_parts least bytes fits le f =
    let b = λ (i : ℕ). slice_index bytes i in
    let code : drop 20 bytes ≡ to_le_bytes w32 (word_at bytes 20) ++ drop 24 bytes = word_parts bytes 20 fits (omega arith) in
    let pads : drop 17 bytes ≡ 0 ∷ 0 ∷ 0 ∷ drop 20 bytes =
    byte_parts bytes 17 (omega arith) ∙ ap (λ (x : List ℕ). b 17 ∷ x) (byte_parts bytes 18 (omega arith) ∙ ap (λ (x : List ℕ). b 18 ∷ x) (byte_parts bytes 19 (omega arith)))
    ∙ ap (λ (x : ℕ). x ∷ b 18 ∷ b 19 ∷ drop 20 bytes) f.pad17 ∙ ap (λ (x : ℕ). 0 ∷ x ∷ b 19 ∷ drop 20 bytes) f.pad18 ∙ ap (λ (x : ℕ). 0 ∷ 0 ∷ x ∷ drop 20 bytes) f.pad19 in
    let counts : drop 12 bytes ≡ kind_number (kind_of (b 12)) ∷ b 13 ∷ b 14 ∷ b 15 ∷ b 16 ∷ drop 17 bytes =
    byte_parts bytes 12 (omega arith) ∙ ap (λ (x : List ℕ). b 12 ∷ x) (byte_parts bytes 13 (omega arith) ∙ ap (λ (x : List ℕ). b 13 ∷ x) (byte_parts bytes 14 (omega arith) ∙ ap (λ (x : List ℕ). b 14 ∷ x) (byte_parts bytes 15 (omega arith) ∙ ap (λ (x : List ℕ). b 15 ∷ x) (byte_parts bytes 16 (omega arith)))))
    ∙ ap (λ (x : ℕ). x ∷ b 13 ∷ b 14 ∷ b 15 ∷ b 16 ∷ drop 17 bytes) (sym (number_kind (b 12) f.kind)) in
    let front = λ (x : List ℕ). to_le_bytes w64 (double_at bytes 0) ++ to_le_bytes w32 (word_at bytes 8) ++ x in
    double_parts bytes 0 fits (omega arith)
    ∙ ap (λ (x : List ℕ). to_le_bytes w64 (double_at bytes 0) ++ x) (word_parts bytes 8 fits (omega arith))
    ∙ ap front counts
    ∙ ap (λ (x : List ℕ). front (kind_number (kind_of (b 12)) ∷ b 13 ∷ b 14 ∷ b 15 ∷ b 16 ∷ x)) (pads ∙ ap (λ (x : List ℕ). 0 ∷ 0 ∷ 0 ∷ x) code)

pub head_takes : (least : ℕ) (bytes : List ℕ) (x : Head) (rest : List ℕ) → IsBytes bytes → head_at least bytes ≡ Ok (x, rest) → Takes bytes (head_text x) rest × HeadFits least x
unfolding head_at
head_takes least bytes x rest fits e =
    let p0 = passed _ _ _ _ e in
    let p1 = bind_ok (fields_check least bytes) _ _ p0.1 in
    let p2 = bind_ok (exit_check bytes) _ _ p1.2 in
    let f = fields_pass least bytes p1.1 in
    let made : Head × List ℕ = (head_of bytes, drop 24 bytes) in
    subst (λ (y : Head × List ℕ). Takes bytes (head_text y.0) y.1 × HeadFits least y.0) (ok_is made (x, rest) p2.2) (
      record { parts = head_parts least bytes fits (ltb-false _ _ p0.0) f; rest_fits = IsBytes-drop 24 bytes fits },
      record {
        rising = f.rising;
        icnt = f.icnt;
        pc = word_below bytes 8 fits;
        code = word_below bytes 20 fits;
        ins = f.ins;
        in_blocks = f.in_blocks;
        outs = f.outs;
        out_blocks = f.out_blocks;
        kind = exit_passes bytes f.kind p2.1;
      },
    )

head_ok : (least icnt pc : ℕ) (kind : CallKind) (number ins in_blocks outs out_blocks code : ℕ) (bytes rest : List ℕ) → 24 ≤ length bytes → fields_check least bytes ≡ Ok tt → exit_check bytes ≡ Ok tt
    → double_at bytes 0 ≡ icnt → word_at bytes 8 ≡ pc → slice_index bytes 12 ≡ number → kind_of number ≡ kind → slice_index bytes 13 ≡ ins → slice_index bytes 14 ≡ in_blocks → slice_index bytes 15 ≡ outs → slice_index bytes 16 ≡ out_blocks → word_at bytes 20 ≡ code → drop 24 bytes ≡ rest
    → head_at least bytes ≡ Ok (record { icnt = icnt; pc = pc; kind = kind; ins = ins; in_blocks = in_blocks; outs = outs; out_blocks = out_blocks; code = code }, rest)
unfolding head_at
head_ok least icnt pc kind number ins in_blocks outs out_blocks code bytes rest len fields exit e0 e8 e12 ek e13 e14 e15 e16 e20 er =
    rw (le-ltb (length bytes) 24 len, fields, exit, e0, e8, e12, ek, e13, e14, e15, e16, e20, er) refl

pub head_again : (least : ℕ) (h : Head) (rest : List ℕ) → HeadFits least h → head_at least (head_text h ++ rest) ≡ Ok (h, rest)
head_again least h rest fits =
    let bytes = head_text h ++ rest in
    let e0 : double_at bytes 0 ≡ h.icnt = double_again h.icnt (omega (arith, fits.icnt)) in
    let e8 : word_at bytes 8 ≡ h.pc = word_again h.pc fits.pc in
    let e20 : word_at bytes 20 ≡ h.code = word_again h.code fits.code in
    let fields = fields_ok least h.icnt (kind_number h.kind) h.ins h.in_blocks h.outs h.out_blocks bytes e0 refl refl refl refl refl refl refl refl fits.rising fits.icnt (kind_low h.kind) fits.ins fits.in_blocks fits.outs fits.out_blocks in
    let exit = exit_ok h.kind h.outs h.out_blocks h.code bytes refl refl refl e20 fits.kind in
    head_ok least h.icnt h.pc h.kind (kind_number h.kind) h.ins h.in_blocks h.outs h.out_blocks h.code bytes rest (omega (arith, length-append (head_text h) rest)) fields exit e0 e8 refl (kind_again h.kind) refl refl refl refl e20 refl
