-- A trace is read as it was written.
use Rattle.std.proofs.Common.{◌≡◌, ℕ, zero, suc, ◌+◌, ◌-◌, ◌≤◌, ◌⊎◌, Bool, true, false, cond, ltb, eqb, List, [], ◌∷◌, ◌++◌, length, drop, Result, Ok, Err, refl, sym, ap, subst, ◌∙◌, arith, inl, inr}
use Rattle.std.specs.Prelude.{IfOk}
use Rattle.std.specs.List.{flat_map}
use Rattle.std.specs.Int.{w32, w64, to_le_bytes}
use Rattle.std.proofs.lemmas.Bool.{le-ltb, eqb-true}
use Rattle.std.proofs.lemmas.List.{append-nil, nil_from_length, length-append}
use Rattle.ss_base.specs.Text.{word_at, double_at}
use Rattle.event_trace.specs.declared.fault.TraceWhy.TheVariants as why
use Rattle.event_trace.specs.declared.fault.TraceFault.{TraceFault}
use Rattle.event_trace.specs.declared.reading.Start.{Start}
use Rattle.event_trace.specs.declared.trace.Record.{Record}
use Rattle.event_trace.specs.declared.trace.Trace.{Trace}
use Rattle.event_trace.specs.Grammar.{magic, order_number, order_bytes, record_bytes, trace_bytes, IsRecord, next_record, IsVersion, IsTrace}
use Rattle.event_trace.specs.Reading.{Refusal, refuse, short, items_at, record_at, version_of, start_at, trace_at, placed, checked, Answers}
use Rattle.event_trace.proofs.Fields.{IsBytes, IsBytes-drop, bind_ok, passed, at_least, ok_is, Takes, Takes-then, word_parts, double_parts, word_again, items_take, items_again}
use Rattle.event_trace.proofs.OneRecord.{record_takes, record_again}

abbrev start_cells : ℕ → Bool → ℕ → List ℕ
start_cells version big count = magic ++ ((48 + version) ∷ []) ++ to_le_bytes w32 count ++ order_bytes version big

abbrev StartFits : Start → Type 0
StartFits s = IsVersion s.version s.big × (s.count ≤ 1000000)

chosen : {A : Type 0} (b : Bool) (x y z : A) → cond b x y ≡ z → ((b ≡ true) × (x ≡ z)) ⊎ ((b ≡ false) × (y ≡ z))
chosen true x y z e = inl (refl, e)
chosen false x y z e = inr (refl, e)

-- which magic a version tells of
magic_one : (b c : Bool) → eqb (cond b 1 (cond c 2 0)) 1 ≡ true → b ≡ true
magic_one true c e = refl
magic_one false true e = absurd cc
magic_one false false e = absurd cc

magic_two : (b c : Bool) → eqb (cond b 1 (cond c 2 0)) 0 ≡ false → eqb (cond b 1 (cond c 2 0)) 1 ≡ false → c ≡ true
magic_two true c e f = absurd cc
magic_two false true e f = refl
magic_two false false e f = absurd cc

order_again : (n : ℕ) → n ≤ 1 → order_number (eqb n 1) ≡ n
order_again zero le = refl
order_again (suc zero) le = refl
order_again (suc (suc n)) le = absurd (omega arith)

order_one : (big : Bool) → eqb (order_number big) 1 ≡ big
order_one true = refl
order_one false = refl

order_low : (big : Bool) → order_number big ≤ 1
order_low true = omega arith
order_low false = omega arith

-- the magic and the count in front
front_parts : (bytes : List ℕ) (number : ℕ) → IsBytes bytes → 12 ≤ length bytes → double_at bytes 0 ≡ number → bytes ≡ to_le_bytes w64 number ++ (to_le_bytes w32 (word_at bytes 8) ++ drop 12 bytes)
front_parts bytes number fits le e =
    double_parts bytes 0 fits (omega arith)
    ∙ ap (λ (x : List ℕ). to_le_bytes w64 (double_at bytes 0) ++ x) (word_parts bytes 8 fits (omega arith))
    ∙ ap (λ (n : ℕ). to_le_bytes w64 n ++ (to_le_bytes w32 (word_at bytes 8) ++ drop 12 bytes)) e

start_one : (bytes : List ℕ) → IsBytes bytes → 12 ≤ length bytes → word_at bytes 8 ≤ 1000000 → double_at bytes 0 ≡ 0x3130303054584550 → Takes bytes (start_cells 1 false (word_at bytes 8)) (drop 12 bytes) × StartFits (record { version = 1; big = false; count = word_at bytes 8 })
start_one bytes fits le count e =
    (record { parts = front_parts bytes 0x3130303054584550 fits le e; rest_fits = IsBytes-drop 12 bytes fits }, (inl (refl, refl), count))

start_two : (bytes : List ℕ) → IsBytes bytes → 16 ≤ length bytes → word_at bytes 8 ≤ 1000000 → word_at bytes 12 ≤ 1 → double_at bytes 0 ≡ 0x3230303054584550 → Takes bytes (start_cells 2 (eqb (word_at bytes 12) 1) (word_at bytes 8)) (drop 16 bytes) × StartFits (record { version = 2; big = eqb (word_at bytes 12) 1; count = word_at bytes 8 })
start_two bytes fits le count order e =
    let front = λ (x : List ℕ). to_le_bytes w64 0x3230303054584550 ++ (to_le_bytes w32 (word_at bytes 8) ++ x) in
    let parts : bytes ≡ front (to_le_bytes w32 (order_number (eqb (word_at bytes 12) 1)) ++ drop 16 bytes) =
    front_parts bytes 0x3230303054584550 fits (omega arith) e
    ∙ ap front (word_parts bytes 12 fits (omega arith) ∙ ap (λ (n : ℕ). to_le_bytes w32 n ++ drop 16 bytes) (sym (order_again (word_at bytes 12) order))) in
    (record { parts = parts; rest_fits = IsBytes-drop 16 bytes fits }, (inr refl, count))

start_takes : (bytes : List ℕ) (s : Start) (rest : List ℕ) → IsBytes bytes → start_at bytes ≡ Ok (s, rest) → Takes bytes (start_cells s.version s.big s.count) rest × StartFits s
unfolding start_at
start_takes bytes s rest fits e =
    let Goal = λ (y : Start × List ℕ). Takes bytes (start_cells y.0.version y.0.big y.0.count) y.1 × StartFits y.0 in
    let size = length bytes in
    let one : Start × List ℕ = (record { version = 1; big = false; count = word_at bytes 8 }, drop 12 bytes) in
    let two : Start × List ℕ = (record { version = 2; big = eqb (word_at bytes 12) 1; count = word_at bytes 8 }, drop 16 bytes) in
    let r5 : Result (Start × List ℕ) Refusal = cond (ltb 1 (word_at bytes 12)) (refuse (size - 12) why.ByteOrder) (Ok two) in
    let r4 : Result (Start × List ℕ) Refusal = cond (ltb size 16) short r5 in
    let r3 : Result (Start × List ℕ) Refusal = cond (eqb (version_of bytes) 1) (Ok one) r4 in
    let r2 : Result (Start × List ℕ) Refusal = cond (ltb 1000000 (word_at bytes 8)) (refuse (size - 8) why.Count) r3 in
    let r1 : Result (Start × List ℕ) Refusal = cond (ltb size 12) short r2 in
    let r0 : Result (Start × List ℕ) Refusal = cond (eqb (version_of bytes) 0) (refuse size why.Magic) r1 in
    let p0 = at_least size 8 (record { left = 0; why = why.Short }) r0 (s, rest) e in
    let p1 = passed (eqb (version_of bytes) 0) (record { left = size; why = why.Magic }) r1 (s, rest) p0.1 in
    let p2 = at_least size 12 (record { left = 0; why = why.Short }) r2 (s, rest) p1.1 in
    let p3 = at_least 1000000 (word_at bytes 8) (record { left = size - 8; why = why.Count }) r3 (s, rest) p2.1 in
    let count = p3.0 in
    elim (chosen (eqb (version_of bytes) 1) (Ok one) r4 (Ok (s, rest)) p3.1) [
      | inl h ↦
          subst Goal (ok_is one (s, rest) h.1) (start_one bytes fits p2.0 count (eqb-true _ _ (magic_one (eqb (double_at bytes 0) 0x3130303054584550) (eqb (double_at bytes 0) 0x3230303054584550) h.0)))
      | inr h ↦
          let p4 = at_least size 16 (record { left = 0; why = why.Short }) r5 (s, rest) h.1 in
          let p5 = at_least 1 (word_at bytes 12) (record { left = size - 12; why = why.ByteOrder }) (Ok two) (s, rest) p4.1 in
          subst Goal (ok_is two (s, rest) p5.1) (start_two bytes fits p4.0 count p5.0 (eqb-true _ _ (magic_two (eqb (double_at bytes 0) 0x3130303054584550) (eqb (double_at bytes 0) 0x3230303054584550) p1.0 h.0)))
    ]

one_ok : (count : ℕ) (bytes rest : List ℕ) → 12 ≤ length bytes → double_at bytes 0 ≡ 0x3130303054584550 → word_at bytes 8 ≡ count → drop 12 bytes ≡ rest → count ≤ 1000000 → start_at bytes ≡ Ok (record { version = 1; big = false; count = count }, rest)
unfolding start_at
one_ok count bytes rest len e0 e8 er le =
    rw (le-ltb (length bytes) 8 (omega arith), le-ltb (length bytes) 12 len, e0, e8, er, le-ltb 1000000 count le) refl

two_ok : (count order : ℕ) (bytes rest : List ℕ) → 16 ≤ length bytes → double_at bytes 0 ≡ 0x3230303054584550 → word_at bytes 8 ≡ count → word_at bytes 12 ≡ order → drop 16 bytes ≡ rest → count ≤ 1000000 → order ≤ 1 → start_at bytes ≡ Ok (record { version = 2; big = eqb order 1; count = count }, rest)
unfolding start_at
two_ok count order bytes rest len e0 e8 e12 er le low =
    rw (le-ltb (length bytes) 8 (omega arith), le-ltb (length bytes) 12 (omega arith), le-ltb (length bytes) 16 len, e0, e8, e12, er, le-ltb 1000000 count le, le-ltb 1 order low) refl

start_again : (version : ℕ) (big : Bool) (count : ℕ) (rest : List ℕ) → IsVersion version big → count ≤ 1000000 → start_at (start_cells version big count ++ rest) ≡ Ok (record { version = version; big = big; count = count }, rest)
start_again version big count rest (inl h) le =
    let law : start_at (start_cells 1 false count ++ rest) ≡ Ok (record { version = 1; big = false; count = count }, rest) =
    one_ok count (start_cells 1 false count ++ rest) rest (omega (arith, length-append (start_cells 1 false count) rest)) refl (word_again count (omega arith)) refl le in
    rw (h.0, h.1) law
start_again version big count rest (inr h) le =
    let law : start_at (start_cells 2 big count ++ rest) ≡ Ok (record { version = 2; big = eqb (order_number big) 1; count = count }, rest) =
    two_ok count (order_number big) (start_cells 2 big count ++ rest) rest (omega (arith, length-append (start_cells 2 big count) rest)) refl (word_again count (omega arith)) (word_again (order_number big) (omega (arith, order_low big))) refl le (order_low big) in
    rw h (law ∙ ap (λ (b : Bool). Ok (record { version = 2; big = b; count = count }, rest)) (order_one big))

-- ---- traces

pub trace_takes : (bytes : List ℕ) (t : Trace) → IsBytes bytes → trace_at bytes ≡ Ok t → IsTrace t × (bytes ≡ trace_bytes t)
unfolding trace_at
trace_takes bytes t fits e =
    let a = bind_ok (start_at bytes) _ _ e in
    let s = a.0.0 in
    let b = bind_ok (items_at record_at next_record s.count 0 a.0.1) _ _ a.2 in
    let made : Trace = record { file = true; version = s.version; big = s.big; records = b.0.0 } in
    let p = at_least 0 (length b.0.1) (record { left = length b.0.1; why = why.Extra }) (Ok made) t b.2 in
    let t0 = start_takes bytes s a.0.1 fits a.1 in
    let t1 = items_take record_at next_record record_bytes IsRecord record_takes s.count 0 a.0.1 b.0.0 b.0.1 t0.0.rest_fits b.1 in
    let whole = (Takes-then bytes (start_cells s.version s.big s.count) a.0.1 (flat_map record_bytes b.0.0) b.0.1 t0.0 t1.0).parts in
    let nothing : b.0.1 ≡ [] = nil_from_length b.0.1 (omega (arith, p.0)) in
    let text = λ (n : ℕ). start_cells s.version s.big n ++ flat_map record_bytes b.0.0 in
    let same : bytes ≡ trace_bytes made = whole ∙ ap (λ (r : List ℕ). text s.count ++ r) nothing ∙ append-nil (text s.count) ∙ ap text (sym t1.1) in
    subst (λ (y : Trace). IsTrace y × (bytes ≡ trace_bytes y)) (ok_is made t p.1)
    (record { file = refl; version = t0.1.0; count = omega (arith, t1.1, t0.1.1); records = t1.2 }, same)

trace_ok : (version : ℕ) (big : Bool) (count : ℕ) (records : List Record) (b0 b1 : List ℕ) → start_at b0 ≡ Ok (record { version = version; big = big; count = count }, b1) → items_at record_at next_record count 0 b1 ≡ Ok (records, []) → trace_at b0 ≡ Ok (record { file = true; version = version; big = big; records = records })
unfolding trace_at
trace_ok version big count records b0 b1 e0 e1 = rw (e0, e1) refl

pub trace_again : (t : Trace) → IsTrace t → trace_at (trace_bytes t) ≡ Ok t
trace_again t fits =
    let tail = flat_map record_bytes t.records in
    let rest : items_at record_at next_record (length t.records) 0 tail ≡ Ok (t.records, []) =
    ap (items_at record_at next_record (length t.records) 0) (sym (append-nil tail)) ∙ items_again record_at next_record record_bytes IsRecord record_again 0 t.records [] fits.records in
    trace_ok t.version t.big (length t.records) t.records (trace_bytes t) tail (start_again t.version t.big (length t.records) tail fits.version fits.count) rest
    ∙ ap (λ (b : Bool). Ok (record { file = b; version = t.version; big = t.big; records = t.records })) (sym fits.file)

abbrev fine : Trace → Result Trace TraceFault
fine x = Ok x

trace_is : (x y : Trace) → fine x ≡ fine y → x ≡ y
trace_is x y e = cc

placed_ok : (total : ℕ) (r : Result Trace Refusal) (t : Trace) → placed total r ≡ Ok t → r ≡ Ok t
placed_ok total (Ok x) t e = ap (λ (y : Trace). Ok y) (trace_is x t e)
placed_ok total (Err d) t e = absurd cc

pub is_found : (bytes : List ℕ) (r : Result Trace TraceFault) → IsBytes bytes → Answers r (checked bytes) → IfOk r (λ t. IsTrace t × (bytes ≡ trace_bytes t))
is_found bytes (Ok t) fits given = trace_takes bytes t fits (placed_ok (length bytes) (trace_at bytes) t given)
is_found bytes (Err e) fits given = tt

pub is_only : (bytes : List ℕ) (t : Trace) → IsTrace t → bytes ≡ trace_bytes t → checked bytes ≡ Ok t
is_only bytes t fits e = ap (placed (length bytes)) (ap trace_at e ∙ trace_again t fits)

pub same_trace : (s t : Trace) → IsTrace s → IsTrace t → trace_bytes s ≡ trace_bytes t → s ≡ t
same_trace s t fs ft e = ok_is s t (sym (trace_again s fs) ∙ ap trace_at e ∙ trace_again t ft)
