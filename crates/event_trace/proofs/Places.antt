-- A refusal stands in the file, and reading never tells that orders differ.
use Rattle.std.proofs.Common.{◌≡◌, ℕ, zero, suc, ◌+◌, ◌-◌, ◌^◌, ◌<◌, ◌≤◌, Bool, true, false, cond, ltb, eqb, List, length, drop, Result, Ok, Err, refl, sym, ap, ◌∙◌, arith}
use Rattle.std.specs.Prelude.{slice_index, IfErr}
use Rattle.std.proofs.lemmas.Bool.{ltb-false, ltb-true}
use Rattle.std.proofs.lemmas.List.{length-drop}
use Rattle.ss_base.specs.Text.{word_at, double_at}
use Rattle.event_trace.specs.declared.fault.TraceWhy.{TraceWhy}
use Rattle.event_trace.specs.declared.fault.TraceWhy.TheVariants as why
use Rattle.event_trace.specs.declared.fault.TraceFault.{TraceFault}
use Rattle.event_trace.specs.declared.fault.TraceFault.TheVariants as faults
use Rattle.event_trace.specs.declared.trace.Trace.{Trace}
use Rattle.event_trace.specs.Grammar.{next_register, next_block, next_record}
use Rattle.event_trace.specs.Reading.{Refusal, ◌>>=◌, items_at, register_at, block_at, fields_check, exit_check, head_at, record_at, version_of, start_at, trace_at, placed, checked, Answers, IsPlaced, Placed}

abbrev is_field : TraceWhy → Bool
is_field why.Short = false
is_field why.Magic = true
is_field why.Count = true
is_field why.ByteOrder = true
is_field why.Order = true
is_field why.Kind = true
is_field why.Many = true
is_field why.Pad = true
is_field why.Exit = true
is_field why.Register = true
is_field why.Block = true
is_field why.Extra = true
is_field why.OtherOrder = false

-- a reason at a place that is counted from the end
record Stands (size left : ℕ) (reason : TraceWhy) : Type 0 where
  cut : reason ≡ why.Short → left ≡ 0
  inside : (reason ≡ why.Short → ⊥) → 0 < left
  within : left ≤ size
  other : reason ≡ why.OtherOrder → ⊥

not_both : {X : Type 0} (b : Bool) → b ≡ true → b ≡ false → X
not_both true e f = absurd cc
not_both false e f = absurd cc

at_field : (size left : ℕ) (reason : TraceWhy) → is_field reason ≡ true → 0 < left → left ≤ size → Stands size left reason
at_field size left reason h pos le = record {
  cut = λ e. not_both (is_field reason) h (ap is_field e);
  inside = λ _. pos;
  within = le;
  other = λ e. not_both (is_field reason) h (ap is_field e);
}

short_is : why.Short ≡ why.OtherOrder → ⊥
short_is e = cc

at_end : (size : ℕ) → Stands size 0 why.Short
at_end size = record { cut = λ _. refl; inside = λ h. absurd (h refl); within = omega arith; other = short_is }

-- a result of reading bytes of a size: a rest that is no longer, or a refusal in them
abbrev Judged : {A : Type 0} → (A → ℕ) → ℕ → Result A Refusal → Type 0
Judged rest size (Ok x) = rest x ≤ size
Judged rest size (Err e) = Stands size e.left e.why

weaken : {A : Type 0} (rest : A → ℕ) (small size : ℕ) (r : Result A Refusal) → small ≤ size → Judged rest small r → Judged rest size r
weaken rest small size (Ok x) le h = omega (arith, h, le)
weaken rest small size (Err e) le h = record { cut = h.cut; inside = h.inside; within = omega (arith, h.within, le); other = h.other }

judged_if : {A : Type 0} (rest : A → ℕ) (size : ℕ) (b : Bool) (d : Refusal) (r : Result A Refusal) → Stands size d.left d.why → (b ≡ false → Judged rest size r) → Judged rest size (cond b (Err d) r)
judged_if rest size true d r s f = s
judged_if rest size false d r s f = f refl

either : {A : Type 0} (rest : A → ℕ) (size : ℕ) (b : Bool) (r s : Result A Refusal) → Judged rest size r → Judged rest size s → Judged rest size (cond b r s)
either rest size true r s h k = h
either rest size false r s h k = k

judged_then : {A B : Type 0} (m : A → ℕ) (n : B → ℕ) (size : ℕ) (r : Result A Refusal) (f : A → Result B Refusal) → Judged m size r → ((x : A) → Judged n (m x) (f x)) → Judged n size (r >>= f)
judged_then m n size (Ok x) f h g = weaken n (m x) size (f x) h (g x)
judged_then m n size (Err e) f h g = h

items_judged : {A : Type 0} (one : ℕ → List ℕ → Result (A × List ℕ) Refusal) (next : A → ℕ) (law : (least : ℕ) (bytes : List ℕ) → Judged (λ x. length x.1) (length bytes) (one least bytes)) (n least : ℕ) (bytes : List ℕ) → Judged (λ x. length x.1) (length bytes) (items_at one next n least bytes)
unfolding items_at
items_judged one next law zero least bytes = omega arith
items_judged one next law (suc n) least bytes =
    judged_then (λ x. length x.1) (λ x. length x.1) (length bytes) (one least bytes) _ (law least bytes) (λ first.
    judged_then (λ x. length x.1) (λ x. length x.1) (length first.1) (items_at one next n (next first.0) first.1) _ (items_judged one next law n (next first.0) first.1) (λ others. omega arith))

register_judged : (least : ℕ) (bytes : List ℕ) → Judged (λ x. length x.1) (length bytes) (register_at least bytes)
unfolding register_at
register_judged least bytes =
    let size = length bytes in
    judged_if _ size (ltb size 4) _ _ (at_end size) (λ h.
    let field = at_field size size why.Register refl (omega (arith, ltb-false size 4 h)) (omega arith) in
    judged_if _ size (ltb (word_at bytes 0) least) _ _ field (λ _.
    judged_if _ size (ltb 31 (word_at bytes 0)) _ _ field (λ _.
    judged_if _ size (ltb size 8) _ _ (at_end size) (λ _. omega (arith, length-drop 8 bytes)))))

block_judged : (least : ℕ) (bytes : List ℕ) → Judged (λ x. length x.1) (length bytes) (block_at least bytes)
unfolding block_at
block_judged least bytes =
    let size = length bytes in
    judged_if _ size (ltb size 8) _ _ (at_end size) (λ h.
    let field = at_field size size why.Block refl (omega (arith, ltb-false size 8 h)) (omega arith) in
    judged_if _ size (ltb (word_at bytes 4) 1) _ _ field (λ _.
    judged_if _ size (ltb 65536 (word_at bytes 4)) _ _ field (λ _.
    judged_if _ size (ltb (2 ^ 32) (word_at bytes 0 + word_at bytes 4)) _ _ field (λ _.
    judged_if _ size (ltb (length (drop 8 bytes)) (word_at bytes 4)) _ _ (at_end size) (λ _. omega (arith, length-drop (word_at bytes 4) (drop 8 bytes), length-drop 8 bytes))))))

fields_judged : (least : ℕ) (bytes : List ℕ) → 24 ≤ length bytes → Judged (λ _. length bytes) (length bytes) (fields_check least bytes)
unfolding fields_check
fields_judged least bytes le =
    let size = length bytes in
    let order = at_field size size why.Order refl (omega arith) (omega arith) in
    let pad = at_field size (size - 17) why.Pad refl (omega arith) (omega arith) in
    judged_if _ size (ltb (double_at bytes 0) least) _ _ order (λ _.
    judged_if _ size (ltb (10 ^ 15) (double_at bytes 0)) _ _ order (λ _.
    judged_if _ size (ltb 2 (slice_index bytes 12)) _ _ (at_field size (size - 12) why.Kind refl (omega arith) (omega arith)) (λ _.
    judged_if _ size (ltb 8 (slice_index bytes 13)) _ _ (at_field size (size - 13) why.Many refl (omega arith) (omega arith)) (λ _.
    judged_if _ size (ltb 16 (slice_index bytes 14)) _ _ (at_field size (size - 14) why.Many refl (omega arith) (omega arith)) (λ _.
    judged_if _ size (ltb 8 (slice_index bytes 15)) _ _ (at_field size (size - 15) why.Many refl (omega arith) (omega arith)) (λ _.
    judged_if _ size (ltb 16 (slice_index bytes 16)) _ _ (at_field size (size - 16) why.Many refl (omega arith) (omega arith)) (λ _.
    judged_if _ size (ltb 0 (slice_index bytes 17)) _ _ pad (λ _.
    judged_if _ size (ltb 0 (slice_index bytes 18)) _ _ pad (λ _.
    judged_if _ size (ltb 0 (slice_index bytes 19)) _ _ pad (λ _. omega arith))))))))))

exit_judged : (bytes : List ℕ) → 24 ≤ length bytes → Judged (λ _. length bytes) (length bytes) (exit_check bytes)
unfolding exit_check
exit_judged bytes le =
    let size = length bytes in
    let outs = at_field size (size - 15) why.Exit refl (omega arith) (omega arith) in
    either _ size (eqb (slice_index bytes 12) 2) _ _
    (judged_if _ size (ltb 0 (slice_index bytes 15)) _ _ outs (λ _. judged_if _ size (ltb 0 (slice_index bytes 16)) _ _ outs (λ _. omega arith)))
    (judged_if _ size (ltb 0 (word_at bytes 20)) _ _ (at_field size (size - 20) why.Exit refl (omega arith) (omega arith)) (λ _. omega arith))

head_judged : (least : ℕ) (bytes : List ℕ) → Judged (λ x. length x.1) (length bytes) (head_at least bytes)
unfolding head_at
head_judged least bytes =
    let size = length bytes in
    judged_if _ size (ltb size 24) _ _ (at_end size) (λ h.
    judged_then (λ _. size) (λ x. length x.1) size (fields_check least bytes) _ (fields_judged least bytes (ltb-false size 24 h)) (λ _.
    judged_then (λ _. size) (λ x. length x.1) size (exit_check bytes) _ (exit_judged bytes (ltb-false size 24 h)) (λ _. omega (arith, length-drop 24 bytes))))

record_judged : (least : ℕ) (bytes : List ℕ) → Judged (λ x. length x.1) (length bytes) (record_at least bytes)
unfolding record_at
record_judged least bytes =
    judged_then (λ x. length x.1) (λ x. length x.1) (length bytes) (head_at least bytes) _ (head_judged least bytes) (λ h.
    judged_then (λ x. length x.1) (λ x. length x.1) (length h.1) (items_at register_at next_register h.0.ins 1 h.1) _ (items_judged register_at next_register register_judged h.0.ins 1 h.1) (λ a.
    judged_then (λ x. length x.1) (λ x. length x.1) (length a.1) (items_at block_at next_block h.0.in_blocks 0 a.1) _ (items_judged block_at next_block block_judged h.0.in_blocks 0 a.1) (λ b.
    judged_then (λ x. length x.1) (λ x. length x.1) (length b.1) (items_at register_at next_register h.0.outs 1 b.1) _ (items_judged register_at next_register register_judged h.0.outs 1 b.1) (λ c.
    judged_then (λ x. length x.1) (λ x. length x.1) (length c.1) (items_at block_at next_block h.0.out_blocks 0 c.1) _ (items_judged block_at next_block block_judged h.0.out_blocks 0 c.1) (λ d. omega arith)))))

start_judged : (bytes : List ℕ) → Judged (λ x. length x.1) (length bytes) (start_at bytes)
unfolding start_at
start_judged bytes =
    let size = length bytes in
    judged_if _ size (ltb size 8) _ _ (at_end size) (λ h8.
    judged_if _ size (eqb (version_of bytes) 0) _ _ (at_field size size why.Magic refl (omega (arith, ltb-false size 8 h8)) (omega arith)) (λ _.
    judged_if _ size (ltb size 12) _ _ (at_end size) (λ h12.
    judged_if _ size (ltb 1000000 (word_at bytes 8)) _ _ (at_field size (size - 8) why.Count refl (omega (arith, ltb-false size 12 h12)) (omega arith)) (λ _.
    either _ size (eqb (version_of bytes) 1) _ _ (omega (arith, length-drop 12 bytes)) (
    judged_if _ size (ltb size 16) _ _ (at_end size) (λ h16.
    judged_if _ size (ltb 1 (word_at bytes 12)) _ _ (at_field size (size - 12) why.ByteOrder refl (omega (arith, ltb-false size 16 h16)) (omega arith)) (λ _. omega (arith, length-drop 16 bytes))))))))

-- what is left over stands before the end
extra_by : {A : Type 0} (rest : A → ℕ) (n : ℕ) (x : A) (b : Bool) → ltb 0 n ≡ b → rest x ≤ n → Judged rest n (cond b (Err (record { left = n; why = why.Extra })) (Ok x))
extra_by rest n x true e le = at_field n n why.Extra refl (omega (arith, ltb-true 0 n e)) (omega arith)
extra_by rest n x false e le = le

extra : {A : Type 0} (rest : A → ℕ) (n : ℕ) (x : A) → rest x ≤ n → Judged rest n (cond (ltb 0 n) (Err (record { left = n; why = why.Extra })) (Ok x))
extra rest n x le = extra_by rest n x (ltb 0 n) refl le

trace_judged : (bytes : List ℕ) → Judged (λ _. 0) (length bytes) (trace_at bytes)
unfolding trace_at
trace_judged bytes =
    judged_then (λ x. length x.1) (λ _. 0) (length bytes) (start_at bytes) _ (start_judged bytes) (λ s.
    judged_then (λ x. length x.1) (λ _. 0) (length s.1) (items_at record_at next_record s.0.count 0 s.1) _ (items_judged record_at next_record record_judged s.0.count 0 s.1) (λ r.
    extra (λ _. 0) (length r.1) _ (omega arith)))

abbrev place_of : Result Trace TraceFault → ℕ
place_of (Err (faults.Bad at reason)) = at
place_of (Err faults.OutOfMemory) = 0
place_of (Ok t) = 0

abbrev why_of : Result Trace TraceFault → TraceWhy
why_of (Err (faults.Bad at reason)) = reason
why_of (Err faults.OutOfMemory) = why.Short
why_of (Ok t) = why.Short

placed_within : (size at : ℕ) (reason : TraceWhy) (r : Result Trace Refusal) → Judged (λ _. 0) size r → placed size r ≡ Err (faults.Bad at reason) → IsPlaced size at reason
placed_within size at reason (Ok x) h e = absurd cc
placed_within size at reason (Err d) h e =
    let a : size - d.left ≡ at = ap place_of e in
    let w : d.why ≡ reason = ap why_of e in
    record {
      short = λ s. omega (arith, a, h.cut (w ∙ s), h.within);
      field = λ s. omega (arith, a, h.inside (λ x. s (sym w ∙ x)), h.within);
      other = λ o. h.other (w ∙ o);
    }

pub is_placed : (bytes : List ℕ) (r : Result Trace TraceFault) → Answers r (checked bytes) → IfErr r (λ f. Placed (length bytes) f)
is_placed bytes (Ok t) given = tt
is_placed bytes (Err faults.OutOfMemory) given = tt
is_placed bytes (Err (faults.Bad at reason)) given = placed_within (length bytes) at reason (trace_at bytes) (trace_judged bytes) given
