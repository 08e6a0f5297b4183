-- Points that belong to an object.
use Rattle.std.proofs.Common.{◌≡◌, ℕ, zero, suc, ◌+◌, ◌<◌, ◌↔◌, Bool, true, false, not, ◌&&◌, cond, eqb, List, [], ◌∷◌, length, Result, Ok, Err, refl, sym, ap, ◌∙◌, arith}
use Rattle.std.specs.Prelude.{slice_index}
use Rattle.std.proofs.lemmas.Bool.{eqb-true, eq-eqb}
use Rattle.ecoff_load.specs.declared.image.Text.{Text}
use Rattle.event_trace.specs.Grammar.{order_number}
use Rattle.paged_mem.specs.Memory.{Pages, byte_of}
use Rattle.sim_safe.specs.State.{State, Storage, state_of, state_with, HoldsText}
use Rattle.checkpoint.specs.declared.fault.PointFault.{PointFault}
use Rattle.checkpoint.specs.declared.fault.PointFault.TheVariants as faults
use Rattle.checkpoint.specs.declared.fault.PointWhy.TheVariants as why
use Rattle.checkpoint.specs.declared.point.Head.{Head}
use Rattle.checkpoint.specs.State.{PointState}
use Rattle.checkpoint.specs.Held.{state_held, head_taken, IsPointOf, stands, order_place, refused, head_fit, text_fit, first_refusal, fit, Fits}

-- ---- the bytes of a text

both_true : (a b : Bool) → (a && b) ≡ true → (a ≡ true) × (b ≡ true)
both_true true b e = (refl, e)
both_true false b e = absurd cc

pub stands_all : (memory : ℕ → ℕ) (at : ℕ) (bytes : List ℕ) → ((k : ℕ) → k < length bytes → memory (at + k) ≡ slice_index bytes k) → stands memory at bytes ≡ true
stands_all memory at [] h = refl
stands_all memory at (b ∷ bs) h =
    let first : memory at ≡ b = ap memory (omega arith) ∙ h 0 (omega arith) in
    let others : stands memory (at + 1) bs ≡ true = stands_all memory (at + 1) bs (λ k lt. ap memory (omega arith) ∙ h (suc k) (omega (arith, lt))) in
    ap (λ (t : Bool). t && stands memory (at + 1) bs) (eq-eqb (memory at) b first) ∙ others

pub all_stand : (memory : ℕ → ℕ) (at : ℕ) (bytes : List ℕ) → stands memory at bytes ≡ true → (k : ℕ) → k < length bytes → memory (at + k) ≡ slice_index bytes k
all_stand memory at [] e k lt = absurd (omega (arith, lt))
all_stand memory at (b ∷ bs) e zero lt = ap memory (omega arith) ∙ eqb-true (memory at) b (both_true (eqb (memory at) b) (stands memory (at + 1) bs) e).0
all_stand memory at (b ∷ bs) e (suc k) lt =
    let there : at + suc k ≡ at + 1 + k = omega arith in
    ap memory there ∙ all_stand memory (at + 1) bs (both_true (eqb (memory at) b) (stands memory (at + 1) bs) e).1 k (omega (arith, lt))

-- ---- the checks

same_order : (a b : Bool) → not (eqb (order_number a) (order_number b)) ≡ false → a ≡ b
same_order true true e = refl
same_order true false e = absurd cc
same_order false true e = absurd cc
same_order false false e = refl

passes : (b : Bool) (f : PointFault) (r : Result (Unit {0}) PointFault) → cond b (Err f) r ≡ Ok tt → (b ≡ false) × (r ≡ Ok tt)
passes true f r e = absurd cc
passes false f r e = (refl, e)

not_not : (b : Bool) → not b ≡ false → b ≡ true
not_not true e = refl
not_not false e = absurd cc

record HeadFits (h : Head) (text : Text) : Type 0 where
  order : h.big ≡ text.big
  start : h.text_start ≡ text.start
  size : h.text_length ≡ length text.bytes

head_fits : (h : Head) (text : Text) → head_fit h text ≡ Ok tt → HeadFits h text
unfolding head_fit
head_fits h text e =
    let r3 : Result (Unit {0}) PointFault = Ok tt in
    let r2 : Result (Unit {0}) PointFault = cond (not (eqb h.text_length (length text.bytes))) (refused 172 why.Text) r3 in
    let r1 : Result (Unit {0}) PointFault = cond (not (eqb h.text_start text.start)) (refused 168 why.Text) r2 in
    let p1 = passes (not (eqb (order_number h.big) (order_number text.big))) (faults.Bad (order_place h.version) why.OtherOrder) r1 e in
    let p2 = passes (not (eqb h.text_start text.start)) (faults.Bad 168 why.Text) r2 p1.1 in
    let p3 = passes (not (eqb h.text_length (length text.bytes))) (faults.Bad 172 why.Text) r3 p2.1 in
    record {
      order = same_order h.big text.big p1.0;
      start = eqb-true h.text_start text.start (not_not (eqb h.text_start text.start) p2.0);
      size = eqb-true h.text_length (length text.bytes) (not_not (eqb h.text_length (length text.bytes)) p3.0);
    }

-- a head that fits has the text's byte order
order_fits : (h : Head) (text : Text) → head_fit h text ≡ Ok tt → h.big ≡ text.big
order_fits h text e = (head_fits h text e).order

head_passes : (h : Head) (text : Text) → h.big ≡ text.big → h.text_start ≡ text.start → h.text_length ≡ length text.bytes → head_fit h text ≡ Ok tt
unfolding head_fit
head_passes h text big start size =
    rw (eq-eqb (order_number h.big) (order_number text.big) (ap order_number big), eq-eqb h.text_start text.start start, eq-eqb h.text_length (length text.bytes) size) refl

text_passes : (memory : ℕ → ℕ) (text : Text) → stands memory text.start text.bytes ≡ true → text_fit memory text ≡ Ok tt
unfolding text_fit
text_passes memory text e = rw e refl

is_true : (b : Bool) (f : PointFault) (r : Result (Unit {0}) PointFault) → r ≡ Ok tt → cond b r (Err f) ≡ Ok tt → b ≡ true
is_true true f r o e = refl
is_true false f r o e = absurd cc

pub text_holds : (memory : ℕ → ℕ) (text : Text) → text_fit memory text ≡ Ok tt → HoldsText memory text
unfolding text_fit
text_holds memory text e = all_stand memory text.start text.bytes (is_true (stands memory text.start text.bytes) (faults.Bad 176 why.OtherText) (Ok tt) refl e)

both_ok : (a b : Result (Unit {0}) PointFault) → first_refusal a b ≡ Ok tt → (a ≡ Ok tt) × (b ≡ Ok tt)
both_ok (Ok x) b e = (refl, e)
both_ok (Err f) b e = absurd cc

fit_means : (p : PointState) (text : Text) → fit p text ≡ Ok tt → Fits p text
fit_means p text e =
    let both = both_ok (head_fit p.head text) (text_fit (byte_of p.pages) text) e in
    let head = head_fits p.head text both.0 in
    record { order = head.order; start = head.start; size = head.size; content = text_holds (byte_of p.pages) text both.1 }

fits_pass : (p : PointState) (text : Text) → Fits p text → fit p text ≡ Ok tt
fits_pass p text f =
    let head : head_fit p.head text ≡ Ok tt = head_passes p.head text f.order f.start f.size in
    let content : text_fit (byte_of p.pages) text ≡ Ok tt = text_passes (byte_of p.pages) text (stands_all (byte_of p.pages) text.start text.bytes f.content) in
    ap (λ (r : Result (Unit {0}) PointFault). first_refusal r (text_fit (byte_of p.pages) text)) head ∙ content

pub fit_exactly : (p : PointState) (text : Text) → (fit p text ≡ Ok tt) ↔ Fits p text
fit_exactly p text = (fit_means p text, fits_pass p text)

pub taken_fits : (m : Storage) (p : PointState) → IsPointOf m p → HoldsText (byte_of m.pages) m.text → fit p m.text ≡ Ok tt
taken_fits m p taken held =
    let bytes : byte_of p.pages ≡ byte_of m.pages = ap (λ (s : State). s.reads.bytes) taken.state in
    fits_pass p m.text (record {
      order = ap (λ (s : State). s.reads.big) taken.state;
      start = taken.text_start;
      size = taken.text_length;
      content = λ k lt. ap (λ (f : ℕ → ℕ). f (m.text.start + k)) bytes ∙ held k lt;
    })

-- the state that goes on is the one that the point holds
pub state_goes_on : (p : PointState) (pages : Pages) (regs : List ℕ) (text : Text) → head_fit p.head text ≡ Ok tt → byte_of pages ≡ byte_of p.pages → regs ≡ 0 ∷ p.head.regs
    → state_with text pages regs p.head.hi p.head.lo p.head.pc p.head.icnt p.head.used p.head.ended ≡ state_held p text
state_goes_on p pages regs text fits bytes same = rw (bytes, same, order_fits p.head text fits) refl

-- a point that was taken holds the machine's state
pub state_taken : (m : Storage) (pages : Pages) → byte_of pages ≡ byte_of m.pages → state_held (record { head = head_taken m; pages = pages }) m.text ≡ state_of m
state_taken m pages bytes = rw bytes refl
