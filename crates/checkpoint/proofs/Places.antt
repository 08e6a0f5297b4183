-- A refusal stands in the file, and reading tells no reason that needs the object.
use Rattle.std.proofs.Common.{◌≡◌, ℕ, zero, suc, ◌+◌, ◌-◌, ◌<◌, ◌≤◌, Bool, true, false, cond, ltb, eqb, List, [], ◌∷◌, length, drop, Result, Ok, Err, refl, sym, ap, ◌∙◌, arith}
use Rattle.std.specs.Prelude.{IfErr}
use Rattle.std.proofs.lemmas.Bool.{ltb-false, ltb-true}
use Rattle.std.proofs.lemmas.List.{length-drop}
use Rattle.checkpoint.specs.declared.fault.PointWhy.{PointWhy}
use Rattle.checkpoint.specs.declared.fault.PointWhy.TheVariants as why
use Rattle.checkpoint.specs.declared.fault.PointFault.{PointFault}
use Rattle.checkpoint.specs.declared.fault.PointFault.TheVariants as faults
use Rattle.checkpoint.specs.State.{PointState}
use Rattle.checkpoint.specs.Grammar.{next_page}
use Rattle.checkpoint.specs.Reading.{Refusal, ◌>>=◌, Check, judged, version_of, head_checks, order_checks, head_check, start_at, page_checks, page_at, pages_at, point_at, placed, checked, Answers, needs_object, IsPlaced, Placed}

abbrev is_short : PointWhy → Bool
is_short why.Short = true
is_short why.Magic = false
is_short why.Count = false
is_short why.Register = false
is_short why.Ended = false
is_short why.Pages = false
is_short why.ByteOrder = false
is_short why.Order = false
is_short why.ZeroPage = false
is_short why.Extra = false
is_short why.OtherOrder = false
is_short why.Text = false
is_short why.OtherText = false

-- a reason at a place that is counted from the end
record Stands (size left : ℕ) (reason : PointWhy) : Type 0 where
  cut : reason ≡ why.Short → left ≡ 0
  inside : (reason ≡ why.Short → ⊥) → 0 < left
  within : left ≤ size
  alone : needs_object reason ≡ false

not_both : {X : Type 0} (b : Bool) → b ≡ true → b ≡ false → X
not_both true e f = absurd cc
not_both false e f = absurd cc

at_field : (size left : ℕ) (reason : PointWhy) → is_short reason ≡ false → needs_object reason ≡ false → 0 < left → left ≤ size → Stands size left reason
at_field size left reason h o pos le = record {
  cut = λ e. not_both (is_short reason) (ap is_short e) h;
  inside = λ _. pos;
  within = le;
  alone = o;
}

at_end : (size : ℕ) → Stands size 0 why.Short
at_end size = record { cut = λ _. refl; inside = λ h. absurd (h refl); within = omega arith; alone = refl }

-- a result of reading bytes of a size: a rest that is no longer, or a refusal in them
abbrev Judged : {A : Type 0} → (A → ℕ) → ℕ → Result A Refusal → Type 0
Judged rest size (Ok x) = rest x ≤ size
Judged rest size (Err e) = Stands size e.left e.why

weaken : {A : Type 0} (rest : A → ℕ) (small size : ℕ) (r : Result A Refusal) → small ≤ size → Judged rest small r → Judged rest size r
weaken rest small size (Ok x) le h = omega (arith, h, le)
weaken rest small size (Err e) le h = record { cut = h.cut; inside = h.inside; within = omega (arith, h.within, le); alone = h.alone }

judged_if : {A : Type 0} (rest : A → ℕ) (size : ℕ) (b : Bool) (d : Refusal) (r : Result A Refusal) → (b ≡ true → Stands size d.left d.why) → (b ≡ false → Judged rest size r) → Judged rest size (cond b (Err d) r)
judged_if rest size true d r s f = s refl
judged_if rest size false d r s f = f refl

either : {A : Type 0} (rest : A → ℕ) (size : ℕ) (b : Bool) (r s : Result A Refusal) → Judged rest size r → Judged rest size s → Judged rest size (cond b r s)
either rest size true r s h k = h
either rest size false r s h k = k

judged_then : {A B : Type 0} (m : A → ℕ) (n : B → ℕ) (size : ℕ) (r : Result A Refusal) (f : A → Result B Refusal) → Judged m size r → ((x : A) → Judged n (m x) (f x)) → Judged n size (r >>= f)
judged_then m n size (Ok x) f h g = weaken n (m x) size (f x) h (g x)
judged_then m n size (Err e) f h g = h

-- checks of fields that have a byte, for reasons that reading tells
record IsField (c : Check) : Type 0 where
  some : c.at < c.end
  long : is_short c.why ≡ false
  alone : needs_object c.why ≡ false

abbrev AreFields : List Check → Type 0
AreFields [] = Unit {0}
AreFields (c ∷ cs) = IsField c × AreFields cs

field : (c : Check) → c.at < c.end → is_short c.why ≡ false → needs_object c.why ≡ false → IsField c
field c s l o = record { some = s; long = l; alone = o }

checks_judged : (bytes : List ℕ) (cs : List Check) → AreFields cs → Judged (λ _. length bytes) (length bytes) (judged bytes cs)
checks_judged bytes [] fields = omega arith
checks_judged bytes (c ∷ cs) fields =
    let size = length bytes in
    judged_if (λ _. size) size (ltb size c.end) _ _ (λ _. at_end size) (λ there.
    let long : c.end ≤ size = ltb-false size c.end there in
    judged_if (λ _. size) size c.fails _ _ (λ _. at_field size (size - c.at) c.why fields.0.long fields.0.alone (omega (arith, fields.0.some, long)) (omega arith)) (λ _. checks_judged bytes cs fields.1))

head_judged : (bytes : List ℕ) → Judged (λ _. length bytes) (length bytes) (head_check bytes)
unfolding head_check
head_judged bytes =
    checks_judged bytes (head_checks bytes) (
      field _ (omega arith) refl refl,
      (
        field _ (omega arith) refl refl,
        (
          field _ (omega arith) refl refl,
          (
            field _ (omega arith) refl refl,
            (
              field _ (omega arith) refl refl,
              (field _ (omega arith) refl refl, tt),
            ),
          ),
        ),
      ),
    )

start_judged : (bytes : List ℕ) → Judged (λ x. length x.1) (length bytes) (start_at bytes)
unfolding start_at
start_judged bytes =
    let size = length bytes in
    judged_then (λ _. size) (λ x. length x.1) size (head_check bytes) _ (head_judged bytes) (λ _.
    either (λ x. length x.1) size (eqb (version_of bytes) 1) _ _ (omega (arith, length-drop 180 bytes))
    (judged_then (λ _. size) (λ x. length x.1) size (judged bytes (order_checks bytes)) _ (checks_judged bytes (order_checks bytes) (field _ (omega arith) refl refl, tt)) (λ _. omega (arith, length-drop 184 bytes))))

page_judged : (least : ℕ) (bytes : List ℕ) → Judged (λ x. length x.1) (length bytes) (page_at least bytes)
unfolding page_at
page_judged least bytes =
    let size = length bytes in
    judged_then (λ _. size) (λ x. length x.1) size (judged bytes (page_checks least bytes)) _ (checks_judged bytes (page_checks least bytes) (field _ (omega arith) refl refl, (field _ (omega arith) refl refl, tt))) (λ _. omega (arith, length-drop 4096 (drop 4 bytes), length-drop 4 bytes))

pages_judged : (n least : ℕ) (bytes : List ℕ) → Judged (λ x. length x.1) (length bytes) (pages_at n least bytes)
unfolding pages_at
pages_judged zero least bytes = omega arith
pages_judged (suc n) least bytes =
    judged_then (λ x. length x.1) (λ x. length x.1) (length bytes) (page_at least bytes) _ (page_judged least bytes) (λ first.
    judged_then (λ x. length x.1) (λ x. length x.1) (length first.1) (pages_at n (next_page first.0) first.1) _ (pages_judged n (next_page first.0) first.1) (λ others. omega arith))

-- what is left over stands before the end
extra : {A : Type 0} (rest : A → ℕ) (n : ℕ) (x : A) → rest x ≤ n → Judged rest n (cond (ltb 0 n) (Err (record { left = n; why = why.Extra })) (Ok x))
extra rest n x le = judged_if rest n (ltb 0 n) (record { left = n; why = why.Extra }) (Ok x) (λ e. at_field n n why.Extra refl refl (ltb-true 0 n e) (omega arith)) (λ _. le)

point_judged : (bytes : List ℕ) → Judged (λ _. 0) (length bytes) (point_at bytes)
unfolding point_at
point_judged bytes =
    judged_then (λ x. length x.1) (λ _. 0) (length bytes) (start_at bytes) _ (start_judged bytes) (λ s.
    judged_then (λ x. length x.1) (λ _. 0) (length s.1) (pages_at s.0.count 0 s.1) _ (pages_judged s.0.count 0 s.1) (λ r.
    extra (λ _. 0) (length r.1) _ (omega arith)))

abbrev place_of : Result PointState PointFault → ℕ
place_of (Err (faults.Bad at reason)) = at
place_of (Err faults.OutOfMemory) = 0
place_of (Ok p) = 0

abbrev why_of : Result PointState PointFault → PointWhy
why_of (Err (faults.Bad at reason)) = reason
why_of (Err faults.OutOfMemory) = why.Short
why_of (Ok p) = why.Short

placed_within : (size at : ℕ) (reason : PointWhy) (r : Result PointState Refusal) → Judged (λ _. 0) size r → placed size r ≡ Err (faults.Bad at reason) → IsPlaced size at reason
placed_within size at reason (Ok x) h e = absurd cc
placed_within size at reason (Err d) h e =
    let a : size - d.left ≡ at = ap place_of e in
    let w : d.why ≡ reason = ap why_of e in
    record {
      short = λ s. omega (arith, a, h.cut (w ∙ s), h.within);
      field = λ s. omega (arith, a, h.inside (λ x. s (sym w ∙ x)), h.within);
      alone = ap needs_object (sym w) ∙ h.alone;
    }

pub is_placed : (bytes : List ℕ) (r : Result PointState PointFault) → Answers r (checked bytes) → IfErr r (λ f. Placed (length bytes) f)
is_placed bytes (Ok p) given = tt
is_placed bytes (Err faults.OutOfMemory) given = tt
is_placed bytes (Err (faults.Bad at reason)) given = placed_within (length bytes) at reason (point_at bytes) (point_judged bytes) given
