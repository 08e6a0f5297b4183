-- Words in front of bytes, and steps of a reader that found something.
use Rattle.std.proofs.Common.{◌≡◌, ◌≢◌, ◌++◌, ◌∙◌, ◌-◌, ◌+◌, ℕ, Bool, true, false, cond, List, [], ◌∷◌, Option, Some, None, refl, sym, ap, length, take, drop, eqb, inl, inr, ◌⊎◌, arith}
use Rattle.std.specs.Option.{MatchOption}
use Rattle.std.specs.Cmp.Lexicographic.{pointwise}
use Rattle.std.proofs.lemmas.Slice.Eq.{strip_prefix_is}
use Rattle.std.proofs.lemmas.Bool.Decides.{Decides-eqb}
use Rattle.pipetrace.specs.Reading.{◌>>=◌, Gives, behind, first_of, else_of}
use denote.Ref.{Bor}

-- a step that found something
pub bind_some : {A B : Type 0} (o : Option A) (f : A → Option B) (y : B) → (o >>= f) ≡ Some y → (x : A) × (o ≡ Some x) × (f x ≡ Some y)
bind_some (Some x) f y e = (x, refl, e)
bind_some None f y e = absurd cc

-- a test that passed
pub passed : {A : Type 0} (b : Bool) (o : Option A) (y : A) → cond b o None ≡ Some y → (b ≡ true) × (o ≡ Some y)
passed true o y e = (refl, e)
passed false o y e = absurd cc

pub some_is : {A : Type 0} (x y : A) → Some x ≡ Some y → x ≡ y
some_is x y e = cc

-- the first answer, or the other one
pub first_is : {A : Type 0} (o : Option (List ℕ)) (x : A) (other : Option (A × List ℕ)) (y : A × List ℕ) → first_of o x other ≡ Some y → ((o ≡ Some y.1) × (y.0 ≡ x)) ⊎ (other ≡ Some y)
first_is (Some rest) x other y e = inl (ap (λ (z : _). Some z) (ap (λ z. z.1) (some_is (x, rest) y e)), sym (ap (λ z. z.0) (some_is (x, rest) y e)))
first_is None x other y e = inr e

pub else_is : {A : Type 0} (o other : Option A) (y : A) → else_of o other ≡ Some y → (o ≡ Some y) ⊎ (other ≡ Some y)
else_is (Some x) other y e = inl e
else_is None other y e = inr e

-- ---- words

eqb_same : (c : ℕ) → eqb c c ≡ true
eqb_same c = grind arith

eqb_is : (c b : ℕ) → eqb c b ≡ true → c ≡ b
eqb_is c b e = grind arith

pub behind_again : (word rest : List ℕ) → behind word (word ++ rest) ≡ Some rest
unfolding behind
behind_again [] rest = refl
behind_again (c ∷ cs) rest = ap (λ b. cond b (behind cs (cs ++ rest)) None) (eqb_same c) ∙ behind_again cs rest

pub behind_is : (word bytes rest : List ℕ) → behind word bytes ≡ Some rest → bytes ≡ word ++ rest
unfolding behind
behind_is [] bytes rest e = some_is bytes rest e
behind_is (c ∷ cs) [] rest e = absurd cc
behind_is (c ∷ cs) (b ∷ bs) rest e =
    let p = passed (eqb c b) (behind cs bs) rest e in
    ap (λ x. x ∷ bs) (sym (eqb_is c b p.0)) ∙ ap (λ l. c ∷ l) (behind_is cs bs rest p.1)

behind_none : (word bytes : List ℕ) (o : Option (List ℕ)) → behind word bytes ≡ o → ((rest : List ℕ) → bytes ≢ word ++ rest) → behind word bytes ≡ None
behind_none word bytes (Some rest) e h = absurd (h rest (behind_is word bytes rest e))
behind_none word bytes None e h = e

strips_by : (bytes word : List ℕ) (r : Option (Bor (List ℕ))) → MatchOption r ((rest : List ℕ) → bytes ≢ word ++ rest) (λ x. bytes ≡ word ++ x.now) → Gives (λ rest. rest.now) r (behind word bytes)
strips_by bytes word (Some x) h = ap (behind word) h ∙ behind_again word x.now
strips_by bytes word None h = behind_none word bytes (behind word bytes) refl h

-- what the strip of a word gives
pub strips : (bytes word : List ℕ) (r : Option (Bor (List ℕ))) → MatchOption r (pointwise eqb (take (length word) bytes) word ≡ false) (λ x. (pointwise eqb (take (length word) bytes) word ≡ true) × (x.now ≡ drop (length word) bytes) × (length x.now + length word ≡ length bytes)) → Gives (λ rest. rest.now) r (behind word bytes)
strips bytes word r h = strips_by bytes word r (strip_prefix_is Decides-eqb bytes word r h)
