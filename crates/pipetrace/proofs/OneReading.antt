-- A text is that of one log, and bytes have one first bad line.
use Rattle.std.proofs.Common.{◌≡◌, ◌++◌, ◌∙◌, ◌+◌, ◌-◌, ◌<◌, ◌≤◌, ℕ, suc, List, [], ◌∷◌, Option, Some, None, refl, sym, ap, subst, append_assoc, length, length-append, arith, inl, inr, ◌⊎◌}
use Rattle.std.specs.Prelude.{codes}
use Rattle.std.proofs.lemmas.Bool.{cases_lt}
use Rattle.ooo_table.specs.declared.event.Event.{Event}
use Rattle.ooo_table.specs.declared.event.Log.{Log}
use Rattle.pipetrace.specs.declared.reading.Last.{Last}
use Rattle.pipetrace.specs.declared.reading.Last.TheVariants as last
use Rattle.pipetrace.specs.Text.{text_of}
use Rattle.pipetrace.specs.Grammar.{IsTextOf}
use Rattle.pipetrace.specs.Fronts.{IsFirstBad, IsFront, line_count}
use Rattle.pipetrace.specs.Reading.{Place, after_line, line_at, next_line, place, place_after, with_act}
use Rattle.pipetrace.proofs.Words.{bind_some, some_is}
use Rattle.pipetrace.proofs.Lines.{count_body, line_body, line_is, line_text}
use Rattle.pipetrace.proofs.Steps.{any_front_read}
use Rattle.pipetrace.proofs.Finds.{in_front, more_line, none_later, not_both, stands, stops_after, whole_text}

-- ---- one log

log_of : List Event → Last → Log → Log
log_of es (last.End n w) other = record { events = es; cycles = n; end = w }
log_of es last.Nothing other = other
log_of es (last.Cycle c) other = other
log_of es (last.Act e) other = other

pub one_log : (bytes : List ℕ) (a b : Log) → IsTextOf bytes a → IsTextOf bytes b → a ≡ b
unfolding log_of
one_log bytes a b h k =
    let lines : line_count (text_of a) ≡ line_count (text_of b) = ap line_count (sym h.bytes_are ∙ k.bytes_are) in
    let same = some_is (place a.events (last.End a.cycles a.end) []) (place b.events (last.End b.cycles b.end) []) (sym (whole_text a bytes h) ∙ ap (λ m. place_after m bytes) lines ∙ whole_text b bytes k) in
    ap (λ (p : Place). log_of p.events p.last a) same

-- ---- one first bad line

both_empty : (xs ys : List ℕ) → length (xs ++ ys) ≡ length ys → xs ≡ []
both_empty [] ys e = refl
both_empty (x ∷ xs) ys e = absurd (omega (arith, length-append xs ys))

cells : (x y : ℕ) (xs ys : List ℕ) → xs ≡ ys → x ≡ y → x ∷ xs ≡ y ∷ ys
cells x y xs ys e f = cc

head_is : (x y : ℕ) (xs ys : List ℕ) → x ∷ xs ≡ y ∷ ys → x ≡ y
head_is x y xs ys e = cc

tail_is : (x y : ℕ) (xs ys : List ℕ) → x ∷ xs ≡ y ∷ ys → xs ≡ ys
tail_is x y xs ys e = cc

cancel : (xs ys zs : List ℕ) → xs ++ zs ≡ ys ++ zs → xs ≡ ys
cancel [] ys zs e = sym (both_empty ys zs (ap length (sym e)))
cancel (x ∷ xs) [] zs e = both_empty (x ∷ xs) zs (ap length e)
cancel (x ∷ xs) (y ∷ ys) zs e = cells x y xs ys (cancel xs ys zs (tail_is x y (xs ++ zs) (ys ++ zs) e)) (head_is x y (xs ++ zs) (ys ++ zs) e)

goes_on : (bytes : List ℕ) (k : ℕ) (b : IsFirstBad bytes k) (p : Place) → place_after (line_count b.front) bytes ≡ Some p → p.rest ≡ b.rest → (t : Last × List ℕ) → next_line p.last p.rest ≡ Some t → ⊥
unfolding next_line
goes_on bytes k b p comes left t e =
    let found = bind_some (line_at p.rest) _ t e in
    let next = bind_some (after_line p.last found.0.0) _ t found.2 in
    let l = line_is p.rest found.0 found.1 in
    let s = stands (line_count b.front) bytes p comes in
    let front : s.front ≡ b.front = cancel s.front b.front b.rest (ap (λ r. s.front ++ r) (sym left) ∙ sym s.parts ∙ b.parts) in
    let rest : b.rest ≡ line_body found.0.0 ++ 10 ∷ found.0.1 = sym left ∙ l.0 ∙ append_assoc (line_body found.0.0) (codes "\n") found.0.1 in
    b.bad (line_body found.0.0) found.0.1 rest (count_body found.0.0 l.1)
    (subst (λ f. IsFront (f ++ line_text found.0.0)) front (in_front (with_act p.events next.0) next.0 (s.front ++ line_text found.0.0) (more_line p.events p.last next.0 s.front found.0.0 s.is l.1 next.1)))

-- no line can be read behind the front of a first bad line
stops_at : (bytes : List ℕ) (k : ℕ) (b : IsFirstBad bytes k) (p : Place) → place_after (line_count b.front) bytes ≡ Some p → p.rest ≡ b.rest → (o : Option (Last × List ℕ)) → next_line p.last p.rest ≡ o → next_line p.last p.rest ≡ None
stops_at bytes k b p comes left None e = e
stops_at bytes k b p comes left (Some t) e = absurd (goes_on bytes k b p comes left t e)

-- so many lines can be read, and no more
record Reaches (bytes : List ℕ) (n : ℕ) : Type 0 where
  at : Place
  comes : place_after n bytes ≡ Some at
  stops : place_after (suc n) bytes ≡ None

reaches : (bytes : List ℕ) (k : ℕ) (b : IsFirstBad bytes k) → Reaches bytes (line_count b.front)
reaches bytes k b =
    let p = any_front_read b.front bytes b.rest b.keeps b.parts in
    record {
      at = p.0;
      comes = p.1;
      stops = stops_after bytes (line_count b.front) p.0 p.1 (stops_at bytes k b p.0 p.1 p.2 (next_line p.0.last p.0.rest) refl);
    }

not_before : (bytes : List ℕ) (n m k : ℕ) → Reaches bytes n → Reaches bytes m → m ≡ suc n + k → ⊥
not_before bytes n m k r s e = not_both (place_after m bytes) s.at (ap (λ x. place_after x bytes) e ∙ none_later k (suc n) bytes r.stops) s.comes

same_reach : (bytes : List ℕ) (n m : ℕ) → Reaches bytes n → Reaches bytes m → ((n < m) ⊎ (m ≤ n)) → ((m < n) ⊎ (n ≤ m)) → n ≡ m
same_reach bytes n m r s (inl h) other = absurd (not_before bytes n m (m - suc n) r s (omega arith))
same_reach bytes n m r s (inr h) (inl k) = absurd (not_before bytes m n (n - suc m) s r (omega arith))
same_reach bytes n m r s (inr h) (inr k) = omega arith

pub one_first_bad : (bytes : List ℕ) (k m : ℕ) → IsFirstBad bytes k → IsFirstBad bytes m → k ≡ m
one_first_bad bytes k m a b =
    let n = line_count a.front in
    let o = line_count b.front in
    let same : line_count a.front ≡ line_count b.front = same_reach bytes (line_count a.front) (line_count b.front) (reaches bytes k a) (reaches bytes m b) (cases_lt (line_count a.front) (line_count b.front)) (cases_lt (line_count b.front) (line_count a.front)) in
    omega (arith, a.number, b.number, same)
