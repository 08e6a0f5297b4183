-- What was read is a front of a text, and where reading stops is the first bad line.
use Rattle.std.proofs.Common.{◌≡◌, ◌++◌, ◌∙◌, ◌+◌, ◌-◌, ◌^◌, ◌<◌, ℕ, zero, suc, true, false, cond, eqb, ltb, List, [], ◌∷◌, Option, Some, None, refl, sym, ap, subst, append_assoc, append-nil, arith, inl, inr}
use Rattle.std.proofs.lemmas.Bool.Decides.{nat_tests}
use Rattle.std.specs.Prelude.{codes}
use Rattle.ooo_table.specs.declared.event.Mark.{Mark}
use Rattle.ooo_table.specs.declared.event.Event.{Event}
use Rattle.ooo_table.specs.declared.event.EndWord.{EndWord}
use Rattle.ooo_table.specs.declared.event.Log.{Log}
use Rattle.pipetrace.specs.declared.line.Line.{Line}
use Rattle.pipetrace.specs.declared.line.Line.TheVariants as line
use Rattle.pipetrace.specs.declared.reading.Last.{Last}
use Rattle.pipetrace.specs.declared.reading.Last.TheVariants as last
use Rattle.pipetrace.specs.Text.{cycle_line, end_line, event_text, events_text, is_open, mark_text, text_of}
use Rattle.pipetrace.specs.Grammar.{Follows, InOrder, IsMark, IsEnd, IsTextOf}
use Rattle.pipetrace.specs.Fronts.{CycleLine, EventLines, IsFirstBad, IsFront, WholeText, line_count}
use Rattle.pipetrace.specs.Reading.{◌>>=◌, IsStuck, IsWhole, Place, after_line, event_of, is_later, line_at, next_line, place, place_after, step, with_act}
use Rattle.pipetrace.proofs.Words.{bind_some, passed, some_is}
use Rattle.pipetrace.proofs.Lines.{FitsLine, count_joined, count_line, line_is, line_text}
use Rattle.pipetrace.proofs.Order.{IsBelow, cycle_of, final, final_below, final_more, lowered, order_more, raised, text_more}
use Rattle.pipetrace.proofs.Steps.{any_front_read, later_is, text_read}

abbrev log_with : List Event → ℕ → EndWord → Log
log_with es n w = record { events = es; cycles = n; end = w }

-- what was read so far
abbrev pub FrontOf : List Event → Last → List ℕ → Type 0
FrontOf es last.Nothing front = (es ≡ []) × (front ≡ [])
FrontOf es (last.Cycle c) front = InOrder c None es × (c < 2 ^ 62) × (front ≡ events_text None es ++ cycle_line c)
FrontOf es (last.Act e) front = InOrder (2 ^ 62) None es × (final None es ≡ Some e) × (front ≡ events_text None es)
FrontOf es (last.End n w) front = IsTextOf front (log_with es n w)

pub in_front : (es : List Event) (l : Last) (front : List ℕ) → FrontOf es l front → IsFront front
in_front es last.Nothing front h = EventLines [] tt h.1
in_front es (last.Cycle c) front h = CycleLine es c h.0 h.1 h.2
in_front es (last.Act e) front h = EventLines es h.0 h.2
in_front es (last.End n w) front h = WholeText (log_with es n w) h

-- ---- a line more

below_by : (o : Option Event) (e : Event) (c : ℕ) → o ≡ Some e → e.cycle < c → IsBelow o c
below_by o e c is h = subst (λ x. IsBelow x c) (sym is) h

-- an event that opens a cycle
follows_below : (o : Option Event) (e : Event) → IsBelow o e.cycle → Follows o e
follows_below None e h = tt
follows_below (Some d) e h = inl h

opens : (o : Option Event) (c : ℕ) → IsBelow o c → is_open (cycle_of o) c ≡ false
opens None c h = refl
opens (Some d) c h = grind (arith, nat_tests)

open_text : (o : Option ℕ) (e : Event) (front : List ℕ) → is_open o e.cycle ≡ false → (front ++ cycle_line e.cycle) ++ line_text (line.Act e.row e.mark) ≡ front ++ event_text o e
open_text o e front h =
    append_assoc front (cycle_line e.cycle) (mark_text e.row e.mark ++ codes "\n")
    ∙ ap (λ l. front ++ l) (sym (append_assoc (cycle_line e.cycle) (mark_text e.row e.mark) (codes "\n")))
    ∙ ap (λ p. front ++ (cond p [] (cycle_line e.cycle) ++ mark_text e.row e.mark ++ codes "\n")) (sym h)

first_event : (es : List Event) (c : ℕ) (front : List ℕ) (r : ℕ) (m : Mark) → FrontOf es (last.Cycle c) front → r < 2 ^ 62 → IsMark m → FrontOf (es ++ event_of c r m ∷ []) (last.Act (event_of c r m)) (front ++ line_text (line.Act r m))
first_event es c front r m h row mark =
    let e = event_of c r m in
    let below : IsBelow (final None es) c = final_below es None c h.0 tt in (
      order_more es None (2 ^ 62) e (raised es None c (2 ^ 62) (omega (arith, h.1)) h.0) (follows_below (final None es) e below) (record { cycle = h.1; row = row; mark = mark }),
      final_more es None e,
      ap (λ f. f ++ line_text (line.Act r m)) h.2 ∙ open_text (cycle_of (final None es)) e (events_text None es) (opens (final None es) c below) ∙ sym (text_more es None e),
    )

-- an event behind another one of its cycle
same_open : (c : ℕ) → eqb c c ≡ true
same_open c = grind (arith, nat_tests)

next_text : (o : Option Event) (d : Event) (r : ℕ) (m : Mark) → o ≡ Some d → event_text (cycle_of o) (event_of d.cycle r m) ≡ line_text (line.Act r m)
next_text o d r m is =
    ap (λ x. event_text (cycle_of x) (event_of d.cycle r m)) is
    ∙ ap (λ p. cond p [] (cycle_line d.cycle) ++ mark_text r m ++ codes "\n") (same_open d.cycle)

last_below : (es : List Event) (b : Option Event) (k : ℕ) (d : Event) → InOrder k b es → IsBelow b k → final b es ≡ Some d → d.cycle < k
last_below es b k d h below is = subst (λ x. IsBelow x k) is (final_below es b k h below)

next_event : (es : List Event) (d : Event) (front : List ℕ) (r : ℕ) (m : Mark) → FrontOf es (last.Act d) front → is_later d (event_of d.cycle r m) ≡ true → r < 2 ^ 62 → IsMark m
    → FrontOf (es ++ event_of d.cycle r m ∷ []) (last.Act (event_of d.cycle r m)) (front ++ line_text (line.Act r m))
next_event es d front r m h later row mark =
    let e = event_of d.cycle r m in (
      order_more es None (2 ^ 62) e h.0 (subst (λ x. Follows x e) (sym h.1) (inr (refl, later_is d e later))) (record { cycle = last_below es None (2 ^ 62) d h.0 tt h.1; row = row; mark = mark }),
      final_more es None e,
      ap (λ f. f ++ line_text (line.Act r m)) h.2 ∙ ap (λ l. events_text None es ++ l) (sym (next_text (final None es) d r m h.1)) ∙ sym (text_more es None e),
    )

-- a line behind none
from_nothing : (front : List ℕ) (text : List ℕ) → front ≡ [] → front ++ text ≡ text
from_nothing front text h = ap (λ f. f ++ text) h

below_told : (a b : ℕ) → ltb a b ≡ true → a < b
below_told a b h = grind (arith, nat_tests)

more_cycle : (es : List Event) (before next : Last) (front : List ℕ) (c : ℕ) → FrontOf es before front → c < 2 ^ 62 → after_line before (line.Cycle c) ≡ Some next → FrontOf (with_act es next) next (front ++ line_text (line.Cycle c))
more_cycle es last.Nothing next front c h small a =
    subst (λ n. FrontOf (with_act es n) n (front ++ line_text (line.Cycle c))) (some_is (last.Cycle c) next a)
    (subst (λ x. FrontOf x (last.Cycle c) (front ++ line_text (line.Cycle c))) (sym h.0) (tt, small, from_nothing front (line_text (line.Cycle c)) h.1))
more_cycle es (last.Cycle b) next front c h small a = absurd cc
more_cycle es (last.Act e) next front c h small a =
    let p = passed (ltb e.cycle c) (Some (last.Cycle c)) next a in
    subst (λ n. FrontOf (with_act es n) n (front ++ line_text (line.Cycle c))) (some_is (last.Cycle c) next p.1)
    (lowered es None (2 ^ 62) c h.0 (below_by (final None es) e c h.1 (below_told e.cycle c p.0)), small, ap (λ f. f ++ cycle_line c) h.2)
more_cycle es (last.End n w) next front c h small a = absurd cc

more_act : (es : List Event) (before next : Last) (front : List ℕ) (r : ℕ) (m : Mark) → FrontOf es before front → r < 2 ^ 62 → IsMark m → after_line before (line.Act r m) ≡ Some next → FrontOf (with_act es next) next (front ++ line_text (line.Act r m))
more_act es last.Nothing next front r m h row mark a = absurd cc
more_act es (last.Cycle c) next front r m h row mark a =
    subst (λ n. FrontOf (with_act es n) n (front ++ line_text (line.Act r m))) (some_is (last.Act (event_of c r m)) next a)
    (first_event es c front r m h row mark)
more_act es (last.Act d) next front r m h row mark a =
    let p = passed (is_later d (event_of d.cycle r m)) (Some (last.Act (event_of d.cycle r m))) next a in
    subst (λ n. FrontOf (with_act es n) n (front ++ line_text (line.Act r m))) (some_is (last.Act (event_of d.cycle r m)) next p.1)
    (next_event es d front r m h p.0 row mark)
more_act es (last.End n w) next front r m h row mark a = absurd cc

text_with : (es : List Event) (n : ℕ) (w : EndWord) (front : List ℕ) → InOrder n None es → n < 2 ^ 62 → IsEnd w → front ≡ events_text None es → IsTextOf (front ++ end_line n w) (log_with es n w)
text_with es n w front h small end e = record {
  is_log = record { events = h; cycles = small; end = end };
  bytes_are = ap (λ f. f ++ end_line n w) e;
}

more_end : (es : List Event) (before next : Last) (front : List ℕ) (n : ℕ) (w : EndWord) → FrontOf es before front → n < 2 ^ 62 → IsEnd w → after_line before (line.End n w) ≡ Some next → FrontOf (with_act es next) next (front ++ line_text (line.End n w))
more_end es last.Nothing next front n w h small end a =
    subst (λ x. FrontOf (with_act es x) x (front ++ line_text (line.End n w))) (some_is (last.End n w) next a)
    (text_with es n w front (subst (λ x. InOrder n None x) (sym h.0) tt) small end (h.1 ∙ ap (events_text None) (sym h.0)))
more_end es (last.Cycle b) next front n w h small end a = absurd cc
more_end es (last.Act e) next front n w h small end a =
    let p = passed (ltb e.cycle n) (Some (last.End n w)) next a in
    subst (λ x. FrontOf (with_act es x) x (front ++ line_text (line.End n w))) (some_is (last.End n w) next p.1)
    (text_with es n w front (lowered es None (2 ^ 62) n h.0 (below_by (final None es) e n h.1 (below_told e.cycle n p.0))) small end h.2)
more_end es (last.End k v) next front n w h small end a = absurd cc

pub more_line : (es : List Event) (before next : Last) (front : List ℕ) (l : Line) → FrontOf es before front → FitsLine l → after_line before l ≡ Some next → FrontOf (with_act es next) next (front ++ line_text l)
more_line es before next front (line.Cycle c) h fits a = more_cycle es before next front c h fits a
more_line es before next front (line.Act r m) h fits a = more_act es before next front r m h fits.0 fits.1 a
more_line es before next front (line.End n w) h fits a = more_end es before next front n w h fits.0 fits.1 a

-- ---- lines

pub record Stands (bytes : List ℕ) (n : ℕ) (p : Place) : Type 0 where
  pub front : List ℕ
  pub parts : bytes ≡ front ++ p.rest
  pub number : line_count front ≡ n
  pub is : FrontOf p.events p.last front

one_more : (bytes : List ℕ) (n : ℕ) (p q : Place) → Stands bytes n p → step p ≡ Some q → Stands bytes (suc n) q
unfolding next_line
one_more bytes n p q s e =
    let t = bind_some (next_line p.last p.rest) _ q e in
    let found = bind_some (line_at p.rest) _ t.0 t.1 in
    let next = bind_some (after_line p.last found.0.0) _ t.0 found.2 in
    let l = line_is p.rest found.0 found.1 in
    let same = some_is (next.0, found.0.1) t.0 next.2 in
    let here : Stands bytes (suc n) (place (with_act p.events next.0) next.0 found.0.1) = record {
      front = s.front ++ line_text found.0.0;
      parts = s.parts ∙ ap (λ r. s.front ++ r) l.0 ∙ sym (append_assoc s.front (line_text found.0.0) found.0.1);
      number = omega (arith, count_joined s.front (line_text found.0.0), count_line found.0.0 l.1, s.number);
      is = more_line p.events p.last next.0 s.front found.0.0 s.is l.1 next.1;
    } in
    subst (λ x. Stands bytes (suc n) x) (some_is (place (with_act p.events t.0.0) t.0.0 t.0.1) q t.2)
    (subst (λ x. Stands bytes (suc n) (place (with_act p.events x.0) x.0 x.1)) same here)

pub stands : (n : ℕ) (bytes : List ℕ) (p : Place) → place_after n bytes ≡ Some p → Stands bytes n p
unfolding place_after
stands zero bytes p e = subst (λ x. Stands bytes 0 x) (some_is (place [] last.Nothing bytes) p e) (record { front = []; parts = refl; number = refl; is = (refl, refl) })
stands (suc n) bytes p e =
    let q = bind_some (place_after n bytes) step p e in
    one_more bytes n q.0 p (stands n bytes q.0 q.1) q.2

plain : (n : ℕ) → n + 0 ≡ n
plain n = omega arith

shifted : (n k : ℕ) → n + suc k ≡ suc (n + k)
shifted n k = omega arith

moved : (n k : ℕ) → n + suc k ≡ suc n + k
moved n k = omega arith

-- no line is read behind one that can't be
pub none_later : (k n : ℕ) (bytes : List ℕ) → place_after n bytes ≡ None → place_after (n + k) bytes ≡ None
unfolding place_after
none_later zero n bytes e = ap (λ m. place_after m bytes) (plain n) ∙ e
none_later (suc k) n bytes e = ap (λ m. place_after m bytes) (shifted n k) ∙ ap (λ o. o >>= step) (none_later k n bytes e)

pub not_both : {A : Type 0} (o : Option A) (x : A) → o ≡ None → o ≡ Some x → ⊥
not_both o x e f = cc

step_none : (p : Place) → next_line p.last p.rest ≡ None → step p ≡ None
step_none p e = ap (λ o. o >>= λ t. Some (place (with_act p.events t.0) t.0 t.1)) e

pub stops_after : (bytes : List ℕ) (n : ℕ) (p : Place) → place_after n bytes ≡ Some p → next_line p.last p.rest ≡ None → place_after (suc n) bytes ≡ None
unfolding place_after
stops_after bytes n p e f = ap (λ o. o >>= step) e ∙ step_none p f

-- where reading is at the end of a text, it is whole
whole_by : (p q : Place) → p ≡ q → IsWhole q.last q.rest → IsWhole p.last p.rest
whole_by p q e h = subst (λ x. IsWhole x.last x.rest) (sym e) h

ended_there : (bytes : List ℕ) (n m k : ℕ) (p : Place) (es : List Event) (c : ℕ) (w : EndWord) → place_after n bytes ≡ Some p → next_line p.last p.rest ≡ None → place_after m bytes ≡ Some (place es (last.End c w) [])
    → m ≡ n + k → IsWhole p.last p.rest
ended_there bytes n m zero p es c w e f g h = whole_by p (place es (last.End c w) []) (some_is p (place es (last.End c w) []) (sym e ∙ ap (λ x. place_after x bytes) (sym (h ∙ plain n)) ∙ g)) tt
ended_there bytes n m (suc k) p es c w e f g h = absurd (not_both (place_after m bytes) (place es (last.End c w) []) (ap (λ x. place_after x bytes) (h ∙ moved n k) ∙ none_later k (suc n) bytes (stops_after bytes n p e f)) g)

pub whole_text : (log : Log) (bytes : List ℕ) → IsTextOf bytes log → place_after (line_count (text_of log)) bytes ≡ Some (place log.events (last.End log.cycles log.end) [])
whole_text log bytes h = text_read log bytes [] h.is_log (h.bytes_are ∙ sym (append-nil (text_of log)))

-- the lines of a text are those before reading stops and those behind
lines_left : (bytes : List ℕ) (n : ℕ) (p : Place) → Stands bytes n p → (log : Log) → IsTextOf bytes log → line_count (text_of log) ≡ n + line_count p.rest
lines_left bytes n p t log h = omega (arith, ap line_count (sym h.bytes_are ∙ t.parts), count_joined t.front p.rest, t.number)

-- a line that would go on with the front could be read
bad_line : (bytes : List ℕ) (n : ℕ) (p : Place) (t : Stands bytes n p) (next more : List ℕ) → p.rest ≡ next ++ 10 ∷ more → line_count next ≡ 0 → IsFront (t.front ++ (next ++ 10 ∷ []))
    → place_after n bytes ≡ Some p → next_line p.last p.rest ≡ None → ⊥
bad_line bytes n p t next more e none front comes stops =
    let longer = t.front ++ (next ++ 10 ∷ []) in
    let parts : bytes ≡ longer ++ more = t.parts ∙ ap (λ r. t.front ++ r) (e ∙ sym (append_assoc next (10 ∷ []) more)) ∙ sym (append_assoc t.front (next ++ 10 ∷ []) more) in
    let q = any_front_read longer bytes more front parts in
    let lines : line_count longer ≡ suc n = omega (arith, count_joined t.front (next ++ 10 ∷ []), count_joined next (10 ∷ []), t.number, none) in
    not_both (place_after (suc n) bytes) q.0 (stops_after bytes n p comes stops) (ap (λ m. place_after m bytes) (sym lines) ∙ q.1)

pub stuck_is_bad : (bytes : List ℕ) (k : ℕ) → IsStuck bytes k → IsFirstBad bytes k
stuck_is_bad bytes k s =
    let p = s.place in
    let t = stands s.before bytes p s.comes in
    record {
      front = t.front;
      rest = p.rest;
      parts = t.parts;
      keeps = in_front p.events p.last t.front t.is;
      number = omega (arith, s.number, t.number);
      bad = λ next more e plain_next front. bad_line bytes s.before p t next more e plain_next front s.comes s.stops;
      no_text = λ log h. s.unfinished (ended_there bytes s.before (line_count (text_of log)) (line_count p.rest) p log.events log.cycles log.end s.comes s.stops (whole_text log bytes h) (lines_left bytes s.before p t log h));
    }

pub end_is_text : (bytes : List ℕ) (n : ℕ) (es : List Event) (c : ℕ) (w : EndWord) → place_after n bytes ≡ Some (place es (last.End c w) []) → IsTextOf bytes (log_with es c w)
end_is_text bytes n es c w e =
    let t = stands n bytes (place es (last.End c w) []) e in
    subst (λ x. IsTextOf x (log_with es c w)) (sym (t.parts ∙ append-nil t.front)) t.is

-- the log that was read, where the last line is known to be an end
pub end_read : (bytes : List ℕ) (n : ℕ) (es fs : List Event) (l : Last) (c : ℕ) (w : EndWord) → place_after n bytes ≡ Some (place es l []) → l ≡ last.End c w → fs ≡ es → IsTextOf bytes (log_with fs c w)
end_read bytes n es fs l c w h is same = subst (λ x. IsTextOf bytes (log_with x c w)) (sym same) (end_is_text bytes n es c w (subst (λ x. place_after n bytes ≡ Some (place es x [])) is h))
