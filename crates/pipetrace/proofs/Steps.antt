-- Reading comes exactly through the fronts of texts.
use Rattle.std.proofs.Common.{◌≡◌, ◌++◌, ◌∙◌, ◌+◌, ◌-◌, ◌^◌, ◌<◌, ◌≤◌, ℕ, suc, Bool, true, false, cond, eqb, ltb, List, [], ◌∷◌, Option, Some, None, refl, sym, ap, append_assoc, append-nil, arith, inl, inr}
use Rattle.std.proofs.lemmas.Bool.Decides.{nat_tests}
use Rattle.std.specs.Prelude.{codes}
use Rattle.ooo_table.specs.declared.event.Event.{Event}
use Rattle.ooo_table.specs.declared.event.EndWord.{EndWord}
use Rattle.ooo_table.specs.declared.event.Log.{Log}
use Rattle.pipetrace.specs.declared.line.Line.{Line}
use Rattle.pipetrace.specs.declared.line.Line.TheVariants as line
use Rattle.pipetrace.specs.declared.reading.Last.{Last}
use Rattle.pipetrace.specs.declared.reading.Last.TheVariants as last
use Rattle.pipetrace.specs.Text.{cycle_line, event_text, events_text, is_open, mark_text, text_of}
use Rattle.pipetrace.specs.Grammar.{Follows, InOrder, IsEvent, IsLog, Later, LaterInCycle, group}
use Rattle.pipetrace.specs.Fronts.{CycleLine, EventLines, IsFront, WholeText, line_count}
use Rattle.pipetrace.specs.Reading.{◌>>=◌, Place, after_line, event_of, is_later, line_at, next_line, place, place_after, step, with_act}
use Rattle.pipetrace.proofs.Lines.{FitsLine, count_joined, count_line, line_again, line_text}
use Rattle.pipetrace.proofs.Order.{IsBelow, cycle_of, final, final_below}

-- ---- one line

step_again : (p : Place) (l : Line) (next : Last) (rest : List ℕ) → FitsLine l → p.rest ≡ line_text l ++ rest → after_line p.last l ≡ Some next → step p ≡ Some (place (with_act p.events next) next rest)
unfolding next_line
step_again p l next rest fits e a =
    let found : line_at p.rest ≡ Some (l, rest) = ap line_at e ∙ line_again l rest fits in
    rw (found, a) refl

-- reading has come to a place, and goes on by a line
abbrev Comes : ℕ → List ℕ → List Event → Last → List ℕ → Type 0
Comes n bytes es l rest = place_after n bytes ≡ Some (place es l rest)

comes_more : (n : ℕ) (bytes : List ℕ) (es : List Event) (before next : Last) (l : Line) (rest : List ℕ) → FitsLine l → after_line before l ≡ Some next
    → Comes n bytes es before (line_text l ++ rest) → Comes (n + line_count (line_text l)) bytes (with_act es next) next rest
unfolding place_after
comes_more n bytes es before next l rest fits a h =
    let one : n + line_count (line_text l) ≡ suc n = omega (arith, count_line l fits) in
    ap (λ k. place_after k bytes) one
    ∙ ap (λ o. o >>= step) h
    ∙ step_again (place es before (line_text l ++ rest)) l next rest fits refl a

-- the same where what is left is known by an equation
comes_by : (n : ℕ) (bytes : List ℕ) (es : List Event) (l : Last) (x y : List ℕ) → x ≡ y → Comes n bytes es l x → Comes n bytes es l y
comes_by n bytes es l x y e h = h ∙ ap (λ r. Some (place es l r)) e

-- ---- events

abbrev line_before : Option Event → Last
line_before None = last.Nothing
line_before (Some e) = last.Act e

same_event : (e : Event) (c : ℕ) → c ≡ e.cycle → event_of c e.row e.mark ≡ e
same_event e c h = ap (λ k. event_of k e.row e.mark) h

later_told : (a b : Event) → LaterInCycle a b → is_later a b ≡ true
later_told a b (inl h) = grind (arith, nat_tests)
later_told a b (inr h) = grind (arith, nat_tests, h.0, h.1)

later_by : (a b : Event) (p q : Bool) → ltb (group a.mark) (group b.mark) ≡ p → eqb (group a.mark) (group b.mark) ≡ q → cond p true (cond q (ltb a.row b.row) false) ≡ true → LaterInCycle a b
later_by a b true q ep eq h = inl (grind (arith, nat_tests))
later_by a b false true ep eq h = inr (grind (arith, nat_tests), grind (arith, nat_tests))
later_by a b false false ep eq h = absurd cc

pub later_is : (a b : Event) → is_later a b ≡ true → LaterInCycle a b
later_is a b h = later_by a b (ltb (group a.mark) (group b.mark)) (eqb (group a.mark) (group b.mark)) refl refl h

in_cycle : (a b : Event) → a.cycle ≡ b.cycle → Later a b → LaterInCycle a b
in_cycle a b e (inl h) = absurd (omega arith)
in_cycle a b e (inr h) = h.1

new_cycle : (a b : Event) → eqb a.cycle b.cycle ≡ false → Later a b → ltb a.cycle b.cycle ≡ true
new_cycle a b o (inl h) = grind (arith, nat_tests)
new_cycle a b o (inr h) = absurd (grind (arith, nat_tests, h.0))

-- behind an event of the same cycle
same_cycle : (b : Option Event) (e : Event) → is_open (cycle_of b) e.cycle ≡ true → Follows b e → after_line (line_before b) (line.Act e.row e.mark) ≡ Some (last.Act e)
same_cycle None e o f = absurd cc
same_cycle (Some a) e o f =
    let c : a.cycle ≡ e.cycle = grind (arith, nat_tests) in
    let s = same_event e a.cycle c in
    let t : is_later a (event_of a.cycle e.row e.mark) ≡ true = ap (is_later a) s ∙ later_told a e (in_cycle a e c f) in
    rw t (ap (λ (x : Event). Some (last.Act x)) s)

other_cycle : (b : Option Event) (e : Event) → is_open (cycle_of b) e.cycle ≡ false → Follows b e → after_line (line_before b) (line.Cycle e.cycle) ≡ Some (last.Cycle e.cycle)
other_cycle None e o f = refl
other_cycle (Some a) e o f =
    let c : ltb a.cycle e.cycle ≡ true = new_cycle a e o f in
    rw c refl

event_by : (k n : ℕ) (bytes : List ℕ) (done : List Event) (b : Option Event) (e : Event) (x : List ℕ) (o : Bool) → k ≤ 2 ^ 62 → IsEvent k e → Follows b e → is_open (cycle_of b) e.cycle ≡ o
    → Comes n bytes done (line_before b) ((cond o [] (cycle_line e.cycle) ++ mark_text e.row e.mark ++ codes "\n") ++ x)
    → Comes (n + line_count (cond o [] (cycle_line e.cycle) ++ mark_text e.row e.mark ++ codes "\n")) bytes (done ++ e ∷ []) (last.Act e) x
event_by k n bytes done b e x true small i f o h =
    comes_more n bytes done (line_before b) (last.Act e) (line.Act e.row e.mark) x (i.row, i.mark) (same_cycle b e o f) h
event_by k n bytes done b e x false small i f o h =
    let first = line.Cycle e.cycle in
    let second = line.Act e.row e.mark in
    let regrouped : (cycle_line e.cycle ++ mark_text e.row e.mark ++ codes "\n") ++ x ≡ line_text first ++ (line_text second ++ x) = append_assoc (cycle_line e.cycle ++ mark_text e.row e.mark) (codes "\n") x ∙ append_assoc (cycle_line e.cycle) (mark_text e.row e.mark) (codes "\n" ++ x) ∙ ap (λ l. cycle_line e.cycle ++ l) (sym (append_assoc (mark_text e.row e.mark) (codes "\n") x)) in
    let p = comes_more n bytes done (line_before b) (last.Cycle e.cycle) first (line_text second ++ x) (omega (arith, small, i.cycle)) (other_cycle b e o f) (comes_by n bytes done (line_before b) _ _ regrouped h) in
    let q = comes_more (n + line_count (line_text first)) bytes done (last.Cycle e.cycle) (last.Act e) second x (i.row, i.mark) refl p in
    let lines : n + line_count (cycle_line e.cycle ++ mark_text e.row e.mark ++ codes "\n") ≡ n + line_count (line_text first) + line_count (line_text second) =
    omega (arith, ap line_count (append_assoc (cycle_line e.cycle) (mark_text e.row e.mark) (codes "\n")), count_joined (cycle_line e.cycle) (mark_text e.row e.mark ++ codes "\n")) in
    ap (λ m. place_after m bytes) lines ∙ q

zero_more : (n : ℕ) → n + 0 ≡ n
zero_more n = omega arith

pub events_read : (es : List Event) (k n : ℕ) (bytes : List ℕ) (done : List Event) (b : Option Event) (x : List ℕ) → k ≤ 2 ^ 62 → InOrder k b es → Comes n bytes done (line_before b) (events_text (cycle_of b) es ++ x)
    → Comes (n + line_count (events_text (cycle_of b) es)) bytes (done ++ es) (line_before (final b es)) x
events_read [] k n bytes done b x small h c =
    ap (λ m. place_after m bytes) (zero_more n) ∙ c ∙ ap (λ es. Some (place es (line_before b) x)) (sym (append-nil done))
events_read (e ∷ es) k n bytes done b x small h c =
    let here = event_text (cycle_of b) e in
    let others = events_text (Some e.cycle) es in
    let p = event_by k n bytes done b e (others ++ x) (is_open (cycle_of b) e.cycle) small h.1 h.0 refl (comes_by n bytes done (line_before b) _ _ (append_assoc here others x) c) in
    let q = events_read es k (n + line_count here) bytes (done ++ e ∷ []) (Some e) x small h.2 p in
    let lines : n + line_count (here ++ others) ≡ n + line_count here + line_count others = omega (arith, count_joined here others) in
    ap (λ m. place_after m bytes) lines ∙ q ∙ ap (λ ds. Some (place ds (line_before (final (Some e) es)) x)) (append_assoc done (e ∷ []) es)

starts : (bytes x : List ℕ) → bytes ≡ x → Comes 0 bytes [] last.Nothing x
unfolding place_after
starts bytes x e = ap (λ r. Some (place [] last.Nothing r)) e

none_more : (n : ℕ) → n ≡ 0 + n
none_more n = omega arith

-- events from the start on
front_read : (es : List Event) (k : ℕ) (bytes x : List ℕ) → k ≤ 2 ^ 62 → InOrder k None es → bytes ≡ events_text None es ++ x → Comes (line_count (events_text None es)) bytes es (line_before (final None es)) x
front_read es k bytes x small h e =
    ap (λ m. place_after m bytes) (none_more (line_count (events_text None es))) ∙ events_read es k 0 bytes [] None x small h (starts bytes (events_text None es ++ x) e)

-- ---- a cycle's line, and the end

cycle_follows : (b : Option Event) (c : ℕ) → IsBelow b c → after_line (line_before b) (line.Cycle c) ≡ Some (last.Cycle c)
cycle_follows None c h = refl
cycle_follows (Some e) c h = let t : ltb e.cycle c ≡ true = grind (arith, nat_tests) in rw t refl

end_follows : (b : Option Event) (n : ℕ) (w : EndWord) → IsBelow b n → after_line (line_before b) (line.End n w) ≡ Some (last.End n w)
end_follows None n w h = refl
end_follows (Some e) n w h = let t : ltb e.cycle n ≡ true = grind (arith, nat_tests) in rw t refl

pub text_read : (log : Log) (bytes x : List ℕ) → IsLog log → bytes ≡ text_of log ++ x → Comes (line_count (text_of log)) bytes log.events (last.End log.cycles log.end) x
text_read log bytes x h e =
    let es = log.events in
    let end = line.End log.cycles log.end in
    let small : log.cycles ≤ 2 ^ 62 = omega (arith, h.cycles) in
    let p = front_read es log.cycles bytes (line_text end ++ x) small h.events (e ∙ append_assoc (events_text None es) (line_text end) x) in
    let q = comes_more (line_count (events_text None es)) bytes es (line_before (final None es)) (last.End log.cycles log.end) end x (h.cycles, h.end) (end_follows (final None es) log.cycles log.end (final_below es None log.cycles h.events tt)) p in
    ap (λ m. place_after m bytes) (count_joined (events_text None es) (line_text end)) ∙ q

cycle_read : (es : List Event) (c : ℕ) (bytes x : List ℕ) → InOrder c None es → c < 2 ^ 62 → bytes ≡ (events_text None es ++ cycle_line c) ++ x → Comes (line_count (events_text None es ++ cycle_line c)) bytes es (last.Cycle c) x
cycle_read es c bytes x h small e =
    let p = front_read es c bytes (cycle_line c ++ x) (omega (arith, small)) h (e ∙ append_assoc (events_text None es) (cycle_line c) x) in
    let q = comes_more (line_count (events_text None es)) bytes es (line_before (final None es)) (last.Cycle c) (line.Cycle c) x small (cycle_follows (final None es) c (final_below es None c h tt)) p in
    ap (λ m. place_after m bytes) (count_joined (events_text None es) (cycle_line c)) ∙ q

-- reading comes through each front
pub any_front_read : (front : List ℕ) (bytes x : List ℕ) → IsFront front → bytes ≡ front ++ x → (p : Place) × (place_after (line_count front) bytes ≡ Some p) × (p.rest ≡ x)
any_front_read front bytes x (EventLines es h is) e =
    (place es (line_before (final None es)) x, ap (λ m. place_after (line_count m) bytes) is ∙ front_read es (2 ^ 62) bytes x (omega arith) h (e ∙ ap (λ f. f ++ x) is), refl)
any_front_read front bytes x (CycleLine es c h small is) e =
    (place es (last.Cycle c) x, ap (λ m. place_after (line_count m) bytes) is ∙ cycle_read es c bytes x h small (e ∙ ap (λ f. f ++ x) is), refl)
any_front_read front bytes x (WholeText log h) e =
    (place log.events (last.End log.cycles log.end) x, ap (λ m. place_after (line_count m) bytes) h.bytes_are ∙ text_read log bytes x h.is_log (e ∙ ap (λ f. f ++ x) h.bytes_are), refl)
