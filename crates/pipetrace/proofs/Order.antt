-- Events in order: limits that are raised and lowered, and one event more at the end.
use Rattle.std.proofs.Common.{◌≡◌, ◌++◌, ◌∙◌, ◌+◌, ◌<◌, ◌≤◌, ℕ, List, [], ◌∷◌, Option, Some, None, refl, sym, ap, append_assoc, append-nil, arith, inl, inr}
use Rattle.ooo_table.specs.declared.event.Event.{Event}
use Rattle.pipetrace.specs.Text.{event_text, events_text}
use Rattle.pipetrace.specs.Grammar.{Follows, InOrder, IsEvent, Later}

abbrev pub cycle_of : Option Event → Option ℕ
cycle_of None = None
cycle_of (Some e) = Some e.cycle

-- the last of events, or the one before them
abbrev pub final : Option Event → List Event → Option Event
final b [] = b
final b (e ∷ es) = final (Some e) es

abbrev pub IsBelow : Option Event → ℕ → Type 0
IsBelow None c = Unit {0}
IsBelow (Some e) c = e.cycle < c

-- no later event has an earlier cycle
pub later_cycle : (a b : Event) → Later a b → a.cycle ≤ b.cycle
later_cycle a b (inl h) = omega arith
later_cycle a b (inr h) = omega (arith, h.0)

pub first_below : (es : List Event) (k c : ℕ) (e : Event) → InOrder k (Some e) es → IsBelow (final (Some e) es) c → e.cycle < c
first_below [] k c e h b = b
first_below (f ∷ es) k c e h b = omega (arith, later_cycle e f h.0, first_below es k c f h.2 b)

pub lowered : (es : List Event) (b : Option Event) (k c : ℕ) → InOrder k b es → IsBelow (final b es) c → InOrder c b es
lowered [] b k c h below = tt
lowered (e ∷ es) b k c h below = (h.0, record { cycle = first_below es k c e h.2 below; row = h.1.row; mark = h.1.mark }, lowered es (Some e) k c h.2 below)

pub raised : (es : List Event) (b : Option Event) (k m : ℕ) → k ≤ m → InOrder k b es → InOrder m b es
raised [] b k m le h = tt
raised (e ∷ es) b k m le h = (h.0, record { cycle = omega (arith, le, h.1.cycle); row = h.1.row; mark = h.1.mark }, raised es (Some e) k m le h.2)

pub final_below : (es : List Event) (b : Option Event) (c : ℕ) → InOrder c b es → IsBelow b c → IsBelow (final b es) c
final_below [] b c h below = below
final_below (e ∷ es) b c h below = final_below es (Some e) c h.2 h.1.cycle

-- ---- one event more

pub order_more : (es : List Event) (b : Option Event) (k : ℕ) (e : Event) → InOrder k b es → Follows (final b es) e → IsEvent k e → InOrder k b (es ++ e ∷ [])
order_more [] b k e h f i = (f, i, tt)
order_more (d ∷ es) b k e h f i = (h.0, h.1, order_more es (Some d) k e h.2 f i)

pub final_more : (es : List Event) (b : Option Event) (e : Event) → final b (es ++ e ∷ []) ≡ Some e
final_more [] b e = refl
final_more (d ∷ es) b e = final_more es (Some d) e

last_text : (text : List ℕ) → text ++ [] ≡ text
last_text text = append-nil text

pub text_more : (es : List Event) (b : Option Event) (e : Event) → events_text (cycle_of b) (es ++ e ∷ []) ≡ events_text (cycle_of b) es ++ event_text (cycle_of (final b es)) e
text_more [] b e = last_text (event_text (cycle_of b) e)
text_more (d ∷ es) b e =
    ap (λ l. event_text (cycle_of b) d ++ l) (text_more es (Some d) e)
    ∙ sym (append_assoc (event_text (cycle_of b) d) (events_text (Some d.cycle) es) (event_text (cycle_of (final (Some d) es)) e))
