-- The point of a state whose numbers fit their places is one that a file can bring, and holds the state.
use Rattle.std.proofs.Common.{◌≡◌, ◌+◌, ◌*◌, ◌<◌, ◌≤◌, ◌^◌, ℕ, zero, suc, Bool, true, false, List, [], ◌∷◌, length, Ok, inr, refl, sym, subst, arith, if◌then◌else◌}
use Rattle.std.specs.Prelude.{nat_eq, not, ◌||◌}
use Rattle.std.specs.List.{AllByRecursion}
use Rattle.std.proofs.lemmas.Bool.{eqb-false, ltb-false}
use Rattle.event_trace.specs.Grammar.{InTurn}
use Rattle.paged_mem.specs.Memory.{Pages}
use Rattle.sim_safe.specs.State.{State, HoldsText}
use Rattle.checkpoint.specs.Grammar.{IsPoint, IsPage, HasSome, next_page, point_bytes}
use Rattle.checkpoint.specs.Held.{state_held, fit, Fits}
use Rattle.checkpoint.proofs.WholePoint.{is_only}
use Rattle.cut_run.specs.Point.{listed, has_some, page_at, pages_from, point_of, most_pages}
use Rattle.cut_run.specs.Parts.{is_large_at}
use Rattle.restarted_run.specs.Within.{IsWithin, HoldsProgram}
use Rattle.restarted_run.specs.Held.{HoldsState}

-- ---- lists

listed_length : (f : ℕ → ℕ) (count from : ℕ) → length (listed f count from) ≡ count
unfolding listed
listed_length f zero from = refl
listed_length f (suc more) from = let rest : length (listed f more (from + 1)) ≡ more = listed_length f more (from + 1) in omega (arith, rest)

listed_words : (f : ℕ → ℕ) (count from : ℕ) → ((n : ℕ) → f n < 2 ^ 32) → AllByRecursion (λ (x : ℕ). x < 2 ^ 32) (listed f count from)
unfolding listed
listed_words f zero from h = tt
listed_words f (suc more) from h = (h from, listed_words f more (from + 1) h)

-- ---- pages

some_if : (byte : ℕ) (bytes : List ℕ) (zero_here : Bool) → nat_eq byte 0 ≡ zero_here → (not zero_here || has_some bytes) ≡ true → (has_some bytes ≡ true → HasSome bytes) → HasSome (byte ∷ bytes)
some_if byte bytes true is h rest = let r = rest h in (suc r.0, r.1)
some_if byte bytes false is h rest = (zero, eqb-false byte 0 is)

some_held : (bytes : List ℕ) → has_some bytes ≡ true → HasSome bytes
some_held [] h = cc
some_held (byte ∷ bytes) h = some_if byte bytes (nat_eq byte 0) refl h (some_held bytes)

in_turn_if : (least number : ℕ) (page : List ℕ) (rest : Pages) (test : Bool) → has_some page ≡ test → least ≤ number → number < 2 ^ 20 → length page ≡ 4096
    → InTurn IsPage next_page (number + 1) rest → InTurn IsPage next_page least rest → InTurn IsPage next_page least (if test then (number, page) ∷ rest else rest)
in_turn_if least number page rest true is low high whole behind here = (record { rising = low; number = high; whole = whole; some = some_held page is }, behind)
in_turn_if least number page rest false is low high whole behind here = here

pages_in_turn : (memory : ℕ → ℕ) (count number least : ℕ) → least ≤ number → number + count ≤ 2 ^ 20 → InTurn IsPage next_page least (pages_from memory count number)
unfolding pages_from
pages_in_turn memory zero number least low high = tt
pages_in_turn memory (suc more) number least low high =
    in_turn_if least number (page_at memory number) (pages_from memory more (number + 1)) (has_some (page_at memory number)) refl low (omega (arith, high)) (listed_length memory 4096 (4096 * number))
    (pages_in_turn memory more (number + 1) (number + 1) (omega arith) (omega (arith, high))) (pages_in_turn memory more (number + 1) least (omega (arith, low)) (omega (arith, high)))

-- ---- the point

point_is : (s : State) → IsWithin s → HoldsProgram s → s.icnt ≤ 10 ^ 15 → is_large_at s ≡ false → IsPoint (point_of s)
unfolding point_of
point_is s h program icnt small = record {
  head = record {
    version = inr refl;
    pc = h.pc;
    count = listed_length s.reads.regs 31 1;
    regs = listed_words s.reads.regs 31 1 h.registers;
    hi = h.hi;
    lo = h.lo;
    used = h.used;
    code = h.code;
    text_start = omega (arith, program.fits.range);
    text_length = omega (arith, program.fits.greatest_size);
  };
  pages = pages_in_turn s.reads.bytes (2 ^ 20) 0 0 (omega arith) (omega arith);
  icnt = icnt;
  count = ltb-false most_pages (length (pages_from s.reads.bytes (2 ^ 20) 0)) small;
}

point_fits : (s : State) → HoldsProgram s → state_held (point_of s) s.text ≡ s → Fits (point_of s) s.text
unfolding point_of
point_fits s program held = record {
  order = program.order;
  start = refl;
  size = refl;
  content = subst (λ (t : State). HoldsText t.reads.bytes s.text) (sym held) program.content;
}

pub state_is_held : (s : State) → IsWithin s → HoldsProgram s → s.icnt ≤ 10 ^ 15 → is_large_at s ≡ false → state_held (point_of s) s.text ≡ s → (Fits (point_of s) s.text → fit (point_of s) s.text ≡ Ok tt) → HoldsState s
state_is_held s h program icnt small held exact = record {
  read = is_only (point_bytes (point_of s)) (point_of s) (point_is s h program icnt small) refl;
  fits = exact (point_fits s program held);
  state = held;
}
