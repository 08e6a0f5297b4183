-- Both parts of a run as one.
use Rattle.std.specs.Prelude.{◌≡◌, ◌≤◌, ◌+◌, ◌-◌, ◌^◌, ◌++◌, ◌&&◌, ◌||◌, ℕ, Bool, true, false, List, length, min, Option, is_some, nat_lt, nat_le, if◌then◌else◌}
use Rattle.std.proofs.Common.{refl, sym, ap, ◌∙◌, subst, arith}
use Rattle.event_trace.specs.declared.trace.Trace.{Trace}
use Rattle.journal.specs.declared.fault.Fault.{Fault}
use Rattle.journal.specs.Write.{Journal}
use Rattle.journal.specs.View.{View, Wrote, Cut}
use Rattle.journal.specs.Laws.{wrote_more, cut_more, cut_within}
use Rattle.sim_safe.specs.State.{State}
use Rattle.sim_safe.specs.Run.{items_of, after}
use Rattle.cut_run.specs.Parts.{is_cut_short, skipped_writes, timed_writes}
use Rattle.cut_run.specs.Plan.{Asked, limited, filtered, to_skip, skipped, timed_start, ends_early, to_do, skipped_point, timed_point, cut_journal}
use Rattle.cut_run.proofs.Rounds.{RunsGoOn}

-- the values that a run goes by are those of its plan
pub record Made (trace : Trace) (s : State) (asked : Asked) (m : ℕ) (p : Option (List ℕ × ℕ)) (u : State) (n : ℕ) (q : Option (List ℕ × ℕ)) : Type 0 where
  pub skip : m ≡ to_skip trace s asked
  pub first : p ≡ skipped_point trace s asked
  pub start : u ≡ timed_start trace s asked
  pub most : n ≡ to_do trace s asked
  pub second : q ≡ timed_point trace s asked

pub made : (trace : Trace) (s : State) (asked : Asked) (m : ℕ) (p : Option (List ℕ × ℕ)) (u : State) (done : ℕ) (over : Bool) (n : ℕ) (q : Option (List ℕ × ℕ)) → m ≡ limited s asked.skip → p ≡ filtered (λ at. nat_le at m) (λ at. at) asked.point
    → u ≡ after trace m s → done ≡ length (items_of trace m s) → over ≡ (nat_lt 0 m && (nat_lt done m || is_some u.ended)) → n ≡ (if over then 0 else limited u asked.most)
    → q ≡ filtered (λ at. nat_lt m at) (λ at. min (at - m) n) asked.point → Made trace s asked m p u n q
made trace s asked m p u done over n q em p_is u_is d_is o_is n_is q_is =
    let skip = to_skip trace s asked in
    let eu : u ≡ timed_start trace s asked = u_is ∙ ap (λ (x : ℕ). after trace x s) em in
    let ed : done ≡ skipped trace s asked = d_is ∙ ap (λ (x : ℕ). length (items_of trace x s)) em in
    let eo : over ≡ ends_early trace s asked =
    o_is ∙ ap (λ (x : ℕ). nat_lt 0 x && (nat_lt done x || is_some u.ended)) em ∙ ap (λ (d : ℕ). nat_lt 0 skip && (nat_lt d skip || is_some u.ended)) ed
    ∙ ap (λ (v : State). nat_lt 0 skip && (nat_lt (skipped trace s asked) skip || is_some v.ended)) eu in
    let en : n ≡ to_do trace s asked = n_is ∙ ap (λ (b : Bool). if b then 0 else limited u asked.most) eo ∙ ap (λ (v : State). if ends_early trace s asked then 0 else limited v asked.most) eu in
    record {
      skip = em;
      first = p_is ∙ ap (λ (x : ℕ). filtered (λ at. nat_le at x) (λ at. at) asked.point) em;
      start = eu;
      most = en;
      second = q_is ∙ ap (λ (x : ℕ). filtered (λ at. nat_lt x at) (λ at. min (at - x) n) asked.point) em ∙ ap (λ (y : ℕ). filtered (λ at. nat_lt skip at) (λ at. min (at - skip) y) asked.point) en;
    }

-- ---- what is written

whole : Trace → State → Asked → ℕ → Option (List ℕ × ℕ) → State → ℕ → Option (List ℕ × ℕ) → Journal
whole trace s asked m p u n q = if is_cut_short trace s p then skipped_writes trace m s p else timed_writes trace asked.commits n u q ++ skipped_writes trace m s p

journal_is : (trace : Trace) (s : State) (asked : Asked) (m : ℕ) (p : Option (List ℕ × ℕ)) (u : State) (n : ℕ) (q : Option (List ℕ × ℕ)) → Made trace s asked m p u n q → whole trace s asked m p u n q ≡ cut_journal trace s asked
unfolding whole cut_journal
journal_is trace s asked m p u n q is =
    ap (λ (x : ℕ). whole trace s asked x p u n q) is.skip ∙ ap (λ (x : Option (List ℕ × ℕ)). whole trace s asked (to_skip trace s asked) x u n q) is.first
    ∙ ap (λ (x : State). whole trace s asked (to_skip trace s asked) (skipped_point trace s asked) x n q) is.start
    ∙ ap (λ (x : ℕ). whole trace s asked (to_skip trace s asked) (skipped_point trace s asked) (timed_start trace s asked) x q) is.most
    ∙ ap (λ (x : Option (List ℕ × ℕ)). whole trace s asked (to_skip trace s asked) (skipped_point trace s asked) (timed_start trace s asked) (to_do trace s asked) x) is.second

front_is : (trace : Trace) (s : State) (asked : Asked) (m : ℕ) (p : Option (List ℕ × ℕ)) → m ≡ limited s asked.skip → p ≡ filtered (λ at. nat_le at m) (λ at. at) asked.point
    → whole trace s asked m p (timed_start trace s asked) (to_do trace s asked) (timed_point trace s asked) ≡ cut_journal trace s asked
unfolding whole cut_journal
front_is trace s asked m p em p_is =
    journal_is trace s asked m p (timed_start trace s asked) (to_do trace s asked) (timed_point trace s asked) (record {
      skip = em;
      first = p_is ∙ ap (λ (x : ℕ). filtered (λ at. nat_le at x) (λ at. at) asked.point) em;
      start = refl;
      most = refl;
      second = refl;
    })

short_wrote : {O : Type 0} (v : View O) (a b : O) (short : Bool) (first rest : Journal) → short ≡ true → Wrote v a first b → Wrote v a (if short then first else rest ++ first) b
short_wrote v a b short first rest e q = subst (λ (x : Bool). Wrote v a (if x then first else rest ++ first) b) (sym e) q

front_cut : {O : Type 0} (v : View O) (a b : O) (short : Bool) (first rest : Journal) (f : Fault) → Cut v a first f b → Cut v a (if short then first else rest ++ first) f b
front_cut v a b true first rest f q = q
front_cut v a b false first rest f q = cut_within v a b first rest f q

both_wrote : {O : Type 0} (v : View O) (a b c : O) (short : Bool) (first rest : Journal) → short ≡ false → Wrote v a first b → Wrote v b rest c → Wrote v a (if short then first else rest ++ first) c
both_wrote v a b c short first rest e one two = subst (λ (x : Bool). Wrote v a (if x then first else rest ++ first) c) (sym e) (wrote_more v a b c first rest one two)

both_cut : {O : Type 0} (v : View O) (a b c : O) (short : Bool) (first rest : Journal) (f : Fault) → short ≡ false → Wrote v a first b → Cut v b rest f c → Cut v a (if short then first else rest ++ first) f c
both_cut v a b c short first rest f e one two = subst (λ (x : Bool). Cut v a (if x then first else rest ++ first) f c) (sym e) (cut_more v a b c first rest f one two)

-- the point of the skipped part has too many pages
pub wrote_front : {O : Type 0} (v : View O) (a b : O) (trace : Trace) (s : State) (asked : Asked) (m : ℕ) (p : Option (List ℕ × ℕ)) → m ≡ limited s asked.skip → p ≡ filtered (λ at. nat_le at m) (λ at. at) asked.point → is_cut_short trace s p ≡ true
    → Wrote v a (skipped_writes trace m s p) b → Wrote v a (cut_journal trace s asked) b
unfolding whole
wrote_front v a b trace s asked m p em p_is short q =
    subst (λ h. Wrote v a h b) (front_is trace s asked m p em p_is)
    (short_wrote v a b (is_cut_short trace s p) (skipped_writes trace m s p) (timed_writes trace asked.commits (to_do trace s asked) (timed_start trace s asked) (timed_point trace s asked)) short q)

-- writing was given up in the skipped part
pub cut_in_front : {O : Type 0} (v : View O) (a b : O) (trace : Trace) (s : State) (asked : Asked) (m : ℕ) (p : Option (List ℕ × ℕ)) (f : Fault) → m ≡ limited s asked.skip → p ≡ filtered (λ at. nat_le at m) (λ at. at) asked.point
    → Cut v a (skipped_writes trace m s p) f b → Cut v a (cut_journal trace s asked) f b
unfolding whole
cut_in_front v a b trace s asked m p f em p_is q =
    subst (λ h. Cut v a h f b) (front_is trace s asked m p em p_is)
    (front_cut v a b (is_cut_short trace s p) (skipped_writes trace m s p) (timed_writes trace asked.commits (to_do trace s asked) (timed_start trace s asked) (timed_point trace s asked)) f q)

pub wrote_whole : {O : Type 0} (v : View O) (a b c : O) (trace : Trace) (s : State) (asked : Asked) (m : ℕ) (p : Option (List ℕ × ℕ)) (u : State) (n : ℕ) (q : Option (List ℕ × ℕ)) → Made trace s asked m p u n q → is_cut_short trace s p ≡ false
    → Wrote v a (skipped_writes trace m s p) b → Wrote v b (timed_writes trace asked.commits n u q) c → Wrote v a (cut_journal trace s asked) c
unfolding whole
wrote_whole v a b c trace s asked m p u n q is fits one two =
    subst (λ h. Wrote v a h c) (journal_is trace s asked m p u n q is) (both_wrote v a b c (is_cut_short trace s p) (skipped_writes trace m s p) (timed_writes trace asked.commits n u q) fits one two)

pub cut_in_timed : {O : Type 0} (v : View O) (a b c : O) (trace : Trace) (s : State) (asked : Asked) (m : ℕ) (p : Option (List ℕ × ℕ)) (u : State) (n : ℕ) (q : Option (List ℕ × ℕ)) (f : Fault) → Made trace s asked m p u n q → is_cut_short trace s p ≡ false
    → Wrote v a (skipped_writes trace m s p) b → Cut v b (timed_writes trace asked.commits n u q) f c → Cut v a (cut_journal trace s asked) f c
unfolding whole
cut_in_timed v a b c trace s asked m p u n q f is fits one two =
    subst (λ h. Cut v a h f c) (journal_is trace s asked m p u n q is) (both_cut v a b c (is_cut_short trace s p) (skipped_writes trace m s p) (timed_writes trace asked.commits n u q) f fits one two)

-- ---- the state

-- steps behind a run are those of a longer one
pub steps_behind : RunsGoOn → (trace : Trace) (m : ℕ) (s u t : State) → u ≡ after trace m s → (done : ℕ) × (t ≡ after trace done u) → (done : ℕ) × (t ≡ after trace done s)
steps_behind law trace m s u t e so = (m + so.0, so.1 ∙ ap (after trace so.0) e ∙ sym (law trace m so.0 s).state)

-- what is done in both parts stays within the most that a run does
pub most_left : (m skip : ℕ) (s u : State) (over : Bool) (n most : ℕ) → m ≡ limited s skip → u.icnt ≤ s.icnt + m → s.icnt ≤ 10 ^ 15 → n ≡ (if over then 0 else limited u most) → u.icnt + n ≤ 10 ^ 15
most_left m skip s u true n most em icnt within en = omega (arith, em, icnt, within, en)
most_left m skip s u false n most em icnt within en = omega (arith, em, icnt, within, en)
