-- A part of a run that is cut where a point is taken.
use Rattle.std.specs.Prelude.{◌≡◌, ◌≤◌, ◌<◌, ◌+◌, ◌-◌, ◌^◌, ◌++◌, ℕ, Bool, true, false, List, [], length, Some, if◌then◌else◌}
use Rattle.std.proofs.Common.{sym, ap, ◌∙◌, subst, arith}
use Rattle.std.proofs.lemmas.List.{length-append}
use Rattle.std.proofs.lemmas.List.Sums.{sum_by-append}
use Rattle.event_trace.specs.declared.trace.Trace.{Trace}
use Rattle.journal.specs.declared.fault.Fault.{Fault}
use Rattle.journal.specs.Write.{Journal}
use Rattle.journal.specs.View.{View, Wrote, Cut}
use Rattle.journal.specs.Laws.{wrote_more, cut_more, cut_within}
use Rattle.sim_safe.specs.declared.observer.RunEnd.{RunEnd}
use Rattle.sim_safe.specs.declared.statistics.Statistics.{Statistics}
use Rattle.sim_safe.specs.State.{State}
use Rattle.sim_safe.specs.Record.{Item}
use Rattle.sim_safe.specs.Laws.{GoesOn}
use Rattle.sim_safe.specs.Run.{items_of, items_count, after, end_of}
use Rattle.sim_safe.specs.Statistics.{IsCountable}
use Rattle.sim_safe.specs.Commit.{onto}
use Rattle.sim_watch.specs.declared.run.Watched.{Watched}
use Rattle.sim_watch.specs.declared.skipping.Skipped.{Skipped}
use Rattle.sim_watch.specs.Run.{RunWatched}
use Rattle.sim_watch.specs.Skip.{RunSkipped}
use Rattle.sim_watch.specs.Statistics.{loads_in, stores_in, branches_in, calls_in, statistics_of}
use Rattle.sim_watch.proofs.Steps.{StepsKeep, items_counted}
use Rattle.sim_watch.proofs.Countable.{countable_back}
use Rattle.sim_watch.proofs.Totals.{statistics_onto, length_onto, same_statistics}
use Rattle.cut_run.specs.Parts.{is_large_at, point_writes, cut_writes, joined, PartSkipped, PartTimed}

-- ---- what is written

front_cut : {O : Type 0} (v : View O) (a b : O) (large : Bool) (first middle rest : Journal) (f : Fault) → Cut v a first f b → Cut v a (if large then first else rest ++ (middle ++ first)) f b
front_cut v a b true first middle rest f q = q
front_cut v a b false first middle rest f q = cut_within v a b (middle ++ first) rest f (cut_within v a b first middle f q)

middle_cut : {O : Type 0} (v : View O) (a b c : O) (large : Bool) (first point rest : Journal) (f : Fault) → Wrote v a first b → Cut v b (if large then [] else point) f c
    → Cut v a (if large then first else rest ++ ((if large then [] else point) ++ first)) f c
middle_cut v a b c true first point rest f wrote q = cut_more v a b c first [] f wrote q
middle_cut v a b c false first point rest f wrote q = cut_within v a c (point ++ first) rest f (cut_more v a b c first point f wrote q)

rest_cut : {O : Type 0} (v : View O) (a b c d : O) (large : Bool) (first middle rest : Journal) (f : Fault) → large ≡ false → Wrote v a first b → Wrote v b middle c → Cut v c rest f d
    → Cut v a (if large then first else rest ++ (middle ++ first)) f d
rest_cut v a b c d large first middle rest f e one two q =
    subst (λ (x : Bool). Cut v a (if x then first else rest ++ (middle ++ first)) f d) (sym e) (cut_more v a c d (middle ++ first) rest f (wrote_more v a b c first middle one two) q)

all_wrote : {O : Type 0} (v : View O) (a b c d : O) (large : Bool) (first middle rest : Journal) → large ≡ false → Wrote v a first b → Wrote v b middle c → Wrote v c rest d
    → Wrote v a (if large then first else rest ++ (middle ++ first)) d
all_wrote v a b c d large first middle rest e one two q =
    subst (λ (x : Bool). Wrote v a (if x then first else rest ++ (middle ++ first)) d) (sym e) (wrote_more v a c d (middle ++ first) rest (wrote_more v a b c first middle one two) q)

-- writing was given up within the first steps
pub cut_first : {O : Type 0} (v : View O) (a b : O) (writes : ℕ → State → Journal) (trace : Trace) (n k : ℕ) (s : State) (file : List ℕ) (f : Fault) → Cut v a (writes k s) f b → Cut v a (cut_writes writes trace n s (Some (file, k))) f b
cut_first v a b writes trace n k s file f q = let u = after trace k s in front_cut v a b (is_large_at u) (writes k s) (point_writes u file) (writes (n - k) u) f q

-- within the point
pub cut_point : {O : Type 0} (v : View O) (a b c : O) (writes : ℕ → State → Journal) (trace : Trace) (n k : ℕ) (s t : State) (file : List ℕ) (f : Fault) → t ≡ after trace k s → Wrote v a (writes k s) b → Cut v b (point_writes t file) f c
    → Cut v a (cut_writes writes trace n s (Some (file, k))) f c
cut_point v a b c writes trace n k s t file f e wrote q =
    let u = after trace k s in
    middle_cut v a b c (is_large_at u) (writes k s) _ (writes (n - k) u) f wrote (subst (λ x. Cut v b (point_writes x file) f c) e q)

-- within the other steps
pub cut_behind : {O : Type 0} (v : View O) (a b c d : O) (writes : ℕ → State → Journal) (trace : Trace) (n k : ℕ) (s t : State) (file : List ℕ) (f : Fault) → t ≡ after trace k s → is_large_at t ≡ false
    → Wrote v a (writes k s) b → Wrote v b (point_writes t file) c → Cut v c (writes (n - k) t) f d → Cut v a (cut_writes writes trace n s (Some (file, k))) f d
cut_behind v a b c d writes trace n k s t file f e small one two q =
    let u = after trace k s in
    rest_cut v a b c d (is_large_at u) (writes k s) (point_writes u file) (writes (n - k) u) f (ap is_large_at (sym e) ∙ small) one (subst (λ x. Wrote v b (point_writes x file) c) e two) (subst (λ x. Cut v c (writes (n - k) x) f d) e q)

pub wrote_round : {O : Type 0} (v : View O) (a b c d : O) (writes : ℕ → State → Journal) (trace : Trace) (n k : ℕ) (s t : State) (file : List ℕ) → t ≡ after trace k s → is_large_at t ≡ false
    → Wrote v a (writes k s) b → Wrote v b (point_writes t file) c → Wrote v c (writes (n - k) t) d → Wrote v a (cut_writes writes trace n s (Some (file, k))) d
wrote_round v a b c d writes trace n k s t file e small one two q =
    let u = after trace k s in
    all_wrote v a b c d (is_large_at u) (writes k s) (point_writes u file) (writes (n - k) u) (ap is_large_at (sym e) ∙ small) one (subst (λ x. Wrote v b (point_writes x file) c) e two) (subst (λ x. Wrote v c (writes (n - k) x) d) e q)

-- ---- what the steps come to

-- the law that a run goes on where it was cut
abbrev pub RunsGoOn : Type 0
RunsGoOn = (trace : Trace) (k n : ℕ) (s : State) → GoesOn trace k n s

both : (n k : ℕ) → k ≤ n → k + (n - k) ≡ n
both n k h = omega (arith, h)

pub items_both : RunsGoOn → (trace : Trace) (n k : ℕ) (s t : State) → k ≤ n → t ≡ after trace k s → items_of trace n s ≡ items_of trace k s ++ items_of trace (n - k) t
items_both law trace n k s t h e =
    ap (λ (m : ℕ). items_of trace m s) (sym (both n k h)) ∙ (law trace k (n - k) s).items ∙ ap (λ (x : State). items_of trace k s ++ items_of trace (n - k) x) (sym e)

state_both : RunsGoOn → (trace : Trace) (n k : ℕ) (s t u : State) → k ≤ n → t ≡ after trace k s → u ≡ after trace (n - k) t → u ≡ after trace n s
state_both law trace n k s t u h e d =
    d ∙ ap (after trace (n - k)) e ∙ sym (law trace k (n - k) s).state ∙ ap (λ (m : ℕ). after trace m s) (both n k h)

end_both : RunsGoOn → (trace : Trace) (n k : ℕ) (s t : State) → k ≤ n → t ≡ after trace k s → 0 < n - k → end_of trace (n - k) t ≡ end_of trace n s
end_both law trace n k s t h e some = ap (end_of trace (n - k)) e ∙ sym ((law trace k (n - k) s).end some) ∙ ap (λ (m : ℕ). end_of trace m s) (both n k h)

end_same : (trace : Trace) (n k : ℕ) (s : State) → k ≤ n → n - k ≡ 0 → end_of trace k s ≡ end_of trace n s
end_same trace n k s h z = let e : k ≡ n = omega (arith, h, z) in ap (λ (m : ℕ). end_of trace m s) e

pub some_left : (n k : ℕ) → (n - k ≡ 0 → ⊥) → 0 < n - k
some_left n k ne = omega (arith, ne)

pub count_most : StepsKeep → (trace : Trace) (k : ℕ) (s t : State) → t ≡ after trace k s → t.icnt ≤ s.icnt + k
count_most law trace k s t e = omega (arith, items_counted law trace k s t e, items_count trace k s)

-- ---- a skipped part

pub part_skipped : RunsGoOn → (trace : Trace) (n k : ℕ) (s t u : State) (file : List ℕ) (first rest : Skipped) (end : RunEnd) (done : ℕ) → k ≤ n → is_large_at t ≡ false → RunSkipped trace k s t first → RunSkipped trace (n - k) t u rest
    → done ≡ first.done + rest.done → end ≡ end_of trace n s → PartSkipped trace n s u (Some (file, k)) (record { done = done; end = end })
part_skipped law trace n k s t u file first rest end done h small one two sum ended = record {
  fits = ap is_large_at (sym one.state) ∙ small;
  run = record {
    state = state_both law trace n k s t u h one.state two.state;
    count = sum ∙ ap (λ (x : ℕ). x + rest.done) one.count ∙ ap (λ (x : ℕ). length (items_of trace k s) + x) two.count ∙ sym (length-append (items_of trace k s) (items_of trace (n - k) t)) ∙ ap length (sym (items_both law trace n k s t h one.state));
    end = ended;
  };
}

pub skipped_end : RunsGoOn → (trace : Trace) (n k : ℕ) (s t u : State) (first rest : Skipped) → k ≤ n → RunSkipped trace k s t first → RunSkipped trace (n - k) t u rest → 0 < n - k → rest.end ≡ end_of trace n s
skipped_end law trace n k s t u first rest h one two some = two.end ∙ end_both law trace n k s t h one.state some

pub skipped_same : (trace : Trace) (n k : ℕ) (s t : State) (first : Skipped) → k ≤ n → RunSkipped trace k s t first → n - k ≡ 0 → first.end ≡ end_of trace n s
skipped_same trace n k s t first h one z = one.end ∙ end_same trace n k s h z

-- ---- a timed part

pub countable : (trace : Trace) (n : ℕ) (s : State) → n < 2 ^ 62 → IsCountable (statistics_of (items_of trace n s))
countable trace n s h =
    let is : List Item = items_of trace n s in
    let short : length (onto is []) < 2 ^ 62 = omega (arith, h, length_onto is [], items_count trace n s) in
    subst IsCountable (statistics_onto is) (countable_back (onto is []) short)

joined_statistics : (xs ys : List Item) → statistics_of (xs ++ ys) ≡ joined (statistics_of xs) (statistics_of ys)
joined_statistics xs ys = same_statistics (statistics_of (xs ++ ys)) (joined (statistics_of xs) (statistics_of ys)) (length-append xs ys) (sum_by-append loads_in xs ys) (sum_by-append stores_in xs ys) (sum_by-append branches_in xs ys) (sum_by-append calls_in xs ys)

pub part_timed : RunsGoOn → (trace : Trace) (n k : ℕ) (s t u : State) (file : List ℕ) (first rest : Watched) (end : RunEnd) (sums : Statistics) → k ≤ n → is_large_at t ≡ false → RunWatched trace k s t first → RunWatched trace (n - k) t u rest
    → sums ≡ joined first.statistics rest.statistics → end ≡ end_of trace n s → PartTimed trace n s u (Some (file, k)) (record { end = end; statistics = sums })
part_timed law trace n k s t u file first rest end sums h small one two sum ended = record {
  fits = ap is_large_at (sym one.state) ∙ small;
  run = record {
    end = ended;
    state = state_both law trace n k s t u h one.state two.state;
    statistics = sum ∙ ap (λ (x : Statistics). joined x rest.statistics) one.statistics ∙ ap (joined (statistics_of (items_of trace k s))) two.statistics
        ∙ sym (joined_statistics (items_of trace k s) (items_of trace (n - k) t)) ∙ ap statistics_of (sym (items_both law trace n k s t h one.state));
  };
}

pub timed_end : RunsGoOn → (trace : Trace) (n k : ℕ) (s t u : State) (first rest : Watched) → k ≤ n → RunWatched trace k s t first → RunWatched trace (n - k) t u rest → 0 < n - k → rest.end ≡ end_of trace n s
timed_end law trace n k s t u first rest h one two some = two.end ∙ end_both law trace n k s t h one.state some

pub timed_same : (trace : Trace) (n k : ℕ) (s t : State) (first : Watched) → k ≤ n → RunWatched trace k s t first → n - k ≡ 0 → first.end ≡ end_of trace n s
timed_same trace n k s t first h one z = one.end ∙ end_same trace n k s h z
