-- The counts of a run are those of its history.
use Rattle.std.specs.Prelude.{◌≡◌, ◌+◌, ◌^◌, ◌<◌, ℕ, List, [], ◌∷◌, length, sum_by}
use Rattle.std.proofs.Common.{refl, ap, ◌∙◌, arith}
use Rattle.std.proofs.lemmas.List.Sums.{sum_by-cons}
use Rattle.event_trace.specs.declared.trace.Trace.{Trace}
use Rattle.sim_safe.specs.declared.statistics.Statistics.{Statistics}
use Rattle.sim_safe.specs.State.{State}
use Rattle.sim_safe.specs.Record.{Item}
use Rattle.sim_safe.specs.Commit.{onto}
use Rattle.sim_safe.specs.Run.{items_of, items_count}
use Rattle.sim_safe.specs.Statistics.{statistics_back}
use Rattle.sim_watch.specs.Statistics.{loads_in, stores_in, branches_in, calls_in, statistics_of}

pub length_onto : (is h : List Item) → length (onto is h) ≡ length h + length is
length_onto [] h = omega arith
length_onto (i ∷ is) h = let k : length (onto is (i ∷ h)) ≡ length (i ∷ h) + length is = length_onto is (i ∷ h) in omega arith

-- what a history and then these items sum up to
sum_onto : (f : Item → ℕ) (is h : List Item) → sum_by f (onto is h) ≡ sum_by f h + sum_by f is
sum_onto f [] h = omega arith
sum_onto f (i ∷ is) h = omega (arith, sum_onto f is (i ∷ h), sum_by-cons f i h, sum_by-cons f i is)

insn_back : (h : List Item) → (statistics_back h).insn ≡ length h
insn_back [] = refl
insn_back (i ∷ h) = let k : (statistics_back h).insn ≡ length h = insn_back h in omega arith

loads_back : (h : List Item) → (statistics_back h).loads ≡ sum_by loads_in h
loads_back [] = refl
loads_back (i ∷ h) = omega (arith, loads_back h, sum_by-cons loads_in i h)

stores_back : (h : List Item) → (statistics_back h).stores ≡ sum_by stores_in h
stores_back [] = refl
stores_back (i ∷ h) = omega (arith, stores_back h, sum_by-cons stores_in i h)

branches_back : (h : List Item) → (statistics_back h).branches ≡ sum_by branches_in h
branches_back [] = refl
branches_back (i ∷ h) = omega (arith, branches_back h, sum_by-cons branches_in i h)

calls_back : (h : List Item) → (statistics_back h).calls ≡ sum_by calls_in h
calls_back [] = refl
calls_back (i ∷ h) = omega (arith, calls_back h, sum_by-cons calls_in i h)

pub same_statistics : (a b : Statistics) → a.insn ≡ b.insn → a.loads ≡ b.loads → a.stores ≡ b.stores → a.branches ≡ b.branches → a.calls ≡ b.calls → a ≡ b
same_statistics a b p q r s t =
    let insn : ℕ → Statistics = λ x. record { insn = x; loads = a.loads; stores = a.stores; branches = a.branches; calls = a.calls } in
    let loads : ℕ → Statistics = λ x. record { insn = b.insn; loads = x; stores = a.stores; branches = a.branches; calls = a.calls } in
    let stores : ℕ → Statistics = λ x. record { insn = b.insn; loads = b.loads; stores = x; branches = a.branches; calls = a.calls } in
    let branches : ℕ → Statistics = λ x. record { insn = b.insn; loads = b.loads; stores = b.stores; branches = x; calls = a.calls } in
    let calls : ℕ → Statistics = λ x. record { insn = b.insn; loads = b.loads; stores = b.stores; branches = b.branches; calls = x } in
    ap insn p ∙ ap loads q ∙ ap stores r ∙ ap branches s ∙ ap calls t

pub statistics_onto : (is : List Item) → statistics_back (onto is []) ≡ statistics_of is
statistics_onto is =
    let h = onto is [] in
    same_statistics (statistics_back h) (statistics_of is)
    (omega (arith, insn_back h, length_onto is []))
    (omega (arith, loads_back h, sum_onto loads_in is []))
    (omega (arith, stores_back h, sum_onto stores_in is []))
    (omega (arith, branches_back h, sum_onto branches_in is []))
    (omega (arith, calls_back h, sum_onto calls_in is []))

-- what was counted of a run from nothing on
pub statistics_whole : (trace : Trace) (n : ℕ) (s : State) (sums : Statistics) → n < 2 ^ 62
    → (length (onto (items_of trace n s) []) < 2 ^ 62 → sums ≡ statistics_back (onto (items_of trace n s) [])) → sums ≡ statistics_of (items_of trace n s)
statistics_whole trace n s sums h f =
    let is : List Item = items_of trace n s in
    let short : length (onto is []) < 2 ^ 62 = omega (arith, h, length_onto is [], items_count trace n s) in
    f short ∙ statistics_onto is
