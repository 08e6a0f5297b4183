use Rattle.std.specs.Prelude.{◌++◌, ℕ, List, codes}
use Rattle.mem_hier.specs.declared.config.Which.TheVariants.{Il1, Dl1, Il2, Dl2, Itlb, Dtlb}
use Rattle.mem_hier.specs.Replay.{counts_at}
use Rattle.sim_safe.proofs.Parts.{with_part, with_last}
use Rattle.sim_refs.specs.Statistics.{cache_text}
use Rattle.sim_refs.proofs.Lines.{counted_as, last_counted_as, begins_before}
use Rattle.sim_refs.proofs.statistics.push_all.Goals as goal

pub returns-clause-ok : goal.returns-clause-ok
returns-clause-ok c = λ config h st.
    let old = c.args.into.now.items in
    let m1 = c.push_own.new.into.items in
    let m2 = c.push_own-2.new.into.items in
    let m3 = c.push_own-3.new.into.items in
    let m4 = c.push_own-4.new.into.items in
    let m5 = c.push_own-5.new.into.items in
    let m6 = c.push_own-6.new.into.items in
    let il1 : List ℕ = cache_text (codes "il1") (counts_at config h Il1) in
    let dl1 : List ℕ = cache_text (codes "dl1") (counts_at config h Dl1) in
    let il2 : List ℕ = cache_text (codes "il2") (counts_at config h Il2) in
    let dl2 : List ℕ = cache_text (codes "dl2") (counts_at config h Dl2) in
    let itlb : List ℕ = cache_text (codes "itlb") (counts_at config h Itlb) in
    let dtlb : List ℕ = cache_text (codes "dtlb") (counts_at config h Dtlb) in
    let x2 : List ℕ = il1 ++ dl1 in
    let x3 : List ℕ = x2 ++ il2 in
    let x4 : List ℕ = x3 ++ dl2 in
    let e1 = counted_as (codes "il1") old m1 c.counts.result (counts_at config h Il1) (c.counts.ensures config h st) c.in_ok-push_own.ensures.ok in
    let e2 = counted_as (codes "dl1") m1 m2 c.counts-2.result (counts_at config h Dl1) (c.counts-2.ensures config h st) c.in_ok-push_own-2.ensures.ok in
    let e3 = counted_as (codes "il2") m2 m3 c.counts-3.result (counts_at config h Il2) (c.counts-3.ensures config h st) c.in_ok-push_own-3.ensures.ok in
    let e4 = counted_as (codes "dl2") m3 m4 c.counts-4.result (counts_at config h Dl2) (c.counts-4.ensures config h st) c.in_ok-push_own-4.ensures.ok in
    let e5 = counted_as (codes "itlb") m4 m5 c.counts-5.result (counts_at config h Itlb) (c.counts-5.ensures config h st) c.in_ok-push_own-5.ensures.ok in
    let e6 = last_counted_as c.push_own-6.result (codes "dtlb") m5 m6 c.counts-6.result (counts_at config h Dtlb) (c.counts-6.ensures config h st) c.push_own-6.ensures.ok in
    with_last c.push_own-6.result old m5 m6 (x4 ++ itlb) dtlb
    (with_part old m4 m5 x4 itlb
    (with_part old m3 m4 x3 dl2
    (with_part old m2 m3 x2 il2
    (with_part old m1 m2 il1 dl1 e1 e2)
    e3)
    e4)
    e5)
    e6

pub returns-clause-err : goal.returns-clause-err
returns-clause-err c =
    let old = c.args.into.now.items in
    let m1 = c.push_own.new.into.items in
    let m2 = c.push_own-2.new.into.items in
    let m3 = c.push_own-3.new.into.items in
    let m4 = c.push_own-4.new.into.items in
    let m5 = c.push_own-5.new.into.items in
    let x1 : List ℕ = cache_text (codes "il1") c.counts.result in
    let x2 : List ℕ = x1 ++ cache_text (codes "dl1") c.counts-2.result in
    let x3 : List ℕ = x2 ++ cache_text (codes "il2") c.counts-3.result in
    let x4 : List ℕ = x3 ++ cache_text (codes "dl2") c.counts-4.result in
    let itlb : List ℕ = cache_text (codes "itlb") c.counts-5.result in
    begins_before c.push_own-6.result old m5 c.push_own-6.new.into.items (x4 ++ itlb)
    (with_part old m4 m5 x4 itlb
    (with_part old m3 m4 x3 (cache_text (codes "dl2") c.counts-4.result)
    (with_part old m2 m3 x2 (cache_text (codes "il2") c.counts-3.result)
    (with_part old m1 m2 x1 (cache_text (codes "dl1") c.counts-2.result) c.in_ok-push_own.ensures.ok c.in_ok-push_own-2.ensures.ok)
    c.in_ok-push_own-3.ensures.ok)
    c.in_ok-push_own-4.ensures.ok)
    c.in_ok-push_own-5.ensures.ok)
    c.push_own-6.ensures.err
