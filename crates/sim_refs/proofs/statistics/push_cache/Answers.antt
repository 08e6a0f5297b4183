use Rattle.std.specs.Prelude.{◌++◌, ℕ, List, codes}
use Rattle.sim_safe.specs.Statistics.{count_line}
use Rattle.sim_safe.proofs.Parts.{with_part, with_last}
use Rattle.sim_refs.proofs.statistics.push_cache.Goals as goal

pub returns-clause-ok : goal.returns-clause-ok
returns-clause-ok c =
    let old = c.args.into.now.items in
    let name = c.args.name.now in
    let n = c.args.n.now in
    let x1 : List ℕ = count_line (name ++ codes ".accesses") n.accesses in
    let hits : List ℕ = count_line (name ++ codes ".hits") n.hits in
    let misses : List ℕ = count_line (name ++ codes ".misses") n.misses in
    let replacements : List ℕ = count_line (name ++ codes ".replacements") n.replacements in
    let writebacks : List ℕ = count_line (name ++ codes ".writebacks") n.writebacks in
    let x2 : List ℕ = x1 ++ hits in
    let x3 : List ℕ = x2 ++ misses in
    let m1 = c.push_count_of.new.into.items in
    let m2 = c.push_count_of-2.new.into.items in
    let m3 = c.push_count_of-3.new.into.items in
    let m4 = c.push_count_of-4.new.into.items in
    with_last c.push_count_of-5.result old m4 c.push_count_of-5.new.into.items (x3 ++ replacements) writebacks
    (with_part old m3 m4 x3 replacements
    (with_part old m2 m3 x2 misses
    (with_part old m1 m2 x1 hits c.in_ok-push_count_of.ensures.ok c.in_ok-push_count_of-2.ensures.ok)
    c.in_ok-push_count_of-3.ensures.ok)
    c.in_ok-push_count_of-4.ensures.ok)
    c.push_count_of-5.ensures.ok
