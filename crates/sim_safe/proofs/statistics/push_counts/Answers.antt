use Rattle.std.specs.Prelude.{◌++◌, ℕ, List, codes}
use Rattle.sim_safe.specs.Statistics.{count_line}
use Rattle.sim_safe.proofs.Parts.{with_part, with_last}
use Rattle.sim_safe.proofs.statistics.push_counts.Goals as goal

pub returns-clause-ok : goal.returns-clause-ok
returns-clause-ok c =
    let old = c.args.into.now.items in
    let s = c.args.s.now in
    let insn : List ℕ = count_line (codes "sim_num_insn") s.insn in
    let loads : List ℕ = count_line (codes "sim_num_loads") s.loads in
    let stores : List ℕ = count_line (codes "sim_num_stores") s.stores in
    let branches : List ℕ = count_line (codes "sim_num_branches") s.branches in
    let calls : List ℕ = count_line (codes "sim_num_calls") s.calls in
    let x1 : List ℕ = count_line (codes "sim_skipped") c.args.skipped in
    let x2 : List ℕ = x1 ++ insn in
    let x3 : List ℕ = x2 ++ loads in
    let x4 : List ℕ = x3 ++ stores in
    let m1 = c.push_count.new.into.items in
    let m2 = c.push_count-2.new.into.items in
    let m3 = c.push_count-3.new.into.items in
    let m4 = c.push_count-4.new.into.items in
    let m5 = c.push_count-5.new.into.items in
    with_last c.push_count-6.result old m5 c.push_count-6.new.into.items (x4 ++ branches) calls
    (with_part old m4 m5 x4 branches
    (with_part old m3 m4 x3 stores
    (with_part old m2 m3 x2 loads
    (with_part old m1 m2 x1 insn c.in_ok-push_count.ensures.ok c.in_ok-push_count-2.ensures.ok)
    c.in_ok-push_count-3.ensures.ok)
    c.in_ok-push_count-4.ensures.ok)
    c.in_ok-push_count-5.ensures.ok)
    c.push_count-6.ensures.ok
