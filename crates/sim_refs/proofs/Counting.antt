-- Counts of predictions: how great they are, and that they may stand still at each step or at the end.
use Rattle.std.specs.Prelude.{◌≡◌, ℕ, ◌+◌, ◌-◌, ◌^◌, ◌<◌, ◌≤◌, Bool, true, false, List, [], ◌∷◌, length, min, ◌==◌}
use Rattle.std.proofs.Common.{refl, arith}
use Rattle.std.proofs.Math.Nat.{min-eq_left}
use Rattle.pisa_isa.specs.declared.classes.ControlKind.{ControlKind}
use Rattle.pisa_isa.specs.declared.classes.ControlKind.TheVariants as control
use Rattle.pisa_isa.specs.Classes.{control_of}
use Rattle.sim_safe.specs.declared.record.CommitRecord.{CommitRecord}
use Rattle.sim_safe.specs.Statistics.{branch_count}
use Rattle.bpred_unit.specs.declared.config.PredConfig.{PredConfig}
use Rattle.bpred_unit.specs.declared.predictor.Look.{Look}
use Rattle.sim_refs.specs.declared.pred_run.PredCounts.{PredCounts}
use Rattle.sim_refs.specs.Predictions.{cond_count, same_way, where_so, counted, look_at, counts_of, at_most}

-- ---- one instruction counts once at most

branch_most : (k : ControlKind) → branch_count k ≤ 1
branch_most control.Nothing = omega arith
branch_most control.Cond = omega arith
branch_most control.Jump = omega arith
branch_most control.Call = omega arith
branch_most control.Return = omega arith

cond_most : (k : ControlKind) → cond_count k ≤ 1
cond_most control.Nothing = omega arith
cond_most control.Cond = omega arith
cond_most control.Jump = omega arith
cond_most control.Call = omega arith
cond_most control.Return = omega arith

pub where_most : (so : Bool) (n : ℕ) → where_so so n ≤ n
where_most true n = omega arith
where_most false n = omega arith

-- no count is greater than this
pub record AreBelow (n : PredCounts) (most : ℕ) : Type 0 where
  pub control : n.control ≤ most
  pub cond : n.cond ≤ most
  pub taken : n.taken ≤ most
  pub dir_hits : n.dir_hits ≤ most
  pub addr_hits : n.addr_hits ≤ most

counted_below : (k : ControlKind) (r : CommitRecord) (look : Look) (n : PredCounts) (most : ℕ) → AreBelow n most → AreBelow (counted k r look n) (most + 1)
counted_below k r look n most h =
    record {
      control = omega (arith, h.control, branch_most k);
      cond = omega (arith, h.cond, cond_most k);
      taken = omega (arith, h.taken, where_most r.taken (branch_count k), branch_most k);
      dir_hits = omega (arith, h.dir_hits, where_most (same_way look.taken r.taken) (cond_count k), cond_most k);
      addr_hits = omega (arith, h.addr_hits, where_most (look.next == r.next) (branch_count k), branch_most k);
    }

counts_below : (c : PredConfig) (h : List CommitRecord) → AreBelow (counts_of c h) (length h)
counts_below c [] = record { control = omega arith; cond = omega arith; taken = omega arith; dir_hits = omega arith; addr_hits = omega arith }
counts_below c (r ∷ h) =
    let more : AreBelow (counts_of c (r ∷ h)) (length h + 1) = counted_below (control_of r.instr) r (look_at c h r) (counts_of c h) (length h) (counts_below c h) in
    record {
      control = omega (arith, more.control);
      cond = omega (arith, more.cond);
      taken = omega (arith, more.taken);
      dir_hits = omega (arith, more.dir_hits);
      addr_hits = omega (arith, more.addr_hits);
    }

-- counts of fewer records than a count can tell are exact
pub exactly : (c : PredConfig) (h : List CommitRecord) → length h < 2 ^ 64 → at_most (counts_of c h) ≡ counts_of c h
exactly c h fits =
    let n = counts_of c h in
    let below = counts_below c h in
    let control : min n.control (2 ^ 64 - 1) ≡ n.control = min-eq_left (omega (arith, below.control)) in
    let cond : min n.cond (2 ^ 64 - 1) ≡ n.cond = min-eq_left (omega (arith, below.cond)) in
    let taken : min n.taken (2 ^ 64 - 1) ≡ n.taken = min-eq_left (omega (arith, below.taken)) in
    let dir_hits : min n.dir_hits (2 ^ 64 - 1) ≡ n.dir_hits = min-eq_left (omega (arith, below.dir_hits)) in
    let addr_hits : min n.addr_hits (2 ^ 64 - 1) ≡ n.addr_hits = min-eq_left (omega (arith, below.addr_hits)) in
    rw (control, cond, taken, dir_hits, addr_hits) refl
