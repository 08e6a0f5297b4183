-- Where a count grew, the answer tells it.
use Rattle.std.proofs.Common.{◌≡◌, ℕ, refl, ap, arith}
use Rattle.sim_main.specs.declared.ending.Ending.{Ending}
use Rattle.sim_main.specs.declared.ending.Ending.TheVariants as ending
use Rattle.sim_main.specs.Answer.{Counts, TellsGrowth}

none_grew : (before now : ℕ × ℕ × ℕ) (e : Ending) → now ≡ before → TellsGrowth before now e
none_grew before now e h =
    let p : now.0 ≡ before.0 = ap (λ x. x.0) h in
    let q : now.1 ≡ before.1 = ap (λ x. x.1) h in
    let r : now.2 ≡ before.2 = ap (λ x. x.2) h in
    record { shelf = λ k. absurd (omega arith); prog = λ k. absurd (omega arith); stat = λ k. absurd (omega arith) }

pub tells_growth : (before now : ℕ × ℕ × ℕ) (e : Ending) → Counts before now e → TellsGrowth before now e
tells_growth before now ending.ShelfFault h =
    let q : now.1 ≡ before.1 = h.1 in
    let r : now.2 ≡ before.2 = h.2 in
    record { shelf = λ k. refl; prog = λ k. absurd (omega arith); stat = λ k. absurd (omega arith) }
tells_growth before now ending.SinkFault h =
    let p : now.0 ≡ before.0 = h.0 in
    record { shelf = λ k. absurd (omega arith); prog = λ k. refl; stat = λ k. refl }
tells_growth before now ending.OutOfMemory h = none_grew before now ending.OutOfMemory h
tells_growth before now (ending.Exited code) h = none_grew before now (ending.Exited code) h
tells_growth before now ending.Made h = none_grew before now ending.Made h
tells_growth before now (ending.Words at why) h = none_grew before now (ending.Words at why) h
tells_growth before now (ending.Text line why) h = none_grew before now (ending.Text line why) h
tells_growth before now (ending.Object at why) h = none_grew before now (ending.Object at why) h
tells_growth before now (ending.Trace at why) h = none_grew before now (ending.Trace at why) h
tells_growth before now (ending.Point at why) h = none_grew before now (ending.Point at why) h
tells_growth before now (ending.Stopped why pc icnt) h = none_grew before now (ending.Stopped why pc icnt) h
tells_growth before now ending.Budget h = none_grew before now ending.Budget h
tells_growth before now (ending.TooLong name) h = none_grew before now (ending.TooLong name) h
tells_growth before now (ending.NotBuilt what) h = none_grew before now (ending.NotBuilt what) h
