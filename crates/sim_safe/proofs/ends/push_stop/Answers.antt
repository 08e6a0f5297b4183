use Rattle.std.specs.Prelude.{◌≡◌, ◌++◌, ℕ, List, OnOk}
use Rattle.std.proofs.Common.{subst, sym}
use Rattle.sim_safe.proofs.Parts.{stop_text_is}
use Rattle.sim_safe.proofs.ends.push_stop.Goals as goal

pub returns-in_default : goal.returns-in_default
returns-in_default c = record {
  ok = subst (λ (text : List ℕ). OnOk c.push_stopped.result (c.push_stopped.new.into.items ≡ c.args.into.now.items ++ text))
      (sym (stop_text_is c.args.cause c.args.pc c.args.icnt c.in_default.not-Exited)) c.push_stopped.ensures.ok;
  err = c.push_stopped.ensures.err;
}
