use Rattle.std.proofs.Common.{rules, ◌≡◌, ◌≤◌, ℕ, List, length, reverse, take, refl, ap, sym, ◌∙◌, subst, arith, Option, Some, None, vec_len}
use Rattle.std.proofs.lemmas.List.{take_all}
use Rattle.pisa_step.specs.declared.changes.MemWrite.{MemWrite}
use Rattle.spec_state.specs.Overlay.{Overlaid, bytes_over}
use Rattle.spec_state.proofs.Over.{newest_byte}
use Rattle.spec_state.proofs.overlay.Overlay.byte.Goals as goal

pub loop-k-init : goal.loop-k-init
loop-k-init c =
    let is : c.len-k.result ≡ length c.self.inside.writes.items = search rules in
    let low : length c.self.inside.writes.items ≤ c.len-k.result = omega arith in
    record {
      within = omega arith;
      passed = λ bytes. ap (λ (ws : List MemWrite). bytes_over bytes (reverse ws) c.args.addr) (sym (take_all c.len-k.result c.self.inside.writes.items low));
    }

pub returns-in-Some : goal.returns-in-Some
returns-in-Some c bytes =
    ap (λ (o : Overlaid). bytes_over bytes o.writes c.args.addr) (sym c.self.view_is)
    ∙ (c.loop-k.invariant.passed bytes
    ∙ newest_byte c.self.inside.writes.items c.loop-k.k c.args.addr c.index.result.now (Some c.in-Some.byte) c.loop-k-test.true c.loop-k.invariant.within c.index.ensures c.in-Some.ensures bytes)

pub loop-k-preserved : goal.loop-k-preserved
loop-k-preserved c = record {
  within = omega arith;
  passed = λ bytes. c.loop-k.invariant.passed bytes
      ∙ newest_byte c.self.inside.writes.items c.loop-k.k c.args.addr c.index.result.now None c.loop-k-test.true c.loop-k.invariant.within c.index.ensures c.in_default.ensures bytes;
}

pub returns : goal.returns
returns c bytes =
    let none : c.loop-k.k ≡ 0 = omega arith in
    ap (λ (o : Overlaid). bytes_over bytes o.writes c.args.addr) (sym c.self.view_is)
    ∙ (c.loop-k.invariant.passed bytes
    ∙ ap (λ n. bytes_over bytes (reverse (take n c.self.inside.writes.items)) c.args.addr) none)
