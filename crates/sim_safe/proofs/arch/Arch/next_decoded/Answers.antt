use Rattle.std.proofs.Common.{◌≡◌, ◌≤◌, ◌-◌, ◌%◌, ℕ, refl, subst, arith}
use Rattle.std.specs.Prelude.{Some, IfSome}
use Rattle.ecoff_load.specs.Fetch.{fetch}
use Rattle.pisa_isa.specs.Coding.{decoded}
use Rattle.sim_safe.specs.State.{Storage}
use Rattle.sim_safe.proofs.Decoding.{next_found}
use Rattle.sim_safe.proofs.arch.Arch.next_decoded.Goals as goal

pub returns : goal.returns
returns c =
    let m = c.self.inside in
    let low : m.text.start ≤ m.pc = omega (arith, c.if-self-start.false) in
    let eighth : (m.pc - m.text.start) % 8 ≡ 0 = omega (arith, c.if-self-start-ne0.false) in
    let P : Storage → Type 0 = λ s. IfSome c.get.result (λ found. (words : ℕ × ℕ) × (fetch s.text s.pc ≡ Some words) × (found.now ≡ decoded words.0 words.1)) in
    subst P c.self.view_is
    (next_found (λ x. x.now) _ m.text m.instrs.items c.as_slice.result.now m.pc _ c.get.result c.self.invariant.decoded_of c.as_slice.ensures.value low eighth refl c.get.ensures.lookup.1 c.get.ensures.lookup.3)
