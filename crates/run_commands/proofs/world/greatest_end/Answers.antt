use Rattle.std.proofs.Common.{◌+◌, ◌≤◌, sym, ap, ◌∙◌, subst, arith, max}
use Rattle.std.proofs.lemmas.List.Elements.{All-from_recursion}
use Rattle.ecoff_load.specs.declared.image.Part.{Part}
use Rattle.run_commands.proofs.Breaks.{greatest_more}
use Rattle.run_commands.proofs.world.greatest_end.Goals as goal

pub loop-part-preserved : goal.loop-part-preserved
loop-part-preserved c =
    let parts = c.args.parts.now in
    let p = c.part-item.result in
    let Ends : Part → Type 0 = λ x. x.addr + x.size ≤ 0x7ff00000 in
    let within : p.addr + p.size ≤ 0x7ff00000 = subst Ends (sym c.part-item.is) (All-from_recursion Ends parts c.requires c.loop-part.part-index p c.loop-part-test.true) in
    let e = c.loop-part.invariant.end in
    record {
      end = c.max-end.ensures ∙ ap (λ x. max x (p.addr + p.size)) e ∙ sym (greatest_more parts c.loop-part.part-index p c.loop-part-test.true c.part-item.is);
      bound = omega (arith, within, c.max-end.ensures, c.loop-part.invariant.bound);
    }
