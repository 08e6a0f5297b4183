use Rattle.std.proofs.Common.{◌≡◌, ◌+◌, ◌-◌, ◌*◌, suc, refl, sym, ap, ◌∙◌, arith}
use Rattle.object_commands.specs.Listing.{lines_from}
use Rattle.object_commands.proofs.Listed.{no_lines, line_added}
use Rattle.object_commands.proofs.listing.lines.Goals as goal

pub loop-k-init : goal.loop-k-init
loop-k-init c =
    let none : 0 ≡ c.args.from - c.args.from = omega arith in
    c.new-piece.ensures.items ∙ sym (no_lines c.args.text.now c.args.from) ∙ ap (λ n. lines_from c.args.text.now c.args.from n) none

pub loop-k-preserved : goal.loop-k-preserved
loop-k-preserved c =
    let from = c.args.from in
    let k = c.loop-k.k in
    let here : k ≡ from + (k - from) = omega (arith, c.loop-k.auto.k) in
    let more : k + 1 - from ≡ suc (k - from) = omega (arith, c.loop-k.auto.k) in
    line_added c.args.text.now from k (k - from) (k + 1 - from) (c.args.text.now.start + 8 * k) c.loop-k.piece.items c.push_line.new.into.items c.at.result c.loop-k.invariant here more refl c.at.ensures.words c.in_ok-push_line.ensures
