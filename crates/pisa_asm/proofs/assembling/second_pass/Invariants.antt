use Rattle.std.proofs.Common.{◌+◌, ◌≤◌, ℕ, List, length}
use Rattle.pisa_asm.specs.LabelMaps.{Holds}
use Rattle.pisa_asm.proofs.Turns.{Filling}
use Rattle.pisa_asm.proofs.assembling.second_pass.Given as goal

abbrev pub invariant-lines : goal.invariant-lines
invariant-lines l = record {
  so_far : (known : List (List ℕ × ℕ)) → Holds l.labels known → Filling l.make known l.sheet l.number l.rest l.text;
  counted : l.number + length l.rest ≤ length l.text + 1;
}

abbrev pub decreases-lines : goal.decreases-lines
decreases-lines l = length l.rest
