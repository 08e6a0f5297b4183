use Rattle.std.proofs.Common.{take}
use Rattle.std.specs.List.{AllByRecursion}
use Rattle.ecoff_load.specs.Object.{IsPart}
use Rattle.ecoff_load.proofs.image.Image.parts_fit.Given as goal

abbrev pub invariant-loop-part : goal.invariant-loop-part
invariant-loop-part l = AllByRecursion (IsPart l.self.text) (take l.part-index l.self.parts)
