-- an instruction at an address is the one whose number is the distance from the start in eights
use Rattle.std.proofs.Common.{arith, ◌-◌, ◌/◌, refl}
use Rattle.ecoff_load.proofs.image.Text.at.Goals as goal

pub returns-clause-found : goal.returns-clause-found
returns-clause-found c =
    (λ _. record { place = ((c.args.pc - c.args.self.now.start) / 8, omega arith); whole = grind arith }, λ _. refl)
