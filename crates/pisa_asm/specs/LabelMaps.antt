-- A map from names to addresses, and the labels that it stands for.
use Rattle.std.specs.Prelude.{◌≡◌, ℕ, List}
use Rattle.std.specs.BTreeMap.{get_by}
use Rattle.std.specs.Cmp.Lexicographic.{slice_cmp}
use Rattle.std.specs.Ordering.{nat_cmp}
use Rattle.pisa_asm.specs.declared.labels.Labels.{Labels}
use Rattle.pisa_asm.specs.Sheets.{address_of}

-- each name has the address of the newest label with it
abbrev pub Holds : Labels → List (List ℕ × ℕ) → Type 0
Holds held labels = (name : List ℕ) → get_by (λ k. slice_cmp nat_cmp name k.now) held.map ≡ address_of labels name
