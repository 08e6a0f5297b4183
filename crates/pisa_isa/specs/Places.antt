-- The places that an instruction reads and writes.
use Rattle.std.specs.Prelude.{◌+◌, ◌<◌, ◌&&◌, ℕ, List, [], ◌∷◌, filter, not, nat_eq, if◌then◌else◌, Bool, true, false}
use Rattle.pisa_isa.specs.declared.instr.Instr.{Instr}
use Rattle.pisa_isa.specs.declared.table.Kind.{Kind}
use Rattle.pisa_isa.specs.declared.table.Kind.TheVariants as kind
use Rattle.pisa_isa.specs.declared.places.Place.{Place}
use Rattle.pisa_isa.specs.declared.places.Place.TheVariants as place
use Rattle.pisa_isa.specs.declared.places.Group.{Group}
use Rattle.pisa_isa.specs.declared.places.Group.TheVariants as group
use Rattle.pisa_isa.specs.Table.{row_of}
use Rattle.pisa_isa.specs.Fields.{uses}
use Rattle.pisa_isa.specs.Coding.{field_of}

-- the place is this register
abbrev pub is_register : ℕ → Place → Bool
is_register r (place.Reg q) = nat_eq q r
is_register r _ = false

-- the places of these registers, each once, where it comes first; register 0 is no place
abbrev pub registers : List ℕ → List Place
registers [] = []
registers (r ∷ rs) =
    if nat_eq r 0 then registers rs else place.Reg r ∷ filter (λ p. not (is_register r p)) (registers rs)

-- how often a register stands among places
abbrev pub times_listed : ℕ → List Place → ℕ
times_listed r [] = 0
times_listed r (p ∷ ps) = (if is_register r p then 1 else 0) + times_listed r ps

-- the place of a register where it is to be listed
abbrev pub listed_register : Bool → ℕ → List Place
listed_register true r = place.Reg r ∷ []
listed_register false r = []

-- the places of a group
abbrev pub members : Instr → Group → List Place
members i group.Nothing = []
members i group.Rd = registers (i.rd ∷ [])
members i group.Rt = registers (i.rt ∷ [])
members i group.RtPair = registers (i.rt ∷ (i.rt + 1) ∷ [])
members i group.ReturnAddress = place.Reg 31 ∷ []
members i group.Hi = place.Hi ∷ []
members i group.Lo = place.Lo ∷ []
members i group.HiLo = place.Hi ∷ place.Lo ∷ []

-- rd where the operands have it, and else rt: this is the first of them
abbrev pub first_operand : Bool → Group
first_operand true = group.Rd
first_operand false = group.Rt

-- rd where the operands have it, and else register 31
abbrev pub link : Bool → Group
link true = group.Rd
link false = group.ReturnAddress

-- what is written, by the kind and by whether rd is among the operands
abbrev pub destination : Kind → Bool → Group
destination kind.Compute has_rd = first_operand has_rd
destination kind.FromHi has_rd = first_operand has_rd
destination kind.FromLo has_rd = first_operand has_rd
destination kind.Call has_rd = link has_rd
destination kind.Load has_rd = group.Rt
destination kind.LoadMerge has_rd = group.Rt
destination kind.LoadPair has_rd = group.RtPair
destination kind.ToHi has_rd = group.Hi
destination kind.ToLo has_rd = group.Lo
destination kind.ToHiLo has_rd = group.HiLo
destination _ has_rd = group.Nothing

-- what is read after the address: the data of a store, and the old value that a merging load keeps
abbrev pub late_source : Kind → Group
late_source kind.Store = group.Rt
late_source kind.StorePair = group.RtPair
late_source kind.LoadMerge = group.Rt
late_source _ = group.Nothing

-- a group is that of rt, or of rd
abbrev pub is_rt : Group → Bool
is_rt group.Rt = true
is_rt group.RtPair = true
is_rt _ = false

abbrev pub is_rd : Group → Bool
is_rd group.Rd = true
is_rd _ = false

-- the registers of the used fields, without the field that is written and without late sources;
-- where a field is not read stands 0, which is no place
abbrev pub sources : Instr → Group → Group → List ℕ
sources i written late =
    field_of (uses i.op).rs i.rs
    ∷ field_of ((uses i.op).rt && not (is_rt written) && not (is_rt late)) i.rt
    ∷ field_of ((uses i.op).rd && not (is_rd written)) i.rd
    ∷ []

-- what is read first: HI or LO where one is moved, and else the registers of the fields
abbrev pub main_places : Instr → Kind → List Place
main_places i kind.FromHi = place.Hi ∷ []
main_places i kind.FromLo = place.Lo ∷ []
main_places i k = registers (sources i (destination k (uses i.op).rd) (late_source k))

abbrev pub writes_of : Instr → List Place
writes_of i = members i (destination (row_of i.op).kind (uses i.op).rd)

abbrev pub reads_second_of : Instr → List Place
reads_second_of i = members i (late_source (row_of i.op).kind)

abbrev pub reads_main_of : Instr → List Place
reads_main_of i = main_places i (row_of i.op).kind

-- the place is HI, LO or a register from 1 to 31
abbrev pub IsNamed : Place → Type 0
IsNamed (place.Reg r) = (0 < r) × (r < 32)
IsNamed place.Hi = Unit {0}
IsNamed place.Lo = Unit {0}
