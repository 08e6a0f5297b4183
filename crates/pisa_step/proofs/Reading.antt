-- An instruction's effect depends on what it reads alone.
use Rattle.std.proofs.Common.{◌≡◌, ◌+◌, ◌-◌, ◌%◌, ◌^◌, ◌<◌, ◌≤◌, ◌&&◌, ℕ, Bool, true, false, not, List, [], ◌∷◌, ◌++◌, filter, All, Ok, refl, ap, subst, arith, nat_eq, ◌∙◌, if◌then◌else◌}
use Rattle.std.proofs.lemmas.Bool.{eqb-true}
use Rattle.std.proofs.lemmas.List.Elements.{All-nil, All-cons, All-head, All-tail}
use Rattle.pisa_isa.specs.declared.instr.Instr.{Instr}
use Rattle.pisa_isa.specs.declared.places.Place.{Place}
use Rattle.pisa_isa.specs.declared.places.Place.TheVariants as place
use Rattle.pisa_isa.specs.declared.table.Kind.{Kind}
use Rattle.pisa_isa.specs.declared.table.Kind.TheVariants as kind
use Rattle.pisa_isa.specs.declared.table.Operands.{Operands}
use Rattle.pisa_isa.specs.Table.{row_of}
use Rattle.pisa_isa.specs.Fields.{fields_of, last_rt, takes_pair}
use Rattle.pisa_isa.specs.Coding.{AtMost, IsWellFormed, field_of}
use Rattle.pisa_isa.specs.Targets.{branch_target}
use Rattle.pisa_isa.specs.Places.{destination, is_rd, is_register, is_rt, late_source, main_places, members, registers}
use Rattle.pisa_step.specs.declared.action.Action.{Action}
use Rattle.pisa_step.specs.declared.action.Action.TheVariants as action
use Rattle.pisa_step.specs.declared.action.Alu.{Alu}
use Rattle.pisa_step.specs.declared.action.Alu.TheVariants as alu
use Rattle.pisa_step.specs.declared.action.Form.{Form}
use Rattle.pisa_step.specs.declared.action.Form.TheVariants as form
use Rattle.pisa_step.specs.declared.action.Link.TheVariants as link
use Rattle.pisa_step.specs.declared.action.Half.TheVariants as half
use Rattle.pisa_step.specs.declared.action.Address.{Address}
use Rattle.pisa_step.specs.declared.action.Address.TheVariants as address
use Rattle.pisa_step.specs.declared.action.Loaded.{Loaded}
use Rattle.pisa_step.specs.declared.action.Loaded.TheVariants as loaded
use Rattle.pisa_step.specs.declared.action.Side.{Side}
use Rattle.pisa_step.specs.declared.action.Stored.{Stored}
use Rattle.pisa_step.specs.declared.action.Stored.TheVariants as stored
use Rattle.pisa_step.specs.declared.changes.TextRange.{TextRange}
use Rattle.pisa_step.specs.Reader.{Reader}
use Rattle.pisa_step.specs.Words.{byte_extended, half_extended, word_sum}
use Rattle.pisa_step.specs.Arithmetic.{alu_of, exact_of, first_of, second_of, target_of, is_taken}
use Rattle.pisa_step.specs.Memory.{address_of, half_at, half_bytes, half_in, loaded_of, loaded_size, part_loaded, part_start, part_stored, stored_of, stored_size, word_at, word_bytes, word_in}
use Rattle.pisa_step.specs.Effect.{aligned, branches, divides, effect_of, exactly, jumps, linked, load_at, load_pair_at, load_part_at, loads, moves_to, multiplies, outcome_of, store_at, store_part_at, stores, writes_reg, written}
use Rattle.pisa_step.specs.Actions.{action_of}
use Rattle.pisa_step.specs.Dependence.{ReadTheSame, effective_address_by, first_loaded, loaded_count, value_at}
use Rattle.pisa_step.proofs.Columns.{form_shape, kind_for, kind_is, shape_is, shape_of}

-- ---- from places to registers

abbrev SameAt : Reader → Reader → Place → Type 0
SameAt s t p = value_at s p ≡ value_at t p

kept : (s t : Reader) (r : ℕ) (p : Place) (same : Bool) → is_register r p ≡ same → s.regs r ≡ t.regs r → (same ≡ false → SameAt s t p) → SameAt s t p
kept s t r (place.Reg q) true is here other = rw (eqb-true q r is) here
kept s t r place.Hi true is here other = absurd (cc)
kept s t r place.Lo true is here other = absurd (cc)
kept s t r p false is here other = other refl

-- what holds of the places but those of a register that agrees holds of all
unfilter_one : (s t : Reader) (r : ℕ) (p : Place) (ps : List Place) (same : Bool) → is_register r p ≡ same → s.regs r ≡ t.regs r
    → All (SameAt s t) (if not same then p ∷ ps else ps) → SameAt s t p × All (SameAt s t) ps
unfilter_one s t r p ps true is here all = (kept s t r p true is here (λ no. cc), all)
unfilter_one s t r p ps false is here all = (All-head (SameAt s t) p ps all, All-tail (SameAt s t) p ps all)

unfilter : (s t : Reader) (r : ℕ) (ps : List Place) → s.regs r ≡ t.regs r → All (SameAt s t) (filter (λ p. not (is_register r p)) ps) → All (SameAt s t) ps
unfilter s t r [] here all = All-nil (SameAt s t)
unfilter s t r (p ∷ ps) here all =
    let parts = unfilter_one s t r p (filter (λ q. not (is_register r q)) ps) (is_register r p) refl here all in
    All-cons (SameAt s t) p ps parts.0 (unfilter s t r ps here parts.1)

abbrev SameReg : Reader → Reader → ℕ → Type 0
SameReg s t r = s.regs r ≡ t.regs r

regs_if : (s t : Reader) (r : ℕ) (rs : List ℕ) (zero : Bool) → nat_eq r 0 ≡ zero → SameReg s t 0
    → All (SameAt s t) (if zero then registers rs else place.Reg r ∷ filter (λ p. not (is_register r p)) (registers rs))
    → SameReg s t r × All (SameAt s t) (registers rs)
regs_if s t r rs true is none all = (rw (eqb-true r 0 is) none, all)
regs_if s t r rs false is none all =
    let here = All-head (SameAt s t) (place.Reg r) (filter (λ p. not (is_register r p)) (registers rs)) all in
    (here, unfilter s t r (registers rs) here (All-tail (SameAt s t) (place.Reg r) (filter (λ p. not (is_register r p)) (registers rs)) all))

regs_same : (s t : Reader) (rs : List ℕ) → SameReg s t 0 → All (SameAt s t) (registers rs) → All (SameReg s t) rs
regs_same s t [] none all = All-nil (SameReg s t)
regs_same s t (r ∷ rs) none all =
    let parts = regs_if s t r rs (nat_eq r 0) refl none all in
    All-cons (SameReg s t) r rs parts.0 (regs_same s t rs none parts.1)

-- a register that isn't used is register 0
used_same : (s t : Reader) (used : Bool) (most r : ℕ) → AtMost used most r → SameReg s t 0 → SameReg s t (field_of used r) → SameReg s t r
used_same s t true most r at none same = same
used_same s t false most r at none same = rw at none

once : (b : Bool) → (b && true) ≡ b
once true = refl
once false = refl

twice : (b : Bool) → (b && true && true) ≡ b
twice true = refl
twice false = refl

-- ---- what two readers agree on, by the columns of the table

abbrev rs_read : Operands → Instr → ℕ
rs_read o i = field_of (fields_of o).rs i.rs

abbrev rt_read : Operands → Kind → Instr → ℕ
rt_read o k i = field_of ((fields_of o).rt && not (is_rt (destination k (fields_of o).rd)) && not (is_rt (late_source k))) i.rt

abbrev rd_read : Operands → Kind → Instr → ℕ
rd_read o k i = field_of ((fields_of o).rd && not (is_rd (destination k (fields_of o).rd))) i.rd

abbrev sources_by : Operands → Kind → Instr → List ℕ
sources_by o k i = rs_read o i ∷ rt_read o k i ∷ rd_read o k i ∷ []

abbrev main_by : Operands → Kind → Instr → List Place
main_by o kind.FromHi i = place.Hi ∷ []
main_by o kind.FromLo i = place.Lo ∷ []
main_by o k i = registers (sources_by o k i)

main_same : (i : Instr) (k : Kind) → main_places i k ≡ main_by (row_of i.op).operands k i
main_same i kind.FromHi = refl
main_same i kind.FromLo = refl
main_same i _ = refl

record Alike (does : Action) (o : Operands) (k : Kind) (i : Instr) (s t : Reader) : Type 0 where
  rs : AtMost (fields_of o).rs 31 i.rs
  rt : AtMost (fields_of o).rt (last_rt (takes_pair k)) i.rt
  rd : AtMost (fields_of o).rd 31 i.rd
  none : SameReg s t 0
  main : All (SameAt s t) (main_by o k i)
  second : All (SameAt s t) (members i (late_source k))
  bytes : (b : ℕ) → first_loaded does (effective_address_by o s i) ≤ b → b < first_loaded does (effective_address_by o s i) + loaded_count does → s.bytes b ≡ t.bytes b
  big : s.big ≡ t.big

from_table : (i : Instr) (s t : Reader) → IsWellFormed i → ReadTheSame i s t → Alike (action_of i.op) (row_of i.op).operands (row_of i.op).kind i s t
from_table i s t formed same = record {
  rs = formed.rs;
  rt = formed.rt;
  rd = formed.rd;
  none = same.zero;
  main = subst (All (SameAt s t)) (main_same i (row_of i.op).kind) same.main;
  second = same.second;
  bytes = λ b from before. same.bytes b (record { from = from; before = before });
  big = same.big;
}

from_action : (i : Instr) (s t : Reader) → IsWellFormed i → ReadTheSame i s t → Alike (action_of i.op) (shape_of (action_of i.op)) (kind_for (action_of i.op)) i s t
from_action i s t formed same =
    subst (λ k. Alike (action_of i.op) (shape_of (action_of i.op)) k i s t) (kind_is i.op)
    (subst (λ o. Alike (action_of i.op) o (row_of i.op).kind i s t) (shape_is i.op) (from_table i s t formed same))

-- the registers of the fields, where the kind reads registers
listed : (does : Action) (o : Operands) (k : Kind) (i : Instr) (s t : Reader) → Alike does o k i s t → main_by o k i ≡ registers (sources_by o k i)
    → All (SameReg s t) (sources_by o k i)
listed does o k i s t a plain = regs_same s t (sources_by o k i) a.none (subst (All (SameAt s t)) plain a.main)

rs_same : (does : Action) (o : Operands) (k : Kind) (i : Instr) (s t : Reader) → Alike does o k i s t → main_by o k i ≡ registers (sources_by o k i) → SameReg s t i.rs
rs_same does o k i s t a plain =
    used_same s t (fields_of o).rs 31 i.rs a.rs a.none
    (All-head (SameReg s t) (rs_read o i) (rt_read o k i ∷ rd_read o k i ∷ []) (listed does o k i s t a plain))

rt_same : (does : Action) (o : Operands) (k : Kind) (i : Instr) (s t : Reader) → Alike does o k i s t → main_by o k i ≡ registers (sources_by o k i)
    → is_rt (destination k (fields_of o).rd) ≡ false → is_rt (late_source k) ≡ false → SameReg s t i.rt
rt_same does o k i s t a plain unwritten early =
    used_same s t (fields_of o).rt (last_rt (takes_pair k)) i.rt a.rt a.none
    (subst (λ used. SameReg s t (field_of used i.rt))
    (ap (λ b. (fields_of o).rt && not b && not (is_rt (late_source k))) unwritten
    ∙ ap (λ b. (fields_of o).rt && true && not b) early
    ∙ twice (fields_of o).rt)
    (All-head (SameReg s t) (rt_read o k i) (rd_read o k i ∷ []) (All-tail (SameReg s t) (rs_read o i) (rt_read o k i ∷ rd_read o k i ∷ []) (listed does o k i s t a plain))))

rd_same : (does : Action) (o : Operands) (k : Kind) (i : Instr) (s t : Reader) → Alike does o k i s t → main_by o k i ≡ registers (sources_by o k i)
    → is_rd (destination k (fields_of o).rd) ≡ false → SameReg s t i.rd
rd_same does o k i s t a plain unwritten =
    used_same s t (fields_of o).rd 31 i.rd a.rd a.none
    (subst (λ used. SameReg s t (field_of used i.rd))
    (ap (λ b. (fields_of o).rd && not b) unwritten ∙ once (fields_of o).rd)
    (All-head (SameReg s t) (rd_read o k i) [] (All-tail (SameReg s t) (rt_read o k i) (rd_read o k i ∷ []) (All-tail (SameReg s t) (rs_read o i) (rt_read o k i ∷ rd_read o k i ∷ []) (listed does o k i s t a plain)))))

-- the register that is read late
late_same : (does : Action) (o : Operands) (k : Kind) (i : Instr) (s t : Reader) → Alike does o k i s t
    → members i (late_source k) ≡ registers (i.rt ∷ []) → SameReg s t i.rt
late_same does o k i s t a late =
    All-head (SameReg s t) i.rt [] (regs_same s t (i.rt ∷ []) a.none (subst (All (SameAt s t)) late a.second))

-- ---- what follows from equal registers and bytes

address_same : (at : Address) (i : Instr) (s t : Reader) → SameReg s t i.rs → (at ≡ address.Indexed → SameReg s t i.rd) → address_of at s i ≡ address_of at t i
address_same address.Offset i s t rs rd = ap (λ x. word_sum x (half_extended i.imm)) rs
address_same address.Indexed i s t rs rd = ap (λ x. word_sum x (s.regs i.rd)) rs ∙ ap (λ x. word_sum (t.regs i.rs) x) (rd refl)

abbrev SameBytes : Reader → Reader → ℕ → ℕ → Type 0
SameBytes s t a count = (b : ℕ) → a ≤ b → b < a + count → s.bytes b ≡ t.bytes b

half_same : (s t : Reader) (a : ℕ) → s.big ≡ t.big → s.bytes a ≡ t.bytes a → s.bytes (a + 1) ≡ t.bytes (a + 1) → half_at s a ≡ half_at t a
half_same s t a big b0 b1 =
    ap (λ b. half_in b (s.bytes a) (s.bytes (a + 1))) big
    ∙ ap (λ x. half_in t.big x (s.bytes (a + 1))) b0
    ∙ ap (λ x. half_in t.big (t.bytes a) x) b1

word_same : (s t : Reader) (a : ℕ) → s.big ≡ t.big → s.bytes a ≡ t.bytes a → s.bytes (a + 1) ≡ t.bytes (a + 1) → s.bytes (a + 2) ≡ t.bytes (a + 2)
    → s.bytes (a + 3) ≡ t.bytes (a + 3) → word_at s a ≡ word_at t a
word_same s t a big b0 b1 b2 b3 =
    ap (λ b. word_in b (s.bytes a) (s.bytes (a + 1)) (s.bytes (a + 2)) (s.bytes (a + 3))) big
    ∙ ap (λ x. word_in t.big x (s.bytes (a + 1)) (s.bytes (a + 2)) (s.bytes (a + 3))) b0
    ∙ ap (λ x. word_in t.big (t.bytes a) x (s.bytes (a + 2)) (s.bytes (a + 3))) b1
    ∙ ap (λ x. word_in t.big (t.bytes a) (t.bytes (a + 1)) x (s.bytes (a + 3))) b2
    ∙ ap (λ x. word_in t.big (t.bytes a) (t.bytes (a + 1)) (t.bytes (a + 2)) x) b3

word_within : (s t : Reader) (a count b : ℕ) → s.big ≡ t.big → SameBytes s t a count → a ≤ b → b + 4 ≤ a + count → word_at s b ≡ word_at t b
word_within s t a count b big same from before =
    word_same s t b big (same b (omega arith) (omega arith)) (same (b + 1) (omega arith) (omega arith))
    (same (b + 2) (omega arith) (omega arith)) (same (b + 3) (omega arith) (omega arith))

loaded_same : (size : Loaded) (s t : Reader) (a : ℕ) → s.big ≡ t.big → SameBytes s t a (loaded_size size) → loaded_of size s a ≡ loaded_of size t a
loaded_same loaded.Byte s t a big same = ap byte_extended (same a (omega arith) (omega arith))
loaded_same loaded.ByteUnsigned s t a big same = same a (omega arith) (omega arith)
loaded_same loaded.Half s t a big same =
    ap half_extended (half_same s t a big (same a (omega arith) (omega arith)) (same (a + 1) (omega arith) (omega arith)))
loaded_same loaded.HalfUnsigned s t a big same =
    half_same s t a big (same a (omega arith) (omega arith)) (same (a + 1) (omega arith) (omega arith))
loaded_same loaded.Word s t a big same = word_within s t a 4 a big same (omega arith) (omega arith)

first_same : (at : Form) (i : Instr) (s t : Reader) → SameReg s t i.rs → (at ≡ form.Shift → SameReg s t i.rt) → (at ≡ form.ShiftRegister → SameReg s t i.rt)
    → first_of at s i ≡ first_of at t i
first_same form.Registers i s t rs shift register = rs
first_same form.Signed i s t rs shift register = rs
first_same form.Unsigned i s t rs shift register = rs
first_same form.Shift i s t rs shift register = shift refl
first_same form.ShiftRegister i s t rs shift register = register refl

operands_same : (f : Alu) (at : Form) (does : Action) (i : Instr) (s t : Reader) → Alike does (form_shape f at) kind.Compute i s t
    → (first_of at s i ≡ first_of at t i) × (second_of at s i ≡ second_of at t i)
operands_same f form.Registers does i s t a = (rs_same does _ kind.Compute i s t a refl, rt_same does _ kind.Compute i s t a refl refl refl)
operands_same f form.Signed does i s t a = (rs_same does _ kind.Compute i s t a refl, refl)
operands_same f form.Unsigned does i s t a = (rs_same does _ kind.Compute i s t a refl, refl)
operands_same f form.Shift does i s t a = (rt_same does _ kind.Compute i s t a refl refl refl, refl)
operands_same f form.ShiftRegister does i s t a = (rt_same does _ kind.Compute i s t a refl refl refl, rs_same does _ kind.Compute i s t a refl)

-- two values that agree give one answer
both : {A : Type 0} (f : ℕ → ℕ → A) (a b c d : ℕ) → a ≡ c → b ≡ d → f a b ≡ f c d
both f a b c d e h = ap (λ x. f x b) e ∙ ap (f c) h

load_same : (size : Loaded) (i : Instr) (pc : ℕ) (s t : Reader) (a b : ℕ) → a ≡ b → s.big ≡ t.big → SameBytes s t a (loaded_size size) → load_at size s i pc a ≡ load_at size t i pc b
load_same size i pc s t a b addr big same =
    ap (λ v. aligned (loaded_size size) a (Ok (loads pc a (written i.rt v)))) (loaded_same size s t a big same)
    ∙ ap (load_at size t i pc) addr

load_pair_same : (i : Instr) (pc : ℕ) (s t : Reader) (a b : ℕ) → a ≡ b → s.big ≡ t.big → SameBytes s t a 8 → load_pair_at s i pc a ≡ load_pair_at t i pc b
load_pair_same i pc s t a b addr big same =
    ap (λ v. aligned 8 a (Ok (loads pc a (written i.rt v ++ written (i.rt + 1) (word_at s (a + 4)))))) (word_within s t a 8 a big same (omega arith) (omega arith))
    ∙ ap (λ v. aligned 8 a (Ok (loads pc a (written i.rt (word_at t a) ++ written (i.rt + 1) v)))) (word_within s t a 8 (a + 4) big same (omega arith) (omega arith))
    ∙ ap (load_pair_at t i pc) addr

load_part_same : (side : Side) (i : Instr) (pc : ℕ) (s t : Reader) (a b : ℕ) → a ≡ b → s.big ≡ t.big → SameReg s t i.rt → SameBytes s t (a - a % 4) 4
    → load_part_at side s i pc a ≡ load_part_at side t i pc b
load_part_same side i pc s t a b addr big rt same =
    ap (λ v. loads pc a (written i.rt (part_loaded side v (a % 4) (word_at s (a - a % 4)) (s.regs i.rt)))) big
    ∙ ap (λ v. loads pc a (written i.rt (part_loaded side t.big (a % 4) v (s.regs i.rt)))) (word_within s t (a - a % 4) 4 (a - a % 4) big same (omega arith) (omega arith))
    ∙ ap (λ v. loads pc a (written i.rt (part_loaded side t.big (a % 4) (word_at t (a - a % 4)) v))) rt
    ∙ ap (load_part_at side t i pc) addr

store_same : (size : Stored) (i : Instr) (pc : ℕ) (text : TextRange) (s t : Reader) (a b : ℕ) → a ≡ b → stored_of size s i.rt ≡ stored_of size t i.rt
    → store_at size s i pc text a ≡ store_at size t i pc text b
store_same size i pc text s t a b addr content =
    ap (λ v. aligned (stored_size size) a (stores text pc a a v)) content ∙ ap (store_at size t i pc text) addr

store_part_same : (side : Side) (i : Instr) (pc : ℕ) (text : TextRange) (s t : Reader) (a b : ℕ) → a ≡ b → s.big ≡ t.big → SameReg s t i.rt
    → store_part_at side s i pc text a ≡ store_part_at side t i pc text b
store_part_same side i pc text s t a b addr big rt =
    ap (λ v. stores text pc a (part_start side v a) (part_stored side v (a % 4) (s.regs i.rt))) big
    ∙ ap (λ v. stores text pc a (part_start side t.big a) (part_stored side t.big (a % 4) v)) rt
    ∙ ap (store_part_at side t i pc text) addr

bytes_of_word : (b c : Bool) (x y : ℕ) → b ≡ c → x ≡ y → word_bytes b x ≡ word_bytes c y
bytes_of_word b c x y e h = ap (λ z. word_bytes z x) e ∙ ap (word_bytes c) h

-- ---- stores

-- the address of an access is read first
access_address : (at : Address) (does : Action) (o : Operands) (k : Kind) (i : Instr) (s t : Reader) → Alike does o k i s t → main_by o k i ≡ registers (sources_by o k i)
    → is_rd (destination k (fields_of o).rd) ≡ false → address_of at s i ≡ address_of at t i
access_address at does o k i s t a plain unwritten =
    address_same at i s t (rs_same does o k i s t a plain) (λ _. rd_same does o k i s t a plain unwritten)

pair_late : (does : Action) (o : Operands) (i : Instr) (s t : Reader) → Alike does o kind.StorePair i s t → SameReg s t i.rt × SameReg s t (i.rt + 1)
pair_late does o i s t a =
    let all = regs_same s t (i.rt ∷ (i.rt + 1) ∷ []) a.none a.second in
    (All-head (SameReg s t) i.rt ((i.rt + 1) ∷ []) all, All-head (SameReg s t) (i.rt + 1) [] (All-tail (SameReg s t) i.rt ((i.rt + 1) ∷ []) all))

stored_same : (size : Stored) (at : Address) (i : Instr) (pc : ℕ) (text : TextRange) (s t : Reader)
    → Alike (action.Store size at) (shape_of (action.Store size at)) (kind_for (action.Store size at)) i s t
    → outcome_of (action.Store size at) s i pc text ≡ outcome_of (action.Store size at) t i pc text
stored_same stored.Zero at i pc text s t a =
    store_same stored.Zero i pc text s t _ _ (access_address at _ _ kind.StoreZero i s t a refl refl) refl
stored_same stored.Byte at i pc text s t a =
    store_same stored.Byte i pc text s t _ _ (access_address at _ _ kind.Store i s t a refl refl)
    (ap (λ v. v % 2 ^ 8 ∷ []) (late_same _ _ kind.Store i s t a refl))
stored_same stored.Half at i pc text s t a =
    store_same stored.Half i pc text s t _ _ (access_address at _ _ kind.Store i s t a refl refl)
    (ap (λ b. half_bytes b (s.regs i.rt % 2 ^ 16)) a.big ∙ ap (λ v. half_bytes t.big (v % 2 ^ 16)) (late_same _ _ kind.Store i s t a refl))
stored_same stored.Word at i pc text s t a =
    store_same stored.Word i pc text s t _ _ (access_address at _ _ kind.Store i s t a refl refl)
    (bytes_of_word s.big t.big _ _ a.big (late_same _ _ kind.Store i s t a refl))
stored_same stored.Pair at i pc text s t a =
    let late = pair_late _ _ i s t a in
    store_same stored.Pair i pc text s t _ _ (access_address at _ _ kind.StorePair i s t a refl refl)
    (ap (λ v. v ++ word_bytes s.big (s.regs (i.rt + 1))) (bytes_of_word s.big t.big (s.regs i.rt) (t.regs i.rt) a.big late.0)
    ∙ ap (λ v. word_bytes t.big (t.regs i.rt) ++ v) (bytes_of_word s.big t.big (s.regs (i.rt + 1)) (t.regs (i.rt + 1)) a.big late.1))

-- ---- all actions

outcome_same : (does : Action) (i : Instr) (pc : ℕ) (text : TextRange) (s t : Reader) → Alike does (shape_of does) (kind_for does) i s t
    → outcome_of does s i pc text ≡ outcome_of does t i pc text
outcome_same action.Nothing i pc text s t a = refl
outcome_same action.Float i pc text s t a = refl
outcome_same action.Break i pc text s t a = refl
outcome_same (action.Jump keeps) i pc text s t a = refl
outcome_same (action.JumpRegister link.Absent) i pc text s t a =
    ap (λ x. Ok (jumps pc x (linked link.Absent i.rd pc))) (rs_same _ _ kind.JumpRegister i s t a refl)
outcome_same (action.JumpRegister link.Kept) i pc text s t a =
    ap (λ x. Ok (jumps pc x (linked link.Kept i.rd pc))) (rs_same _ _ kind.Call i s t a refl)
outcome_same (action.Branch test) i pc text s t a =
    both (λ x y. Ok (branches (is_taken test x y) pc (branch_target pc i.imm))) _ _ _ _
    (rs_same _ _ kind.Branch i s t a refl) (rt_same _ _ kind.Branch i s t a refl refl refl)
outcome_same (action.Compute f at) i pc text s t a =
    let same = operands_same f at (action.Compute f at) i s t a in
    both (λ x y. Ok (writes_reg pc (target_of at i) (alu_of f x y))) (first_of at s i) (second_of at s i) (first_of at t i) (second_of at t i) same.0 same.1
outcome_same (action.Exact f at) i pc text s t a =
    let same = operands_same alu.Add at (action.Exact f at) i s t a in
    both (λ x y. exactly (exact_of f x y) pc (target_of at i)) (first_of at s i) (second_of at s i) (first_of at t i) (second_of at t i) same.0 same.1
outcome_same (action.Multiply sign) i pc text s t a =
    both (λ x y. Ok (multiplies sign pc x y)) _ _ _ _ (rs_same _ _ kind.ToHiLo i s t a refl) (rt_same _ _ kind.ToHiLo i s t a refl refl refl)
outcome_same (action.Divide sign) i pc text s t a =
    both (λ x y. divides sign pc x y) _ _ _ _ (rs_same _ _ kind.ToHiLo i s t a refl) (rt_same _ _ kind.ToHiLo i s t a refl refl refl)
outcome_same (action.MoveFrom half.High) i pc text s t a =
    ap (λ x. Ok (writes_reg pc i.rd x)) (All-head (SameAt s t) place.Hi [] a.main)
outcome_same (action.MoveFrom half.Low) i pc text s t a =
    ap (λ x. Ok (writes_reg pc i.rd x)) (All-head (SameAt s t) place.Lo [] a.main)
outcome_same (action.MoveTo half.High) i pc text s t a =
    ap (λ x. Ok (moves_to half.High pc x)) (rs_same _ _ kind.ToHi i s t a refl)
outcome_same (action.MoveTo half.Low) i pc text s t a =
    ap (λ x. Ok (moves_to half.Low pc x)) (rs_same _ _ kind.ToLo i s t a refl)
outcome_same (action.Load size address.Offset) i pc text s t a =
    load_same size i pc s t _ _ (access_address address.Offset _ _ kind.Load i s t a refl refl) a.big a.bytes
outcome_same (action.Load size address.Indexed) i pc text s t a =
    load_same size i pc s t _ _ (access_address address.Indexed _ _ kind.Load i s t a refl refl) a.big a.bytes
outcome_same (action.LoadPair address.Offset) i pc text s t a =
    load_pair_same i pc s t _ _ (access_address address.Offset _ _ kind.LoadPair i s t a refl refl) a.big a.bytes
outcome_same (action.LoadPair address.Indexed) i pc text s t a =
    load_pair_same i pc s t _ _ (access_address address.Indexed _ _ kind.LoadPair i s t a refl refl) a.big a.bytes
outcome_same (action.LoadPart side) i pc text s t a =
    ap Ok (load_part_same side i pc s t _ _ (access_address address.Offset _ _ kind.LoadMerge i s t a refl refl) a.big (late_same _ _ kind.LoadMerge i s t a refl) a.bytes)
outcome_same (action.Store size at) i pc text s t a = stored_same size at i pc text s t a
outcome_same (action.StorePart side) i pc text s t a =
    store_part_same side i pc text s t _ _ (access_address address.Offset _ _ kind.Store i s t a refl refl) a.big (late_same _ _ kind.Store i s t a refl)

pub same_effect : (s t : Reader) (i : Instr) (pc : ℕ) (text : TextRange) → IsWellFormed i → ReadTheSame i s t → effect_of s i pc text ≡ effect_of t i pc text
unfolding effect_of
same_effect s t i pc text formed same = outcome_same (action_of i.op) i pc text s t (from_action i s t formed same)
