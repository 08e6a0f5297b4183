-- What is wrong with a value of an option.
use Rattle.std.specs.Prelude.{ℕ, List, Option, Some, None, nat_le, if◌then◌else◌}
use Rattle.sim_opts.specs.declared.table.Slot.{Slot}
use Rattle.sim_opts.specs.declared.table.Slot.TheVariants as slot
use Rattle.sim_opts.specs.declared.values.ValueWhy.{ValueWhy}
use Rattle.sim_opts.specs.declared.values.ValueWhy.TheVariants.{Number, Range, Form}
use Rattle.sim_opts.specs.Word.{is_file, digits_of}

abbrev pub number_fault : ℕ → Option ℕ → Option ValueWhy
number_fault most None = Some Number
number_fault most (Some n) = if nat_le n most then None else Some Range

-- a file has a name; a number is one, and at most the greatest
abbrev pub value_fault : Slot → List ℕ → Option ValueWhy
value_fault slot.File word = if is_file word then None else Some Form
value_fault (slot.Number most) word = number_fault most (digits_of word)
