-- Copying the parts in turn, as the loop does.
use Rattle.std.proofs.Common.{◌≡◌, ℕ, ◌+◌, ◌-◌, ◌*◌, ◌<◌, ◌≤◌, Bool, List, [], ◌∷◌, ◌++◌, length, Option, Some, None, refl, sym, ap, subst, ◌∙◌, append_assoc, arith}
use Rattle.std.specs.List.{AllByRecursion, filter_map, cons_option}
use Rattle.std.proofs.lemmas.List.{append-nil}
use Rattle.ecoff_load.specs.declared.section.Section.{Section}
use Rattle.ecoff_load.specs.declared.image.Part.{Part}
use Rattle.ecoff_load.specs.Sections.{section_at, sections_from}
use Rattle.ecoff_load.specs.Reading.{InFile, part_of}
use Rattle.ecoff_load.proofs.Judged.{next_section, none_left}

-- the parts that were copied and those of the sections that are left are all parts
pub record ToCopy (big : Bool) (bytes : List ℕ) (count i at : ℕ) (parts : List Part) : Type 0 where
  pub place : at ≡ 76 + 40 * i
  pub in_file : AllByRecursion (InFile (length bytes)) (sections_from big bytes (count - i) at)
  pub copied : parts ++ filter_map (part_of bytes) (sections_from big bytes (count - i) at) ≡ filter_map (part_of bytes) (sections_from big bytes count 76)

in_front : {A : Type 0} (o : Option A) (xs : List A) → cons_option o xs ≡ cons_option o [] ++ xs
in_front None xs = refl
in_front (Some x) xs = refl

-- the section that is next is in the file
pub next_in_file : (big : Bool) (bytes : List ℕ) (count i at : ℕ) (parts : List Part) (s : Section) → i < count → s ≡ section_at big bytes at → ToCopy big bytes count i at parts → InFile (length bytes) s
next_in_file big bytes count i at parts s lt is-s left =
    let here = next_section big bytes count i at lt in
    let all : AllByRecursion (InFile (length bytes)) (section_at big bytes at ∷ sections_from big bytes (count - (i + 1)) (at + 40)) = subst (AllByRecursion (InFile (length bytes))) here left.in_file in
    subst (InFile (length bytes)) (sym is-s) all.0

pub copy_go : (big : Bool) (bytes : List ℕ) (count i at after : ℕ) (parts more : List Part) (s : Section) → i < count → s ≡ section_at big bytes at → after ≡ at + 40 → more ≡ parts ++ cons_option (part_of bytes s) []
    → ToCopy big bytes count i at parts → ToCopy big bytes count (i + 1) after more
copy_go big bytes count i at after parts more s lt is-s is-after is-more left =
    let rest = sections_from big bytes (count - (i + 1)) (at + 40) in
    let h = part_of bytes in
    let here = next_section big bytes count i at lt in
    let there : sections_from big bytes (count - (i + 1)) after ≡ rest = ap (sections_from big bytes (count - (i + 1))) is-after in
    let all : AllByRecursion (InFile (length bytes)) (section_at big bytes at ∷ rest) = subst (AllByRecursion (InFile (length bytes))) here left.in_file in
    record {
      place = omega (arith, left.place, is-after);
      in_file = subst (AllByRecursion (InFile (length bytes))) (sym there) all.1;
      copied = ap (λ (l : List Section). more ++ filter_map h l) there
          ∙ ap (λ (l : List Part). l ++ filter_map h rest) (is-more ∙ ap (λ (x : Section). parts ++ cons_option (h x) []) is-s)
          ∙ append_assoc parts (cons_option (h (section_at big bytes at)) []) (filter_map h rest)
          ∙ ap (λ (l : List Part). parts ++ l) (sym (in_front (h (section_at big bytes at)) (filter_map h rest)))
          ∙ ap (λ (l : List Section). parts ++ filter_map h l) (sym here) ∙ left.copied;
    }

pub copy_end : (big : Bool) (bytes : List ℕ) (count i at : ℕ) (parts : List Part) → count ≤ i → ToCopy big bytes count i at parts → parts ≡ filter_map (part_of bytes) (sections_from big bytes count 76)
copy_end big bytes count i at parts le left =
    sym (append-nil parts) ∙ ap (λ (l : List Section). parts ++ filter_map (part_of bytes) l) (sym (none_left big bytes count i at le)) ∙ left.copied
