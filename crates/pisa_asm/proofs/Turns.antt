-- Passes over lines, one line after the other.
use Rattle.std.proofs.Common.{◌≡◌, ◌+◌, ◌≤◌, ◌<◌, ◌∙◌, ℕ, Bool, List, [], ◌∷◌, length, Option, Some, None, Result, Ok, Err, is_some, option_map, Bor, refl, sym, ap, arith}
use Rattle.ss_base.specs.declared.text_fault.TextWhy.{TextWhy}
use Rattle.ss_base.specs.declared.text_fault.AsmFault.{AsmFault}
use Rattle.pisa_asm.specs.declared.statements.Stop.{Stop}
use Rattle.pisa_asm.specs.declared.statements.Stop.TheVariants as stops
use Rattle.pisa_asm.specs.declared.assembling.Findings.{Findings}
use Rattle.pisa_asm.specs.declared.sheet.Sheet.{Sheet}
use Rattle.text_lines.specs.Lines.{lines_of}
use Rattle.pisa_asm.specs.Statements.{Stated}
use Rattle.pisa_asm.specs.Views.{Fails}
use Rattle.pisa_asm.specs.Passes.{Found, after_line, at_line, filled, first_pass, second_pass, nothing_found, no_sheet, words_on}
use Rattle.pisa_asm.specs.Kept.{Comes, Finds, Matches, StepsTo, fault_at}

-- the first pass from a line on is the whole first pass
pub record Going (kept : Findings) (n : ℕ) (rest text : List ℕ) : Type 0 where
  pub found : Found
  pub matches : Matches kept found
  pub so_far : first_pass n found (lines_of rest) ≡ first_pass 1 nothing_found (lines_of text)
  pub counted : n + length rest ≤ length text + 1

-- where a line is right, the pass goes on behind it
pub goes_on : (kept next : Findings) (n : ℕ) (rest text line others : List ℕ) → Going kept n rest text → lines_of rest ≡ line ∷ lines_of others → length others < length rest
    → ((found : Found) → Matches kept found → StepsTo (Ok next) found line) → Going next (n + 1) others text
goes_on kept next n rest text line others v lines shorter step =
    let s = step v.found v.matches in
    record {
      found = after_line v.found (words_on line).label s.0;
      matches = s.2;
      so_far = sym (ap (first_pass n v.found) lines ∙ ap (λ (r : Result Stated TextWhy). at_line n r (λ st. first_pass (n + 1) (after_line v.found (words_on line).label st) (lines_of others))) s.1) ∙ v.so_far;
      counted = omega (arith, v.counted);
    }

fails : (stop : Stop) (n : ℕ) (found : Found) (line others : List ℕ) (total : Result Found AsmFault) → StepsTo (Err stop) found line
    → first_pass n found (line ∷ lines_of others) ≡ total → Finds (Err (fault_at n stop)) total
fails stops.NoMemory n found line others total h so_far = tt
fails (stops.Wrong w) n found line others total h so_far =
    sym so_far ∙ ap (λ (r : Result Stated TextWhy). at_line n r (λ st. first_pass (n + 1) (after_line found (words_on line).label st) (lines_of others))) h

-- where it is wrong, the pass ends with it
pub ends_wrong : (kept : Findings) (stop : Stop) (n : ℕ) (rest text line others : List ℕ) → Going kept n rest text → lines_of rest ≡ line ∷ lines_of others
    → ((found : Found) → Matches kept found → StepsTo (Err stop) found line) → Finds (Err (fault_at n stop)) (first_pass 1 nothing_found (lines_of text))
ends_wrong kept stop n rest text line others v lines step =
    fails stop n v.found line others (first_pass 1 nothing_found (lines_of text)) (step v.found v.matches) (sym (ap (first_pass n v.found) lines) ∙ v.so_far)

no_bytes : (xs : List ℕ) → length xs ≤ 0 → xs ≡ []
no_bytes [] h = refl
no_bytes (x ∷ xs) h = absurd (omega arith)

-- where no line is left, the pass is done
pub is_done : (kept : Findings) (n : ℕ) (rest text : List ℕ) → Going kept n rest text → length rest ≤ 0 → Finds (Ok kept) (first_pass 1 nothing_found (lines_of text))
is_done kept n rest text v h =
    (v.found, sym v.so_far ∙ ap (λ (bytes : List ℕ). first_pass n v.found (lines_of bytes)) (no_bytes rest h), v.matches)

-- the second pass from a line on is the whole second pass
pub record Filling (make : Bool) (known : List (List ℕ × ℕ)) (sheet : Sheet) (n : ℕ) (rest text : List ℕ) : Type 0 where
  pub so_far : second_pass make known n sheet (lines_of rest) ≡ second_pass make known 1 no_sheet (lines_of text)

pub fills_on : (make : Bool) (known : List (List ℕ × ℕ)) (sheet new : Sheet) (n : ℕ) (rest text line others : List ℕ) → Filling make known sheet n rest text
    → lines_of rest ≡ line ∷ lines_of others → filled make known sheet line ≡ Ok new → Filling make known new (n + 1) others text
fills_on make known sheet new n rest text line others v lines step = record {
  so_far = sym (ap (second_pass make known n sheet) lines ∙ ap (λ (r : Result Sheet TextWhy). at_line n r (λ s. second_pass make known (n + 1) s (lines_of others))) step) ∙ v.so_far;
}

pub fill_fails : (make : Bool) (known : List (List ℕ × ℕ)) (sheet : Sheet) (stop : Stop) (n : ℕ) (rest text line others : List ℕ) → Filling make known sheet n rest text
    → lines_of rest ≡ line ∷ lines_of others → Fails stop (filled make known sheet line) → Comes (Err (fault_at n stop)) (second_pass make known 1 no_sheet (lines_of text))
fill_fails make known sheet stops.NoMemory n rest text line others v lines h = tt
fill_fails make known sheet (stops.Wrong w) n rest text line others v lines h =
    sym v.so_far ∙ ap (second_pass make known n sheet) lines ∙ ap (λ (r : Result Sheet TextWhy). at_line n r (λ s. second_pass make known (n + 1) s (lines_of others))) h

pub fill_done : (make : Bool) (known : List (List ℕ × ℕ)) (sheet : Sheet) (n : ℕ) (rest text : List ℕ) → Filling make known sheet n rest text → length rest ≤ 0
    → second_pass make known 1 no_sheet (lines_of text) ≡ Ok sheet
fill_done make known sheet n rest text v h =
    sym v.so_far ∙ ap (λ (bytes : List ℕ). second_pass make known n sheet (lines_of bytes)) (no_bytes rest h)

-- whether a mapped option holds something
pub is_some_mapped : (o : Option (Bor (List ℕ))) → is_some (option_map (λ (l : Bor (List ℕ)). l.now) o) ≡ is_some o
is_some_mapped None = refl
is_some_mapped (Some x) = refl
