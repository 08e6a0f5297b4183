-- One word that is taken off a line.
use Rattle.std.specs.Prelude.{◌≡◌, ◌<◌, ℕ, Bool, true, List, [], ◌∷◌, length, Option, Some, None}
use Rattle.std.specs.List.{list_all}
use Rattle.text_lines.specs.Lines.{words_in}

-- bytes are among those of a line: what all of the line's bytes pass, all of them pass
abbrev pub AreOf : List ℕ → List ℕ → Type 0
AreOf bytes line = (passes : ℕ → Bool) → list_all passes line ≡ true → list_all passes bytes ≡ true

-- a word, and what stands behind it
pub record Takes (line word rest : List ℕ) : Type 0 where
  pub words : words_in line ≡ word ∷ words_in rest
  pub shorter : length rest < length line
  pub word_bytes : AreOf word line
  pub rest_bytes : AreOf rest line

-- the first word of a line, where it has one
abbrev pub IsNextWord : List ℕ → Option (List ℕ × List ℕ) → Type 0
IsNextWord line None = words_in line ≡ []
IsNextWord line (Some parts) = Takes line parts.0 parts.1
