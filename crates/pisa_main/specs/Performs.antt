-- What the words of a command line come to over files and streams.
use Rattle.std.specs.Prelude.{◌≡◌, ℕ, Bool, true, false, List, [], ◌∷◌, None}
use Rattle.std.specs.declared.io.ErrorKind.{ErrorKind}
use Rattle.std.specs.declared.io.ErrorKind.TheVariants as kind
use Rattle.journal.specs.Write.{output_of, report_of}
use Rattle.journal.specs.View.{View}
use Rattle.journal.specs.Parts.{parts_view}
use Rattle.journal.specs.Clauses.{Gets, IfAnswered}
use Rattle.sim_main.specs.declared.ending.Ending.{Ending}
use Rattle.sim_main.specs.declared.ending.Ending.TheVariants as ends
use Rattle.sim_main.specs.Ending.{answer_of, status_of}
use Rattle.sim_main.specs.Answer.{CameBy, AnswersBy, EndsByWords, Counts, Quiet, HoldsOfPoint}

-- why words could not be collected: memory ran out, or one of them is no text
abbrev pub wants_memory : ErrorKind → Bool
wants_memory kind.OutOfMemory = true
wants_memory _ = false

-- what stands for words that are no text: one word, which is no command
abbrev pub no_text : List (List ℕ)
no_text = [] ∷ []

-- streams over files of which only the count of faults is seen
abbrev pub streams_view : {P R : Type 0} → (P → Type 0) → (P → List ℕ) → (P → ℕ) → (P → Type 0) → (R → Type 0) → (R → List ℕ) → (R → ℕ) → (R → Type 0) → View (ℕ × P × R)
streams_view = parts_view (λ _. ⊥) (λ _. ⊥) (λ _ _. None) (λ n. n)

-- words ended so: the one relation of `simulate` over files that aren't told, and the facts of the streams
-- that follow from it
pub record Ends {P R : Type 0} (prog_tells : P → Type 0) (prog_contents : P → List ℕ) (prog_faults : P → ℕ) (prog_calm : P → Type 0)
    (stat_tells : R → Type 0) (stat_contents : R → List ℕ) (stat_faults : R → ℕ) (stat_calm : R → Type 0)
    (words : List (List ℕ)) (prog prog_now : P) (stat stat_now : R) (e : Ending) : Type 0 where
  pub comes : (shelf : ℕ × ℕ) × CameBy (streams_view prog_tells prog_contents prog_faults prog_calm stat_tells stat_contents stat_faults stat_calm) (shelf.0, prog, stat) words (shelf.1, prog_now, stat_now) e
  pub outcome : IfAnswered (answer_of e) (λ a. AnswersBy ⊥ (λ _. None) words a (λ o. Gets prog_tells prog_contents prog prog_now (output_of o.writes) × Gets stat_tells stat_contents stat stat_now (report_of o.writes)))
  pub by_words : EndsByWords ⊥ (λ _. None) words e
  pub count : (shelf : ℕ × ℕ) × Counts (shelf.0, prog_faults prog, stat_faults stat) (shelf.1, prog_faults prog_now, stat_faults stat_now) e
  pub quiet : HoldsOfPoint ⊥ (λ _. None) words (λ point. Quiet point (prog_faults prog) (prog_faults prog_now) prog prog_now stat stat_now e)
  pub memory : stat_tells stat → e ≡ ends.OutOfMemory → stat_contents stat_now ≡ stat_contents stat

-- a status is that of an ending, which holds
pub record IsStatusOf (Holds : Ending → Type 0) (status : ℕ) : Type 0 where
  pub ending : Ending
  pub status_is : status ≡ status_of ending
  pub holds : Holds ending

-- words that could not be collected ended so: for want of memory both streams stay, and words that are no text
-- are refused as a word that is no command
abbrev pub EndsWithout : {P R : Type 0} → (P → Type 0) → (P → List ℕ) → (P → ℕ) → (P → Type 0) → (R → Type 0) → (R → List ℕ) → (R → ℕ) → (R → Type 0) → Bool → P → P → R → R → ℕ → Type 0
EndsWithout prog_tells prog_contents prog_faults prog_calm stat_tells stat_contents stat_faults stat_calm true prog prog_now stat stat_now status =
    (status ≡ status_of ends.OutOfMemory) × (prog_now ≡ prog) × (stat_now ≡ stat)
EndsWithout prog_tells prog_contents prog_faults prog_calm stat_tells stat_contents stat_faults stat_calm false prog prog_now stat stat_now status =
    IsStatusOf (Ends prog_tells prog_contents prog_faults prog_calm stat_tells stat_contents stat_faults stat_calm no_text prog prog_now stat stat_now) status
