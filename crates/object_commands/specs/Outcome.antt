-- What `asm` and `dis` come to.
use Rattle.std.specs.Prelude.{◌≡◌, ◌⊎◌, ℕ, List, [], ◌∷◌, Result, Ok, Err}
use Rattle.ecoff_load.specs.declared.image.Image.{Image}
use Rattle.ecoff_load.specs.declared.image.Text.{Text}
use Rattle.ecoff_load.specs.Layout.{object_bytes}
use Rattle.ss_base.specs.declared.text_fault.AsmFault.{AsmFault}
use Rattle.ss_base.specs.declared.text_fault.AsmFault.TheVariants as fault
use Rattle.ss_base.specs.declared.text_fault.TextWhy.TheVariants as why
use Rattle.pisa_asm.specs.Passes.{described, CanBeHeld}
use Rattle.journal.specs.declared.loading.Found.{Found}
use Rattle.journal.specs.Write.{Start, Append}
use Rattle.journal.specs.Outcome.{Outcome}
use Rattle.answers.specs.declared.answer.Answer.{Answer}
use Rattle.answers.specs.declared.answer.Answer.TheVariants as answer
use Rattle.answers.specs.Answer.{answered, refused}
use Rattle.answers.specs.Judging.{LoadsFile, JudgesObject}
use Rattle.object_commands.specs.Listing.{listing_writes}

-- ---- asm

-- an image that no object of at most 16,777,216 bytes can hold is refused as a whole, at line 0
abbrev pub JudgesLayout : Image → Outcome Answer → (Image → Type 0) → Type 0
JudgesLayout image o Next = ((CanBeHeld image → ⊥) × (o ≡ refused (answer.Text 0 why.Layout))) ⊎ (CanBeHeld image × Next image)

-- a source is refused at its first wrong line, and else describes an image
abbrev pub JudgesSource : Result Image AsmFault → Outcome Answer → (Image → Type 0) → Type 0
JudgesSource (Err (fault.Bad line reason)) o Next = o ≡ refused (answer.Text line reason)
JudgesSource (Err fault.OutOfMemory) o Next = ⊥
JudgesSource (Ok image) o Next = JudgesLayout image o Next

-- the file is made empty, and gets the object of an image
abbrev pub object_made : List ℕ → Image → Outcome Answer
object_made object image = answered answer.Made (Append object (object_bytes image) ∷ Start object ∷ [])

-- the source is loaded and judged; then the object of its image is written
abbrev pub AsmOutcome : (source object : List ℕ) → List Found → Outcome Answer → Type 0
AsmOutcome source object loaded o =
    LoadsFile source loaded o (λ bytes _.
    JudgesSource (described bytes) o (λ image.
    o ≡ object_made object image))

-- ---- dis

-- the listing of a text goes to the first stream
abbrev pub listing_made : Text → Outcome Answer
listing_made text = answered answer.Made (listing_writes text)

-- the object is loaded and judged; then its text is listed
abbrev pub DisOutcome : (object : List ℕ) → List Found → Outcome Answer → Type 0
DisOutcome object loaded o =
    LoadsFile object loaded o (λ program _.
    JudgesObject program o (λ image.
    o ≡ listing_made image.text))
