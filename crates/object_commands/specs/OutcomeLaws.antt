-- Laws of what `asm` and `dis` come to.
use Rattle.std.proofs.Common.{◌≡◌, ℕ, zero, suc, List, [], ◌∷◌, Result, Ok, Err, sym, ◌∙◌, subst, ⊎_elim, inl, inr, None}
use Rattle.ecoff_load.specs.declared.image.Image.{Image}
use Rattle.ecoff_load.specs.declared.image.Text.{Text}
use Rattle.ss_base.specs.declared.text_fault.AsmFault.{AsmFault}
use Rattle.ss_base.specs.declared.text_fault.AsmFault.TheVariants as fault
use Rattle.ss_base.specs.declared.text_fault.TextWhy.{TextWhy}
use Rattle.ss_base.specs.declared.text_fault.TextWhy.TheVariants as why
use Rattle.pisa_asm.specs.Passes.{described, CanBeHeld}
use Rattle.journal.specs.declared.fault.Fault.TheVariants as faults
use Rattle.journal.specs.declared.loading.Found.{Found}
use Rattle.journal.specs.declared.loading.Found.TheVariants as found
use Rattle.journal.specs.Write.{Start, Lacks}
use Rattle.journal.specs.Texts.{StartsFiles, ReportsLast, IsProper}
use Rattle.journal.specs.Propers.{started_alone, started_append, proper_started, proper_report}
use Rattle.journal.specs.Outcome.{Outcome}
use Rattle.answers.specs.declared.answer.Answer.{Answer}
use Rattle.answers.specs.declared.answer.Answer.TheVariants as answer
use Rattle.answers.specs.Answer.{refused}
use Rattle.answers.specs.Sound.{IsSound}
use Rattle.answers.specs.SoundLaws.{file_all, object_all, refused_sound, made_sound, first_named}
use Rattle.journal.specs.Load.{input}
use Rattle.answers.specs.Judging.{JudgesObject}
use Rattle.answers.specs.JudgingLaws.{file_once, object_once}
use Rattle.object_commands.specs.Listing.{pieces_put}
use Rattle.object_commands.specs.Outcome.{JudgesLayout, JudgesSource, object_made, listing_made, AsmOutcome, DisOutcome}

-- ---- judging a source

-- what comes next may be said otherwise
layout_map : (image : Image) (o : Outcome Answer) (N M : Image → Type 0) → (N image → M image) → JudgesLayout image o N → JudgesLayout image o M
layout_map image o N M f x = ⊎_elim (λ h. inl h) (λ h. inr (h.0, f h.1)) x

pub source_map : (meaning : Result Image AsmFault) (o : Outcome Answer) (N M : Image → Type 0) → ((image : Image) → N image → M image) → JudgesSource meaning o N → JudgesSource meaning o M
source_map (Err (fault.Bad line reason)) o N M f x = x
source_map (Err fault.OutOfMemory) o N M f x = x
source_map (Ok image) o N M f x = layout_map image o N M (f image) x

-- a source that is refused is so whatever comes next
pub source_never : (meaning : Result Image AsmFault) (o : Outcome Answer) (M : Image → Type 0) → JudgesSource meaning o (λ _. ⊥) → JudgesSource meaning o M
source_never meaning o M x = source_map meaning o (λ _. ⊥) M (λ image h. absurd h) x

-- one that describes an image which an object can hold is judged to be that
pub source_judged : (meaning : Result Image AsmFault) (o : Outcome Answer) (N : Image → Type 0) (image : Image) → meaning ≡ Ok image → CanBeHeld image → N image → JudgesSource meaning o N
source_judged meaning o N image e held x =
    let P : Result Image AsmFault → Type 0 = λ r. JudgesSource r o N in
    subst P (sym e) (inr (held, x))

-- ---- of the same file there is at most one outcome

layout_once : (image : Image) (o p : Outcome Answer) (N M : Image → Type 0) → (N image → M image → o ≡ p) → JudgesLayout image o N → JudgesLayout image p M → o ≡ p
layout_once image o p N M f (inl a) (inl b) = a.1 ∙ sym b.1
layout_once image o p N M f (inl a) (inr b) = absurd (a.0 b.0)
layout_once image o p N M f (inr a) (inl b) = absurd (b.0 a.0)
layout_once image o p N M f (inr a) (inr b) = f a.1 b.1

source_once : (meaning : Result Image AsmFault) (o p : Outcome Answer) (N M : Image → Type 0) → ((image : Image) → N image → M image → o ≡ p) → JudgesSource meaning o N → JudgesSource meaning p M → o ≡ p
source_once (Err (fault.Bad line reason)) o p N M f x y = x ∙ sym y
source_once (Err fault.OutOfMemory) o p N M f x y = absurd x
source_once (Ok image) o p N M f x y = layout_once image o p N M (f image) x y

pub asm_once : (source object : List ℕ) (loaded : List Found) (o p : Outcome Answer) → AsmOutcome source object loaded o → AsmOutcome source object loaded p → o ≡ p
asm_once source object loaded o p x y =
    file_once source loaded o p (λ bytes _. JudgesSource (described bytes) o (λ image. o ≡ object_made object image)) (λ bytes _. JudgesSource (described bytes) p (λ image. p ≡ object_made object image))
    (λ bytes _. source_once (described bytes) o p (λ image. o ≡ object_made object image) (λ image. p ≡ object_made object image) (λ image a b. a ∙ sym b)) x y

pub dis_once : (object : List ℕ) (loaded : List Found) (o p : Outcome Answer) → DisOutcome object loaded o → DisOutcome object loaded p → o ≡ p
dis_once object loaded o p x y =
    file_once object loaded o p (λ program _. JudgesObject program o (λ image. o ≡ listing_made image.text)) (λ program _. JudgesObject program p (λ image. p ≡ listing_made image.text))
    (λ program _. object_once program o p (λ image. o ≡ listing_made image.text) (λ image. p ≡ listing_made image.text) (λ image a b. a ∙ sym b)) x y

-- ---- what is written is proper

object_proper : (object : List ℕ) (image : Image) → IsProper (object_made object image).writes
object_proper object image = proper_started object _ (started_append object _ (Start object ∷ []) (started_alone object))

pieces_start : (text : Text) (k : ℕ) → StartsFiles (pieces_put text k)
unfolding pieces_put
pieces_start text zero = tt
pieces_start text (suc k) = (tt, pieces_start text k)

pieces_lack : (text : Text) (k : ℕ) → Lacks faults.Stat (pieces_put text k)
unfolding pieces_put
pieces_lack text zero = tt
pieces_lack text (suc k) = (λ e. cc, pieces_lack text k)

pieces_last : (text : Text) (k : ℕ) → ReportsLast (pieces_put text k)
unfolding pieces_put
pieces_last text zero = tt
pieces_last text (suc k) = pieces_lack text k

listing_proper : (text : Text) → IsProper (listing_made text).writes
listing_proper text = record { starts = pieces_start text _; last = pieces_last text _ }

layout_proper : (image : Image) (o : Outcome Answer) (N : Image → Type 0) → (N image → IsProper o.writes) → JudgesLayout image o N → IsProper o.writes
layout_proper image o N f (inl a) = subst (λ (x : Outcome Answer). IsProper x.writes) (sym a.1) (proper_report _)
layout_proper image o N f (inr a) = f a.1

source_proper : (meaning : Result Image AsmFault) (o : Outcome Answer) (N : Image → Type 0) → ((image : Image) → N image → IsProper o.writes) → JudgesSource meaning o N → IsProper o.writes
source_proper (Err (fault.Bad line reason)) o N f x = subst (λ (x : Outcome Answer). IsProper x.writes) (sym x) (proper_report _)
source_proper (Err fault.OutOfMemory) o N f x = absurd x
source_proper (Ok image) o N f x = layout_proper image o N (f image) x

pub asm_proper : (source object : List ℕ) (loaded : List Found) (o : Outcome Answer) → AsmOutcome source object loaded o → IsProper o.writes
asm_proper source object [] o x = absurd x
asm_proper source object (found.TooLong ∷ others) o x = subst (λ (x : Outcome Answer). IsProper x.writes) (sym x) (proper_report _)
asm_proper source object (found.Whole bytes ∷ others) o x =
    source_proper (described bytes) o (λ image. o ≡ object_made object image) (λ image e. subst (λ (x : Outcome Answer). IsProper x.writes) (sym e) (object_proper object image)) x

listed_proper : (program : List ℕ) (o : Outcome Answer) → JudgesObject program o (λ image. o ≡ listing_made image.text) → IsProper o.writes
listed_proper program o (inl a) = subst (λ (x : Outcome Answer). IsProper x.writes) (sym a.2) (proper_report _)
listed_proper program o (inr a) = subst (λ (x : Outcome Answer). IsProper x.writes) (sym a.2) (listing_proper a.0.text)

pub dis_proper : (object : List ℕ) (loaded : List Found) (o : Outcome Answer) → DisOutcome object loaded o → IsProper o.writes
dis_proper object [] o x = absurd x
dis_proper object (found.TooLong ∷ others) o x = subst (λ (x : Outcome Answer). IsProper x.writes) (sym x) (proper_report _)
dis_proper object (found.Whole program ∷ others) o x = listed_proper program o x

-- ---- what is answered is sound

source_all : (P : Outcome Answer → Type 0) (meaning : Result Image AsmFault) (o : Outcome Answer) (N : Image → Type 0)
    → ((line : ℕ) (reason : TextWhy) → P (refused (answer.Text line reason))) → ((image : Image) → N image → P o) → JudgesSource meaning o N → P o
source_all P (Err (fault.Bad line reason)) o N bad next x = subst P (sym x) (bad line reason)
source_all P (Err fault.OutOfMemory) o N bad next x = absurd x
source_all P (Ok image) o N bad next (inl x) = subst P (sym x.1) (bad 0 why.Layout)
source_all P (Ok image) o N bad next (inr x) = next image x.1

pub asm_sound : (source object : List ℕ) (limit : ℕ) (loaded : List Found) (o : Outcome Answer) → AsmOutcome source object loaded o → IsSound (input source limit ∷ []) None o
asm_sound source object limit loaded o x =
    let files = input source limit ∷ [] in
    let P : Outcome Answer → Type 0 = IsSound files None in
    file_all P source loaded o (λ bytes _. JudgesSource (described bytes) o (λ image. o ≡ object_made object image)) (refused_sound files None (answer.TooLong source) (first_named source []))
    (λ bytes _. source_all P (described bytes) o (λ image. o ≡ object_made object image) (λ line reason. refused_sound files None (answer.Text line reason) tt)
    (λ image e. subst P (sym e) (made_sound files None _ (λ d. cc, (λ d. cc, tt))))) x

pub dis_sound : (object : List ℕ) (limit : ℕ) (loaded : List Found) (o : Outcome Answer) → DisOutcome object loaded o → IsSound (input object limit ∷ []) None o
dis_sound object limit loaded o x =
    let files = input object limit ∷ [] in
    let P : Outcome Answer → Type 0 = IsSound files None in
    file_all P object loaded o (λ program _. JudgesObject program o (λ image. o ≡ listing_made image.text)) (refused_sound files None (answer.TooLong object) (first_named object []))
    (λ program _. object_all P program o (λ image. o ≡ listing_made image.text) (λ bad. refused_sound files None (answer.Object bad.at bad.why) tt)
    (λ image e. subst P (sym e) (made_sound files None _ (pieces_lack image.text _)))) x
