-- The states in which runs begin: each number fits its place, and the text stands in memory.
use Rattle.std.proofs.Common.{◌≡◌, ◌+◌, ◌*◌, ◌^◌, ◌<◌, ◌≤◌, ◌++◌, ℕ, zero, suc, Bool, true, false, List, [], ◌∷◌, length, get_or, Option, Some, None, Result, Ok, Err, refl, sym, ap, ◌∙◌, subst, arith}
use Rattle.std.specs.Prelude.{slice_index}
use Rattle.std.specs.Int.{byte_at}
use Rattle.std.specs.List.{flat_map, AllByRecursion}
use Rattle.ecoff_load.specs.declared.image.Image.{Image}
use Rattle.ecoff_load.specs.declared.image.Text.{Text}
use Rattle.ecoff_load.specs.Object.{IsImage, IsObject, IsText}
use Rattle.ecoff_load.specs.Words.{word_bytes}
use Rattle.ecoff_load.specs.Start.{ended_strings, block_words, block}
use Rattle.sim_safe.specs.State.{State, start_state}
use Rattle.checkpoint.specs.declared.fault.PointFault.{PointFault}
use Rattle.checkpoint.specs.State.{PointState}
use Rattle.checkpoint.specs.Held.{state_held, fit}
use Rattle.checkpoint.specs.Reading.{checked}
use Rattle.checkpoint.proofs.WholePoint.{is_found}
use Rattle.sim_opts.specs.Request.{CanStart}
use Rattle.answers.specs.Judging.{held_beside, held_by, state_at, IsStart}
use Rattle.answers.specs.JudgingLaws.{AreBytes}
use Rattle.restarted_run.specs.Within.{IsWithin, HoldsProgram, BringsBytes, FitsBlock}
use Rattle.restarted_commands.proofs.Below.{Below}

-- what is known of the state in which a run begins
pub record IsBegin (s : State) (of : Text) : Type 0 where
  pub within : IsWithin s
  pub program : HoldsProgram s
  pub count : s.icnt ≤ 10 ^ 15
  pub text : s.text ≡ of

-- ---- the start block

none_bytes : AreBytes []
none_bytes i = omega arith

more_bytes : (x : ℕ) (xs : List ℕ) → x < 256 → AreBytes xs → AreBytes (x ∷ xs)
more_bytes x xs h f zero = h
more_bytes x xs h f (suc i) = f i

both_bytes : (xs ys : List ℕ) → AreBytes xs → AreBytes ys → AreBytes (xs ++ ys)
both_bytes [] ys f g = g
both_bytes (x ∷ xs) ys f g = more_bytes x (xs ++ ys) (f 0) (both_bytes xs ys (λ i. f (suc i)) g)

byte_fits : (k n : ℕ) → byte_at k n < 256
byte_fits zero n = omega arith
byte_fits (suc k) n = omega arith

four_bytes : (a b c d n : ℕ) → AreBytes (byte_at a n ∷ byte_at b n ∷ byte_at c n ∷ byte_at d n ∷ [])
four_bytes a b c d n =
    more_bytes (byte_at a n) (byte_at b n ∷ byte_at c n ∷ byte_at d n ∷ []) (byte_fits a n) (more_bytes (byte_at b n) (byte_at c n ∷ byte_at d n ∷ []) (byte_fits b n)
    (more_bytes (byte_at c n) (byte_at d n ∷ []) (byte_fits c n) (more_bytes (byte_at d n) [] (byte_fits d n) none_bytes)))

word_fits : (big : Bool) (word : ℕ) → AreBytes (word_bytes big word)
word_fits true word = four_bytes 3 2 1 0 word
word_fits false word = four_bytes 0 1 2 3 word

words_fit : (big : Bool) (words : List ℕ) → AreBytes (flat_map (word_bytes big) words)
words_fit big [] = none_bytes
words_fit big (word ∷ words) = both_bytes (word_bytes big word) (flat_map (word_bytes big) words) (word_fits big word) (words_fit big words)

strings_fit : (args : List (List ℕ)) → AllByRecursion AreBytes args → AreBytes (ended_strings args)
strings_fit [] all = none_bytes
strings_fit (arg ∷ args) all = both_bytes (arg ++ 0 ∷ []) (ended_strings args) (both_bytes arg (0 ∷ []) all.0 (more_bytes 0 [] (omega arith) none_bytes)) (strings_fit args all.1)

block_fits : (image : Image) (args : List (List ℕ)) → CanStart args → AllByRecursion AreBytes args → FitsBlock image args
unfolding block
block_fits image args can all = record {
  bytes = both_bytes (flat_map (word_bytes image.text.big) (block_words args)) (ended_strings args) (words_fit image.text.big (block_words args)) (strings_fit args all);
  end = omega (arith, can image.text.big);
}

-- ---- the state of a point

-- the point that bytes are read as, which belongs to the object
record IsHeld (read : Result PointState PointFault) (of : Text) (s : State) : Type 0 where
  pub point : PointState
  pub is : read ≡ Ok point
  pub fits : fit point of ≡ Ok tt
  pub state : state_held point of ≡ s

held_beside_is : (checks : Result (Unit {0}) PointFault) (p : PointState) (text : Text) (s : State) → fit p text ≡ checks → held_beside checks p text ≡ Ok s → IsHeld (Ok p) text s
held_beside_is (Err e) p text s is h = absurd cc
held_beside_is (Ok x) p text s is h = record { point = p; is = refl; fits = is; state = cc }

held_is : (read : Result PointState PointFault) (text : Text) (s : State) → held_by read text ≡ Ok s → IsHeld read text s
held_is (Err e) text s h = absurd cc
held_is (Ok p) text s h = held_beside_is (fit p text) p text s refl h

pub restored_begin : Below → (bytes : List ℕ) (text : Text) (s : State) → AreBytes bytes → IsText text → state_at bytes text ≡ Ok s → IsBegin s text
restored_begin below bytes text s fits is h =
    let q = held_is (checked bytes) text s h in
    let p = q.point in
    let point = is_found bytes (Ok p) fits q.is in
    subst (λ (x : State). IsBegin x text) q.state (record {
      within = below.within_restored bytes p text fits q.is;
      program = below.program_restored p text is q.fits;
      count = point.0.icnt;
      text = refl;
    })

-- ---- the start of a program

pub started_begin : Below → (image : Image) (args : List (List ℕ)) → IsImage image → BringsBytes image → CanStart args → AllByRecursion AreBytes args → IsBegin (start_state image args) image.text
unfolding start_state
started_begin below image args is brings can all = record {
  within = below.within_start image args is brings (block_fits image args can all);
  program = below.program_start image args is;
  count = omega arith;
  text = refl;
}

-- ---- either

-- a file that may be loaded has bytes
abbrev pub BytesIn : Option (List ℕ) → Type 0
BytesIn None = Unit {0}
BytesIn (Some bytes) = AreBytes bytes

-- a run can begin from a program's start with these arguments, or from a point
abbrev pub CanBeginAt : List (List ℕ) → Option (List ℕ) → Type 0
CanBeginAt args None = CanStart args
CanBeginAt args (Some bytes) = AreBytes bytes

pub begins_so : Below → (program : List ℕ) (point : Option (List ℕ)) (image : Image) (args : List (List ℕ)) (s : State) → AreBytes program → IsObject program image → CanBeginAt args point → AllByRecursion AreBytes args → IsStart point image args s → IsBegin s image.text
begins_so below program None image args s bytes is can all start =
    subst (λ (x : State). IsBegin x image.text) (sym start) (started_begin below image args is.limits (below.image_bytes program image bytes is) can all)
begins_so below program (Some own) image args s bytes is can all start = restored_begin below own image.text s can is.limits.text start
