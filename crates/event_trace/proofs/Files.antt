-- Looking up files that are pairs of a name and bytes.
use Rattle.std.proofs.Common.{◌≡◌, ℕ, ◌+◌, Bool, cond, not, Option, Some, None, List, [], ◌∷◌, length, map, nat_lt, slice_get, refl, ap, ◌∙◌}
use Rattle.std.specs.Prelude.{String, string_bytes, Vec, option_map, position, bytes_eq}
use Rattle.std.specs.List.{position_or_len, prefix_len}
use Rattle.std.proofs.lemmas.Option.{slice_get-map}
use Rattle.std.proofs.lemmas.List.{length-map}
use Rattle.event_trace.specs.World.{file_of, files_of, bytes_of}

pub bytes_held : {A B : Type 0} (files : List (String A × Vec ℕ B)) (place : ℕ) (found : Option (String A × Vec ℕ B)) → slice_get files place ≡ found
    → bytes_of (slice_get (files_of files) place) ≡ bytes_of (option_map file_of found)
bytes_held {A = A} {B = B} files place found e =
    let f : Option (String A × Vec ℕ B) → List ℕ = λ x. bytes_of (option_map file_of x) in
    ap bytes_of (slice_get-map file_of files place) ∙ ap f e

prefix_map : {X Y : Type 0} (q : Y → Bool) (v : X → Y) (xs : List X) → prefix_len q (map v xs) ≡ prefix_len (λ x. q (v x)) xs
prefix_map q v [] = refl
prefix_map q v (x ∷ xs) = ap (λ n. cond (q (v x)) (1 + n) 0) (prefix_map q v xs)

position_map : {X Y : Type 0} (p : Y → Bool) (v : X → Y) (xs : List X) → position p (map v xs) ≡ position (λ x. p (v x)) xs
position_map p v xs =
    let f : ℕ → ℕ → Option ℕ = λ n m. cond (nat_lt n m) (Some n) None in
    ap (λ n. f n (length (map v xs))) (prefix_map (λ y. not (p y)) v xs) ∙ ap (λ m. f (position_or_len (λ x. p (v x)) xs) m) (length-map xs v)

pub place_found : {A B : Type 0} (files : List (String A × Vec ℕ B)) (name : List ℕ) → position (λ f. bytes_eq f.name name) (files_of files) ≡ position (λ f. bytes_eq (string_bytes f.0) name) files
place_found files name = position_map (λ f. bytes_eq f.name name) file_of files
