-- Files that are loaded one after the other.
use Rattle.std.proofs.Common.{◌≡◌, ℕ, ◌+◌, ◌≤◌, ◌<◌, List, [], ◌∷◌, ◌++◌, length, Some, Ok, refl, sym, ap, ◌∙◌, subst, arith, take, drop, get_or, suc, Bor, drop-cons, take_all, append_assoc}
use Rattle.std.specs.Prelude.{map, Vec, String}
use Rattle.std.proofs.lemmas.List.{length-map, map-append, get_or-map, take_more, take-append-drop, length-take-le}
use Rattle.journal.specs.declared.fault.Fault.{Fault}
use Rattle.journal.specs.declared.loading.Found.{Found}
use Rattle.journal.specs.declared.loading.Found.TheVariants as found
use Rattle.journal.specs.View.{View, Wrote}
use Rattle.journal.specs.Load.{Input, input, inputs, IsFound, AreFound, GaveUpLoading, found_of, name_of, IsFirstLong, FindsOpened, FoundAll, FoundLong}
use Rattle.journal.specs.Laws.{wrote_none}
use Rattle.journal.specs.Loading.{are_append, is_found_after, found_in, are_there, wrote_after, loading_before, loading_whole}

-- the file at a place of a list of names
pub place_within : (names : List (Bor (List ℕ))) (limit k : ℕ) → k < length names → k < length (inputs (map (λ n. n.now) names) limit)
place_within names limit k l =
    let e : length (map (λ (n : Bor (List ℕ)). n.now) names) ≡ length names = length-map names (λ (n : Bor (List ℕ)). n.now) in
    let f : length (inputs (map (λ n. n.now) names) limit) ≡ length (map (λ n. n.now) names) = length-map (map (λ n. n.now) names) (λ name. input name limit) in
    omega (arith, e, f)

pub input_at : (names : List (Bor (List ℕ))) (limit k : ℕ) (d : Bor (List ℕ)) → k < length names → input (get_or names k d).now limit ≡ get_or (inputs (map (λ n. n.now) names) limit) k (input [] limit)
input_at names limit k d l =
    let e : length (map (λ (n : Bor (List ℕ)). n.now) names) ≡ length names = length-map names (λ (n : Bor (List ℕ)). n.now) in
    ap (λ (x : List ℕ). input x limit) (sym (get_or-map (λ (n : Bor (List ℕ)). n.now) names k d [] l))
    ∙ sym (get_or-map (λ (x : List ℕ). input x limit) (map (λ n. n.now) names) k [] (input [] limit) (omega (arith, e)))

-- all places of a list
pub all_places : (names : List (Bor (List ℕ))) (limit k : ℕ) → length names ≤ k → take k (inputs (map (λ n. n.now) names) limit) ≡ inputs (map (λ n. n.now) names) limit
all_places names limit k l =
    let e : length (map (λ (n : Bor (List ℕ)). n.now) names) ≡ length names = length-map names (λ (n : Bor (List ℕ)). n.now) in
    let f : length (inputs (map (λ n. n.now) names) limit) ≡ length (map (λ n. n.now) names) = length-map (map (λ n. n.now) names) (λ name. input name limit) in
    take_all k (inputs (map (λ n. n.now) names) limit) (omega (arith, e, f))

-- a list is what stands before a place, at it and behind it
split_at : (is : List Input) (k : ℕ) (i : Input) (d : Input) → k < length is → i ≡ get_or is k d → take k is ++ i ∷ drop (suc k) is ≡ is
split_at is k i d l e = ap (λ y. take k is ++ y ∷ drop (suc k) is) e ∙ ap (λ y. take k is ++ y) (sym (drop-cons is k d l)) ∙ take-append-drop k is

-- ---- the files before a place

pub none_found : {O A B : Type 0} (v : View O) (a : O) (is : List Input) (files : List (String A × Vec ℕ B)) → files ≡ [] → FoundAll v a (take 0 is) a files
none_found {O} {A} {B} v a is files e = subst (λ (x : List (String A × Vec ℕ B)). FoundAll v a [] a x) (sym e) (record { wrote = wrote_none v a; names = refl; are = tt })

more_found : {O A B : Type 0} (v : View O) (a b c : O) (is : List Input) (i : Input) (files : List (String A × Vec ℕ B)) (file : String A × Vec ℕ B)
    → FoundAll v a is b files → FindsOpened v b i c (Ok (Some file)) → FoundAll v a (is ++ i ∷ []) c (files ++ file ∷ [])
more_found v a b c is i files file p q = record {
  wrote = wrote_after v a b c [] p.wrote q.0;
  names = map-append name_of files (file ∷ []) ∙ ap (λ x. x ++ name_of file ∷ []) p.names ∙ ap (λ x. map (λ j. j.name) is ++ x ∷ []) q.1 ∙ sym (map-append (λ j. j.name) is (i ∷ []));
  are = subst (λ x. AreFound (v.tells a) (v.files a) (is ++ i ∷ []) x) (sym (map-append found_of files (file ∷ [])))
      (are_append (v.tells a) (v.files a) is (i ∷ []) (map found_of files) (found_of file ∷ []) p.are
      (is_found_after (v.tells a) (v.tells b) (v.files a) (v.files b) i (found_of file) p.wrote.holds.stays.tells p.wrote.holds.files q.2, tt));
}

pub next_found : {O A B : Type 0} (v : View O) (a b c : O) (is : List Input) (k : ℕ) (i d : Input) (files new : List (String A × Vec ℕ B)) (file : String A × Vec ℕ B)
    → k < length is → i ≡ get_or is k d → new ≡ files ++ file ∷ [] → FoundAll v a (take k is) b files → FindsOpened v b i c (Ok (Some file)) → FoundAll v a (take (k + 1) is) c new
next_found {O} {A} {B} v a b c is k i d files new file l e n p q =
    subst (λ (x : List (String A × Vec ℕ B)). FoundAll v a (take (k + 1) is) c x) (sym n)
    (subst (λ x. FoundAll v a x c (files ++ file ∷ [])) (ap (λ x. take k is ++ x ∷ []) e ∙ sym (take_more is k d l)) (more_found v a b c (take k is) i files file p q))

-- ---- where it ends early

whole_then : {A B : Type 0} (files : List (String A × Vec ℕ B)) (rest : List Found) → IsFirstLong (map found_of files ++ found.TooLong ∷ rest) (length files)
whole_then [] rest = tt
whole_then (f ∷ files) rest = whole_then files rest

count_of : {O A B : Type 0} (v : View O) (a b : O) (is : List Input) (k : ℕ) (files : List (String A × Vec ℕ B)) → k < length is → FoundAll v a (take k is) b files → length files ≡ k
count_of v a b is k files l p =
    sym (length-map files name_of) ∙ ap length p.names ∙ length-map (take k is) (λ i. i.name) ∙ length-take-le k is (omega arith)

pub long_found : {O A B : Type 0} (v : View O) (a b c : O) (is : List Input) (k : ℕ) (i d : Input) (files : List (String A × Vec ℕ B)) → k < length is → i ≡ get_or is k d
    → FoundAll v a (take k is) b files → Wrote v b [] c → IsFound (v.tells b) (v.files b) i found.TooLong → FoundLong v a is c k
long_found v a b c is k i d files l e p w q =
    let behind = drop (suc k) is in
    let rest = map (found_in (v.files a)) behind in
    record {
      wrote = wrote_after v a b c [] p.wrote w;
      within = l;
      found = map found_of files ++ found.TooLong ∷ rest;
      are = subst (λ x. AreFound (v.tells a) (v.files a) x (map found_of files ++ found.TooLong ∷ rest)) (split_at is k i d l e)
          (are_append (v.tells a) (v.files a) (take k is) (i ∷ behind) (map found_of files) (found.TooLong ∷ rest) p.are
          (is_found_after (v.tells a) (v.tells b) (v.files a) (v.files b) i found.TooLong p.wrote.holds.stays.tells p.wrote.holds.files q, are_there (v.tells a) (v.files a) behind));
      long = subst (λ x. IsFirstLong (map found_of files ++ found.TooLong ∷ rest) x) (count_of v a b is k files l p) (whole_then files rest);
    }

pub gave_up_found : {O A B : Type 0} (v : View O) (a b c : O) (is : List Input) (k : ℕ) (i d : Input) (files : List (String A × Vec ℕ B)) (f : Fault) → k < length is → i ≡ get_or is k d
    → FoundAll v a (take k is) b files → GaveUpLoading v b (i ∷ []) f c → GaveUpLoading v a is f c
gave_up_found v a b c is k i d files f l e p q =
    let behind = drop (suc k) is in
    let z : (take k is ++ i ∷ []) ++ behind ≡ is = append_assoc (take k is) (i ∷ []) behind ∙ split_at is k i d l e in
    subst (λ x. GaveUpLoading v a x f c) z (loading_before v a c (take k is ++ i ∷ []) behind f (loading_whole v a b c (take k is) (i ∷ []) files f p q))
