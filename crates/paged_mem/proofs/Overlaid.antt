-- Bytes by address after a write.
use Rattle.std.proofs.Common.{◌≡◌, ℕ, ◌+◌, ◌-◌, ◌<◌, ◌≤◌, ◌⊎◌, List, ◌++◌, length, slice_index, take, drop, refl, sym, ◌∙◌, ap, inl, inr, arith, length-append, length-drop}
use mathlib.Core.Path.{fun_ext}
use Rattle.std.proofs.lemmas.Bool.{cases_lt, lt-ltb, le-ltb}
use Rattle.std.proofs.lemmas.List.{get_or_append_left, get_or-append_right, get_or-append-add, get_or-take, get_or-drop, length-take-le}
use borrow.Rule.Slice.PartMut.{put_mid, post_of}
use Rattle.paged_mem.specs.Memory.{overlaid}

-- before the written range
pub overlaid-before : (f : ℕ → ℕ) (at : ℕ) (bytes : List ℕ) (a : ℕ) → a < at → overlaid f at bytes a ≡ f a
overlaid-before f at bytes a h = rw (lt-ltb a at h) refl

-- in it
pub overlaid-in : (f : ℕ → ℕ) (at : ℕ) (bytes : List ℕ) (a : ℕ) → at ≤ a → a < at + length bytes → overlaid f at bytes a ≡ slice_index bytes (a - at)
overlaid-in f at bytes a h k = rw (le-ltb a at h, lt-ltb a (at + length bytes) k) refl

-- past it
pub overlaid-past : (f : ℕ → ℕ) (at : ℕ) (bytes : List ℕ) (a : ℕ) → at + length bytes ≤ a → overlaid f at bytes a ≡ f a
overlaid-past f at bytes a h = rw (le-ltb a at (omega arith), le-ltb a (at + length bytes) h) refl

-- where an address lies: before a range, in it or past it
pub where_lies : (at n a : ℕ) → (a < at) ⊎ (((at ≤ a) × (a < at + n)) ⊎ (at + n ≤ a))
where_lies at n a = first (cases_lt a at)
  where
    second : at ≤ a → (a < at + n) ⊎ (at + n ≤ a) → (a < at) ⊎ (((at ≤ a) × (a < at + n)) ⊎ (at + n ≤ a))
    second h (inl k) = inr (inl (h, k))
    second h (inr k) = inr (inr k)

    first : (a < at) ⊎ (at ≤ a) → (a < at) ⊎ (((at ≤ a) × (a < at + n)) ⊎ (at + n ≤ a))
    first (inl h) = inl h
    first (inr h) = second h (cases_lt a (at + n))

-- nothing written changes nothing
pub overlaid-none : (f : ℕ → ℕ) (at : ℕ) (bytes : List ℕ) → length bytes ≡ 0 → overlaid f at bytes ≡ f
overlaid-none f at bytes e = fun_ext (λ a. each a (where_lies at (length bytes) a))
  where
    each : (a : ℕ) → (a < at) ⊎ (((at ≤ a) × (a < at + length bytes)) ⊎ (at + length bytes ≤ a)) → overlaid f at bytes a ≡ f a
    each a (inl h) = overlaid-before f at bytes a h
    each a (inr (inl h)) = absurd (omega (arith, h.0, h.1))
    each a (inr (inr h)) = overlaid-past f at bytes a h

-- bytes that are written in two parts, one after the other
pub overlaid-append : (f : ℕ → ℕ) (at : ℕ) (xs ys : List ℕ) → overlaid (overlaid f at xs) (at + length xs) ys ≡ overlaid f at (xs ++ ys)
overlaid-append f at xs ys = fun_ext (λ a. each a (where_lies at (length xs) a))
  where
    later : (a : ℕ) → at + length xs ≤ a → (a < at + length xs + length ys) ⊎ (at + length xs + length ys ≤ a) → overlaid (overlaid f at xs) (at + length xs) ys a ≡ overlaid f at (xs ++ ys) a
    later a h (inl k) =
        let whole : a < at + length (xs ++ ys) = omega (arith, length-append xs ys) in
        let place : a - at ≡ length xs + (a - (at + length xs)) = omega arith in
        overlaid-in (overlaid f at xs) (at + length xs) ys a h k
        ∙ sym (overlaid-in f at (xs ++ ys) a (omega arith) whole ∙ ap (slice_index (xs ++ ys)) place ∙ get_or-append-add xs ys (a - (at + length xs)) 0)
    later a h (inr k) =
        let past : at + length (xs ++ ys) ≤ a = omega (arith, length-append xs ys) in
        overlaid-past (overlaid f at xs) (at + length xs) ys a k
        ∙ overlaid-past f at xs a h
        ∙ sym (overlaid-past f at (xs ++ ys) a past)

    each : (a : ℕ) → (a < at) ⊎ (((at ≤ a) × (a < at + length xs)) ⊎ (at + length xs ≤ a)) → overlaid (overlaid f at xs) (at + length xs) ys a ≡ overlaid f at (xs ++ ys) a
    each a (inl h) =
        overlaid-before (overlaid f at xs) (at + length xs) ys a (omega arith)
        ∙ overlaid-before f at xs a h
        ∙ sym (overlaid-before f at (xs ++ ys) a h)
    each a (inr (inl h)) =
        let low : at ≤ a = h.0 in
        let high : a < at + length xs = h.1 in
        let whole : a < at + length (xs ++ ys) = omega (arith, length-append xs ys) in
        overlaid-before (overlaid f at xs) (at + length xs) ys a high
        ∙ overlaid-in f at xs a low high
        ∙ sym (overlaid-in f at (xs ++ ys) a low whole ∙ get_or_append_left xs ys 0 (a - at) (omega arith))
    each a (inr (inr h)) = later a h (cases_lt a (at + length xs + length ys))

-- the same write seen from another origin
pub overlaid-moved : (f g : ℕ → ℕ) (by at : ℕ) (bytes : List ℕ) (k : ℕ) → f k ≡ g (by + k) → overlaid f at bytes k ≡ overlaid g (by + at) bytes (by + k)
overlaid-moved f g by at bytes k e = each (where_lies at (length bytes) k)
  where
    each : (k < at) ⊎ (((at ≤ k) × (k < at + length bytes)) ⊎ (at + length bytes ≤ k)) → overlaid f at bytes k ≡ overlaid g (by + at) bytes (by + k)
    each (inl h) = overlaid-before f at bytes k h ∙ e ∙ sym (overlaid-before g (by + at) bytes (by + k) (omega arith))
    each (inr (inl h)) =
        let low : at ≤ k = h.0 in
        let high : k < at + length bytes = h.1 in
        let place : k - at ≡ by + k - (by + at) = omega arith in
        overlaid-in f at bytes k low high ∙ ap (slice_index bytes) place
        ∙ sym (overlaid-in g (by + at) bytes (by + k) (omega arith) (omega arith))
    each (inr (inr h)) = overlaid-past f at bytes k h ∙ e ∙ sym (overlaid-past g (by + at) bytes (by + k) (omega arith))

-- bytes that replace a part of a page
pub overlaid-put_mid : (page bytes : List ℕ) (offset k : ℕ) → offset + length bytes ≤ length page → slice_index (put_mid offset (length bytes) page bytes) k ≡ overlaid (slice_index page) offset bytes k
overlaid-put_mid page bytes offset k fits = each (where_lies offset (length bytes) k)
  where
    post : List ℕ
    post = post_of offset (length bytes) page

    front : length (take offset page) ≡ offset
    front = length-take-le offset page (omega arith)

    each : (k < offset) ⊎ (((offset ≤ k) × (k < offset + length bytes)) ⊎ (offset + length bytes ≤ k)) → slice_index (put_mid offset (length bytes) page bytes) k ≡ overlaid (slice_index page) offset bytes k
    each (inl h) =
        get_or_append_left (take offset page) (bytes ++ post) 0 k (omega (arith, front))
        ∙ get_or-take offset page k 0 h
        ∙ sym (overlaid-before (slice_index page) offset bytes k h)
    each (inr (inl h)) =
        get_or-append_right (take offset page) (bytes ++ post) offset k 0 front h.0
        ∙ get_or_append_left bytes post 0 (k - offset) (omega (arith, h.0, h.1))
        ∙ sym (overlaid-in (slice_index page) offset bytes k h.0 h.1)
    each (inr (inr h)) =
        let place : offset + (length bytes + (k - offset - length bytes)) ≡ k = omega arith in
        get_or-append_right (take offset page) (bytes ++ post) offset k 0 front (omega arith)
        ∙ get_or-append_right bytes post (length bytes) (k - offset) 0 refl (omega arith)
        ∙ get_or-drop (length bytes) (drop offset page) (k - offset - length bytes) 0
        ∙ get_or-drop offset page (length bytes + (k - offset - length bytes)) 0
        ∙ ap (slice_index page) place
        ∙ sym (overlaid-past (slice_index page) offset bytes k h)

pub length-put_mid : (page bytes : List ℕ) (offset : ℕ) → offset + length bytes ≤ length page → length (put_mid offset (length bytes) page bytes) ≡ length page
length-put_mid page bytes offset fits =
    let front : length (take offset page) ≡ offset = length-take-le offset page (omega arith) in
    let back : length (drop (length bytes) (drop offset page)) ≡ length page - offset - length bytes = length-drop (length bytes) (drop offset page) ∙ ap (λ n. n - length bytes) (length-drop offset page) in
    let whole : length (put_mid offset (length bytes) page bytes) ≡ length (take offset page) + length (bytes ++ drop (length bytes) (drop offset page)) = length-append (take offset page) (bytes ++ drop (length bytes) (drop offset page)) in
    omega (arith, front, back, whole, length-append bytes (drop (length bytes) (drop offset page)))
