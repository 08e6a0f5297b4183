-- The search for the next page with a byte other than 0, leaf by leaf.
use Rattle.std.proofs.Common.{◌≡◌, ℕ, ◌+◌, ◌-◌, ◌*◌, ◌/◌, ◌%◌, ◌^◌, ◌<◌, ◌≤◌, ◌⊎◌, List, [], length, get_or, slice_index, refl, sym, ◌∙◌, ap, inl, inr, arith}
use Rattle.std.proofs.lemmas.Bool.{cases_lt}
use Rattle.std.proofs.lemmas.List.{get_or_past}
use Rattle.paged_mem.specs.Memory.{byte_of, IsZeroPage, HasByte}
use Rattle.paged_mem.specs.Directory.{Directory, bytes_of, pages_of, IsShaped, IsZeroBetween}
use Rattle.paged_mem.proofs.Entries.{at_most, in_leaf, leaf_taken, page_size, byte_of-pages_of}

-- no page lies before the first leaf that is looked at
pub zero_start : (leaves : Directory) (from : ℕ) → IsZeroBetween leaves from (1024 * (from / 1024))
zero_start leaves from n k low high = absurd (omega arith)

-- a leaf whose pages are zero as far as a place
pub zero_next : (leaves : Directory) (from at : ℕ) (leaf : List (List ℕ)) (place : ℕ) → IsZeroBetween leaves from (1024 * at) → leaf ≡ get_or leaves at [] → place ≤ 1024 → ((j k : ℕ) → from - 1024 * at ≤ j → j < place → slice_index (get_or leaf j []) k ≡ 0) → IsZeroBetween leaves from (1024 * at + place)
zero_next leaves from at leaf place zero found size zeros n k low high = each (cases_lt n (1024 * at))
  where
    each : (n < 1024 * at) ⊎ (1024 * at ≤ n) → slice_index (bytes_of leaves n) k ≡ 0
    each (inl before) = zero n k low before
    each (inr here) =
        let same : n / 1024 ≡ at = omega arith in
        let pages : get_or leaves (n / 1024) [] ≡ leaf = ap (λ i. get_or leaves i []) same ∙ sym found in
        ap (λ pages. slice_index (get_or pages (n % 1024) []) k) pages ∙ zeros (n % 1024) k (omega arith) (omega arith)

pub zero_leaf : (leaves : Directory) (from at : ℕ) (leaf : List (List ℕ)) → IsZeroBetween leaves from (1024 * at) → leaf ≡ get_or leaves at [] → ((j k : ℕ) → from - 1024 * at ≤ j → slice_index (get_or leaf j []) k ≡ 0) → IsZeroBetween leaves from (1024 * (at + 1))
zero_leaf leaves from at leaf zero found zeros n k low high =
    zero_next leaves from at leaf 1024 zero found (omega arith) (λ j i start _. zeros j i start) n k low (omega arith)

-- the page at a place of a leaf
pub bytes_of-place : (leaves : Directory) → IsShaped leaves → (at : ℕ) (leaf : List (List ℕ)) (place k : ℕ) → leaf ≡ get_or leaves at [] → k < length (get_or leaf place []) → (place < 1024) × (bytes_of leaves (1024 * at + place) ≡ get_or leaf place [])
bytes_of-place leaves shaped at leaf place k found some =
    let inside : place < length leaf = in_leaf leaf place (omega arith) in
    let size : length leaf ≤ 1024 = rw found (at_most 1024 (get_or leaves at []) (shaped.leaf at)) in
    let low : place < 1024 = omega arith in
    let same : (1024 * at + place) / 1024 ≡ at = omega arith in
    let here : (1024 * at + place) % 1024 ≡ place = omega arith in
    (low, rw (same, here, found) refl)

-- pages that are zero
pub zero_page_between : (leaves : Directory) → IsShaped leaves → (from end n : ℕ) → IsZeroBetween leaves from end → from ≤ n → n < end → IsZeroPage (pages_of leaves) n
zero_page_between leaves shaped from end n zero low high a lies =
    byte_of-pages_of leaves shaped a ∙ ap (λ q. slice_index (bytes_of leaves q) (a % 4096)) lies ∙ zero n (a % 4096) low high

pub zero_page_past : (leaves : Directory) → IsShaped leaves → (from n : ℕ) → IsZeroBetween leaves from (1024 * length leaves) → from ≤ n → IsZeroPage (pages_of leaves) n
zero_page_past leaves shaped from n zero low = each (cases_lt n (1024 * length leaves))
  where
    each : (n < 1024 * length leaves) ⊎ (1024 * length leaves ≤ n) → IsZeroPage (pages_of leaves) n
    each (inl h) = zero_page_between leaves shaped from (1024 * length leaves) n zero low h
    each (inr h) = λ a lies.
        let past : get_or leaves (n / 1024) [] ≡ [] = get_or_past leaves (n / 1024) [] (omega arith) in
        byte_of-pages_of leaves shaped a ∙ ap (λ q. slice_index (bytes_of leaves q) (a % 4096)) lies ∙ ap (λ pages. slice_index (get_or pages (n % 1024) []) (a % 4096)) past

-- a page with a byte other than 0
pub has_byte : (leaves : Directory) → IsShaped leaves → (n k : ℕ) → k < length (bytes_of leaves n) → (slice_index (bytes_of leaves n) k ≡ 0 → ⊥) → (n < 2 ^ 20) × HasByte (pages_of leaves) n
has_byte leaves shaped n k some byte =
    let leaf : n / 1024 < length leaves = (leaf_taken leaves n (omega arith)).0 in
    let size : length (bytes_of leaves n) ≡ 4096 = page_size leaves shaped n (omega arith) in
    let page : (4096 * n + k) / 4096 ≡ n = omega arith in
    let offset : (4096 * n + k) % 4096 ≡ k = omega arith in
    let same : byte_of (pages_of leaves) (4096 * n + k) ≡ slice_index (bytes_of leaves n) k = byte_of-pages_of leaves shaped (4096 * n + k) ∙ rw (page, offset) refl in
    (omega (arith, at_most 1024 leaves shaped.directory), (4096 * n + k, page, λ e. byte (sym same ∙ e)))

-- one more page of a leaf that is zero
pub zero_place : (pages : List (List ℕ)) (from place : ℕ) (page : List ℕ) → ((j k : ℕ) → from ≤ j → j < place → slice_index (get_or pages j []) k ≡ 0) → page ≡ get_or pages place [] → ((k : ℕ) → slice_index page k ≡ 0) → (j k : ℕ) → from ≤ j → j < place + 1 → slice_index (get_or pages j []) k ≡ 0
zero_place pages from place page zero found zeros j k low high = each (cases_lt j place)
  where
    each : (j < place) ⊎ (place ≤ j) → slice_index (get_or pages j []) k ≡ 0
    each (inl before) = zero j k low before
    each (inr here) =
        let same : j ≡ place = omega arith in
        ap (λ i. slice_index (get_or pages i []) k) same ∙ ap (λ bytes. slice_index bytes k) (sym found) ∙ zeros k

pub zero_rest : (pages : List (List ℕ)) (from place : ℕ) → ((j k : ℕ) → from ≤ j → j < place → slice_index (get_or pages j []) k ≡ 0) → length pages ≤ place → (j k : ℕ) → from ≤ j → slice_index (get_or pages j []) k ≡ 0
zero_rest pages from place zero end j k low = each (cases_lt j place)
  where
    each : (j < place) ⊎ (place ≤ j) → slice_index (get_or pages j []) k ≡ 0
    each (inl before) = zero j k low before
    each (inr past) = ap (λ bytes. slice_index bytes k) (get_or_past pages j [] (omega arith))
