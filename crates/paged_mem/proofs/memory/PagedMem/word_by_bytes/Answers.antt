use Rattle.std.proofs.Common.{◌≡◌, [], ◌∷◌, refl, ◌∙◌}
use Rattle.std.specs.Int.{w32, to_le_bytes}
use Rattle.std.proofs.lemmas.Nat.{le_bytes_4}
use Rattle.paged_mem.proofs.Bytes.{four_below}
use Rattle.paged_mem.proofs.memory.PagedMem.word_by_bytes.Goals as goal

pub returns : goal.returns
returns c =
    let bytes : to_le_bytes w32 c.from_le_bytes.result ≡ c.byte.result ∷ c.byte-2.result ∷ c.byte-3.result ∷ c.byte-4.result ∷ [] =
    le_bytes_4 _ _ refl (four_below _ _ _ _ c.byte.type_inv c.byte-2.type_inv c.byte-3.type_inv c.byte-4.type_inv) c.from_le_bytes.ensures in
    bytes ∙ rw (c.byte.ensures, c.byte-2.ensures, c.byte-3.ensures, c.byte-4.ensures) refl
