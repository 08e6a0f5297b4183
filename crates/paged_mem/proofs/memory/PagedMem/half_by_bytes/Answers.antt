use Rattle.std.proofs.Common.{◌≡◌, [], ◌∷◌, refl, ◌∙◌}
use Rattle.std.specs.Int.{w16, to_le_bytes}
use Rattle.std.proofs.lemmas.Nat.{le_bytes_2}
use Rattle.paged_mem.proofs.Bytes.{two_below}
use Rattle.paged_mem.proofs.memory.PagedMem.half_by_bytes.Goals as goal

pub returns : goal.returns
returns c =
    let bytes : to_le_bytes w16 c.from_le_bytes.result ≡ c.byte.result ∷ c.byte-2.result ∷ [] =
    le_bytes_2 _ _ refl (two_below _ _ c.byte.type_inv c.byte-2.type_inv) c.from_le_bytes.ensures in
    bytes ∙ rw (c.byte.ensures, c.byte-2.ensures) refl
