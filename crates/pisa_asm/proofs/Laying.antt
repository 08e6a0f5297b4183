-- The parts of an image, laid from the last section on.
use Rattle.std.proofs.Common.{◌≡◌, ◌++◌, List, [], ◌∷◌, Option, None, refl, ap}
use Rattle.ecoff_load.specs.declared.image.Part.{Part}
use Rattle.ecoff_load.specs.declared.image.Text.{Text}
use Rattle.pisa_asm.specs.declared.sheet.Piece.{Piece}
use Rattle.pisa_asm.specs.Passes.{kind_of, part_onto, parts_in, text_in, text_or}

-- sections in front of a text, and in front of parts
abbrev pub text_from : List Piece → Option Text → Option Text
text_from [] later = later
text_from (p ∷ ps) later = text_or (kind_of p.section) p (text_from ps later)

abbrev pub parts_from : List Piece → List Part → List Part
parts_from [] later = later
parts_from (p ∷ ps) later = part_onto (kind_of p.section) p (parts_from ps later)

pub text_last : (ps : List Piece) (p : Piece) (later : Option Text) → text_from (ps ++ p ∷ []) later ≡ text_from ps (text_or (kind_of p.section) p later)
text_last [] p later = refl
text_last (q ∷ ps) p later = ap (text_or (kind_of q.section) q) (text_last ps p later)

pub parts_last : (ps : List Piece) (p : Piece) (later : List Part) → parts_from (ps ++ p ∷ []) later ≡ parts_from ps (part_onto (kind_of p.section) p later)
parts_last [] p later = refl
parts_last (q ∷ ps) p later = ap (part_onto (kind_of q.section) q) (parts_last ps p later)

pub text_whole : (ps : List Piece) → text_from ps None ≡ text_in ps
text_whole [] = refl
text_whole (p ∷ ps) = ap (text_or (kind_of p.section) p) (text_whole ps)

pub parts_whole : (ps : List Piece) → parts_from ps [] ≡ parts_in ps
parts_whole [] = refl
parts_whole (p ∷ ps) = ap (part_onto (kind_of p.section) p) (parts_whole ps)
