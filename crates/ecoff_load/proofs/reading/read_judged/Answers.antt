use Rattle.std.proofs.Common.{◌∙◌}
use Rattle.ecoff_load.proofs.Described.{text_in_file, parts_in_file, image_is}
use Rattle.ecoff_load.proofs.reading.read_judged.Goals as goal

pub copy-requires : goal.copy-requires
copy-requires c =
    let h = c.in_ok-headers.ensures in
    text_in_file c.args.bytes.now c.in_ok-headers.headers.big c.in_ok-headers.headers.text h.0 h.1.0 h.1.3

pub copy_parts-requires-clause-in_file : goal.copy_parts-requires-clause-in_file
copy_parts-requires-clause-in_file c =
    let h = c.in_ok-headers.ensures in
    parts_in_file c.args.bytes.now c.in_ok-headers.headers.big c.in_ok-headers.headers.count h.0 h.1.0 h.1.1

pub returns : goal.returns
returns c =
    let h = c.in_ok-headers.ensures in
    image_is c.args.bytes.now c.in_ok-headers.headers.big c.in_ok-headers.headers.count c.in_ok-headers.headers.text _ _ _ h.0 h.1.0 h.1.1 h.1.3 c.get_word.ensures (c.from_vec.ensures ∙ c.in_ok-text.ensures) (c.from_vec-2.ensures ∙ c.in_ok-parts.ensures)
