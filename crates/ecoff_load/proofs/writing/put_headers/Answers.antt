use Rattle.std.proofs.Common.{refl}
use Rattle.ecoff_load.proofs.Written.{headers_laid}
use Rattle.ecoff_load.proofs.writing.put_headers.Goals as goal

pub returns : goal.returns
returns c =
    headers_laid c.args.image.now _ _ _ _ _ _ _ _ _ c.as_slice.ensures c.as_slice-parts.ensures refl c.headers_length-pointer.ensures c.in_ok-put_file_header.ensures c.in_ok-put_optional_header.ensures c.in_ok-put_section_header.ensures c.in_ok-put_part_headers.ensures
