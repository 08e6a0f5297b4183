use Rattle.std.proofs.Common.{map, sym}
use Rattle.std.specs.Prelude.{string_bytes}
use Rattle.std.proofs.lemmas.List.{length-map}
use Rattle.ecoff_load.proofs.Block.{block-laid}
use Rattle.ecoff_load.proofs.start.lay_out.Goals as goal

pub returns : goal.returns
returns c =
    block-laid c.args.big (map string_bytes c.args.args.now) _ _ _ _ _ _ _ (sym (length-map c.args.args.now string_bytes)) c.new-bytes.ensures.items c.in_ok-push_word.ensures c.in_ok-push_pointers.ensures c.in_ok-push_word-2.ensures c.in_ok-push_word-3.ensures c.in_ok-push_strings.ensures
