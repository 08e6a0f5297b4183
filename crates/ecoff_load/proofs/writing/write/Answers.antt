use Rattle.std.proofs.Common.{◌≡◌, List, ℕ, length, ap, subst, sym, ◌∙◌}
use Rattle.ecoff_load.specs.Object.{IsObject}
use Rattle.ecoff_load.specs.Layout.{object_bytes}
use Rattle.ecoff_load.proofs.Written.{object_laid}
use Rattle.ecoff_load.proofs.RoundTrip.{written_is_object, length-object_bytes}
use Rattle.ecoff_load.proofs.writing.write.Goals as goal

pub returns : goal.returns
returns c =
    let image = c.args.image.now in
    let same : c.put_contents.new.bytes.items ≡ object_bytes image = object_laid image _ _ _ _ _ _ c.new-bytes.ensures.items c.as_slice.ensures c.as_slice-2.ensures c.in_ok-put_headers.ensures c.in_ok-extend_from_slice.ensures.items c.in_ok-put_contents.ensures in
    record {
      object = subst (λ (l : List ℕ). IsObject l image) (sym same) (written_is_object image c.requires.image c.requires.length);
      layout = same;
      length = ap length same ∙ length-object_bytes image c.requires.image c.requires.length;
    }
