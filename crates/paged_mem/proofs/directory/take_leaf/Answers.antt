-- A leaf without a reserved page has no more pages than one that was never taken.
use Rattle.std.proofs.Common.{◌≡◌, [], ◌∙◌, ap, sym, get_or, set}
use Rattle.std.proofs.lemmas.List.{get_or_read}
use Rattle.paged_mem.specs.Directory.{pages_of}
use Rattle.paged_mem.proofs.Taking.{shaped-new_leaf, pages_of-new_leaf}
use Rattle.paged_mem.proofs.directory.take_leaf.Goals as goal

pub returns-in_ok-leaf-clause-shaped : goal.returns-in_ok-leaf-clause-shaped
returns-in_ok-leaf-clause-shaped c = shaped-new_leaf _ _ _ c.requires.shaped c.requires.at c.in_ok-leaf.ensures

pub returns-in_ok-leaf-clause-pages : goal.returns-in_ok-leaf-clause-pages
returns-in_ok-leaf-clause-pages c =
    let here : c.index.result.now ≡ get_or c.args.leaves.now.items c.args.at [] = get_or_read c.args.leaves.now.items c.args.at _ c.requires.at c.index.ensures [] in
    let absent : get_or c.args.leaves.now.items c.args.at [] ≡ [] = sym here ∙ c.if-is_absent.ensures in
    ap (λ leaf. pages_of (set c.args.leaves.now.items c.args.at leaf)) c.in_ok-leaf.ensures ∙ pages_of-new_leaf c.args.leaves.now.items c.args.at 1024 absent
