use Rattle.mem_hier.proofs.caches.new_level.Goals as goal

pub new-requires : goal.new-requires
new-requires c = c.requires.fits _ c.in-Some.is
