use Rattle.std.proofs.Common.{refl}
use Rattle.fu_pool.proofs.Stands.{free_stands}
use Rattle.fu_pool.proofs.pools.Pools.is_free.Goals as goal

pub returns-in-Alu-clause-takes : goal.returns-in-Alu-clause-takes
returns-in-Alu-clause-takes c = free_stands _ _ _ _ _ (rw (c.in-Alu.is, ← c.self.view_is) refl) c.requires c.is_free.ensures

pub returns-in-Mult-clause-takes : goal.returns-in-Mult-clause-takes
returns-in-Mult-clause-takes c = free_stands _ _ _ _ _ (rw (c.in-Mult.is, ← c.self.view_is) refl) c.requires c.is_free-in-Mult.ensures

pub returns-in-Port-clause-takes : goal.returns-in-Port-clause-takes
returns-in-Port-clause-takes c = free_stands _ _ _ _ _ (rw (c.in-Port.is, ← c.self.view_is) refl) c.requires c.is_free-in-Port.ensures
