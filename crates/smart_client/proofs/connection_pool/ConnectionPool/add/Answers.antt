use Rattle.smart_client.proofs.connection_pool.ConnectionPool.add.Goals as goal

pub invariant_of-self : goal.invariant_of-self
invariant_of-self g c = rw c.in_err-push.ensures.items c.self.invariant
