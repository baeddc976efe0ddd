use Rattle.pw_world_store.proofs.keep.Keep.known_parts.Goals as goal

pub returns : goal.returns
returns g c = rw (← c.self.view_is) c.self.invariant
