use Rattle.std.proofs.Common.{◌<◌, subst, sym}
use Rattle.pw_world_store.proofs.keep.Keep.ended.Goals as goal

pub ended-requires : goal.ended-requires
ended-requires g c = subst (λ n. c.args.terminal < n) (sym c.self.invariant.disc_terminals) (rw (← c.self.view_is) at c.requires.known)
