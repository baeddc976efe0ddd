use Rattle.std.proofs.Common.{◌<◌, subst, sym}
use Rattle.pw_world_store.proofs.keep.Keep.records.Goals as goal

pub committed-requires : goal.committed-requires
committed-requires g c = subst (λ n. c.args.file < n) (sym c.self.invariant.disc_files) (rw (← c.self.view_is) at c.requires.known)
