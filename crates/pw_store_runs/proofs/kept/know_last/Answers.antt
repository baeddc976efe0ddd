use Rattle.pw_store_runs.proofs.kept.know_last.Goals as goal

pub returns : goal.returns
returns g c = g.met.S.Synced.settled_may_stay c.args.trail.now.log.disk
