use Rattle.pw_trail.proofs.log.TrailLog.know_settled.Goals as goal

pub returns : goal.returns
returns g c goes =
    let disk = c.args.self.now.disk in
    (c.args.self.now.sound goes).durable (g.S.Synced.settled disk) (g.met.S.Synced.settled_may_stay disk)
