use Rattle.pw_deck_runs.proofs.Stopping.{stops}
use Rattle.pw_deck_runs.proofs.reported.run_reported.Goals as goal
use Rattle.pw_world.specs.Ledgers.{books_of}

pub returns-in-Failed : goal.returns-in-Failed
returns-in-Failed g c =
    let world = c.in-Failed.world in
    let setup = c.args.setup in
    stops g.D.Disc.told setup.system setup.script c.args.bounds.events c.args.disc c.requires world (books_of world.ledger)
    c.holds.ensures (rw c.in-Failed.is at c.in_ok-ended.ensures) c.into_disc.result c.into_disc.ensures
