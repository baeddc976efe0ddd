use Rattle.std.proofs.Common.{◌≡◌, ◌∙◌, refl, subst}
use Rattle.pw_world_state.specs.Setups.{SetupState}
use Rattle.pw_workers.specs.Over.{LeavesWorld}
use Rattle.pw_world.specs.Ledgers.{books_of}
use Rattle.pw_deck_runs.proofs.WrittenRuns.{with-fault, with-report, without}
use Rattle.pw_deck_runs.proofs.written.run_with.Goals as goal

pub returns-in-Err-clause-runs : goal.returns-in-Err-clause-runs
returns-in-Err-clause-runs g c =
    without g.D.Disc.told c.args.system c.args.script.lines c.args.events c.args.disc c.of.result _
    c.of.ensures.status c.of.ensures.disc refl refl

pub returns-in_default-clause-runs : goal.returns-in_default-clause-runs
returns-in_default-clause-runs g c =
    without g.D.Disc.told c.args.system c.args.script.lines c.args.events c.args.disc c.of-in_default.result _
    c.of-in_default.ensures.status c.of-in_default.ensures.disc refl refl

pub returns-in-Ok-report-clause-runs : goal.returns-in-Ok-report-clause-runs
returns-in-Ok-report-clause-runs g c =
    let world = c.in-Ended.world in
    let leaves = subst (λ (s : SetupState). LeavesWorld g.D.Disc.told s.system s.script c.args.events c.args.disc c.in-Ok.over)
    c.new-setup.ensures c.in-Ok.ensures in
    let same : c.as_slice.result.now ≡ c.in-Ok-report.text = cc in
    with-report g.D.Disc.told c.args.system c.args.script.lines c.args.events c.args.disc world
    (books_of world.ledger) c.requires.disc c.holds.ensures c.of-in-Ended.result _ c.into_disc.result
    c.into_disc.ensures c.of-in-Ended.ensures.disc c.in-Ok.over leaves c.in-Ended.ended c.status.result
    c.written-status.result c.as_slice.result.now c.in-Ended.is (same ∙ c.in-Ok-report.ensures) c.status.ensures
    c.written-status.ensures.ends c.of-in-Ended.ensures.status

pub returns-in-Failed-clause-runs : goal.returns-in-Failed-clause-runs
returns-in-Failed-clause-runs g c =
    let world = c.in-Failed.world in
    let leaves = subst (λ (s : SetupState). LeavesWorld g.D.Disc.told s.system s.script c.args.events c.args.disc c.in-Ok.over)
    c.new-setup.ensures c.in-Ok.ensures in
    with-fault g.D.Disc.told c.args.system c.args.script.lines c.args.events c.args.disc world
    (books_of world.ledger) c.requires.disc c.holds-in-Failed.ensures c.of-in-Failed.result _
    c.into_disc-in-Failed.result c.into_disc-in-Failed.ensures c.of-in-Failed.ensures.disc c.in-Ok.over
    leaves c.in-Failed.is refl refl c.of-in-Failed.ensures.status
