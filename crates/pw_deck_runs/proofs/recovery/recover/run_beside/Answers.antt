use Rattle.std.proofs.Common.{◌≡◌, ◌∙◌, ap, arith, sym, subst}
use Rattle.pw_code.specs.declared.system.System.{System}
use Rattle.pw_code_meaning.specs.OfSystem.{behaviour}
use Rattle.pw_report_text.specs.Listing.{files_part}
use Rattle.pw_world_model.specs.Worlds.{IsDiscOf}
use Rattle.pw_deck_runs.proofs.Outcomes.{recovers-to}
use Rattle.pw_world_model.proofs.Starts.{starts}
use Rattle.pw_tmf.specs.Committed.{committed}
use Rattle.pw_tmf.specs.Starting.{told_at_start}
use Rattle.pw_tmf.specs.Tmf.{told_of}
use Rattle.pw_tmf.specs.Told.{Told}
use Rattle.pw_volume.specs.MemDisk.{life_by}
use Rattle.pw_deck_runs.proofs.recovery.recover.run_beside.Goals as goal

pub run_known-requires-clause-disc : goal.run_known-requires-clause-disc
run_known-requires-clause-disc g c κs within =
    subst (IsDiscOf c.args.setup.system c.args.setup.script)
    (sym (c.in-Ok.ensures.told ∙ ap told_at_start c.requires))
    (starts c.args.setup.system c.args.setup.script)

pub run_known-requires-clause-faults : goal.run_known-requires-clause-faults
run_known-requires-clause-faults g c = omega (arith, ap (λ (t : Told). t.faults) c.in-Ok.ensures.told)

pub returns : goal.returns
returns g c =
    let system = c.args.setup.system in
    let sys = behaviour c.args.setup.script system in
    let own : c.args.own.now ≡ system = c.requires in
    let first = c.in-Ok.first in
    let files : first.log.files ≡ system.files = c.in-Ok.ensures.files ∙ ap (λ (s : System). s.files) own in
    let records = committed (told_of c.in_ok-recovered.last.tmf) in
    recovers-to system sys c.args.bounds.events c.args.at (life_by first.log.disk.left) first.log.files
    c.in_ok-recovered.recovered records c.in_ok-text.text (c.printed_is_the_report.ensures.files system sys c.holds.ensures.deck)
    c.in-Ok.ensures.life files c.in_ok-recovered.ensures.ran
    (c.in_ok-text.ensures ∙ ap (λ (s : System). files_part s records) own)
