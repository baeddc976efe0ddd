use Rattle.std.proofs.Common.{◌≡◌, ◌∙◌, List, ap, sym, subst}
use Rattle.pw_code.specs.Valid.{IsValid}
use Rattle.pw_code.specs.declared.file.FileInfo.{FileInfo}
use Rattle.pw_code.specs.declared.system.System.{System}
use Rattle.pw_code_meaning.specs.OfSystem.{behaviour}
use Rattle.pw_deck_runs.specs.recovery.Kept.{told_in, trail_state}
use Rattle.pw_onecopy.specs.IsBehaviour.{IsBehaviour}
use Rattle.pw_store_runs.proofs.Beginning.{begins-disc, begins-stands, runs-over}
use Rattle.pw_store_runs.proofs.Setting.{behaves-on}
use Rattle.pw_store_runs.proofs.system.run_system.Goals as goal
use Rattle.pw_store_runs.specs.Left.{RunsStored}
use Rattle.pw_store_runs.specs.Systems.{BeginsStored}
use Rattle.pw_trail.specs.Files.{files_after}
use Rattle.pw_trail.specs.Format.{units_in}
use Rattle.pw_trail.specs.Stored.{those}
use Rattle.pw_world_model.specs.Worlds.{IsDiscOf}
use Rattle.pw_world_state.specs.Setups.{SetupState}

pub begun-ready-requires-clause-own_valid : goal.begun-ready-requires-clause-own_valid
begun-ready-requires-clause-own_valid g c κs within =
    subst IsValid (sym (c.with_files-own.ensures ∙ ap (λ (s : System). record s { files = c.args.store.files }) c.in-Ok.ensures))
    (c.record_laws.ensures.alike c.args.system c.args.store.files c.requires.alike c.requires.valid c.requires.files)

pub setup_of-setup-requires-clause-behaves : goal.setup_of-setup-requires-clause-behaves
setup_of-setup-requires-clause-behaves g c =
    let b = c.in-Ok-ready.ensures.begins in
    let system = c.args.system in
    subst (λ (s : System). IsBehaviour (behaviour c.args.script.lines s)) (sym b.now_is)
    (behaves-on c.record_laws.ensures.same c.record_laws.ensures.behaves c.args.script.lines system
    (files_after c.with_files-own.result.files b.units) b.are c.requires.behaves)

pub run_kept-ran-requires-clause-disc : goal.run_kept-ran-requires-clause-disc
run_kept-ran-requires-clause-disc g c κs within =
    let trail = c.in-Ok-ready.trail in
    let state = trail_state trail.log.files trail.log.disk trail.log.is_broken trail.faults trail.tmf in
    subst (λ (s : SetupState). IsDiscOf s.system s.script (told_in state)) (sym c.setup_of-setup.ensures)
    (begins-disc g.D.Disk.bytes g.D.Disk.may_leave c.with_files-own.result.files (g.D.Disk.bytes c.args.store.disk)
    c.args.system c.in-Ok-ready.now c.args.script.lines state c.in-Ok-ready.ensures.begins)

pub run_kept-ran-requires-clause-stands : goal.run_kept-ran-requires-clause-stands
run_kept-ran-requires-clause-stands g c κs within =
    let trail = c.in-Ok-ready.trail in
    let state = trail_state trail.log.files trail.log.disk trail.log.is_broken trail.faults trail.tmf in
    begins-stands g.D.Disk.bytes g.D.Disk.may_leave g.D.Disk.settled c.with_files-own.result.files
    (g.D.Disk.bytes c.args.store.disk) c.args.system c.in-Ok-ready.now state c.in-Ok-ready.ensures.stays c.in-Ok-ready.ensures.begins

pub run_kept-ran-requires-clause-faults : goal.run_kept-ran-requires-clause-faults
run_kept-ran-requires-clause-faults g c κs within = c.in-Ok-ready.ensures.begins.faults

pub returns-in-Ok-ran-clause-runs : goal.returns-in-Ok-ran-clause-runs
returns-in-Ok-ran-clause-runs g c =
    let trail = c.in-Ok-ready.trail in
    let state = trail_state trail.log.files trail.log.disk trail.log.is_broken trail.faults trail.tmf in
    let own : c.with_files-own.result.files ≡ c.args.store.files = ap (λ (s : System). s.files) c.with_files-own.ensures in
    let b =
    subst (λ (fs : List FileInfo). BeginsStored g.D.Disk.bytes g.D.Disk.may_leave fs (g.D.Disk.bytes c.args.store.disk)
    c.args.system c.in-Ok-ready.now state) own c.in-Ok-ready.ensures.begins in
    runs-over g.D.Disk.bytes g.D.Disk.may_leave g.D.Disk.settled g.D.Disk.faults g.F.Follower.was_told c.args.store.files (g.D.Disk.bytes c.args.store.disk)
    (g.D.Disk.faults c.args.store.disk) c.args.script.lines c.args.system c.in-Ok-ready.now state c.args.run.bounds.events c.in-Ok-ran.stored
    c.record_laws.ensures.same c.in-Ok-ready.ensures.stays c.in-Ok-ready.ensures.count b
    (subst (λ (s : SetupState). RunsStored g.D.Disk.may_leave g.D.Disk.faults g.F.Follower.was_told trail.log.files
    (those (units_in trail.log.files (g.D.Disk.settled trail.log.disk))) (g.D.Disk.faults trail.log.disk) (behaviour s.script s.system) s.system
    c.args.run.bounds.events c.in-Ok-ran.stored) c.setup_of-setup.ensures c.in-Ok-ran.ensures)
