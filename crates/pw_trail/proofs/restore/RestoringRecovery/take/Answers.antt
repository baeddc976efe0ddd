-- One change more, and all of them.
use Rattle.std.proofs.Common.{◌≡◌, ◌∙◌, List, [], ◌∷◌, ◌++◌, ap, sym, subst, take, arith}
use Rattle.std.proofs.lemmas.List.{take_all}
use Rattle.pw_code.specs.declared.system.System.{System}
use Rattle.pw_tmf.specs.Tmf.{told_of}
use Rattle.pw_tmf.specs.Told.{Told}
use Rattle.pw_trail.specs.Files.{with_changes}
use Rattle.pw_trail.specs.Restoring.{IsRestored}
use Rattle.pw_trail.specs.declared.changes.Change.{Change}
use Rattle.pw_trail.proofs.Restoring.{one-more, restored-more}
use Rattle.pw_trail.proofs.restore.RestoringRecovery.take.Goals as goal

pub loop-change-preserved : goal.loop-change-preserved
loop-change-preserved c = record {
  told = one-more (told_of c.args.self.now.tmf) (told_of c.loop-change.self.tmf) (told_of c.restore.new.tmf) c.as_slice-change-items.result.now c.loop-change.change-index c.change-item.result c.loop-change-test.true c.change-item.is c.loop-change.invariant.told c.in_ok-restore.ensures.ok;
  system = c.loop-change.invariant.system;
}

pub returns-clause-ok : goal.returns-clause-ok
returns-clause-ok c units before =
    let old : Told = told_of c.args.self.now.tmf in
    let items = c.as_slice-change-items.result.now in
    let all : take c.loop-change.change-index items ≡ c.args.unit.now.changes =
    take_all c.loop-change.change-index items (omega (arith, c.loop-change-test.false)) ∙ c.as_slice-change-items.ensures in
    subst (λ (s : System). IsRestored s (units ++ c.args.unit.now ∷ []) (told_of c.loop-change.self.tmf)) (sym c.loop-change.invariant.system)
    (restored-more c.args.self.now.system.now units c.args.unit.now old (told_of c.loop-change.self.tmf) c.requires
    (c.loop-change.invariant.told ∙ ap (λ (cs : List Change). record old { files = with_changes old.key_length old.files cs }) all) before)
