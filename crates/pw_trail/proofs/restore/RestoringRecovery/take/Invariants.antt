-- The changes so far are made.
use Rattle.std.proofs.Common.{◌≡◌, take}
use Rattle.pw_tmf.specs.Tmf.{told_of}
use Rattle.pw_trail.specs.Files.{with_changes}
use Rattle.pw_trail.proofs.restore.RestoringRecovery.take.Given as goal

abbrev pub invariant-loop-change : goal.invariant-loop-change
invariant-loop-change l = record {
  told : told_of l.self.tmf ≡ record (told_of l.fn.self.tmf) { files = with_changes (told_of l.fn.self.tmf).key_length (told_of l.fn.self.tmf).files (take l.change-index l.change-items) };
  system : l.self.system.now ≡ l.fn.self.system.now;
}
