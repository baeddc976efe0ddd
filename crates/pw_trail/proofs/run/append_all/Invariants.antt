-- Those so far stand behind the units from before, and a crash leaves just these.
use Rattle.std.proofs.Common.{◌≡◌, List, ℕ, false, take}
use Rattle.pw_trail.specs.Format.{units_in, with_units}
use Rattle.pw_trail.proofs.run.append_all.Given as goal

abbrev pub invariant-loop-unit : goal.invariant-loop-unit
invariant-loop-unit g l = record {
  goes : l.log.is_broken ≡ false;
  files : l.log.files ≡ l.fn.log.files;
  units : units_in l.fn.log.files (g.S.Synced.held l.log.disk) ≡ with_units (units_in l.fn.log.files (g.S.Synced.held l.fn.log.disk)) (take l.unit-index l.units);
  images : (image : List ℕ) → g.S.Synced.images l.log.disk image → units_in l.fn.log.files image ≡ units_in l.fn.log.files (g.S.Synced.held l.log.disk);
  done : l.done ≡ l.unit-index;
}
