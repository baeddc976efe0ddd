-- A unit that was read is of the files.
use Rattle.std.proofs.Common.{◌≡◌, List, true, All, sym, subst}
use Rattle.pw_code.specs.declared.file.FileInfo.{FileInfo}
use Rattle.pw_trail.specs.Body.{fits}
use Rattle.pw_trail.proofs.recover.take_unit.Goals as goal

pub take-requires : goal.take-requires
take-requires g c = subst (λ (fs : List FileInfo). All (λ change. fits fs change ≡ true) c.in-Ok.unit.changes) (sym c.requires) c.in-Ok.ensures.fit
