-- What was read fits.
use Rattle.std.proofs.Common.{◌≡◌, true, List, ℕ, All, arith}
use Rattle.std.specs.Prelude.{Result, Ok, Err, IfOk}
use Rattle.pw_code.specs.declared.file.FileInfo.{FileInfo}
use Rattle.pw_image.specs.Values.{AreBytes}
use Rattle.pw_image.specs.Reading.{GivesPart}
use Rattle.pw_trail.specs.Body.{fits, unit_in}
use Rattle.pw_trail.specs.declared.changes.UnitChanges.{UnitChanges}
use Rattle.pw_image.specs.declared.fault.BytesFault.{BytesFault}
use Rattle.pw_trail.proofs.BodyForms.{unit_fits}
use Rattle.pw_trail.proofs.read.read_unit.Goals as goal

read_fits : (files : List FileInfo) (bytes : List ℕ) (r : Result UnitChanges BytesFault) → AreBytes bytes → GivesPart (λ unit. unit) r (unit_in files bytes)
    → IfOk r (λ unit. All (λ change. fits files change ≡ true) unit.changes)
read_fits files bytes (Ok own) values e = unit_fits files bytes own values e
read_fits files bytes (Err fault) values e = tt

pub returns-clause-fit : goal.returns-clause-fit
returns-clause-fit c = read_fits c.args.files.now c.args.body.now c.read_whole.result (λ i. omega (arith, c.type_inv.body i)) c.read_whole.ensures
