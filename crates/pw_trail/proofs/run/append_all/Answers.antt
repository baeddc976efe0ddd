-- Behind a refusal an image has the units so far, or one more.
use Rattle.std.proofs.Common.{◌≡◌, ◌⊎◌, List, ℕ, sym, subst}
use Rattle.pw_code.specs.declared.file.FileInfo.{FileInfo}
use Rattle.pw_trail.specs.Format.{units_in, with_last}
use Rattle.pw_trail.specs.Stored.{HasPrefix}
use Rattle.pw_trail.proofs.Prefixes.{prefix_or_more}
use Rattle.pw_trail.proofs.run.append_all.Goals as goal

pub returns-then-is_err-clause-prefix : goal.returns-then-is_err-clause-prefix
returns-then-is_err-clause-prefix g c image may =
    let files = c.args.log.now.files in
    let before = units_in files (g.S.Synced.held c.args.log.now.disk) in
    let held = g.S.Synced.held c.loop-unit.log.disk in
    let unit = c.unit-item.result in
    let inv = c.loop-unit.invariant in
    let cases = subst (λ (fs : List FileInfo). (units_in fs image ≡ units_in fs held) ⊎ (units_in fs image ≡ with_last (units_in fs held) unit)) inv.files (c.append.ensures.images inv.goes image may) in
    subst (λ (n : ℕ). HasPrefix files before c.args.units.now n image) (sym inv.done)
    (prefix_or_more before c.args.units.now c.loop-unit.unit-index unit c.loop-unit-test.true c.unit-item.is files (units_in files held) image inv.units cases)
