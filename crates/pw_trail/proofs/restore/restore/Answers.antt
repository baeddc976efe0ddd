-- A change that fits has a record of its file, or a key of it.
use Rattle.std.proofs.Common.{◌≡◌, ◌<◌, ℕ, true, List, sym, subst}
use Rattle.std.specs.Prelude.{slice_get}
use Rattle.pw_files.specs.Records.{IsContent}
use Rattle.pw_tmf.specs.Tmf.{told_of}
use Rattle.pw_trail.specs.Body.{fits_file}
use Rattle.pw_trail.specs.declared.changes.ChangeKind.{ChangeKind}
use Rattle.pw_trail.specs.declared.changes.ChangeKind.TheVariants.{Put}
use Rattle.pw_trail.proofs.Restoring.{fit-content, fit-within}
use Rattle.pw_trail.proofs.restore.restore.Goals as goal

pub restore-requires-clause-content : goal.restore-requires-clause-content
restore-requires-clause-content c =
    let change = c.args.change.now in
    let file = slice_get c.args.system.now.files change.file in
    let put : fits_file file Put change.bytes ≡ true = subst (λ (k : ChangeKind). fits_file file k change.bytes ≡ true) c.in-Put.is c.requires.fits in
    subst (λ (b : List ℕ). IsContent ((told_of c.args.tmf.now).key_length change.file) b) (sym c.in_ok-bytes.ensures)
    (subst (λ (k : ℕ → ℕ). IsContent (k change.file) change.bytes) (sym c.requires.of.keys) (fit-content file change.bytes put))

pub restore-requires-in-Remove-clause-file : goal.restore-requires-in-Remove-clause-file
restore-requires-in-Remove-clause-file c =
    let change = c.args.change.now in
    subst (λ n. change.file < n) (sym c.requires.of.count) (fit-within c.args.system.now.files change.file change.kind change.bytes c.requires.fits)
