-- What stands at each gate.
use Rattle.std.proofs.Common.{◌≡◌, ℕ, ◌+◌, ◌≤◌, List, length, drop, Some, None, sym, ◌∙◌, ap, subst, arith, rules}
use Rattle.std.specs.Prelude.{Result, Err}
use Rattle.std.proofs.lemmas.Result.{err_from_is_err_and}
use Rattle.pw_trail.specs.Body.{unit_in}
use Rattle.pw_trail.specs.Stored.{HasTakenOne, piece_in, seen}
use Rattle.pw_trail.specs.declared.fault.OpenFault.{OpenFault}
use Rattle.pw_trail.specs.declared.fault.OpenFault.TheVariants.{Damaged}
use Rattle.pw_trail.proofs.Recovering.{reading_bad, reading_broken, reading_end, reading_more, reading_within}
use Rattle.pw_trail.proofs.recover.read_units.Goals as goal

err_is : (x y : OpenFault) → ◌≡◌ {A = Result ℕ OpenFault} (Err x) (Err y) → x ≡ y
err_is x y e = cc

pub returns-in-End-clause-found : goal.returns-in-End-clause-found
returns-in-End-clause-found g c =
    let at = c.loop-body.at in
    let here = subst (λ (l : List ℕ). seen c.in_ok-read_piece.field-0 ≡ piece_in (drop at l)) c.loop-body.invariant.bytes c.in_ok-read_piece.ensures.piece in
    let e : Some None ≡ piece_in (drop at (g.D.Disk.bytes c.args.disk.now)) = sym (ap seen c.in-End.is) ∙ here in
    reading_end c.args.files.now (g.D.Disk.bytes c.args.disk.now) (g.R.Recovery.taken c.loop-body.into) at c.loop-body.invariant.reading e

pub returns-in-End-clause-small : goal.returns-in-End-clause-small
returns-in-End-clause-small g c =
    let at = c.loop-body.at in
    let here = subst (λ (l : List ℕ). seen c.in_ok-read_piece.field-0 ≡ piece_in (drop at l)) c.loop-body.invariant.bytes c.in_ok-read_piece.ensures.piece in
    let e : Some None ≡ piece_in (drop at (g.D.Disk.bytes c.args.disk.now)) = sym (ap seen c.in-End.is) ∙ here in
    let found = reading_end c.args.files.now (g.D.Disk.bytes c.args.disk.now) (g.R.Recovery.taken c.loop-body.into) at c.loop-body.invariant.reading e in
    omega (arith, found.within, c.requires.total, c.ranges.total.fits)

pub returns-in-Broken-clause-damaged : goal.returns-in-Broken-clause-damaged
returns-in-Broken-clause-damaged g c place is =
    let at = c.loop-body.at in
    let here = subst (λ (l : List ℕ). seen c.in_ok-read_piece.field-0 ≡ piece_in (drop at l)) c.loop-body.invariant.bytes c.in_ok-read_piece.ensures.piece in
    let e : None ≡ piece_in (drop at (g.D.Disk.bytes c.args.disk.now)) = sym (ap seen c.in-Broken.is) ∙ here in
    let same : at ≡ place = cc in
    reading_broken c.args.files.now (g.D.Disk.bytes c.args.disk.now) (g.R.Recovery.taken c.loop-body.into) at c.loop-body.invariant.reading e ∙ ap Err same

pub returns-in_err-take_unit-in-Body-clause-damaged : goal.returns-in_err-take_unit-in-Body-clause-damaged
returns-in_err-take_unit-in-Body-clause-damaged g c =
    let at = c.loop-body.at in
    let body = c.in-Body.body.items in
    let here = subst (λ (l : List ℕ). seen c.in_ok-read_piece.field-0 ≡ piece_in (drop at l)) c.loop-body.invariant.bytes c.in_ok-read_piece.ensures.piece in
    let e : Some (Some body) ≡ piece_in (drop at (g.D.Disk.bytes c.args.disk.now)) = sym (ap seen c.in-Body.is) ∙ here in
    let p = err_from_is_err_and c.from_residual-in_err-take_unit-in-Body.result c.from_residual-in_err-take_unit-in-Body.ensures.1 in
    rw (p.1, p.2)
    (λ place is.
    let same : c.in_err-take_unit-in-Body.field-0.0 ≡ Damaged place = err_is _ _ is in
    let d = c.in_err-take_unit-in-Body.ensures.damaged place (ap Err same) in
    let none : unit_in c.args.files.now body ≡ None = ap (unit_in c.args.files.now) (sym c.deref.ensures.value) ∙ d.1 in
    reading_bad c.args.files.now (g.D.Disk.bytes c.args.disk.now) (g.R.Recovery.taken c.loop-body.into) at c.loop-body.invariant.reading body e none ∙ ap Err (sym d.0))

pub overflow_add-at-in-Body : goal.overflow_add-at-in-Body
overflow_add-at-in-Body g c =
    let at = c.loop-body.at in
    let body = c.in-Body.body.items in
    let here = subst (λ (l : List ℕ). seen c.in_ok-read_piece.field-0 ≡ piece_in (drop at l)) c.loop-body.invariant.bytes c.in_ok-read_piece.ensures.piece in
    let e : Some (Some body) ≡ piece_in (drop at (g.D.Disk.bytes c.args.disk.now)) = sym (ap seen c.in-Body.is) ∙ here in
    let within : at + (5 + length body) ≤ length (g.D.Disk.bytes c.args.disk.now) =
    reading_within c.args.files.now (g.D.Disk.bytes c.args.disk.now) (g.R.Recovery.taken c.loop-body.into) at c.loop-body.invariant.reading body e in
    let size : c.len.result ≡ length body = search rules in
    omega (arith, within, size, c.requires.total, c.ranges.total.fits)

pub loop-body-preserved : goal.loop-body-preserved
loop-body-preserved g c =
    let at = c.loop-body.at in
    let body = c.in-Body.body.items in
    let here = subst (λ (l : List ℕ). seen c.in_ok-read_piece.field-0 ≡ piece_in (drop at l)) c.loop-body.invariant.bytes c.in_ok-read_piece.ensures.piece in
    let e : Some (Some body) ≡ piece_in (drop at (g.D.Disk.bytes c.args.disk.now)) = sym (ap seen c.in-Body.is) ∙ here in
    let one : HasTakenOne (unit_in c.args.files.now body) (g.R.Recovery.taken c.loop-body.into) (g.R.Recovery.taken c.take_unit.new.into) =
    subst (λ (l : List ℕ). HasTakenOne (unit_in c.args.files.now l) (g.R.Recovery.taken c.loop-body.into) (g.R.Recovery.taken c.take_unit.new.into)) c.deref.ensures.value c.in_ok-take_unit-in-Body.ensures.ok in
    let size : c.len.result ≡ length body = search rules in
    record {
      reading = reading_more c.args.files.now (g.D.Disk.bytes c.args.disk.now) (g.R.Recovery.taken c.loop-body.into) at c.loop-body.invariant.reading body e (g.R.Recovery.taken c.take_unit.new.into) _ one (ap (λ (n : ℕ). at + (5 + n)) size);
      system = c.take_unit.ensures.system ∙ c.loop-body.invariant.system;
      bytes = c.read_piece.ensures.bytes ∙ c.loop-body.invariant.bytes;
      images = λ image may. c.loop-body.invariant.images image (c.read_piece.ensures.images image may);
      count = omega (arith, c.loop-body.invariant.count, c.read_piece.ensures.count);
      life = c.read_piece.ensures.life ∙ c.loop-body.invariant.life;
      total = c.requires.total;
    }
