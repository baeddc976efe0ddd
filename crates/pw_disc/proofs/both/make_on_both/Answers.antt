-- Both members came to the same.
use Rattle.std.proofs.Common.{sym, subst, List, ℕ}
use Rattle.pw_disc.specs.Format.{IsMessageOf}
use Rattle.pw_tmf.specs.Tmf.{told_of}
use Rattle.pw_tmf.specs.Told.{Told}
use Rattle.pw_disc.specs.Calls.{Makes}
use Rattle.pw_disc.proofs.Making.{same_kind, same_told}
use Rattle.pw_disc.proofs.both.make_on_both.Goals as goal

pub returns-in-Ok-make-clause-equal : goal.returns-in-Ok-make-clause-equal
returns-in-Ok-make-clause-equal c =
    let format : IsMessageOf c.as_slice.result.now c.args.call = subst (λ (m : List ℕ). IsMessageOf m c.args.call) (sym c.as_slice.ensures) c.in-Ok.ensures.format in
    let made : Makes c.in-Ok-receive.of_backup (told_of c.args.primary.now) c.args.call (told_of c.receive.new.self) =
    subst (λ (t : Told). Makes c.in-Ok-receive.of_backup t c.args.call (told_of c.receive.new.self)) c.requires.equal (c.in-Ok-receive.ensures.ok c.args.call format) in
    same_told c.in-Ok-receive.of_backup c.in-Ok-make.of_primary (told_of c.args.primary.now) (told_of c.receive.new.self) (told_of c.make.new.tmf) c.args.call
    made c.in-Ok-make.ensures.ok

pub returns-in-Ok-make-clause-same : goal.returns-in-Ok-make-clause-same
returns-in-Ok-make-clause-same c =
    let format : IsMessageOf c.as_slice.result.now c.args.call = subst (λ (m : List ℕ). IsMessageOf m c.args.call) (sym c.as_slice.ensures) c.in-Ok.ensures.format in
    let made : Makes c.in-Ok-receive.of_backup (told_of c.args.primary.now) c.args.call (told_of c.receive.new.self) =
    subst (λ (t : Told). Makes c.in-Ok-receive.of_backup t c.args.call (told_of c.receive.new.self)) c.requires.equal (c.in-Ok-receive.ensures.ok c.args.call format) in
    same_kind c.in-Ok-receive.of_backup c.in-Ok-make.of_primary (told_of c.args.primary.now) (told_of c.receive.new.self) (told_of c.make.new.tmf) c.args.call
    made c.in-Ok-make.ensures.ok
