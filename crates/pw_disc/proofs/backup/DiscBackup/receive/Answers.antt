-- The message's own call is made.
use Rattle.std.proofs.Common.{◌≡◌, sym, subst}
use Rattle.std.specs.Prelude.{IfOk}
use Rattle.pw_disc.specs.declared.call.DiscCall.{DiscCall}
use Rattle.pw_tmf.specs.Tmf.{TmfState, told_of}
use Rattle.pw_disc.specs.Calls.{CanMake, Makes}
use Rattle.pw_disc.proofs.OneMember.{of_message}
use Rattle.pw_disc.proofs.backup.DiscBackup.receive.Goals as goal

pub make-requires : goal.make-requires
make-requires c =
    let is : c.requires.call ≡ c.in-Ok.call = c.in-Ok.ensures.only c.requires.call c.requires.is in
    subst (λ (s : TmfState). CanMake (told_of s) c.in-Ok.call) (sym c.self.view_is) (subst (λ (k : DiscCall). CanMake (told_of c.args.self.now) k) is c.requires.can)

pub returns-in-Ok-clause-ok : goal.returns-in-Ok-clause-ok
returns-in-Ok-clause-ok c =
    of_message c.make.result (told_of c.args.self.now) (told_of c.make.new.tmf) c.in-Ok.call c.args.message.now c.in-Ok.ensures.only
    (subst (λ (s : TmfState). IfOk c.make.result (λ outcome. Makes outcome (told_of s) c.in-Ok.call (told_of c.make.new.tmf))) c.self.view_is c.make.ensures.ok)
