use Rattle.std.proofs.Common.{◌≡◌, ◌∙◌, Some, ap, sym, subst}
use Rattle.pw_tmf.specs.Faulty.{with_faults}
use Rattle.pw_tmf.specs.Tmf.{told_of}
use Rattle.pw_tmf.specs.Told.{Told}
use Rattle.pw_disc.specs.Calls.{CanMake, Makes, is_done}
use Rattle.pw_disc.specs.Pair.{PairKept, PairState, seen, state_of}
use Rattle.pw_disc.proofs.Making.{answered, can_inside, told_stays}
use Rattle.pw_disc.proofs.pair.DiscPair.make.Goals as goal

pub make_on_both-requires-clause-can : goal.make_on_both-requires-clause-can
make_on_both-requires-clause-can c =
    can_inside c.self.inside.faults (told_of c.self.inside.primary) c.args.call
    (subst (λ (p : PairState). CanMake p.told c.args.call) (sym (ap state_of c.self.view_is)) c.requires.can)

pub returns-in-Ok-clause-makes : goal.returns-in-Ok-clause-makes
returns-in-Ok-clause-makes c =
    let n = c.self.inside.faults in
    let old = told_of c.self.inside.primary in
    let new = told_of c.make_on_both.new.primary in
    let stays : (state_of c.answer.new.self).told ≡ with_faults n new =
    ap (λ (p : PairState). p.told) c.answer.ensures.pair
    ∙ told_stays (is_done c.in-Ok.field-0.of_primary)
    (seen c.self.inside.is_lost (Some c.in-Ok.field-0.backup) c.make_on_both.new.primary c.self.inside.used c.self.inside.lines.items c.self.inside.done n) in
    let by_primary : Makes c.in-Ok.field-0.of_primary old c.args.call new = c.in-Ok.ensures.primary in
    let by_backup : Makes c.in-Ok.field-0.of_backup old c.args.call (told_of c.in-Ok.field-0.backup) = c.in-Ok.ensures.backup in
    let equal : told_of c.in-Ok.field-0.backup ≡ new = c.in-Ok.ensures.equal in
    answered c.in-Ok.field-0.of_primary c.in-Ok.field-0.of_backup c.answer.result c.args.call n old new (state_of c.args.self.now).told (state_of c.answer.new.self).told
    (ap (λ (k : PairKept). (state_of k).told) c.self.view_is) stays by_primary
    (subst (λ (t : Told). Makes c.in-Ok.field-0.of_backup old c.args.call t) equal by_backup) c.answer.ensures.one
