use Rattle.std.proofs.Common.{◌≡◌, ◌∙◌, All, ap, refl, subst, sym}
use Rattle.pw_group_commit.specs.Discs.{DiscState, disc_state, told_in}
use Rattle.pw_group_commit.proofs.Telling.{keeps-call}
use Rattle.pw_tmf.specs.Faulty.{with_faults}
use Rattle.pw_tmf.specs.Tmf.{told_of}
use Rattle.pw_tmf.specs.Units.{CanBackOut, all_backed_out}
use Rattle.pw_tmf.proofs.WithFaults.{all-inside, faults-backed_out, on-ok-more}
use Rattle.pw_trail.proofs.Keeping.{keeps-back}
use Rattle.pw_group_commit.proofs.group_trail.GroupTrailDisc.back_out.Goals as goal

pub back_out-requires-clause-units : goal.back_out-requires-clause-units
back_out-requires-clause-units g c =
    let own = c.self.inside in
    let old : DiscState g.row.S.Denot = disc_state own.log own.faults own.tmf in
    let is : old ≡ c.args.self.now = c.self.view_is in
    let units = c.args.units.now in
    all-inside c.args.ends own.faults (told_of own.tmf) units
    (subst (λ (s : DiscState g.row.S.Denot). All (CanBackOut c.args.ends (told_in s)) units) (sym is) c.requires.units)

pub invariant_of-self-2 : goal.invariant_of-self-2
invariant_of-self-2 g c =
    let own = c.self.inside in
    let old : DiscState g.row.S.Denot = disc_state own.log own.faults own.tmf in
    keeps-call g.S.Synced.settled g.N.LogNaming.before old c.self.invariant c.back_out.new.self
    (keeps-back c.back_out.result c.args.ends (told_of own.tmf) (told_of c.back_out.new.self) c.args.units.now c.self.invariant.orderly refl
    c.back_out.ensures.ok c.back_out.ensures.err)

pub returns-clause-ok : goal.returns-clause-ok
returns-clause-ok g c =
    let own = c.self.inside in
    let old : DiscState g.row.S.Denot = disc_state own.log own.faults own.tmf in
    let is : old ≡ c.args.self.now = c.self.view_is in
    let ends = c.args.ends in
    let units = c.args.units.now in
    on-ok-more c.back_out.result (told_of c.back_out.new.self ≡ all_backed_out ends (told_of own.tmf) units) _
    (λ done. ap (with_faults own.faults) done ∙ faults-backed_out ends own.faults (told_of own.tmf) units
    ∙ ap (λ (s : DiscState g.row.S.Denot). all_backed_out ends (told_in s) units) is) c.back_out.ensures.ok
