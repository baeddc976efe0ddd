use Rattle.std.proofs.Common.{◌≡◌, List, subst}
use Rattle.std.specs.Prelude.{OnOk}
use Rattle.pw_code.specs.declared.unit.Unit as unit
use Rattle.pw_tmf.specs.Units.{all_backed_out}
use Rattle.pw_disc.specs.declared.call.DiscCall.TheVariants.{Begin, Operate, Commit, BackOut}
use Rattle.pw_tmf.specs.Tmf.{told_of}
use Rattle.pw_disc.proofs.OneMember.{backed_out_ok, begun_ok, ended_ok, of_call, operated_err, operated_ok, plain_err}
use Rattle.pw_disc.proofs.outcome.make.Goals as goal

pub returns-in-Begin-clause-ok : goal.returns-in-Begin-clause-ok
returns-in-Begin-clause-ok c =
    of_call c.plain.result (told_of c.args.tmf.now) (told_of c.begin.new.self) c.args.call (Begin c.in-Begin.unit) c.in-Begin.is
    (begun_ok c.args.tmf.now c.begin.new.self c.in-Begin.unit c.begin.result c.plain.result c.plain.ensures c.begin.ensures.ok)

pub returns-in-Begin-clause-err : goal.returns-in-Begin-clause-err
returns-in-Begin-clause-err c = plain_err c.args.tmf.now c.begin.new.self c.begin.result c.plain.result c.plain.ensures c.begin.ensures.err

pub returns-in-Operate-clause-ok : goal.returns-in-Operate-clause-ok
returns-in-Operate-clause-ok c =
    of_call c.operated.result (told_of c.args.tmf.now) (told_of c.operate.new.self) c.args.call (Operate c.in-Operate.unit c.in-Operate.call) c.in-Operate.is
    (operated_ok c.args.tmf.now c.operate.new.self c.in-Operate.unit c.in-Operate.call c.operate.result c.operated.result c.operated.ensures c.operate.ensures)

pub returns-in-Operate-clause-err : goal.returns-in-Operate-clause-err
returns-in-Operate-clause-err c =
    operated_err c.args.tmf.now c.operate.new.self c.in-Operate.unit c.in-Operate.call c.operate.result c.operated.result c.operated.ensures c.operate.ensures

pub returns-in-Commit-clause-ok : goal.returns-in-Commit-clause-ok
returns-in-Commit-clause-ok c =
    of_call c.plain-in-Commit.result (told_of c.args.tmf.now) (told_of c.commit.new.self) c.args.call (Commit c.in-Commit.unit c.in-Commit.reply) c.in-Commit.is
    (ended_ok c.args.tmf.now c.commit.new.self c.in-Commit.unit c.in-Commit.reply c.commit.result c.plain-in-Commit.result c.plain-in-Commit.ensures c.commit.ensures.ok)

pub returns-in-Commit-clause-err : goal.returns-in-Commit-clause-err
returns-in-Commit-clause-err c = plain_err c.args.tmf.now c.commit.new.self c.commit.result c.plain-in-Commit.result c.plain-in-Commit.ensures c.commit.ensures.err

pub returns-in-BackOut-clause-ok : goal.returns-in-BackOut-clause-ok
returns-in-BackOut-clause-ok c =
    of_call c.plain-in-BackOut.result (told_of c.args.tmf.now) (told_of c.back_out.new.self) c.args.call (BackOut c.in-BackOut.units c.in-BackOut.ends) c.in-BackOut.is
    (backed_out_ok c.args.tmf.now c.back_out.new.self c.in-BackOut.units c.in-BackOut.ends c.back_out.result c.plain-in-BackOut.result c.plain-in-BackOut.ensures
    (subst (λ (units : List unit.Unit). OnOk c.back_out.result (told_of c.back_out.new.self ≡ all_backed_out c.in-BackOut.ends (told_of c.args.tmf.now) units)) c.as_slice.ensures.units c.back_out.ensures.ok))

pub returns-in-BackOut-clause-err : goal.returns-in-BackOut-clause-err
returns-in-BackOut-clause-err c = plain_err c.args.tmf.now c.back_out.new.self c.back_out.result c.plain-in-BackOut.result c.plain-in-BackOut.ensures c.back_out.ensures.err
