-- The open unit of the terminal is that of the request.
use Rattle.std.proofs.Common.{subst, sym, ◌∙◌}
use Rattle.std.specs.Prelude.{IfOk}
use Rattle.pw_code.specs.declared.unit.Unit as unit
use Rattle.pw_world_store.specs.Keeps.{kept_in}
use Rattle.pw_entry_tests.proofs.Working.{own-unit}
use Rattle.pw_tmf.specs.Answers.{Foresees}
use Rattle.pw_entry_tests.proofs.works.foresee_for.Goals as goal

pub returns : goal.returns
returns g c =
    let system = c.args.keep.now.system in
    let kept = kept_in g.D.Disc.told c.args.keep.now in
    let request = c.args.request.now in
    subst (λ (own : unit.Unit). IfOk c.foresee.result (λ foreseen. Foresees foreseen kept.disc own c.args.call.now))
    (own-unit system kept c.requires.known request.terminal request.unit c.requires.runs c.in-Some.unit
    (sym c.seat.ensures.unit ∙ c.in-Some.is)) c.foresee.ensures
