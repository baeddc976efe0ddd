use Rattle.std.proofs.Common.{◌∙◌, ap, subst, sym}
use Rattle.pw_deck_runs.proofs.over_tmf.run_over_tmf.Goals as goal
use Rattle.pw_world_model.specs.Worlds.{IsDiscOf}
use Rattle.pw_tmf.specs.Starting.{told_at_start}
use Rattle.pw_world_model.proofs.Starts.{starts}

pub run_over-requires-after_bounds : goal.run_over-requires-after_bounds
run_over-requires-after_bounds g c κs within =
    let setup = c.args.setup in
    subst (IsDiscOf setup.system setup.script) (sym (c.in-Ok.ensures ∙ ap told_at_start c.system.ensures.system))
    (starts setup.system setup.script)
