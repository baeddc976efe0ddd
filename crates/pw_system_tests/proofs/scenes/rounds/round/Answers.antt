use Rattle.std.proofs.Common.{◌∙◌, Ok, ap, subst, sym}
use Rattle.pw_code_meaning.specs.Sound.{IsSoundContext}
use Rattle.pw_world_model.specs.Seen.{Seen}
use Rattle.pw_system_tests.proofs.scenes.rounds.round.Goals as goal

pub run_task-requires-clause-sound : goal.run_task-requires-clause-sound
run_task-requires-clause-sound g c =
    let claims = rw c.in-Ok-Work.field-0-is at c.in-Ok-Work.ensures.claims in
    let same = sym (c.system.ensures.system ∙ ap (λ (w : Seen). w.system) claims.1.1) in
    λ context is. subst (λ s. IsSoundContext s context) same
    (c.in-Ok-Work.ensures.sound c.in-Ok-Work.task (ap Ok c.in-Ok-Work.field-0-is) context is)
