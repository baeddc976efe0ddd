-- The entry of the step that `next_step` gives is named.
use Rattle.std.proofs.Common.{ap, ◌∙◌}
use Rattle.pw_world_state.specs.CauseTests.{most_restarts}
use Rattle.pw_world_store.specs.Keeps.{kept_in}
use Rattle.pw_entry_tests.proofs.OwnSteps.{told}
use Rattle.pw_entry_tests.proofs.own.step_at.Goals as goal

pub returns : goal.returns
returns g c =
    told c.args.keep.now.system (kept_in g.D.Disc.told c.args.keep.now) c.args.terminal c.requires.there c.args.at.now c.requires.at c.terminal_at-own.result c.terminal_at-own.ensures
    c.note_at-note.result c.note_at-note.ensures c.most_restarts-most.result (c.most_restarts-most.ensures ∙ ap (λ s. most_restarts s c.args.terminal) c.system.ensures)
    c.next_step-step.result c.next_step-step.ensures c.entry_at.result c.entry_at.ensures
