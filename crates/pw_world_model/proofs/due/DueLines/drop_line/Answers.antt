use Rattle.std.proofs.Common.{◌≡◌, rules, not, refl}
use Rattle.std.specs.Prelude.{filter}
use Rattle.std.proofs.lemmas.Fn.{filter_same}
use Rattle.pw_event.specs.Due.{is_fail_of}
use Rattle.pw_world_model.specs.declared.due.OpenLine.{OpenLine}
use Rattle.pw_world_model.proofs.due.DueLines.drop_line.Goals as goal

pub returns : goal.returns
returns c =
    let stays = λ (line : OpenLine). not (is_fail_of line.number c.args.event.now) in
    let kept : c.retain.new.self.items ≡ filter stays c.self.inside.waiting.items =
    filter_same _ stays _ (λ x b f' k. search rules) _ _ c.retain.ensures.filtered in
    rw (← c.self.view_is, kept) refl
