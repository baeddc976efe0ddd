use Rattle.std.proofs.Common.{◌≡◌, rules, not, refl}
use Rattle.std.specs.Prelude.{filter}
use Rattle.std.proofs.lemmas.Fn.{filter_same}
use Rattle.pw_class.specs.Queue.{is_of}
use Rattle.pw_class.specs.declared.request.Request.{Request}
use Rattle.pw_class.proofs.queue.Queue.cancel.Goals as goal

pub returns : goal.returns
returns c =
    let stays = λ (request : Request). not (is_of c.args.terminal request) in
    let kept : c.retain.new.self.items ≡ filter stays c.self.inside.waiting.items =
    filter_same _ stays _ (λ x b f' k. search rules) _ _ c.retain.ensures.filtered in
    rw (← c.self.view_is, kept, c.end_all_for.ensures) refl
