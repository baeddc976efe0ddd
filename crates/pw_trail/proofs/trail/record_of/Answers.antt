use Rattle.std.proofs.Common.{◌≡◌, ◌∙◌, ◌++◌, ◌∷◌, [], List, ap, sym, map}
use Rattle.std.proofs.lemmas.Iterator.Adapters.{YieldsList-from_vec}
use Rattle.std.proofs.lemmas.Iterator.Consumers.{YieldsList-end}
use Rattle.std.proofs.lemmas.List.{map-id, map_push}
use Rattle.pw_tmf.specs.declared.answer.ChangedKey.{ChangedKey}
use Rattle.pw_trail.specs.Committing.{change_to}
use Rattle.pw_trail.specs.declared.changes.Change.{Change}
use Rattle.pw_trail.proofs.trail.record_of.Goals as goal

pub loop-one-init : goal.loop-one-init
loop-one-init c = c.new-changes.ensures

pub loop-one-preserved : goal.loop-one-preserved
loop-one-preserved c =
    let one : ChangedKey = c.in-Some.one in
    c.in_ok-push.ensures.ok
    ∙ ap (λ (cs : List Change). cs ++ c.change_to.result ∷ []) c.loop-one.invariant
    ∙ ap (λ (x : Change). map change_to c.loop-one.yielded ++ x ∷ []) c.change_to.ensures
    ∙ sym (map_push change_to c.loop-one.yielded one)

pub returns : goal.returns
returns c =
    let gives = c.into_iter-one-iterator.ensures.into_iter_gives in
    let all = YieldsList-end (YieldsList-from_vec {s = c.into_iter-one-iterator.result} c.args.changed.items gives.0 (gives.1 ∙ c.args.changed.ok.0))
    c.loop-one.yielded c.loop-one.one-iterator c.loop-one.yielded_by c.next.result c.next.new.self c.in-None.is c.next.ensures.steps in
    let yielded : c.loop-one.yielded ≡ c.args.changed.items = sym (map-id c.loop-one.yielded) ∙ all.0 in
    ap (λ (cs : List Change). record { terminal = c.args.unit.now.terminal; unit = c.args.unit.now.number; changes = cs })
    (c.loop-one.invariant ∙ ap (map change_to) yielded)
