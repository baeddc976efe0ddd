-- One turn more.
use Rattle.std.proofs.Common.{◌≡◌, ◌-◌, length, ap, ◌∙◌}
use Rattle.std.proofs.Math.ListN.{set}
use Rattle.pw_code.specs.declared.context.Return.{Return}
use Rattle.pw_machine.proofs.TurnLemmas.{again}
use Rattle.pw_machine.proofs.turns.end_turn.Goals as goal

pub returns-then-count-clause-config : goal.returns-then-count-clause-config
returns-then-count-clause-config c =
    let items = c.args.top.now.returns.items in
    let one_less : Return = record c.args.last { turns = c.args.last.turns - 1 } in
    let place : c.len-place.result - 1 ≡ length items - 1 = ap (λ n. n - 1) (c.len-place.ensures ∙ c.args.top.now.returns.ok.0) in
    again c.args.start c.args.top.now.program c.args.top.now.at c.args.top.now.storage.items items _ c.args.last c.args.context.now c.count.new.context c.count.result
    c.requires c.if-last-eq0.false c.count.ensures.told c.if-count.true c.count.ensures.context (ap (λ n. set items n one_less) place)
