use Rattle.std.proofs.Common.{sym, ap, ◌∙◌}
use Rattle.std.specs.Option.{option_or}
use Rattle.pw_data.specs.Tree.{forest}
use Rattle.pw_data.specs.Laid.{too_large}
use Rattle.pw_data.proofs.Outcomes.{among}
use Rattle.pw_data.proofs.read.first_fault.Goals as goal

pub returns-in-Some : goal.returns-in-Some
returns-in-Some c =
    let is = among c.args.text.now c.args.entries.now c.args.known c.tree_faults-known.result c.in_ok-known.known c.tree_faults-known.ensures c.in_ok-known.ensures in
    sym (ap (λ o. option_or o (too_large 0 (forest c.args.entries.now))) (sym is ∙ c.in-Some.is))

pub returns-in-None : goal.returns-in-None
returns-in-None c =
    let is = among c.args.text.now c.args.entries.now c.args.known c.tree_faults-known.result c.in_ok-known.known c.tree_faults-known.ensures c.in_ok-known.ensures in
    c.too_large.ensures ∙ sym (ap (λ o. option_or o (too_large 0 (forest c.args.entries.now))) (sym is ∙ c.in-None.is))
