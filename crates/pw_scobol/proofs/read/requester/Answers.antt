use Rattle.std.proofs.Common.{List, All, sym, subst}
use Rattle.pw_words.specs.Words.{Word}
use Rattle.pw_divisions.specs.Divided.{Divided}
use Rattle.pw_scobol.specs.Using.{IsParameter}
use Rattle.pw_scobol.proofs.Divided.{HasUsing, divisions-ok}
use Rattle.pw_scobol.proofs.Named.{all-named}
use Rattle.pw_scobol.proofs.read.requester.Goals as goal

-- each name of USING has an item
pub returns-clause-parameters : goal.returns-clause-parameters
returns-clause-parameters c =
    let known = divisions-ok c.args.name.now c.args.text.now c.deref.result.now c.args.first_line c.in_ok-divisions.divisions c.in_ok-divisions.ensures in
    let named = subst (λ (d : Divided). HasUsing c.args.text.now d) (sym c.divisions.view_is) known in
    let all = all-named c.args.text.now _ c.in_ok-layout.layout named c.in_ok-layout.ensures in
    subst (λ (names : List Word). All (IsParameter c.in_ok-layout.layout) names) (sym c.in_ok-using.ensures) all
