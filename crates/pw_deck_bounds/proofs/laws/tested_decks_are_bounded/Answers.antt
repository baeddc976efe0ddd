use Rattle.pw_deck_bounds.proofs.laws.tested_decks_are_bounded.Goals as goal
use Rattle.pw_onecopy.specs.Behaviour.{Behaviour}
use Rattle.pw_tree_meaning.specs.OfDeck.{behaviour}
use Rattle.pw_tree_meaning.specs.State.{most_counted}

pub returns : goal.returns
returns c = λ rule deck sound n told log run.
    let sys : Behaviour = behaviour rule deck in
    c.runs_are_bounded.ensures sys (c.deck_laws.ensures rule deck sound) n most_counted (c.tested_decks_end.ensures rule deck n told) log run
