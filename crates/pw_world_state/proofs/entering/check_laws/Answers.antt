use Rattle.pw_world_state.proofs.Sending.{check-copy-enters, check-drop-enters, check-end-enters, check-start-enters}
use Rattle.pw_world_state.proofs.entering.check_laws.Goals as goal

pub returns-clause-start : goal.returns-clause-start
returns-clause-start c system script state kept t context stands asking is carries legal =
    check-start-enters system script state kept t stands asking context is carries legal

pub returns-clause-copy : goal.returns-clause-copy
returns-clause-copy c system script state kept t context stands placed is carries legal =
    check-copy-enters system script state kept t stands placed context is carries legal

pub returns-clause-end : goal.returns-clause-end
returns-clause-end c system script state kept t stands asking asks has values legal =
    check-end-enters system script state kept t stands asking asks has values legal

pub returns-clause-drop : goal.returns-clause-drop
returns-clause-drop c system script state kept t stands asking asks has values legal =
    check-drop-enters system script state kept t stands asking asks has values legal
