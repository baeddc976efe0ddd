use Rattle.pw_world_state.proofs.Behind.{again-enters, key-enters, show-enters}
use Rattle.pw_world_state.proofs.Sending.{back-enters, begin-enters, begin-send-enters, commit-enters, send-enters}
use Rattle.pw_world_state.proofs.entering.verb_laws.Goals as goal

pub returns-clause-show : goal.returns-clause-show
returns-clause-show c system script state kept t phase attempt k stands asking legal =
    show-enters system script state kept t stands asking

pub returns-clause-key : goal.returns-clause-key
returns-clause-key c system script state kept t k stands asking legal =
    key-enters system script state kept t stands asking k

pub returns-clause-again : goal.returns-clause-again
returns-clause-again c system script state kept t n stands asking legal =
    again-enters system script state kept t stands asking

pub returns-clause-begin : goal.returns-clause-begin
returns-clause-begin c system script state kept t n r stands asking legal number asks =
    begin-enters system script state kept t stands asking n r legal number asks

pub returns-clause-begin_send : goal.returns-clause-begin_send
returns-clause-begin_send c system script state kept t n r class message stands asking legal number asks =
    begin-send-enters system script state kept t stands asking n r class message legal number asks

pub returns-clause-send : goal.returns-clause-send
returns-clause-send c system script state kept t n class stands asking legal =
    send-enters system script state kept t stands asking n class legal

pub returns-clause-commit : goal.returns-clause-commit
returns-clause-commit c system script state kept t n stands asking legal =
    commit-enters system script state kept t stands asking n

pub returns-clause-back : goal.returns-clause-back
returns-clause-back c system script state kept t n stands asking legal =
    back-enters system script state kept t stands asking n
