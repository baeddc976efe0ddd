use Rattle.pw_world_state.proofs.ImageTests.{back-same, begin-same, check-end-same, check-start-same, commit-same}
use Rattle.pw_world_state.proofs.legality.image_laws.Goals as goal

pub returns-clause-check_start : goal.returns-clause-check_start
returns-clause-check_start c system script state kept t stands ask = check-start-same system script state kept stands t ask

pub returns-clause-begin : goal.returns-clause-begin
returns-clause-begin c system script state kept t n r stands ask = begin-same system script state kept stands t ask n r

pub returns-clause-check_end : goal.returns-clause-check_end
returns-clause-check_end c system script state kept t stands ask = check-end-same system script state kept stands t ask

pub returns-clause-commit : goal.returns-clause-commit
returns-clause-commit c system script state kept t n stands ask = commit-same system script state kept stands t ask n

pub returns-clause-back : goal.returns-clause-back
returns-clause-back c system script state kept t n stands ask = back-same system script state kept stands t ask n
