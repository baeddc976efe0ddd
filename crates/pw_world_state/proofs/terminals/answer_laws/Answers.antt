use Rattle.pw_onecopy.specs.Path.{Entry, Replied, Shown}
use Rattle.pw_paired.specs.Terminal.{kept_reply}
use Rattle.pw_world_state.proofs.Answered.{answered}
use Rattle.pw_world_state.proofs.terminals.answer_laws.Goals as goal

pub returns-clause-show : goal.returns-clause-show
returns-clause-show c system script state kept t phase attempt k terminal new stands here legal path =
    answered system script state kept t terminal Shown new stands here path

pub returns-clause-key : goal.returns-clause-key
returns-clause-key c system script state kept t k terminal new stands here legal path =
    answered system script state kept t terminal (Entry k) new stands here path

pub returns-clause-again : goal.returns-clause-again
returns-clause-again c system script state kept t n terminal new stands here legal path =
    answered system script state kept t terminal (Replied (kept_reply (state.ended t))) new stands here path
