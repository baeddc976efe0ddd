use Rattle.pw_world_model.proofs.Idle.{reply-read}
use Rattle.pw_world_model.proofs.Steps.{due-same, is-legal, passes, passes-shown, shows, there}
use Rattle.pw_world_model.proofs.Unread.{read-of}
use Rattle.pw_world_model.proofs.stepping.legal_laws.Goals as goal
use Rattle.std.proofs.Common.{◌∙◌}

pub returns-clause-there : goal.returns-clause-there
returns-clause-there c world books entry w legal = there world books w entry legal

pub returns-clause-legal : goal.returns-clause-legal
returns-clause-legal c world books entry w low read values unfinished due may = is-legal world books w entry low read values unfinished due may

pub returns-clause-shows : goal.returns-clause-shows
returns-clause-shows c world books entry w low read values unfinished due may = shows world books w entry low read values unfinished due may

pub returns-clause-due : goal.returns-clause-due
returns-clause-due c world books entry w legal = (legal.unfinished, due-same world books w entry (there world books w entry legal) ∙ legal.due)

pub returns-clause-passes : goal.returns-clause-passes
returns-clause-passes c world books entry w read values legal shown = passes-shown world books w entry read values legal shown

pub returns-clause-must : goal.returns-clause-must
returns-clause-must c world books entry w read values legal = passes world books w entry read values legal

pub returns-clause-reply : goal.returns-clause-reply
returns-clause-reply c world books entry w legal = reply-read world books w entry legal

pub returns-clause-read : goal.returns-clause-read
returns-clause-read c world books entry w none = read-of world books w entry none
