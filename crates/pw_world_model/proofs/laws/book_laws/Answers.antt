use Rattle.pw_world_model.proofs.Books.{live-is, one-send-is, screens-more, sends-more}
use Rattle.pw_world_model.proofs.laws.book_laws.Goals as goal
use Rattle.pw_paired.specs.State.{starting}

pub returns-clause-one_send : goal.returns-clause-one_send
returns-clause-one_send c sys log place = one-send-is sys log place

pub returns-clause-sends : goal.returns-clause-sends
returns-clause-sends c sys log entry = sends-more sys (starting sys) log entry

pub returns-clause-screens : goal.returns-clause-screens
returns-clause-screens c sys log entry = screens-more sys (starting sys) log entry

pub returns-clause-live : goal.returns-clause-live
returns-clause-live c sys state = live-is sys.terminals state
