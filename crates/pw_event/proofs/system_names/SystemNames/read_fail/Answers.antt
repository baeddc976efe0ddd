use Rattle.std.proofs.Common.{ap, ◌∙◌, subst}
use Rattle.pw_event.proofs.Failures.{fail_reads}
use Rattle.pw_event.proofs.Given.{given_by}
use Rattle.pw_event.specs.Parsing.{fail_of}
use Rattle.pw_code.specs.Valid.{HasNames}
use Rattle.pw_event.proofs.Sentences.{texts}
use Rattle.pw_event.proofs.system_names.SystemNames.read_fail.Goals as goal

pub returns-clause-reads : goal.returns-clause-reads
returns-clause-reads c = fail_reads c.args.self.now (subst HasNames c.self.view_is c.self.invariant.names) c.args.line.now (texts c.as_slice.result.now) c.fail_of.result (ap texts c.as_slice.ensures.value ∙ c.in_ok-words.ensures) c.fail_of.ensures

pub returns-clause-gives : goal.returns-clause-gives
returns-clause-gives c = given_by c.fail_of.result _ _ (ap (fail_of c.args.self.now) (ap texts c.as_slice.ensures.value ∙ c.in_ok-words.ensures)) c.fail_of.ensures
