use Rattle.pw_code.specs.declared.lock.LockRule.TheVariants.{ReadersShare}
use Rattle.pw_compiled_deck.proofs.Rules.{log-few, ruled-behaves, ruled-same, ruled-valid}
use Rattle.pw_compiled_deck.proofs.laws.rule_laws.Goals as goal

pub returns : goal.returns
returns c = record {
  valid = ruled-valid;
  same = ruled-same;
  behaves = ruled-behaves;
  log = log-few ReadersShare;
}
