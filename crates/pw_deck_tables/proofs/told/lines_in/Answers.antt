use Rattle.pw_deck_tables.proofs.told.lines_in.Goals as goal

pub failures_in-requires-clause-names : goal.failures_in-requires-clause-names
failures_in-requires-clause-names c = c.requires.names c.args.system.now.rule

pub failures_in-requires-clause-few : goal.failures_in-requires-clause-few
failures_in-requires-clause-few c = c.requires.counts c.args.system.now.rule

pub events_in-requires-clause-names : goal.events_in-requires-clause-names
events_in-requires-clause-names c = c.requires.names c.rule_of-system.result

pub events_in-requires-clause-few : goal.events_in-requires-clause-few
events_in-requires-clause-few c = c.requires.counts c.rule_of-system.result
