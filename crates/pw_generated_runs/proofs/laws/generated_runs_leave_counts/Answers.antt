use Rattle.pw_gen.specs.Generated.{generated}
use Rattle.pw_generated_runs.proofs.Finished.{generated-counts, generated-ends, generated-leaves, generated-prints}
use Rattle.pw_generated_runs.proofs.Generated.{is-generated}
use Rattle.pw_generated_runs.proofs.laws.generated_runs_leave_counts.Goals as goal

pub returns-clause-counts : goal.returns-clause-counts
returns-clause-counts c = λ seed terminals some few deck is rule.
    generated-counts (record {
      counts = c.counting_decks_count.ensures;
      serializable = c.runs_are_serializable.ensures;
      suspends = c.enough_restarts_never_suspend.ensures;
    })
    seed terminals few deck (is-generated seed terminals some few deck is) rule

pub returns-clause-leaves : goal.returns-clause-leaves
returns-clause-leaves c = λ seed terminals some few deck is rule log run over.
    generated-leaves (record {
      counts = c.counting_decks_count.ensures;
      serializable = c.runs_are_serializable.ensures;
      suspends = c.enough_restarts_never_suspend.ensures;
    })
    seed terminals few deck (is-generated seed terminals some few deck is) rule (c.rule_laws.ensures.behaves rule (generated seed terminals) deck is) log run over

pub returns-clause-prints : goal.returns-clause-prints
returns-clause-prints c = λ seed terminals some few deck is rule log run over.
    generated-prints (record {
      counts = c.counting_decks_count.ensures;
      serializable = c.runs_are_serializable.ensures;
      suspends = c.enough_restarts_never_suspend.ensures;
    })
    seed terminals few deck (is-generated seed terminals some few deck is) rule (c.rule_laws.ensures.behaves rule (generated seed terminals) deck is) log run over

pub returns-clause-ends : goal.returns-clause-ends
returns-clause-ends c = λ seed terminals some few deck is rule log run before behind t ending at.
    generated-ends (record {
      counts = c.counting_decks_count.ensures;
      serializable = c.runs_are_serializable.ensures;
      suspends = c.enough_restarts_never_suspend.ensures;
    })
    seed terminals few deck (is-generated seed terminals some few deck is) rule (c.rule_laws.ensures.behaves rule (generated seed terminals) deck is) log run before behind t ending at
