use Rattle.std.proofs.Common.{◌++◌, refl}
use Rattle.pw_invariants.proofs.Changes.{HasKey, HasRecord, IsFileAt, adds-keep, keys-keep, reads-keep}
use Rattle.pw_invariants.proofs.Runs.{history-committed, kept-between, throughout}
use Rattle.pw_invariants.proofs.Servers.{operations-keep, servers-keep}
use Rattle.pw_invariants.proofs.files.files_are_as_servers_use_them.Goals as goal

pub returns-clause-read : goal.returns-clause-read
returns-clause-read c = λ sys b f asks log run.
    let holds = IsFileAt sys f (sys.records f) in
    history-committed sys b (λ done records. holds records)
    (λ done. servers-keep sys b holds (operations-keep sys b holds (reads-keep sys f asks (sys.records f)))) refl log (c.runs_are_serializable.ensures sys b log run)

pub returns-clause-added : goal.returns-clause-added
returns-clause-added c = λ sys b f asks log more run key content now.
    let holds = HasRecord sys f key content in
    kept-between sys b holds (servers-keep sys b holds (operations-keep sys b holds (adds-keep sys f asks key content))) log more
    (c.runs_are_serializable.ensures sys b log (throughout sys log more run)) (c.runs_are_serializable.ensures sys b (log ++ more) run) now

pub returns-clause-kept : goal.returns-clause-kept
returns-clause-kept c = λ sys b f asks log more run key now.
    let holds = HasKey sys f key in
    kept-between sys b holds (servers-keep sys b holds (operations-keep sys b holds (keys-keep sys f asks key))) log more
    (c.runs_are_serializable.ensures sys b log (throughout sys log more run)) (c.runs_are_serializable.ensures sys b (log ++ more) run) now
