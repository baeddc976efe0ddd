-- Each arm does what its kind of entry says.
use Rattle.std.proofs.Common.{refl, rules, subst}
use Rattle.pw_base.proofs.Plain.{on-ok}
use Rattle.pw_entry_effects.specs.Can.{Can}
use Rattle.pw_world_store.specs.Calls.{members_in}
use Rattle.pw_world_store.specs.Keeps.{kept_in}
use Rattle.pw_world_state.specs.Changes.{kept_applied, kept_end, kept_fail_server, kept_fail_tcp, kept_raise, kept_restart, kept_takeover}
use Rattle.pw_world_state.specs.Entered.{entered_again, entered_back, entered_begin, entered_check_copy, entered_check_end, entered_check_start, entered_commit, entered_file, entered_key, entered_reply, entered_send, entered_show, entered_take, tcp_of}
use Rattle.pw_entry_effects.proofs.Changing.{acted}
use Rattle.pw_entry_effects.proofs.Seated.{placed-known}
use Rattle.pw_entry_effects.proofs.act.act.Goals as goal

pub show-requires-clause-can : goal.show-requires-clause-can
show-requires-clause-can g c =
    let h = subst (Can c.args.keep.now.system (kept_in g.D.Disc.told c.args.keep.now)) c.in-Show.is c.requires.can in
    search (rules, h)

pub returns-in-Show-clause-ok : goal.returns-in-Show-clause-ok
returns-in-Show-clause-ok g c =
    acted g.D.Disc.told (entered_show c.args.keep.now.system c.in-Show.terminal) c.args.keep.now.system (members_in (kept_in g.D.Disc.told c.args.keep.now)) c.args.entry.now _ c.args.keep.now c.show.new.keep c.in-Show.is refl
    c.show.ensures

pub key-requires-clause-can : goal.key-requires-clause-can
key-requires-clause-can g c =
    let h = subst (Can c.args.keep.now.system (kept_in g.D.Disc.told c.args.keep.now)) c.in-Key.is c.requires.can in
    search (rules, h)

pub returns-in_ok-key-in-Key-clause-ok : goal.returns-in_ok-key-in-Key-clause-ok
returns-in_ok-key-in-Key-clause-ok g c =
    acted g.D.Disc.told (entered_key c.args.keep.now.system c.in-Key.terminal c.in-Key.k) c.args.keep.now.system (members_in (kept_in g.D.Disc.told c.args.keep.now)) c.args.entry.now _ c.args.keep.now c.key.new.keep c.in-Key.is refl
    c.in_ok-key-in-Key.ensures.ok

pub check_start-requires : goal.check_start-requires
check_start-requires g c =
    let h = subst (Can c.args.keep.now.system (kept_in g.D.Disc.told c.args.keep.now)) c.in-CheckStart.is c.requires.can in
    search (rules, h)

pub returns-in_ok-check_start-in-CheckStart-clause-ok : goal.returns-in_ok-check_start-in-CheckStart-clause-ok
returns-in_ok-check_start-in-CheckStart-clause-ok g c =
    acted g.D.Disc.told (entered_check_start c.args.keep.now.system c.in-CheckStart.terminal) c.args.keep.now.system (members_in (kept_in g.D.Disc.told c.args.keep.now)) c.args.entry.now _ c.args.keep.now c.check_start.new.keep c.in-CheckStart.is refl
    c.in_ok-check_start-in-CheckStart.ensures.ok

pub check_end-requires-clause-can : goal.check_end-requires-clause-can
check_end-requires-clause-can g c =
    let h = subst (Can c.args.keep.now.system (kept_in g.D.Disc.told c.args.keep.now)) c.in-CheckEnd.is c.requires.can in
    search (rules, h)

pub returns-in_ok-check_end-in-CheckEnd-clause-ok : goal.returns-in_ok-check_end-in-CheckEnd-clause-ok
returns-in_ok-check_end-in-CheckEnd-clause-ok g c =
    acted g.D.Disc.told (entered_check_end c.args.keep.now.system c.in-CheckEnd.terminal) c.args.keep.now.system (members_in (kept_in g.D.Disc.told c.args.keep.now)) c.args.entry.now _ c.args.keep.now c.check_end.new.keep c.in-CheckEnd.is refl
    c.in_ok-check_end-in-CheckEnd.ensures.ok

pub check_copy-requires : goal.check_copy-requires
check_copy-requires g c =
    let h = subst (Can c.args.keep.now.system (kept_in g.D.Disc.told c.args.keep.now)) c.in-CheckCopy.is c.requires.can in
    search (rules, h)

pub returns-in_ok-check_copy-in-CheckCopy-clause-ok : goal.returns-in_ok-check_copy-in-CheckCopy-clause-ok
returns-in_ok-check_copy-in-CheckCopy-clause-ok g c =
    acted g.D.Disc.told (entered_check_copy c.args.keep.now.system c.in-CheckCopy.terminal) c.args.keep.now.system (members_in (kept_in g.D.Disc.told c.args.keep.now)) c.args.entry.now _ c.args.keep.now c.check_copy.new.keep c.in-CheckCopy.is refl
    c.in_ok-check_copy-in-CheckCopy.ensures.ok

pub applied-requires : goal.applied-requires
applied-requires g c =
    let h = subst (Can c.args.keep.now.system (kept_in g.D.Disc.told c.args.keep.now)) c.in-Applied.is c.requires.can in
    search (rules, h)

pub returns-in_ok-applied-in-Applied-clause-ok : goal.returns-in_ok-applied-in-Applied-clause-ok
returns-in_ok-applied-in-Applied-clause-ok g c =
    acted g.D.Disc.told (kept_applied (tcp_of c.args.keep.now.system c.in-Applied.terminal) c.in-Applied.terminal) c.args.keep.now.system (members_in (kept_in g.D.Disc.told c.args.keep.now)) c.args.entry.now _ c.args.keep.now c.applied.new.keep c.in-Applied.is refl
    c.in_ok-applied-in-Applied.ensures.ok

pub begin-requires-clause-can : goal.begin-requires-clause-can
begin-requires-clause-can g c =
    let h = subst (Can c.args.keep.now.system (kept_in g.D.Disc.told c.args.keep.now)) c.in-Begin.is c.requires.can in
    search (rules, h)

pub returns-in-Begin-clause-ok : goal.returns-in-Begin-clause-ok
returns-in-Begin-clause-ok g c =
    on-ok c.begin.result c.begin.ensures.ok
    (acted g.D.Disc.told (entered_begin c.args.keep.now.system c.in-Begin.terminal c.in-Begin.unit c.in-Begin.restarts) c.args.keep.now.system (members_in (kept_in g.D.Disc.told c.args.keep.now)) c.args.entry.now _ c.args.keep.now c.begin.new.keep c.in-Begin.is refl)

pub send-requires : goal.send-requires
send-requires g c =
    let h = subst (Can c.args.keep.now.system (kept_in g.D.Disc.told c.args.keep.now)) c.in-Send.is c.requires.can in
    search (rules, h)

pub returns-in_ok-send-in-Send-clause-ok : goal.returns-in_ok-send-in-Send-clause-ok
returns-in_ok-send-in-Send-clause-ok g c =
    acted g.D.Disc.told (entered_send c.args.keep.now.system c.in-Send.terminal c.in-Send.unit c.in-Send.class) c.args.keep.now.system (members_in (kept_in g.D.Disc.told c.args.keep.now)) c.args.entry.now _ c.args.keep.now c.send.new.keep c.in-Send.is refl
    c.in_ok-send-in-Send.ensures.ok

pub take-requires-clause-can : goal.take-requires-clause-can
take-requires-clause-can g c =
    let h = subst (Can c.args.keep.now.system (kept_in g.D.Disc.told c.args.keep.now)) c.in-Take.is c.requires.can in
    search (rules, h)

pub returns-in_ok-take-in-Take-clause-ok : goal.returns-in_ok-take-in-Take-clause-ok
returns-in_ok-take-in-Take-clause-ok g c =
    acted g.D.Disc.told (entered_take c.args.keep.now.system c.in-Take.class c.in-Take.process) c.args.keep.now.system (members_in (kept_in g.D.Disc.told c.args.keep.now)) c.args.entry.now _ c.args.keep.now c.take.new.keep c.in-Take.is refl
    c.in_ok-take-in-Take.ensures.ok

pub file-requires-clause-can : goal.file-requires-clause-can
file-requires-clause-can g c =
    let h = subst (Can c.args.keep.now.system (kept_in g.D.Disc.told c.args.keep.now)) c.in-File.is c.requires.can in
    search (rules, h)

pub returns-in-File-clause-ok : goal.returns-in-File-clause-ok
returns-in-File-clause-ok g c =
    on-ok c.file.result c.file.ensures.ok
    (acted g.D.Disc.told (entered_file c.args.keep.now.system c.in-File.class c.in-File.process) c.args.keep.now.system (members_in (kept_in g.D.Disc.told c.args.keep.now)) c.args.entry.now _ c.args.keep.now c.file.new.keep c.in-File.is refl)

pub reply-requires-clause-can : goal.reply-requires-clause-can
reply-requires-clause-can g c =
    let h = subst (Can c.args.keep.now.system (kept_in g.D.Disc.told c.args.keep.now)) c.in-Reply.is c.requires.can in
    search (rules, h)

pub returns-in-Reply-clause-ok : goal.returns-in-Reply-clause-ok
returns-in-Reply-clause-ok g c =
    on-ok c.reply.result c.reply.ensures.ok
    (acted g.D.Disc.told (entered_reply c.args.keep.now.system c.in-Reply.class c.in-Reply.process c.in-Reply.terminal c.in-Reply.fault) c.args.keep.now.system (members_in (kept_in g.D.Disc.told c.args.keep.now)) c.args.entry.now _ c.args.keep.now c.reply.new.keep c.in-Reply.is refl)

pub again-requires-clause-can : goal.again-requires-clause-can
again-requires-clause-can g c =
    let h = subst (Can c.args.keep.now.system (kept_in g.D.Disc.told c.args.keep.now)) c.in-Again.is c.requires.can in
    search (rules, h)

pub returns-in_ok-again-in-Again-clause-ok : goal.returns-in_ok-again-in-Again-clause-ok
returns-in_ok-again-in-Again-clause-ok g c =
    acted g.D.Disc.told (entered_again c.args.keep.now.system c.in-Again.terminal) c.args.keep.now.system (members_in (kept_in g.D.Disc.told c.args.keep.now)) c.args.entry.now _ c.args.keep.now c.again.new.keep c.in-Again.is refl
    c.in_ok-again-in-Again.ensures.ok

pub commit-requires-clause-can : goal.commit-requires-clause-can
commit-requires-clause-can g c =
    let h = subst (Can c.args.keep.now.system (kept_in g.D.Disc.told c.args.keep.now)) c.in-Commit.is c.requires.can in
    search (rules, h)

pub returns-in-Commit-clause-ok : goal.returns-in-Commit-clause-ok
returns-in-Commit-clause-ok g c =
    on-ok c.commit.result c.commit.ensures.ok
    (acted g.D.Disc.told (entered_commit c.args.keep.now.system c.in-Commit.terminal c.in-Commit.unit) c.args.keep.now.system (members_in (kept_in g.D.Disc.told c.args.keep.now)) c.args.entry.now _ c.args.keep.now c.commit.new.keep c.in-Commit.is refl)

pub back-requires-clause-can : goal.back-requires-clause-can
back-requires-clause-can g c =
    let h = subst (Can c.args.keep.now.system (kept_in g.D.Disc.told c.args.keep.now)) c.in-Back.is c.requires.can in
    search (rules, h)

pub returns-in-Back-clause-ok : goal.returns-in-Back-clause-ok
returns-in-Back-clause-ok g c =
    on-ok c.back.result c.back.ensures.ok
    (acted g.D.Disc.told (entered_back c.args.keep.now.system c.in-Back.terminal c.in-Back.unit) c.args.keep.now.system (members_in (kept_in g.D.Disc.told c.args.keep.now)) c.args.entry.now _ c.args.keep.now c.back.new.keep c.in-Back.is refl)

pub restart-requires-clause-known : goal.restart-requires-clause-known
restart-requires-clause-known g c =
    let h = placed-known c.args.keep.now.system c.in-Restart.terminal (subst (Can c.args.keep.now.system (kept_in g.D.Disc.told c.args.keep.now)) c.in-Restart.is c.requires.can).placed in
    search (rules, h)

pub restart-requires-clause-runs : goal.restart-requires-clause-runs
restart-requires-clause-runs g c =
    let h = (subst (Can c.args.keep.now.system (kept_in g.D.Disc.told c.args.keep.now)) c.in-Restart.is c.requires.can).runs in
    search (rules, h)

pub restart-requires-clause-few : goal.restart-requires-clause-few
restart-requires-clause-few g c =
    let h = (subst (Can c.args.keep.now.system (kept_in g.D.Disc.told c.args.keep.now)) c.in-Restart.is c.requires.can).few in
    search (rules, h)

pub returns-in-Restart-clause-ok : goal.returns-in-Restart-clause-ok
returns-in-Restart-clause-ok g c =
    on-ok c.restart.result c.restart.ensures.ok
    (acted g.D.Disc.told (kept_restart c.in-Restart.terminal c.in-Restart.unit c.in-Restart.cause) c.args.keep.now.system (members_in (kept_in g.D.Disc.told c.args.keep.now)) c.args.entry.now _ c.args.keep.now c.restart.new.self c.in-Restart.is refl)

pub fail_tcp-requires : goal.fail_tcp-requires
fail_tcp-requires g c =
    let h = subst (Can c.args.keep.now.system (kept_in g.D.Disc.told c.args.keep.now)) c.in-FailTcp.is c.requires.can in
    search (rules, h)

pub returns-in-FailTcp-clause-ok : goal.returns-in-FailTcp-clause-ok
returns-in-FailTcp-clause-ok g c =
    on-ok c.fail_tcp.result c.fail_tcp.ensures.ok
    (acted g.D.Disc.told (kept_fail_tcp c.in-FailTcp.tcp c.in-FailTcp.primary (members_in (kept_in g.D.Disc.told c.args.keep.now) c.in-FailTcp.tcp)) c.args.keep.now.system (members_in (kept_in g.D.Disc.told c.args.keep.now)) c.args.entry.now _ c.args.keep.now c.fail_tcp.new.self c.in-FailTcp.is refl)

pub fail_server-requires-clause-class : goal.fail_server-requires-clause-class
fail_server-requires-clause-class g c =
    let h = (subst (Can c.args.keep.now.system (kept_in g.D.Disc.told c.args.keep.now)) c.in-FailServer.is c.requires.can).class in
    search (rules, h)

pub fail_server-requires-clause-known : goal.fail_server-requires-clause-known
fail_server-requires-clause-known g c =
    let h = (subst (Can c.args.keep.now.system (kept_in g.D.Disc.told c.args.keep.now)) c.in-FailServer.is c.requires.can).known in
    search (rules, h)

pub returns-in-FailServer-clause-ok : goal.returns-in-FailServer-clause-ok
returns-in-FailServer-clause-ok g c =
    acted g.D.Disc.told (kept_fail_server c.in-FailServer.class c.in-FailServer.process c.in-FailServer.line) c.args.keep.now.system (members_in (kept_in g.D.Disc.told c.args.keep.now)) c.args.entry.now _ c.args.keep.now c.fail_server.new.self c.in-FailServer.is refl
    c.fail_server.ensures

pub takeover-requires-clause-known : goal.takeover-requires-clause-known
takeover-requires-clause-known g c =
    let h = (subst (Can c.args.keep.now.system (kept_in g.D.Disc.told c.args.keep.now)) c.in-Takeover.is c.requires.can).known in
    search (rules, h)

pub takeover-requires-clause-down : goal.takeover-requires-clause-down
takeover-requires-clause-down g c =
    let h = (subst (Can c.args.keep.now.system (kept_in g.D.Disc.told c.args.keep.now)) c.in-Takeover.is c.requires.can).mode in
    search (rules, h)

pub returns-in_ok-takeover-in-Takeover-clause-ok : goal.returns-in_ok-takeover-in-Takeover-clause-ok
returns-in_ok-takeover-in-Takeover-clause-ok g c =
    acted g.D.Disc.told (kept_takeover c.in-Takeover.tcp (members_in (kept_in g.D.Disc.told c.args.keep.now) c.in-Takeover.tcp)) c.args.keep.now.system (members_in (kept_in g.D.Disc.told c.args.keep.now)) c.args.entry.now _ c.args.keep.now c.takeover.new.self c.in-Takeover.is refl
    c.in_ok-takeover-in-Takeover.ensures.ok

pub raise-requires-clause-known : goal.raise-requires-clause-known
raise-requires-clause-known g c =
    let h = (subst (Can c.args.keep.now.system (kept_in g.D.Disc.told c.args.keep.now)) c.in-Raise.is c.requires.can).known in
    search (rules, h)

pub raise-requires-clause-alone : goal.raise-requires-clause-alone
raise-requires-clause-alone g c =
    let h = (subst (Can c.args.keep.now.system (kept_in g.D.Disc.told c.args.keep.now)) c.in-Raise.is c.requires.can).mode in
    search (rules, h)

pub returns-in_ok-raise-in-Raise-clause-ok : goal.returns-in_ok-raise-in-Raise-clause-ok
returns-in_ok-raise-in-Raise-clause-ok g c =
    acted g.D.Disc.told (kept_raise c.in-Raise.tcp) c.args.keep.now.system (members_in (kept_in g.D.Disc.told c.args.keep.now)) c.args.entry.now _ c.args.keep.now c.raise.new.self c.in-Raise.is refl
    c.in_ok-raise-in-Raise.ensures.ok

pub end-requires : goal.end-requires
end-requires g c =
    let h = placed-known c.args.keep.now.system c.in-End.terminal (subst (Can c.args.keep.now.system (kept_in g.D.Disc.told c.args.keep.now)) c.in-End.is c.requires.can) in
    search (rules, h)

pub returns-in-End-clause-ok : goal.returns-in-End-clause-ok
returns-in-End-clause-ok g c =
    on-ok c.end.result c.end.ensures.ok
    (acted g.D.Disc.told (kept_end (tcp_of c.args.keep.now.system c.in-End.terminal) c.in-End.terminal c.in-End.ending) c.args.keep.now.system (members_in (kept_in g.D.Disc.told c.args.keep.now)) c.args.entry.now _ c.args.keep.now c.end.new.self c.in-End.is refl)
