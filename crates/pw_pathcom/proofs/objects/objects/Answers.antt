use Rattle.std.proofs.Common.{rules}
use Rattle.pw_base.specs.First.{Refuses}
use Rattle.pw_pathcom.specs.Objects.{objects_of}
use Rattle.pw_pathcom.proofs.Unknowns.{refused_add, starts_alone}
use Rattle.pw_pathcom.proofs.objects.objects.Goals as goal

pub returns-in_err-unless : goal.returns-in_err-unless
returns-in_err-unless c =
    let a = c.args in
    let refused : Refuses c.in_err-unless.field-0.0 (objects_of a.commands.now a.text.now a.first_line a.programs.now a.servers.now) =
    refused_add _ a.commands.now a.text.now a.first_line a.programs.now a.servers.now c.first_unknown.result c.first_unknown.ensures c.in_err-unless.ensures in
    search rules

pub returns : goal.returns
returns c =
    let a = c.args in
    rw (starts_alone a.commands.now a.text.now a.first_line a.programs.now a.servers.now c.first_unknown.result c.in_ok-first_bad_start.field-0 _ c.first_unknown.ensures c.in_ok-unless.ensures c.in_ok-first_bad_start.ensures) c.unless-2.ensures
