use Rattle.std.proofs.Common.{refl, sym}
use Rattle.pathway.proofs.Calls.{ends-told, ends-usage}
use Rattle.pathway.proofs.top.call.Goals as goal

pub returns-in-Ok-None-clause-ends : goal.returns-in-Ok-None-clause-ends
returns-in-Ok-None-clause-ends g c =
    let none = rw c.in-Ok-None.field-0-is at c.in-Ok-None.ensures.says in
    ends-usage _ c.written.result c.usage_line.result.now (sym none) c.usage_line.ensures refl c.written.ensures.ends

pub returns-in-Ok-clause-ends : goal.returns-in-Ok-clause-ends
returns-in-Ok-clause-ends g c =
    let some = rw c.in-Ok-Some.field-0-is at c.in-Ok-Some.ensures.says in
    let writes = rw c.as_slice.ensures at c.written-in-Ok.ensures.ends in
    ends-told _ c.in-Ok.status c.written-in-Ok.result c.in-Ok.text c.in-Ok-Some.said (sym some) c.in-Ok.ensures.ok c.in-Ok.ensures.kept writes
