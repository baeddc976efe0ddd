use Rattle.std.proofs.Common.{◌≡◌, subst}
use Rattle.std.specs.Prelude.{IfOk}
use Rattle.pw_tmf.specs.Restored.{changes_of}
use Rattle.pw_tmf.specs.Told.{Told}
use Rattle.pw_tmf.proofs.tmf.Tmf.changes.Goals as goal

pub returns-clause-changes : goal.returns-clause-changes
returns-clause-changes c = subst (λ (t : Told). IfOk c.changes_settled.result (λ changes. changes.items ≡ changes_of t c.args.terminal)) c.settle.ensures.told c.changes_settled.ensures
