-- Equal records do not differ.
use Rattle.std.proofs.Common.{◌≡◌, List, ◌++◌, sym, ap, ◌∙◌}
use Rattle.std.proofs.lemmas.List.{append-nil}
use Rattle.std.proofs.lemmas.Slice.Eq.{bytes_eq-Decides}
use Rattle.pw_image.specs.Records.{records_between}
use Rattle.pw_image.specs.declared.changed.Changed.{Changed}
use Rattle.pw_image.proofs.Between.{none-between}
use Rattle.pw_image.proofs.changes.add_between.Goals as goal

pub returns-then-eq : goal.returns-then-eq
returns-then-eq c =
    let items = c.args.changed.now.items in
    let old = c.args.old.now in
    let new = c.args.new.now in
    let from = c.args.from in
    let count = c.args.count in
    let same : records_between old from count ≡ records_between new from count =
    sym c.records_between.ensures
    ∙ ((bytes_eq-Decides c.records_between.result.now c.records_between-2.result.now).0 (sym c.eq.ensures ∙ c.if-eq.true)
    ∙ c.records_between-2.ensures) in
    sym (append-nil items) ∙ ap (λ (l : List Changed). items ++ l) (sym (none-between old new from count same))
