use Rattle.std.proofs.Common.{sym, ap, ◌∙◌}
use Rattle.std.specs.Prelude.{bytes_eq, is_some}
use Rattle.indexmap.specs.IndexMap.{get_by}
use Rattle.pw_data.proofs.Indexes.{number_of-insert}
use Rattle.pw_data.proofs.index.put_number.Goals as goal

pub returns-in_ok-insert : goal.returns-in_ok-insert
returns-in_ok-insert c =
    number_of-insert c.args.index.now c.insert.new.self c.in_ok-key.key c.args.name.now c.args.number c.in_ok-key.ensures c.in_ok-insert.ensures.entries
    (ap (λ bytes. is_some (get_by (λ key. bytes_eq bytes key.items) c.args.index.now)) (sym c.as_slice.ensures.value) ∙ sym c.contains_key.ensures ∙ c.if-not-contains_key.true)
