use Rattle.std.proofs.Common.{sym, ap, ◌∙◌}
use Rattle.std.specs.Prelude.{is_some}
use Rattle.std.specs.Ordering.{nat_cmp}
use Rattle.std.specs.Cmp.Lexicographic.{slice_cmp}
use Rattle.std.specs.BTreeMap.{get_by}
use Rattle.pw_operands.proofs.Indexes.{number_of-insert}
use Rattle.pw_operands.proofs.index.put_number.Goals as goal

pub returns-in_ok-insert : goal.returns-in_ok-insert
returns-in_ok-insert c =
    number_of-insert c.args.index.now c.insert.new.self c.in_ok-key.key c.args.name.now c.args.number c.in_ok-key.ensures.items c.in_ok-insert.ensures.entries
    (ap (λ bytes. is_some (get_by (λ key. slice_cmp nat_cmp bytes key.items) c.args.index.now)) (sym c.as_slice.ensures.value) ∙ sym c.contains_key.ensures ∙ c.if-not-contains_key.true)
