-- The numbers, and then the changes.
use Rattle.std.proofs.Common.{rules, ◌≡◌, ◌++◌, length, ap, ◌∙◌, append_assoc}
use Rattle.std.specs.Int.{to_be_bytes, w32}
use Rattle.std.specs.List.{flat_map}
use Rattle.pw_image.proofs.Appending.{three}
use Rattle.pw_trail.specs.Body.{change_bytes}
use Rattle.pw_trail.proofs.write.put_unit.Goals as goal

pub returns-clause-bytes : goal.returns-clause-bytes
returns-clause-bytes c =
    let own = c.args.unit.now in
    let spelled = flat_map change_bytes own.changes in
    let first : c.extend.new.self ≡ c.args.made.now ++ to_be_bytes w32 own.terminal = search rules in
    let second : c.extend-2.new.self ≡ c.extend.new.self ++ to_be_bytes w32 own.unit = search rules in
    let counted : c.put_count.new.made ≡ c.extend-2.new.self ++ to_be_bytes w32 (length own.changes) = search rules in
    let listed : c.put_changes.new.made ≡ c.put_count.new.made ++ spelled = search rules in
    three _ _ _ _ (to_be_bytes w32 own.terminal) (to_be_bytes w32 own.unit) (to_be_bytes w32 (length own.changes) ++ spelled) first second
    (listed ∙ ap (λ l. l ++ spelled) counted ∙ append_assoc c.extend-2.new.self (to_be_bytes w32 (length own.changes)) spelled)
