use Rattle.std.proofs.Common.{◌≡◌, List, ℕ, subst}
use Rattle.std.specs.Prelude.{IfOk}
use Rattle.pw_words.specs.Names.{has_name as has_name_as_written}
use Rattle.pw_data.proofs.Named.{named-folded}
use Rattle.pw_divisions.proofs.names.put.Goals as goal

pub returns-clause-taken : goal.returns-clause-taken
returns-clause-taken c =
    let P : List ℕ → Type 0 = λ key. IfOk c.put.result (λ taken. taken ≡ has_name_as_written c.args.names.now key) in
    subst P c.in_ok-key.ensures c.put.ensures.taken

pub returns-clause-names : goal.returns-clause-names
returns-clause-names c = named-folded c.put.result c.args.names.now c.put.new.self c.args.name.now c.in_ok-key.key.items c.in_ok-key.ensures c.put.ensures.words
