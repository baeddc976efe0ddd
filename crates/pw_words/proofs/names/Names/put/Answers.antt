use Rattle.std.proofs.Common.{ℕ, not, map, sym, ap, ◌∙◌}
use Rattle.std.specs.Prelude.{Vec, bytes_eq}
use Rattle.pw_words.specs.Names.{has_name}
use Rattle.pw_words.proofs.Named.{not_twice, any-map, texts-insert, has_name-with}
use Rattle.pw_words.proofs.names.Names.put.Goals as goal

pub returns-clause-taken : goal.returns-clause-taken
returns-clause-taken c =
    rw (← c.self.view_is)
    (ap not c.in_ok-is_new.ensures.added ∙ not_twice _
    ∙ sym (any-map (bytes_eq c.args.name.items) (λ (name : Vec ℕ _). name.items) c.self.inside.names.keys))

pub returns-clause-names : goal.returns-clause-names
returns-clause-names c =
    rw (← c.self.view_is) (texts-insert c.self.inside.names.keys c.insert.new.self.keys c.args.name c.in_ok-is_new.ensures.keys)

pub returns-clause-words : goal.returns-clause-words
returns-clause-words c =
    rw (← c.self.view_is)
    (λ word. ap (λ names. has_name names word) (texts-insert c.self.inside.names.keys c.insert.new.self.keys c.args.name c.in_ok-is_new.ensures.keys)
    ∙ has_name-with (map (λ name. name.items) c.self.inside.names.keys) c.args.name.items word)
