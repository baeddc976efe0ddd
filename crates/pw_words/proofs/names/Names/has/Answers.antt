use Rattle.std.proofs.Common.{ℕ, sym, ◌∙◌}
use Rattle.std.specs.Prelude.{Vec, bytes_eq}
use Rattle.pw_words.proofs.Named.{any-map}
use Rattle.pw_words.proofs.names.Names.has.Goals as goal

pub returns : goal.returns
returns c =
    rw (← c.self.view_is)
    (c.contains.ensures ∙ sym (any-map (bytes_eq c.args.name.now) (λ (name : Vec ℕ _). name.items) c.self.inside.names.keys))
