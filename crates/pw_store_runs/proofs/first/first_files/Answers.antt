use Rattle.std.proofs.Common.{ap, sym, subst, ◌∙◌, All}
use Rattle.pw_code.specs.Valid.{IsDeckFile}
use Rattle.pw_compiled_deck.proofs.Decks.{refuses, whole-is}
use Rattle.pw_compiled_deck.specs.declared.deck.Deck.{Deck}
use Rattle.pw_store_runs.proofs.first.first_files.Goals as goal

pub returns-in-Err-clause-fault : goal.returns-in-Err-clause-fault
returns-in-Err-clause-fault c = refuses c.args.bytes.now c.in-Err.refusal c.in-Err.ensures.gives

pub returns-in-Ok-files-clause-ok : goal.returns-in-Ok-files-clause-ok
returns-in-Ok-files-clause-ok c =
    let whole = c.in-Ok.deck in
    let of = whole-is c.args.bytes.now whole c.in-Ok.ensures.gives in
    record {
      deck = of.deck;
      says = of.says;
      are = c.in-Ok-files.ensures ∙ ap (λ (w : Deck). w.system.files) of.is;
      each = subst (All IsDeckFile) (sym c.in-Ok-files.ensures) c.in-Ok.ensures.valid.files;
    }
