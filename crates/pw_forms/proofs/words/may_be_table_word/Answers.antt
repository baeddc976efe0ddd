use Rattle.std.proofs.Common.{sym, ap, ◌∙◌}
use Rattle.std.specs.Char.{is_ascii_lowercase}
use Rattle.pw_forms.proofs.Ends.{no-letter, no-byte}
use Rattle.pw_forms.proofs.words.may_be_table_word.Goals as goal

pub returns-in-Some : goal.returns-in-Some
returns-in-Some c = λ none. no-letter c.args.word.now c.in-Some.field-0-1.now c.in-Some.last.now c.in-Some.ensures.cases.0
    (ap is_ascii_lowercase (sym c.to_ascii_lowercase.ensures.value) ∙ (sym c.is_ascii_lowercase.ensures.value ∙ none))

pub returns-in-None : goal.returns-in-None
returns-in-None c = λ none. no-byte c.args.word.now c.in-None.ensures.cases
