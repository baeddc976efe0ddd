use Rattle.std.proofs.Common.{ap, ◌∙◌}
use Rattle.pw_words.specs.Words.{word_place}
use Rattle.pw_forms.specs.Words.{mark_at}
use Rattle.pw_forms.proofs.Marks.{piece_mark}
use Rattle.pw_forms.proofs.words.word_mark.Goals as goal

pub returns : goal.returns
returns c = λ server.
    c.mark_at.ensures ∙ ap mark_at (c.find.ensures.place ∙ ap (λ words. word_place words c.args.word.now) c.piece_words.ensures)
    ∙ piece_mark c.args.word.now server
