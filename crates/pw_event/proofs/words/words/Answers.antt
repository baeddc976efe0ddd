use Rattle.std.proofs.Common.{◌≡◌, ◌++◌, map, ap, ◌∙◌, rules, tests}
use Rattle.std.specs.Prelude.{◌==◌, OnOk}
use Rattle.std.specs.List.{slice_split}
use Rattle.std.proofs.lemmas.Iterator.Splits.{YieldsList-from_slice_split}
use Rattle.pw_event.proofs.Extended.{told_extend}
use Rattle.pw_event.proofs.words.words.Goals as goal

pub returns : goal.returns
returns c =
    let all : OnOk c.extend.result (map (λ word. word.now) c.extend.new.self.items ≡ slice_split (λ byte. byte == 32) c.args.line.now) =
    told_extend (λ word. word.now) c.extend.result c.extend.ensures.ran
    (YieldsList-from_slice_split _ _ c.args.line.now c.split.ensures.rest c.split.ensures.done c.split.ensures.closure (λ x r q k. search (rules, tests)))
    (λ words same gives. ap (map (λ word. word.now)) (gives.0 ∙ ap (λ none. none ++ words) c.in_ok-words.ensures.items) ∙ same) in
    search rules
