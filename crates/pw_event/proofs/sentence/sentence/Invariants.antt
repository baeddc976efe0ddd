use Rattle.std.proofs.Common.{◌≡◌, ◌++◌, drop}
use Rattle.pw_event.specs.Line.{sentence}
use Rattle.pw_event.proofs.Sentences.{behind, texts}
use Rattle.pw_event.proofs.sentence.sentence.Given as goal

abbrev pub invariant-loop-word : goal.invariant-loop-word
invariant-loop-word l = l.text ++ behind (texts (drop l.word-index l.rest)) ≡ sentence (texts l.words)
