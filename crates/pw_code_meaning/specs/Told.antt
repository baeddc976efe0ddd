-- What the first program of a system asks and shows after answers, as the worked examples tell it.
use Rattle.std.specs.Prelude.{ℕ, List, take, drop}
use Rattle.pw_code.specs.declared.system.System.{System}
use Rattle.pw_code.specs.declared.verb.Answer.{Answer}
use Rattle.pw_code.specs.declared.verb.Verb.{Verb}
use Rattle.pw_code_meaning.specs.Config.{starting}
use Rattle.pw_code_meaning.specs.Runs.{config_after_answers}
use Rattle.pw_code_meaning.specs.Steps.{verb_of}

-- the verb that the first program asks after answers
abbrev pub asked : System → List Answer → Verb
asked system answers = verb_of system (config_after_answers system (starting system 0) answers)

-- the first cell of row 24
abbrev pub row : System → List Answer → List ℕ
row system answers = take 1 (drop 1840 (config_after_answers system (starting system 0) answers).rest.screen)
