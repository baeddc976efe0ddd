-- What the code of a program answers.
use Rattle.std.specs.Prelude.{◌≡◌, true, List}
use Rattle.pw_code.specs.declared.system.System.{System}
use Rattle.pw_code.specs.declared.verb.Answer.{Answer}
use Rattle.pw_code_meaning.specs.Config.{Config}
use Rattle.pw_code_meaning.specs.Runs.{Comes, at_verb}
use Rattle.pw_code_meaning.specs.Steps.{verb_of}
use Rattle.pw_tree_meaning.specs.Runs as tree
use Rattle.pw_tree_meaning.specs.State.{Out}

-- over these answers the code comes to the verb that the tree asks, and shows the screen that it shows
pub record AnswersAs (system : System) (start : Config) (answers : List Answer) (out : Out) : Type 0 where
  pub at : Config
  pub comes : Comes system start answers at
  pub stands : at_verb at ≡ true
  pub asks : verb_of system at ≡ tree.verb_of out
  pub shows : at.rest.screen ≡ tree.asked_screen out
