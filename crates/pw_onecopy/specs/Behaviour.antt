-- How a system behaves: all that the paired system and the one-copy machine know of a deck. It is
-- made from a deck's system and its failure lines, which the one-copy machine never reads.
use Rattle.std.specs.Prelude.{ℕ, List}
use Rattle.pw_code.specs.declared.lock.LockRule.{LockRule}
use Rattle.pw_code.specs.declared.verb.Verb.{Verb}
use Rattle.pw_event.specs.declared.script.FailLine.{FailLine}
use Rattle.pw_onecopy.specs.Path.{PathAnswer, FileResult}

-- what a server's run comes to by itself: its reply and the files that it leaves, or a run fault
pub data Served : Type 0 where
  Reply : (reply : List ℕ) (files : ℕ → List (List ℕ)) → Served
  Fault : (code : ℕ) → Served

-- The terminals, pairs, classes and files of a deck, by their numbers from 0, what its programs ask
-- and show, and its failure lines. Of a terminal, class or file that is not there the functions
-- answer 0, the verb Stop, the run fault 0, a screen without cells, a file without records and keys
-- of 1 character; no step reads these answers.
pub record Behaviour : Type 0 where
  -- the number of started terminals
  pub terminals : ℕ
  -- the number of pairs
  pub pairs : ℕ
  -- the pair of a terminal
  pub pair_of : ℕ → ℕ
  -- how often a unit of a terminal may restart, its MAXTMFRESTARTS
  pub max_restarts : ℕ → ℕ
  -- the number of a terminal's entry lines
  pub entries : ℕ → ℕ
  -- the next verb of a terminal's program after a path
  pub ask : ℕ → List PathAnswer → Verb
  -- the cells of a terminal's screen at the verb that its program asks after a path
  pub image : ℕ → List PathAnswer → List ℕ
  -- the number of classes
  pub classes : ℕ
  -- the number of processes of a class
  pub processes : ℕ → ℕ
  -- the next verb of a class's server on a message, after a list of file answers
  pub ops : ℕ → List ℕ → List FileResult → Verb
  -- what a class's server comes to on a message and files, run by itself
  pub serve : ℕ → List ℕ → (ℕ → List (List ℕ)) → Served
  -- the number of files
  pub files : ℕ
  -- the length of a file's keys
  pub key_length : ℕ → ℕ
  -- the records of a file in the deck, in the order of their keys
  pub records : ℕ → List (List ℕ)
  -- the rule of locking
  pub rule : LockRule
  -- the failure lines
  pub script : List FailLine
