-- The run of a server by itself, on plain files and without locks or processes.
use Rattle.std.specs.Prelude.{ℕ, zero, suc, List, [], ◌∷◌, ◌++◌}
use Rattle.pw_code.specs.declared.verb.Verb.{Verb}
use Rattle.pw_code.specs.declared.verb.Verb.TheVariants as verb
use Rattle.pw_onecopy.specs.Behaviour.{Behaviour}
use Rattle.pw_onecopy.specs.Operation.{answer_of, records_behind}
use Rattle.pw_onecopy.specs.Path.{FileResult}
use Rattle.pw_onecopy.specs.Update.{upd}

-- a server at work by itself: the files as it leaves them, and what its operations were answered
pub record Play : Type 0 where
  pub files : ℕ → List (List ℕ)
  pub done : List FileResult

-- one operation by itself
abbrev pub play_operation : Behaviour → Verb → Play → Play
play_operation sys (verb.File call) at = record {
  files = upd at.files call.file
      (records_behind (sys.key_length call.file) (at.files call.file) call);
  done = at.done ++ answer_of (sys.key_length call.file) (at.files call.file) call.op call ∷ [];
}
play_operation sys _ at = at

-- the server of a class on a message and files, behind n operations
abbrev pub play_after : Behaviour → ℕ → List ℕ → (ℕ → List (List ℕ)) → ℕ → Play
play_after sys c message files zero = record { files = files; done = [] }
play_after sys c message files (suc n) =
    let at : Play = play_after sys c message files n in
    play_operation sys (sys.ops c message at.done) at
