-- What TMF tells of a system at the start is a disc of it.
use Rattle.std.proofs.Common.{◌≡◌, ℕ, List, [], ◌∷◌, Option, None, Some, refl}
use Rattle.std.specs.Prelude.{fold, slice_get}
use Rattle.pw_code.specs.declared.file.FileInfo.{FileInfo}
use Rattle.pw_code.specs.declared.system.System.{System}
use Rattle.pw_event.specs.declared.script.FailLine.{FailLine}
use Rattle.pw_files.specs.Records.{with_record}
use Rattle.pw_world_model.specs.Worlds.{IsDiscOf}
use Rattle.pw_tree_meaning.specs.OfDeck.{records_by}
use Rattle.pw_tree_meaning.specs.Program.{key_length_by}
use Rattle.pw_tmf.specs.Starting.{all_put, key_of_file, records_of_file, told_at_start}

key-same : (file : Option FileInfo) → key_of_file file ≡ key_length_by file
key-same None = refl
key-same (Some file) = refl

put-all : (n : ℕ) (records contents : List (List ℕ)) → all_put n records contents ≡ fold (with_record n) records contents
put-all n records [] = refl
put-all n records (content ∷ contents) = put-all n (with_record n records content) contents

records-same : (file : Option FileInfo) → records_of_file file ≡ records_by file
records-same None = refl
records-same (Some file) = put-all file.key [] file.records

pub starts : (system : System) (script : List FailLine) → IsDiscOf system script (told_at_start system)
starts system script = record {
  terminals = refl;
  files = refl;
  commits = refl;
  starts = record {
    rule = refl;
    keys = λ i f. key-same (slice_get system.files f) i;
    files = λ i f. records-same (slice_get system.files f) i;
    locks = refl;
    units = λ t. refl;
    ended = refl;
    idle = λ t none. refl;
  };
}
