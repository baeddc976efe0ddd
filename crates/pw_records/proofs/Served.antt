-- How a system behaves over other records.
use Rattle.std.proofs.Common.{◌≡◌, ◌∙◌, ℕ, zero, suc, ◌+◌, ◌≤◌, List, [], ◌∷◌, length, map, Option, Some, None, refl, sym, ap, subst, arith, slice_get, option_map}
use Rattle.pw_code.specs.declared.file.FileInfo.{FileInfo}
use Rattle.pw_code.specs.declared.system.ClassInfo.{ClassInfo}
use Rattle.pw_code.specs.declared.system.System.{System}
use Rattle.pw_code.specs.declared.system.TermInfo.{TermInfo}
use Rattle.pw_code.specs.declared.verb.Verb.{Verb}
use Rattle.pw_code.specs.declared.verb.Verb.TheVariants as verb
use Rattle.pw_code_meaning.specs.Config.{Config, most_counted, starting, starting_server}
use Rattle.pw_code_meaning.specs.OfSystem.{asked_of, behaviour, file_told, image_of, key_length, number_by, operation_of, processes_by, records_by, served_alone, served_by, serves, told}
use Rattle.pw_code_meaning.specs.Steps.{verb_of}
use Rattle.pw_event.specs.declared.script.FailLine.{FailLine}
use Rattle.pw_files.specs.Records.{IsFile}
use Rattle.pw_onecopy.specs.Behaviour.{Served}
use Rattle.pw_onecopy.specs.Operation.{answer_of, records_behind}
use Rattle.pw_onecopy.specs.Path.{FileResult, PathAnswer}
use Rattle.pw_onecopy.specs.Update.{upd}
use Rattle.pw_records.proofs.Filed.{put-file}
use Rattle.pw_records.proofs.Places.{alike-with, as-many, at-place, filed, keys-same}
use Rattle.pw_records.proofs.Sameness.{answers-same, put-same}
use Rattle.pw_records.specs.Records.{AreAlike, AreRecordsOf, files_with, over_records, with_records}
use Rattle.pw_tree_meaning.specs.Program.{key_length_by}

none-past : (files : List FileInfo) (f : ℕ) → slice_get files f ≡ None → length files ≤ f
none-past [] f is = omega arith
none-past (file ∷ files) zero is = absurd (cc)
none-past (file ∷ files) (suc f) is = omega (arith, none-past files f is)

module _ (script : List FailLine) (system : System) (own : List FileInfo) (alike : AreAlike own system.files) where
  abbrev other : System
  other = record system { files = own }

  keys : key_length other ≡ key_length system
  keys i f = keys-same own system.files alike f i

  -- ---- servers

  served-by-same : (asked : Verb) (c : Config) (files : ℕ → List (List ℕ)) (next then : Config → (ℕ → List (List ℕ)) → Served)
      → next ≡ then → served_by other asked c files next ≡ served_by system asked c files then
  served-by-same verb.Show c files next then same = refl
  served-by-same (verb.Accept screen) c files next then same = refl
  served-by-same verb.Begin c files next then same = refl
  served-by-same (verb.Send class message) c files next then same = refl
  served-by-same verb.End c files next then same = refl
  served-by-same verb.Drop c files next then same = refl
  served-by-same verb.Redo c files next then same = refl
  served-by-same verb.Stop c files next then same = refl
  served-by-same (verb.Fault code) c files next then same = refl
  served-by-same (verb.File call) c files next then same = λ i.
      same i (answers-same system own i (put-same system own i (file_told (answer_of (keys i call.file) (files call.file) call.op call)) c) [])
      (upd files call.file (records_behind (keys i call.file) (files call.file) call))
  served-by-same (verb.Reply reply) c files next then same = refl

  serves-same : (n : ℕ) → serves other n ≡ serves system n
  serves-same zero = refl
  serves-same (suc n) = λ i c files. served-by-same (verb_of system c) c files (serves other n) (serves system n) (serves-same n) i

  operation-same : (class : Option ClassInfo) (message : List ℕ) (done : List FileResult) → operation_of other class message done ≡ operation_of system class message done
  operation-same None message done = refl
  operation-same (Some class) message done = λ i. verb_of system (answers-same system own i (starting_server system class.server message) (map file_told done))

  alone-same : (class : Option ClassInfo) (message : List ℕ) (files : ℕ → List (List ℕ)) → served_alone other class message files ≡ served_alone system class message files
  alone-same None message files = refl
  alone-same (Some class) message files = λ i.
      serves-same (most_counted + 1) i (answers-same system own i (starting_server system class.server message) (map file_told [])) files

  -- ---- terminals

  asked-same : (terminal : Option TermInfo) (path : List PathAnswer) → asked_of other terminal path ≡ asked_of system terminal path
  asked-same None path = refl
  asked-same (Some terminal) path = λ i. verb_of system (answers-same system own i (starting system terminal.program) (map (told terminal.entries) path))

  image-same : (terminal : Option TermInfo) (path : List PathAnswer) → image_of other terminal path ≡ image_of system terminal path
  image-same None path = refl
  image-same (Some terminal) path = λ i. (answers-same system own i (starting system terminal.program) (map (told terminal.entries) path)).rest.screen

  -- ---- all of it

  pub behaviour-alike : behaviour script other ≡ over_records (behaviour script system) (λ f. records_by (slice_get own f))
  behaviour-alike i = record {
    terminals = length system.terminals;
    pairs = length system.tcps;
    pair_of = λ t. number_by (λ terminal. terminal.tcp) (slice_get system.terminals t);
    max_restarts = λ t. number_by (λ terminal. terminal.max_restarts) (slice_get system.terminals t);
    entries = λ t. number_by (λ terminal. length terminal.entries) (slice_get system.terminals t);
    ask = λ t path. asked-same (slice_get system.terminals t) path i;
    image = λ t path. image-same (slice_get system.terminals t) path i;
    classes = length system.classes;
    processes = λ c. processes_by (slice_get system.classes c);
    ops = λ c message done. operation-same (slice_get system.classes c) message done i;
    serve = λ c message files. alone-same (slice_get system.classes c) message files i;
    files = as-many own system.files alike i;
    key_length = keys i;
    records = λ f. records_by (slice_get own f);
    rule = system.rule;
    script = script;
  }

-- ---- the same files with other records

module _ (system : System) (records : ℕ → List (List ℕ)) (are : AreRecordsOf system records) where
  pub records-are : (f : ℕ) → records_by (slice_get (files_with system.files records) f) ≡ records f
  records-are f = ap records_by (at-place system.files records f) ∙ by (slice_get system.files f) refl
    where
      by : (file : Option FileInfo) → slice_get system.files f ≡ file → records_by (option_map (filed (records f)) file) ≡ records f
      by None is = sym (are.none f (none-past system.files f is))
      by (Some file) is = put-file file.key (records f) (subst (λ (o : Option FileInfo). IsFile (key_length_by o) (records f)) is (are.files f))

  pub behaviour-same : (script : List FailLine) → behaviour script (with_records system records) ≡ over_records (behaviour script system) records
  behaviour-same script =
      behaviour-alike script system (files_with system.files records) (alike-with system.files records)
      ∙ ap (over_records (behaviour script system)) (λ i f. records-are f i)
