-- A disc whose trail was read.
use Rattle.std.proofs.Common.{ℕ, ◌∙◌, refl, sym, ap, subst, List, [], Ok}
use Rattle.std.proofs.lemmas.Bool.{false≢true}
use Rattle.pw_code.specs.declared.lock.LockRule.{LockRule}
use Rattle.pw_code.specs.declared.system.System.{System}
use Rattle.pw_code.specs.declared.verb.Verb.TheVariants as verb
use Rattle.pw_files.specs.Records.{IsFile}
use Rattle.pw_onecopy.specs.Behaviour.{Behaviour, Fault}
use Rattle.pw_paired.specs.State.{starting}
use Rattle.pw_tmf.specs.Committed.{committed}
use Rattle.pw_tmf.specs.Told.{Told}
use Rattle.pw_trail.specs.Committing.{LeadsTo}
use Rattle.pw_trail.specs.Files.{files_after, files_read, keys_of, told_with}
use Rattle.pw_trail.specs.Format.{units_in}
use Rattle.pw_trail.specs.Orderly.{IsOrderly}
use Rattle.pw_trail.specs.Restoring.{HasFiles, IsReadBack}
use Rattle.pw_trail.proofs.Orderly.{committed-are}

-- a system without terminals and classes, with these files
files-alone : LockRule → (ℕ → ℕ) → (ℕ → List (List ℕ)) → Behaviour
files-alone rule key_length records = record {
  terminals = 0;
  pairs = 0;
  pair_of = λ t. 0;
  max_restarts = λ t. 0;
  entries = λ t. 0;
  ask = λ t path. verb.Stop;
  image = λ t path. [];
  classes = 0;
  processes = λ c. 0;
  ops = λ c message done. verb.Stop;
  serve = λ c message files. Fault 0;
  files = 0;
  key_length = key_length;
  records = records;
  rule = rule;
  script = [];
}

-- no unit has begun
fresh : (system : System) (files : ℕ → List (List ℕ)) → ((f : ℕ) → IsFile (keys_of system.files f) (files f)) → IsOrderly (told_with system files)
unfolding files-alone
fresh system files are =
    let sys : Behaviour = files-alone system.rule (keys_of system.files) files in
    record {
      sys = sys;
      state = starting sys;
      tells = record { rule = refl; keys = refl; files = refl; locks = refl; units = λ t. refl; ended = refl; idle = λ t none. refl };
      files = are;
      places = tt;
      records = tt;
      locked = λ t f key there. absurd (false≢true there);
      single = λ t o f key there other. absurd (false≢true there);
    }

module _ (system : System) (bytes : List ℕ) (told : Told) (read : IsReadBack system (units_in system.files bytes) told) where
  pub opened-orderly : IsOrderly told
  opened-orderly = subst IsOrderly (sym read.restored.is) (fresh system (files_after system.files read.units) read.restored.files)

  pub opened-of : HasFiles system.files told
  opened-of = record { count = ap (λ (t : Told). t.file_count) read.restored.is; keys = ap (λ (t : Told). t.key_length) read.restored.is }

  pub opened-leads : LeadsTo system.files told bytes
  unfolding files-alone fresh
  opened-leads =
      ap (files_read system.files) read.reads
      ∙ ap Ok (sym (ap committed read.restored.is ∙ committed-are (told_with system (files_after system.files read.units)) (fresh system (files_after system.files read.units) read.restored.files)))
