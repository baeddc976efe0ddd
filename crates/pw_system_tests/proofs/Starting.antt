-- A disc that counts faults is one of the system where the disc inside is.
use Rattle.std.proofs.Common.{◌≡◌, ◌∙◌, ℕ, List, Result, Ok, Err, ap, subst, sym}
use Rattle.std.specs.Prelude.{IfOk}
use Rattle.pw_code.specs.declared.system.System.{System}
use Rattle.pw_event.specs.declared.script.FailLine.{FailLine}
use Rattle.pw_world_model.specs.Worlds.{IsDiscOf}
use Rattle.pw_world_model.proofs.Starts.{starts}
use Rattle.pw_tmf.specs.Faulty.{with_faults}
use Rattle.pw_tmf.specs.Starting.{told_at_start}
use Rattle.pw_tmf.specs.Tmf.{TmfState, told_of}
use Rattle.pw_tmf.specs.Told.{Told}
use Rattle.pw_tmf.specs.declared.faulty.Faulty.{Faulty}

counting : (system : System) (script : List FailLine) (n : ℕ) (told : Told)
    → IsDiscOf system script told → IsDiscOf system script (with_faults n told)
counting system script n told is = record {
  terminals = is.terminals;
  files = is.files;
  commits = is.commits;
  starts = record {
    rule = is.starts.rule;
    keys = is.starts.keys;
    files = is.starts.files;
    locks = is.starts.locks;
    units = is.starts.units;
    ended = is.starts.ended;
    idle = is.starts.idle;
  };
}

-- one that is made over what TMF tells at the start
pub counted : {E : Type 0} (system : System) (tmf : TmfState) (result : Result (Faulty TmfState) E)
    → told_of tmf ≡ told_at_start system → IfOk result (λ disc. disc.inner ≡ tmf)
    → IfOk result (λ disc. (script : List FailLine)
    → IsDiscOf system script (with_faults disc.calls.faults (told_of disc.inner)))
counted system tmf (Ok disc) start is = λ script.
    counting system script disc.calls.faults (told_of disc.inner)
    (subst (IsDiscOf system script) (sym (ap told_of is ∙ start)) (starts system script))
counted system tmf (Err fault) start is = tt
