-- What holds of every machine that runs the blocks of a deck: its files are files, and its paths are paths of the programs.
use Rattle.std.proofs.Common.{◌≡◌, ℕ, ◌+◌, ◌<◌, ◌≤◌, List, Some, refl, sym, subst, arith}
use Rattle.pw_code.specs.declared.verb.Verb.{Verb}
use Rattle.pw_code.specs.declared.verb.Verb.TheVariants as verb
use Rattle.pw_laws.proofs.AttemptFiles.{attempt-fine}
use Rattle.pw_laws.proofs.Paths.{IsPath-push}
use Rattle.pw_laws.specs.locking.Seen.{AreFiles}
use Rattle.pw_onecopy.proofs.Update.{upd_elim}
use Rattle.pw_onecopy.specs.Attempt.{Attempt}
use Rattle.pw_onecopy.specs.Behaviour.{Behaviour}
use Rattle.pw_onecopy.specs.Blocks.{SerialBlock, Out, Attempted, Done, AttemptEnding, Committed, Aborted, Restarted, Left}
use Rattle.pw_onecopy.specs.IsBehaviour.{IsBehaviour, IsPath}
use Rattle.pw_onecopy.specs.OneCopy.{AsksOut, LegalBlock, Machine, MayBe, Single, beginning, files_behind, next_attempt, run_block, single_behind, single_behind_out}
use Rattle.pw_onecopy.specs.Path.{Shown, Entry, entries_on}
use Rattle.pw_onecopy.specs.Update.{upd}

-- a started terminal has a path of its program, and no more restarts than it may have
pub record SingleOk (sys : Behaviour) (t : ℕ) (single : Single) : Type 0 where
  pub is_path : t < sys.terminals → IsPath sys t single.path
  pub few : single.restarts ≤ sys.max_restarts t

-- so have all terminals, and the files are files
pub record MachineOk (sys : Behaviour) (machine : Machine) : Type 0 where
  pub are_files : AreFiles sys machine.files
  pub terms : (t : ℕ) → SingleOk sys t (machine.terms t)

module _ (sys : Behaviour) (b : IsBehaviour sys) where
  -- at the beginning
  pub begins-ok : MachineOk sys (beginning sys)
  begins-ok = record {
    are_files = b.files;
    terms = λ t. record { is_path = λ known. record { known = known; suits = tt }; few = omega arith };
  }

  -- behind an answer outside units
  out-ok : (t : ℕ) (single : Single) (v : Verb) → t < sys.terminals → sys.ask t single.path ≡ v → AsksOut sys t single.path v
      → SingleOk sys t single → SingleOk sys t (single_behind_out sys t v single)
  out-ok t single verb.Show known asks may ok =
      record { is_path = λ _. IsPath-push sys t single.path Shown (ok.is_path known) (rw asks tt); few = ok.few }
  out-ok t single (verb.Accept screen) known asks may ok = record {
    is_path = λ _. IsPath-push sys t single.path (Entry (entries_on single.path + 1)) (ok.is_path known) (rw asks (refl, omega (arith, may)));
    few = ok.few;
  }
  out-ok t single verb.Begin known asks may ok = absurd may
  out-ok t single (verb.Send c message) known asks may ok = absurd may
  out-ok t single verb.End known asks may ok = absurd may
  out-ok t single verb.Drop known asks may ok = absurd may
  out-ok t single verb.Redo known asks may ok = absurd may
  out-ok t single verb.Stop known asks may ok = absurd may
  out-ok t single (verb.Fault x) known asks may ok = absurd may
  out-ok t single (verb.File call) known asks may ok = absurd may
  out-ok t single (verb.Reply reply) known asks may ok = absurd may

  -- behind an attempt
  attempted-ok : (t : ℕ) (single : Single) (at : Attempt) (how : AttemptEnding) → IsPath sys t at.path → MayBe sys t single at how
      → SingleOk sys t single → SingleOk sys t (single_behind how at single)
  attempted-ok t single at Committed path may ok = record { is_path = λ _. path; few = omega arith }
  attempted-ok t single at Aborted path may ok = record { is_path = λ _. path; few = omega arith }
  attempted-ok t single at Restarted path may ok = record { is_path = ok.is_path; few = omega (arith, may) }
  attempted-ok t single at Left path may ok = record { is_path = λ _. path; few = ok.few }

  files-ok : (how : AttemptEnding) (at : Attempt) (files : ℕ → List (List ℕ)) → AreFiles sys at.files → AreFiles sys files → AreFiles sys (files_behind how at files)
  files-ok Committed at files left are = left
  files-ok Aborted at files left are = are
  files-ok Restarted at files left are = are
  files-ok Left at files left are = are

  -- with a terminal changed
  terms-ok : (machine : Machine) → MachineOk sys machine → (t : ℕ) (single : Single) → SingleOk sys t single
      → (j : ℕ) → SingleOk sys j (upd machine.terms t single j)
  terms-ok machine ok t single new j =
      upd_elim machine.terms t single j (SingleOk sys j)
      (λ is. subst (λ (k : ℕ). SingleOk sys k single) (sym is) new)
      (λ _. ok.terms j)

  -- behind a block
  pub block-ok : (machine : Machine) (block : SerialBlock) → LegalBlock sys machine block → MachineOk sys machine → MachineOk sys (run_block sys machine block)
  block-ok machine (Out t) legal ok = record {
    are_files = ok.are_files;
    terms = terms-ok machine ok t (single_behind_out sys t (sys.ask t (machine.terms t).path) (machine.terms t))
        (out-ok t (machine.terms t) (sys.ask t (machine.terms t).path) legal.live.known refl legal.asks (ok.terms t));
  }
  block-ok machine (Attempted t n how j) legal ok =
      let single : Single = machine.terms t in
      let at : Attempt = next_attempt sys machine t j in
      let fine = attempt-fine sys b t single.path single.restarts ((ok.terms t).is_path legal.live.known) machine.files ok.are_files j legal.is_attempt in
      record {
        are_files = files-ok how at machine.files fine.are_files ok.are_files;
        terms = terms-ok machine ok t (single_behind how at single) (attempted-ok t single at how fine.is_path legal.may_be (ok.terms t));
      }
  block-ok machine (Done t ending) legal ok = record {
    are_files = ok.are_files;
    terms = terms-ok machine ok t (record (machine.terms t) { ending = Some ending })
        (record { is_path = (ok.terms t).is_path; few = (ok.terms t).few });
  }
