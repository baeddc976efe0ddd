-- An operation of the disc leaves the units as they are named.
use Rattle.std.proofs.Common.{◌≡◌, ℕ, Bool, true, false, List, ◌∷◌, Option, Some, None, ◌∙◌, ⊎_elim, refl, sym, ap, cond}
use Rattle.std.proofs.lemmas.Bool.{cases_eq}
use Rattle.pw_class.specs.Queue.{Queue}
use Rattle.pw_code.specs.declared.file.FileCall.{FileCall}
use Rattle.pw_code.specs.declared.system.System.{System}
use Rattle.pw_code.specs.declared.unit.Unit as unit
use Rattle.pw_world_store.specs.Keeps.{IsKeep, is_run}
use Rattle.pw_onecopy.proofs.Update.{upd-other, upd-same}
use Rattle.pw_pair.specs.Pairs.{SeenPair}
use Rattle.pw_paired.specs.State.{BeforeImage}
use Rattle.pw_paired.specs.Units.{image_before, is_first_change}
use Rattle.pw_world_store.specs.declared.job.ProcessJob.{ProcessJob}
use Rattle.pw_world_store.specs.declared.seat.Seat.{Seat}
use Rattle.std.specs.Option.{option_map}
use Rattle.pw_tmf.specs.Answers.{Operates}
use Rattle.pw_tmf.specs.Leaving.{unit_told}
use Rattle.pw_tmf.specs.Operation.{after_operation, with_image}
use Rattle.pw_tmf.specs.Told.{Told, ToldUnit}
use Rattle.pw_tmf.specs.declared.answer.FileAnswer.{FileAnswer}
use Rattle.pw_tmf.specs.declared.answer.FileAnswer.TheVariants as answer

-- what no operation changes
pub record IsAlike (old new : Told) : Type 0 where
  pub terminals : new.terminals ≡ old.terminals
  pub files : new.file_count ≡ old.file_count
  pub units : (u : ℕ) → unit_told u (new.units u) ≡ unit_told u (old.units u)
  pub runs : (u : ℕ) → is_run (new.units u) ≡ is_run (old.units u)

-- a unit that may have one before-image more is named as before
by-test : (u : ℕ) (b : Bool) (own : ToldUnit) (more : List BeforeImage)
    → unit_told u (Some (cond b (record own { before = more }) own)) ≡ unit_told u (Some own)
by-test u true own more = refl
by-test u false own more = refl

named-same : (n : ℕ) (records : List (List ℕ)) (t u : ℕ) (call : FileCall) (own : Option ToldUnit)
    → unit_told u (option_map (with_image n records t call) own) ≡ unit_told u own
named-same n records t u call None = refl
named-same n records t u call (Some own) = by-test u (is_first_change n records t call own.before) own (image_before n records t call ∷ own.before)

-- and its attempt goes on
still-run : (b : Bool) (own : ToldUnit) (more : List BeforeImage) → (cond b (record own { before = more }) own).running ≡ own.running
still-run true own more = refl
still-run false own more = refl

run-same : (n : ℕ) (records : List (List ℕ)) (t : ℕ) (call : FileCall) (own : Option ToldUnit)
    → is_run (option_map (with_image n records t call) own) ≡ is_run own
run-same n records t call None = refl
run-same n records t call (Some own) = still-run (is_first_change n records t call own.before) own (image_before n records t call ∷ own.before)

pub alike : (result : FileAnswer) (old : Told) (own : unit.Unit) (call : FileCall) (new : Told) → Operates result old own call new → IsAlike old new
alike (answer.Done status content) old own call new did =
    let is : new ≡ after_operation old own call = did.2 in
    record {
      terminals = ap (λ (d : Told). d.terminals) is;
      files = ap (λ (d : Told). d.file_count) is;
      units = λ u.
          ap (λ (d : Told). unit_told u (d.units u)) is
          ∙ ⊎_elim
          (λ same.
          ap (unit_told u) (upd-same old.units own.terminal _ u same)
          ∙ (named-same (old.key_length call.file) (old.files call.file) own.terminal u call (old.units own.terminal)
          ∙ ap (λ k. unit_told u (old.units k)) (sym same)))
          (λ ne. ap (unit_told u) (upd-other old.units own.terminal _ u ne))
          (cases_eq u own.terminal);
      runs = λ u.
          ap (λ (d : Told). is_run (d.units u)) is
          ∙ ⊎_elim
          (λ same.
          ap is_run (upd-same old.units own.terminal _ u same)
          ∙ (run-same (old.key_length call.file) (old.files call.file) own.terminal call (old.units own.terminal)
          ∙ ap (λ k. is_run (old.units k)) (sym same)))
          (λ ne. ap is_run (upd-other old.units own.terminal _ u ne))
          (cases_eq u own.terminal);
    }
alike (answer.Conflict holder) old own call new did = record {
  terminals = ap (λ (d : Told). d.terminals) did.1;
  files = ap (λ (d : Told). d.file_count) did.1;
  units = λ u. ap (λ (d : Told). unit_told u (d.units u)) did.1;
  runs = λ u. ap (λ (d : Told). is_run (d.units u)) did.1;
}
alike answer.Failed old own call new did = record {
  terminals = ap (λ (d : Told). d.terminals) did.stays;
  files = ap (λ (d : Told). d.file_count) did.stays;
  units = λ u. ap (λ (d : Told). unit_told u (d.units u)) did.stays;
  runs = λ u. ap (λ (d : Told). is_run (d.units u)) did.stays;
}
alike answer.Memory old own call new did = record {
  terminals = ap (λ (d : Told). d.terminals) did;
  files = ap (λ (d : Told). d.file_count) did;
  units = λ u. ap (λ (d : Told). unit_told u (d.units u)) did;
  runs = λ u. ap (λ (d : Told). is_run (d.units u)) did;
}

-- each part is as before but the disc, whose units are named as before
pub keep-disc : (system : System) (seats : List Seat) (disc new : Told) (book : List Queue) (jobs : List (List (Option ProcessJob))) (pairs : List SeenPair)
    → IsKeep system seats disc book jobs pairs → IsAlike disc new → IsKeep system seats new book jobs pairs
keep-disc system seats disc new book jobs pairs old like = record {
  valid = old.valid;
  terminals = old.terminals;
  classes = old.classes;
  job_lists = old.job_lists;
  pairs_are = old.pairs_are;
  disc_terminals = like.terminals ∙ old.disc_terminals;
  disc_files = like.files ∙ old.disc_files;
  units = λ t lt. old.units t lt ∙ sym (like.units t);
  runs = λ t lt. old.runs t lt ∙ sym (like.runs t);
  members = old.members;
  verbs = old.verbs;
  staffed = old.staffed;
  job_verbs = old.job_verbs;
}
