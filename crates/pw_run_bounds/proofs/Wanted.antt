-- When a checkpoint is wanted.
use Rattle.std.proofs.Common.{◌≡◌, ⊎_elim, Bool, true, false, not, ◌&&◌, ◌||◌, is_none, List, [], ◌∷◌, ◌++◌, Option, Some, None, refl, ap, ◌∙◌, ℕ, ◌≤◌, arith}
use Rattle.std.proofs.lemmas.Bool.{cases_Bool, and_from}
use Rattle.pw_base.proofs.Plain.{or-true}
use Rattle.pw_code.specs.declared.verb.Verb.{Verb}
use Rattle.pw_code.specs.declared.verb.Verb.TheVariants as verb
use Rattle.pw_laws.proofs.decided.Terminals.{end_held, start_held}
use Rattle.pw_laws.proofs.decided.Verbs.{beginning}
use Rattle.pw_laws.proofs.induction.Views.{View, path_in, verb_in}
use Rattle.pw_laws.proofs.restarts.Counting.{weight}
use Rattle.pw_laws.specs.legal.Terminals.{holds_end, holds_start}
use Rattle.pw_laws.specs.legal.Verbs.{begins_unit}
use Rattle.pw_onecopy.specs.Attempt.{BeginsUnit}
use Rattle.pw_onecopy.specs.Behaviour.{Behaviour}
use Rattle.pw_onecopy.specs.Path.{PathAnswer, unit_number}
use Rattle.pw_paired.specs.Raising.{with_message}
use Rattle.pw_paired.specs.State.{BackupCopy, End, Message, Start}
use Rattle.pw_paired.specs.Terminal.{HoldsEnd, HoldsStart, closing_answer}
use Rattle.pw_paired.specs.Units.{attempt_of}
use Rattle.pw_run_bounds.proofs.Left.{is_wanted, lacks_end, lacks_start, weight-few}

not-start : (memory : Option BackupCopy) (path : List PathAnswer) → (¬ HoldsStart memory (unit_number path) path) → holds_start memory (unit_number path) path ≡ false
not-start memory path lacking =
    ⊎_elim (λ is. absurd (lacking ((start_held memory (unit_number path) path).0 is))) (λ is. is) (cases_Bool (holds_start memory (unit_number path) path))

not-end : (memory : Option BackupCopy) (path : List PathAnswer) → (¬ HoldsEnd memory path) → holds_end memory path ≡ false
not-end memory path lacking =
    ⊎_elim (λ is. absurd (lacking ((end_held memory path).0 is))) (λ is. is) (cases_Bool (holds_end memory path))

-- a verb that begins a unit closes none
begins-closes : (asked : Verb) (path : List PathAnswer) → BeginsUnit asked path → closing_answer asked ≡ None
begins-closes verb.Begin path begins = refl
begins-closes (verb.Send class message) path begins = refl
begins-closes verb.Show path begins = absurd begins
begins-closes (verb.Accept screen) path begins = absurd begins
begins-closes verb.End path begins = absurd begins
begins-closes verb.Drop path begins = absurd begins
begins-closes verb.Redo path begins = absurd begins
begins-closes verb.Stop path begins = absurd begins
begins-closes (verb.Fault x) path begins = absurd begins
begins-closes (verb.File call) path begins = absurd begins
begins-closes (verb.Reply reply) path begins = absurd begins

-- and one that closes one begins none
closes-begins : (asked : Verb) (path : List PathAnswer) (a : PathAnswer) → closing_answer asked ≡ Some a → begins_unit asked path ≡ false
closes-begins verb.Begin path a closes = absurd cc
closes-begins (verb.Send class message) path a closes = absurd cc
closes-begins verb.Show path a closes = absurd cc
closes-begins (verb.Accept screen) path a closes = absurd cc
closes-begins verb.End path a closes = refl
closes-begins verb.Drop path a closes = refl
closes-begins verb.Redo path a closes = absurd cc
closes-begins verb.Stop path a closes = absurd cc
closes-begins (verb.Fault x) path a closes = absurd cc
closes-begins (verb.File call) path a closes = absurd cc
closes-begins (verb.Reply reply) path a closes = absurd cc

-- what the backup holds is not lacking
held-start : (memory : Option BackupCopy) (path : List PathAnswer) (b : Bool) → holds_start memory (unit_number path) path ≡ true → lacks_start memory path b ≡ false
held-start memory path true held = ap not held
held-start memory path false held = refl

-- where it holds nothing, nothing more is lacking with something
fewer-lacking : (memory : Option BackupCopy) (path : List PathAnswer) (begins : Bool) (closes : Option PathAnswer)
    → weight (lacks_start memory path begins || lacks_end memory path closes) ≤ weight (lacks_start None path begins || lacks_end None path closes)
fewer-lacking memory path true closes = weight-few (lacks_start memory path true || lacks_end memory path closes)
fewer-lacking memory path false None = omega arith
fewer-lacking memory path false (Some a) = weight-few (lacks_end memory path (Some a))

module _ (sys : Behaviour) (t : ℕ) (v : View) where
  -- where it is wanted at the begin of a unit
  pub start-wanted : v.flight ≡ None → attempt_of v.unit ≡ None → BeginsUnit (verb_in sys t v) (path_in v)
      → (¬ HoldsStart v.memory (unit_number (path_in v)) (path_in v)) → is_wanted sys t v ≡ true
  start-wanted none idle begins lacking =
      let begun : (is_none (attempt_of v.unit) && begins_unit (verb_in sys t v) (path_in v)) ≡ true =
      and_from (is_none (attempt_of v.unit)) (begins_unit (verb_in sys t v) (path_in v)) (ap is_none idle) ((beginning (verb_in sys t v) (path_in v)).1 begins) in
      ap (λ (f : Option Message). lacks_start (with_message f v.memory) (path_in v) (is_none (attempt_of v.unit) && begins_unit (verb_in sys t v) (path_in v)) || lacks_end (with_message f v.memory) (path_in v) (closing_answer (verb_in sys t v))) none
      ∙ (ap (λ (b : Bool). lacks_start v.memory (path_in v) b || lacks_end v.memory (path_in v) (closing_answer (verb_in sys t v))) begun
      ∙ ap (λ (b : Bool). not b || lacks_end v.memory (path_in v) (closing_answer (verb_in sys t v))) (not-start v.memory (path_in v) lacking))

  -- and no more when it is in flight
  pub start-sent : BeginsUnit (verb_in sys t v) (path_in v) → is_wanted sys t (record v { flight = Some (Start (unit_number (path_in v)) (path_in v)) }) ≡ false
  start-sent begins =
      let copy : BackupCopy = record { unit = unit_number (path_in v); start = path_in v; end = None } in
      let held : holds_start (Some copy) (unit_number (path_in v)) (path_in v) ≡ true =
      (start_held (Some copy) (unit_number (path_in v)) (path_in v)).1 (record { held = copy; is_held = refl; number_is = refl; path_is = refl }) in
      ap (λ (b : Bool). b || lacks_end (Some copy) (path_in v) (closing_answer (verb_in sys t v)))
      (held-start (Some copy) (path_in v) (is_none (attempt_of v.unit) && begins_unit (verb_in sys t v) (path_in v)) held)
      ∙ ap (lacks_end (Some copy) (path_in v)) (begins-closes (verb_in sys t v) (path_in v) begins)

  -- where it is wanted at the end of a transaction
  pub end-wanted : (a : PathAnswer) → v.flight ≡ None → closing_answer (verb_in sys t v) ≡ Some a → (¬ HoldsEnd v.memory (path_in v ++ a ∷ [])) → is_wanted sys t v ≡ true
  end-wanted a none closes lacking =
      let begins : Bool = is_none (attempt_of v.unit) && begins_unit (verb_in sys t v) (path_in v) in
      ap (λ (f : Option Message). lacks_start (with_message f v.memory) (path_in v) begins || lacks_end (with_message f v.memory) (path_in v) (closing_answer (verb_in sys t v))) none
      ∙ (ap (λ (c : Option PathAnswer). lacks_start v.memory (path_in v) begins || lacks_end v.memory (path_in v) c) closes
      ∙ (ap (λ (b : Bool). lacks_start v.memory (path_in v) begins || not b) (not-end v.memory (path_in v ++ a ∷ []) lacking)
      ∙ or-true (lacks_start v.memory (path_in v) begins)))

  -- and no more when it is in flight to a backup that holds the terminal
  pub end-sent : (a : PathAnswer) (held : BackupCopy) → v.memory ≡ Some held → closing_answer (verb_in sys t v) ≡ Some a
      → is_wanted sys t (record v { flight = Some (End (path_in v ++ a ∷ [])) }) ≡ false
  end-sent a held there closes =
      let path : List PathAnswer = path_in v ++ a ∷ [] in
      let copy : BackupCopy = record held { end = Some path } in
      let is : holds_end (Some copy) path ≡ true = (end_held (Some copy) path).1 (record { held = copy; is_held = refl; path_is = refl }) in
      ap (λ (memory : Option BackupCopy). lacks_start (with_message (Some (End path)) memory) (path_in v) (is_none (attempt_of v.unit) && begins_unit (verb_in sys t v) (path_in v)) || lacks_end (with_message (Some (End path)) memory) (path_in v) (closing_answer (verb_in sys t v))) there
      ∙ (ap (λ (b : Bool). lacks_start (Some copy) (path_in v) (is_none (attempt_of v.unit) && b) || lacks_end (Some copy) (path_in v) (closing_answer (verb_in sys t v))) (closes-begins (verb_in sys t v) (path_in v) a closes)
      ∙ (ap (λ (b : Bool). lacks_start (Some copy) (path_in v) b || lacks_end (Some copy) (path_in v) (closing_answer (verb_in sys t v))) (and-none (is_none (attempt_of v.unit)))
      ∙ (ap (lacks_end (Some copy) (path_in v)) closes ∙ ap not is)))
    where
      and-none : (b : Bool) → (b && false) ≡ false
      and-none true = refl
      and-none false = refl

  -- a copy makes no checkpoint wanted
  pub copy-wanted : (message : Message) → v.flight ≡ None → v.memory ≡ None → weight (is_wanted sys t (record v { flight = Some message })) ≤ weight (is_wanted sys t v)
  copy-wanted message none lacking =
      let begins : Bool = is_none (attempt_of v.unit) && begins_unit (verb_in sys t v) (path_in v) in
      let before : is_wanted sys t v ≡ (lacks_start None (path_in v) begins || lacks_end None (path_in v) (closing_answer (verb_in sys t v))) =
      ap (λ (f : Option Message). lacks_start (with_message f v.memory) (path_in v) begins || lacks_end (with_message f v.memory) (path_in v) (closing_answer (verb_in sys t v))) none
      ∙ ap (λ (memory : Option BackupCopy). lacks_start memory (path_in v) begins || lacks_end memory (path_in v) (closing_answer (verb_in sys t v))) lacking in
      omega (arith, ap weight before, fewer-lacking (with_message (Some message) v.memory) (path_in v) begins (closing_answer (verb_in sys t v)))
