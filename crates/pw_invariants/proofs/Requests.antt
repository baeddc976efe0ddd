-- What is measured of the records steps by the requests of the units that have committed.
use Rattle.std.proofs.Common.{◌≡◌, ℕ, zero, suc, ◌+◌, ◌<◌, List, [], ◌∷◌, ◌++◌, length, drop, refl, ap, ap₂, sym, subst, append-nil, append_assoc, arith, ◌∙◌}
use Rattle.std.proofs.Math.Seq.{drop-append_seam}
use Rattle.pw_code.specs.declared.verb.Verb.{Verb}
use Rattle.pw_code.specs.declared.verb.Verb.TheVariants as verb
use Rattle.pw_invariants.proofs.Measures.{stepped-append}
use Rattle.pw_invariants.proofs.Servers.{servers-keep}
use Rattle.pw_invariants.specs.Invariants.{KeepsInvariant, StepsBy, stepped}
use Rattle.pw_invariants.specs.Requests.{RepliedRequest, ServersStep, UnitsBalance, request_by, requests_of, requests_on}
use Rattle.pw_invariants.specs.Servers.{ServersKeep}
use Rattle.pw_invariants.specs.Units.{FileRecords}
use Rattle.pw_laws.proofs.AttemptFiles.{attempt-fine}
use Rattle.pw_laws.proofs.Paths.{Dropped-closing, closing-number}
use Rattle.pw_laws.specs.locking.Seen.{AreFiles}
use Rattle.pw_onecopy.specs.Attempt.{Attempt, IsAttempt, TakesAnswer, answer_verb, attempt, attempt_with_served}
use Rattle.pw_onecopy.specs.Behaviour.{Behaviour, Served, Reply, Fault}
use Rattle.pw_onecopy.specs.IsBehaviour.{IsBehaviour, IsPath}
use Rattle.pw_onecopy.specs.OneCopy.{EndsCommitted}
use Rattle.pw_onecopy.specs.Path.{PathAnswer, Shown, Entry, Begun, Replied, Failed, Ended, Dropped, entries_on, unit_number}

-- any verb but Drop
abbrev IsNoDrop : Verb → Type 0
IsNoDrop verb.Drop = ⊥
IsNoDrop _ = Unit {0}

module _ (sys : Behaviour) (t : ℕ) where
  -- with one answer more
  requests-more : (path answers : List PathAnswer) (answer : PathAnswer)
      → requests_on sys t path (answers ++ answer ∷ []) ≡ requests_on sys t path answers ++ request_by (sys.ask t (path ++ answers)) answer
  requests-more path [] answer =
      append-nil (request_by (sys.ask t path) answer) ∙ ap (λ (p : List PathAnswer). request_by (sys.ask t p) answer) (sym (append-nil path))
  requests-more path (first ∷ answers) answer =
      let longer : List PathAnswer = path ++ first ∷ [] in
      ap (λ (requests : List RepliedRequest). request_by (sys.ask t path) first ++ requests)
      (requests-more longer answers answer
      ∙ ap (λ (p : List PathAnswer). requests_on sys t longer answers ++ request_by (sys.ask t p) answer) (append_assoc path (first ∷ []) answers))
      ∙ sym (append_assoc (request_by (sys.ask t path) first) (requests_on sys t longer answers) (request_by (sys.ask t (path ++ first ∷ answers)) answer))

module _ {A : Type 0} (sys : Behaviour) (b : IsBehaviour sys) (holds : FileRecords → Type 0) (keep : ServersKeep sys holds)
    (measure : FileRecords → A) (step : A → RepliedRequest → A) (servers : ServersStep sys holds measure step) where
  module _ (t r : ℕ) (start : List PathAnswer) (records : FileRecords) (first : holds records) where
    -- the files of an attempt measure what the steps of its requests so far have made of the records
    record Measured (at : Attempt) : Type 0 where
      answers : List PathAnswer
      path : at.path ≡ start ++ answers
      meet : holds at.files
      measured : measure at.files ≡ stepped step (measure records) (requests_on sys t start answers)

    measured-starts : Measured (attempt sys t start records r 0)
    measured-starts = record { answers = []; path = sym (append-nil start); meet = first; measured = refl }

    -- with one answer more
    measured-more : (at next : Attempt) (answer : PathAnswer) → next.path ≡ at.path ++ answer ∷ []
        → measure next.files ≡ stepped step (measure at.files) (request_by (sys.ask t at.path) answer) → holds next.files → Measured at → Measured next
    measured-more at next answer path stepping meet now = record {
      answers = now.answers ++ answer ∷ [];
      path = path ∙ (ap (λ (p : List PathAnswer). p ++ answer ∷ []) now.path ∙ append_assoc start now.answers (answer ∷ []));
      meet = meet;
      measured =
          stepping
          ∙ (ap₂ (λ (value : A) (p : List PathAnswer). stepped step value (request_by (sys.ask t p) answer)) now.measured now.path
          ∙ (sym (stepped-append step (measure records) (requests_on sys t start now.answers) (request_by (sys.ask t (start ++ now.answers)) answer))
          ∙ ap (stepped step (measure records)) (sym (requests-more sys t start now.answers answer))));
    }

    -- an answer that is no reply steps nothing
    measured-plain : (at next : Attempt) (answer : PathAnswer) → next.path ≡ at.path ++ answer ∷ [] → next.files ≡ at.files
        → request_by (sys.ask t at.path) answer ≡ [] → Measured at → Measured next
    measured-plain at next answer path files none now =
        measured-more at next answer path (ap measure files ∙ ap (stepped step (measure at.files)) (sym none)) (subst holds (sym files) now.meet) now

    -- a SEND
    measured-sent : (at : Attempt) (c : ℕ) (message : List ℕ) (sv : Served) → sys.serve c message at.files ≡ sv → sys.ask t at.path ≡ verb.Send c message → c < sys.classes → AreFiles sys at.files
        → Measured at → Measured (attempt_with_served sv at)
    measured-sent at c message (Reply reply left) serves asks known are now =
        measured-more at (attempt_with_served (Reply reply left) at) (Replied reply) refl
        (servers c message reply at.files left known are serves now.meet
        ∙ ap (λ (v : Verb). stepped step (measure at.files) (request_by v (Replied reply))) (sym asks))
        (keep c message reply at.files left known are serves now.meet)
        now
    measured-sent at c message (Fault x) serves asks known are now =
        measured-plain at (attempt_with_served (Fault x) at) (Failed x) refl refl (ap (λ (v : Verb). request_by v (Failed x)) asks) now

    -- any verb but Drop
    measured-verb : (at : Attempt) (v : Verb) → sys.ask t at.path ≡ v → TakesAnswer sys t at.path v → IsNoDrop v → IsPath sys t at.path → AreFiles sys at.files
        → Measured at → Measured (answer_verb sys t r records v at)
    measured-verb at verb.Begin asks takes plain path are now = measured-plain at _ (Begun r) refl refl (ap (λ (v : Verb). request_by v (Begun r)) asks) now
    measured-verb at verb.Show asks takes plain path are now = measured-plain at _ Shown refl refl (ap (λ (v : Verb). request_by v Shown) asks) now
    measured-verb at (verb.Accept screen) asks takes plain path are now =
        measured-plain at _ (Entry (entries_on at.path + 1)) refl refl (ap (λ (v : Verb). request_by v (Entry (entries_on at.path + 1))) asks) now
    measured-verb at (verb.Send c message) asks takes plain path are now =
        measured-sent at c message (sys.serve c message at.files) refl asks (b.sends t c message at.path path asks) are now
    measured-verb at verb.End asks takes plain path are now = measured-plain at _ Ended refl refl (ap (λ (v : Verb). request_by v Ended) asks) now
    measured-verb at verb.Drop asks takes plain path are now = absurd plain
    measured-verb at verb.Redo asks takes plain path are now = absurd takes
    measured-verb at verb.Stop asks takes plain path are now = absurd takes
    measured-verb at (verb.Fault x) asks takes plain path are now = absurd takes
    measured-verb at (verb.File call) asks takes plain path are now = absurd takes
    measured-verb at (verb.Reply reply) asks takes plain path are now = absurd takes

    -- a verb behind which the unit is still open is no Drop
    open-plain : (at : Attempt) (v : Verb) → unit_number at.path ≡ unit_number start → unit_number (answer_verb sys t r records v at).path ≡ unit_number start → IsNoDrop v
    open-plain at verb.Drop before behind = absurd (let more = closing-number Dropped Dropped-closing at.path in omega (arith, more, before, behind))
    open-plain at verb.Begin before behind = tt
    open-plain at verb.Show before behind = tt
    open-plain at (verb.Accept screen) before behind = tt
    open-plain at (verb.Send c message) before behind = tt
    open-plain at verb.End before behind = tt
    open-plain at verb.Redo before behind = tt
    open-plain at verb.Stop before behind = tt
    open-plain at (verb.Fault x) before behind = tt
    open-plain at (verb.File call) before behind = tt
    open-plain at (verb.Reply reply) before behind = tt

    -- nor is one that commits
    commit-plain : (asked : Verb) (at : Attempt) (v : Verb) → EndsCommitted asked (answer_verb sys t r records v at).last → IsNoDrop v
    commit-plain asked at verb.Drop ends = absurd ends
    commit-plain asked at verb.Begin ends = tt
    commit-plain asked at verb.Show ends = tt
    commit-plain asked at (verb.Accept screen) ends = tt
    commit-plain asked at (verb.Send c message) ends = tt
    commit-plain asked at verb.End ends = tt
    commit-plain asked at verb.Redo ends = tt
    commit-plain asked at verb.Stop ends = tt
    commit-plain asked at (verb.Fault x) ends = tt
    commit-plain asked at (verb.File call) ends = tt
    commit-plain asked at (verb.Reply reply) ends = tt

    module _ (path : IsPath sys t start) (are : AreFiles sys records) where
      measured-next : (j : ℕ) → IsAttempt sys t start records r (suc j) → IsNoDrop (sys.ask t (attempt sys t start records r j).path)
          → Measured (attempt sys t start records r j) → Measured (attempt sys t start records r (suc j))
      measured-next j is plain now =
          let at : Attempt = attempt sys t start records r j in
          let fine = attempt-fine sys b t start r path records are j is.0 in
          measured-verb at (sys.ask t at.path) refl is.1.takes plain fine.is_path fine.are_files now

      -- an attempt that goes on
      measured-along : (j : ℕ) → IsAttempt sys t start records r (suc j) → Measured (attempt sys t start records r j)
      measured-along zero is = measured-starts
      measured-along (suc j) is =
          let at : Attempt = attempt sys t start records r j in
          measured-next j is.0 (open-plain at (sys.ask t at.path) is.0.1.is_open is.1.is_open) (measured-along j is.0)

      -- an attempt that commits
      measured-committed : (j : ℕ) → IsAttempt sys t start records r j → EndsCommitted (sys.ask t start) (attempt sys t start records r j).last
          → Measured (attempt sys t start records r j)
      measured-committed zero is ends = absurd ends
      measured-committed (suc j) is ends =
          let at : Attempt = attempt sys t start records r j in
          measured-next j is (commit-plain (sys.ask t start) at (sys.ask t at.path) ends) (measured-along j is)

  -- a unit steps by its requests
  pub units-step : StepsBy sys holds measure (λ value unit. stepped step value (requests_of sys unit))
  units-step unit records left alone first =
      let t : ℕ = unit.terminal in
      let now = measured-committed t alone.restarts unit.start records first alone.is_path alone.are_files alone.answers alone.is_attempt alone.commits in
      let own : drop (length unit.start) unit.path ≡ now.answers =
      ap (λ (p : List PathAnswer). drop (length unit.start) p) (alone.path ∙ now.path) ∙ drop-append_seam unit.start now.answers in
      ap measure alone.leaves
      ∙ (now.measured ∙ ap (λ (answers : List PathAnswer). stepped step (measure records) (requests_on sys t unit.start answers)) (sym own))

  -- where the requests of units balance, the invariant holds, and what is measured stays
  pub balance-keeps : UnitsBalance sys holds step → (value : A) → KeepsInvariant sys (λ records. holds records × (measure records ≡ value))
  balance-keeps balance value unit records left alone now = (
    servers-keep sys b holds keep unit records left alone now.0,
    units-step unit records left alone now.0 ∙ (balance unit records left alone now.0 (measure records) ∙ now.1),
  )
