-- The tests of what is kept that compare images are those of the state, which compare paths.
use Rattle.std.proofs.Common.{◌≡◌, ℕ, ◌==◌, ◌&&◌, List, [], ◌∷◌, ◌++◌, Option, Some, None, Bool, true, false, not, is_some, is_none, refl, sym, ap, ap₂, subst, ◌∙◌, bytes_eq}
use Rattle.std.specs.Prelude.{IsSome}
use Rattle.std.proofs.lemmas.Bool.{eqb-true}
use Rattle.std.proofs.lemmas.Slice.Eq.{bytes_eq-Decides}
use Rattle.pw_base.proofs.Plain.{same-truth}
use Rattle.pw_code.specs.declared.context.Context.{Context}
use Rattle.pw_code.specs.declared.system.System.{System}
use Rattle.pw_code.specs.declared.system.TermInfo.{TermInfo}
use Rattle.pw_code.specs.declared.verb.Answer.TheVariants as answer
use Rattle.pw_code.specs.declared.verb.Verb.{Verb}
use Rattle.pw_code.specs.declared.verb.Verb.TheVariants as verb
use Rattle.pw_event.specs.declared.script.FailLine.{FailLine}
use Rattle.pw_code_meaning.specs.OfSystem.{behaviour}
use Rattle.pw_image.specs.Image.{image_of}
use Rattle.pw_world_state.specs.Arrivals.{StandsForPath}
use Rattle.pw_world_state.specs.Asked.{answered_with, unit_in, verb_in}
use Rattle.pw_world_state.specs.Kept.{Kept}
use Rattle.pw_world_state.specs.Stands.{IsPathImage, Stands, StandsForHeld, StandsIfAny}
use Rattle.pw_world_state.specs.TerminalTests as kept
use Rattle.pw_world_state.specs.TerminalTests.{end_held, flies, may_back, may_begin, may_check_end, may_check_start, may_commit, seat_at, start_held}
use Rattle.pw_world_state.specs.Tested.{IsAsking, IsAskingEnd, IsAskingStart, TellsEnd, TellsStart}
use Rattle.pw_world_state.proofs.Arrived.{one-context}
use Rattle.pw_world_state.proofs.Testing.{ended, flies-same, not-some, seat-held, where-can-is, where-is}
use Rattle.pw_world_state.proofs.UnitChanges.{has-context}
use Rattle.pw_laws.specs.legal.Terminals as legal
use Rattle.pw_laws.specs.legal.Terminals.{holds_end, holds_start, is_legal_back, is_legal_begin, is_legal_check_end, is_legal_check_start, is_legal_commit, is_over}
use Rattle.pw_laws.specs.legal.Values.{is_same_path, some_with}
use Rattle.pw_laws.specs.legal.Verbs as verbs
use Rattle.pw_laws.specs.legal.Verbs.{asks_drop, asks_end}
use Rattle.pw_laws.proofs.decided.Terminals as decided
use Rattle.pw_laws.proofs.decided.Values.{same_path}
use Rattle.pw_onecopy.specs.Behaviour.{Behaviour}
use Rattle.pw_onecopy.specs.Path.{PathAnswer, Dropped, Ended, is_outside, unit_number}
use Rattle.pw_pair.specs.Pairs.{passes}
use Rattle.pw_pair.specs.Seats as seats
use Rattle.pw_pair.specs.declared.backup.Held.{Held}
use Rattle.pw_paired.specs.State.{BackupCopy, State}
use Rattle.pw_paired.specs.Terminal.{awaited_of, closing_answer, next_verb, path_of, path_with}
use Rattle.pw_paired.specs.Units.{attempt_of, restarts_of}

-- ---- small things

-- a test that comes behind another matters only where that passes
and-where : (b c d : Bool) → (b ≡ true → c ≡ d) → (b && c) ≡ (b && d)
and-where true c d same = same refl
and-where false c d same = refl

none-same : {A B : Type 0} (R : A → B → Type 0) (a : Option A) (b : Option B) → StandsIfAny R a b → is_none b ≡ is_none a
none-same R None None h = refl
none-same R (Some a) (Some b) h = refl
none-same R None (Some b) h = absurd h
none-same R (Some a) None h = absurd h

begins-as : (v : Verb) (path : List PathAnswer) → kept.begins_unit v (is_outside path) ≡ verbs.begins_unit v path
begins-as verb.Show path = refl
begins-as (verb.Accept screen) path = refl
begins-as verb.Begin path = refl
begins-as (verb.Send class message) path = refl
begins-as verb.End path = refl
begins-as verb.Drop path = refl
begins-as verb.Redo path = refl
begins-as verb.Stop path = refl
begins-as (verb.Fault code) path = refl
begins-as (verb.File call) path = refl
begins-as (verb.Reply reply) path = refl

ends-verb : (v : Verb) → asks_end v ≡ true → v ≡ verb.End
ends-verb verb.End e = refl
ends-verb verb.Show e = absurd (cc e)
ends-verb (verb.Accept screen) e = absurd (cc e)
ends-verb verb.Begin e = absurd (cc e)
ends-verb (verb.Send class message) e = absurd (cc e)
ends-verb verb.Drop e = absurd (cc e)
ends-verb verb.Redo e = absurd (cc e)
ends-verb verb.Stop e = absurd (cc e)
ends-verb (verb.Fault code) e = absurd (cc e)
ends-verb (verb.File call) e = absurd (cc e)
ends-verb (verb.Reply reply) e = absurd (cc e)

drops-verb : (v : Verb) → asks_drop v ≡ true → v ≡ verb.Drop
drops-verb verb.Drop e = refl
drops-verb verb.Show e = absurd (cc e)
drops-verb (verb.Accept screen) e = absurd (cc e)
drops-verb verb.Begin e = absurd (cc e)
drops-verb (verb.Send class message) e = absurd (cc e)
drops-verb verb.End e = absurd (cc e)
drops-verb verb.Redo e = absurd (cc e)
drops-verb verb.Stop e = absurd (cc e)
drops-verb (verb.Fault code) e = absurd (cc e)
drops-verb (verb.File call) e = absurd (cc e)
drops-verb (verb.Reply reply) e = absurd (cc e)

-- ---- images

-- a path has one image
one-image : (system : System) (info : TermInfo) (path : List PathAnswer) (a b : List ℕ) → IsPathImage system info path a → IsPathImage system info path b → a ≡ b
one-image system info path a b first second =
    first.is_image.is ∙ (ap image_of (one-context system info path first.context second.context first.stands second.stands) ∙ sym second.is_image.is)

-- the images of two paths are one exactly where the paths are
images-same : (system : System) (info : TermInfo) (path other : List PathAnswer) (image own : List ℕ) → IsPathImage system info path image → IsPathImage system info other own
    → (own ≡ image → other ≡ path) → bytes_eq own image ≡ is_same_path other path
images-same system info path other image own first second apart =
    same-truth (bytes_eq own image) (is_same_path other path)
    (λ e. (same_path other path).1 (apart ((bytes_eq-Decides own image).0 e)))
    (λ e. (bytes_eq-Decides own image).1 (one-image system info path own image (subst (λ x. IsPathImage system info x own) ((same_path other path).0 e) second) first))

module _ (system : System) (state : State) (t : ℕ) (info : TermInfo) where
  held-start : (n : ℕ) (path : List PathAnswer) (context : Context) (copy : Option BackupCopy) (held : Option Held) → state.memory t ≡ copy → TellsStart system state t info n path context
      → StandsIfAny (StandsForHeld system info) copy held → seats.has_start n (image_of context) held ≡ holds_start copy n path
  held-start n path context None None is tells h = refl
  held-start n path context None (Some held) is tells h = absurd h
  held-start n path context (Some copy) None is tells h = absurd h
  held-start n path context (Some copy) (Some held) is tells h =
      ap (λ u. u == n && bytes_eq held.start (image_of context)) h.unit
      ∙ and-where (copy.unit == n) (bytes_eq held.start (image_of context)) (is_same_path copy.start path)
      (λ number. images-same system info path copy.start (image_of context) held.start tells.is_image h.start
      (λ same. tells.apart copy is (eqb-true copy.unit n number) (subst (IsPathImage system info copy.start) same h.start)))

  end-is : (path : List PathAnswer) (context : Context) (copy : BackupCopy) (end : Option (List PathAnswer)) (image : Option (List ℕ)) → state.memory t ≡ Some copy → copy.end ≡ end → TellsEnd system state t info path context
      → StandsIfAny (IsPathImage system info) end image → seats.is_memory_end_image (image_of context) image ≡ some_with (λ own. is_same_path own path) end
  end-is path context copy None None is ends tells h = refl
  end-is path context copy None (Some image) is ends tells h = absurd h
  end-is path context copy (Some end) None is ends tells h = absurd h
  end-is path context copy (Some end) (Some image) is ends tells h =
      images-same system info path end (image_of context) image tells.is_image h
      (λ same. tells.apart copy end is ends (subst (IsPathImage system info end) same h))

  held-end : (path : List PathAnswer) (context : Context) (copy : Option BackupCopy) (held : Option Held) → state.memory t ≡ copy → TellsEnd system state t info path context
      → StandsIfAny (StandsForHeld system info) copy held → seats.has_end (image_of context) held ≡ holds_end copy path
  held-end path context None None is tells h = refl
  held-end path context None (Some held) is tells h = absurd h
  held-end path context (Some copy) None is tells h = absurd h
  held-end path context (Some copy) (Some held) is tells h = end-is path context copy copy.end held.end is refl tells h.end

-- ---- a terminal at its verb

module _ (system : System) (script : List FailLine) (state : State) (own : Kept) (stands : Stands system script state own) (t : ℕ) where
  abbrev pub sys : Behaviour
  sys = behaviour script system

  module _ (ask : IsAskingStart system script state own t) where
    abbrev pub asking : IsAsking system script state own t
    asking = ask.asking

    abbrev pub context : Context
    context = asking.context

    abbrev pub info : TermInfo
    info = asking.placed.info

    begins : kept.begins_unit (verb_in system context) (not context.in_unit) ≡ verbs.begins_unit (next_verb sys state t) (path_of state t)
    begins = ap₂ (λ v o. kept.begins_unit v o) asking.says.verb asking.says.counts.outside ∙ begins-as (next_verb sys state t) (path_of state t)

    idle : is_none (own.terminals t).start ≡ is_none (attempt_of (state.units t))
    idle = none-same (StandsForPath system info) (attempt_of (state.units t)) (own.terminals t).start (stands.terminals t info asking.placed.here).start

    -- the test of the start that is held, where the verb begins a unit and the terminal can step
    start-same : (behind : Context) → (own.terminals t).context ≡ Some behind → TellsStart system state t info (unit_number (path_of state t)) (path_of state t) behind
        → start_held system own t (unit_in context) ≡ holds_start (state.memory t) (unit_number (path_of state t)) (path_of state t)
    start-same behind is tells =
        let seat = seat-held system script state own stands t asking.placed in
        ap (λ o. some_with (λ c. passes (seats.holds_start (unit_in context) (image_of c)) (seat_at system own t)) o) is
        ∙ (ap (passes (seats.holds_start (unit_in context) (image_of behind))) seat.1
        ∙ (ap (λ u. seats.has_start u (image_of behind) seat.0.memory) asking.says.counts.unit
        ∙ held-start system state t info (unit_number (path_of state t)) (path_of state t) behind (state.memory t) seat.0.memory refl tells seat.2))

    pub held-where : legal.can_step sys state t ≡ true → kept.begins_unit (verb_in system context) (not context.in_unit) ≡ true
        → start_held system own t (unit_in context) ≡ holds_start (state.memory t) (unit_number (path_of state t)) (path_of state t)
    held-where can starts = by (own.terminals t).context refl
      where
        by : (o : Option Context) → (own.terminals t).context ≡ o → start_held system own t (unit_in context) ≡ holds_start (state.memory t) (unit_number (path_of state t)) (path_of state t)
        by (Some behind) is = start-same behind is (ask.tells behind is starts)
        by None is = absurd (cc (subst IsSome is (has-context system script state own t info stands asking.placed.here ((decided.can sys state t).0 can))))

    flying : not (flies system own t) ≡ is_none (state.flight t)
    flying = ap not (flies-same system script state own stands t asking.placed) ∙ not-some (state.flight t)

    pub check-start-same : may_check_start system own t ≡ is_legal_check_start sys state t
    check-start-same =
        where-can-is system script state own stands t asking _ _
        (λ can.
        ap₂ (λ a b. a && b) idle
        (and-where _ _ _ (λ starts.
        ap₂ (λ a b. a && b) (ap₂ (λ e u. not (e == u)) (ended system script state own stands t asking) asking.says.counts.unit)
        (ap₂ (λ a b. not a && b) (held-where can starts) flying))
        ∙ ap (λ b. b && rest) begins))
      where
        rest : Bool
        rest = not ((state.ended t).number == unit_number (path_of state t)) && (not (holds_start (state.memory t) (unit_number (path_of state t)) (path_of state t)) && is_none (state.flight t))

    pub begin-same : (n r : ℕ) → may_begin system own t n r ≡ is_legal_begin sys state t n r
    begin-same n r =
        where-can-is system script state own stands t asking _ _
        (λ can.
        ap₂ (λ a b. a && b) idle
        (and-where _ _ _ (λ starts.
        ap₂ (λ u b. n == u && b) asking.says.counts.unit
        (ap₂ (λ a b. a && b) (ap (λ e. not (e == n)) (ended system script state own stands t asking))
        (ap₂ (λ a b. a && b) over
        (ap₂ (λ a b. a && b) (held-where can starts) (ap (λ k. r == k) (stands.terminals t info asking.placed.here).restarts)))))
        ∙ ap (λ b. b && rest) begins))
      where
        over : is_over own.disc.ended (own.terminals t).awaits ≡ is_over state.ended (awaited_of (state.units t))
        over = ap₂ (λ e a. is_over e a) stands.disc.ended (stands.terminals t info asking.placed.here).awaits

        rest : Bool
        rest =
            n == unit_number (path_of state t)
            && (not ((state.ended t).number == n)
            && (is_over state.ended (awaited_of (state.units t))
            && (holds_start (state.memory t) (unit_number (path_of state t)) (path_of state t) && r == restarts_of (state.units t))))

  module _ (ask : IsAskingEnd system script state own t) where
    abbrev pub at : IsAsking system script state own t
    at = ask.asking

    pub ends-held : verb_in system at.context ≡ verb.End → end_held system own t answer.Ended at.context ≡ holds_end (state.memory t) (path_of state t ++ Ended ∷ [])
    ends-held is =
        let seat = seat-held system script state own stands t at.placed in
        ap (passes (seats.holds_end (image_of (answered_with system answer.Ended at.context)))) seat.1
        ∙ held-end system state t at.placed.info (path_of state t ++ Ended ∷ []) (answered_with system answer.Ended at.context) (state.memory t) seat.0.memory refl (ask.ends is) seat.2

    pub drops-held : verb_in system at.context ≡ verb.Drop → end_held system own t answer.Dropped at.context ≡ holds_end (state.memory t) (path_of state t ++ Dropped ∷ [])
    drops-held is =
        let seat = seat-held system script state own stands t at.placed in
        ap (passes (seats.holds_end (image_of (answered_with system answer.Dropped at.context)))) seat.1
        ∙ held-end system state t at.placed.info (path_of state t ++ Dropped ∷ []) (answered_with system answer.Dropped at.context) (state.memory t) seat.0.memory refl (ask.drops is) seat.2

    pub commit-same : (n : ℕ) → may_commit system own t n ≡ is_legal_commit sys state t n
    commit-same n =
        where-is system script state own stands t at _ _
        (and-where _ _ _ (λ ends. ap₂ (λ u b. n == u && b) at.says.counts.unit (ends-held (ends-verb (verb_in system at.context) ends)))
        ∙ ap (λ v. asks_end v && rest) at.says.verb)
      where
        rest : Bool
        rest = n == unit_number (path_of state t) && holds_end (state.memory t) (path_of state t ++ Ended ∷ [])

    pub back-same : (n : ℕ) → may_back system own t n ≡ is_legal_back sys state t n
    back-same n =
        where-is system script state own stands t at _ _
        (and-where _ _ _ (λ drops. ap₂ (λ u b. n == u && b) at.says.counts.unit (drops-held (drops-verb (verb_in system at.context) drops)))
        ∙ ap (λ v. asks_drop v && rest) at.says.verb)
      where
        rest : Bool
        rest = n == unit_number (path_of state t) && holds_end (state.memory t) (path_of state t ++ Dropped ∷ [])

    still : not (flies system own t) ≡ is_none (state.flight t)
    still = ap not (flies-same system script state own stands t at.placed) ∙ not-some (state.flight t)

    -- the check that a verb needs
    check-by : (v : Verb) → verb_in system at.context ≡ v
        → some_with (λ a. not (end_held system own t a at.context) && not (flies system own t)) (kept.closing v)
        ≡ (is_some (closing_answer v) && (not (holds_end (state.memory t) (path_with (closing_answer v) (path_of state t))) && is_none (state.flight t)))
    check-by verb.End is = ap₂ (λ a b. not a && b) (ends-held is) still
    check-by verb.Drop is = ap₂ (λ a b. not a && b) (drops-held is) still
    check-by verb.Show is = refl
    check-by (verb.Accept screen) is = refl
    check-by verb.Begin is = refl
    check-by (verb.Send class message) is = refl
    check-by verb.Redo is = refl
    check-by verb.Stop is = refl
    check-by (verb.Fault code) is = refl
    check-by (verb.File call) is = refl
    check-by (verb.Reply reply) is = refl

    pub check-end-same : may_check_end system own t ≡ is_legal_check_end sys state t
    check-end-same =
        where-is system script state own stands t at _ _
        (check-by (verb_in system at.context) refl
        ∙ ap (λ v. is_some (closing_answer v) && (not (holds_end (state.memory t) (path_with (closing_answer v) (path_of state t))) && is_none (state.flight t))) at.says.verb)
