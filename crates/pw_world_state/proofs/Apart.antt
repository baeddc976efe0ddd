-- In every run, of the paths that a backup holds of a terminal that can step, no other one has the image of its own.
use Rattle.std.proofs.Common.{◌≡◌, ◌≢◌, ◌⊎◌, inl, inr, ⊎_elim, ℕ, ◌+◌, ◌<◌, ◌==◌, Bool, true, false, List, [], ◌∷◌, ◌++◌, Option, Some, None, unwrap_or, if◌then◌else◌, refl, sym, ap, subst, ◌∙◌, true≢false, arith}
use Rattle.std.specs.Prelude.{slice_get}
use Rattle.std.proofs.lemmas.Bool.{eqb-true, eqb-false}
use Rattle.pw_base.proofs.Plain.{some_is}
use Rattle.pw_code.specs.Valid.{IsValid}
use Rattle.pw_code.specs.declared.context.Context.{Context}
use Rattle.pw_code.specs.declared.system.System.{System}
use Rattle.pw_code.specs.declared.system.TermInfo.{TermInfo}
use Rattle.pw_code.specs.declared.verb.Verb.{Verb}
use Rattle.pw_code.specs.declared.verb.Verb.TheVariants as verb
use Rattle.pw_event.specs.declared.event.Event.{Event}
use Rattle.pw_event.specs.declared.script.FailLine.{FailLine}
use Rattle.pw_code_meaning.specs.OfSystem.{behaviour}
use Rattle.pw_code_meaning.proofs.Counting.{HasCountsOf, begun-push, begun_from}
use Rattle.pw_image.specs.Image.{HasImage, image_of}
use Rattle.pw_image.specs.Reading.{context_in}
use Rattle.pw_image.specs.Values.{HasValues}
use Rattle.pw_image.proofs.ImageForms.{read-again}
use Rattle.pw_world_state.specs.Arrivals.{StandsForPath}
use Rattle.pw_world_state.specs.Stands.{IsPathImage}
use Rattle.pw_world_state.specs.Tested.{TellsEnd, TellsStart}
use Rattle.pw_world_state.proofs.Extra.{Extra, extras}
use Rattle.pw_world_state.proofs.Forced.{begins-reply, begun-behind, begun-inside, same-lead}
use Rattle.pw_world_state.proofs.Readings as readings
use Rattle.pw_onecopy.specs.Attempt.{BeginsUnit}
use Rattle.pw_onecopy.specs.Behaviour.{Behaviour}
use Rattle.pw_onecopy.specs.IsBehaviour.{IsBehaviour, IsPath, Suits}
use Rattle.pw_onecopy.specs.Path.{PathAnswer, Begun, Dropped, Ended, is_outside, entries_on, standing, unit_number}
use Rattle.pw_paired.specs.Failure.{resumed_path}
use Rattle.pw_paired.specs.Raising.{is_takeover}
use Rattle.pw_paired.specs.State.{BackupCopy, OpenUnit, State}
use Rattle.pw_paired.specs.Step.{IsRun, after}
use Rattle.pw_paired.specs.Terminal.{CanStep, closing_answer, next_verb, path_of}
use Rattle.pw_paired.specs.Units.{attempt_of}
use Rattle.pw_laws.proofs.Paths.{IsPath-push}
use Rattle.pw_laws.proofs.induction.Views.{View, view_of}
use Rattle.pw_laws.proofs.terms.TermOk.{HasMessages, IsWorking, PathOf, PathOk, RunningPath, TermOk}
use Rattle.pw_laws.proofs.frontier.Frontier.{Closes, EndsOne, FrontierOk, IsClosing, IsHeld, RunsFrom, transacts, sends, fails}
use Rattle.pw_laws.proofs.frontier.Frontiers.{frontier_after}
use Rattle.pw_laws.proofs.frontier.Leads.{Leads, Next, goes_on, is_there, next-of}
use Rattle.pw_laws.proofs.frontier.Standing.{Where, closed, resumed-start, running, waiting, where-of}

-- ---- counts of one context

same-ended : (p q : List PathAnswer) (context : Context) → HasCountsOf p context → HasCountsOf q context → (standing q).ended ≡ (standing p).ended
same-ended p q context one other = sym other.units ∙ one.units

same-weight : (p q : List PathAnswer) (context : Context) → HasCountsOf p context → HasCountsOf q context
    → (standing q).shown + entries_on q ≡ (standing p).shown + entries_on p
same-weight p q context one other =
    let first = sym other.shown ∙ one.shown in
    let second = sym other.entries_are ∙ one.entries_are in
    omega (arith, first, second)

-- contexts with one image are one
one-of-image : (a b : Context) → HasImage a → HasValues a → HasImage b → HasValues b → image_of a ≡ image_of b → a ≡ b
one-of-image a b ha va hb vb same = some_is (sym (read-again a ha va) ∙ (ap context_in same ∙ read-again b hb vb))

module _ (system : System) (script : List FailLine) (valid : IsValid system) (b : IsBehaviour (behaviour script system)) (log : List Event) (run : IsRun (behaviour script system) log) (t : ℕ)
    (can : CanStep (behaviour script system) (after (behaviour script system) log) t) where
  abbrev sys : Behaviour
  sys = behaviour script system

  abbrev state : State
  state = after sys log

  abbrev path : List PathAnswer
  path = path_of state t

  abbrev frontier : List PathAnswer
  frontier = frontier_after sys t log

  abbrev view : View
  view = view_of sys state t

  ok : TermOk sys t (state.ended t).number (state.units t) (state.memory t) (state.flight t) (state.terms t) (state.modes (sys.pair_of t))
  ok = (readings.inv system script valid b log run).terms t can.live.known

  works : IsWorking (state.modes (sys.pair_of t))
  works = rw can.paired tt

  has : HasMessages (state.modes (sys.pair_of t))
  has = rw can.paired tt

  untaken : is_takeover (state.terms t).pending ≡ false
  untaken = ap is_takeover can.calm

  both : FrontierOk sys t view frontier × Extra view frontier
  both = extras sys b t can.live.known log run can.live.going_on (λ gone. absurd (let paired = can.paired in cc (paired, gone)))

  pub front : FrontierOk sys t view frontier
  front = both.0

  pub extra : Extra view frontier
  extra = both.1

  is_path : IsPath sys t path
  is_path = readings.stepping-path system script valid b log run t can

  path-ok : PathOk sys t (state.ended t).number (state.units t) path
  path-ok = ok.path_ok can.live.going_on works untaken

  pub place : Where sys t (state.ended t) (state.units t) path frontier
  place = where-of (state.units t) (front.stands works untaken)

  -- ---- the start of a unit

  outside-of : (v : Verb) → next_verb sys state t ≡ v → BeginsUnit v path → is_outside path ≡ true
  outside-of verb.Begin asks begins = b.begins t path is_path asks
  outside-of (verb.Send class message) asks begins = begins
  outside-of verb.Show asks begins = absurd begins
  outside-of (verb.Accept screen) asks begins = absurd begins
  outside-of verb.End asks begins = absurd begins
  outside-of verb.Drop asks begins = absurd begins
  outside-of verb.Redo asks begins = absurd begins
  outside-of verb.Stop asks begins = absurd begins
  outside-of (verb.Fault x) asks begins = absurd begins
  outside-of (verb.File call) asks begins = absurd begins
  outside-of (verb.Reply reply) asks begins = absurd begins

  -- an attempt that runs where a unit begins has not left its frontier
  runs-here : (r : ℕ) → RunsFrom sys t r frontier path → BeginsUnit (next_verb sys state t) path → path ≡ frontier
  runs-here r (transacts asks more whole inside) begins = absurd (true≢false (sym (outside-of (next_verb sys state t) refl begins) ∙ inside))
  runs-here r (sends c message asks is) begins = is
  runs-here r (fails c x message asks is) begins =
      let fault : sys.ask t path ≡ verb.Fault x = ap (sys.ask t) is ∙ b.fails t c x message frontier front.base.rest.is_path asks in
      absurd (subst (λ v. BeginsUnit v path) fault begins)

  module _ (held : BackupCopy) (is_held : state.memory t ≡ Some held) (begins : BeginsUnit (next_verb sys state t) path) (number : held.unit ≡ unit_number path) (context : Context)
      (own : HasCountsOf path context) (other : HasCountsOf held.start context) where
    holds : IsHeld sys t (state.ended t) (state.units t) held frontier
    holds = front.held held is_held

    -- what is held resumes at its start
    starts-by : (e : Option (List PathAnswer)) (at : Bool) → state.units t ≡ None → Leads sys t (state.ended t) path frontier → held.end ≡ e → ((state.ended t).number == held.unit) ≡ at
        → resumed_path held (state.ended t) ≡ held.start
    starts-by None at none leads ends is = resumed-start held (state.ended t) ends
    starts-by (Some e) false none leads ends is =
        absurd (let gone = holds.no_end none (λ same. eqb-false (state.ended t).number held.unit is (sym same)) in cc (gone, ends))
    starts-by (Some e) true none leads ends is = absurd (by-next (next-of leads))
      where
        last-is : (state.ended t).number ≡ held.unit
        last-is = eqb-true (state.ended t).number held.unit is

        by-next : Next sys t (state.ended t) path frontier → ⊥
        by-next (is_there here) =
            let at : unit_number frontier ≡ (state.ended t).number + 1 = front.base.number in
            let same : unit_number path ≡ unit_number frontier = ap unit_number here in
            absurd (omega (arith, at, same, number, last-is))
        by-next (goes_on a forced more) =
            let found = begins-reply (state.ended t) path (sys.ask t path) a begins forced in
            let replied : (state.ended t).reply ≡ None = extra.reply none held e is_held ends in
            let some = found.1 in
            absurd (cc (replied, some))

    by-place : Where sys t (state.ended t) (state.units t) path frontier → held.start ≡ path
    by-place (closed none leads) =
        let resumes : resumed_path held (state.ended t) ≡ held.start = starts-by held.end ((state.ended t).number == held.unit) none leads refl refl in
        same-lead leads (subst (λ p. Leads sys t (state.ended t) p frontier) resumes holds.resumes) (same-ended path held.start context own other) (same-weight path held.start context own other)
    by-place (waiting u is idle here) = holds.at_open u is ∙ sym here
    by-place (running u start is runs from) = holds.at_open u is ∙ sym (runs-here u.restarts from begins)

    pub start-is : held.start ≡ path
    start-is = by-place place

  -- ---- the end of a transaction

  inside-open : is_outside path ≡ false → (u : OpenUnit) × (start : List PathAnswer) × (state.units t ≡ Some u) × (u.running ≡ Some start)
  inside-open inside = by-unit (state.units t) refl path-ok
    where
      by-run : (u : OpenUnit) (r : Option (List PathAnswer)) → state.units t ≡ Some u → u.running ≡ r → PathOf sys t (state.ended t).number r path
          → (w : OpenUnit) × (start : List PathAnswer) × (state.units t ≡ Some w) × (w.running ≡ Some start)
      by-run u (Some start) is runs at = (u, start, is, runs)
      by-run u None is runs at = absurd (true≢false (sym at.rest.outside ∙ inside))

      by-unit : (o : Option OpenUnit) → state.units t ≡ o → PathOk sys t (state.ended t).number o path
          → (w : OpenUnit) × (start : List PathAnswer) × (state.units t ≡ Some w) × (w.running ≡ Some start)
      by-unit None is at = absurd (true≢false (sym at.rest.outside ∙ inside))
      by-unit (Some u) is at = by-run u u.running is refl at

  module _ (held : BackupCopy) (end : List PathAnswer) (is_held : state.memory t ≡ Some held) (ends : held.end ≡ Some end) (inside : is_outside path ≡ false) (a : PathAnswer)
      (closes : closing_answer (next_verb sys state t) ≡ Some a) (plain : begun_from 0 (path ++ a ∷ []) ≡ begun_from 0 path) (context : Context) (own : HasCountsOf (path ++ a ∷ []) context) (other : HasCountsOf end context) where
    open-one : (u : OpenUnit) × (start : List PathAnswer) × (state.units t ≡ Some u) × (u.running ≡ Some start)
    open-one = inside-open inside

    abbrev unit : OpenUnit
    unit = open-one.0

    one : EndsOne sys t unit frontier path end
    one = front.ends has unit held end open-one.2 is_held ends

    frontier-number : unit_number frontier ≡ (state.ended t).number + 1
    frontier-number = front.base.number

    -- the number of the unit that is held
    held-number : held.unit ≡ (state.ended t).number + 1
    held-number = ok.memory_unit held unit is_held open-one.2 ∙ (ok.unit_ok unit open-one.2).number

    running-path : RunningPath sys t (state.ended t).number path
    running-path =
        subst (λ r. PathOf sys t (state.ended t).number r path) open-one.3
        (subst (λ o. PathOk sys t (state.ended t).number o path) open-one.2 path-ok)

    -- the restarts of the attempt that runs
    own-begun : begun_from 0 path ≡ unit.restarts
    own-begun = by-where place
      where
        same : (u : OpenUnit) → state.units t ≡ Some u → u.restarts ≡ unit.restarts
        same u is = ap (λ (x : OpenUnit). x.restarts) (some_is (sym is ∙ open-one.2))

        by-run : (r : ℕ) → RunsFrom sys t r frontier path → begun_from 0 path ≡ r
        by-run r (transacts asks more whole within) =
            begun-inside sys b t frontier more path r is_path whole
            (let n : unit_number path ≡ (state.ended t).number + 1 = running-path.number in let m = frontier-number in omega (arith, n, m))
        by-run r (sends c message asks is) = absurd (true≢false (sym (ap is_outside is ∙ front.base.rest.outside) ∙ inside))
        by-run r (fails c x message asks is) =
            let fault : sys.ask t path ≡ verb.Fault x = ap (sys.ask t) is ∙ b.fails t c x message frontier front.base.rest.is_path asks in
            absurd (let none = ap closing_answer fault in cc (closes, none))

        by-where : Where sys t (state.ended t) (state.units t) path frontier → begun_from 0 path ≡ unit.restarts
        by-where (closed none leads) = absurd (let is = open-one.2 in cc (is, none))
        by-where (waiting u is idle here) =
            let runs : unit.running ≡ Some open-one.1 = open-one.3 in
            let eq : u ≡ unit = some_is (sym is ∙ open-one.2) in
            absurd (cc (eq, idle, runs))
        by-where (running u start is runs from) = by-run u.restarts from ∙ same u is

    -- those of the attempt that the end closes
    end-begun : begun_from 0 end ≡ one.attempt
    end-begun =
        let rest = (ok.memory_ok held is_held).end end ends in
        begun-behind sys b t frontier one.closes.more end one.attempt rest.0.is_path one.closes.whole
        (let n : unit_number end ≡ held.unit + 1 = rest.1 in let m = frontier-number in let k = held-number in omega (arith, n, m, k))
        rest.0.outside

    attempt-is : one.attempt ≡ unit.restarts
    attempt-is = sym end-begun ∙ (sym other.restarts_are ∙ (own.restarts_are ∙ (plain ∙ own-begun)))

    pub end-is : end ≡ path ++ a ∷ []
    end-is =
        ⊎_elim (λ earlier. absurd (let e = attempt-is in omega (arith, earlier, e)))
        (λ now. let closing = now.1 in closing.whole ∙ ap (λ x. path ++ x ∷ []) (some_is (sym closing.closes ∙ closes))) one.which

  -- ---- what is told

  module _ (info : TermInfo) (here : slice_get system.terminals t ≡ Some info) where
    counts : (p : List PathAnswer) → IsPath sys t p → (context : Context) → StandsForPath system info p context → HasCountsOf p context
    counts p path_ok context stands = readings.counts-behind system script valid b log run t info here p path_ok context stands

    -- a path of which this is the image has its counts
    image-counts : (p : List PathAnswer) → IsPath sys t p → (context : Context) → HasImage context → HasValues context → IsPathImage system info p (image_of context) → HasCountsOf p context
    image-counts p path_ok context has_image has_values image =
        subst (HasCountsOf p) (one-of-image image.context context image.is_image.has_image image.is_image.has_values has_image has_values (sym image.is_image.is))
        (counts p path_ok image.context image.stands)

    own-image : (p : List PathAnswer) (context : Context) → StandsForPath system info p context → HasImage context → HasValues context → IsPathImage system info p (image_of context)
    own-image p context stands has_image has_values = record { context = context; stands = stands; is_image = record { has_image = has_image; has_values = has_values; is = refl } }

    pub tells-start : (context : Context) → StandsForPath system info path context → HasImage context → HasValues context → BeginsUnit (next_verb sys state t) path
        → TellsStart system state t info (unit_number path) path context
    tells-start context stands has_image has_values begins = record {
      is_image = own-image path context stands has_image has_values;
      apart = λ held is number image.
          start-is held is begins number context (counts path is_path context stands)
          (image-counts held.start (ok.memory_ok held is).start.is_path context has_image has_values image);
    }

    tells-close : (a : PathAnswer) (v : Verb) → next_verb sys state t ≡ v → is_outside path ≡ false → closing_answer v ≡ Some a → Suits sys t path v a → begun_from 0 (path ++ a ∷ []) ≡ begun_from 0 path
        → (context : Context) → StandsForPath system info (path ++ a ∷ []) context → HasImage context → HasValues context → TellsEnd system state t info (path ++ a ∷ []) context
    tells-close a v asks inside closes suits plain context stands has_image has_values = record {
      is_image = own-image (path ++ a ∷ []) context stands has_image has_values;
      apart = λ held end is ends image.
          end-is held end is ends inside a (ap closing_answer asks ∙ closes) plain context
          (counts (path ++ a ∷ []) (IsPath-push sys t path a is_path (subst (λ w. Suits sys t path w a) (sym asks) suits)) context stands)
          (image-counts end ((ok.memory_ok held is).end end ends).0.is_path context has_image has_values image);
    }

    pub tells-ended : (context : Context) → next_verb sys state t ≡ verb.End → StandsForPath system info (path ++ Ended ∷ []) context → HasImage context → HasValues context
        → TellsEnd system state t info (path ++ Ended ∷ []) context
    tells-ended context asks stands has_image has_values =
        tells-close Ended verb.End asks (b.ends t path is_path asks) refl tt (begun-push 0 path Ended) context stands has_image has_values

    pub tells-dropped : (context : Context) → next_verb sys state t ≡ verb.Drop → StandsForPath system info (path ++ Dropped ∷ []) context → HasImage context → HasValues context
        → TellsEnd system state t info (path ++ Dropped ∷ []) context
    tells-dropped context asks stands has_image has_values =
        tells-close Dropped verb.Drop asks (b.drops t path is_path asks) refl tt (begun-push 0 path Dropped) context stands has_image has_values
