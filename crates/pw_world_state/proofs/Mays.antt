-- In every run the test of what is kept says of each entry whether it is legal by its kind.
use Rattle.std.proofs.Common.{◌≡◌, ◌⊎◌, inl, inr, ⊎_elim, ℕ, ◌+◌, ◌<◌, ◌≤◌, ◌==◌, ◌&&◌, nat_lt, List, [], ◌∷◌, ◌++◌, length, Option, Some, None, Bool, true, false, not, refl, sym, ap, ap₂, subst, subst₂, ◌∙◌, arith}
use Rattle.std.specs.Prelude.{IsSome, slice_get}
use Rattle.std.specs.Option.{option_map}
use Rattle.pw_class.specs.Queue.{at_process}
use Rattle.pw_class.specs.declared.request.Request.{Request}
use Rattle.pw_code.specs.Valid.{IsValid}
use Rattle.pw_code.specs.declared.context.Context.{Context}
use Rattle.pw_code.specs.declared.system.ClassInfo.{ClassInfo}
use Rattle.pw_code.specs.declared.system.System.{System}
use Rattle.pw_code.specs.declared.system.TermInfo.{TermInfo}
use Rattle.pw_code.specs.declared.verb.Answer.{Answer}
use Rattle.pw_code.specs.declared.verb.Answer.TheVariants as answer
use Rattle.pw_code.specs.declared.verb.Verb.{Verb}
use Rattle.pw_code.specs.declared.verb.Verb.TheVariants as verb
use Rattle.pw_event.specs.declared.event.Cause.{Cause}
use Rattle.pw_event.specs.declared.event.Cause.TheVariants.{Older, Redo, Server, Takeover}
use Rattle.pw_event.specs.declared.event.Ending.TheVariants.{Fault, Lost, NoEntries, Stopped, Suspended}
use Rattle.pw_event.specs.declared.event.Event.{Event}
use Rattle.pw_event.specs.declared.event.Event.TheVariants as event
use Rattle.pw_event.specs.declared.script.FailLine.{FailLine}
use Rattle.pw_code_meaning.specs.OfSystem.{behaviour, processes_by, told}
use Rattle.pw_image.specs.Image.{HasImage}
use Rattle.pw_image.specs.Values.{HasValues}
use Rattle.pw_world_state.specs.Arrivals.{StandsForPath}
use Rattle.pw_world_state.specs.Asked.{answered_with, verb_in}
use Rattle.pw_world_state.specs.ClassTests.{works_where}
use Rattle.pw_world_state.specs.Kept.{Kept}
use Rattle.pw_world_state.specs.May.{IsProcessOf, IsThere, may}
use Rattle.pw_world_state.specs.Read.{AreValued, ClosedValues, IsCauseRead, IsEntryRead, IsRead, IsServerRead, OwnValues}
use Rattle.pw_world_state.specs.Stands.{Stands, StandsForClass, StandsForJob, StandsForKnown, StandsIfAny}
use Rattle.pw_world_state.specs.TerminalTests as kept
use Rattle.pw_world_state.specs.Tested.{CauseTested, IsAsking, IsAskingEnd, IsAskingStart, IsPlaced, IsServing}
use Rattle.pw_world_state.proofs.Agreeing.{there-is}
use Rattle.pw_world_state.proofs.Apart.{tells-dropped, tells-ended, tells-start}
use Rattle.pw_world_state.proofs.Behind as behind
use Rattle.pw_world_state.proofs.Causing.{restart-same, suspend-same}
use Rattle.pw_world_state.proofs.Extra.{ends-push, ends_failed, is_fault}
use Rattle.pw_world_state.proofs.Forced.{suits-behind, suits-front}
use Rattle.pw_world_state.proofs.ImageTests.{back-same, begin-same, check-end-same, check-start-same, commit-same}
use Rattle.pw_world_state.proofs.Imaged.{has-image, last-of}
use Rattle.pw_world_state.proofs.Readings as readings
use Rattle.pw_world_state.proofs.Serving.{file-same, reply-same, take-same}
use Rattle.pw_world_state.proofs.Testing.{again-same, and-guard, apply-same, can-same, copy-same, entries-same, fault-same, key-same, lose-same, raise-same, send-same, show-same, stop-same, takeover-same}
use Rattle.pw_laws.specs.legal.Classes.{is_legal_file, is_legal_reply}
use Rattle.pw_laws.specs.legal.Legality.{fits}
use Rattle.pw_laws.specs.legal.Terminals as legal
use Rattle.pw_laws.specs.legal.Values.{some_with}
use Rattle.pw_laws.proofs.decided.Terminals as decided
use Rattle.pw_onecopy.specs.Attempt.{BeginsUnit}
use Rattle.pw_onecopy.specs.Behaviour.{Behaviour}
use Rattle.pw_onecopy.specs.IsBehaviour.{IsBehaviour, IsPath, Suits, SuitsFrom}
use Rattle.pw_onecopy.specs.Path.{PathAnswer, Begun, Dropped, Ended, Entry, Failed, Replied, Shown, is_outside}
use Rattle.pw_paired.specs.State.{Job, State}
use Rattle.pw_paired.specs.Step.{IsRun, after}
use Rattle.pw_paired.specs.Terminal.{CanStep, next_verb, path_of}
use Rattle.pw_paired.specs.Units.{request_in}
use Rattle.pw_laws.proofs.Paths.{IsPath-push}
use Rattle.pw_laws.proofs.requests.Queues.{works-queue}

-- ---- small things

-- a verb that begins a unit
begins-is : (v : Verb) (path : List PathAnswer) → kept.begins_unit v (is_outside path) ≡ true → BeginsUnit v path
begins-is verb.Begin path e = tt
begins-is (verb.Send class message) path e = e
begins-is verb.Show path e = absurd (cc e)
begins-is (verb.Accept screen) path e = absurd (cc e)
begins-is verb.End path e = absurd (cc e)
begins-is verb.Drop path e = absurd (cc e)
begins-is verb.Redo path e = absurd (cc e)
begins-is verb.Stop path e = absurd (cc e)
begins-is (verb.Fault x) path e = absurd (cc e)
begins-is (verb.File call) path e = absurd (cc e)
begins-is (verb.Reply reply) path e = absurd (cc e)

-- a run fault of a server is an answer to Send alone
fails-send : (sys : Behaviour) (t : ℕ) (path : List PathAnswer) (v : Verb) (x : ℕ) → Suits sys t path v (Failed x) → (c : ℕ) × (message : List ℕ) × (v ≡ verb.Send c message)
fails-send sys t path (verb.Send c message) x suits = (c, message, refl)
fails-send sys t path verb.Show x suits = absurd suits
fails-send sys t path (verb.Accept screen) x suits = absurd suits
fails-send sys t path verb.Begin x suits = absurd suits
fails-send sys t path verb.End x suits = absurd suits
fails-send sys t path verb.Drop x suits = absurd suits
fails-send sys t path verb.Redo x suits = absurd suits
fails-send sys t path verb.Stop x suits = absurd suits
fails-send sys t path (verb.Fault code) x suits = absurd suits
fails-send sys t path (verb.File call) x suits = absurd suits
fails-send sys t path (verb.Reply reply) x suits = absurd suits

-- behind one the program asks Fault
fault-behind : (sys : Behaviour) (b : IsBehaviour sys) (t : ℕ) (path : List PathAnswer) (a : PathAnswer) → IsPath sys t (path ++ a ∷ []) → is_fault a ≡ true → (x : ℕ) × (sys.ask t (path ++ a ∷ []) ≡ verb.Fault x)
fault-behind sys b t path (Failed x) is_path e =
    let before : IsPath sys t path = record { known = is_path.known; suits = suits-front sys t [] path (Failed x ∷ []) is_path.suits } in
    let suits : SuitsFrom sys t path (Failed x ∷ []) = suits-behind sys t [] path (Failed x ∷ []) is_path.suits in
    let send = fails-send sys t path (sys.ask t path) x suits.0 in
    (x, b.fails t send.0 x send.1 path before send.2)
fault-behind sys b t path Shown is_path e = absurd (cc e)
fault-behind sys b t path (Entry k) is_path e = absurd (cc e)
fault-behind sys b t path (Begun r) is_path e = absurd (cc e)
fault-behind sys b t path (Replied reply) is_path e = absurd (cc e)
fault-behind sys b t path Ended is_path e = absurd (cc e)
fault-behind sys b t path Dropped is_path e = absurd (cc e)

-- where the next verb is no Fault the path does not end with one
pub sound-at : (sys : Behaviour) (b : IsBehaviour sys) (t : ℕ) (path : List PathAnswer) → IsPath sys t path → ((x : ℕ) → sys.ask t path ≡ verb.Fault x → ⊥) → ends_failed path ≡ false
sound-at sys b t path is_path other = by (last-of path)
  where
    by-end : (before : List PathAnswer) (a : PathAnswer) → path ≡ before ++ a ∷ [] → (e : Bool) → is_fault a ≡ e → ends_failed path ≡ false
    by-end before a is false e = ap ends_failed is ∙ (ends-push before a ∙ e)
    by-end before a is true e =
        let fault = fault-behind sys b t before a (subst (IsPath sys t) is is_path) e in
        absurd (other fault.0 (ap (sys.ask t) is ∙ fault.1))

    by : (path ≡ []) ⊎ ((before : List PathAnswer) × (a : PathAnswer) × (path ≡ before ++ a ∷ [])) → ends_failed path ≡ false
    by (inl none) = ap ends_failed none
    by (inr some) = by-end some.0 some.1 some.2 (is_fault some.1) refl

module _ (system : System) (script : List FailLine) (valid : IsValid system) (b : IsBehaviour (behaviour script system)) (log : List Event) (run : IsRun (behaviour script system) log)
    (own : Kept) (stands : Stands system script (after (behaviour script system) log) own) where
  abbrev pub sys : Behaviour
  sys = behaviour script system

  abbrev pub state : State
  state = after sys log

  pub placed : (t : ℕ) → t < length system.terminals → IsPlaced system t
  placed = readings.placed system script valid b log run

  -- ---- a terminal at its verb

  module _ (t : ℕ) (low : t < length system.terminals) where
    abbrev can : Bool
    can = legal.can_step sys state t

    pub can-is : kept.can_step system own t ≡ legal.can_step sys state t
    can-is = can-same system script state own stands t (placed t low)

    can-of : legal.can_step sys state t ≡ true → CanStep sys state t
    can-of e = (decided.can sys state t).0 e

    asking-by : CanStep sys state t → (o : Option Context) → (own.terminals t).ready ≡ o → IsSome o → IsAsking system script state own t
    asking-by steps (Some context) is some = readings.asking system script valid b log run own stands t (readings.stepping-path system script valid b log run t steps) context is
    asking-by steps None is some = absurd (cc some)

    pub asking : IsRead system own t → legal.can_step sys state t ≡ true → IsAsking system script state own t
    asking read e = asking-by (can-of e) (own.terminals t).ready refl (read (can-is ∙ e))

    -- ---- images

    -- the context behind its path
    arrived : (info : TermInfo) → slice_get system.terminals t ≡ Some info → (context : Context) → (own.terminals t).context ≡ Some context → StandsForPath system info (path_of state t) context
    arrived info here context is = subst (StandsForKnown system info (path_of state t)) is (stands.terminals t info here).path

    pub own-image : (info : TermInfo) → slice_get system.terminals t ≡ Some info → IsPath sys t (path_of state t) → ends_failed (path_of state t) ≡ false → (context : Context) → (own.terminals t).context ≡ Some context
        → HasImage context
    own-image info here is_path sound context is = has-image system script t info valid here (path_of state t) context is_path sound (arrived info here context is)

    pub begins-sound : IsPath sys t (path_of state t) → BeginsUnit (next_verb sys state t) (path_of state t) → ends_failed (path_of state t) ≡ false
    begins-sound is_path begins = sound-at sys b t (path_of state t) is_path (λ x fault. subst (λ v. BeginsUnit v (path_of state t)) fault begins)

    pub asking-start : IsRead system own t → OwnValues own t → legal.can_step sys state t ≡ true → IsAskingStart system script state own t
    asking-start read fit e = record {
      asking = asking read e;
      tells = λ context is begins.
          let at = asking read e in
          let steps = can-of e in
          let is_path = readings.stepping-path system script valid b log run t steps in
          let here = at.placed.here in
          let starts : BeginsUnit (next_verb sys state t) (path_of state t) =
          begins-is (next_verb sys state t) (path_of state t) (sym (ap₂ (λ v o. kept.begins_unit v o) at.says.verb at.says.counts.outside) ∙ begins) in
          tells-start system script valid b log run t steps at.placed.info here context (arrived at.placed.info here context is)
          (own-image at.placed.info here is_path (begins-sound is_path starts) context is) (fit context is) starts;
    }

    -- the context behind the end of a transaction, and its image
    closed-stands : (at : IsAsking system script state own t) (a : PathAnswer) → StandsForPath system at.placed.info (path_of state t ++ a ∷ []) (answered_with system (told at.placed.info.entries a) at.context)
    closed-stands at a = behind.behind system script state own t stands at a

    closed-image : (at : IsAsking system script state own t) → IsPath sys t (path_of state t) → (a : PathAnswer) → is_fault a ≡ false → (v : Verb) → next_verb sys state t ≡ v → Suits sys t (path_of state t) v a
        → HasImage (answered_with system (told at.placed.info.entries a) at.context)
    closed-image at is_path a plain v asks suits =
        has-image system script t at.placed.info valid at.placed.here (path_of state t ++ a ∷ []) (answered_with system (told at.placed.info.entries a) at.context)
        (IsPath-push sys t (path_of state t) a is_path (subst (λ w. Suits sys t (path_of state t) w a) (sym asks) suits)) (ends-push (path_of state t) a ∙ plain) (closed-stands at a)

    pub ended-image : (at : IsAsking system script state own t) → IsPath sys t (path_of state t) → next_verb sys state t ≡ verb.End → HasImage (answered_with system answer.Ended at.context)
    ended-image at is_path asks = closed-image at is_path Ended refl verb.End asks tt

    pub dropped-image : (at : IsAsking system script state own t) → IsPath sys t (path_of state t) → next_verb sys state t ≡ verb.Drop → HasImage (answered_with system answer.Dropped at.context)
    dropped-image at is_path asks = closed-image at is_path Dropped refl verb.Drop asks tt

    pub asking-end : IsRead system own t → ClosedValues system own t → legal.can_step sys state t ≡ true → IsAskingEnd system script state own t
    asking-end read fit e =
        let at = asking read e in
        let steps = can-of e in
        let is_path = readings.stepping-path system script valid b log run t steps in
        record {
          asking = at;
          ends = λ is.
              let asks : next_verb sys state t ≡ verb.End = sym at.says.verb ∙ is in
              let one = fit at.context answer.Ended at.ready (ap kept.closing is) in
              tells-ended system script valid b log run t steps at.placed.info at.placed.here (answered_with system answer.Ended at.context) asks (closed-stands at Ended) (ended-image at is_path asks) one;
          drops = λ is.
              let asks : next_verb sys state t ≡ verb.Drop = sym at.says.verb ∙ is in
              let one = fit at.context answer.Dropped at.ready (ap kept.closing is) in
              tells-dropped system script valid b log run t steps at.placed.info at.placed.here (answered_with system answer.Dropped at.context) asks (closed-stands at Dropped) (dropped-image at is_path asks) one;
        }

  -- ---- a server

  serving-by : (c i : ℕ) (info : ClassInfo) → slice_get system.classes c ≡ Some info → IsServerRead own c i → (job : Job) → (state.classes c).busy i ≡ Some job → (o : Option Context) → own.jobs c i ≡ o → IsServing system script state own c i
  serving-by c i info here read job works (Some context) is = readings.serving system script valid b log run own stands c i job works context is (read context is)
  serving-by c i info here read job works None is =
      absurd (subst₂ (λ one other. StandsIfAny (StandsForJob system info) one other) works is ((stands.classes c info here).works_on i))

  pub serving : (c i : ℕ) → c < length system.classes → IsServerRead own c i → (job : Job) → (state.classes c).busy i ≡ Some job → IsServing system script state own c i
  serving c i low read job works = let found = there-is system.classes c low in serving-by c i found.0 found.1 read job works (own.jobs c i) refl

  -- a test of a process where no server works
  idle-where : (c i : ℕ) → IsProcessOf system c i → (state.classes c).busy i ≡ None → (test : Request → Context → Bool) → works_where own c i test ≡ false
  idle-where c i of idle test =
      let found = there-is system.classes c of.class in
      let high : i ≤ found.0.processes = subst (λ n. i ≤ n) (ap processes_by found.1) of.high in
      let at : at_process (own.queues c) i ≡ request_in ((state.classes c).busy i) =
      ap (λ q. at_process q i) (stands.classes c found.0 found.1).queue_is ∙ works-queue found.0.processes i (state.classes c) of.low high in
      ap (some_with (λ request. some_with (test request) (own.jobs c i))) (at ∙ ap request_in idle)

  -- a test of a server is that of the state where it is so for a server at work
  by-job : (c i : ℕ) → IsProcessOf system c i → IsServerRead own c i → (test : Request → Context → Bool) (by : Job → Bool)
      → (IsServing system script state own c i → works_where own c i test ≡ some_with by ((state.classes c).busy i)) → works_where own c i test ≡ some_with by ((state.classes c).busy i)
  by-job c i of read test by same = pick ((state.classes c).busy i) refl
    where
      pick : (o : Option Job) → (state.classes c).busy i ≡ o → works_where own c i test ≡ some_with by ((state.classes c).busy i)
      pick (Some job) works = same (serving c i of.class read job works)
      pick None idle = idle-where c i of idle test ∙ sym (ap (some_with by) idle)

  -- ---- causes

  job-in : (c i : ℕ) (job : Job) → (state.classes c).busy i ≡ Some job → c < length system.classes → at_process (own.queues c) i ≡ Some job.request
  job-in c i job works low =
      let found = there-is system.classes c low in
      let old : StandsForClass system found.0 (state.classes c) (own.queues c) (own.jobs c) = stands.classes c found.0 found.1 in
      let place = old.within i (rw works refl) in
      ap (λ q. at_process q i) old.queue_is ∙ (works-queue found.0.processes i (state.classes c) place.0 place.1 ∙ ap request_in works)

  older-tested : (t o m : ℕ) → IsCauseRead system own t (Older o m) → CauseTested system script state own t (Older o m)
  older-tested t o m read c i job works whose =
      let low : c < length system.classes = readings.class-there system script valid b log run c i job works in
      serving c i low (read c i job.request low (job-in c i job works low) whose) job works

  pub caused : (t : ℕ) → t < length system.terminals → (cause : Cause) → IsCauseRead system own t cause → CauseTested system script state own t cause
  caused t low (Older o m) read = older-tested t o m read
  caused t low (Takeover p) read = tt
  caused t low (Server k) read = tt
  caused t low Redo read = λ e. asking t low read (sym (can-is t low) ∙ e)

  -- ---- every entry

  pub may-same : (entry : Event) → IsThere system entry → IsEntryRead system own entry → AreValued system own entry → may system script own entry ≡ fits sys state entry
  may-same (event.Show t phase attempt k) low read fit = and-guard _ _ _ _ (can-is t low) (λ e. show-same system script state own stands t (asking t low read e) phase attempt k)
  may-same (event.Key t k) low read fit = and-guard _ _ _ _ (can-is t low) (λ e. key-same system script state own stands t (asking t low read e) k)
  may-same (event.CheckStart t) low read fit = and-guard _ _ _ _ (can-is t low) (λ e. check-start-same system script state own stands t (asking-start t low read fit e))
  may-same (event.CheckEnd t) low read fit = and-guard _ _ _ _ (can-is t low) (λ e. check-end-same system script state own stands t (asking-end t low read fit e))
  may-same (event.CheckCopy t) low read fit = copy-same system script state own stands t (placed t low)
  may-same (event.Applied t) low read fit = apply-same system script state own stands t (placed t low)
  may-same (event.Begin t n r) low read fit = and-guard _ _ _ _ (can-is t low) (λ e. begin-same system script state own stands t (asking-start t low read fit e) n r)
  may-same (event.Send t n c) low read fit = and-guard _ _ _ _ (can-is t low) (λ e. send-same system script state own stands t (asking t low read e) n c)
  may-same (event.Take c i t) low read fit = let found = there-is system.classes c low in take-same system script state own stands c i t found.0 found.1
  may-same (event.File c i op mode f status) of read fit =
      by-job c i of read _ _ (λ serving. file-same system script state own stands c i serving op mode f status)
  may-same (event.Reply c i t fault) of read fit =
      by-job c i of read _ _ (λ serving. reply-same system script state own stands c i serving t fault)
  may-same (event.Again t n) low read fit = and-guard _ _ _ _ (can-is t low) (λ e. again-same system script state own stands t (asking t low read e) n)
  may-same (event.Commit t n) low read fit = and-guard _ _ _ _ (can-is t low) (λ e. commit-same system script state own stands t (asking-end t low read fit e) n)
  may-same (event.Back t n) low read fit = and-guard _ _ _ _ (can-is t low) (λ e. back-same system script state own stands t (asking-end t low read fit e) n)
  may-same (event.Restart t n cause) low read fit = restart-same system script state own stands t (placed t low) cause (caused t low cause read) n
  may-same (event.FailTcp p primary k) low read fit = refl
  may-same (event.FailServer c i k) low read fit = refl
  may-same (event.Takeover p) low read fit = takeover-same system script state own stands p low
  may-same (event.Raise p) low read fit = raise-same system script state own stands p low
  may-same (event.End t Stopped) low read fit = and-guard _ _ _ _ (can-is t low) (λ e. stop-same system script state own stands t (asking t low read e))
  may-same (event.End t NoEntries) low read fit = and-guard _ _ _ _ (can-is t low) (λ e. entries-same system script state own stands t (asking t low read e))
  may-same (event.End t (Fault x)) low read fit = and-guard _ _ _ _ (can-is t low) (λ e. fault-same system script state own stands t (asking t low read e) x)
  may-same (event.End t (Suspended cause)) low read fit = suspend-same system script state own stands t (placed t low) cause (caused t low cause read)
  may-same (event.End t Lost) low read fit = lose-same system script state own stands t (placed t low)
