-- A legal entry whose programs have been read can be made.
use Rattle.std.proofs.Common.{◌≡◌, ◌≢◌, ℕ, ◌+◌, ◌-◌, ◌<◌, ◌≤◌, ◌^◌, List, [], ◌∷◌, ◌++◌, length, map, Option, Some, None, true, false, is_some, inl, inr, ◌⊎◌, refl, sym, ap, ap₂, subst, ◌∙◌, ⊎_elim, length-append, arith}
use Rattle.std.specs.Prelude.{IsSome}
use Rattle.std.specs.Option.{option_map}
use Rattle.std.proofs.lemmas.Bool.{cases_eq, cases_lt}
use Rattle.std.proofs.lemmas.List.{length-map}
use Rattle.std.proofs.lemmas.Option.{get_or_from_slice_get, slice_get_within}
use Rattle.pw_base.proofs.Plain.{and-first}
use Rattle.pw_class.specs.Queue as queue
use Rattle.pw_class.specs.Queue.{at_process}
use Rattle.pw_class.specs.declared.request.Request.{Request}
use Rattle.pw_code.specs.Valid.{IsTerminal}
use Rattle.pw_code.specs.declared.context.Context.{Context}
use Rattle.pw_code.specs.declared.file.FileCall.{FileCall}
use Rattle.pw_code.specs.declared.system.TermInfo.{TermInfo}
use Rattle.pw_code.specs.declared.verb.Answer.{Answer}
use Rattle.pw_code.specs.declared.verb.Answer.TheVariants as answer
use Rattle.pw_code.specs.declared.verb.Verb.{Verb}
use Rattle.pw_code.specs.declared.verb.Verb.TheVariants as verb
use Rattle.pw_event.specs.declared.event.Event.{Event}
use Rattle.pw_event.specs.declared.event.Event.TheVariants.{Show, Key, CheckStart, CheckEnd, CheckCopy, Applied, Begin, Send, Take, File, Reply, Again, Commit, Back, Restart, FailTcp, FailServer, Takeover, Raise, End}
use Rattle.pw_code_meaning.specs.OfSystem.{number_by, told}
use Rattle.pw_image.specs.Image.{HasImage}
use Rattle.pw_world_state.specs.Asked.{answered_with, unit_in, verb_in}
use Rattle.pw_world_state.specs.Changes.{birth_for, unit_at}
use Rattle.pw_world_state.specs.Entered.{copied}
use Rattle.pw_world_state.specs.May.{IsThere, may}
use Rattle.pw_world_state.specs.Read.{AreValued, IsEntryRead}
use Rattle.pw_world_state.specs.Needs.{ClosingFits, Needs}
use Rattle.pw_pair.specs.Follows.{mode_as}
use Rattle.pw_world_state.specs.TerminalTests.{closing, seen_pair_of}
use Rattle.pw_world_state.specs.Tested.{IsAsking, IsPlaced, IsServing}
use Rattle.pw_world_state.proofs.Agreeing.{there-is}
use Rattle.pw_world_state.proofs.Arrived.{stands-behind}
use Rattle.pw_world_state.proofs.Behind as behind
use Rattle.pw_world_state.proofs.OfRuns.{begins-same, works-for}
use Rattle.pw_world_state.proofs.PathLengths.{path-short}
use Rattle.pw_world_state.proofs.UnitChanges.{has-context}
use Rattle.pw_locks.specs.Conflicts.{holders}
use Rattle.pw_locks.specs.declared.lock.Lock.{Lock}
use Rattle.pw_machine.proofs.RoomLemmas.{room_of_terminals}
use Rattle.pw_machine.specs.Stack.{HasRoom}
use Rattle.pw_entry_effects.specs.Can.{Can, CanAct, CanAnswer, CanClose, CanOperate, CanReply, RepliesTo}
use Rattle.pw_world_model.specs.Pushed.{CanPush}
use Rattle.pw_world_model.specs.Seen.{Seen, state_of, sys_of}
use Rattle.pw_world_model.specs.Worlds.{Books, IsWorld}
use Rattle.pw_world_model.proofs.Behind.{needs}
use Rattle.pw_world_model.proofs.OfUnits.{is-running, job-at, may-ask, open-told, serves, serves-running}
use Rattle.pw_world_model.proofs.Outs.{at-same, has-same}
use Rattle.pw_world_model.proofs.Rooms as rooms
use Rattle.pw_world_model.proofs.Steps.{passes, there}
use Rattle.pw_onecopy.specs.Behaviour.{Behaviour}
use Rattle.pw_onecopy.specs.IsBehaviour.{IsPath}
use Rattle.pw_onecopy.specs.Path.{PathAnswer, Dropped, Ended, is_outside, unit_number}
use Rattle.pw_pair.specs.Rooms.{MaySend}
use Rattle.pw_pair.specs.declared.message.CheckKind.{CheckKind}
use Rattle.pw_pair.specs.declared.message.CheckKind.TheVariants as kind
use Rattle.pw_paired.specs.Server.{LegalReply, lock_of_job, server_verb}
use Rattle.pw_paired.specs.State.{PairMode, Alone, Raising, Paired, Down, Job, LastEnded, OpenUnit, State, starting}
use Rattle.pw_paired.specs.Step.{Legal, after_from, effect}
use Rattle.pw_paired.specs.Terminal.{CanStep, LegalBegin, births_after, closing_answer, next_verb, path_of}
use Rattle.pw_paired.specs.Units.{attempt_of, birth_of, has_request, is_out, request_in, restarts_of}
use Rattle.pw_laws.proofs.Births.{births-ok}
use Rattle.pw_laws.proofs.induction.Failed.{end-any, fail-cases, process-cases}
use Rattle.pw_laws.proofs.induction.Runs.{kept}
use Rattle.pw_laws.proofs.induction.Served.{file-cases, reply-any}
use Rattle.pw_laws.proofs.kept.Failing.{out-job}
use Rattle.pw_laws.proofs.kept.Kept.{Inv}
use Rattle.pw_laws.proofs.requests.Classes.{IsProcess}
use Rattle.pw_laws.proofs.terms.KeepsChecks.{can_path, path_ok-is, within}
use Rattle.pw_laws.proofs.terms.KeepsEnds.{OutOk, out-path}
use Rattle.pw_laws.proofs.terms.KeepsPairs.{any_below-false}
use Rattle.pw_tmf.specs.Operation.{lock_now}
use Rattle.pw_tmf.specs.Tells.{as_told, images_by}
use Rattle.pw_tmf.specs.Told.{ToldUnit}
use Rattle.pw_tmf.specs.Units.{CanBegin, IsRunning, MayBegin}

-- ---- births

-- an entry begins at most one unit
births-more : (sys : Behaviour) (s : State) (entry : Event) → (effect sys s entry).births ≤ s.births + 1
births-more sys s (Show t phase attempt k) = omega arith
births-more sys s (Key t k) = omega arith
births-more sys s (CheckStart t) = omega arith
births-more sys s (CheckEnd t) = omega arith
births-more sys s (CheckCopy t) = omega arith
births-more sys s (Applied t) = omega arith
births-more sys s (Send t n c) = omega arith
births-more sys s (Take c i t) = omega arith
births-more sys s (Again t n) = omega arith
births-more sys s (Commit t n) = omega arith
births-more sys s (Back t n) = omega arith
births-more sys s (Restart t n cause) = omega arith
births-more sys s (Takeover p) = omega arith
births-more sys s (Raise p) = omega arith
births-more sys s (Begin t n r) = by (s.units t)
  where
    by : (o : Option OpenUnit) → births_after o s.births ≤ s.births + 1
    by None = omega arith
    by (Some unit) = omega arith
births-more sys s (File c i op mode f status) = file-cases sys s c i (λ x. x.births ≤ s.births + 1) (omega arith) (λ job call works asks. omega arith)
births-more sys s (Reply c i t fault) = reply-any sys s c i t (λ x. x.births ≤ s.births + 1) fault (λ reply outside. omega arith) (λ reply inside. omega arith) (λ x. omega arith)
births-more sys s (FailTcp p primary k) = fail-cases sys s (λ x. x.births ≤ s.births + 1) p (omega arith) (λ paired. omega arith) (λ member breaks. omega arith) (λ has. omega arith) primary
births-more sys s (FailServer c i k) = process-cases sys s (λ x. x.births ≤ s.births + 1) c i k (omega arith) (λ job works. omega arith)
births-more sys s (End t ending) = end-any sys s (λ x. x.births ≤ s.births + 1) t ending (omega arith) (omega arith)

births-from : (sys : Behaviour) (s : State) (log : List Event) → (after_from sys s log).births ≤ s.births + length log
births-from sys s [] = omega arith
births-from sys s (entry ∷ log) = let one = births-more sys s entry in let rest = births-from sys (effect sys s entry) log in omega (arith, one, rest)

-- a verb that closes a transaction is End or Drop, and its answer is that of the machine
closes-with : (v : Verb) (a : PathAnswer) → closing_answer v ≡ Some a → ((v ≡ verb.End) × (a ≡ Ended)) ⊎ ((v ≡ verb.Drop) × (a ≡ Dropped))
closes-with verb.End a e = inl (refl, cc e)
closes-with verb.Drop a e = inr (refl, cc e)
closes-with verb.Show a e = absurd (cc e)
closes-with (verb.Accept screen) a e = absurd (cc e)
closes-with verb.Begin a e = absurd (cc e)
closes-with (verb.Send class message) a e = absurd (cc e)
closes-with verb.Redo a e = absurd (cc e)
closes-with verb.Stop a e = absurd (cc e)
closes-with (verb.Fault x) a e = absurd (cc e)
closes-with (verb.File call) a e = absurd (cc e)
closes-with (verb.Reply reply) a e = absurd (cc e)

module _ (world : Seen) (books : Books) (w : IsWorld world books) (entry : Event) (can : CanPush world entry)
    (beyond : (d t : ℕ) → length world.system.classes ≤ d → queue.has_request t (world.kept.queues d) ≡ false) where
  abbrev sys : Behaviour
  sys = sys_of world

  abbrev state : State
  state = state_of world

  inv : Inv sys state
  inv = kept sys w.deck world.log w.run

  -- ---- terminals

  abbrev can-answer : (t : ℕ) → IsAsking world.system world.script state world.kept t → CanAnswer world.system world.kept t
  can-answer t at =
      let both = rooms.ready world books w t at.placed.info at.context at.placed.here at.ready in
      record { placed = at.placed; context = at.context; ready = at.ready; sound = both.0; room = both.1 }

  mode-of : (t : ℕ) → (at : IsPlaced world.system t) → (seen_pair_of world.system world.kept t).mode ≡ mode_as (state.modes (sys.pair_of t))
  mode-of t at = (w.stands.pairs (sys.pair_of t) (w.deck.pairs t (slice_get_within world.system.terminals t at.info at.here))).mode_is

  sends-in : (t : ℕ) (kind : CheckKind) (m : PairMode) → (at : IsPlaced world.system t) → state.modes (sys.pair_of t) ≡ m → MaySend (mode_as m) kind → MaySend (seen_pair_of world.system world.kept t).mode kind
  sends-in t kind m at is may = subst (λ x. MaySend x kind) (sym (mode-of t at ∙ ap mode_as is)) may

  -- a context behind an answer has room
  room-behind : (t : ℕ) (at : IsAsking world.system world.script state world.kept t) (a : PathAnswer) → HasRoom (answered_with world.system (told at.placed.info.entries a) at.context)
  room-behind t at a =
      let low = slice_get_within world.system.terminals t at.placed.info at.placed.here in
      let short = path-short sys w.deck world.log w.run t low in
      let room = w.room in
      let few = w.few in
      let same : length (map (told at.placed.info.entries) (path_of state t ++ a ∷ [])) ≡ length (path_of state t ++ a ∷ []) = length-map (path_of state t ++ a ∷ []) (told at.placed.info.entries) in
      let more : length (path_of state t ++ a ∷ []) ≡ length (path_of state t) + 1 = length-append (path_of state t) (a ∷ []) in
      room_of_terminals world.system at.placed.info.program (map (told at.placed.info.entries) (path_of state t ++ a ∷ [])) (answered_with world.system (told at.placed.info.entries a) at.context)
      (stands-behind world.system at.placed.info (path_of state t ++ a ∷ []) (answered_with world.system (told at.placed.info.entries a) at.context) (behind.behind world.system world.script state world.kept t w.stands at a))
      (omega (arith, short, room, few, same, more))

  closes-so : (t : ℕ) → CanStep sys state t → (fits : ClosingFits world.system world.script state world.kept t) → (a : PathAnswer) → closing_answer (next_verb sys state t) ≡ Some a → CanClose world.system world.kept t
  closes-so t step fits a is = ⊎_elim
      (λ ended. by answer.Ended (ap closing (at.says.verb ∙ ended.0)) (fits.ends ended.0).0 (room-behind t at Ended))
      (λ dropped. by answer.Dropped (ap closing (at.says.verb ∙ dropped.0)) (fits.drops dropped.0).0 (room-behind t at Dropped))
      (closes-with (next_verb sys state t) a is)
    where
      at : IsAsking world.system world.script state world.kept t
      at = fits.asking

      by : (b : Answer) → closing (verb_in world.system at.context) ≡ Some b → HasImage (answered_with world.system b at.context) → HasRoom (answered_with world.system b at.context) → CanClose world.system world.kept t
      by b closes image room = record {
        can = can-answer t at;
        answer = b;
        closes = closes;
        carries = record {
          placed = at.placed;
          own = answered_with world.system b at.context;
          there = refl;
          image = image;
          room = room;
          sends = sends-in t kind.End Paired at.placed step.paired tt;
        };
      }

  -- the context of a terminal, or that of its start, has room
  room-of : (t : ℕ) → (at : IsPlaced world.system t) → (o : Option Context) → (world.kept.terminals t).start ≡ o → (own : Context) → copied o (world.kept.terminals t).context ≡ Some own → HasRoom own
  room-of t at None none own is = (rooms.behind world books w t at.info own at.here is).1
  room-of t at (Some start) some own is = (rooms.start world books w t at.info own at.here (some ∙ is)).1

  -- ---- units

  -- the unit of a transaction runs, and has the number of its path
  inside-runs : (t n : ℕ) → CanStep sys state t → is_outside (path_of state t) ≡ false → n ≡ unit_number (path_of state t) → IsRunning world.kept.disc (unit_at world.kept t n)
  inside-runs t n step inside number =
      let in-unit = within (state.units t) inside (can_path sys w.deck state inv.terms t step) in
      let ok = (inv.terms t step.live.known).unit_ok in-unit.open_unit in-unit.is_open in
      let one = ok.number in
      let two = in-unit.path_is.number in
      is-running world books w t n in-unit.open_unit step.live.known in-unit.is_open (one ∙ sym (number ∙ two)) (ap is_some in-unit.runs)

  few-births : world.kept.births < 2 ^ 64 - 1
  few-births =
      let same = w.stands.births in
      let low : state.births ≤ 0 + length world.log = births-from sys (starting sys) world.log in
      let room = w.room in
      let few = w.few in
      omega (arith, same, low, room, few)

  may-begin : (t n r : ℕ) → LegalBegin sys state t n r → MayBegin (unit_at world.kept t n) (world.kept.disc.units t)
  may-begin t n r l = by (world.kept.disc.units t) refl
    where
      by : (o : Option ToldUnit) → world.kept.disc.units t ≡ o → MayBegin (unit_at world.kept t n) o
      by None none = tt
      by (Some own) some =
          let found = open-told world books w t own some in
          let idle : found.0.running ≡ None = sym (ap attempt_of found.1.0) ∙ l.idle in (
            ap (λ (u : ToldUnit). u.number) found.1.1 ∙ begins-same sys w.deck world.log w.run t n r l found.0 found.1.0,
            sym (ap (λ o. birth_for o world.kept.births) some),
            ap (λ (u : ToldUnit). u.running) found.1.1 ∙ ap is_some idle,
          )

  birth-apart : (t n o : ℕ) (other : ToldUnit) → world.kept.disc.units o ≡ Some other → other.birth ≡ (unit_at world.kept t n).birth → o ≡ t
  birth-apart t n o other is same = ⊎_elim (λ e. e) (λ differ. absurd (by differ (world.kept.disc.units t) refl)) (cases_eq o t)
    where
      found : (u : OpenUnit) × ((state.units o ≡ Some u) × (other ≡ as_told (images_by o state.before) u))
      found = open-told world books w o other is

      birth-is : other.birth ≡ found.0.birth
      birth-is = ap (λ (u : ToldUnit). u.birth) found.1.1

      by : o ≢ t → (own : Option ToldUnit) → world.kept.disc.units t ≡ own → ⊥
      by differ None none =
          let below = (births-ok sys world.log).below o found.0 found.1.0 in
          let new : (unit_at world.kept t n).birth ≡ world.kept.births = ap (λ x. birth_for x world.kept.births) none in
          let births = w.stands.births in
          omega (arith, below, new, births, same, birth-is)
      by differ (Some own) some =
          let mine = open-told world books w t own some in
          let new : (unit_at world.kept t n).birth ≡ own.birth = ap (λ x. birth_for x world.kept.births) some in
          let own-is : own.birth ≡ mine.0.birth = ap (λ (u : ToldUnit). u.birth) mine.1.1 in
          (births-ok sys world.log).apart o t found.0 mine.0 differ found.1.0 mine.1.0 (sym birth-is ∙ (same ∙ (new ∙ own-is)))

  can-begin : (t n r : ℕ) → LegalBegin sys state t n r → CanBegin world.kept.disc (unit_at world.kept t n)
  can-begin t n r l = record {
    terminal = subst (λ m. t < m) (sym w.terminals) l.can.live.known;
    number = let number = l.number in omega (arith, number);
    not_ended = λ e. l.new (ap (λ f. (f t).number) (sym w.stands.disc.ended) ∙ e);
    free = may-begin t n r l;
    births = λ o other is same. birth-apart t n o other is same;
  }

  context-there : (t : ℕ) → (at : IsPlaced world.system t) → CanStep sys state t → (own : Context) × ((world.kept.terminals t).context ≡ Some own)
  context-there t at step = by (world.kept.terminals t).context refl (has-context world.system world.script state world.kept t at.info w.stands at.here step)
    where
      by : (o : Option Context) → (world.kept.terminals t).context ≡ o → IsSome o → (own : Context) × ((world.kept.terminals t).context ≡ Some own)
      by None none some = absurd (cc some)
      by (Some own) is some = (own, is)

  -- no class has a request of a terminal whose request is not out
  alone : (t : ℕ) → is_out sys state t ≡ false → (d : ℕ) → queue.has_request t (world.kept.queues d) ≡ false
  alone t inside d = ⊎_elim
      (λ low. has-same world.system world.script state world.kept w.stands t d low ∙ any_below-false sys.classes (λ c. has_request t (sys.processes c) (state.classes c)) inside d low)
      (λ past. beyond d t past) (cases_lt d (length world.system.classes))

  -- ---- servers

  -- the lock that a job's operation takes is that of what is kept
  same-lock : (c i : ℕ) (job : Job) (call : FileCall) → (state.classes c).busy i ≡ Some job → lock_now world.kept.disc (unit_at world.kept job.request.terminal job.request.unit) call ≡ lock_of_job sys state job call
  same-lock c i job call at =
      let for = works-for sys w.deck world.log w.run c i job at in
      let disc = w.stands.disc in
      let rule = disc.rule in
      let keys : world.kept.disc.key_length call.file ≡ sys.key_length call.file = ap (λ f. f call.file) disc.keys in
      let files : world.kept.disc.files call.file ≡ state.files call.file = ap (λ f. f call.file) disc.files in
      let told-unit : world.kept.disc.units job.request.terminal ≡ Some (as_told (images_by job.request.terminal state.before) for.unit) =
      disc.units job.request.terminal ∙ ap (option_map (as_told (images_by job.request.terminal state.before))) for.is_open in
      let birth : (unit_at world.kept job.request.terminal job.request.unit).birth ≡ birth_of (state.units job.request.terminal) =
      ap (λ o. birth_for o world.kept.births) told-unit ∙ ap birth_of (sym for.is_open) in
      cc (rule, keys, files, birth)

  can-operate : (c i : ℕ) (call : FileCall) (job : Job) → (at : IsServing world.system world.script state world.kept c i) → (state.classes c).busy i ≡ Some job → server_verb sys c job ≡ verb.File call
      → holders (lock_of_job sys state job call) state.locks ≡ [] → CanOperate world.system world.kept c i
  can-operate c i call job at works asks free =
      let of = inv.requests.bounds.work c i job works in
      let found = there-is world.system.classes c of.there in
      let both = rooms.job-room world books w c i found.0 at.context found.1 at.ready in
      let for = works-for sys w.deck world.log w.run c i job works in
      record {
        class = of.there;
        low = of.from_one;
        context = at.context;
        job = at.ready;
        at_verb = at.at_verb;
        call = call;
        asks = serves world books w c i job at.context works at.ready at.at_verb ∙ asks;
        request = job.request;
        post = at-same world.system world.script state world.kept w.stands c i of ∙ ap request_in works;
        known = inv.known job.request.terminal for.unit for.is_open;
        runs = serves-running world books w c i job works;
        fits = may-ask world books w c job call of.there asks;
        free = ap₂ (λ (l : Lock) ls. holders l ls) (same-lock c i job call works) w.stands.disc.locks ∙ free;
        sound = both.0;
        room = both.1;
      }

  -- the unit of one SEND runs, and has the number of its context
  reply-runs : (c i t : ℕ) (job : Job) → (state.classes c).busy i ≡ Some job → job.request.terminal ≡ t → (at : IsAsking world.system world.script state world.kept t) → IsRunning world.kept.disc (unit_at world.kept t (unit_in at.context))
  reply-runs c i t job works whose at =
      let out = subst (λ v. OutOk sys state v (record { class = c; request = job.request })) whose (out-job sys w.deck state inv c i job works) in
      let ok = (inv.terms t out.live.known).unit_ok out.unit out.is_open in
      let path = out-path sys w.deck state inv.terms t (record { class = c; request = job.request }) out in
      let one = ok.number in
      let two = path.number in
      is-running world books w t (unit_in at.context) out.unit out.live.known out.is_open (one ∙ sym (at.says.counts.unit ∙ two)) (ap is_some out.runs)

  can-reply : (c i t : ℕ) (fault : Option ℕ) → LegalReply sys state c i t fault → IsServing world.system world.script state world.kept c i → IsAsking world.system world.script state world.kept t → CanReply world.system world.kept c i t fault
  can-reply c i t fault l serving at = record {
    can = can-answer t at;
    class = of.there;
    low = of.from_one;
    busy = subst IsSome (sym (at-same world.system world.script state world.kept w.stands c i of ∙ ap request_in l.at_work)) refl;
    replies = by fault;
  }
    where
      of : IsProcess sys c i
      of = inv.requests.bounds.work c i l.job l.at_work

      by : (x : Option ℕ) → RepliesTo world.kept c i t at.context x
      by None = record { context = serving.context; job = serving.ready; at_verb = serving.at_verb; runs = λ outside. reply-runs c i t l.job l.at_work l.whose at }
      by (Some x) = tt

  -- ---- every entry

  mode-is : (p : ℕ) → p < length world.system.tcps → (m : PairMode) → state.modes p ≡ m → (world.kept.pairs p).mode ≡ mode_as m
  mode-is p few m is = (w.stands.pairs p few).mode_is ∙ ap mode_as is

  few-restarts : (t : ℕ) → (at : IsPlaced world.system t) → (u : OpenUnit) → state.units t ≡ Some u → u.restarts < sys.max_restarts t → (world.kept.terminals t).restarts < 2 ^ 32 - 1
  few-restarts t at u is few =
      let limit = (subst (IsTerminal world.system) (get_or_from_slice_get world.system.terminals t at.info at.info at.here)
      (w.valid.terminals t at.info (slice_get_within world.system.terminals t at.info at.here))).restarts in
      let same : (world.kept.terminals t).restarts ≡ u.restarts = (w.stands.terminals t at.info at.here).restarts ∙ ap restarts_of is in
      let max : sys.max_restarts t ≡ at.info.max_restarts = ap (number_by (λ (info : TermInfo). info.max_restarts)) at.here in
      omega (arith, limit, same, max, few)

  entries-of : (t : ℕ) → (at : IsPlaced world.system t) → sys.entries t ≡ length at.info.entries
  entries-of t at = ap (number_by (λ (info : TermInfo). length info.entries)) at.here

  path-is : (t : ℕ) → CanStep sys state t → IsPath sys t (path_of state t)
  path-is t step = path_ok-is _ (state.units t) (can_path sys w.deck state inv.terms t step)

  can-of : (e : Event) → IsThere world.system e → Legal sys state e → Needs world.system world.script state world.kept e
      → (IsEntryRead world.system world.kept e → AreValued world.system world.kept e → may world.system world.script world.kept e ≡ true) → Can world.system world.kept e
  can-of (Show t phase attempt k) low l need test = can-answer t need
  can-of (Key t k) low l need test =
      let next = l.fits.next in
      let exists = l.fits.exists in
      let lines = entries-of t need.placed in
      record { can = can-answer t need; low = omega (arith, next); high = omega (arith, exists, lines) }
  can-of (CheckStart t) low l need test =
      let at = need.0.placed in
      record {
        placed = at;
        own = need.1.own;
        there = need.1.there;
        image = need.1.carries.has_image;
        room = (rooms.behind world books w t at.info need.1.own at.here need.1.there).1;
        sends = sends-in t kind.Start Paired at l.fits.can.paired tt;
      }
  can-of (CheckEnd t) low l need test = closes-so t l.fits.can need l.fits.answer l.fits.closes
  can-of (CheckCopy t) low l need test = record {
    placed = need.0;
    own = need.1.own;
    there = need.1.there;
    image = need.1.carries.has_image;
    room = room-of t need.0 (world.kept.terminals t).start refl need.1.own need.1.there;
    sends = sends-in t kind.Copy Raising need.0 l.fits.raising tt;
  }
  can-of (Applied t) low l need test = record { placed = need; flies = and-first _ _ (test tt tt) }
  can-of (Begin t n r) low l need test =
      let behind-it = context-there t need.asking.placed l.fits.can in
      record { can = can-answer t need.asking; start = behind-it.0; behind = behind-it.1; begins = can-begin t n r l.fits; births = few-births }
  can-of (Send t n c) low l need test = record {
    can = can-answer t need;
    message = l.fits.message;
    asks = need.says.verb ∙ l.fits.asks;
    class = w.deck.sends t c l.fits.message (path_of state t) (path-is t l.fits.can) l.fits.asks;
    alone = alone t l.fits.not_out;
  }
  can-of (Take c i t) low l need test = record { info = need.info; here = need.here; may = test tt tt }
  can-of (File c i op mode f status) of l need test = can-operate c i l.fits.call l.fits.job need l.fits.at_work l.fits.asks l.fits.free
  can-of (Reply c i t fault) of l need test = can-reply c i t fault l.fits need.0 need.1
  can-of (Again t n) low l need test =
      let last = l.fits.last in
      let number = l.fits.number in
      let same : (world.kept.disc.ended t).number ≡ (state.ended t).number = ap (λ (f : ℕ → LastEnded). (f t).number) w.stands.disc.ended in
      record { can = can-answer t need; some = omega (arith, last, number, same) }
  can-of (Commit t n) low l need test = record {
    can = can-answer t need;
    runs = inside-runs t n l.fits.can (w.deck.ends t (path_of state t) (path-is t l.fits.can) l.fits.asks) l.fits.number;
  }
  can-of (Back t n) low l need test = record {
    can = can-answer t need;
    may = (inside-runs t n l.fits.can (w.deck.drops t (path_of state t) (path-is t l.fits.can) l.fits.asks) l.fits.number).is_open;
  }
  can-of (Restart t n cause) low l need test =
      let caused = l.fits.caused in
      record {
        placed = need;
        runs = is-running world books w t n l.fits.unit low caused.is_open caused.number (ap is_some caused.runs);
        few = few-restarts t need l.fits.unit caused.is_open l.fits.few;
      }
  can-of (FailTcp p primary k) low l need test = low
  can-of (FailServer c i k) of l need test = record {
    class = of.class;
    known = λ request is.
        let found = job-at world books w c i request of.class is in
        subst (λ (r : Request). r.terminal < length world.system.terminals) found.1.1 (out-job sys w.deck state inv c i found.0 found.1.0).live.known;
  }
  can-of (Takeover p) low l need test = record { known = low; mode = mode-is p low Down l.fits.down }
  can-of (Raise p) low l need test = record { known = low; mode = mode-is p low Alone l.fits.alone }
  can-of (End t ending) low l need test = need

  pub can-act : CanAct world.system world.kept entry
  can-act = record {
    valid = w.valid;
    can = can-of entry (there world books w entry can.legal) can.legal (needs world books w entry can) (λ read values. passes world books w entry read values can.legal);
  }
