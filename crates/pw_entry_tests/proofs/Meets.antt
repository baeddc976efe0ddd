-- Where units meet by the next operation of a process.
use Rattle.std.proofs.Common.{◌≡◌, ◌≢◌, ℕ, ◌≤◌, ◌&&◌, ◌||◌, Bool, true, false, [], Option, Some, None, refl, ap, ap₂, sym, subst, ◌∙◌, arith}
use Rattle.std.specs.Prelude.{All, Contains, filter}
use Rattle.std.specs.List.{list_any}
use Rattle.std.proofs.lemmas.Bool.{and_from, and_parts, eqb-true, eq-eqb, false_from_ne_true}
use Rattle.std.proofs.lemmas.List.Elements.{All-contains, All-filter, All-map}
use Rattle.std.proofs.lemmas.List.Folds.{Any-from_list_any}
use Rattle.pw_base.proofs.Plain.{or-false, some_is}
use Rattle.pw_class.specs.Queue.{at_process}
use Rattle.pw_class.specs.declared.request.Request.{Request}
use Rattle.pw_code.specs.declared.context.Context.{Context}
use Rattle.pw_code.specs.declared.file.FileCall.{FileCall}
use Rattle.pw_code.specs.declared.system.System.{System}
use Rattle.pw_code.specs.declared.unit.Unit as unit
use Rattle.pw_code.specs.declared.verb.Verb.{Verb}
use Rattle.pw_code.specs.declared.verb.Verb.TheVariants as verb
use Rattle.pw_world_state.specs.Asked.{verb_in}
use Rattle.pw_world_state.specs.CauseTests.{call_meets, work_meets}
use Rattle.pw_world_state.specs.Changes.{unit_at}
use Rattle.pw_world_state.specs.ClassTests.{works_where}
use Rattle.pw_world_state.specs.Kept.{Kept}
use Rattle.pw_world_state.specs.Read.{IsServerRead}
use Rattle.pw_laws.specs.legal.Values.{some_with}
use Rattle.pw_laws.specs.legal.Verbs.{asks_file}
use Rattle.pw_locks.specs.Conflicts.{conflict, holders, is_same_unit}
use Rattle.pw_locks.specs.Oldest.{IsOldest}
use Rattle.pw_locks.specs.declared.lock.Lock.{Lock}
use Rattle.pw_entry_tests.proofs.Held.{of-held, some-held}
use Rattle.pw_entry_tests.specs.Calls.{AsksCall}
use Rattle.pw_entry_tests.specs.Causes.{IsUnit, process_meets}
use Rattle.pw_entry_tests.specs.Known.{IsKnown}
use Rattle.pw_tmf.specs.Leaving.{unit_told}
use Rattle.pw_tmf.specs.Operation.{awaits, lock_now}
use Rattle.pw_tmf.specs.Told.{ToldUnit}
use Rattle.pw_tmf.specs.Units.{IsOpen, IsRunning}

-- ---- truths

-- a unit is itself
self-same : (u : unit.Unit) → is_same_unit u u ≡ true
self-same u = and_from _ _ (eq-eqb u.terminal u.terminal refl) (eq-eqb u.number u.number refl)

-- ---- units

-- a unit by its parts
abbrev named : ℕ → ℕ → ℕ → Option unit.Unit
named t n b = Some (record { terminal = t; number = n; birth = b })

module _ (system : System) (kept : Kept) where
  -- two open units of one terminal are one
  pub same-unit : (a b : unit.Unit) → IsUnit system kept a → IsUnit system kept b → a.terminal ≡ b.terminal → a ≡ b
  same-unit a b ha hb e =
      some_is (sym ha.open_unit ∙ (ap (λ t. unit_told t (kept.disc.units t)) e ∙ hb.open_unit))

  module _ (known : IsKnown system kept) where
    -- an open unit of the disc is one
    pub unit-of-open : (u : unit.Unit) → IsOpen kept.disc u → IsUnit system kept u
    unit-of-open u h = record {
      there = known.started u.terminal h.open_unit h.here;
      open_unit =
          ap (unit_told u.terminal) h.here
          ∙ ap₂ (λ n b. named u.terminal n b) h.number h.birth;
    }

    -- and the other way
    told-of : (u : unit.Unit) (told : Option ToldUnit) → kept.disc.units u.terminal ≡ told → unit_told u.terminal told ≡ Some u → IsOpen kept.disc u
    told-of u None is e = absurd (cc e)
    told-of u (Some own) is e =
        let same : record { terminal = u.terminal; number = own.number; birth = own.birth } ≡ u = some_is e in
        record {
          terminal = rw known.sizes (known.started u.terminal own is);
          open_unit = own;
          here = is;
          number = ap (λ (x : unit.Unit). x.number) same;
          birth = ap (λ (x : unit.Unit). x.birth) same;
        }

    pub open-of-unit : (u : unit.Unit) → IsUnit system kept u → IsOpen kept.disc u
    open-of-unit u h = told-of u (kept.disc.units u.terminal) refl h.open_unit

    -- ---- a process that asks for an operation
    module _ (c i : ℕ) (request : Request) (call : FileCall) (asks : AsksCall system kept c i request call) where
      running : IsRunning kept.disc (unit_at kept request.terminal request.unit)
      running = known.works c i request asks.works

      -- its unit is the open one of its terminal
      pub works-for : IsUnit system kept (unit_at kept request.terminal request.unit)
      works-for = unit-of-open (unit_at kept request.terminal request.unit) running.is_open

      pub works-for-unit : (one : unit.Unit) → IsUnit system kept one → request.terminal ≡ one.terminal
          → unit_at kept request.terminal request.unit ≡ one
      works-for-unit one h e = same-unit (unit_at kept request.terminal request.unit) one works-for h e

      pub runs-unit : (one : unit.Unit) → IsUnit system kept one → request.terminal ≡ one.terminal → IsRunning kept.disc one
      runs-unit one h e = subst (IsRunning kept.disc) (works-for-unit one h e) running

      test-is : (test : Request → Context → Bool) → works_where kept c i test ≡ test request asks.stands.context
      test-is test =
          ap (some_with (λ r. some_with (test r) (kept.jobs c i))) asks.works ∙ ap (some_with (test request)) asks.stands.job

      call-is : (one other : unit.Unit) → IsUnit system kept one → request.terminal ≡ one.terminal
          → call_meets kept other request call ≡ awaits kept.disc one call other
      call-is one other h e =
          ap (λ u. list_any (λ held. is_same_unit held.unit other && conflict (lock_now kept.disc u call) held) kept.disc.locks)
          (works-for-unit one h e)

      work-is : (one other : unit.Unit) → IsUnit system kept one → request.terminal ≡ one.terminal
          → work_meets system kept one other request asks.stands.context ≡ awaits kept.disc one call other
      work-is one other h e =
          let number : request.unit ≡ one.number = ap (λ (x : unit.Unit). x.number) (works-for-unit one h e) in
          true-and (eq-eqb request.terminal one.terminal e)
          (true-and (eq-eqb request.unit one.number number)
          (true-and asks.stands.at_verb (ap (asks_file (call_meets kept other request)) asks.stands.asks ∙ call-is one other h e)))
        where
          true-and : {a b d : Bool} → a ≡ true → b ≡ d → (a && b) ≡ d
          true-and passes is = ap₂ (λ x y. x && y) passes is

      -- for its own unit the test asks the disc, for another one it fails
      pub meets-own : (one other : unit.Unit) → IsUnit system kept one → request.terminal ≡ one.terminal
          → works_where kept c i (work_meets system kept one other) ≡ awaits kept.disc one call other
      meets-own one other h e = test-is (work_meets system kept one other) ∙ work-is one other h e

      pub meets-other : (one other : unit.Unit) → (request.terminal ≡ one.terminal → ⊥)
          → works_where kept c i (work_meets system kept one other) ≡ false
      meets-other one other differs =
          false_from_ne_true _ (λ yes.
          differs (eqb-true request.terminal one.terminal
          (and_parts _ _ (sym (test-is (work_meets system kept one other)) ∙ yes)).0))

      -- both together
      pub meets-first : (one other : unit.Unit) → IsUnit system kept one → request.terminal ≡ one.terminal → one.terminal ≢ other.terminal
          → process_meets system kept one other c i ≡ awaits kept.disc one call other
      meets-first one other h e apart =
          ap₂ (λ x y. x || y) (meets-own one other h e) (meets-other other one (λ same. apart (sym e ∙ same)))
          ∙ or-false (awaits kept.disc one call other)

      pub meets-second : (one other : unit.Unit) → IsUnit system kept other → request.terminal ≡ other.terminal → one.terminal ≢ other.terminal
          → process_meets system kept one other c i ≡ awaits kept.disc other call one
      meets-second one other h e apart =
          ap₂ (λ x y. x || y) (meets-other one other (λ same. apart (sym same ∙ e))) (meets-own other one h e)

      pub meets-neither : (one other : unit.Unit) → (request.terminal ≡ one.terminal → ⊥) → (request.terminal ≡ other.terminal → ⊥)
          → process_meets system kept one other c i ≡ false
      meets-neither one other differs none = ap₂ (λ x y. x || y) (meets-other one other differs) (meets-other other one none)

      -- ---- the oldest unit in the way
      module _ (own : unit.Unit) (is : IsUnit system kept own) where
        stops : Lock → Bool
        stops = conflict (lock_now kept.disc own call)

        -- it is open, and the operation awaits it
        pub holder-open : (holder : unit.Unit) → IsOldest holder (holders (lock_now kept.disc own call) kept.disc.locks) → IsUnit system kept holder
        holder-open holder h =
            unit-of-open holder
            (All-contains (IsOpen kept.disc) (holders (lock_now kept.disc own call) kept.disc.locks) holder
            (All-map (IsOpen kept.disc) (λ (held : Lock). held.unit) (filter (conflict (lock_now kept.disc own call)) kept.disc.locks)
            (All-filter (conflict (lock_now kept.disc own call)) (λ held. IsOpen kept.disc held.unit) kept.disc.locks known.locks))
            h.among)

        pub holder-awaited : (holder : unit.Unit) → IsOldest holder (holders (lock_now kept.disc own call) kept.disc.locks)
            → awaits kept.disc own call holder ≡ true
        holder-awaited holder h =
            some-held (conflict (lock_now kept.disc own call))
            (λ held. is_same_unit held.unit holder && conflict (lock_now kept.disc own call) held) holder
            (λ held passes same.
            and_from _ _ (subst (λ u. is_same_unit held.unit u ≡ true) same (self-same held.unit)) passes)
            kept.disc.locks h.among

        -- no unit that it awaits is older
        pub none-older : (holder older : unit.Unit) → IsOldest holder (holders (lock_now kept.disc own call) kept.disc.locks)
            → IsUnit system kept older → awaits kept.disc own call older ≡ true → holder.birth ≤ older.birth
        none-older holder older h open_one waits =
            let found = Any-from_list_any (λ (held : Lock). is_same_unit held.unit older && conflict (lock_now kept.disc own call) held) kept.disc.locks waits in
            let held : Lock = found.1 in
            let among : Contains kept.disc.locks held = (found.0, found.2, found.3) in
            let parts = and_parts _ _ found.4 in
            let below : holder.birth ≤ held.unit.birth =
            All-contains (λ (one : Lock). conflict (lock_now kept.disc own call) one ≡ true → holder.birth ≤ one.unit.birth) kept.disc.locks held
            (of-held (conflict (lock_now kept.disc own call)) (λ (u : unit.Unit). holder.birth ≤ u.birth) kept.disc.locks h.none_older) among parts.1 in
            let held_open : IsUnit system kept held.unit =
            unit-of-open held.unit (All-contains (λ one. IsOpen kept.disc one.unit) kept.disc.locks held known.locks among) in
            let same : held.unit ≡ older =
            same-unit held.unit older held_open open_one (eqb-true held.unit.terminal older.terminal (and_parts _ _ parts.0).0) in
            subst (λ (u : unit.Unit). holder.birth ≤ u.birth) same below

        -- where none is in the way, it awaits none
        pub none-awaited : (older : unit.Unit) → holders (lock_now kept.disc own call) kept.disc.locks ≡ [] → awaits kept.disc own call older ≡ false
        none-awaited older none =
            false_from_ne_true _ (λ waits.
            let found = Any-from_list_any (λ (held : Lock). is_same_unit held.unit older && conflict (lock_now kept.disc own call) held) kept.disc.locks waits in
            let held : Lock = found.1 in
            let among : Contains kept.disc.locks held = (found.0, found.2, found.3) in
            let parts = and_parts _ _ found.4 in
            All-contains (λ (one : Lock). conflict (lock_now kept.disc own call) one ≡ true → ⊥) kept.disc.locks held
            (of-held (conflict (lock_now kept.disc own call)) (λ (u : unit.Unit). ⊥) kept.disc.locks
            (subst (All (λ (u : unit.Unit). ⊥)) (sym none) (λ k d lt. absurd (omega (arith, lt))))) among parts.1)

  -- ---- a process that asks for none
  module _ (c i : ℕ) (quiet : (request : Request) (call : FileCall) → AsksCall system kept c i request call → ⊥) where
    quiet-verb : (request : Request) (context : Context) (test : FileCall → Bool) (v : Verb)
        → at_process (kept.queues c) i ≡ Some request → kept.jobs c i ≡ Some context → context.at_verb ≡ true → verb_in system context ≡ v
        → asks_file test v ≡ true → ⊥
    quiet-verb request context test (verb.File call) is at stands asks passes =
        quiet request call (record { works = is; stands = record { context = context; job = at; at_verb = stands; asks = asks } })
    quiet-verb request context test verb.Show is at stands asks passes = cc passes
    quiet-verb request context test (verb.Accept screen) is at stands asks passes = cc passes
    quiet-verb request context test verb.Begin is at stands asks passes = cc passes
    quiet-verb request context test (verb.Send class message) is at stands asks passes = cc passes
    quiet-verb request context test verb.End is at stands asks passes = cc passes
    quiet-verb request context test verb.Drop is at stands asks passes = cc passes
    quiet-verb request context test verb.Redo is at stands asks passes = cc passes
    quiet-verb request context test verb.Stop is at stands asks passes = cc passes
    quiet-verb request context test (verb.Fault code) is at stands asks passes = cc passes
    quiet-verb request context test (verb.Reply reply) is at stands asks passes = cc passes

    quiet-test : (test : Request → Context → Bool)
        → ((request : Request) (context : Context) → at_process (kept.queues c) i ≡ Some request → kept.jobs c i ≡ Some context
        → test request context ≡ true → ⊥) → works_where kept c i test ≡ false
    quiet-test test fails =
        false_from_ne_true _ (λ passes. of-request fails (at_process (kept.queues c) i) refl (kept.jobs c i) refl passes)
      where
        of-request : ((request : Request) (context : Context) → at_process (kept.queues c) i ≡ Some request → kept.jobs c i ≡ Some context
            → test request context ≡ true → ⊥) → (r : Option Request) → at_process (kept.queues c) i ≡ r → (own : Option Context) → kept.jobs c i ≡ own
            → some_with (λ request. some_with (test request) own) r ≡ true → ⊥
        of-request gives None is own at passes = cc passes
        of-request gives (Some request) is None at passes = cc passes
        of-request gives (Some request) is (Some context) at passes = gives request context is at passes

    meets-none : (one other : unit.Unit) → works_where kept c i (work_meets system kept one other) ≡ false
    meets-none one other =
        quiet-test (work_meets system kept one other) (λ request context is at yes.
        let rest = (and_parts _ _ (and_parts _ _ (and_parts _ _ yes).1).1) in
        quiet-verb request context (call_meets kept other request) (verb_in system context) is at rest.0 refl rest.1)

    pub quiet-meets : (one other : unit.Unit) → process_meets system kept one other c i ≡ false
    quiet-meets one other = ap₂ (λ x y. x || y) (meets-none one other) (meets-none other one)

    -- nor does it pass as an operation, where it has been read
    pub quiet-file : IsServerRead kept c i → (test : Request → FileCall → Bool)
        → works_where kept c i (λ request context. asks_file (test request) (verb_in system context)) ≡ false
    quiet-file read test =
        quiet-test (λ request context. asks_file (test request) (verb_in system context)) (λ request context is at yes.
        quiet-verb request context (test request) (verb_in system context) is at (read context at) refl yes)
