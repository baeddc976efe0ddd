-- What a world's kept says of units, locks and servers.
use Rattle.std.proofs.Common.{◌≡◌, ℕ, zero, suc, ◌+◌, ◌-◌, ◌<◌, ◌≤◌, ◌==◌, List, [], ◌∷◌, length, All, Option, Some, None, true, false, is_some, refl, sym, ap, subst, subst₂, ◌∙◌, ⊎_elim, arith}
use Rattle.std.specs.Prelude.{if◌then◌else◌, slice_index_or}
use Rattle.std.specs.List.{AllByRecursion}
use Rattle.std.specs.Option.{option_map}
use Rattle.std.proofs.lemmas.Bool.{cases_eq, cases_lt, eq-eqb, ne_eqb}
use Rattle.std.proofs.lemmas.List.Elements.{All-from_recursion}
use Rattle.pw_base.proofs.Plain.{some_is}
use Rattle.pw_class.specs.Queue.{at_process}
use Rattle.pw_class.specs.declared.request.Request.{Request}
use Rattle.pw_code.specs.declared.context.Context.{Context}
use Rattle.pw_code.specs.declared.file.FileCall.{FileCall}
use Rattle.pw_code.specs.declared.file.FileOp.{FileOp}
use Rattle.pw_code.specs.declared.file.FileOp.TheVariants.{Delete, Next, NextLock, Read, ReadLock, Rewrite, Write}
use Rattle.pw_code.specs.declared.verb.Verb.TheVariants as verb
use Rattle.pw_world_state.specs.Asked.{verb_in}
use Rattle.pw_world_state.specs.Changes.{birth_for, unit_at}
use Rattle.pw_world_state.specs.Stands.{StandsForJob, StandsIfAny}
use Rattle.pw_world_state.proofs.Agreeing.{there-is}
use Rattle.pw_world_state.proofs.OfRuns.{works-for}
use Rattle.pw_world_state.proofs.Readings as readings
use Rattle.pw_files.specs.Records.{IsContent}
use Rattle.pw_laws.proofs.Holding.{held}
use Rattle.pw_laws.specs.locking.Held.{IsHeld}
use Rattle.pw_locks.specs.declared.lock.Lock.{Lock}
use Rattle.pw_world_model.specs.Seen.{Seen, state_of, sys_of}
use Rattle.pw_world_model.specs.Worlds.{Books, IsWorld}
use Rattle.pw_world_model.proofs.HeldBirths.{HasBirth, awaits-ok, lock-births}
use Rattle.pw_onecopy.specs.Behaviour.{Behaviour}
use Rattle.pw_onecopy.specs.IsBehaviour.{is_written}
use Rattle.pw_onecopy.specs.Operation.{key_of}
use Rattle.pw_paired.specs.Queues.{queue_of, requests_from}
use Rattle.pw_paired.specs.Server.{server_verb}
use Rattle.pw_paired.specs.State.{Awaited, Job, OpenUnit, State}
use Rattle.pw_paired.specs.Terminal.{awaited_of}
use Rattle.pw_paired.specs.Units.{request_in}
use Rattle.pw_laws.proofs.induction.Runs.{kept}
use Rattle.pw_laws.proofs.kept.Kept.{Inv}
use Rattle.pw_tmf.specs.Operation.{IsCall}
use Rattle.pw_tmf.specs.Tells.{as_told, images_by}
use Rattle.pw_tmf.specs.Told.{ToldUnit}
use Rattle.pw_tmf.specs.Units.{IsOpen, IsRunning}

-- ---- the requests of processes

pub past-requests : (busy : ℕ → Option Job) (i n k : ℕ) → n ≤ k → slice_index_or (requests_from busy i n) k None ≡ None
past-requests busy i zero k low = refl
past-requests busy i (suc n) zero low = absurd (omega (arith, low))
past-requests busy i (suc n) (suc k) low = past-requests busy (i + 1) n k (omega (arith, low))

pub index-requests : (busy : ℕ → Option Job) (i n k : ℕ) → k < n → slice_index_or (requests_from busy i n) k None ≡ request_in (busy (i + k))
index-requests busy i zero k low = absurd (omega (arith, low))
index-requests busy i (suc n) zero low = let e : i ≡ i + 0 = omega arith in ap (λ j. request_in (busy j)) e
index-requests busy i (suc n) (suc k) low = let e : i + 1 + k ≡ i + suc k = omega arith in index-requests busy (i + 1) n k (omega (arith, low)) ∙ ap (λ j. request_in (busy j)) e

module _ (world : Seen) (books : Books) (w : IsWorld world books) where
  abbrev sys : Behaviour
  sys = sys_of world

  abbrev state : State
  state = state_of world

  inv : Inv sys state
  inv = kept sys w.deck world.log w.run

  -- ---- units

  told-open : (t : ℕ) (u : OpenUnit) → state.units t ≡ Some u → world.kept.disc.units t ≡ Some (as_told (images_by t state.before) u)
  told-open t u is = w.stands.disc.units t ∙ ap (option_map (as_told (images_by t state.before))) is

  -- an open unit that the disc tells is one of the state
  pub open-told : (t : ℕ) (own : ToldUnit) → world.kept.disc.units t ≡ Some own → (u : OpenUnit) × ((state.units t ≡ Some u) × (own ≡ as_told (images_by t state.before) u))
  open-told t own is = by (state.units t) refl (sym (w.stands.disc.units t) ∙ is)
    where
      by : (o : Option OpenUnit) → state.units t ≡ o → option_map (as_told (images_by t state.before)) o ≡ Some own → (u : OpenUnit) × ((state.units t ≡ Some u) × (own ≡ as_told (images_by t state.before) u))
      by None none e = absurd (cc e)
      by (Some u) some e = (u, (some, cc e))

  pub started : (t : ℕ) (own : ToldUnit) → world.kept.disc.units t ≡ Some own → t < length world.system.terminals
  started t own is = let found = open-told t own is in inv.known t found.0 found.1.0

  pub awaits : (t : ℕ) (awaited : Awaited) → t < length world.system.terminals → (world.kept.terminals t).awaits ≡ Some awaited → awaited.terminal < length world.system.terminals
  awaits t awaited low is =
      let found = there-is world.system.terminals t low in
      by (state.units t) refl (sym (w.stands.terminals t found.0 found.1).awaits ∙ is)
    where
      by : (o : Option OpenUnit) → state.units t ≡ o → awaited_of o ≡ Some awaited → awaited.terminal < length world.system.terminals
      by None none e = absurd (cc e)
      by (Some u) some e = awaits-ok sys w.deck world.log w.run t u awaited some e

  -- the unit of an open one, as the disc is asked for it
  pub is-running : (t n : ℕ) (u : OpenUnit) → t < length world.system.terminals → state.units t ≡ Some u → u.number ≡ n → is_some u.running ≡ true → IsRunning world.kept.disc (unit_at world.kept t n)
  is-running t n u low is number runs =
      let told = told-open t u is in
      record {
        is_open = record {
          terminal = subst (λ m. t < m) (sym w.terminals) low;
          open_unit = as_told (images_by t state.before) u;
          here = told;
          number = number;
          birth = sym (ap (λ o. birth_for o world.kept.births) told);
        };
        runs = runs;
      }

  -- ---- locks

  one-lock : (lock : Lock) → IsHeld state.units lock → HasBirth state lock → IsOpen world.kept.disc lock.unit
  one-lock lock h birth = record {
    terminal = subst (λ m. lock.unit.terminal < m) (sym w.terminals) (inv.known lock.unit.terminal h.unit h.is_open);
    open_unit = as_told (images_by lock.unit.terminal state.before) h.unit;
    here = told-open lock.unit.terminal h.unit h.is_open;
    number = sym h.number;
    birth = sym (birth h.unit h.is_open);
  }

  each-lock : (locks : List Lock) → AllByRecursion (IsHeld state.units) locks → AllByRecursion (HasBirth state) locks → AllByRecursion (λ lock. IsOpen world.kept.disc lock.unit) locks
  each-lock [] h births = tt
  each-lock (lock ∷ locks) h births = (one-lock lock h.0 births.0, each-lock locks h.1 births.1)

  pub locks : All (λ (lock : Lock). IsOpen world.kept.disc lock.unit) world.kept.disc.locks
  locks =
      subst (All (λ (lock : Lock). IsOpen world.kept.disc lock.unit)) (sym w.stands.disc.locks)
      (All-from_recursion (λ (lock : Lock). IsOpen world.kept.disc lock.unit) state.locks
      (each-lock state.locks (held sys w.deck world.log w.run) (lock-births sys w.deck world.log w.run)))

  -- ---- servers

  -- a request at a process is that of a job there
  pub job-at : (c i : ℕ) (request : Request) → c < length world.system.classes → at_process (world.kept.queues c) i ≡ Some request → (job : Job) × (((state.classes c).busy i ≡ Some job) × (job.request ≡ request))
  job-at c i request low is =
      let found = there-is world.system.classes c low in
      by-queue found.0.processes (sym (ap (λ q. at_process q i) (w.stands.classes c found.0 found.1).queue_is) ∙ is)
    where
      by-job : (o : Option Job) → (state.classes c).busy i ≡ o → request_in o ≡ Some request → (job : Job) × (((state.classes c).busy i ≡ Some job) × (job.request ≡ request))
      by-job None none e = absurd (cc e)
      by-job (Some job) some e = (job, (some, cc e))

      by-place : (n k : ℕ) → i ≡ k + 1 → slice_index_or (requests_from (state.classes c).busy 1 n) k None ≡ Some request → (job : Job) × (((state.classes c).busy i ≡ Some job) × (job.request ≡ request))
      by-place n k here e = ⊎_elim
          (λ within.
          let place : 1 + k ≡ i = omega (arith, here) in
          by-job ((state.classes c).busy i) refl (ap (λ j. request_in ((state.classes c).busy j)) (sym place) ∙ (sym (index-requests (state.classes c).busy 1 n k within) ∙ e)))
          (λ past. let none = past-requests (state.classes c).busy 1 n k past in absurd (cc (none, e))) (cases_lt k n)

      by-queue : (n : ℕ) → at_process (queue_of n (state.classes c)) i ≡ Some request → (job : Job) × (((state.classes c).busy i ≡ Some job) × (job.request ≡ request))
      by-queue n e = ⊎_elim
          (λ none. let zero-test : (i == 0) ≡ true = eq-eqb i 0 none in absurd (cc (sym (ap (λ b. if b then None else slice_index_or (requests_from (state.classes c).busy 1 n) (i - 1) None) zero-test) ∙ e)))
          (λ some.
          let test : (i == 0) ≡ false = ne_eqb i 0 some in
          let one : i ≡ i - 1 + 1 = omega (arith, some) in
          by-place n (i - 1) one (sym (ap (λ b. if b then None else slice_index_or (requests_from (state.classes c).busy 1 n) (i - 1) None) test) ∙ e)) (cases_eq i 0)

  -- the unit of a server's request runs
  pub serves-running : (c i : ℕ) (job : Job) → (state.classes c).busy i ≡ Some job → IsRunning world.kept.disc (unit_at world.kept job.request.terminal job.request.unit)
  serves-running c i job at =
      let for = works-for sys w.deck world.log w.run c i job at in
      is-running job.request.terminal job.request.unit for.unit (inv.known job.request.terminal for.unit for.is_open) for.is_open (sym for.number) (ap is_some for.runs)

  pub works : (c i : ℕ) (request : Request) → c < length world.system.classes → at_process (world.kept.queues c) i ≡ Some request → IsRunning world.kept.disc (unit_at world.kept request.terminal request.unit)
  works c i request low is =
      let found = job-at c i request low is in
      subst (λ (r : Request). IsRunning world.kept.disc (unit_at world.kept r.terminal r.unit)) found.1.1 (serves-running c i found.0 found.1.0)

  -- ---- what servers ask

  by-key : (op : FileOp) (n : ℕ) (call : FileCall) → is_written op ≡ false → key_of n op call ≡ call.key
  by-key Write n call e = absurd (cc e)
  by-key Rewrite n call e = absurd (cc e)
  by-key Read n call e = refl
  by-key Next n call e = refl
  by-key ReadLock n call e = refl
  by-key NextLock n call e = refl
  by-key Delete n call e = refl

  -- a call that a server asks may be asked of the disc
  pub may-ask : (c : ℕ) (job : Job) (call : FileCall) → c < length world.system.classes → server_verb sys c job ≡ verb.File call → IsCall world.kept.disc call
  may-ask c job call low asks =
      let key : world.kept.disc.key_length call.file ≡ sys.key_length call.file = ap (λ f. f call.file) w.stands.disc.keys in
      record {
        file = subst (λ m. call.file < m) (sym w.files) (w.deck.calls c job.request.message job.done call low asks);
        content = λ written. subst (λ n. IsContent n call.content) (sym key) (w.deck.writes c job.request.message job.done call low asks written);
        key = λ other.
            ap length (sym (by-key call.op (sys.key_length call.file) call other)) ∙ (w.deck.keys c job.request.message job.done call low asks ∙ sym key);
      }

  -- a server at its verb asks what its job asks
  pub serves : (c i : ℕ) (job : Job) (context : Context) → (state.classes c).busy i ≡ Some job → world.kept.jobs c i ≡ Some context → context.at_verb ≡ true → verb_in world.system context ≡ server_verb sys c job
  serves c i job context works is at_verb =
      let at = readings.serving world.system world.script w.valid w.deck world.log w.run world.kept w.stands c i job works context is at_verb in
      let own = at.ready in
      let for = at.works in
      let same : at.context ≡ context = some_is (sym own ∙ is) in
      let same_job : at.job ≡ job = some_is (sym for ∙ works) in
      subst₂ (λ x j. verb_in world.system x ≡ server_verb sys c j) same same_job at.says

  pub job-of : (c i : ℕ) (context : Context) → c < length world.system.classes → world.kept.jobs c i ≡ Some context → (job : Job) × ((state.classes c).busy i ≡ Some job)
  job-of c i context low is =
      let found = there-is world.system.classes c low in
      by ((state.classes c).busy i) refl (subst (StandsIfAny (StandsForJob world.system found.0) ((state.classes c).busy i)) is ((w.stands.classes c found.0 found.1).works_on i))
    where
      by : (o : Option Job) → (state.classes c).busy i ≡ o → StandsIfAny (StandsForJob world.system (there-is world.system.classes c low).0) o (Some context) → (job : Job) × ((state.classes c).busy i ≡ Some job)
      by None none e = absurd e
      by (Some job) some e = (job, some)

  pub calls : (c i : ℕ) (context : Context) (call : FileCall) → c < length world.system.classes → world.kept.jobs c i ≡ Some context → context.at_verb ≡ true → verb_in world.system context ≡ verb.File call → IsCall world.kept.disc call
  calls c i context call low is at_verb asks =
      let found = job-of c i context low is in
      may-ask c found.0 call low (sym (serves c i found.0 context found.1 is at_verb) ∙ asks)
