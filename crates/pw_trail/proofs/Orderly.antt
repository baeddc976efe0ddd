-- The calls of a disc leave its records in order, and all but a commit leave the committed ones.
use Rattle.std.proofs.Common.{◌≡◌, ℕ, ◌<◌, ◌∙◌, refl, sym, ap, subst, Bool, true, false, not, cond, List, [], ◌∷◌, length, length-take, take, filter, Option, Some, None, arith}
use Rattle.std.specs.Prelude.{is_some}
use Rattle.std.specs.List.{AllByRecursion}
use Rattle.std.specs.Option.{option_map}
use Rattle.std.proofs.Math.Path.{fun_ext}
use Rattle.pw_base.proofs.Plain.{is_some-None, all-weaker}
use Rattle.pw_code.specs.declared.file.FileCall.{FileCall}
use Rattle.pw_code.specs.declared.file.FileOp.{FileOp}
use Rattle.pw_code.specs.declared.file.FileOp.TheVariants.{Read, Next, Write, Rewrite, Delete, ReadLock, NextLock}
use Rattle.pw_code.specs.declared.unit.Unit as unit
use Rattle.pw_event.specs.declared.event.Cause.TheVariants as cause
use Rattle.pw_files.specs.Records.{IsContent, IsFile, record_at}
use Rattle.pw_laws.proofs.records.Images.{ImageOk, restored-file}
use Rattle.pw_laws.proofs.records.OperationKept.{operation-committed, operation-ok}
use Rattle.pw_laws.proofs.records.RecordsOk.{RecordsOk}
use Rattle.pw_laws.proofs.records.Withdrawn.{backed-out-committed, backed-out-ok, ended-ok}
use Rattle.pw_laws.proofs.seeing.SameFiles.{same_files}
use Rattle.pw_locks.specs.Conflicts.{holders}
use Rattle.pw_onecopy.specs.Behaviour.{Behaviour}
use Rattle.pw_onecopy.specs.IsBehaviour.{is_written}
use Rattle.pw_onecopy.specs.Operation.{key_of, lock_for}
use Rattle.pw_onecopy.specs.Path.{PathAnswer}
use Rattle.pw_paired.specs.Failure.{do_restart}
use Rattle.pw_paired.specs.Server.{do_operation}
use Rattle.pw_paired.specs.State.{BeforeImage, Job, OpenUnit, State}
use Rattle.pw_paired.specs.Terminal.{do_begin}
use Rattle.pw_paired.specs.Units.{attempt_of, birth_of, commit_unit, committed_files, drop_unit, image_before, is_first_change, only, restored_files, unit_of}
use Rattle.pw_tmf.specs.Committed.{committed}
use Rattle.pw_tmf.specs.Leaving.{HasKey, IsKeyed}
use Rattle.pw_tmf.specs.Operation.{IsCall, after_operation, lock_now}
use Rattle.pw_tmf.specs.Tells.{Tells, as_told, begun_as, images_by, unit_begun}
use Rattle.pw_tmf.specs.Told.{Told, ToldUnit}
use Rattle.pw_tmf.specs.Units.{CanBegin, IsRunning, MayBegin, after_commit, all_backed_out, backed_out, begun}
use Rattle.pw_tmf.proofs.Telling.{tells-begin, tells-commit, tells-drop, tells-operate, tells-restart}
use Rattle.pw_tmf.proofs.Together.{committed-told}
use Rattle.pw_laws.proofs.Tests.{all-filter}
use Rattle.pw_trail.specs.Orderly.{IsOrderly, IsImagePlaced, PutsBackRecord, Stays}

abbrev pub records-ok : (sys : Behaviour) (before : List BeforeImage) → AllByRecursion (PutsBackRecord sys.key_length) before → AllByRecursion (ImageOk sys) before
records-ok sys before all = all-weaker (PutsBackRecord sys.key_length) (ImageOk sys) (λ image is. record { content = is.content; key = is.key }) before all

are-records : (sys : Behaviour) (before : List BeforeImage) → AllByRecursion (ImageOk sys) before → AllByRecursion (PutsBackRecord sys.key_length) before
are-records sys before all = all-weaker (ImageOk sys) (PutsBackRecord sys.key_length) (λ image is. record { content = is.content; key = is.key }) before all

-- an image has its key
are-keyed : (key_length : ℕ → ℕ) (before : List BeforeImage) → AllByRecursion (PutsBackRecord key_length) before → AllByRecursion (IsKeyed key_length) before
are-keyed key_length before all = all-weaker (PutsBackRecord key_length) (IsKeyed key_length) (λ image is. by image.content image.key (key_length image.file) is.key) before all
  where
    by : (content : Option (List ℕ)) (key : List ℕ) (n : ℕ) → ((c : List ℕ) → content ≡ Some c → take n c ≡ key) → HasKey n key content
    by None key n is = tt
    by (Some c) key n is = is c refl

module _ (told : Told) (o : IsOrderly told) where
  -- the records are in order
  pub in-order : RecordsOk o.sys o.state.files o.state.before o.state.locks
  in-order = record { are_files = o.files; images = records-ok o.sys o.state.before o.records; locked = o.locked; single = o.single }

  -- what is committed
  pub committed-are : committed told ≡ committed_files o.sys o.state
  committed-are = committed-told o.sys o.state told o.tells (are-keyed o.sys.key_length o.state.before o.records) o.single
      (all-weaker (IsImagePlaced told.terminals told.file_count o.sys.key_length) (λ image. image.terminal < told.terminals) (λ image is. is.terminal) o.state.before o.places)

  pub committed-file : (f : ℕ) → IsFile (o.sys.key_length f) (committed_files o.sys o.state f)
  committed-file f = restored-file o.sys o.state.before (records-ok o.sys o.state.before o.records) o.state.files o.files f

-- the committed records are the same where they are so at each key
same-committed : (told next : Told) (o : IsOrderly told) (p : IsOrderly next) → p.sys ≡ o.sys
    → ((f : ℕ) (key : List ℕ) → record_at (o.sys.key_length f) (committed_files p.sys p.state f) key ≡ record_at (o.sys.key_length f) (committed_files o.sys o.state f) key)
    → committed next ≡ committed told
same-committed told next o p same each =
    committed-are next p
    ∙ fun_ext (λ f. same_files (o.sys.key_length f) (committed_files p.sys p.state f) (committed_files o.sys o.state f)
    (subst (λ (s : Behaviour). IsFile (s.key_length f) (committed_files p.sys p.state f)) same (committed-file next p f)) (committed-file told o f) (each f))
    ∙ sym (committed-are told o)

-- ---- a unit of the state that is told

-- the open unit of the state
record HasOwn (own : Option OpenUnit) (before : List BeforeImage) (one : ToldUnit) : Type 0 where
  pub unit : OpenUnit
  pub is : own ≡ Some unit
  pub told : one ≡ as_told before unit

own-told : (own : Option OpenUnit) (before : List BeforeImage) (one : ToldUnit) → Some one ≡ option_map (as_told before) own → HasOwn own before one
own-told None before one is = absurd (cc is)
own-told (Some unit) before one is = record { unit = unit; is = refl; told = cc is }

runs : (running : Option (List PathAnswer)) → is_some running ≡ true → (start : List PathAnswer) × (running ≡ Some start)
runs None is = absurd (cc is)
runs (Some start) is = (start, refl)

-- ---- an operation

key-fits : (n : ℕ) (op : FileOp) (call : FileCall) → (is_written op ≡ true → IsContent n call.content) → (is_written op ≡ false → length call.key ≡ n) → length (key_of n op call) ≡ n
key-fits n Read call content key = key refl
key-fits n Next call content key = key refl
key-fits n ReadLock call content key = key refl
key-fits n NextLock call content key = key refl
key-fits n Delete call content key = key refl
key-fits n Write call content key = length-take n call.content ∙ omega (arith, (content refl).0)
key-fits n Rewrite call content key = length-take n call.content ∙ omega (arith, (content refl).0)

module _ (told : Told) (o : IsOrderly told) (u : unit.Unit) (call : FileCall) (running : IsRunning told u) (is_call : IsCall told call) (free : holders (lock_now told u call) told.locks ≡ []) where
  abbrev job : Job
  job = record { request = record { terminal = u.terminal; unit = u.number; message = [] }; done = [] }

  abbrev n : ℕ
  n = o.sys.key_length call.file

  has-own : HasOwn (o.state.units u.terminal) (images_by u.terminal o.state.before) running.is_open.open_unit
  has-own = own-told (o.state.units u.terminal) (images_by u.terminal o.state.before) running.is_open.open_unit (sym running.is_open.here ∙ o.tells.units u.terminal)

  own-runs : (start : List PathAnswer) × (has-own.unit.running ≡ Some start)
  own-runs = runs has-own.unit.running (sym (ap (λ (x : ToldUnit). x.running) has-own.told) ∙ running.runs)

  same-unit : unit_of o.state job.request ≡ u
  same-unit = ap (λ b. record { terminal = u.terminal; number = u.number; birth = b })
      (ap birth_of has-own.is ∙ sym (ap (λ (x : ToldUnit). x.birth) has-own.told) ∙ running.is_open.birth)

  told-keys : (f : ℕ) → told.key_length f ≡ o.sys.key_length f
  told-keys f = ap (λ (k : ℕ → ℕ). k f) o.tells.keys

  content-fits : is_written call.op ≡ true → IsContent n call.content
  content-fits is = subst (λ k. IsContent k call.content) (told-keys call.file) (is_call.content is)

  -- the same unit as the state has it
  abbrev same-u : unit.Unit
  same-u = unit_of o.state job.request

  free-there : holders (lock_for o.sys.rule n (o.state.files call.file) u call) o.state.locks ≡ []
  free-there = rw (o.tells.rule, o.tells.keys, o.tells.files, o.tells.locks) at free

  none-hold : holders (lock_for o.sys.rule n (o.state.files call.file) same-u call) o.state.locks ≡ []
  none-hold = subst (λ (v : unit.Unit). holders (lock_for o.sys.rule n (o.state.files call.file) v call) o.state.locks ≡ []) (sym same-unit) free-there

  -- the state behind it
  abbrev next-state : State
  next-state = do_operation o.sys 0 0 job call o.state

  tells-next : Tells o.sys next-state (after_operation told u call)
  tells-next =
      subst (λ (v : unit.Unit). Tells o.sys next-state (after_operation told v call)) same-unit
      (tells-operate o.sys o.state told 0 0 job call has-own.unit own-runs.0 o.tells has-own.is own-runs.1)

  place : IsImagePlaced told.terminals told.file_count o.sys.key_length (image_before n (o.state.files call.file) u.terminal call)
  place = record {
    terminal = running.is_open.terminal;
    file = is_call.file;
    key = key-fits n call.op call content-fits (λ is. is_call.key is ∙ told-keys call.file);
  }

  places : (b : Bool) → AllByRecursion (IsImagePlaced told.terminals told.file_count o.sys.key_length) (cond b (image_before n (o.state.files call.file) u.terminal call ∷ o.state.before) o.state.before)
  places true = (place, o.places)
  places false = o.places

  next-ok : RecordsOk o.sys next-state.files next-state.before next-state.locks
  next-ok = operation-ok o.sys o.state.files o.state.before o.state.locks (in-order told o) same-u call content-fits none-hold

  pub operated : Stays told (after_operation told u call)
  operated =
      let orderly : IsOrderly (after_operation told u call) = record {
        sys = o.sys;
        state = next-state;
        tells = tells-next;
        files = next-ok.are_files;
        places = places (is_first_change n (o.state.files call.file) u.terminal call o.state.before);
        records = are-records o.sys next-state.before next-ok.images;
        locked = next-ok.locked;
        single = next-ok.single;
      } in
      record {
        orderly = orderly;
        same = same-committed told (after_operation told u call) o orderly refl
            (operation-committed o.sys o.state.files o.state.before o.state.locks (in-order told o) same-u call content-fits none-hold);
      }

-- ---- a beginning

-- the state with another next birth
abbrev with-births : ℕ → State → State
with-births births state = record state { births = births }

begins-in : (told : Told) (o : IsOrderly told) (state : State) (u : unit.Unit) → Tells o.sys state told → state.files ≡ o.state.files → state.before ≡ o.state.before → state.locks ≡ o.state.locks
    → attempt_of (state.units u.terminal) ≡ None → (unit_begun state u.terminal u.number).number ≡ u.number → (unit_begun state u.terminal u.number).birth ≡ u.birth → Stays told (begun told u)
begins-in told o state u tells files before locks idle number birth =
    let next : State = do_begin o.sys u.terminal u.number 0 state in
    let same : begun_as state u.terminal u.number ≡ u = ap (λ b. record { terminal = u.terminal; number = u.number; birth = b }) birth in
    let tells_next : Tells o.sys next (begun told u) = subst (λ (v : unit.Unit). Tells o.sys next (begun told v)) same (tells-begin o.sys state told u.terminal u.number 0 tells idle number) in
    let orderly : IsOrderly (begun told u) = record {
      sys = o.sys;
      state = next;
      tells = tells_next;
      files = rw files o.files;
      places = rw before o.places;
      records = rw before o.records;
      locked = rw (before, locks) o.locked;
      single = rw before o.single;
    } in
    record {
      orderly = orderly;
      same = same-committed told (begun told u) o orderly refl (λ f key. rw (files, before) refl);
    }

pub begins : (told : Told) (o : IsOrderly told) (u : unit.Unit) → CanBegin told u → Stays told (begun told u)
begins told o u can = by (o.state.units u.terminal) refl (told.units u.terminal) refl (o.tells.units u.terminal) can.free
  where
    births : Tells o.sys (with-births u.birth o.state) told
    births = record { rule = o.tells.rule; keys = o.tells.keys; files = o.tells.files; locks = o.tells.locks; units = o.tells.units; ended = o.tells.ended; idle = o.tells.idle }

    by : (own : Option OpenUnit) → o.state.units u.terminal ≡ own → (one : Option ToldUnit) → told.units u.terminal ≡ one
        → told.units u.terminal ≡ option_map (as_told (images_by u.terminal o.state.before)) (o.state.units u.terminal) → MayBegin u (told.units u.terminal) → Stays told (begun told u)
    by None is one told_is same free =
        begins-in told o (with-births u.birth o.state) u births refl refl refl (ap attempt_of is) (rw is refl) (rw is refl)
    by (Some own) is None told_is same free = absurd (cc (told_is, same, rw is at same))
    by (Some own) is (Some one) told_is same free =
        let parts : MayBegin u (Some one) = subst (MayBegin u) told_is free in
        let one_is : one ≡ as_told (images_by u.terminal o.state.before) own = cc (told_is, same, is) in
        let rests_there : own.running ≡ None = is_some-None own.running (sym (ap (λ (x : ToldUnit). x.running) one_is) ∙ parts.2) in
        begins-in told o o.state u o.tells refl refl refl (ap attempt_of is ∙ rests_there)
        (rw is (sym (ap (λ (x : ToldUnit). x.number) one_is) ∙ parts.0))
        (rw is (sym (ap (λ (x : ToldUnit). x.birth) one_is) ∙ parts.1))

-- ---- an end

module _ (told : Told) (o : IsOrderly told) where
  places-left : (t : ℕ) → AllByRecursion (IsImagePlaced told.terminals told.file_count o.sys.key_length) (filter (λ image. not (only t image.terminal)) o.state.before)
  places-left t = all-filter (IsImagePlaced told.terminals told.file_count o.sys.key_length) (λ image. not (only t image.terminal)) o.state.before o.places

  -- a unit commits
  pub ends : (u : unit.Unit) (reply : Option (List ℕ)) → IsOrderly (after_commit told u reply)
  ends u reply =
      let next : State = commit_unit u.terminal u.number reply o.state in
      let ok : RecordsOk o.sys next.files next.before next.locks = ended-ok o.sys o.state.files o.state.before o.state.locks (in-order told o) (only u.terminal) in
      record {
        sys = o.sys;
        state = next;
        tells = tells-commit o.sys o.state told u reply o.tells;
        files = ok.are_files;
        places = places-left u.terminal;
        records = are-records o.sys next.before ok.images;
        locked = ok.locked;
        single = ok.single;
      }

  -- what is committed then
  pub ended-committed : (u : unit.Unit) (reply : Option (List ℕ))
      → restored_files o.sys.key_length (filter (λ image. not (only u.terminal image.terminal)) o.state.before) o.state.files ≡ committed (after_commit told u reply)
  unfolding ends
  ended-committed u reply = sym (committed-are (after_commit told u reply) (ends u reply))

  -- a unit is backed out
  pub backs-out : (leaves : Bool) (u : unit.Unit) → Stays told (backed_out leaves told u)
  backs-out true u =
      let ok = backed-out-ok o.sys o.state.files o.state.before o.state.locks (in-order told o) (only u.terminal) in
      let next : State = drop_unit o.sys u.terminal u.number o.state in
      let orderly : IsOrderly (backed_out true told u) = record {
        sys = o.sys;
        state = next;
        tells = tells-drop o.sys o.state told u o.tells;
        files = ok.are_files;
        places = places-left u.terminal;
        records = are-records o.sys next.before ok.images;
        locked = ok.locked;
        single = ok.single;
      } in
      record {
        orderly = orderly;
        same = same-committed told (backed_out true told u) o orderly refl (backed-out-committed o.sys o.state.files o.state.before o.state.locks (in-order told o) (only u.terminal));
      }
  backs-out false u =
      let ok = backed-out-ok o.sys o.state.files o.state.before o.state.locks (in-order told o) (only u.terminal) in
      let next : State = do_restart o.sys u.terminal cause.Redo o.state in
      let orderly : IsOrderly (backed_out false told u) = record {
        sys = o.sys;
        state = next;
        tells = tells-restart o.sys o.state told u cause.Redo o.tells;
        files = ok.are_files;
        places = places-left u.terminal;
        records = are-records o.sys next.before ok.images;
        locked = ok.locked;
        single = ok.single;
      } in
      record {
        orderly = orderly;
        same = same-committed told (backed_out false told u) o orderly refl (backed-out-committed o.sys o.state.files o.state.before o.state.locks (in-order told o) (only u.terminal));
      }

-- units are backed out, one after the other
pub all-back-out : (leaves : Bool) (told : Told) → IsOrderly told → (units : List unit.Unit) → Stays told (all_backed_out leaves told units)
all-back-out leaves told o [] = record { orderly = o; same = refl }
all-back-out leaves told o (u ∷ units) =
    let one = backs-out told o leaves u in
    let rest = all-back-out leaves (backed_out leaves told u) one.orderly units in
    record { orderly = rest.orderly; same = rest.same ∙ one.same }
