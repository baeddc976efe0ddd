-- What no entry changes of what is kept: the terminals of the pairs' seats, the sizes of the disc, and its count of faults; and
-- which entries raise its count of commits.
use Rattle.std.proofs.Common.{◌≡◌, ℕ, List, [], ◌∷◌, map, Option, Some, None, Bool, true, false, refl, sym, ap, ap₂, ◌∙◌}
use Rattle.std.specs.Prelude.{if◌then◌else◌}
use Rattle.pw_base.specs.Outside.{counted}
use Rattle.pw_class.specs.Queue.{at_process}
use Rattle.pw_class.specs.declared.request.Request.{Request}
use Rattle.pw_code.specs.declared.context.Context.{Context}
use Rattle.pw_code.specs.declared.system.System.{System}
use Rattle.pw_code.specs.declared.unit.Unit as unit
use Rattle.pw_code.specs.declared.verb.Verb.{Verb}
use Rattle.pw_code.specs.declared.verb.Verb.TheVariants as verb
use Rattle.pw_event.specs.declared.event.Ending.{Ending}
use Rattle.pw_event.specs.declared.event.Ending.TheVariants.{Stopped, NoEntries, Fault, Suspended, Lost}
use Rattle.pw_event.specs.declared.event.Event.{Event}
use Rattle.pw_event.specs.declared.event.Event.TheVariants.{Show, Key, CheckStart, CheckEnd, CheckCopy, Applied, Begin, Send, Take, File, Reply, Again, Commit, Back, Restart, FailTcp, FailServer, Takeover, Raise, End}
use Rattle.pw_world_state.specs.Asked.{verb_in}
use Rattle.pw_world_state.specs.Changes as changes
use Rattle.pw_world_state.specs.Changes.{at_pair, backup_lost, leave, leave_at, primary_lost, process_stops}
use Rattle.pw_world_state.specs.Entered.{begin_at, closing_context, copied, entered, file_at, file_by, image_message, is_outside_at, replies_last, replies_to, reply_by, send_image, tcp_of, unit_of_ready, verb_of}
use Rattle.pw_world_state.specs.Kept.{Kept}
use Rattle.pw_onecopy.proofs.Update.{upd_elim}
use Rattle.pw_pair.specs.Pairs.{SeenPair, after_applied, after_drop, after_raise, after_send, after_take, backup_fails, primary_fails}
use Rattle.pw_pair.specs.Seats.{applied, dropped, is_seat_of, with_message, without_backup, without_flight}
use Rattle.pw_pair.specs.declared.message.CheckKind.{CheckKind}
use Rattle.pw_pair.specs.declared.message.CheckKind.TheVariants as kind
use Rattle.pw_pair.specs.declared.mode.Mode.{Mode}
use Rattle.pw_pair.specs.declared.mode.Mode.TheVariants.{Alone, Raising, Paired, Down, Gone}
use Rattle.pw_pair.specs.declared.seat.BackupSeat.{BackupSeat}
use Rattle.pw_tmf.specs.Told.{Told}
use Rattle.pw_tmf.specs.Leaving.{open_units}
use Rattle.pw_tmf.specs.Units.{all_backed_out, backed_out}

-- the terminals of a pair's seats
abbrev pub terminals_of : SeenPair → List ℕ
terminals_of pair = map (λ (seat : BackupSeat). seat.terminal) pair.seats

-- the same shape, and one commit more or none
pub record IsSameShape (more : Bool) (old new : Kept) : Type 0 where
  pub seats : (p : ℕ) → terminals_of (new.pairs p) ≡ terminals_of (old.pairs p)
  pub terminals : new.disc.terminals ≡ old.disc.terminals
  pub files : new.disc.file_count ≡ old.disc.file_count
  pub faults : new.disc.faults ≡ old.disc.faults
  pub commits : new.disc.commits ≡ (if more then counted old.disc.commits else old.disc.commits)

pub same-shape : (kept : Kept) → IsSameShape false kept kept
same-shape kept = record { seats = λ p. refl; terminals = refl; files = refl; faults = refl; commits = refl }

-- ---- seats

pub map-same : (change : BackupSeat → BackupSeat) → ((seat : BackupSeat) → (change seat).terminal ≡ seat.terminal) → (seats : List BackupSeat) → map (λ (seat : BackupSeat). seat.terminal) (map change seats) ≡ map (λ (seat : BackupSeat). seat.terminal) seats
map-same change keeps [] = refl
map-same change keeps (seat ∷ seats) = ap₂ (λ t ts. t ∷ ts) (keeps seat) (map-same change keeps seats)

pub at-same : (t : ℕ) (change : BackupSeat → BackupSeat) → ((seat : BackupSeat) → (change seat).terminal ≡ seat.terminal) → (seat : BackupSeat) → (if is_seat_of t seat then change seat else seat).terminal ≡ seat.terminal
at-same t change keeps seat = by (is_seat_of t seat)
  where
    by : (b : Bool) → (if b then change seat else seat).terminal ≡ seat.terminal
    by true = keeps seat
    by false = refl

-- a pair that is changed so
pair-shape : (p : ℕ) (change : SeenPair → SeenPair) (kept : Kept) → terminals_of (change (kept.pairs p)) ≡ terminals_of (kept.pairs p) → IsSameShape false kept (at_pair p change kept)
pair-shape p change kept same = record {
  seats = λ q. upd_elim kept.pairs p (change (kept.pairs p)) q (λ pair. terminals_of pair ≡ terminals_of (kept.pairs q))
      (λ is. same ∙ ap (λ r. terminals_of (kept.pairs r)) (sym is)) (λ differ. refl);
  terminals = refl;
  files = refl;
  faults = refl;
  commits = refl;
}

-- one change behind another
after-that : (a b c : Kept) → IsSameShape false a b → IsSameShape false b c → IsSameShape false a c
after-that a b c one two = record {
  seats = λ p. two.seats p ∙ one.seats p;
  terminals = two.terminals ∙ one.terminals;
  files = two.files ∙ one.files;
  faults = two.faults ∙ one.faults;
  commits = two.commits ∙ one.commits;
}

-- pairs stay, and the disc its sizes and its counts
record IsSameTold (old new : Told) : Type 0 where
  pub terminals : new.terminals ≡ old.terminals
  pub files : new.file_count ≡ old.file_count
  pub faults : new.faults ≡ old.faults
  pub commits : new.commits ≡ old.commits

told-shape : (a b : Kept) → b.pairs ≡ a.pairs → IsSameTold a.disc b.disc → IsSameShape false a b
told-shape a b pairs told = record { seats = λ p. ap (λ f. terminals_of (f p)) pairs; terminals = told.terminals; files = told.files; faults = told.faults; commits = told.commits }

all-told : (told : Told) (units : List unit.Unit) → IsSameTold told (all_backed_out true told units)
all-told told [] = record { terminals = refl; files = refl; faults = refl; commits = refl }
all-told told (one ∷ units) =
    let later : IsSameTold (backed_out true told one) (all_backed_out true (backed_out true told one) units) = all-told (backed_out true told one) units in
    record { terminals = later.terminals; files = later.files; faults = later.faults; commits = later.commits }

-- ---- parts of entries

module _ (system : System) (kept : Kept) where
  sent : (t : ℕ) (kind : CheckKind) (context : Option Context) → IsSameShape false kept (send_image system t kind context kept)
  sent t kind None = same-shape kept
  sent t kind (Some context) =
      let message = image_message t kind context in
      pair-shape (tcp_of system t) (after_send message) kept
      (map-same _ (at-same t (with_message message.kind message.unit message.image) (λ seat. refl)) (kept.pairs (tcp_of system t)).seats)

  begun : (t n r : ℕ) (v : Option Verb) → IsSameShape false kept (begin_at system t n r v kept)
  begun t n r None = record { seats = λ p. refl; terminals = refl; files = refl; faults = refl; commits = refl }
  begun t n r (Some verb.Begin) = record { seats = λ p. refl; terminals = refl; files = refl; faults = refl; commits = refl }
  begun t n r (Some verb.Show) = record { seats = λ p. refl; terminals = refl; files = refl; faults = refl; commits = refl }
  begun t n r (Some (verb.Accept screen)) = record { seats = λ p. refl; terminals = refl; files = refl; faults = refl; commits = refl }
  begun t n r (Some (verb.Send class message)) = record { seats = λ p. refl; terminals = refl; files = refl; faults = refl; commits = refl }
  begun t n r (Some verb.End) = record { seats = λ p. refl; terminals = refl; files = refl; faults = refl; commits = refl }
  begun t n r (Some verb.Drop) = record { seats = λ p. refl; terminals = refl; files = refl; faults = refl; commits = refl }
  begun t n r (Some verb.Redo) = record { seats = λ p. refl; terminals = refl; files = refl; faults = refl; commits = refl }
  begun t n r (Some verb.Stop) = record { seats = λ p. refl; terminals = refl; files = refl; faults = refl; commits = refl }
  begun t n r (Some (verb.Fault x)) = record { seats = λ p. refl; terminals = refl; files = refl; faults = refl; commits = refl }
  begun t n r (Some (verb.File call)) = record { seats = λ p. refl; terminals = refl; files = refl; faults = refl; commits = refl }
  begun t n r (Some (verb.Reply reply)) = record { seats = λ p. refl; terminals = refl; files = refl; faults = refl; commits = refl }

  filed-by : (c i : ℕ) (request : Request) (context : Context) (v : Verb) → IsSameShape false kept (file_at system c i (Some request) context v kept)
  filed-by c i request context (verb.File call) = record { seats = λ p. refl; terminals = refl; files = refl; faults = refl; commits = refl }
  filed-by c i request context verb.Begin = same-shape kept
  filed-by c i request context verb.Show = same-shape kept
  filed-by c i request context (verb.Accept screen) = same-shape kept
  filed-by c i request context (verb.Send class message) = same-shape kept
  filed-by c i request context verb.End = same-shape kept
  filed-by c i request context verb.Drop = same-shape kept
  filed-by c i request context verb.Redo = same-shape kept
  filed-by c i request context verb.Stop = same-shape kept
  filed-by c i request context (verb.Fault x) = same-shape kept
  filed-by c i request context (verb.Reply reply) = same-shape kept

  filed-at : (c i : ℕ) (request : Option Request) (context : Context) (v : Verb) → IsSameShape false kept (file_at system c i request context v kept)
  filed-at c i None context v = same-shape kept
  filed-at c i (Some request) context v = filed-by c i request context v

  filed : (c i : ℕ) (context : Option Context) → IsSameShape false kept (file_by system c i context kept)
  filed c i None = same-shape kept
  filed c i (Some context) = filed-at c i (at_process (kept.queues c) i) context (verb_in system context)

  replied : (c i t n : ℕ) (reply : List ℕ) (outside : Bool) → IsSameShape outside kept (if outside then replies_last system c i t n reply kept else replies_to system c i t reply kept)
  replied c i t n reply true = record { seats = λ p. refl; terminals = refl; files = refl; faults = refl; commits = refl }
  replied c i t n reply false = record { seats = λ p. refl; terminals = refl; files = refl; faults = refl; commits = refl }

  left : (terminals : List ℕ) → IsSameShape false kept (leave terminals kept)
  left terminals = let told = all-told kept.disc (open_units kept.disc terminals) in record { seats = λ p. refl; terminals = told.terminals; files = told.files; faults = told.faults; commits = told.commits }

  stopped : (c i k : ℕ) (request : Option Request) → IsSameShape false kept (process_stops c i k request kept)
  stopped c i k None = same-shape kept
  stopped c i k (Some request) = record { seats = λ p. refl; terminals = refl; files = refl; faults = refl; commits = refl }

  primary-lost : (mode : Mode) (terminals : List ℕ) → IsSameShape false kept (primary_lost mode terminals kept)
  primary-lost Paired terminals = record { seats = λ p. refl; terminals = refl; files = refl; faults = refl; commits = refl }
  primary-lost Raising terminals = let one = left terminals in record { seats = one.seats; terminals = one.terminals; files = one.files; faults = one.faults; commits = one.commits }
  primary-lost Alone terminals = let one = left terminals in record { seats = one.seats; terminals = one.terminals; files = one.files; faults = one.faults; commits = one.commits }
  primary-lost Down terminals = same-shape kept
  primary-lost Gone terminals = same-shape kept

  backup-lost : (mode : Mode) (terminals : List ℕ) → IsSameShape false kept (backup_lost mode terminals kept)
  backup-lost Down terminals = let one = left terminals in record { seats = one.seats; terminals = one.terminals; files = one.files; faults = one.faults; commits = one.commits }
  backup-lost Paired terminals = same-shape kept
  backup-lost Raising terminals = same-shape kept
  backup-lost Alone terminals = same-shape kept
  backup-lost Gone terminals = same-shape kept

  left-at : (t : ℕ) (ending : Ending) → IsSameShape false kept (leave_at t ending kept)
  left-at t Stopped = same-shape kept
  left-at t NoEntries = left (t ∷ [])
  left-at t (Fault x) = left (t ∷ [])
  left-at t (Suspended cause) = left (t ∷ [])
  left-at t Lost = same-shape kept

primary-pair : (mode : Mode) (pair : SeenPair) → terminals_of (primary_fails mode pair) ≡ terminals_of pair
primary-pair Paired pair = map-same without_flight (λ seat. refl) pair.seats
primary-pair Raising pair = map-same without_backup (λ seat. refl) pair.seats
primary-pair Alone pair = map-same without_backup (λ seat. refl) pair.seats
primary-pair Down pair = refl
primary-pair Gone pair = refl

backup-pair : (mode : Mode) (pair : SeenPair) → terminals_of (backup_fails mode pair) ≡ terminals_of pair
backup-pair Paired pair = map-same without_backup (λ seat. refl) pair.seats
backup-pair Raising pair = map-same without_backup (λ seat. refl) pair.seats
backup-pair Alone pair = refl
backup-pair Down pair = map-same without_backup (λ seat. refl) pair.seats
backup-pair Gone pair = refl

-- ---- every entry

-- the entry commits a unit, by what is kept
abbrev pub commits-kept : Kept → Event → Bool
commits-kept kept (Commit t n) = true
commits-kept kept (Reply c i t None) = is_outside_at (kept.terminals t).ready
commits-kept kept _ = false

pub entered-shape : (system : System) (members : ℕ → List ℕ) (entry : Event) (kept : Kept) → IsSameShape (commits-kept kept entry) kept (entered system members entry kept)
entered-shape system members (Show t phase attempt k) kept = record { seats = λ p. refl; terminals = refl; files = refl; faults = refl; commits = refl }
entered-shape system members (Key t k) kept = record { seats = λ p. refl; terminals = refl; files = refl; faults = refl; commits = refl }
entered-shape system members (CheckStart t) kept = sent system kept t kind.Start (kept.terminals t).context
entered-shape system members (CheckEnd t) kept = sent system kept t kind.End (closing_context system (verb_of system (kept.terminals t)) (kept.terminals t))
entered-shape system members (CheckCopy t) kept = sent system kept t kind.Copy (copied (kept.terminals t).start (kept.terminals t).context)
entered-shape system members (Applied t) kept = pair-shape (tcp_of system t) (after_applied t) kept (map-same _ (at-same t applied (λ seat. refl)) (kept.pairs (tcp_of system t)).seats)
entered-shape system members (Begin t n r) kept = begun system kept t n r (verb_of system (kept.terminals t))
entered-shape system members (Send t n c) kept = record { seats = λ p. refl; terminals = refl; files = refl; faults = refl; commits = refl }
entered-shape system members (Take c i t) kept = record { seats = λ p. refl; terminals = refl; files = refl; faults = refl; commits = refl }
entered-shape system members (File c i op mode f status) kept = filed system kept c i (kept.jobs c i)
entered-shape system members (Reply c i t None) kept =
    replied system kept c i t (unit_of_ready (kept.terminals t).ready) (reply_by system (kept.jobs c i)) (is_outside_at (kept.terminals t).ready)
entered-shape system members (Reply c i t (Some x)) kept = record { seats = λ p. refl; terminals = refl; files = refl; faults = refl; commits = refl }
entered-shape system members (Again t n) kept = record { seats = λ p. refl; terminals = refl; files = refl; faults = refl; commits = refl }
entered-shape system members (Commit t n) kept = record { seats = λ p. refl; terminals = refl; files = refl; faults = refl; commits = refl }
entered-shape system members (Back t n) kept = record { seats = λ p. refl; terminals = refl; files = refl; faults = refl; commits = refl }
entered-shape system members (Restart t n cause) kept = record { seats = λ p. refl; terminals = refl; files = refl; faults = refl; commits = refl }
entered-shape system members (FailTcp p true k) kept =
    let mode = (kept.pairs p).mode in
    let lost : Kept = primary_lost mode (members p) kept in
    after-that kept lost (at_pair p (primary_fails mode) lost) (primary-lost system kept mode (members p)) (pair-shape p (primary_fails mode) lost (primary-pair mode (lost.pairs p)))
entered-shape system members (FailTcp p false k) kept =
    let mode = (kept.pairs p).mode in
    let lost : Kept = backup_lost mode (members p) kept in
    after-that kept lost (at_pair p (backup_fails mode) lost) (backup-lost system kept mode (members p)) (pair-shape p (backup_fails mode) lost (backup-pair mode (lost.pairs p)))
entered-shape system members (FailServer c i k) kept = stopped system kept c i k (at_process (kept.queues c) i)
entered-shape system members (Takeover p) kept =
    let same = pair-shape p after_take kept (map-same without_backup (λ seat. refl) (kept.pairs p).seats) in
    record { seats = same.seats; terminals = refl; files = refl; faults = refl; commits = refl }
entered-shape system members (Raise p) kept = pair-shape p after_raise kept (map-same without_backup (λ seat. refl) (kept.pairs p).seats)
entered-shape system members (End t ending) kept =
    let left : Kept = leave_at t ending kept in
    let one : IsSameShape false kept left = left-at system kept t ending in
    let ended : Kept = changes.at_terminal t (λ own. record own { pending = None; ending = Some ending }) left in
    after-that kept ended (at_pair (tcp_of system t) (after_drop t) ended)
    (record { seats = one.seats; terminals = one.terminals; files = one.files; faults = one.faults; commits = one.commits })
    (pair-shape (tcp_of system t) (after_drop t) ended (map-same _ (at-same t dropped (λ seat. refl)) (ended.pairs (tcp_of system t)).seats))
