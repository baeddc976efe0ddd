-- What is kept, where a message goes to a backup, and where it is taken in.
use Rattle.std.proofs.Common.{◌≡◌, ℕ, Bool, true, false, List, [], ◌∷◌, Option, Some, None, if◌then◌else◌, ◌∙◌, refl, sym, ap, ap₂, subst}
use Rattle.std.specs.Option.{is_some, option_map}
use Rattle.std.specs.Prelude.{find}
use Rattle.std.proofs.lemmas.Bool.{not-false}
use Rattle.pw_world_store.proofs.Parts.{upd-twice}
use Rattle.pw_code.specs.declared.context.Context.{Context}
use Rattle.pw_code.specs.declared.system.System.{System}
use Rattle.pw_code.specs.declared.verb.Answer.{Answer}
use Rattle.pw_code.specs.declared.verb.Answer.TheVariants as answer
use Rattle.pw_code.specs.declared.verb.Verb.{Verb}
use Rattle.pw_code.specs.declared.verb.Verb.TheVariants as verb
use Rattle.pw_image.specs.Format.{IsImageOf}
use Rattle.pw_image.specs.Reading.{context_in}
use Rattle.pw_image.proofs.ImageForms.{read-again}
use Rattle.pw_world_state.specs.Asked.{answered_with, verb_in}
use Rattle.pw_world_state.specs.Changes.{at_pair, kept_applied, kept_check}
use Rattle.pw_world_state.specs.Entered.{answering, closing_context, image_message, send_image, tcp_of, verb_of}
use Rattle.pw_world_state.specs.Kept.{Kept, KeptTerminal}
use Rattle.pw_world_state.specs.TerminalTests.{closing}
use Rattle.pw_pair.specs.Bodies.{is_image}
use Rattle.pw_pair.specs.Pairs.{SeenPair, after_applied, changed_at, passes, seat_of, settled}
use Rattle.pw_pair.specs.Rooms.{MaySend}
use Rattle.pw_pair.specs.Seats.{applied, at_terminal, built, flies_built, flies_waiting, is_built, is_flying, is_seat_of, is_waiting, start_of, taken_in, with_whole}
use Rattle.pw_pair.specs.declared.backup.Held.{Held}
use Rattle.pw_pair.specs.declared.message.CheckKind.{CheckKind}
use Rattle.pw_pair.specs.declared.message.CheckKind.TheVariants as kind
use Rattle.pw_pair.specs.declared.message.CheckMessage.{CheckMessage}
use Rattle.pw_pair.specs.declared.seat.Flight.{Flight}
use Rattle.pw_pair.specs.declared.seat.BackupSeat.{BackupSeat}
use Rattle.pw_onecopy.specs.Update.{upd}
use Rattle.pw_onecopy.proofs.Update.{upd-same}

-- ---- CHECK

-- the image of a context is in the image format
pub image-sound : (bytes : List ℕ) (context : Context) → IsImageOf bytes context → is_image bytes ≡ true
unfolding is_image
image-sound bytes context is =
    ap is_some
    (ap context_in is.is ∙ read-again context is.has_image is.has_values)

-- a message with the image of the context that is there
pub sent-is : (system : System) (t tcp : ℕ) (kind : CheckKind) (context : Option Context) (own : Context)
    (message : CheckMessage) (kept : Kept)
    → tcp ≡ tcp_of system t → message ≡ image_message t kind own → context ≡ Some own
    → kept_check tcp message kept ≡ send_image system t kind context kept
sent-is system t tcp kind context own message kept pair is there =
    ap₂ (λ (p : ℕ) (m : CheckMessage). kept_check p m kept) pair is
    ∙ ap (λ (o : Option Context). send_image system t kind o kept) (sym there)

-- the pair sends messages of its kind
pub may-send : (system : System) (t tcp : ℕ) (kind : CheckKind) (own : Context) (message : CheckMessage) (kept : Kept)
    → tcp ≡ tcp_of system t → message ≡ image_message t kind own → MaySend (kept.pairs (tcp_of system t)).mode kind
    → MaySend (kept.pairs tcp).mode message.kind
may-send system t tcp kind own message kept pair is sends =
    subst (λ (p : ℕ). MaySend (kept.pairs p).mode message.kind) (sym pair)
    (subst (λ (m : CheckMessage). MaySend (kept.pairs (tcp_of system t)).mode m.kind) (sym is) sends)

-- the context behind the answer that closes
closing-at : (system : System) (v : Verb) (a : Answer) (own : KeptTerminal)
    → closing v ≡ Some a → closing_context system (Some v) own ≡ (answering system a own).context
closing-at system verb.Show a own e = absurd (cc e)
closing-at system (verb.Accept screen) a own e = absurd (cc e)
closing-at system verb.Begin a own e = absurd (cc e)
closing-at system (verb.Send class message) a own e = absurd (cc e)
closing-at system verb.End a own e =
    let same : answer.Ended ≡ a = cc e in ap (λ (x : Answer). (answering system x own).context) same
closing-at system verb.Drop a own e =
    let same : answer.Dropped ≡ a = cc e in ap (λ (x : Answer). (answering system x own).context) same
closing-at system verb.Redo a own e = absurd (cc e)
closing-at system verb.Stop a own e = absurd (cc e)
closing-at system (verb.Fault code) a own e = absurd (cc e)
closing-at system (verb.File call) a own e = absurd (cc e)
closing-at system (verb.Reply reply) a own e = absurd (cc e)

pub closing-is : (system : System) (t : ℕ) (a : Answer) (context : Context) (kept : Kept)
    → (kept.terminals t).ready ≡ Some context → closing (verb_in system context) ≡ Some a
    → closing_context system (verb_of system (kept.terminals t)) (kept.terminals t)
    ≡ Some (answered_with system a context)
closing-is system t a context kept ready closes =
    ap (λ (o : Option Context). closing_context system (option_map (verb_in system) o) (kept.terminals t)) ready
    ∙ (closing-at system (verb_in system context) a (kept.terminals t) closes
    ∙ ap (option_map (answered_with system a)) ready)

-- ---- APPLIED

-- a message that is built before it is taken in is taken in as it was
taken-built : (t : ℕ) (flight : Option Flight) (memory : Option Held)
    → taken_in t (with_whole (start_of memory) flight) memory ≡ taken_in t flight memory
taken-built t None memory = refl
taken-built t (Some flight) memory = refl

applied-built : (seat : BackupSeat) → applied (built seat) ≡ applied seat
applied-built seat =
    ap (λ (memory : Option Held). record seat { memory = memory; flight = None })
    (taken-built seat.terminal seat.flight seat.memory)

one-built : (t : ℕ) (seat : BackupSeat) (mine : Bool) → is_seat_of t seat ≡ mine
    → (λ (s : BackupSeat). if is_seat_of t s then applied s else s) (if mine then built seat else seat)
    ≡ (if mine then applied seat else seat)
one-built t seat true e =
    ap (λ (b : Bool). if b then applied (built seat) else built seat) e ∙ applied-built seat
one-built t seat false e = ap (λ (b : Bool). if b then applied seat else seat) e

each-built : (t : ℕ) (seats : List BackupSeat) → at_terminal t applied (at_terminal t built seats) ≡ at_terminal t applied seats
each-built t [] = refl
each-built t (seat ∷ seats) = ap₂ (λ (s : BackupSeat) (l : List BackupSeat). s ∷ l) (one-built t seat (is_seat_of t seat) refl) (each-built t seats)

pub pair-built : (t : ℕ) (pair : SeenPair) → after_applied t (changed_at t built pair) ≡ after_applied t pair
pair-built t pair = ap (λ (seats : List BackupSeat). settled (record pair { seats = seats })) (each-built t pair.seats)

pub built-applied : (p t : ℕ) (kept : Kept) → kept_applied p t (at_pair p (changed_at t built) kept) ≡ kept_applied p t kept
built-applied p t kept =
    ap (λ (pairs : ℕ → SeenPair). record kept { pairs = pairs })
    (upd-twice kept.pairs p (changed_at t built (kept.pairs p)) _
    ∙ ap (λ (pair : SeenPair). upd kept.pairs p pair)
    (ap (after_applied t) (upd-same kept.pairs p (changed_at t built (kept.pairs p)) p refl) ∙ pair-built t (kept.pairs p)))

-- the seat of a terminal, where its message is built
same-test : (t : ℕ) (seat : BackupSeat) (mine : Bool) → is_seat_of t (if mine then built seat else seat) ≡ is_seat_of t seat
same-test t seat true = refl
same-test t seat false = refl

found-by : (seat : BackupSeat) (mine : Bool) (rest : Option BackupSeat) (before : Option BackupSeat) → rest ≡ option_map built before
    → (if mine then Some (if mine then built seat else seat) else rest) ≡ option_map built (if mine then Some seat else before)
found-by seat true rest before e = refl
found-by seat false rest before e = e

found-built : (t : ℕ) (seats : List BackupSeat)
    → find (is_seat_of t) (at_terminal t built seats) ≡ option_map built (find (is_seat_of t) seats)
found-built t [] = refl
found-built t (seat ∷ seats) =
    ap
    (λ (b : Bool). if b then Some (if is_seat_of t seat then built seat else seat)
    else find (is_seat_of t) (at_terminal t built seats)) (same-test t seat (is_seat_of t seat))
    ∙ found-by seat (is_seat_of t seat) (find (is_seat_of t) (at_terminal t built seats)) (find (is_seat_of t) seats)
    (found-built t seats)

-- a message that waits to be built is built then
flight-built : (start : Option (List ℕ)) (flight : Option Flight) → flies_waiting flight ≡ true
    → flies_built (with_whole start flight) ≡ true
flight-built start None h = absurd (cc h)
flight-built start (Some flight) h = refl

passes-built : (seat : Option BackupSeat) → passes is_waiting seat ≡ true → passes is_built (option_map built seat) ≡ true
passes-built None h = absurd (cc h)
passes-built (Some seat) h = flight-built (start_of seat.memory) seat.flight h

pub built-then : (p t : ℕ) (kept : Kept) → passes is_waiting (seat_of t (kept.pairs p)) ≡ true
    → passes is_built (seat_of t ((at_pair p (changed_at t built) kept).pairs p)) ≡ true
built-then p t kept h =
    ap (λ (pair : SeenPair). passes is_built (seat_of t pair))
    (upd-same kept.pairs p (changed_at t built (kept.pairs p)) p refl)
    ∙ (ap (passes is_built) (found-built t (kept.pairs p).seats)
    ∙ passes-built (seat_of t (kept.pairs p)) h)

-- one that flies and does not wait is built
flight-whole : (flight : Option Flight) → is_some flight ≡ true → flies_waiting flight ≡ false → flies_built flight ≡ true
flight-whole None h w = absurd (cc h)
flight-whole (Some flight) h w = not-false flight.built w

passes-whole : (seat : Option BackupSeat) → passes is_flying seat ≡ true → passes is_waiting seat ≡ false
    → passes is_built seat ≡ true
passes-whole None h w = absurd (cc h)
passes-whole (Some seat) h w = flight-whole seat.flight h w

pub built-already : (p t : ℕ) (kept : Kept) → passes is_flying (seat_of t (kept.pairs p)) ≡ true
    → passes is_waiting (seat_of t (kept.pairs p)) ≡ false → passes is_built (seat_of t (kept.pairs p)) ≡ true
built-already p t kept h w = passes-whole (seat_of t (kept.pairs p)) h w
