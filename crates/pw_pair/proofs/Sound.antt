-- A seat stays sound.
use Rattle.std.proofs.Common.{◌≡◌, ℕ, ◌==◌, ◌&&◌, Bool, true, false, not, cond, List, length, Option, Some, None, refl, sym, ap, ◌∙◌}
use Rattle.std.proofs.lemmas.Bool.{false≢true, eq-eqb, eqb-true, and_parts, and_from}
use Rattle.pw_pair.specs.Bodies.{body_of, fits_held, image_in, is_image, is_whole}
use Rattle.pw_pair.specs.declared.message.Body.TheVariants.{Delta, Whole}
use Rattle.pw_image.specs.Records.{changed_records}
use Rattle.pw_image.proofs.Patching.{patch, within}
use Rattle.pw_pair.specs.Seats.{applied, built, end_is_image, flies_built, flies_waiting, flies_whole, is_built, flight_is_sound, held_is_sound, is_sound, memory_is_sound, start_of, taken_in, with_carried, with_held, with_kind, with_message, with_whole, without_backup, without_flight}
use Rattle.pw_pair.specs.declared.message.Carried.{Carried}
use Rattle.pw_pair.specs.declared.backup.Held.{Held}
use Rattle.pw_pair.specs.declared.message.CheckKind.{CheckKind}
use Rattle.pw_pair.specs.declared.message.CheckKind.TheVariants.{Start, End, Copy}
use Rattle.pw_pair.specs.declared.seat.Flight.{Flight}
use Rattle.pw_pair.specs.declared.seat.BackupSeat.{BackupSeat}

new-memory : (terminal unit : ℕ) (image : List ℕ) → is_image image ≡ true
    → memory_is_sound terminal (Some (record { terminal = terminal; unit = unit; start = image; end = None })) ≡ true
new-memory terminal unit image h = and_from (terminal == terminal) (is_image image && true) (eq-eqb terminal terminal refl) (and_from (is_image image) true h refl)

kind-sound : (kind : CheckKind) (terminal unit : ℕ) (image : List ℕ) (memory : Option Held) → memory_is_sound terminal memory ≡ true → is_image image ≡ true
    → memory_is_sound terminal (with_kind kind terminal unit image memory) ≡ true
kind-sound Start terminal unit image memory h own = new-memory terminal unit image own
kind-sound Copy terminal unit image memory h own = new-memory terminal unit image own
kind-sound End terminal unit image None h own = refl
kind-sound End terminal unit image (Some held) h own =
    let k = and_parts (held.terminal == terminal) (held_is_sound held) h in
    let s = and_parts (is_image held.start) (end_is_image held.end) k.1 in
    and_from (held.terminal == terminal) (is_image held.start && is_image image) k.0 (and_from (is_image held.start) (is_image image) s.0 own)

taken-sound : (terminal : ℕ) (flight : Option Flight) (memory : Option Held) → memory_is_sound terminal memory ≡ true
    → flight_is_sound (start_of memory) flight ≡ true → memory_is_sound terminal (taken_in terminal flight memory) ≡ true
taken-sound terminal None memory h f = h
taken-sound terminal (Some flight) memory h f =
    let k = and_parts (fits_held (start_of memory) flight.message.body) _ f in
    let i = and_parts (is_image (image_in (start_of memory) flight.message.body)) _ k.1 in
    kind-sound flight.message.kind terminal flight.message.unit (image_in (start_of memory) flight.message.body) memory h i.0

-- what is taken in is in the image format
pub applied-sound : (seat : BackupSeat) → is_sound seat ≡ true → is_sound (applied seat) ≡ true
applied-sound seat h =
    let k = and_parts (memory_is_sound seat.terminal seat.memory) (flight_is_sound (start_of seat.memory) seat.flight) h in
    and_from _ true (taken-sound seat.terminal seat.flight seat.memory k.0 k.1) refl

-- a message that fits is in flight
pub carried-sound : (message : Carried) (seat : BackupSeat) → is_sound seat ≡ true
    → flight_is_sound (start_of seat.memory) (Some (record { message = message; built = false })) ≡ true → is_sound (with_carried message seat) ≡ true
carried-sound message seat h own =
    let k = and_parts (memory_is_sound seat.terminal seat.memory) (flight_is_sound (start_of seat.memory) seat.flight) h in
    and_from (memory_is_sound seat.terminal seat.memory) _ k.0 own

built-flight : (start : Option (List ℕ)) (flight : Option Flight) → flight_is_sound start flight ≡ true
    → flight_is_sound start (with_whole start flight) ≡ true
built-flight start None h = refl
built-flight start (Some flight) h =
    let k = and_parts (fits_held start flight.message.body) _ h in
    let i = and_parts (is_image (image_in start flight.message.body)) _ k.1 in
    and_from (is_image (image_in start flight.message.body)) true i.0 refl

-- the message is built
pub built-sound : (seat : BackupSeat) → is_sound seat ≡ true → is_sound (built seat) ≡ true
built-sound seat h =
    let k = and_parts (memory_is_sound seat.terminal seat.memory) (flight_is_sound (start_of seat.memory) seat.flight) h in
    and_from (memory_is_sound seat.terminal seat.memory) _ k.0 (built-flight (start_of seat.memory) seat.flight k.1)

-- what a body of an image stands for is this image
pub body-of-image : (start : Option (List ℕ)) (image : List ℕ) → (fits_held start (body_of start image) ≡ true) × (image_in start (body_of start image) ≡ image)
body-of-image None image = (refl, refl)
body-of-image (Some start) image = chosen (length start == length image) refl
  where
    chosen : (b : Bool) → (length start == length image) ≡ b
        → (fits_held (Some start) (cond b (Delta (changed_records start image)) (Whole image)) ≡ true)
        × (image_in (Some start) (cond b (Delta (changed_records start image)) (Whole image)) ≡ image)
    chosen true e = let same = eqb-true (length start) (length image) e in (within start image same, patch start image same)
    chosen false e = (refl, refl)

-- a message is sent
pub message-sound : (kind : CheckKind) (unit : ℕ) (image : List ℕ) (seat : BackupSeat) → is_sound seat ≡ true → is_image image ≡ true
    → is_sound (with_message kind unit image seat) ≡ true
message-sound kind unit image seat h own =
    let b = body-of-image (start_of seat.memory) image in
    carried-sound (record { kind = kind; unit = unit; body = body_of (start_of seat.memory) image }) seat h
    (and_from (fits_held (start_of seat.memory) (body_of (start_of seat.memory) image)) _ b.0 (and_from (is_image (image_in (start_of seat.memory) (body_of (start_of seat.memory) image))) true (ap is_image b.1 ∙ own) refl))

-- what is held is put in
pub held-sound : (held : Held) (seat : BackupSeat) → held.terminal ≡ seat.terminal → held_is_sound held ≡ true → is_sound (with_held held seat) ≡ true
held-sound held seat e own =
    and_from _ true (and_from (held.terminal == seat.terminal) (held_is_sound held) (eq-eqb held.terminal seat.terminal e) own) refl

pub without-backup-sound : (seat : BackupSeat) → is_sound seat ≡ true → is_sound (without_backup seat) ≡ true
without-backup-sound seat h = refl

pub without-flight-sound : (seat : BackupSeat) → is_sound seat ≡ true → is_sound (without_flight seat) ≡ true
without-flight-sound seat h =
    let k = and_parts (memory_is_sound seat.terminal seat.memory) (flight_is_sound (start_of seat.memory) seat.flight) h in
    and_from (memory_is_sound seat.terminal seat.memory) true k.0 refl

whole-of : (start : Option (List ℕ)) (flight : Option Flight) → flight_is_sound start flight ≡ true → flies_built flight ≡ true → flies_whole flight ≡ true
whole-of start None h b = absurd (false≢true b)
whole-of start (Some flight) h b =
    let k = and_parts (fits_held start flight.message.body) _ h in
    let i = and_parts (is_image (image_in start flight.message.body)) _ k.1 in
    ap (λ x. cond x (is_whole flight.message.body) true) (sym b) ∙ i.1

-- what is built waits no more
pub built-waits-not : (flight : Option Flight) → flies_built flight ≡ true → flies_waiting flight ≡ false
built-waits-not None b = refl
built-waits-not (Some flight) b = ap not b

-- a built message is whole
pub built-whole : (seat : BackupSeat) → is_sound seat ≡ true → is_built seat ≡ true → flies_whole seat.flight ≡ true
built-whole seat h b =
    whole-of (start_of seat.memory) seat.flight (and_parts (memory_is_sound seat.terminal seat.memory) (flight_is_sound (start_of seat.memory) seat.flight) h).1 b
