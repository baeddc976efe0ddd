-- How an image is read: each reader gives what stands at the front of some bytes, and the bytes behind
-- it, or nothing.
use Rattle.std.specs.Prelude.{◌≡◌, ℕ, zero, suc, ◌&&◌, ◌==◌, Bool, true, false, List, [], ◌∷◌, length, take, drop, Option, Some, None, Result, Ok, Err, nat_lt, nat_le, if◌then◌else◌}
use Rattle.std.specs.Int.{Width, w16, w32, w64, byte_len, from_be_bytes}
use Rattle.std.specs.Str.{bytes_eq}
use Rattle.pw_code.specs.Limits.{most_active}
use Rattle.pw_code.specs.declared.context.Context.{Context}
use Rattle.pw_code.specs.declared.context.Course.{Course}
use Rattle.pw_code.specs.declared.context.Course.TheVariants.{Instruction, Advisory}
use Rattle.pw_code.specs.declared.context.Frame.{Frame}
use Rattle.pw_code.specs.declared.context.Return.{Return}
use Rattle.pw_image.specs.declared.fault.BytesFault.{BytesFault}
use Rattle.pw_image.specs.declared.fault.BytesFault.TheVariants.{Bad, Memory}
use Rattle.pw_image.specs.Image.{mark}

-- what is read from the front, and the rest
abbrev pub Front : Type 0 → Type 0
Front A = Option (A × List ℕ)

-- what a step makes of what was read, where it was read
infixl 10 ◌>>=◌
abbrev pub ◌>>=◌ : {A B : Type 0} → Option A → (A → Option B) → Option B
(Some x) >>= step = step x
None >>= step = None

-- nothing was read, unless memory ran out
abbrev pub FailsPart : {Y : Type 0} → BytesFault → Option Y → Type 0
FailsPart Bad read = read ≡ None
FailsPart Memory read = Unit {0}

-- what a call answered, seen by view, is what was read, unless memory ran out
abbrev pub GivesPart : {X Y : Type 0} → (X → Y) → Result X BytesFault → Option Y → Type 0
GivesPart view (Ok x) read = read ≡ Some (view x)
GivesPart view (Err fault) read = FailsPart fault read

-- a number
abbrev pub number_at : Width → List ℕ → Front ℕ
number_at width bytes =
    if nat_lt (length bytes) (byte_len width) then None
    else Some (from_be_bytes width (take (byte_len width) bytes), drop (byte_len width) bytes)

-- a byte that passes a test
abbrev pub byte_at : (ℕ → Bool) → List ℕ → Front ℕ
byte_at test [] = None
byte_at test (byte ∷ bytes) = if test byte then Some (byte, bytes) else None

-- so many bytes
abbrev pub block_at : ℕ → List ℕ → Front (List ℕ)
block_at count bytes =
    if nat_lt (length bytes) count then None else Some (take count bytes, drop count bytes)

-- one thing and then another
abbrev pub both_at : {A B : Type 0} → (List ℕ → Front A) → (List ℕ → Front B)
    → List ℕ → Front (A × B)
both_at one other bytes =
    one bytes >>= λ first. other first.1 >>= λ second. Some ((first.0, second.0), second.1)

-- a value that is made of what was read
abbrev pub made_at : {A B : Type 0} → (A → B) → (List ℕ → Front A) → List ℕ → Front B
made_at make read bytes = read bytes >>= λ front. Some (make front.0, front.1)

-- so many things
unfoldable pub many_at : {A : Type 0} → (List ℕ → Front A) → ℕ → List ℕ → Front (List A)
many_at read zero bytes = Some ([], bytes)
many_at read (suc count) bytes =
    read bytes >>= λ first. many_at read count first.1 >>= λ others.
    Some (first.0 ∷ others.0, others.1)

-- a count that passes a test, and as much as it says
abbrev pub counted_at : {A : Type 0} → (List ℕ → Front ℕ) → (ℕ → Bool) → (ℕ → List ℕ → Front A)
    → List ℕ → Front A
counted_at count test items bytes =
    count bytes >>= λ front. if test front.0 then items front.0 front.1 else None

-- any byte
abbrev pub is_any : ℕ → Bool
is_any byte = true

-- a truth
abbrev pub is_truth : ℕ → Bool
is_truth byte = nat_le byte 1

-- the truth that a byte is
abbrev pub truth_of : ℕ → Bool
truth_of byte = byte == 1

-- the course of a context by the byte that says whether an advisory is to be shown
abbrev pub course_of : ℕ → Course
course_of byte = if truth_of byte then Advisory else Instruction

-- how many active programs there may be
abbrev pub is_frame_count : ℕ → Bool
is_frame_count count = nat_le 1 count && nat_le count 9

-- an active PERFORM
abbrev pub return_from : ℕ × (ℕ × ℕ) → Return
return_from parts = record { resume = parts.0; until = parts.1.0; turns = parts.1.1 }

unfoldable pub return_at : List ℕ → Front Return
return_at = made_at return_from (both_at (number_at w32) (both_at (number_at w32) (number_at w64)))

-- the characters of an active program
unfoldable pub storage_at : List ℕ → Front (List ℕ)
storage_at = counted_at (number_at w32) (λ count. nat_le count most_active) block_at

-- its active PERFORMs
unfoldable pub returns_at : List ℕ → Front (List Return)
returns_at = counted_at (byte_at is_any) (λ count. nat_le count 64) (many_at return_at)

-- an active program
abbrev pub frame_from : ℕ × (ℕ × (List ℕ × List Return)) → Frame
frame_from parts = record {
  program = parts.0;
  at = parts.1.0;
  storage = parts.1.1.0;
  returns = parts.1.1.1;
}

unfoldable pub frame_at : List ℕ → Front Frame
frame_at =
    made_at frame_from
    (both_at (number_at w16) (both_at (number_at w32) (both_at storage_at returns_at)))

-- the active programs
unfoldable pub frames_at : List ℕ → Front (List Frame)
frames_at = counted_at (byte_at is_any) is_frame_count (many_at frame_at)

-- the numbers that begin an image
abbrev pub Counts : Type 0
Counts = ℕ × (ℕ × (ℕ × (ℕ × (ℕ × (ℕ × ℕ)))))

unfoldable pub counts_at : List ℕ → Front Counts
counts_at =
    both_at (number_at w16) (both_at (number_at w32) (both_at (number_at w32)
    (both_at (number_at w32) (both_at (number_at w32)
    (both_at (number_at w32) (number_at w32))))))

-- the screen
abbrev pub screen_at : List ℕ → Front (List ℕ)
screen_at = block_at 1920

-- a context at an answer
abbrev pub context_from : Counts × (ℕ × (ℕ × (List ℕ × List Frame))) → Context
context_from parts = record {
  termination = parts.0.0;
  restarts = parts.0.1.0;
  file_status = 0;
  phase = parts.0.1.1.0;
  attempt = parts.0.1.1.1.0;
  shown = parts.0.1.1.1.1.0;
  entries = parts.0.1.1.1.1.1.0;
  units = parts.0.1.1.1.1.1.1;
  in_unit = truth_of parts.1.0;
  course = course_of parts.1.1.0;
  at_verb = false;
  count = 0;
  screen = parts.1.1.1.0;
  frames = parts.1.1.1.1;
}

unfoldable pub context_at : List ℕ → Front Context
context_at =
    made_at context_from
    (both_at counts_at (both_at (byte_at is_truth) (both_at (byte_at is_truth)
    (both_at screen_at frames_at))))

-- what was read, where nothing is behind it
abbrev pub all_of : {A : Type 0} → Front A → Option A
all_of None = None
all_of (Some (x, [])) = Some x
all_of (Some (x, byte ∷ bytes)) = None

-- the context that an image is of, if the bytes are one
unfoldable pub context_in : List ℕ → Option Context
context_in bytes =
    if bytes_eq (take 3 bytes) mark then all_of (context_at (drop 3 bytes)) else None
