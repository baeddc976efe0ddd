-- The place of each actor in one flat list, and what is noted of it there.
use Rattle.std.specs.Prelude.{◌≡◌, ℕ, ◌+◌, ◌-◌, ◌*◌, ◌==◌, ◌&&◌, nat_lt, nat_le, Bool, true, false, not, List, Option, Some, None, slice_index_or, if◌then◌else◌}
use Rattle.std.specs.List.{sum_by}
use Rattle.pw_actor_queue.specs.declared.roster.ActorNote.{ActorNote}
use Rattle.pw_actor_queue.specs.declared.actor.Actor.{Actor}
use Rattle.pw_actor_queue.specs.declared.actor.Actor.TheVariants.{Terminal, Process, Pair, Class}

-- two actors are one
abbrev pub is_same_actor : Actor → Actor → Bool
is_same_actor (Terminal t) (Terminal u) = t == u
is_same_actor (Process c i) (Process d j) = c == d && i == j
is_same_actor (Pair p) (Pair q) = p == q
is_same_actor (Class c) (Class d) = c == d
is_same_actor _ _ = false

-- there is a place for the actor: at most 128 terminals, 16 classes of 16 processes, and 8 pairs
abbrev pub is_placed : Actor → Bool
is_placed (Terminal t) = nat_lt t 128
is_placed (Process c i) = nat_lt c 16 && (nat_le 1 i && nat_le i 16)
is_placed (Pair p) = nat_lt p 8
is_placed (Class c) = nat_lt c 16

-- terminals come first, then the processes of each class, the pairs and the classes
abbrev pub actor_place : Actor → ℕ
actor_place (Terminal t) = t
actor_place (Process c i) = 128 + c * 16 + (i - 1)
actor_place (Pair p) = 384 + p
actor_place (Class c) = 392 + c

-- what is noted of an actor at first, and of one without a place
abbrev pub blank : ActorNote
blank = record { stamp = 0; out = false; marked = false }

-- what is noted of each actor
abbrev pub notes_in : List ActorNote → Actor → ActorNote
notes_in notes actor = if is_placed actor then slice_index_or notes (actor_place actor) blank else blank

-- what is noted of one actor is changed
abbrev pub actor_noted : Actor → (ActorNote → ActorNote) → (Actor → ActorNote) → Actor → ActorNote
actor_noted actor change notes other =
    if is_same_actor other actor then change (notes other) else notes other

-- the state changed behind n entries
abbrev pub stamped : ℕ → ActorNote → ActorNote
stamped n note = record note { stamp = n }

-- the actor is out, or is not
abbrev pub with_out : Bool → ActorNote → ActorNote
with_out out note = record note { out = out }

-- the actor is marked, or is not
abbrev pub with_mark : Bool → ActorNote → ActorNote
with_mark marked note = record note { marked = marked }

-- every actor that has a place is looked at for work
abbrev pub all_marked : (Actor → ActorNote) → Actor → ActorNote
all_marked notes actor = if is_placed actor then with_mark true (notes actor) else notes actor

-- the actor is marked and not out
abbrev pub is_waiting : ActorNote → Bool
is_waiting note = note.marked && not note.out

-- how many actors are marked and not out
abbrev pub waiting : List ActorNote → ℕ
waiting notes = sum_by (λ note. if is_waiting note then 1 else 0) notes

-- an actor that is marked and not out, or none where there is none
abbrev pub IsNext : (Actor → ActorNote) → Option Actor → Type 0
IsNext notes None = (actor : Actor) → is_waiting (notes actor) ≡ false
IsNext notes (Some actor) = (is_placed actor ≡ true) × (is_waiting (notes actor) ≡ true)
