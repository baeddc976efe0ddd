-- What it is that the systems of a transaction agree.
use Rattle.std.specs.Prelude.{◌≡◌, ◌⊎◌, ◌+◌, ℕ, List, [], ◌∷◌, Contains, Some}
use Rattle.pw_net.specs.Member.{own_id}
use Rattle.pw_net.specs.World.{NetWorld, NetEvent, Start, Refuse, Ask, GiveUp, Restart, Deliver, effect, first_world, mark_at}
use Rattle.pw_net.specs.declared.message.Mark.TheVariants.{Prepared, Committed}
use Rattle.pw_net.specs.declared.message.Net.{Net}
use Rattle.pw_net.specs.declared.message.NetId.{NetId}
use Rattle.pw_net.specs.declared.message.NetWord.{NetWord}

-- the event is the start that takes the transaction's number, with these others
abbrev pub TakesNumber : NetWorld → NetEvent → NetId → List ℕ → Type 0
TakesNumber world (Start system own) id others =
    (id ≡ own_id (world.members system) ((world.members system).last + 1)) × (others ≡ own)
TakesNumber world (Refuse system other) id others = ⊥
TakesNumber world (Ask system other) id others = ⊥
TakesNumber world (GiveUp system number) id others = ⊥
TakesNumber world (Restart system) id others = ⊥
TakesNumber world (Deliver k) id others = ⊥

-- one of these events, from a world on, is that start
abbrev pub Begins : NetWorld → List NetEvent → NetId → List ℕ → Type 0
Begins world [] id others = ⊥
Begins world (event ∷ events) id others =
    TakesNumber world event id others ⊎ Begins (effect world event) events id others

-- the system is one of the others of the start that took the transaction's number
abbrev pub IsOther : List NetEvent → NetId → ℕ → Type 0
IsOther events id system =
    (others : List ℕ) × Begins first_world events id others × Contains others system

-- the systems of a transaction are its home and the others
abbrev pub IsSystemOf : List NetEvent → NetId → ℕ → Type 0
IsSystemOf events id system = (system ≡ id.home) ⊎ IsOther events id system

-- one of these messages is like this
abbrev pub WasSent : (Net → Type 0) → List Net → Type 0
WasSent like [] = ⊥
WasSent like (message ∷ messages) = like message ⊎ WasSent like messages

-- a message of a system, with this word about the transaction
abbrev pub IsFrom : NetWord → NetId → ℕ → Net → Type 0
IsFrom word id system message = (message.word ≡ word) × (message.id ≡ id) × (message.from ≡ system)

-- the system is prepared or committed
abbrev pub HasPrepared : NetWorld → ℕ → NetId → Type 0
HasPrepared world system id =
    (mark_at world system id ≡ Some Prepared) ⊎ (mark_at world system id ≡ Some Committed)
