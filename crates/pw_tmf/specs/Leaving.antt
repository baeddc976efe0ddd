-- Units of several terminals that are left at once.
use Rattle.std.specs.Prelude.{◌≡◌, ◌==◌, ℕ, Bool, true, List, take, All, IsSome, Option, Some, None}
use Rattle.std.specs.List.{IsDistinct, filter_map, list_any}
use Rattle.std.specs.Option.{IfSome}
use Rattle.pw_code.specs.declared.unit.Unit as unit
use Rattle.pw_onecopy.specs.Behaviour.{Behaviour}
use Rattle.pw_paired.specs.State.{BeforeImage, State}
use Rattle.pw_paired.specs.Units.{has_image}
use Rattle.pw_tmf.specs.Told.{ToldUnit, Told}

-- the open unit of a terminal, as a disc is asked for it
abbrev pub unit_told : ℕ → Option ToldUnit → Option unit.Unit
unit_told t None = None
unit_told t (Some own) = Some (record { terminal = t; number = own.number; birth = own.birth })

-- the open units of these terminals
abbrev pub open_units : Told → List ℕ → List unit.Unit
open_units told terminals = filter_map (λ t. unit_told t (told.units t)) terminals

-- the terminal is one of these
abbrev pub is_among : List ℕ → ℕ → Bool
is_among terminals t = list_any (λ one. one == t) terminals

-- the content, if there is one, has this key
abbrev pub HasKey : ℕ → List ℕ → Option (List ℕ) → Type 0
HasKey n key content = IfSome content (λ c. take n c ≡ key)

-- what a before-image puts back has its key
abbrev pub IsKeyed : (ℕ → ℕ) → BeforeImage → Type 0
IsKeyed key_length image = HasKey (key_length image.file) image.key image.content

-- no key has before-images of two terminals
abbrev pub AreSingle : List BeforeImage → Type 0
AreSingle before =
    (t o file : ℕ) (key : List ℕ) → has_image t file key before ≡ true → has_image o file key before ≡ true → t ≡ o

-- What units need to be left in any order: what a before-image puts back has its key, no key has before-images of
-- two terminals, and each lock is of a terminal with an open unit.
pub record CanLeave (sys : Behaviour) (state : State) : Type 0 where
  pub keyed : All (IsKeyed sys.key_length) state.before
  pub single : AreSingle state.before
  pub held : All (λ lock. IsSome (state.units lock.unit.terminal)) state.locks

-- the terminals are different ones of those that leave, and are all of them that have an open unit
pub record HaveOpen (whose : ℕ → Bool) (state : State) (terminals : List ℕ) : Type 0 where
  pub distinct : IsDistinct (λ a b. a == b) terminals
  pub theirs : All (λ t. whose t ≡ true) terminals
  pub every : (t : ℕ) → whose t ≡ true → IsSome (state.units t) → is_among terminals t ≡ true
