-- Whether the entries of a pair and END LOST are legal, computed from what is kept.
use Rattle.std.specs.Prelude.{ℕ, ◌==◌, ◌&&◌, Bool, true, false, not, length, is_none, slice_get}
use Rattle.pw_code.specs.declared.system.System.{System}
use Rattle.pw_code_meaning.specs.OfSystem.{number_by}
use Rattle.pw_world_state.specs.Kept.{Kept}
use Rattle.pw_world_state.specs.TerminalTests.{flies, is_live, seen_pair_of, seat_at}
use Rattle.pw_pair.specs.Pairs.{passes}
use Rattle.pw_pair.specs.Seats.{has_memory}
use Rattle.pw_pair.specs.declared.mode.Mode.{Mode}
use Rattle.pw_pair.specs.declared.mode.Mode.TheVariants.{Alone, Raising, Paired, Down, Gone}
use Rattle.pw_paired.specs.Raising.{is_takeover}
use Rattle.pw_paired.specs.Units.{any_below}

-- ---- modes

-- the mode is Alone
abbrev pub is_alone : Mode → Bool
is_alone Alone = true
is_alone _ = false

-- the mode is Raising
abbrev pub is_raising : Mode → Bool
is_raising Raising = true
is_raising _ = false

-- the mode is Down
abbrev pub is_down : Mode → Bool
is_down Down = true
is_down _ = false

-- the mode is Gone
abbrev pub is_gone : Mode → Bool
is_gone Gone = true
is_gone _ = false

-- messages fly to the backup
abbrev pub is_sending : Mode → Bool
is_sending Raising = true
is_sending Paired = true
is_sending _ = false

-- the terminal is of the pair
abbrev pub is_in : System → ℕ → ℕ → Bool
is_in system p t = number_by (λ info. info.tcp) (slice_get system.terminals t) == p

-- ---- entries

-- CHECK t COPY
abbrev pub may_copy : System → Kept → ℕ → Bool
may_copy system kept t =
    is_live system kept t && (is_raising (seen_pair_of system kept t).mode
    && (not (passes has_memory (seat_at system kept t)) && not (flies system kept t)))

-- APPLIED t
abbrev pub may_apply : System → Kept → ℕ → Bool
may_apply system kept t = flies system kept t && is_sending (seen_pair_of system kept t).mode

-- RAISE p
abbrev pub may_raise : System → Kept → ℕ → Bool
may_raise system kept p =
    is_alone (kept.pairs p).mode
    && (any_below (length system.terminals)
    (λ t. is_in system p t && is_none (kept.terminals t).ending)
    && not (any_below (length system.terminals)
    (λ t. is_in system p t && is_takeover (kept.terminals t).pending)))

-- TAKEOVER p
abbrev pub may_take_over : Kept → ℕ → Bool
may_take_over kept p = is_down (kept.pairs p).mode

-- END t LOST
abbrev pub may_lose : System → Kept → ℕ → Bool
may_lose system kept t = is_live system kept t && is_gone (seen_pair_of system kept t).mode
