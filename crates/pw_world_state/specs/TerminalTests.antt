-- Whether the entries of a terminal at its own verb are legal, computed from what is kept.
use Rattle.std.specs.Prelude.{ℕ, ◌+◌, ◌==◌, ◌&&◌, nat_lt, nat_le, Bool, true, false, not, List, length, Option, Some, None, is_none, slice_get}
use Rattle.pw_code.specs.declared.context.Context.{Context}
use Rattle.pw_code.specs.declared.system.System.{System}
use Rattle.pw_code.specs.declared.system.TermInfo.{TermInfo}
use Rattle.pw_code.specs.declared.verb.Answer.{Answer}
use Rattle.pw_code.specs.declared.verb.Answer.TheVariants as answer
use Rattle.pw_code.specs.declared.verb.Verb.{Verb}
use Rattle.pw_code.specs.declared.verb.Verb.TheVariants as verb
use Rattle.pw_class.specs.Queue.{has_request}
use Rattle.pw_code_meaning.specs.OfSystem.{number_by}
use Rattle.pw_image.specs.Image.{image_of}
use Rattle.pw_world_state.specs.Asked.{answered_with, next_refresh_number, unit_in, verb_in}
use Rattle.pw_world_state.specs.Changes.{runs_told}
use Rattle.pw_world_state.specs.Kept.{Kept, KeptTerminal}
use Rattle.pw_laws.specs.legal.Terminals.{is_over}
use Rattle.pw_laws.specs.legal.Values.{is_same_refresh, some_with}
use Rattle.pw_laws.specs.legal.Verbs.{asks_accept, asks_drop, asks_end, asks_fault, asks_send, asks_send_to, asks_show, asks_stop}
use Rattle.pw_pair.specs.Pairs.{SeenPair, passes, seat_of}
use Rattle.pw_pair.specs.Seats.{holds_end, holds_start, is_flying}
use Rattle.pw_pair.specs.declared.mode.Mode.{Mode}
use Rattle.pw_pair.specs.declared.mode.Mode.TheVariants.{Paired}
use Rattle.pw_pair.specs.declared.seat.BackupSeat.{BackupSeat}
use Rattle.pw_paired.specs.Units.{any_below}

-- ---- a terminal

-- its pair
abbrev pub seen_pair_of : System → Kept → ℕ → SeenPair
seen_pair_of system kept t = kept.pairs (number_by (λ info. info.tcp) (slice_get system.terminals t))

-- its seat in the pair
abbrev pub seat_at : System → Kept → ℕ → Option BackupSeat
seat_at system kept t = seat_of t (seen_pair_of system kept t)

-- how many entry lines it has
abbrev pub entry_line_count : System → ℕ → ℕ
entry_line_count system t =
    number_by (λ (info : TermInfo). length info.entries) (slice_get system.terminals t)

-- the mode is Paired
abbrev pub is_paired : Mode → Bool
is_paired Paired = true
is_paired _ = false

-- it is started and has no ending
abbrev pub is_live : System → Kept → ℕ → Bool
is_live system kept t =
    nat_lt t (length system.terminals) && is_none (kept.terminals t).ending

-- it is live, its pair is Paired and no cause is pending for it
abbrev pub can_step : System → Kept → ℕ → Bool
can_step system kept t =
    is_live system kept t
    && (is_paired (seen_pair_of system kept t).mode && is_none (kept.terminals t).pending)

-- it can step, and its program stands at a verb and passes the test there
abbrev pub can_where : System → Kept → ℕ → (Context → Bool) → Bool
can_where system kept t test =
    can_step system kept t && some_with test (kept.terminals t).ready

-- its request is out
abbrev pub is_out : System → Kept → ℕ → Bool
is_out system kept t = any_below (length system.classes) (λ c. has_request t (kept.queues c))

-- ---- images

-- the image of its path passes the test
abbrev pub image_passes : KeptTerminal → (List ℕ → Bool) → Bool
image_passes own test = some_with (λ context. test (image_of context)) own.context

-- the backup holds the start of a unit, which is its path
abbrev pub start_held : System → Kept → ℕ → ℕ → Bool
start_held system kept t n =
    image_passes (kept.terminals t) (λ image. passes (holds_start n image) (seat_at system kept t))

-- the backup holds the end that this answer makes of its path
abbrev pub end_held : System → Kept → ℕ → Answer → Context → Bool
end_held system kept t a context =
    passes (holds_end (image_of (answered_with system a context))) (seat_at system kept t)

-- a message of it is in flight
abbrev pub flies : System → Kept → ℕ → Bool
flies system kept t = passes is_flying (seat_at system kept t)

-- ---- verbs

-- the verb begins a unit: it is Begin, or Send outside a transaction
abbrev pub begins_unit : Verb → Bool → Bool
begins_unit verb.Begin outside = true
begins_unit (verb.Send class message) outside = outside
begins_unit _ outside = false

-- the answer that closes a transaction at a verb, if one does
abbrev pub closing : Verb → Option Answer
closing verb.End = Some answer.Ended
closing verb.Drop = Some answer.Dropped
closing _ = None

-- ---- entries

-- SHOW t phase.attempt.k
abbrev pub may_show : System → Kept → ℕ → ℕ → ℕ → ℕ → Bool
may_show system kept t phase attempt k =
    can_where system kept t (λ context.
    asks_show (verb_in system context)
    && is_same_refresh (next_refresh_number context) (record { phase = phase; attempt = attempt; k = k }))

-- KEY t k
abbrev pub may_key : System → Kept → ℕ → ℕ → Bool
may_key system kept t k =
    can_where system kept t (λ context.
    asks_accept (verb_in system context)
    && (k == context.entries + 1 && nat_le k (entry_line_count system t)))

-- CHECK t START
abbrev pub may_check_start : System → Kept → ℕ → Bool
may_check_start system kept t =
    can_where system kept t (λ context.
    is_none (kept.terminals t).start
    && (begins_unit (verb_in system context) (not context.in_unit)
    && (not ((kept.disc.ended t).number == unit_in context)
    && (not (start_held system kept t (unit_in context)) && not (flies system kept t)))))

-- CHECK t END
abbrev pub may_check_end : System → Kept → ℕ → Bool
may_check_end system kept t =
    can_where system kept t (λ context.
    some_with (λ a. not (end_held system kept t a context) && not (flies system kept t))
    (closing (verb_in system context)))

-- BEGIN t n r
abbrev pub may_begin : System → Kept → ℕ → ℕ → ℕ → Bool
may_begin system kept t n r =
    can_where system kept t (λ context.
    is_none (kept.terminals t).start
    && (begins_unit (verb_in system context) (not context.in_unit)
    && (n == unit_in context
    && (not ((kept.disc.ended t).number == n)
    && (is_over kept.disc.ended (kept.terminals t).awaits
    && (start_held system kept t (unit_in context) && r == (kept.terminals t).restarts))))))

-- SEND t n c
abbrev pub may_send : System → Kept → ℕ → ℕ → ℕ → Bool
may_send system kept t n c =
    can_where system kept t (λ context.
    runs_told n (kept.disc.units t)
    && (asks_send_to c (verb_in system context) && not (is_out system kept t)))

-- AGAIN t n
abbrev pub may_again : System → Kept → ℕ → ℕ → Bool
may_again system kept t n =
    can_where system kept t (λ context.
    asks_send (verb_in system context)
    && (not context.in_unit && (n == unit_in context && (kept.disc.ended t).number == n)))

-- COMMIT t n
abbrev pub may_commit : System → Kept → ℕ → ℕ → Bool
may_commit system kept t n =
    can_where system kept t (λ context.
    asks_end (verb_in system context)
    && (n == unit_in context && end_held system kept t answer.Ended context))

-- BACK t n
abbrev pub may_back : System → Kept → ℕ → ℕ → Bool
may_back system kept t n =
    can_where system kept t (λ context.
    asks_drop (verb_in system context)
    && (n == unit_in context && end_held system kept t answer.Dropped context))

-- END t STOPPED
abbrev pub may_stop : System → Kept → ℕ → Bool
may_stop system kept t =
    can_where system kept t (λ context. asks_stop (verb_in system context))

-- END t NOENTRIES
abbrev pub may_end_entries : System → Kept → ℕ → Bool
may_end_entries system kept t =
    can_where system kept t (λ context.
    asks_accept (verb_in system context) && context.entries == entry_line_count system t)

-- END t FAULT x
abbrev pub may_fault : System → Kept → ℕ → ℕ → Bool
may_fault system kept t x =
    can_where system kept t (λ context. asks_fault x (verb_in system context))
