-- The attempt of a unit is over, and its terminal is at its start.
use Rattle.std.proofs.Common.{◌≡◌, ℕ, ◌<◌, false, List, Option, Some, None, ◌∙◌, refl, sym, ap, subst, length}
use Rattle.std.specs.Prelude.{is_some, option_map, slice_index_or, slice_set}
use Rattle.pw_class.specs.Queue.{Queue}
use Rattle.pw_code.specs.declared.system.System.{System}
use Rattle.pw_code.specs.declared.unit.Unit as unit
use Rattle.pw_event.specs.declared.event.Cause.{Cause}
use Rattle.pw_event.specs.declared.event.Cause.TheVariants.{Older, Redo, Server, Takeover}
use Rattle.pw_world_store.specs.Keeps.{HasVerb, IsKeep, is_run, kept_of}
use Rattle.pw_world_store.proofs.Parts.{keep-seat, seat-is}
use Rattle.pw_world_state.specs.Changes as kept
use Rattle.pw_onecopy.proofs.Update.{upd-other, upd-same}
use Rattle.pw_pair.specs.Pairs.{SeenPair}
use Rattle.pw_world_store.specs.Seats.{seat_restarted}
use Rattle.pw_world_store.specs.declared.job.ProcessJob.{ProcessJob}
use Rattle.pw_world_store.specs.declared.seat.Seat.{Seat}
use Rattle.pw_tmf.specs.Leaving.{unit_told}
use Rattle.pw_tmf.specs.Told.{Told, ToldUnit}
use Rattle.pw_tmf.specs.Units.{backed_out, stopped}

-- what is kept of the terminal
pub restarted-kept : (cause : Cause) (s : Seat) → kept_of (seat_restarted cause s) ≡ kept.restarted cause (kept_of s)
restarted-kept (Older o m) s = refl
restarted-kept (Takeover p) s = refl
restarted-kept (Server k) s = refl
restarted-kept Redo s = refl

-- a unit between two attempts is named as before, and none runs
stopped-named : (t : ℕ) (own : Option ToldUnit) → unit_told t (option_map stopped own) ≡ unit_told t own
stopped-named t None = refl
stopped-named t (Some x) = refl

stopped-rests : (own : Option ToldUnit) → is_run (option_map stopped own) ≡ false
stopped-rests None = refl
stopped-rests (Some x) = refl

pub keep-restarted : (system : System) (seats : List Seat) (disc new_disc : Told) (book : List Queue) (jobs : List (List (Option ProcessJob))) (pairs : List SeenPair)
    (t : ℕ) (own : unit.Unit) (cause : Cause) (seat new : Seat)
    → IsKeep system seats disc book jobs pairs → t < length seats → own.terminal ≡ t → seat ≡ slice_index_or seats t seat
    → new ≡ seat_restarted cause seat → new_disc ≡ backed_out false disc own
    → IsKeep system (slice_set seats t new) new_disc book jobs pairs
keep-restarted system seats disc new_disc book jobs pairs t own cause seat new old lt is at made done =
    let here : new_disc.units t ≡ option_map stopped (disc.units t) =
    ap (λ (d : Told). d.units t) done
    ∙ (upd-same disc.units own.terminal (option_map stopped (disc.units own.terminal)) t (sym is)
    ∙ ap (λ k. option_map stopped (disc.units k)) is) in
    keep-seat system seats disc new_disc book jobs pairs t new old lt
    (subst (HasVerb system) (sym made) tt)
    (ap (λ (d : Told). d.terminals) done)
    (ap (λ (d : Told). d.file_count) done)
    (λ u ne. ap (λ (d : Told). d.units u) done ∙ upd-other disc.units own.terminal (option_map stopped (disc.units own.terminal)) u (λ e. ne (e ∙ is)))
    (ap (λ (s : Seat). s.unit) made
    ∙ (ap (λ (s : Seat). s.unit) (sym (seat-is seats t seat lt at))
    ∙ (old.units t lt ∙ (sym (stopped-named t (disc.units t)) ∙ ap (unit_told t) (sym here)))))
    (ap (λ (s : Seat). is_some s.start) made ∙ (sym (stopped-rests (disc.units t)) ∙ ap is_run (sym here)))
