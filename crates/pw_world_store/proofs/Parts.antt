-- What is kept, where one seat is changed.
use Rattle.std.proofs.Common.{◌≡◌, ◌≢◌, ℕ, ◌<◌, List, Option, Some, None, ◌∙◌, ⊎_elim, refl, sym, ap, subst, length}
use Rattle.std.specs.Prelude.{slice_set, slice_index_or, is_some}
use Rattle.std.proofs.Math.Path.{fun_ext}
use Rattle.std.proofs.lemmas.Bool.{cases_eq}
use Rattle.std.proofs.lemmas.List.{get_or-set_same, get_or-set_other, get_or_default, length-set}
use Rattle.pw_class.specs.Book.{queue_at}
use Rattle.pw_class.specs.Queue.{Queue}
use Rattle.pw_code.specs.declared.context.Context.{Context}
use Rattle.pw_code.specs.declared.system.System.{System}
use Rattle.pw_code.specs.declared.unit.Unit.{Unit}
use Rattle.pw_world_store.specs.Keeps.{HasVerb, IsChanged, IsKeep, KeepState, is_run, job_of, jobs_at, kept_by, kept_in, kept_of, no_seat, pair_at, seat_at}
use Rattle.pw_world_store.specs.Jobs.{context_of}
use Rattle.pw_world_store.specs.Seats.{seat_unit_over, started}
use Rattle.pw_world_store.specs.declared.job.ProcessJob.{ProcessJob}
use Rattle.pw_world_store.specs.declared.seat.Seat.{Seat}
use Rattle.pw_world_state.specs.Changes.{at_terminal, attempted}
use Rattle.pw_world_state.specs.Kept.{Kept, KeptTerminal}
use Rattle.pw_onecopy.specs.Update.{upd}
use Rattle.pw_onecopy.proofs.Update.{upd-other, upd-same, upd_elim}
use Rattle.pw_pair.specs.Pairs.{SeenPair}
use Rattle.pw_tmf.specs.Leaving.{unit_told}
use Rattle.pw_tmf.specs.Told.{Told, ToldUnit}
use Rattle.pw_tmf.specs.Units.{begun, ended, opened}
use Rattle.pw_tmf.proofs.Stored.{get-set}

-- a seat that is read at its place
pub seat-is : (seats : List Seat) (t : ℕ) (seat : Seat) → t < length seats → seat ≡ slice_index_or seats t seat → seat_at seats t ≡ seat
seat-is seats t seat lt is = get_or_default seats t no_seat seat lt ∙ sym is

-- what is kept, by its parts
abbrev pub of-parts : (ℕ → KeptTerminal) → Told → (ℕ → Queue) → (ℕ → ℕ → Option Context) → (ℕ → SeenPair) → ℕ → Kept
of-parts terminals disc queues jobs pairs births =
    record { terminals = terminals; disc = disc; queues = queues; jobs = jobs; pairs = pairs; births = births }

-- one seat is put, and what is kept of its terminal is changed so
pub seat-put : (kept_change : KeptTerminal → KeptTerminal)
    → (seats : List Seat) (disc : Told) (book : List Queue) (jobs : List (List (Option ProcessJob))) (pairs : List SeenPair) (births t : ℕ) (new : Seat)
    → t < length seats → kept_of new ≡ kept_change (kept_of (seat_at seats t))
    → kept_by (slice_set seats t new) disc book jobs pairs births ≡ at_terminal t kept_change (kept_by seats disc book jobs pairs births)
seat-put kept_change seats disc book jobs pairs births t new lt here =
    ap (λ (terminals : ℕ → KeptTerminal). of-parts terminals disc (queue_at book) (λ c i. context_of (job_of (jobs_at jobs c) i)) (pair_at pairs) births)
    (get-set kept_of seats t new no_seat lt ∙ ap (upd (λ u. kept_of (seat_at seats u)) t) here)

-- a seat is changed, and so is what is kept of its terminal
pub alike-at : (change : Seat → Seat) (kept_change : KeptTerminal → KeptTerminal) → ((s : Seat) → kept_of (change s) ≡ kept_change (kept_of s))
    → (seats : List Seat) (t : ℕ) (seat new : Seat) → t < length seats → seat ≡ slice_index_or seats t seat → new ≡ change seat
    → kept_of new ≡ kept_change (kept_of (seat_at seats t))
alike-at change kept_change alike seats t seat new lt is made =
    ap kept_of made ∙ (alike seat ∙ ap (λ s. kept_change (kept_of s)) (sym (seat-is seats t seat lt is)))

-- the state with one seat put
pub seat-step : {D : Type 0} (told : D → Told) (kept_change : KeptTerminal → KeptTerminal) (keep : KeepState D) (t : ℕ) (new : Seat)
    → t < length keep.seats → kept_of new ≡ kept_change (kept_of (seat_at keep.seats t))
    → IsChanged told (at_terminal t kept_change) keep (record keep { seats = slice_set keep.seats t new })
seat-step told kept_change keep t new lt here = record {
  system = refl;
  kept = seat-put kept_change keep.seats (told keep.disc) keep.book keep.jobs keep.pairs keep.births t new lt here;
}

-- the state with one seat put, behind a call of the disc
pub unit-step : {D : Type 0} (told : D → Told) (kept_change : KeptTerminal → KeptTerminal) (disc_change : Kept → Told) (births_change : Kept → ℕ)
    (keep : KeepState D) (disc : D) (births t : ℕ) (new : Seat)
    → t < length keep.seats → kept_of new ≡ kept_change (kept_of (seat_at keep.seats t))
    → told disc ≡ disc_change (kept_in told keep) → births ≡ births_change (kept_in told keep)
    → IsChanged told (λ kept. record (at_terminal t kept_change kept) { disc = disc_change kept; births = births_change kept }) keep
    (record keep { seats = slice_set keep.seats t new; disc = disc; births = births })
unit-step told kept_change disc_change births_change keep disc births t new lt here is counted = record {
  system = refl;
  kept =
      ap (λ (k : Kept). record k { disc = told disc; births = births })
      (seat-put kept_change keep.seats (told keep.disc) keep.book keep.jobs keep.pairs keep.births t new lt here)
      ∙ (ap (λ (d : Told). record (at_terminal t kept_change (kept_in told keep)) { disc = d; births = births }) is
      ∙ ap (λ (n : ℕ). record (at_terminal t kept_change (kept_in told keep)) { disc = disc_change (kept_in told keep); births = n }) counted);
}

-- what holds of a seat at a place, of those with one changed
pub at-seat : (P : ℕ → Seat → Type 0) (seats : List Seat) (t : ℕ) (new : Seat) → t < length seats
    → ((u : ℕ) → u ≢ t → P u (seat_at seats u)) → P t new → (u : ℕ) → P u (seat_at (slice_set seats t new) u)
at-seat P seats t new lt others own u =
    ⊎_elim
    (λ is. subst (λ k. P k (seat_at (slice_set seats t new) k)) (sym is) (subst (P t) (sym (get_or-set_same seats t new no_seat lt)) own))
    (λ ne. subst (P u) (sym (get_or-set_other seats t u new no_seat ne)) (others u ne))
    (cases_eq u t)

-- each part is as before but one seat, which has the open unit that the disc tells and its right verb
pub keep-seat : (system : System) (seats : List Seat) (disc new_disc : Told) (book : List Queue) (jobs : List (List (Option ProcessJob))) (pairs : List SeenPair)
    (t : ℕ) (new : Seat)
    → IsKeep system seats disc book jobs pairs → t < length seats → HasVerb system new
    → new_disc.terminals ≡ disc.terminals → new_disc.file_count ≡ disc.file_count
    → ((u : ℕ) → u ≢ t → new_disc.units u ≡ disc.units u) → new.unit ≡ unit_told t (new_disc.units t)
    → is_some new.start ≡ is_run (new_disc.units t)
    → IsKeep system (slice_set seats t new) new_disc book jobs pairs
keep-seat system seats disc new_disc book jobs pairs t new old lt verb terminals files others own runs = record {
  valid = old.valid;
  terminals = length-set seats t new ∙ old.terminals;
  classes = old.classes;
  job_lists = old.job_lists;
  pairs_are = old.pairs_are;
  disc_terminals = terminals ∙ old.disc_terminals;
  disc_files = files ∙ old.disc_files;
  units = λ u low. at-seat (λ k s. k < length seats → s.unit ≡ unit_told k (new_disc.units k)) seats t new lt
      (λ k ne within. old.units k within ∙ ap (unit_told k) (sym (others k ne)))
      (λ _. own) u (subst (λ n. u < n) (length-set seats t new) low);
  runs = λ u low. at-seat (λ k s. k < length seats → is_some s.start ≡ is_run (new_disc.units k)) seats t new lt
      (λ k ne within. old.runs k within ∙ ap is_run (sym (others k ne)))
      (λ _. runs) u (subst (λ n. u < n) (length-set seats t new) low);
  members = old.members;
  verbs = at-seat (λ k s. HasVerb system s) seats t new lt (λ k ne. old.verbs k) verb;
  staffed = old.staffed;
  job_verbs = old.job_verbs;
}

-- there is a seat for each terminal of the system
pub seat-there : {system : System} {seats : List Seat} {disc : Told} {book : List Queue} {jobs : List (List (Option ProcessJob))} {pairs : List SeenPair} (t : ℕ)
    → IsKeep system seats disc book jobs pairs → t < length system.terminals → t < length seats
seat-there t keep low = subst (λ n. t < n) (sym keep.terminals) low

-- a seat is changed, but not its unit and its start
pub keep-own : (system : System) (seats : List Seat) (disc : Told) (book : List Queue) (jobs : List (List (Option ProcessJob))) (pairs : List SeenPair)
    (t : ℕ) (seat new : Seat)
    → IsKeep system seats disc book jobs pairs → t < length seats → seat ≡ slice_index_or seats t seat → HasVerb system new
    → new.unit ≡ seat.unit → new.start ≡ seat.start
    → IsKeep system (slice_set seats t new) disc book jobs pairs
keep-own system seats disc book jobs pairs t seat new old lt is verb unit start =
    let here = seat-is seats t seat lt is in
    keep-seat system seats disc disc book jobs pairs t new old lt verb refl refl (λ u ne. refl)
    (unit ∙ (ap (λ (s : Seat). s.unit) (sym here) ∙ old.units t lt))
    (ap is_some start ∙ (ap (λ (s : Seat). is_some s.start) (sym here) ∙ old.runs t lt))

-- ---- units

-- another terminal's unit stays where one ends
ended-other : (disc : Told) (unit : Unit) (reply : Option (List ℕ)) (t u : ℕ) → unit.terminal ≡ t → u ≢ t → (ended disc unit reply).units u ≡ disc.units u
ended-other disc unit reply t u is ne = upd-other disc.units unit.terminal None u (λ e. ne (e ∙ is))

-- its own is open no more
ended-own : (disc : Told) (unit : Unit) (reply : Option (List ℕ)) (t : ℕ) → unit.terminal ≡ t → (ended disc unit reply).units t ≡ None
ended-own disc unit reply t is = upd-same disc.units unit.terminal None t (sym is)

-- each part is right where the unit of a terminal has ended
pub keep-ended : (system : System) (seats : List Seat) (disc undone new_disc : Told) (book : List Queue) (jobs : List (List (Option ProcessJob))) (pairs : List SeenPair)
    (t : ℕ) (unit : Unit) (reply : Option (List ℕ)) (commits : ℕ) (seat new : Seat)
    → IsKeep system seats disc book jobs pairs → t < length seats → unit.terminal ≡ t → seat ≡ slice_index_or seats t seat → new ≡ seat_unit_over seat
    → undone.terminals ≡ disc.terminals → undone.file_count ≡ disc.file_count → undone.units ≡ disc.units
    → new_disc ≡ record (ended undone unit reply) { commits = commits }
    → IsKeep system (slice_set seats t new) new_disc book jobs pairs
keep-ended system seats disc undone new_disc book jobs pairs t unit reply commits seat new old lt own at made terminals files units is =
    keep-seat system seats disc new_disc book jobs pairs t new old lt
    (subst (HasVerb system) (sym made) (subst (HasVerb system) (seat-is seats t seat lt at) (old.verbs t)))
    (ap (λ (d : Told). d.terminals) is ∙ terminals)
    (ap (λ (d : Told). d.file_count) is ∙ files)
    (λ u ne. ap (λ (d : Told). d.units u) is ∙ (ended-other undone unit reply t u own ne ∙ ap (λ (f : ℕ → Option ToldUnit). f u) units))
    (ap (λ (s : Seat). s.unit) made ∙ sym (ap (unit_told t) (ap (λ (d : Told). d.units t) is ∙ ended-own undone unit reply t own)))
    (ap (λ (s : Seat). is_some s.start) made ∙ sym (ap is_run (ap (λ (d : Told). d.units t) is ∙ ended-own undone unit reply t own)))

-- a unit, as one of this terminal
abbrev named : ℕ → Unit → Unit
named k unit = record { terminal = k; number = unit.number; birth = unit.birth }

-- and where one begins
pub keep-begun : (system : System) (seats : List Seat) (disc new_disc : Told) (book : List Queue) (jobs : List (List (Option ProcessJob))) (pairs : List SeenPair)
    (t : ℕ) (unit : Unit) (start : Context) (seat new : Seat)
    → IsKeep system seats disc book jobs pairs → t < length seats → unit.terminal ≡ t → seat ≡ slice_index_or seats t seat
    → new ≡ started unit start seat → new_disc ≡ begun disc unit
    → IsKeep system (slice_set seats t new) new_disc book jobs pairs
keep-begun system seats disc new_disc book jobs pairs t unit start seat new old lt own at made is =
    keep-seat system seats disc new_disc book jobs pairs t new old lt
    (subst (HasVerb system) (sym made) (subst (HasVerb system) (seat-is seats t seat lt at) (old.verbs t)))
    (ap (λ (d : Told). d.terminals) is)
    (ap (λ (d : Told). d.file_count) is)
    (λ u ne. ap (λ (d : Told). d.units u) is ∙ upd-other disc.units unit.terminal (Some (opened unit)) u (λ e. ne (e ∙ own)))
    (ap (λ (s : Seat). s.unit) made
    ∙ (ap (λ (k : ℕ). Some (named k unit)) own
    ∙ sym (ap (unit_told t) (ap (λ (d : Told). d.units t) is ∙ upd-same disc.units unit.terminal (Some (opened unit)) t (sym own)))))
    (ap (λ (s : Seat). is_some s.start) made
    ∙ sym (ap is_run (ap (λ (d : Told). d.units t) is ∙ upd-same disc.units unit.terminal (Some (opened unit)) t (sym own))))

-- a seat whose attempt starts at its context
pub started-at : (seats : List Seat) (t : ℕ) (unit : Unit) (start : Context) (seat new : Seat) → t < length seats → seat ≡ slice_index_or seats t seat
    → new ≡ started unit start seat → (kept_of (seat_at seats t)).context ≡ Some start
    → kept_of new ≡ attempted (kept_of (seat_at seats t))
started-at seats t unit start seat new lt is made here =
    ap kept_of made
    ∙ (ap (λ s. kept_of (started unit start s)) (sym (seat-is seats t seat lt is))
    ∙ ap (λ (o : Option Context). record (kept_of (seat_at seats t)) { start = o }) (sym here))

-- ---- two changes

-- of two changes at one place the last stays
pub upd-twice : {A : Type 0} (f : ℕ → A) (k : ℕ) (a b : A) → upd (upd f k a) k b ≡ upd f k b
upd-twice f k a b = fun_ext (λ j.
    upd_elim (upd f k a) k b j (λ y. y ≡ upd f k b j)
    (λ is. sym (upd-same f k b j is))
    (λ ne. upd-other f k a j ne ∙ sym (upd-other f k b j ne)))
