-- Pairs, of which one is changed.
use Rattle.std.proofs.Common.{◌≡◌, ℕ, ◌<◌, Bool, true, false, List, [], ◌∷◌, Option, map, cond, ◌∙◌, ⊎_elim, refl, sym, ap, ap₂, subst, length}
use Rattle.std.specs.Prelude.{slice_set, slice_index_or}
use Rattle.std.proofs.lemmas.Bool.{cases_eq}
use Rattle.std.proofs.lemmas.List.{get_or_default, get_or-set_other, get_or-set_same, length-set, set-get_or}
use Rattle.pw_class.specs.Book.{queue_at}
use Rattle.pw_class.specs.Queue.{Queue}
use Rattle.pw_code.specs.declared.system.System.{System}
use Rattle.pw_world_store.specs.Keeps.{IsChanged, IsKeep, KeepState, job_of, jobs_at, kept_of, no_pair, pair_at, seat_at, terminals_in}
use Rattle.pw_world_store.proofs.Parts.{of-parts}
use Rattle.pw_world_state.specs.Changes.{at_pair}
use Rattle.pw_onecopy.specs.Update.{upd}
use Rattle.pw_world_state.specs.Members.{AreOf}
use Rattle.pw_pair.specs.Called.{member_fails}
use Rattle.pw_pair.specs.Pairs.{SeenPair, backup_fails, changed_at, in_mode, primary_fails}
use Rattle.pw_pair.specs.Seats.{built, is_seat_of, without_backup, without_flight}
use Rattle.pw_pair.specs.declared.mode.Mode.{Mode}
use Rattle.pw_pair.specs.declared.mode.Mode.TheVariants.{Alone, Down, Gone, Paired, Raising}
use Rattle.pw_pair.specs.declared.seat.BackupSeat.{BackupSeat}
use Rattle.pw_world_store.specs.Jobs.{context_of}
use Rattle.pw_world_store.specs.declared.job.ProcessJob.{ProcessJob}
use Rattle.pw_world_store.specs.declared.seat.Seat.{Seat as SeatKept}
use Rattle.pw_tmf.specs.Told.{Told}
use Rattle.pw_tmf.proofs.Stored.{get-set}

-- there is a pair for each of the system
pub pair-there : {system : System} {seats : List SeatKept} {disc : Told} {book : List Queue} {jobs : List (List (Option ProcessJob))} {pairs : List SeenPair} (p : ℕ)
    → IsKeep system seats disc book jobs pairs → p < length system.tcps → p < length pairs
pair-there p keep low = subst (λ n. p < n) (sym keep.pairs_are) low

-- a pair that is read at its place
pub pair-is : (pairs : List SeenPair) (p : ℕ) (pair : SeenPair) → p < length pairs → pair ≡ slice_index_or pairs p pair → pair_at pairs p ≡ pair
pair-is pairs p pair lt is = get_or_default pairs p no_pair pair lt ∙ sym is

-- ---- the terminals of a pair

same-terminals : (change : BackupSeat → BackupSeat) → ((s : BackupSeat) → (change s).terminal ≡ s.terminal) → (seats : List BackupSeat)
    → map (λ (s : BackupSeat). s.terminal) (map change seats) ≡ map (λ (s : BackupSeat). s.terminal) seats
same-terminals change same [] = refl
same-terminals change same (seat ∷ seats) = ap₂ (λ t ts. t ∷ ts) (same seat) (same-terminals change same seats)

at-test : (change : BackupSeat → BackupSeat) → ((s : BackupSeat) → (change s).terminal ≡ s.terminal) → (b : Bool) (s : BackupSeat) → (cond b (change s) s).terminal ≡ s.terminal
at-test change same true s = same s
at-test change same false s = refl

pub terminals-at : (t : ℕ) (change : BackupSeat → BackupSeat) → ((s : BackupSeat) → (change s).terminal ≡ s.terminal) → (pair : SeenPair)
    → terminals_in (changed_at t change pair) ≡ terminals_in pair
terminals-at t change same pair =
    same-terminals (λ s. cond (is_seat_of t s) (change s) s) (λ s. at-test change same (is_seat_of t s) s) pair.seats

pub terminals-each : (mode : Mode) (change : BackupSeat → BackupSeat) → ((s : BackupSeat) → (change s).terminal ≡ s.terminal) → (pair : SeenPair)
    → terminals_in (in_mode mode change pair) ≡ terminals_in pair
terminals-each mode change same pair = same-terminals change same pair.seats

primary-terminals : (mode : Mode) (pair : SeenPair) → terminals_in (primary_fails mode pair) ≡ terminals_in pair
primary-terminals Paired pair = terminals-each Down without_flight (λ s. refl) pair
primary-terminals Raising pair = terminals-each Gone without_backup (λ s. refl) pair
primary-terminals Alone pair = terminals-each Gone without_backup (λ s. refl) pair
primary-terminals Down pair = refl
primary-terminals Gone pair = refl

backup-terminals : (mode : Mode) (pair : SeenPair) → terminals_in (backup_fails mode pair) ≡ terminals_in pair
backup-terminals Paired pair = terminals-each Alone without_backup (λ s. refl) pair
backup-terminals Raising pair = terminals-each Alone without_backup (λ s. refl) pair
backup-terminals Alone pair = refl
backup-terminals Down pair = terminals-each Gone without_backup (λ s. refl) pair
backup-terminals Gone pair = refl

pub failed-terminals : (primary : Bool) (pair : SeenPair) → terminals_in (member_fails primary pair) ≡ terminals_in pair
failed-terminals true pair = primary-terminals pair.mode pair
failed-terminals false pair = backup-terminals pair.mode pair

-- an image that may have been filed
pub filed-terminals : (b : Bool) (t : ℕ) (pair new : SeenPair) → (b ≡ true → new ≡ changed_at t built pair) → (b ≡ false → new ≡ pair) → terminals_in new ≡ terminals_in pair
filed-terminals true t pair new filed late = ap terminals_in (filed refl) ∙ terminals-at t built (λ s. refl) pair
filed-terminals false t pair new filed late = ap terminals_in (late refl)

-- each part is as before but one pair, which has the same terminals
pub keep-pair : (system : System) (seats : List SeatKept) (disc : Told) (book : List Queue) (jobs : List (List (Option ProcessJob))) (pairs : List SeenPair) (p : ℕ) (pair new : SeenPair)
    → IsKeep system seats disc book jobs pairs → p < length pairs → pair ≡ slice_index_or pairs p pair → terminals_in new ≡ terminals_in pair
    → IsKeep system seats disc book jobs (slice_set pairs p new)
keep-pair system seats disc book jobs pairs p pair new old lt is same = record {
  valid = old.valid;
  terminals = old.terminals;
  classes = old.classes;
  job_lists = old.job_lists;
  pairs_are = length-set pairs p new ∙ old.pairs_are;
  disc_terminals = old.disc_terminals;
  disc_files = old.disc_files;
  units = old.units;
  runs = old.runs;
  members = λ q low.
      ⊎_elim
      (λ e.
      subst (λ k. AreOf system k (terminals_in (pair_at (slice_set pairs p new) k))) (sym e)
      (subst (AreOf system p)
      (sym (ap terminals_in (get_or-set_same pairs p new no_pair lt) ∙ (same ∙ ap terminals_in (sym (pair-is pairs p pair lt is)))))
      (old.members p lt)))
      (λ ne.
      subst (AreOf system q) (sym (ap terminals_in (get_or-set_other pairs p q new no_pair ne)))
      (old.members q (subst (λ n. q < n) (length-set pairs p new) low)))
      (cases_eq q p);
  verbs = old.verbs;
  staffed = old.staffed;
  job_verbs = old.job_verbs;
}

-- the state with one pair changed
pub pair-step : {D : Type 0} (told : D → Told) (change : SeenPair → SeenPair) (keep : KeepState D) (p : ℕ) (pair new : SeenPair)
    → p < length keep.pairs → pair ≡ slice_index_or keep.pairs p pair → new ≡ change pair
    → IsChanged told (at_pair p change) keep (record keep { pairs = slice_set keep.pairs p new })
pair-step told change keep p pair new lt is made = record {
  system = refl;
  kept =
      ap (λ (pairs : ℕ → SeenPair). of-parts (λ t. kept_of (seat_at keep.seats t)) (told keep.disc) (queue_at keep.book) (λ c i. context_of (job_of (jobs_at keep.jobs c) i)) pairs keep.births)
      (get-set (λ (x : SeenPair). x) keep.pairs p new no_pair lt
      ∙ ap (upd (pair_at keep.pairs) p) (made ∙ ap change (sym (pair-is keep.pairs p pair lt is))));
}

-- a pair that is put back as it was
pub pair-stays : (pairs : List SeenPair) (p : ℕ) (pair new : SeenPair) → pair ≡ slice_index_or pairs p pair → new ≡ pair → slice_set pairs p new ≡ pairs
pair-stays pairs p pair new is same = ap (slice_set pairs p) (same ∙ is) ∙ set-get_or pairs p pair
