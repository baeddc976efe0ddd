-- What is done to the seats of some terminals, one after the other.
use Rattle.std.proofs.Common.{◌≡◌, ℕ, ◌==◌, ◌<◌, ◌||◌, ◌&&◌, Bool, true, false, List, [], ◌∷◌, Option, Some, None, cond, ◌∙◌, ⊎_elim, refl, sym, ap, subst, length}
use Rattle.std.specs.Prelude.{All, is_some, slice_set}
use Rattle.std.specs.List.{cons_option, list_any}
use Rattle.std.proofs.Math.Path.{fun_ext}
use Rattle.std.proofs.lemmas.Bool.{cases_eq, cond-true, eq-eqb, ne_eqb}
use Rattle.std.proofs.lemmas.List.{get_or-set_other, get_or-set_same, length-set}
use Rattle.std.proofs.lemmas.List.Elements.{All-head, All-tail}
use Rattle.pw_class.specs.Book.{queue_at}
use Rattle.pw_class.specs.Queue.{Queue}
use Rattle.pw_code.specs.declared.system.System.{System}
use Rattle.pw_code.specs.declared.unit.Unit as unit
use Rattle.pw_world_store.specs.Each.{changed_each}
use Rattle.pw_world_store.specs.Keeps.{HasVerb, IsKeep, is_run, job_of, jobs_at, kept_by, kept_of, no_seat, pair_at, seat_at}
use Rattle.pw_world_store.proofs.Parts.{of-parts}
use Rattle.pw_world_state.specs.Changes.{at_each}
use Rattle.pw_world_state.specs.Kept.{KeptTerminal}
use Rattle.pw_onecopy.proofs.Update.{upd_elim}
use Rattle.pw_pair.specs.Pairs.{SeenPair}
use Rattle.pw_world_store.specs.Jobs.{context_of}
use Rattle.pw_world_store.specs.Seats.{seat_unit_over}
use Rattle.pw_world_store.specs.declared.job.ProcessJob.{ProcessJob}
use Rattle.pw_world_store.specs.declared.seat.Seat.{Seat}
use Rattle.pw_tmf.specs.Leaving.{is_among, open_units, unit_told}
use Rattle.pw_tmf.specs.Told.{Told, ToldUnit}
use Rattle.pw_tmf.specs.Units.{all_backed_out, backed_out}

-- a change that is made twice is made once
abbrev pub IsOnce : {A : Type 0} → (ℕ → A → A) → Type 0
IsOnce change = (t : ℕ) (x : _) → change t (change t x) ≡ change t x

-- ---- seats

-- one more terminal that is changed
more-cond : {A : Type 0} (first rest : Bool) (changed here twice : A) → twice ≡ changed → first ≡ true
    → cond rest twice changed ≡ cond (first || rest) changed here
more-cond first true changed here twice e is = e ∙ sym (cond-true (first || true) changed here (ap (λ b. b || true) is))
more-cond first false changed here twice e is = sym (cond-true (first || false) changed here (ap (λ b. b || false) is))

-- and one that is not
other-cond : {A : Type 0} (first rest : Bool) (changed here : A) → first ≡ false → cond rest changed here ≡ cond (first || rest) changed here
other-cond first rest changed here is = ap (λ b. cond (b || rest) changed here) (sym is)

pub changed-length : (change : ℕ → Seat → Seat) (terminals : List ℕ) (seats : List Seat) → length (changed_each change terminals seats) ≡ length seats
changed-length change [] seats = refl
changed-length change (t ∷ terminals) seats =
    changed-length change terminals (slice_set seats t (change t (seat_at seats t))) ∙ length-set seats t (change t (seat_at seats t))

-- a seat is changed where its terminal is one of them
pub changed-at : (change : ℕ → Seat → Seat) → IsOnce change → (terminals : List ℕ) (seats : List Seat) (u : ℕ) → All (λ t. t < length seats) terminals
    → seat_at (changed_each change terminals seats) u ≡ cond (is_among terminals u) (change u (seat_at seats u)) (seat_at seats u)
changed-at change once [] seats u all = refl
changed-at change once (t ∷ terminals) seats u all =
    let new : Seat = change t (seat_at seats t) in
    let low : t < length seats = All-head (λ k. k < length seats) t terminals all in
    let rest : All (λ k. k < length (slice_set seats t new)) terminals = subst (λ n. All (λ k. k < n) terminals) (sym (length-set seats t new)) (All-tail (λ k. k < length seats) t terminals all) in
    changed-at change once terminals (slice_set seats t new) u rest
    ∙ ⊎_elim
    (λ is.
    let here : seat_at (slice_set seats t new) u ≡ change u (seat_at seats u) =
    ap (seat_at (slice_set seats t new)) is ∙ (get_or-set_same seats t new no_seat low ∙ ap (λ k. change k (seat_at seats k)) (sym is)) in
    ap (λ s. cond (is_among terminals u) (change u s) s) here
    ∙ more-cond (t == u) (is_among terminals u) (change u (seat_at seats u)) (seat_at seats u) (change u (change u (seat_at seats u))) (once u (seat_at seats u)) (eq-eqb t u (sym is)))
    (λ ne.
    ap (λ s. cond (is_among terminals u) (change u s) s) (get_or-set_other seats t u new no_seat ne)
    ∙ other-cond (t == u) (is_among terminals u) (change u (seat_at seats u)) (seat_at seats u) (ne_eqb t u (λ e. ne (sym e))))
    (cases_eq u t)

-- the seats of these terminals are changed so, and the others stay
pub record AreChanged (change : ℕ → Seat → Seat) (terminals : List ℕ) (seats new : List Seat) : Type 0 where
  pub size : length new ≡ length seats
  pub at : (u : ℕ) → seat_at new u ≡ cond (is_among terminals u) (change u (seat_at seats u)) (seat_at seats u)

pub changed-are : (change : ℕ → Seat → Seat) → IsOnce change → (terminals : List ℕ) (seats : List Seat) → All (λ t. t < length seats) terminals
    → AreChanged change terminals seats (changed_each change terminals seats)
changed-are change once terminals seats all = record {
  size = changed-length change terminals seats;
  at = λ u. changed-at change once terminals seats u all;
}

-- ---- what is kept of them

-- those among them are of the terminals
among-low : (n : ℕ) (terminals : List ℕ) (u : ℕ) → All (λ t. t < n) terminals → is_among terminals u ≡ true → u < n
among-low n [] u all e = absurd (cc e)
among-low n (t ∷ terminals) u all e =
    ⊎_elim
    (λ is. subst (λ k. k < n) (sym is) (All-head (λ k. k < n) t terminals all))
    (λ ne.
    among-low n terminals u (All-tail (λ k. k < n) t terminals all)
    (ap (λ b. b || is_among terminals u) (sym (ne_eqb t u (λ e. ne (sym e)))) ∙ e))
    (cases_eq u t)

kept-if : (b : Bool) (new s : Seat) (kept : KeptTerminal) → (b ≡ true → kept_of new ≡ kept) → kept_of (cond b new s) ≡ cond b kept (kept_of s)
kept-if true new s kept alike = alike refl
kept-if false new s kept alike = refl

pub kept-each : (change : ℕ → Seat → Seat) (kept_change : ℕ → KeptTerminal → KeptTerminal) (terminals : List ℕ) (seats new : List Seat) (disc : Told) (book : List Queue) (jobs : List (List (Option ProcessJob))) (pairs : List SeenPair) (births : ℕ)
    → ((u : ℕ) → u < length seats → kept_of (change u (seat_at seats u)) ≡ kept_change u (kept_of (seat_at seats u)))
    → All (λ t. t < length seats) terminals → AreChanged change terminals seats new
    → kept_by new disc book jobs pairs births ≡ at_each terminals kept_change (kept_by seats disc book jobs pairs births)
kept-each change kept_change terminals seats new disc book jobs pairs births alike all are =
    ap (λ (own : ℕ → KeptTerminal). of-parts own disc (queue_at book) (λ c i. context_of (job_of (jobs_at jobs c) i)) (pair_at pairs) births)
    (fun_ext (λ u.
    ap kept_of (are.at u)
    ∙ kept-if (is_among terminals u) (change u (seat_at seats u)) (seat_at seats u) (kept_change u (kept_of (seat_at seats u)))
    (λ yes. alike u (among-low (length seats) terminals u all yes))))

-- ---- what holds of them

verb-if : (system : System) (change : Seat → Seat) → ((s : Seat) → HasVerb system s → HasVerb system (change s)) → (b : Bool) (s : Seat)
    → HasVerb system s → HasVerb system (cond b (change s) s)
verb-if system change right true s h = right s h
verb-if system change right false s h = h

-- each part is right where the seats of some terminals are changed, and the disc has the units that they say
pub keep-each : (system : System) (change : ℕ → Seat → Seat) → ((t : ℕ) (s : Seat) → HasVerb system s → HasVerb system (change t s))
    → (terminals : List ℕ) (seats new : List Seat) (disc new_disc : Told) (book : List Queue) (jobs : List (List (Option ProcessJob))) (pairs : List SeenPair)
    → IsKeep system seats disc book jobs pairs → AreChanged change terminals seats new
    → new_disc.terminals ≡ disc.terminals → new_disc.file_count ≡ disc.file_count
    → ((u : ℕ) → u < length seats → (cond (is_among terminals u) (change u (seat_at seats u)) (seat_at seats u)).unit ≡ unit_told u (new_disc.units u))
    → ((u : ℕ) → u < length seats → is_some (cond (is_among terminals u) (change u (seat_at seats u)) (seat_at seats u)).start ≡ is_run (new_disc.units u))
    → IsKeep system new new_disc book jobs pairs
keep-each system change right terminals seats new disc new_disc book jobs pairs old are counts files units runs = record {
  valid = old.valid;
  terminals = are.size ∙ old.terminals;
  classes = old.classes;
  job_lists = old.job_lists;
  pairs_are = old.pairs_are;
  disc_terminals = counts ∙ old.disc_terminals;
  disc_files = files ∙ old.disc_files;
  units = λ u low. ap (λ (s : Seat). s.unit) (are.at u) ∙ units u (subst (λ n. u < n) are.size low);
  runs = λ u low. ap (λ (s : Seat). is_some s.start) (are.at u) ∙ runs u (subst (λ n. u < n) are.size low);
  members = old.members;
  verbs = λ u.
      subst (HasVerb system) (sym (are.at u))
      (verb-if system (change u) (right u) (is_among terminals u) (seat_at seats u) (old.verbs u));
  staffed = old.staffed;
  job_verbs = old.job_verbs;
}

-- what a change leaves stays, whether it is made or not
still-if : {A : Type 0} (read : Seat → A) (change : Seat → Seat) → ((s : Seat) → read (change s) ≡ read s) → (b : Bool) (s : Seat) → read (cond b (change s) s) ≡ read s
still-if read change same true s = same s
still-if read change same false s = refl

-- units and starts stay
pub keep-alike : (system : System) (change : ℕ → Seat → Seat) → ((t : ℕ) (s : Seat) → HasVerb system s → HasVerb system (change t s))
    → ((t : ℕ) (s : Seat) → (change t s).unit ≡ s.unit) → ((t : ℕ) (s : Seat) → (change t s).start ≡ s.start)
    → (terminals : List ℕ) (seats new : List Seat) (disc : Told) (book : List Queue) (jobs : List (List (Option ProcessJob))) (pairs : List SeenPair)
    → IsKeep system seats disc book jobs pairs → AreChanged change terminals seats new
    → IsKeep system new disc book jobs pairs
keep-alike system change right unit start terminals seats new disc book jobs pairs old are =
    keep-each system change right terminals seats new disc disc book jobs pairs old are refl refl
    (λ u low. still-if (λ (s : Seat). s.unit) (change u) (unit u) (is_among terminals u) (seat_at seats u) ∙ old.units u low)
    (λ u low. still-if (λ (s : Seat). is_some s.start) (change u) (λ s. ap is_some (start u s)) (is_among terminals u) (seat_at seats u) ∙ old.runs u low)

-- ---- units that end

-- the units of their terminals are gone
backed-units : (told : Told) (units : List unit.Unit) (u : ℕ)
    → (all_backed_out true told units).units u ≡ cond (list_any (λ (one : unit.Unit). one.terminal == u) units) None (told.units u)
backed-units told [] u = refl
backed-units told (one ∷ units) u =
    let others = list_any (λ (x : unit.Unit). x.terminal == u) units in
    backed-units (backed_out true told one) units u
    ∙ upd_elim told.units one.terminal None u (λ y. cond others None y ≡ cond ((one.terminal == u) || others) None (told.units u))
    (λ is. more-cond (one.terminal == u) others None (told.units u) None refl (eq-eqb one.terminal u (sym is)))
    (λ ne. other-cond (one.terminal == u) others None (told.units u) (ne_eqb one.terminal u (λ e. ne (sym e))))

pub backed-terminals : (told : Told) (units : List unit.Unit) → (all_backed_out true told units).terminals ≡ told.terminals
backed-terminals told [] = refl
backed-terminals told (one ∷ units) = backed-terminals (backed_out true told one) units

pub backed-files : (told : Told) (units : List unit.Unit) → (all_backed_out true told units).file_count ≡ told.file_count
backed-files told [] = refl
backed-files told (one ∷ units) = backed-files (backed_out true told one) units

-- the open units of some terminals are of the terminals that have one
no-second : (a b : Bool) → a ≡ false → (b && a) ≡ a
no-second true b e = absurd (cc e)
no-second false true e = refl
no-second false false e = refl

any-next : (t u : ℕ) (terminals : List ℕ) (own : Option ToldUnit) (rest : List unit.Unit) (units : ℕ → Option ToldUnit) → units t ≡ own
    → list_any (λ (one : unit.Unit). one.terminal == u) rest ≡ (is_among terminals u && is_some (units u))
    → list_any (λ (one : unit.Unit). one.terminal == u) (cons_option (unit_told t own) rest) ≡ (((t == u) || is_among terminals u) && is_some (units u))
any-next t u terminals None rest units is same =
    same
    ∙ ⊎_elim
    (λ e.
    let none : is_some (units u) ≡ false = ap is_some (ap units e ∙ is) in
    no-second (is_some (units u)) (is_among terminals u) none ∙ sym (no-second (is_some (units u)) ((t == u) || is_among terminals u) none))
    (λ ne. ap (λ b. (b || is_among terminals u) && is_some (units u)) (sym (ne_eqb t u (λ e. ne (sym e)))))
    (cases_eq u t)
any-next t u terminals (Some own) rest units is same =
    ap (λ b. (t == u) || b) same
    ∙ ⊎_elim
    (λ e.
    let here : (t == u) ≡ true = eq-eqb t u (sym e) in
    let some : is_some (units u) ≡ true = ap is_some (ap units e ∙ is) in
    rw (here, some) refl)
    (λ ne. let other : (t == u) ≡ false = ne_eqb t u (λ e. ne (sym e)) in rw other refl)
    (cases_eq u t)

any-open : (told : Told) (terminals : List ℕ) (u : ℕ)
    → list_any (λ (one : unit.Unit). one.terminal == u) (open_units told terminals) ≡ (is_among terminals u && is_some (told.units u))
any-open told [] u = refl
any-open told (t ∷ terminals) u = any-next t u terminals (told.units t) (open_units told terminals) told.units refl (any-open told terminals u)

-- no unit of them is open
pub left-units : (told : Told) (terminals : List ℕ) (u : ℕ)
    → (all_backed_out true told (open_units told terminals)).units u ≡ cond (is_among terminals u) None (told.units u)
left-units told terminals u =
    backed-units told (open_units told terminals) u
    ∙ (ap (λ b. cond b None (told.units u)) (any-open told terminals u) ∙ by (is_among terminals u) (told.units u))
  where
    by : (b : Bool) (own : Option ToldUnit) → cond (b && is_some own) None own ≡ cond b None own
    by true None = refl
    by true (Some x) = refl
    by false own = refl

-- the units of some terminals have ended, in their seats and in the disc
pub keep-over : (system : System) (terminals : List ℕ) (seats : List Seat) (disc new : Told) (book : List Queue) (jobs : List (List (Option ProcessJob))) (pairs : List SeenPair)
    → IsKeep system seats disc book jobs pairs → All (λ t. t < length seats) terminals → new ≡ all_backed_out true disc (open_units disc terminals)
    → IsKeep system (changed_each (λ t. seat_unit_over) terminals seats) new book jobs pairs
keep-over system terminals seats disc new book jobs pairs old all is =
    let now : (u : ℕ) → new.units u ≡ cond (is_among terminals u) None (disc.units u) =
    λ u. ap (λ (d : Told). d.units u) is ∙ left-units disc terminals u in
    keep-each system (λ t. seat_unit_over) (λ t s h. h) terminals seats (changed_each (λ t. seat_unit_over) terminals seats) disc new book jobs pairs old
    (changed-are (λ t. seat_unit_over) (λ t s. refl) terminals seats all)
    (ap (λ (d : Told). d.terminals) is ∙ backed-terminals disc (open_units disc terminals))
    (ap (λ (d : Told). d.file_count) is ∙ backed-files disc (open_units disc terminals))
    (λ u low. unit-if (is_among terminals u) u (seat_at seats u) (disc.units u) (old.units u low) ∙ ap (unit_told u) (sym (now u)))
    (λ u low. run-if (is_among terminals u) (seat_at seats u) (disc.units u) (old.runs u low) ∙ ap is_run (sym (now u)))
  where
    unit-if : (b : Bool) (u : ℕ) (s : Seat) (own : Option ToldUnit) → s.unit ≡ unit_told u own → (cond b (seat_unit_over s) s).unit ≡ unit_told u (cond b None own)
    unit-if true u s own e = refl
    unit-if false u s own e = e

    run-if : (b : Bool) (s : Seat) (own : Option ToldUnit) → is_some s.start ≡ is_run own → is_some (cond b (seat_unit_over s) s).start ≡ is_run (cond b None own)
    run-if true s own e = refl
    run-if false s own e = e
