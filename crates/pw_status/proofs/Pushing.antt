-- A watch behind one more entry, and behind one that is refused.
use Rattle.std.proofs.Common.{◌≡◌, ◌∙◌, ℕ, ◌<◌, ◌≤◌, Bool, true, false, List, [], ◌∷◌, ◌++◌, length, not, Option, Some, None, refl, sym, ap, subst, arith}
use Rattle.std.proofs.lemmas.List.{append-nil, length-set}
use Rattle.std.proofs.lemmas.Option.{slice_get-get_or}
use Rattle.std.specs.BTreeSet.{BTreeSet}
use Rattle.std.specs.Option.{IfSome}
use Rattle.pw_base.proofs.Plain.{and-swap}
use Rattle.pw_code.specs.Limits.{most_log_lines}
use Rattle.pw_code.specs.declared.system.System.{System}
use Rattle.pw_code.specs.declared.system.TermInfo.{TermInfo}
use Rattle.pw_status.proofs.Known.{job-here}
use Rattle.pw_status.proofs.Numbering.{forgotten, noted, same-shown, seen-again}
use Rattle.pw_status.proofs.Tallying.{next-tally}
use Rattle.pw_status.specs.Counts.{waiting}
use Rattle.pw_status.specs.Longest.{sent_to}
use Rattle.pw_status.specs.Over.{ends_at}
use Rattle.pw_status.specs.Shown.{AreShownOf, IsSameAs, numbers_of}
use Rattle.pw_status.specs.Tally.{EntryMeets, IsNotedIn, IsTallyOf, TallyState}
use Rattle.pw_status.specs.declared.tally.Met.{Met}
use Rattle.pw_event.specs.Line.{no_terminal}
use Rattle.pw_event.specs.declared.event.Event.{Event}
use Rattle.pw_event.specs.declared.event.Event.TheVariants as event
use Rattle.pw_event.specs.declared.script.FailLine.{FailLine}
use Rattle.pw_code_meaning.specs.OfSystem.{behaviour, number_by}
use Rattle.pw_world_state.specs.May.{IsThere}
use Rattle.pw_report_text.specs.declared.numbers.ListedRefreshNumber.{ListedRefreshNumber}
use Rattle.pw_world.specs.Ledgers.{books_of}
use Rattle.pw_world.specs.States.{WorldState, seen}
use Rattle.pw_world_model.proofs.Books.{screens-more}
use Rattle.pw_world_model.proofs.Steps.{there}
use Rattle.pw_world_model.specs.Answers.{IsSameWorld, LeavesEntered}
use Rattle.pw_world_model.specs.Seen.{Seen, state_of, sys_of}
use Rattle.pw_world_model.specs.Worlds.{Books, IsWorld}
use Rattle.pw_world_model.specs.declared.answers.Entered.TheVariants as enter
use Rattle.pw_read_back.proofs.NamedLines.{named}
use Rattle.pw_onecopy.specs.Behaviour.{Behaviour}
use Rattle.pw_onecopy.specs.Refreshes.{refresh_numbered}
use Rattle.pw_onecopy.specs.declared.refresh.Refresh.{Refresh}
use Rattle.pw_serial_order.specs.Shadow.{IsOfSystem}
use Rattle.pw_paired.specs.Serial.{is_gone}
use Rattle.pw_paired.specs.Shown.{refresh_of, refreshes}
use Rattle.pw_paired.specs.State.{State, starting}
use Rattle.pw_paired.specs.Step.{Legal, after, effect}
use Rattle.pw_laws.proofs.induction.Runs.{after-more, kept}
use Rattle.pw_tmf.specs.Tmf.{TmfState, told_of}
use Rattle.pw_status.specs.Meeting.{ends_then, may_end, replied_terminal, waits_then}
use Rattle.pw_status.specs.Noting.{Forgets, HasKeptNumbers, Notes, shown_in}
use Rattle.pw_status.specs.Watching.{IsWatch, WatchState, sys_in, watched}

-- a system is that of its behaviour
pub is-of : (system : System) (script : List FailLine) → IsOfSystem system (behaviour script system)
is-of system script = record {
  terminals = refl;
  pairs = refl;
  pair_of = λ t low. ap (λ (at : Option TermInfo). number_by (λ (info : TermInfo). info.tcp) at) (sym (slice_get-get_or system.terminals t no_terminal low));
}

-- ---- refresh numbers

-- the terminal of a SHOW is one of those whose numbers are kept
pub shown-kept : (system : System) (entry : Event) (sets : List (BTreeSet ListedRefreshNumber)) → length sets ≡ length system.terminals → IsThere system entry → HasKeptNumbers (shown_in entry) sets
shown-kept system (event.Show t phase attempt k) sets count low = subst (λ (n : ℕ). t < n) (sym count) low
shown-kept system entry sets count there = tt

-- so many sets still
noted-count : (shown : Option (ℕ × ListedRefreshNumber)) (fresh : Bool) (old new : List (BTreeSet ListedRefreshNumber)) → Notes shown fresh old new → length new ≡ length old
noted-count None fresh old new is = ap length is.1
noted-count (Some shown) fresh old new is = ap length is.sets ∙ length-set old shown.0 (numbers_of new shown.0)

-- those of the refreshes with that of the entry
pub shown-more : (sys : Behaviour) (s : State) (refreshes : List Refresh) (entry : Event) (fresh : Bool) (old new : List (BTreeSet ListedRefreshNumber)) → HasKeptNumbers (shown_in entry) old
    → Notes (shown_in entry) fresh old new → AreShownOf refreshes old → AreShownOf (refreshes ++ refresh_of sys s entry) new
shown-more sys s refreshes (event.Show t phase attempt k) fresh old new low is shown =
    noted refreshes (refresh_numbered t (record { phase = phase; attempt = attempt; k = k }) (sys.image t ((s.terms t).path))) t fresh old new low refl is shown
shown-more sys s refreshes entry fresh old new low is shown =
    subst (λ (l : List Refresh). AreShownOf l new) (sym (append-nil refreshes)) (subst (AreShownOf refreshes) (sym is.1) shown)

-- those of the same refreshes, once what was new is forgotten
undone : (refreshes : List Refresh) (shown : Option (ℕ × ListedRefreshNumber)) (fresh : Bool) (old mid new : List (BTreeSet ListedRefreshNumber)) → HasKeptNumbers shown old → Notes shown fresh old mid
    → Forgets shown fresh mid new → AreShownOf refreshes old → AreShownOf refreshes new × (length new ≡ length old)
undone refreshes None fresh old mid new low is gone shown = (subst (AreShownOf refreshes) (sym (gone ∙ is.1)) shown, ap length (gone ∙ is.1))
undone refreshes (Some own) true old mid new low is gone shown =
    let r : Refresh = record { terminal = own.0; phase = own.1.phase; attempt = own.1.attempt; k = own.1.k; image = [] } in
    let back = gone.new_one refl in (
      forgotten refreshes r own.0 old mid new low is back shown,
      ap length back.sets ∙ (length-set mid own.0 (numbers_of new own.0) ∙ noted-count (Some own) true old mid is),
    )
undone refreshes (Some own) false old mid new low is gone shown =
    let r : Refresh = record { terminal = own.0; phase = own.1.phase; attempt = own.1.attempt; k = own.1.k; image = [] } in
    let same = gone.seen refl in (
      subst (AreShownOf refreshes) (sym same) (seen-again refreshes r own.0 old mid low is shown),
      ap length same ∙ noted-count (Some own) false old mid is,
    )

-- ---- what an entry meets

ends-are : (sys : Behaviour) (s : State) (entry : Event) → ends_then (effect sys s entry) entry (may_end s entry) ≡ ends_at sys s entry
ends-are sys s (event.FailTcp p primary k) =
    and-swap (not (is_gone (s.modes p))) (is_gone ((effect sys s (event.FailTcp p primary k)).modes p))
ends-are sys s entry = refl

waits-are : (s : State) (entry : Event) (c : ℕ) → sent_to entry ≡ Some c → waits_then s entry ≡ waiting s c
waits-are s (event.Send t n own) c is = let same : own ≡ c = cc in ap (waiting s) same
waits-are s entry c is = absurd (cc is)

module _ (sys : Behaviour) (log : List Event) (entry : Event) where
  abbrev state : State
  state = after sys log

  abbrev next : State
  next = after sys (log ++ entry ∷ [])

  -- of what the world tells
  pub meets : (before met : Met) → before.ends ≡ may_end state entry
      → met ≡ record before { ends = ends_then next entry before.ends; waiting = waits_then next entry } → EntryMeets sys log entry met
  meets before met ends is = record {
    ends = ap (λ (m : Met). m.ends) is ∙ (ap (ends_then next entry) ends ∙ (ap (λ (s : State). ends_then s entry (may_end state entry)) (after-more sys log entry) ∙ ends-are sys state entry));
    waiting = λ c sent. ap (λ (m : Met). m.waiting) is ∙ waits-are next entry c sent;
  }

-- a REPLY is of a terminal that is there
pub replied-there : (world : Seen) (books : Books) → IsWorld world books → (entry : Event) → Legal (sys_of world) (state_of world) entry
    → IfSome (replied_terminal entry) (λ t. t < length world.system.terminals)
replied-there world books w (event.Reply c i t fault) legal =
    subst (λ (own : ℕ). own < length world.system.terminals) legal.fits.whose
    (job-here (sys_of world) (state_of world) (kept (sys_of world) w.deck world.log w.run) c i legal.fits.job legal.fits.at_work)
replied-there world books w entry legal = tt

-- a SEND is to a class that is there
pub sent-there : (world : Seen) (books : Books) → IsWorld world books → (entry : Event) → Legal (sys_of world) (state_of world) entry
    → IfSome (sent_to entry) (λ c. c < length world.system.classes)
sent-there world books w (event.Send t n c) legal =
    (named world.system world.script w.deck w.lines world.log w.run (event.Send t n c) legal).there.1.1.1.0
sent-there world books w entry legal = tt

-- ---- a watch

-- over a world of the same system, failure lines and log
module _ (old new : WorldState TmfState) (same : watched new ≡ watched old) (limit : new.limit ≡ old.limit) (failed : new.failed ≡ old.failed) where
  watch-same : (tally : TallyState) (numbers : List (BTreeSet ListedRefreshNumber)) → IsWatch old tally numbers → IsWatch new tally numbers
  watch-same tally numbers w = record {
    limit = limit ∙ w.limit;
    sound = failed ∙ w.sound;
    counted = subst (λ (v : WatchState). IsTallyOf v.system (sys_in v) v.log tally) (sym same) w.counted;
    count = w.count ∙ sym (ap (λ (v : WatchState). length v.system.terminals) same);
    shown = subst (λ (v : WatchState). AreShownOf (refreshes (sys_in v) v.log) numbers) (sym same) w.shown;
  }

-- with the same numbers
pub watch-numbers : (world : WorldState TmfState) (tally : TallyState) (old new : List (BTreeSet ListedRefreshNumber)) → IsSameAs old new → IsWatch world tally old → IsWatch world tally new
watch-numbers world tally old new same w = record {
  limit = w.limit;
  sound = w.sound;
  counted = w.counted;
  count = same.count ∙ w.count;
  shown = same-shown (refreshes (sys_in (watched world)) world.ledger.log) old new same w.shown;
}

-- what `enter` leaves of the world where it answers want of memory or that an entry is no step
abbrev Stays : WorldState TmfState → WorldState TmfState → Type 0
Stays old new = IsSameWorld (seen told_of old) (seen told_of new) × ((new.ledger.log ≡ old.ledger.log) × (new.failed ≡ old.failed))

seen-same : (old new : WorldState TmfState) → IsSameWorld (seen told_of old) (seen told_of new) → (log : List Event) → new.ledger.log ≡ log
    → watched new ≡ record (watched old) { log = log }
seen-same old new same log is =
    ap (λ (system : System). record { system = system; script = new.script; log = new.ledger.log }) same.system
    ∙ (ap (λ (script : List FailLine). record { system = old.keep.system; script = script; log = new.ledger.log }) same.script
    ∙ ap (λ (l : List Event). record { system = old.keep.system; script = old.script; log = l }) is)

module _ (old new : WorldState TmfState) (stays : Stays old new) where
  pub stays-seen : watched new ≡ watched old
  stays-seen = seen-same old new stays.0 old.ledger.log stays.1.0

  -- an entry is refused
  pub watch-refused : (tally : TallyState) (first mid last : List (BTreeSet ListedRefreshNumber)) (shown : Option (ℕ × ListedRefreshNumber)) (fresh : Bool)
      → IsWatch old tally first → HasKeptNumbers shown first → Notes shown fresh first mid → Forgets shown fresh mid last → IsWatch new tally last
  watch-refused tally first mid last shown fresh w low is gone =
      let back = undone (refreshes (sys_in (watched old)) old.ledger.log) shown fresh first mid last low is gone w.shown in
      watch-same old new stays-seen stays.0.limit stays.1.1 tally last
      (record {
        limit = w.limit;
        sound = w.sound;
        counted = w.counted;
        count = back.1 ∙ w.count;
        shown = back.0;
      })

-- an entry was entered
module _ (old new : WorldState TmfState) (entry : Event) (world : IsWorld (seen told_of old) (books_of old.ledger)) (leaves : LeavesEntered (seen told_of old) entry enter.Done (seen told_of new))
    (legal : Legal (sys_in (watched old)) (after (sys_in (watched old)) old.ledger.log) entry) where
  pub pushed-seen : watched new ≡ record (watched old) { log = old.ledger.log ++ entry ∷ [] }
  pushed-seen = seen-same old new leaves.0 (old.ledger.log ++ entry ∷ []) leaves.1.0

  few : length old.keep.system.terminals ≤ 128
  few = world.valid.few.terminals

  pub watch-more : (tally behind : TallyState) (first mid : List (BTreeSet ListedRefreshNumber)) (fresh : Bool) (before met : Met) → length old.ledger.log < most_log_lines
      → IsWatch old tally first → HasKeptNumbers (shown_in entry) first → Notes (shown_in entry) fresh first mid
      → before.ends ≡ may_end (state_of (seen told_of old)) entry
      → met ≡ record before { ends = ends_then (state_of (seen told_of new)) entry before.ends; waiting = waits_then (state_of (seen told_of new)) entry }
      → IsNotedIn entry met tally behind → IsWatch new behind mid
  watch-more tally behind first mid fresh before met short w low is from_ends met_is noted_in =
      let sys : Behaviour = sys_in (watched old) in
      let log = old.ledger.log in
      let later : List Event = log ++ entry ∷ [] in
      let state-is : state_of (seen told_of new) ≡ after sys later = ap (λ (v : WatchState). after (sys_in v) v.log) pushed-seen in
      let met-so : met ≡ record before { ends = ends_then (after sys later) entry before.ends; waiting = waits_then (after sys later) entry } =
      met_is ∙ ap (λ (s : State). record before { ends = ends_then s entry before.ends; waiting = waits_then s entry }) state-is in
      let counted : IsTallyOf old.keep.system sys later behind =
      next-tally old.keep.system sys world.deck few log world.run short entry met (meets sys log entry before met from_ends met-so) tally behind w.counted
      noted_in in
      let shows : AreShownOf (refreshes sys later) mid =
      subst (λ (l : List Refresh). AreShownOf l mid) (sym (screens-more sys (starting sys) log entry))
      (shown-more sys (after sys log) (refreshes sys log) entry fresh first mid low is w.shown) in
      record {
        limit = leaves.0.limit ∙ w.limit;
        sound = leaves.1.1 ∙ w.sound;
        counted = subst (λ (v : WatchState). IsTallyOf v.system (sys_in v) v.log behind) (sym pushed-seen) counted;
        count = noted-count (shown_in entry) fresh first mid is ∙ (w.count ∙ sym (ap (λ (v : WatchState). length v.system.terminals) pushed-seen));
        shown = subst (λ (v : WatchState). AreShownOf (refreshes (sys_in v) v.log) mid) (sym pushed-seen) shows;
      }

-- the disc never fails
pub never-fails : (old new : WorldState TmfState) (entry : Event) → LeavesEntered (seen told_of old) entry enter.DiscFault (seen told_of new) → ⊥
never-fails old new entry leaves = let rose = leaves.1.1.1 in omega (arith, rose)
