-- What a watch tells, and the lines that are printed of it, are those of its log.
use Rattle.std.proofs.Common.{◌≡◌, ◌∙◌, ◌==◌, ℕ, ◌<◌, List, [], ◌++◌, length, get_or, Option, refl, sym, ap, append_assoc, arith}
use Rattle.std.specs.BTreeSet.{BTreeSet, btree_set_len}
use Rattle.std.proofs.lemmas.Option.{slice_get-get_or}
use Rattle.std.specs.Prelude.{count_by, slice_get, slice_index_or}
use Rattle.pw_code.specs.declared.system.ClassInfo.{ClassInfo}
use Rattle.pw_code.specs.declared.system.System.{System}
use Rattle.pw_status.specs.Counts.{busy_to, class_counts, file_counts, terminal_counts, unit_counts, waiting}
use Rattle.pw_status.specs.Shown.{numbers_of}
use Rattle.pw_status.specs.Tally.{IsTallyOf, TallyState, units_in}
use Rattle.pw_status.specs.declared.counts.ClassCounts.{ClassCounts}
use Rattle.pw_status.specs.declared.counts.FileCounts.{FileCounts}
use Rattle.pw_status.specs.declared.counts.TerminalCounts.{TerminalCounts}
use Rattle.pw_event.specs.declared.event.Ending.{Ending}
use Rattle.pw_event.specs.declared.event.Event.{Event}
use Rattle.pw_code_meaning.specs.OfSystem.{processes_by}
use Rattle.pw_pair.specs.Follows.{mode_as}
use Rattle.pw_report_text.specs.Listing.{refreshes_counted_once}
use Rattle.pw_report_text.specs.declared.numbers.ListedRefreshNumber.{ListedRefreshNumber}
use Rattle.pw_locks.specs.declared.lock.Lock.{Lock}
use Rattle.pw_world.specs.States.{WorldState, seen}
use Rattle.pw_world_model.specs.Worlds.{Books, IsWorld}
use Rattle.pw_onecopy.specs.Behaviour.{Behaviour}
use Rattle.pw_onecopy.specs.Path.{entries_on}
use Rattle.pw_pair.specs.declared.mode.Mode.{Mode}
use Rattle.pw_paired.specs.Shown.{refreshes}
use Rattle.pw_paired.specs.Step.{after}
use Rattle.pw_paired.specs.Terminal.{path_of}
use Rattle.pw_status.specs.Text.{class_line, file_line, pair_line, terminal_line}
use Rattle.pw_tmf.specs.Tmf.{TmfState, told_of}
use Rattle.pw_status.specs.Lines.{class_watch_line, file_of, pair_watch_line, terminal_of}
use Rattle.pw_status.specs.Watching.{IsWatch, WatchState, state_in, sys_in, watched}

-- ---- lines

module _ (watch : WatchState) (system : System) (same : system ≡ watch.system) where
  pub pair-told : (p : ℕ) (mode : Mode) → mode ≡ mode_as ((state_in watch).modes p) → pair_line system p mode ≡ pair_watch_line watch p
  pair-told p mode is = ap (λ (s : System). pair_line s p mode) same ∙ ap (pair_line watch.system p) is

  pub terminal-told : (t : ℕ) (ending : Option Ending) (counts : TerminalCounts) → ending ≡ ((state_in watch).terms t).ending → counts ≡ terminal_counts (sys_in watch) watch.log t
      → terminal_line system t ending counts ≡ terminal_of watch t
  terminal-told t ending counts ends is =
      ap (λ (s : System). terminal_line s t ending counts) same
      ∙ (ap (λ (e : Option Ending). terminal_line watch.system t e counts) ends ∙ ap (terminal_line watch.system t ((state_in watch).terms t).ending) is)

  pub class-told : (c : ℕ) (counts : ClassCounts) → counts ≡ class_counts (sys_in watch) watch.log c → class_line system c counts ≡ class_watch_line watch c
  class-told c counts is = ap (λ (s : System). class_line s c counts) same ∙ ap (class_line watch.system c) is

  pub file-told : (f : ℕ) (counts : FileCounts) → counts ≡ file_counts (sys_in watch) watch.log f → file_line system f counts ≡ file_of watch f
  file-told f counts is = ap (λ (s : System). file_line s f counts) same ∙ ap (file_line watch.system f) is

-- six texts, one behind the other
pub joined : (a b c d e f none one two three four five six : List ℕ) → none ≡ [] → one ≡ none ++ a → two ≡ one ++ b → three ≡ two ++ c → four ≡ three ++ d
    → five ≡ four ++ e → six ≡ five ++ f → six ≡ a ++ (b ++ (c ++ (d ++ (e ++ f))))
joined a b c d e f none one two three four five six begins first second third fourth fifth last =
    last
    ∙ (ap (λ (t : List ℕ). t ++ f) (fifth ∙ ap (λ (t : List ℕ). t ++ e) (fourth ∙ ap (λ (t : List ℕ). t ++ d) (third ∙ ap (λ (t : List ℕ). t ++ c) (second ∙ ap (λ (t : List ℕ). t ++ b) (first ∙ ap (λ (t : List ℕ). t ++ a) begins)))))
    ∙ simp append_assoc)

-- ---- counts

-- the processes of a class that is read
pub processes-read : (classes codes : List ClassInfo) (c : ℕ) (info : ClassInfo) → codes ≡ classes → info ≡ get_or codes c info → c < length classes
    → info.processes ≡ processes_by (slice_get classes c)
processes-read classes codes c info same is low =
    ap (λ (i : ClassInfo). i.processes) (is ∙ ap (λ (l : List ClassInfo). get_or l c info) same) ∙ sym (ap processes_by (slice_get-get_or classes c info low))

module _ (system : System) (sys : Behaviour) (log : List Event) (tally : TallyState) (of : IsTallyOf system sys log tally) where
  pub class-counts : (c : ℕ) (counts : ClassCounts) → c < length system.classes → counts.waiting ≡ waiting (after sys log) c → counts.busy ≡ busy_to (after sys log) c (sys.processes c)
      → counts.taken ≡ slice_index_or tally.counters.taken c 0 → counts.longest ≡ slice_index_or tally.longest c 0 → counts ≡ class_counts sys log c
  class-counts c counts low waits works takes most =
      let taken = takes ∙ of.counters.taken c (omega (arith, of.taken, low)) in
      let longest = most ∙ of.longest c (omega (arith, of.classes, low)) in
      let same : ClassCounts = class_counts sys log c in
      ap (λ (n : ℕ). record { waiting = n; busy = counts.busy; taken = counts.taken; longest = counts.longest }) waits
      ∙ (ap (λ (n : ℕ). record { waiting = same.waiting; busy = n; taken = counts.taken; longest = counts.longest }) works
      ∙ (ap (λ (n : ℕ). record { waiting = same.waiting; busy = same.busy; taken = n; longest = counts.longest }) taken
      ∙ ap (λ (n : ℕ). record { waiting = same.waiting; busy = same.busy; taken = same.taken; longest = n }) longest))

  pub units-told : units_in tally ≡ unit_counts sys log
  units-told =
      let c = of.counters in
      let a = of.attempts in
      rw (c.begun, a.committed, a.dropped, a.left, c.older, c.takeover, c.server, c.redo) refl

module _ (world : WorldState TmfState) (tally : TallyState) (numbers : List (BTreeSet ListedRefreshNumber)) (w : IsWatch world tally numbers) where
  abbrev sys : Behaviour
  sys = sys_in (watched world)

  abbrev log : List Event
  log = world.ledger.log

  pub shown-is : (t n : ℕ) → t < length world.keep.system.terminals → n ≡ btree_set_len (numbers_of numbers t) → n ≡ length (refreshes_counted_once (refreshes sys log) t)
  shown-is t n low is = is ∙ (w.shown t (omega (arith, w.count, low))).count

  pub terminal-counts : (t : ℕ) (counts : TerminalCounts) → t < length world.keep.system.terminals → counts.units ≡ ((after sys log).ended t).number
      → counts.restarts ≡ slice_index_or tally.counters.restarts t 0 → counts.entries ≡ entries_on (path_of (after sys log) t) → counts.shown ≡ btree_set_len (numbers_of numbers t)
      → counts ≡ terminal_counts sys log t
  terminal-counts t counts low units again entries shows =
      let restarts = again ∙ w.counted.counters.restarts t (omega (arith, w.counted.restarts, low)) in
      let shown = shown-is t counts.shown low shows in
      let same : TerminalCounts = terminal_counts sys log t in
      ap (λ (n : ℕ). record { units = n; restarts = counts.restarts; entries = counts.entries; shown = counts.shown }) units
      ∙ (ap (λ (n : ℕ). record { units = same.units; restarts = n; entries = counts.entries; shown = counts.shown }) restarts
      ∙ (ap (λ (n : ℕ). record { units = same.units; restarts = same.restarts; entries = n; shown = counts.shown }) entries
      ∙ ap (λ (n : ℕ). record { units = same.units; restarts = same.restarts; entries = same.entries; shown = n }) shown))

-- the records and locks of a file, as the disc tells them
pub file-counts : (world : WorldState TmfState) (books : Books) → IsWorld (seen told_of world) books → (f : ℕ) (counts : FileCounts)
    → counts.records ≡ length ((told_of world.keep.disc).files f) → counts.locks ≡ count_by (λ held. held.file == f) (told_of world.keep.disc).locks
    → counts ≡ file_counts (sys_in (watched world)) world.ledger.log f
file-counts world books is f counts so_many so_locked =
    let told = is.stands.disc in
    let same : FileCounts = file_counts (sys_in (watched world)) world.ledger.log f in
    ap (λ (n : ℕ). record { records = n; locks = counts.locks }) (so_many ∙ ap (λ (files : ℕ → List (List ℕ)). length (files f)) told.files)
    ∙ ap (λ (n : ℕ). record { records = same.records; locks = n }) (so_locked ∙ ap (count_by (λ (held : Lock). held.file == f)) told.locks)
