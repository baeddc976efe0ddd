-- In every run the test of an entry tells which steps show at verbs, whatever servers have been read.
use Rattle.std.proofs.Common.{◌≡◌, ℕ, ◌<◌, List, Bool, true, false, length, Decides, refl, sym, ◌∙◌}
use Rattle.pw_code.specs.Valid.{IsValid}
use Rattle.pw_code.specs.declared.system.System.{System}
use Rattle.pw_event.specs.declared.event.Ending.TheVariants.{Fault, Lost, NoEntries, Stopped, Suspended}
use Rattle.pw_event.specs.declared.event.Event.{Event}
use Rattle.pw_event.specs.declared.event.Event.TheVariants.{Show, Key, CheckStart, CheckEnd, CheckCopy, Applied, Begin, Send, Take, File, Reply, Again, Commit, Back, Restart, FailTcp, FailServer, Takeover, Raise, End}
use Rattle.pw_event.specs.declared.script.FailLine.{FailLine}
use Rattle.pw_code_meaning.specs.OfSystem.{behaviour}
use Rattle.pw_world_state.specs.Kept.{Kept}
use Rattle.pw_world_state.specs.May.{IsThere, may}
use Rattle.pw_world_state.specs.Meeting.{IsStepRead, StepShows}
use Rattle.pw_world_state.specs.Read.{AreValued, IsEntryRead}
use Rattle.pw_world_state.specs.Stands.{Stands}
use Rattle.pw_world_state.proofs.Legally.{legal-may, may-legal}
use Rattle.pw_world_state.proofs.Meeting.{restart-shows, suspend-shows}
use Rattle.pw_onecopy.specs.Behaviour.{Behaviour}
use Rattle.pw_onecopy.specs.IsBehaviour.{IsBehaviour}
use Rattle.pw_paired.specs.State.{State}
use Rattle.pw_paired.specs.Step.{IsRun, Legal, after, is_finished, line_due, line_wanted}

module _ (system : System) (script : List FailLine) (log : List Event) (kept : Kept) (valid : IsValid system) (b : IsBehaviour (behaviour script system)) (run : IsRun (behaviour script system) log)
    (stands : Stands system script (after (behaviour script system) log) kept) where
  abbrev sys : Behaviour
  sys = behaviour script system

  abbrev state : State
  state = after sys log

  plain-shows : (entry : Event) → IsThere system entry → IsEntryRead system kept entry → AreValued system kept entry
      → is_finished sys state ≡ false → line_due sys state entry ≡ line_wanted entry → may system script kept entry ≡ true → Legal sys state entry
  plain-shows entry = may-legal system script log kept entry valid b run stands

  plain-may : (entry : Event) → IsThere system entry → IsEntryRead system kept entry → AreValued system kept entry → Legal sys state entry → may system script kept entry ≡ true
  plain-may entry = legal-may system script log kept entry valid b run stands

  pub may-shows : (entry : Event) → IsThere system entry → IsStepRead system kept entry → AreValued system kept entry
      → is_finished sys state ≡ false → line_due sys state entry ≡ line_wanted entry → may system script kept entry ≡ true → Legal sys state entry × StepShows sys state kept entry
  may-shows (Restart t n cause) low read fit unfinished due passes =
      let found = (restart-shows system script valid b log run kept stands t low n cause read).0 passes in
      (record { unfinished = unfinished; due = due; fits = found.0 }, found.1)
  may-shows (End t (Suspended cause)) low read fit unfinished due passes =
      let found = (suspend-shows system script valid b log run kept stands t low cause read).0 passes in
      (record { unfinished = unfinished; due = due; fits = found.0 }, found.1)
  may-shows (Show t phase attempt k) there read fit unfinished due passes = (plain-shows (Show t phase attempt k) there read fit unfinished due passes, tt)
  may-shows (Key t k) there read fit unfinished due passes = (plain-shows (Key t k) there read fit unfinished due passes, tt)
  may-shows (CheckStart t) there read fit unfinished due passes = (plain-shows (CheckStart t) there read fit unfinished due passes, tt)
  may-shows (CheckEnd t) there read fit unfinished due passes = (plain-shows (CheckEnd t) there read fit unfinished due passes, tt)
  may-shows (CheckCopy t) there read fit unfinished due passes = (plain-shows (CheckCopy t) there read fit unfinished due passes, tt)
  may-shows (Applied t) there read fit unfinished due passes = (plain-shows (Applied t) there read fit unfinished due passes, tt)
  may-shows (Begin t n r) there read fit unfinished due passes = (plain-shows (Begin t n r) there read fit unfinished due passes, tt)
  may-shows (Send t n c) there read fit unfinished due passes = (plain-shows (Send t n c) there read fit unfinished due passes, tt)
  may-shows (Take c i t) there read fit unfinished due passes = (plain-shows (Take c i t) there read fit unfinished due passes, tt)
  may-shows (File c i op mode f status) there read fit unfinished due passes = (plain-shows (File c i op mode f status) there read fit unfinished due passes, tt)
  may-shows (Reply c i t fault) there read fit unfinished due passes = (plain-shows (Reply c i t fault) there read fit unfinished due passes, tt)
  may-shows (Again t n) there read fit unfinished due passes = (plain-shows (Again t n) there read fit unfinished due passes, tt)
  may-shows (Commit t n) there read fit unfinished due passes = (plain-shows (Commit t n) there read fit unfinished due passes, tt)
  may-shows (Back t n) there read fit unfinished due passes = (plain-shows (Back t n) there read fit unfinished due passes, tt)
  may-shows (FailTcp p primary k) there read fit unfinished due passes = (plain-shows (FailTcp p primary k) there read fit unfinished due passes, tt)
  may-shows (FailServer c i k) there read fit unfinished due passes = (plain-shows (FailServer c i k) there read fit unfinished due passes, tt)
  may-shows (Takeover p) there read fit unfinished due passes = (plain-shows (Takeover p) there read fit unfinished due passes, tt)
  may-shows (Raise p) there read fit unfinished due passes = (plain-shows (Raise p) there read fit unfinished due passes, tt)
  may-shows (End t Stopped) there read fit unfinished due passes = (plain-shows (End t Stopped) there read fit unfinished due passes, tt)
  may-shows (End t NoEntries) there read fit unfinished due passes = (plain-shows (End t NoEntries) there read fit unfinished due passes, tt)
  may-shows (End t (Fault x)) there read fit unfinished due passes = (plain-shows (End t (Fault x)) there read fit unfinished due passes, tt)
  may-shows (End t Lost) there read fit unfinished due passes = (plain-shows (End t Lost) there read fit unfinished due passes, tt)

  pub shows-may : (entry : Event) → IsThere system entry → IsStepRead system kept entry → AreValued system kept entry → Legal sys state entry → StepShows sys state kept entry → may system script kept entry ≡ true
  shows-may (Restart t n cause) low read fit legal shows = (restart-shows system script valid b log run kept stands t low n cause read).1 (legal.fits, shows)
  shows-may (End t (Suspended cause)) low read fit legal shows = (suspend-shows system script valid b log run kept stands t low cause read).1 (legal.fits, shows)
  shows-may (Show t phase attempt k) there read fit legal shows = plain-may (Show t phase attempt k) there read fit legal
  shows-may (Key t k) there read fit legal shows = plain-may (Key t k) there read fit legal
  shows-may (CheckStart t) there read fit legal shows = plain-may (CheckStart t) there read fit legal
  shows-may (CheckEnd t) there read fit legal shows = plain-may (CheckEnd t) there read fit legal
  shows-may (CheckCopy t) there read fit legal shows = plain-may (CheckCopy t) there read fit legal
  shows-may (Applied t) there read fit legal shows = plain-may (Applied t) there read fit legal
  shows-may (Begin t n r) there read fit legal shows = plain-may (Begin t n r) there read fit legal
  shows-may (Send t n c) there read fit legal shows = plain-may (Send t n c) there read fit legal
  shows-may (Take c i t) there read fit legal shows = plain-may (Take c i t) there read fit legal
  shows-may (File c i op mode f status) there read fit legal shows = plain-may (File c i op mode f status) there read fit legal
  shows-may (Reply c i t fault) there read fit legal shows = plain-may (Reply c i t fault) there read fit legal
  shows-may (Again t n) there read fit legal shows = plain-may (Again t n) there read fit legal
  shows-may (Commit t n) there read fit legal shows = plain-may (Commit t n) there read fit legal
  shows-may (Back t n) there read fit legal shows = plain-may (Back t n) there read fit legal
  shows-may (FailTcp p primary k) there read fit legal shows = plain-may (FailTcp p primary k) there read fit legal
  shows-may (FailServer c i k) there read fit legal shows = plain-may (FailServer c i k) there read fit legal
  shows-may (Takeover p) there read fit legal shows = plain-may (Takeover p) there read fit legal
  shows-may (Raise p) there read fit legal shows = plain-may (Raise p) there read fit legal
  shows-may (End t Stopped) there read fit legal shows = plain-may (End t Stopped) there read fit legal
  shows-may (End t NoEntries) there read fit legal shows = plain-may (End t NoEntries) there read fit legal
  shows-may (End t (Fault x)) there read fit legal shows = plain-may (End t (Fault x)) there read fit legal
  shows-may (End t Lost) there read fit legal shows = plain-may (End t Lost) there read fit legal
