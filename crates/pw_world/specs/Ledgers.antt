-- What contracts see of the log and of the books beside it.
use Rattle.std.specs.Prelude.{◌≡◌, ℕ, Bool, true, false, List, [], ◌∷◌, Option, Some, None, length}
use Rattle.pw_code.specs.declared.system.System.{System}
use Rattle.pw_event.specs.declared.event.Event.{Event}
use Rattle.pw_event.specs.declared.event.Event.TheVariants.{End}
use Rattle.pw_event.specs.declared.script.FailLine.{FailLine}
use Rattle.pw_world_model.specs.Dues.{DueBook, first_book}
use Rattle.pw_world_model.specs.Worlds.{Books}
use Rattle.pw_onecopy.specs.declared.refresh.Refresh.{Refresh}
use Rattle.pw_actor_queue.specs.Places.{all_marked, blank, notes_in}
use Rattle.pw_actor_queue.specs.declared.roster.ActorNote.{ActorNote}

-- the log, and what is kept beside it
pub record LedgerState : Type 0 where
  pub log : List Event
  -- the refreshes of its entries, and for each whether it is the BEGIN of one SEND
  pub refreshes : List Refresh
  pub one_sends : List Bool
  -- the failure lines that wait, and how many terminals are live
  pub due : DueBook
  pub live : ℕ
  -- what is noted of actors
  pub notes : List ActorNote
  -- there is room for one entry more
  pub spare : Bool

-- the books of it
abbrev pub books_of : LedgerState → Books
books_of ledger = record {
  refreshes = ledger.refreshes;
  one_sends = ledger.one_sends;
  due = ledger.due;
  live = ledger.live;
  stamps = λ actor. (notes_in ledger.notes actor).stamp;
  marked = λ actor. (notes_in ledger.notes actor).marked;
}

-- before the first entry every actor is marked, and none is out
pub record IsFirstLedger (system : System) (script : List FailLine) (ledger : LedgerState) : Type 0 where
  pub log : ledger.log ≡ []
  pub refreshes : ledger.refreshes ≡ []
  pub one_sends : ledger.one_sends ≡ []
  pub due : ledger.due ≡ first_book (length system.tcps) (length system.classes) script
  pub live : ledger.live ≡ length system.terminals
  pub notes : notes_in ledger.notes ≡ all_marked (λ actor. blank)

-- all but what is noted of actors is the same
abbrev pub IsNoted : LedgerState → LedgerState → Type 0
IsNoted old new = new ≡ record old { notes = new.notes }

-- the entry ends a terminal
abbrev pub ends : Event → Bool
ends (End t ending) = true
ends _ = false

-- the refresh that there is, as a list
abbrev pub listed : Option Refresh → List Refresh
listed None = []
listed (Some refresh) = refresh ∷ []
