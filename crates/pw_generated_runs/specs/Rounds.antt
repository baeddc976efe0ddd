-- What a deck asks and does whose terminals have every entry counted: for each entry of a key one SEND, to whose server the
-- key's record is the number of its requests so far.
use Rattle.std.specs.Prelude.{◌≡◌, ℕ, zero, suc, ◌+◌, ◌<◌, ◌≤◌, List, [], ◌∷◌, ◌++◌, length, slice_get, codes, Option, Some, None}
use Rattle.std.specs.List.{AllByRecursion}
use Rattle.pw_code.specs.declared.verb.Verb.{Verb}
use Rattle.pw_code.specs.declared.verb.Verb.TheVariants as verb
use Rattle.pw_event.specs.declared.event.Ending.{Ending}
use Rattle.pw_event.specs.declared.event.Ending.TheVariants.{NoEntries, Suspended, Lost}
use Rattle.pw_generated_runs.specs.Counts.{entry_total, stock_record, stock_with}
use Rattle.pw_onecopy.specs.Behaviour.{Behaviour, Reply}
use Rattle.pw_onecopy.specs.Path.{PathAnswer, Shown, Entry, Replied}
use Rattle.pw_onecopy.specs.Update.{upd}
use Rattle.pw_tree_meaning.specs.Sends.{code_in_reply}

-- the message of an entry: `I`, the key, and the number that the requester never changes
abbrev pub request_of : ℕ → List ℕ
request_of d = codes "IA" ++ (48 + d) ∷ codes "0000"

-- the reply has code 0
abbrev pub HasCodeZero : List ℕ → Type 0
HasCodeZero reply = code_in_reply reply ≡ Some 0

-- the answers of rounds, from entry k on: an entry, the reply to its request, and the screen that shows it
abbrev pub rounds_from : ℕ → List (List ℕ) → List PathAnswer
rounds_from k [] = []
rounds_from k (reply ∷ replies) = Entry k ∷ Replied reply ∷ Shown ∷ rounds_from (k + 1) replies

-- the path of rounds with these replies
abbrev pub rounds : List (List ℕ) → List PathAnswer
rounds replies = rounds_from 1 replies

-- what is asked behind a reply: to show it, or the run fault of a code that is not foreseen
abbrev pub asked_behind : Option ℕ → Verb
asked_behind None = verb.Fault 204
asked_behind (Some zero) = verb.Show
asked_behind (Some (suc code)) = verb.Fault 204

-- The terminal runs in rounds, one for each entry, where all replies so far have code 0: it awaits an entry, sends that entry's
-- key, and shows the reply.
pub record RunsInRounds (sys : Behaviour) (t : ℕ) (digits : List ℕ) : Type 0 where
  pub entries : sys.entries t ≡ length digits
  pub accepts : (replies : List (List ℕ)) → AllByRecursion HasCodeZero replies → length replies ≤ length digits
      → sys.ask t (rounds replies) ≡ verb.Accept 0
  pub sends : (replies : List (List ℕ)) (d : ℕ) → AllByRecursion HasCodeZero replies
      → slice_get digits (length replies) ≡ Some d
      → sys.ask t (rounds replies ++ Entry (length replies + 1) ∷ []) ≡ verb.Send 0 (request_of d)
  pub shows : (replies : List (List ℕ)) (reply : List ℕ) → AllByRecursion HasCodeZero replies
      → length replies < length digits
      → sys.ask t (rounds replies ++ Entry (length replies + 1) ∷ Replied reply ∷ [])
      ≡ asked_behind (code_in_reply reply)

-- The server, run by itself, counts: it replies to a request with code 0 and the record of its key, whose number is 1 more.
abbrev pub CountsRequests : Behaviour → Type 0
CountsRequests sys =
    (number : ℕ → ℕ) (d : ℕ) (records : ℕ → List (List ℕ)) → d < 10 → number d < 9999
    → records 0 ≡ stock_with number
    → (left : ℕ → List (List ℕ))
    × (sys.serve 0 (request_of d) records ≡ Reply (codes "00000000" ++ stock_record d (number d + 1)) left)
    × (left 0 ≡ stock_with (upd number d (number d + 1)))

-- A deck that counts its entries: each terminal runs in rounds, by these digits; the server counts; all records begin with 0;
-- and there are fewer than 10,000 entries.
pub record CountsEntries (sys : Behaviour) (digits : ℕ → List ℕ) : Type 0 where
  pub terminals : (t : ℕ) → t < sys.terminals → RunsInRounds sys t (digits t)
  pub are_digits : (t k d : ℕ) → slice_get (digits t) k ≡ Some d → d < 10
  pub server : CountsRequests sys
  pub records : sys.records 0 ≡ stock_with (λ d. 0)
  pub few : entry_total sys.terminals digits < 10000

-- the ending of a terminal that has taken all its entries, or has been suspended or lost before, if it has one
abbrev pub MayHaveEnded : Option Ending → Type 0
MayHaveEnded None = Unit {0}
MayHaveEnded (Some NoEntries) = Unit {0}
MayHaveEnded (Some (Suspended cause)) = Unit {0}
MayHaveEnded (Some Lost) = Unit {0}
MayHaveEnded _ = ⊥
