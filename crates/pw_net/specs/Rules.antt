-- What a member answers to a message or a call, by how it stands to the transaction.
use Rattle.std.specs.Prelude.{ℕ, ◌==◌, List, [], ◌∷◌, Option, Some, None, map, if◌then◌else◌}
use Rattle.pw_net.specs.Ballot.{still_missing}
use Rattle.pw_net.specs.declared.message.Net.{Net}
use Rattle.pw_net.specs.declared.message.NetId.{NetId}
use Rattle.pw_net.specs.declared.message.NetWord.{NetWord}
use Rattle.pw_net.specs.declared.message.NetWord.TheVariants.{Prepare, Yes, No, Commit, Abort, Ask}
use Rattle.pw_net.specs.declared.standing.TransactionState.{TransactionState}
use Rattle.pw_net.specs.declared.standing.TransactionState.TheVariants.{Collecting, Prepared, Committed, Aborted}

-- the new standing, where it changes, and the messages to send
pub record Reply : Type 0 where
  pub turns : Option TransactionState
  pub messages : List Net

-- nothing changes and nothing is sent
abbrev pub silence : Reply
silence = record { turns = None; messages = [] }

-- a message of this system about the transaction
abbrev pub told : ℕ → NetId → NetWord → ℕ → Net
told own id word to = record { from = own; to = to; id = id; word = word }

-- the same word to each of these systems, in order
abbrev pub told_each : ℕ → NetId → NetWord → List ℕ → List Net
told_each own id word others = map (told own id word) others

-- nothing changes, and one message is sent
abbrev pub says : ℕ → NetId → NetWord → ℕ → Reply
says own id word to = record { turns = None; messages = told own id word to ∷ [] }

-- the standing changes, and nothing is sent
abbrev pub becomes : TransactionState → Reply
becomes standing = record { turns = Some standing; messages = [] }

-- only the transaction's home answers so
abbrev pub at_home : ℕ → NetId → Reply → Reply
at_home own id reply = if own == id.home then reply else silence

-- Prepare: votes, and stays with its vote
abbrev pub on_prepare : ℕ → NetId → Option TransactionState → Reply
on_prepare own id None = record { turns = Some Prepared; messages = told own id Yes id.home ∷ [] }
on_prepare own id (Some (Collecting ballot)) = silence
on_prepare own id (Some Prepared) = says own id Yes id.home
on_prepare own id (Some Committed) = silence
on_prepare own id (Some Aborted) = says own id No id.home

-- the last vote commits
abbrev pub vote_counted : ℕ → NetId → List ℕ → List ℕ → Reply
vote_counted own id others [] =
    record { turns = Some Committed; messages = told_each own id Commit others }
vote_counted own id others (system ∷ systems) =
    becomes (Collecting (record { others = others; missing = system ∷ systems }))

-- Yes of a system, at the home: counts the vote, or tells how the transaction ended
abbrev pub on_yes : ℕ → NetId → ℕ → Option TransactionState → Reply
on_yes own id system None = silence
on_yes own id system (Some (Collecting ballot)) =
    vote_counted own id ballot.others (still_missing system ballot)
on_yes own id system (Some Prepared) = silence
on_yes own id system (Some Committed) = says own id Commit system
on_yes own id system (Some Aborted) = says own id Abort system

-- the home aborts while it collects votes
abbrev pub on_end : ℕ → NetId → Option TransactionState → Reply
on_end own id None = silence
on_end own id (Some (Collecting ballot)) =
    record { turns = Some Aborted; messages = told_each own id Abort ballot.others }
on_end own id (Some Prepared) = silence
on_end own id (Some Committed) = silence
on_end own id (Some Aborted) = silence

-- Commit: what is prepared is committed
abbrev pub on_commit : Option TransactionState → Reply
on_commit None = silence
on_commit (Some (Collecting ballot)) = silence
on_commit (Some Prepared) = becomes Committed
on_commit (Some Committed) = silence
on_commit (Some Aborted) = silence

-- Abort: what is prepared or has no mark is aborted
abbrev pub on_abort : Option TransactionState → Reply
on_abort None = becomes Aborted
on_abort (Some (Collecting ballot)) = silence
on_abort (Some Prepared) = becomes Aborted
on_abort (Some Committed) = silence
on_abort (Some Aborted) = silence

-- Ask of a system, at the home: tells how the transaction ended
abbrev pub on_ask : ℕ → NetId → ℕ → Option TransactionState → Reply
on_ask own id system None = silence
on_ask own id system (Some (Collecting ballot)) = silence
on_ask own id system (Some Prepared) = silence
on_ask own id system (Some Committed) = says own id Commit system
on_ask own id system (Some Aborted) = says own id Abort system

-- a message with this word about the transaction, from a system
abbrev pub on_word : ℕ → NetId → ℕ → NetWord → Option TransactionState → Reply
on_word own id system Prepare standing = on_prepare own id standing
on_word own id system Yes standing = at_home own id (on_yes own id system standing)
on_word own id system No standing = at_home own id (on_end own id standing)
on_word own id system Commit standing = on_commit standing
on_word own id system Abort standing = on_abort standing
on_word own id system Ask standing = at_home own id (on_ask own id system standing)

-- refuse: what has no mark is aborted, but not at its home
abbrev pub on_refuse : ℕ → NetId → Option TransactionState → Reply
on_refuse own id None = if own == id.home then silence else becomes Aborted
on_refuse own id (Some standing) = silence

-- ask: what is prepared asks its home
abbrev pub on_wait : ℕ → NetId → Option TransactionState → Reply
on_wait own id None = silence
on_wait own id (Some (Collecting ballot)) = silence
on_wait own id (Some Prepared) = says own id Ask id.home
on_wait own id (Some Committed) = silence
on_wait own id (Some Aborted) = silence

-- what a restart leaves of a standing: votes that were collected are lost, and the transaction
-- is aborted
abbrev pub standing_after_restart : TransactionState → TransactionState
standing_after_restart (Collecting ballot) = Aborted
standing_after_restart Prepared = Prepared
standing_after_restart Committed = Committed
standing_after_restart Aborted = Aborted
