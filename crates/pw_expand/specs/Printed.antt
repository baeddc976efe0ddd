-- What a net world is printed as, and the output for a schedule.
use Rattle.std.specs.Prelude.{ℕ, zero, suc, ◌+◌, List, [], ◌∷◌, ◌++◌, map, codes, Result, Ok, Err}
use Rattle.std.specs.Fmt.{decimal}
use Rattle.std.specs.List.{join_with_byte}
use Rattle.pw_base.specs.Characters.{line_feed, space}
use Rattle.pw_net.specs.Member.{Member, mark_in}
use Rattle.pw_net.specs.World.{NetWorld, net_world_after}
use Rattle.pw_net.specs.declared.message.Mark.{Mark}
use Rattle.pw_net.specs.declared.message.Mark.TheVariants as mark
use Rattle.pw_net.specs.declared.message.Net.{Net}
use Rattle.pw_net.specs.declared.message.NetId.{NetId}
use Rattle.pw_net.specs.declared.message.NetWord.{NetWord}
use Rattle.pw_net.specs.declared.message.NetWord.TheVariants.{Prepare, Yes, No, Commit, Abort, Ask}
use Rattle.pw_expand.specs.Schedule.{Schedule, schedule_of}
use Rattle.pw_expand.specs.declared.expand.ScheduleEnding.{ScheduleEnding}
use Rattle.pw_expand.specs.declared.expand.ScheduleEnding.TheVariants.{Expanded, Refused}

-- how a message's word is spelled
abbrev pub word_text : NetWord → List ℕ
word_text Prepare = codes "PREPARE"
word_text Yes = codes "YES"
word_text No = codes "NO"
word_text Commit = codes "COMMIT"
word_text Abort = codes "ABORT"
word_text Ask = codes "ASK"

-- how a mark is spelled
abbrev pub mark_text : Mark → List ℕ
mark_text mark.Collecting = codes "COLLECTING"
mark_text mark.Prepared = codes "PREPARED"
mark_text mark.Committed = codes "COMMITTED"
mark_text mark.Aborted = codes "ABORTED"

-- a line of words
abbrev pub line : List (List ℕ) → List ℕ
line words = join_with_byte space words ++ line_feed ∷ []

-- the line of the k-th message
abbrev pub sent_line : ℕ → Net → List ℕ
sent_line k message =
    line (codes "SENT" ∷ decimal k ∷ word_text message.word ∷ decimal message.from
    ∷ decimal message.to ∷ decimal message.id.home ∷ decimal message.id.number ∷ [])

-- the lines of messages, of which the first has a number
unfoldable pub sent_lines : ℕ → List Net → List ℕ
sent_lines k [] = []
sent_lines k (message ∷ messages) = sent_line k message ++ sent_lines (k + 1) messages

-- the line of a mark at a system
abbrev pub mark_line : ℕ → NetId → Mark → List ℕ
mark_line system id mark =
    line (codes "MARK" ∷ decimal system ∷ decimal id.home ∷ decimal id.number ∷ mark_text mark ∷ [])

-- the lines of marks at a system
unfoldable pub mark_lines : ℕ → List (NetId × Mark) → List ℕ
mark_lines system [] = []
mark_lines system (entry ∷ entries) =
    mark_line system entry.0 entry.1 ++ mark_lines system entries

-- the marks of a member, by home and number
abbrev pub marks_of : Member → List (NetId × Mark)
marks_of member = map {B = NetId × Mark} (λ entry. (entry.0, mark_in entry.1)) member.standings

-- the lines of the marks of systems 1 to n
unfoldable pub marks_to : (ℕ → Member) → ℕ → List ℕ
marks_to members zero = []
marks_to members (suc n) =
    marks_to members n ++ mark_lines (n + 1) (marks_of (members (n + 1)))

-- the messages of a net of so many systems in order, and then its marks
abbrev pub world_text : ℕ → NetWorld → List ℕ
world_text systems world = sent_lines 1 world.sent ++ marks_to world.members systems

-- the output for a schedule: the text of the net world after its events
abbrev pub schedule_text : Result Schedule ℕ → Result (List ℕ) ℕ
schedule_text (Err fault) = Err fault
schedule_text (Ok schedule) = Ok (world_text schedule.systems (net_world_after schedule.events))

-- what an input expands to, or the line of its fault
abbrev pub expanded : List ℕ → Result (List ℕ) ℕ
expanded bytes = schedule_text (schedule_of bytes)

-- what is written for a schedule whose fault stands at a line
abbrev pub fault_line : ℕ → List ℕ
fault_line number = line (codes "SCHEDULE" ∷ codes "FAULT" ∷ codes "LINE" ∷ decimal number ∷ [])

-- how a schedule is answered, and what is written then
abbrev pub schedule_answered : Result (List ℕ) ℕ → ScheduleEnding × List ℕ
schedule_answered (Ok text) = (Expanded, text)
schedule_answered (Err number) = (Refused, fault_line number)
