-- The requests of a unit, and what is measured of the records by them: for transactions of several SENDs.
use Rattle.std.specs.Prelude.{◌≡◌, ℕ, ◌<◌, List, [], ◌∷◌, ◌++◌, length, drop}
use Rattle.pw_code.specs.declared.verb.Verb.{Verb}
use Rattle.pw_code.specs.declared.verb.Verb.TheVariants as verb
use Rattle.pw_invariants.specs.Invariants.{stepped}
use Rattle.pw_invariants.specs.Units.{CommittedUnit, FileRecords, RunsAlone}
use Rattle.pw_laws.specs.locking.Seen.{AreFiles}
use Rattle.pw_onecopy.specs.Behaviour.{Behaviour, Reply}
use Rattle.pw_onecopy.specs.Path.{PathAnswer, Replied}

-- a request that a server has replied to: the class, the message, and the reply
pub record RepliedRequest : Type 0 where
  pub class : ℕ
  pub message : List ℕ
  pub reply : List ℕ

-- the request of a verb, where it is a SEND and was replied to
abbrev pub request_by : Verb → PathAnswer → List RepliedRequest
request_by (verb.Send c message) (Replied reply) =
    record { class = c; message = message; reply = reply } ∷ []
request_by _ _ = []

-- the requests of a terminal among the answers with which a path goes on, in order
abbrev pub requests_on : Behaviour → ℕ → List PathAnswer → List PathAnswer → List RepliedRequest
requests_on sys t path [] = []
requests_on sys t path (answer ∷ rest) =
    request_by (sys.ask t path) answer ++ requests_on sys t (path ++ answer ∷ []) rest

-- the requests of a unit, in order
abbrev pub requests_of : Behaviour → CommittedUnit → List RepliedRequest
requests_of sys unit =
    requests_on sys unit.terminal unit.start (drop (length unit.start) unit.path)

-- what is measured of records that meet the invariant changes by a request's step where a server, run by itself, replies to it
abbrev pub ServersStep : {A : Type 0} → Behaviour → (FileRecords → Type 0) → (FileRecords → A)
    → (A → RepliedRequest → A) → Type 0
ServersStep sys holds measure step =
    (c : ℕ) (message reply : List ℕ) (records left : FileRecords) → c < sys.classes
    → AreFiles sys records → sys.serve c message records ≡ Reply reply left → holds records
    → measure left
    ≡ step (measure records) (record { class = c; message = message; reply = reply })

-- the requests of each unit that runs alone from such records and commits bring every value back to itself, as a debit and its
-- credit do
abbrev pub UnitsBalance : {A : Type 0} → Behaviour → (FileRecords → Type 0)
    → (A → RepliedRequest → A) → Type 0
UnitsBalance {A} sys holds step =
    (unit : CommittedUnit) (records left : FileRecords) → RunsAlone sys unit records left
    → holds records → (value : A) → stepped step value (requests_of sys unit) ≡ value
