-- The counts of a context rise by at most one with each answer.
use Rattle.std.proofs.Common.{◌≡◌, ℕ, zero, suc, ◌+◌, ◌<◌, ◌≤◌, Bool, true, false, List, [], ◌∷◌, ◌++◌, length, Option, Some, None, refl, sym, ap, subst, arith}
use Rattle.std.specs.Prelude.{slice_get, if◌then◌else◌}
use Rattle.pw_terminal.specs.Entries.{check}
use Rattle.pw_terminal.specs.declared.entries.EntryAnswer.{EntryAnswer}
use Rattle.pw_terminal.specs.declared.entries.EntryAnswer.TheVariants.{Valid, BadKey, BadField}
use Rattle.pw_code.specs.Entry.{EntryLineModel}
use Rattle.pw_code.specs.Instrs.{screen_at}
use Rattle.pw_code.proofs.CourseLemmas.{course-holds}
use Rattle.pw_code.specs.declared.context.Context.{Context}
use Rattle.pw_code.specs.declared.field.ScreenTable.{ScreenTable}
use Rattle.pw_code.specs.declared.instr.Instr.{Instr}
use Rattle.pw_code.specs.declared.instr.Instr.TheVariants.{Jump, JumpUnless, ParagraphEnd, Move, Compute, OnSizeError, Perform, PerformTimes, Until, PerformOneOf, Exit, ExitProgram, StopRun, DisplayScreen, Display, Accept, Call, Send, NoCode, Begin, End, Abort, Restart, Receive, Reply, Read, ReadNext, Write, Rewrite, Delete}
use Rattle.pw_code.specs.declared.instr.ReplyCode.{ReplyCode}
use Rattle.pw_code.specs.declared.place.StoragePlace.{StoragePlace}
use Rattle.pw_code.specs.declared.system.System.{System}
use Rattle.pw_code.specs.declared.verb.Answer.{Answer}
use Rattle.pw_code.specs.declared.verb.Answer.TheVariants as answer
use Rattle.pw_code_meaning.proofs.CountSteps.{Counts, counts_in, step_same}
use Rattle.pw_code_meaning.specs.Answers.{answered, answered_by, begin_put, entry_checked, entry_put, file_put, put, read_put, reply_put, reply_taken, unit_ended, yielded}
use Rattle.pw_code_meaning.specs.Config.{Config, code_of, starting, starting_server}
use Rattle.pw_code_meaning.specs.Reading.{Spot}
use Rattle.pw_code_meaning.specs.Runs.{Run, run, StandsFrom}
use Rattle.pw_code_meaning.specs.Steps.{step}
use Rattle.pw_machine.specs.Stack.{HasRoom}

-- ---- an answer raises each by at most one

record Near (a b : Context) : Type 0 where
  pub shown : b.shown ≤ a.shown + 1
  pub entries : b.entries ≤ a.entries + 1
  pub units : b.units ≤ a.units + 1

near : (a b : Context) → b.shown ≤ a.shown + 1 → b.entries ≤ a.entries + 1 → b.units ≤ a.units + 1 → Near a b
near a b shown entries units = record { shown = shown; entries = entries; units = units }

stays : (c : Config) → Near c.rest c.rest
stays c = near _ _ (omega arith) (omega arith) (omega arith)

checked_near : (table : ScreenTable) (line : EntryLineModel) (found : EntryAnswer) (c : Config) → Near c.rest (entry_checked table line found c).rest
checked_near table line (Valid place) c = near _ _ (omega arith) (omega arith) (omega arith)
checked_near table line BadKey c = near _ _ (omega arith) (omega arith) (omega arith)
checked_near table line (BadField place) c = near _ _ (omega arith) (omega arith) (omega arith)

entry_near : (table : ScreenTable) (keys : List ℕ) (a : Answer) (c : Config) → Near c.rest (entry_put table keys a c).rest
entry_near table keys (answer.Entry line) c = checked_near table line (check table keys line) c
entry_near table keys answer.Shown c = near _ _ (omega arith) (omega arith) (omega arith)
entry_near table keys (answer.Begun r) c = near _ _ (omega arith) (omega arith) (omega arith)
entry_near table keys (answer.Replied reply) c = near _ _ (omega arith) (omega arith) (omega arith)
entry_near table keys (answer.Failed code) c = near _ _ (omega arith) (omega arith) (omega arith)
entry_near table keys answer.Ended c = near _ _ (omega arith) (omega arith) (omega arith)
entry_near table keys answer.Dropped c = near _ _ (omega arith) (omega arith) (omega arith)
entry_near table keys (answer.FileDone status content) c = near _ _ (omega arith) (omega arith) (omega arith)

taken_near : (rest : Context) → Near rest (reply_taken rest)
taken_near rest = pick rest.in_unit
  where
    pick : (b : Bool) → Near rest (if b then answered rest else unit_ended rest)
    pick true = near _ _ (omega arith) (omega arith) (omega arith)
    pick false = near _ _ (omega arith) (omega arith) (omega arith)

yielded_near : (o : Option (ℕ × Spot)) (reply : List ℕ) (c : Config) → Near c.rest (yielded o reply c).rest
yielded_near None reply c = taken_near c.rest
yielded_near (Some found) reply c = let n = taken_near c.rest in near _ _ n.shown n.entries n.units

reply_near : (codes : List ReplyCode) (a : Answer) (c : Config) → Near c.rest (reply_put codes a c).rest
reply_near codes (answer.Replied reply) c = yielded_near _ reply c
reply_near codes (answer.Failed code) c = near _ _ (omega arith) (omega arith) (omega arith)
reply_near codes answer.Shown c = near _ _ (omega arith) (omega arith) (omega arith)
reply_near codes (answer.Entry line) c = near _ _ (omega arith) (omega arith) (omega arith)
reply_near codes (answer.Begun r) c = near _ _ (omega arith) (omega arith) (omega arith)
reply_near codes answer.Ended c = near _ _ (omega arith) (omega arith) (omega arith)
reply_near codes answer.Dropped c = near _ _ (omega arith) (omega arith) (omega arith)
reply_near codes (answer.FileDone status content) c = near _ _ (omega arith) (omega arith) (omega arith)

begin_near : (a : Answer) (c : Config) → Near c.rest (begin_put a c).rest
begin_near (answer.Begun r) c = near _ _ (omega arith) (omega arith) (omega arith)
begin_near answer.Shown c = near _ _ (omega arith) (omega arith) (omega arith)
begin_near (answer.Entry line) c = near _ _ (omega arith) (omega arith) (omega arith)
begin_near (answer.Replied reply) c = near _ _ (omega arith) (omega arith) (omega arith)
begin_near (answer.Failed code) c = near _ _ (omega arith) (omega arith) (omega arith)
begin_near answer.Ended c = near _ _ (omega arith) (omega arith) (omega arith)
begin_near answer.Dropped c = near _ _ (omega arith) (omega arith) (omega arith)
begin_near (answer.FileDone status content) c = near _ _ (omega arith) (omega arith) (omega arith)

read_near : (into : StoragePlace) (a : Answer) (c : Config) → Near c.rest (read_put into a c).rest
read_near into (answer.FileDone status content) c = near _ _ (omega arith) (omega arith) (omega arith)
read_near into answer.Shown c = near _ _ (omega arith) (omega arith) (omega arith)
read_near into (answer.Entry line) c = near _ _ (omega arith) (omega arith) (omega arith)
read_near into (answer.Begun r) c = near _ _ (omega arith) (omega arith) (omega arith)
read_near into (answer.Replied reply) c = near _ _ (omega arith) (omega arith) (omega arith)
read_near into (answer.Failed code) c = near _ _ (omega arith) (omega arith) (omega arith)
read_near into answer.Ended c = near _ _ (omega arith) (omega arith) (omega arith)
read_near into answer.Dropped c = near _ _ (omega arith) (omega arith) (omega arith)

file_near : (a : Answer) (c : Config) → Near c.rest (file_put a c).rest
file_near (answer.FileDone status content) c = near _ _ (omega arith) (omega arith) (omega arith)
file_near answer.Shown c = near _ _ (omega arith) (omega arith) (omega arith)
file_near (answer.Entry line) c = near _ _ (omega arith) (omega arith) (omega arith)
file_near (answer.Begun r) c = near _ _ (omega arith) (omega arith) (omega arith)
file_near (answer.Replied reply) c = near _ _ (omega arith) (omega arith) (omega arith)
file_near (answer.Failed code) c = near _ _ (omega arith) (omega arith) (omega arith)
file_near answer.Ended c = near _ _ (omega arith) (omega arith) (omega arith)
file_near answer.Dropped c = near _ _ (omega arith) (omega arith) (omega arith)

answered_near : (system : System) (o : Option Instr) (a : Answer) (c : Config) → Near c.rest (answered_by system o a c).rest
answered_near system None a c = stays c
answered_near system (Some (DisplayScreen screen base)) a c = near _ _ (omega arith) (omega arith) (omega arith)
answered_near system (Some (Display one)) a c = near _ _ (omega arith) (omega arith) (omega arith)
answered_near system (Some (Accept screen keys)) a c = entry_near (screen_at system screen) keys a c
answered_near system (Some (Send class message codes)) a c = reply_near codes a c
answered_near system (Some Begin) a c = begin_near a c
answered_near system (Some End) a c = near _ _ (omega arith) (omega arith) (omega arith)
answered_near system (Some Abort) a c = near _ _ (omega arith) (omega arith) (omega arith)
answered_near system (Some (Read file locking key into)) a c = read_near into a c
answered_near system (Some (ReadNext file locking after into)) a c = read_near into a c
answered_near system (Some (Write file from)) a c = file_near a c
answered_near system (Some (Rewrite file from)) a c = file_near a c
answered_near system (Some (Delete file key)) a c = file_near a c
answered_near system (Some (Jump n)) a c = stays c
answered_near system (Some (JumpUnless cond n)) a c = stays c
answered_near system (Some (ParagraphEnd start)) a c = stays c
answered_near system (Some (Move from to)) a c = stays c
answered_near system (Some (Compute sum)) a c = stays c
answered_near system (Some (OnSizeError sum n)) a c = stays c
answered_near system (Some (Perform paragraph)) a c = stays c
answered_near system (Some (PerformTimes paragraph times)) a c = stays c
answered_near system (Some (Until paragraph cond)) a c = stays c
answered_near system (Some (PerformOneOf paragraphs position)) a c = stays c
answered_near system (Some Exit) a c = stays c
answered_near system (Some ExitProgram) a c = stays c
answered_near system (Some StopRun) a c = stays c
answered_near system (Some (Call program arguments keeps)) a c = stays c
answered_near system (Some NoCode) a c = stays c
answered_near system (Some Restart) a c = stays c
answered_near system (Some (Receive into)) a c = stays c
answered_near system (Some (Reply from)) a c = stays c

put_near : (system : System) (a : Answer) (c : Config) → Near c.rest (put system a c).rest
put_near system a c =
    course-holds (λ (d : Config). Near c.rest d.rest) c.rest.course _ _ _ (answered_near system (slice_get (code_of system c).instrs c.top.at) a c)
    (near _ _ (omega arith) (omega arith) (omega arith)) (λ code. stays c)

-- ---- runs

-- the counts of d are above those of c by at most n
record Within (n : ℕ) (c d : Config) : Type 0 where
  pub shown : d.rest.shown ≤ c.rest.shown + n
  pub entries : d.rest.entries ≤ c.rest.entries + n
  pub units : d.rest.units ≤ c.rest.units + n

within_same : (n : ℕ) (c d e : Config) → counts_in d.rest ≡ counts_in c.rest → Within n d e → Within n c e
within_same n c d e same w =
    let shown : d.rest.shown ≡ c.rest.shown = ap (λ (k : Counts). k.shown) same in
    let entries : d.rest.entries ≡ c.rest.entries = ap (λ (k : Counts). k.entries) same in
    let units : d.rest.units ≡ c.rest.units = ap (λ (k : Counts). k.units) same in
    record { shown = omega (arith, w.shown); entries = omega (arith, w.entries); units = omega (arith, w.units) }

within_near : (n : ℕ) (c d e : Config) → Near c.rest d.rest → Within n d e → Within (suc n) c e
within_near n c d e near w = record {
  shown = omega (arith, w.shown, near.shown);
  entries = omega (arith, w.entries, near.entries);
  units = omega (arith, w.units, near.units);
}

at_once : (n : ℕ) (c d : Config) (left : List Answer) → ◌≡◌ {A = Run Config Answer} (record { at = c; left = left }) (record { at = d; left = [] }) → Within n c d
at_once n c d left e =
    let is : c ≡ d = ap (λ (r : Run Config Answer). r.at) e in
    subst (λ x. Within n c x) is (record { shown = omega arith; entries = omega arith; units = omega arith })

risen : (system : System) (n : ℕ) (c d : Config) (answers : List Answer) → run system n c answers ≡ record { at = d; left = [] } → Within (length answers) c d
risen system zero c d answers h = at_once (length answers) c d answers h
risen system (suc n) c d answers h = both c.rest.at_verb answers h (λ a rest. risen system n (put system a c) d rest) (risen system n (step system c) d answers)
  where
    both : (b : Bool) (q : List Answer)
        → elim b as (λ _. Run Config Answer) [
          | true ↦ elim q as (λ _. Run Config Answer) [ [] ↦ record { at = c; left = [] } | a ∷ rest ↦ run system n (put system a c) rest ]
          | false ↦ run system n (step system c) q
        ] ≡ record { at = d; left = [] }
        → ((a : Answer) (rest : List Answer) → run system n (put system a c) rest ≡ record { at = d; left = [] } → Within (length rest) (put system a c) d)
        → (run system n (step system c) q ≡ record { at = d; left = [] } → Within (length q) (step system c) d) → Within (length q) c d
    both true [] e ih jh = at_once 0 c d [] e
    both true (a ∷ rest) e ih jh = within_near (length rest) c (put system a c) d (put_near system a c) (ih a rest e)
    both false q e ih jh = within_same (length q) c (step system c) d (step_same system c) (jh e)

abbrev counts : Context → ℕ × (ℕ × ℕ)
counts rest = (rest.shown, (rest.entries, rest.units))

room : (system : System) (start : Config) (answers : List Answer) (context : Context) → counts start.rest ≡ (0, (0, 0)) → StandsFrom system start answers context
    → length answers < 1000000 → HasRoom context
room system start answers context none stands few =
    let w = risen system stands.comes.0 start stands.at answers stands.comes.1 in
    let shown : start.rest.shown ≡ 0 = ap (λ (p : ℕ × (ℕ × ℕ)). p.0) none in
    let entries : start.rest.entries ≡ 0 = ap (λ (p : ℕ × (ℕ × ℕ)). p.1.0) none in
    let units : start.rest.units ≡ 0 = ap (λ (p : ℕ × (ℕ × ℕ)). p.1.1) none in
    let here : HasRoom stands.at.rest = record { shown = omega (arith, w.shown); entries = omega (arith, w.entries); units = omega (arith, w.units) } in
    let is : context ≡ record stands.at.rest { frames = stands.at.rest.frames ++ stands.at.top ∷ [] } = stands.is in
    subst HasRoom (sym is) (record { shown = here.shown; entries = here.entries; units = here.units })

pub room_of_terminals : (system : System) (program : ℕ) (path : List Answer) (context : Context) → StandsFrom system (starting system program) path context
    → length path < 1000000 → HasRoom context
room_of_terminals system program path context stands few = room system (starting system program) path context refl stands few

pub room_of_servers : (system : System) (server : ℕ) (message : List ℕ) (done : List Answer) (context : Context) → StandsFrom system (starting_server system server message) done context
    → length done < 1000000 → HasRoom context
room_of_servers system server message done context stands few = room system (starting_server system server message) done context refl stands few
