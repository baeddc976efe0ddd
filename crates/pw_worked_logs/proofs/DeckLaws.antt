-- What holds of every deck holds of the worked ones.
use Rattle.std.proofs.Common.{◌≡◌, ℕ, zero, suc, ◌+◌, ◌<◌, ◌≤◌, Bool, true, false, cond, List, [], ◌∷◌, ◌++◌, length, take, drop, codes, nat_lt, slice_index_or, Option, Some, None, is_none, refl, ap, sym, subst, arith}
use Rattle.std.proofs.lemmas.Bool.{true≢false}
use Rattle.std.proofs.lemmas.List.{length-append, length-take-le}
use Rattle.std.proofs.lemmas.List.Elements.{All-cons, All-nil}
use Rattle.std.specs.List.Sorted.{IsStrictlySortedBy}
use Rattle.pw_code.specs.declared.file.FileCall.{FileCall}
use Rattle.pw_code.specs.declared.file.FileOp.{FileOp}
use Rattle.pw_code.specs.declared.file.FileOp.TheVariants.{Write, Rewrite}
use Rattle.pw_code.specs.declared.verb.Verb.{Verb}
use Rattle.pw_code.specs.declared.verb.Verb.TheVariants as verb
use Rattle.pw_files.proofs.RecordLemmas.{IsFile-empty}
use Rattle.pw_files.specs.Records.{IsContent, IsFile}
use Rattle.pw_onecopy.specs.Behaviour.{Behaviour}
use Rattle.pw_onecopy.specs.IsBehaviour.{AddsUp, ComesTo, IsAsked, IsBehaviour, IsPath, Suits, SuitsFrom, is_written}
use Rattle.pw_onecopy.specs.Operation.{key_of}
use Rattle.pw_onecopy.specs.Path.{PathAnswer, Shown, Entry, Begun, Replied, Failed, Ended, Dropped, FileResult, Standing, is_outside, standing_after_answer, standing_at_start, standing_from}
use Rattle.pw_onecopy.specs.Play.{Play, play_after}
use Rattle.pw_worked_logs.specs.Deck.{KeyedLine, Sends, Begins, Ends, Drops, Redoes, WorkedProgram, Keys, Displays, WorkedSetting, WorkedTask, Does, Increments, Breaks, asked_by, asked_for, asked_of, call_of, deck, item, key_length_of, last_of, line_at, processes_of, worked_program, worked_records, served_by, spaces, task_of, verb_at, verb_behind, with_one_more}

-- What programs ask.

-- the verbs of a program after a path, in or outside a transaction
record AtPath (outside : Bool) (v : Verb) : Type 0 where
  asked : IsAsked v
  begins : v ≡ verb.Begin → outside ≡ true
  stops : v ≡ verb.Stop → outside ≡ true
  ends : v ≡ verb.End → outside ≡ false
  drops : v ≡ verb.Drop → outside ≡ false
  redoes : v ≡ verb.Redo → outside ≡ false
  sends : (c : ℕ) (message : List ℕ) → v ≡ verb.Send c message → c < 1

at_accept : (outside : Bool) → AtPath outside (verb.Accept 0)
at_accept outside = record { asked = tt; begins = λ e. absurd (cc e); stops = λ e. absurd (cc e); ends = λ e. absurd (cc e); drops = λ e. absurd (cc e); redoes = λ e. absurd (cc e); sends = λ c message e. absurd (cc e) }

at_show : (outside : Bool) → AtPath outside verb.Show
at_show outside = record { asked = tt; begins = λ e. absurd (cc e); stops = λ e. absurd (cc e); ends = λ e. absurd (cc e); drops = λ e. absurd (cc e); redoes = λ e. absurd (cc e); sends = λ c message e. absurd (cc e) }

at_fault : (outside : Bool) (x : ℕ) → AtPath outside (verb.Fault x)
at_fault outside x = record { asked = tt; begins = λ e. absurd (cc e); stops = λ e. absurd (cc e); ends = λ e. absurd (cc e); drops = λ e. absurd (cc e); redoes = λ e. absurd (cc e); sends = λ c message e. absurd (cc e) }

at_stop : AtPath true verb.Stop
at_stop = record { asked = tt; begins = λ e. absurd (cc e); stops = λ e. refl; ends = λ e. absurd (cc e); drops = λ e. absurd (cc e); redoes = λ e. absurd (cc e); sends = λ c message e. absurd (cc e) }

at_line : (line : KeyedLine) (outside : Bool) → AtPath outside (verb_at line outside)
at_line (Sends m) outside = record { asked = tt; begins = λ e. absurd (cc e); stops = λ e. absurd (cc e); ends = λ e. absurd (cc e); drops = λ e. absurd (cc e); redoes = λ e. absurd (cc e); sends = λ c message e. let none : c ≡ 0 = cc in omega (arith, none) }
at_line Begins true = record { asked = tt; begins = λ e. refl; stops = λ e. absurd (cc e); ends = λ e. absurd (cc e); drops = λ e. absurd (cc e); redoes = λ e. absurd (cc e); sends = λ c message e. absurd (cc e) }
at_line Begins false = at_fault false 205
at_line Ends true = at_fault true 206
at_line Ends false = record { asked = tt; begins = λ e. absurd (cc e); stops = λ e. absurd (cc e); ends = λ e. refl; drops = λ e. absurd (cc e); redoes = λ e. absurd (cc e); sends = λ c message e. absurd (cc e) }
at_line Drops true = at_fault true 206
at_line Drops false = record { asked = tt; begins = λ e. absurd (cc e); stops = λ e. absurd (cc e); ends = λ e. absurd (cc e); drops = λ e. refl; redoes = λ e. absurd (cc e); sends = λ c message e. absurd (cc e) }
at_line Redoes true = at_fault true 206
at_line Redoes false = record { asked = tt; begins = λ e. absurd (cc e); stops = λ e. absurd (cc e); ends = λ e. absurd (cc e); drops = λ e. absurd (cc e); redoes = λ e. refl; sends = λ c message e. absurd (cc e) }

at_key : (lines : List KeyedLine) (outside : Bool) (last : Option PathAnswer) → AtPath outside (verb_behind lines outside last)
at_key lines outside None = at_accept outside
at_key lines outside (Some Shown) = at_accept outside
at_key lines outside (Some (Entry k)) = at_line (line_at lines k) outside
at_key lines outside (Some (Begun r)) = at_accept outside
at_key lines outside (Some (Replied reply)) = at_show outside
at_key lines outside (Some (Failed x)) = at_fault outside x
at_key lines outside (Some Ended) = at_accept outside
at_key lines outside (Some Dropped) = at_accept outside

at_text : (shows outside : Bool) → outside ≡ true → AtPath outside (cond shows verb.Show verb.Stop)
at_text true outside is = at_show outside
at_text false outside is = subst (λ (o : Bool). AtPath o verb.Stop) (sym is) at_stop

-- a program that only shows and stops has a path outside transactions
module _ (sys : Behaviour) (t : ℕ) (shows : List PathAnswer → Bool) (asks : (path : List PathAnswer) → sys.ask t path ≡ cond (shows path) verb.Show verb.Stop) where
  only_shown : (before : List PathAnswer) (b : Bool) (answer : PathAnswer) → Suits sys t before (cond b verb.Show verb.Stop) answer → answer ≡ Shown
  only_shown before true Shown suits = refl
  only_shown before true _ suits = absurd suits
  only_shown before false _ suits = absurd suits

  stays_outside : (before path : List PathAnswer) → SuitsFrom sys t before path → (at : Standing) → at.within ≡ None → (standing_from at path).within ≡ None
  stays_outside before [] suits at none = none
  stays_outside before (answer ∷ path) suits at none =
      let is : answer ≡ Shown = only_shown before (shows before) answer (subst (λ (v : Verb). Suits sys t before v answer) (asks before) suits.0) in
      stays_outside (before ++ answer ∷ []) path suits.1 (standing_after_answer at answer)
      (subst (λ (a : PathAnswer). (standing_after_answer at a).within ≡ None) (sym is) none)

  shown-outside : (path : List PathAnswer) → SuitsFrom sys t [] path → is_outside path ≡ true
  shown-outside path suits = ap (λ (r : Option ℕ). is_none r) (stays_outside [] path suits standing_at_start refl)

-- the verb of a terminal's program after a path that it may have
at_path : (setting : WorkedSetting) (t : ℕ) (path : List PathAnswer) → IsPath (deck setting) t path → AtPath (is_outside path) (asked_by (worked_program setting t) path)
at_path setting t path is_path = of (worked_program setting t) refl
  where
    of : (program : WorkedProgram) → worked_program setting t ≡ program → AtPath (is_outside path) (asked_by (worked_program setting t) path)
    of (Keys lines) is = subst (λ (p : WorkedProgram). AtPath (is_outside path) (asked_by p path)) (sym is) (at_key lines (is_outside path) (last_of path))
    of (Displays texts) is =
        subst (λ (p : WorkedProgram). AtPath (is_outside path) (asked_by p path)) (sym is)
        (at_text (nat_lt (length path) (length texts)) (is_outside path)
        (shown-outside (deck setting) t (λ own. nat_lt (length own) (length texts)) (λ own. ap (λ (p : WorkedProgram). asked_by p own) is) path is_path.suits))

-- behind a run fault of a server a program has it
last_of-push : (path : List PathAnswer) (answer : PathAnswer) → last_of (path ++ answer ∷ []) ≡ Some answer
last_of-push [] answer = refl
last_of-push (first ∷ []) answer = refl
last_of-push (first ∷ second ∷ path) answer = last_of-push (second ∷ path) answer

no_send : (b : Bool) (c : ℕ) (message : List ℕ) → cond b verb.Show verb.Stop ≡ verb.Send c message → ⊥
no_send true c message e = cc e
no_send false c message e = cc e

fails-with : (program : WorkedProgram) (c x : ℕ) (message : List ℕ) (path : List PathAnswer) → asked_by program path ≡ verb.Send c message
    → asked_by program (path ++ Failed x ∷ []) ≡ verb.Fault x
fails-with (Keys lines) c x message path asks =
    ap (λ (last : Option PathAnswer). verb_behind lines (is_outside (path ++ Failed x ∷ [])) last) (last_of-push path (Failed x))
fails-with (Displays texts) c x message path asks = absurd (no_send (nat_lt (length path) (length texts)) c message asks)

-- What the server asks.

length-item : (content : List ℕ) → length (item content) ≡ 6
length-item content = length-take-le 6 (content ++ spaces) (let sum = length-append content spaces in rw sum (omega arith))

length-more : (content : List ℕ) → length (with_one_more content) ≡ 6
length-more content =
    let whole = length-item content in
    let sum = length-append (take 5 (item content)) ((slice_index_or (item content) 5 48 + 1) ∷ []) in
    let five = length-take-le 5 (item content) (omega (arith, whole)) in
    omega (arith, sum, five)

-- the operation names STOCK and has a key of its length; what it writes has the length of a record
record IsGoodCall (call : FileCall) : Type 0 where
  there : call.file < 1
  keyed : length (key_of (key_length_of call.file) call.op call) ≡ key_length_of call.file
  content : is_written call.op ≡ true → IsContent (key_length_of call.file) call.content

good_call : (op : FileOp) (content : List ℕ) → length content ≡ 6 → IsGoodCall (call_of op content)
good_call Write content six = record { there = omega arith; keyed = length-take-le 2 content (omega (arith, six)); content = λ e. (omega (arith, six), omega (arith, six)) }
good_call Rewrite content six = record { there = omega arith; keyed = length-take-le 2 content (omega (arith, six)); content = λ e. (omega (arith, six), omega (arith, six)) }
good_call _ content six = record { there = omega arith; keyed = length-take-le 2 content (omega (arith, six)); content = λ e. absurd (true≢false (sym e)) }

is_call : (own call : FileCall) → verb.File own ≡ verb.File call → IsGoodCall own → IsGoodCall call
is_call own call is good = subst IsGoodCall (let same : own ≡ call = cc in same) good

good_task : (task : WorkedTask) (content : List ℕ) (done : List FileResult) (call : FileCall) → length content ≡ 6
    → asked_for task content done ≡ verb.File call → IsGoodCall call
good_task (Does op) content [] call six is = is_call _ call is (good_call op content six)
good_task (Does op) content (answer ∷ done) call six is = absurd (cc is)
good_task (Increments op) content [] call six is = is_call _ call is (good_call op content six)
good_task (Increments op) content (read ∷ []) call six is = is_call _ call is (good_call Rewrite _ (length-more _))
good_task (Increments op) content (read ∷ rewritten ∷ done) call six is = absurd (cc is)
good_task (Breaks code) content done call six is = absurd (cc is)

good_ask : (c : ℕ) (message : List ℕ) (done : List FileResult) (call : FileCall) → asked_of c message done ≡ verb.File call → IsGoodCall call
good_ask zero message done call is = good_task (task_of message) (item (drop 1 message)) done call (length-item (drop 1 message)) is
good_ask (suc c) message done call is = absurd (cc is)

-- a system whose server has one task
abbrev with_task : WorkedTask → List ℕ → Behaviour → Behaviour
with_task task content sys = record sys { ops = λ c message done. asked_for task content done }

-- its operations come to its reply or run fault within two
two_add_up : (task : WorkedTask) (content : List ℕ) (sys : Behaviour) (c : ℕ) (message : List ℕ) (files : ℕ → List (List ℕ))
    → let at : Play = play_after (with_task task content sys) c message files 2 in
    ComesTo (served_by (asked_for task content at.done) at.files) (asked_for task content at.done) at.files
two_add_up (Does op) content sys c message files = (refl, refl)
two_add_up (Increments op) content sys c message files = (refl, refl)
two_add_up (Breaks code) content sys c message files = refl

adds_up : (setting : WorkedSetting) (c : ℕ) (message : List ℕ) (files : ℕ → List (List ℕ)) → c < 1 → AddsUp (deck setting) c message files
adds_up setting zero message files there = record {
  operations = 2;
  comes = two_add_up (task_of message) (item (drop 1 message)) (deck setting) 0 message files;
}
adds_up setting (suc c) message files there = absurd (omega (arith, there))

-- The file, and the deck.

stock_is : (f : ℕ) → IsFile (key_length_of f) (worked_records f)
unfolding IsStrictlySortedBy
stock_is zero = record {
  key = (omega arith, omega arith);
  contents = All-cons (IsContent 2) (codes "A10005") (codes "B10007" ∷ []) (omega arith, omega arith)
      (All-cons (IsContent 2) (codes "B10007") [] (omega arith, omega arith) (All-nil (IsContent 2)));
  order = ((refl, tt), (tt, tt));
}
stock_is (suc f) = IsFile-empty 1 (omega arith, omega arith)

staffed : (c : ℕ) → c < 1 → 1 ≤ processes_of c
staffed zero there = omega arith
staffed (suc c) there = absurd (omega (arith, there))

-- what holds of every deck holds of these
pub behaves : (setting : WorkedSetting) → IsBehaviour (deck setting)
behaves setting = record {
  pairs = λ t known. omega arith;
  asks = λ t path is_path. (at_path setting t path is_path).asked;
  begins = λ t path is_path. (at_path setting t path is_path).begins;
  stops = λ t path is_path. (at_path setting t path is_path).stops;
  ends = λ t path is_path. (at_path setting t path is_path).ends;
  drops = λ t path is_path. (at_path setting t path is_path).drops;
  redoes = λ t path is_path. (at_path setting t path is_path).redoes;
  fails = λ t c x message path is_path asks. fails-with (worked_program setting t) c x message path asks;
  sends = λ t c message path is_path. (at_path setting t path is_path).sends c message;
  staffed = staffed;
  calls = λ c message done call there asks. (good_ask c message done call asks).there;
  keys = λ c message done call there asks. (good_ask c message done call asks).keyed;
  writes = λ c message done call there asks. (good_ask c message done call asks).content;
  adds_up = λ c message files there are_files. adds_up setting c message files there;
  files = stock_is;
}
