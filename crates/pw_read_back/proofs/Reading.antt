-- A run is read back from the text of its report, and no other log is.
use Rattle.std.proofs.Common.{◌≡◌, ℕ, ◌+◌, List, [], ◌∷◌, ◌++◌, refl, ap, sym, subst, ◌∙◌, arith}
use Rattle.std.specs.Fmt.{decimal}
use Rattle.std.specs.List.{AllByRecursion}
use Rattle.pw_code.specs.Valid.{HasNames}
use Rattle.pw_code.specs.declared.system.System.{System}
use Rattle.pw_event.specs.Line.{IsNamed, event_text}
use Rattle.pw_event.specs.Reading.{IsLineOf}
use Rattle.pw_event.specs.declared.event.Event.{Event}
use Rattle.pw_event.specs.declared.script.FailLine.{FailLine}
use Rattle.pw_code_meaning.specs.OfSystem.{behaviour}
use Rattle.pw_report_text.proofs.OneLines.{event-one}
use Rattle.pw_report_text.proofs.ReadingBack.{report-cut}
use Rattle.pw_report_text.specs.Meaning.{machine_of, report_text}
use Rattle.pw_report_text.specs.ReadBack.{AreLines, IsOneLine, behind_log, header_lines, last_words, lines_of, numbered_entry_lines}
use Rattle.pw_read_back.proofs.NamedLines.{log-named}
use Rattle.pw_serial_order.specs.Order.{told}
use Rattle.pw_paired.specs.Serial.{blocks}
use Rattle.pw_paired.specs.Step.{after, is_finished}
use Rattle.std.specs.Prelude.{map}
use Rattle.pw_read_back.proofs.Ranges.{HasRanges, run-small}
use Rattle.pw_read_back.specs.ReadFrom.{AreReadAs, IsReadAs, IsReadFrom}
use Rattle.pw_read_back.specs.Runs.{IsRunOf}

-- ---- each entry of a run is one line

lines-one : (system : System) → HasNames system → (log : List Event)
    → AllByRecursion (IsNamed system) log → AllByRecursion (HasRanges system) log
    → AllByRecursion (λ entry. IsOneLine (event_text system entry)) log
lines-one system names [] named small = tt
lines-one system names (entry ∷ log) named small =
    (event-one system entry names named.0 small.0, lines-one system names log named.1 small.1)

pub run-lines : (system : System) (script : List FailLine) (log : List Event)
    → IsRunOf system script log → AreLines system log
run-lines system script log of = record {
  each = lines-one system of.valid.names log (log-named system script of.deck of.lines log of.run)
      (run-small system script log of);
  few = let short = of.short in omega (arith, short);
}

-- what stands behind the last line LOG of its report
pub run-behind : (system : System) (script : List FailLine) (log : List Event)
    → IsRunOf system script log
    → behind_log (lines_of (report_text system (behaviour script system) log))
    ≡ header_lines system.rule ++ (numbered_entry_lines system 1 log ++ last_words
    (is_finished (behaviour script system) (after (behaviour script system) log)) ∷ [])
run-behind system script log of =
    report-cut system (map told (blocks (behaviour script system) log))
    (λ t. ((machine_of (behaviour script system) log).terms t).refreshes)
    (machine_of (behaviour script system) log).files log
    (is_finished (behaviour script system) (after (behaviour script system) log))
    (run-lines system script log of)

-- ---- it is read back

numbered-read : (system : System) (n : ℕ) (log : List Event) → AllByRecursion (IsNamed system) log
    → AllByRecursion (HasRanges system) log → AreReadAs system n (numbered_entry_lines system n log) log
numbered-read system n [] named small = tt
numbered-read system n (entry ∷ log) named small = (
  record {
    words = event_text system entry;
    is = refl;
    reads =
        record { named = named.0; numbers = small.0; spelled = refl };
  },
  numbered-read system (n + 1) log named.1 small.1,
)

pub run-read : (system : System) (script : List FailLine) (log : List Event)
    → IsRunOf system script log → IsReadFrom system
    (report_text system (behaviour script system) log) log
run-read system script log of = record {
  lines = numbered_entry_lines system 1 log;
  finished = is_finished (behaviour script system) (after (behaviour script system) log);
  behind = run-behind system script log of;
  each = numbered-read system 1 log (log-named system script of.deck of.lines log of.run)
      (run-small system script log of);
}

-- ---- and no other

-- a line spells at most one entry
abbrev pub SpellsOne : System → Type 0
SpellsOne system = (line : List ℕ) (a b : Event) → IsLineOf system line a → IsLineOf system line b
    → a ≡ b

abbrev tail : List ℕ → List ℕ
tail [] = []
tail (b ∷ rest) = rest

-- what stands behind equal texts
behind-same : (front xs ys : List ℕ) → front ++ xs ≡ front ++ ys → xs ≡ ys
behind-same [] xs ys same = same
behind-same (b ∷ front) xs ys same = behind-same front xs ys (ap tail same)

read-one : (system : System) → SpellsOne system → (n : ℕ) (line other : List ℕ) (a b : Event)
    → line ≡ other → IsReadAs system n line a → IsReadAs system n other b → a ≡ b
read-one system one n line other a b equal first second =
    let same : decimal n ++ 32 ∷ first.words ≡ decimal n ++ 32 ∷ second.words = sym first.is
    ∙ (equal ∙ second.is) in
    let words : first.words ≡ second.words = ap tail
    (behind-same (decimal n) (32 ∷ first.words) (32 ∷ second.words) same) in
    one second.words a b (subst (λ (w : List ℕ). IsLineOf system w a) words first.reads) second.reads

abbrev first_of : List (List ℕ) → List ℕ
first_of [] = []
first_of (line ∷ lines) = line

abbrev rest_of : List (List ℕ) → List (List ℕ)
rest_of [] = []
rest_of (line ∷ lines) = lines

logs-one : (system : System) → SpellsOne system
    → (n : ℕ) (lines others : List (List ℕ)) (log other : List Event) → lines ≡ others
    → AreReadAs system n lines log → AreReadAs system n others other → log ≡ other
logs-one system one n [] [] [] [] same first second = refl
logs-one system one n (line ∷ lines) (next ∷ others) (a ∷ log) (b ∷ other) same first second =
    let here : a ≡ b = read-one system one n line next a b (ap first_of same) first.0 second.0 in
    let rest : log ≡ other = logs-one system one (n + 1) lines others log other
    (ap rest_of same) first.1 second.1 in
    cc (here, rest)
logs-one system one n [] (next ∷ others) log other same first second = absurd (cc same)
logs-one system one n (line ∷ lines) [] log other same first second = absurd (cc same)
logs-one system one n [] [] (a ∷ log) other same first second = absurd first
logs-one system one n [] [] [] (b ∷ other) same first second = absurd second
logs-one system one n (line ∷ lines) (next ∷ others) [] other same first second = absurd first
logs-one system one n (line ∷ lines) (next ∷ others) (a ∷ log) [] same first second = absurd second

-- lists without their last line
front-same : (xs ys : List (List ℕ)) (x y : List ℕ) → xs ++ x ∷ [] ≡ ys ++ y ∷ [] → xs ≡ ys
front-same [] [] x y same = refl
front-same (a ∷ xs) (b ∷ ys) x y same =
    let here : a ≡ b = ap first_of same in
    let rest : xs ≡ ys = front-same xs ys x y (ap rest_of same) in
    cc (here, rest)
front-same [] (b ∷ []) x y same = let none : [] ≡ y ∷ [] = ap rest_of same in absurd (cc none)
front-same [] (b ∷ c ∷ ys) x y same = let none : [] ≡ c ∷ (ys ++ y ∷ []) = ap rest_of same in
    absurd (cc none)
front-same (a ∷ []) [] x y same = let none : x ∷ [] ≡ [] = ap rest_of same in absurd (cc none)
front-same (a ∷ c ∷ xs) [] x y same = let none : c ∷ (xs ++ x ∷ []) ≡ [] = ap rest_of same in
    absurd (cc none)

behind-lines : (front xs ys : List (List ℕ)) → front ++ xs ≡ front ++ ys → xs ≡ ys
behind-lines [] xs ys same = same
behind-lines (line ∷ front) xs ys same = behind-lines front xs ys (ap rest_of same)

pub text-one : (system : System) → SpellsOne system → (text : List ℕ) (log other : List Event)
    → IsReadFrom system text log → IsReadFrom system text other → log ≡ other
text-one system one text log other first second =
    logs-one system one 1 first.lines second.lines log other
    (front-same first.lines second.lines (last_words first.finished) (last_words second.finished)
    (behind-lines (header_lines system.rule) (first.lines ++ last_words first.finished ∷ [])
    (second.lines ++ last_words second.finished ∷ []) (sym first.behind ∙ second.behind)))
    first.each second.each
