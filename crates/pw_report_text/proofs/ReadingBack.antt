-- A log is read back from the text of its report.
use Rattle.std.proofs.Common.{◌≡◌, ℕ, zero, suc, ◌+◌, ◌<◌, ◌^◌, ◌==◌, ◌&&◌, ◌||◌, Bool, true, false, List, [], ◌∷◌, ◌++◌, length, get_or, if◌then◌else◌, refl, ap, sym, ◌∙◌, append-nil, append_assoc, arith}
use Rattle.std.specs.Prelude.{codes}
use Rattle.std.specs.Fmt.{decimal}
use Rattle.std.specs.List.{All, AllByRecursion, list_any}
use Rattle.std.proofs.lemmas.Bool.{cond-false, cond-true, ne_eqb, or_right}
use Rattle.std.proofs.lemmas.Fmt.{decimal_is_IsNumeral}
use Rattle.std.proofs.lemmas.List.{get_or_default}
use Rattle.std.proofs.lemmas.List.Elements.{recursion_from_All}
use Rattle.std.proofs.lemmas.Str.Parse.{digit_at}
use Rattle.pw_code.specs.declared.lock.LockRule.{LockRule}
use Rattle.pw_code.specs.declared.lock.LockRule.TheVariants.{ReadersShare, AllExclusive}
use Rattle.pw_code.specs.declared.system.System.{System}
use Rattle.pw_event.specs.Line.{event_text, file_name, sentence}
use Rattle.pw_event.specs.declared.event.Event.{Event}
use Rattle.pw_report_text.specs.Lines.{entry_lines, file_part, header, last_line, line, record_line, record_lines}
use Rattle.pw_report_text.specs.Listing.{files_part, files_to, log_part, report_of, screens_part, serial_part}
use Rattle.pw_report_text.specs.ReadBack.{AreLines, IsOneLine, behind_log, header_lines, is_log, last_words, lines_from, lines_of, numbered_entry_lines}
use Rattle.pw_onecopy.specs.declared.refresh.Refresh.{Refresh}
use Rattle.pw_serial_order.specs.declared.block.Block.{Block}

-- a line of a text
line-cut : (before words rest : List ℕ) → IsOneLine words → lines_from before (words ++ 10 ∷ rest) ≡ (before ++ words) ∷ lines_from [] rest
line-cut before [] rest one = ap (λ (l : List ℕ). l ∷ lines_from [] rest) (sym (append-nil before))
line-cut before (b ∷ words) rest one =
    cond-false (b == 10) (before ∷ lines_from [] (words ++ 10 ∷ rest)) (lines_from (before ++ b ∷ []) (words ++ 10 ∷ rest)) one.0
    ∙ (line-cut (before ++ b ∷ []) words rest one.1 ∙ ap (λ (l : List ℕ). l ∷ lines_from [] rest) (append_assoc before (b ∷ []) words))

-- the lines of a text that goes on behind a line end
front-cut : (before front rest : List ℕ) → lines_from before (front ++ 10 ∷ rest) ≡ lines_from before (front ++ 10 ∷ []) ++ lines_from [] rest
front-cut before [] rest = refl
front-cut before (b ∷ front) rest = by (b == 10) (front-cut [] front rest) (front-cut (before ++ b ∷ []) front rest)
  where
    by : (test : Bool) → lines_from [] (front ++ 10 ∷ rest) ≡ lines_from [] (front ++ 10 ∷ []) ++ lines_from [] rest
        → lines_from (before ++ b ∷ []) (front ++ 10 ∷ rest) ≡ lines_from (before ++ b ∷ []) (front ++ 10 ∷ []) ++ lines_from [] rest
        → (if test then before ∷ lines_from [] (front ++ 10 ∷ rest) else lines_from (before ++ b ∷ []) (front ++ 10 ∷ rest))
        ≡ (if test then before ∷ lines_from [] (front ++ 10 ∷ []) else lines_from (before ++ b ∷ []) (front ++ 10 ∷ [])) ++ lines_from [] rest
    by true ended more = ap (λ (l : List (List ℕ)). before ∷ l) ended
    by false ended more = more

-- what is behind the last line LOG
behind-last : (before rest : List (List ℕ)) (head : List ℕ) → is_log head ≡ true → list_any is_log rest ≡ false → behind_log (before ++ head ∷ rest) ≡ rest
behind-last [] rest head is none = rw (none, is) refl
behind-last (words ∷ before) rest head is none =
    cond-true (list_any is_log (before ++ head ∷ rest)) (behind_log (before ++ head ∷ rest)) (if is_log words then before ++ head ∷ rest else []) (some before) ∙ behind-last before rest head is none
  where
    some : (xs : List (List ℕ)) → list_any is_log (xs ++ head ∷ rest) ≡ true
    some [] = ap (λ (b : Bool). b || list_any is_log rest) is
    some (x ∷ xs) = or_right (is_log x) (list_any is_log (xs ++ head ∷ rest)) (some xs)

-- the words of an entry's line are one line
pub both-one : (xs ys : List ℕ) → IsOneLine xs → IsOneLine ys → IsOneLine (xs ++ ys)
both-one [] ys one other = other
both-one (x ∷ xs) ys one other = (one.0, both-one xs ys one.1 other)

-- digits are no line end
decimal-lacks : (n : ℕ) → n < 2 ^ 64 → All (λ b. (b == 10) ≡ false) (decimal n)
decimal-lacks n fits k d within =
    let digit = digit_at (decimal n) k (decimal_is_IsNumeral n fits).0.1 within in
    ne_eqb (get_or (decimal n) k d) 10 (λ e. omega (arith, get_or_default (decimal n) k d 0 within))

pub decimal-one : (n : ℕ) → n < 2 ^ 64 → IsOneLine (decimal n)
decimal-one n fits = recursion_from_All (λ b. (b == 10) ≡ false) (decimal n) (decimal-lacks n fits)

entry-one : (system : System) (n : ℕ) (entry : Event) → n < 2 ^ 64 → IsOneLine (event_text system entry) → IsOneLine (decimal n ++ 32 ∷ event_text system entry)
entry-one system n entry fits one =
    both-one (decimal n) (32 ∷ event_text system entry) (recursion_from_All (λ b. (b == 10) ≡ false) (decimal n) (decimal-lacks n fits)) (refl, one)

none-of : (a b c : Bool) → (a && (b && (c && false))) ≡ false
none-of false b c = refl
none-of true false c = refl
none-of true true false = refl
none-of true true true = refl

-- a line with a space does not head the log
spaced : (xs ys : List ℕ) → is_log (xs ++ 32 ∷ ys) ≡ false
spaced [] ys = refl
spaced (a ∷ []) ys = none-of (a == 76) true true
spaced (a ∷ b ∷ []) ys = none-of (a == 76) (b == 79) true
spaced (a ∷ b ∷ c ∷ []) ys = none-of (a == 76) (b == 79) (c == 71)
spaced (a ∷ b ∷ c ∷ d ∷ xs) ys = none-of (a == 76) (b == 79) (c == 71)

grouped : (words more rest : List ℕ) → ((words ++ 10 ∷ []) ++ more) ++ rest ≡ words ++ 10 ∷ (more ++ rest)
grouped words more rest = append_assoc (words ++ 10 ∷ []) more rest ∙ append_assoc words (10 ∷ []) (more ++ rest)

-- the lines of the entries
entries-cut : (system : System) (n : ℕ) (log : List Event) (rest : List ℕ) → AllByRecursion (λ entry. IsOneLine (event_text system entry)) log → n + length log < 2 ^ 64
    → lines_of (entry_lines system n log ++ rest) ≡ numbered_entry_lines system n log ++ lines_of rest
entries-cut system n [] rest each few = refl
entries-cut system n (entry ∷ log) rest each few =
    ap lines_of (grouped (decimal n ++ 32 ∷ event_text system entry) (entry_lines system (n + 1) log) rest)
    ∙ (line-cut [] (decimal n ++ 32 ∷ event_text system entry) (entry_lines system (n + 1) log ++ rest) (entry-one system n entry (omega arith) each.0)
    ∙ ap (λ (l : List (List ℕ)). (decimal n ++ 32 ∷ event_text system entry) ∷ l) (entries-cut system (n + 1) log rest each.1 (omega arith)))

header-cut : (rule : LockRule) (rest : List ℕ) → lines_of (header rule ++ rest) ≡ header_lines rule ++ lines_of rest
header-cut ReadersShare rest = refl
header-cut AllExclusive rest = refl

last-cut : (finished : Bool) → lines_of (last_line finished) ≡ last_words finished ∷ []
last-cut true = refl
last-cut false = refl

-- none of these lines heads the log
none-logs : (system : System) (n : ℕ) (log : List Event) (finished : Bool) → list_any is_log (numbered_entry_lines system n log ++ last_words finished ∷ []) ≡ false
none-logs system n [] true = refl
none-logs system n [] false = refl
none-logs system n (entry ∷ log) finished =
    ap (λ (b : Bool). b || list_any is_log (numbered_entry_lines system (n + 1) log ++ last_words finished ∷ [])) (spaced (decimal n) (event_text system entry)) ∙ none-logs system (n + 1) log finished

none-heads : (rule : LockRule) (rest : List (List ℕ)) → list_any is_log rest ≡ false → list_any is_log (header_lines rule ++ rest) ≡ false
none-heads ReadersShare rest none = none
none-heads AllExclusive rest none = none

-- a text that ends with a line
abbrev EndsLine : List ℕ → Type 0
EndsLine text = (before : List ℕ) × (text ≡ before ++ 10 ∷ [])

ends-behind : (first text : List ℕ) → EndsLine text → EndsLine (first ++ text)
ends-behind first text ends = (first ++ ends.0, ap (λ (t : List ℕ). first ++ t) ends.1 ∙ sym (append_assoc first ends.0 (10 ∷ [])))

ends-records : (first : List ℕ) (records : List (List ℕ)) → EndsLine first → EndsLine (first ++ record_lines records)
ends-records first [] ends = (ends.0, append-nil first ∙ ends.1)
ends-records first (content ∷ records) ends =
    let more = ends-records (first ++ record_line content) records (ends-behind first (record_line content) (124 ∷ content, refl)) in
    (more.0, sym (append_assoc first (record_line content) (record_lines records)) ∙ more.1)

ends-files : (system : System) (records : ℕ → List (List ℕ)) (first : List ℕ) (n : ℕ) → EndsLine first → EndsLine (first ++ files_to system records n)
ends-files system records first zero ends = (ends.0, append-nil first ∙ ends.1)
ends-files system records first (suc f) ends =
    ends-behind first (files_to system records f ++ file_part system f (records f))
    (ends-behind (files_to system records f) (file_part system f (records f))
    (ends-records (line (sentence (codes "FILE" ∷ file_name system f ∷ []))) (records f) (sentence (codes "FILE" ∷ file_name system f ∷ []), refl)))

-- the lines behind the last line LOG of a text
text-cut : (system : System) (front : List ℕ) (log : List Event) (finished : Bool) → EndsLine front → AreLines system log
    → behind_log (lines_of (front ++ (log_part system log ++ last_line finished))) ≡ header_lines system.rule ++ (numbered_entry_lines system 1 log ++ last_words finished ∷ [])
text-cut system front log finished ends are =
    ap (λ (text : List ℕ). behind_log (lines_of text)) (ap (λ (text : List ℕ). text ++ (log_part system log ++ last_line finished)) ends.1 ∙ append_assoc ends.0 (10 ∷ []) (log_part system log ++ last_line finished))
    ∙ (ap behind_log (front-cut [] ends.0 (log_part system log ++ last_line finished))
    ∙ (ap (λ (l : List (List ℕ)). behind_log (lines_of (ends.0 ++ 10 ∷ []) ++ codes "LOG" ∷ l)) rest
    ∙ behind-last (lines_of (ends.0 ++ 10 ∷ [])) (header_lines system.rule ++ (numbered_entry_lines system 1 log ++ last_words finished ∷ [])) (codes "LOG") refl
    (none-heads system.rule (numbered_entry_lines system 1 log ++ last_words finished ∷ []) (none-logs system 1 log finished))))
  where
    rest : lines_of ((header system.rule ++ entry_lines system 1 log) ++ last_line finished) ≡ header_lines system.rule ++ (numbered_entry_lines system 1 log ++ last_words finished ∷ [])
    rest =
        ap lines_of (append_assoc (header system.rule) (entry_lines system 1 log) (last_line finished))
        ∙ (header-cut system.rule (entry_lines system 1 log ++ last_line finished)
        ∙ ap (λ (l : List (List ℕ)). header_lines system.rule ++ l)
        (entries-cut system 1 log (last_line finished) are.each (let few = are.few in omega (arith, few)) ∙ ap (λ (l : List (List ℕ)). numbered_entry_lines system 1 log ++ l) (last-cut finished)))

-- the same of a report
pub report-cut : (system : System) (order : List Block) (screens : ℕ → List Refresh) (records : ℕ → List (List ℕ)) (log : List Event) (finished : Bool) → AreLines system log
    → behind_log (lines_of (report_of system order screens records log finished)) ≡ header_lines system.rule ++ (numbered_entry_lines system 1 log ++ last_words finished ∷ [])
report-cut system order screens records log finished are =
    ap (λ (text : List ℕ). behind_log (lines_of text))
    (ap (λ (text : List ℕ). serial_part system order ++ text) (sym (append_assoc (screens_part system screens) (files_part system records) (log_part system log ++ last_line finished)))
    ∙ sym (append_assoc (serial_part system order) (screens_part system screens ++ files_part system records) (log_part system log ++ last_line finished)))
    ∙ text-cut system (serial_part system order ++ (screens_part system screens ++ files_part system records)) log finished
    (ends-behind (serial_part system order) (screens_part system screens ++ files_part system records)
    (ends-behind (screens_part system screens) (files_part system records)
    (ends-files system records (line (codes "FILES")) (length system.files) (codes "FILES", refl)))) are
