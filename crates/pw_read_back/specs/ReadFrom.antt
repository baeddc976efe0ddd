-- What it is to read a log from a text.
use Rattle.std.specs.Prelude.{◌≡◌, ℕ, ◌+◌, Bool, List, [], ◌∷◌, ◌++◌, Ok}
use Rattle.std.specs.Fmt.{decimal}
use Rattle.pw_base.specs.Characters.{space}
use Rattle.pw_code.specs.declared.system.System.{System}
use Rattle.pw_event.specs.Reading.{ReadsEventLine}
use Rattle.pw_event.specs.declared.event.Event.{Event}
use Rattle.pw_report_text.specs.ReadBack.{behind_log, header_lines, last_words, lines_of}

-- the line is the number of an entry and a space, and what stands behind them is read as the entry
pub record IsReadAs (system : System) (n : ℕ) (line : List ℕ) (entry : Event) : Type 0 where
  pub words : List ℕ
  pub is : line ≡ decimal n ++ space ∷ words
  pub reads : ReadsEventLine system words (Ok entry)

-- the lines are read one by one as the entries, which are numbered from n
abbrev pub AreReadAs : System → ℕ → List (List ℕ) → List Event → Type 0
AreReadAs system n [] [] = Unit {0}
AreReadAs system n (line ∷ lines) (entry ∷ log) =
    IsReadAs system n line entry × AreReadAs system (n + 1) lines log
AreReadAs system n _ _ = ⊥

-- The log is read from the text: behind its last line LOG stand the header, if the rule has one,
-- lines that are read one by one as the log's entries, and the last line.
pub record IsReadFrom (system : System) (text : List ℕ) (log : List Event) : Type 0 where
  pub lines : List (List ℕ)
  pub finished : Bool
  pub behind : behind_log (lines_of text)
      ≡ header_lines system.rule ++ (lines ++ last_words finished ∷ [])
  pub each : AreReadAs system 1 lines log
