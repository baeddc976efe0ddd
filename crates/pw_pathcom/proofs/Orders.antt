-- The words of a command, and lines one after the other.
use Rattle.std.proofs.Common.{◌≡◌, ◌≢◌, ℕ, ◌+◌, List, [], ◌∷◌, None, Result, Ok, refl, sym, ap, subst, ◌∙◌}
use Rattle.pw_base.specs.declared.fault.Fault.{Fault}
use Rattle.pw_base.specs.declared.fault.Refusal.{Refusal}
use Rattle.pw_base.specs.First.{Refuses}
use Rattle.pw_sections.specs.Lines.{lines}
use Rattle.pw_sections.specs.Steps.{◌>>=◌}
use Rattle.pw_sections.proofs.Steps.{refuses_on}
use Rattle.pw_words.specs.Words.{Word}
use Rattle.pw_pathcom.specs.declared.reading.CommandReading.{CommandReading}
use Rattle.pw_pathcom.specs.Reading.{line_read, lines_read}
use Rattle.pw_pathcom.specs.Verbs.{command_of}

five : (a b c d : Word) (rest : List Word) → rest ≢ [] → None ≡ command_of (a ∷ b ∷ c ∷ d ∷ rest)
five a b c d [] some = absurd (some refl)
five a b c d (e ∷ rest) some = refl

-- five words are no command
pub too_many : (all second third fourth rest : List Word) (a b c d : Word) → all ≡ a ∷ second → second ≡ b ∷ third → third ≡ c ∷ fourth
    → fourth ≡ d ∷ rest → rest ≢ [] → None ≡ command_of all
too_many all second third fourth rest a b c d first_is second_is third_is fourth_is some =
    five a b c d rest some
    ∙ ap command_of (sym (first_is ∙ ap (λ ws. a ∷ ws) (second_is ∙ ap (λ ws. b ∷ ws) (third_is ∙ ap (λ ws. c ∷ ws) fourth_is))))

-- one line more
pub one_more : (number : ℕ) (reading next : CommandReading) (all rest : List (List ℕ)) (line : List ℕ) → all ≡ line ∷ rest
    → line_read number reading line ≡ Ok next → lines_read (number + 1) next rest ≡ lines_read number reading all
unfolding lines_read
one_more number reading next all rest line is read =
    sym (ap (lines_read number reading) is ∙ ap (λ s. s >>= (λ r. lines_read (number + 1) r rest)) read)

-- no line is left
pub none_left : (number : ℕ) (reading : CommandReading) (all : List (List ℕ)) → all ≡ [] → lines_read number reading all ≡ Ok reading
unfolding lines_read
none_left number reading all none = ap (lines_read number reading) none

-- where a line is refused, all are
pub one_refused : (number : ℕ) (reading : CommandReading) (all rest : List (List ℕ)) (line : List ℕ) → all ≡ line ∷ rest
    → lines_read number reading all ≡ (line_read number reading line >>= (λ next. lines_read (number + 1) next rest))
unfolding lines_read
one_refused number reading all rest line is = ap (lines_read number reading) is

-- an empty text has no line
pub no_lines : (text : List ℕ) → text ≡ [] → lines text ≡ []
unfolding lines
no_lines text none = ap lines none

-- where a line is refused, the commands are
pub refused_line : (refusal : Refusal) (number : ℕ) (reading : CommandReading) (all rest : List (List ℕ)) (line : List ℕ) (whole : Result CommandReading Fault) → all ≡ line ∷ rest
    → Refuses refusal (line_read number reading line) → lines_read number reading all ≡ whole
    → Refuses refusal (whole >>= (λ reading. Ok reading.commands))
refused_line refusal number reading all rest line whole is refuses so_far =
    let step = line_read number reading line in
    let here : Refuses refusal (step >>= (λ next. lines_read (number + 1) next rest)) = refuses_on refusal step (λ next. lines_read (number + 1) next rest) refuses in
    let P : Result CommandReading Fault → Type 0 = λ s. Refuses refusal (s >>= (λ r. Ok r.commands)) in
    subst P (sym (one_refused number reading all rest line is) ∙ so_far)
    (refuses_on refusal (step >>= (λ next. lines_read (number + 1) next rest)) (λ r. Ok r.commands) here)
