-- Lines that are taken one after the other.
use Rattle.std.proofs.Common.{◌≡◌, ◌≢◌, ℕ, ◌+◌, false, cond, List, [], ◌∷◌, Result, Ok, refl, sym, ap, subst, ◌∙◌}
use Rattle.pw_base.specs.declared.fault.Fault.{Fault}
use Rattle.pw_base.specs.declared.fault.Refusal.{Refusal}
use Rattle.pw_base.specs.First.{Refuses}
use Rattle.pw_sections.specs.Lines.{lines}
use Rattle.pw_sections.specs.Steps.{◌>>=◌, is_empty, line_taken, each_line}
use Rattle.pw_sections.specs.Words.{words}
use Rattle.pw_sections.proofs.Steps.{refuses_on}

-- an empty text has no line
pub no_lines : (text : List ℕ) → text ≡ [] → lines text ≡ []
unfolding lines
no_lines text none = ap lines none

-- no line is left
pub none_taken : {S : Type 0} (step : ℕ → S → List ℕ → Result S Fault) (number : ℕ) (state : S) (all : List (List ℕ)) → all ≡ [] → each_line step number state all ≡ Ok state
unfolding each_line
none_taken step number state all none = ap (each_line step number state) none

-- one line more
pub one_taken : {S : Type 0} (step : ℕ → S → List ℕ → Result S Fault) (number : ℕ) (state next : S) (all rest : List (List ℕ)) (line : List ℕ) (whole : Result S Fault)
    → all ≡ line ∷ rest → line_taken step number state line ≡ Ok next → each_line step number state all ≡ whole
    → each_line step (number + 1) next rest ≡ whole
unfolding each_line
one_taken step number state next all rest line whole is taken so_far =
    sym (ap (each_line step number state) is ∙ ap (λ s. s >>= (λ n. each_line step (number + 1) n rest)) taken) ∙ so_far

refused_here : {S : Type 0} (refusal : Refusal) (step : ℕ → S → List ℕ → Result S Fault) (number : ℕ) (state : S) (rest : List (List ℕ)) (line : List ℕ)
    → Refuses refusal (line_taken step number state line) → Refuses refusal (each_line step number state (line ∷ rest))
unfolding each_line
refused_here refusal step number state rest line refuses =
    refuses_on refusal (line_taken step number state line) (λ next. each_line step (number + 1) next rest) refuses

-- where a line is refused, all are
pub one_refused : {S : Type 0} (refusal : Refusal) (step : ℕ → S → List ℕ → Result S Fault) (number : ℕ) (state : S) (all rest : List (List ℕ)) (line : List ℕ) (whole : Result S Fault)
    → all ≡ line ∷ rest → Refuses refusal (line_taken step number state line) → each_line step number state all ≡ whole → Refuses refusal whole
one_refused {S} refusal step number state all rest line whole is refuses so_far =
    let P : Result S Fault → Type 0 = λ s. Refuses refusal s in
    subst P (sym (ap (each_line step number state) is) ∙ so_far) (refused_here refusal step number state rest line refuses)

-- a blank line changes nothing
pub blank_taken : {S : Type 0} (step : ℕ → S → List ℕ → Result S Fault) (number : ℕ) (state : S) (line : List ℕ) → words line ≡ [] → line_taken step number state line ≡ Ok state
blank_taken step number state line none = ap (λ b. cond b (Ok state) (step number state line)) (ap is_empty none)

pub some_word : (ws : List (List ℕ)) → ws ≢ [] → is_empty ws ≡ false
some_word [] some = absurd (some refl)
some_word (w ∷ ws) some = refl

-- a line that is not blank is taken by the step
pub step_taken : {S : Type 0} (step : ℕ → S → List ℕ → Result S Fault) (number : ℕ) (state : S) (line : List ℕ) → words line ≢ [] → line_taken step number state line ≡ step number state line
step_taken step number state line some = ap (λ b. cond b (Ok state) (step number state line)) (some_word (words line) some)
