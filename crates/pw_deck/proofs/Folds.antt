-- Sections that are read one after the other.
use Rattle.std.proofs.Common.{◌≡◌, ℕ, ◌+◌, true, false, cond, List, [], ◌∷◌, length, Result, Ok, sym, ap, subst, ◌∙◌}
use Rattle.pw_base.specs.declared.fault.Fault.{Fault}
use Rattle.pw_base.specs.declared.fault.Refusal.{Refusal}
use Rattle.pw_base.specs.First.{Refuses}
use Rattle.pw_sections.specs.Lines.{lines}
use Rattle.pw_sections.specs.Steps.{◌>>=◌}
use Rattle.pw_sections.proofs.Steps.{refuses_on}
use Rattle.pw_deck.specs.Parts.{section_read, sections_read}
use Rattle.pw_deck.specs.declared.parts.Parts.{Parts}

-- what follows a section
abbrev go_on : ℕ → List ℕ → List (List ℕ) → Parts → Result Parts Fault
go_on line section rest next = cond next.has_end (Ok next) (sections_read next (line + length (lines section)) rest)

first_read : (parts : Parts) (line : ℕ) (all rest : List (List ℕ)) (section : List ℕ) → all ≡ section ∷ rest
    → sections_read parts line all ≡ (section_read parts line section >>= go_on line section rest)
unfolding sections_read
first_read parts line all rest section is = ap (sections_read parts line) is

-- where a section is refused, all are
pub section_refused : (refusal : Refusal) (parts : Parts) (line : ℕ) (all rest : List (List ℕ)) (section : List ℕ) (whole : Result Parts Fault) → all ≡ section ∷ rest
    → Refuses refusal (section_read parts line section) → sections_read parts line all ≡ whole → Refuses refusal whole
section_refused refusal parts line all rest section whole is refuses so_far =
    let P : Result Parts Fault → Type 0 = λ s. Refuses refusal s in
    subst P (sym (first_read parts line all rest section is) ∙ so_far) (refuses_on refusal (section_read parts line section) (go_on line section rest) refuses)

-- behind the deck's end nothing is read
pub section_ended : (parts next : Parts) (line : ℕ) (all rest : List (List ℕ)) (section : List ℕ) (whole : Result Parts Fault) → all ≡ section ∷ rest
    → section_read parts line section ≡ Ok next → next.has_end ≡ true → sections_read parts line all ≡ whole → whole ≡ Ok next
section_ended parts next line all rest section whole is read ended so_far =
    sym so_far ∙ first_read parts line all rest section is ∙ ap (λ s. s >>= go_on line section rest) read
    ∙ ap (λ b. cond b (Ok next) (sections_read next (line + length (lines section)) rest)) ended

-- one section more
pub section_more : (parts next : Parts) (line : ℕ) (all rest : List (List ℕ)) (section : List ℕ) (count : ℕ) (whole : Result Parts Fault) → all ≡ section ∷ rest
    → section_read parts line section ≡ Ok next → next.has_end ≡ false → count ≡ length (lines section) → sections_read parts line all ≡ whole
    → sections_read next (line + count) rest ≡ whole
section_more parts next line all rest section count whole is read goes_on counted so_far =
    ap (λ n. sections_read next (line + n) rest) counted
    ∙ sym (first_read parts line all rest section is ∙ ap (λ s. s >>= go_on line section rest) read
    ∙ ap (λ b. cond b (Ok next) (sections_read next (line + length (lines section)) rest)) goes_on)
    ∙ so_far

-- no section is left
pub none_read : (parts : Parts) (line : ℕ) (all : List (List ℕ)) → all ≡ [] → sections_read parts line all ≡ Ok parts
unfolding sections_read
none_read parts line all none = ap (sections_read parts line) none
