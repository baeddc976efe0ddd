-- What TOTAL-P's statements have to meet, and that they do: it leaves the files.
use Rattle.std.proofs.Common.{ℕ, List, [], ◌∷◌, refl}
use Rattle.pw_bank_laws.proofs.Trees.{total_program}
use Rattle.pw_bank_laws.specs.Servers.{BankChoices, whole_bank}
use Rattle.pw_invariants.specs.Units.{FileRecords}
use Rattle.pw_program_laws.specs.Meets.{ServerMeets}

-- the sizes of the items of TOTAL-P
abbrev pub total_sizes : List ℕ
total_sizes = 4 ∷ 11 ∷ 9 ∷ 4 ∷ 10 ∷ []

pub total-meets : (bank : BankChoices) (message : List ℕ) (replies : List ℕ → FileRecords → Type 0) (files : FileRecords)
    → ((reply : List ℕ) → replies reply files)
    → ServerMeets (whole_bank bank) total_program total_sizes message replies files
total-meets bank message replies files same = λ texts registers sized.
    ((λ none. (λ e. (λ f. refl, λ chars f. refl), λ e. refl), λ content found. (λ e. (λ f. refl, λ chars f. refl), λ e. refl)), same _)
