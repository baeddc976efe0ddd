-- What clap's faults and matches come to, at each way out of a parse.
use Rattle.std.proofs.Common.{◌≡◌, ◌∙◌, ℕ, List, [], Some, refl, sym, ap, ap₂, true, codes, option_map}
use Rattle.clap.specs.Words.{App, Row, Text, fault_of, is_simple, is_simple_and_free, matches_of, takes}
use Rattle.pw_command_line.specs.CommandLine.{command_in, command_of, number_at, pathway_app, reading, words_with}
use Rattle.pw_command_line.specs.declared.words.Command.{Command}
use Rattle.pw_command_line.specs.declared.words.Words.{Words}

free : is_simple_and_free pathway_app ≡ true
free = refl

pub is_free : (a : App) → a ≡ pathway_app → is_simple_and_free a ≡ true
is_free a e = ap is_simple_and_free e ∙ free

simple : is_simple pathway_app ≡ true
simple = refl

pub is_ready : (a : App) → a ≡ pathway_app → is_simple a ≡ true
is_ready a e = ap is_simple e ∙ simple

pub same_words : (rows : List Row) (cmd : Command) (a b c d e : ℕ) → a ≡ number_at (codes "workers") rows → b ≡ number_at (codes "events") rows
    → c ≡ number_at (codes "seed") rows → d ≡ number_at (codes "terms") rows → e ≡ number_at (codes "at") rows
    → words_with rows cmd ≡ record { command = cmd; workers = a; events = b; seed = c; terms = d; at = e }
same_words rows cmd a b c d e pa pb pc pd pe = rw (pa, pb, pc, pd, pe) refl

-- a parse that succeeds, with one of the nine
pub says : (a : App) (words : List Text) (rows : List Row) (cmd : Command) (w : Words) → a ≡ pathway_app → fault_of a words ≡ [] → rows ≡ matches_of a words
    → Some cmd ≡ command_in rows → words_with rows cmd ≡ w → command_of words ≡ Some w
says a words rows cmd w is none are named same =
    ap₂ reading (sym (ap (λ x. fault_of x words) is) ∙ none) (ap (λ x. matches_of x words) (sym is) ∙ sym are)
    ∙ (ap (λ o. option_map (words_with rows) o) (sym named) ∙ ap (λ x. Some x) same)

pub as_taken : (a : App) (words : List Text) → a ≡ pathway_app → takes pathway_app words ≡ true → takes a words ≡ true
as_taken a words is taken = ap (λ x. takes x words) is ∙ taken
