-- The faults of objects, noted one after the other.
use Rattle.std.proofs.Common.{◌≡◌, ℕ, ◌+◌, ◌<◌, ◌≤◌, List, [], ◌∷◌, length, get_or, drop, Option, None, Ok, sym, ap, subst, ◌∙◌}
use Rattle.std.specs.Prelude.{flat_map}
use Rattle.std.proofs.lemmas.List.{drop_more, drop_all}
use Rattle.pw_base.specs.declared.fault.Fault.{Fault}
use Rattle.pw_base.specs.declared.fault.Refusal.{Refusal}
use Rattle.pw_base.specs.First.{least, unless, Refuses}
use Rattle.pw_base.proofs.FirstFault.{least-append}
use Rattle.pw_sections.specs.Lines.{lines}
use Rattle.pw_sections.specs.Steps.{◌>>=◌}
use Rattle.pw_sections.specs.Words.{words}
use Rattle.pw_sections.proofs.Steps.{refuses_on}
use Rattle.pw_words.specs.Words.{Word}
use Rattle.pw_pathcom.specs.declared.commands.Commands.{Commands}
use Rattle.pw_pathcom.specs.Objects.{unknown_terminal, unknown_class, unknown, bad_start_in, bad_starts, objects_of}
use Rattle.pw_pathcom.specs.Verbs.{command_of}

-- one more thing is noted
pub one_noted : {A : Type 0} (faults : A → List Fault) (things : List A) (i : ℕ) (d : A) (best next whole : Option Fault) → i < length things
    → next ≡ least best (faults (get_or things i d)) → least best (flat_map faults (drop i things)) ≡ whole
    → least next (flat_map faults (drop (i + 1) things)) ≡ whole
one_noted faults things i d best next whole lt is so_far =
    ap (λ b. least b (flat_map faults (drop (i + 1) things))) is
    ∙ sym (least-append best (faults (get_or things i d)) (flat_map faults (drop (i + 1) things)))
    ∙ ap (λ ts. least best (flat_map faults ts)) (sym (drop_more things i d lt)) ∙ so_far

-- none is left
pub all_noted : {A : Type 0} (faults : A → List Fault) (things : List A) (i : ℕ) (best whole : Option Fault) → length things ≤ i
    → least best (flat_map faults (drop i things)) ≡ whole → best ≡ whole
all_noted faults things i best whole le so_far = ap (λ ts. least best (flat_map faults ts)) (sym (drop_all i things le)) ∙ so_far

-- one more line is noted
pub one_line : (commands : Commands) (number : ℕ) (all rest : List (List ℕ)) (line : List ℕ) (best next whole : Option Fault) → all ≡ line ∷ rest
    → next ≡ least best (bad_start_in commands number (command_of (words line))) → least best (bad_starts commands number all) ≡ whole
    → least next (bad_starts commands (number + 1) rest) ≡ whole
unfolding bad_starts
one_line commands number all rest line best next whole is noted so_far =
    ap (λ b. least b (bad_starts commands (number + 1) rest)) noted
    ∙ sym (least-append best (bad_start_in commands number (command_of (words line))) (bad_starts commands (number + 1) rest))
    ∙ ap (λ ls. least best (bad_starts commands number ls)) (sym is) ∙ so_far

-- no line is left
pub no_line : (commands : Commands) (number : ℕ) (all : List (List ℕ)) (best whole : Option Fault) → all ≡ []
    → least best (bad_starts commands number all) ≡ whole → best ≡ whole
unfolding bad_starts
no_line commands number all best whole none so_far = ap (λ ls. least best (bad_starts commands number ls)) (sym none) ∙ so_far

-- the first of the terminals, and then of the classes, is the first of all
pub all_unknown : (commands : Commands) (programs servers : List Word) (first best : Option Fault)
    → first ≡ least None (flat_map (unknown_terminal commands programs) commands.terminals)
    → best ≡ least first (flat_map (unknown_class servers) commands.classes) → best ≡ least None (unknown commands programs servers)
all_unknown commands programs servers first best first_is best_is =
    best_is ∙ ap (λ f. least f (flat_map (unknown_class servers) commands.classes)) first_is
    ∙ sym (least-append None (flat_map (unknown_terminal commands programs) commands.terminals) (flat_map (unknown_class servers) commands.classes))

-- an ADD that is unknown is refused
pub refused_add : (refusal : Refusal) (commands : Commands) (text : List ℕ) (first_line : ℕ) (programs servers : List Word) (best : Option Fault)
    → best ≡ least None (unknown commands programs servers) → Refuses refusal (unless best (tt {0}))
    → Refuses refusal (objects_of commands text first_line programs servers)
refused_add refusal commands text first_line programs servers best is refuses =
    let P : Option Fault → Type 0 = λ b. Refuses refusal (unless b (tt {0})) in
    refuses_on refusal (unless (least None (unknown commands programs servers)) (tt {0})) (λ done. unless (least None (bad_starts commands first_line (lines text))) (tt {0}))
    (subst P is refuses)

-- where no ADD is unknown, the STARTs are looked at
pub starts_alone : (commands : Commands) (text : List ℕ) (first_line : ℕ) (programs servers : List Word) (best starts : Option Fault) (done : Unit {0})
    → best ≡ least None (unknown commands programs servers) → unless best (tt {0}) ≡ Ok done
    → starts ≡ least None (bad_starts commands first_line (lines text)) → objects_of commands text first_line programs servers ≡ unless starts (tt {0})
starts_alone commands text first_line programs servers best starts done is good starts_are =
    ap (λ step. step >>= (λ d. unless (least None (bad_starts commands first_line (lines text))) (tt {0}))) (ap (λ b. unless b (tt {0})) (sym is) ∙ good)
    ∙ ap (λ b. unless b (tt {0})) (sym starts_are)
