-- What the data give, by the entries and the first fault that are found.
use Rattle.std.proofs.Common.{◌≡◌, ℕ, Bool, true, false, List, [], ◌++◌, Option, None, sym, ap, ◌∙◌}
use Rattle.std.specs.Option.{option_or}
use Rattle.pw_base.specs.declared.fault.Fault.{Fault}
use Rattle.pw_base.specs.First.{least, unless}
use Rattle.pw_base.proofs.FirstFault.{least-append}
use Rattle.pw_text.specs.declared.token.Token.{Token}
use Rattle.pw_data.specs.declared.entry.Entry.{Entry}
use Rattle.pw_data.specs.Parts.{parts_of}
use Rattle.pw_data.specs.Entries.{faults_of_parts}
use Rattle.pw_data.specs.Tree.{forest, tree_faults}
use Rattle.pw_data.specs.Names.{clashes}
use Rattle.pw_data.specs.Laid.{too_large}
use Rattle.pw_data.specs.Layouts.{laid, entries_in, faults_among, first_among, first_fault, layout_of}

pub outcome : (text : List ℕ) (tokens : List Token) (server : Bool) (entries : List Entry) (known found : Option Fault)
    → entries ≡ entries_in text tokens server → known ≡ least None (faults_of_parts server text (parts_of text tokens)) → found ≡ first_among text known entries
    → layout_of text tokens server ≡ unless found (laid text entries)
outcome text tokens server entries known found entries_is known_is found_is =
    let all : List Entry = entries_in text tokens server in
    let others : List Fault = faults_among text all in
    let first : first_fault text tokens server ≡ first_among text known all =
    ap (λ o. option_or o (too_large 0 (forest all))) (least-append None (faults_of_parts server text (parts_of text tokens)) others ∙ ap (λ k. least k others) (sym known_is)) in
    ap (λ f. unless f (laid text all)) first ∙ ap (λ es. unless (first_among text known es) (laid text es)) (sym entries_is) ∙ ap (λ f. unless f (laid text entries)) (sym found_is)

-- the faults of places and of names, one behind the other
pub among : (text : List ℕ) (entries : List Entry) (known placed named : Option Fault) → placed ≡ least known (tree_faults true false (forest entries)) → named ≡ least placed (clashes text [] entries)
    → named ≡ least known (tree_faults true false (forest entries) ++ clashes text [] entries)
among text entries known placed named placed_is named_is =
    named_is ∙ ap (λ k. least k (clashes text [] entries)) placed_is ∙ sym (least-append known (tree_faults true false (forest entries)) (clashes text [] entries))
