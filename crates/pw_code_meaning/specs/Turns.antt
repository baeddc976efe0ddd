-- PERFORM: each turn counts one, and then the depth is looked at.
pub use Rattle.pw_tree_meaning.specs.Runs.{most_performs}
use Rattle.std.specs.Prelude.{ℕ, ◌+◌, ◌-◌, ◌==◌, nat_lt, Bool, true, false, List, [], ◌∷◌, ◌++◌, length, Option, Some, None, slice_get, if◌then◌else◌}
use Rattle.pw_code.specs.declared.context.Return.{Return}
use Rattle.pw_code.specs.declared.instr.Turn.{Turn}
use Rattle.pw_code_meaning.specs.Config.{Config, on, faults, code_statement_counted}

-- a list without its last item, and that item
abbrev pub last_behind : {A : Type 0} → A → Option (List A × A) → Option (List A × A)
last_behind first None = Some ([], first)
last_behind first (Some found) = Some (first ∷ found.0, found.1)

-- a list as all but its last item, and that
abbrev pub split_last : {A : Type 0} → List A → Option (List A × A)
split_last [] = None
split_last (item ∷ items) = last_behind item (split_last items)

-- at a place with these active PERFORMs
abbrev pub placed : ℕ → List Return → Config → Config
placed at returns c = record c { top = record c.top { at = at; returns = returns } }

-- one turn of a paragraph, which comes back to a place. left: how many turns follow.
abbrev pub turn : ℕ → Turn → ℕ → Config → Config
turn resume paragraph left =
    code_statement_counted (λ c.
    if nat_lt (length c.top.returns) most_performs
    then placed paragraph.start
    (c.top.returns ++ (record { resume = resume; until = paragraph.end; turns = left }) ∷ []) c
    else faults 202 c)

-- so many turns
abbrev pub turns : Turn → ℕ → Config → Config
turns paragraph count c = if count == 0 then on c else turn (c.top.at + 1) paragraph (count - 1) c

-- what a test gives: on, or a turn that comes back to the test, or SUBSCRIPT
abbrev pub tested : Turn → Option Bool → Config → Config
tested paragraph None c = faults 203 c
tested paragraph (Some true) c = on c
tested paragraph (Some false) c = turn c.top.at paragraph 0 c

-- the paragraph at a position from 1, if there is one
abbrev pub chosen : Option Turn → Config → Config
chosen None c = on c
chosen (Some paragraph) c = turn (c.top.at + 1) paragraph 0 c

-- the paragraph at a position from 1
abbrev pub at_position : List Turn → ℕ → Option Turn
at_position paragraphs position =
    if position == 0 then None else slice_get paragraphs (position - 1)

-- a turn has ended: the next one, or back
abbrev pub comes_back : ℕ → List Return → Return → Config → Config
comes_back start before last c =
    if last.turns == 0 then placed last.resume before c
    else code_statement_counted (placed start (before ++ (record last { turns = last.turns - 1 }) ∷ [])) c

-- the end of a paragraph that begins at a place: where the last active PERFORM is of it, its turn
-- has ended
abbrev pub ends_by : ℕ → Option (List Return × Return) → Config → Config
ends_by start None c = on c
ends_by start (Some found) c =
    if found.1.until == c.top.at then comes_back start found.0 found.1 c else on c

-- the end of the paragraph that begins there, by the last active PERFORM
abbrev pub ends : ℕ → Config → Config
ends start c = ends_by start (split_last c.top.returns) c
