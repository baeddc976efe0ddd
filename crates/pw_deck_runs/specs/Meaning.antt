-- What a deck without a fault means under a rule of locking.
use Rattle.pw_code.specs.declared.lock.LockRule.{LockRule}
use Rattle.pw_code.specs.declared.system.System.{System}
use Rattle.pw_deck.specs.declared.deck.ParsedDeck.{ParsedDeck}
use Rattle.pw_onecopy.specs.Behaviour.{Behaviour}
use Rattle.pw_compiler_laws.specs.Systems.{system_of}
use Rattle.pw_tree_meaning.specs.OfDeck.{behaviour}
use Rattle.pw_compiled_deck.specs.Whole.{trees_of}

-- what its terminals ask and show and its servers do, by the trees of its programs
abbrev pub meaning : LockRule → ParsedDeck → Behaviour
meaning rule deck = behaviour rule (trees_of deck)

-- its system, whose names stand in texts
abbrev pub named : LockRule → ParsedDeck → System
named rule deck = system_of rule (trees_of deck)
