-- The paces of small programs.
use Rattle.std.specs.Prelude.{ℕ, List, [], ◌∷◌, Result, codes}
use Rattle.pw_tree_meaning.specs.SampleScreen.{ask_screen}
use Rattle.pw_tree_meaning.specs.Samples.{screen_deck}
use Rattle.pw_deck_bounds.specs.Paces.{OpenLoop, Pace, requester_pace}

-- the pace of the program of this procedure, with a number N of one digit and the screen ASK
abbrev pub pace_of_text : List ℕ → Result Pace OpenLoop
pace_of_text text = requester_pace (screen_deck (ask_screen ∷ []) (codes "01 N PIC 9.") text) 0
