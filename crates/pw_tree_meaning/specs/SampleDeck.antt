-- A small deck without a fault.
use Rattle.std.specs.Prelude.{true, false, [], ◌∷◌, codes}
use Rattle.pw_tree_meaning.specs.Program.{DeckModel}
use Rattle.pw_tree_meaning.specs.Samples.{sample_program, sample_classes}

-- a terminal whose program sends a message to a server, which reads a record by it
abbrev pub small_deck : DeckModel
small_deck = record {
  programs =
      sample_program false (codes "MAIN") [] (codes "01 M PIC X(2). 01 A PIC X(6).")
      (codes "P. SEND M TO STORE REPLY CODE 0 YIELDS A.") ∷ [];
  servers =
      sample_program true (codes "S") [] (codes "01 K PIC X(2). 01 R PIC X(6).")
      (codes "P. READ $RECEIVE INTO K READ STOCK KEY K INTO R WRITE $RECEIVE FROM R.") ∷ [];
  classes = sample_classes;
  files = (record { name = codes "STOCK"; key = 2; records = [] }) ∷ [];
  tcps = codes "TCP-1" ∷ [];
  terminals =
      (record { name = codes "T1"; tcp = 0; program = 0; max_restarts = 5; entries = [] }) ∷ [];
  script = [];
}
