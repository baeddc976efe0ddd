-- What the contract of the reader of requesters gives, as the laws take it.
use Rattle.std.proofs.Common.{List, [], ◌∷◌, length, IsSome, refl, sym, subst}
use Rattle.std.specs.Prelude.{All}
use Rattle.std.proofs.lemmas.List.Elements.{All-head, All-tail}
use Rattle.pw_words.specs.Words.{Word}
use Rattle.pw_code.specs.Fields.{IsTable}
use Rattle.pw_operands.specs.Resolved.{Each}
use Rattle.pw_scobol.specs.Using.{IsParameter}
use Rattle.pw_tree_meaning.specs.Program.{Program}
use Rattle.pw_tree_meaning.proofs.storage.Initial.{all-each}
use Rattle.pw_compiler_laws.specs.Premises.{AreItems}

using-in : (program : Program) (names : List Word) → All (IsParameter program.layout) names → AreItems program names
using-in program [] all = tt
using-in program (name ∷ names) all =
    let first = All-head (IsParameter program.layout) name names all in
    (subst IsSome (sym first.found) refl, using-in program names (All-tail (IsParameter program.layout) name names all))

-- the names of USING
pub using-items : (program : Program) → All (IsParameter program.layout) program.parameters → AreItems program program.parameters
using-items program all = using-in program program.parameters all

-- the screens
pub tables-are : (program : Program) → All (IsTable (length program.layout.storage)) program.screens → Each (IsTable (length program.layout.storage)) program.screens
tables-are program all = all-each (IsTable (length program.layout.storage)) program.screens all
