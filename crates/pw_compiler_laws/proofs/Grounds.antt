-- What the layout of a program gives: its items fit, have no name of a register, and are runs of its store.
use Rattle.std.proofs.Common.{◌≡◌, ◌+◌, ◌-◌, ◌*◌, Bool, false, List, [], ◌∷◌, length, inl, refl, sym, ap, subst, arith}
use Rattle.pw_data.specs.Laid.{items_in}
use Rattle.pw_data.specs.Layouts.{FitsPicture, no_table, entries_in}
use Rattle.pw_data.specs.Store.{joined, store_of}
use Rattle.pw_data.specs.Tree.{forest}
use Rattle.pw_data.specs.declared.item.Item.{Item}
use Rattle.pw_data.proofs.StoreLaws.{pictures-of_layout, fine}
use Rattle.pw_operands.specs.Resolved.{Each}
use Rattle.pw_tree_meaning.specs.Program.{Program}
use Rattle.pw_tree_meaning.specs.Sound.{IsLayout}
use Rattle.pw_tree_meaning.specs.Store.{Store, initial_store}
use Rattle.pw_tree_meaning.proofs.storage.Cuts.{Cut, Covers, covers}
use Rattle.pw_tree_meaning.proofs.storage.Initial.{all-each, initial-is, initial-store}
use Rattle.pw_tree_meaning.proofs.storage.Named.{no-item}
use Rattle.pw_tree_meaning.proofs.storage.Shaped.{shaped}
use Rattle.pw_compiler_laws.proofs.Ground.{Ground, IsCut}
use Rattle.pw_compiler_laws.proofs.Operands.{Known}

pub known-of : (server : Bool) (program : Program) → IsLayout server program.layout → Known server program
known-of server program is = record {
  fits = subst (λ l. Each FitsPicture l.items) (fine is.text is.tokens server program.layout is.is_laid).is_laid
      (all-each FitsPicture (items_in is.text 0 no_table (forest (entries_in is.text is.tokens server))) (pictures-of_layout is.text is.tokens server program.layout is.is_laid));
  unnamed = λ name some. no-item server program.layout is name some;
}

cuts-of : (items : List Item) (cells : Store) → Each (Covers cells 0 1 no_table) items → Each (IsCut cells) items
cuts-of [] cells each = tt
cuts-of (x ∷ xs) cells each = (
  λ k low high.
      let c = each.0 k low high (inl refl) in
      let at : c.0 ≡ x.at + (k - 1) * x.step = omega (arith, c.1) in
      subst (λ n. Cut cells n x.size) at c.2,
  cuts-of xs cells each.1,
)

pub starts-of : (server : Bool) (program : Program) → IsLayout server program.layout → joined (initial_store program) ≡ program.layout.storage
starts-of server program is = (initial-store server program is).storage

pub ground-of : (server : Bool) (program : Program) → IsLayout server program.layout → Ground program (initial_store program)
ground-of server program is =
    let f = forest (entries_in is.text is.tokens server) in
    let shape = shaped is.text is.tokens server program.layout is.is_laid in
    let each = covers is.text false 0 0 1 no_table f shape (λ e. refl) (omega arith) (omega arith) in
    let cells = store_of is.text is.tokens server in
    let cuts : Each (IsCut cells) program.layout.items =
    subst (λ l. Each (IsCut cells) l.items) (fine is.text is.tokens server program.layout is.is_laid).is_laid (cuts-of (items_in is.text 0 no_table f) cells each) in (
      subst (λ (store : Store). Each (IsCut store) program.layout.items) (sym (initial-is server program is)) cuts,
      ap length (starts-of server program is),
    )
