use Rattle.std.proofs.Common.{◌≡◌, ◌∙◌, sym, ap, subst, ℕ, List, ◌++◌, ◌∷◌, [], refl, false}
use Rattle.std.specs.Ordering.{is_lt, is_eq}
use Rattle.std.specs.declared.cmp.Ordering.{Ordering}
use Rattle.std.specs.declared.cmp.Ordering.TheVariants.{Equal, Greater}
use Rattle.pw_base.proofs.Plain.{is_eq-Equal}
use Rattle.pw_files.specs.Records.{compared}
use Rattle.pw_blocks.specs.Packing.{unpacked, packed_all, from_key}
use Rattle.pw_blocks.proofs.BlockLemmas.{first_step, first_end}
use Rattle.pw_blocks.proofs.CutLemmas.{AllGreater, before_key, from_key_first, behind_above, cut_is, before_bytes, below_one, above_one, record_at_one, greater_is}
use Rattle.pw_blocks.proofs.cut.cut_at.Goals as goal
use Rattle.pw_blocks.proofs.cut.cut_at.Goals.{in-Some+else-is_eq, in_default}

-- what is equal is not less
not_less : (o : Ordering) → o ≡ Equal → is_lt o ≡ false
not_less o h = ap is_lt h

pub returns-then-is_eq : goal.returns-then-is_eq
returns-then-is_eq c =
    let n : ℕ = c.args.key_length in
    let key : List ℕ = c.args.key.now in
    let contents : List (List ℕ) = unpacked c.args.bytes.now in
    let content : List ℕ = c.in-Some.content.now in
    let rest_is : c.sought-rest.result.now ≡ packed_all (from_key n contents key) = c.sought-rest.ensures.records in
    let front = before_key n key contents in
    let step = first_step (c.in-Some.content, c.in-Some.behind) (from_key n contents key) (c.in-Some.ensures.first (from_key n contents key) rest_is) in
    let whole : front.0 ++ content ∷ step.0 ≡ contents = ap (λ xs. front.0 ++ xs) (sym step.1) ∙ front.1 in
    let equal : compared n key content ≡ Equal = sym c.compared.ensures ∙ is_eq-Equal c.compared.result (sym c.if-is_eq.ensures) in
    cut_is n key c.args.bytes.now _ front.0 (content ∷ []) step.0 c.requires.block whole front.2
    (behind_above n key contents front.0 step.0 content c.requires.rises whole (not_less (compared n key content) equal))
    (before_bytes c.args.bytes.now c.sought-rest.result.now front.0 (from_key n contents key) (sym c.requires.block.whole ∙ ap packed_all (sym front.1)) rest_is)
    step.2 (below_one n content key equal) (above_one n content key equal) (record_at_one n content key equal)

pub returns : goal.returns
returns c =
    let n : ℕ = c.args.key_length in
    let key : List ℕ = c.args.key.now in
    let contents : List (List ℕ) = unpacked c.args.bytes.now in
    let rest_is : c.sought-rest.result.now ≡ packed_all (from_key n contents key) = c.sought-rest.ensures.records in
    let front = before_key n key contents in
    let all_greater : List (List ℕ) → Type 0 = AllGreater n key in
    cut_is n key c.args.bytes.now _ front.0 [] (from_key n contents key) c.requires.block front.1 front.2
    (elim c.match-first_record.branch [
      | in-Some+else-is_eq w ↦
          let content : List ℕ = w.in-Some.content.now in
          let step = first_step (w.in-Some.content, w.in-Some.behind) (from_key n contents key) (w.in-Some.ensures.first (from_key n contents key) rest_is) in
          let whole : front.0 ++ content ∷ step.0 ≡ contents = ap (λ xs. front.0 ++ xs) (sym step.1) ∙ front.1 in
          let not_below : is_lt (compared n key content) ≡ false = from_key_first n key contents content step.0 step.1 in
          let greater : compared n key content ≡ Greater = greater_is (compared n key content) not_below (ap is_eq (sym w.compared.ensures) ∙ sym w.if-is_eq.ensures) in
          subst all_greater (sym step.1) (greater, behind_above n key contents front.0 step.0 content c.requires.rises whole not_below)
      | in_default w ↦ subst all_greater (sym (first_end (from_key n contents key) (w.in_default.ensures.first (from_key n contents key) rest_is))) tt
    ])
    (before_bytes c.args.bytes.now c.sought-rest.result.now front.0 (from_key n contents key) (sym c.requires.block.whole ∙ ap packed_all (sym front.1)) rest_is)
    rest_is refl refl refl
