-- Each step keeps the rule of a lane.
use Rattle.std.proofs.Common.{◌≡◌, ◌≢◌, ℕ, zero, suc, ◌<◌, true, List, [], ◌∷◌, ◌++◌, length, set, Option, Some, None, sym, refl, ap, ◌∙◌, ◌⊎◌, inl, inr, ⊎_elim, append_assoc, arith}
use mathlib.Core.Option.{some, some-injective, some-ne-none}
use lib.ListN.{get_elem?}
use Rattle.std.specs.Option.{is_some}
use Rattle.std.proofs.lemmas.Option.{none-some, same_Some}
use Rattle.pw_base.proofs.Plain.{is_some-Some}
use Rattle.atomic_table.proofs.Lists.{at_set}
use Rattle.crossbeam_channel.specs.Fifo.{Pushes, Pops, Forks, Merges, Learns}
use Rattle.pw_link.specs.declared.rule.PassNote.{PassNote}
use Rattle.pw_link.specs.Rule.{note, longer, Sole, IsChannelInOrder}

at_snoc : {A : Type 0} (l : List A) (a b : A) (j : ℕ) → get_elem? (l ++ a ∷ []) j ≡ some b → (get_elem? l j ≡ some b) ⊎ ((j ≡ length l) × (a ≡ b))
at_snoc [] a b zero e = inr (refl, some-injective a b e)
at_snoc [] a b (suc j) e = absurd (some-ne-none b (sym e))
at_snoc (x ∷ xs) a b zero e = inl e
at_snoc (x ∷ xs) a b (suc j) e = ⊎_elim inl (λ t. inr (ap suc t.0, t.1)) (at_snoc xs a b j e)

module _ {M X : Type 0} {part : PassNote M → Option X} {P : X → Type 0} where
  -- one more pass
  sole_more : (views : List (PassNote M)) (r : PassNote M) (at : ℕ) → ((x : X) → part r ≡ Some x → (length views ≡ at) × P x)
      → ((j : ℕ) (u : PassNote M) (x : X) → get_elem? views j ≡ some u → part u ≡ Some x → (j ≡ at) × P x) → Sole part P (views ++ r ∷ [])
  sole_more views r at new old = record {
    at = at;
    only = λ j u x e h. ⊎_elim (λ t. old j u x t h) (λ (t : (j ≡ length views) × (r ≡ u)). let n = new x (ap part t.1 ∙ h) in (t.0 ∙ n.0, n.1)) (at_snoc views r u j e);
  }

  -- a pass that changes
  sole_set : (views : List (PassNote M)) (i : ℕ) (w : PassNote M) (at : ℕ) → ((x : X) → part w ≡ Some x → (i ≡ at) × P x)
      → ((j : ℕ) (u : PassNote M) (x : X) → j ≢ i → get_elem? views j ≡ some u → part u ≡ Some x → (j ≡ at) × P x) → Sole part P (set views i w)
  sole_set views i w at mine others = record {
    at = at;
    only = λ j u x e h. ⊎_elim (λ (t : (j ≡ i) × (w ≡ u)). let m = mine x (ap part t.1 ∙ h) in (t.0 ∙ m.0, m.1))
        (λ (t : (j ≢ i) × (get_elem? views j ≡ some u)). others j u x t.0 t.1 h) (at_set views i j w u e);
  }

  -- a pass that keeps the part, or loses it
  sole_keep : (views : List (PassNote M)) (i : ℕ) (v w : PassNote M) → get_elem? views i ≡ some v → ((x : X) → part w ≡ Some x → part v ≡ Some x) → Sole part P views → Sole part P (set views i w)
  sole_keep views i v w here same old = sole_set views i w old.at (λ x h. old.only i v x here (same x h)) (λ j u x n e h. old.only j u x e h)

  -- the pass that has the part has another
  sole_turn : {Q : X → Type 0} (views : List (PassNote M)) (i : ℕ) (v w : PassNote M) (x : X) → get_elem? views i ≡ some v → part v ≡ Some x → ((y : X) → part w ≡ Some y → P y) → Sole part Q views → Sole part P (set views i w)
  sole_turn views i v w x here had mine old = sole_set views i w i (λ y h. (refl, mine y h)) (λ j u y n e h. absurd (n ((old.only j u y e h).0 ∙ sym (old.only i v x here had).0)))

module _ {M X : Type 0} {part : PassNote M → Option X} {P : X → Type 0} where
  -- the part goes from a pass to a new one
  sole_give : (views : List (PassNote M)) (i : ℕ) (v l r : PassNote M) → get_elem? views i ≡ some v → part l ≡ None → (o : Option X) → part v ≡ o → part r ≡ o → Sole part P views → Sole part P (set views i l ++ r ∷ [])
  sole_give views i v l r here lost None had has old =
      let kept : Sole part P (set views i l) = sole_keep views i v l here (λ x h. absurd (none-some x (sym lost ∙ h))) old in
      sole_more (set views i l) r kept.at (λ x h. absurd (none-some x (sym has ∙ h))) kept.only
  sole_give views i v l r here lost (Some x) had has old =
      let kept : Sole part (λ y. ⊥) (set views i l) = sole_turn views i v l x here had (λ y h. none-some y (sym lost ∙ h)) old in
      sole_more (set views i l) r (length (set views i l)) (λ y h. (refl, (old.only i v y here (had ∙ sym has ∙ h)).1)) (λ j u y e h. absurd (kept.only j u y e h).1)

module _ {M : Type 0} where
  pub begins : IsChannelInOrder [] (note {M = M} (Some []) (Some []) None ∷ [])
  begins =
      let none = λ (j : ℕ) (u : PassNote M) (e : get_elem? [] j ≡ some u). some-ne-none u (sym e) in
      record {
        took = [];
        got = [];
        rest = refl;
        primary = sole_more [] _ 0 (λ l h. (refl, sym (same_Some [] l h))) (λ j u l e h. absurd (none j u e));
        backup = sole_more [] _ 0 (λ l h. (refl, sym (same_Some [] l h))) (λ j u l e h. absurd (none j u e));
        waiting = sole_more [] _ 0 (λ x h. absurd (none-some x h)) (λ j u x e h. absurd (none j u e));
      }

  pub sends : (pass : ℕ) (v : PassNote M) (x : M) → is_some v.took ≡ true → Pushes IsChannelInOrder 1 pass v x (λ w. w ≡ note (longer v.took x) v.got (Some x))
  sends pass v x knows (y ∷ items) views short kept here = absurd (omega arith)
  sends pass v x knows [] views short kept here =
      let w : PassNote M = note (longer v.took x) v.got (Some x) in
      let l = is_some-Some v.took knows in
      let grown = ap (λ o. longer o x) l.1 in
      let mine = ap (λ t. t ++ x ∷ []) (kept.primary.only pass v l.0 here l.1).1 in (
        w,
        record {
          took = kept.took ++ x ∷ [];
          got = kept.got;
          rest = ap (λ t. t ++ x ∷ []) kept.rest ∙ append_assoc kept.got [] (x ∷ []);
          primary = sole_turn views pass v w l.0 here l.1 (λ y h. same_Some y _ (sym h ∙ grown) ∙ mine) kept.primary;
          backup = sole_keep views pass v w here (λ y h. h) kept.backup;
          waiting = sole_set views pass w pass (λ y h. (refl, ap (λ z. z ∷ []) (same_Some x y h))) (λ j u y n e h. absurd (grind (arith, (kept.waiting.only j u y e h).1)));
        },
        refl,
      )

  pub parts : (pass : ℕ) (v : PassNote M) → Forks IsChannelInOrder pass v (note v.took None None) (note None v.got v.due)
  parts pass v items views kept here =
      let l : PassNote M = note v.took None None in
      let r : PassNote M = note None v.got v.due in
      let primary : Sole (λ v. v.took) (λ t. t ≡ kept.took) (set views pass l) = sole_keep views pass v l here (λ x h. h) kept.primary in
      record {
        took = kept.took;
        got = kept.got;
        rest = kept.rest;
        primary = sole_more (set views pass l) r primary.at (λ x h. absurd (none-some x h)) primary.only;
        backup = sole_give views pass v l r here refl v.got refl refl kept.backup;
        waiting = sole_give views pass v l r here refl v.due refl refl kept.waiting;
      }

  pub joins : (pass : ℕ) (v : PassNote M) (other : ℕ) (w : PassNote M) (x : M) → w.due ≡ Some x → Merges IsChannelInOrder pass v other w (note v.took v.got w.due) (note None None None)
  joins pass v other w x due items views kept here two there =
      let both : PassNote M = note v.took v.got w.due in
      let spent : PassNote M = note None None None in
      let vs = set views pass both in
      let was : get_elem? views other ≡ some w = ⊎_elim (λ t. absurd (two t.0)) (λ t. t.1) (at_set views pass other both w there) in
      let theirs = kept.waiting.only other w x was due in
      record {
        took = kept.took;
        got = kept.got;
        rest = kept.rest;
        primary = sole_keep vs other w spent there (λ y h. absurd (none-some y h)) (sole_keep views pass v both here (λ y h. h) kept.primary);
        backup = sole_keep vs other w spent there (λ y h. absurd (none-some y h)) (sole_keep views pass v both here (λ y h. h) kept.backup);
        waiting = sole_set vs other spent pass (λ y h. absurd (none-some y h)) (λ j u y n e h.
            ⊎_elim (λ (t : (j ≡ pass) × (both ≡ u)). (t.0, (kept.waiting.only other w y was (ap (λ (z : PassNote M). z.due) t.1 ∙ h)).1))
            (λ (t : (j ≢ pass) × (get_elem? views j ≡ some u)). absurd (n ((kept.waiting.only j u y t.1 h).0 ∙ sym theirs.0))) (at_set views pass j both u e));
      }

  pub takes : (pass : ℕ) (v : PassNote M) (m : M) → is_some v.got ≡ true → v.due ≡ Some m → Pops IsChannelInOrder pass v (λ x w. (v.due ≡ Some x) × (w ≡ note v.took (longer v.got x) None))
  takes pass v m knows due x items views kept here =
      let w : PassNote M = note v.took (longer v.got x) None in
      let l = is_some-Some v.got knows in
      let grown = ap (λ o. longer o x) l.1 in
      let mine = ap (λ t. t ++ x ∷ []) (kept.backup.only pass v l.0 here l.1).1 in
      let only : x ∷ items ≡ m ∷ [] = (kept.waiting.only pass v m here due).1 in
      let first : m ≡ x = cc in (
        w,
        record {
          took = kept.took;
          got = kept.got ++ x ∷ [];
          rest = kept.rest ∙ sym (append_assoc kept.got (x ∷ []) items);
          primary = sole_keep views pass v w here (λ y h. h) kept.primary;
          backup = sole_turn views pass v w l.0 here l.1 (λ y h. same_Some y _ (sym h ∙ grown) ∙ mine) kept.backup;
          waiting = sole_turn views pass v w m here due (λ y h. absurd (none-some y h)) kept.waiting;
        },
        (due ∙ ap Some first, refl),
      )

  pub holds_one : (pass : ℕ) (v : PassNote M) (m : M) → v.due ≡ Some m → Learns IsChannelInOrder pass v (λ items. 0 < length items)
  holds_one pass v m due items views kept here = omega (arith, ap length (kept.waiting.only pass v m here due).1)
