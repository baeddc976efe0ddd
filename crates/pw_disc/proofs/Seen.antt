-- What a pair is seen as where a HELD line acts, by its parts.
use Rattle.std.proofs.Common.{◌≡◌, ℕ, ◌+◌, refl, sym, ap, ◌∙◌, cond, Bool, true, false, List, drop, Option, Some, None}
use Rattle.std.proofs.lemmas.List.{drop-drop}
use Rattle.pw_base.specs.Outside.{counted}
use Rattle.pw_disc.specs.declared.script.DiscLine.{DiscLine}
use Rattle.pw_tmf.specs.Faulty.{with_faults}
use Rattle.pw_tmf.specs.Tmf.{TmfState, told_of}
use Rattle.pw_tmf.specs.Told.{Told}
use Rattle.pw_disc.specs.declared.standing.DiscPairState.{DiscPairState}
use Rattle.pw_disc.specs.declared.standing.DiscPairState.TheVariants.{Two, One}
use Rattle.pw_disc.specs.Lines.{is_held_at_front}
use Rattle.pw_disc.specs.Pair.{PairState, finished, lines_left, seen, standing_of}

abbrev pair_of : DiscPairState → Told → List DiscLine → ℕ → PairState
pair_of standing told lines done = record { standing = standing; told = told; lines = lines; done = done }

two_left : (gone : Bool) (backup : Option TmfState) → standing_of gone backup ≡ Two → gone ≡ false
two_left true backup is = absurd cc
two_left false backup is = refl

module _ (old : PairState) (gone : Bool) (backup : Option TmfState) (primary : TmfState) (used : ℕ) (lines : List DiscLine) (done faults : ℕ)
    (is : seen gone backup primary used lines done faults ≡ old) where
  stays : old.standing ≡ Two → gone ≡ false
  stays both = two_left gone backup (ap (λ (p : PairState). p.standing) is ∙ both)

  left : gone ≡ false → drop used lines ≡ old.lines
  left e = sym (ap (λ (b : Bool). lines_left b used lines) e) ∙ ap (λ (p : PairState). p.lines) is

  -- a call was done, and a HELD line was due
  pub counts_held : old.standing ≡ Two → (survivor : TmfState) → told_of survivor ≡ told_of primary → is_held_at_front done (drop used lines) ≡ true
      → seen gone None survivor (used + 1) lines (counted done) faults ≡ finished old
  counts_held both survivor same held =
      let e : gone ≡ false = stays both in
      let acts : is_held_at_front old.done old.lines ≡ true =
      sym (ap (λ (p : PairState). is_held_at_front p.done p.lines) is) ∙ (ap (λ (b : Bool). is_held_at_front done (lines_left b used lines)) e ∙ held) in
      let less : drop (used + 1) lines ≡ drop 1 old.lines = sym (drop-drop 1 used lines) ∙ ap (drop 1) (left e) in
      ap (λ (b : Bool). seen b None survivor (used + 1) lines (counted done) faults) e
      ∙ ap (λ (t : Told). pair_of One (with_faults faults t) (drop (used + 1) lines) (counted done)) same
      ∙ ap (λ (ls : List DiscLine). pair_of One (with_faults faults (told_of primary)) ls (counted done)) less
      ∙ ap (λ (p : PairState). pair_of One p.told (drop 1 old.lines) (counted p.done)) is
      ∙ sym (ap (λ (b : Bool). pair_of (cond b One old.standing) old.told (cond b (drop 1 old.lines) old.lines) (counted old.done)) acts)
