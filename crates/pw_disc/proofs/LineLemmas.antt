-- Scripts that lose no pair.
use Rattle.std.proofs.Common.{◌≡◌, ◌≢◌, ℕ, zero, suc, ◌+◌, refl, sym, ap, ◌∙◌, cond, Bool, true, false, ◌&&◌, ◌||◌, not, List, [], ◌∷◌, drop, take, inl, inr, arith}
use Rattle.std.specs.List.{list_any, prefix_len}
use Rattle.pw_disc.specs.declared.script.DiscLine.{DiscLine}
use Rattle.pw_disc.specs.Lines.{acting, acts_first, begins_with_primary, is_due, is_held, is_primary, lose_pair, may_lose}
use Rattle.pw_disc.specs.Pair.{IsLost, PairState}
use Rattle.pw_disc.specs.declared.standing.DiscPairState.TheVariants.{Lost}

-- neither is
neither : (b r : Bool) → cond b true r ≡ false → (b ≡ false) × (r ≡ false)
neither true r e = absurd cc
neither false r e = (refl, e)

not_held : (held due : Bool) → (not held && due) ≡ true → held ≡ false
not_held true due e = absurd cc
not_held false due e = refl

-- without the first line
pub one_less : (line : DiscLine) (lines : List DiscLine) → may_lose (line ∷ lines) ≡ false → may_lose lines ≡ false
unfolding may_lose
one_less line lines e = (neither (not (is_held line) && begins_with_primary lines) (may_lose lines) e).1

-- without some of the first lines
pub some_less : (n : ℕ) (lines : List DiscLine) → may_lose lines ≡ false → may_lose (drop n lines) ≡ false
some_less zero lines e = e
some_less (suc n) [] e = e
some_less (suc n) (line ∷ lines) e = some_less n lines (one_less line lines e)

next_plain : (line next : DiscLine) (lines : List DiscLine) → is_held line ≡ false → may_lose (line ∷ (next ∷ lines)) ≡ false → is_primary next ≡ false
unfolding may_lose
next_plain line next lines held e =
    ap (λ (b : Bool). not b && is_primary next) (sym held) ∙ (neither (not (is_held line) && is_primary next) (may_lose (next ∷ lines)) e).0

one_and : (n : ℕ) → 1 + n ≡ suc n
one_and n = omega arith

one_more : (done : ℕ) (line : DiscLine) (lines : List DiscLine) (acts : Bool) → acts_first done line ≡ acts → is_primary line ≡ false
    → (is_held line ≡ false → list_any is_primary (acting done lines) ≡ false)
    → list_any is_primary (take (cond acts (1 + prefix_len (acts_first done) lines) 0) (line ∷ lines)) ≡ false
one_more done line lines true is plain others =
    ap (λ (n : ℕ). list_any is_primary (take n (line ∷ lines))) (one_and (prefix_len (acts_first done) lines))
    ∙ ap (λ (b : Bool). b || list_any is_primary (acting done lines)) plain ∙ others (not_held (is_held line) (is_due done line) is)
one_more done line lines false is plain others = refl

-- behind a line other than HELD no PRIMARY AFTER line acts with it
none_behind : (done : ℕ) (line : DiscLine) (lines : List DiscLine) → is_held line ≡ false → may_lose (line ∷ lines) ≡ false → list_any is_primary (acting done lines) ≡ false
none_behind done line [] held e = refl
none_behind done line (next ∷ lines) held e =
    one_more done next lines (acts_first done next) refl (next_plain line next lines held e) (λ next_held. none_behind done next lines next_held (one_less line (next ∷ lines) e))

first_acts : (done : ℕ) (line : DiscLine) (lines : List DiscLine) (acts : Bool) → acts_first done line ≡ acts
    → (is_held line ≡ false → list_any is_primary (acting done lines) ≡ false)
    → lose_pair (take (cond acts (1 + prefix_len (acts_first done) lines) 0) (line ∷ lines)) ≡ false
first_acts done line lines true is others =
    ap (λ (n : ℕ). lose_pair (take n (line ∷ lines))) (one_and (prefix_len (acts_first done) lines)) ∙ others (not_held (is_held line) (is_due done line) is)
first_acts done line lines false is others = refl

none_lost : (done : ℕ) (lines : List DiscLine) → may_lose lines ≡ false → lose_pair (acting done lines) ≡ false
none_lost done [] e = refl
none_lost done (line ∷ lines) e = first_acts done line lines (acts_first done line) refl (λ held. none_behind done line lines held e)

-- the next call does not lose the pair
pub not_lost : (pair : PairState) → pair.standing ≢ Lost → may_lose pair.lines ≡ false → ¬ IsLost pair
not_lost pair stands never (inl is_lost) = stands is_lost
not_lost pair stands never (inr loses) = let two : false ≡ true = sym (none_lost pair.done pair.lines never) ∙ loses in absurd cc
