-- What a takeover goes on with is in the image format.
use Rattle.std.proofs.Common.{◌≡◌, ℕ, ◌==◌, Bool, true, false, cond, List, Option, Some, None, unwrap_or, is_some, sym, ap, ◌∙◌}
use Rattle.std.proofs.lemmas.Bool.{false≢true, and_parts}
use Rattle.pw_image.specs.Reading.{context_in}
use Rattle.pw_pair.specs.Bodies.{is_image}
use Rattle.pw_pair.specs.Seats.{end_is_image, held_is_sound}
use Rattle.pw_pair.specs.Takeover.{resumed_image}
use Rattle.pw_pair.specs.declared.backup.Held.{Held}

either-image : (b : Bool) (start : List ℕ) (end : Option (List ℕ)) → is_image start ≡ true → end_is_image end ≡ true
    → is_image (cond b (unwrap_or end start) start) ≡ true
either-image true start None s e = s
either-image true start (Some image) s e = e
either-image false start end s e = s

resumed-is-image : (held : Held) (last : ℕ) → held_is_sound held ≡ true → is_image (resumed_image held last) ≡ true
resumed-is-image held last h =
    let k = and_parts (is_image held.start) (end_is_image held.end) h in
    either-image (last == held.unit) held.start held.end k.0 k.1

-- so it is read
pub never-bad : (held : Held) (last : ℕ) (bytes : List ℕ) → held_is_sound held ≡ true → bytes ≡ resumed_image held last → context_in bytes ≡ None → ⊥
unfolding is_image
never-bad held last bytes h e none =
    false≢true (sym (ap (λ o. is_some o) none) ∙ ap (λ l. is_some (context_in l)) e ∙ resumed-is-image held last h)
