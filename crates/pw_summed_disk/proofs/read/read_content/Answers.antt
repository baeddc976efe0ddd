-- What stands at each gate.
use Rattle.std.proofs.Common.{rules, ◌≡◌, ◌≢◌, ℕ, ◌+◌, ◌<◌, ◌≤◌, List, ◌∷◌, ◌++◌, length, take, drop, option_map, Option, Some, None, Bor, sym, ◌∙◌, ap, subst, arith, length-drop}
use Rattle.std.specs.Prelude.{Err}
use Rattle.std.proofs.lemmas.List.{drop-drop}
use Rattle.pw_summed_disk.specs.Extents.{piece_in, shut_gate, staged, word_of}
use Rattle.pw_summed_disk.specs.Summed.{AreExtents}
use Rattle.pw_summed_disk.proofs.Files.{read_file}
use Rattle.pw_summed_disk.proofs.Reading.{breaks, goes_on, goes_within, refuses}
use Rattle.pw_summed_disk.proofs.read.read_content.Goals as goal

pub returns-then-below-at-lt4-clause-damaged : goal.returns-then-below-at-lt4-clause-damaged
returns-then-below-at-lt4-clause-damaged c at is =
    let here = c.loop-at.at in
    let same : here ≡ at = cc in
    let short : length (drop here c.args.below.now) < 4 = omega (arith, length-drop here c.args.below.now) in
    breaks c.args.below.now c.loop-at.content here c.loop-at.invariant.within c.loop-at.invariant.extents short ∙ ap Err same

pub returns-then-is_shut-clause-file : goal.returns-then-is_shut-clause-file
returns-then-is_shut-clause-file c =
    let here = c.loop-at.at in
    let below = c.args.below.now in
    let long : 4 ≤ length (drop here below) = omega (arith, length-drop here below) in
    let shut : word_of (drop here below) ≡ word_of shut_gate = search rules in
    let found : option_map (λ (piece : Bor (List ℕ)). piece.now) c.piece_at-found.result ≡ piece_in (drop 4 (drop here below)) = c.piece_at-found.ensures ∙ ap piece_in (sym (drop-drop 4 here below)) in
    let bytes : c.into_vec-bytes.result.items ≡ c.loop-at.content ++ (0 ∷ staged (option_map (λ (piece : Bor (List ℕ)). piece.now) c.piece_at-found.result)) = search rules in
    read_file below c.loop-at.content here c.loop-at.invariant.within c.loop-at.invariant.extents long shut (λ k. omega (arith, c.type_inv.below k)) c.len-end.result c.into_vec-bytes.result.items (search rules)
    (bytes ∙ ap (λ (o : Option (List ℕ)). c.loop-at.content ++ (0 ∷ staged o)) found)

pub returns-in_default-clause-damaged : goal.returns-in_default-clause-damaged
returns-in_default-clause-damaged c at is =
    let here = c.loop-at.at in
    let below = c.args.below.now in
    let same : here ≡ at = cc in
    let long : 4 ≤ length (drop here below) = omega (arith, length-drop here below) in
    let is_open : word_of (drop here below) ≢ word_of shut_gate = search rules in
    let found : option_map (λ (piece : Bor (List ℕ)). piece.now) c.piece_at-found.result ≡ piece_in (drop 4 (drop here below)) = c.piece_at-found.ensures ∙ ap piece_in (sym (drop-drop 4 here below)) in
    let none : piece_in (drop 4 (drop here below)) ≡ None = sym found ∙ ap (option_map (λ (piece : Bor (List ℕ)). piece.now)) c.in_default.is in
    refuses below c.loop-at.content here c.loop-at.invariant.within c.loop-at.invariant.extents long is_open none ∙ ap Err same

pub loop-at-preserved : goal.loop-at-preserved
loop-at-preserved c =
    let here = c.loop-at.at in
    let below = c.args.below.now in
    let piece = c.in-Some.piece.now in
    let long : 4 ≤ length (drop here below) = omega (arith, length-drop here below) in
    let is_open : word_of (drop here below) ≢ word_of shut_gate = search rules in
    let found : option_map (λ (own : Bor (List ℕ)). own.now) c.piece_at-found.result ≡ piece_in (drop 4 (drop here below)) = c.piece_at-found.ensures ∙ ap piece_in (sym (drop-drop 4 here below)) in
    let some : piece_in (drop 4 (drop here below)) ≡ Some piece = sym found ∙ ap (option_map (λ (own : Bor (List ℕ)). own.now)) c.in-Some.is in
    let content : c.put_piece.new.content ≡ c.loop-at.content ++ (1 ∷ piece) = search rules in
    record {
      within = goes_within below c.loop-at.content here c.loop-at.invariant.within c.loop-at.invariant.extents long piece some;
      extents = subst (λ (l : List ℕ). AreExtents (take (here + (20 + length piece)) below) l) (sym content)
          (goes_on below c.loop-at.content here c.loop-at.invariant.within c.loop-at.invariant.extents long piece is_open some);
    }
