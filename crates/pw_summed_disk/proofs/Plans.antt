-- What a change of a summed disk leaves.
use Rattle.std.proofs.Common.{◌≡◌, ◌≢◌, inl, inr, ℕ, ◌+◌, ◌-◌, ◌^◌, ◌<◌, ◌≤◌, true, false, List, [], ◌∷◌, ◌++◌, length, take, drop, Option, Some, refl, sym, ◌∙◌, ap, subst, arith, length-append, length-drop}
use Rattle.std.specs.Prelude.{Ok}
use Rattle.std.proofs.lemmas.Bool.{cases_eq}
use Rattle.std.proofs.lemmas.List.{append-nil, append_assoc, nil_from_length, take_at}
use Rattle.pw_volume.specs.Crash.{written, Only, Torn, Shortened}
use Rattle.pw_summed_disk.specs.Extents.{content_of, open_gate, piece_in, sealed, shut_gate, staged, word_of}
use Rattle.pw_summed_disk.specs.Plans.{IsOpening, IsPlan, IsStaging, bytes_below}
use Rattle.pw_summed_disk.specs.Summed.{AreExtents, AreWhole, IsSummedFile, KeepsSummed, content, last_piece}
use Rattle.pw_summed_disk.specs.declared.plan.PlannedWrite.{PlannedWrite}
use Rattle.pw_summed_disk.specs.declared.plan.DiskStanding.{DiskStanding}
use Rattle.pw_summed_disk.specs.declared.plan.Behind.TheVariants as behind
use Rattle.pw_summed_disk.proofs.Files.{appended, file_of, file_reads, gate_within, is_content, is_whole, past_end, piece_none, rest_behind, rest_is, shut_reads, torn_one, torn_past, written_one}
use Rattle.pw_summed_disk.proofs.Reading.{closed, extents_more, has_gate, sealed_is, sealed_piece}

-- what a crash leaves below is whole, and its content is one that the step may leave
pub record IsLeft (Step : List ℕ → List ℕ → Type 0) (bytes below : List ℕ) : Type 0 where
  pub whole : content_of below ≡ Ok (content below)
  pub step : Step bytes (content below)

left : (Step : List ℕ → List ℕ → Type 0) (bytes below own : List ℕ) → content_of below ≡ Ok own → Step bytes own → IsLeft Step bytes below
left Step bytes below own is step = record { whole = is_whole below own is; step = subst (λ (l : List ℕ). Step bytes l) (sym (is_content below own is)) step }

-- an open gate is none that is shut
open_word : word_of open_gate ≢ word_of shut_gate
unfolding word_of
open_word e = absurd (omega arith)

-- ---- a piece that is staged
module _ (standing : DiskStanding) (bytes below : List ℕ) (f : IsSummedFile standing.gate standing.end bytes below) (none : drop (standing.gate + 4) below ≡ []) where
  abbrev front : List ℕ
  front = take standing.gate below

  abbrev own : List ℕ
  own = take standing.end bytes

  below_is : below ≡ front ++ shut_gate
  below_is = f.below_is ∙ ap (λ (l : List ℕ). front ++ (shut_gate ++ l)) none

  bytes_are : bytes ≡ own ++ 0 ∷ []
  bytes_are =
      f.bytes_are
      ∙ ap (λ (l : List ℕ). own ++ (0 ∷ staged (piece_in l))) none
      ∙ ap (λ (o : Option (List ℕ)). own ++ (0 ∷ staged o)) piece_none

  total : length bytes ≡ standing.end + 1
  total = ap length bytes_are ∙ length-append own (0 ∷ []) ∙ omega (arith, f.end_is)

  below_total : length below ≡ standing.gate + 4
  below_total = ap length below_is ∙ length-append front shut_gate ∙ omega (arith, f.gate_is)

  stage_left : (at n place m : ℕ) (image : List ℕ) → at ≡ length bytes → place ≡ standing.gate + 4 → Torn place m below image → IsLeft (Torn at n) bytes image
  stage_left at n place m image at_is place_is torn =
      let p = past_end place m below image (below_total ∙ sym place_is) torn in
      let tail : List ℕ = p.0 in
      let is : image ≡ front ++ (shut_gate ++ tail) = p.1 ∙ ap (λ (l : List ℕ). l ++ tail) below_is ∙ append_assoc front shut_gate tail in
      let parts : own ++ (0 ∷ staged (piece_in tail)) ≡ bytes ++ staged (piece_in tail) =
      sym (append_assoc own (0 ∷ []) (staged (piece_in tail))) ∙ ap (λ (l : List ℕ). l ++ staged (piece_in tail)) (sym bytes_are) in
      left (Torn at n) bytes image (own ++ (0 ∷ staged (piece_in tail))) (ap content_of is ∙ shut_reads standing.gate standing.end bytes below f tail)
      (torn_past at n bytes (staged (piece_in tail)) (own ++ (0 ∷ staged (piece_in tail))) at_is parts)

  stage_made : (at : ℕ) (piece : List ℕ) (plan : PlannedWrite) (now after : List ℕ) (may_leave : List ℕ → Type 0) → at ≡ length bytes → IsStaging standing piece plan
      → now ≡ written plan.place (bytes_below plan.below) below → after ≡ written at piece bytes → KeepsSummed false plan.next after now may_leave
  stage_made at piece plan now after may_leave at_is s now_is after_is =
      let sealing = sealed_is s.front s.small in
      let rest : List ℕ = sealed s.front ++ shut_gate in
      let found : piece_in rest ≡ Some s.front = sealed_piece (sealed s.front) s.front shut_gate sealing in
      let now_parts : now ≡ front ++ (shut_gate ++ rest) =
      now_is
      ∙ ap (λ (l : List ℕ). written plan.place l below) s.below_is
      ∙ appended plan.place rest below (below_total ∙ sym s.place_is)
      ∙ ap (λ (l : List ℕ). l ++ rest) below_is
      ∙ append_assoc front shut_gate rest in
      let whole_parts : after ≡ (own ++ 0 ∷ []) ++ (s.front ++ 0 ∷ []) =
      after_is
      ∙ ap (λ (l : List ℕ). written at l bytes) s.piece_is
      ∙ appended at (s.front ++ 0 ∷ []) bytes (sym at_is)
      ∙ ap (λ (l : List ℕ). l ++ (s.front ++ 0 ∷ [])) bytes_are in
      let after_parts : after ≡ own ++ (0 ∷ staged (piece_in rest)) =
      whole_parts
      ∙ append_assoc own (0 ∷ []) (s.front ++ 0 ∷ [])
      ∙ ap (λ (o : Option (List ℕ)). own ++ (0 ∷ staged o)) (sym found) in
      let behind_gate : drop (standing.end + 1) after ≡ s.front ++ 0 ∷ [] =
      rest_behind standing.end 0 own (s.front ++ 0 ∷ []) after f.end_is (whole_parts ∙ append_assoc own (0 ∷ []) (s.front ++ 0 ∷ [])) in
      let size : length after - (standing.end + 2) ≡ length s.front =
      omega (arith, ap length whole_parts, length-append (own ++ 0 ∷ []) (s.front ++ 0 ∷ []), length-append own (0 ∷ []), length-append s.front (0 ∷ []), f.end_is) in
      let last : last_piece standing.end after ≡ s.front =
      ap (λ (n : ℕ). take n (drop (standing.end + 1) after)) size ∙ ap (take (length s.front)) behind_gate ∙ take_at s.front (0 ∷ []) (length s.front) refl in
      let last_size : length (last_piece standing.end after) ≡ length s.front = ap length last in
      let k : KeepsSummed false (record standing { known = behind.Staged }) after now may_leave = record {
        file = file_of standing.gate standing.end front own rest after now f.extents f.gate_is f.end_is now_parts after_parts;
        synced = λ e. absurd cc;
        nothing = λ e. absurd cc;
        staged = λ e.
            rest_is standing.gate standing.end front own rest after now f.extents f.gate_is f.end_is now_parts after_parts
            ∙ ap (λ (l : List ℕ). sealed l ++ shut_gate) (sym last);
        small = λ e. omega (arith, s.small, last_size);
        fits = omega (arith, s.fits);
        next_fits = λ e. omega (arith, s.fits, last_size);
      } in
      subst (λ (next : DiskStanding). KeepsSummed false next after now may_leave) (sym s.next_is) k

-- ---- a gate that is opened
module _ (standing : DiskStanding) (bytes below : List ℕ) (f : IsSummedFile standing.gate standing.end bytes below) (piece : List ℕ) (small : length piece < 2 ^ 32)
    (stands : drop (standing.gate + 4) below ≡ sealed piece ++ shut_gate) where
  abbrev before : List ℕ
  before = take standing.gate below

  abbrev ours : List ℕ
  ours = take standing.end bytes

  found : (tail : List ℕ) → piece_in ((sealed piece ++ shut_gate) ++ tail) ≡ Some piece
  found tail = ap piece_in (append_assoc (sealed piece) shut_gate tail) ∙ sealed_piece (sealed piece) piece (shut_gate ++ tail) (sealed_is piece small)

  below_parts : below ≡ before ++ (shut_gate ++ (sealed piece ++ shut_gate))
  below_parts = f.below_is ∙ ap (λ (l : List ℕ). before ++ (shut_gate ++ l)) stands

  bytes_parts : bytes ≡ ours ++ (0 ∷ (piece ++ 0 ∷ []))
  bytes_parts =
      f.bytes_are
      ∙ ap (λ (l : List ℕ). ours ++ (0 ∷ staged (piece_in l))) (stands ∙ sym (append-nil (sealed piece ++ shut_gate)))
      ∙ ap (λ (o : Option (List ℕ)). ours ++ (0 ∷ staged o)) (found [])

  whole_total : length bytes ≡ standing.end + (2 + length piece)
  whole_total = ap length bytes_parts ∙ length-append ours (0 ∷ (piece ++ 0 ∷ [])) ∙ omega (arith, f.end_is, length-append piece (0 ∷ []))

  whole_below : standing.gate + 4 ≤ length below
  whole_below = gate_within standing.gate standing.end bytes below f

  -- behind an open gate
  opened : (a b c d : ℕ) (tail : List ℕ) → word_of (a ∷ b ∷ c ∷ d ∷ []) ≢ word_of shut_gate
      → content_of (before ++ (a ∷ b ∷ c ∷ d ∷ ((sealed piece ++ shut_gate) ++ tail))) ≡ Ok (ours ++ (1 ∷ ((piece ++ 0 ∷ []) ++ staged (piece_in tail))))
  opened a b c d tail is_open =
      let gate : List ℕ = a ∷ b ∷ c ∷ d ∷ sealed piece in
      let parts : before ++ (a ∷ b ∷ c ∷ d ∷ ((sealed piece ++ shut_gate) ++ tail)) ≡ (before ++ gate) ++ (shut_gate ++ tail) =
      ap (λ (l : List ℕ). before ++ (a ∷ b ∷ c ∷ d ∷ l)) (append_assoc (sealed piece) shut_gate tail) ∙ sym (append_assoc before gate (shut_gate ++ tail)) in
      ap content_of parts
      ∙ closed (before ++ gate) (ours ++ (1 ∷ piece)) tail 83 72 85 84 (extents_more before ours a b c d (sealed piece) piece f.extents is_open (sealed_is piece small)) refl
      ∙ ap Ok (append_assoc ours (1 ∷ piece) (0 ∷ staged (piece_in tail)) ∙ ap (λ (l : List ℕ). ours ++ (1 ∷ l)) (sym (append_assoc piece (0 ∷ []) (staged (piece_in tail)))))

  -- behind a shut one
  still : (a b c d : ℕ) (tail : List ℕ) → word_of (a ∷ b ∷ c ∷ d ∷ []) ≡ word_of shut_gate
      → content_of (before ++ (a ∷ b ∷ c ∷ d ∷ ((sealed piece ++ shut_gate) ++ tail))) ≡ Ok (ours ++ (0 ∷ ((piece ++ 0 ∷ []) ++ [])))
  still a b c d tail is =
      closed before ours ((sealed piece ++ shut_gate) ++ tail) a b c d f.extents is
      ∙ ap (λ (o : Option (List ℕ)). Ok (ours ++ (0 ∷ staged o))) (found tail)
      ∙ ap (λ (l : List ℕ). Ok (ours ++ (0 ∷ l))) (sym (append-nil (piece ++ 0 ∷ [])))

  open_left : (at place : ℕ) (image : List ℕ) → at ≡ standing.end → place ≡ standing.gate → Torn place 4 below image → IsLeft (Torn at 1) bytes image
  open_left at place image at_is place_is torn =
      let t : Torn standing.gate 4 below image = subst (λ (n : ℕ). Torn n 4 below image) place_is torn in
      let four : length t.middle ≡ 4 = t.size ∙ omega (arith, whole_below) in
      let g = has_gate t.middle (omega (arith, four)) in
      let none : drop 4 t.middle ≡ [] = nil_from_length (drop 4 t.middle) (omega (arith, length-drop 4 t.middle, four)) in
      let middle : t.middle ≡ g.a ∷ g.b ∷ g.c ∷ g.d ∷ [] = g.is ∙ ap (λ (l : List ℕ). g.a ∷ g.b ∷ g.c ∷ g.d ∷ l) none in
      let is : image ≡ before ++ (g.a ∷ g.b ∷ g.c ∷ g.d ∷ ((sealed piece ++ shut_gate) ++ t.tail)) =
      t.is
      ∙ ap (λ (l : List ℕ). before ++ (l ++ (drop (standing.gate + 4) below ++ t.tail))) middle
      ∙ ap (λ (l : List ℕ). before ++ (g.a ∷ g.b ∷ g.c ∷ g.d ∷ (l ++ t.tail))) stands in
      let end_size : length ours ≡ at = f.end_is ∙ sym at_is in
      elim (cases_eq (word_of (g.a ∷ g.b ∷ g.c ∷ g.d ∷ [])) (word_of shut_gate)) [
        | inl shut ↦ left (Torn at 1) bytes image (ours ++ (0 ∷ ((piece ++ 0 ∷ []) ++ []))) (ap content_of is ∙ still g.a g.b g.c g.d t.tail shut)
            (torn_one at 0 ours (piece ++ 0 ∷ []) bytes end_size bytes_parts 0 [] (ours ++ (0 ∷ ((piece ++ 0 ∷ []) ++ []))) refl)
        | inr is_open ↦ left (Torn at 1) bytes image (ours ++ (1 ∷ ((piece ++ 0 ∷ []) ++ staged (piece_in t.tail)))) (ap content_of is ∙ opened g.a g.b g.c g.d t.tail is_open)
            (torn_one at 0 ours (piece ++ 0 ∷ []) bytes end_size bytes_parts 1 (staged (piece_in t.tail)) (ours ++ (1 ∷ ((piece ++ 0 ∷ []) ++ staged (piece_in t.tail)))) refl)
      ]

  open_made : (at : ℕ) (plan : PlannedWrite) (now after : List ℕ) (may_leave : List ℕ → Type 0) → at ≡ standing.end → standing.gate + (24 + length piece) < 2 ^ 64
      → IsOpening standing (length bytes) plan → now ≡ written plan.place (bytes_below plan.below) below → after ≡ written at (1 ∷ []) bytes → KeepsSummed false plan.next after now may_leave
  open_made at plan now after may_leave at_is room o now_is after_is =
      let gate : List ℕ = 79 ∷ 80 ∷ 69 ∷ 78 ∷ sealed piece in
      let more : AreExtents (before ++ gate) (ours ++ (1 ∷ piece)) = extents_more before ours 79 80 69 78 (sealed piece) piece f.extents open_word (sealed_is piece small) in
      let now_parts : now ≡ (before ++ gate) ++ (shut_gate ++ []) =
      now_is
      ∙ ap (λ (l : List ℕ). written plan.place l below) o.below_is
      ∙ ap (λ (n : ℕ). written n open_gate below) o.place_is
      ∙ ap (λ (l : List ℕ). before ++ (open_gate ++ l)) stands
      ∙ sym (append_assoc before gate shut_gate) in
      let after_parts : after ≡ (ours ++ (1 ∷ piece)) ++ (0 ∷ staged (piece_in [])) =
      after_is
      ∙ written_one at 0 ours (piece ++ 0 ∷ []) bytes (f.end_is ∙ sym at_is) bytes_parts 1
      ∙ sym (append_assoc ours (1 ∷ piece) (0 ∷ []))
      ∙ ap (λ (o : Option (List ℕ)). (ours ++ (1 ∷ piece)) ++ (0 ∷ staged o)) (sym piece_none) in
      let gate_next : standing.gate + (18 + (length bytes - standing.end)) ≡ standing.gate + (20 + length piece) = omega (arith, whole_total) in
      let end_next : length bytes - 1 ≡ standing.end + (1 + length piece) = omega (arith, whole_total) in
      let gate_size : length (before ++ gate) ≡ standing.gate + (18 + (length bytes - standing.end)) =
      length-append before gate ∙ omega (arith, gate_next, f.gate_is, (sealed_is piece small).size) in
      let end_size : length (ours ++ (1 ∷ piece)) ≡ length bytes - 1 = length-append ours (1 ∷ piece) ∙ omega (arith, end_next, f.end_is) in
      let next : DiskStanding = record { end = length bytes - 1; gate = standing.gate + (18 + (length bytes - standing.end)); known = behind.Nothing } in
      let k : KeepsSummed false next after now may_leave = record {
        file = file_of next.gate next.end (before ++ gate) (ours ++ (1 ∷ piece)) [] after now more gate_size end_size now_parts after_parts;
        synced = λ e. absurd cc;
        nothing = λ e. rest_is next.gate next.end (before ++ gate) (ours ++ (1 ∷ piece)) [] after now more gate_size end_size now_parts after_parts;
        staged = λ e. absurd cc;
        small = λ e. absurd cc;
        fits = omega (arith, gate_next, room);
        next_fits = λ e. absurd cc;
      } in
      subst (λ (n : DiskStanding). KeepsSummed false n after now may_leave) (sym o.next_is) k

-- ---- either
pub staged_within : (standing : DiskStanding) (bytes below : List ℕ) (may_leave : List ℕ → Type 0) → KeepsSummed true standing bytes below may_leave → standing.known ≡ behind.Staged → standing.end + 2 ≤ length bytes
staged_within standing bytes below may_leave k known =
    omega (arith, whole_total standing bytes below k.file (last_piece standing.end bytes) (k.small known) (k.staged known))

module _ (standing : DiskStanding) (bytes below : List ℕ) (may_leave : List ℕ → Type 0) (k : KeepsSummed true standing bytes below may_leave) (at : ℕ) (piece : List ℕ) (plan : PlannedWrite) where
  pub plan_left : IsPlan standing (length bytes) at piece plan → (image : List ℕ) → Torn plan.place (length (bytes_below plan.below)) below image → IsLeft (Torn at (length piece)) bytes image
  plan_left (inl s) image torn =
      stage_left standing bytes below k.file (k.nothing s.known) at (length piece) plan.place (length (bytes_below plan.below)) image s.at_is s.staging.place_is torn
  plan_left (inr o) image torn =
      let four : Torn plan.place 4 below image = subst (λ (l : List ℕ). Torn plan.place (length l) below image) o.opening.below_is torn in
      subst (λ (l : List ℕ). IsLeft (Torn at (length l)) bytes image) (sym o.piece_is)
      (open_left standing bytes below k.file (last_piece standing.end bytes) (k.small o.known) (k.staged o.known) at plan.place image o.at_is o.opening.place_is four)

  pub plan_made : IsPlan standing (length bytes) at piece plan → (now after : List ℕ) (leaves : List ℕ → Type 0) → now ≡ written plan.place (bytes_below plan.below) below → after ≡ written at piece bytes
      → KeepsSummed false plan.next after now leaves
  plan_made (inl s) now after leaves now_is after_is =
      stage_made standing bytes below k.file (k.nothing s.known) at piece plan now after leaves s.at_is s.staging now_is after_is
  plan_made (inr o) now after leaves now_is after_is =
      open_made standing bytes below k.file (last_piece standing.end bytes) (k.small o.known) (k.staged o.known) at plan now after leaves o.at_is (k.next_fits o.known) o.opening now_is
      (after_is ∙ ap (λ (l : List ℕ). written at l bytes) o.piece_is)

  pub plan_within : IsPlan standing (length bytes) at piece plan → plan.place ≤ length below
  plan_within (inl s) = omega (arith, gate_within standing.gate standing.end bytes below k.file, s.staging.place_is)
  plan_within (inr o) = omega (arith, gate_within standing.gate standing.end bytes below k.file, o.opening.place_is)

  -- only a piece past the end is written past the end
  pub plan_past : IsPlan standing (length bytes) at piece plan → length below < plan.place + length (bytes_below plan.below) → length bytes < at + length piece
  plan_past (inl s) past = omega (arith, s.at_is, ap length s.staging.piece_is, length-append s.staging.front (0 ∷ []))
  plan_past (inr o) past = absurd (omega (arith, gate_within standing.gate standing.end bytes below k.file, o.opening.place_is, ap length o.opening.below_is))

-- ---- a cut behind the shut gate
module _ (standing : DiskStanding) (bytes below : List ℕ) (f : IsSummedFile standing.gate standing.end bytes below) where
  abbrev cut_front : List ℕ
  cut_front = take standing.gate below

  abbrev cut_own : List ℕ
  cut_own = take standing.end bytes

  cut_below : take (standing.gate + 4) below ≡ cut_front ++ shut_gate
  cut_below =
      ap (take (standing.gate + 4)) (f.below_is ∙ sym (append_assoc cut_front shut_gate (drop (standing.gate + 4) below)))
      ∙ take_at (cut_front ++ shut_gate) (drop (standing.gate + 4) below) (standing.gate + 4) (length-append cut_front shut_gate ∙ omega (arith, f.gate_is))

  cut_bytes : take (standing.end + 1) bytes ≡ cut_own ++ 0 ∷ []
  cut_bytes =
      let rest = staged (piece_in (drop (standing.gate + 4) below)) in
      ap (take (standing.end + 1)) (f.bytes_are ∙ sym (append_assoc cut_own (0 ∷ []) rest))
      ∙ take_at (cut_own ++ 0 ∷ []) rest (standing.end + 1) (length-append cut_own (0 ∷ []) ∙ omega (arith, f.end_is))

  pub cut_left : (n m : ℕ) (image : List ℕ) → n ≡ standing.end + 1 → m ≡ standing.gate + 4 → Shortened m below image → IsLeft (Shortened n) bytes image
  cut_left n m image n_is m_is cut =
      let rest = staged (piece_in cut.tail) in
      let is : image ≡ cut_front ++ (shut_gate ++ cut.tail) =
      cut.is ∙ ap (λ (i : ℕ). take i below ++ cut.tail) m_is ∙ ap (λ (l : List ℕ). l ++ cut.tail) cut_below ∙ append_assoc cut_front shut_gate cut.tail in
      let parts : cut_own ++ (0 ∷ rest) ≡ take n bytes ++ rest =
      sym (append_assoc cut_own (0 ∷ []) rest) ∙ ap (λ (l : List ℕ). l ++ rest) (sym cut_bytes) ∙ ap (λ (i : ℕ). take i bytes ++ rest) (sym n_is) in
      left (Shortened n) bytes image (cut_own ++ (0 ∷ rest)) (ap content_of is ∙ shut_reads standing.gate standing.end bytes below f cut.tail)
      (record { tail = rest; is = parts })

  pub cut_made : (n m : ℕ) (now after : List ℕ) (leaves : List ℕ → Type 0) → n ≡ standing.end + 1 → m ≡ standing.gate + 4 → standing.gate + 4 < 2 ^ 64 → now ≡ take m below → after ≡ take n bytes
      → KeepsSummed false (record standing { known = behind.Nothing }) after now leaves
  cut_made n m now after leaves n_is m_is fits now_is after_is =
      let now_parts : now ≡ cut_front ++ (shut_gate ++ []) = now_is ∙ ap (λ (i : ℕ). take i below) m_is ∙ cut_below in
      let after_parts : after ≡ cut_own ++ (0 ∷ staged (piece_in [])) =
      after_is ∙ ap (λ (i : ℕ). take i bytes) n_is ∙ cut_bytes ∙ ap (λ (o : Option (List ℕ)). cut_own ++ (0 ∷ staged o)) (sym piece_none) in
      record {
        file = file_of standing.gate standing.end cut_front cut_own [] after now f.extents f.gate_is f.end_is now_parts after_parts;
        synced = λ e. absurd cc;
        nothing = λ e. rest_is standing.gate standing.end cut_front cut_own [] after now f.extents f.gate_is f.end_is now_parts after_parts;
        staged = λ e. absurd cc;
        small = λ e. absurd cc;
        fits = fits;
        next_fits = λ e. absurd cc;
      }

-- ---- a disk that is opened
module _ (gate end : ℕ) (bytes below : List ℕ) (may_leave : List ℕ → Type 0) (f : IsSummedFile gate end bytes below) (only : Only below may_leave) where
  pub opened_whole : AreWhole may_leave
  opened_whole image may = is_whole image bytes (ap content_of (only image may) ∙ file_reads gate end bytes below f)

  pub opened_keeps : gate + 4 < 2 ^ 64 → KeepsSummed true (record { end = end; gate = gate; known = behind.Unknown }) bytes below may_leave
  opened_keeps small = record {
    file = f;
    synced = λ e. only;
    nothing = λ e. absurd cc;
    staged = λ e. absurd cc;
    small = λ e. absurd cc;
    fits = small;
    next_fits = λ e. absurd cc;
  }
