-- The parts of an image.
use Rattle.std.proofs.Common.{◌≡◌, ℕ, ◌+◌, ◌-◌, ◌*◌, false, List, [], ◌∷◌, ◌++◌, length, take, get_or, Option, Some, refl, ap, ap₂, sym, ◌∙◌, append_assoc, arith}
use Rattle.std.proofs.lemmas.List.{flat_map_more, get_or_push, length-append, take-append-le, take_all}
use Rattle.std.specs.List.{flat_map}
use Rattle.std.specs.Str.{bytes_eq}
use Rattle.pw_code.specs.Courses.{is_advisory}
use Rattle.pw_code.specs.declared.context.Context.{Context}
use Rattle.pw_code.specs.declared.context.Frame.{Frame}
use Rattle.pw_code_meaning.specs.Config.{frame_at}
use Rattle.pw_image.specs.Image.{count_bytes, frame_bytes, image_of, mark, truth}
use Rattle.pw_entry_tests.specs.Images.{behind_end, head_bytes, is_all, left_of}
use Rattle.pw_entry_tests.proofs.Left.{is-all}

-- what stands before the number of programs, and what follows
pub image-parts : (context : Context) → image_of context ≡ head_bytes context ++ (length context.frames ∷ flat_map frame_bytes context.frames)
image-parts context =
    ap (λ l. mark ++ l)
    (ap (λ l. count_bytes context ++ l)
    (ap (λ l. truth context.in_unit ∷ truth (is_advisory context.course) ∷ l) refl)
    ∙ sym (append_assoc (count_bytes context) (truth context.in_unit ∷ truth (is_advisory context.course) ∷ context.screen) (length context.frames ∷ flat_map frame_bytes context.frames)))

-- bytes are an image where nothing is left of them behind its parts
pub all-is : (bytes front image : List ℕ) (left : Option (List ℕ)) → left ≡ left_of front (Some bytes) → image ≡ front
    → is_all left ≡ bytes_eq bytes image
all-is bytes front image left e is = ap is_all e ∙ (sym (is-all bytes front) ∙ ap (bytes_eq bytes) (sym is))

-- ---- the end of a transaction

-- the counts behind it
abbrev pub ended : Context → Context
ended context = record context {
  phase = 2 * (context.units + 1);
  attempt = 0;
  shown = 0;
  units = context.units + 1;
  in_unit = false;
}

-- a program one instruction on
abbrev pub gone_on : Frame → Frame
gone_on top = record top { at = top.at + 1 }

module _ (context : Context) (others : List Frame) (top : Frame) (e : context.frames ≡ others ++ top ∷ []) where
  count : length context.frames - 1 ≡ length others
  count = let n : length context.frames ≡ length others + 1 = ap length e ∙ length-append others (top ∷ []) in omega (arith, n)

  front-is : take (length context.frames - 1) context.frames ≡ others
  front-is =
      ap₂ take count e ∙ (take-append-le (length others) others (top ∷ []) (omega arith) ∙ take_all (length others) others (omega arith))

  top-is : get_or context.frames (length context.frames - 1) (frame_at 0 []) ≡ top
  top-is = ap₂ (λ l n. get_or l n (frame_at 0 [])) e count ∙ get_or_push others top (frame_at 0 []) (length others) refl

  frames-is : (behind_end context).frames ≡ others ++ gone_on top ∷ []
  frames-is = ap₂ (λ l x. l ++ gone_on x ∷ []) front-is top-is

  number-is : length (behind_end context).frames ≡ length others + 1
  number-is = ap length frames-is ∙ length-append others (gone_on top ∷ [])

  bytes-are : flat_map frame_bytes (behind_end context).frames ≡ flat_map frame_bytes others ++ frame_bytes (gone_on top)
  bytes-are = ap (flat_map frame_bytes) frames-is ∙ sym (flat_map_more frame_bytes [] others (gone_on top))

  pub end-parts : image_of (behind_end context)
      ≡ head_bytes (ended context) ++ ((length others + 1) ∷ (flat_map frame_bytes others ++ frame_bytes (gone_on top)))
  end-parts = image-parts (behind_end context) ∙ ap₂ (λ n l. head_bytes (ended context) ++ (n ∷ l)) number-is bytes-are

module _ (context : Context) (e : context.frames ≡ []) where
  none-is : (behind_end context).frames ≡ gone_on (frame_at 0 []) ∷ []
  none-is = ap (λ (l : List Frame). take (length l - 1) l ++ gone_on (get_or l (length l - 1) (frame_at 0 [])) ∷ []) e

  pub bare-parts : image_of (behind_end context) ≡ head_bytes (ended context) ++ (1 ∷ frame_bytes (gone_on (frame_at 0 [])))
  bare-parts =
      image-parts (behind_end context)
      ∙ (ap (λ (l : List Frame). head_bytes (ended context) ++ (length l ∷ flat_map frame_bytes l)) none-is
      ∙ ap (λ l. head_bytes (ended context) ++ (1 ∷ l)) (append-none (frame_bytes (gone_on (frame_at 0 [])))))
    where
      append-none : (l : List ℕ) → l ++ [] ≡ l
      append-none [] = refl
      append-none (x ∷ l) = ap (λ m. x ∷ m) (append-none l)
