-- The forms of an image, from its parts up.
use Rattle.std.proofs.Common.{◌≡◌, ℕ, zero, suc, ◌+◌, ◌^◌, ◌<◌, ◌≤◌, Bool, true, false, cond, if◌then◌else◌, nat_le, nat_lt, List, [], ◌∷◌, ◌++◌, length, All, take, drop, Option, Some, None, refl, sym, ap, ap₂, subst, ◌∙◌, arith}
use Rattle.std.specs.Int.{w16, w32, w64, to_be_bytes}
use Rattle.std.specs.List.{flat_map, AllByRecursion}
use Rattle.std.proofs.lemmas.Bool.{leb-true, le-leb, and_parts}
use Rattle.std.proofs.lemmas.List.{append-nil, take-append-drop}
use Rattle.std.proofs.lemmas.List.Elements.{All-from_recursion, recursion_from_All}
use Rattle.std.proofs.lemmas.Slice.Eq.{bytes_eq-Decides}
use Rattle.std.specs.Str.{bytes_eq}
use Rattle.pw_base.proofs.Plain.{some_is, cond_passed}
use Rattle.pw_code.specs.Courses.{is_advisory, is_run_fault}
use Rattle.pw_code.specs.Limits.{most_active}
use Rattle.pw_code.specs.Screen.{IsWhole}
use Rattle.pw_code.specs.declared.context.Context.{Context}
use Rattle.pw_code.specs.declared.context.Course.{Course}
use Rattle.pw_code.specs.declared.context.Course.TheVariants.{Instruction, Advisory, Fault}
use Rattle.pw_code.specs.declared.context.Frame.{Frame}
use Rattle.pw_code.specs.declared.context.Return.{Return}
use Rattle.pw_image.proofs.Forms.{AreBytes-drop, IsForm, IsMade, Takes, block, both, byte, counted, made, many, number16, number32, number64}
use Rattle.pw_image.specs.Format.{IsImageOf}
use Rattle.pw_image.specs.Image.{FrameFits, HasImage, count_bytes, frame_bytes, image_of, mark, return_bytes, truth}
use Rattle.pw_image.specs.Reading.{Counts, Front, all_of, block_at, both_at, byte_at, context_at, context_from, context_in, counts_at, course_of, frame_at, frame_from, frames_at, is_any, is_frame_count, is_truth, many_at, number_at, return_at, return_from, returns_at, screen_at, storage_at, truth_of}
use Rattle.pw_image.specs.Values.{AreBytes, FrameHasValues, HasValues, ReturnHasValues}

-- An active PERFORM.

abbrev return_parts : Return → ℕ × (ℕ × ℕ)
return_parts r = (r.resume, (r.until, r.turns))

return-form : IsForm return_at return_bytes ReturnHasValues
unfolding return_at
return-form =
    made return_from return_parts _ _ return_bytes _ ReturnHasValues
    (record {
      spelled = λ x fits. refl;
      fit = λ x fits. record { resume = fits.0; until = fits.1.0; turns = fits.1.1 };
      whole = λ y fits. refl;
      parts_fit = λ y fits. (fits.resume, (fits.until, fits.turns));
    })
    (both _ _ _ _ _ _ number32 (both _ _ _ _ _ _ number32 number64))

-- An active program.

storage-form : IsForm storage_at (λ (l : List ℕ). to_be_bytes w32 (length l) ++ l)
    (λ (l : List ℕ). (length l < 2 ^ 32) × ((nat_le (length l) most_active ≡ true) × AreBytes l))
unfolding storage_at
storage-form =
    counted (number_at w32) (λ count. nat_le count most_active) block_at (to_be_bytes w32) (λ l. l) (λ n. n < 2 ^ 32) (λ (l : List ℕ). length l) AreBytes number32 block

returns-form : IsForm returns_at (λ (xs : List Return). length xs ∷ flat_map return_bytes xs)
    (λ (xs : List Return). ((is_any (length xs) ≡ true) × (length xs < 256)) × ((nat_le (length xs) 64 ≡ true) × AllByRecursion ReturnHasValues xs))
unfolding returns_at
returns-form =
    counted (byte_at is_any) (λ count. nat_le count 64) (many_at return_at) (λ b. b ∷ []) (flat_map return_bytes) (λ b. (is_any b ≡ true) × (b < 256))
    (λ (xs : List Return). length xs) (AllByRecursion ReturnHasValues) (byte is_any) (many return_at return_bytes ReturnHasValues return-form)

abbrev frame_parts : Frame → ℕ × (ℕ × (List ℕ × List Return))
frame_parts frame = (frame.program, (frame.at, (frame.storage, frame.returns)))

abbrev FrameIs : Frame → Type 0
FrameIs frame = FrameFits frame × FrameHasValues frame

frame-form : IsForm frame_at frame_bytes FrameIs
unfolding frame_at
frame-form =
    made frame_from frame_parts _ _ frame_bytes _ FrameIs
    (record {
      spelled = λ x fits. refl;
      fit = λ x fits. (
        record { storage = leb-true _ _ fits.1.1.0.1.0; returns = leb-true _ _ fits.1.1.1.1.0 },
        record { program = fits.0; at = fits.1.0; storage = fits.1.1.0.1.1; returns = All-from_recursion ReturnHasValues _ fits.1.1.1.1.1 },
      );
      whole = λ y fits. refl;
      parts_fit = λ y fits.
          let few = fits.0.storage in
          let turns = fits.0.returns in (
            fits.1.program,
            (
              fits.1.at,
              (
                (omega arith, (le-leb _ _ few, fits.1.storage)),
                ((refl, omega arith), (le-leb _ _ turns, recursion_from_All ReturnHasValues _ fits.1.returns)),
              ),
            ),
          );
    })
    (both _ _ _ _ _ _ number16 (both _ _ _ _ _ _ number32 (both _ _ _ _ _ _ storage-form returns-form)))

frames-form : IsForm frames_at (λ (xs : List Frame). length xs ∷ flat_map frame_bytes xs)
    (λ (xs : List Frame). ((is_any (length xs) ≡ true) × (length xs < 256)) × ((is_frame_count (length xs) ≡ true) × AllByRecursion FrameIs xs))
unfolding frames_at
frames-form =
    counted (byte_at is_any) is_frame_count (many_at frame_at) (λ b. b ∷ []) (flat_map frame_bytes) (λ b. (is_any b ≡ true) × (b < 256))
    (λ (xs : List Frame). length xs) (AllByRecursion FrameIs) (byte is_any) (many frame_at frame_bytes FrameIs frame-form)

-- A context.

counts-form : IsForm counts_at
    (λ (x : Counts). to_be_bytes w16 x.0 ++ (to_be_bytes w32 x.1.0 ++ (to_be_bytes w32 x.1.1.0 ++ (to_be_bytes w32 x.1.1.1.0
    ++ (to_be_bytes w32 x.1.1.1.1.0 ++ (to_be_bytes w32 x.1.1.1.1.1.0 ++ to_be_bytes w32 x.1.1.1.1.1.1))))))
    (λ (x : Counts). (x.0 < 2 ^ 16) × ((x.1.0 < 2 ^ 32) × ((x.1.1.0 < 2 ^ 32) × ((x.1.1.1.0 < 2 ^ 32) × ((x.1.1.1.1.0 < 2 ^ 32)
    × ((x.1.1.1.1.1.0 < 2 ^ 32) × (x.1.1.1.1.1.1 < 2 ^ 32)))))))
unfolding counts_at
counts-form =
    both _ _ _ _ _ _ number16 (both _ _ _ _ _ _ number32 (both _ _ _ _ _ _ number32 (both _ _ _ _ _ _ number32
    (both _ _ _ _ _ _ number32 (both _ _ _ _ _ _ number32 number32)))))

abbrev context_parts : Context → Counts × (ℕ × (ℕ × (List ℕ × List Frame)))
context_parts c = (
  (c.termination, (c.restarts, (c.phase, (c.attempt, (c.shown, (c.entries, c.units)))))),
  (truth c.in_unit, (truth (is_advisory c.course), (c.screen, c.frames))),
)

-- what stands behind the mark
abbrev behind_mark : Context → List ℕ
behind_mark context =
    count_bytes context ++ (truth context.in_unit ∷ [] ++ (truth (is_advisory context.course) ∷ [] ++ (context.screen ++ (length context.frames ∷ flat_map frame_bytes context.frames))))

abbrev ContextIs : Context → Type 0
ContextIs context = HasImage context × HasValues context

pub truth-of-truth : (b : Bool) → truth_of (truth b) ≡ b
truth-of-truth false = refl
truth-of-truth true = refl

truth-again : (n : ℕ) → nat_le n 1 ≡ true → truth (truth_of n) ≡ n
truth-again zero h = refl
truth-again (suc zero) h = refl
truth-again (suc (suc n)) h = absurd (let le : suc (suc n) ≤ 1 = leb-true _ _ h in omega arith)

pub truth-small : (b : Bool) → (is_truth (truth b) ≡ true) × (truth b < 256)
truth-small false = (refl, omega arith)
truth-small true = (refl, omega arith)

-- the byte of a course, and the course of a byte
advisory-again : (b : Bool) → is_advisory (if b then Advisory else Instruction) ≡ b
advisory-again false = refl
advisory-again true = refl

course-again : (course : Course) → is_run_fault course ≡ false → course_of (truth (is_advisory course)) ≡ course
course-again Instruction h = refl
course-again Advisory h = refl
course-again (Fault code) h = absurd (cc h)

course-plain : (b : Bool) → is_run_fault (if b then Advisory else Instruction) ≡ false
course-plain false = refl
course-plain true = refl

-- a context without count, fault and file status at an answer is made of its parts
abbrev with_rest : Context → ℕ → Bool → Course → Bool → ℕ → Context
with_rest c file_status in_unit course at_verb count =
    record c { file_status = file_status; in_unit = in_unit; course = course; at_verb = at_verb; count = count }

whole-context : (c : Context) → ContextIs c → context_from (context_parts c) ≡ c
whole-context c fits =
    let course = course_of (truth (is_advisory c.course)) in
    ap (λ n. with_rest c n (truth_of (truth c.in_unit)) course false 0) (sym fits.0.file_status)
    ∙ ap (λ b. with_rest c c.file_status b course false 0) (truth-of-truth c.in_unit)
    ∙ ap (λ n. with_rest c c.file_status c.in_unit n false 0) (course-again c.course fits.0.no_fault)
    ∙ ap (λ b. with_rest c c.file_status c.in_unit c.course b 0) (sym fits.0.at_answer)
    ∙ ap (λ n. with_rest c c.file_status c.in_unit c.course c.at_verb n) (sym fits.0.count)

frame-count : (n : ℕ) → 1 ≤ n → n ≤ 9 → is_frame_count n ≡ true
frame-count n one nine = rw (le-leb 1 n one) (le-leb n 9 nine)

fit-frames : (xs : List Frame) → AllByRecursion FrameIs xs → AllByRecursion FrameFits xs × AllByRecursion FrameHasValues xs
fit-frames [] h = (tt, tt)
fit-frames (x ∷ xs) h = let k = fit-frames xs h.1 in ((h.0.0, k.0), (h.0.1, k.1))

frames-fit : (xs : List Frame) → AllByRecursion FrameFits xs → AllByRecursion FrameHasValues xs → AllByRecursion FrameIs xs
frames-fit [] h k = tt
frames-fit (x ∷ xs) h k = ((h.0, k.0), frames-fit xs h.1 k.1)

context-form : IsForm context_at behind_mark ContextIs
unfolding context_at
context-form =
    made context_from context_parts _ _ behind_mark _ ContextIs
    (record {
      spelled = λ x fits. ap₂ (λ n m. count_bytes (context_from x) ++ (n ∷ [] ++ (m ∷ [] ++ (x.1.1.1.0 ++ (length x.1.1.1.1 ∷ flat_map frame_bytes x.1.1.1.1)))))
          (truth-again x.1.0 fits.1.0.0) (ap truth (advisory-again (truth_of x.1.1.0)) ∙ truth-again x.1.1.0 fits.1.1.0.0);
      fit = λ x fits.
          let frames = fits.1.1.1.1 in
          let count = and_parts _ _ frames.1.0 in
          let each = fit-frames x.1.1.1.1 frames.1.1 in (
            record {
              file_status = refl;
              at_answer = refl;
              count = refl;
              no_fault = course-plain (truth_of x.1.1.0);
              some = leb-true _ _ count.0;
              few = leb-true _ _ count.1;
              frames = All-from_recursion FrameFits _ each.0;
            },
            record {
              counts = record {
                termination = fits.0.0;
                restarts = fits.0.1.0;
                phase = fits.0.1.1.0;
                attempt = fits.0.1.1.1.0;
                shown = fits.0.1.1.1.1.0;
                entries = fits.0.1.1.1.1.1.0;
                units = fits.0.1.1.1.1.1.1;
              };
              whole = fits.1.1.1.0.0;
              screen = fits.1.1.1.0.1;
              frames = All-from_recursion FrameHasValues _ each.1;
            },
          );
      whole = whole-context;
      parts_fit = λ c fits.
          let h = fits.0 in
          let v = fits.1 in
          let few = h.few in
          let n = v.counts in (
            (n.termination, (n.restarts, (n.phase, (n.attempt, (n.shown, (n.entries, n.units)))))),
            (
              truth-small c.in_unit,
              (
                truth-small (is_advisory c.course),
                (
                  (v.whole, v.screen),
                  (
                    (refl, omega arith),
                    (
                      frame-count _ h.some h.few,
                      frames-fit c.frames (recursion_from_All FrameFits _ h.frames) (recursion_from_All FrameHasValues _ v.frames),
                    ),
                  ),
                ),
              ),
            ),
          );
    })
    (both _ _ _ _ _ _ counts-form (both _ _ _ _ _ _ (byte is_truth) (both _ _ _ _ _ _ (byte is_truth) (both _ _ _ _ _ _ (block 1920) frames-form))))

-- An image.

pub all-is : {A : Type 0} (front : Front A) (x : A) → all_of front ≡ Some x → front ≡ Some (x, [])
all-is None x e = absurd cc
all-is (Some (y, [])) x e = ap (λ z. Some (z, [])) (some_is e)
all-is (Some (y, b ∷ bytes)) x e = absurd cc

-- what is read as a context is its image
pub is-image : (bytes : List ℕ) (context : Context) → AreBytes bytes → context_in bytes ≡ Some context → IsImageOf bytes context
unfolding context_in
is-image bytes context fits e =
    let g = cond_passed (bytes_eq (take 3 bytes) mark) (all_of (context_at (drop 3 bytes))) context e in
    let marked : take 3 bytes ≡ mark = (bytes_eq-Decides (take 3 bytes) mark).0 g.0 in
    let found = context-form.takes (drop 3 bytes) context [] (AreBytes-drop 3 bytes fits) (all-is (context_at (drop 3 bytes)) context g.1) in
    record {
      has_image = found.1.0;
      has_values = found.1.1;
      is = sym (take-append-drop 3 bytes) ∙ ap (λ l. l ++ drop 3 bytes) marked ∙ ap (λ l. mark ++ l) (found.0.parts ∙ append-nil (behind_mark context));
    }

-- an image is read as its context
pub read-again : (context : Context) → HasImage context → HasValues context → context_in (image_of context) ≡ Some context
unfolding context_in
read-again context has values =
    let again : context_at (behind_mark context) ≡ Some (context, []) =
    ap context_at (sym (append-nil (behind_mark context))) ∙ context-form.again context [] (has, values) in
    ap all_of again
