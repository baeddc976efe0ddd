-- What a disc tells stays that of the paired system.
use Rattle.std.proofs.Common.{◌≡◌, ◌≢◌, ⊎_elim, ℕ, List, [], ◌∷◌, ◌&&◌, ◌||◌, Bool, true, false, not, cond, Option, Some, None, nat_eq, refl, sym, ap, subst, ◌∙◌, arith}
use Rattle.std.specs.Prelude.{filter}
use Rattle.std.specs.Option.{option_map}
use Rattle.std.specs.Str.{bytes_eq}
use Rattle.std.proofs.lemmas.Bool.{cases_eq}
use Rattle.std.proofs.lemmas.Bool.Decides.{nat_tests}
use Rattle.pw_code.specs.declared.file.FileCall.{FileCall}
use Rattle.pw_code.specs.declared.unit.Unit as unit
use Rattle.pw_event.specs.declared.event.Cause.{Cause}
use Rattle.pw_onecopy.specs.Behaviour.{Behaviour}
use Rattle.pw_onecopy.specs.Operation.{changes_records, key_of}
use Rattle.pw_onecopy.specs.Path.{PathAnswer}
use Rattle.pw_onecopy.specs.Update.{upd}
use Rattle.pw_onecopy.proofs.Update.{upd_both, upd_elim}
use Rattle.pw_paired.specs.Failure.{do_restart, with_restart}
use Rattle.pw_paired.specs.Server.{do_operation}
use Rattle.pw_paired.specs.State.{BeforeImage, Job, OpenUnit, State}
use Rattle.pw_paired.specs.Terminal.{IsIdle, do_begin, path_of, unit_with_attempt}
use Rattle.pw_paired.specs.Units as paired
use Rattle.pw_paired.specs.Units.{attempt_of, commit_unit, drop_unit, has_image, image_before, is_first_change, only, restored_files, unit_of, without_locks}
use Rattle.pw_tmf.specs.Committed.{images_of}
use Rattle.pw_tmf.specs.Operation.{after_operation, with_image}
use Rattle.pw_tmf.specs.Tells.{Tells, as_told, begun_as, images_by, unit_begun}
use Rattle.pw_tmf.specs.Told.{ToldUnit, Told}
use Rattle.pw_tmf.specs.Units.{after_commit, backed_out, begun, opened, stopped}

pub only-same : (t : ℕ) → only t t ≡ true
only-same t = grind (arith, nat_tests)

pub only-other : (t u : ℕ) → u ≢ t → only t u ≡ false
only-other t u ne = grind (arith, nat_tests, ne)

-- ---- the before-images of a terminal

-- among those of others there is none
none-left : (t : ℕ) (before : List BeforeImage) → images_by t (filter (λ image. not (only t image.terminal)) before) ≡ []
none-left t [] = refl
none-left t (image ∷ before) =
    elim (only t image.terminal) as (λ b. only t image.terminal ≡ b → images_by t (cond (not b) (image ∷ filter (λ i. not (only t i.terminal)) before) (filter (λ i. not (only t i.terminal)) before)) ≡ []) [
      | true ↦ λ is. none-left t before
      | false ↦ λ is. rw is (none-left t before)
    ] refl

-- those of another terminal stay
others-left : (t u : ℕ) (before : List BeforeImage) → u ≢ t → images_by u (filter (λ image. not (only t image.terminal)) before) ≡ images_by u before
others-left t u [] ne = refl
others-left t u (image ∷ before) ne =
    elim (only t image.terminal) as (λ b. only t image.terminal ≡ b → images_by u (cond (not b) (image ∷ filter (λ i. not (only t i.terminal)) before) (filter (λ i. not (only t i.terminal)) before)) ≡ images_by u (image ∷ before)) [
      | true ↦ λ is.
          let same : image.terminal ≡ t = grind (arith, nat_tests, is) in
          let other : only u image.terminal ≡ false = only-other u image.terminal (λ e. ne (sym e ∙ same)) in
          rw other (others-left t u before ne)
      | false ↦ λ is. ap (λ rest. cond (only u image.terminal) (image ∷ rest) rest) (others-left t u before ne)
    ] refl

-- one is at a key for the terminal alone
has-own : (t file : ℕ) (key : List ℕ) (before : List BeforeImage) → has_image t file key (images_by t before) ≡ has_image t file key before
has-own t file key [] = refl
has-own t file key (image ∷ before) =
    elim (only t image.terminal) as (λ b. only t image.terminal ≡ b → has_image t file key (cond b (image ∷ images_by t before) (images_by t before)) ≡ ((only t image.terminal && (nat_eq image.file file && bytes_eq image.key key)) || has_image t file key before)) [
      | true ↦ λ is. ap (λ rest. (only t image.terminal && (nat_eq image.file file && bytes_eq image.key key)) || rest) (has-own t file key before)
      | false ↦ λ is. rw is (has-own t file key before)
    ] refl

-- those of a terminal behind an operation of its unit, and those of the others
own-more : (t : ℕ) (b : Bool) (image : BeforeImage) (before : List BeforeImage) → image.terminal ≡ t → images_by t (cond b (image ∷ before) before) ≡ cond b (image ∷ images_by t before) (images_by t before)
own-more t true image before is = let yes : only t image.terminal ≡ true = ap (only t) is ∙ only-same t in rw yes refl
own-more t false image before is = refl

others-more : (t u : ℕ) (b : Bool) (image : BeforeImage) (before : List BeforeImage) → image.terminal ≡ t → u ≢ t → images_by u (cond b (image ∷ before) before) ≡ images_by u before
others-more t u true image before is ne = let no : only u image.terminal ≡ false = only-other u image.terminal (λ e. ne (sym e ∙ is)) in rw no refl
others-more t u false image before is ne = refl

-- what is told of a unit's before-images
own-images : (sys : Behaviour) (state : State) (told : Told) (t : ℕ) → Tells sys state told → images_of (told.units t) ≡ images_by t state.before
own-images sys state told t h = ap images_of (h.units t) ∙ by (state.units t) (h.idle t)
  where
    by : (own : Option OpenUnit) → (attempt_of own ≡ None → images_by t state.before ≡ []) → images_of (option_map (as_told (images_by t state.before)) own) ≡ images_by t state.before
    by None idle = sym (idle refl)
    by (Some own) idle = refl

-- ---- begin

begun-told : (n birth : ℕ) (path : List PathAnswer) (own : Option OpenUnit) (before : List BeforeImage) → (unit_with_attempt n birth path own).number ≡ n → before ≡ []
    → (t : ℕ) → opened (record { terminal = t; number = n; birth = (unit_with_attempt n birth path own).birth }) ≡ as_told before (unit_with_attempt n birth path own)
begun-told n birth path None before is none t = rw none refl
begun-told n birth path (Some own) before is none t = rw (none, is) refl

runs-on : (n birth : ℕ) (path : List PathAnswer) (own : Option OpenUnit) → attempt_of (Some (unit_with_attempt n birth path own)) ≡ None → ⊥
runs-on n birth path None h = absurd (cc h)
runs-on n birth path (Some own) h = absurd (cc h)

pub tells-begin : (sys : Behaviour) (state : State) (told : Told) (t n r : ℕ) → Tells sys state told → IsIdle state t → (unit_begun state t n).number ≡ n
    → Tells sys (do_begin sys t n r state) (begun told (begun_as state t n))
tells-begin sys state told t n r h idle number = record {
  rule = h.rule;
  keys = h.keys;
  files = h.files;
  locks = h.locks;
  units = λ u.
      upd_both told.units state.units t (Some (opened (begun_as state t n))) (Some (unit_begun state t n)) u
      (λ a b. a ≡ option_map (as_told (images_by u state.before)) b)
      (λ same. ap Some (begun-told n state.births (path_of state t) (state.units t) (images_by u state.before) number (ap (λ v. images_by v state.before) same ∙ h.idle t idle) t))
      (λ other. h.units u);
  ended = h.ended;
  idle = λ u.
      upd_elim state.units t (Some (unit_begun state t n)) u (λ own. attempt_of own ≡ None → images_by u state.before ≡ [])
      (λ same none. absurd (runs-on n state.births (path_of state t) (state.units t) none))
      (λ other. h.idle u);
}

-- ---- operate

with-image-told : (n t : ℕ) (records : List (List ℕ)) (call : FileCall) (before : List BeforeImage) (own : OpenUnit)
    → with_image n records t call (as_told (images_by t before) own)
    ≡ as_told (images_by t (cond (is_first_change n records t call before) (image_before n records t call ∷ before) before)) own
with-image-told n t records call before own =
    let first : is_first_change n records t call (images_by t before) ≡ is_first_change n records t call before =
    ap (λ b. changes_records n records call && not b) (has-own t call.file (key_of n call.op call) before) in
    rw first (by (is_first_change n records t call before))
  where
    image : BeforeImage
    image = image_before n records t call

    by : (b : Bool) → cond b (record (as_told (images_by t before) own) { before = image_before n records t call ∷ images_by t before }) (as_told (images_by t before) own)
        ≡ as_told (images_by t (cond b (image_before n records t call ∷ before) before)) own
    by true = ap (λ images. as_told images own) (sym (own-more t true (image_before n records t call) before refl))
    by false = refl

pub tells-operate : (sys : Behaviour) (state : State) (told : Told) (c i : ℕ) (job : Job) (call : FileCall) (own : OpenUnit) (start : List PathAnswer) → Tells sys state told
    → state.units job.request.terminal ≡ Some own → own.running ≡ Some start
    → Tells sys (do_operation sys c i job call state) (after_operation told (unit_of state job.request) call)
tells-operate sys state told c i job call own start h is runs = record {
  rule = h.rule;
  keys = h.keys;
  files = rw (h.keys, h.files) refl;
  locks = rw (h.rule, h.keys, h.files, h.locks) refl;
  units = λ u.
      upd_elim told.units t (option_map (with_image (told.key_length call.file) (told.files call.file) t call) (told.units t)) u
      (λ a. a ≡ option_map (as_told (images_by u (paired.with_image sys state t call))) (state.units u))
      (λ same. subst (λ v. option_map (with_image (told.key_length call.file) (told.files call.file) t call) (told.units t) ≡ option_map (as_told (images_by v (paired.with_image sys state t call))) (state.units v)) (sym same) here)
      (λ other. h.units u ∙ ap (λ images. option_map (as_told images) (state.units u)) (sym (others-more t u (is_first_change n records t call state.before) (image_before n records t call) state.before refl other)));
  ended = h.ended;
  idle = λ u none. others-idle u none;
}
  where
    t : ℕ
    t = job.request.terminal

    n : ℕ
    n = sys.key_length call.file

    records : List (List ℕ)
    records = state.files call.file

    here : option_map (with_image (told.key_length call.file) (told.files call.file) t call) (told.units t) ≡ option_map (as_told (images_by t (paired.with_image sys state t call))) (state.units t)
    here =
        let told_own : told.units t ≡ Some (as_told (images_by t state.before) own) = h.units t ∙ ap (option_map (as_told (images_by t state.before))) is in
        rw (h.keys, h.files, told_own, is) (ap Some (with-image-told n t records call state.before own))

    others-idle : (u : ℕ) → attempt_of (state.units u) ≡ None → images_by u (paired.with_image sys state t call) ≡ []
    others-idle u none =
        ⊎_elim
        (λ (same : u ≡ t).
        let runs-there : attempt_of (state.units u) ≡ Some start = ap (λ v. attempt_of (state.units v)) same ∙ (ap attempt_of is ∙ runs) in
        absurd (cc (runs-there, none)))
        (λ (other : u ≢ t). others-more t u (is_first_change n records t call state.before) (image_before n records t call) state.before refl other ∙ h.idle u none)
        (cases_eq u t)

-- ---- commit, drop and restart

left-units : (sys : Behaviour) (state : State) (told : Told) (t : ℕ) → Tells sys state told → (a : Option ToldUnit) (b : Option OpenUnit)
    → (a ≡ option_map (as_told []) b)
    → (u : ℕ) → upd told.units t a u ≡ option_map (as_told (images_by u (filter (λ image. not (only t image.terminal)) state.before))) (upd state.units t b u)
left-units sys state told t h a b new u =
    upd_both told.units state.units t a b u (λ x y. x ≡ option_map (as_told (images_by u (filter (λ image. not (only t image.terminal)) state.before))) y)
    (λ same. new ∙ ap (λ images. option_map (as_told images) b) (sym (ap (λ v. images_by v (filter (λ image. not (only t image.terminal)) state.before)) same ∙ none-left t state.before)))
    (λ other. h.units u ∙ ap (λ images. option_map (as_told images) (state.units u)) (sym (others-left t u state.before other)))

left-idle : (sys : Behaviour) (state : State) (told : Told) (t : ℕ) → Tells sys state told → (b : Option OpenUnit)
    → (u : ℕ) → attempt_of (upd state.units t b u) ≡ None → images_by u (filter (λ image. not (only t image.terminal)) state.before) ≡ []
left-idle sys state told t h b u =
    upd_elim state.units t b u (λ own. attempt_of own ≡ None → images_by u (filter (λ image. not (only t image.terminal)) state.before) ≡ [])
    (λ same none. ap (λ v. images_by v (filter (λ image. not (only t image.terminal)) state.before)) same ∙ none-left t state.before)
    (λ other none. others-left t u state.before other ∙ h.idle u none)

pub tells-commit : (sys : Behaviour) (state : State) (told : Told) (unit : unit.Unit) (reply : Option (List ℕ)) → Tells sys state told
    → Tells sys (commit_unit unit.terminal unit.number reply state) (after_commit told unit reply)
tells-commit sys state told unit reply h = record {
  rule = h.rule;
  keys = h.keys;
  files = h.files;
  locks = ap (without_locks (only unit.terminal)) h.locks;
  units = left-units sys state told unit.terminal h None None refl;
  ended = rw h.ended refl;
  idle = left-idle sys state told unit.terminal h None;
}

restored-same : (sys : Behaviour) (state : State) (told : Told) (t : ℕ) → Tells sys state told
    → restored_files told.key_length (images_of (told.units t)) told.files ≡ restored_files sys.key_length (images_by t state.before) state.files
restored-same sys state told t h = rw (h.keys, h.files, own-images sys state told t h) refl

pub tells-drop : (sys : Behaviour) (state : State) (told : Told) (unit : unit.Unit) → Tells sys state told
    → Tells sys (drop_unit sys unit.terminal unit.number state) (backed_out true told unit)
tells-drop sys state told unit h = record {
  rule = h.rule;
  keys = h.keys;
  files = restored-same sys state told unit.terminal h;
  locks = ap (without_locks (only unit.terminal)) h.locks;
  units = left-units sys state told unit.terminal h None None refl;
  ended = rw h.ended refl;
  idle = left-idle sys state told unit.terminal h None;
}

stopped-told : (cause : Cause) (before : List BeforeImage) (own : Option OpenUnit) → option_map stopped (option_map (as_told before) own) ≡ option_map (as_told []) (with_restart cause own)
stopped-told cause before None = refl
stopped-told cause before (Some own) = refl

pub tells-restart : (sys : Behaviour) (state : State) (told : Told) (unit : unit.Unit) (cause : Cause) → Tells sys state told
    → Tells sys (do_restart sys unit.terminal cause state) (backed_out false told unit)
tells-restart sys state told unit cause h = record {
  rule = h.rule;
  keys = h.keys;
  files = restored-same sys state told unit.terminal h;
  locks = ap (without_locks (only unit.terminal)) h.locks;
  units =
      left-units sys state told unit.terminal h (option_map stopped (told.units unit.terminal)) (with_restart cause (state.units unit.terminal))
      (ap (option_map stopped) (h.units unit.terminal) ∙ stopped-told cause (images_by unit.terminal state.before) (state.units unit.terminal));
  ended = h.ended;
  idle = left-idle sys state told unit.terminal h (with_restart cause (state.units unit.terminal));
}
