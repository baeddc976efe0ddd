-- Operations that change a record, and the before-images that they leave.
use Rattle.std.proofs.Common.{◌≡◌, ℕ, ◌<◌, ◌∙◌, length, sym, ap, refl, Bool, true, false, not, ◌&&◌, ◌==◌, cond, List, Option, Some, None}
use Rattle.std.specs.Prelude.{is_some, slice_index_or}
use Rattle.std.specs.Borrow.{Bor}
use Rattle.std.specs.Option.{option_copied, option_map}
use Rattle.std.proofs.lemmas.Bool.{and_right, and_from}
use Rattle.pw_blocks.specs.Blocks.{BlocksState, records_of}
use Rattle.pw_code.specs.declared.file.FileCall.{FileCall}
use Rattle.pw_code.specs.declared.file.FileOp.{FileOp}
use Rattle.pw_code.specs.declared.file.FileOp.TheVariants.{Read, Next, Write, Rewrite, Delete, ReadLock, NextLock}
use Rattle.pw_files.specs.Records.{has_key, record_at}
use Rattle.pw_onecopy.specs.Operation.{answer_of, changes_records, is_change, key_of, records_behind, changed_records}
use Rattle.pw_onecopy.specs.Path.{FileResult}
use Rattle.pw_paired.specs.Units.{has_image, image_before}
use Rattle.pw_tmf.specs.Committed.{images_of}
use Rattle.pw_tmf.specs.Operation.{answer_with, refusal, with_image}
use Rattle.pw_tmf.specs.Slots.{SlotState, with_before, with_unit}
use Rattle.pw_tmf.specs.Tmf.{key_lengths, stored}
use Rattle.pw_tmf.specs.Told.{ToldUnit}
use Rattle.pw_tmf.proofs.Stored.{file-is}

-- what a refusal says of an operation's answer
record Refused (n : ℕ) (records : List (List ℕ)) (op : FileOp) (call : FileCall) (status : ℕ) : Type 0 where
  pub answer : answer_of n records op call ≡ answer_with status None
  pub fails : ((answer_of n records op call).status == 0) ≡ false

refused-op : (n : ℕ) (records : List (List ℕ)) (op : FileOp) (call : FileCall) (status : ℕ) → refusal op (has_key n records (key_of n op call)) ≡ Some status → Refused n records op call status
refused-op n records Read call status h = absurd (cc h)
refused-op n records Next call status h = absurd (cc h)
refused-op n records ReadLock call status h = absurd (cc h)
refused-op n records NextLock call status h = absurd (cc h)
refused-op n records Write call status h = by (has_key n records (key_of n Write call)) refl
  where
    by : (b : Bool) → has_key n records (key_of n Write call) ≡ b → Refused n records Write call status
    by true is = let ten : 10 ≡ status = cc (rw is at h) in record { answer = rw is (ap (λ s. answer_with s None) ten); fails = rw is refl }
    by false is = absurd (cc (rw is at h))
refused-op n records Rewrite call status h = by (has_key n records (key_of n Rewrite call)) refl
  where
    by : (b : Bool) → has_key n records (key_of n Rewrite call) ≡ b → Refused n records Rewrite call status
    by false is = let eleven : 11 ≡ status = cc (rw is at h) in record { answer = rw is (ap (λ s. answer_with s None) eleven); fails = rw is refl }
    by true is = absurd (cc (rw is at h))
refused-op n records Delete call status h = by (has_key n records call.key) refl
  where
    by : (b : Bool) → has_key n records call.key ≡ b → Refused n records Delete call status
    by false is = let eleven : 11 ≡ status = cc (rw is at h) in record { answer = rw is (ap (λ s. answer_with s None) eleven); fails = rw is refl }
    by true is = absurd (cc (rw is at h))

-- a refused operation answers this status, and changes nothing
pub refused-answer : (n : ℕ) (records : List (List ℕ)) (call : FileCall) (status : ℕ) → refusal call.op (has_key n records (key_of n call.op call)) ≡ Some status
    → answer_of n records call.op call ≡ answer_with status None
refused-answer n records call status h = (refused-op n records call.op call status h).answer

pub refused-changes : (n : ℕ) (records : List (List ℕ)) (call : FileCall) (status : ℕ) → refusal call.op (has_key n records (key_of n call.op call)) ≡ Some status
    → changes_records n records call ≡ false
refused-changes n records call status h = and_right (is_change call.op) _ (refused-op n records call.op call status h).fails

-- any other answers status 0
allowed-op : (n : ℕ) (records : List (List ℕ)) (op : FileOp) (call : FileCall) → is_change op ≡ true → refusal op (has_key n records (key_of n op call)) ≡ None
    → answer_of n records op call ≡ answer_with 0 None
allowed-op n records Read call c h = absurd (cc c)
allowed-op n records Next call c h = absurd (cc c)
allowed-op n records ReadLock call c h = absurd (cc c)
allowed-op n records NextLock call c h = absurd (cc c)
allowed-op n records Write call c h = by (has_key n records (key_of n Write call)) refl
  where
    by : (b : Bool) → has_key n records (key_of n Write call) ≡ b → answer_of n records Write call ≡ answer_with 0 None
    by false is = rw is refl
    by true is = absurd (cc (rw is at h))
allowed-op n records Rewrite call c h = by (has_key n records (key_of n Rewrite call)) refl
  where
    by : (b : Bool) → has_key n records (key_of n Rewrite call) ≡ b → answer_of n records Rewrite call ≡ answer_with 0 None
    by true is = rw is refl
    by false is = absurd (cc (rw is at h))
allowed-op n records Delete call c h = by (has_key n records call.key) refl
  where
    by : (b : Bool) → has_key n records call.key ≡ b → answer_of n records Delete call ≡ answer_with 0 None
    by true is = rw is refl
    by false is = absurd (cc (rw is at h))

pub allowed-answer : (n : ℕ) (records : List (List ℕ)) (call : FileCall) → is_change call.op ≡ true → refusal call.op (has_key n records (key_of n call.op call)) ≡ None
    → answer_of n records call.op call ≡ answer_with 0 None
allowed-answer n records call = allowed-op n records call.op call

pub allowed-changes : (n : ℕ) (records : List (List ℕ)) (call : FileCall) → is_change call.op ≡ true → refusal call.op (has_key n records (key_of n call.op call)) ≡ None
    → changes_records n records call ≡ true
allowed-changes n records call c h = and_from (is_change call.op) _ c (ap (λ (a : FileResult). a.status == 0) (allowed-op n records call.op call c h))

-- a read changes nothing
pub read-changes : (n : ℕ) (records : List (List ℕ)) (call : FileCall) → is_change call.op ≡ false → changes_records n records call ≡ false
read-changes n records call h = ap (λ b. b && (answer_of n records call.op call).status == 0) h

pub unchanged-records : (n : ℕ) (records : List (List ℕ)) (call : FileCall) → changes_records n records call ≡ false → records_behind n records call ≡ records
unchanged-records n records call h = ap (λ b. cond b (changed_records n records call.op call) records) h

-- the units of a terminal, of which the open one stays as it is
with-same : (change : ToldUnit → ToldUnit) (slot : SlotState) → ((unit : ToldUnit) → change unit ≡ unit) → with_unit change slot ≡ slot
with-same change slot same = by slot.open_unit refl
  where
    by : (own : Option ToldUnit) → slot.open_unit ≡ own → with_unit change slot ≡ slot
    by None is = ap (λ (o : Option ToldUnit). record slot { open_unit = option_map change o }) is ∙ ap (λ (o : Option ToldUnit). record slot { open_unit = o }) (sym is)
    by (Some unit) is = ap (λ (o : Option ToldUnit). record slot { open_unit = option_map change o }) is ∙ (ap (λ (u : ToldUnit). record slot { open_unit = Some u }) (same unit) ∙ ap (λ (o : Option ToldUnit). record slot { open_unit = o }) (sym is))

pub unchanged-unit : (n : ℕ) (records : List (List ℕ)) (t : ℕ) (call : FileCall) (slot : SlotState) → changes_records n records call ≡ false → slot ≡ with_unit (with_image n records t call) slot
unchanged-unit n records t call slot h =
    sym (with-same (with_image n records t call) slot (λ unit. ap (λ b. cond (b && not (has_image t call.file (key_of n call.op call) unit.before)) (with_before (image_before n records t call) unit) unit) h))

-- a change at a key that the unit has changed before
pub again-unit : (n : ℕ) (records : List (List ℕ)) (t : ℕ) (call : FileCall) (slot : SlotState) → has_image t call.file (key_of n call.op call) (images_of slot.open_unit) ≡ true
    → slot ≡ with_unit (with_image n records t call) slot
again-unit n records t call slot h = by slot.open_unit refl
  where
    by : (own : Option ToldUnit) → slot.open_unit ≡ own → slot ≡ with_unit (with_image n records t call) slot
    by None is = ap (λ (o : Option ToldUnit). record slot { open_unit = o }) is ∙ sym (ap (λ (o : Option ToldUnit). record slot { open_unit = option_map (with_image n records t call) o }) is)
    by (Some unit) is =
        let there : has_image t call.file (key_of n call.op call) unit.before ≡ true = ap (λ (o : Option ToldUnit). has_image t call.file (key_of n call.op call) (images_of o)) (sym is) ∙ h in
        let same : with_image n records t call unit ≡ unit =
        ap (λ b. cond b (with_before (image_before n records t call) unit) unit) (and_right (changes_records n records call) _ (ap not there)) in
        ap (λ (o : Option ToldUnit). record slot { open_unit = o }) is
        ∙ sym (ap (λ (o : Option ToldUnit). record slot { open_unit = option_map (with_image n records t call) o }) is ∙ ap (λ (u : ToldUnit). record slot { open_unit = Some u }) same)

-- a change at a key that it has not
pub first-unit : (n : ℕ) (records : List (List ℕ)) (t : ℕ) (call : FileCall) (slot : SlotState) → has_image t call.file (key_of n call.op call) (images_of slot.open_unit) ≡ false
    → changes_records n records call ≡ true → with_unit (with_before (image_before n records t call)) slot ≡ with_unit (with_image n records t call) slot
first-unit n records t call slot h ch = by slot.open_unit refl
  where
    by : (own : Option ToldUnit) → slot.open_unit ≡ own → with_unit (with_before (image_before n records t call)) slot ≡ with_unit (with_image n records t call) slot
    by None is =
        ap (λ (o : Option ToldUnit). record slot { open_unit = option_map (with_before (image_before n records t call)) o }) is
        ∙ sym (ap (λ (o : Option ToldUnit). record slot { open_unit = option_map (with_image n records t call) o }) is)
    by (Some unit) is =
        let new : has_image t call.file (key_of n call.op call) unit.before ≡ false = ap (λ (o : Option ToldUnit). has_image t call.file (key_of n call.op call) (images_of o)) (sym is) ∙ h in
        let same : with_image n records t call unit ≡ with_before (image_before n records t call) unit =
        ap (λ b. cond b (with_before (image_before n records t call) unit) unit) (and_from (changes_records n records call) _ ch (ap not new)) in
        ap (λ (o : Option ToldUnit). record slot { open_unit = option_map (with_before (image_before n records t call)) o }) is
        ∙ (ap (λ (u : ToldUnit). record slot { open_unit = Some u }) (sym same)
        ∙ sym (ap (λ (o : Option ToldUnit). record slot { open_unit = option_map (with_image n records t call) o }) is))

-- whether a record was found for the key that an operation speaks of
found-is : (found : Option (Bor (List ℕ))) → is_some found ≡ is_some (option_copied found)
found-is None = refl
found-is (Some content) = refl

pub seen-key : (file : BlocksState) (call : FileCall) (len : ℕ) (key : List ℕ) (found : Option (Bor (List ℕ))) (is_there : Bool)
    → len ≡ file.key → key ≡ key_of len call.op call → option_copied found ≡ record_at file.key (records_of file.blocks) key → is_there ≡ is_some found
    → is_there ≡ has_key file.key (records_of file.blocks) (key_of file.key call.op call)
seen-key file call len key found is_there len_is key_is record_is is =
    is ∙ (found-is found ∙ (ap is_some record_is ∙ ap (λ k. has_key file.key (records_of file.blocks) k) (key_is ∙ ap (λ n. key_of n call.op call) len_is)))

pub seen-in : (files : List BlocksState) (file : BlocksState) (call : FileCall) (is_there : Bool) → call.file < length files → file ≡ slice_index_or files call.file file
    → is_there ≡ has_key file.key (records_of file.blocks) (key_of file.key call.op call)
    → has_key (key_lengths files call.file) (stored files call.file) (key_of (key_lengths files call.file) call.op call) ≡ is_there
seen-in files file call is_there lt is seen =
    ap (λ (s : BlocksState). has_key s.key (records_of s.blocks) (key_of s.key call.op call)) (file-is files call.file file lt is) ∙ sym seen
