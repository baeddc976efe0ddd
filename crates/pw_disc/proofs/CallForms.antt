-- The forms of a disc message, from its parts up.
use Rattle.std.proofs.Common.{◌≡◌, ℕ, zero, suc, ◌^◌, ◌<◌, ◌≤◌, Bool, true, List, [], ◌∷◌, ◌++◌, length, All, Option, Some, None, refl, sym, ap, subst, ◌∙◌, arith}
use Rattle.std.specs.Int.{w32, to_be_bytes}
use Rattle.std.specs.List.{flat_map, AllByRecursion}
use Rattle.std.proofs.lemmas.Bool.{leb-true}
use Rattle.std.proofs.lemmas.List.{append-nil}
use Rattle.std.proofs.lemmas.List.Elements.{All-from_recursion, recursion_from_All}
use Rattle.pw_base.proofs.Plain.{some_is}
use Rattle.pw_code.specs.declared.file.FileCall.{FileCall}
use Rattle.pw_code.specs.declared.file.FileOp.{FileOp}
use Rattle.pw_code.specs.declared.file.FileOp.TheVariants.{Read, Next, Write, Rewrite, Delete, ReadLock, NextLock}
use Rattle.pw_code.specs.declared.unit.Unit as unit
use Rattle.pw_image.proofs.Forms.{IsForm, Takes, block, both, byte, counted, made, many, number32, number64}
use Rattle.pw_image.proofs.ImageForms.{truth-of-truth, truth-small, all-is}
use Rattle.pw_image.specs.Image.{truth}
use Rattle.pw_image.specs.Reading.{Front, all_of, block_at, byte_at, is_any, is_truth, many_at, number_at, truth_of}
use Rattle.pw_image.specs.Values.{AreBytes}
use Rattle.pw_disc.specs.declared.call.DiscCall.{DiscCall}
use Rattle.pw_disc.specs.declared.call.DiscCall.TheVariants.{Begin, Operate, Commit, BackOut}
use Rattle.pw_disc.specs.Format.{IsMessageOf}
use Rattle.pw_disc.specs.Message.{file_call_bytes, kind_byte, message_of, op_byte, piece_bytes, reply_bytes, rest_bytes, unit_bytes, units_bytes}
use Rattle.pw_disc.specs.Reading.{back_out_at, back_out_from, begin_at, call_at, call_behind, call_in, commit_at, commit_from, file_call_at, file_call_from, is_op, op_of, operate_at, operate_from, others_at, piece_at, reply_at, reply_behind, unit_at, unit_from}
use Rattle.pw_disc.specs.Values.{FileCallHasValues, DiscCallHasValues, PieceHasValues, ReplyHasValues, UnitHasValues, UnitsHaveValues}

-- a form, said in other words
module _ {A : Type 0} (read : List ℕ → Front A) (spell spelled : A → List ℕ) (Fits Fitting : A → Type 0)
    (same : (x : A) → Fits x → spell x ≡ spelled x) (to : (x : A) → Fits x → Fitting x) (from : (x : A) → Fitting x → Fits x)
    (f : IsForm read spell Fits) where
  takes_as : (bytes : List ℕ) (x : A) (rest : List ℕ) → AreBytes bytes → read bytes ≡ Some (x, rest) → Takes bytes (spelled x) rest × Fitting x
  takes_as bytes x rest values e =
      let t = f.takes bytes x rest values e in
      let P : List ℕ → Type 0 = λ s. Takes bytes s rest in
      (subst P (same x t.1) t.0, to x t.1)

  again_as : (x : A) (rest : List ℕ) → Fitting x → read (spelled x ++ rest) ≡ Some (x, rest)
  again_as x rest fits = ap (λ (s : List ℕ). read (s ++ rest)) (sym (same x (from x fits))) ∙ f.again x rest (from x fits)

  form_as : IsForm read spelled Fitting
  form_as = record { takes = takes_as; again = again_as }

-- nothing is read, and nothing fits
module _ {A : Type 0} (spell : A → List ℕ) (Fits : A → Type 0) (none : (x : A) → Fits x → ⊥) where
  abbrev nothing_at : List ℕ → Front A
  nothing_at bytes = None

  nothing_takes : (bytes : List ℕ) (x : A) (rest : List ℕ) → AreBytes bytes → nothing_at bytes ≡ Some (x, rest) → Takes bytes (spell x) rest × Fits x
  nothing_takes bytes x rest values e = absurd cc

  nothing : IsForm nothing_at spell Fits
  nothing = record { takes = nothing_takes; again = λ x rest fits. absurd (none x fits) }

-- Units.

abbrev unit_parts : unit.Unit → ℕ × (ℕ × ℕ)
unit_parts u = (u.terminal, (u.number, u.birth))

unit-form : IsForm unit_at unit_bytes UnitHasValues
unfolding unit_at
unit-form =
    made unit_from unit_parts _ _ unit_bytes _ UnitHasValues
    (record {
      spelled = λ x fits. refl;
      fit = λ x fits. record { terminal = fits.0; number = fits.1.0; birth = fits.1.1 };
      whole = λ y fits. refl;
      parts_fit = λ y fits. (fits.terminal, (fits.number, fits.birth));
    })
    (both _ _ _ _ _ _ number32 (both _ _ _ _ _ _ number32 number64))

abbrev OthersAre : List unit.Unit → Type 0
OthersAre xs = (length xs < 2 ^ 32) × ((is_any (length xs) ≡ true) × AllByRecursion UnitHasValues xs)

abbrev others_bytes : List unit.Unit → List ℕ
others_bytes xs = to_be_bytes w32 (length xs) ++ flat_map unit_bytes xs

others-form : IsForm others_at others_bytes OthersAre
unfolding others_at
others-form =
    counted (number_at w32) is_any (many_at unit_at) (to_be_bytes w32) (flat_map unit_bytes) (λ n. n < 2 ^ 32) (λ (xs : List unit.Unit). length xs)
    (AllByRecursion UnitHasValues) number32 (many unit_at unit_bytes UnitHasValues unit-form)

-- Operations.

abbrev PieceIs : List ℕ → Type 0
PieceIs l = (length l < 2 ^ 32) × ((is_any (length l) ≡ true) × AreBytes l)

piece-form : IsForm piece_at piece_bytes PieceIs
unfolding piece_at
piece-form = counted (number_at w32) is_any block_at (to_be_bytes w32) (λ l. l) (λ n. n < 2 ^ 32) (λ (l : List ℕ). length l) AreBytes number32 block

piece_is : (l : List ℕ) → PieceHasValues l → PieceIs l
piece_is l values = (values.size, (refl, values.bytes))

piece_has : (l : List ℕ) → PieceIs l → PieceHasValues l
piece_has l is = record { size = is.0; bytes = is.1.1 }

op_again : (op : FileOp) → op_of (op_byte op) ≡ op
op_again Read = refl
op_again Next = refl
op_again Write = refl
op_again Rewrite = refl
op_again Delete = refl
op_again ReadLock = refl
op_again NextLock = refl

op_fits : (op : FileOp) → (is_op (op_byte op) ≡ true) × (op_byte op < 256)
op_fits Read = (refl, omega arith)
op_fits Next = (refl, omega arith)
op_fits Write = (refl, omega arith)
op_fits Rewrite = (refl, omega arith)
op_fits Delete = (refl, omega arith)
op_fits ReadLock = (refl, omega arith)
op_fits NextLock = (refl, omega arith)

byte_again : (b : ℕ) → is_op b ≡ true → op_byte (op_of b) ≡ b
byte_again zero is = refl
byte_again (suc zero) is = refl
byte_again (suc (suc zero)) is = refl
byte_again (suc (suc (suc zero))) is = refl
byte_again (suc (suc (suc (suc zero)))) is = refl
byte_again (suc (suc (suc (suc (suc zero))))) is = refl
byte_again (suc (suc (suc (suc (suc (suc zero)))))) is = refl
byte_again (suc (suc (suc (suc (suc (suc (suc n))))))) is =
    let small : suc (suc (suc (suc (suc (suc (suc n)))))) ≤ 6 = leb-true _ _ is in absurd (omega arith)

abbrev call_parts : FileCall → ℕ × (ℕ × (List ℕ × List ℕ))
call_parts call = (call.file, (op_byte call.op, (call.key, call.content)))

file-call-form : IsForm file_call_at file_call_bytes FileCallHasValues
unfolding file_call_at
file-call-form =
    made file_call_from call_parts _ _ file_call_bytes _ FileCallHasValues
    (record {
      spelled = λ x fits. ap (λ (b : ℕ). to_be_bytes w32 x.0 ++ (b ∷ [] ++ (piece_bytes x.1.1.0 ++ piece_bytes x.1.1.1))) (byte_again x.1.0 fits.1.0.0);
      fit = λ x fits. record { file = fits.0; key = piece_has x.1.1.0 fits.1.1.0; content = piece_has x.1.1.1 fits.1.1.1 };
      whole = λ y fits. ap (λ (op : FileOp). record { file = y.file; op = op; key = y.key; content = y.content }) (op_again y.op);
      parts_fit = λ y fits. (fits.file, (op_fits y.op, (piece_is y.key fits.key, piece_is y.content fits.content)));
    })
    (both _ _ _ _ _ _ number32 (both _ _ _ _ _ _ (byte is_op) (both _ _ _ _ _ _ piece-form piece-form)))

-- Replies.

abbrev reply_count : Option (List ℕ) → ℕ
reply_count None = 0
reply_count (Some reply) = 1

abbrev reply_rest : Option (List ℕ) → List ℕ
reply_rest None = []
reply_rest (Some reply) = piece_bytes reply

abbrev reply_piece : Option (List ℕ) → List ℕ
reply_piece None = []
reply_piece (Some reply) = reply

abbrev ReplyIs : ℕ → Option (List ℕ) → Type 0
ReplyIs n reply = (reply_count reply ≡ n) × ReplyHasValues reply

reply_takes : (bytes : List ℕ) (x : Option (List ℕ)) (rest : List ℕ) → AreBytes bytes → reply_behind 0 bytes ≡ Some (x, rest)
    → Takes bytes (reply_rest x) rest × ReplyIs 0 x
reply_takes bytes x rest values e =
    let P : Option (List ℕ) × List ℕ → Type 0 = λ p. Takes bytes (reply_rest p.0) p.1 × ReplyIs 0 p.0 in
    subst P (some_is e) (record { parts = refl; rest_fits = values }, (refl, tt))

reply_is_none : (x : Option (List ℕ)) (rest : List ℕ) → ReplyIs 0 x → reply_behind 0 (reply_rest x ++ rest) ≡ Some (x, rest)
reply_is_none None rest is = refl
reply_is_none (Some reply) rest is = absurd (let e : 1 ≡ 0 = is.0 in omega arith)

reply_whole : (y : Option (List ℕ)) → ReplyIs 1 y → Some (reply_piece y) ≡ y
reply_whole None is = absurd (let e : 0 ≡ 1 = is.0 in omega arith)
reply_whole (Some reply) is = refl

reply_fits : (y : Option (List ℕ)) → ReplyIs 1 y → PieceIs (reply_piece y)
reply_fits None is = absurd (let e : 0 ≡ 1 = is.0 in omega arith)
reply_fits (Some reply) is = piece_is reply is.1

reply_few : (n : ℕ) (x : Option (List ℕ)) → ReplyIs (suc (suc n)) x → ⊥
reply_few n None is = let e : 0 ≡ suc (suc n) = is.0 in omega arith
reply_few n (Some reply) is = let e : 1 ≡ suc (suc n) = is.0 in omega arith

reply_behind-form : (n : ℕ) → IsForm (reply_behind n) reply_rest (ReplyIs n)
reply_behind-form zero = record { takes = reply_takes; again = reply_is_none }
reply_behind-form (suc zero) =
    made Some reply_piece _ _ reply_rest _ (ReplyIs 1)
    (record { spelled = λ x fits. refl; fit = λ x fits. (refl, piece_has x fits); whole = reply_whole; parts_fit = reply_fits })
    piece-form
reply_behind-form (suc (suc n)) = nothing reply_rest (ReplyIs (suc (suc n))) (reply_few n)

abbrev reply_counted : Option (List ℕ) → List ℕ
reply_counted reply = reply_count reply ∷ [] ++ reply_rest reply

abbrev CountedReply : Option (List ℕ) → Type 0
CountedReply reply = ((is_truth (reply_count reply) ≡ true) × (reply_count reply < 256)) × ((is_any (reply_count reply) ≡ true) × ReplyHasValues reply)

reply_same : (x : Option (List ℕ)) → CountedReply x → reply_counted x ≡ reply_bytes x
reply_same None is = refl
reply_same (Some reply) is = refl

reply_from : (x : Option (List ℕ)) → ReplyHasValues x → CountedReply x
reply_from None values = ((refl, omega arith), (refl, values))
reply_from (Some reply) values = ((refl, omega arith), (refl, values))

reply-form : IsForm reply_at reply_bytes ReplyHasValues
unfolding reply_at
reply-form =
    form_as _ reply_counted reply_bytes CountedReply ReplyHasValues reply_same (λ x is. is.1.1) reply_from
    (counted (byte_at is_truth) is_any reply_behind (λ b. b ∷ []) reply_rest (λ b. (is_truth b ≡ true) × (b < 256)) reply_count ReplyHasValues (byte is_truth) reply_behind-form)

-- Calls, by their kinds.

abbrev no_unit : unit.Unit
no_unit = record { terminal = 0; number = 0; birth = 0 }

abbrev no_file_call : FileCall
no_file_call = record { file = 0; op = Read; key = []; content = [] }

abbrev CallIs : ℕ → DiscCall → Type 0
CallIs kind call = (kind_byte call ≡ kind) × DiscCallHasValues call

abbrev begin_parts : DiscCall → unit.Unit
begin_parts (Begin u) = u
begin_parts _ = no_unit

begin_whole : (y : DiscCall) → CallIs 1 y → Begin (begin_parts y) ≡ y
begin_whole (Begin u) is = refl
begin_whole (Operate u call) is = absurd (let e : 2 ≡ 1 = is.0 in omega arith)
begin_whole (Commit u reply) is = absurd (let e : 3 ≡ 1 = is.0 in omega arith)
begin_whole (BackOut units ends) is = absurd (let e : 4 ≡ 1 = is.0 in omega arith)

begin_fits : (y : DiscCall) → CallIs 1 y → UnitHasValues (begin_parts y)
begin_fits (Begin u) is = is.1
begin_fits (Operate u call) is = absurd (let e : 2 ≡ 1 = is.0 in omega arith)
begin_fits (Commit u reply) is = absurd (let e : 3 ≡ 1 = is.0 in omega arith)
begin_fits (BackOut units ends) is = absurd (let e : 4 ≡ 1 = is.0 in omega arith)

begin-form : IsForm begin_at rest_bytes (CallIs 1)
unfolding begin_at
begin-form =
    made Begin begin_parts _ _ rest_bytes _ (CallIs 1)
    (record { spelled = λ x fits. refl; fit = λ x fits. (refl, fits); whole = begin_whole; parts_fit = begin_fits })
    unit-form

abbrev operate_parts : DiscCall → unit.Unit × FileCall
operate_parts (Operate u call) = (u, call)
operate_parts _ = (no_unit, no_file_call)

operate_whole : (y : DiscCall) → CallIs 2 y → operate_from (operate_parts y) ≡ y
operate_whole (Begin u) is = absurd (let e : 1 ≡ 2 = is.0 in omega arith)
operate_whole (Operate u call) is = refl
operate_whole (Commit u reply) is = absurd (let e : 3 ≡ 2 = is.0 in omega arith)
operate_whole (BackOut units ends) is = absurd (let e : 4 ≡ 2 = is.0 in omega arith)

operate_fits : (y : DiscCall) → CallIs 2 y → UnitHasValues (operate_parts y).0 × FileCallHasValues (operate_parts y).1
operate_fits (Begin u) is = absurd (let e : 1 ≡ 2 = is.0 in omega arith)
operate_fits (Operate u call) is = is.1
operate_fits (Commit u reply) is = absurd (let e : 3 ≡ 2 = is.0 in omega arith)
operate_fits (BackOut units ends) is = absurd (let e : 4 ≡ 2 = is.0 in omega arith)

operate-form : IsForm operate_at rest_bytes (CallIs 2)
unfolding operate_at
operate-form =
    made operate_from operate_parts _ _ rest_bytes _ (CallIs 2)
    (record { spelled = λ x fits. refl; fit = λ x fits. (refl, fits); whole = operate_whole; parts_fit = operate_fits })
    (both _ _ _ _ _ _ unit-form file-call-form)

abbrev commit_parts : DiscCall → unit.Unit × Option (List ℕ)
commit_parts (Commit u reply) = (u, reply)
commit_parts _ = (no_unit, None)

commit_whole : (y : DiscCall) → CallIs 3 y → commit_from (commit_parts y) ≡ y
commit_whole (Begin u) is = absurd (let e : 1 ≡ 3 = is.0 in omega arith)
commit_whole (Operate u call) is = absurd (let e : 2 ≡ 3 = is.0 in omega arith)
commit_whole (Commit u reply) is = refl
commit_whole (BackOut units ends) is = absurd (let e : 4 ≡ 3 = is.0 in omega arith)

commit_fits : (y : DiscCall) → CallIs 3 y → UnitHasValues (commit_parts y).0 × ReplyHasValues (commit_parts y).1
commit_fits (Begin u) is = absurd (let e : 1 ≡ 3 = is.0 in omega arith)
commit_fits (Operate u call) is = absurd (let e : 2 ≡ 3 = is.0 in omega arith)
commit_fits (Commit u reply) is = is.1
commit_fits (BackOut units ends) is = absurd (let e : 4 ≡ 3 = is.0 in omega arith)

commit-form : IsForm commit_at rest_bytes (CallIs 3)
unfolding commit_at
commit-form =
    made commit_from commit_parts _ _ rest_bytes _ (CallIs 3)
    (record { spelled = λ x fits. refl; fit = λ x fits. (refl, fits); whole = commit_whole; parts_fit = commit_fits })
    (both _ _ _ _ _ _ unit-form reply-form)

truth_again : (n : ℕ) → is_truth n ≡ true → truth (truth_of n) ≡ n
truth_again zero is = refl
truth_again (suc zero) is = refl
truth_again (suc (suc n)) is = let small : suc (suc n) ≤ 1 = leb-true _ _ is in absurd (omega arith)

abbrev back_out_parts : DiscCall → unit.Unit × (ℕ × List unit.Unit)
back_out_parts (BackOut (first ∷ others) ends) = (first, (truth ends, others))
back_out_parts _ = (no_unit, (0, []))

abbrev BackOutIs : unit.Unit × (ℕ × List unit.Unit) → Type 0
BackOutIs x = UnitHasValues x.0 × (((is_truth x.1.0 ≡ true) × (x.1.0 < 256)) × OthersAre x.1.1)

abbrev back_out_spelled : unit.Unit × (ℕ × List unit.Unit) → List ℕ
back_out_spelled x = unit_bytes x.0 ++ (x.1.0 ∷ [] ++ others_bytes x.1.1)

back_out_is : (x : unit.Unit × (ℕ × List unit.Unit)) → BackOutIs x → CallIs 4 (back_out_from x)
back_out_is x fits = (refl, (fits.0, fits.1.1.0, All-from_recursion UnitHasValues x.1.1 fits.1.1.1.1))

back_out_whole : (y : DiscCall) → CallIs 4 y → back_out_from (back_out_parts y) ≡ y
back_out_whole (Begin u) is = absurd (let e : 1 ≡ 4 = is.0 in omega arith)
back_out_whole (Operate u call) is = absurd (let e : 2 ≡ 4 = is.0 in omega arith)
back_out_whole (Commit u reply) is = absurd (let e : 3 ≡ 4 = is.0 in omega arith)
back_out_whole (BackOut [] ends) is = absurd is.1
back_out_whole (BackOut (first ∷ others) ends) is = ap (λ (b : Bool). BackOut (first ∷ others) b) (truth-of-truth ends)

back_out_fits : (y : DiscCall) → CallIs 4 y → BackOutIs (back_out_parts y)
back_out_fits (Begin u) is = absurd (let e : 1 ≡ 4 = is.0 in omega arith)
back_out_fits (Operate u call) is = absurd (let e : 2 ≡ 4 = is.0 in omega arith)
back_out_fits (Commit u reply) is = absurd (let e : 3 ≡ 4 = is.0 in omega arith)
back_out_fits (BackOut [] ends) is = absurd is.1
back_out_fits (BackOut (first ∷ others) ends) is =
    (is.1.0, (truth-small ends, (is.1.1, (refl, recursion_from_All UnitHasValues others is.1.2))))

back_out-form : IsForm back_out_at rest_bytes (CallIs 4)
unfolding back_out_at
back_out-form =
    made back_out_from back_out_parts _ back_out_spelled rest_bytes BackOutIs (CallIs 4)
    (record {
      spelled = λ x fits. ap (λ (b : ℕ). unit_bytes x.0 ++ (b ∷ [] ++ others_bytes x.1.1)) (truth_again x.1.0 fits.1.0.0);
      fit = back_out_is;
      whole = back_out_whole;
      parts_fit = back_out_fits;
    })
    (both _ _ _ _ _ _ unit-form (both _ _ _ _ _ _ (byte is_truth) others-form))

kind_some : (call : DiscCall) → CallIs 0 call → ⊥
kind_some (Begin u) is = absurd (let e : 1 ≡ 0 = is.0 in omega arith)
kind_some (Operate u call) is = absurd (let e : 2 ≡ 0 = is.0 in omega arith)
kind_some (Commit u reply) is = absurd (let e : 3 ≡ 0 = is.0 in omega arith)
kind_some (BackOut units ends) is = absurd (let e : 4 ≡ 0 = is.0 in omega arith)

kind_few : (n : ℕ) (call : DiscCall) → CallIs (suc (suc (suc (suc (suc n))))) call → ⊥
kind_few n (Begin u) is = absurd (let e : 1 ≡ suc (suc (suc (suc (suc n)))) = is.0 in omega arith)
kind_few n (Operate u call) is = absurd (let e : 2 ≡ suc (suc (suc (suc (suc n)))) = is.0 in omega arith)
kind_few n (Commit u reply) is = absurd (let e : 3 ≡ suc (suc (suc (suc (suc n)))) = is.0 in omega arith)
kind_few n (BackOut units ends) is = absurd (let e : 4 ≡ suc (suc (suc (suc (suc n)))) = is.0 in omega arith)

kind-form : (kind : ℕ) → IsForm (call_behind kind) rest_bytes (CallIs kind)
kind-form zero = nothing rest_bytes (CallIs 0) kind_some
kind-form (suc zero) = begin-form
kind-form (suc (suc zero)) = operate-form
kind-form (suc (suc (suc zero))) = commit-form
kind-form (suc (suc (suc (suc zero)))) = back_out-form
kind-form (suc (suc (suc (suc (suc n))))) = nothing rest_bytes (CallIs (suc (suc (suc (suc (suc n)))))) (kind_few n)

-- Messages.

abbrev CountedCall : DiscCall → Type 0
CountedCall call = ((is_any (kind_byte call) ≡ true) × (kind_byte call < 256)) × ((is_any (kind_byte call) ≡ true) × DiscCallHasValues call)

kind_small : (call : DiscCall) → kind_byte call < 256
kind_small (Begin u) = omega arith
kind_small (Operate u call) = omega arith
kind_small (Commit u reply) = omega arith
kind_small (BackOut units ends) = omega arith

call-form : IsForm call_at message_of DiscCallHasValues
unfolding call_at
call-form =
    form_as _ message_of message_of CountedCall DiscCallHasValues (λ x is. refl) (λ x is. is.1.1) (λ x values. ((refl, kind_small x), (refl, values)))
    (counted (byte_at is_any) is_any call_behind (λ b. b ∷ []) rest_bytes (λ b. (is_any b ≡ true) × (b < 256)) kind_byte DiscCallHasValues (byte is_any) kind-form)

-- what is read as a call is its message
pub is_message : (bytes : List ℕ) (call : DiscCall) → AreBytes bytes → call_in bytes ≡ Some call → IsMessageOf bytes call
unfolding call_in
is_message bytes call values e =
    let found = call-form.takes bytes call [] values (all-is (call_at bytes) call e) in
    record { has_values = found.1; is = found.0.parts ∙ append-nil (message_of call) }

-- a message is read as its call
pub read_again : (bytes : List ℕ) (call : DiscCall) → IsMessageOf bytes call → call_in bytes ≡ Some call
unfolding call_in
read_again bytes call is =
    ap (λ (l : List ℕ). all_of (call_at l)) (is.is ∙ sym (append-nil (message_of call))) ∙ ap all_of (call-form.again call [] is.has_values)
