-- One item after the other.
use Rattle.std.proofs.Common.{◌≡◌, ◌≢◌, ℕ, zero, suc, ◌+◌, ◌-◌, ◌<◌, Bool, true, false, cond, List, [], ◌∷◌, ◌++◌, length, drop, take_while, Option, None, Result, refl, sym, ap, subst, ◌∙◌, append_assoc, add-zero, arith}
use Rattle.std.specs.Prelude.{◌==◌, if◌then◌else◌}
use Rattle.std.proofs.lemmas.Bool.{eqb-true, ne_eqb}
use Rattle.std.proofs.lemmas.List.{append-nil}
use Rattle.std.proofs.lemmas.List.Sums.{take_while-cons}
use Rattle.pw_base.specs.declared.fault.Fault.{Fault}
use Rattle.pw_base.specs.First.{least, unless}
use Rattle.pw_base.proofs.FirstFault.{least-append}
use Rattle.pw_text.specs.declared.token.Token.{Token}
use Rattle.pw_text.specs.declared.item.TextItem.{TextItem}
use Rattle.pw_text.specs.declared.item.LinePlace.{LinePlace}
use Rattle.pw_text.specs.declared.item.LinePlace.TheVariants.{LineStart, InLine, BehindPic, BehindIs}
use Rattle.pw_text.specs.Bytes.{bad_bytes, run}
use Rattle.pw_text.specs.Items.{item_at, behind_space}
use Rattle.pw_text.specs.Tokens.{PlacedTextItem, items_from, items_of, line_after, tokens_at, faults_at, tokens_in, faults_in, tokens_of}

-- what a text gives, of which a fault and tokens are known, and these items are left
abbrev pub finish : Option Fault → List Token → List PlacedTextItem → Result (List Token) Fault
finish known tokens items = unless (least known (faults_in items)) (tokens ++ tokens_in items)

-- an item of a line, from a start on
abbrev placed : TextItem → ℕ → ℕ → PlacedTextItem
placed item line start = record { piece = item.piece; line = line; start = start; end = start + item.size }

-- bytes that belong to the item before are passed over
skips : (k : ℕ) (place : LinePlace) (at line : ℕ) (bs : List ℕ) → items_from k place at line bs ≡ items_from 0 place (at + k) line (drop k bs)
unfolding items_from
skips zero place at line bs = rw add-zero refl
skips (suc k) place at line [] = refl
skips (suc k) place at line (b ∷ bs) =
    let further : at + 1 + k ≡ at + suc k = omega arith in
    skips k place (at + 1) line bs ∙ ap (λ n. items_from 0 place n line (drop k bs)) further

-- an item of a size is passed over
behind : (size : ℕ) (place : LinePlace) (at line b : ℕ) (bs : List ℕ) → 0 < size → items_from (size - 1) place (at + 1) line bs ≡ items_from 0 place (at + size) line (drop size (b ∷ bs))
behind zero place at line b bs some = absurd (omega arith)
behind (suc k) place at line b bs some =
    let less : suc k - 1 ≡ k = omega arith in
    let further : at + 1 + k ≡ at + suc k = omega arith in
    ap (λ n. items_from n place (at + 1) line bs) less ∙ skips k place (at + 1) line bs ∙ ap (λ n. items_from 0 place n line (drop k bs)) further

-- the first item, and those behind it
items_step : (place : LinePlace) (at line : ℕ) (bytes : List ℕ) (item : TextItem) → 0 < length bytes → item ≡ item_at place bytes → 0 < item.size
    → items_from 0 place at line bytes ≡ placed item line at ∷ items_from 0 item.next (at + item.size) (line_after item.piece line) (drop item.size bytes)
unfolding items_from
items_step place at line [] item left is some = absurd (omega arith)
items_step place at line (b ∷ bs) item left is some =
    ap (λ (i : TextItem). placed i line at ∷ items_from (i.size - 1) i.next (at + 1) (line_after i.piece line) bs) (sym is)
    ∙ ap (λ (rest : List PlacedTextItem). placed item line at ∷ rest) (behind item.size item.next at (line_after item.piece line) b bs some)

-- one item is read
pub finish_step : (place : LinePlace) (at line : ℕ) (bytes : List ℕ) (item : TextItem) (known : Option Fault) (tokens : List Token) → 0 < length bytes → item ≡ item_at place bytes → 0 < item.size
    → finish known tokens (items_from 0 place at line bytes)
    ≡ finish (least known (faults_at item.piece line)) (tokens ++ tokens_at item.piece line at (at + item.size)) (items_from 0 item.next (at + item.size) (line_after item.piece line) (drop item.size bytes))
finish_step place at line bytes item known tokens left is some =
    let rest : List PlacedTextItem = items_from 0 item.next (at + item.size) (line_after item.piece line) (drop item.size bytes) in
    ap (finish known tokens) (items_step place at line bytes item left is some)
    ∙ ap (λ (k : Option Fault). unless k (tokens ++ (tokens_at item.piece line at (at + item.size) ++ tokens_in rest))) (least-append known (faults_at item.piece line) (faults_in rest))
    ∙ ap (unless (least (least known (faults_at item.piece line)) (faults_in rest))) (sym (append_assoc tokens (tokens_at item.piece line at (at + item.size)) (tokens_in rest)))

-- before the first item the bad bytes are known
pub finish_first : (text : List ℕ) (line : ℕ) → finish (least None (bad_bytes line text)) [] (items_from 0 LineStart 0 line text) ≡ tokens_of text line
finish_first text line = ap (λ (k : Option Fault). unless k (tokens_in (items_of text line))) (sym (least-append None (bad_bytes line text) (faults_in (items_of text line))))

-- behind the last byte
pub finish_last : (place : LinePlace) (at line : ℕ) (bytes : List ℕ) (known : Option Fault) (tokens : List Token) → length bytes ≡ 0 → finish known tokens (items_from 0 place at line bytes) ≡ unless known tokens
unfolding items_from
finish_last place at line [] known tokens none = ap (unless known) (append-nil tokens)
finish_last place at line (b ∷ bs) known tokens none = absurd (omega arith)

-- one item further
pub finish_further : (place : LinePlace) (at line : ℕ) (bytes : List ℕ) (item : TextItem) (known : Option Fault) (tokens : List Token) (whole : Result (List Token) Fault)
    (next_known : Option Fault) (next_tokens : List Token) (next_line : ℕ) (next_bytes : List ℕ)
    → next_known ≡ least known (faults_at item.piece line) → next_tokens ≡ tokens ++ tokens_at item.piece line at (at + item.size)
    → next_line ≡ line_after item.piece line → next_bytes ≡ drop item.size bytes
    → 0 < length bytes → item ≡ item_at place bytes → 0 < item.size
    → finish known tokens (items_from 0 place at line bytes) ≡ whole
    → finish next_known next_tokens (items_from 0 item.next (at + item.size) next_line next_bytes) ≡ whole
finish_further place at line bytes item known tokens whole next_known next_tokens next_line next_bytes known_is tokens_is line_is bytes_is left is some so_far =
    rw (known_is, tokens_is, line_is, bytes_is) (sym (finish_step place at line bytes item known tokens left is some) ∙ so_far)

-- a space is passed over
finish-space : (place : LinePlace) (at line : ℕ) (bs : List ℕ) (known : Option Fault) (tokens : List Token)
    → finish known tokens (items_from 0 place at line (32 ∷ bs)) ≡ finish known tokens (items_from 0 (behind_space place) (at + 1) line bs)
unfolding items_from item_at
finish-space place at line bs known tokens = refl

-- behind a space the place stays where other spaces follow
behind_space-twice : (place : LinePlace) → behind_space (behind_space place) ≡ behind_space place
behind_space-twice LineStart = refl
behind_space-twice InLine = refl
behind_space-twice BehindPic = refl
behind_space-twice BehindIs = refl

-- how many spaces stand in front
abbrev pub spaces : List ℕ → ℕ
spaces bytes = run (λ byte. byte == 32) bytes

-- the place behind so many spaces
abbrev pub place_behind : LinePlace → ℕ → LinePlace
place_behind place count = if count == 0 then place else behind_space place

place_behind-space : (count : ℕ) (place : LinePlace) → place_behind (behind_space place) count ≡ behind_space place
place_behind-space count place = by (count == 0)
  where
    by : (none : Bool) → cond none (behind_space place) (behind_space (behind_space place)) ≡ behind_space place
    by true = refl
    by false = behind_space-twice place

place_behind-some : (count : ℕ) (place : LinePlace) → place_behind place (suc count) ≡ behind_space place
place_behind-some count place = let some : suc count ≢ 0 = omega arith in rw (ne_eqb (suc count) 0 some) refl

spaces-by : (is : Bool) (b : ℕ) (bs : List ℕ) → (b == 32) ≡ is → spaces (b ∷ bs) ≡ length (cond is (b ∷ take_while (λ byte. byte == 32) bs) [])
spaces-by is b bs test = ap length (take_while-cons (λ byte. byte == 32) b bs) ∙ ap (λ t. length (cond t (b ∷ take_while (λ byte. byte == 32) bs) [])) test

-- so many spaces are passed over
abbrev Passes : List ℕ → LinePlace → ℕ → ℕ → Option Fault → List Token → ℕ → Type 0
Passes bytes place at line known tokens count =
    finish known tokens (items_from 0 place at line bytes) ≡ finish known tokens (items_from 0 (place_behind place count) (at + count) line (drop count bytes))

passes-by : (is : Bool) (b : ℕ) (bs : List ℕ) (place : LinePlace) (at line : ℕ) (known : Option Fault) (tokens : List Token) → (b == 32) ≡ is
    → Passes bs (behind_space place) (at + 1) line known tokens (spaces bs) → Passes (b ∷ bs) place at line known tokens (spaces (b ∷ bs))
passes-by true b bs place at line known tokens is others =
    let further : (at + 1) + spaces bs ≡ at + suc (spaces bs) = omega arith in
    subst (Passes (b ∷ bs) place at line known tokens) (sym (spaces-by true b bs is))
    (ap (λ c. finish known tokens (items_from 0 place at line (c ∷ bs))) (eqb-true b 32 is)
    ∙ finish-space place at line bs known tokens
    ∙ others
    ∙ ap (λ next. finish known tokens (items_from 0 next ((at + 1) + spaces bs) line (drop (spaces bs) bs))) (place_behind-space (spaces bs) place ∙ sym (place_behind-some (spaces bs) place))
    ∙ ap (λ n. finish known tokens (items_from 0 (place_behind place (suc (spaces bs))) n line (drop (spaces bs) bs))) further)
passes-by false b bs place at line known tokens is others =
    subst (Passes (b ∷ bs) place at line known tokens) (sym (spaces-by false b bs is))
    (ap (λ n. finish known tokens (items_from 0 place n line (b ∷ bs))) (sym (add-zero at)))

-- the spaces in front are passed over
finish-spaces : (bytes : List ℕ) (place : LinePlace) (at line : ℕ) (known : Option Fault) (tokens : List Token) → Passes bytes place at line known tokens (spaces bytes)
finish-spaces [] place at line known tokens = ap (λ n. finish known tokens (items_from 0 place n line [])) (sym (add-zero at))
finish-spaces (b ∷ bs) place at line known tokens =
    passes-by (b == 32) b bs place at line known tokens refl (finish-spaces bs (behind_space place) (at + 1) line known tokens)

-- the same, as they are counted
pub finish-spaced : (bytes rest : List ℕ) (place next : LinePlace) (at count line : ℕ) (known : Option Fault) (tokens : List Token) (whole : Result (List Token) Fault)
    → count ≡ spaces bytes → next ≡ place_behind place count → rest ≡ drop count bytes
    → finish known tokens (items_from 0 place at line bytes) ≡ whole → finish known tokens (items_from 0 next (at + count) line rest) ≡ whole
finish-spaced bytes rest place next at count line known tokens whole count_is next_is rest_is so_far =
    rw (next_is, rest_is, count_is) (sym (finish-spaces bytes place at line known tokens) ∙ so_far)

-- the same in front of a text
pub finish-spaced_first : (bytes rest : List ℕ) (place next : LinePlace) (count line : ℕ) (known : Option Fault) (tokens : List Token) (whole : Result (List Token) Fault)
    → count ≡ spaces bytes → next ≡ place_behind place count → rest ≡ drop count bytes
    → finish known tokens (items_from 0 place 0 line bytes) ≡ whole → finish known tokens (items_from 0 next count line rest) ≡ whole
finish-spaced_first bytes rest place next count line known tokens whole count_is next_is rest_is so_far =
    let start : 0 + count ≡ count = omega arith in
    ap (λ n. finish known tokens (items_from 0 next n line rest)) (sym start)
    ∙ finish-spaced bytes rest place next 0 count line known tokens whole count_is next_is rest_is so_far
