-- The clauses and the entries of tokens, one after the other.
use Rattle.std.proofs.Common.{◌≡◌, ℕ, zero, suc, ◌+◌, ◌-◌, ◌<◌, ◌≤◌, Bool, true, false, List, [], ◌∷◌, ◌++◌, length, take, drop, Option, Some, None, refl, sym, ap, ◌∙◌, subst, append_assoc, arith}
use Rattle.std.specs.Prelude.{option_to_list, slice_get, if◌then◌else◌}
use Rattle.pw_base.specs.declared.fault.Fault.{Fault}
use Rattle.pw_base.specs.First.{least}
use Rattle.pw_base.proofs.FirstFault.{least-append}
use Rattle.pw_text.specs.declared.token.Token.{Token}
use Rattle.pw_text.specs.declared.token.TokenKind.TheVariants as kind
use Rattle.pw_text.specs.Cursor.{Left, sees, behind}
use Rattle.pw_data.specs.declared.clauses.DataClause.{DataClause}
use Rattle.pw_data.specs.declared.clauses.DataClauses.{DataClauses}
use Rattle.pw_data.specs.declared.entry.Entry.{Entry}
use Rattle.pw_data.specs.Parts.{Part, part_of, left_of, is_heading, is_linkage, heading_size, ends_entry, entry_size, parts_from}
use Rattle.pw_data.specs.Clauses.{added, one_clause, is_end, clauses_from}
use Rattle.pw_data.specs.Entries.{data_entry_of, part_faults, faults_of_parts, data_entries_of}

-- where a period is left there is a token
pub some-left : (tokens : List Token) → is_end tokens ≡ true → length tokens ≤ 0 → ⊥
some-left [] end none = cc
some-left (token ∷ rest) end none = omega arith

-- one clause is read
pub clauses-step : (turns : ℕ) (found next : DataClauses) (left rest : Left) (one : DataClause) → is_end left.tokens ≡ false → one_clause left ≡ Some (one, rest) → added found one ≡ Some next
    → clauses_from (suc turns) found left ≡ clauses_from turns next rest
unfolding clauses_from
clauses-step turns found next left rest one end is adds = rw (end, is, adds) refl

-- there is no clause
pub clauses-none : (turns : ℕ) (found : DataClauses) (left : Left) → is_end left.tokens ≡ false → one_clause left ≡ None → clauses_from turns found left ≡ None
unfolding clauses_from
clauses-none zero found left end is = refl
clauses-none (suc turns) found left end is = rw (end, is) refl

-- the clause is there twice
pub clauses-twice : (turns : ℕ) (found : DataClauses) (left rest : Left) (one : DataClause) → is_end left.tokens ≡ false → one_clause left ≡ Some (one, rest) → added found one ≡ None
    → clauses_from turns found left ≡ None
unfolding clauses_from
clauses-twice zero found left rest one end is adds = refl
clauses-twice (suc turns) found left rest one end is adds = rw (end, is, adds) refl

-- a period is left
pub clauses-end : (turns : ℕ) (found : DataClauses) (left : Left) → is_end left.tokens ≡ true → length left.tokens ≤ turns → clauses_from turns found left ≡ Some found
unfolding clauses_from
clauses-end zero found left end enough = absurd (some-left left.tokens end enough)
clauses-end (suc turns) found left end enough = rw end refl

-- one clause further
pub clauses-further : (turns : ℕ) (found next : DataClauses) (left rest : Left) (one : DataClause) (whole : Option DataClauses) → is_end left.tokens ≡ false → one_clause left ≡ Some (one, rest) → added found one ≡ Some next
    → length rest.tokens < length left.tokens → length left.tokens ≤ turns → clauses_from turns found left ≡ whole
    → (fewer : ℕ) × (length rest.tokens ≤ fewer) × (clauses_from fewer next rest ≡ whole)
clauses-further zero found next left rest one whole end is adds shorter enough so_far = absurd (omega arith)
clauses-further (suc turns) found next left rest one whole end is adds shorter enough so_far =
    (turns, omega arith, sym (clauses-step turns found next left rest one end is adds) ∙ so_far)

-- tokens that belong to the entry or heading before are passed over
parts-skip : (text : List ℕ) (linked : Bool) (k : ℕ) (tokens : List Token) → parts_from text linked k tokens ≡ parts_from text linked 0 (drop k tokens)
unfolding parts_from
parts-skip text linked zero tokens = refl
parts-skip text linked (suc k) [] = refl
parts-skip text linked (suc k) (token ∷ behind) = parts-skip text linked k behind

behind_part : (text : List ℕ) (linked : Bool) (size : ℕ) (token : Token) (behind : List Token) → 0 < size
    → parts_from text linked (size - 1) behind ≡ parts_from text linked 0 (drop size (token ∷ behind))
behind_part text linked zero token behind some = absurd (omega arith)
behind_part text linked (suc k) token behind some =
    let less : suc k - 1 ≡ k = omega arith in
    ap (λ n. parts_from text linked n behind) less ∙ parts-skip text linked k behind

-- a heading is read
pub parts-heading : (text : List ℕ) (linked : Bool) (tokens : List Token) (size : ℕ) → is_heading (left_of text tokens) ≡ true → size ≡ heading_size (left_of text tokens) → 0 < size
    → parts_from text linked 0 tokens ≡ parts_from text (is_linkage (left_of text tokens)) 0 (drop size tokens)
unfolding parts_from
parts-heading text linked [] size heading size_is some = absurd cc
parts-heading text linked (token ∷ behind) size heading size_is some =
    rw (heading, ← size_is) (behind_part text (is_linkage (left_of text (token ∷ behind))) size token behind some)

-- an entry is read
pub parts-entry : (text : List ℕ) (linked : Bool) (tokens : List Token) (size : ℕ) → is_heading (left_of text tokens) ≡ false → 0 < length tokens → size ≡ entry_size text tokens → 0 < size
    → parts_from text linked 0 tokens ≡ part_of linked (take size tokens) ∷ parts_from text linked 0 (drop size tokens)
unfolding parts_from
parts-entry text linked [] size heading left size_is some = absurd (omega arith)
parts-entry text linked (token ∷ behind) size heading left size_is some =
    rw (heading, ← size_is) (ap (λ parts. part_of linked (take size (token ∷ behind)) ∷ parts) (behind_part text linked size token behind some))

-- the entry of a part comes in front of those behind it
pub entries_of-step : (server : Bool) (text : List ℕ) (part : Part) (parts : List Part) (before : List Entry)
    → (before ++ option_to_list (data_entry_of server text part)) ++ data_entries_of server text parts ≡ before ++ data_entries_of server text (part ∷ parts)
entries_of-step server text part parts before = append_assoc before (option_to_list (data_entry_of server text part)) (data_entries_of server text parts)

-- and so do its faults
pub faults_of_parts-step : (server : Bool) (text : List ℕ) (part : Part) (parts : List Part) (known : Option Fault)
    → least (least known (part_faults server text part)) (faults_of_parts server text parts) ≡ least known (faults_of_parts server text (part ∷ parts))
faults_of_parts-step server text part parts known = sym (least-append known (part_faults server text part) (faults_of_parts server text parts))

-- an entry has a token more, unless it ends
pub entry_size-ends : (text : List ℕ) (token : Token) (behind : List Token) → ends_entry text token behind ≡ true → entry_size text (token ∷ behind) ≡ 1
unfolding entry_size
entry_size-ends text token behind ends = rw ends refl

pub entry_size-more : (text : List ℕ) (token : Token) (behind : List Token) → ends_entry text token behind ≡ false → entry_size text (token ∷ behind) ≡ 1 + entry_size text behind
unfolding entry_size
entry_size-more text token behind ends = rw ends refl

pub entry_size-none : (text : List ℕ) (tokens : List Token) → length tokens ≡ 0 → entry_size text tokens ≡ 0
unfolding entry_size
entry_size-none text [] none = refl
entry_size-none text (token ∷ behind) none = absurd (omega arith)

-- no token is left
pub parts-none : (text : List ℕ) (linked : Bool) (tokens : List Token) → length tokens ≡ 0 → parts_from text linked 0 tokens ≡ []
unfolding parts_from
parts-none text linked [] none = refl
parts-none text linked (token ∷ behind) none = absurd (omega arith)

heading-some : (period : Bool) → 0 < (if period then 3 else 2)
heading-some true = omega arith
heading-some false = omega arith

-- a heading is taken
pub after-heading : (cursor next : Left) (linked now : Bool) → is_heading cursor ≡ true → now ≡ is_linkage cursor → next ≡ behind (heading_size cursor) cursor
    → parts_from cursor.text linked 0 cursor.tokens ≡ parts_from cursor.text now 0 next.tokens
after-heading cursor next linked now heading now_is next_is =
    parts-heading cursor.text linked cursor.tokens (heading_size cursor) heading refl (heading-some (sees kind.Period (behind 2 cursor)))
    ∙ ap (λ tokens. parts_from cursor.text (is_linkage cursor) 0 tokens) (sym (ap (λ (left : Left). left.tokens) next_is))
    ∙ ap (λ l. parts_from cursor.text l 0 next.tokens) (sym now_is)

-- an entry is taken
pub after-entry : (cursor part next : Left) (linked : Bool) → is_heading cursor ≡ false → 0 < length cursor.tokens → part.tokens ≡ take (entry_size cursor.text cursor.tokens) cursor.tokens
    → next ≡ behind (entry_size cursor.text cursor.tokens) cursor → 0 < entry_size cursor.text cursor.tokens
    → parts_from cursor.text linked 0 cursor.tokens ≡ part_of linked part.tokens ∷ parts_from cursor.text linked 0 next.tokens
after-entry cursor part next linked heading left part_is next_is some =
    parts-entry cursor.text linked cursor.tokens (entry_size cursor.text cursor.tokens) heading left refl some
    ∙ ap (λ tokens. part_of linked tokens ∷ parts_from cursor.text linked 0 (drop (entry_size cursor.text cursor.tokens) cursor.tokens)) (sym part_is)
    ∙ ap (λ tokens. part_of linked part.tokens ∷ parts_from cursor.text linked 0 tokens) (sym (ap (λ (left : Left). left.tokens) next_is))

module _ (server : Bool) (text : List ℕ) (part : Left) (linked now : Bool) (tokens rest : List Token)
    (parts_is : parts_from text linked 0 tokens ≡ part_of linked part.tokens ∷ parts_from text linked 0 rest) (text_is : part.text ≡ text) (now_is : now ≡ linked) where
  -- the entry of the part comes behind those before it
  pub entries-further : (before after : List Entry) → after ≡ before ++ option_to_list (data_entry_of server part.text (part_of linked part.tokens))
      → after ++ data_entries_of server text (parts_from text now 0 rest) ≡ before ++ data_entries_of server text (parts_from text linked 0 tokens)
  entries-further before after after_is =
      ap (λ l. after ++ data_entries_of server text (parts_from text l 0 rest)) now_is
      ∙ ap (λ es. es ++ data_entries_of server text (parts_from text linked 0 rest)) (after_is ∙ ap (λ t. before ++ option_to_list (data_entry_of server t (part_of linked part.tokens))) text_is)
      ∙ entries_of-step server text (part_of linked part.tokens) (parts_from text linked 0 rest) before
      ∙ ap (λ parts. before ++ data_entries_of server text parts) (sym parts_is)

  -- and so do its faults
  pub faults-further : (known first : Option Fault) → first ≡ least known (part_faults server part.text (part_of linked part.tokens))
      → least first (faults_of_parts server text (parts_from text now 0 rest)) ≡ least known (faults_of_parts server text (parts_from text linked 0 tokens))
  faults-further known first first_is =
      ap (λ l. least first (faults_of_parts server text (parts_from text l 0 rest))) now_is
      ∙ ap (λ k. least k (faults_of_parts server text (parts_from text linked 0 rest))) (first_is ∙ ap (λ t. least known (part_faults server t (part_of linked part.tokens))) text_is)
      ∙ faults_of_parts-step server text (part_of linked part.tokens) (parts_from text linked 0 rest) known
      ∙ ap (λ parts. least known (faults_of_parts server text parts)) (sym parts_is)

-- the next token is taken
module _ (text : List ℕ) (token : Token) (rest : Left) where
  -- of those that are left it is one
  pub next-shorter : (tokens : List Token) → Some token ≡ slice_get tokens 0 → rest ≡ behind 1 (left_of text tokens) → length tokens ≡ 1 + length rest.tokens
  next-shorter [] is rest_is = absurd cc
  next-shorter (t ∷ ts) is rest_is =
      let same : length rest.tokens ≡ length ts = ap (λ (left : Left). length left.tokens) rest_is in
      omega (arith, same)

  -- and an entry that ends with it has no other
  pub size-ends : (tokens : List Token) → Some token ≡ slice_get tokens 0 → rest ≡ behind 1 (left_of text tokens) → ends_entry rest.text token rest.tokens ≡ true → entry_size text tokens ≡ 1
  size-ends [] is rest_is ends = absurd cc
  size-ends (t ∷ ts) is rest_is ends =
      let same : t ≡ token = cc in
      let ends_there : ends_entry text token ts ≡ true = subst (λ (left : Left). ends_entry left.text token left.tokens ≡ true) rest_is ends in
      ap (λ x. entry_size text (x ∷ ts)) same ∙ entry_size-ends text token ts ends_there

  -- and else an entry has one more than behind it
  pub size-more : (tokens : List Token) → Some token ≡ slice_get tokens 0 → rest ≡ behind 1 (left_of text tokens) → ends_entry rest.text token rest.tokens ≡ false
      → entry_size text tokens ≡ 1 + entry_size rest.text rest.tokens
  size-more [] is rest_is ends = absurd cc
  size-more (t ∷ ts) is rest_is ends =
      let same : t ≡ token = cc in
      let goes_on : ends_entry text token ts ≡ false = subst (λ (left : Left). ends_entry left.text token left.tokens ≡ false) rest_is ends in
      ap (λ x. entry_size text (x ∷ ts)) same ∙ entry_size-more text token ts goes_on ∙ ap (λ (left : Left). 1 + entry_size left.text left.tokens) (sym rest_is)

-- where there is no next token none is left
pub none-left : (tokens : List Token) → None ≡ slice_get tokens 0 → length tokens ≡ 0
none-left [] is = refl
none-left (t ∷ ts) is = absurd cc
