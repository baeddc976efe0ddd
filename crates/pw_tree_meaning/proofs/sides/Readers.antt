-- What the forms of a side read is one of its statements, written as its reader sees to.
use Rattle.std.proofs.Common.{◌≡◌, ℕ, zero, suc, ◌≤◌, Bool, true, false, List, [], ◌∷◌, ◌++◌, length, Option, Some, None, ◌&&◌, if◌then◌else◌, refl, sym, ap, ◌∙◌, subst}
use Rattle.std.specs.Prelude.{codes, nat_le, option_map}
use Rattle.std.specs.Char.{is_ascii_digit, to_ascii_uppercase}
use Rattle.std.specs.List.{list_all}
use Rattle.std.specs.Str.{str_to_ascii_uppercase}
use Rattle.std.proofs.lemmas.Bool.{and_parts, leb-true}
use Rattle.std.proofs.lemmas.Str.Ascii.{uppercase-uppercase}
use Rattle.pw_text.specs.Cursor.{spelling}
use Rattle.pw_text.specs.Literals.{unquoted}
use Rattle.pw_text.specs.declared.token.Token.{Token}
use Rattle.pw_text.specs.declared.token.TokenKind.{TokenKind}
use Rattle.pw_text.specs.declared.token.TokenKind.TheVariants as kind
use Rattle.pw_operands.specs.Resolved.{Each}
use Rattle.pw_forms.specs.declared.lists.SendCode.{SendCode}
use Rattle.pw_forms.specs.declared.operand.Operand.{Operand}
use Rattle.pw_forms.specs.declared.operand.Operand.TheVariants as operands
use Rattle.pw_forms.specs.declared.operand.Subscript.{Subscript}
use Rattle.pw_forms.specs.declared.operand.Subscript.TheVariants as subscripts
use Rattle.pw_forms.specs.Words.{is_item_name, token_name}
use Rattle.pw_words.specs.Words.{Word}
use Rattle.pw_forms.specs.declared.mark.TransactionVerb.{TransactionVerb}
use Rattle.pw_forms.specs.declared.mark.TransactionVerb.TheVariants as transactions
use Rattle.pw_forms.specs.declared.mark.TerminalVerb.{TerminalVerb}
use Rattle.pw_forms.specs.declared.mark.TerminalVerb.TheVariants as terminals
use Rattle.pw_forms.specs.declared.mark.FileVerb.{FileVerb}
use Rattle.pw_forms.specs.declared.mark.FileVerb.TheVariants as files
use Rattle.pw_forms.specs.declared.mark.StatementVerb.{StatementVerb}
use Rattle.pw_forms.specs.declared.mark.StatementVerb.TheVariants as verb
use Rattle.pw_forms.specs.declared.statement.Operation.{Operation}
use Rattle.pw_forms.specs.declared.statement.ArithmeticForm.{ArithmeticForm}
use Rattle.pw_forms.specs.declared.statement.Statement.{Statement}
use Rattle.pw_forms.specs.declared.statement.Statement.TheVariants as statement
use Rattle.pw_forms.specs.declared.form.Head.TheVariants as head
use Rattle.pw_forms.specs.declared.form.Form.{Form}
use Rattle.pw_forms.specs.declared.form.Form.TheVariants as forms
use Rattle.pw_forms.specs.Readers.{Rest, Reader, and_then, ◌>>=◌, pure, fails, token, takes, left, is_done, expects, eats, ends, some, some_from, up_to}
use Rattle.pw_forms.specs.Operands.{operand, operand_by, item, figurative, subscript_by, subscript_behind, code, is_code, value_of, name, file_name, program_name, key}
use Rattle.pw_forms.specs.Conditions.{condition}
use Rattle.pw_forms.specs.Pieces.{is_barred}
use Rattle.pw_forms.specs.Forms as reads
use Rattle.pw_forms.specs.FileForms as reads_files
use Rattle.pw_tree_meaning.specs.Sound.{HasForms}
use Rattle.pw_tree_meaning.proofs.sides.Holding.{HoldsForm}
use Rattle.pw_tree_meaning.specs.Written.{IsWritten, HasUpperIndex, IsUpper}

-- a statement of a side that is written as its reader sees to
abbrev pub IsStatement : Bool → Statement → Type 0
IsStatement server statement = HasForms server statement × IsWritten statement

-- what a form that was read is
abbrev pub IsOf : Bool → Form → Type 0
IsOf server form = HoldsForm (IsStatement server) (λ _. Unit {0}) form

-- each form that a reader gives is one of a side
abbrev pub Gives : Bool → Reader Form → Type 0
Gives server reader = (rest : Rest) (form : Form) (after : Rest) → reader rest ≡ Some (form, after) → IsOf server form

gives-then : {A : Type 0} (server : Bool) (o : Option (A × Rest)) (k : A → Reader Form) → ((x : A) → Gives server (k x))
    → (form : Form) (after : Rest) → and_then o k ≡ Some (form, after) → IsOf server form
gives-then server None k h form after e = absurd cc
gives-then server (Some found) k h form after e = h found.0 found.1 form after e

pub gives-bind : {A : Type 0} (server : Bool) (m : Reader A) (k : A → Reader Form) → ((x : A) → Gives server (k x)) → Gives server (m >>= k)
gives-bind server m k h rest form after e = gives-then server (m rest) k h form after e

abbrev form_of : Option (Form × Rest) → Form → Form
form_of None other = other
form_of (Some found) other = found.0

pub gives-pure : (server : Bool) (form : Form) → IsOf server form → Gives server (pure form)
gives-pure server form is rest other after e =
    let read : Option (Form × Rest) → Form = λ o. form_of o form in
    let P : Form → Type 0 = IsOf server in
    subst P (ap read e) is

gives-if : (server b : Bool) (one other : Reader Form) → Gives server one → Gives server other → Gives server (if b then one else other)
gives-if server true one other f g = f
gives-if server false one other f g = g

gives-test : (server : Bool) (test : Rest → Bool) (one other : Reader Form) → Gives server one → Gives server other → Gives server (λ rest. if test rest then one rest else other rest)
gives-test server test one other f g rest form after e = by (test rest) e
  where
    by : (b : Bool) → (if b then one rest else other rest) ≡ Some (form, after) → IsOf server form
    by true h = f rest form after h
    by false h = g rest form after h

-- ---- what else is read

-- each value that a reader gives is one of these
abbrev Yields : {A : Type 0} → (A → Type 0) → Reader A → Type 0
Yields {A} P reader = (rest : Rest) (x : A) (after : Rest) → reader rest ≡ Some (x, after) → P x

-- a value that was read, with what is left
abbrev pub as_read : {A : Type 0} → A → Rest → Option (A × Rest)
as_read x rest = Some (x, rest)

abbrev pub first_read : {A : Type 0} → Option (A × Rest) → A → A
first_read None other = other
first_read (Some found) other = found.0

found-is : {A : Type 0} (P : A → Type 0) (x y : A) (rest after : Rest) → as_read x rest ≡ as_read y after → P x → P y
found-is P x y rest after e p = subst P (ap (λ o. first_read o x) e) p

yields-then : {A B : Type 0} (P : A → Type 0) (Q : B → Type 0) (o : Option (A × Rest)) (k : A → Reader B) → ((x : A) (after : Rest) → o ≡ Some (x, after) → P x) → ((x : A) → P x → Yields Q (k x))
    → (y : B) (after : Rest) → and_then o k ≡ Some (y, after) → Q y
yields-then P Q None k given h y after e = absurd cc
yields-then P Q (Some found) k given h y after e = h found.0 (given found.0 found.1 refl) found.1 y after e

yields-bind : {A B : Type 0} (P : A → Type 0) (Q : B → Type 0) (m : Reader A) (k : A → Reader B) → Yields P m → ((x : A) → P x → Yields Q (k x)) → Yields Q (m >>= k)
yields-bind P Q m k given h rest y after e = yields-then P Q (m rest) k (λ x more is. given rest x more is) h y after e

yields-any : {A B : Type 0} (Q : B → Type 0) (m : Reader A) (k : A → Reader B) → ((x : A) → Yields Q (k x)) → Yields Q (m >>= k)
yields-any Q m k h = yields-bind (λ _. Unit {0}) Q m k (λ rest x after e. tt) (λ x _. h x)

yields-pure : {A : Type 0} (P : A → Type 0) (x : A) → P x → Yields P (pure x)
yields-pure P x is rest y after e = found-is P x y rest after e is

yields-if : {A : Type 0} (P : A → Type 0) (b : Bool) (one other : Reader A) → Yields P one → Yields P other → Yields P (if b then one else other)
yields-if P true one other f g = f
yields-if P false one other f g = g

yields-fails : {A : Type 0} (P : A → Type 0) → Yields P fails
yields-fails P rest x after e = absurd cc

-- a form, by what was read before it
pub gives-with : {A : Type 0} (P : A → Type 0) (m : Reader A) (k : A → Reader Form) → Yields P m → ((x : A) → P x → Gives false (k x)) → Gives false (m >>= k)
gives-with P m k given h rest form after e = yields-then P (IsOf false) (m rest) k (λ x more is. given rest x more is) h form after e

gives-limit : (n : ℕ) (k : Unit {0} → Reader Form) → (n ≤ reads.most → Gives false (k tt)) → Gives false (reads.at_most reads.most n >>= k)
unfolding reads.at_most
gives-limit n k h rest form after e = by (nat_le n reads.most) refl e
  where
    by : (b : Bool) → nat_le n reads.most ≡ b → and_then ((if b then pure tt else fails) rest) k ≡ Some (form, after) → IsOf false form
    by true few e' = h (leb-true n reads.most few) rest form after e'
    by false few e' = absurd cc

pub each-more : {A : Type 0} (P : A → Type 0) (xs : List A) (x : A) → Each P xs → P x → Each P (xs ++ x ∷ [])
each-more P [] x each is = (is, tt)
each-more P (y ∷ ys) x each is = (each.0, each-more P ys x each.1 is)

some-from-gives : {A : Type 0} (P : A → Type 0) (one : Reader A) → Yields P one → (n : ℕ) (found : List A) → Each P found → Yields (Each P) (some_from one n found)
unfolding some_from
some-from-gives P one given zero found each = yields-fails (Each P)
some-from-gives {A} P one given (suc n) found each =
    yields-bind P (Each P) one _ given
    (λ x is rest ys after e.
    by (is_done rest) x (each-more P found x each is) rest ys after (some-from-gives P one given n (found ++ x ∷ []) (each-more P found x each is)) e)
  where
    by : (b : Bool) (x : A) → Each P (found ++ x ∷ []) → (rest : Rest) (ys : List A) (after : Rest) → Yields (Each P) (some_from one n (found ++ x ∷ []))
        → (if b then as_read (found ++ x ∷ []) rest else some_from one n (found ++ x ∷ []) rest) ≡ as_read ys after → Each P ys
    by true x all rest ys after more e = found-is (Each P) (found ++ x ∷ []) ys rest after e all
    by false x all rest ys after more e = more rest ys after e

some-gives : {A : Type 0} (P : A → Type 0) (one : Reader A) → Yields P one → Yields (Each P) (some one)
some-gives P one given rest ys after e = some-from-gives P one given (left rest) [] tt rest ys after e

-- ---- operands of a CALL, and codes

upper-upper : (xs : Word) → IsUpper (str_to_ascii_uppercase xs)
upper-upper [] = refl
upper-upper (x ∷ xs) = ap (λ c. c ∷ str_to_ascii_uppercase (str_to_ascii_uppercase xs)) (uppercase-uppercase x) ∙ ap (λ (rest : Word). to_ascii_uppercase x ∷ rest) (upper-upper xs)

abbrev UpperIndex : Subscript → Type 0
UpperIndex (subscripts.Number digits) = Unit {0}
UpperIndex (subscripts.Item index) = IsUpper index

abbrev UpperSome : Option Subscript → Type 0
UpperSome None = Unit {0}
UpperSome (Some one) = UpperIndex one

item-index : (value : Token) (rest : Rest) (b : Bool) (s : Subscript) (after : Rest) → (if b then as_read (subscripts.Item (token_name rest.text value)) rest else None) ≡ as_read s after → UpperIndex s
item-index value rest true s after e = found-is UpperIndex (subscripts.Item (token_name rest.text value)) s rest after e (upper-upper (spelling rest.text value))
item-index value rest false s after e = absurd cc

subscript-gives : (k : TokenKind) (value : Token) → Yields UpperIndex (subscript_by k value)
subscript-gives kind.Number value rest s after e = found-is UpperIndex (subscripts.Number (spelling rest.text value)) s rest after e tt
subscript-gives _ value rest s after e = item-index value rest (is_item_name rest.server rest.text value) s after e

behind-gives : Yields UpperSome subscript_behind
unfolding subscript_behind
behind-gives =
    yields-any UpperSome (takes kind.LeftParen) _ (λ opens. yields-if UpperSome opens _ _
    (yields-any UpperSome token _ (λ value. yields-bind UpperIndex UpperSome (subscript_by value.kind value) _ (subscript-gives value.kind value)
    (λ s is. yields-any UpperSome (takes kind.RightParen) _ (λ closes. yields-if UpperSome closes _ _ (yields-pure UpperSome (Some s) is) (yields-fails UpperSome)))))
    (yields-pure UpperSome None tt))

named-upper : (own : Word) (s : Option Subscript) → UpperSome s → HasUpperIndex (operands.Item own s)
named-upper own None is = tt
named-upper own (Some (subscripts.Number digits)) is = tt
named-upper own (Some (subscripts.Item index)) is = is

item-gives : (first : Token) → Yields HasUpperIndex (item first)
unfolding item
item-gives first =
    yields-bind UpperSome HasUpperIndex subscript_behind _ behind-gives
    (λ s is rest one after e. found-is HasUpperIndex (operands.Item (token_name rest.text first) s) one rest after e (named-upper (token_name rest.text first) s is))

abbrev beside : Rest → Operand → Operand × Rest
beside rest found = (found, rest)

figure-gives : (rest : Rest) (o : Option Operand) → ((found : Operand) → o ≡ Some found → HasUpperIndex found) → (one : Operand) (after : Rest) → option_map (beside rest) o ≡ as_read one after → HasUpperIndex one
figure-gives rest None h one after e = absurd cc
figure-gives rest (Some found) h one after e = found-is HasUpperIndex found one rest after e (h found refl)

figurative-plain : (a b : Bool) (found : Operand) → (if a then Some operands.Spaces else if b then Some operands.Zeros else None) ≡ Some found → HasUpperIndex found
figurative-plain true b found e = let same : operands.Spaces ≡ found = cc in subst HasUpperIndex same tt
figurative-plain false true found e = let same : operands.Zeros ≡ found = cc in subst HasUpperIndex same tt
figurative-plain false false found e = absurd cc

figurative-is : (text : List ℕ) (word : Token) (found : Operand) → figurative text word ≡ Some found → HasUpperIndex found
unfolding figurative
figurative-is text word found e = figurative-plain _ _ found e

other-gives : (first : Token) (b : Bool) (rest : Rest) (one : Operand) (after : Rest)
    → (if b then item first rest else option_map (beside rest) (figurative rest.text first)) ≡ as_read one after → HasUpperIndex one
other-gives first true rest one after e = item-gives first rest one after e
other-gives first false rest one after e = figure-gives rest (figurative rest.text first) (λ found is. figurative-is rest.text first found is) one after e

operand-by-gives : (k : TokenKind) (first : Token) → Yields HasUpperIndex (operand_by k first)
operand-by-gives kind.Number first rest one after e = found-is HasUpperIndex (operands.Number (spelling rest.text first)) one rest after e tt
operand-by-gives kind.Text first rest one after e = found-is HasUpperIndex (operands.Text (unquoted false (spelling rest.text first))) one rest after e tt
operand-by-gives _ first rest one after e = other-gives first (is_item_name rest.server rest.text first) rest one after e

operand-gives : Yields HasUpperIndex operand
unfolding operand
operand-gives = yields-any HasUpperIndex token _ (λ first. operand-by-gives first.kind first)

using-gives : Yields (Each HasUpperIndex) reads.using
unfolding reads.using
using-gives =
    yields-any (Each HasUpperIndex) (eats (codes "USING")) _ (λ found. yields-if (Each HasUpperIndex) found _ _ (some-gives HasUpperIndex operand operand-gives)
    (yields-any (Each HasUpperIndex) ends _ (λ _. yields-pure (Each HasUpperIndex) [] tt)))

abbrev IsFourDigits : SendCode → Type 0
IsFourDigits code = code.number ≤ 9999

code-gives : Yields (λ n. n ≤ 9999) code
unfolding code
code-gives = yields-any (λ n. n ≤ 9999) token _ (λ number rest n after e. by _ (is_code (spelling rest.text number)) refl n rest after (value_of (spelling rest.text number)) (λ is. leb-true _ 9999 (and_parts (list_all is_ascii_digit (spelling rest.text number)) (nat_le (value_of (spelling rest.text number)) 9999) is).1) e)
  where
    by : (a b : Bool) {c : Bool} → b ≡ c → (n : ℕ) (rest after : Rest) (value : ℕ) → (c ≡ true → value ≤ 9999) → (if a && b then as_read value rest else None) ≡ as_read n after → n ≤ 9999
    by true true {c = c} same n rest after value few e = found-is (λ m. m ≤ 9999) value n rest after e (few (sym same))
    by true false {c = c} same n rest after value few e = absurd cc
    by false b {c = c} same n rest after value few e = absurd cc

clause-gives : Yields IsFourDigits reads.code_clause
unfolding reads.code_clause
clause-gives =
    yields-any IsFourDigits (expects (codes "CODE")) _ (λ _. yields-bind (λ n. n ≤ 9999) IsFourDigits code _ code-gives (λ number few.
    yields-any IsFourDigits (expects (codes "YIELDS")) _ (λ _. yields-any IsFourDigits operand _ (λ one. yields-pure IsFourDigits (record { number = number; yields = one }) few))))

-- ---- forms of both sides

module _ (server : Bool) (line : ℕ) where
  by : (opens : Bool) (found : ArithmeticForm) → IsOf server (reads.arithmetic_by line opens found)
  by true found = tt
  by false found = (tt, tt)

  exits : (program : Bool) → IsOf server (forms.Whole (if program then statement.ExitProgram line else statement.Exit line))
  exits true = (tt, tt)
  exits false = (tt, tt)

  move : Gives server (reads.move_form line)
  unfolding reads.move_form
  move = gives-bind server (operand) _ (λ from. gives-bind server (expects (codes "TO")) _ (λ _. gives-bind server (some operand) _ (λ to. gives-pure server _ (tt, tt))))

  arithmetic : (op : Operation) (word : Word) → Gives server (reads.arithmetic line op word)
  unfolding reads.arithmetic
  arithmetic op word = gives-bind server (operand) _ (λ first. gives-bind server (expects word) _ (λ _. gives-bind server (operand) _ (λ second. gives-bind server (reads.giving) _ (λ item. gives-bind server (reads.on_size_error) _ (λ opens. gives-bind server (ends) _ (λ _. gives-pure server _ (by opens _)))))))

  if_form : Gives server (reads.if_form line)
  unfolding reads.if_form
  if_form = gives-bind server (condition) _ (λ cond. gives-bind server (eats (codes "THEN")) _ (λ _. gives-bind server (ends) _ (λ _. gives-pure server (forms.Opens (head.If line cond)) tt)))

  perform_until : (paragraph : Word) → Gives server (reads.perform_until line paragraph)
  unfolding reads.perform_until
  perform_until paragraph = gives-bind server (condition) _ (λ cond. gives-bind server (ends) _ (λ _. gives-pure server _ (tt, tt)))

  perform_times : (paragraph : Word) → Gives server (reads.perform_times line paragraph)
  unfolding reads.perform_times
  perform_times paragraph = gives-bind server (operand) _ (λ times. gives-bind server (expects (codes "TIMES")) _ (λ _. gives-bind server (ends) _ (λ _. gives-pure server _ (tt, tt))))

  perform_one : Gives server (reads.perform_one line)
  unfolding reads.perform_one
  perform_one = gives-bind server (name) _ (λ paragraph. gives-bind server (eats (codes "UNTIL")) _ (λ until. gives-if server until _ _ (perform_until paragraph) (gives-test server is_done (pure (forms.Whole (statement.Perform line paragraph))) _ (gives-pure server (forms.Whole (statement.Perform line paragraph)) (tt, tt)) (perform_times paragraph))))

  perform_one_of : Gives server (reads.perform_one_of line)
  unfolding reads.perform_one_of
  perform_one_of = gives-bind server (expects (codes "OF")) _ (λ _. gives-bind server (up_to (codes "DEPENDING") name) _ (λ paragraphs. gives-bind server (expects (codes "ON")) _ (λ _. gives-bind server (operand) _ (λ position. gives-bind server (ends) _ (λ _. gives-pure server _ (tt, tt))))))

  perform : Gives server (reads.perform line)
  unfolding reads.perform
  perform = gives-bind server (eats (codes "ONE")) _ (λ several. gives-if server several _ _ perform_one_of perform_one)

  exit : Gives server (reads.exit line)
  unfolding reads.exit
  exit = gives-bind server (eats (codes "PROGRAM")) _ (λ program. gives-bind server (ends) _ (λ _. gives-pure server (forms.Whole (if program then statement.ExitProgram line else statement.Exit line)) (exits program)))

  stop : Gives server (reads.stop line)
  unfolding reads.stop
  stop = gives-bind server (expects (codes "RUN")) _ (λ _. gives-bind server (ends) _ (λ _. gives-pure server _ (tt, tt)))

-- ---- forms of requesters

module _ (line : ℕ) where
  display_base : Gives false (reads.display_base line)
  unfolding reads.display_base
  display_base = gives-bind false (name) _ (λ screen. gives-bind false (ends) _ (λ _. gives-pure false _ (tt, tt)))

  display_any : Gives false (reads.display_any line)
  unfolding reads.display_any
  display_any = gives-bind false (operand) _ (λ shown. gives-bind false (ends) _ (λ _. gives-pure false _ (tt, tt)))

  display : Gives false (reads.display line)
  unfolding reads.display
  display = gives-bind false (eats (codes "BASE")) _ (λ base. gives-if false base _ _ display_base display_any)

  accept : Gives false (reads.accept line)
  unfolding reads.accept
  accept = gives-bind false (name) _ (λ screen. gives-bind false (expects (codes "UNTIL")) _ (λ _. gives-bind false (some key) _ (λ keys.
      gives-limit (length keys) _ (λ few. gives-pure false (forms.Whole (statement.Accept line screen keys)) (tt, few)))))

  call : Gives false (reads.call line)
  unfolding reads.call
  call = gives-bind false (program_name) _ (λ program. gives-with (Each HasUpperIndex) (reads.using) _ using-gives (λ arguments is. gives-pure false (forms.Whole (statement.Call line program arguments)) (tt, is)))

  send : Gives false (reads.send line)
  unfolding reads.send
  send = gives-bind false (operand) _ (λ message. gives-bind false (expects (codes "TO")) _ (λ _. gives-bind false (program_name) _ (λ class. gives-bind false (expects (codes "REPLY")) _ (λ _.
      gives-with (Each IsFourDigits) (some reads.code_clause) _ (some-gives IsFourDigits reads.code_clause clause-gives) (λ clauses each.
      gives-limit (length clauses) _ (λ few. gives-pure false (forms.Whole (statement.Send line message class clauses)) (tt, (few, each))))))))

  transacts : (found : TransactionVerb) → IsOf false (forms.Whole (reads.transaction found line))
  transacts transactions.Begin = (tt, tt)
  transacts transactions.End = (tt, tt)
  transacts transactions.Abort = (tt, tt)
  transacts transactions.Restart = (tt, tt)

  transaction : (found : TransactionVerb) → Gives false (reads.transaction_form found line)
  unfolding reads.transaction_form
  transaction found = gives-bind false ends _ (λ _. gives-pure false _ (transacts found))

  terminal : (found : TerminalVerb) → Gives false (reads.terminal_form found line)
  terminal terminals.Accept = accept
  terminal terminals.Call = call
  terminal terminals.Display = display
  terminal terminals.Send = send
  terminal (terminals.Transaction found) = transaction found

-- ---- forms of servers

module _ (line : ℕ) where
  receive : Gives true (reads_files.receive line)
  unfolding reads_files.receive
  receive = gives-bind true (expects (codes "INTO")) _ (λ _. gives-bind true (operand) _ (λ into. gives-bind true (ends) _ (λ _. gives-pure true _ (tt, tt))))

  read_file : Gives true (reads_files.read_file line)
  unfolding reads_files.read_file
  read_file = gives-bind true (file_name) _ (λ file. gives-bind true (reads_files.with_lock) _ (λ locking. gives-bind true (expects (codes "KEY")) _ (λ _. gives-bind true (operand) _ (λ key. gives-bind true (expects (codes "INTO")) _ (λ _. gives-bind true (operand) _ (λ into. gives-bind true (ends) _ (λ _. gives-pure true _ (tt, tt))))))))

  read_next : Gives true (reads_files.read_next line)
  unfolding reads_files.read_next
  read_next = gives-bind true (file_name) _ (λ file. gives-bind true (reads_files.with_lock) _ (λ locking. gives-bind true (expects (codes "AFTER")) _ (λ _. gives-bind true (operand) _ (λ after. gives-bind true (expects (codes "INTO")) _ (λ _. gives-bind true (operand) _ (λ into. gives-bind true (ends) _ (λ _. gives-pure true _ (tt, tt))))))))

  read : Gives true (reads_files.read line)
  unfolding reads_files.read
  read = gives-test true reads_files.sees_next _ _ (gives-bind true (expects (codes "NEXT")) _ (λ _. read_next)) (gives-bind true (eats (codes "$RECEIVE")) _ (λ message. gives-if true message _ _ receive read_file))

  reply : Gives true (reads_files.reply line)
  unfolding reads_files.reply
  reply = gives-bind true (expects (codes "FROM")) _ (λ _. gives-bind true (operand) _ (λ from. gives-bind true (ends) _ (λ _. gives-pure true _ (tt, tt))))

  write_file : Gives true (reads_files.write_file line)
  unfolding reads_files.write_file
  write_file = gives-bind true (file_name) _ (λ file. gives-bind true (expects (codes "FROM")) _ (λ _. gives-bind true (operand) _ (λ from. gives-bind true (ends) _ (λ _. gives-pure true _ (tt, tt)))))

  write : Gives true (reads_files.write line)
  unfolding reads_files.write
  write = gives-bind true (eats (codes "$RECEIVE")) _ (λ message. gives-if true message _ _ reply write_file)

  rewrite : Gives true (reads_files.rewrite line)
  unfolding reads_files.rewrite
  rewrite = gives-bind true (file_name) _ (λ file. gives-bind true (expects (codes "FROM")) _ (λ _. gives-bind true (operand) _ (λ from. gives-bind true (ends) _ (λ _. gives-pure true _ (tt, tt)))))

  delete : Gives true (reads_files.delete line)
  unfolding reads_files.delete
  delete = gives-bind true (file_name) _ (λ file. gives-bind true (expects (codes "KEY")) _ (λ _. gives-bind true (operand) _ (λ key. gives-bind true (ends) _ (λ _. gives-pure true _ (tt, tt)))))

  file-by : (found : FileVerb) → Gives true (reads_files.file_form_by found line)
  file-by files.Delete = delete
  file-by files.Read = read
  file-by files.Rewrite = rewrite
  file-by files.Write = write

-- ---- all forms

none-some : (found : Form × Rest) → None ≡ Some found → ⊥
none-some found e = cc

-- a verb that its side has, in its own text
pub form-of : (server : Bool) (v : StatementVerb) (line : ℕ) → (server && is_barred v) ≡ false → (rest : Rest) → rest.server ≡ server → (form : Form) (after : Rest)
    → reads.form v line rest ≡ Some (form, after) → IsOf server form
unfolding reads.form reads_files.file_form
form-of server verb.Exit line free rest side form after e = exit server line rest form after e
form-of server verb.If line free rest side form after e = if_form server line rest form after e
form-of server verb.Move line free rest side form after e = move server line rest form after e
form-of server verb.Perform line free rest side form after e = perform server line rest form after e
form-of server verb.Stop line free rest side form after e = stop server line rest form after e
form-of server (verb.Arithmetic operation) line free rest side form after e = arithmetic server line operation (reads.between operation) rest form after e
form-of true (verb.File found) line free rest side form after e =
    file-by line found rest form after (ap (λ b. if b then reads_files.file_form_by found line rest else None) (sym side) ∙ e)
form-of false (verb.File found) line free rest side form after e =
    let none : None ≡ Some (form, after) = ap (λ b. if b then reads_files.file_form_by found line rest else None) (sym side) ∙ e in
    absurd (none-some (form, after) none)
form-of true (verb.Terminal found) line free rest side form after e = absurd cc
form-of false (verb.Terminal found) line free rest side form after e = terminal line found rest form after e
