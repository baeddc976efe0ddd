-- The tokens of the procedure of a source are among those of its text.
use Rattle.std.proofs.Common.{◌≡◌, ℕ, zero, suc, Bool, true, false, not, ◌&&◌, List, [], ◌∷◌, length, drop, take_while, Ok, Err, if◌then◌else◌, refl, ap, subst}
use Rattle.std.specs.Prelude.{Result, ◌==◌, codes}
use Rattle.pw_base.specs.declared.fault.Fault.{Fault}
use Rattle.pw_words.specs.Words.{Word}
use Rattle.pw_text.specs.declared.token.Token.{Token}
use Rattle.pw_text.specs.declared.token.TokenKind.TheVariants as kind
use Rattle.pw_text.specs.Cursor.{Left, sees, sees_word, behind}
use Rattle.pw_text.specs.Tokens.{tokens_of}
use Rattle.pw_data.specs.Layouts.{layout_of}
use Rattle.pw_data.specs.Parts.{left_of}
use Rattle.pw_forms.specs.declared.statement.Paragraph.{Paragraph}
use Rattle.pw_forms.specs.declared.statement.Procedure.{Procedure}
use Rattle.pw_forms.specs.Procedures.{procedure_of}
use Rattle.pw_operands.specs.Resolved.{Each}
use Rattle.pw_screen.specs.Screens.{screens_of}
use Rattle.pw_divisions.specs.Divided.{Divided}
use Rattle.pw_divisions.specs.Divisions.{ends_text, identification, environment_text, environment, section_text, section, no_data, stored_sections, sections, data_sections, data_division, parameters, is_parameter, one_or_more, used_names, using_names, begins_procedure, procedure_heading, front, source, divided, divisions_of}
use Rattle.pw_base.specs.Steps as passes
use Rattle.pw_divisions.specs.Steps.{TokenStep, and_then, ◌>>=◌, pure, word, period, size_up_to, some_tokens, up_to, between}
use Rattle.pw_scobol.specs.Requesters.{requester_of}
use Rattle.pw_scobol.specs.declared.requester.Requester.{Requester}
use Rattle.pw_server.specs.Servers.{server_of}
use Rattle.pw_server.specs.declared.server.Server.{Server}
use Rattle.pw_compiler_laws.specs.Premises.{IsReadStatement}
use Rattle.pw_compiler_laws.specs.Tokens.{HasSpelledNumber}
use Rattle.pw_compiler_laws.proofs.Scanned.{tokens-say}
use Rattle.pw_compiler_laws.proofs.numbers.Pieces.{procedure-read}

module _ (P : Token → Type 0) where
  drop-each : (n : ℕ) (xs : List Token) → Each P xs → Each P (drop n xs)
  drop-each zero xs each = each
  drop-each (suc n) [] each = tt
  drop-each (suc n) (x ∷ xs) each = drop-each n xs each.1

  -- what a step leaves is of what it was given
  abbrev Keeps : {A : Type 0} → TokenStep A → Type 0
  Keeps {A} step = (left : Left) (x : A) (after : Left) → Each P left.tokens → step left ≡ Ok (x, after) → Each P after.tokens

  abbrev as_ok : {A : Type 0} → A → Left → Result (A × Left) Left
  as_ok x left = Ok (x, left)

  abbrev left_by : {A : Type 0} → Result (A × Left) Left → Left
  left_by (Ok found) = found.1
  left_by (Err left) = left

  ok-keeps : {A : Type 0} (x y : A) (left after : Left) → Each P left.tokens → as_ok x left ≡ as_ok y after → Each P after.tokens
  ok-keeps x y left after each e = subst (λ (rest : Left). Each P rest.tokens) (ap left_by e) each

  then-keeps : {A B : Type 0} (o : Result (A × Left) Left) (k : A → TokenStep B) → ((x : A) (rest : Left) → o ≡ Ok (x, rest) → Each P rest.tokens) → ((x : A) → Keeps (k x))
      → (y : B) (after : Left) → and_then o k ≡ Ok (y, after) → Each P after.tokens
  then-keeps (Ok found) k given h y after e = h found.0 found.1 y after (given found.0 found.1 refl) e
  then-keeps (Err left) k given h y after e = absurd cc

  bind-keeps : {A B : Type 0} (m : TokenStep A) (k : A → TokenStep B) → Keeps m → ((x : A) → Keeps (k x)) → Keeps (m >>= k)
  bind-keeps m k given h left y after each e = then-keeps (m left) k (λ x rest is. given left x rest each is) h y after e

  pure-keeps : {A : Type 0} (x : A) → Keeps (pure x)
  pure-keeps x left y after each e = ok-keeps x y left after each e

  if-keeps : {A : Type 0} (b : Bool) (x y : A) (rest left after : Left) → Each P rest.tokens → (if b then as_ok x rest else Err left) ≡ as_ok y after → Each P after.tokens
  if-keeps true x y rest left after each e = ok-keeps x y rest after each e
  if-keeps false x y rest left after each e = absurd cc

  -- a step behind the next token, or nothing
  maybe-keeps : {A : Type 0} (b : Bool) (step : TokenStep A) (none y : A) (left after : Left) → Keeps step → Each P left.tokens → (if b then step (behind 1 left) else as_ok none left) ≡ as_ok y after → Each P after.tokens
  maybe-keeps true step none y left after keeps each e = keeps (behind 1 left) y after (drop-each 1 left.tokens each) e
  maybe-keeps false step none y left after keeps each e = ok-keeps none y left after each e

  word-keeps : (name : Word) → Keeps (word name)
  word-keeps name left y after each e = if-keeps (sees_word name left) tt y (behind 1 left) left after (drop-each 1 left.tokens each) e

  period-keeps : Keeps period
  period-keeps left y after each e = if-keeps (sees kind.Period left) tt y (behind 1 left) left after (drop-each 1 left.tokens each) e

  some-keeps : (count : ℕ) → Keeps (some_tokens count)
  some-keeps count left y after each e = ok-keeps _ y (behind count left) after (drop-each count left.tokens each) e

  up-to-keeps : (test : Left → Bool) → Keeps (up_to test)
  up-to-keeps test left y after each e = some-keeps (size_up_to test left.text left.tokens) left y after each e

  identification-keeps : (name : Word) → Keeps (identification name)
  identification-keeps name =
      bind-keeps (word (codes "IDENTIFICATION")) _ (word-keeps (codes "IDENTIFICATION")) (λ _. bind-keeps (word (codes "DIVISION")) _ (word-keeps (codes "DIVISION")) (λ _. bind-keeps period _ period-keeps (λ _.
      bind-keeps (word (codes "PROGRAM-ID")) _ (word-keeps (codes "PROGRAM-ID")) (λ _. bind-keeps period _ period-keeps (λ _. bind-keeps (word name) _ (word-keeps name) (λ _. period-keeps))))))

  environment-keeps : Keeps environment
  environment-keeps left y after each e =
      maybe-keeps (sees_word (codes "ENVIRONMENT") left) environment_text tt y left after
      (bind-keeps (word (codes "DIVISION")) _ (word-keeps (codes "DIVISION")) (λ _. bind-keeps period _ period-keeps (λ _. bind-keeps (up_to (ends_text false)) _ (up-to-keeps (ends_text false)) (λ _. pure-keeps tt)))) each e

  section-text-keeps : Keeps section_text
  section-text-keeps = bind-keeps (word (codes "SECTION")) _ (word-keeps (codes "SECTION")) (λ _. bind-keeps period _ period-keeps (λ _. up-to-keeps (ends_text true)))

  section-keeps : (may_be : Bool) (name : Word) → Keeps (section may_be name)
  section-keeps may_be name left y after each e = maybe-keeps (may_be && sees_word name left) section_text [] y left after section-text-keeps each e

  stored-keeps : (server : Bool) → Keeps (stored_sections server)
  stored-keeps server = bind-keeps (section true (codes "WORKING-STORAGE")) _ (section-keeps true (codes "WORKING-STORAGE")) (λ _. section-keeps (not server) (codes "LINKAGE"))

  sections-keeps : (server : Bool) → Keeps (sections server)
  sections-keeps server left y after each e =
      bind-keeps (stored_sections server) _ (stored-keeps server)
      (λ linkage rest z more all is. bind-keeps (section (not server) (codes "SCREEN")) _ (section-keeps (not server) (codes "SCREEN")) (λ screens. pure-keeps (record { stored = between left rest; linkage = linkage; screens = screens })) rest z more all is)
      left y after each e

  data-keeps : (server : Bool) → Keeps (data_division server)
  data-keeps server left y after each e =
      maybe-keeps (sees_word (codes "DATA") left) (data_sections server) no_data y left after
      (bind-keeps (word (codes "DIVISION")) _ (word-keeps (codes "DIVISION")) (λ _. bind-keeps period _ period-keeps (λ _. sections-keeps server))) each e

  front-keeps : (server : Bool) (name : Word) → Keeps (front server name)
  front-keeps server name = bind-keeps (identification name) _ (identification-keeps name) (λ _. bind-keeps environment _ environment-keeps (λ _. data-keeps server))

  more-keeps : (b : Bool) (count : ℕ) (left : Left) (y : List Token) (after : Left) → Each P left.tokens → (if b then Err left else some_tokens count left) ≡ as_ok y after → Each P after.tokens
  more-keeps true count left y after each e = absurd cc
  more-keeps false count left y after each e = some-keeps count left y after each e

  one-keeps : (count : ℕ) → Keeps (one_or_more count)
  one-keeps count left y after each e = more-keeps (count == 0) count left y after each e

  used-keeps : (linkage : List Token) → Keeps (used_names linkage)
  used-keeps linkage left y after each e = one-keeps (length (take_while (is_parameter left.text (parameters left.text linkage)) left.tokens)) left y after each e

  using-keeps : (server : Bool) (linkage : List Token) → Keeps (using_names server linkage)
  using-keeps server linkage left y after each e = maybe-keeps (not server && sees_word (codes "USING") left) (used_names linkage) [] y left after (used-keeps linkage) each e

  heading-keeps : (server : Bool) (linkage : List Token) → Keeps (procedure_heading server linkage)
  heading-keeps server linkage =
      bind-keeps begins_procedure _ (bind-keeps (word (codes "PROCEDURE")) _ (word-keeps (codes "PROCEDURE")) (λ _. word-keeps (codes "DIVISION"))) (λ _.
      bind-keeps (using_names server linkage) _ (using-keeps server linkage) (λ names. bind-keeps period _ period-keeps (λ _. pure-keeps names)))

  -- ---- what the procedure is

  abbrev Ends : Result (Divided × Left) Left → Type 0
  Ends (Ok found) = Each P found.0.procedure
  Ends (Err left) = Unit {0}

  then-ends : {A : Type 0} (o : Result (A × Left) Left) (k : A → TokenStep Divided) → ((x : A) (rest : Left) → o ≡ Ok (x, rest) → Each P rest.tokens) → ((x : A) (rest : Left) → Each P rest.tokens → Ends (k x rest)) → Ends (and_then o k)
  then-ends (Ok found) k given h = h found.0 found.1 (given found.0 found.1 refl)
  then-ends (Err left) k given h = tt

  source-ends : (server : Bool) (name : Word) (left : Left) → Each P left.tokens → Ends (source server name left)
  source-ends server name left each =
      then-ends (front server name left) _ (λ x rest is. front-keeps server name left x rest each is)
      (λ found rest all. then-ends (procedure_heading server found.linkage rest) _ (λ x more is. heading-keeps server found.linkage rest x more all is) (λ names more whole. whole))

  divided-ends : (first_line : ℕ) (tokens : List Token) (o : Result (Divided × Left) Left) (one : Divided) → Ends o → divided first_line tokens o ≡ Ok one → Each P one.procedure
  divided-ends first_line tokens (Ok found) one ends e = let same : found.0 ≡ one = cc in subst (λ (d : Divided). Each P d.procedure) same ends
  divided-ends first_line tokens (Err left) one ends e = absurd cc

  procedure-of : (server : Bool) (name : Word) (text : List ℕ) (tokens : List Token) (first_line : ℕ) (one : Divided) → Each P tokens → divisions_of server name text tokens first_line ≡ Ok one → Each P one.procedure
  procedure-of server name text tokens first_line one each e = divided-ends first_line tokens (source server name (left_of text tokens)) one (source-ends server name (left_of text tokens) each) e

-- ---- passes

pub pass : {A B : Type 0} (Q : Type 0) (o : Result A Fault) (k : A → Result B Fault) (y : B) → passes.◌>>=◌ o k ≡ Ok y → ((x : A) → o ≡ Ok x → k x ≡ Ok y → Q) → Q
pass Q (Ok x) k y e h = h x refl e
pass Q (Err fault) k y e h = absurd cc

abbrev AllRead : Procedure → Type 0
AllRead procedure = Each (λ (paragraph : Paragraph). Each IsReadStatement paragraph.body) procedure.paragraphs

-- the number literals of a requester that was read
pub requester-read : (name : Word) (text : List ℕ) (first_line : ℕ) (one : Requester) → requester_of name text first_line ≡ Ok one → AllRead one.procedure
requester-read name text first_line one e =
    pass (AllRead one.procedure) (tokens_of text first_line) _ one e (λ tokens scanned e1.
    pass (AllRead one.procedure) (divisions_of false name text tokens first_line) _ one e1 (λ parts cut e2.
    pass (AllRead one.procedure) (layout_of text parts.stored false) _ one e2 (λ layout laid e3.
    pass (AllRead one.procedure) (screens_of text parts.screens layout) _ one e3 (λ screens shown e4.
    pass (AllRead one.procedure) (procedure_of false text parts.procedure) _ one e4 (λ procedure is e5.
    let same : procedure ≡ one.procedure = ap (λ o. requester_procedure o procedure) e5 in
    subst AllRead same (procedure-read false text parts.procedure procedure (procedure-of (HasSpelledNumber text) false name text tokens first_line parts (tokens-say text first_line tokens scanned) cut) is))))))
  where
    requester_procedure : Result Requester Fault → Procedure → Procedure
    requester_procedure (Ok found) other = found.procedure
    requester_procedure (Err fault) other = other

-- the number literals of a server that was read
pub server-read : (name : Word) (text : List ℕ) (first_line : ℕ) (one : Server) → server_of name text first_line ≡ Ok one → AllRead one.procedure
server-read name text first_line one e =
    pass (AllRead one.procedure) (tokens_of text first_line) _ one e (λ tokens scanned e1.
    pass (AllRead one.procedure) (divisions_of true name text tokens first_line) _ one e1 (λ parts cut e2.
    pass (AllRead one.procedure) (layout_of text parts.stored true) _ one e2 (λ layout laid e3.
    pass (AllRead one.procedure) (procedure_of true text parts.procedure) _ one e3 (λ procedure is e4.
    let same : procedure ≡ one.procedure = ap (λ o. server_procedure o procedure) e4 in
    subst AllRead same (procedure-read true text parts.procedure procedure (procedure-of (HasSpelledNumber text) true name text tokens first_line parts (tokens-say text first_line tokens scanned) cut) is)))))
  where
    server_procedure : Result Server Fault → Procedure → Procedure
    server_procedure (Ok found) other = found.procedure
    server_procedure (Err fault) other = other
