-- What holds of each statement and head that is read, and of what closes over such, holds of the statements of a procedure.
use Rattle.std.proofs.Common.{◌≡◌, ℕ, Bool, true, false, List, [], ◌∷◌, ◌&&◌, ◌||◌, Option, Some, None, Ok, if◌then◌else◌, refl, subst}
use Rattle.pw_base.specs.declared.fault.Fault.{Fault}
use Rattle.pw_base.specs.First.{least, unless}
use Rattle.pw_text.specs.declared.token.Token.{Token}
use Rattle.pw_text.specs.Cursor.{spelling}
use Rattle.pw_forms.specs.declared.mark.TokenMark.{TokenMark}
use Rattle.pw_forms.specs.declared.mark.TokenMark.TheVariants as mark
use Rattle.pw_forms.specs.declared.mark.StatementVerb.{StatementVerb}
use Rattle.pw_forms.specs.declared.form.Form.{Form}
use Rattle.pw_forms.specs.declared.form.Form.TheVariants as forms
use Rattle.pw_forms.specs.declared.form.Head.{Head}
use Rattle.pw_forms.specs.declared.piece.Piece.{Piece}
use Rattle.pw_forms.specs.declared.piece.Piece.TheVariants as pieces
use Rattle.pw_forms.specs.declared.piece.Placed.{Placed}
use Rattle.pw_forms.specs.declared.statement.Paragraph.{Paragraph}
use Rattle.pw_forms.specs.declared.statement.Procedure.{Procedure}
use Rattle.pw_forms.specs.declared.statement.Statement.{Statement}
use Rattle.pw_forms.specs.Readers.{Rest}
use Rattle.pw_forms.specs.Forms.{form}
use Rattle.pw_forms.specs.Pieces.{is_barred, is_period, first_mark, before, cut, form_piece, verb_piece, run_piece, piece_by, placed, placed_all, period_follows, pieces_of}
use Rattle.pw_forms.specs.Words.{begins_piece, is_word, is_table_word, is_receive, mark_of}
use Rattle.pw_forms.specs.Tree.{ParagraphsBehind, Levels, Closed, AtElse, AtEndIf, prepend, closed, with_else, opened, behind_period, level_of, levels, tree}
use Rattle.pw_forms.specs.Faults.{nothing, faults_from}
use Rattle.pw_forms.specs.Procedures.{procedure_of}
use Rattle.pw_operands.specs.Resolved.{Each}
use Rattle.pw_tree_meaning.proofs.storage.Places.{each-append}

-- the statement or the head that a form is has its property
abbrev pub HoldsForm : (Statement → Type 0) → (Head → Type 0) → Form → Type 0
HoldsForm P H (forms.Whole statement) = P statement
HoldsForm P H (forms.Opens head) = H head

-- the same of a piece
abbrev HoldsPiece : (Statement → Type 0) → (Head → Type 0) → Piece → Type 0
HoldsPiece P H (pieces.Whole statement) = P statement
HoldsPiece P H (pieces.Opens head) = H head
HoldsPiece P H _ = Unit {0}

-- ---- the tokens of pieces

before-each : (P : Token → Type 0) (server : Bool) (text : List ℕ) (token : Token) (all : List (List Token)) → P token → Each (Each P) all → Each (Each P) (before server text token all)
before-each P server text token [] one each = ((one, tt), tt)
before-each P server text token (piece ∷ rest) one each = by (is_period (mark_of server text token) || begins_piece (first_mark server text piece))
  where
    by : (b : Bool) → Each (Each P) (if b then (token ∷ []) ∷ (piece ∷ rest) else (token ∷ piece) ∷ rest)
    by true = ((one, tt), each)
    by false = ((one, each.0), each.1)

cut-each : (P : Token → Type 0) (server : Bool) (text : List ℕ) (tokens : List Token) → Each P tokens → Each (Each P) (cut server text tokens)
unfolding cut
cut-each P server text [] each = tt
cut-each P server text (token ∷ tokens) each = before-each P server text token (cut server text tokens) each.0 (cut-each P server text tokens each.1)

unless-ok : (fault : Option Fault) (value found : Procedure) → unless fault value ≡ Ok found → value ≡ found
unless-ok None value found is = cc
unless-ok (Some fault) value found is = absurd cc

module _ (P : Statement → Type 0) (H : Head → Type 0) where
  -- ---- pieces

  piece-if : (b : Bool) (one other : Piece) → (b ≡ true → HoldsPiece P H one) → (b ≡ false → HoldsPiece P H other) → HoldsPiece P H (if b then one else other)
  piece-if true one other f g = f refl
  piece-if false one other f g = g refl

  form-piece : (o : Option (Form × Rest)) → ((found : Form) (after : Rest) → o ≡ Some (found, after) → HoldsForm P H found) → HoldsPiece P H (form_piece o)
  form-piece None h = tt
  form-piece (Some (forms.Whole statement, rest)) h = h (forms.Whole statement) rest refl
  form-piece (Some (forms.Opens head, rest)) h = h (forms.Opens head) rest refl

  run-piece : (server : Bool) (text : List ℕ) (followed : Bool) (word : Token) (tokens : List Token) → HoldsPiece P H (run_piece server text followed word tokens)
  run-piece server text followed word [] =
      piece-if (is_word word.kind && followed) _ _
      (λ is. piece-if (is_table_word server (spelling text word)) _ _ (λ table. tt) (λ free. piece-if (is_receive text word) _ _ (λ receive. tt) (λ name. tt)))
      (λ other. tt)
  run-piece server text followed word (token ∷ tokens) = tt

  -- ---- the tree

  module _ (closes : (head : Head) (first second : List Statement) → H head → Each P first → Each P second → P (closed head first second)) where
    abbrev ParagraphsOf : List Paragraph → Type 0
    ParagraphsOf paragraphs = Each (λ paragraph. Each P paragraph.body) paragraphs

    abbrev BehindOf : ParagraphsBehind → Type 0
    BehindOf behind = Each P behind.statements × ParagraphsOf behind.paragraphs

    abbrev LevelsOf : Levels → Type 0
    LevelsOf (Closed block behind) = Each P block × BehindOf behind
    LevelsOf (AtElse block inside) = Each P block × LevelsOf inside
    LevelsOf (AtEndIf block inside) = Each P block × LevelsOf inside

    prepend-of : (front : List Statement) (rest : Levels) → Each P front → LevelsOf rest → LevelsOf (prepend front rest)
    prepend-of front (Closed block behind) one all = (each-append P front block one all.0, all.1)
    prepend-of front (AtElse block inside) one all = (each-append P front block one all.0, all.1)
    prepend-of front (AtEndIf block inside) one all = (each-append P front block one all.0, all.1)

    else-of : (head : Head) (first : List Statement) (rest : Levels) → H head → Each P first → LevelsOf rest → LevelsOf (with_else head first rest)
    else-of head first (Closed second behind) own one all = ((closes head first second own one all.0, tt), all.1)
    else-of head first (AtElse second inside) own one all = ((closes head first second own one all.0, tt), all.1)
    else-of head first (AtEndIf second inside) own one all = prepend-of (closed head first second ∷ []) inside (closes head first second own one all.0, tt) all.1

    opened-of : (head : Head) (rest : Levels) → H head → LevelsOf rest → LevelsOf (opened head rest)
    opened-of head (Closed first behind) own all = ((closes head first [] own all.0 tt, tt), all.1)
    opened-of head (AtElse first inside) own all = else-of head first inside own all.0 all.1
    opened-of head (AtEndIf first inside) own all = prepend-of (closed head first [] ∷ []) inside (closes head first [] own all.0 tt, tt) all.1

    period-of : (rest : Levels) → LevelsOf rest → BehindOf (behind_period rest)
    period-of (Closed block behind) all = (each-append P block behind.statements all.0 all.1.0, all.1.1)
    period-of (AtElse block inside) all = (all.0, tt)
    period-of (AtEndIf block inside) all = (all.0, tt)

    level-of : (line : ℕ) (piece : Piece) (rest : Levels) → HoldsPiece P H piece → LevelsOf rest → LevelsOf (level_of line piece rest)
    level-of line (pieces.Name name) rest one all = let behind = period-of rest all in (tt, (tt, (behind.0, behind.1)))
    level-of line pieces.Period rest one all = (tt, period-of rest all)
    level-of line (pieces.Whole statement) rest one all = prepend-of (statement ∷ []) rest (one, tt) all
    level-of line (pieces.Opens head) rest one all = opened-of head rest one all
    level-of line pieces.Else rest one all = (tt, all)
    level-of line pieces.EndIf rest one all = (tt, all)
    level-of line (pieces.Fault code) rest one all = all

    levels-of : (placed : List Placed) → Each (λ next. HoldsPiece P H next.piece) placed → LevelsOf (levels placed)
    unfolding levels
    levels-of [] each = (tt, (tt, tt))
    levels-of (next ∷ rest) each = level-of next.line next.piece (levels rest) each.0 (levels-of rest each.1)

    -- ---- a procedure that was read of such tokens

    module _ (T : Token → Type 0) (server : Bool) (text : List ℕ)
        (reads : (v : StatementVerb) (line : ℕ) (tokens : List Token) → (server && is_barred v) ≡ false → Each T tokens → (found : Form) (after : Rest)
        → form v line (record { server = server; text = text; tokens = tokens }) ≡ Some (found, after) → HoldsForm P H found) where
      verb-piece : (line : ℕ) (v : StatementVerb) (tokens : List Token) → Each T tokens → HoldsPiece P H (verb_piece server text line v tokens)
      verb-piece line v tokens all =
          piece-if (server && is_barred v) _ _ (λ barred. tt)
          (λ free. form-piece (form v line (record { server = server; text = text; tokens = tokens })) (λ found after e. reads v line tokens free all found after e))

      piece-by : (m : TokenMark) (followed : Bool) (first : Token) (tokens : List Token) → Each T tokens → HoldsPiece P H (piece_by m server text followed first tokens)
      piece-by (mark.Verb v) followed first tokens all = verb-piece first.line v tokens all
      piece-by mark.Else followed first [] all = tt
      piece-by mark.Else followed first (token ∷ tokens) all = tt
      piece-by mark.EndIf followed first [] all = tt
      piece-by mark.EndIf followed first (token ∷ tokens) all = tt
      piece-by mark.Period followed first tokens all = tt
      piece-by mark.Other followed first tokens all = run-piece server text followed first tokens

      piece-placed : (followed : Bool) (piece : List Token) → Each T piece → HoldsPiece P H (placed server text followed piece).piece
      unfolding placed
      piece-placed followed [] all = tt
      piece-placed followed (first ∷ tokens) all = piece-by (mark_of server text first) followed first tokens all.1

      all-placed : (all : List (List Token)) → Each (Each T) all → Each (λ next. HoldsPiece P H next.piece) (placed_all server text all)
      unfolding placed_all
      all-placed [] each = tt
      all-placed (piece ∷ rest) each = (piece-placed (period_follows server text rest) piece each.0, all-placed rest each.1)

      pub procedure-holds : (tokens : List Token) (procedure : Procedure) → Each T tokens → procedure_of server text tokens ≡ Ok procedure
          → Each (λ paragraph. Each P paragraph.body) procedure.paragraphs
      procedure-holds tokens procedure each is =
          let placed = pieces_of server text tokens in
          let all = period-of (levels placed) (levels-of placed (all-placed (cut server text tokens) (cut-each T server text tokens each))) in
          let Q : Procedure → Type 0 = λ one. Each (λ paragraph. Each P paragraph.body) one.paragraphs in
          subst Q (unless-ok (least None (faults_from nothing placed)) (tree placed) procedure is) all.1
