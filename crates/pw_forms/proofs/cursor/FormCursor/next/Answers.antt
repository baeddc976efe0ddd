use Rattle.std.proofs.Common.{◌≡◌, ℕ, Bool, List, [], ◌∷◌, drop, Some, None, refl, sym, ap, ◌∙◌}
use Rattle.std.specs.Prelude.{slice_get}
use Rattle.pw_text.specs.declared.token.Token.{Token}
use Rattle.pw_text.specs.Cursor.{Left, behind as behind_of}
use Rattle.pw_forms.specs.Readers.{token, form_rest_behind}
use Rattle.pw_forms.proofs.cursor.FormCursor.next.Goals as goal
use Rattle.pw_forms.proofs.cursor.FormCursor.next.Goals.{in-Some, in-None}

some-by : (server : Bool) (text : List ℕ) (tokens : List Token) (next : Token) → Some next ≡ slice_get tokens 0 → token (record { server = server; text = text; tokens = tokens }) ≡ Some (next, record { server = server; text = text; tokens = drop 1 tokens })
unfolding token form_rest_behind
some-by server text [] next is = absurd cc
some-by server text (first ∷ tokens) next is =
    let same : first ≡ next = cc in
    ap (λ word. Some (word, record { server = server; text = text; tokens = drop 1 (first ∷ tokens) })) same

some : (server : Bool) (left new : Left) (next : Token) → Some next ≡ slice_get left.tokens 0 → new ≡ behind_of 1 left
    → token (record { server = server; text = left.text; tokens = left.tokens }) ≡ Some (next, record { server = server; text = new.text; tokens = new.tokens })
some server left new next is new_is =
    some-by server left.text left.tokens next is
    ∙ ap (λ (l : Left). Some (next, record { server = server; text = l.text; tokens = l.tokens })) (sym new_is)

none : (server : Bool) (text : List ℕ) (tokens : List Token) → None ≡ slice_get tokens 0 → token (record { server = server; text = text; tokens = tokens }) ≡ None
unfolding token
none server text [] is = refl
none server text (first ∷ tokens) is = absurd cc

pub returns : goal.returns
returns c =
    rw (← c.self.view_is)
    (elim c.match-next.branch [
      | in-Some w ↦ rw w.result-is (some c.self.inside.server c.self.inside.left c.next.new.self w.in-Some.token w.in-Some.ensures.token c.next.ensures.left)
      | in-None w ↦ rw w.result-is (none c.self.inside.server c.self.inside.left.text c.self.inside.left.tokens w.in-None.ensures.token)
    ])
