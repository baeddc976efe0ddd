-- The forms of the file verbs, which servers alone have.
use Rattle.std.specs.Prelude.{ℕ, Bool, true, false, ◌&&◌, ◌||◌, codes, None, if◌then◌else◌}
use Rattle.pw_forms.specs.declared.mark.FileVerb.{FileVerb}
use Rattle.pw_forms.specs.declared.mark.FileVerb.TheVariants as files
use Rattle.pw_forms.specs.declared.statement.Statement.TheVariants as statement
use Rattle.pw_forms.specs.declared.form.Form.{Form}
use Rattle.pw_forms.specs.declared.form.Form.TheVariants.{Whole}
use Rattle.pw_forms.specs.Readers.{Rest, Reader, ◌>>=◌, ◌>>◌, pure, sees, sees_third, eats, expects, ends}
use Rattle.pw_forms.specs.Operands.{operand, file_name}

-- WITH LOCK, if it comes next
unfoldable pub with_lock : Reader Bool
with_lock = do
  found ← eats (codes "WITH")
  if found then (do expects (codes "LOCK"); pure true) else pure false

-- READ $RECEIVE INTO item, behind $RECEIVE
unfoldable pub receive : ℕ → Reader Form
receive line = do
  expects (codes "INTO")
  into ← operand
  ends
  pure (Whole (statement.Receive line into))

-- READ file [WITH LOCK] KEY item INTO item
unfoldable pub read_file : ℕ → Reader Form
read_file line = do
  file ← file_name
  locking ← with_lock
  expects (codes "KEY")
  key ← operand
  expects (codes "INTO")
  into ← operand
  ends
  pure (Whole (statement.Read line file locking key into))

-- READ NEXT file [WITH LOCK] AFTER item INTO item, behind NEXT
unfoldable pub read_next : ℕ → Reader Form
read_next line = do
  file ← file_name
  locking ← with_lock
  expects (codes "AFTER")
  after ← operand
  expects (codes "INTO")
  into ← operand
  ends
  pure (Whole (statement.ReadNext line file locking after into))

-- NEXT, a file and AFTER or WITH come next: else NEXT is itself the name of the file
unfoldable pub sees_next : Rest → Bool
sees_next rest =
    sees (codes "NEXT") rest
    && (sees_third (codes "AFTER") rest || sees_third (codes "WITH") rest)

-- the forms of READ
unfoldable pub read : ℕ → Reader Form
read line = λ rest.
    if sees_next rest then (do expects (codes "NEXT"); read_next line) rest
    else (do
      message ← eats (codes "$RECEIVE")
      if message then receive line else read_file line) rest

-- WRITE $RECEIVE FROM item, behind $RECEIVE
unfoldable pub reply : ℕ → Reader Form
reply line = do
  expects (codes "FROM")
  from ← operand
  ends
  pure (Whole (statement.Reply line from))

-- WRITE file FROM item
unfoldable pub write_file : ℕ → Reader Form
write_file line = do
  file ← file_name
  expects (codes "FROM")
  from ← operand
  ends
  pure (Whole (statement.Write line file from))

-- the forms of WRITE
unfoldable pub write : ℕ → Reader Form
write line = do
  message ← eats (codes "$RECEIVE")
  if message then reply line else write_file line

-- REWRITE file FROM item
unfoldable pub rewrite : ℕ → Reader Form
rewrite line = do
  file ← file_name
  expects (codes "FROM")
  from ← operand
  ends
  pure (Whole (statement.Rewrite line file from))

-- DELETE file KEY item
unfoldable pub delete : ℕ → Reader Form
delete line = do
  file ← file_name
  expects (codes "KEY")
  key ← operand
  ends
  pure (Whole (statement.Delete line file key))

-- the form of a verb of files
abbrev pub file_form_by : FileVerb → ℕ → Reader Form
file_form_by files.Delete line = delete line
file_form_by files.Read line = read line
file_form_by files.Rewrite line = rewrite line
file_form_by files.Write line = write line

-- the same, which servers alone have
unfoldable pub file_form : FileVerb → ℕ → Reader Form
file_form verb line = λ rest. if rest.server then file_form_by verb line rest else None
