-- The number literals of forms are those that their tokens write.
use Rattle.std.proofs.Common.{ℕ, Bool, true, false, List, [], length, Some, None, if◌then◌else◌}
use Rattle.std.specs.Prelude.{codes}
use Rattle.pw_words.specs.Words.{Word}
use Rattle.pw_operands.specs.Resolved.{Each}
use Rattle.pw_forms.specs.declared.cond.ConditionForm.{ConditionForm}
use Rattle.pw_forms.specs.declared.operand.Operand.{Operand}
use Rattle.pw_forms.specs.declared.mark.TransactionVerb.{TransactionVerb}
use Rattle.pw_forms.specs.declared.mark.TransactionVerb.TheVariants as transactions
use Rattle.pw_forms.specs.declared.mark.TerminalVerb.{TerminalVerb}
use Rattle.pw_forms.specs.declared.mark.TerminalVerb.TheVariants as terminals
use Rattle.pw_forms.specs.declared.mark.FileVerb.{FileVerb}
use Rattle.pw_forms.specs.declared.mark.FileVerb.TheVariants as files
use Rattle.pw_forms.specs.declared.mark.StatementVerb.{StatementVerb}
use Rattle.pw_forms.specs.declared.mark.StatementVerb.TheVariants as verb
use Rattle.pw_forms.specs.declared.statement.Operation.{Operation}
use Rattle.pw_forms.specs.declared.statement.ArithmeticForm.{ArithmeticForm}
use Rattle.pw_forms.specs.declared.statement.Statement.TheVariants as statement
use Rattle.pw_forms.specs.declared.form.Head.{Head}
use Rattle.pw_forms.specs.declared.form.Head.TheVariants as head
use Rattle.pw_forms.specs.declared.form.Form.{Form}
use Rattle.pw_forms.specs.declared.form.Form.TheVariants as forms
use Rattle.pw_forms.specs.Readers.{Rest, Reader, ◌>>=◌, pure, fails, is_done, expects, eats, ends, some, up_to}
use Rattle.pw_forms.specs.Operands.{operand, code, name, file_name, program_name, key}
use Rattle.pw_forms.specs.Conditions.{condition}
use Rattle.pw_forms.specs.Forms as reads
use Rattle.pw_forms.specs.FileForms as reads_files
use Rattle.pw_tree_meaning.proofs.sides.Holding.{HoldsForm}
use Rattle.pw_compiler_laws.specs.Premises.{IsLiteral, AreLiterals, IsReadStatement}
use Rattle.pw_compiler_laws.proofs.numbers.Steps.{Any, Yields, yields-bind, yields-any, yields-pure, yields-fails, yields-if, yields-test, eats-gives, expects-gives, ends-gives, most-gives, some-gives, up-to-gives}
use Rattle.pw_compiler_laws.proofs.numbers.Operands.{operand-gives, name-gives, file-gives, program-gives, key-gives, code-gives, condition-gives}

abbrev pub AreIn : ConditionForm → Type 0
AreIn cond = Each (Each AreLiterals) cond.any

-- the number literals of a head
abbrev pub HeadIsRead : Head → Type 0
HeadIsRead (head.If line cond) = AreIn cond
HeadIsRead (head.OnSizeError line a) = IsLiteral a.first × IsLiteral a.second

-- the number literals of a form
abbrev pub IsOf : Form → Type 0
IsOf form = HoldsForm IsReadStatement HeadIsRead form

module _ (text : List ℕ) where
  abbrev Gives : Reader Form → Type 0
  Gives reader = Yields text IsOf reader

  -- one step of a form of which nothing is asked, and an operand, whose literal is asked
  behind : {A : Type 0} (m : Reader A) (k : A → Reader Form) → Yields text Any m → ((x : A) → Gives (k x)) → Gives (m >>= k)
  behind m k given h = yields-any text IsOf m k given h

  behind-word : {k : Unit {0} → Reader Form} (word : Word) → ((x : Unit {0}) → Gives (k x)) → Gives (expects word >>= k)
  behind-word {k = k} word h = behind (expects word) k (expects-gives text word) h

  behind-maybe : {k : Bool → Reader Form} (word : Word) → ((x : Bool) → Gives (k x)) → Gives (eats word >>= k)
  behind-maybe {k = k} word h = behind (eats word) k (eats-gives text word) h

  behind-end : {k : Unit {0} → Reader Form} → ((x : Unit {0}) → Gives (k x)) → Gives (ends >>= k)
  behind-end {k = k} h = behind ends k (ends-gives text) h

  behind-operand : {k : Operand → Reader Form} → ((x : Operand) → IsLiteral x → Gives (k x)) → Gives (operand >>= k)
  behind-operand {k = k} h = yields-bind text IsLiteral IsOf operand k (operand-gives text) h

  behind-condition : {k : ConditionForm → Reader Form} → ((x : ConditionForm) → AreIn x → Gives (k x)) → Gives (condition >>= k)
  behind-condition {k = k} h = yields-bind text AreIn IsOf condition k (condition-gives text) h

  -- what is read, of which nothing is asked
  forget : {A : Type 0} (P : A → Type 0) (m : Reader A) → Yields text P m → Yields text Any m
  forget P m h rest x after good e = let found = h rest x after good e in (tt, found.1)

  some-any : {A : Type 0} (one : Reader A) → Yields text Any one → Yields text Any (some one)
  some-any one h = forget (Each Any) (some one) (some-gives text Any one h)

  operand-any : Yields text Any operand
  operand-any = forget IsLiteral operand (operand-gives text)

  operands-any : Yields text Any (some operand)
  operands-any = some-any operand operand-any

  giving-any : Yields text Any reads.giving
  unfolding reads.giving
  giving-any = yields-any text Any (eats (codes "GIVING")) _ (eats-gives text (codes "GIVING")) (λ found. yields-if text Any found _ _
      (yields-any text Any operand _ operand-any (λ item. yields-pure text Any (Some item) tt)) (yields-pure text Any None tt))

  size-any : Yields text Any reads.on_size_error
  unfolding reads.on_size_error
  size-any = yields-any text Any (eats (codes "ON")) _ (eats-gives text (codes "ON")) (λ found. yields-if text Any found _ _
      (yields-any text Any (expects (codes "SIZE")) _ (expects-gives text (codes "SIZE")) (λ _. yields-any text Any (expects (codes "ERROR")) _ (expects-gives text (codes "ERROR")) (λ _. yields-pure text Any true tt)))
      (yields-pure text Any false tt))

  using-any : Yields text Any reads.using
  unfolding reads.using
  using-any = yields-any text Any (eats (codes "USING")) _ (eats-gives text (codes "USING")) (λ found. yields-if text Any found _ _ operands-any
      (yields-any text Any ends _ (ends-gives text) (λ _. yields-pure text Any [] tt)))

  clause-any : Yields text Any reads.code_clause
  unfolding reads.code_clause
  clause-any = yields-any text Any (expects (codes "CODE")) _ (expects-gives text (codes "CODE")) (λ _. yields-any text Any code _ (code-gives text) (λ number.
      yields-any text Any (expects (codes "YIELDS")) _ (expects-gives text (codes "YIELDS")) (λ _. yields-any text Any operand _ operand-any (λ one. yields-pure text Any (record { number = number; yields = one }) tt))))

  lock-any : Yields text Any reads_files.with_lock
  unfolding reads_files.with_lock
  lock-any = yields-any text Any (eats (codes "WITH")) _ (eats-gives text (codes "WITH")) (λ found. yields-if text Any found _ _
      (yields-any text Any (expects (codes "LOCK")) _ (expects-gives text (codes "LOCK")) (λ _. yields-pure text Any true tt)) (yields-pure text Any false tt))

  -- ---- forms of both sides

  module _ (line : ℕ) where
    whole : (one : Form) → IsOf one → Gives (pure one)
    whole one is = yields-pure text IsOf one is

    by : (opens : Bool) (found : ArithmeticForm) → IsLiteral found.first → IsLiteral found.second → IsOf (reads.arithmetic_by line opens found)
    by true found one two = (one, two)
    by false found one two = (one, two)

    exits : (program : Bool) → IsOf (forms.Whole (if program then statement.ExitProgram line else statement.Exit line))
    exits true = tt
    exits false = tt

    move : Gives (reads.move_form line)
    unfolding reads.move_form
    move = behind-operand (λ from is. behind-word (codes "TO") (λ _. behind (some operand) _ operands-any (λ to. whole (forms.Whole (statement.Move line from to)) is)))

    arithmetic : (op : Operation) (word : Word) → Gives (reads.arithmetic line op word)
    unfolding reads.arithmetic
    arithmetic op word = behind-operand (λ first one. behind-word word (λ _. behind-operand (λ second two. behind reads.giving _ giving-any (λ item. behind reads.on_size_error _ size-any (λ opens. behind-end (λ _.
        whole (reads.arithmetic_by line opens (record { operation = op; first = first; second = second; giving = item })) (by opens (record { operation = op; first = first; second = second; giving = item }) one two)))))))

    if_form : Gives (reads.if_form line)
    unfolding reads.if_form
    if_form = behind-condition (λ cond is. behind-maybe (codes "THEN") (λ _. behind-end (λ _. whole (forms.Opens (head.If line cond)) is)))

    perform_until : (paragraph : Word) → Gives (reads.perform_until line paragraph)
    unfolding reads.perform_until
    perform_until paragraph = behind-condition (λ cond is. behind-end (λ _. whole (forms.Whole (statement.PerformUntil line paragraph cond)) is))

    perform_times : (paragraph : Word) → Gives (reads.perform_times line paragraph)
    unfolding reads.perform_times
    perform_times paragraph = behind-operand (λ times is. behind-word (codes "TIMES") (λ _. behind-end (λ _. whole (forms.Whole (statement.PerformTimes line paragraph times)) is)))

    perform_one : Gives (reads.perform_one line)
    unfolding reads.perform_one
    perform_one = behind name _ (name-gives text) (λ paragraph. behind-maybe (codes "UNTIL") (λ until. yields-if text IsOf until _ _ (perform_until paragraph)
        (yields-test text IsOf is_done (pure (forms.Whole (statement.Perform line paragraph))) _ (whole (forms.Whole (statement.Perform line paragraph)) tt) (perform_times paragraph))))

    perform_one_of : Gives (reads.perform_one_of line)
    unfolding reads.perform_one_of
    perform_one_of = behind-word (codes "OF") (λ _. behind (up_to (codes "DEPENDING") name) _ (forget (Each Any) (up_to (codes "DEPENDING") name) (up-to-gives text Any (codes "DEPENDING") name (name-gives text)))
        (λ paragraphs. behind-word (codes "ON") (λ _. behind-operand (λ position _. behind-end (λ _. whole (forms.Whole (statement.PerformOneOf line paragraphs position)) tt)))))

    perform : Gives (reads.perform line)
    unfolding reads.perform
    perform = behind-maybe (codes "ONE") (λ several. yields-if text IsOf several _ _ perform_one_of perform_one)

    exit : Gives (reads.exit line)
    unfolding reads.exit
    exit = behind-maybe (codes "PROGRAM") (λ program. behind-end (λ _. whole (forms.Whole (if program then statement.ExitProgram line else statement.Exit line)) (exits program)))

    stop : Gives (reads.stop line)
    unfolding reads.stop
    stop = behind-word (codes "RUN") (λ _. behind-end (λ _. whole (forms.Whole (statement.StopRun line)) tt))

    -- ---- forms of requesters

    display_base : Gives (reads.display_base line)
    unfolding reads.display_base
    display_base = behind name _ (name-gives text) (λ screen. behind-end (λ _. whole (forms.Whole (statement.DisplayBase line screen)) tt))

    display_any : Gives (reads.display_any line)
    unfolding reads.display_any
    display_any = behind-operand (λ shown is. behind-end (λ _. whole (forms.Whole (statement.Display line shown)) is))

    display : Gives (reads.display line)
    unfolding reads.display
    display = behind-maybe (codes "BASE") (λ base. yields-if text IsOf base _ _ display_base display_any)

    accept : Gives (reads.accept line)
    unfolding reads.accept
    accept = behind name _ (name-gives text) (λ screen. behind-word (codes "UNTIL") (λ _. behind (some key) _ (some-any key (key-gives text)) (λ keys.
        behind (reads.at_most reads.most (length keys)) _ (most-gives text (length keys)) (λ _. whole (forms.Whole (statement.Accept line screen keys)) tt))))

    call : Gives (reads.call line)
    unfolding reads.call
    call = behind program_name _ (program-gives text) (λ program. behind reads.using _ using-any (λ arguments. whole (forms.Whole (statement.Call line program arguments)) tt))

    send : Gives (reads.send line)
    unfolding reads.send
    send = behind-operand (λ message _. behind-word (codes "TO") (λ _. behind program_name _ (program-gives text) (λ class. behind-word (codes "REPLY") (λ _.
        behind (some reads.code_clause) _ (some-any reads.code_clause clause-any) (λ clauses.
        behind (reads.at_most reads.most (length clauses)) _ (most-gives text (length clauses)) (λ _. whole (forms.Whole (statement.Send line message class clauses)) tt))))))

    transacts : (found : TransactionVerb) → IsOf (forms.Whole (reads.transaction found line))
    transacts transactions.Begin = tt
    transacts transactions.End = tt
    transacts transactions.Abort = tt
    transacts transactions.Restart = tt

    transaction : (found : TransactionVerb) → Gives (reads.transaction_form found line)
    unfolding reads.transaction_form
    transaction found = behind-end (λ _. whole (forms.Whole (reads.transaction found line)) (transacts found))

    terminal : (found : TerminalVerb) → Gives (reads.terminal_form found line)
    terminal terminals.Accept = accept
    terminal terminals.Call = call
    terminal terminals.Display = display
    terminal terminals.Send = send
    terminal (terminals.Transaction found) = transaction found

    -- ---- forms of servers

    receive : Gives (reads_files.receive line)
    unfolding reads_files.receive
    receive = behind-word (codes "INTO") (λ _. behind-operand (λ into _. behind-end (λ _. whole (forms.Whole (statement.Receive line into)) tt)))

    read_file : Gives (reads_files.read_file line)
    unfolding reads_files.read_file
    read_file = behind file_name _ (file-gives text) (λ file. behind reads_files.with_lock _ lock-any (λ locking. behind-word (codes "KEY") (λ _. behind-operand (λ key _. behind-word (codes "INTO") (λ _. behind-operand (λ into _.
        behind-end (λ _. whole (forms.Whole (statement.Read line file locking key into)) tt)))))))

    read_next : Gives (reads_files.read_next line)
    unfolding reads_files.read_next
    read_next = behind file_name _ (file-gives text) (λ file. behind reads_files.with_lock _ lock-any (λ locking. behind-word (codes "AFTER") (λ _. behind-operand (λ after _. behind-word (codes "INTO") (λ _. behind-operand (λ into _.
        behind-end (λ _. whole (forms.Whole (statement.ReadNext line file locking after into)) tt)))))))

    read : Gives (reads_files.read line)
    unfolding reads_files.read
    read = yields-test text IsOf reads_files.sees_next _ _ (behind-word (codes "NEXT") (λ _. read_next)) (behind-maybe (codes "$RECEIVE") (λ message. yields-if text IsOf message _ _ receive read_file))

    reply : Gives (reads_files.reply line)
    unfolding reads_files.reply
    reply = behind-word (codes "FROM") (λ _. behind-operand (λ from _. behind-end (λ _. whole (forms.Whole (statement.Reply line from)) tt)))

    write_file : Gives (reads_files.write_file line)
    unfolding reads_files.write_file
    write_file = behind file_name _ (file-gives text) (λ file. behind-word (codes "FROM") (λ _. behind-operand (λ from _. behind-end (λ _. whole (forms.Whole (statement.Write line file from)) tt))))

    write : Gives (reads_files.write line)
    unfolding reads_files.write
    write = behind-maybe (codes "$RECEIVE") (λ message. yields-if text IsOf message _ _ reply write_file)

    rewrite : Gives (reads_files.rewrite line)
    unfolding reads_files.rewrite
    rewrite = behind file_name _ (file-gives text) (λ file. behind-word (codes "FROM") (λ _. behind-operand (λ from _. behind-end (λ _. whole (forms.Whole (statement.Rewrite line file from)) tt))))

    delete : Gives (reads_files.delete line)
    unfolding reads_files.delete
    delete = behind file_name _ (file-gives text) (λ file. behind-word (codes "KEY") (λ _. behind-operand (λ key _. behind-end (λ _. whole (forms.Whole (statement.Delete line file key)) tt))))

    file-by : (found : FileVerb) → Gives (reads_files.file_form_by found line)
    file-by files.Delete = delete
    file-by files.Read = read
    file-by files.Rewrite = rewrite
    file-by files.Write = write

    file : (found : FileVerb) → Gives (reads_files.file_form found line)
    unfolding reads_files.file_form
    file found = yields-test text IsOf (λ (rest : Rest). rest.server) (reads_files.file_form_by found line) fails (file-by found) (yields-fails text IsOf)

    -- ---- all forms

    pub form-gives : (v : StatementVerb) → Yields text IsOf (reads.form v line)
    unfolding reads.form
    form-gives verb.Exit = exit
    form-gives verb.If = if_form
    form-gives verb.Move = move
    form-gives verb.Perform = perform
    form-gives verb.Stop = stop
    form-gives (verb.Arithmetic operation) = arithmetic operation (reads.between operation)
    form-gives (verb.File found) = file found
    form-gives (verb.Terminal found) = terminal found
