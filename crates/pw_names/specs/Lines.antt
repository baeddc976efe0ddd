-- The lines of statements.
use Rattle.std.specs.Prelude.{ℕ}
use Rattle.pw_forms.specs.declared.statement.Statement.{Statement}
use Rattle.pw_forms.specs.declared.statement.Statement as form

-- the line of a statement's first word
abbrev pub line_of : Statement → ℕ
line_of (form.Move line from to) = line
line_of (form.Arithmetic line arithmetic) = line
line_of (form.OnSizeError' line arithmetic n first m second) = line
line_of (form.If' line cond n first m second) = line
line_of (form.Perform line paragraph) = line
line_of (form.PerformTimes line paragraph times) = line
line_of (form.PerformUntil line paragraph cond) = line
line_of (form.PerformOneOf line paragraphs position) = line
line_of (form.Exit line) = line
line_of (form.ExitProgram line) = line
line_of (form.StopRun line) = line
line_of (form.DisplayBase line screen) = line
line_of (form.Display line shown) = line
line_of (form.Accept line screen keys) = line
line_of (form.Call line program arguments) = line
line_of (form.Send line message class codes) = line
line_of (form.Begin line) = line
line_of (form.End line) = line
line_of (form.Abort line) = line
line_of (form.Restart line) = line
line_of (form.Receive line into) = line
line_of (form.Reply line from) = line
line_of (form.Read line file locking key into) = line
line_of (form.ReadNext line file locking after into) = line
line_of (form.Write line file from) = line
line_of (form.Rewrite line file from) = line
line_of (form.Delete line file key) = line
