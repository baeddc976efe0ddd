-- How operations lock.
use Rattle.pw_code.specs.declared.file.FileOp.{FileOp}
use Rattle.pw_code.specs.declared.file.FileOp.TheVariants.{Read, Next, Write, Rewrite, Delete, ReadLock, NextLock}
use Rattle.pw_code.specs.declared.lock.LockMode.{LockMode}
use Rattle.pw_code.specs.declared.lock.LockMode.TheVariants.{Shared, Exclusive}
use Rattle.pw_code.specs.declared.lock.LockRule.{LockRule}
use Rattle.pw_code.specs.declared.lock.LockRule.TheVariants.{ReadersShare, AllExclusive}

-- plain reads share, all else is exclusive
abbrev pub sharing_mode : FileOp → LockMode
sharing_mode Read = Shared
sharing_mode Next = Shared
sharing_mode Write = Exclusive
sharing_mode Rewrite = Exclusive
sharing_mode Delete = Exclusive
sharing_mode ReadLock = Exclusive
sharing_mode NextLock = Exclusive

-- the mode in which an operation locks under a rule
abbrev pub mode_of : LockRule → FileOp → LockMode
mode_of ReadersShare op = sharing_mode op
mode_of AllExclusive op = Exclusive
