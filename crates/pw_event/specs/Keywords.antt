-- The words that stand in the lines themselves.
use Rattle.std.specs.Prelude.{ℕ, List, [], ◌∷◌, Option, None, Some, Result, Ok, Err, codes, find}
use Rattle.std.specs.Str.{bytes_eq}
use Rattle.pw_event.specs.declared.fault.EventFault.{EventFault}
use Rattle.pw_event.specs.declared.fault.EventFault.TheVariants.{Bad}
use Rattle.pw_event.specs.declared.keyword.Keyword.{Keyword}
use Rattle.pw_event.specs.declared.keyword.Keyword.TheVariants.{Show, Key, Check, Start, End, Copy, Applied, Begin, Send, Take, File, Read, Next, Write, Rewrite, Delete, Shared, Exclusive, Reply, Okay, Fault, Again, Commit, Back, Restart, Older, Takeover, Server, Redo, Fail, Tcp, Primary, Backup, Raise, Stopped, NoEntries, Suspended, Lost, After}

-- how a keyword is spelled
abbrev pub keyword_text : Keyword → List ℕ
keyword_text Show = codes "SHOW"
keyword_text Key = codes "KEY"
keyword_text Check = codes "CHECK"
keyword_text Start = codes "START"
keyword_text End = codes "END"
keyword_text Copy = codes "COPY"
keyword_text Applied = codes "APPLIED"
keyword_text Begin = codes "BEGIN"
keyword_text Send = codes "SEND"
keyword_text Take = codes "TAKE"
keyword_text File = codes "FILE"
keyword_text Read = codes "READ"
keyword_text Next = codes "NEXT"
keyword_text Write = codes "WRITE"
keyword_text Rewrite = codes "REWRITE"
keyword_text Delete = codes "DELETE"
keyword_text Shared = codes "S"
keyword_text Exclusive = codes "X"
keyword_text Reply = codes "REPLY"
keyword_text Okay = codes "OK"
keyword_text Fault = codes "FAULT"
keyword_text Again = codes "AGAIN"
keyword_text Commit = codes "COMMIT"
keyword_text Back = codes "BACK"
keyword_text Restart = codes "RESTART"
keyword_text Older = codes "OLDER"
keyword_text Takeover = codes "TAKEOVER"
keyword_text Server = codes "SERVER"
keyword_text Redo = codes "REDO"
keyword_text Fail = codes "FAIL"
keyword_text Tcp = codes "TCP"
keyword_text Primary = codes "PRIMARY"
keyword_text Backup = codes "BACKUP"
keyword_text Raise = codes "RAISE"
keyword_text Stopped = codes "STOPPED"
keyword_text NoEntries = codes "NOENTRIES"
keyword_text Suspended = codes "SUSPENDED"
keyword_text Lost = codes "LOST"
keyword_text After = codes "AFTER"

-- all keywords
abbrev pub keywords : List Keyword
keywords =
    Show ∷ Key ∷ Check ∷ Start ∷ End ∷ Copy ∷ Applied ∷ Begin ∷ Send ∷ Take ∷ File ∷ Read ∷
    Next ∷ Write ∷ Rewrite ∷ Delete ∷ Shared ∷ Exclusive ∷ Reply ∷ Okay ∷ Fault ∷ Again ∷
    Commit ∷ Back ∷ Restart ∷ Older ∷ Takeover ∷ Server ∷ Redo ∷ Fail ∷ Tcp ∷ Primary ∷ Backup
    ∷ Raise ∷ Stopped ∷ NoEntries ∷ Suspended ∷ Lost ∷ After ∷ []

-- what is there; Bad where there is nothing
abbrev pub or_bad : {A : Type 0} → Option A → Result A EventFault
or_bad None = Err Bad
or_bad (Some value) = Ok value

-- the keyword that a word is; Bad where it is none
unfoldable pub keyword : List ℕ → Result Keyword EventFault
keyword word = or_bad (find (λ keyword. bytes_eq (keyword_text keyword) word) keywords)
