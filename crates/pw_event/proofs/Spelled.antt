-- What a kind of line is read as is what the line spells.
use Rattle.std.proofs.Common.{◌≡◌, ℕ, ◌<◌, ◌^◌, List, [], ◌∷◌, map, Bool, true, Option, Result, Ok, refl}
use Rattle.std.specs.Prelude.{codes}
use Rattle.std.specs.Fmt.{decimal}
use Rattle.std.specs.List.{AllByRecursion}
use Rattle.pw_code.specs.declared.file.FileOp.{FileOp}
use Rattle.pw_code.specs.declared.lock.LockMode.{LockMode}
use Rattle.pw_code.specs.declared.lock.LockMode.TheVariants.{Exclusive}
use Rattle.pw_code.specs.declared.lock.LockRule.{LockRule}
use Rattle.pw_code.specs.declared.lock.LockRule.TheVariants.{ReadersShare, AllExclusive}
use Rattle.pw_code.specs.declared.system.TermInfo.{TermInfo}
use Rattle.pw_code.specs.declared.system.System.{System}
use Rattle.pw_event.specs.declared.event.Event.{Event}
use Rattle.pw_event.specs.declared.event.Event.TheVariants.{Show, Key, CheckStart, CheckEnd, CheckCopy, Applied, Begin, Send, Take, File, Reply, Again, Commit, Back, FailTcp, FailServer, Takeover, Raise}
use Rattle.pw_event.specs.declared.fault.EventFault.{EventFault}
use Rattle.pw_event.specs.declared.keyword.Keyword.{Keyword}
use Rattle.pw_event.specs.declared.keyword.Keyword.TheVariants as plain
use Rattle.pw_event.specs.Keywords.{keyword_text, keyword}
use Rattle.pw_event.specs.Line.{NamesByNumber as NamesBy, no_terminal, names_of, spelling, event_words, reply_words, HasLine, IsInRange, IsWordOfSystem}
use Rattle.pw_event.specs.Reading.{AreFormed}
use Rattle.pw_code.specs.Names.{may_name}
use Rattle.pw_event.specs.Parsing.{◌>>=◌, named, number, positive_count_read, refresh, terminal, pair, class, file, process, op, mode, member, fault_of, show, terminal_and_number, check_of, check, applied, begin, send, take_line_event, file_at, file_line, reply, fail_tcp, fail_server, failure_of, fail, takeover, raise}
use Rattle.pw_event.proofs.Numbers.{counted_out}
use Rattle.pw_event.proofs.Sound.{Names, IsProcess, keyword_out, named_out, small_out, code_out, refresh_out, terminal_out, pair_out, class_out, file_out, process_out, op_out, mode_out, member_out}
use Rattle.pw_event.proofs.Steps.{Outcome, and_then, weaker}

-- the words are those of some entry under some names
pub record InWords (rule : LockRule) (words : List (List ℕ)) : Type 0 where
  pub names : NamesBy
  pub event : Event
  pub formed : AreFormed names
  pub told : HasLine rule event
  pub numbers : AllByRecursion IsInRange (event_words rule event)
  pub spelled : words ≡ map (spelling names) (event_words rule event)

-- the words are those of this entry of the system
pub record OfWords (system : System) (words : List (List ℕ)) (event : Event) : Type 0 where
  pub told : HasLine system.rule event
  pub there : AllByRecursion (IsWordOfSystem system) (event_words system.rule event)
  pub numbers : AllByRecursion IsInRange (event_words system.rule event)
  pub spelled : words ≡ map (spelling (names_of system)) (event_words system.rule event)

-- words are read as what they spell
abbrev pub Spells : System → List (List ℕ) → Result Event EventFault → Type 0
Spells system words result = Outcome (OfWords system words) (InWords system.rule words) result

-- names for a line that has at most one of each kind
abbrev pub single : List ℕ → List ℕ → List ℕ → List ℕ → NamesBy
single t p c f = record { terminal = λ n. t; pair = λ n. p; class = λ n. c; file = λ n. f }

-- a name
abbrev pub some : List ℕ
some = codes "A"

pub single_formed : (t p c f : List ℕ) → may_name t ≡ true → may_name p ≡ true → may_name c ≡ true → may_name f ≡ true → AreFormed (single t p c f)
single_formed t p c f t_is p_is c_is f_is = record { terminal = λ n. t_is; pair = λ n. p_is; class = λ n. c_is; file = λ n. f_is }

pub in_words : (rule : LockRule) (words : List (List ℕ)) (names : NamesBy) (event : Event) → AreFormed names → HasLine rule event → AllByRecursion IsInRange (event_words rule event)
    → words ≡ map (spelling names) (event_words rule event) → InWords rule words
in_words rule words names event formed told numbers spelled = record { names = names; event = event; formed = formed; told = told; numbers = numbers; spelled = spelled }

pub of_words : (system : System) (words : List (List ℕ)) (event : Event) → HasLine system.rule event → AllByRecursion (IsWordOfSystem system) (event_words system.rule event)
    → AllByRecursion IsInRange (event_words system.rule event) → words ≡ map (spelling (names_of system)) (event_words system.rule event) → OfWords system words event
of_words system words event told there numbers spelled = record { told = told; there = there; numbers = numbers; spelled = spelled }

-- SHOW t p.a.k
pub show_spells : (system : System) (words : List (List ℕ)) → Spells system (codes "SHOW" ∷ words) (show system words)
unfolding show
show_spells system (t ∷ r ∷ []) =
    let words = codes "SHOW" ∷ t ∷ r ∷ [] in
    let U : Type 0 = InWords system.rule words in
    and_then _ _ U (refresh r) _ (refresh_out r U) (λ (n : ℕ × ℕ × ℕ) number.
    and_then _ _ U (terminal system t) _ (terminal_out system t U (λ formed. in_words system.rule words (single t some some some) (Show 0 n.0 n.1 n.2) (single_formed t some some some formed refl refl refl) tt (tt, (tt, (number.1, tt))) cc)) (λ i name.
    of_words system words (Show i n.0 n.1 n.2) tt (tt, (name.1, (tt, tt))) (tt, (tt, (number.1, tt))) cc))
show_spells system _ = tt

terminal_and_number_out : (system : System) (t n : List ℕ) (U : Type 0) → (may_name t ≡ true → (k : ℕ) → n ≡ decimal k → k < 2 ^ 32 → U)
    → Outcome (λ (r : ℕ × ℕ). Names (λ (row : TermInfo). row.name) system.terminals no_terminal t r.0 × (n ≡ decimal r.1) × (r.1 < 2 ^ 32)) U (terminal_and_number system (t ∷ n ∷ []))
unfolding terminal_and_number
terminal_and_number_out system t n U unknown =
    and_then _ _ U (number 4294967295 n) _ (small_out n U) (λ k number.
    and_then _ _ U (terminal system t) _ (terminal_out system t U (λ formed. unknown formed k number.0 number.1)) (λ i name. (name, number.0, number.1)))

-- KEY t k
pub key_spells : (system : System) (words : List (List ℕ)) → Spells system (codes "KEY" ∷ words) (terminal_and_number system words >>= λ r. Ok (Key r.0 r.1))
unfolding terminal_and_number
key_spells system (t ∷ n ∷ []) =
    let words = codes "KEY" ∷ t ∷ n ∷ [] in
    let U : Type 0 = InWords system.rule words in
    and_then _ _ U (terminal_and_number system (t ∷ n ∷ [])) _ (terminal_and_number_out system t n U (λ formed k at fits. in_words system.rule words (single t some some some) (Key 0 k) (single_formed t some some some formed refl refl refl) tt (tt, (tt, (fits, tt))) cc)) (λ (r : ℕ × ℕ) is.
    of_words system words (Key r.0 r.1) tt (tt, (is.0.1, (tt, tt))) (tt, (tt, (is.2, tt))) cc)
key_spells system _ = tt

-- AGAIN t n
pub again_spells : (system : System) (words : List (List ℕ)) → Spells system (codes "AGAIN" ∷ words) (terminal_and_number system words >>= λ r. Ok (Again r.0 r.1))
unfolding terminal_and_number
again_spells system (t ∷ n ∷ []) =
    let words = codes "AGAIN" ∷ t ∷ n ∷ [] in
    let U : Type 0 = InWords system.rule words in
    and_then _ _ U (terminal_and_number system (t ∷ n ∷ [])) _ (terminal_and_number_out system t n U (λ formed k at fits. in_words system.rule words (single t some some some) (Again 0 k) (single_formed t some some some formed refl refl refl) tt (tt, (tt, (fits, tt))) cc)) (λ (r : ℕ × ℕ) is.
    of_words system words (Again r.0 r.1) tt (tt, (is.0.1, (tt, tt))) (tt, (tt, (is.2, tt))) cc)
again_spells system _ = tt

-- COMMIT t n
pub commit_spells : (system : System) (words : List (List ℕ)) → Spells system (codes "COMMIT" ∷ words) (terminal_and_number system words >>= λ r. Ok (Commit r.0 r.1))
unfolding terminal_and_number
commit_spells system (t ∷ n ∷ []) =
    let words = codes "COMMIT" ∷ t ∷ n ∷ [] in
    let U : Type 0 = InWords system.rule words in
    and_then _ _ U (terminal_and_number system (t ∷ n ∷ [])) _ (terminal_and_number_out system t n U (λ formed k at fits. in_words system.rule words (single t some some some) (Commit 0 k) (single_formed t some some some formed refl refl refl) tt (tt, (tt, (fits, tt))) cc)) (λ (r : ℕ × ℕ) is.
    of_words system words (Commit r.0 r.1) tt (tt, (is.0.1, (tt, tt))) (tt, (tt, (is.2, tt))) cc)
commit_spells system _ = tt

-- BACK t n
pub back_spells : (system : System) (words : List (List ℕ)) → Spells system (codes "BACK" ∷ words) (terminal_and_number system words >>= λ r. Ok (Back r.0 r.1))
unfolding terminal_and_number
back_spells system (t ∷ n ∷ []) =
    let words = codes "BACK" ∷ t ∷ n ∷ [] in
    let U : Type 0 = InWords system.rule words in
    and_then _ _ U (terminal_and_number system (t ∷ n ∷ [])) _ (terminal_and_number_out system t n U (λ formed k at fits. in_words system.rule words (single t some some some) (Back 0 k) (single_formed t some some some formed refl refl refl) tt (tt, (tt, (fits, tt))) cc)) (λ (r : ℕ × ℕ) is.
    of_words system words (Back r.0 r.1) tt (tt, (is.0.1, (tt, tt))) (tt, (tt, (is.2, tt))) cc)
back_spells system _ = tt

check_by : (system : System) (t word : List ℕ) (k : Keyword) → word ≡ keyword_text k → Spells system (codes "CHECK" ∷ t ∷ word ∷ []) (check_of system t k)
check_by system t word plain.Start is =
    let words = codes "CHECK" ∷ t ∷ word ∷ [] in
    let U : Type 0 = InWords system.rule words in
    and_then _ _ U (terminal system t) _ (terminal_out system t U (λ formed. in_words system.rule words (single t some some some) (CheckStart 0) (single_formed t some some some formed refl refl refl) tt (tt, (tt, (tt, tt))) cc)) (λ i name. of_words system words (CheckStart i) tt (tt, (name.1, (tt, tt))) (tt, (tt, (tt, tt))) cc)
check_by system t word plain.End is =
    let words = codes "CHECK" ∷ t ∷ word ∷ [] in
    let U : Type 0 = InWords system.rule words in
    and_then _ _ U (terminal system t) _ (terminal_out system t U (λ formed. in_words system.rule words (single t some some some) (CheckEnd 0) (single_formed t some some some formed refl refl refl) tt (tt, (tt, (tt, tt))) cc)) (λ i name. of_words system words (CheckEnd i) tt (tt, (name.1, (tt, tt))) (tt, (tt, (tt, tt))) cc)
check_by system t word plain.Copy is =
    let words = codes "CHECK" ∷ t ∷ word ∷ [] in
    let U : Type 0 = InWords system.rule words in
    and_then _ _ U (terminal system t) _ (terminal_out system t U (λ formed. in_words system.rule words (single t some some some) (CheckCopy 0) (single_formed t some some some formed refl refl refl) tt (tt, (tt, (tt, tt))) cc)) (λ i name. of_words system words (CheckCopy i) tt (tt, (name.1, (tt, tt))) (tt, (tt, (tt, tt))) cc)
check_by system t word _ is = tt

-- CHECK t START, END or COPY
pub check_spells : (system : System) (words : List (List ℕ)) → Spells system (codes "CHECK" ∷ words) (check system words)
unfolding check
check_spells system (t ∷ word ∷ []) =
    let U : Type 0 = InWords system.rule (codes "CHECK" ∷ t ∷ word ∷ []) in
    and_then _ _ U (keyword word) _ (keyword_out word U) (check_by system t word)
check_spells system _ = tt

-- APPLIED t
pub applied_spells : (system : System) (words : List (List ℕ)) → Spells system (codes "APPLIED" ∷ words) (applied system words)
unfolding applied
applied_spells system (t ∷ []) =
    let words = codes "APPLIED" ∷ t ∷ [] in
    let U : Type 0 = InWords system.rule words in
    and_then _ _ U (terminal system t) _ (terminal_out system t U (λ formed. in_words system.rule words (single t some some some) (Applied 0) (single_formed t some some some formed refl refl refl) tt (tt, (tt, tt)) cc)) (λ i name.
    of_words system words (Applied i) tt (tt, (name.1, tt)) (tt, (tt, tt)) cc)
applied_spells system _ = tt

-- BEGIN t n r
pub begin_spells : (system : System) (words : List (List ℕ)) → Spells system (codes "BEGIN" ∷ words) (begin system words)
unfolding begin
begin_spells system (t ∷ n ∷ r ∷ []) =
    let words = codes "BEGIN" ∷ t ∷ n ∷ r ∷ [] in
    let U : Type 0 = InWords system.rule words in
    and_then _ _ U (number 4294967295 n) _ (small_out n U) (λ a first.
    and_then _ _ U (number 4294967295 r) _ (small_out r U) (λ b second.
    and_then _ _ U (terminal system t) _ (terminal_out system t U (λ formed. in_words system.rule words (single t some some some) (Begin 0 a b) (single_formed t some some some formed refl refl refl) tt (tt, (tt, (first.1, (second.1, tt)))) cc)) (λ i name.
    of_words system words (Begin i a b) tt (tt, (name.1, (tt, (tt, tt)))) (tt, (tt, (first.1, (second.1, tt)))) cc)))
begin_spells system _ = tt

-- SEND t n c
pub send_spells : (system : System) (words : List (List ℕ)) → Spells system (codes "SEND" ∷ words) (send system words)
unfolding send
send_spells system (t ∷ n ∷ c ∷ []) =
    let words = codes "SEND" ∷ t ∷ n ∷ c ∷ [] in
    let U : Type 0 = InWords system.rule words in
    and_then _ _ U (named c) _ (named_out c U) (λ done c_formed.
    and_then _ _ U (number 4294967295 n) _ (small_out n U) (λ a number.
    and_then _ _ U (terminal system t) _ (terminal_out system t U (λ formed. in_words system.rule words (single t some c some) (Send 0 a 0) (single_formed t some c some formed refl c_formed refl) tt (tt, (tt, (number.1, (tt, tt)))) cc)) (λ i name.
    and_then _ _ U (class system c) _ (class_out system c U (λ formed. in_words system.rule words (single t some c some) (Send 0 a 0) (single_formed t some c some name.0 refl formed refl) tt (tt, (tt, (number.1, (tt, tt)))) cc)) (λ j class.
    of_words system words (Send i a j) tt (tt, (name.1, (tt, (class.1, tt)))) (tt, (tt, (number.1, (tt, tt)))) cc))))
send_spells system _ = tt

-- TAKE c i t
pub take_spells : (system : System) (words : List (List ℕ)) → Spells system (codes "TAKE" ∷ words) (take_line_event system words)
unfolding take_line_event
take_spells system (c ∷ i ∷ t ∷ []) =
    let words = codes "TAKE" ∷ c ∷ i ∷ t ∷ [] in
    let U : Type 0 = InWords system.rule words in
    and_then _ _ U (named t) _ (named_out t U) (λ done t_formed.
    and_then _ _ U (process system c i) _ (process_out system c i U (λ formed q at fits. in_words system.rule words (single t some c some) (Take 0 q 0) (single_formed t some c some t_formed refl formed refl) tt (tt, (tt, (fits, (tt, tt)))) cc)) (λ (p : ℕ × ℕ) (by : IsProcess system c i p).
    and_then _ _ U (terminal system t) _ (terminal_out system t U (λ formed. in_words system.rule words (single t some c some) (Take 0 p.1 0) (single_formed t some c some formed refl by.class.0 refl) tt (tt, (tt, (by.fits, (tt, tt)))) cc)) (λ j name.
    of_words system words (Take p.0 p.1 j) tt (tt, (by.class.1, (by.there, (name.1, tt)))) (tt, (tt, (by.fits, (tt, tt)))) cc)))
take_spells system _ = tt

-- the words are those of this entry of the system under a rule
abbrev pub OfRule : System → LockRule → List (List ℕ) → Event → Type 0
OfRule system rule words event =
    HasLine rule event × AllByRecursion (IsWordOfSystem system) (event_words rule event) × AllByRecursion IsInRange (event_words rule event) × (words ≡ map (spelling (names_of system)) (event_words rule event))

-- FILE c i op m f s
file_of_rule : (system : System) (rule : LockRule) (words : List (List ℕ)) → Outcome (OfRule system rule (codes "FILE" ∷ words)) (InWords rule (codes "FILE" ∷ words)) (file_line system rule words)
unfolding file_line file_at
file_of_rule system ReadersShare (c ∷ i ∷ o ∷ m ∷ f ∷ s ∷ []) =
    let words = codes "FILE" ∷ c ∷ i ∷ o ∷ m ∷ f ∷ s ∷ [] in
    let U : Type 0 = InWords ReadersShare words in
    and_then _ _ U (mode m) _ (mode_out m U) (λ (d : LockMode) told.
    and_then _ _ U (op o) _ (op_out o U) (λ (a : FileOp) plain.
    and_then _ _ U (named f) _ (named_out f U) (λ done f_formed.
    and_then _ _ U (number 65535 s) _ (code_out s U) (λ x status.
    and_then _ _ U (process system c i) _ (process_out system c i U (λ formed q at fits. in_words ReadersShare words (single some some c f) (File 0 q a d 0 x) (single_formed some some c f refl refl formed f_formed) (plain.0, tt) (tt, (tt, (fits, (tt, (tt, (tt, (status.1, tt))))))) cc)) (λ (p : ℕ × ℕ) (by : IsProcess system c i p).
    and_then _ _ U (file system f) _ (file_out system f U (λ formed. in_words ReadersShare words (single some some c f) (File 0 p.1 a d 0 x) (single_formed some some c f refl refl by.class.0 formed) (plain.0, tt) (tt, (tt, (by.fits, (tt, (tt, (tt, (status.1, tt))))))) cc)) (λ j name.
    ((plain.0, tt), (tt, (by.class.1, (by.there, (tt, (tt, (name.1, (tt, tt))))))), (tt, (tt, (by.fits, (tt, (tt, (tt, (status.1, tt))))))), cc)))))))
file_of_rule system AllExclusive (c ∷ i ∷ o ∷ f ∷ s ∷ []) =
    let words = codes "FILE" ∷ c ∷ i ∷ o ∷ f ∷ s ∷ [] in
    let U : Type 0 = InWords AllExclusive words in
    and_then _ _ U (op o) _ (op_out o U) (λ (a : FileOp) plain.
    and_then _ _ U (named f) _ (named_out f U) (λ done f_formed.
    and_then _ _ U (number 65535 s) _ (code_out s U) (λ x status.
    and_then _ _ U (process system c i) _ (process_out system c i U (λ formed q at fits. in_words AllExclusive words (single some some c f) (File 0 q a Exclusive 0 x) (single_formed some some c f refl refl formed f_formed) (plain.0, refl) (tt, (tt, (fits, (tt, (tt, (status.1, tt)))))) cc)) (λ (p : ℕ × ℕ) (by : IsProcess system c i p).
    and_then _ _ U (file system f) _ (file_out system f U (λ formed. in_words AllExclusive words (single some some c f) (File 0 p.1 a Exclusive 0 x) (single_formed some some c f refl refl by.class.0 formed) (plain.0, refl) (tt, (tt, (by.fits, (tt, (tt, (status.1, tt)))))) cc)) (λ j name.
    ((plain.0, refl), (tt, (by.class.1, (by.there, (tt, (name.1, (tt, tt)))))), (tt, (tt, (by.fits, (tt, (tt, (status.1, tt)))))), cc))))))
file_of_rule system rule _ = tt

-- FILE c i op m f s, without m under AllExclusive
pub file_spells : (system : System) (words : List (List ℕ)) → Spells system (codes "FILE" ∷ words) (file_line system system.rule words)
file_spells system words =
    weaker (OfRule system system.rule (codes "FILE" ∷ words)) (OfWords system (codes "FILE" ∷ words)) (InWords system.rule (codes "FILE" ∷ words)) (file_line system system.rule words)
    (λ event of. record { told = of.0; there = of.1; numbers = of.2; spelled = of.3 }) (file_of_rule system system.rule words)

-- how a process answered
pub record IsReply (words : List (List ℕ)) (fault : Option ℕ) : Type 0 where
  pub numbers : AllByRecursion IsInRange (reply_words fault)
  pub there : (system : System) → AllByRecursion (IsWordOfSystem system) (reply_words fault)
  pub spelled : (names : NamesBy) → words ≡ map (spelling names) (reply_words fault)

fault_out : (word : List ℕ) (U : Type 0) (k : Keyword) → word ≡ keyword_text k → (words : List (List ℕ)) → Outcome (IsReply (word ∷ words)) U (fault_of k words)
unfolding fault_of
fault_out word U plain.Okay is [] = record { numbers = (tt, tt); there = λ system. (tt, tt); spelled = λ names. cc }
fault_out word U plain.Fault is (x ∷ []) =
    and_then _ _ U (number 65535 x) _ (code_out x U) (λ n fault. record { numbers = (tt, (fault.1, tt)); there = λ system. (tt, (tt, tt)); spelled = λ names. cc })
fault_out word U _ is _ = tt

-- REPLY c i t OK, or REPLY c i t FAULT x
pub reply_spells : (system : System) (words : List (List ℕ)) → Spells system (codes "REPLY" ∷ words) (reply system words)
unfolding reply
reply_spells system (c ∷ i ∷ t ∷ word ∷ rest) =
    let words = codes "REPLY" ∷ c ∷ i ∷ t ∷ word ∷ rest in
    let U : Type 0 = InWords system.rule words in
    and_then _ _ U (keyword word) _ (keyword_out word U) (λ k is.
    and_then _ _ U (fault_of k rest) _ (fault_out word U k is rest) (λ (x : Option ℕ) (said : IsReply (word ∷ rest) x).
    and_then _ _ U (named t) _ (named_out t U) (λ done t_formed.
    and_then _ _ U (process system c i) _ (process_out system c i U (λ formed q at fits. let same = said.spelled (single t some c some) in in_words system.rule words (single t some c some) (Reply 0 q 0 x) (single_formed t some c some t_formed refl formed refl) tt (tt, (tt, (fits, (tt, said.numbers)))) cc)) (λ (p : ℕ × ℕ) (by : IsProcess system c i p).
    and_then _ _ U (terminal system t) _ (terminal_out system t U (λ formed. let same = said.spelled (single t some c some) in in_words system.rule words (single t some c some) (Reply 0 p.1 0 x) (single_formed t some c some formed refl by.class.0 refl) tt (tt, (tt, (by.fits, (tt, said.numbers)))) cc)) (λ j name.
    let same = said.spelled (names_of system) in of_words system words (Reply p.0 p.1 j x) tt (tt, (by.class.1, (by.there, (name.1, said.there system)))) (tt, (tt, (by.fits, (tt, said.numbers)))) cc)))))
reply_spells system _ = tt

-- FAIL TCP p PRIMARY k or FAIL TCP p BACKUP k
fail_tcp_spells : (system : System) (words : List (List ℕ)) → Spells system (codes "FAIL" ∷ codes "TCP" ∷ words) (fail_tcp system words)
unfolding fail_tcp
fail_tcp_spells system (p ∷ m ∷ k ∷ []) =
    let words = codes "FAIL" ∷ codes "TCP" ∷ p ∷ m ∷ k ∷ [] in
    let U : Type 0 = InWords system.rule words in
    and_then _ _ U (member m) _ (member_out m U) (λ (b : Bool) told.
    and_then _ _ U (positive_count_read k) _ (counted_out k U) (λ n line.
    and_then _ _ U (pair system p) _ (pair_out system p U (λ formed. in_words system.rule words (single some p some some) (FailTcp 0 b n) (single_formed some p some some refl formed refl refl) tt (tt, (tt, (tt, (tt, (line.1, tt))))) cc)) (λ i name.
    of_words system words (FailTcp i b n) tt (tt, (tt, (name.1, (tt, (tt, tt))))) (tt, (tt, (tt, (tt, (line.1, tt))))) cc)))
fail_tcp_spells system _ = tt

-- FAIL SERVER c i k
fail_server_spells : (system : System) (words : List (List ℕ)) → Spells system (codes "FAIL" ∷ codes "SERVER" ∷ words) (fail_server system words)
unfolding fail_server
fail_server_spells system (c ∷ i ∷ k ∷ []) =
    let words = codes "FAIL" ∷ codes "SERVER" ∷ c ∷ i ∷ k ∷ [] in
    let U : Type 0 = InWords system.rule words in
    and_then _ _ U (positive_count_read k) _ (counted_out k U) (λ n line.
    and_then _ _ U (process system c i) _ (process_out system c i U (λ formed q at fits. in_words system.rule words (single some some c some) (FailServer 0 q n) (single_formed some some c some refl refl formed refl) tt (tt, (tt, (tt, (fits, (line.1, tt))))) cc)) (λ (p : ℕ × ℕ) (by : IsProcess system c i p).
    of_words system words (FailServer p.0 p.1 n) tt (tt, (tt, (by.class.1, (by.there, (tt, tt))))) (tt, (tt, (tt, (by.fits, (line.1, tt))))) cc))
fail_server_spells system _ = tt

failure_by : (system : System) (word : List ℕ) (rest : List (List ℕ)) (k : Keyword) → word ≡ keyword_text k → Spells system (codes "FAIL" ∷ word ∷ rest) (failure_of system k rest)
unfolding failure_of
failure_by system word rest plain.Tcp is = rw is (fail_tcp_spells system rest)
failure_by system word rest plain.Server is = rw is (fail_server_spells system rest)
failure_by system word rest _ is = tt

-- FAIL TCP or FAIL SERVER
pub fail_spells : (system : System) (words : List (List ℕ)) → Spells system (codes "FAIL" ∷ words) (fail system words)
unfolding fail
fail_spells system [] = tt
fail_spells system (word ∷ rest) =
    let U : Type 0 = InWords system.rule (codes "FAIL" ∷ word ∷ rest) in
    and_then _ _ U (keyword word) _ (keyword_out word U) (failure_by system word rest)

-- TAKEOVER p
pub takeover_spells : (system : System) (words : List (List ℕ)) → Spells system (codes "TAKEOVER" ∷ words) (takeover system words)
unfolding takeover
takeover_spells system (p ∷ []) =
    let words = codes "TAKEOVER" ∷ p ∷ [] in
    let U : Type 0 = InWords system.rule words in
    and_then _ _ U (pair system p) _ (pair_out system p U (λ formed. in_words system.rule words (single some p some some) (Takeover 0) (single_formed some p some some refl formed refl refl) tt (tt, (tt, tt)) cc)) (λ i name.
    of_words system words (Takeover i) tt (tt, (name.1, tt)) (tt, (tt, tt)) cc)
takeover_spells system _ = tt

-- RAISE p
pub raise_spells : (system : System) (words : List (List ℕ)) → Spells system (codes "RAISE" ∷ words) (raise system words)
unfolding raise
raise_spells system (p ∷ []) =
    let words = codes "RAISE" ∷ p ∷ [] in
    let U : Type 0 = InWords system.rule words in
    and_then _ _ U (pair system p) _ (pair_out system p U (λ formed. in_words system.rule words (single some p some some) (Raise 0) (single_formed some p some some refl formed refl refl) tt (tt, (tt, tt)) cc)) (λ i name.
    of_words system words (Raise i) tt (tt, (name.1, tt)) (tt, (tt, tt)) cc)
raise_spells system _ = tt
