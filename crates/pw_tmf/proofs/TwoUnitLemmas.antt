-- Two units that begin and do operations.
use Rattle.std.proofs.Common.{◌≡◌, ◌≢◌, ℕ, ◌<◌, ◌∙◌, ⊎_elim, refl, sym, ap, subst, Bool, true, false, cond, ◌==◌, List, [], ◌∷◌, length, Option, Some, None, arith}
use Rattle.std.specs.Prelude.{All, slice_get}
use Rattle.std.specs.Option.{option_map}
use Rattle.std.proofs.lemmas.List.Elements.{All-cons, All-nil}
use Rattle.std.proofs.lemmas.Bool.{cases_Bool, cases_eq, eqb-true, eqb-false}
use Rattle.pw_code.specs.declared.file.FileCall.{FileCall}
use Rattle.pw_code.specs.declared.file.FileInfo.{FileInfo}
use Rattle.pw_code.specs.declared.system.System.{System}
use Rattle.pw_code.specs.declared.unit.Unit as unit
use Rattle.pw_files.specs.Records.{IsContent}
use Rattle.pw_onecopy.specs.Update.{upd}
use Rattle.pw_onecopy.proofs.Update.{upd_elim, upd-other, upd-same}
use Rattle.pw_paired.specs.Units.{image_before, is_first_change}
use Rattle.pw_tmf.specs.Answers.{Operates}
use Rattle.pw_tmf.specs.declared.answer.FileAnswer.{FileAnswer}
use Rattle.pw_tmf.specs.declared.answer.FileAnswer.TheVariants as answer
use Rattle.pw_tmf.specs.Operation.{IsCall, after_operation, with_image}
use Rattle.pw_tmf.specs.Told.{Told, ToldUnit}
use Rattle.pw_tmf.specs.TwoUnits.{AreBoth, IsFresh, IsTestCall, IsTestSystem, older_unit, third_unit, younger_unit}
use Rattle.pw_tmf.specs.Faulty.{with_faults}
use Rattle.pw_tmf.specs.Starting.{key_of_file, told_at_start}
use Rattle.pw_tmf.specs.Units.{HaveDistinctTerminals, CanBackOut, CanBegin, IsRunning, MayBegin, all_backed_out, backed_out, begun, opened, stopped}

pub older-can : (told : Told) → IsFresh told → CanBegin told older_unit
older-can told f = record {
  terminal = omega (arith, f.terminals);
  number = omega arith;
  not_ended = λ is. absurd (omega (arith, f.ended 0, is));
  free = subst (MayBegin older_unit) (sym (f.units 0)) tt;
  births = λ t other is b. let none : told.units t ≡ None = f.units t in absurd (cc (none, is));
}

pub younger-can : (told : Told) → IsFresh told → CanBegin (begun told older_unit) younger_unit
younger-can told f = record {
  terminal = omega (arith, f.terminals);
  number = omega arith;
  not_ended = λ is. absurd (omega (arith, f.ended 1, is));
  free = subst (MayBegin younger_unit) (sym (upd-other told.units 0 (Some (opened older_unit)) 1 (λ is. absurd (omega (arith, is))) ∙ f.units 1)) tt;
  births = λ t other.
      upd_elim told.units 0 (Some (opened older_unit)) t (λ o. o ≡ Some other → other.birth ≡ 1 → t ≡ 1)
      (λ same is b. let e : opened older_unit ≡ other = cc is in absurd (omega (arith, ap (λ (u : ToldUnit). u.birth) e, b)))
      (λ differ is b. let none : told.units t ≡ None = f.units t in absurd (cc (none, is)));
}

-- a unit that has just begun
pub begun-runs : (told : Told) (u : unit.Unit) → u.terminal < told.terminals → IsRunning (begun told u) u
begun-runs told u lt = record {
  is_open = record { terminal = lt; open_unit = opened u; here = upd-same told.units u.terminal (Some (opened u)) u.terminal refl; number = refl; birth = refl };
  runs = refl;
}

-- and another one
pub begun-other : (told : Told) (u v : unit.Unit) → v.terminal ≢ u.terminal → IsRunning told v → IsRunning (begun told u) v
begun-other told u v apart is = record {
  is_open = record {
    terminal = is.is_open.terminal;
    open_unit = is.is_open.open_unit;
    here = upd-other told.units u.terminal (Some (opened u)) v.terminal apart ∙ is.is_open.here;
    number = is.is_open.number;
    birth = is.is_open.birth;
  };
  runs = is.runs;
}

pub both-begun : (told : Told) → IsFresh told → AreBoth (begun (begun told older_unit) younger_unit)
both-begun told f = record {
  terminals = f.terminals;
  files = f.files;
  key = f.key;
  older = begun-other (begun told older_unit) younger_unit older_unit (λ is. absurd (omega (arith, is))) (begun-runs told older_unit (omega (arith, f.terminals)));
  younger = begun-runs (begun told older_unit) younger_unit (omega (arith, f.terminals));
  others = λ t one two. upd-other (upd told.units 0 (Some (opened older_unit))) 1 (Some (opened younger_unit)) t two ∙ (upd-other told.units 0 (Some (opened older_unit)) t one ∙ f.units t);
  ended = f.ended;
}

-- the operation is one that the disc may be asked
pub call-is : (told : Told) (call : FileCall) → AreBoth told → IsTestCall call → IsCall told call
call-is told call b t =
    let key : told.key_length call.file ≡ 2 = ap told.key_length t.file ∙ b.key in
    record {
      file = omega (arith, b.files, t.file);
      content = λ w. subst (λ n. IsContent n call.content) (sym key) (t.content w);
      key = λ w. t.key w ∙ sym key;
    }

-- an operation leaves each attempt running
still-own : (told : Told) (u v : unit.Unit) (call : FileCall) (own : ToldUnit) (b : Bool) (new : ToldUnit) → new ≡ cond b (record own { before = image_before (told.key_length call.file) (told.files call.file) u.terminal call ∷ own.before }) own
    → own.number ≡ v.number → own.birth ≡ v.birth → own.running ≡ true → (new.number ≡ v.number) × (new.birth ≡ v.birth) × (new.running ≡ true)
still-own told u v call own true new is n b r = (ap (λ (x : ToldUnit). x.number) is ∙ n, ap (λ (x : ToldUnit). x.birth) is ∙ b, ap (λ (x : ToldUnit). x.running) is ∙ r)
still-own told u v call own false new is n b r = (ap (λ (x : ToldUnit). x.number) is ∙ n, ap (λ (x : ToldUnit). x.birth) is ∙ b, ap (λ (x : ToldUnit). x.running) is ∙ r)

pub still-runs : (told : Told) (u v : unit.Unit) (call : FileCall) → IsRunning told v → IsRunning (after_operation told u call) v
still-runs told u v call is =
    let n : ℕ = told.key_length call.file in
    let records : List (List ℕ) = told.files call.file in
    let own : ToldUnit = is.is_open.open_unit in
    ⊎_elim
    (λ same.
    let t : v.terminal ≡ u.terminal = eqb-true v.terminal u.terminal same in
    let new : ToldUnit = with_image n records u.terminal call own in
    let fields = still-own told u v call own (is_first_change n records u.terminal call own.before) new refl is.is_open.number is.is_open.birth is.runs in
    record {
      is_open = record {
        terminal = is.is_open.terminal;
        open_unit = new;
        here = upd-same told.units u.terminal _ v.terminal t ∙ ap (option_map (with_image n records u.terminal call)) (ap told.units (sym t) ∙ is.is_open.here);
        number = fields.0;
        birth = fields.1;
      };
      runs = fields.2;
    })
    (λ differ. record {
      is_open = record {
        terminal = is.is_open.terminal;
        open_unit = own;
        here = upd-other told.units u.terminal _ v.terminal (eqb-false v.terminal u.terminal differ) ∙ is.is_open.here;
        number = is.is_open.number;
        birth = is.is_open.birth;
      };
      runs = is.runs;
    })
    (cases_Bool (v.terminal == u.terminal))

-- more faults change nothing of that
pub faulty-runs : (told : Told) (v : unit.Unit) (n : ℕ) → IsRunning told v → IsRunning (record told { faults = n }) v
faulty-runs told v n is = record {
  is_open = record { terminal = is.is_open.terminal; open_unit = is.is_open.open_unit; here = is.is_open.here; number = is.is_open.number; birth = is.is_open.birth };
  runs = is.runs;
}

-- where no unit is open, none is behind a change of one
pub none-changed : (units : ℕ → Option ToldUnit) (k : ℕ) (change : ToldUnit → ToldUnit) (t : ℕ) → units t ≡ None → upd units k (option_map change (units k)) t ≡ None
none-changed units k change t none =
    upd_elim units k (option_map change (units k)) t (λ o. o ≡ None)
    (λ same. ap (option_map change) (ap units (sym same) ∙ none))
    (λ differ. none)

pub both-still : (a : FileAnswer) (told next : Told) (u : unit.Unit) (call : FileCall) → Operates a told u call next → AreBoth told → AreBoth next
both-still (answer.Done status content) told next u call o b = subst AreBoth (sym o.2) (record {
  terminals = b.terminals;
  files = b.files;
  key = b.key;
  older = still-runs told u older_unit call b.older;
  younger = still-runs told u younger_unit call b.younger;
  others = λ t one two. none-changed told.units u.terminal (with_image (told.key_length call.file) (told.files call.file) u.terminal call) t (b.others t one two);
  ended = b.ended;
})
both-still (answer.Conflict holder) told next u call o b = subst AreBoth (sym o.1) b
both-still answer.Failed told next u call o b = subst AreBoth (sym o.stays) (record {
  terminals = b.terminals;
  files = b.files;
  key = b.key;
  older = faulty-runs told older_unit next.faults b.older;
  younger = faulty-runs told younger_unit next.faults b.younger;
  others = b.others;
  ended = b.ended;
})
both-still answer.Memory told next u call o b = subst AreBoth (sym o) b

-- backing out leaves the files
pub files-stay : (ends : Bool) (told : Told) (units : List unit.Unit) → (all_backed_out ends told units).file_count ≡ told.file_count
files-stay ends told [] = refl
files-stay true told (u ∷ units) = files-stay true (backed_out true told u) units
files-stay false told (u ∷ units) = files-stay false (backed_out false told u) units

pub both-apart : HaveDistinctTerminals (older_unit ∷ younger_unit ∷ [])
both-apart =
    let P : unit.Unit → Type 0 = λ other. other.terminal ≢ 0 in
    (All-cons P younger_unit [] (λ is. absurd (omega (arith, is))) (All-nil P), (All-nil (λ (other : unit.Unit). other.terminal ≢ 1), tt))

pub both-can : (told : Told) → AreBoth told → All (CanBackOut false told) (older_unit ∷ younger_unit ∷ [])
both-can told b =
    All-cons (CanBackOut false told) older_unit (younger_unit ∷ []) b.older (All-cons (CanBackOut false told) younger_unit [] b.younger (All-nil (CanBackOut false told)))

-- the disc of the system at the start
pub fresh-start : (system : System) → IsTestSystem system → IsFresh (told_at_start system)
fresh-start system s = record {
  terminals = s.terminals;
  files = ap length s.files;
  key = ap (λ (fs : List FileInfo). key_of_file (slice_get fs 0)) s.files ∙ s.key;
  units = λ t. refl;
  ended = λ t. refl;
}

pub fresh-faulty : (told : Told) → IsFresh told → IsFresh (with_faults 0 told)
fresh-faulty told f = record { terminals = f.terminals; files = f.files; key = f.key; units = f.units; ended = f.ended }

-- ---- the younger unit begins again

abbrev pub restarted : Told → Told
restarted told = all_backed_out false told (younger_unit ∷ [])

pub younger-alone : HaveDistinctTerminals (younger_unit ∷ [])
younger-alone = (All-nil (λ (other : unit.Unit). other.terminal ≢ 1), tt)

pub younger-backs : (ends : Bool) (told : Told) → AreBoth told → All (CanBackOut ends told) (younger_unit ∷ [])
younger-backs true told b = All-cons (CanBackOut true told) younger_unit [] b.younger.is_open (All-nil (CanBackOut true told))
younger-backs false told b = All-cons (CanBackOut false told) younger_unit [] b.younger (All-nil (CanBackOut false told))

stopped-here : (told : Told) (b : AreBoth told) → (restarted told).units 1 ≡ Some (stopped b.younger.is_open.open_unit)
stopped-here told b = upd-same told.units 1 (option_map stopped (told.units 1)) 1 refl ∙ ap (option_map stopped) b.younger.is_open.here

pub younger-again : (told : Told) → AreBoth told → CanBegin (restarted told) younger_unit
younger-again told b = record {
  terminal = omega (arith, b.terminals);
  number = omega arith;
  not_ended = λ is. absurd (omega (arith, b.ended 1, is));
  free = subst (MayBegin younger_unit) (sym (stopped-here told b)) (b.younger.is_open.number, b.younger.is_open.birth, refl);
  births = λ t other.
      upd_elim told.units 1 (option_map stopped (told.units 1)) t (λ o. o ≡ Some other → other.birth ≡ 1 → t ≡ 1)
      (λ same is birth. same)
      (λ differ is birth.
      ⊎_elim
      (λ (first : t ≡ 0).
      let here : told.units t ≡ Some b.older.is_open.open_unit = ap told.units first ∙ b.older.is_open.here in
      let same : other ≡ b.older.is_open.open_unit = cc (here, is) in
      absurd (omega (arith, ap (λ (u : ToldUnit). u.birth) same, b.older.is_open.birth, birth)))
      (λ (not_first : t ≢ 0). let none : told.units t ≡ None = b.others t not_first differ in absurd (cc (none, is)))
      (cases_eq t 0));
}

pub both-again : (told : Told) → AreBoth told → AreBoth (begun (restarted told) younger_unit)
both-again told b = record {
  terminals = b.terminals;
  files = b.files;
  key = b.key;
  older = begun-other (restarted told) younger_unit older_unit (λ is. absurd (omega (arith, is))) (record {
    is_open = record {
      terminal = b.older.is_open.terminal;
      open_unit = b.older.is_open.open_unit;
      here = upd-other told.units 1 (option_map stopped (told.units 1)) 0 (λ is. absurd (omega (arith, is))) ∙ b.older.is_open.here;
      number = b.older.is_open.number;
      birth = b.older.is_open.birth;
    };
    runs = b.older.runs;
  });
  younger = begun-runs (restarted told) younger_unit (omega (arith, b.terminals));
  others = λ t one two. upd-other (restarted told).units 1 (Some (opened younger_unit)) t two ∙ (upd-other told.units 1 (option_map stopped (told.units 1)) t two ∙ b.others t one two);
  ended = b.ended;
}

-- ---- a unit of the third terminal begins, and all are backed out

pub third-can : (told : Told) → AreBoth told → CanBegin told third_unit
third-can told b = record {
  terminal = omega (arith, b.terminals);
  number = omega arith;
  not_ended = λ is. absurd (omega (arith, b.ended 2, is));
  free = subst (MayBegin third_unit) (sym (b.others 2 (λ is. absurd (omega (arith, is))) (λ is. absurd (omega (arith, is))))) tt;
  births = λ t other is birth.
      ⊎_elim
      (λ (first : t ≡ 0).
      let here : told.units t ≡ Some b.older.is_open.open_unit = ap told.units first ∙ b.older.is_open.here in
      let same : other ≡ b.older.is_open.open_unit = cc (here, is) in
      absurd (omega (arith, ap (λ (u : ToldUnit). u.birth) same, b.older.is_open.birth, birth)))
      (λ (not_first : t ≢ 0).
      ⊎_elim
      (λ (second : t ≡ 1).
      let here : told.units t ≡ Some b.younger.is_open.open_unit = ap told.units second ∙ b.younger.is_open.here in
      let same : other ≡ b.younger.is_open.open_unit = cc (here, is) in
      absurd (omega (arith, ap (λ (u : ToldUnit). u.birth) same, b.younger.is_open.birth, birth)))
      (λ (not_second : t ≢ 1). let none : told.units t ≡ None = b.others t not_first not_second in absurd (cc (none, is)))
      (cases_eq t 1))
      (cases_eq t 0);
}

pub three-apart : HaveDistinctTerminals (older_unit ∷ third_unit ∷ younger_unit ∷ [])
three-apart =
    let P : unit.Unit → Type 0 = λ other. other.terminal ≢ 0 in
    let Q : unit.Unit → Type 0 = λ other. other.terminal ≢ 2 in (
      All-cons P third_unit (younger_unit ∷ []) (λ is. absurd (omega (arith, is))) (All-cons P younger_unit [] (λ is. absurd (omega (arith, is))) (All-nil P)),
      (All-cons Q younger_unit [] (λ is. absurd (omega (arith, is))) (All-nil Q), (All-nil (λ (other : unit.Unit). other.terminal ≢ 1), tt)),
    )

pub three-can : (told : Told) → AreBoth told → All (CanBackOut true (begun told third_unit)) (older_unit ∷ third_unit ∷ younger_unit ∷ [])
three-can told b =
    let Q : unit.Unit → Type 0 = CanBackOut true (begun told third_unit) in
    All-cons Q older_unit (third_unit ∷ younger_unit ∷ []) (begun-other told third_unit older_unit (λ is. absurd (omega (arith, is))) b.older).is_open
    (All-cons Q third_unit (younger_unit ∷ []) (begun-runs told third_unit (omega (arith, b.terminals))).is_open
    (All-cons Q younger_unit [] (begun-other told third_unit younger_unit (λ is. absurd (omega (arith, is))) b.younger).is_open (All-nil Q)))
