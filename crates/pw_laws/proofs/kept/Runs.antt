-- Each state of a run keeps it all.
use Rattle.std.proofs.Common.{List, [], ◌∷◌, ◌++◌, refl, arith}
use Rattle.pw_event.specs.declared.event.Event.{Event}
use Rattle.pw_event.specs.declared.event.Event.TheVariants.{Show, Key, CheckStart, CheckEnd, CheckCopy, Applied, Begin, Send, Take, File, Reply, Again, Commit, Back, Restart, FailTcp, FailServer, Takeover, Raise, End}
use Rattle.pw_onecopy.specs.Behaviour.{Behaviour}
use Rattle.pw_onecopy.specs.IsBehaviour.{IsBehaviour}
use Rattle.pw_paired.specs.State.{State, starting}
use Rattle.pw_paired.specs.Step.{Legal, Fits, change, effect, IsRunFrom, after_from}
use Rattle.pw_laws.proofs.kept.Failing.{inv_applied, inv_raise, inv_file, inv_reply, inv_restart, inv_fail_server, inv_fail_tcp, inv_takeover, inv_end}
use Rattle.pw_laws.proofs.kept.Kept.{Inv, OutOk-same}
use Rattle.pw_laws.proofs.kept.Steps.{inv_show, inv_key, inv_check_start, inv_check_end, inv_check_copy, inv_begin, inv_send, inv_take, inv_again, inv_commit, inv_back}
use Rattle.pw_laws.proofs.requests.Requests.{Nowhere, requests_starting}

-- the log says nothing of what is kept
logged : {sys : Behaviour} {s : State} (log : List Event) → Inv sys s → Inv sys (record s { log = log })
logged log i = record {
  terms = i.terms;
  known = i.known;
  places = i.places;
  requests = i.requests;
  out = λ t request is. OutOk-same refl refl (λ works. works) (i.out t request is);
}

-- what each kind changes
keeps-change : (sys : Behaviour) → IsBehaviour sys → (s : State) → Inv sys s → (entry : Event) → Fits sys s entry → Inv sys (change sys s entry)
keeps-change sys b s i (Show t phase attempt k) l = inv_show sys b s i t phase attempt k l
keeps-change sys b s i (Key t k) l = inv_key sys b s i t k l
keeps-change sys b s i (CheckStart t) l = inv_check_start sys b s i t l
keeps-change sys b s i (CheckEnd t) l = inv_check_end sys b s i t l
keeps-change sys b s i (CheckCopy t) l = inv_check_copy sys b s i t l
keeps-change sys b s i (Applied t) l = inv_applied sys b s i t l
keeps-change sys b s i (Begin t n r) l = inv_begin sys b s i t n r l
keeps-change sys b s i (Send t n c) l = inv_send sys b s i t n c l
keeps-change sys b s i (Take c p t) l = inv_take sys b s i c p t l
keeps-change sys b s i (File c p op mode f status) l = inv_file sys b s i c p
keeps-change sys b s i (Reply c p t fault) l = inv_reply sys b s i c p t fault l
keeps-change sys b s i (Again t n) l = inv_again sys b s i t n l
keeps-change sys b s i (Commit t n) l = inv_commit sys b s i t n l
keeps-change sys b s i (Back t n) l = inv_back sys b s i t n l
keeps-change sys b s i (Restart t n cause) l = inv_restart sys b s i t n cause l
keeps-change sys b s i (FailTcp p primary k) l = inv_fail_tcp sys b s i p primary
keeps-change sys b s i (FailServer c p k) l = inv_fail_server sys b s i c p k
keeps-change sys b s i (Takeover p) l = inv_takeover sys b s i p l
keeps-change sys b s i (Raise p) l = inv_raise sys b s i p l
keeps-change sys b s i (End t ending) l = inv_end sys b s i t ending l

-- each legal entry keeps it
pub keeps : (sys : Behaviour) → IsBehaviour sys → (s : State) → Inv sys s → (entry : Event) → Legal sys s entry → Inv sys (effect sys s entry)
keeps sys b s i entry l = logged (s.log ++ entry ∷ []) (keeps-change sys b s i entry l.fits)

-- what holds at the start
pub kept-at-start : (sys : Behaviour) → Inv sys (starting sys)
kept-at-start sys = record {
  terms = λ t known. record {
    unit_ok = λ u is. absurd (cc is);
    memory_ok = λ held is. absurd (cc is);
    memory_unit = λ held u is is_open. absurd (cc is);
    flight_ok = λ message is. absurd (cc is);
    quiet = λ none. refl;
    lost = λ lost. absurd (cc lost);
    has_memory = λ live works. absurd works;
    calm = λ messages. refl;
    path_ok = λ live works untaken. record {
      rest = record { is_path = record { known = known; suits = tt }; outside = refl };
      low_is = omega arith;
      high_is = omega arith;
    };
  };
  known = λ t u is. absurd (cc is);
  places = λ t. Nowhere;
  requests = requests_starting sys;
  out = λ t request is. absurd (cc is);
}

-- each state of a run from such a state keeps it
pub kept-from : (sys : Behaviour) → IsBehaviour sys → (s : State) → Inv sys s → (log : List Event) → IsRunFrom sys s log → Inv sys (after_from sys s log)
kept-from sys b s i [] run = i
kept-from sys b s i (entry ∷ log) run = kept-from sys b (effect sys s entry) (keeps sys b s i entry run.0) log run.1
