-- What failures and endings do, each split once: a failure by the five modes, a process by what it worked on, and an ending
-- by whether an open unit is left.
use Rattle.std.proofs.Common.{◌≡◌, inl, inr, ℕ, Bool, true, false, Option, Some, None, refl, sym, subst}
use Rattle.pw_event.specs.declared.event.Ending.{Ending}
use Rattle.pw_event.specs.declared.event.Ending.TheVariants as ending
use Rattle.pw_onecopy.specs.Behaviour.{Behaviour}
use Rattle.pw_paired.specs.End.{LegalEnd, LegalLost, LegalStopped, do_end, end_terminal}
use Rattle.pw_paired.specs.Failure.{lose_backup, backup_fails, do_fail_server, do_fail_tcp, lose_primary, lose_pair, primary_fails, process_fails}
use Rattle.pw_paired.specs.Raising.{settle_mode}
use Rattle.pw_paired.specs.State.{Alone, Down, Gone, Job, PairMode, Paired, Raising, State}
use Rattle.pw_paired.specs.Units.{leave_units, only}
use Rattle.pw_laws.proofs.terms.TermOk.{HasMessages}
use Rattle.pw_laws.specs.runs.Losses.{Breaks}

module _ (sys : Behaviour) (s : State) (P : State → Type 0) where
  -- A member of a pair fails: nothing happens, or the pair is Down, Gone by this member, or Alone.
  pub fail-by : (p : ℕ) (primary : Bool) → P s → (s.modes p ≡ Paired → P (lose_primary sys p s))
      → (Breaks primary (s.modes p) → P (lose_pair sys p s)) → (HasMessages (s.modes p) → P (lose_backup sys p s)) → P (do_fail_tcp sys p primary s)
  fail-by p true same goes_down is_lost goes_on = by (s.modes p) refl
    where
      by : (mode : PairMode) → s.modes p ≡ mode → P (primary_fails sys p mode s)
      by Paired is = goes_down is
      by Raising is = is_lost (inl is)
      by Alone is = is_lost (inr is)
      by Down is = same
      by Gone is = same
  fail-by p false same goes_down is_lost goes_on = by (s.modes p) refl
    where
      by : (mode : PairMode) → s.modes p ≡ mode → P (backup_fails sys p mode s)
      by Paired is = goes_on (subst HasMessages (sym is) tt)
      by Raising is = goes_on (subst HasMessages (sym is) tt)
      by Alone is = same
      by Down is = is_lost is
      by Gone is = same

  -- the same for either member
  pub fail-cases : (p : ℕ) → P s → (s.modes p ≡ Paired → P (lose_primary sys p s)) → ((primary : Bool) → Breaks primary (s.modes p) → P (lose_pair sys p s))
      → (HasMessages (s.modes p) → P (lose_backup sys p s)) → (primary : Bool) → P (do_fail_tcp sys p primary s)
  fail-cases p same goes_down is_lost goes_on primary = fail-by p primary same goes_down (is_lost primary) goes_on

  by-job : (c i k : ℕ) → P s → ((job : Job) → (s.classes c).busy i ≡ Some job → P (process_fails c i k (Some job) s))
      → (job : Option Job) → (s.classes c).busy i ≡ job → P (process_fails c i k job s)
  by-job c i k same works None is = same
  by-job c i k same works (Some job) is = works job is

  -- A process fails: nothing happens, or a request at it is cancelled.
  pub process-cases : (c i k : ℕ) → P s → ((job : Job) → (s.classes c).busy i ≡ Some job → P (process_fails c i k (Some job) s))
      → P (do_fail_server c i k s)
  process-cases c i k same works = by-job c i k same works ((s.classes c).busy i) refl

  module _ (t : ℕ) where
    -- Legal or not: the terminal ends, with its open unit left or without.
    pub end-any : (e : Ending) → P (settle_mode sys (sys.pair_of t) (end_terminal t e s))
        → P (settle_mode sys (sys.pair_of t) (end_terminal t e (leave_units sys (only t) s))) → P (do_end sys t e s)
    end-any ending.Stopped stays leaves = stays
    end-any ending.Lost stays leaves = stays
    end-any ending.NoEntries stays leaves = leaves
    end-any (ending.Fault x) stays leaves = leaves
    end-any (ending.Suspended cause) stays leaves = leaves

    -- An ending: the terminal stops at its program's end or is lost with its pair, or an open unit of it is left.
    pub end-cases : (e : Ending) → LegalEnd sys s t e
        → (LegalStopped sys s t → P (settle_mode sys (sys.pair_of t) (end_terminal t ending.Stopped s)))
        → (LegalLost sys s t → P (settle_mode sys (sys.pair_of t) (end_terminal t ending.Lost s)))
        → (LegalEnd sys s t e → P (settle_mode sys (sys.pair_of t) (end_terminal t e (leave_units sys (only t) s))))
        → P (do_end sys t e s)
    end-cases ending.Stopped l stops is_lost leaves = stops l
    end-cases ending.Lost l stops is_lost leaves = is_lost l
    end-cases ending.NoEntries l stops is_lost leaves = leaves l
    end-cases (ending.Fault x) l stops is_lost leaves = leaves l
    end-cases (ending.Suspended cause) l stops is_lost leaves = leaves l
