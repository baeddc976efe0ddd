-- The tests of the entries of a pair, of FAIL entries and of END decide whether they are legal.
use Rattle.std.proofs.Common.{◌≡◌, ℕ, Bool, true, Some, Decides, refl, ap, ◌∙◌}
use Rattle.pw_event.specs.declared.event.Ending.{Ending}
use Rattle.pw_event.specs.declared.event.Ending.TheVariants.{Stopped, NoEntries, Fault, Suspended, Lost}
use Rattle.pw_event.specs.declared.event.Event.TheVariants.{End}
use Rattle.pw_laws.proofs.Deciding.{DecidesIf, always, both, either, like, itself, itself_not, number, none, some, one_with}
use Rattle.pw_laws.proofs.decided.Causes.{suspended}
use Rattle.pw_laws.proofs.decided.Terminals.{can, live}
use Rattle.pw_laws.proofs.decided.Values.{alone, down, gone, line_of_member, line_of_process, paired, raising}
use Rattle.pw_laws.proofs.decided.Verbs as asked
use Rattle.pw_laws.specs.legal.Causes.{JobsAreThere}
use Rattle.pw_laws.specs.legal.Legality.{is_by_conflict}
use Rattle.pw_laws.specs.legal.Pairs as test
use Rattle.pw_paired.specs.End.{LegalEnd}
use Rattle.pw_paired.specs.Failure.{LegalFailServer, LegalFailTcp, LegalTakeover, fail_line, is_live_of}
use Rattle.pw_onecopy.specs.Path.{entries_on}
use Rattle.pw_paired.specs.Raising.{LegalApplied, LegalCheckCopy, LegalRaise}
use Rattle.pw_paired.specs.State.{State}
use Rattle.pw_onecopy.specs.Behaviour.{Behaviour}
use Rattle.pw_paired.specs.Terminal.{next_verb, path_of}
use Rattle.pw_paired.specs.Units.{any_below}

-- whether CHECK t COPY is legal by its kind
pub check_copy : (sys : Behaviour) (state : State) (t : ℕ) → Decides (test.is_legal_check_copy sys state t) (LegalCheckCopy sys state t)
check_copy sys state t =
    like (both (live sys state t) (both (raising (state.modes (sys.pair_of t))) (both (none (state.memory t)) (none (state.flight t)))))
    (λ h. record { live = h.0; raising = h.1.0; lacking = h.1.1.0; free = h.1.1.1 }) (λ l. (l.live, (l.raising, (l.lacking, l.free))))

-- whether APPLIED t is legal by its kind
pub applied : (sys : Behaviour) (state : State) (t : ℕ) → Decides (test.is_legal_applied sys state t) (LegalApplied sys state t)
applied sys state t =
    like (both (some (state.flight t)) (either (raising (state.modes (sys.pair_of t))) (paired (state.modes (sys.pair_of t)))))
    (λ h. record { message = h.0.0; flies = h.0.1; mode = h.1 }) (λ l. ((l.message, l.flies), l.mode))

-- whether RAISE p is legal by its kind
pub raise : (sys : Behaviour) (state : State) (p : ℕ) → Decides (test.is_legal_raise sys state p) (LegalRaise sys state p)
raise sys state p =
    like (both (alone (state.modes p)) (both (itself (any_below sys.terminals (is_live_of sys p state))) (itself_not _)))
    (λ h. record { alone = h.0; wanted = h.1.0; calm = h.1.1 }) (λ l. (l.alone, (l.wanted, l.calm)))

-- whether TAKEOVER p is legal by its kind
pub takeover : (state : State) (p : ℕ) → Decides (test.is_legal_takeover state p) (LegalTakeover state p)
takeover state p = like (down (state.modes p)) (λ e. record { down = e }) (λ l. l.down)

-- whether FAIL TCP p PRIMARY k, and FAIL TCP p BACKUP k, are legal by their kind
pub fail_tcp : (sys : Behaviour) (p : ℕ) (primary : Bool) (k : ℕ) → Decides (test.is_legal_fail_tcp sys p primary k) (LegalFailTcp sys p primary k)
fail_tcp sys p primary k =
    like (one_with (line_of_member p primary) (fail_line sys.script k))
    (λ h. record { after = h.2.0; names = h.1 ∙ ap (λ l. Some l) h.2.1 }) (λ l. (_, l.names, (l.after, refl)))

-- whether FAIL SERVER c i k is legal by its kind
pub fail_server : (sys : Behaviour) (c i k : ℕ) → Decides (test.is_legal_fail_server sys c i k) (LegalFailServer sys c i k)
fail_server sys c i k =
    like (one_with (line_of_process c i) (fail_line sys.script k))
    (λ h. record { after = h.2.0; names = h.1 ∙ ap (λ l. Some l) h.2.1 }) (λ l. (_, l.names, (l.after, refl)))

-- whether END t is legal by its kind, with each ending
pub end : (sys : Behaviour) (state : State) (t : ℕ) (how : Ending)
    → DecidesIf (is_by_conflict (End t how) ≡ true → JobsAreThere sys state) (test.is_legal_end sys state t how) (LegalEnd sys state t how)
end sys state t Stopped =
    always (like (both (can sys state t) (asked.stop (next_verb sys state t))) (λ h. record { can = h.0; asks = h.1 }) (λ l. (l.can, l.asks)))
end sys state t NoEntries =
    always (like (both (can sys state t) (both (asked.accept (next_verb sys state t)) (number (entries_on (path_of state t)) (sys.entries t))))
    (λ h. record { can = h.0; screen = h.1.0.0; asks = h.1.0.1; all = h.1.1 }) (λ l. (l.can, ((l.screen, l.asks), l.all))))
end sys state t (Fault x) =
    always (like (both (can sys state t) (asked.fault x (next_verb sys state t))) (λ h. record { can = h.0; asks = h.1 }) (λ l. (l.can, l.asks)))
end sys state t (Suspended why) = suspended sys state t why
end sys state t Lost =
    always (like (both (live sys state t) (gone (state.modes (sys.pair_of t)))) (λ h. record { live = h.0; lost = h.1 }) (λ l. (l.live, l.lost)))
