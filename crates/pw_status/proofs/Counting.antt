-- Counts of a log with one more entry.
use Rattle.std.proofs.Common.{◌≡◌, ℕ, ◌-◌, ◌^◌, ◌<◌, ⊎_elim, Bool, true, false, List, [], ◌∷◌, ◌++◌, length, Option, Some, None, refl, sym, ap, subst, ◌∙◌, arith}
use Rattle.std.proofs.Math.ListN.{get_or, set}
use Rattle.std.proofs.lemmas.Bool.{cases_eq, eq-eqb, ne_eqb}
use Rattle.std.proofs.lemmas.List.{get_or-set_other, get_or-set_same, length-set}
use Rattle.std.proofs.lemmas.List.Sums.{count_by-le-length, sum_by-append}
use Rattle.std.specs.Prelude.{count_by, slice_index_or, if◌then◌else◌}
use Rattle.pw_status.specs.Counters.{AreCountersOf, CountersState, counters_behind, more, more_at, more_if}
use Rattle.pw_status.specs.Counts.{is_begin, is_older, is_one, is_redo, is_server, is_takeover, restarted_terminal, restarts_by, taken_from}
use Rattle.pw_event.specs.declared.event.Event.{Event}

-- of a test
pub counted : (p : Event → Bool) (log : List Event) (entry : Event) (n : ℕ) → length log < 2 ^ 32 - 1 → n ≡ count_by p log
    → more_if (p entry) n ≡ count_by p (log ++ entry ∷ [])
counted p log entry n few is = by (p entry) refl
  where
    by : (b : Bool) → p entry ≡ b → more_if b n ≡ count_by p (log ++ entry ∷ [])
    by true passes =
        let whole = sum_by-append (λ (e : Event). if p e then 1 else 0) log (entry ∷ []) in
        let one : count_by p (entry ∷ []) ≡ 1 = rw passes refl in
        omega (arith, whole, one, count_by-le-length p log)
    by false fails =
        let whole = sum_by-append (λ (e : Event). if p e then 1 else 0) log (entry ∷ []) in
        let none : count_by p (entry ∷ []) ≡ 0 = rw fails refl in
        omega (arith, whole, none)

-- of a list of counters each is one more where it is that of the entry
pub more-where : (own : Option ℕ) (counts : List ℕ) (k : ℕ) → k < length (more_at own counts)
    → (k < length counts) × (slice_index_or (more_at own counts) k 0 ≡ more_if (is_one k own) (slice_index_or counts k 0))
more-where None counts k low = (low, refl)
more-where (Some place) counts k low =
    let within : k < length counts = subst (λ (n : ℕ). k < n) (length-set counts place (more (get_or counts place 0))) low in (
      within,
      ⊎_elim
          (λ same.
          ap (λ (i : ℕ). get_or (set counts place (more (get_or counts place 0))) i 0) (sym same)
          ∙ (get_or-set_same counts place (more (get_or counts place 0)) 0 (subst (λ (i : ℕ). i < length counts) (sym same) within)
          ∙ (ap (λ (i : ℕ). more (get_or counts i 0)) same ∙ ap (λ (b : Bool). more_if b (get_or counts k 0)) (sym (eq-eqb place k same)))))
          (λ differ.
          get_or-set_other counts place k (more (get_or counts place 0)) 0 (λ e. differ (sym e))
          ∙ ap (λ (b : Bool). more_if b (get_or counts k 0)) (sym (ne_eqb place k differ)))
          (cases_eq place k),
    )

pub counted-each : (own : Event → Option ℕ) (log : List Event) (entry : Event) (counts : List ℕ) → length log < 2 ^ 32 - 1
    → ((k : ℕ) → k < length counts → slice_index_or counts k 0 ≡ count_by (λ e. is_one k (own e)) log)
    → (k : ℕ) → k < length (more_at (own entry) counts) → slice_index_or (more_at (own entry) counts) k 0 ≡ count_by (λ e. is_one k (own e)) (log ++ entry ∷ [])
counted-each own log entry counts few are k low =
    let found = more-where (own entry) counts k low in
    found.1 ∙ counted (λ e. is_one k (own e)) log entry (slice_index_or counts k 0) few (are k found.0)

pub next-counters : (log : List Event) (entry : Event) (counters : CountersState) → length log < 2 ^ 32 - 1 → AreCountersOf log counters
    → AreCountersOf (log ++ entry ∷ []) (counters_behind entry counters)
next-counters log entry counters few are = record {
  begun = counted is_begin log entry counters.begun few are.begun;
  older = counted (restarts_by is_older) log entry counters.older few are.older;
  takeover = counted (restarts_by is_takeover) log entry counters.takeover few are.takeover;
  server = counted (restarts_by is_server) log entry counters.server few are.server;
  redo = counted (restarts_by is_redo) log entry counters.redo few are.redo;
  restarts = counted-each restarted_terminal log entry counters.restarts few are.restarts;
  taken = counted-each taken_from log entry counters.taken few are.taken;
}
