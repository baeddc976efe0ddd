-- What is kept behind a CHECK, a BEGIN, a SEND and the end of a unit stands for the state behind it.
use Rattle.std.proofs.Common.{◌≡◌, ℕ, List, [], ◌∷◌, ◌++◌, Option, Some, None, true, refl, sym, ap, subst, ◌∙◌}
use Rattle.std.specs.Prelude.{option_map, unwrap_or}
use Rattle.pw_base.proofs.Plain.{some_is}
use Rattle.pw_code.specs.declared.context.Context.{Context}
use Rattle.pw_code.specs.declared.system.System.{System}
use Rattle.pw_code.specs.declared.system.TermInfo.{TermInfo}
use Rattle.pw_code.specs.declared.verb.Answer.TheVariants as answer
use Rattle.pw_code.specs.declared.verb.Verb.TheVariants as verb
use Rattle.pw_event.specs.declared.script.FailLine.{FailLine}
use Rattle.pw_code_meaning.specs.OfSystem.{behaviour, number_by}
use Rattle.pw_image.specs.Image.{HasImage, image_of}
use Rattle.pw_image.specs.Values.{HasValues}
use Rattle.pw_world_state.specs.Arrivals.{StandsForPath}
use Rattle.pw_world_state.specs.Asked.{answered_with, unit_in}
use Rattle.pw_world_state.specs.Changes.{attempted, births_behind, kept_check, unit_at, with_context, without_unit}
use Rattle.pw_world_state.specs.Entered.{answering, begin_at, closing_context, copied, entered_back, entered_begin, entered_check_copy, entered_check_end, entered_check_start, entered_commit, entered_send, image_message, send_image, sent_by, tcp_of, verb_of}
use Rattle.pw_world_state.specs.Kept.{Kept, KeptTerminal}
use Rattle.pw_world_state.specs.Stands.{IsPathImage, Stands, StandsForKnown, StandsIfAny}
use Rattle.pw_pair.specs.Follows.{has_flights}
use Rattle.pw_world_state.specs.Tested.{CarriesPath, IsAsking, IsPlaced}
use Rattle.pw_world_state.proofs.Checked.{checked}
use Rattle.pw_world_state.proofs.Components.{pair-of}
use Rattle.pw_world_state.proofs.Behind.{answering-is, behind, verb-is}
use Rattle.pw_world_state.proofs.UnitChanges.{back-stands, begin-send-stands, begin-stands, ends-stands, send-stands}
use Rattle.pw_onecopy.specs.Path.{Begun, Dropped, Ended, PathAnswer, unit_number}
use Rattle.pw_onecopy.specs.Update.{upd}
use Rattle.pw_pair.specs.declared.message.CheckKind.TheVariants as kind
use Rattle.pw_paired.specs.Raising.{LegalCheckCopy, copied_path, do_check_copy}
use Rattle.pw_paired.specs.State.{Copy, End, OpenUnit, Start, State}
use Rattle.pw_paired.specs.Terminal.{LegalBegin, LegalCheckEnd, LegalCheckStart, LegalSend, closed_path, closing_answer, do_back, do_begin, do_check_end, do_check_start, do_commit, do_send, message_of, next_verb, path_of, path_with}
use Rattle.pw_paired.specs.Units.{attempt_of}
use Rattle.pw_tmf.specs.Units.{after_commit, backed_out, begun}

-- ---- images

-- the image of a context that stands for a path
image-of-path : (system : System) (info : TermInfo) (path : List PathAnswer) (context : Context) → StandsForPath system info path context → HasImage context → HasValues context
    → IsPathImage system info path (image_of context)
image-of-path system info path context stands has values = record { context = context; stands = stands; is_image = record { has_image = has; has_values = values; is = refl } }

-- the context that a COPY carries
copied-stands : (system : System) (info : TermInfo) (attempt : Option (List PathAnswer)) (start : Option Context) (path : List PathAnswer) (context : Option Context) (b : Context)
    → StandsIfAny (StandsForPath system info) attempt start → StandsForKnown system info path context → copied start context ≡ Some b → StandsForPath system info (unwrap_or attempt path) b
copied-stands system info None None path context b s known is = subst (StandsForKnown system info path) is known
copied-stands system info None (Some start) path context b s known is = absurd s
copied-stands system info (Some attempt) None path context b s known is = absurd s
copied-stands system info (Some attempt) (Some start) path context b s known is = subst (StandsForPath system info attempt) (some_is is) s

module _ (system : System) (script : List FailLine) (state : State) (kept : Kept) (t : ℕ) (stands : Stands system script state kept) where
  module _ (placed : IsPlaced system t) where
    tcp : tcp_of system t ≡ placed.info.tcp
    tcp = ap (number_by (λ (x : TermInfo). x.tcp)) placed.here

    flies : has_flights (state.modes ((behaviour script system).pair_of t)) ≡ true → has_flights (state.modes placed.info.tcp) ≡ true
    flies is = ap (λ p. has_flights (state.modes p)) (sym (pair-of system script t placed.info placed.here)) ∙ is

    pub check-copy-enters : (b : Context) → copied (kept.terminals t).start (kept.terminals t).context ≡ Some b → CarriesPath (copied_path state t) b → LegalCheckCopy (behaviour script system) state t
        → Stands system script (do_check_copy t state) (entered_check_copy system t kept)
    check-copy-enters b is carries legal =
        let old = stands.terminals t placed.info placed.here in
        subst (λ o. Stands system script (do_check_copy t state) (send_image system t kind.Copy o kept)) (sym is)
        (subst (λ p. Stands system script (do_check_copy t state) (kept_check p (image_message t kind.Copy b) kept)) (sym tcp)
        (checked system script state kept t placed.info (Copy (unit_number (copied_path state t)) (copied_path state t)) (unit_in b) (image_of b) stands placed.here (flies (ap has_flights legal.raising)) carries.counts.unit
        (image-of-path system placed.info (copied_path state t) b
        (copied-stands system placed.info (attempt_of (state.units t)) (kept.terminals t).start (path_of state t) (kept.terminals t).context b old.start old.path is)
        carries.has_image carries.has_values)))

  module _ (asking : IsAsking system script state kept t) where
    abbrev pub info : TermInfo
    info = asking.placed.info

    pub check-start-enters : (b : Context) → (kept.terminals t).context ≡ Some b → CarriesPath (path_of state t) b → LegalCheckStart (behaviour script system) state t
        → Stands system script (do_check_start t state) (entered_check_start system t kept)
    check-start-enters b is carries legal =
        subst (λ o. Stands system script (do_check_start t state) (send_image system t kind.Start o kept)) (sym is)
        (subst (λ p. Stands system script (do_check_start t state) (kept_check p (image_message t kind.Start b) kept)) (sym (tcp asking.placed))
        (checked system script state kept t info (Start (unit_number (path_of state t)) (path_of state t)) (unit_in b) (image_of b) stands asking.placed.here (flies asking.placed (ap has_flights legal.can.paired)) carries.counts.unit
        (image-of-path system info (path_of state t) b (subst (StandsForKnown system info (path_of state t)) is (stands.terminals t info asking.placed.here).path)
        carries.has_image carries.has_values)))

    -- the message of an end, with the answer that closes the transaction
    ends-check : (a : PathAnswer) (b : Context) → StandsForPath system info (path_of state t ++ a ∷ []) b → HasImage b → HasValues b → LegalCheckEnd (behaviour script system) state t
        → closed_path (behaviour script system) state t ≡ path_of state t ++ a ∷ [] → closing_context system (verb_of system (kept.terminals t)) (kept.terminals t) ≡ Some b
        → Stands system script (do_check_end (behaviour script system) t state) (entered_check_end system t kept)
    ends-check a b path has values legal closes is =
        subst (λ o. Stands system script (do_check_end (behaviour script system) t state) (send_image system t kind.End o kept)) (sym is)
        (subst (λ p. Stands system script (do_check_end (behaviour script system) t state) (kept_check p (image_message t kind.End b) kept)) (sym (tcp asking.placed))
        (checked system script state kept t info (End (closed_path (behaviour script system) state t)) (unit_in b) (image_of b) stands asking.placed.here (flies asking.placed (ap has_flights legal.can.paired)) tt
        (image-of-path system info (closed_path (behaviour script system) state t) b (subst (λ p. StandsForPath system info p b) (sym closes) path) has values)))

    pub check-end-enters : next_verb (behaviour script system) state t ≡ verb.End → HasImage (answered_with system answer.Ended asking.context) → HasValues (answered_with system answer.Ended asking.context)
        → LegalCheckEnd (behaviour script system) state t → Stands system script (do_check_end (behaviour script system) t state) (entered_check_end system t kept)
    check-end-enters asks has values legal =
        ends-check Ended _ (behind system script state kept t stands asking Ended) has values legal
        (ap (λ v. path_with (closing_answer v) (path_of state t)) asks)
        (ap (λ o. closing_context system o (kept.terminals t)) (verb-is system script state kept t stands asking ∙ ap Some asks)
        ∙ ap (λ (own : KeptTerminal). own.context) (answering-is system script state kept t stands asking answer.Ended))

    pub check-drop-enters : next_verb (behaviour script system) state t ≡ verb.Drop → HasImage (answered_with system answer.Dropped asking.context) → HasValues (answered_with system answer.Dropped asking.context)
        → LegalCheckEnd (behaviour script system) state t → Stands system script (do_check_end (behaviour script system) t state) (entered_check_end system t kept)
    check-drop-enters asks has values legal =
        ends-check Dropped _ (behind system script state kept t stands asking Dropped) has values legal
        (ap (λ v. path_with (closing_answer v) (path_of state t)) asks)
        (ap (λ o. closing_context system o (kept.terminals t)) (verb-is system script state kept t stands asking ∙ ap Some asks)
        ∙ ap (λ (own : KeptTerminal). own.context) (answering-is system script state kept t stands asking answer.Dropped))

    -- ---- BEGIN and SEND

    -- the attempt of a transaction goes on behind Begin
    attempting-is : (r : ℕ) → answering system (answer.Begun r) (attempted (kept.terminals t)) ≡ with_context (answered_with system (answer.Begun r) asking.context) (attempted (kept.terminals t))
    attempting-is r = ap (λ o. record (attempted (kept.terminals t)) { context = option_map (answered_with system (answer.Begun r)) o; ready = None }) asking.ready

    pub begin-enters : (n r : ℕ) → LegalBegin (behaviour script system) state t n r → ((own : OpenUnit) → state.units t ≡ Some own → own.number ≡ n) → next_verb (behaviour script system) state t ≡ verb.Begin
        → Stands system script (do_begin (behaviour script system) t n r state) (entered_begin system t n r kept)
    begin-enters n r legal number asks =
        subst (λ o. Stands system script (do_begin (behaviour script system) t n r state) (begin_at system t n r o kept)) (sym (verb-is system script state kept t stands asking ∙ ap Some asks))
        (subst (λ own. Stands system script (do_begin (behaviour script system) t n r state) (record kept {
          terminals = upd kept.terminals t own;
          disc = begun kept.disc (unit_at kept t n);
          births = births_behind (kept.disc.units t) kept.births;
        })) (sym (attempting-is r))
        (begin-stands system script state kept t n r info stands asking.placed.here legal.can legal.idle number _ asks (behind system script state kept t stands asking (Begun r))))

    pub begin-send-enters : (n r c : ℕ) (message : List ℕ) → LegalBegin (behaviour script system) state t n r → ((own : OpenUnit) → state.units t ≡ Some own → own.number ≡ n) → next_verb (behaviour script system) state t ≡ verb.Send c message
        → Stands system script (do_begin (behaviour script system) t n r state) (entered_begin system t n r kept)
    begin-send-enters n r c message legal number asks =
        subst (λ o. Stands system script (do_begin (behaviour script system) t n r state) (begin_at system t n r o kept)) (sym (verb-is system script state kept t stands asking ∙ ap Some asks))
        (begin-send-stands system script state kept t n r info stands asking.placed.here legal.can legal.idle number c message asks)

    pub send-enters : (n c : ℕ) → LegalSend (behaviour script system) state t n c → Stands system script (do_send (behaviour script system) t n c state) (entered_send system t n c kept)
    send-enters n c legal =
        send-stands system script state kept t n c _ stands
        (ap sent_by (verb-is system script state kept t stands asking ∙ ap Some legal.asks) ∙ ap message_of (sym legal.asks))

    -- ---- COMMIT and BACK

    pub commit-enters : (n : ℕ) → Stands system script (do_commit t n state) (entered_commit system t n kept)
    commit-enters n =
        subst (λ own. Stands system script (do_commit t n state) (record kept { terminals = upd kept.terminals t (without_unit own); disc = after_commit kept.disc (unit_at kept t n) None }))
        (sym (answering-is system script state kept t stands asking answer.Ended))
        (ends-stands system script state kept t n info Ended None _ stands asking.placed.here (behind system script state kept t stands asking Ended))

    pub back-enters : (n : ℕ) → Stands system script (do_back (behaviour script system) t n state) (entered_back system t n kept)
    back-enters n =
        subst (λ own. Stands system script (do_back (behaviour script system) t n state) (record kept { terminals = upd kept.terminals t (without_unit own); disc = backed_out true kept.disc (unit_at kept t n) }))
        (sym (answering-is system script state kept t stands asking answer.Dropped))
        (back-stands system script state kept t n info _ stands asking.placed.here (behind system script state kept t stands asking Dropped))
