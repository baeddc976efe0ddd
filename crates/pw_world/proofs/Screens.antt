-- The screen of a terminal's context at its verb is the one that its path shows.
use Rattle.std.proofs.Common.{◌≡◌, ◌∙◌, ℕ, List, None, Some, map, true, ap, subst, sym}
use Rattle.std.specs.Option.{option_map}
use Rattle.std.specs.Prelude.{slice_get}
use Rattle.pw_base.proofs.Plain.{some_is}
use Rattle.pw_code.specs.declared.context.Context.{Context}
use Rattle.pw_code.specs.declared.system.TermInfo.{TermInfo}
use Rattle.pw_code.specs.declared.verb.Verb.{Verb}
use Rattle.pw_event.specs.declared.event.Event.TheVariants.{Begin, Show}
use Rattle.pw_code_meaning.proofs.Bounds.{after_terminal}
use Rattle.pw_code_meaning.specs.Config.{Config}
use Rattle.pw_code_meaning.specs.OfSystem.{image_of, told}
use Rattle.pw_world_store.specs.Keeps.{kept_of}
use Rattle.pw_world_state.proofs.Arrived.{at-its-verb, stands-ready}
use Rattle.pw_world_state.specs.Arrivals.{IsReady}
use Rattle.pw_world_state.specs.Asked.{verb_in}
use Rattle.pw_world_state.specs.Kept.{KeptTerminal}
use Rattle.pw_world_state.specs.Stands.{IsReadyIfAny}
use Rattle.pw_laws.specs.legal.Verbs.{asks_send}
use Rattle.pw_world.specs.Ledgers.{listed}
use Rattle.pw_world_model.proofs.Behind.{needs}
use Rattle.pw_world_model.specs.OneSends.{begins_one_send}
use Rattle.pw_world_model.specs.Pushed.{CanPush}
use Rattle.pw_world_model.specs.Seen.{Seen, state_of, sys_of}
use Rattle.pw_world_model.specs.Worlds.{Books, IsWorld}
use Rattle.pw_paired.specs.Shown.{refresh_of}
use Rattle.pw_paired.specs.Terminal.{path_of}
use Rattle.pw_world_store.specs.declared.seat.Ready.{Ready}
use Rattle.pw_world_store.specs.declared.seat.Seat.{Seat}

pub screen-is : (world : Seen) (books : Books) → IsWorld world books → (t : ℕ) (info : TermInfo) (context : Context)
    → slice_get world.system.terminals t ≡ Some info → (world.kept.terminals t).ready ≡ Some context
    → context.screen ≡ (sys_of world).image t (path_of (state_of world) t)
screen-is world books w t info context here is =
    let path = path_of (state_of world) t in
    let ready : IsReady world.system info path context = subst (IsReadyIfAny world.system info path) is (w.stands.terminals t info here).ready in
    let stands = stands-ready world.system info path context ready in
    let verb : stands.at.rest.at_verb ≡ true = ap (λ (x : Context). x.at_verb) (sym stands.is) ∙ at-its-verb world.system info path context ready in
    ap (λ (x : Context). x.screen) stands.is
    ∙ (ap (λ (c : Config). c.rest.screen) (sym (after_terminal world.system info.program (map (told info.entries) path) stands.at w.valid stands.comes verb))
    ∙ sym (ap (λ o. image_of world.system o path) here))

-- ---- what the books get of it

-- the context that a seat has at its verb
pub ready-is : (seat : Seat) (own : KeptTerminal) (ready : Ready) → kept_of seat ≡ own → seat.ready ≡ Some ready → own.ready ≡ Some ready.context
ready-is seat own ready same is = sym (ap (λ (k : KeptTerminal). k.ready) same) ∙ ap (option_map (λ (at : Ready). at.context)) is

-- a seat has one where what is kept has one
pub not-unready : (seat : Seat) (own : KeptTerminal) (context : Context) → kept_of seat ≡ own → own.ready ≡ Some context → seat.ready ≡ None → ⊥
not-unready seat own context same some none =
    let lost : own.ready ≡ None = sym (ap (λ (k : KeptTerminal). k.ready) same) ∙ ap (option_map (λ (at : Ready). at.context)) none in
    cc (lost, some)

module _ (world : Seen) (books : Books) (w : IsWorld world books) where
  pub refresh-is : (t phase attempt k : ℕ) → CanPush world (Show t phase attempt k) → (context : Context) → (world.kept.terminals t).ready ≡ Some context
      → (image : List ℕ) → image ≡ context.screen
      → listed (Some (record { terminal = t; phase = phase; attempt = attempt; k = k; image = image })) ≡ refresh_of (sys_of world) (state_of world) (Show t phase attempt k)
  refresh-is t phase attempt k can context is image same =
      let asking = needs world books w (Show t phase attempt k) can in
      let shown : image ≡ (sys_of world).image t (path_of (state_of world) t) = same ∙ screen-is world books w t asking.placed.info context asking.placed.here is in
      ap (λ i. listed (Some (record { terminal = t; phase = phase; attempt = attempt; k = k; image = i }))) shown

  pub send-is : (t n r : ℕ) → CanPush world (Begin t n r) → (context : Context) → (world.kept.terminals t).ready ≡ Some context
      → (verb : Verb) → verb ≡ verb_in world.system context → asks_send verb ≡ begins_one_send (sys_of world) (state_of world) (Begin t n r)
  send-is t n r can context is verb stands =
      let asking = (needs world books w (Begin t n r) can).asking in
      let same : asking.context ≡ context = some_is (sym asking.ready ∙ is) in
      ap asks_send (stands ∙ (ap (verb_in world.system) (sym same) ∙ asking.says.verb))

  pub shows-ready : (t phase attempt k : ℕ) → CanPush world (Show t phase attempt k) → (context : Context) × ((world.kept.terminals t).ready ≡ Some context)
  shows-ready t phase attempt k can = let asking = needs world books w (Show t phase attempt k) can in (asking.context, asking.ready)

  pub begins-ready : (t n r : ℕ) → CanPush world (Begin t n r) → (context : Context) × ((world.kept.terminals t).ready ≡ Some context)
  begins-ready t n r can = let asking = (needs world books w (Begin t n r) can).asking in (asking.context, asking.ready)
