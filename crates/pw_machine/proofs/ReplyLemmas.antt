-- A reply that goes to an item, and one without.
use Rattle.std.proofs.Common.{◌≡◌, ℕ, ◌+◌, Bool, true, false, List, Option, Some, None, refl, ap, ◌∙◌, arith}
use Rattle.std.specs.Prelude.{option_and_then, option_map, if◌then◌else◌}
use Rattle.pw_code.specs.declared.context.Context.{Context}
use Rattle.pw_code.specs.declared.context.Frame.{Frame}
use Rattle.pw_code.specs.declared.instr.ReplyCode.{ReplyCode}
use Rattle.pw_code_meaning.specs.Answers.{answered, place_among, code_after_reply, reply_taken, spot_among, unit_ended, yielded}
use Rattle.pw_code_meaning.specs.Config.{Config, over, with_storage}
use Rattle.pw_code_meaning.specs.Moves.{move_text}
use Rattle.pw_code_meaning.specs.Reading.{Spot}
use Rattle.pw_machine.specs.Config.{config_with}
use Rattle.pw_machine.specs.Replies.{seen_at, yielded_at}
use Rattle.pw_machine.specs.Views.{spot_by}
use Rattle.pw_machine.specs.declared.spot.MachineSpot as own
use Rattle.pw_machine.specs.declared.top.Top.{Top}

-- a reply that is taken leaves the programs that wait
taken_frames : (context : Context) (frames : List Frame) → record (reply_taken context) { frames = frames } ≡ reply_taken (record context { frames = frames })
taken_frames context frames = pick context.in_unit
  where
    pick : (b : Bool) → record (if b then answered context else unit_ended context) { frames = frames }
        ≡ (if b then answered (record context { frames = frames }) else unit_ended (record context { frames = frames }))
    pick true = refl
    pick false = refl

with_frames : (frames : List Frame) (context taken : Context) → taken ≡ reply_taken context → record taken { frames = frames } ≡ reply_taken (record context { frames = frames })
with_frames frames context taken is = ap (λ (x : Context). record x { frames = frames }) is ∙ taken_frames context frames

pub replied_some : (frames : List Frame) (top : Top) (context taken : Context) (codes : List ReplyCode) (reply : List ℕ) (found : ℕ × own.MachineSpot) → taken ≡ reply_taken context
    → option_map seen_at (Some found) ≡ option_and_then (spot_among (config_with frames top context) codes) (place_among codes reply)
    → yielded_at (found.0 + 1) (spot_by found.1) reply (config_with frames top taken) ≡ code_after_reply codes reply (config_with frames top context)
replied_some frames top context taken codes reply found is there =
    let c : Config = config_with frames top context in
    ap (λ (x : Context). over 1 (record (with_storage (move_text reply (spot_by found.1) c.top.storage) c) { rest = record x { termination = found.0 + 1 } }))
    (with_frames frames context taken is)
    ∙ ap (λ (o : Option (ℕ × Spot)). yielded o reply c) there

pub replied_none : (frames : List Frame) (top new : Top) (context taken : Context) (codes : List ReplyCode) (reply : List ℕ) → new ≡ record top { at = top.at + 1 + 0 }
    → taken ≡ reply_taken context → None ≡ option_and_then (spot_among (config_with frames top context) codes) (place_among codes reply)
    → config_with frames new taken ≡ code_after_reply codes reply (config_with frames top context)
replied_none frames top new context taken codes reply moved is there =
    let c : Config = config_with frames top context in
    let here : top.at + 1 + 0 ≡ top.at + 1 = omega arith in
    ap (λ (t : Top). config_with frames t taken) moved ∙ ap (λ n. config_with frames (record top { at = n }) taken) here
    ∙ ap (λ (x : Context). record { top = record c.top { at = top.at + 1 }; rest = x }) (with_frames frames context taken is)
    ∙ ap (λ (o : Option (ℕ × Spot)). yielded o reply c) there
