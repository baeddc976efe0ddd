-- The CALL at which the caller waits.
use Rattle.std.proofs.Common.{ℕ, List, Some, length, map, sym, ap, ◌∙◌, subst}
use Rattle.std.specs.Prelude.{All}
use Rattle.pw_code.specs.Places.{IsPlace}
use Rattle.pw_code.specs.declared.code.Code.{Code}
use Rattle.pw_code.specs.declared.instr.Instr.{Instr}
use Rattle.pw_code.specs.declared.place.StoragePlace.{StoragePlace}
use Rattle.pw_machine.specs.Config.{frame_of}
use Rattle.pw_machine.specs.declared.spot.MachineSpot as own
use Rattle.pw_machine.proofs.SoundLemmas.{at_call}
use Rattle.pw_machine.proofs.calls.take_back.Goals as goal

pub spots_of-requires : goal.spots_of-requires
spots_of-requires c =
    let call = at_call c.args.system.now (frame_of c.args.caller.now) (frame_of c.args.callee.now) c.in-Call.program c.in-Call.arguments c.in-Call.keeps c.requires.valid c.requires.waits
    (c.requires.at ∙ ap (λ (i : Instr). Some i) c.in-Call.is) in
    subst (λ (l : List StoragePlace). All (IsPlace (length c.as_slice-storage.result.now)) l) (sym c.as_slice.ensures)
    (subst (λ (s : List ℕ). All (IsPlace (length s)) c.in-Call.arguments) (sym c.as_slice-storage.ensures.value) call.places)

pub copy_back-requires-clause-sizes : goal.copy_back-requires-clause-sizes
copy_back-requires-clause-sizes c =
    let call = at_call c.args.system.now (frame_of c.args.caller.now) (frame_of c.args.callee.now) c.in-Call.program c.in-Call.arguments c.in-Call.keeps c.requires.valid c.requires.waits
    (c.requires.at ∙ ap (λ (i : Instr). Some i) c.in-Call.is) in
    let sizes = rw c.in-Some.is at c.in_ok-places.ensures.sizes in
    ap (λ (l : List own.MachineSpot). map (λ (spot : own.MachineSpot). spot.size) l) c.as_slice-in-Some.ensures.value ∙ sizes
    ∙ ap (λ (l : List StoragePlace). map (λ (place : StoragePlace). place.size) l) c.as_slice.ensures ∙ call.linkage
    ∙ ap (λ (code : Code). map (λ (item : ℕ × ℕ). item.1) code.linkage) (sym c.code_at-code.ensures)
    ∙ ap (λ (l : List (ℕ × ℕ)). map (λ (item : ℕ × ℕ). item.1) l) (sym c.as_slice-in-Some-2.ensures)
