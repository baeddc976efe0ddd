use Rattle.std.proofs.Common.{subst, List, length}
use Rattle.std.specs.Prelude.{All, reverse}
use Rattle.std.proofs.lemmas.List.{reverse-reverse}
use Rattle.pw_paired.specs.State.{BeforeImage}
use Rattle.pw_tmf.specs.Tmf.{AreImages, TmfState, key_lengths}
use Rattle.pw_tmf.proofs.Kept.{IsTmf-kept}
use Rattle.pw_tmf.proofs.Reversed.{All-reverse}
use Rattle.pw_tmf.proofs.tmf.Tmf.settle.Goals as goal

pub settle-requires : goal.settle-requires
settle-requires c =
    let P : List BeforeImage → Type 0 = AreImages (key_lengths c.self.inside.files.items) (length c.self.inside.files.items) in
    subst (All P) (reverse-reverse c.self.inside.pending.items) (All-reverse P (reverse c.self.inside.pending.items) c.self.invariant.pending)

pub invariant_of-self : goal.invariant_of-self
invariant_of-self c =
    let state : TmfState = record { rule = c.self.inside.rule; files = c.self.inside.files.items; pending = reverse c.self.inside.pending.items; locks = c.self.inside.book; slots = c.self.inside.slots.items; commits = c.self.inside.commits } in
    let P : List BeforeImage → Type 0 = AreImages (key_lengths c.self.inside.files.items) (length c.self.inside.files.items) in
    IsTmf-kept state c.settle.new.files.items (reverse c.settle.new.pending.items) c.settle.ensures.keys c.settle.ensures.count c.self.invariant (All-reverse P c.settle.new.pending.items c.settle.ensures.images)
