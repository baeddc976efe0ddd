use Rattle.std.proofs.Common.{◌≡◌, ℕ, ◌∙◌, ap, sym, refl, List, map, length, replicate}
use Rattle.std.specs.Prelude.{reverse}
use Rattle.std.proofs.Math.Path.{fun_ext}
use Rattle.std.proofs.lemmas.List.{length-map, length-replicate}
use Rattle.pw_tmf.specs.Slots.{SlotState}
use Rattle.pw_tmf.specs.Starting.{key_in, key_in_system, key_of_file, records_in, records_in_system, records_of_file, told_at_start}
use Rattle.pw_tmf.specs.Tmf.{no_file, no_slot, slot_at, unit_at}
use Rattle.pw_tmf.proofs.Operated.{settled-files, told-is}
use Rattle.pw_tmf.proofs.Starting.{replicated, same-at}
use Rattle.pw_tmf.proofs.tmf.Tmf.new.Goals as goal

pub returns : goal.returns
returns c =
    let system = c.args.system.now in
    let made = c.in_ok-files_of.field-0.items in
    let slots = c.in_ok-slots_of.field-0.items in
    let slots_are : slots ≡ replicate c.len.result no_slot = c.in_ok-slots_of.ensures in
    let keys : map key_in made ≡ map key_in_system system.files = c.in_ok-files_of.ensures.keys ∙ ap (map key_in_system) c.as_slice.ensures in
    let records : map records_in made ≡ map records_in_system system.files = c.in_ok-files_of.ensures.records ∙ ap (map records_in_system) c.as_slice.ensures in
    told-is (told_at_start system) _ _ _ _ _ _ _
    (ap length slots_are ∙ (length-replicate c.len.result no_slot ∙ c.len.ensures))
    (sym (length-map made key_in) ∙ (ap length keys ∙ length-map system.files key_in_system))
    (fun_ext (same-at key_in key_in_system key_of_file no_file refl (λ y. refl) made system.files keys))
    (settled-files made (reverse c.new.result.items) (ap reverse c.new.ensures.items) ∙ fun_ext (same-at records_in records_in_system records_of_file no_file refl (λ y. refl) made system.files records))
    c.in_ok-new.ensures
    (ap unit_at slots_are ∙ fun_ext (λ t. ap (λ (x : SlotState). x.open_unit) (replicated c.len.result no_slot t)))
    (ap (λ (ss : List SlotState). λ (t : ℕ). (slot_at ss t).ended) slots_are ∙ fun_ext (λ t. ap (λ (x : SlotState). x.ended) (replicated c.len.result no_slot t)))
