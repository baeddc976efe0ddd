use Rattle.std.proofs.Common.{◌≡◌, ◌∙◌, ap, sym, subst, Some, None}
use Rattle.std.specs.Prelude.{slice_get}
use Rattle.std.specs.Option.{option_copied}
use Rattle.pw_tmf.proofs.Drained.{IsDrained, first-fits, drained-more, none-left}
use Rattle.pw_tmf.proofs.settle.drain.Goals as goal

pub put_back_in-requires : goal.put_back_in-requires
put_back_in-requires c =
    let first : Some c.in-Some.image.now ≡ slice_get c.loop-image.images 0 = sym (ap option_copied c.in-Some.is) ∙ c.first.ensures in
    first-fits c.args.files.now.items c.loop-image.files.items c.args.images.now c.loop-image.images c.in-Some.image.now first c.loop-image.invariant

pub loop-image-preserved : goal.loop-image-preserved
loop-image-preserved c =
    let first : Some c.in-Some.image.now ≡ slice_get c.loop-image.images 0 = sym (ap option_copied c.in-Some.is) ∙ c.first.ensures in
    subst (IsDrained c.args.files.now.items c.args.images.now c.put_back_in.new.files.items) (sym c.drop_first.ensures)
    (drained-more c.args.files.now.items c.loop-image.files.items c.put_back_in.new.files.items c.args.images.now c.loop-image.images c.in-Some.image.now first c.loop-image.invariant
    c.put_back_in.ensures.keys c.put_back_in.ensures.count c.in_ok-put_back_in.ensures.ok)

pub returns-clause-ok : goal.returns-clause-ok
returns-clause-ok c =
    let nothing : None ≡ slice_get c.loop-image.images 0 = sym (ap option_copied c.in_default.is) ∙ c.first.ensures in
    none-left c.loop-image.images nothing
