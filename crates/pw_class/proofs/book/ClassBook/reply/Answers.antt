use Rattle.std.proofs.Common.{◌≡◌, ◌<◌, ◌∙◌, ap, length, subst, sym, Some}
use Rattle.std.proofs.lemmas.List.{get_or_default, length-set}
use Rattle.pw_class.specs.Book.{queue_at}
use Rattle.pw_class.specs.Places.{AreNoted, IsRequestPlace}
use Rattle.pw_class.specs.Queue.{at_process, with_free}
use Rattle.pw_class.proofs.Moves.{class-within, noted-reply, room-busy}
use Rattle.pw_class.proofs.book.ClassBook.reply.Goals as goal

pub set-requires : goal.set-requires
set-requires c =
    let classes = c.self.inside.classes.items in
    let within : c.args.class < length classes = rw (c.self.view_is) (class-within _ c.args.class c.args.process c.requires) in
    let queue = c.index_mut.ensures.value ∙ get_or_default classes c.args.class _ _ within in
    let at = ap (λ q. at_process q c.args.process) (sym queue) ∙ sym c.reply-request.ensures.answer in
    record { room = room-busy classes c.self.inside.places c.args.class c.args.process c.reply-request.result at c.self.invariant.noted }

pub invariant_of-self : goal.invariant_of-self
invariant_of-self c =
    let classes = c.self.inside.classes.items in
    let within : c.args.class < length classes = rw (c.self.view_is) (class-within _ c.args.class c.args.process c.requires) in
    let queue = c.index_mut.ensures.value ∙ get_or_default classes c.args.class _ _ within in
    let at = ap (λ q. at_process q c.args.process) (sym queue) ∙ sym c.reply-request.ensures.answer in
    let after : c.reply-request.new.self ≡ with_free (queue_at classes c.args.class) c.args.process =
    c.reply-request.ensures.after ∙ ap (λ q. with_free q c.args.process) queue in
    record {
      few = rw (length-set classes c.args.class c.reply-request.new.self) c.self.invariant.few;
      noted =
          rw after
          (noted-reply classes c.self.inside.places c.set.new.self c.args.class c.args.process c.reply-request.result at c.self.invariant.noted c.set.ensures.others
          (rw (c.set.ensures.here, ← after, ← c.deref.ensures.value) c.place_of-place.ensures));
    }
