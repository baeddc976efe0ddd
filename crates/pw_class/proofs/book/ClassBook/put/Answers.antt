use Rattle.std.proofs.Common.{◌≡◌, ◌<◌, ◌∙◌, ap, length, subst, sym}
use Rattle.std.proofs.lemmas.List.{get_or_default, length-set}
use Rattle.pw_class.specs.Places.{IsRequestPlace}
use Rattle.pw_class.specs.Queue.{with_request}
use Rattle.pw_class.proofs.Moves.{noted-put}
use Rattle.pw_class.proofs.book.ClassBook.put.Goals as goal

pub invariant_of-self-2 : goal.invariant_of-self-2
invariant_of-self-2 c =
    let classes = c.self.inside.classes.items in
    let within : c.args.class < length classes = rw (c.self.view_is) c.requires.class in
    let queue = c.index_mut.ensures.value ∙ get_or_default classes c.args.class _ _ within in
    record {
      few = rw (length-set classes c.args.class c.put.new.self) c.self.invariant.few;
      noted =
          noted-put classes c.reserve.new.self c.set.new.self c.args.class c.args.request _ within
          (λ other. subst (IsRequestPlace classes other) (sym (c.in_ok-reserve.ensures.same other)) (c.self.invariant.noted other))
          c.set.ensures.others (c.in_ok-put.ensures.ok ∙ ap (λ q. with_request q c.args.request) queue) c.set.ensures.here;
    }
