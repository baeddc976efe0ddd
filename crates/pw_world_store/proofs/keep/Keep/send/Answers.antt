use Rattle.std.proofs.Common.{◌<◌, ◌∙◌, ap, refl, subst, sym}
use Rattle.pw_class.specs.Book.{queue_at}
use Rattle.pw_class.specs.Queue.{with_request}
use Rattle.pw_class.specs.declared.request.Request.{Request}
use Rattle.pw_world_store.specs.Keeps.{kept_by}
use Rattle.pw_world_store.proofs.Posts.{keep-sent, none-out, queue-step}
use Rattle.pw_world_store.proofs.keep.Keep.send.Goals as goal

pub put-requires-clause-alone : goal.put-requires-clause-alone
put-requires-clause-alone g c = none-out c.self.inside.classes c.args.terminal (rw (← c.self.view_is) at c.requires.alone)

pub invariant_of-self-2 : goal.invariant_of-self-2
invariant_of-self-2 g c =
    let low = rw (← c.self.view_is) at c.requires.class in
    let request : Request = record { terminal = c.args.terminal; unit = c.args.number; message = c.args.message } in
    rw c.in_ok-put.ensures.ok
    (keep-sent c.self.inside.system c.self.inside.seats.items (g.D.Disc.told c.self.inside.disc) c.self.inside.classes c.self.inside.jobs.items c.self.inside.pairs.items c.args.class (with_request (queue_at c.self.inside.classes c.args.class) request) c.self.invariant low refl)

pub returns-clause-ok : goal.returns-clause-ok
returns-clause-ok g c =
    let low = rw (← c.self.view_is) at c.requires.class in
    let request : Request = record { terminal = c.args.terminal; unit = c.args.number; message = c.args.message } in
    rw (← c.self.view_is) (record {
      system = refl;
      kept =
          ap (λ book. kept_by c.self.inside.seats.items (g.D.Disc.told c.self.inside.disc) book c.self.inside.jobs.items c.self.inside.pairs.items c.self.inside.births) c.in_ok-put.ensures.ok
          ∙ queue-step (λ queue. with_request queue request) c.self.inside.seats.items (g.D.Disc.told c.self.inside.disc) c.self.inside.classes c.self.inside.jobs.items c.self.inside.pairs.items c.self.inside.births c.args.class
          (with_request (queue_at c.self.inside.classes c.args.class) request) (subst (λ n. c.args.class < n) (sym c.self.invariant.classes) low) refl;
    })
