-- Whether a request of a terminal is out.
use Rattle.std.proofs.Common.{◌≡◌, ℕ, zero, suc, ◌+◌, ◌≤◌, ◌||◌, Bool, List, take, ◌∙◌, refl, sym, ap, subst, length, arith}
use Rattle.std.specs.List.{list_any}
use Rattle.std.proofs.Math.Seq.{take-length}
use Rattle.std.proofs.lemmas.List.Folds.{list_any_more}
use Rattle.pw_class.specs.Book.{is_out, queue_at}
use Rattle.pw_class.specs.Queue.{Queue, has_request}
use Rattle.pw_world_store.proofs.Posts.{no_queue}
use Rattle.pw_paired.specs.Units.{any_below}

any-first : (p : Queue → Bool) (book : List Queue) (n : ℕ) → n ≤ length book → any_below n (λ c. p (queue_at book c)) ≡ list_any p (take n book)
any-first p book zero le = refl
any-first p book (suc n) le =
    let more : n + 1 ≡ suc n = omega arith in
    ap (λ b. b || p (queue_at book n)) (any-first p book n (omega (arith, le)))
    ∙ subst (λ k. (list_any p (take n book) || p (queue_at book n)) ≡ list_any p (take k book)) more
    (sym (list_any_more p book n no_queue (omega (arith, le))))

pub out-is : (book : List Queue) (n t : ℕ) → length book ≡ n → is_out book t ≡ any_below n (λ c. has_request t (queue_at book c))
out-is book n t size =
    sym (subst (λ k. any_below k (λ c. has_request t (queue_at book c)) ≡ list_any (has_request t) book) size
    (any-first (has_request t) book (length book) (omega arith) ∙ ap (list_any (has_request t)) (take-length book)))
