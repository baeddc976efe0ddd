use Rattle.std.proofs.Common.{◌≡◌, sym, ap, ◌++◌, ◌+◌, ◌-◌, length, take, drop, arith, length-append, length-take, take-append-drop, ℕ, List}
use Rattle.std.proofs.lemmas.List.{take_at, take_rest, drop-drop}
use Rattle.pw_base.specs.MemSource.{SourceState}
use Rattle.pw_base.proofs.mem_source.MemSourceSource.read.Goals as goal

-- what is left from a place on is the next n bytes, wherever they were copied to, and the bytes after them
left-copied : (n place : ℕ) (bytes held left copied rest : List ℕ) → held ≡ bytes → left ≡ drop place bytes
    → copied ≡ take n (take (length held - place) (drop place held)) → length copied ≡ n → left ≡ take n (copied ++ rest) ++ drop (place + n) bytes
left-copied n place bytes held left copied rest is_held is_left is_copied is_long =
    let all = take_rest held place in
    let front = take_at copied rest n is_long in
    let after = drop-drop n place bytes in
    let parts = take-append-drop n left in
    cc

pub returns-clause-reads : goal.returns-clause-reads
returns-clause-reads c =
    let copied = c.copy_from_slice.ensures in
    let is_long : length c.copy_from_slice.new.self ≡ c.min-count.result = omega (arith, copied.len, length-take {A = ℕ}, c.min-count.ensures) in
    (omega arith, omega (arith, length-append {A = ℕ}, is_long), left-copied _ c.self.inside.taken _ _ _ _ _ c.deref-2.ensures.value (sym (ap (λ (source : SourceState). source.left) c.self.view_is)) copied.after is_long)
