-- The symbols of runs, told by the runs.
use Rattle.std.proofs.Common.{◌≡◌, ℕ, zero, suc, ◌+◌, ◌-◌, ◌≤◌, Bool, true, false, cond, ◌&&◌, ◌==◌, nat_le, List, [], ◌∷◌, ◌++◌, length, take, drop, replicate, refl, sym, ap, ◌∙◌, arith, append_assoc, append-nil}
use Rattle.std.specs.Option.{option_and_then}
use Rattle.std.specs.List.{prefix_len, take_while, list_all}
use Rattle.std.proofs.lemmas.List.{length-append, length-replicate, take-append-drop}
use Rattle.std.proofs.lemmas.List.Folds.{length-prefix_len}
use Rattle.std.proofs.lemmas.Bool.Decides.{nat_tests}
use Rattle.pw_picture.specs.declared.run.SymbolRun.{SymbolRun}
use Rattle.pw_picture.specs.Symbols.{may_repeat, begins_with}
use Rattle.pw_picture.specs.Grammar.{is_either, past, after_symbol, is_run_of, decimals, number_with, number_picture_of}
use Rattle.pw_picture.specs.Runs.{spread}

-- symbols that pass, in front of others
prefix_len-run : (p : ℕ → Bool) (count symbol : ℕ) (rest : List ℕ) → p symbol ≡ true → prefix_len p (replicate count symbol ++ rest) ≡ count + prefix_len p rest
prefix_len-run p zero symbol rest is = omega arith
prefix_len-run p (suc count) symbol rest is = rw (is, prefix_len-run p count symbol rest is) (omega arith)

-- symbols that do not pass
prefix_len-stop : (p : ℕ → Bool) (count symbol : ℕ) (rest : List ℕ) → 1 ≤ count → p symbol ≡ false → prefix_len p (replicate count symbol ++ rest) ≡ 0
prefix_len-stop p zero symbol rest some is = absurd (omega arith)
prefix_len-stop p (suc count) symbol rest some is = rw is

drop-run : (count symbol more : ℕ) (rest : List ℕ) → drop (count + more) (replicate count symbol ++ rest) ≡ drop more rest
drop-run zero symbol more rest = ap (λ n. drop n rest) (omega arith)
drop-run (suc count) symbol more rest = let e : suc count + more ≡ suc (count + more) = omega arith in rw e (drop-run count symbol more rest)

-- what is behind the symbols in front that pass, run by run
behind_run : (p : ℕ → Bool) (run : SymbolRun) (runs : List SymbolRun) (passes : Bool) → p run.symbol ≡ passes
    → drop (prefix_len p (spread runs)) (spread runs) ≡ spread (drop (prefix_len (λ r. p r.symbol) runs) runs)
    → drop (prefix_len p (spread (run ∷ runs))) (spread (run ∷ runs)) ≡ spread (drop (prefix_len (λ r. p r.symbol) (run ∷ runs)) (run ∷ runs))
behind_run p run runs true is more =
    let one : 1 + prefix_len (λ (r : SymbolRun). p r.symbol) runs ≡ suc (prefix_len (λ (r : SymbolRun). p r.symbol) runs) = omega arith in
    rw (is, prefix_len-run p run.count run.symbol (spread runs) is, drop-run run.count run.symbol (prefix_len p (spread runs)) (spread runs), one) more
behind_run p run runs false is more = rw (is, prefix_len-stop p run.count run.symbol (spread runs) run.some is) refl

behind : (p : ℕ → Bool) (runs : List SymbolRun) → drop (prefix_len p (spread runs)) (spread runs) ≡ spread (drop (prefix_len (λ run. p run.symbol) runs) runs)
behind p [] = refl
behind p (run ∷ runs) = behind_run p run runs (p run.symbol) refl (behind p runs)

-- how many symbols in front pass, run by run
front_run : (p : ℕ → Bool) (run : SymbolRun) (runs : List SymbolRun) (passes : Bool) → p run.symbol ≡ passes
    → prefix_len p (spread runs) ≡ length (spread (take (prefix_len (λ r. p r.symbol) runs) runs))
    → prefix_len p (spread (run ∷ runs)) ≡ length (spread (take (prefix_len (λ r. p r.symbol) (run ∷ runs)) (run ∷ runs)))
front_run p run runs true is more =
    let one : 1 + prefix_len (λ (r : SymbolRun). p r.symbol) runs ≡ suc (prefix_len (λ (r : SymbolRun). p r.symbol) runs) = omega arith in
    rw (is, prefix_len-run p run.count run.symbol (spread runs) is, one, length-append, length-replicate) (ap (λ n. run.count + n) more)
front_run p run runs false is more = rw (is, prefix_len-stop p run.count run.symbol (spread runs) run.some is) refl

in_front : (p : ℕ → Bool) (runs : List SymbolRun) → prefix_len p (spread runs) ≡ length (spread (take (prefix_len (λ run. p run.symbol) runs) runs))
in_front p [] = refl
in_front p (run ∷ runs) = front_run p run runs (p run.symbol) refl (in_front p runs)

-- the same in the words of the grammar
pub past-spread : (first second : ℕ) (runs : List SymbolRun)
    → past first second (spread runs) ≡ spread (drop (length (take_while (λ run. is_either first second run.symbol) runs)) runs)
past-spread first second runs =
    ap (λ n. drop n (spread runs)) (length-prefix_len (is_either first second) (spread runs))
    ∙ behind (is_either first second) runs
    ∙ ap (λ n. spread (drop n runs)) (sym (length-prefix_len (λ (run : SymbolRun). is_either first second run.symbol) runs))

pub nines-spread : (runs : List SymbolRun) → drop (length (take_while (λ s. s == 57) (spread runs))) (spread runs) ≡ spread (drop (length (take_while (λ run. run.symbol == 57) runs)) runs)
nines-spread runs =
    ap (λ n. drop n (spread runs)) (length-prefix_len (λ s. s == 57) (spread runs))
    ∙ behind (λ s. s == 57) runs
    ∙ ap (λ n. spread (drop n runs)) (sym (length-prefix_len (λ (run : SymbolRun). run.symbol == 57) runs))

pub whole-spread : (runs : List SymbolRun) → length (take_while (λ s. s == 57) (spread runs)) ≡ length (spread (take (length (take_while (λ run. run.symbol == 57) runs)) runs))
whole-spread runs =
    length-prefix_len (λ s. s == 57) (spread runs)
    ∙ in_front (λ s. s == 57) runs
    ∙ ap (λ n. length (spread (take n runs))) (sym (length-prefix_len (λ (run : SymbolRun). run.symbol == 57) runs))

-- what is behind the first symbol of runs
abbrev tail_of : SymbolRun → List SymbolRun → List ℕ
tail_of run runs = replicate (run.count - 1) run.symbol ++ spread runs

-- a run is not empty, so its symbol is the first
some_of : (count symbol : ℕ) (rest : List ℕ) → 1 ≤ count → replicate count symbol ++ rest ≡ symbol ∷ (replicate (count - 1) symbol ++ rest)
some_of zero symbol rest some = absurd (omega arith)
some_of (suc count) symbol rest some = let one_less : suc count - 1 ≡ count = omega arith in rw one_less refl

pub first-spread : (run : SymbolRun) (runs : List SymbolRun) → spread (run ∷ runs) ≡ run.symbol ∷ tail_of run runs
first-spread run runs = some_of run.count run.symbol (spread runs) run.some

-- the run of a symbol that may not have a count is that symbol
pub single-spread : (symbol : ℕ) (run : SymbolRun) (runs : List SymbolRun) → may_repeat symbol ≡ false → (run.symbol == symbol) ≡ true → tail_of run runs ≡ spread runs
single-spread symbol run runs not is =
    let same : run.symbol ≡ symbol = grind (arith, nat_tests) in
    let one : run.count ≡ 1 = run.single (ap may_repeat same ∙ not) in
    rw one refl

-- a run behind others
pub spread_push : (runs : List SymbolRun) (run : SymbolRun) → spread (runs ++ run ∷ []) ≡ spread runs ++ replicate run.count run.symbol
spread_push [] run = append-nil (replicate run.count run.symbol)
spread_push (first ∷ runs) run = ap (λ xs. replicate first.count first.symbol ++ xs) (spread_push runs run) ∙ sym (append_assoc (replicate first.count first.symbol) (spread runs) (replicate run.count run.symbol))

-- the first symbol
pub begins-spread : (wanted : ℕ) (run : SymbolRun) (runs : List SymbolRun) → begins_with wanted (spread (run ∷ runs)) ≡ (run.symbol == wanted)
begins-spread wanted run runs = ap (begins_with wanted) (first-spread run runs)

-- all symbols are this one
all-replicate : (p : ℕ → Bool) (count symbol : ℕ) (rest : List ℕ) → 1 ≤ count → list_all p (replicate count symbol ++ rest) ≡ (p symbol && list_all p rest)
all-replicate p zero symbol rest some = absurd (omega arith)
all-replicate p (suc zero) symbol rest some = refl
all-replicate p (suc (suc count)) symbol rest some = ap (λ b. p symbol && b) (all-replicate p (suc count) symbol rest (omega arith)) ∙ twice (p symbol) (list_all p rest) where
  twice : (a b : Bool) → (a && (a && b)) ≡ (a && b)
  twice true b = refl
  twice false b = refl

pub all-spread : (symbol : ℕ) (runs : List SymbolRun) → list_all (λ s. s == symbol) (spread runs) ≡ list_all (λ run. run.symbol == symbol) runs
all-spread symbol [] = refl
all-spread symbol (run ∷ runs) = all-replicate (λ s. s == symbol) run.count run.symbol (spread runs) run.some ∙ ap (λ b. run.symbol == symbol && b) (all-spread symbol runs)

-- runs have symbols where there is a run
pub empty-spread : (runs : List SymbolRun) → (length (spread runs) == 0) ≡ (length runs == 0)
empty-spread [] = refl
empty-spread (run ∷ runs) =
    let some : (length (spread (run ∷ runs)) == 0) ≡ false = rw (first-spread run runs) (grind (arith, nat_tests)) in
    some ∙ grind (arith, nat_tests)

-- one or more symbols that are all this one
pub run_of-spread : (symbol : ℕ) (runs : List SymbolRun) → (length (spread runs) == 0) ≡ false → list_all (λ run. run.symbol == symbol) runs ≡ is_run_of symbol (spread runs)
run_of-spread symbol runs some =
    let more : nat_le 1 (length (spread runs)) ≡ true = grind (arith, nat_tests) in
    sym (all-spread symbol runs) ∙ ap (λ b. b && list_all (λ s. s == symbol) (spread runs)) (sym more)

-- the symbols of two parts
pub spread-append : (front back : List SymbolRun) → spread (front ++ back) ≡ spread front ++ spread back
spread-append [] back = refl
spread-append (run ∷ front) back = ap (λ xs. replicate run.count run.symbol ++ xs) (spread-append front back) ∙ sym (append_assoc (replicate run.count run.symbol) (spread front) (spread back))

pub length-parts : (n : ℕ) (runs : List SymbolRun) → length (spread (take n runs)) + length (spread (drop n runs)) ≡ length (spread runs)
length-parts n runs = sym (length-append (spread (take n runs)) (spread (drop n runs))) ∙ ap length (sym (spread-append (take n runs) (drop n runs)) ∙ ap spread (take-append-drop n runs))

after-shorter : (symbol : ℕ) (symbols : List ℕ) → length (after_symbol symbol symbols) ≤ length symbols
after-shorter symbol [] = omega arith
after-shorter symbol (found ∷ symbols) = shorter (found == symbol) where
  shorter : (test : Bool) → length (cond test symbols (found ∷ symbols)) ≤ length (found ∷ symbols)
  shorter true = omega arith
  shorter false = omega arith

-- the number that symbols are, cut behind the nines in front of what is behind an S
pub record Parts (runs front behind : List SymbolRun) : Type 0 where
  pub short : length (spread front) + length (spread behind) ≤ length (spread runs)
  pub number : option_and_then (λ places. number_with (begins_with 83 (spread runs)) (length (spread front)) places) (decimals (spread behind)) ≡ number_picture_of (spread runs)

cut_number : (signed : Bool) (body : List SymbolRun)
    → option_and_then (λ places. number_with signed (length (spread (take (length (take_while (λ run. run.symbol == 57) body)) body))) places) (decimals (spread (drop (length (take_while (λ run. run.symbol == 57) body)) body)))
    ≡ option_and_then (λ places. number_with signed (length (take_while (λ s. s == 57) (spread body))) places) (decimals (drop (length (take_while (λ s. s == 57) (spread body))) (spread body)))
cut_number signed body =
    ap (λ n. option_and_then (λ places. number_with signed n places) (decimals (spread (drop (length (take_while (λ run. run.symbol == 57) body)) body)))) (sym (whole-spread body))
    ∙ ap (λ symbols. option_and_then (λ places. number_with signed (length (take_while (λ s. s == 57) (spread body))) places) (decimals symbols)) (sym (nines-spread body))

pub number-parts : (runs body front behind : List SymbolRun) (count : ℕ) → spread body ≡ after_symbol 83 (spread runs) → count ≡ length (take_while (λ run. run.symbol == 57) body)
    → front ≡ take count body → behind ≡ drop count body → Parts runs front behind
number-parts runs body front behind count is nines front_is behind_is = record {
  short = omega (arith, length-parts count body, ap length is, after-shorter 83 (spread runs), ap (λ part. length (spread part)) front_is, ap (λ part. length (spread part)) behind_is);
  number =
      let signed : Bool = begins_with 83 (spread runs) in
      ap (λ part. option_and_then (λ places. number_with signed (length (spread part)) places) (decimals (spread behind))) (front_is ∙ ap (λ n. take n body) nines)
      ∙ ap (λ part. option_and_then (λ places. number_with signed (length (spread (take (length (take_while (λ run. run.symbol == 57) body)) body))) places) (decimals (spread part))) (behind_is ∙ ap (λ n. drop n body) nines)
      ∙ cut_number signed body
      ∙ ap (λ b. option_and_then (λ places. number_with signed (length (take_while (λ s. s == 57) b)) places) (decimals (drop (length (take_while (λ s. s == 57) b)) b))) is;
}
