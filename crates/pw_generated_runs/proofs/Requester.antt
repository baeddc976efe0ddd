-- One round of the requester of a generated deck.
use Rattle.std.proofs.Common.{◌≡◌, ℕ, zero, suc, ◌+◌, ◌-◌, Bool, true, false, not, List, [], ◌∷◌, length, map, Option, Some, None, refl, ap, arith, ◌∙◌, length-append}
use Rattle.std.specs.Prelude.{codes, if◌then◌else◌, nat_lt, option_and_then, replicate, take}
use Rattle.std.proofs.lemmas.Bool.{ne_eqb}
use Rattle.std.proofs.lemmas.List.{length-replicate, length-take}
use denote.Hole.Carrier.{hidden}
use Rattle.pw_forms.specs.declared.statement.Statement.TheBlock.{hidden-the_row-Statement-0}
use Rattle.pw_code.specs.Entry.{EntryLineModel}
use Rattle.pw_code.specs.declared.verb.Verb.TheVariants as verb
use Rattle.pw_code.specs.declared.verb.Answer.{Answer}
use Rattle.pw_code.specs.declared.verb.Answer.TheVariants as answer
use Rattle.pw_data.specs.Store.{Cell}
use Rattle.pw_forms.specs.declared.lists.SendCode.{SendCode}
use Rattle.pw_onecopy.specs.Path.{PathAnswer}
use Rattle.pw_picture.specs.Text.{fitted}
use Rattle.pw_terminal.specs.Screen.{blank_cells, with_message}
use Rattle.pw_tree_meaning.specs.Performs.{budget, turns_until}
use Rattle.pw_tree_meaning.specs.Conditions.{holds}
use Rattle.pw_tree_meaning.specs.Program.{DeckModel}
use Rattle.pw_tree_meaning.specs.Runs.{called, flow, most_calls, performed, program_ended, run_after, setting_of, told, verb_of}
use Rattle.pw_tree_meaning.specs.Sends.{code_in_reply, found_by, item_at, reply_code_place, yielded}
use Rattle.pw_tree_meaning.specs.Setting.{Setting}
use Rattle.pw_tree_meaning.specs.State.{ProgramState, Out, Goes, then_do}
use Rattle.pw_tree_meaning.specs.Statements.{body}
use Rattle.pw_tree_meaning.specs.Store.{Spot, Store, put_at}
use Rattle.pw_generated_runs.specs.Rounds.{HasCodeZero, asked_behind, request_of}
use Rattle.pw_generated_runs.specs.Trees.{CountingParts, counting_deck, entry_of, is_text, item, later_paragraphs, waiting}
use Rattle.pw_forms.specs.declared.statement.Statement.TheVariants as form

-- the characters of the requester's answer
pub record Fourteen : Type 0 where
  pub a : ℕ
  pub b : ℕ
  pub c : ℕ
  pub d : ℕ
  pub e : ℕ
  pub f : ℕ
  pub g : ℕ
  pub h : ℕ
  pub i : ℕ
  pub j : ℕ
  pub k : ℕ
  pub l : ℕ
  pub m : ℕ
  pub n : ℕ

abbrev pub chars_of : Fourteen → List ℕ
chars_of x = x.a ∷ x.b ∷ x.c ∷ x.d ∷ x.e ∷ x.f ∷ x.g ∷ x.h ∷ x.i ∷ x.j ∷ x.k ∷ x.l ∷ x.m ∷ x.n ∷ []

abbrev pub cell : ℕ → List ℕ → Cell
cell place chars = record { item = place; occurrence = 1; chars = chars }

abbrev pub cells : ℕ → ℕ → ℕ → Fourteen → Store
cells op first second x =
    cell 1 (op ∷ []) ∷ cell 3 (first ∷ second ∷ []) ∷ cell 4 (48 ∷ 48 ∷ 48 ∷ 48 ∷ [])
    ∷ cell 6 (x.a ∷ x.b ∷ x.c ∷ x.d ∷ []) ∷ cell 7 (x.e ∷ x.f ∷ x.g ∷ x.h ∷ [])
    ∷ cell 8 (x.i ∷ x.j ∷ x.k ∷ x.l ∷ x.m ∷ x.n ∷ []) ∷ []

-- what the requester has between two rounds
pub record Held : Type 0 where
  pub first : ℕ
  pub second : ℕ
  pub answer : Fourteen
  pub termination : ℕ
  pub screen : List ℕ

-- its state there; before its first entry the operation is a space, and one statement is counted
abbrev pub between : Bool → Held → List Answer → ProgramState
between begins held answers = record {
  count = if begins then 1 else 0;
  answers = answers;
  store = cells (if begins then 32 else 73) held.first held.second held.answer;
  registers = record { termination = held.termination; restarts = 0; file_status = 0 };
  in_unit = false;
  screen = held.screen;
  files = λ f. [];
}

abbrev codes_of_send : List SendCode
codes_of_send = (record { number = 0; yields = item (codes "ANS") }) ∷ []

-- no other code is foreseen
other-code : (code : ℕ) → reply_code_place codes_of_send (suc code) ≡ None
other-code code =
    ap (λ (b : Bool). let k : ℕ = if not b then 1 + 0 else 0 in if nat_lt k 1 then Some k else None) (ne_eqb 0 (suc code) (λ e. omega (arith, e)))

-- what has 14 characters
fourteen : (xs : List ℕ) → length xs ≡ 14 → (x : Fourteen) × (xs ≡ chars_of x)
fourteen (a ∷ b ∷ c ∷ d ∷ e ∷ f ∷ g ∷ h ∷ i ∷ j ∷ k ∷ l ∷ m ∷ n ∷ []) is =
    (record { a = a; b = b; c = c; d = d; e = e; f = f; g = g; h = h; i = i; j = j; k = k; l = l; m = m; n = n }, refl)
fourteen _ is = absurd (omega (arith, is))

-- a text in 14 characters
fitted-fourteen : (reply : List ℕ) → length (fitted 14 reply) ≡ 14
fitted-fourteen reply =
    omega (arith, length-append (take 14 reply) (replicate (14 - length reply) 32), length-take 14 reply, length-replicate {A = ℕ} (14 - length reply) 32)

module _ (parts : CountingParts) where
  abbrev deck : DeckModel
  deck = counting_deck parts

  abbrev line : ℕ → ℕ
  line = parts.requester_line

  abbrev setting : Setting
  setting = setting_of deck 0

  abbrev call : ℕ → List (List ℕ) → ProgramState → Out
  call = called most_calls deck 21

  abbrev pub loop : ℕ → ProgramState → Out
  loop n s = turns_until n (λ t. holds setting.program t (is_text (codes "M-OP") (codes "Z"))) (performed 64 setting call (codes "P2")) s

  abbrev pub finish : Out → Out
  finish out =
      program_ended setting (then_do (then_do out (body setting (performed 64 setting call) call (waiting line)))
      (flow setting (performed 64 setting call) call (later_paragraphs line)))

  -- it awaits an entry
  pub awaits : (begins : Bool) (n : ℕ) (held : Held) → verb_of (finish (loop (suc n) (between begins held []))) ≡ verb.Accept 0
  unfolding hidden hidden-the_row-Statement-0
  awaits true n held = refl
  awaits false n held = refl

  -- it sends the entry's key
  pub sends : (begins : Bool) (n : ℕ) (held : Held) (d : ℕ)
      → verb_of (finish (loop (suc n) (between begins held (answer.Entry (entry_of d) ∷ [])))) ≡ verb.Send 0 (request_of d)
  unfolding hidden hidden-the_row-Statement-0
  sends true n held d = refl
  sends false n held d = refl

  -- ---- behind the reply

  abbrev answer_spot : Spot
  answer_spot = record { at = 7; size = 14; picture = None }

  -- its state there
  abbrev replied : Held → ℕ → List Answer → ProgramState
  replied held d answers = record {
    count = 0;
    answers = answers;
    store = cells 73 65 (48 + d) held.answer;
    registers = record { termination = 1; restarts = 0; file_status = 0 };
    in_unit = false;
    screen = held.screen;
    files = λ f. [];
  }

  -- how it goes on
  abbrev displays : ℕ → Out → Out
  displays n out =
      then_do (then_do (then_do out (body setting (performed 62 setting call) call (form.Display (line 9) (item (codes "ANS")) ∷ [])))
      (body setting (performed 63 setting call) call [])) (loop n)

  goes-on : (begins : Bool) (n : ℕ) (held : Held) (d : ℕ) (reply : List ℕ) (rest : List Answer)
      → loop (suc n) (between begins held (answer.Entry (entry_of d) ∷ answer.Replied reply ∷ rest))
      ≡ displays n (yielded (found_by codes_of_send (answer_spot ∷ []) reply) reply (replied held d rest))
  unfolding hidden hidden-the_row-Statement-0
  goes-on true n held d reply rest = refl
  goes-on false n held d reply rest = refl

  -- what is asked behind a reply
  shows-or-faults : (n : ℕ) (held : Held) (d : ℕ) (reply : List ℕ) (code : Option ℕ)
      → verb_of (finish (displays n (yielded (option_and_then (item_at (answer_spot ∷ [])) (option_and_then (reply_code_place codes_of_send) code)) reply (replied held d []))))
      ≡ asked_behind code
  unfolding hidden hidden-the_row-Statement-0
  shows-or-faults n held d reply None = refl
  shows-or-faults n held d reply (Some zero) = refl
  shows-or-faults n held d reply (Some (suc code)) =
      ap (λ (place : Option ℕ). verb_of (finish (displays n (yielded (option_and_then (item_at (answer_spot ∷ [])) place) reply (replied held d []))))) (other-code code)

  -- where the code is 0 and the screen was shown, it is between two rounds again
  again : (n : ℕ) (held : Held) (d : ℕ) (reply : List ℕ) (x : Fourteen) (rest : List Answer) → fitted 14 reply ≡ chars_of x
      → displays n (yielded (Some (0, answer_spot)) reply (replied held d (answer.Shown ∷ rest)))
      ≡ loop n (between false (record { first = 65; second = 48 + d; answer = x; termination = 1; screen = with_message (chars_of x) held.screen }) rest)
  unfolding hidden hidden-the_row-Statement-0
  again n held d reply x rest is =
      ap (λ (chars : List ℕ). displays n (Goes (record (replied held d (answer.Shown ∷ rest)) { store = put_at answer_spot chars (cells 73 65 (48 + d) held.answer) }))) is

  -- a round: behind it the requester is between two rounds again
  pub round : (begins : Bool) (n : ℕ) (held : Held) (d : ℕ) (reply : List ℕ) (rest : List Answer) → HasCodeZero reply
      → (next : Held) × (loop (suc n) (between begins held (answer.Entry (entry_of d) ∷ answer.Replied reply ∷ answer.Shown ∷ rest)) ≡ loop n (between false next rest))
  round begins n held d reply rest code =
      let x = fourteen (fitted 14 reply) (fitted-fourteen reply) in
      let next : Held = record { first = 65; second = 48 + d; answer = x.0; termination = 1; screen = with_message (chars_of x.0) held.screen } in (
        next,
        goes-on begins n held d reply (answer.Shown ∷ rest)
            ∙ (ap (λ (c : Option ℕ). displays n (yielded (option_and_then (item_at (answer_spot ∷ [])) (option_and_then (reply_code_place codes_of_send) c)) reply (replied held d (answer.Shown ∷ rest)))) code
            ∙ again n held d reply x.0 rest x.1),
      )

  -- behind a reply it shows it, or faults
  pub shows : (begins : Bool) (n : ℕ) (held : Held) (d : ℕ) (reply : List ℕ)
      → verb_of (finish (loop (suc n) (between begins held (answer.Entry (entry_of d) ∷ answer.Replied reply ∷ [])))) ≡ asked_behind (code_in_reply reply)
  shows begins n held d reply = ap (λ (out : Out). verb_of (finish out)) (goes-on begins n held d reply []) ∙ shows-or-faults n held d reply (code_in_reply reply)

  -- where it begins
  abbrev pub held_at_start : Held
  held_at_start = record {
    first = 32;
    second = 32;
    answer = record { a = 48; b = 48; c = 48; d = 48; e = 48; f = 48; g = 48; h = 48; i = 32; j = 32; k = 32; l = 32; m = 32; n = 32 };
    termination = 0;
    screen = blank_cells;
  }

  pub begins-so : (lines : List EntryLineModel) (path : List PathAnswer)
      → run_after deck 0 lines path ≡ finish (loop (budget (between true held_at_start (map (told lines) path))) (between true held_at_start (map (told lines) path)))
  unfolding hidden hidden-the_row-Statement-0
  begins-so lines path = refl
