-- What a section says that was put together of lines.
use Rattle.std.proofs.Common.{◌≡◌, ℕ, suc, ◌+◌, ◌<◌, Bool, true, false, cond, not, ◌&&◌, eqb, ltb, List, [], ◌∷◌, ◌++◌, length, drop, Some, None, Result, Ok, refl, sym, ap, ◌∙◌, arith, length-append}
use Rattle.std.specs.List.{list_all, position, prefix_len}
use Rattle.std.proofs.Math.Seq.{drop-append-add}
use Rattle.std.proofs.lemmas.Bool.{lt-ltb, and_parts}
use Rattle.pw_base.specs.declared.fault_code.FaultCode.TheVariants.{BadSection}
use Rattle.pw_gen.specs.Generated.{text_of}
use Rattle.pw_sections.specs.Lines.{lines}
use Rattle.pw_sections.specs.Steps.{◌>>=◌, or_refused}
use Rattle.pw_sections.specs.Headings.{heading_of}
use Rattle.pw_sections.specs.declared.heading.Heading.{Heading}
use Rattle.pw_deck_tables.specs.Pieces.{first_line_of, behind_place, section_line, section_text}
use Rattle.pw_deck.specs.Parts.{section_of, section_read, sections_read}
use Rattle.pw_deck.specs.declared.parts.Parts.{Parts}
use Rattle.pw_gen.proofs.DeckTexts.{inside, is_line, are_lines, are_others, Section, lines_in, is_section, lines_of}

before_end : (line rest : List ℕ) → is_line line ≡ true → prefix_len (λ b. not (eqb b 10)) (line ++ 10 ∷ rest) ≡ length line
before_end [] rest is = refl
before_end (b ∷ bs) rest is =
    let parts = and_parts _ (is_line bs) is in
    let more : 1 + prefix_len (λ b. not (eqb b 10)) (bs ++ 10 ∷ rest) ≡ suc (length bs) = omega (arith, before_end bs rest parts.1) in
    ap (λ t. cond (not t) (1 + prefix_len (λ b. not (eqb b 10)) (bs ++ 10 ∷ rest)) 0) (inside b parts.0).0 ∙ more

end_of : (line rest : List ℕ) → is_line line ≡ true → position (λ b. eqb b 10) (line ++ 10 ∷ rest) ≡ Some (length line)
end_of line rest is =
    let lt : length line < length (line ++ 10 ∷ rest) = omega (arith, length-append line (10 ∷ rest)) in
    ap (λ k. cond (ltb k (length (line ++ 10 ∷ rest))) (Some k) None) (before_end line rest is)
    ∙ ap (λ t. cond t (Some (length line)) None) (lt-ltb (length line) (length (line ++ 10 ∷ rest)) lt)

-- the lines of a section
pub all_are : (section : Section) → is_section section ≡ true → are_lines (lines_in section) ≡ true
all_are section is =
    let parts = and_parts (is_line section.head) (are_lines section.below && are_others section.below) is in
    let below = and_parts (are_lines section.below) (are_others section.below) parts.1 in
    ap (λ t. t && are_lines section.below) parts.0 ∙ below.0

pub below_are : (section : Section) → is_section section ≡ true → are_lines section.below ≡ true
below_are section is =
    let parts = and_parts (is_line section.head) (are_lines section.below && are_others section.below) is in
    (and_parts (are_lines section.below) (are_others section.below) parts.1).0

line_is : (section : Section) → is_section section ≡ true → section_line (text_of (lines_in section)) ≡ 63 ∷ section.head
line_is section is = ap first_line_of (lines_of (lines_in section) (all_are section is))

text_is : (section : Section) → is_section section ≡ true → section_text (text_of (lines_in section)) ≡ text_of section.below
text_is section is =
    let head : is_line (63 ∷ section.head) ≡ true = (and_parts (is_line section.head) (are_lines section.below && are_others section.below) is).0 in
    ap (behind_place (text_of (lines_in section))) (end_of (63 ∷ section.head) (text_of section.below) head)
    ∙ drop-append-add (63 ∷ section.head) (10 ∷ text_of section.below) 1

-- a section is read by what its section line says
pub read_as : (parts : Parts) (line : ℕ) (section : Section) (heading : Heading) → is_section section ≡ true → heading_of (63 ∷ section.head) ≡ Some heading
    → section_read parts line (text_of (lines_in section)) ≡ section_of parts line (text_of section.below) heading
read_as parts line section heading is says =
    let text = text_of (lines_in section) in
    ap (λ l. or_refused line BadSection (heading_of l) >>= section_of parts line (section_text text)) (line_is section is)
    ∙ ap (λ h. or_refused line BadSection h >>= section_of parts line (section_text text)) says
    ∙ ap (λ t. section_of parts line t heading) (text_is section is)

-- the sections behind one that is read, which is not the end
pub goes_on : (parts next : Parts) (line : ℕ) (section : Section) (rest : List (List ℕ)) → is_section section ≡ true
    → section_read parts line (text_of (lines_in section)) ≡ Ok next → next.has_end ≡ false
    → sections_read parts line (text_of (lines_in section) ∷ rest) ≡ sections_read next (line + length (lines_in section)) rest
unfolding sections_read
goes_on parts next line section rest is read more =
    let after : Parts → Result Parts _ = λ p. cond p.has_end (Ok p) (sections_read p (line + length (lines (text_of (lines_in section)))) rest) in
    ap (λ s. s >>= after) read
    ∙ ap (λ t. cond t (Ok next) (sections_read next (line + length (lines (text_of (lines_in section)))) rest)) more
    ∙ ap (λ ls. sections_read next (line + length ls) rest) (lines_of (lines_in section) (all_are section is))

-- the end is read, and nothing behind it
pub ends : (parts next : Parts) (line : ℕ) (section : Section) (rest : List (List ℕ))
    → section_read parts line (text_of (lines_in section)) ≡ Ok next → next.has_end ≡ true
    → sections_read parts line (text_of (lines_in section) ∷ rest) ≡ Ok next
unfolding sections_read
ends parts next line section rest read ended =
    let after : Parts → Result Parts _ = λ p. cond p.has_end (Ok p) (sections_read p (line + length (lines (text_of (lines_in section)))) rest) in
    ap (λ s. s >>= after) read
    ∙ ap (λ t. cond t (Ok next) (sections_read next (line + length (lines (text_of (lines_in section)))) rest)) ended
