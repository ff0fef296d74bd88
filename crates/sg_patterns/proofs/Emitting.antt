-- What the steps of a reader make.
use Rattle.std.proofs.Common.{◌≡◌, Bool, true, false, List, [], ◌∷◌, ◌++◌, map, length, length-append, arith, refl, ap, ◌∙◌, Option, Some, None}
use Rattle.std.specs.Prelude.{is_some, unwrap_or, cond}
use Rattle.std.proofs.lemmas.List.{map-append}
use Rattle.sg_kinds.specs.Lexemes.{Lexeme, Nothing, Then, Either}
use Rattle.sg_kinds.specs.LexemeCode.{act, acts, of_two}
use Rattle.sg_kinds.specs.LexemeView.{instruction_of}
use Rattle.sg_kinds.specs.declared.lexeme.LexemeStep.{LexemeStep}
use Rattle.sg_patterns.specs.Machine.{Frame, State, with_piece, followed, joined}
use Rattle.sg_patterns.specs.Readers.{flags_of, outer_flags, put_part, frame_parts, outer_parts, made_by, ReadsIn, Reads, Fed}
use Rattle.sg_patterns.specs.declared.reader.Frame.{Frame as Flags}
use Rattle.sg_patterns.specs.declared.reader.Mode.{Mode}
use Rattle.sg_patterns.specs.declared.reader.Reader.{Reader}
use Rattle.sg_patterns.proofs.Holding.{acts-more}

-- one more step
pub made-more : (steps more : List LexemeStep) (s : LexemeStep) → more ≡ steps ++ s ∷ [] → made_by more ≡ act (instruction_of s) (made_by steps)
made-more steps more s is =
    ap made_by is ∙ ap (λ is. acts is []) (map-append instruction_of steps (s ∷ [])) ∙ acts-more (map instruction_of steps) (instruction_of s) []

-- a piece behind others, or the first
pub piece-joined : (q : Option Lexeme) (p : Lexeme) (ps made : List Lexeme) → is_some q ≡ true → made ≡ p ∷ put_part q ps → of_two Then made ≡ followed q p ∷ ps
piece-joined None p ps made e is = absurd (cc)
piece-joined (Some q) p ps made e is = ap (of_two Then) is

pub piece-first : (q : Option Lexeme) (p : Lexeme) (ps made : List Lexeme) → is_some q ≡ false → made ≡ p ∷ put_part q ps → made ≡ followed q p ∷ ps
piece-first None p ps made e is = is
piece-first (Some q) p ps made e is = absurd (cc)

pub filled : (q : Option Lexeme) (ps made : List Lexeme) → is_some q ≡ true → made ≡ put_part q ps → made ≡ unwrap_or q Nothing ∷ ps
filled None ps made e is = absurd (cc)
filled (Some q) ps made e is = is

pub empty-filled : (q : Option Lexeme) (ps made : List Lexeme) → is_some q ≡ false → made ≡ put_part q ps → Nothing ∷ made ≡ unwrap_or q Nothing ∷ ps
empty-filled None ps made e is = ap (λ x. Nothing ∷ x) is
empty-filled (Some q) ps made e is = absurd (cc)

pub alternative-joined : (a : Option Lexeme) (q : Lexeme) (ps made : List Lexeme) → is_some a ≡ true → made ≡ q ∷ put_part a ps → of_two Either made ≡ joined a q ∷ ps
alternative-joined None q ps made e is = absurd (cc)
alternative-joined (Some a) q ps made e is = ap (of_two Either) is

pub alternative-alone : (a : Option Lexeme) (q : Lexeme) (ps made : List Lexeme) → is_some a ≡ false → made ≡ q ∷ put_part a ps → made ≡ joined a q ∷ ps
alternative-alone None q ps made e is = is
alternative-alone (Some a) q ps made e is = absurd (cc)

pub length-outer_flags : (outer : List Frame) → length (outer_flags outer) ≡ length outer
length-outer_flags [] = refl
length-outer_flags (g ∷ gs) = omega (arith, length-append (outer_flags gs) (flags_of g ∷ []), length-outer_flags gs)

pub fed-on : (c : Bool) (τ : State) (r : Reader) → c ≡ true → Reads r τ → Fed (cond c (Some τ) None) true r
fed-on true τ r e reads = (refl, reads)
fed-on false τ r e reads = absurd (cc)

pub fed-off : (c : Bool) (τ : State) (r : Reader) → c ≡ false → Fed (cond c (Some τ) None) false r
fed-off true τ r e = absurd (cc)
fed-off false τ r e = refl

-- a reader that has joined a piece
pub piece-reads : (r s : Reader) (m : Mode) (outer : List Frame) (f : Frame) (p : Lexeme) → ReadsIn r m outer f (p ∷ []) → s ≡ record r { steps = s.steps; frame = record r.frame { sequence = true } } → made_by s.steps.items ≡ frame_parts (with_piece f p) (outer_parts outer) → ReadsIn s m outer (with_piece f p) []
piece-reads r s m outer f p h is made = record {
  at_mode = ap (λ x. x.mode) is ∙ h.at_mode;
  outside = ap (λ x. x.outer.items) is ∙ h.outside;
  inside = ap (λ x. x.frame) is ∙ (λ i. record { alternatives = (h.inside i).alternatives; sequence = true });
  made = made;
}

-- a parenthesis that is open
pub none-open : (flags : List Flags) (g : Frame) (gs : List Frame) → flags ≡ outer_flags (g ∷ gs) → length flags ≡ 0 → ⊥
none-open flags g gs is none = omega (arith, ap length is, length-append (outer_flags gs) (flags_of g ∷ []))
