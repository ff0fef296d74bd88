-- Made terms of optional phyla, and the pieces of strings.
use Rattle.std.specs.Prelude.{◌≡◌, refl, pos, false, [], ◌∷◌, Some, None}
use Rattle.sg_kinds.specs.Values.{Number}
use Rattle.sg_kinds.specs.Terms.{Leaf, Node, NoTerm, kids_of}
use Rattle.sg_kinds.specs.Specification.{Spec}
use Rattle.sg_kinds.specs.declared.spec.Piece.TheVariants.{Written, Newline, Margin}
use Rattle.sg_kinds.specs.Completing.{completing}
use Rattle.sg_kinds.specs.Placeholder.{placeholder}
use Rattle.sg_kinds.specs.Pieces.{pieces_of}
use Rattle.sg_kinds.specs.declared.marks.Shape.TheVariants.{Optional, OptionalListed}
use Rattle.sg_kinds.proofs.Languages.{base, phylum, operator}

-- an optional number 3 with operators 0 and 1, and an optional list of numbers 4 with 2 and 3
abbrev options : Spec
options = record {
  phyla = base (phylum Optional (0 ∷ 1 ∷ []) [] ∷ phylum OptionalListed (2 ∷ 3 ∷ []) [] ∷ []);
  ops = operator 3 [] ∷ operator 3 (1 ∷ []) ∷ operator 4 [] ∷ operator 4 (1 ∷ 4 ∷ []) ∷ [];
  exprs = [];
  rules = [];
  functions = [];
  transforms = [];
  lexemes = [];
  productions = [];
  entries = [];
  levels = [];
  views = record { names = []; rows = [] };
  root = 3;
}

option_completing : completing options 3 ≡ Node 0 0 false NoTerm
unfolding completing
option_completing = refl

option_placeholder : placeholder options 3 ≡ Node 1 0 false (kids_of (Leaf 1 (Number (pos 0)) ∷ []))
unfolding placeholder
option_placeholder = refl

list_completing : completing options 4 ≡ Node 2 0 false NoTerm
unfolding completing
list_completing = refl

list_placeholder : placeholder options 4 ≡ Node 3 0 false (kids_of (Leaf 1 (Number (pos 0)) ∷ Node 2 0 false NoTerm ∷ []))
unfolding placeholder
list_placeholder = refl

-- "a%n%%b", "%t%b%b%t" and "%x"
text_pieces : pieces_of (97 ∷ 37 ∷ 110 ∷ 37 ∷ 37 ∷ 98 ∷ []) ≡ Some (Written (97 ∷ []) ∷ Newline ∷ Written (37 ∷ 98 ∷ []) ∷ [])
text_pieces = refl

margin_pieces : pieces_of (37 ∷ 116 ∷ 37 ∷ 98 ∷ 37 ∷ 98 ∷ 37 ∷ 116 ∷ []) ≡ Some (Margin 1 1 ∷ [])
margin_pieces = refl

no_pieces : pieces_of (97 ∷ 37 ∷ 120 ∷ []) ≡ None
no_pieces = refl

-- "%t%t%b"
step_pieces : pieces_of (37 ∷ 116 ∷ 37 ∷ 116 ∷ 37 ∷ 98 ∷ []) ≡ Some (Margin 0 1 ∷ [])
step_pieces = refl
