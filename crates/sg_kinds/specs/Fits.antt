-- Which terms fit a phylum.
use Rattle.std.specs.Prelude.{◌≡◌, ℕ, ◌<◌, List, [], ◌∷◌, slice_get, MatchOption, IsTrue, ◌⊎◌, ⊤}
use Rattle.sg_kinds.specs.Values.{Bytes, Value, Truth, Number, Chars, is_text, is_number}
use Rattle.sg_kinds.specs.Terms.{Term, Terms, Leaf, Node, NoTerm, AndTerm}
use Rattle.sg_kinds.specs.Specification.{Spec, Shape}
use Rattle.sg_kinds.specs.Matches.{Matches}
use Rattle.sg_kinds.specs.declared.marks.Shape.TheVariants.{Truths, Numbers, Texts, Lexemes}

-- the null lexeme, or a text that the pattern of the lexeme phylum matches
abbrev pub IsLexeme : Spec → ℕ → Bytes → Type 0
IsLexeme spec l s = (s ≡ []) ⊎ MatchOption (slice_get spec.lexemes l) ⊥ (λ p. Matches p s)

-- a leaf of a phylum of this shape may hold the value
abbrev pub MayHold : Spec → Shape → Value → Type 0
MayHold spec Truths (Truth b) = ⊤
MayHold spec Numbers (Number z) = IsTrue (is_number z)
MayHold spec Texts (Chars s) = IsTrue (is_text s)
MayHold spec (Lexemes l) (Chars s) = IsTrue (is_text s) × IsLexeme spec l s
MayHold spec shape v = ⊥

-- a leaf fits its own phylum; a node fits the phylum of its operator, where each child fits its argument phylum
abbrev mutual
  pub Fits : Spec → Term → ℕ → Type 0
  Fits spec (Leaf q v) p = (q ≡ p) × MatchOption (slice_get spec.phyla p) ⊥ (λ x. MayHold spec x.shape v)
  Fits spec (Node op scheme elided ts) p = MatchOption (slice_get spec.ops op) ⊥ (λ o. (o.phylum ≡ p) × (scheme < 16)
      × AllFit spec ts o.args)

  pub AllFit : Spec → Terms → List ℕ → Type 0
  AllFit spec NoTerm [] = ⊤
  AllFit spec (AndTerm t ts) (p ∷ ps) = Fits spec t p × AllFit spec ts ps
  AllFit spec ts ps = ⊥
