-- The pieces of a string, made from its front.
use Rattle.std.proofs.Common.{◌≡◌, ◌≢◌, ◌<◌, ◌≤◌, ◌+◌, ℕ, true, false, cond, nat_eq, List, [], ◌∷◌, ◌++◌, length, drop, get_or, Option, Some, None, refl, sym, ap, ◌∙◌, arith}
use Rattle.std.specs.Prelude.{option_map}
use Rattle.std.proofs.lemmas.List.{at_drop_more, at_drop_all}
use Rattle.std.proofs.lemmas.Bool.Decides.{nat_tests}
use Rattle.sg_kinds.specs.Pieces.{joined, escape, before_pieces, pieces_of}
use Rattle.sg_kinds.specs.declared.spec.Piece.{Piece}
use Rattle.sg_kinds.specs.declared.spec.Piece.TheVariants as piece
use Rattle.sg_views.specs.declared.pieces.Last.TheVariants.{Nothing}
use Rattle.sg_views.specs.declared.pieces.Writing.{Writing}
use Rattle.sg_views.specs.PiecesView.{before, told, meant, Joins}

-- a byte that is written; a byte behind `%`
other_byte : (b : ℕ) → b ≢ 37 → nat_eq b 37 ≡ false
other_byte b h = grind (arith, nat_tests)

pieces_byte : (b : ℕ) (rest : List ℕ) → b ≢ 37 → pieces_of (b ∷ rest) ≡ option_map (joined (piece.Written (b ∷ []))) (pieces_of rest)
pieces_byte b [] h = rw (other_byte b h) refl
pieces_byte b (c ∷ rest) h = rw (other_byte b h) refl

through : (f g : List Piece → List Piece) (p : Piece) (o : Option (List Piece)) → ((rest : List Piece) → g rest ≡ f (joined p rest)) → option_map g o ≡ option_map f (option_map (joined p) o)
through f g p None h = refl
through f g p (Some ps) h = ap Some (h ps)

pub byte_steps : (w v : Writing) (b : ℕ) (rest : List ℕ) → Joins w (piece.Written (b ∷ [])) v → w.percent ≡ false → b ≢ 37 → meant v rest ≡ meant w (b ∷ rest)
byte_steps w v b rest joins off h =
    ap (λ p. option_map (told v) (pieces_of (cond p (37 ∷ rest) rest))) joins.closed
    ∙ through (told w) (told v) (piece.Written (b ∷ [])) (pieces_of rest) joins.pieces
    ∙ sym (ap (option_map (told w)) (pieces_byte b rest h))
    ∙ sym (ap (λ p. option_map (told w) (pieces_of (cond p (37 ∷ b ∷ rest) (b ∷ rest)))) off)

pub escape_steps : (w v : Writing) (b : ℕ) (p : Piece) (rest : List ℕ) → Joins w p v → w.percent ≡ true → escape b ≡ Some p → meant v rest ≡ meant w (b ∷ rest)
escape_steps w v b p rest joins on is =
    ap (λ t. option_map (told v) (pieces_of (cond t (37 ∷ rest) rest))) joins.closed
    ∙ through (told w) (told v) p (pieces_of rest) joins.pieces
    ∙ sym (ap (λ o. option_map (told w) (before_pieces o (pieces_of rest))) is)
    ∙ sym (ap (λ t. option_map (told w) (pieces_of (cond t (37 ∷ b ∷ rest) (b ∷ rest)))) on)

pub percent_escaped : (b : ℕ) → b ≡ 37 → escape b ≡ Some (piece.Written (b ∷ []))
percent_escaped b is = ap escape is ∙ ap (λ x. Some (piece.Written (x ∷ []))) (sym is)

pub escape_fails : (w : Writing) (b : ℕ) (rest : List ℕ) → w.percent ≡ true → escape b ≡ None → meant w (b ∷ rest) ≡ None
escape_fails w b rest on is =
    ap (λ t. option_map (told w) (pieces_of (cond t (37 ∷ b ∷ rest) (b ∷ rest)))) on
    ∙ ap (λ o. option_map (told w) (before_pieces o (pieces_of rest))) is

pub percent_steps : (w : Writing) (b : ℕ) (rest : List ℕ) → w.percent ≡ false → b ≡ 37 → meant (record { pieces = w.pieces; last = w.last; percent = true }) rest ≡ meant w (b ∷ rest)
percent_steps w b rest off is =
    sym (ap (λ t. option_map (told w) (pieces_of (cond t (37 ∷ 37 ∷ rest) (37 ∷ rest)))) off) ∙ ap (λ x. meant w (x ∷ rest)) (sym is)

-- the loop along the bytes
same : (o : Option (List Piece)) → option_map (λ ps. [] ++ ps) o ≡ o
same None = refl
same (Some ps) = refl

pub begins : (w : Writing) (bs : List ℕ) → w.pieces.items ≡ [] → w.last ≡ Nothing → w.percent ≡ false → meant w bs ≡ pieces_of bs
begins w bs none last off =
    ap (λ t. option_map (told w) (pieces_of (cond t (37 ∷ bs) bs))) off
    ∙ (λ i. option_map (λ rest. none i ++ before (last i) rest) (pieces_of bs))
    ∙ same (pieces_of bs)

pub goes_on : {total : Option (List Piece)} (w v : Writing) (bs : List ℕ) (i b : ℕ) → i < length bs → b ≡ get_or bs i b
    → ((rest : List ℕ) → meant v rest ≡ meant w (b ∷ rest)) → meant w (drop i bs) ≡ total → meant v (drop (i + 1) bs) ≡ total
goes_on w v bs i b low is step so_far =
    let e : meant w (drop i bs) ≡ meant w (get_or bs i b ∷ drop (i + 1) bs) = at_drop_more (meant w) bs i b low in
    step (drop (i + 1) bs) ∙ ap (λ x. meant w (x ∷ drop (i + 1) bs)) is ∙ sym e ∙ so_far

pub fails : {total : Option (List Piece)} (w : Writing) (bs : List ℕ) (i b : ℕ) → i < length bs → b ≡ get_or bs i b
    → ((rest : List ℕ) → meant w (b ∷ rest) ≡ None) → meant w (drop i bs) ≡ total → None ≡ total
fails w bs i b low is step so_far =
    let e : meant w (drop i bs) ≡ meant w (get_or bs i b ∷ drop (i + 1) bs) = at_drop_more (meant w) bs i b low in
    sym (step (drop (i + 1) bs)) ∙ ap (λ x. meant w (x ∷ drop (i + 1) bs)) is ∙ sym e ∙ so_far

pub ends : {total : Option (List Piece)} (w : Writing) (bs : List ℕ) (i : ℕ) → length bs ≤ i → meant w (drop i bs) ≡ total → meant w [] ≡ total
ends w bs i all so_far = let e : meant w (drop i bs) ≡ meant w [] = at_drop_all (meant w) bs i all in sym e ∙ so_far
