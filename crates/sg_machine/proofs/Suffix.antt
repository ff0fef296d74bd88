-- What stands in a prefix before the dot of a valid item, and before that.
use Rattle.std.proofs.Common.{◌≡◌, ◌≢◌, ℕ, zero, suc, ◌+◌, ◌<◌, ◌≤◌, List, [], ◌∷◌, ◌++◌, length, take, refl, sym, ap, ◌∙◌, subst, arith, Some}
use Rattle.std.specs.Prelude.{slice_get, All}
use Rattle.std.proofs.lemmas.Option.{same_Some, slice_get_within, get_or_from_slice_get}
use Rattle.std.proofs.lemmas.List.Elements.{All-head, All-tail}
use Rattle.sg_grammar.specs.declared.grammar.Production.{Production}
use Rattle.sg_grammar.specs.Grammar.{Grammar, right_of, symbol_at}
use Rattle.sg_grammar.specs.WellFormed.{IsStart, IsRule, IsWellFormed}
use Rattle.sg_lalr.specs.ValidItems.{Valid, start, close, step}
use Rattle.sg_machine.specs.Machine.{pushed}
use Rattle.sg_machine.proofs.Lists.{same-head, same-tail, same-cons, take-at, pushed-append, pushed-onto, pushed-pushed, turned-twice}
use Rattle.sg_machine.proofs.Exact.{right_of-entry}

pub All-at : {A : Type 0} (P : A → Type 0) (xs : List A) (k : ℕ) (x : A) → All P xs → slice_get xs k ≡ Some x → P x
All-at P xs k x h is = subst P (get_or_from_slice_get xs k x x is) (h k x (slice_get_within xs k x is))

pub within-some : {A : Type 0} (xs : List A) (k : ℕ) → k < length xs → (x : A) × (slice_get xs k ≡ Some x)
within-some [] k l = absurd (omega (arith, l))
within-some (x ∷ xs) zero l = (x, refl)
within-some (x ∷ xs) (suc k) l = within-some xs k (omega (arith, l))

-- an item's production began behind a prefix
pub record BeganAt (g : Grammar) (w : List ℕ) (p d t : ℕ) : Type 0 where
  pub before : List ℕ
  pub is : w ≡ pushed (take d (right_of g p)) before
  pub begins : Valid g before p zero t

pub suffix : (g : Grammar) (w : List ℕ) (p d t : ℕ) → Valid g w p d t → BeganAt g w p d t
suffix g _ _ _ _ (start k p l e) = record { before = []; is = refl; begins = start k p l e }
suffix g _ _ _ _ (close w p d t X q u r v a b c f) = record { before = w; is = refl; begins = close w p d t X q u r v a b c f }
suffix g _ _ _ _ (step w p d t X v a) =
    let i = suffix g w p d t v in
    record {
      before = i.before;
      is = ap (λ z. X ∷ z) i.is ∙ sym (ap (λ z. pushed z i.before) (take-at (right_of g p) d X a) ∙ pushed-append (take d (right_of g p)) (X ∷ []) i.before);
      begins = i.begins;
    }

-- some item expects the left side of a rule that begins behind a prefix
pub expected : (g : Grammar) (w : List ℕ) (q u : ℕ) (r : Production) → Valid g w q zero u → slice_get g.rules q ≡ Some r → (p : ℕ) × (d : ℕ) × (t : ℕ) × Valid g w p d t × (symbol_at g p d ≡ Some r.left)
expected g _ _ _ r (start k p l e) is = absurd (let h = slice_get_within g.rules p r is in omega (arith, h, e))
expected g _ _ _ r (close w p d t X q u r' v a b c f) is =
    let same : r' ≡ r = same_Some r' r (sym b ∙ is) in
    (p, d, t, v, a ∙ ap Some (c ∙ ap (λ (z : Production). z.left) same))

-- a start production begins behind nothing
pub entry-begins : (g : Grammar) (w : List ℕ) (p t : ℕ) → Valid g w p zero t → length g.rules ≤ p → (k : ℕ) × (k < length g.entries) × (p ≡ length g.rules + k) × (w ≡ [])
entry-begins g _ _ _ (start k p l e) h = (k, l, e, refl)
entry-begins g _ _ _ (close w p d t X q u r v a b c f) h = absurd (let l = slice_get_within g.rules q r b in omega (arith, l, h))

-- and has no lookahead but the end
pub entry-looks : (g : Grammar) (w : List ℕ) (p d t : ℕ) → Valid g w p d t → length g.rules ≤ p → t ≡ 0
entry-looks g _ _ _ _ (start k p l e) h = refl
entry-looks g _ _ _ _ (close w p d t X q u r v a b c f) h = absurd (let l = slice_get_within g.rules q r b in omega (arith, l, h))
entry-looks g _ _ _ _ (step w p d t X v a) h = entry-looks g w p d t v h

-- the right side of the start production of an entry begins with its marker
starts-with : (first symbols k : ℕ) (right : List ℕ) → IsStart first symbols k right → slice_get right zero ≡ Some (suc k)
starts-with first symbols k [] h = absurd h
starts-with first symbols k (X ∷ Xs) h = ap Some h.0

pub marker-at : (g : Grammar) → IsWellFormed g → (k p : ℕ) → k < length g.entries → p ≡ length g.rules + k → symbol_at g p zero ≡ Some (suc k)
marker-at g f k p l e =
    let r = within-some g.entries k l in
    ap (λ z. slice_get z zero) (right_of-entry g k p r.0 e r.1) ∙ starts-with (suc (length g.entries)) g.symbols k r.0.right (f.entries k r.0 r.1)

-- no marker stands in a rule
pub no-marker : (g : Grammar) → IsWellFormed g → (p : ℕ) (r : Production) → slice_get g.rules p ≡ Some r → (k : ℕ) → k < length g.entries → All (λ X. X ≢ suc k) r.right
no-marker g f p r is k l i d low e =
    let h = All-at (IsRule (suc (length g.entries)) g.terminals g.symbols) g.rules p r f.rules is in
    let b = (h.2.1 i d low).0 in
    omega (arith, b, e, l)

-- ---- a string over a marker, cut before a right side

All-onto : (P : ℕ → Type 0) (x : ℕ) (xs : List ℕ) → P x → All P xs → All P (x ∷ xs)
All-onto P x xs p h zero d l = p
All-onto P x xs p h (suc k) d l = h k d (omega (arith, l))

All-pushed : (P : ℕ → Type 0) (xs s : List ℕ) → All P xs → All P s → All P (pushed xs s)
All-pushed P [] s h i = i
All-pushed P (x ∷ xs) s h i = All-pushed P xs (x ∷ s) (All-tail P x xs h) (All-onto P x s (All-head P x xs h) i)

cut-list : (M : ℕ) (xs ys w : List ℕ) → All (λ X. X ≢ M) ys → xs ++ M ∷ [] ≡ ys ++ w → (u : List ℕ) × (xs ≡ ys ++ u) × (w ≡ u ++ M ∷ [])
cut-list M xs [] w h e = (xs, refl, sym e)
cut-list M [] (y ∷ ys) w h e = absurd (All-head (λ X. X ≢ M) y ys h (sym (same-head M y [] (ys ++ w) e)))
cut-list M (x ∷ xs) (y ∷ ys) w h e =
    let i = cut-list M xs ys w (All-tail (λ X. X ≢ M) y ys h) (same-tail x y (xs ++ M ∷ []) (ys ++ w) e) in
    (i.0, same-cons x y xs (ys ++ i.0) (same-head x y (xs ++ M ∷ []) (ys ++ w) e) i.1, i.2)

pub cut : (M : ℕ) (Xs R w : List ℕ) → All (λ X. X ≢ M) R → pushed Xs (M ∷ []) ≡ pushed R w → (Ys : List ℕ) × (Xs ≡ Ys ++ R) × (w ≡ pushed Ys (M ∷ []))
cut M Xs R w h e =
    let tR = pushed R [] in
    let tX = pushed Xs [] in
    let same : tX ++ M ∷ [] ≡ tR ++ w = sym (pushed-onto Xs [] (M ∷ [])) ∙ (e ∙ pushed-onto R [] w) in
    let i = cut-list M tX tR w (All-pushed (λ X. X ≢ M) R [] h (λ k d l. absurd (omega (arith, l)))) same in
    let u = i.0 in (
      pushed u [],
      sym (turned-twice Xs) ∙ (ap (λ z. pushed z []) i.1 ∙ (pushed-append tR u [] ∙ (ap (λ z. pushed u z) (turned-twice R) ∙ pushed-onto u [] R))),
      i.2 ∙ sym (pushed-pushed u [] (M ∷ [])),
    )
