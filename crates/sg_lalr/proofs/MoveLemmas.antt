-- Lemmas on the symbols behind the dots of items.
use Rattle.std.proofs.Common.{◌≡◌, ℕ, zero, suc, ◌^◌, ◌<◌, ◌≤◌, Bool, true, false, cond, List, [], ◌∷◌, ◌++◌, length, get_or, map, refl, ap, ◌∙◌, subst, arith, Option, Some, None}
use Rattle.std.specs.Prelude.{All, slice_get, option_map, unwrap_or, filter, IfSome}
use Rattle.std.proofs.lemmas.List.Elements.{All-append}
use Rattle.std.proofs.lemmas.Option.{slice_get_within, slice_get-get_or, same_Some, none-some}
use Rattle.sg_grammar.specs.declared.grammar.Production.{Production}
use Rattle.sg_grammar.specs.Grammar.{Grammar, right_of, symbol_at}
use Rattle.sg_grammar.specs.WellFormed.{IsStart, IsWellFormed}
use Rattle.sg_lalr.specs.Items.{Item, symbol_of, HasNext, moved, advance, is_before}

slice_get-in : {X : Type 0} (P : X → Type 0) (xs : List X) (n : ℕ) (x : X) → All P xs → slice_get xs n ≡ Some x → P x
slice_get-in P [] n x h is = absurd (none-some x is)
slice_get-in P (y ∷ xs) zero x h is = subst P (same_Some y x is) (h 0 y (omega arith))
slice_get-in P (y ∷ xs) (suc n) x h is = slice_get-in P xs n x (λ k d l. h (suc k) d (omega (arith, l))) is

-- a right side of a grammar is in range
abbrev pub IsInRange : ℕ → List ℕ → Type 0
IsInRange symbols right = (length right ≤ 2 ^ 30) × All (λ X. X < symbols) right

All-cons : (P : ℕ → Type 0) (x : ℕ) (xs : List ℕ) → P x → All P xs → All P (x ∷ xs)
All-cons P x xs p h zero d l = p
All-cons P x xs p h (suc k) d l = h k d (omega (arith, l))

start-within : (first symbols k : ℕ) (right : List ℕ) → suc k < symbols → IsStart first symbols k right → IsInRange symbols right
start-within first symbols k [] l h = absurd h
start-within first symbols k (X ∷ Xs) l h =
    ((let m = h.1 in omega (arith, m)), All-cons (λ Y. Y < symbols) X Xs (let e = h.0 in omega (arith, l, e)) (λ i d m. (h.2 i d m).1))

rights : (g : Grammar) → IsWellFormed g → All (λ (r : Production). IsInRange g.symbols r.right) (g.rules ++ g.entries)
rights g w =
    All-append (λ (r : Production). IsInRange g.symbols r.right) g.rules g.entries (λ k d l. let h = (w.rules k d l).2 in (h.0, λ i e m. (h.1 i e m).1))
    (λ k d l. start-within (suc (length g.entries)) g.symbols k (get_or g.entries k d).right (let a = w.ends in let b = w.within in omega (arith, l, a, b)) (w.entries k (get_or g.entries k d) (slice_get-get_or g.entries k d l)))

pub right_of-fits : (g : Grammar) (p : ℕ) → IsWellFormed g → IsInRange g.symbols (right_of g p)
right_of-fits g p w = by (slice_get (g.rules ++ g.entries) p) refl
  where
    by : (o : Option Production) → slice_get (g.rules ++ g.entries) p ≡ o → IsInRange g.symbols (unwrap_or (option_map (λ (r : Production). r.right) o) [])
    by None e = (omega arith, λ k d l. absurd (omega (arith, l)))
    by (Some r) e = slice_get-in (λ (s : Production). IsInRange g.symbols s.right) (g.rules ++ g.entries) p r (rights g w) e

pub symbol-within : (g : Grammar) → IsWellFormed g → (p d X : ℕ) → symbol_at g p d ≡ Some X → X < g.symbols
symbol-within g w p d X is = slice_get-in (λ Y. Y < g.symbols) (right_of g p) d X (right_of-fits g p w).1 is

pub dot-within : (g : Grammar) → IsWellFormed g → (p d X : ℕ) → symbol_at g p d ≡ Some X → d < 2 ^ 30
dot-within g w p d X is = let f = (right_of-fits g p w).0 in let l = slice_get_within (right_of g p) d X is in omega (arith, f, l)

pub if_some : {A : Type 0} (o : Option A) (P : A → Type 0) → ((x : A) → o ≡ Some x → P x) → IfSome o P
if_some None P h = tt
if_some (Some x) P h = h x refl

-- one item more
filter-by : (p : Item → Bool) (x : Item) (xs ys rest : List Item) → rest ≡ filter p xs ++ ys → (b : Bool) → cond b (x ∷ rest) rest ≡ cond b (x ∷ filter p xs) (filter p xs) ++ ys
filter-by p x xs ys rest e true = ap (λ l. x ∷ l) e
filter-by p x xs ys rest e false = e

filter-append : (p : Item → Bool) (xs ys : List Item) → filter p (xs ++ ys) ≡ filter p xs ++ filter p ys
filter-append p [] ys = refl
filter-append p (x ∷ xs) ys = filter-by p x xs (filter p ys) (filter p (xs ++ ys)) (filter-append p xs ys) (p x)

map-append : (xs ys : List Item) → map moved (xs ++ ys) ≡ map moved xs ++ map moved ys
map-append [] ys = refl
map-append (x ∷ xs) ys = ap (λ l. moved x ∷ l) (map-append xs ys)

pub advance-append : (g : Grammar) (X : ℕ) (xs ys : List Item) → advance g X (xs ++ ys) ≡ advance g X xs ++ advance g X ys
advance-append g X xs ys = ap (map moved) (filter-append (λ i. is_before X (symbol_of g i)) xs ys) ∙ map-append (filter (λ i. is_before X (symbol_of g i)) xs) (filter (λ i. is_before X (symbol_of g i)) ys)

pub advance-one : (g : Grammar) (X : ℕ) (i : Item) → is_before X (symbol_of g i) ≡ true → advance g X (i ∷ []) ≡ moved i ∷ []
advance-one g X i e = ap (λ b. map moved (cond b (i ∷ []) [])) e

pub advance-none : (g : Grammar) (X : ℕ) (i : Item) → is_before X (symbol_of g i) ≡ false → advance g X (i ∷ []) ≡ []
advance-none g X i e = ap (λ b. map moved (cond b (i ∷ []) [])) e

pub next-within : (g : Grammar) → IsWellFormed g → (items : List Item) (X : ℕ) → HasNext g items X → X < g.symbols
next-within g w items X h = symbol-within g w h.0.production h.0.dot X h.2
