-- What strings become, and the tokens that they derive.
use Rattle.std.proofs.Common.{◌≡◌, ℕ, suc, ◌+◌, ◌<◌, List, [], ◌∷◌, ◌++◌, refl, sym, ap, ap₂, subst, ◌∙◌, Some, append_assoc, append-nil}
use Rattle.std.specs.Prelude.{All, map, slice_get}
use Rattle.std.proofs.lemmas.List.{map-append}
use Rattle.std.proofs.lemmas.List.Elements.{All-nil, All-cons, All-head, All-tail}
use Rattle.sg_grammar.specs.Grammar.{Grammar}
use Rattle.sg_grammar.specs.declared.grammar.Production.{Production}
use Rattle.sg_grammar.specs.Derives.{Token, Derives, plain}
use Rattle.sg_grammar.specs.Derives as derives
use Rattle.sg_samples.specs.Expands.{Expands, AreTerminals}
use Rattle.sg_samples.specs.Expands.Expands.{nothing, stays, under}
use Rattle.sg_samples.specs.Samples.{DerivesTokens}

-- each element of two lists, one behind the other
pub all_parts : {A : Type 0} (P : A → Type 0) (xs ys : List A) → All P (xs ++ ys) → All P xs × All P ys
all_parts P [] ys h = (All-nil P, h)
all_parts P (x ∷ xs) ys h = let t = all_parts P xs ys (All-tail P x (xs ++ ys) h) in
    (All-cons P x xs (All-head P x (xs ++ ys) h) t.0, t.1)

abbrev terminals_of : List Token → List ℕ
terminals_of ts = map (λ (t : Token). t.terminal) ts

abbrev token_of : ℕ → Token
token_of X = record { terminal = X; text = [] }

abbrev DerivesThese : Grammar → List ℕ → List ℕ → Type 0
DerivesThese g Xs Ys = (ts : List Token) × (map (λ (t : Token). t.terminal) ts ≡ Ys) × DerivesTokens g Xs ts

pub terminals_derived : (g : Grammar) (Xs Ys : List ℕ) → Expands g Xs Ys → AreTerminals g Ys → DerivesThese g Xs Ys
terminals_derived g _ _ nothing low = ([], refl, ([], 0, derives.nothing))
terminals_derived g _ _ (stays X Xs Ys rest) low =
    let i = terminals_derived g Xs Ys rest (All-tail (λ Y. Y < g.terminals) X Ys low) in
    let l = All-head (λ Y. Y < g.terminals) X Ys low in
    (token_of X ∷ i.0, ap (λ ys. X ∷ ys) i.1, (tt ∷ i.2.0, suc i.2.1, derives.token (token_of X) X Xs i.0 i.2.0 i.2.1 l refl i.2.2))
terminals_derived g _ _ (under p r X Xs Us Ys all is same sides rest joined) low =
    let parts = all_parts (λ Y. Y < g.terminals) Us Ys (subst (AreTerminals g) joined low) in
    let s = terminals_derived g r.right Us sides parts.0 in
    let i = terminals_derived g Xs Ys rest parts.1 in (
      s.0 ++ i.0,
      map-append (λ (t : Token). t.terminal) s.0 i.0 ∙ ap₂ (λ us ys. us ++ ys) s.1 i.1 ∙ sym joined,
      (tt ∷ i.2.0, suc (s.2.1 + i.2.1), derives.under p r X Xs s.0 i.0 (s.0 ++ i.0) s.2.0 i.2.0 s.2.1 i.2.1 (s.2.1 + i.2.1) is same s.2.2 i.2.2 refl refl),
    )

abbrev pub DerivesSome : Grammar → List ℕ → Type 0
DerivesSome g Xs = (ts : List Token) × DerivesTokens g Xs ts

-- a symbol and what stands behind it
pub derive_both : (g : Grammar) (X : ℕ) (Xs : List ℕ) → DerivesSome g (X ∷ []) → DerivesSome g Xs → DerivesSome g (X ∷ Xs)
derive_both g X Xs one rest = by one.0 one.1.0 one.1.1 one.1.2
  where
    by : (ts : List Token) (vs : List (Unit {0})) (n : ℕ) → Derives g plain (X ∷ []) ts vs n → DerivesSome g (X ∷ Xs)
    by _ _ _ (derives.token x _ _ ts vs n l e d) =
        (x ∷ rest.0, (tt ∷ rest.1.0, suc rest.1.1, derives.token x X Xs rest.0 rest.1.0 rest.1.1 l e rest.1.2))
    by _ _ _ (derives.under p r _ _ us ts all ws vs m n k is same sides d e f) =
        (us ++ rest.0, (tt ∷ rest.1.0, suc (m + rest.1.1), derives.under p r X Xs us rest.0 (us ++ rest.0) ws rest.1.0 m rest.1.1 (m + rest.1.1) is same sides rest.1.2 refl refl))

pub derive_under : (g : Grammar) (p : ℕ) (r : Production) → slice_get g.rules p ≡ Some r → DerivesSome g r.right → DerivesSome g (r.left ∷ [])
derive_under g p r is d = (d.0 ++ [], (tt ∷ [], suc (d.1.1 + 0), derives.under p r r.left [] d.0 [] (d.0 ++ []) d.1.0 [] d.1.1 0 (d.1.1 + 0) is refl d.1.2 derives.nothing refl refl))

-- two strings, one behind the other
pub expand_both : (g : Grammar) (Xs Ys Us Vs : List ℕ) → Expands g Xs Ys → Expands g Us Vs → Expands g (Xs ++ Us) (Ys ++ Vs)
expand_both g _ _ Us Vs nothing more = more
expand_both g _ _ Us Vs (stays X Xs Ys rest) more = stays X (Xs ++ Us) (Ys ++ Vs) (expand_both g Xs Ys Us Vs rest more)
expand_both g _ _ Us Vs (under p r X Xs Ws Ys all is same sides rest joined) more =
    under p r X (Xs ++ Us) Ws (Ys ++ Vs) (all ++ Vs) is same sides (expand_both g Xs Ys Us Vs rest more) (ap (λ t. t ++ Vs) joined ∙ append_assoc Ws Ys Vs)

pub expand_under : (g : Grammar) (p : ℕ) (r : Production) (Ys : List ℕ) → slice_get g.rules p ≡ Some r → Expands g r.right Ys → Expands g (r.left ∷ []) Ys
expand_under g p r Ys is e = under p r r.left [] Ys [] Ys is refl e nothing (sym (append-nil Ys))
