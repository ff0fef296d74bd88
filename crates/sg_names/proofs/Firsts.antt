-- First places in lists.
use Rattle.std.proofs.Common.{◌≡◌, ℕ, ◌+◌, ◌<◌, ◌≤◌, Bool, true, false, cond, List, length, drop, get_or, Option, Some, None, option_map, if◌then◌else◌, refl, sym, ap, ◌∙◌}
use Rattle.std.specs.List.{position, position_from}
use Rattle.std.proofs.lemmas.List.{at_drop_more, at_drop_all}
use Rattle.sg_ast.specs.FirstFault.{or_else}
use Rattle.sg_ast.proofs.FirstLaws.{or_none}
use Rattle.std.proofs.lemmas.Iterator.Adapters.{position_from-zero}

-- the search from the beginning
pub from_zero : {A : Type 0} (p : A → Bool) (xs : List A) → position p xs ≡ position_from p 0 xs
from_zero p xs = position_from-zero p xs

step : {A : Type 0} (p : A → Bool) (xs : List A) (i : ℕ) (x : A) → i < length xs → x ≡ get_or xs i x
    → position_from p i (drop i xs) ≡ cond (p x) (Some i) (position_from p (i + 1) (drop (i + 1) xs))
step p xs i x low is =
    let e : position_from p i (drop i xs) ≡ cond (p (get_or xs i x)) (Some i) (position_from p (i + 1) (drop (i + 1) xs)) = at_drop_more (λ ys. position_from p i ys) xs i x low in
    e ∙ ap (λ y. cond (p y) (Some i) (position_from p (i + 1) (drop (i + 1) xs))) (sym is)

pub passes : {A : Type 0} {o : Option ℕ} (p : A → Bool) (xs : List A) (i : ℕ) (x : A) → i < length xs → x ≡ get_or xs i x → p x ≡ true
    → position_from p i (drop i xs) ≡ o → Some i ≡ o
passes p xs i x low is e so_far = ap (λ b. cond b (Some i) (position_from p (i + 1) (drop (i + 1) xs))) (sym e) ∙ sym (step p xs i x low is) ∙ so_far

pub fails : {A : Type 0} {o : Option ℕ} (p : A → Bool) (xs : List A) (i : ℕ) (x : A) → i < length xs → x ≡ get_or xs i x → p x ≡ false
    → position_from p i (drop i xs) ≡ o → position_from p (i + 1) (drop (i + 1) xs) ≡ o
fails p xs i x low is e so_far = ap (λ b. cond b (Some i) (position_from p (i + 1) (drop (i + 1) xs))) (sym e) ∙ sym (step p xs i x low is) ∙ so_far

pub ends : {A : Type 0} {o : Option ℕ} (p : A → Bool) (xs : List A) (i : ℕ) → length xs ≤ i → position_from p i (drop i xs) ≡ o → None ≡ o
ends p xs i all so_far =
    let e : position_from p i (drop i xs) ≡ None = at_drop_all (λ ys. position_from p i ys) xs i all in
    sym e ∙ so_far

-- an index of the elements so far, with one more
go_on : {X : Type 0} (c : ℕ → X) (b : Bool) (i : ℕ) (o : Option X) (rest : Option ℕ) → or_else (or_else o (if b then Some (c i) else None)) (option_map c rest) ≡ or_else o (option_map c (cond b (Some i) rest))
go_on c b i (Some x) rest = refl
go_on c true i None rest = refl
go_on c false i None rest = refl

pub indexed_more : {A X : Type 0} {total : Option X} (p : A → Bool) (c : ℕ → X) (now next : Option X) (xs : List A) (i : ℕ) (x : A) → i < length xs → x ≡ get_or xs i x
    → next ≡ or_else now (if p x then Some (c i) else None)
    → or_else now (option_map c (position_from p i (drop i xs))) ≡ total → or_else next (option_map c (position_from p (i + 1) (drop (i + 1) xs))) ≡ total
indexed_more p c now next xs i x low is went so_far =
    ap (λ o. or_else o (option_map c (position_from p (i + 1) (drop (i + 1) xs)))) went
    ∙ go_on c (p x) i now (position_from p (i + 1) (drop (i + 1) xs))
    ∙ ap (λ o. or_else now (option_map c o)) (sym (step p xs i x low is)) ∙ so_far

pub indexed_all : {A X : Type 0} {total : Option X} (p : A → Bool) (c : ℕ → X) (now : Option X) (xs : List A) (i : ℕ) → length xs ≤ i
    → or_else now (option_map c (position_from p i (drop i xs))) ≡ total → now ≡ total
indexed_all p c now xs i all so_far =
    let e : position_from p i (drop i xs) ≡ None = at_drop_all (λ ys. position_from p i ys) xs i all in
    sym (or_none now) ∙ ap (λ o. or_else now (option_map c o)) (sym e) ∙ so_far

pub indexed_none : {A X : Type 0} (p : A → Bool) (c : ℕ → X) (now : Option X) (xs : List A) → now ≡ None → or_else now (option_map c (position_from p 0 xs)) ≡ option_map c (position p xs)
indexed_none p c now xs none = ap (λ o. or_else o (option_map c (position_from p 0 xs))) none ∙ ap (option_map c) (sym (from_zero p xs))

pub indexed_first : {A X : Type 0} (p : A → Bool) (c : ℕ → X) (now : Option X) (xs : List A) → or_else now (option_map c (position_from p 0 xs)) ≡ or_else now (option_map c (position p xs))
indexed_first p c now xs = ap (λ o. or_else now (option_map c o)) (sym (from_zero p xs))
