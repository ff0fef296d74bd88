-- What loops along a list keep: what was found, and what is left of the list.
use Rattle.std.proofs.Common.{◌≡◌, ℕ, ◌+◌, ◌<◌, ◌≤◌, List, [], ◌∷◌, ◌++◌, length, map, flat_map, fold, drop, get_or, Option, Some, None, unwrap_or, sym, ap, ◌∙◌, append_assoc, append-nil}
use Rattle.std.proofs.lemmas.List.{at_drop_more, at_drop_all}
use Rattle.std.proofs.lemmas.Grind.{fold-append}
use Rattle.sg_ast.specs.FirstFault.{or_else, first}

-- a list that grows by what each element gives
pub list_more : {A B C : Type 0} {total : List C} (view : A → B) (f : B → List C) (front after : List C) (xs : List A) (i : ℕ) (x : A) → i < length xs → x ≡ get_or xs i x
    → after ≡ front ++ f (view x) → front ++ flat_map f (map view (drop i xs)) ≡ total → after ++ flat_map f (map view (drop (i + 1) xs)) ≡ total
list_more view f front after xs i x low is grown so_far =
    let e : flat_map f (map view (drop i xs)) ≡ f (view (get_or xs i x)) ++ flat_map f (map view (drop (i + 1) xs)) = at_drop_more (λ ys. flat_map f (map view ys)) xs i x low in
    ap (λ l. l ++ flat_map f (map view (drop (i + 1) xs))) (grown ∙ ap (λ y. front ++ f (view y)) is)
    ∙ append_assoc front (f (view (get_or xs i x))) (flat_map f (map view (drop (i + 1) xs))) ∙ ap (λ l. front ++ l) (sym e) ∙ so_far

pub list_all : {A B C : Type 0} {total : List C} (view : A → B) (f : B → List C) (front : List C) (xs : List A) (i : ℕ) → length xs ≤ i
    → front ++ flat_map f (map view (drop i xs)) ≡ total → front ≡ total
list_all view f front xs i all so_far =
    let e : flat_map f (map view (drop i xs)) ≡ [] = at_drop_all (λ ys. flat_map f (map view ys)) xs i all in
    sym (append-nil front) ∙ ap (λ l. front ++ l) (sym e) ∙ so_far

-- a list that grows by one for each element
pub map_more : {A C : Type 0} {total : List C} (f : A → C) (front after : List C) (xs : List A) (i : ℕ) (x : A) → i < length xs → x ≡ get_or xs i x
    → after ≡ front ++ f x ∷ [] → front ++ map f (drop i xs) ≡ total → after ++ map f (drop (i + 1) xs) ≡ total
map_more f front after xs i x low is grown so_far =
    let e : map f (drop i xs) ≡ f (get_or xs i x) ∷ map f (drop (i + 1) xs) = at_drop_more (λ ys. map f ys) xs i x low in
    ap (λ l. l ++ map f (drop (i + 1) xs)) (grown ∙ ap (λ y. front ++ f y ∷ []) is)
    ∙ append_assoc front (f (get_or xs i x) ∷ []) (map f (drop (i + 1) xs)) ∙ ap (λ l. front ++ l) (sym e) ∙ so_far

pub map_all : {A C : Type 0} {total : List C} (f : A → C) (front : List C) (xs : List A) (i : ℕ) → length xs ≤ i
    → front ++ map f (drop i xs) ≡ total → front ≡ total
map_all f front xs i all so_far =
    let e : map f (drop i xs) ≡ [] = at_drop_all (λ ys. map f ys) xs i all in
    sym (append-nil front) ∙ ap (λ l. front ++ l) (sym e) ∙ so_far

-- a state that goes on by what each element gives
pub fold_more : {A B C S : Type 0} {total : S} (view : A → B) (f : B → List C) (step : S → C → S) (now next : S) (xs : List A) (i : ℕ) (x : A) → i < length xs → x ≡ get_or xs i x
    → next ≡ fold step now (f (view x)) → fold step now (flat_map f (map view (drop i xs))) ≡ total → fold step next (flat_map f (map view (drop (i + 1) xs))) ≡ total
fold_more view f step now next xs i x low is went so_far =
    let e : fold step now (flat_map f (map view (drop i xs))) ≡ fold step now (f (view (get_or xs i x)) ++ flat_map f (map view (drop (i + 1) xs))) = at_drop_more (λ ys. fold step now (flat_map f (map view ys))) xs i x low in
    ap (λ s. fold step s (flat_map f (map view (drop (i + 1) xs)))) (went ∙ ap (λ y. fold step now (f (view y))) is)
    ∙ sym (fold-append step now (f (view (get_or xs i x))) (flat_map f (map view (drop (i + 1) xs)))) ∙ sym e ∙ so_far

pub fold_all : {A B C S : Type 0} {total : S} (view : A → B) (f : B → List C) (step : S → C → S) (now : S) (xs : List A) (i : ℕ) → length xs ≤ i
    → fold step now (flat_map f (map view (drop i xs))) ≡ total → now ≡ total
fold_all view f step now xs i all so_far =
    let e : fold step now (flat_map f (map view (drop i xs))) ≡ now = at_drop_all (λ ys. fold step now (flat_map f (map view ys))) xs i all in
    sym e ∙ so_far

-- what was not found is still to come
at_first : {A B X : Type 0} (view : A → B) (f : B → Option X) (xs : List A) (i : ℕ) (x : A) → i < length xs → x ≡ get_or xs i x
    → first f (map view (drop i xs)) ≡ or_else (f (view x)) (first f (map view (drop (i + 1) xs)))
at_first view f xs i x low is =
    let e : first f (map view (drop i xs)) ≡ or_else (f (view (get_or xs i x))) (first f (map view (drop (i + 1) xs))) = at_drop_more (λ ys. first f (map view ys)) xs i x low in
    e ∙ ap (λ y. or_else (f (view y)) (first f (map view (drop (i + 1) xs)))) (sym is)

pub root_found : {A B X : Type 0} {total : X} (view : A → B) (f : B → Option X) (d : X) (xs : List A) (i : ℕ) (x : A) (y : X) → i < length xs → x ≡ get_or xs i x → Some y ≡ f (view x)
    → unwrap_or (first f (map view (drop i xs))) d ≡ total → y ≡ total
root_found view f d xs i x y low is found so_far =
    ap (λ o. unwrap_or (or_else o (first f (map view (drop (i + 1) xs)))) d) found ∙ ap (λ o. unwrap_or o d) (sym (at_first view f xs i x low is)) ∙ so_far

pub root_passed : {A B X : Type 0} {total : X} (view : A → B) (f : B → Option X) (d : X) (xs : List A) (i : ℕ) (x : A) → i < length xs → x ≡ get_or xs i x → None ≡ f (view x)
    → unwrap_or (first f (map view (drop i xs))) d ≡ total → unwrap_or (first f (map view (drop (i + 1) xs))) d ≡ total
root_passed view f d xs i x low is none so_far =
    ap (λ o. unwrap_or (or_else o (first f (map view (drop (i + 1) xs)))) d) none ∙ ap (λ o. unwrap_or o d) (sym (at_first view f xs i x low is)) ∙ so_far

pub root_missing : {A B X : Type 0} {total : X} (view : A → B) (f : B → Option X) (d : X) (xs : List A) (i : ℕ) → length xs ≤ i
    → unwrap_or (first f (map view (drop i xs))) d ≡ total → d ≡ total
root_missing view f d xs i all so_far =
    let e : first f (map view (drop i xs)) ≡ None = at_drop_all (λ ys. first f (map view ys)) xs i all in
    ap (λ o. unwrap_or o d) (sym e) ∙ so_far
