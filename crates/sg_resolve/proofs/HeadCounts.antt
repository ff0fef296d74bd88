-- First definitions: which names they have, and how many there are.
use Rattle.std.proofs.Common.{◌≡◌, ℕ, suc, ◌+◌, ◌<◌, ◌≤◌, Bool, true, false, cond, not, ◌||◌, List, [], ◌∷◌, ◌++◌, length, map, fold, get_or, slice_get, Some, bytes_eq, refl, sym, ap, ◌∙◌, append_assoc, append-nil, length-append, arith}
use Rattle.std.specs.List.{AllByRecursion, count_by, filter, flat_map, list_any}
use Rattle.std.proofs.lemmas.List.Sums.{fold-append, passes_at_first}
use Rattle.std.proofs.lemmas.Option.{slice_get_within, get_or_from_slice_get}
use Rattle.std.proofs.lemmas.List.Elements.{filter-append}
use Rattle.std.proofs.lemmas.List.{map-append}
use Rattle.std.proofs.lemmas.Bool.{or_left}
use Rattle.sg_kinds.specs.Values.{Bytes}
use Rattle.sg_kinds.proofs.Elementary.{or_right, bytes_is}
use Rattle.sg_ast.specs.Declarations as decl
use Rattle.sg_ast.specs.Declarations.{Decl}
use Rattle.sg_names.specs.declared.heads.Head.{Head}
use Rattle.sg_names.specs.Heads.{is_head, with_head, number_in, base_heads}
use Rattle.sg_names.specs.Names.{phylum_defined, phyla_in}
use Rattle.sg_counts.specs.Crowds.{different, different_behind}
use Rattle.sg_counts.specs.Limits.{is_base, phyla_of}
use Rattle.sg_resolve.proofs.Counting.{equal_bytes, one_if, passes, fails, count-cons, count-append}

-- a name that has a definition
abbrev pub has : List Head → Bytes → Bool
has heads n = list_any (is_head n) heads

any-append : {X : Type 0} (p : X → Bool) (xs ys : List X) → list_any p (xs ++ ys) ≡ (list_any p xs || list_any p ys)
any-append p [] ys = refl
any-append p (x ∷ xs) ys = by (p x) (any-append p xs ys)
  where
    by : (b : Bool) → list_any p (xs ++ ys) ≡ (list_any p xs || list_any p ys) → (b || list_any p (xs ++ ys)) ≡ ((b || list_any p xs) || list_any p ys)
    by true e = refl
    by false e = e

-- one more definition keeps those before, and is there
with_head_keeps : (heads : List Head) (h : Head) (n : Bytes) → has heads n ≡ true → has (with_head heads h) n ≡ true
with_head_keeps heads h n e = by (list_any (is_head h.name) heads)
  where
    by : (b : Bool) → has (cond b heads (heads ++ h ∷ [])) n ≡ true
    by true = e
    by false = any-append (is_head n) heads (h ∷ []) ∙ or_left (has heads n) (has (h ∷ []) n) e

with_head_has : (heads : List Head) (h : Head) → has (with_head heads h) h.name ≡ true
with_head_has heads h = by (list_any (is_head h.name) heads) refl
  where
    by : (b : Bool) → list_any (is_head h.name) heads ≡ b → has (cond b heads (heads ++ h ∷ [])) h.name ≡ true
    by true e = e
    by false e = any-append (is_head h.name) heads (h ∷ []) ∙ or_right (has heads h.name) (has (h ∷ []) h.name) (or_left (bytes_eq h.name h.name) false (equal_bytes h.name h.name refl))

pub fold_keeps : (heads defs : List Head) (n : Bytes) → has heads n ≡ true → has (fold with_head heads defs) n ≡ true
fold_keeps heads [] n e = e
fold_keeps heads (h ∷ defs) n e = fold_keeps (with_head heads h) defs n (with_head_keeps heads h n e)

pub fold_has : (heads defs : List Head) → AllByRecursion (λ (h : Head). has (fold with_head heads defs) h.name ≡ true) defs
fold_has heads [] = tt
fold_has heads (h ∷ defs) = (fold_keeps (with_head heads h) defs h.name (with_head_has heads h), fold_has (with_head heads h) defs)

-- first definitions stand in front
pub fold_front : (heads defs : List Head) → (new : List Head) × (fold with_head heads defs ≡ heads ++ new)
fold_front heads [] = ([], sym (append-nil heads))
fold_front heads (h ∷ defs) = by (list_any (is_head h.name) heads) (fold_front heads defs) (fold_front (heads ++ h ∷ []) defs)
  where
    by : (b : Bool) → (new : List Head) × (fold with_head heads defs ≡ heads ++ new) → (new : List Head) × (fold with_head (heads ++ h ∷ []) defs ≡ (heads ++ h ∷ []) ++ new) → (new : List Head) × (fold with_head (cond b heads (heads ++ h ∷ [])) defs ≡ heads ++ new)
    by true old longer = old
    by false old longer = (h ∷ longer.0, longer.1 ∙ append_assoc heads (h ∷ []) longer.0)

-- each name has one definition
none_there : (n : Bytes) (heads : List Head) → has heads n ≡ false → count_by (is_head n) heads ≤ 0
none_there n [] e = omega arith
none_there n (h ∷ heads) e = by (is_head n h) refl e (λ none. none_there n heads none)
  where
    by : (b : Bool) → is_head n h ≡ b → (b || has heads n) ≡ false → (has heads n ≡ false → count_by (is_head n) heads ≤ 0) → count_by (is_head n) (h ∷ heads) ≤ 0
    by true is none others = absurd (cc none)
    by false is none others =
        let rest : count_by (is_head n) heads ≤ 0 = others none in
        let split : count_by (is_head n) (h ∷ heads) ≡ one_if (is_head n h) + count_by (is_head n) heads = count-cons (is_head n) h heads in
        let zero : one_if (is_head n h) ≡ 0 = fails (is_head n h) is in
        omega (arith, rest, split, zero)

with_head_once : (n : Bytes) (heads : List Head) (h : Head) → count_by (is_head n) heads ≤ 1 → count_by (is_head n) (with_head heads h) ≤ 1
with_head_once n heads h once = by (list_any (is_head h.name) heads) refl
  where
    split : count_by (is_head n) (heads ++ h ∷ []) ≡ count_by (is_head n) heads + (one_if (is_head n h) + 0)
    split = count-append (is_head n) heads (h ∷ []) ∙ ap (λ k. count_by (is_head n) heads + k) (count-cons (is_head n) h [])

    more : has heads h.name ≡ false → (b : Bool) → is_head n h ≡ b → count_by (is_head n) (heads ++ h ∷ []) ≤ 1
    more new true is =
        let name : n ≡ h.name = bytes_is n h.name is in
        let none : count_by (is_head n) heads ≤ 0 = none_there n heads (ap (has heads) name ∙ new) in
        let one : one_if (is_head n h) ≡ 1 = passes (is_head n h) is in
        omega (arith, none, one, split)
    more new false is =
        let zero : one_if (is_head n h) ≡ 0 = fails (is_head n h) is in
        omega (arith, once, zero, split)

    by : (b : Bool) → has heads h.name ≡ b → count_by (is_head n) (cond b heads (heads ++ h ∷ [])) ≤ 1
    by true is = once
    by false is = more is (is_head n h) refl

pub fold_once : (n : Bytes) (heads defs : List Head) → count_by (is_head n) heads ≤ 1 → count_by (is_head n) (fold with_head heads defs) ≤ 1
fold_once n heads [] once = once
fold_once n heads (h ∷ defs) once = fold_once n (with_head heads h) defs (with_head_once n heads h once)

pub phyla_once : (ds : List Decl) (n : Bytes) → count_by (is_head n) (phyla_in ds) ≤ 1
phyla_once ds n =
    let all : count_by (is_head n) (fold with_head [] (base_heads ++ flat_map phylum_defined ds)) ≤ 1 = fold_once n [] (base_heads ++ flat_map phylum_defined ds) (omega arith) in
    rw (fold-append with_head [] base_heads (flat_map phylum_defined ds)) at all

-- the names that definitions have, but for those of the base phyla
abbrev others : List Head → List Bytes
others defs = filter (λ n. not (is_base n)) (map (λ (h : Head). h.name) defs)

seen_more : (before : List Bytes) (heads : List Head) (m : Bytes) → ((n : Bytes) → list_any (λ y. bytes_eq y n) before ≡ true → has heads n ≡ true) → has heads m ≡ true
    → (n : Bytes) → list_any (λ y. bytes_eq y n) (before ++ m ∷ []) ≡ true → has heads n ≡ true
seen_more before heads m seen here n e = by (list_any (λ y. bytes_eq y n) before) refl (bytes_eq m n) refl (sym (any-append (λ y. bytes_eq y n) before (m ∷ [])) ∙ e)
  where
    by : (a : Bool) → list_any (λ y. bytes_eq y n) before ≡ a → (b : Bool) → bytes_eq m n ≡ b → (a || (b || false)) ≡ true → has heads n ≡ true
    by true is b named any = seen n is
    by false is true named any = ap (has heads) (sym (bytes_is m n named)) ∙ here
    by false is false named any = absurd (cc any)

-- no more first definitions than those before and the different names
few : (before : List Bytes) (heads defs : List Head) → ((n : Bytes) → is_base n ≡ true → has heads n ≡ true) → ((n : Bytes) → list_any (λ y. bytes_eq y n) before ≡ true → has heads n ≡ true)
    → length (fold with_head heads defs) ≤ length heads + length (different_behind bytes_eq before (others defs))
few before heads [] base seen = omega arith
few before heads (h ∷ defs) base seen =
    by (has heads h.name) refl (is_base h.name) refl (few before heads defs base seen)
    (λ there. few (before ++ h.name ∷ []) heads defs base (seen_more before heads h.name seen there))
    (few (before ++ h.name ∷ []) (heads ++ h ∷ []) defs (λ n e. kept n (base n e)) (seen_more before (heads ++ h ∷ []) h.name (λ n e. kept n (seen n e)) last))
  where
    kept : (n : Bytes) → has heads n ≡ true → has (heads ++ h ∷ []) n ≡ true
    kept n e = any-append (is_head n) heads (h ∷ []) ∙ or_left (has heads n) (has (h ∷ []) n) e

    last : has (heads ++ h ∷ []) h.name ≡ true
    last = any-append (is_head h.name) heads (h ∷ []) ∙ or_right (has heads h.name) (has (h ∷ []) h.name) (or_left (bytes_eq h.name h.name) false (equal_bytes h.name h.name refl))

    old : (a : Bool) → length (fold with_head heads defs) ≤ length heads + length (different_behind bytes_eq (before ++ h.name ∷ []) (others defs))
        → length (fold with_head heads defs) ≤ length heads + length (cond a (different_behind bytes_eq (before ++ h.name ∷ []) (others defs)) (h.name ∷ different_behind bytes_eq (before ++ h.name ∷ []) (others defs)))
    old true rest = rest
    old false rest = omega (arith, rest)

    new : has heads h.name ≡ false → (a : Bool) → list_any (λ y. bytes_eq y h.name) before ≡ a
        → length (fold with_head (heads ++ h ∷ []) defs) ≤ length (heads ++ h ∷ []) + length (different_behind bytes_eq (before ++ h.name ∷ []) (others defs))
        → length (fold with_head (heads ++ h ∷ []) defs) ≤ length heads + length (cond a (different_behind bytes_eq (before ++ h.name ∷ []) (others defs)) (h.name ∷ different_behind bytes_eq (before ++ h.name ∷ []) (others defs)))
    new gone true is rest = let never : false ≡ true = sym gone ∙ seen h.name is in absurd (cc never)
    new gone false is rest = let longer : length (heads ++ h ∷ []) ≡ length heads + 1 = length-append heads (h ∷ []) in omega (arith, rest, longer)

    by : (b : Bool) → has heads h.name ≡ b → (c : Bool) → is_base h.name ≡ c
        → length (fold with_head heads defs) ≤ length heads + length (different_behind bytes_eq before (others defs))
        → (has heads h.name ≡ true → length (fold with_head heads defs) ≤ length heads + length (different_behind bytes_eq (before ++ h.name ∷ []) (others defs)))
        → length (fold with_head (heads ++ h ∷ []) defs) ≤ length (heads ++ h ∷ []) + length (different_behind bytes_eq (before ++ h.name ∷ []) (others defs))
        → length (fold with_head (cond b heads (heads ++ h ∷ [])) defs) ≤ length heads + length (different_behind bytes_eq before (cond (not c) (h.name ∷ others defs) (others defs)))
    by true there true first same shorter longer = same
    by true there false first same shorter longer = old (list_any (λ y. bytes_eq y h.name) before) (shorter there)
    by false gone true first same shorter longer = let never : false ≡ true = sym gone ∙ base h.name first in absurd (cc never)
    by false gone false first same shorter longer = new gone (list_any (λ y. bytes_eq y h.name) before) refl longer

others_at : (d : Decl) → phyla_of d ≡ others (phylum_defined d)
others_at (decl.Operators n alts) = refl
others_at (decl.LexemeOf n s) = refl
others_at d = refl

others_in : (ds : List Decl) → flat_map phyla_of ds ≡ others (flat_map phylum_defined ds)
others_in [] = refl
others_in (d ∷ ds) =
    ap (λ l. l ++ flat_map phyla_of ds) (others_at d) ∙ ap (λ l. others (phylum_defined d) ++ l) (others_in ds)
    ∙ sym (filter-append (λ n. not (is_base n)) (map (λ (h : Head). h.name) (phylum_defined d)) (map (λ (h : Head). h.name) (flat_map phylum_defined ds)))
    ∙ ap (filter (λ n. not (is_base n))) (sym (map-append (λ (h : Head). h.name) (phylum_defined d) (flat_map phylum_defined ds)))

base_there : (n : Bytes) → is_base n ≡ true → has base_heads n ≡ true
base_there n e = e

pub phyla_few : (ds : List Decl) → length (different bytes_eq (flat_map phyla_of ds)) ≤ 512 → length (phyla_in ds) ≤ 515
phyla_few ds low =
    let all : length (phyla_in ds) ≤ 3 + length (different_behind bytes_eq [] (others (flat_map phylum_defined ds))) = few [] base_heads (flat_map phylum_defined ds) base_there (λ n e. absurd (cc e)) in
    let same : length (different_behind bytes_eq [] (others (flat_map phylum_defined ds))) ≡ length (different bytes_eq (flat_map phyla_of ds)) = ap (λ l. length (different bytes_eq l)) (sym (others_in ds)) in
    omega (arith, all, same, low)

-- the names of the base phyla come first
pub base_first : (ds : List Decl) → (new : List Head) × (phyla_in ds ≡ base_heads ++ new)
base_first ds = fold_front base_heads (flat_map phylum_defined ds)

-- the name of a number
pub number_names : (heads : List Head) (n : Bytes) (k : ℕ) (h : Head) → slice_get heads k ≡ Some h → number_in heads n ≡ k → n ≡ h.name
number_names heads n k h is e =
    let inside : k < length heads = slice_get_within heads k h is in
    let low : number_in heads n < length heads = omega (arith, inside, e) in
    let passes : is_head n (get_or heads (number_in heads n) h) ≡ true = passes_at_first (is_head n) heads h low in
    let here : get_or heads (number_in heads n) h ≡ h = ap (λ j. get_or heads j h) e ∙ get_or_from_slice_get heads k h h is in
    bytes_is n h.name (ap (is_head n) (sym here) ∙ passes)

-- a name that has a definition has a number
pub number_inside : (heads : List Head) (n : Bytes) → has heads n ≡ true → number_in heads n < length heads
number_inside [] n e = absurd (cc e)
number_inside (h ∷ heads) n e = by (is_head n h) e (λ is. number_inside heads n is)
  where
    by : (b : Bool) → (b || has heads n) ≡ true → (has heads n ≡ true → number_in heads n < length heads) → cond (not b) (1 + number_in heads n) 0 < suc (length heads)
    by true is others = omega arith
    by false is others = let rest : number_in heads n < length heads = others is in omega (arith, rest)
