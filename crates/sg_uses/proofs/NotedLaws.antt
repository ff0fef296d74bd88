-- First faults of a walk over joined uses.
use Rattle.std.proofs.Common.{◌≡◌, ℕ, Bool, true, false, if◌then◌else◌, length, ◌+◌, ◌<◌, ◌≤◌, map, flat_map, drop, get_or, take, append_assoc, append-nil, List, [], ◌∷◌, ◌++◌, Option, fold, refl, sym, ap, ◌∙◌}
use Rattle.std.proofs.Math.Seq.{take-append_seam, take-length}
use Rattle.std.proofs.lemmas.Grind.{fold-append}
use Rattle.std.proofs.lemmas.List.{at_drop_more, at_drop_all}
use Rattle.sg_ast.specs.FirstFault.{or_else, first}
use Rattle.sg_names.specs.declared.table.Table.{Table}
use Rattle.sg_uses.specs.declared.found.Found.{Found}
use Rattle.sg_ast.specs.Patterns.{Pattern, Patterns}
use Rattle.sg_ast.specs.Patterns as p
use Rattle.sg_names.specs.Uses.{Use, uses, is_visible, with_variable, pattern_scope, patterns_scope}
use Rattle.sg_kinds.specs.declared.fault.SpecFault.{SpecFault}
use Rattle.sg_ast.specs.Declarations.{Decl}
use Rattle.sg_uses.specs.Noted.{noted, noted_at, nothing_found}
use Rattle.sg_names.specs.UnknownName.{unknown_at, unknown_name}
use Rattle.sg_names.specs.TwiceBound.{twice_at, twice_bound}
use Rattle.sg_names.specs.Arity.{arity_at, arity}
use Rattle.sg_ast.proofs.FirstLaws.{or_else_assoc, or_none}

pub noted_append : (t : Table) (f : Found) (us vs : List Use) → noted t f (us ++ vs) ≡ noted t (noted t f us) vs
noted_append t f us vs = fold-append (noted_at t) f us vs

-- with one more name, and back
pub back_from_one : (scope : List (List ℕ)) (n : List ℕ) (count : ℕ) → count ≡ length scope → take count (with_variable scope n) ≡ scope
back_from_one scope n count e = ap (λ k. take k (with_variable scope n)) e ∙ by (is_visible scope n)
  where
    by : (b : Bool) → take (length scope) (if b then scope else scope ++ n ∷ []) ≡ scope
    by true = take-length scope
    by false = take-append_seam scope (n ∷ [])

-- a pattern only puts names behind
mutual
  more_names : (scope : List (List ℕ)) (x : Pattern) → (more : List (List ℕ)) × (pattern_scope scope x ≡ scope ++ more)
  more_names scope (p.Amount negative n place) = ([], sym (append-nil scope))
  more_names scope (p.Chars s) = ([], sym (append-nil scope))
  more_names scope (p.Truth b place) = ([], sym (append-nil scope))
  more_names scope (p.Anything place) = ([], sym (append-nil scope))
  more_names scope (p.Variable n) = by (is_visible scope n.text)
    where
      by : (b : Bool) → (more : List (List ℕ)) × ((if b then scope else scope ++ n.text ∷ []) ≡ scope ++ more)
      by true = ([], sym (append-nil scope))
      by false = (n.text ∷ [], refl)
  more_names scope (p.MadeAs made n place) = ([], sym (append-nil scope))
  more_names scope (p.Applied n ps) = more_all scope ps

  more_all : (scope : List (List ℕ)) (xs : Patterns) → (more : List (List ℕ)) × (patterns_scope scope xs ≡ scope ++ more)
  more_all scope p.NoPattern = ([], sym (append-nil scope))
  more_all scope (p.AndPattern x xs) =
      let a = more_names scope x in
      let b = more_all (pattern_scope scope x) xs in
      (a.0 ++ b.0, b.1 ∙ ap (λ l. l ++ b.0) a.1 ∙ append_assoc scope a.0 b.0)

pub back_from_pattern : (scope : List (List ℕ)) (x : Pattern) (count : ℕ) → count ≡ length scope → take count (pattern_scope scope x) ≡ scope
back_from_pattern scope x count e =
    let m = more_names scope x in
    ap (λ k. take k (pattern_scope scope x)) e ∙ ap (take (length scope)) m.1 ∙ take-append_seam scope m.0

-- loops along lists: one use for each element, several, and several by a view
pub map_more : {A : Type 0} {total : Found} (t : Table) (f : A → Use) (now next : Found) (xs : List A) (i : ℕ) (x : A) → i < length xs → x ≡ get_or xs i x
    → next ≡ noted_at t now (f x) → noted t now (map f (drop i xs)) ≡ total → noted t next (map f (drop (i + 1) xs)) ≡ total
map_more t f now next xs i x low is went so_far =
    let e : noted t now (map f (drop i xs)) ≡ noted t (noted_at t now (f (get_or xs i x))) (map f (drop (i + 1) xs)) = at_drop_more (λ ys. noted t now (map f ys)) xs i x low in
    ap (λ n. noted t n (map f (drop (i + 1) xs))) (went ∙ ap (λ y. noted_at t now (f y)) is) ∙ sym e ∙ so_far

pub map_all : {A : Type 0} {total : Found} (t : Table) (f : A → Use) (now : Found) (xs : List A) (i : ℕ) → length xs ≤ i → noted t now (map f (drop i xs)) ≡ total → now ≡ total
map_all t f now xs i all so_far =
    let e : noted t now (map f (drop i xs)) ≡ now = at_drop_all (λ ys. noted t now (map f ys)) xs i all in
    sym e ∙ so_far

pub flat_more : {A : Type 0} {total : Found} (t : Table) (f : A → List Use) (now next : Found) (xs : List A) (i : ℕ) (x : A) → i < length xs → x ≡ get_or xs i x
    → next ≡ noted t now (f x) → noted t now (flat_map f (drop i xs)) ≡ total → noted t next (flat_map f (drop (i + 1) xs)) ≡ total
flat_more t f now next xs i x low is went so_far =
    let e : noted t now (flat_map f (drop i xs)) ≡ noted t now (f (get_or xs i x) ++ flat_map f (drop (i + 1) xs)) = at_drop_more (λ ys. noted t now (flat_map f ys)) xs i x low in
    ap (λ n. noted t n (flat_map f (drop (i + 1) xs))) (went ∙ ap (λ y. noted t now (f y)) is) ∙ sym (noted_append t now (f (get_or xs i x)) (flat_map f (drop (i + 1) xs))) ∙ sym e ∙ so_far

pub flat_all : {A : Type 0} {total : Found} (t : Table) (f : A → List Use) (now : Found) (xs : List A) (i : ℕ) → length xs ≤ i → noted t now (flat_map f (drop i xs)) ≡ total → now ≡ total
flat_all t f now xs i all so_far =
    let e : noted t now (flat_map f (drop i xs)) ≡ now = at_drop_all (λ ys. noted t now (flat_map f ys)) xs i all in
    sym e ∙ so_far

pub view_more : {A B : Type 0} {total : Found} (t : Table) (view : A → B) (f : B → List Use) (now next : Found) (xs : List A) (i : ℕ) (x : A) → i < length xs → x ≡ get_or xs i x
    → next ≡ noted t now (f (view x)) → noted t now (flat_map f (map view (drop i xs))) ≡ total → noted t next (flat_map f (map view (drop (i + 1) xs))) ≡ total
view_more t view f now next xs i x low is went so_far =
    let e : noted t now (flat_map f (map view (drop i xs))) ≡ noted t now (f (view (get_or xs i x)) ++ flat_map f (map view (drop (i + 1) xs))) = at_drop_more (λ ys. noted t now (flat_map f (map view ys))) xs i x low in
    ap (λ n. noted t n (flat_map f (map view (drop (i + 1) xs)))) (went ∙ ap (λ y. noted t now (f (view y))) is) ∙ sym (noted_append t now (f (view (get_or xs i x))) (flat_map f (map view (drop (i + 1) xs)))) ∙ sym e ∙ so_far

pub view_all : {A B : Type 0} {total : Found} (t : Table) (view : A → B) (f : B → List Use) (now : Found) (xs : List A) (i : ℕ) → length xs ≤ i → noted t now (flat_map f (map view (drop i xs))) ≡ total → now ≡ total
view_all t view f now xs i all so_far =
    let e : noted t now (flat_map f (map view (drop i xs))) ≡ now = at_drop_all (λ ys. noted t now (flat_map f (map view ys))) xs i all in
    sym e ∙ so_far

-- a state that goes on by each element
pub fold_more : {A B S : Type 0} {total : S} (step : S → B → S) (f : A → B) (now next : S) (xs : List A) (i : ℕ) (x : A) → i < length xs → x ≡ get_or xs i x
    → next ≡ step now (f x) → fold step now (map f (drop i xs)) ≡ total → fold step next (map f (drop (i + 1) xs)) ≡ total
fold_more step f now next xs i x low is went so_far =
    let e : fold step now (map f (drop i xs)) ≡ fold step (step now (f (get_or xs i x))) (map f (drop (i + 1) xs)) = at_drop_more (λ ys. fold step now (map f ys)) xs i x low in
    ap (λ n. fold step n (map f (drop (i + 1) xs))) (went ∙ ap (λ y. step now (f y)) is) ∙ sym e ∙ so_far

pub fold_all : {A B S : Type 0} {total : S} (step : S → B → S) (f : A → B) (now : S) (xs : List A) (i : ℕ) → length xs ≤ i → fold step now (map f (drop i xs)) ≡ total → now ≡ total
fold_all step f now xs i all so_far =
    let e : fold step now (map f (drop i xs)) ≡ now = at_drop_all (λ ys. fold step now (map f ys)) xs i all in
    sym e ∙ so_far

-- the three slots are the first faults of their rows
slot : (t : Table) (read : Found → Option SpecFault) (test : Use → Option SpecFault) → ((f : Found) (u : Use) → read (noted_at t f u) ≡ or_else (read f) (test u))
    → (f : Found) (us : List Use) → read (noted t f us) ≡ or_else (read f) (first test us)
slot t read test steps f [] = sym (or_none (read f))
slot t read test steps f (u ∷ us) = slot t read test steps (noted_at t f u) us ∙ ap (λ o. or_else o (first test us)) (steps f u) ∙ or_else_assoc (read f) (test u) (first test us)

pub unknown_slot : (t : Table) (ds : List Decl) (f : Found) → f ≡ noted t nothing_found (uses t ds) → f.unknown ≡ unknown_name t ds
unfolding unknown_name
unknown_slot t ds f is = ap (λ (g : Found). g.unknown) is ∙ slot t (λ g. g.unknown) (unknown_at t) (λ g u. refl) nothing_found (uses t ds)

pub twice_slot : (t : Table) (ds : List Decl) (f : Found) → f ≡ noted t nothing_found (uses t ds) → f.twice ≡ twice_bound t ds
unfolding twice_bound
twice_slot t ds f is = ap (λ (g : Found). g.twice) is ∙ slot t (λ g. g.twice) twice_at (λ g u. refl) nothing_found (uses t ds)

pub arity_slot : (t : Table) (ds : List Decl) (f : Found) → f ≡ noted t nothing_found (uses t ds) → f.arity ≡ arity t ds
unfolding arity
arity_slot t ds f is = ap (λ (g : Found). g.arity) is ∙ slot t (λ g. g.arity) (arity_at t) (λ g u. refl) nothing_found (uses t ds)
