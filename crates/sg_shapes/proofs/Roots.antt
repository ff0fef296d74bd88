-- First faults of declarations, and how many roots there are.
use Rattle.std.proofs.Common.{◌≡◌, ℕ, ◌+◌, ◌<◌, ◌≤◌, List, [], ◌∷◌, ◌++◌, length, map, flat_map, drop, get_or, Option, refl, sym, ap, ◌∙◌, arith, length-append}
use Rattle.std.proofs.lemmas.List.{at_drop_more, at_drop_all}
use Rattle.sg_ast.specs.FirstFault.{or_else, first}
use Rattle.sg_ast.specs.View.{tree_of, trees_of}
use Rattle.sg_ast.proofs.FirstLaws.{first-append}
use Rattle.sg_ast.specs.declared.decl.Decl.{Decl}
use Rattle.sg_ast.specs.Declarations as plain
use Rattle.sg_names.specs.declared.table.Table.{Table}
use Rattle.sg_names.specs.Shapes.{root_names, roots, list_shape_at, list_names, list_shape, optional_shape_at, optional_names, optional_shape, root_inherits_at, root_inherits}

-- the first fault of the spots of all declarations
pub first_trees : {X Y : Type 0} (f : X → Option Y) (g : plain.Decl → List X) (ds : List Decl) → first (λ d. first f (g (tree_of d))) ds ≡ first f (flat_map g (trees_of ds))
first_trees f g [] = refl
first_trees f g (d ∷ ds) = ap (or_else (first f (g (tree_of d)))) (first_trees f g ds) ∙ sym (first-append f (g (tree_of d)) (flat_map g (trees_of ds)))

at_root : (ds : List Decl) (i : ℕ) (d : Decl) → i < length ds → d ≡ get_or ds i d
    → length (roots (map tree_of (drop i ds))) ≡ length (root_names (tree_of d)) + length (roots (map tree_of (drop (i + 1) ds)))
at_root ds i d low is =
    let e : length (roots (map tree_of (drop i ds))) ≡ length (root_names (tree_of (get_or ds i d)) ++ roots (map tree_of (drop (i + 1) ds))) = at_drop_more (λ xs. length (roots (map tree_of xs))) ds i d low in
    e ∙ length-append (root_names (tree_of (get_or ds i d))) (roots (map tree_of (drop (i + 1) ds))) ∙ ap (λ x. length (root_names (tree_of x)) + length (roots (map tree_of (drop (i + 1) ds)))) (sym is)

pub one_root : {total : ℕ} (ds : List Decl) (i count : ℕ) (d : Decl) → i < length ds → d ≡ get_or ds i d → length (root_names (tree_of d)) ≡ 1
    → count + length (roots (map tree_of (drop i ds))) ≡ total → (count + 1) + length (roots (map tree_of (drop (i + 1) ds))) ≡ total
one_root ds i count d low is one so_far =
    let e : length (roots (map tree_of (drop i ds))) ≡ length (root_names (tree_of d)) + length (roots (map tree_of (drop (i + 1) ds))) = at_root ds i d low is in
    omega (arith, e, one, so_far)

pub no_root : {total : ℕ} (ds : List Decl) (i count : ℕ) (d : Decl) → i < length ds → d ≡ get_or ds i d → length (root_names (tree_of d)) ≡ 0
    → count + length (roots (map tree_of (drop i ds))) ≡ total → count + length (roots (map tree_of (drop (i + 1) ds))) ≡ total
no_root ds i count d low is none so_far =
    let e : length (roots (map tree_of (drop i ds))) ≡ length (root_names (tree_of d)) + length (roots (map tree_of (drop (i + 1) ds))) = at_root ds i d low is in
    omega (arith, e, none, so_far)

pub all_roots : {total : ℕ} (ds : List Decl) (i count : ℕ) → length ds ≤ i → count + length (roots (map tree_of (drop i ds))) ≡ total → count ≡ total
all_roots ds i count all so_far =
    let e : length (roots (map tree_of (drop i ds))) ≡ 0 = at_drop_all (λ xs. length (roots (map tree_of xs))) ds i all in
    omega (arith, e, so_far)

-- the three rows that read declarations
pub lists_found : (t : Table) (ds : List Decl) → first (λ d. first (list_shape_at t) (list_names (tree_of d))) ds ≡ list_shape t (trees_of ds)
unfolding list_shape
lists_found t ds = first_trees (list_shape_at t) list_names ds

pub optionals_found : (t : Table) (ds : List Decl) → first (λ d. first (optional_shape_at t) (optional_names (tree_of d))) ds ≡ optional_shape t (trees_of ds)
unfolding optional_shape
optionals_found t ds = first_trees (optional_shape_at t) optional_names ds

pub roots_found : (t : Table) (ds : List Decl) → first (λ d. first (root_inherits_at t) (root_names (tree_of d))) ds ≡ root_inherits t (trees_of ds)
unfolding root_inherits
roots_found t ds = first_trees (root_inherits_at t) root_names ds
