-- The counts of the record of declarations are in their limits.
use Rattle.std.proofs.Common.{◌≡◌, ℕ, ◌+◌, ◌<◌, ◌≤◌, ◌^◌, cond, List, [], ◌∷◌, ◌++◌, length, map, None, refl, sym, ap, subst, ◌∙◌, arith, length-append}
use Rattle.std.specs.List.{All, AllByRecursion, count_by, sum_by, flat_map}
use Rattle.std.proofs.lemmas.List.{length-map, map-append}
use Rattle.std.proofs.lemmas.List.Elements.{All-from_recursion, All-map, recursion_from_All}
use Rattle.std.proofs.lemmas.List.Sums.{sum_by-cons}
use Rattle.sg_kinds.specs.Lexemes.{Lexeme}
use Rattle.sg_kinds.specs.Far.{is_far, is_written}
use Rattle.sg_kinds.specs.Sound.{AreCounted}
use Rattle.sg_kinds.specs.Values.{Bytes}
use Rattle.sg_kinds.specs.declared.spec.Operator.{Operator}
use Rattle.sg_kinds.specs.declared.spec.Phylum.{Phylum}
use Rattle.sg_kinds.specs.declared.spec.Production.{Production}
use Rattle.sg_kinds.specs.declared.spec.Rule.{Rule}
use Rattle.sg_kinds.specs.declared.spec.Scheme.{Scheme}
use Rattle.sg_ast.specs.Declarations.{Decl, Right, Transform, Productions}
use Rattle.sg_counts.specs.Duplicates.{duplicate}
use Rattle.sg_counts.specs.Limits.{symbols_of, is_transform}
use Rattle.sg_counts.specs.Limits as limits
use Rattle.sg_names.specs.Drafted.{HasTable}
use Rattle.sg_names.specs.More.{and_attrs}
use Rattle.sg_names.specs.Names as written
use Rattle.sg_names.specs.declared.table.Table.{Table}
use Rattle.sg_names.proofs.OpPlaces.{map_from_length}
use Rattle.sg_typing.specs.Bodies.{expr_count}
use Rattle.sg_typing.specs.Checked.{first_fault}
use Rattle.sg_resolve.proofs.Counting.{map-made, all_seen}
use Rattle.sg_resolve.specs.Resolved.{resolve_fault}
use Rattle.sg_resolve.proofs.Limiting.{within_limits}
use Rattle.sg_resolve.proofs.ShapeLists.{each_always}
use Rattle.sg_resolve.proofs.ShapeRows.{no_fault}
use Rattle.sg_resolve.proofs.SpecNames.{counts_names}
use Rattle.sg_record.specs.Record.{each_from, transforms_at, transforms_in, symbol_of, production, productions_at, productions_in, with_schemes, record_of}
use Rattle.sg_record.proofs.RecordSound.{no_mismatch}
use Rattle.sg_record.proofs.TableKept.{table_kept, names_bare}
use Rattle.sg_remote.specs.Lists.{lists}
use Rattle.sg_remote.specs.Longer.{names_of}
use Rattle.sg_views.specs.Schemes.{schemes_of}
use Rattle.sg_views.specs.Views.{row_of, view_names, views_of}
use Rattle.sg_load.proofs.FarAttrs.{far_attrs, long, long_is, short}
use Rattle.sg_load.proofs.FarCounts.{attrs_few}
use Rattle.sg_load.proofs.FarSound.{legal_long, written_table}
use Rattle.sg_load.proofs.LongerShapes.{with_phyla}
use Rattle.sg_load.proofs.RecordSchemes.{row_limited, schemes_limited}

-- what declarations give, by what each gives
length-each_from : {A : Type 0} (f : ℕ → Decl → List A) (g : Decl → ℕ) → ((k : ℕ) (d : Decl) → length (f k d) ≡ g d) → (k : ℕ) (ds : List Decl) → length (each_from f k ds) ≡ sum_by g ds
length-each_from f g step k [] = refl
length-each_from f g step k (d ∷ ds) =
    let here : length (f k d) ≡ g d = step k d in
    let rest : length (each_from f (k + expr_count d) ds) ≡ sum_by g ds = length-each_from f g step (k + expr_count d) ds in
    let both : length (f k d ++ each_from f (k + expr_count d) ds) ≡ length (f k d) + length (each_from f (k + expr_count d) ds) = length-append (f k d) (each_from f (k + expr_count d) ds) in
    let sum : sum_by g (d ∷ ds) ≡ g d + sum_by g ds = sum_by-cons g d ds in
    omega (arith, here, rest, both, sum)

map-each_from : {A B : Type 0} (g : A → B) (f : ℕ → Decl → List A) (v : Decl → List B) → ((k : ℕ) (d : Decl) → map g (f k d) ≡ v d) → (k : ℕ) (ds : List Decl) → map g (each_from f k ds) ≡ flat_map v ds
map-each_from g f v step k [] = refl
map-each_from {A} {B} g f v step k (d ∷ ds) =
    map-append g (f k d) (each_from f (k + expr_count d) ds) ∙ ap (λ (l : List B). l ++ map g (each_from f (k + expr_count d) ds)) (step k d)
    ∙ ap (λ (l : List B). v d ++ l) (map-each_from g f v step (k + expr_count d) ds)

-- transformations
one_transform : (t : Table) (k : ℕ) (d : Decl) → length (transforms_at t k d) ≡ cond (is_transform d) 1 0
one_transform t k (Transform n title q e) = refl
one_transform t k d = refl

transforms_counted : (t : Table) (ds : List Decl) → length (transforms_in t 0 ds) ≡ count_by is_transform ds
transforms_counted t ds = length-each_from (transforms_at t) (λ d. cond (is_transform d) 1 0) (one_transform t) 0 ds

-- productions and their symbols
symbols_at : (t : Table) (k : ℕ) (d : Decl) → map (λ (r : Production). length r.right) (productions_at t k d) ≡ symbols_of d
symbols_at t k (Productions n rights) = map-made (λ (r : Production). length r.right) (production t n) (λ (r : Right). length r.parts) (λ j r. length-map r.parts (symbol_of t)) k rights
symbols_at t k d = refl

symbols_in : (t : Table) (ds : List Decl) → map (λ (r : Production). length r.right) (productions_in t 0 ds) ≡ flat_map symbols_of ds
symbols_in t ds = map-each_from (λ (r : Production). length r.right) (productions_at t) symbols_of (symbols_at t) 0 ds

productions_counted : (t : Table) (ds : List Decl) → length (productions_in t 0 ds) ≡ length (flat_map symbols_of ds)
productions_counted t ds = sym (length-map (productions_in t 0 ds) (λ (r : Production). length r.right)) ∙ ap (λ (l : List ℕ). length l) (symbols_in t ds)

symbols_limited : (t : Table) (ds : List Decl) → All (λ n. n ≤ 16) (flat_map symbols_of ds) → AllByRecursion (λ (r : Production). length r.right ≤ 16) (productions_in t 0 ds)
symbols_limited t ds few =
    all_seen (λ n. n ≤ 16) (λ (r : Production). length r.right) (productions_in t 0 ds)
    (subst (AllByRecursion (λ n. n ≤ 16)) (sym (symbols_in t ds)) (recursion_from_All (λ n. n ≤ 16) (flat_map symbols_of ds) few))

-- the schemes of each view
rows_limited : (t : Table) (ds : List Decl) (views : List Bytes) → AllByRecursion (λ n. n ≤ 16) (flat_map limits.schemes_of ds) → duplicate ds ≡ None
    → All (λ (row : List (List Scheme)). All (λ (ss : List Scheme). length ss ≤ 16) row) (map (row_of t ds) views)
rows_limited t ds views few once =
    All-map (λ (row : List (List Scheme)). All (λ (ss : List Scheme). length ss ≤ 16) row) (row_of t ds) views
    (All-from_recursion (λ view. All (λ (ss : List Scheme). length ss ≤ 16) (row_of t ds view)) views
    (each_always (λ view. All (λ (ss : List Scheme). length ss ≤ 16) (row_of t ds view)) (λ view. All-from_recursion (λ (ss : List Scheme). length ss ≤ 16) (row_of t ds view) (row_limited t ds few once view)) views))

-- the record of declarations without a fault of names and types, where the lists of references to enclosing nodes are not
-- too many
pub record_counted : (ds : List Decl) (rules : List Rule) (lexemes : List Lexeme) → resolve_fault ds ≡ None → first_fault (names_of ds) ds ≡ None
    → length rules < 2 ^ 32 → length (lists (written.names_of ds) ds) ≤ 1048576 → AreCounted (record_of (names_of ds) ds rules lexemes)
unfolding record_of views_of
record_counted ds rules lexemes rows typed few short_lists =
    let none = no_fault ds rows in
    let low = within_limits ds none.limits in
    let spec = record_of (names_of ds) ds rules lexemes in
    let table : HasTable (names_of ds) spec = table_kept (names_of ds) ds rules lexemes (names_bare ds) in
    let has : HasTable (long ds) spec = subst (λ (t : Table). HasTable t spec) (long_is ds) table in
    let names = counts_names ds (with_phyla spec (short ds).phyla) none.limits (written_table ds spec has) in
    let legal = legal_long ds rows (no_mismatch (names_of ds) ds typed) in
    let count : length spec.phyla ≡ length (short ds).phyla = ap (λ (xs : List Phylum). length xs) has.phyla ∙ map_from_length (and_attrs (far_attrs ds)) 0 (short ds).phyla in
    let schemes = recursion_from_All (λ n. n ≤ 16) (flat_map limits.schemes_of ds) low.schemes in
    record {
      phyla = subst (λ n. n ≤ 515) (sym count) names.phyla;
      ops = names.ops;
      args = names.args;
      attrs = All-from_recursion (λ (x : Phylum). (count_by is_written x.attrs ≤ 32) × (count_by is_far x.attrs ≤ 1048576)) spec.phyla
          (subst (AllByRecursion (λ (x : Phylum). (count_by is_written x.attrs ≤ 32) × (count_by is_far x.attrs ≤ 1048576))) (sym has.phyla) (attrs_few ds legal short_lists none.limits));
      locals = names.locals;
      functions = names.functions;
      params = names.params;
      transforms = subst (λ n. n ≤ 1024) (sym (transforms_counted (names_of ds) ds)) low.transforms;
      schemes = All-from_recursion (λ (o : Operator). length o.schemes ≤ 16) (with_schemes (schemes_of (names_of ds) None ds) (names_of ds).ops) (schemes_limited (names_of ds) ds schemes none.duplicates);
      productions = subst (λ n. n ≤ 1024) (sym (productions_counted (names_of ds) ds)) low.productions;
      symbols = All-from_recursion (λ (r : Production). length r.right ≤ 16) (productions_in (names_of ds) 0 ds) (symbols_limited (names_of ds) ds low.symbols);
      rules = few;
      views = low.views;
      rows = rows_limited (names_of ds) ds (view_names ds) schemes none.duplicates;
    }
