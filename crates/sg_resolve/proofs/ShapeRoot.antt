-- The one root is a phylum with operators and without inherited attributes.
use Rattle.std.proofs.Common.{◌≡◌, ℕ, Bool, true, false, if◌then◌else◌, nat_eq, List, [], ◌∷◌, ◌++◌, length, Option, Some, None, slice_get, option_map, unwrap_or, refl, sym, ap, ◌∙◌, arith}
use Rattle.std.specs.List.{AllByRecursion, list_any}
use Rattle.std.proofs.lemmas.Bool.Decides.{nat_tests}
use Rattle.std.proofs.lemmas.Bool.{or_parts}
use Rattle.sg_kinds.specs.declared.marks.Way.{Way}
use Rattle.sg_kinds.specs.declared.marks.Way.TheVariants.{Synthesized, Inherited}
use Rattle.sg_kinds.specs.declared.spec.Attr.{Attr}
use Rattle.sg_kinds.specs.declared.spec.Phylum.{Phylum}
use Rattle.sg_kinds.specs.declared.fault.SpecFault.TheVariants as fault
use Rattle.sg_kinds.specs.Specification.{attrs_of, is_leaf_shape, is_way_inherited}
use Rattle.sg_ast.specs.declared.name.Name.{Name}
use Rattle.sg_ast.specs.Declarations as decl
use Rattle.sg_ast.specs.Declarations.{Decl}
use Rattle.sg_ast.specs.FirstFault.{or_else, first}
use Rattle.sg_ast.proofs.FirstLaws.{first-none}
use Rattle.sg_names.specs.declared.heads.Head.{Head}
use Rattle.sg_names.specs.declared.table.Table.{Table}
use Rattle.sg_names.specs.Heads.{number_in}
use Rattle.sg_names.specs.Names.{phyla_in, names_of, root_at}
use Rattle.sg_names.specs.Shapes.{root_names, roots, root_count, is_inherited, inherits, root_inherits_at, root_inherits}
use Rattle.sg_names.specs.UnknownName.{has_operators}
use Rattle.sg_resolve.proofs.ShapeLists.{each_flat, each_implies}
use Rattle.sg_resolve.proofs.ShapeTable.{phylum_made, phylum_there, named_finds, root_is}
use Rattle.sg_resolve.proofs.ShapeKnown.{IsKnown, root_known, operators_known}

-- the names of roots mean phyla with operators
names_known : (ds : List Decl) (d : Decl) → IsKnown (names_of ds) d → AllByRecursion (λ (n : Name). has_operators (names_of ds) n.text ≡ true) (root_names d)
names_known ds (decl.Root n) k = (root_known (names_of ds) n k, tt)
names_known ds (decl.Listed n) k = tt
names_known ds (decl.Optional listed n) k = tt
names_known ds (decl.Operators n alts) k = tt
names_known ds (decl.LexemeOf n s) k = tt
names_known ds (decl.Attributes n attrs) k = tt
names_known ds (decl.Equations n op locals es) k = tt
names_known ds (decl.Schemes n op view ss) k = tt
names_known ds (decl.Function t n params e) k = tt
names_known ds (decl.Transform n title q e) k = tt
names_known ds (decl.Productions n rights) k = tt
names_known ds (decl.Entry n m a) k = tt
names_known ds (decl.Precedence g ls place) k = tt

-- the first root's number is that of the first name
first_number : (phyla : List Head) → List Name → Option ℕ
first_number phyla [] = None
first_number phyla (n ∷ ns) = Some (number_in phyla n.text)

first_joined : (phyla : List Head) (ns ms : List Name) → or_else (first_number phyla ns) (first_number phyla ms) ≡ first_number phyla (ns ++ ms)
unfolding first_number
first_joined phyla [] ms = refl
first_joined phyla (n ∷ ns) ms = refl

first_root : (phyla : List Head) (ds : List Decl) → first (root_at phyla) ds ≡ first_number phyla (roots ds)
unfolding first_number
first_root phyla [] = refl
first_root phyla (d ∷ ds) = ap (or_else (root_at phyla d)) (first_root phyla ds) ∙ ap (λ o. or_else o (first_number phyla (roots ds))) (one d) ∙ first_joined phyla (root_names d) (roots ds)
  where
    one : (d : Decl) → root_at phyla d ≡ first_number phyla (root_names d)
    one (decl.Root n) = refl
    one (decl.Listed n) = refl
    one (decl.Optional listed n) = refl
    one (decl.Operators n alts) = refl
    one (decl.LexemeOf n s) = refl
    one (decl.Attributes n attrs) = refl
    one (decl.Equations n op locals es) = refl
    one (decl.Schemes n op view ss) = refl
    one (decl.Function t n params e) = refl
    one (decl.Transform n title q e) = refl
    one (decl.Productions n rights) = refl
    one (decl.Entry n m a) = refl
    one (decl.Precedence g ls place) = refl

-- no attribute is inherited
synthesized : (attrs : List Attr) → list_any is_inherited attrs ≡ false → AllByRecursion (λ (a : Attr). a.way ≡ Synthesized) attrs
synthesized [] e = tt
synthesized (a ∷ attrs) e = let b = or_parts (is_way_inherited a.way) (list_any is_inherited attrs) e in (way a.way b.0, synthesized attrs b.1)
  where
    way : (w : Way) → is_way_inherited w ≡ false → w ≡ Synthesized
    way Synthesized e = refl
    way Inherited e = absurd (cc e)

-- what the table's root is
pub record IsRoot (ds : List Decl) : Type 0 where
  pub head : Head
  pub there : slice_get (phyla_in ds) (names_of ds).root ≡ Some head
  pub plain : is_leaf_shape (phylum_made ds (names_of ds).root head).shape ≡ false
  pub ways : AllByRecursion (λ (a : Attr). a.way ≡ Synthesized) (phylum_made ds (names_of ds).root head).attrs

no_fault : (t : Table) (n : Name) → root_inherits_at t n ≡ None → inherits t n ≡ false
no_fault t n e = by (inherits t n) e
  where
    by : (b : Bool) → (if b then Some (fault.RootInherits n.place n.text) else None) ≡ None → b ≡ false
    by true e = absurd (cc e)
    by false e = refl

is_root : (ds : List Decl) (n : Name) (ns : List Name) → roots ds ≡ n ∷ ns → has_operators (names_of ds) n.text ≡ true → root_inherits_at (names_of ds) n ≡ None → IsRoot ds
unfolding first_number
is_root ds n ns only known none =
    let k = operators_known (names_of ds) n.text known in
    let f = named_finds ds n.text k.0 k.1 in
    let root : (names_of ds).root ≡ k.0 = root_is ds ∙ ap (λ o. unwrap_or o 0) (first_root (phyla_in ds) ds ∙ ap (first_number (phyla_in ds)) only) ∙ f.number in
    let here : slice_get (names_of ds).phyla k.0 ≡ Some (phylum_made ds k.0 f.head) = phylum_there ds k.0 f.head f.there in
    let leaf : is_leaf_shape (phylum_made ds k.0 f.head).shape ≡ false = ap (λ o. unwrap_or (option_map (λ (x : Phylum). is_leaf_shape x.shape) o) false) (sym here) ∙ k.2 in
    let attrs : list_any is_inherited (phylum_made ds k.0 f.head).attrs ≡ false =
    ap (λ o. list_any is_inherited (unwrap_or (option_map (λ (x : Phylum). x.attrs) o) [])) (sym here)
    ∙ ap (λ o. list_any is_inherited (unwrap_or (option_map (attrs_of (names_of ds).phyla) o) [])) (sym k.1) ∙ no_fault (names_of ds) n none in
    record {
      head = f.head;
      there = ap (slice_get (phyla_in ds)) root ∙ f.there;
      plain = ap (λ p. is_leaf_shape (phylum_made ds p f.head).shape) root ∙ leaf;
      ways = synthesized (phylum_made ds (names_of ds).root f.head).attrs (ap (λ p. list_any is_inherited (phylum_made ds p f.head).attrs) root ∙ attrs);
    }

some_root : (ds : List Decl) (ns : List Name) → roots ds ≡ ns → length ns ≡ 1 → AllByRecursion (λ (n : Name). has_operators (names_of ds) n.text ≡ true) ns → AllByRecursion (λ n. root_inherits_at (names_of ds) n ≡ None) ns → IsRoot ds
some_root ds [] is one known none = absurd (omega (arith, one))
some_root ds (n ∷ ns) is one known none = is_root ds n ns is known.0 none.0

one_root : (ds : List Decl) → root_count ds ≡ None → length (roots ds) ≡ 1
unfolding root_count
one_root ds e = by (nat_eq (length (roots ds)) 1) refl e
  where
    same : nat_eq (length (roots ds)) 1 ≡ true → length (roots ds) ≡ 1
    same t = grind (arith, nat_tests)

    by : (b : Bool) → nat_eq (length (roots ds)) 1 ≡ b → (if b then None else Some (fault.RootCount (length (roots ds)))) ≡ None → length (roots ds) ≡ 1
    by true t e = same t
    by false t e = absurd (cc e)

pub root_found : (ds : List Decl) → AllByRecursion (IsKnown (names_of ds)) ds → root_count ds ≡ None → root_inherits (names_of ds) ds ≡ None → IsRoot ds
unfolding root_inherits
root_found ds known count inherit =
    some_root ds (roots ds) refl (one_root ds count)
    (each_flat (λ (n : Name). has_operators (names_of ds) n.text ≡ true) root_names ds (each_implies (IsKnown (names_of ds)) (λ d. AllByRecursion (λ (n : Name). has_operators (names_of ds) n.text ≡ true) (root_names d)) (names_known ds) ds known))
    (first-none (root_inherits_at (names_of ds)) (roots ds) inherit)
