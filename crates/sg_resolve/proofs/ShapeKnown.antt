-- What declarations name where no name is unknown.
use Rattle.std.proofs.Common.{◌≡◌, ℕ, Bool, true, false, not, ◌&&◌, if◌then◌else◌, bytes_eq, List, [], ◌∷◌, map, Option, Some, None, is_some, slice_get, option_map, unwrap_or, refl, sym, ap, ◌∙◌}
use Rattle.std.specs.Prelude.{option_and_then, IsTrue}
use Rattle.std.specs.List.{AllByRecursion}
use Rattle.sg_kinds.specs.Values.{Bytes}
use Rattle.sg_kinds.specs.declared.spec.Spec.{Spec}
use Rattle.sg_kinds.specs.declared.spec.Phylum.{Phylum}
use Rattle.sg_kinds.specs.Specification.{has_shape, is_lexical_shape, is_leaf_shape}
use Rattle.sg_kinds.specs.Typing.{is_usable, whitespace}
use Rattle.sg_ast.specs.declared.name.Name.{Name}
use Rattle.sg_ast.specs.declared.name.Typed.{Typed}
use Rattle.sg_ast.specs.declared.decl.Alt.{Alt}
use Rattle.sg_ast.specs.declared.decl.AttrDecl.{AttrDecl}
use Rattle.sg_ast.specs.Declarations as decl
use Rattle.sg_ast.specs.Declarations.{Decl, Equation}
use Rattle.sg_ast.proofs.FirstLaws.{first-none}
use Rattle.sg_names.specs.declared.table.Table.{Table}
use Rattle.sg_names.specs.Heads.{number_in}
use Rattle.sg_names.specs.Names.{phyla_in, names_of}
use Rattle.sg_names.specs.Lookups.{operator_at, phylum_named, is_whitespace, usable_named}
use Rattle.sg_names.specs.UnknownName.{unknown_at, unless_known, has_operators, unknown_name}
use Rattle.sg_names.specs.Uses.{UsesPhylum, decl_uses, uses, within, equations_uses}
use Rattle.sg_resolve.proofs.ShapeLists.{each_split, each_unflat, each_implies}
use Rattle.sg_resolve.proofs.ShapeTable.{phylum_made, phylum_there, named_finds}

-- each use in a declaration means something
abbrev pub IsKnown : Table → Decl → Type 0
IsKnown t d = AllByRecursion (λ u. unknown_at t u ≡ None) (decl_uses t d)

pub each_known : (t : Table) (ds : List Decl) → unknown_name t ds ≡ None → AllByRecursion (IsKnown t) ds
unfolding unknown_name
each_known t ds e = each_unflat (λ u. unknown_at t u ≡ None) (decl_uses t) ds (first-none (unknown_at t) (uses t ds) e)

known_is : (b : Bool) (n : Name) → unless_known b n ≡ None → b ≡ true
known_is true n e = refl
known_is false n e = absurd (cc e)

-- a name that may be used as a phylum's
abbrev pub IsUsed : Table → Name → Type 0
IsUsed t n = is_some (usable_named t n.text) ≡ true

pub root_known : (t : Table) (n : Name) → IsKnown t (decl.Root n) → has_operators t n.text ≡ true
root_known t n a = known_is (has_operators t n.text) n a.0

each_used : {A : Type 0} (t : Table) (f : A → Name) (xs : List A) → AllByRecursion (λ u. unknown_at t u ≡ None) (map (λ x. UsesPhylum (f x)) xs) → AllByRecursion (λ x. IsUsed t (f x)) xs
each_used t f [] a = tt
each_used t f (x ∷ xs) a = (known_is (is_some (usable_named t (f x).text)) (f x) a.0, each_used t f xs a.1)

pub args_known : (t : Table) (n : Name) (alts : List Alt) → IsKnown t (decl.Operators n alts) → AllByRecursion (λ (a : Alt). AllByRecursion (IsUsed t) a.args) alts
args_known t n alts a =
    each_implies (λ (x : Alt). AllByRecursion (λ u. unknown_at t u ≡ None) (map UsesPhylum x.args)) (λ (x : Alt). AllByRecursion (IsUsed t) x.args) (λ x h. each_used t (λ n. n) x.args h) alts
    (each_unflat (λ u. unknown_at t u ≡ None) (λ (x : Alt). map UsesPhylum x.args) alts a)

pub attrs_known : (t : Table) (n : Name) (attrs : List AttrDecl) → IsKnown t (decl.Attributes n attrs) → AllByRecursion (λ (x : AttrDecl). IsUsed t x.of) attrs
attrs_known t n attrs a = each_used t (λ (x : AttrDecl). x.of) attrs a.1

pub locals_known : (t : Table) (n op : Name) (locals : List Typed) (es : List Equation) → IsKnown t (decl.Equations n op locals es) → AllByRecursion (λ (x : Typed). IsUsed t x.of) locals
locals_known t n op locals es a = each_used t (λ (x : Typed). x.of) locals (each_split (λ u. unknown_at t u ≡ None) (map (λ (x : Typed). UsesPhylum x.of) locals) (within (equations_uses t es) (operator_at t n op)) a.1).0

-- what a name that may be used means may be used
flipped : (a b : Bool) → (a && b) ≡ false → not (b && a) ≡ true
flipped true true h = absurd (cc h)
flipped true false h = refl
flipped false true h = refl
flipped false false h = refl

not_so : (b : Bool) (k : ℕ) → is_some (if b then None else Some k) ≡ true → b ≡ false
not_so true k e = absurd (cc e)
not_so false k e = refl

found_usable : (ds : List Decl) (spec : Spec) → spec.phyla ≡ (names_of ds).phyla → (n : Bytes) (o : Option ℕ) → phylum_named (names_of ds) n ≡ o
    → is_some (option_and_then (λ p. if is_whitespace (names_of ds) p n then None else Some p) o) ≡ true → is_usable spec (number_in (phyla_in ds) n) ≡ true
found_usable ds spec same n None e h = absurd (cc h)
found_usable ds spec same n (Some k) e h =
    let f = named_finds ds n k e in
    let here : slice_get (names_of ds).phyla k ≡ Some (phylum_made ds k f.head) = phylum_there ds k f.head f.there in
    let lexical : has_shape (names_of ds).phyla is_lexical_shape k ≡ is_lexical_shape (phylum_made ds k f.head).shape = ap (λ o. unwrap_or (option_map (λ (x : Phylum). is_lexical_shape x.shape) o) false) here in
    let white : (bytes_eq n whitespace && is_lexical_shape (phylum_made ds k f.head).shape) ≡ false =
    ap (λ b. bytes_eq n whitespace && b) (sym lexical) ∙ not_so (is_whitespace (names_of ds) k n) k h in
    ap (is_usable spec) f.number ∙ ap (λ (l : List Phylum). unwrap_or (option_map (λ (x : Phylum). not (is_lexical_shape x.shape && bytes_eq x.name whitespace)) (slice_get l k)) false) same
    ∙ ap (λ o. unwrap_or (option_map (λ (x : Phylum). not (is_lexical_shape x.shape && bytes_eq x.name whitespace)) o) false) here
    ∙ ap (λ m. not (is_lexical_shape (phylum_made ds k f.head).shape && bytes_eq m whitespace)) f.name
    ∙ flipped (bytes_eq n whitespace) (is_lexical_shape (phylum_made ds k f.head).shape) white

pub used_usable : (ds : List Decl) (spec : Spec) → spec.phyla ≡ (names_of ds).phyla → (n : Name) → IsUsed (names_of ds) n → IsTrue (is_usable spec (number_in (phyla_in ds) n.text))
used_usable ds spec same n h = found_usable ds spec same n.text (phylum_named (names_of ds) n.text) refl h

-- a name that means a phylum with operators
found_operators : (t : Table) (n : Bytes) (o : Option ℕ) → phylum_named t n ≡ o → is_some (option_and_then (λ p. if has_shape t.phyla is_leaf_shape p then None else Some p) o) ≡ true → (k : ℕ) × (phylum_named t n ≡ Some k) × (has_shape t.phyla is_leaf_shape k ≡ false)
found_operators t n None e h = absurd (cc h)
found_operators t n (Some k) e h = (k, e, not_so (has_shape t.phyla is_leaf_shape k) k h)

pub operators_known : (t : Table) (n : Bytes) → has_operators t n ≡ true → (k : ℕ) × (phylum_named t n ≡ Some k) × (has_shape t.phyla is_leaf_shape k ≡ false)
operators_known t n h = found_operators t n (phylum_named t n) refl h
