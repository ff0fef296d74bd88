-- The operators of phyla: which these are, and the phyla of their arguments.
use Rattle.std.proofs.Common.{◌≡◌, ◌⊎◌, inl, inr, ℕ, zero, suc, ◌+◌, ◌<◌, Bool, true, false, ◌&&◌, ◌||◌, if◌then◌else◌, cond, nat_eq, bytes_eq, List, [], ◌∷◌, ◌++◌, length, flat_map, Some, slice_get, option_map, unwrap_or, refl, sym, ap, subst, ◌∙◌, arith}
use Rattle.std.specs.Prelude.{codes}
use Rattle.std.specs.List.{AllByRecursion, list_any, filter}
use Rattle.std.proofs.lemmas.Bool.Decides.{nat_tests}
use Rattle.std.proofs.lemmas.Slice.Eq.{bytes_eq-Decides}
use Rattle.sg_kinds.specs.declared.spec.Operator.{Operator}
use Rattle.sg_kinds.specs.Specification.{phylum_of}
use Rattle.sg_kinds.specs.Instances.{below}
use Rattle.sg_kinds.proofs.Elementary.{eq_is, or_right}
use Rattle.sg_ast.specs.declared.decl.Alt.{Alt}
use Rattle.sg_ast.specs.Declarations as decl
use Rattle.sg_ast.specs.Declarations.{Decl}
use Rattle.sg_names.specs.declared.heads.Head.{Head}
use Rattle.sg_names.specs.Heads.{is_head, base_head, base_heads, number_in}
use Rattle.sg_names.specs.Names.{phyla_in, phylum_defined, operator, operators_at, owned, owners, map_from}
use Rattle.sg_resolve.proofs.HeadCounts.{base_first}
use Rattle.sg_resolve.proofs.ShapeLists.{each_implies, each_both, each_always, each_flat, each_unflat, each_map, each_from, each_at, none_owned, from, below_from}
use Rattle.sg_resolve.proofs.ShapeFacts.{Finds, finds_there, each_head, each_defined_is_there}
use Rattle.sg_resolve.proofs.ShapeApart.{AreApart, AreNew, are_one, turned}
use Rattle.sg_resolve.proofs.ShapeTable.{plain_ops, own_ops}

-- the first three first definitions are those of the base phyla
base_there : (rest : List Head) (p : ℕ) (h : Head) → p < 3 → slice_get (base_heads ++ rest) p ≡ Some h → (list_any (is_head h.name) base_heads ≡ true) × (h.lexical ≡ false)
base_there rest zero h low e = let same : Some (base_head (codes "BOOL")) ≡ Some h = e in let is : base_head (codes "BOOL") ≡ h = cc same in subst (λ (h : Head). (list_any (is_head h.name) base_heads ≡ true) × (h.lexical ≡ false)) is (refl, refl)
base_there rest (suc zero) h low e = let same : Some (base_head (codes "INT")) ≡ Some h = e in let is : base_head (codes "INT") ≡ h = cc same in subst (λ (h : Head). (list_any (is_head h.name) base_heads ≡ true) × (h.lexical ≡ false)) is (refl, refl)
base_there rest (suc (suc zero)) h low e = let same : Some (base_head (codes "STR")) ≡ Some h = e in let is : base_head (codes "STR") ≡ h = cc same in subst (λ (h : Head). (list_any (is_head h.name) base_heads ≡ true) × (h.lexical ≡ false)) is (refl, refl)
base_there rest (suc (suc (suc p))) h low e = absurd (omega (arith, low))

pub base_at : (ds : List Decl) (p : ℕ) (h : Head) → p < 3 → slice_get (phyla_in ds) p ≡ Some h → (list_any (is_head h.name) base_heads ≡ true) × (h.lexical ≡ false)
base_at ds p h low e = let b = base_first ds in base_there b.0 p h low (ap (λ (l : List Head). slice_get l p) (sym b.1) ∙ e)

-- names of lexeme phyla are those of no other definition
lexical_other : (b l r : Bool) → (b && (l || r)) ≡ false → (l || r) ≡ true → b ≡ false
lexical_other true l r e t = absurd (cc (e, t))
lexical_other false l r e t = refl

abbrev IsApartFrom : Head → Head → Type 0
IsApartFrom h g = g.lexical ≡ true → bytes_eq g.name h.name ≡ false

apart_all : (hs : List Head) → AreApart are_one hs → AllByRecursion (λ (h : Head). h.lexical ≡ false → AllByRecursion (IsApartFrom h) hs) hs
apart_all [] a = tt
apart_all (x ∷ xs) a = (
  (λ plain. ((λ lexical. absurd (cc (plain, lexical))), each_implies (λ y. are_one x y ≡ false) (IsApartFrom x) (λ y e lexical. turned x.name y.name (lexical_other (bytes_eq x.name y.name) x.lexical y.lexical e (or_right x.lexical y.lexical lexical))) xs a.0)),
  each_implies (λ (y : Head). (are_one x y ≡ false) × (y.lexical ≡ false → AllByRecursion (IsApartFrom y) xs)) (λ (y : Head). y.lexical ≡ false → AllByRecursion (IsApartFrom y) (x ∷ xs))
      (λ y b plain. ((λ lexical. lexical_other (bytes_eq x.name y.name) x.lexical y.lexical b.0 (ap (λ c. c || y.lexical) lexical)), b.1 plain)) xs
      (each_both (λ y. are_one x y ≡ false) (λ (y : Head). y.lexical ≡ false → AllByRecursion (IsApartFrom y) xs) xs a.0 (apart_all xs a.1)),
)

-- no phylum with operators is a base phylum or a lexeme phylum
abbrev IsLeaf : Head → ℕ → Type 0
IsLeaf h p = (h.lexical ≡ true) ⊎ (p < 3)

not_number : (b : Bool) → (b ≡ true → ⊥) → b ≡ false
not_number true h = absurd (h refl)
not_number false h = refl

plain_elsewhere : (ds : List Decl) (p : ℕ) (g h : Head) → slice_get (phyla_in ds) p ≡ Some h → IsLeaf h p → list_any (is_head g.name) (phyla_in ds) ≡ true → list_any (is_head g.name) base_heads ≡ false
    → AllByRecursion (IsApartFrom g) (phyla_in ds) → nat_eq (number_in (phyla_in ds) g.name) p ≡ true → ⊥
plain_elsewhere ds p g h here leaf is new apart same = by leaf
  where
    f : Finds (phyla_in ds) g.name (number_in (phyla_in ds) g.name)
    f = finds_there (phyla_in ds) g.name is

    one : Some f.head ≡ Some h
    one = sym f.there ∙ ap (slice_get (phyla_in ds)) (eq_is (number_in (phyla_in ds) g.name) p same) ∙ here

    name : h.name ≡ g.name
    name = let e : f.head ≡ h = cc one in ap (λ (x : Head). x.name) (sym e) ∙ f.name

    by : IsLeaf h p → ⊥
    by (inl lexical) =
        let no : bytes_eq h.name g.name ≡ false = each_at (IsApartFrom g) (phyla_in ds) p h apart here lexical in
        let yes : bytes_eq h.name g.name ≡ true = (bytes_eq-Decides h.name g.name).1 name in
        cc (no, yes)
    by (inr low) =
        let yes : list_any (is_head h.name) base_heads ≡ true = (base_at ds p h low here).0 in
        let yes' : list_any (is_head g.name) base_heads ≡ true = ap (λ n. list_any (is_head n) base_heads) (sym name) ∙ yes in
        cc (yes', new)

base_plain : (g : Head) → AllByRecursion (IsApartFrom g) base_heads
base_plain g = ((λ e. absurd (cc e)), ((λ e. absurd (cc e)), ((λ e. absurd (cc e)), tt)))

no_leaf : (ds : List Decl) → AreNew ds → (p : ℕ) (h : Head) → slice_get (phyla_in ds) p ≡ Some h → IsLeaf h p
    → AllByRecursion (λ (g : Head). g.lexical ≡ false → nat_eq (number_in (phyla_in ds) g.name) p ≡ false) (flat_map phylum_defined ds)
no_leaf ds new p h here leaf =
    let heads = flat_map phylum_defined ds in
    let There = λ (g : Head). list_any (is_head g.name) (phyla_in ds) ≡ true in
    let New = λ (g : Head). list_any (is_head g.name) base_heads ≡ false in
    let Apart = λ (g : Head). g.lexical ≡ false → AllByRecursion (IsApartFrom g) (flat_map phylum_defined ds) in
    each_implies (λ g. (There g × New g) × Apart g) (λ (g : Head). g.lexical ≡ false → nat_eq (number_in (phyla_in ds) g.name) p ≡ false)
    (λ g b plain. not_number (nat_eq (number_in (phyla_in ds) g.name) p) (plain_elsewhere ds p g h here leaf b.0.0 b.0.1 (each_head (IsApartFrom g) ds (base_plain g) (b.1 plain)))) heads
    (each_both (λ g. There g × New g) Apart heads (each_both There New heads (each_defined_is_there ds) new.base) (apart_all heads new.lexical))

-- what holds of the numbers of phyla with operators holds of the phyla of operators
each_owner : (Q : ℕ → Type 0) (ds : List Decl) → AllByRecursion (λ (g : Head). g.lexical ≡ false → Q (number_in (phyla_in ds) g.name)) (flat_map phylum_defined ds) → AllByRecursion (λ (o : Operator). Q o.phylum) (plain_ops ds)
each_owner Q ds a =
    each_flat (λ (o : Operator). Q o.phylum) (operators_at (phyla_in ds)) ds
    (each_implies (λ d. AllByRecursion (λ (g : Head). g.lexical ≡ false → Q (number_in (phyla_in ds) g.name)) (phylum_defined d)) (λ d. AllByRecursion (λ (o : Operator). Q o.phylum) (operators_at (phyla_in ds) d)) one ds
    (each_unflat (λ (g : Head). g.lexical ≡ false → Q (number_in (phyla_in ds) g.name)) phylum_defined ds a))
  where
    one : (d : Decl) → AllByRecursion (λ (g : Head). g.lexical ≡ false → Q (number_in (phyla_in ds) g.name)) (phylum_defined d) → AllByRecursion (λ (o : Operator). Q o.phylum) (operators_at (phyla_in ds) d)
    one (decl.Operators n alts) h = each_map (λ (o : Operator). Q o.phylum) (operator (phyla_in ds) n) alts (each_always (λ (a : Alt). Q (number_in (phyla_in ds) n.text)) (λ a. h.0 refl) alts)
    one (decl.Root n) h = tt
    one (decl.Listed n) h = tt
    one (decl.Optional listed n) h = tt
    one (decl.LexemeOf n s) h = tt
    one (decl.Attributes n attrs) h = tt
    one (decl.Equations n op locals es) h = tt
    one (decl.Schemes n op view ss) h = tt
    one (decl.Function t n params e) h = tt
    one (decl.Transform n title q e) h = tt
    one (decl.Productions n rights) h = tt
    one (decl.Entry n m a) h = tt
    one (decl.Precedence g ls place) h = tt

-- a base or lexeme phylum has no operators
pub leaf_without_operators : (ds : List Decl) → AreNew ds → (p : ℕ) (h : Head) → slice_get (phyla_in ds) p ≡ Some h → (h.lexical ≡ true) ⊎ (p < 3) → own_ops ds p ≡ []
leaf_without_operators ds new p h here leaf =
    none_owned p (owners (plain_ops ds))
    (each_from (λ (x : ℕ × ℕ). nat_eq x.0 p ≡ false) (λ op (o : Operator). (o.phylum, op)) 0 (plain_ops ds)
    (each_implies (λ (o : Operator). nat_eq o.phylum p ≡ false) (λ (o : Operator). (i : ℕ) → nat_eq o.phylum p ≡ false) (λ o e i. e) (plain_ops ds)
    (each_owner (λ k. nat_eq k p ≡ false) ds (no_leaf ds new p h here leaf))))

-- an operator's phylum is there
pub owners_there : (ds : List Decl) → AllByRecursion (λ (o : Operator). o.phylum < length (phyla_in ds)) (plain_ops ds)
owners_there ds =
    each_owner (λ k. k < length (phyla_in ds)) ds
    (each_implies (λ (g : Head). list_any (is_head g.name) (phyla_in ds) ≡ true) (λ (g : Head). g.lexical ≡ false → number_in (phyla_in ds) g.name < length (phyla_in ds))
    (λ g e plain. (finds_there (phyla_in ds) g.name e).within) (flat_map phylum_defined ds) (each_defined_is_there ds))

turned_number : (p q : ℕ) → nat_eq p q ≡ nat_eq q p
turned_number p q = grind (arith, nat_tests)

chosen : (b c : Bool) (k : ℕ) (l m : List ℕ) → b ≡ c → l ≡ m → (if c then k ∷ [] else []) ++ l ≡ cond b (k ∷ m) m
chosen b c k l m e f = by c b e
  where
    by : (c b : Bool) → b ≡ c → (if c then k ∷ [] else []) ++ l ≡ cond b (k ∷ m) m
    by true true e = ap (λ xs. k ∷ xs) f
    by true false e = absurd (cc e)
    by false true e = absurd (cc e)
    by false false e = f

owned_from : (p : ℕ) (test : ℕ → Bool) (k : ℕ) (os : List Operator) → ((i : ℕ) → test (k + i) ≡ unwrap_or (option_map (nat_eq p) (phylum_of os i)) false)
    → owned (map_from (λ op (o : Operator). (o.phylum, op)) k os) p ≡ filter test (from k (length os))
owned_from p test k [] h = refl
owned_from p test k (o ∷ os) h =
    let here : k ≡ k + 0 = omega arith in
    chosen (test k) (nat_eq o.phylum p) k (owned (map_from (λ op (o : Operator). (o.phylum, op)) (suc k) os) p) (filter test (from (suc k) (length os)))
    (ap test here ∙ h 0 ∙ turned_number p o.phylum) (owned_from p test (suc k) os later)
  where
    later : (i : ℕ) → test (suc k + i) ≡ unwrap_or (option_map (nat_eq p) (phylum_of os i)) false
    later i = let e : suc k + i ≡ k + suc i = omega arith in ap test e ∙ h (suc i)

-- what a phylum owns are the numbers of its operators in their order
pub own_ops_are : (ds : List Decl) (p : ℕ) (test : ℕ → Bool) → ((i : ℕ) → test i ≡ unwrap_or (option_map (nat_eq p) (phylum_of (plain_ops ds) i)) false) → own_ops ds p ≡ filter test (below (length (plain_ops ds)))
own_ops_are ds p test h = owned_from p test 0 (plain_ops ds) (λ i. let e : 0 + i ≡ i = omega arith in ap test e ∙ h i) ∙ ap (filter test) (sym (below_from (length (plain_ops ds))))
