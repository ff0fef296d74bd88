-- Nonterminals: what their names and numbers tell, and that each has a production.
use Rattle.std.proofs.Common.{◌≡◌, ℕ, suc, ◌+◌, Bool, true, false, ◌||◌, if◌then◌else◌, List, [], ◌∷◌, ◌++◌, flat_map, fold, length, Some, None, slice_get, bytes_eq, nat_eq, refl, sym, ap, ◌∙◌}
use Rattle.std.specs.Prelude.{is_some, option_map, option_and_then, unwrap_or, find}
use Rattle.std.specs.List.{AllByRecursion as Each, list_any}
use Rattle.sg_kinds.specs.Values.{Bytes}
use Rattle.sg_kinds.specs.Sound.{result_type}
use Rattle.sg_kinds.specs.Specification.{attrs_of}
use Rattle.sg_kinds.specs.declared.fault.SpecFault.TheVariants.{ResultCount}
use Rattle.sg_kinds.specs.declared.spec.Attr.{Attr}
use Rattle.sg_kinds.specs.declared.spec.Production.{Production}
use Rattle.sg_kinds.specs.declared.spec.Spec.{Spec}
use Rattle.sg_kinds.proofs.Elementary.{some_there, eq_is, eq_itself, bytes_is, bytes_itself}
use Rattle.sg_ast.specs.declared.name.Name.{Name}
use Rattle.sg_ast.specs.Declarations.{Decl, Right, Productions}
use Rattle.sg_ast.specs.FirstFault.{or_else}
use Rattle.sg_ast.proofs.FirstLaws.{first-none}
use Rattle.sg_ast.specs.Written.{IsWritten}
use Rattle.sg_names.specs.declared.heads.Head.{Head}
use Rattle.sg_names.specs.declared.table.Nonterminal.{Nonterminal}
use Rattle.sg_names.specs.declared.table.Table.{Table}
use Rattle.sg_names.specs.Heads.{is_head, head_of, with_head}
use Rattle.sg_names.specs.Lookups.{nonterminal_named, phylum_named, symbol_attrs}
use Rattle.sg_names.specs.Names.{map_from, nonterminal_defined, nonterminals_in}
use Rattle.sg_names.specs.Shapes.{has_one_result, result_count_at, result_count}
use Rattle.sg_names.proofs.HeadLaws.{some_place}
use Rattle.sg_remote.specs.Longer.{names_of}
use Rattle.sg_typing.specs.Bodies.{expr_count}
use Rattle.sg_typing.proofs.TableFacts.{position_there}
use Rattle.sg_record.specs.Record.{nonterminal_in, production, productions_in}
use Rattle.sg_record.proofs.Known.{nonterminal_in_heads}
use Rattle.sg_record.proofs.Lists.{any_left, any_right, each_append, each_at, find_there}

-- one attribute
one_result : (attrs : List Attr) → has_one_result attrs ≡ true → (a : Attr) × (attrs ≡ a ∷ [])
one_result [] h = absurd (cc h)
one_result (a ∷ []) h = (a, refl)
one_result (a ∷ b ∷ attrs) h = absurd (cc h)

result_at : (x : Nonterminal) → result_count_at x ≡ None → (a : Attr) × (x.attrs ≡ a ∷ [])
result_at x h = one_result x.attrs (by (has_one_result x.attrs) refl h)
  where
    by : (b : Bool) → has_one_result x.attrs ≡ b → (if b then None else Some (ResultCount x.place x.name)) ≡ None → has_one_result x.attrs ≡ true
    by true e f = e
    by false e f = absurd (cc f)

-- the attributes of a nonterminal by its number
pub attrs_there : (t : Table) (n : Bytes) (k : ℕ) (x : Nonterminal) → nonterminal_named t n ≡ Some k → slice_get t.nonterminals k ≡ Some x → symbol_attrs t n ≡ x.attrs
attrs_there t n k x named there =
    ap (λ o. unwrap_or (or_else (option_and_then (λ j. option_map (λ (y : Nonterminal). y.attrs) (slice_get t.nonterminals j)) o) (option_map (attrs_of t.phyla) (phylum_named t n))) []) named
    ∙ ap (λ o. unwrap_or (or_else (option_map (λ (y : Nonterminal). y.attrs) o) (option_map (attrs_of t.phyla) (phylum_named t n))) []) there

pub nonterminal_there : (t : Table) (n : Bytes) (k : ℕ) → nonterminal_named t n ≡ Some k → (x : Nonterminal) × (slice_get t.nonterminals k ≡ Some x) × (n ≡ x.name)
nonterminal_there t n k h =
    let x = position_there (λ (y : Nonterminal). bytes_eq n y.name) t.nonterminals k h in
    (x.0, x.1, bytes_is n x.0.name x.2)

pub same_attrs : (t : Table) (n m : Bytes) (k : ℕ) → nonterminal_named t n ≡ Some k → nonterminal_named t m ≡ Some k → symbol_attrs t n ≡ symbol_attrs t m
same_attrs t n m k a b =
    let x = nonterminal_there t n k a in
    attrs_there t n k x.0 a x.1 ∙ sym (attrs_there t m k x.0 b x.1)

-- two names of one number are one
pub same_name : (t : Table) (n m : Bytes) (k : ℕ) → nonterminal_named t n ≡ Some k → nonterminal_named t m ≡ Some k → n ≡ m
same_name t n m k a b =
    let x = nonterminal_there t n k a in
    let y = nonterminal_there t m k b in
    let same : x.0 ≡ y.0 = cc (x.1, y.1) in
    x.2 ∙ ap (λ (z : Nonterminal). z.name) same ∙ sym y.2

-- a nonterminal has one attribute
pub result_there : (t : Table) (n : Bytes) (k : ℕ) → result_count t ≡ None → nonterminal_named t n ≡ Some k → (a : Attr) × (symbol_attrs t n ≡ a ∷ [])
unfolding result_count
result_there t n k none named =
    let x = nonterminal_there t n k named in
    let r = result_at x.0 (each_at (λ y. result_count_at y ≡ None) t.nonterminals k x.0 (first-none result_count_at t.nonterminals none) x.1) in
    (r.0, attrs_there t n k x.0 named x.1 ∙ r.1)

-- definitions are kept
head_kept : (n : Bytes) (H : List Head) (h : Head) → list_any (is_head n) H ≡ true → list_any (is_head n) (with_head H h) ≡ true
head_kept n H h there = by (list_any (is_head h.name) H)
  where
    by : (b : Bool) → list_any (is_head n) (if b then H else H ++ h ∷ []) ≡ true
    by true = there
    by false = any_left (is_head n) H (h ∷ []) there

heads_kept : (n : Bytes) (H hs : List Head) → list_any (is_head n) H ≡ true → list_any (is_head n) (fold with_head H hs) ≡ true
heads_kept n H [] there = there
heads_kept n H (h ∷ hs) there = heads_kept n (with_head H h) hs (head_kept n H h there)

head_added : (H : List Head) (n : Name) (lexical : Bool) → list_any (is_head n.text) (with_head H (head_of n lexical)) ≡ true
head_added H n lexical = by (list_any (is_head n.text) H) refl
  where
    by : (b : Bool) → list_any (is_head n.text) H ≡ b → list_any (is_head n.text) (if b then H else H ++ head_of n lexical ∷ []) ≡ true
    by true e = e
    by false e = any_right (is_head n.text) H (head_of n lexical ∷ []) (ap (λ b. b || false) (bytes_itself n.text))

-- the heads behind a declaration
abbrev pub heads_behind : List Head → List Decl → List Head
heads_behind H ds = fold with_head H (flat_map nonterminal_defined ds)

abbrev IsHead : List Head → Decl → Type 0
IsHead F (Productions n rights) = list_any (is_head n.text) F ≡ true
IsHead F d = Unit {0}

all_heads : (H : List Head) (ds : List Decl) → Each (IsHead (heads_behind H ds)) ds
all_heads H [] = tt
all_heads H (Productions n rights ∷ ds) = (heads_kept n.text (with_head H (head_of n false)) (flat_map nonterminal_defined ds) (head_added H n false), all_heads (with_head H (head_of n false)) ds)
all_heads H (d ∷ ds) = (tt, all_heads H ds)

-- each left side is a nonterminal
abbrev pub IsDefined : Table → Decl → Type 0
IsDefined t (Productions n rights) = (k : ℕ) × (nonterminal_named t n.text ≡ Some k)
IsDefined t d = Unit {0}

defined : (ds : List Decl) (d : Decl) → IsHead (nonterminals_in ds) d → IsDefined (names_of ds) d
defined ds (Productions n rights) h =
    some_there (nonterminal_named (names_of ds) n.text) (ap is_some (nonterminal_in_heads ds n.text) ∙ some_place (is_head n.text) (nonterminals_in ds) ∙ h)
defined ds d h = tt

pub all_defined : (ds : List Decl) → Each (IsDefined (names_of ds)) ds
all_defined ds = each ds (all_heads [] ds)
  where
    each : (es : List Decl) → Each (IsHead (nonterminals_in ds)) es → Each (IsDefined (names_of ds)) es
    each [] h = tt
    each (e ∷ es) h = (defined ds e h.0, each es h.1)

-- a production is of its nonterminal, and has the type of its attribute
pub record IsOf (t : Table) (r : Production) : Type 0 where
  pub left : nonterminal_named t r.name ≡ Some r.left
  pub of : (a : Attr) × (symbol_attrs t r.name ≡ a ∷ []) × (a.of ≡ r.of)

production_of : (t : Table) → result_count t ≡ None → (n : Name) (k : ℕ) → nonterminal_named t n.text ≡ Some k → (j : ℕ) (r : Right) → IsOf t (production t n j r)
production_of t none n k named j r =
    let a = result_there t n.text k none named in
    record {
      left = named ∙ ap Some (sym (ap (λ o. unwrap_or o 0) named));
      of = (a.0, a.1, sym (ap (λ (l : List Attr). unwrap_or (option_map (λ (b : Attr). b.of) (slice_get l 0)) 0) a.1));
    }

pub productions_of : (t : Table) → result_count t ≡ None → (k : ℕ) (ds : List Decl) → Each (IsDefined t) ds → Each (IsOf t) (productions_in t k ds)
productions_of t none k [] h = tt
productions_of t none k (Productions n rights ∷ ds) h =
    each_append (IsOf t) (map_from (production t n) k rights) (productions_in t (k + length rights) ds)
    (all k rights) (productions_of t none (k + length rights) ds h.1)
  where
    all : (j : ℕ) (rs : List Right) → Each (IsOf t) (map_from (production t n) j rs)
    all j [] = tt
    all j (r ∷ rs) = (production_of t none n h.0.0 h.0.1 j r, all (suc j) rs)
productions_of t none k (d ∷ ds) h = productions_of t none (k + expr_count d) ds h.1

-- each nonterminal has a production
abbrev pub is_left : ℕ → Production → Bool
is_left k r = nat_eq r.left k

none_behind : {A : Type 0} (p : A → Bool) (xs : List A) (x : A) → p x ≡ false → list_any p xs ≡ false → list_any p (xs ++ x ∷ []) ≡ false
none_behind p [] x other none = ap (λ b. b || false) other
none_behind p (y ∷ xs) x other none = by (p y) none (none_behind p xs x other)
  where
    by : (b : Bool) → (b || list_any p xs) ≡ false → (list_any p xs ≡ false → list_any p (xs ++ x ∷ []) ≡ false) → (b || list_any p (xs ++ x ∷ [])) ≡ false
    by true f rest = absurd (cc f)
    by false f rest = rest f

other_head : (n : Bytes) (H : List Head) (h : Head) → bytes_eq n h.name ≡ false → list_any (is_head n) H ≡ false → list_any (is_head n) (with_head H h) ≡ false
other_head n H h other none = by (list_any (is_head h.name) H)
  where
    by : (b : Bool) → list_any (is_head n) (if b then H else H ++ h ∷ []) ≡ false
    by true = none
    by false = none_behind (is_head n) H h other none

first_right : (t : Table) (m : Name) (k j : ℕ) (rights : List Right) → nonterminal_named t m.text ≡ Some k → (rights ≡ [] → ⊥) → list_any (is_left k) (map_from (production t m) j rights) ≡ true
first_right t m k j [] named some = absurd (some refl)
first_right t m k j (r ∷ rights) named some =
    let same : nonterminal_in t m.text ≡ k = ap (λ o. unwrap_or o 0) named in
    ap (λ b. b || list_any (is_left k) (map_from (production t m) (suc j) rights)) (ap (λ l. nat_eq l k) same ∙ eq_itself k)

pub has_production : (t : Table) (n : Bytes) (k : ℕ) → nonterminal_named t n ≡ Some k → (H : List Head) (j : ℕ) (ds : List Decl) → Each IsWritten ds
    → list_any (is_head n) (heads_behind H ds) ≡ true → list_any (is_head n) H ≡ false → list_any (is_left k) (productions_in t j ds) ≡ true
has_production t n k named H j [] written there none = absurd (cc (there, none))
has_production t n k named H j (Productions m rights ∷ ds) written there none =
    by (bytes_eq n m.text) refl (has_production t n k named (with_head H (head_of m false)) (j + length rights) ds written.1 there)
  where
    by : (b : Bool) → bytes_eq n m.text ≡ b → (list_any (is_head n) (with_head H (head_of m false)) ≡ false → list_any (is_left k) (productions_in t (j + length rights) ds) ≡ true)
        → list_any (is_left k) (map_from (production t m) j rights ++ productions_in t (j + length rights) ds) ≡ true
    by true e rest =
        let named_m : nonterminal_named t m.text ≡ Some k = ap (nonterminal_named t) (sym (bytes_is n m.text e)) ∙ named in
        any_left (is_left k) (map_from (production t m) j rights) (productions_in t (j + length rights) ds) (first_right t m k j rights named_m written.0.0)
    by false e rest = any_right (is_left k) (map_from (production t m) j rights) (productions_in t (j + length rights) ds) (rest (other_head n H (head_of m false) e none))
has_production t n k named H j (d ∷ ds) written there none = has_production t n k named H (j + expr_count d) ds written.1 there none

-- the type of a nonterminal's result in the record
pub result_typed : (ds : List Decl) (spec : Spec) → spec.productions ≡ productions_in (names_of ds) 0 ds → result_count (names_of ds) ≡ None → Each IsWritten ds
    → (n : Bytes) (k : ℕ) (a : Attr) → nonterminal_named (names_of ds) n ≡ Some k → symbol_attrs (names_of ds) n ≡ a ∷ [] → result_type spec k ≡ Some a.of
result_typed ds spec made none written n k a named attrs =
    let t = names_of ds in
    let there : list_any (is_head n) (nonterminals_in ds) ≡ true = sym (some_place (is_head n) (nonterminals_in ds)) ∙ ap is_some (sym (nonterminal_in_heads ds n)) ∙ ap is_some named in
    let r = find_there (IsOf t) (is_left k) (productions_in t 0 ds) (productions_of t none 0 ds (all_defined ds)) (has_production t n k named [] 0 ds written there refl) in
    let left : r.0.left ≡ k = eq_is r.0.left k r.2 in
    let same : symbol_attrs t r.0.name ≡ symbol_attrs t n = same_attrs t r.0.name n k (r.3.left ∙ ap Some left) named in
    let one : r.3.of.0 ≡ a = cc (r.3.of.1, same, attrs) in
    ap (λ l. option_map (λ (s : Production). s.of) (find (is_left k) l)) made ∙ ap (option_map (λ (s : Production). s.of)) r.1 ∙ ap Some (sym r.3.of.2 ∙ ap (λ (b : Attr). b.of) one)
