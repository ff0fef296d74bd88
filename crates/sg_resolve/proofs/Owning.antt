-- What phyla and operators own of the declarations.
use Rattle.std.proofs.Common.{◌≡◌, ℕ, ◌<◌, ◌≤◌, Bool, true, false, cond, ◌&&◌, List, [], ◌∷◌, ◌++◌, length, map, get_or, slice_get, Option, Some, None, option_map, option_and_then, unwrap_or, bytes_eq, nat_eq, refl, sym, ap, ◌∙◌, arith}
use Rattle.std.specs.List.{AllByRecursion, count_by, sum_by, flat_map}
use Rattle.std.proofs.lemmas.List.{map-append, length-map}
use Rattle.std.proofs.lemmas.List.Sums.{sum_by-le-sum_by}
use Rattle.std.proofs.lemmas.List.Quantifiers.{position-Some}
use Rattle.std.proofs.lemmas.Option.{slice_get_within, get_or_from_slice_get}
use Rattle.std.proofs.lemmas.Bool.{and_parts}
use Rattle.sg_kinds.specs.Values.{Bytes}
use Rattle.sg_kinds.specs.Specification.{phylum_of}
use Rattle.sg_kinds.specs.declared.spec.Attr.{Attr}
use Rattle.sg_kinds.specs.declared.spec.Local.{Local}
use Rattle.sg_kinds.specs.declared.spec.Operator.{Operator}
use Rattle.sg_kinds.proofs.Elementary.{eq_is, and_true, bytes_is}
use Rattle.sg_ast.specs.declared.name.Name.{Name}
use Rattle.sg_ast.specs.declared.name.Typed.{Typed}
use Rattle.sg_ast.specs.declared.decl.Alt.{Alt}
use Rattle.sg_ast.specs.declared.decl.AttrDecl.{AttrDecl}
use Rattle.sg_ast.specs.Declarations as decl
use Rattle.sg_ast.specs.Declarations.{Decl, Equation}
use Rattle.sg_names.specs.declared.heads.Head.{Head}
use Rattle.sg_names.specs.declared.table.Signature.{Signature}
use Rattle.sg_names.specs.Heads.{number_in}
use Rattle.sg_names.specs.Names.{owned, phylum_defined, operator, operators_at, operators_in, op_named, if_of, operator_of, local, locals_at, attribute, attributes_at, function_at}
use Rattle.sg_counts.specs.Definitions as space
use Rattle.sg_counts.specs.declared.definitions.Form.TheVariants as form
use Rattle.sg_counts.specs.Duplicates.{defined, expr_defined, definitions_of}
use Rattle.sg_counts.specs.Limits.{is_same_operator, arities_of, attributes_of, locals_of, parameters_of}
use Rattle.sg_counts.proofs.Walks.{count_map}
use Rattle.sg_resolve.proofs.Counting.{equal_bytes, count-front, count-flat, count-owned, count-le-count}
use Rattle.sg_resolve.proofs.HeadCounts.{has, number_names, number_inside}
use Rattle.sg_resolve.proofs.Repeating.{defines}
use Rattle.sg_resolve.proofs.ShapeLists.{each_split, each_append}

nothing : (n : ℕ) → 0 ≤ n
nothing n = omega arith

-- how often a test passes among what one of a number owns
owned_few : {A : Type 0} (q : A → Bool) (k : ℕ) (f : Decl → List (ℕ × A)) (g : Decl → ℕ) → ((d : Decl) → count_by (λ (x : ℕ × A). nat_eq x.0 k && q x.1) (f d) ≤ g d) → (ds : List Decl)
    → count_by q (owned (flat_map f ds) k) ≤ sum_by g ds
owned_few {A} q k f g h ds =
    let e : count_by q (owned (flat_map f ds) k) ≡ sum_by (λ d. count_by (λ (x : ℕ × A). nat_eq x.0 k && q x.1) (f d)) ds = count-owned q k (flat_map f ds) ∙ count-flat (λ (x : ℕ × A). nat_eq x.0 k && q x.1) f ds in
    let l : sum_by (λ d. count_by (λ (x : ℕ × A). nat_eq x.0 k && q x.1) (f d)) ds ≤ sum_by g ds = sum_by-le-sum_by (λ d. count_by (λ (x : ℕ × A). nat_eq x.0 k && q x.1) (f d)) g ds h in
    omega (arith, e, l)

-- the attributes of a phylum: how many there are, and how many of a name
module _ (phyla : List Head) (k : ℕ) (h : Head) (is : slice_get phyla k ≡ Some h) where
  attrs_at : (d : Decl) → count_by (λ (x : ℕ × Attr). nat_eq x.0 k && true) (attributes_at phyla phyla d) ≤ count_by (λ m. bytes_eq m h.name) (attributes_of d)
  attrs_at (decl.Attributes n attrs) =
      rw (count_map (λ (x : ℕ × Attr). nat_eq x.0 k && true) (attribute phyla (number_in phyla n.text)) attrs, count_map (λ m. bytes_eq m h.name) (λ (a : AttrDecl). n.text) attrs)
      (count-le-count (λ (a : AttrDecl). nat_eq (number_in phyla n.text) k && true) (λ (a : AttrDecl). bytes_eq n.text h.name)
      (λ a e. equal_bytes n.text h.name (number_names phyla n.text k h is (eq_is (number_in phyla n.text) k (and_parts (nat_eq (number_in phyla n.text) k) true e).0))) attrs)
  attrs_at d = nothing 0

  pub attrs_few : (ds : List Decl) → count_by (λ (a : Attr). true) (owned (flat_map (attributes_at phyla phyla) ds) k) ≤ count_by (λ m. bytes_eq m h.name) (flat_map attributes_of ds)
  attrs_few ds = rw (count-flat (λ m. bytes_eq m h.name) attributes_of ds) (owned_few (λ (a : Attr). true) k (attributes_at phyla phyla) (λ d. count_by (λ m. bytes_eq m h.name) (attributes_of d)) attrs_at ds)

  attrs_of_name : (m : Bytes) (d : Decl) → count_by (λ (x : ℕ × Attr). nat_eq x.0 k && bytes_eq m x.1.name) (attributes_at phyla phyla d) ≤ count_by (defines (space.Attributes h.name) m) (definitions_of d)
  attrs_of_name m (decl.Attributes n attrs) =
      rw (count_map (λ (x : ℕ × Attr). nat_eq x.0 k && bytes_eq m x.1.name) (attribute phyla (number_in phyla n.text)) attrs, count_map (defines (space.Attributes h.name) m) _ attrs)
      (count-le-count (λ (a : AttrDecl). nat_eq (number_in phyla n.text) k && bytes_eq m a.name.text) (λ (a : AttrDecl). bytes_eq h.name n.text && bytes_eq m a.name.text)
      (λ a e. let both = and_parts (nat_eq (number_in phyla n.text) k) (bytes_eq m a.name.text) e in
      and_true (bytes_eq h.name n.text) (bytes_eq m a.name.text) (equal_bytes h.name n.text (sym (number_names phyla n.text k h is (eq_is (number_in phyla n.text) k both.0)))) both.1) attrs)
  attrs_of_name m d = nothing (count_by (defines (space.Attributes h.name) m) (definitions_of d))

  pub attrs_named : (m : Bytes) (ds : List Decl) → count_by (λ (a : Attr). bytes_eq m a.name) (owned (flat_map (attributes_at phyla phyla) ds) k) ≤ sum_by (λ d. count_by (defines (space.Attributes h.name) m) (definitions_of d)) ds
  attrs_named m ds = owned_few (λ (a : Attr). bytes_eq m a.name) k (attributes_at phyla phyla) (λ d. count_by (defines (space.Attributes h.name) m) (definitions_of d)) (attrs_of_name m) ds

-- the operator of a phylum by a name
local_owner : (phyla : List Head) (ops : List Operator) (n op : Bytes) (k : ℕ) (o : Operator) (h : Head) → slice_get ops k ≡ Some o → slice_get phyla o.phylum ≡ Some h → unwrap_or (operator_of ops (number_in phyla n) op) (length ops) ≡ k
    → (n ≡ h.name) × (op ≡ o.name)
local_owner phyla ops n op k o h is phylum e = by (op_named ops op) refl e
  where
    inside : k < length ops
    inside = slice_get_within ops k o is

    never : length ops ≡ k → (n ≡ h.name) × (op ≡ o.name)
    never past = absurd (omega (arith, inside, past))

    here : op_named ops op ≡ Some k → unwrap_or (option_map (nat_eq (number_in phyla n)) (phylum_of ops k)) false ≡ true → (n ≡ h.name) × (op ≡ o.name)
    here found of =
        let passes : bytes_eq op (get_or ops k o).name ≡ true = (position-Some (λ (x : Operator). bytes_eq op x.name) ops k o found).1 in
        let same : get_or ops k o ≡ o = get_or_from_slice_get ops k o o is in
        let phylum_is : nat_eq (number_in phyla n) o.phylum ≡ true = ap (λ (x : Option Operator). unwrap_or (option_map (nat_eq (number_in phyla n)) (option_map (λ (y : Operator). y.phylum) x)) false) (sym is) ∙ of in
        (number_names phyla n o.phylum h phylum (eq_is (number_in phyla n) o.phylum phylum_is), bytes_is op o.name (ap (λ (x : Operator). bytes_eq op x.name) (sym same) ∙ passes))

    one : (j : ℕ) → op_named ops op ≡ Some j → (b : Bool) → unwrap_or (option_map (nat_eq (number_in phyla n)) (phylum_of ops j)) false ≡ b → unwrap_or (cond b (Some j) None) (length ops) ≡ k → (n ≡ h.name) × (op ≡ o.name)
    one j found true of at = here (found ∙ ap Some at) (ap (λ i. unwrap_or (option_map (nat_eq (number_in phyla n)) (phylum_of ops i)) false) (sym at) ∙ of)
    one j found false of at = never at

    by : (p : Option ℕ) → op_named ops op ≡ p → unwrap_or (option_and_then (if_of ops (number_in phyla n)) p) (length ops) ≡ k → (n ≡ h.name) × (op ≡ o.name)
    by None found at = never at
    by (Some j) found at = one j found (unwrap_or (option_map (nat_eq (number_in phyla n)) (phylum_of ops j)) false) refl at

-- the locals of an operator: how many there are, and how many of a name
module _ (phyla : List Head) (ops : List Operator) (k : ℕ) (o : Operator) (h : Head) (is : slice_get ops k ≡ Some o) (phylum : slice_get phyla o.phylum ≡ Some h) where
  owner : Name → Name → ℕ
  owner n op = unwrap_or (operator_of ops (number_in phyla n.text) op.text) (length ops)

  locals_there : (d : Decl) → count_by (λ (x : ℕ × Local). nat_eq x.0 k && true) (locals_at phyla ops d) ≤ count_by (λ q. is_same_operator q (h.name, o.name)) (locals_of d)
  unfolding owner
  locals_there (decl.Equations n op locals es) =
      rw (count_map (λ (x : ℕ × Local). nat_eq x.0 k && true) (local phyla (owner n op)) locals, count_map (λ q. is_same_operator q (h.name, o.name)) (λ (t : Typed). (n.text, op.text)) locals)
      (count-le-count (λ (t : Typed). nat_eq (owner n op) k && true) (λ (t : Typed). bytes_eq n.text h.name && bytes_eq op.text o.name)
      (λ t e. let names = local_owner phyla ops n.text op.text k o h is phylum (eq_is (owner n op) k (and_parts (nat_eq (owner n op) k) true e).0) in
      and_true (bytes_eq n.text h.name) (bytes_eq op.text o.name) (equal_bytes n.text h.name names.0) (equal_bytes op.text o.name names.1)) locals)
  locals_there d = nothing 0

  pub locals_few : (ds : List Decl) → count_by (λ (l : Local). true) (owned (flat_map (locals_at phyla ops) ds) k) ≤ count_by (λ q. is_same_operator q (h.name, o.name)) (flat_map locals_of ds)
  locals_few ds = rw (count-flat (λ q. is_same_operator q (h.name, o.name)) locals_of ds) (owned_few (λ (l : Local). true) k (locals_at phyla ops) (λ d. count_by (λ q. is_same_operator q (h.name, o.name)) (locals_of d)) locals_there ds)

  locals_of_name : (m : Bytes) (d : Decl) → count_by (λ (x : ℕ × Local). nat_eq x.0 k && bytes_eq m x.1.name) (locals_at phyla ops d) ≤ count_by (defines (space.Locals h.name o.name) m) (definitions_of d)
  unfolding owner
  locals_of_name m (decl.Equations n op locals es) =
      count-front (defines (space.Locals h.name o.name) m) (map (λ (t : Typed). defined form.Alone (space.Locals n.text op.text) t.name) locals) (flat_map (λ (q : Equation). expr_defined q.expr) es) _
      (rw (count_map (λ (x : ℕ × Local). nat_eq x.0 k && bytes_eq m x.1.name) (local phyla (owner n op)) locals, count_map (defines (space.Locals h.name o.name) m) _ locals)
      (count-le-count (λ (t : Typed). nat_eq (owner n op) k && bytes_eq m t.name.text) (λ (t : Typed). (bytes_eq h.name n.text && bytes_eq o.name op.text) && bytes_eq m t.name.text)
      (λ t e. let both = and_parts (nat_eq (owner n op) k) (bytes_eq m t.name.text) e in
      let names = local_owner phyla ops n.text op.text k o h is phylum (eq_is (owner n op) k both.0) in
      and_true (bytes_eq h.name n.text && bytes_eq o.name op.text) (bytes_eq m t.name.text)
      (and_true (bytes_eq h.name n.text) (bytes_eq o.name op.text) (equal_bytes h.name n.text (sym names.0)) (equal_bytes o.name op.text (sym names.1))) both.1) locals))
  locals_of_name m d = nothing (count_by (defines (space.Locals h.name o.name) m) (definitions_of d))

  pub locals_named : (m : Bytes) (ds : List Decl) → count_by (λ (l : Local). bytes_eq m l.name) (owned (flat_map (locals_at phyla ops) ds) k) ≤ sum_by (λ d. count_by (defines (space.Locals h.name o.name) m) (definitions_of d)) ds
  locals_named m ds = owned_few (λ (l : Local). bytes_eq m l.name) k (locals_at phyla ops) (λ d. count_by (defines (space.Locals h.name o.name) m) (definitions_of d)) (locals_of_name m) ds

-- the phylum of an operator is there
all_mapped : {A B : Type 0} (P : B → Type 0) (f : A → B) (xs : List A) → ((x : A) → P (f x)) → AllByRecursion P (map f xs)
all_mapped P f [] h = tt
all_mapped P f (x ∷ xs) h = (h x, all_mapped P f xs h)

phylum_there : (phyla : List Head) (d : Decl) → AllByRecursion (λ (h : Head). has phyla h.name ≡ true) (phylum_defined d) → AllByRecursion (λ (o : Operator). o.phylum < length phyla) (operators_at phyla d)
phylum_there phyla (decl.Operators n alts) all = all_mapped (λ (o : Operator). o.phylum < length phyla) (operator phyla n) alts (λ a. number_inside phyla n.text all.0)
phylum_there phyla d all = tt

pub phyla_there : (phyla : List Head) (ds : List Decl) → AllByRecursion (λ (h : Head). has phyla h.name ≡ true) (flat_map phylum_defined ds) → AllByRecursion (λ (o : Operator). o.phylum < length phyla) (operators_in phyla ds)
phyla_there phyla [] all = tt
phyla_there phyla (d ∷ ds) all =
    let parts = each_split (λ (h : Head). has phyla h.name ≡ true) (phylum_defined d) (flat_map phylum_defined ds) all in
    each_append (λ (o : Operator). o.phylum < length phyla) (operators_at phyla d) (operators_in phyla ds) (phylum_there phyla d parts.0) (phyla_there phyla ds parts.1)

-- how many arguments operators have, and how many parameters functions
map-alike : {A B C : Type 0} (g : B → C) (f : A → B) (v : A → C) → ((x : A) → g (f x) ≡ v x) → (xs : List A) → map g (map f xs) ≡ map v xs
map-alike g f v h [] = refl
map-alike {A} {B} {C} g f v h (x ∷ xs) = ap (λ (c : C). c ∷ map g (map f xs)) (h x) ∙ ap (λ (l : List C). v x ∷ l) (map-alike g f v h xs)

map-flat : {A B C : Type 0} (g : B → C) (f : A → List B) (v : A → List C) → ((x : A) → map g (f x) ≡ v x) → (xs : List A) → map g (flat_map f xs) ≡ flat_map v xs
map-flat g f v h [] = refl
map-flat {A} {B} {C} g f v h (x ∷ xs) = map-append g (f x) (flat_map f xs) ∙ ap (λ (l : List C). l ++ map g (flat_map f xs)) (h x) ∙ ap (λ (l : List C). v x ++ l) (map-flat g f v h xs)

arities_at : (phyla : List Head) (d : Decl) → map (λ (o : Operator). length o.args) (operators_at phyla d) ≡ arities_of d
arities_at phyla (decl.Operators n alts) = map-alike (λ (o : Operator). length o.args) (operator phyla n) (λ (a : Alt). length a.args) (λ a. length-map a.args (λ (m : Name). number_in phyla m.text)) alts
arities_at phyla d = refl

pub arities_in : (phyla : List Head) (ds : List Decl) → map (λ (o : Operator). length o.args) (operators_in phyla ds) ≡ flat_map arities_of ds
arities_in phyla ds = map-flat (λ (o : Operator). length o.args) (operators_at phyla) arities_of (arities_at phyla) ds

parameters_at : (phyla : List Head) (d : Decl) → map (λ (f : Signature). length f.params) (function_at phyla d) ≡ parameters_of d
parameters_at phyla (decl.Function t n params e) = ap (λ k. k ∷ []) (length-map params (λ (p : Typed). number_in phyla p.of.text))
parameters_at phyla d = refl

pub parameters_in : (phyla : List Head) (ds : List Decl) → map (λ (f : Signature). length f.params) (flat_map (function_at phyla) ds) ≡ flat_map parameters_of ds
parameters_in phyla ds = map-flat (λ (f : Signature). length f.params) (function_at phyla) parameters_of (parameters_at phyla) ds
