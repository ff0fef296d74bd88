-- The counts and the names of the table of declarations.
use Rattle.std.proofs.Common.{◌≡◌, ℕ, ◌+◌, ◌<◌, ◌≤◌, Bool, true, false, cond, List, [], ◌∷◌, ◌++◌, length, map, filter, take, slice_get, Some, None, bytes_eq, refl, sym, ap, subst, ◌∙◌, arith}
use Rattle.std.specs.List.{All, AllByRecursion, count_by, sum_by, flat_map}
use Rattle.std.proofs.lemmas.List.Elements.{recursion_from_All}
use Rattle.std.proofs.lemmas.List.Sums.{sum_by-le-sum_by}
use Rattle.std.proofs.lemmas.List.{length-map}
use Rattle.sg_kinds.specs.Values.{Bytes}
use Rattle.sg_kinds.specs.Sound.{AreDistinct, base_names, builtin_names}
use Rattle.sg_kinds.specs.Specification.{is_leaf_shape}
use Rattle.sg_kinds.specs.Far.{is_far, is_written}
use Rattle.sg_kinds.specs.declared.spec.Attr.{Attr}
use Rattle.sg_kinds.specs.declared.spec.Local.{Local}
use Rattle.sg_kinds.specs.declared.spec.Operator.{Operator}
use Rattle.sg_kinds.specs.declared.spec.Phylum.{Phylum}
use Rattle.sg_kinds.proofs.Elementary.{slice_get-there}
use Rattle.sg_ast.specs.declared.decl.Alt.{Alt}
use Rattle.sg_ast.specs.Declarations as decl
use Rattle.sg_ast.specs.Declarations.{Decl}
use Rattle.sg_names.specs.declared.heads.Head.{Head}
use Rattle.sg_names.specs.declared.table.Signature.{Signature}
use Rattle.sg_names.specs.Heads.{base_heads}
use Rattle.sg_names.specs.Names as made
use Rattle.sg_names.specs.Names.{map_from, owned, owners, phylum_defined, phyla_in, operator, operators_at, operators_in, locals_at, attributes_at, function_at, shape_of, lexemes_before, value_attr, phylum, with_local, listings_of, names_of}
use Rattle.sg_names.proofs.FarLaws.{AreWritten, attrs_written, only_written, written_count, far_count}
use Rattle.sg_names.proofs.OpPlaces.{map_from_length}
use Rattle.sg_counts.specs.Definitions as space
use Rattle.sg_counts.specs.declared.definitions.Form.TheVariants as form
use Rattle.sg_counts.specs.Duplicates.{defined, expr_defined, definitions_of, given, duplicate, before_text}
use Rattle.sg_counts.specs.Limits.{is_same_operator, arities_of, parameters_of, attributes_of, locals_of}
use Rattle.sg_counts.proofs.Walks.{count_map}
use Rattle.sg_resolve.specs.Limited.{IsLimited}
use Rattle.sg_resolve.proofs.Counting.{count-all, count-cons, count-append, count-front, count-flat, sum_by-both, distinct_from_counts, all_made, map-made}
use Rattle.sg_resolve.proofs.HeadCounts.{fold_has, phyla_once, phyla_few, base_first}
use Rattle.sg_resolve.proofs.Owning.{attrs_few, attrs_named, locals_few, locals_named, phyla_there, arities_in, parameters_in}
use Rattle.sg_resolve.proofs.Repeating.{defines, once}
use Rattle.sg_resolve.proofs.ShapeLists.{each_at, each_both, each_implies}

-- what is made with its place, counted from 0
all_from : {A B : Type 0} (P : B → Type 0) (f : ℕ → A → B) (xs : List A) → ((k : ℕ) (x : A) → slice_get xs k ≡ Some x → P (f k x)) → AllByRecursion P (map_from f 0 xs)
all_from P f xs h = all_made P f 0 xs (λ k x is. let e : k ≡ 0 + k = omega arith in subst (λ n. P (f n x)) e (h k x is))

-- the phylum of each operator is there
pub inside : (ds : List Decl) → AllByRecursion (λ (o : Operator). o.phylum < length (phyla_in ds)) (operators_in (phyla_in ds) ds)
inside ds = phyla_there (phyla_in ds) ds (fold_has base_heads (flat_map phylum_defined ds))

phylum_at : (ds : List Decl) (k : ℕ) (o : Operator) → slice_get (operators_in (phyla_in ds) ds) k ≡ Some o → (h : Head) × (slice_get (phyla_in ds) o.phylum ≡ Some h)
phylum_at ds k o is = slice_get-there (phyla_in ds) o.phylum (each_at (λ (x : Operator). x.phylum < length (phyla_in ds)) (operators_in (phyla_in ds) ds) k o (inside ds) is)

-- a phylum's attributes are those of its declarations, or the one of a leaf
of_phylum : (P : List Attr → Type 0) (ds : List Decl) → ((k : ℕ) → P (value_attr k ∷ [])) → ((k : ℕ) (h : Head) → slice_get (phyla_in ds) k ≡ Some h → P (owned (flat_map (attributes_at (phyla_in ds) (phyla_in ds)) ds) k))
    → AllByRecursion (λ (x : Phylum). P x.attrs) (names_of ds).phyla
unfolding names_of
of_phylum P ds leaf other =
    all_from (λ (x : Phylum). P x.attrs) (phylum (phyla_in ds) (listings_of (phyla_in ds) ds) (owned (owners (operators_in (phyla_in ds) ds))) (made.attributes_of (phyla_in ds) (phyla_in ds) ds)) (phyla_in ds)
    (λ k h is. by k (other k h is) (is_leaf_shape (shape_of (lexemes_before (phyla_in ds) k) (listings_of (phyla_in ds) ds k) k h)))
  where
    by : (k : ℕ) → P (owned (flat_map (attributes_at (phyla_in ds) (phyla_in ds)) ds) k) → (b : Bool) → P (cond b (value_attr k ∷ []) (owned (flat_map (attributes_at (phyla_in ds) (phyla_in ds)) ds) k))
    by k attrs true = leaf k
    by k attrs false = attrs

-- an operator's locals are those of its declarations
of_operator : (P : List Local → Type 0) (ds : List Decl)
    → ((k : ℕ) (o : Operator) (h : Head) → slice_get (operators_in (phyla_in ds) ds) k ≡ Some o → slice_get (phyla_in ds) o.phylum ≡ Some h → P (owned (flat_map (locals_at (phyla_in ds) (operators_in (phyla_in ds) ds)) ds) k))
    → AllByRecursion (λ (o : Operator). P o.locals) (names_of ds).ops
unfolding names_of
of_operator P ds each =
    all_from (λ (o : Operator). P o.locals) (with_local (made.locals_of (phyla_in ds) (operators_in (phyla_in ds) ds) ds)) (operators_in (phyla_in ds) ds)
    (λ k o is. let h = phylum_at ds k o is in each k o h.0 is h.1)

-- counts
pub phyla_limited : (ds : List Decl) → IsLimited ds → length (names_of ds).phyla ≤ 515
unfolding names_of
phyla_limited ds low =
    let e : length (map_from (phylum (phyla_in ds) (listings_of (phyla_in ds) ds) (owned (owners (operators_in (phyla_in ds) ds))) (made.attributes_of (phyla_in ds) (phyla_in ds) ds)) 0 (phyla_in ds)) ≡ length (phyla_in ds) =
    map_from_length (phylum (phyla_in ds) (listings_of (phyla_in ds) ds) (owned (owners (operators_in (phyla_in ds) ds))) (made.attributes_of (phyla_in ds) (phyla_in ds) ds)) 0 (phyla_in ds) in
    subst (λ n. n ≤ 515) (sym e) (phyla_few ds low.phyla)

args_in : (ds : List Decl) → map (λ (o : Operator). length o.args) (names_of ds).ops ≡ flat_map arities_of ds
unfolding names_of
args_in ds =
    map-made (λ (o : Operator). length o.args) (with_local (made.locals_of (phyla_in ds) (operators_in (phyla_in ds) ds) ds)) (λ (o : Operator). length o.args) (λ k o. refl) 0 (operators_in (phyla_in ds) ds)
    ∙ arities_in (phyla_in ds) ds

pub ops_limited : (ds : List Decl) → IsLimited ds → length (names_of ds).ops ≤ 2048
ops_limited ds low =
    let e : length (names_of ds).ops ≡ length (flat_map arities_of ds) = sym (length-map (names_of ds).ops (λ (o : Operator). length o.args)) ∙ ap length (args_in ds) in
    subst (λ n. n ≤ 2048) (sym e) low.ops

all_of : {A : Type 0} (P : ℕ → Type 0) (f : A → ℕ) (xs : List A) (ns : List ℕ) → map f xs ≡ ns → All P ns → AllByRecursion (λ x. P (f x)) xs
all_of P f xs ns e all = seen xs (subst (AllByRecursion P) (sym e) (recursion_from_All P ns all))
  where
    seen : (ys : List _) → AllByRecursion P (map f ys) → AllByRecursion (λ x. P (f x)) ys
    seen [] each = tt
    seen (y ∷ ys) each = (each.0, seen ys each.1)

pub args_limited : (ds : List Decl) → IsLimited ds → AllByRecursion (λ (o : Operator). length o.args ≤ 16) (names_of ds).ops
args_limited ds low = all_of (λ n. n ≤ 16) (λ (o : Operator). length o.args) (names_of ds).ops (flat_map arities_of ds) (args_in ds) low.args

attrs_limited : (ds : List Decl) → IsLimited ds → AllByRecursion (λ (x : Phylum). length x.attrs ≤ 32) (names_of ds).phyla
attrs_limited ds low = of_phylum (λ attrs. length attrs ≤ 32) ds (λ k. omega arith) each
  where
    each : (k : ℕ) (h : Head) → slice_get (phyla_in ds) k ≡ Some h → length (owned (flat_map (attributes_at (phyla_in ds) (phyla_in ds)) ds) k) ≤ 32
    each k h is =
        let all : count_by (λ (a : Attr). true) (owned (flat_map (attributes_at (phyla_in ds) (phyla_in ds)) ds) k) ≡ length (owned (flat_map (attributes_at (phyla_in ds) (phyla_in ds)) ds) k) = count-all (owned (flat_map (attributes_at (phyla_in ds) (phyla_in ds)) ds) k) in
        let few : count_by (λ (a : Attr). true) (owned (flat_map (attributes_at (phyla_in ds) (phyla_in ds)) ds) k) ≤ count_by (λ m. bytes_eq m h.name) (flat_map attributes_of ds) = attrs_few (phyla_in ds) k h is ds in
        let limited : count_by (λ m. bytes_eq m h.name) (flat_map attributes_of ds) ≤ 32 = low.attrs h.name in
        omega (arith, all, few, limited)

-- the attributes of the table are written ones
few_written : (attrs : List Attr) → AreWritten attrs → length attrs ≤ 32 → (count_by is_written attrs ≤ 32) × (count_by is_far attrs ≤ 1048576)
few_written attrs all few =
    let written : count_by is_written attrs ≡ length attrs = written_count attrs all in
    let far : count_by is_far attrs ≡ 0 = far_count attrs all in
    (omega (arith, written, few), omega (arith, far))

pub attrs_counted : (ds : List Decl) → IsLimited ds → AllByRecursion (λ (x : Phylum). (count_by is_written x.attrs ≤ 32) × (count_by is_far x.attrs ≤ 1048576)) (names_of ds).phyla
attrs_counted ds low =
    each_implies (λ (x : Phylum). AreWritten x.attrs × (length x.attrs ≤ 32)) (λ (x : Phylum). (count_by is_written x.attrs ≤ 32) × (count_by is_far x.attrs ≤ 1048576)) (λ x h. few_written x.attrs h.0 h.1) (names_of ds).phyla
    (each_both (λ (x : Phylum). AreWritten x.attrs) (λ (x : Phylum). length x.attrs ≤ 32) (names_of ds).phyla (attrs_written ds) (attrs_limited ds low))

pub locals_limited : (ds : List Decl) → IsLimited ds → AllByRecursion (λ (o : Operator). length o.locals ≤ 32) (names_of ds).ops
locals_limited ds low = of_operator (λ locals. length locals ≤ 32) ds each
  where
    each : (k : ℕ) (o : Operator) (h : Head) → slice_get (operators_in (phyla_in ds) ds) k ≡ Some o → slice_get (phyla_in ds) o.phylum ≡ Some h → length (owned (flat_map (locals_at (phyla_in ds) (operators_in (phyla_in ds) ds)) ds) k) ≤ 32
    each k o h is phylum =
        let mine = owned (flat_map (locals_at (phyla_in ds) (operators_in (phyla_in ds) ds)) ds) k in
        let all : count_by (λ (l : Local). true) mine ≡ length mine = count-all mine in
        let few : count_by (λ (l : Local). true) mine ≤ count_by (λ q. is_same_operator q (h.name, o.name)) (flat_map locals_of ds) = locals_few (phyla_in ds) (operators_in (phyla_in ds) ds) k o h is phylum ds in
        let limited : count_by (λ q. is_same_operator q (h.name, o.name)) (flat_map locals_of ds) ≤ 32 = low.locals (h.name, o.name) in
        omega (arith, all, few, limited)

params_in : (ds : List Decl) → map (λ (f : Signature). length f.params) (names_of ds).functions ≡ flat_map parameters_of ds
unfolding names_of
params_in ds = parameters_in (phyla_in ds) ds

pub functions_limited : (ds : List Decl) → IsLimited ds → length (names_of ds).functions ≤ 1024
functions_limited ds low =
    let e : length (names_of ds).functions ≡ length (flat_map parameters_of ds) = sym (length-map (names_of ds).functions (λ (f : Signature). length f.params)) ∙ ap length (params_in ds) in
    subst (λ n. n ≤ 1024) (sym e) low.functions

pub params_limited : (ds : List Decl) → IsLimited ds → AllByRecursion (λ (f : Signature). length f.params ≤ 16) (names_of ds).functions
params_limited ds low = all_of (λ n. n ≤ 16) (λ (f : Signature). length f.params) (names_of ds).functions (flat_map parameters_of ds) (params_in ds) low.params

-- names
phyla_names : (ds : List Decl) → map (λ (x : Phylum). x.name) (names_of ds).phyla ≡ map (λ (h : Head). h.name) (phyla_in ds)
unfolding names_of
phyla_names ds =
    map-made (λ (x : Phylum). x.name) (phylum (phyla_in ds) (listings_of (phyla_in ds) ds) (owned (owners (operators_in (phyla_in ds) ds))) (made.attributes_of (phyla_in ds) (phyla_in ds) ds)) (λ (h : Head). h.name) (λ k h. refl) 0 (phyla_in ds)

pub base_named : (ds : List Decl) → map (λ (x : Phylum). x.name) (take 3 (names_of ds).phyla) ≡ base_names
unfolding names_of
base_named ds = let front = base_first ds in ap (λ (l : List Head). map (λ (x : Phylum). x.name) (take 3 (map_from (phylum (phyla_in ds) (listings_of (phyla_in ds) ds) (owned (owners (operators_in (phyla_in ds) ds))) (made.attributes_of (phyla_in ds) (phyla_in ds) ds)) 0 l))) front.1

pub phyla_distinct : (ds : List Decl) → AreDistinct (map (λ (x : Phylum). x.name) (names_of ds).phyla)
phyla_distinct ds = subst AreDistinct (sym (phyla_names ds)) (distinct_from_counts (map (λ (h : Head). h.name) (phyla_in ds)) (λ n. subst (λ k. k ≤ 1) (sym (count_map (bytes_eq n) (λ (h : Head). h.name) (phyla_in ds))) (phyla_once ds n)))

-- the names of operators and functions, each defined by its declaration
nothing : (n : ℕ) → 0 ≤ n
nothing n = omega arith

zero_more : (n : ℕ) → 0 + n ≤ n
zero_more n = omega arith

callables_at : (phyla : List Head) (n : Bytes) (d : Decl) → count_by (λ (o : Operator). bytes_eq n o.name) (operators_at phyla d) + count_by (λ (f : Signature). bytes_eq n f.name) (function_at phyla d) ≤ count_by (defines space.Callables n) (definitions_of d)
callables_at phyla n (decl.Operators p alts) =
    let e : count_by (λ (o : Operator). bytes_eq n o.name) (map (operator phyla p) alts) ≡ count_by (λ (a : Alt). bytes_eq n a.name.text) alts = count_map (λ (o : Operator). bytes_eq n o.name) (operator phyla p) alts in
    let f : count_by (defines space.Callables n) (definitions_of (decl.Operators p alts)) ≡ 0 + count_by (λ (a : Alt). bytes_eq n a.name.text) alts =
    count-cons (defines space.Callables n) (defined form.Operators space.Phyla p) (map (λ (a : Alt). defined form.Alone space.Callables a.name) alts)
    ∙ ap (λ k. 0 + k) (count_map (defines space.Callables n) (λ (a : Alt). defined form.Alone space.Callables a.name) alts) in
    omega (arith, e, f)
callables_at phyla n (decl.Function t m params e) = count-front (defines space.Callables n) (defined form.Alone space.Callables m ∷ []) (expr_defined e) _ (zero_more (0 + cond (bytes_eq n m.text) 1 0))
callables_at phyla n d = nothing (count_by (defines space.Callables n) (definitions_of d))

given_first : (n : Bytes) (bs cs : List Bytes) → count_by (bytes_eq n) cs ≤ count_by (defines space.Callables n) (map (before_text space.Phyla) bs ++ map (before_text space.Callables) cs)
given_first n bs cs =
    let split : count_by (defines space.Callables n) (map (before_text space.Phyla) bs ++ map (before_text space.Callables) cs) ≡ count_by (defines space.Callables n) (map (before_text space.Phyla) bs) + count_by (defines space.Callables n) (map (before_text space.Callables) cs) =
    count-append (defines space.Callables n) (map (before_text space.Phyla) bs) (map (before_text space.Callables) cs) in
    let seen : count_by (defines space.Callables n) (map (before_text space.Callables) cs) ≡ count_by (bytes_eq n) cs = count_map (defines space.Callables n) (before_text space.Callables) cs in
    omega (arith, split, seen)

-- three kinds of names that are all defined once
all_three : (whole a b c g s : ℕ) → whole ≡ a + (b + c) → c ≤ g → a + b ≤ s → g + s ≤ 1 → whole ≤ 1
all_three whole a b c g s e low both one = omega (arith, e, low, both, one)

names_append : (n : Bytes) (xs ys zs : List Bytes) → count_by (bytes_eq n) (xs ++ (ys ++ zs)) ≡ count_by (bytes_eq n) xs + (count_by (bytes_eq n) ys + count_by (bytes_eq n) zs)
names_append n xs ys zs = count-append (bytes_eq n) xs (ys ++ zs) ∙ ap (λ k. count_by (bytes_eq n) xs + k) (count-append (bytes_eq n) ys zs)

op_names : (ds : List Decl) → map (λ (o : Operator). o.name) (names_of ds).ops ≡ map (λ (o : Operator). o.name) (operators_in (phyla_in ds) ds)
unfolding names_of
op_names ds = map-made (λ (o : Operator). o.name) (with_local (made.locals_of (phyla_in ds) (operators_in (phyla_in ds) ds) ds)) (λ (o : Operator). o.name) (λ k o. refl) 0 (operators_in (phyla_in ds) ds)

op_count : (ds : List Decl) (n : Bytes) → count_by (bytes_eq n) (map (λ (o : Operator). o.name) (names_of ds).ops) ≡ sum_by (λ d. count_by (λ (o : Operator). bytes_eq n o.name) (operators_at (phyla_in ds) d)) ds
op_count ds n =
    ap (count_by (bytes_eq n)) (op_names ds) ∙ count_map (bytes_eq n) (λ (o : Operator). o.name) (operators_in (phyla_in ds) ds)
    ∙ count-flat (λ (o : Operator). bytes_eq n o.name) (operators_at (phyla_in ds)) ds

function_count : (ds : List Decl) (n : Bytes) → count_by (bytes_eq n) (map (λ (f : Signature). f.name) (names_of ds).functions) ≡ sum_by (λ d. count_by (λ (f : Signature). bytes_eq n f.name) (function_at (phyla_in ds) d)) ds
unfolding names_of
function_count ds n = count_map (bytes_eq n) (λ (f : Signature). f.name) (flat_map (function_at (phyla_in ds)) ds) ∙ count-flat (λ (f : Signature). bytes_eq n f.name) (function_at (phyla_in ds)) ds

callables_few : (ds : List Decl) (n : Bytes)
    → count_by (bytes_eq n) (map (λ (o : Operator). o.name) (names_of ds).ops) + count_by (bytes_eq n) (map (λ (f : Signature). f.name) (names_of ds).functions) ≤ sum_by (λ d. count_by (defines space.Callables n) (definitions_of d)) ds
callables_few ds n =
    let f = λ (d : Decl). count_by (λ (o : Operator). bytes_eq n o.name) (operators_at (phyla_in ds) d) in
    let g = λ (d : Decl). count_by (λ (s : Signature). bytes_eq n s.name) (function_at (phyla_in ds) d) in
    let both : count_by (bytes_eq n) (map (λ (o : Operator). o.name) (names_of ds).ops) + count_by (bytes_eq n) (map (λ (s : Signature). s.name) (names_of ds).functions) ≡ sum_by (λ d. f d + g d) ds =
    (λ i. op_count ds n i + function_count ds n i) ∙ sum_by-both f g ds in
    subst (λ k. k ≤ sum_by (λ d. count_by (defines space.Callables n) (definitions_of d)) ds) (sym both)
    (sum_by-le-sum_by (λ d. f d + g d) (λ d. count_by (defines space.Callables n) (definitions_of d)) ds (callables_at (phyla_in ds) n))

pub callables_distinct : (ds : List Decl) → duplicate ds ≡ None → AreDistinct (map (λ (o : Operator). o.name) (names_of ds).ops ++ (map (λ (f : Signature). f.name) (names_of ds).functions ++ builtin_names))
callables_distinct ds e =
    distinct_from_counts (map (λ (o : Operator). o.name) (names_of ds).ops ++ (map (λ (f : Signature). f.name) (names_of ds).functions ++ builtin_names))
    (λ n. all_three
    (count_by (bytes_eq n) (map (λ (o : Operator). o.name) (names_of ds).ops ++ (map (λ (f : Signature). f.name) (names_of ds).functions ++ builtin_names)))
    (count_by (bytes_eq n) (map (λ (o : Operator). o.name) (names_of ds).ops)) (count_by (bytes_eq n) (map (λ (f : Signature). f.name) (names_of ds).functions)) (count_by (bytes_eq n) builtin_names)
    (count_by (defines space.Callables n) given) (sum_by (λ d. count_by (defines space.Callables n) (definitions_of d)) ds)
    (names_append n (map (λ (o : Operator). o.name) (names_of ds).ops) (map (λ (f : Signature). f.name) (names_of ds).functions) builtin_names)
    (given_first n base_names builtin_names) (callables_few ds n) (once ds e space.Callables n))

-- the names of attributes and locals
fewer : (a g s : ℕ) → a ≤ s → g + s ≤ 1 → a ≤ 1
fewer a g s low one = omega (arith, low, one)

one_name : (n : Bytes) → AreDistinct (n ∷ [])
one_name n i j d low inside = absurd (omega (arith, low, inside))

attrs_distinct : (ds : List Decl) → duplicate ds ≡ None → AllByRecursion (λ (x : Phylum). AreDistinct (map (λ (a : Attr). a.name) x.attrs)) (names_of ds).phyla
attrs_distinct ds e = of_phylum (λ attrs. AreDistinct (map (λ (a : Attr). a.name) attrs)) ds (λ k. one_name (value_attr k).name) each
  where
    each : (k : ℕ) (h : Head) → slice_get (phyla_in ds) k ≡ Some h → AreDistinct (map (λ (a : Attr). a.name) (owned (flat_map (attributes_at (phyla_in ds) (phyla_in ds)) ds) k))
    each k h is = distinct_from_counts (map (λ (a : Attr). a.name) (owned (flat_map (attributes_at (phyla_in ds) (phyla_in ds)) ds) k))
        (λ n. subst (λ c. c ≤ 1) (sym (count_map (bytes_eq n) (λ (a : Attr). a.name) (owned (flat_map (attributes_at (phyla_in ds) (phyla_in ds)) ds) k)))
        (fewer (count_by (λ (a : Attr). bytes_eq n a.name) (owned (flat_map (attributes_at (phyla_in ds) (phyla_in ds)) ds) k)) (count_by (defines (space.Attributes h.name) n) given)
        (sum_by (λ d. count_by (defines (space.Attributes h.name) n) (definitions_of d)) ds) (attrs_named (phyla_in ds) k h is n ds) (once ds e (space.Attributes h.name) n)))

pub attrs_apart : (ds : List Decl) → duplicate ds ≡ None → AllByRecursion (λ (x : Phylum). AreDistinct (map (λ (a : Attr). a.name) (filter is_written x.attrs))) (names_of ds).phyla
attrs_apart ds e =
    each_implies (λ (x : Phylum). AreWritten x.attrs × AreDistinct (map (λ (a : Attr). a.name) x.attrs)) (λ (x : Phylum). AreDistinct (map (λ (a : Attr). a.name) (filter is_written x.attrs)))
    (λ x h. subst (λ (l : List Attr). AreDistinct (map (λ (a : Attr). a.name) l)) (sym (only_written x.attrs h.0)) h.1) (names_of ds).phyla
    (each_both (λ (x : Phylum). AreWritten x.attrs) (λ (x : Phylum). AreDistinct (map (λ (a : Attr). a.name) x.attrs)) (names_of ds).phyla (attrs_written ds) (attrs_distinct ds e))

pub locals_distinct : (ds : List Decl) → duplicate ds ≡ None → AllByRecursion (λ (o : Operator). AreDistinct (map (λ (l : Local). l.name) o.locals)) (names_of ds).ops
locals_distinct ds e = of_operator (λ locals. AreDistinct (map (λ (l : Local). l.name) locals)) ds each
  where
    each : (k : ℕ) (o : Operator) (h : Head) → slice_get (operators_in (phyla_in ds) ds) k ≡ Some o → slice_get (phyla_in ds) o.phylum ≡ Some h
        → AreDistinct (map (λ (l : Local). l.name) (owned (flat_map (locals_at (phyla_in ds) (operators_in (phyla_in ds) ds)) ds) k))
    each k o h is phylum = distinct_from_counts (map (λ (l : Local). l.name) (owned (flat_map (locals_at (phyla_in ds) (operators_in (phyla_in ds) ds)) ds) k))
        (λ n. subst (λ c. c ≤ 1) (sym (count_map (bytes_eq n) (λ (l : Local). l.name) (owned (flat_map (locals_at (phyla_in ds) (operators_in (phyla_in ds) ds)) ds) k)))
        (fewer (count_by (λ (l : Local). bytes_eq n l.name) (owned (flat_map (locals_at (phyla_in ds) (operators_in (phyla_in ds) ds)) ds) k)) (count_by (defines (space.Locals h.name o.name) n) given)
        (sum_by (λ d. count_by (defines (space.Locals h.name o.name) n) (definitions_of d)) ds) (locals_named (phyla_in ds) (operators_in (phyla_in ds) ds) k o h is phylum n ds) (once ds e (space.Locals h.name o.name) n)))
