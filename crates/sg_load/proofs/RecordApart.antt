-- Where no definition is a second one, no nonterminal has the name of a phylum.
use Rattle.std.proofs.Common.{◌≡◌, Bool, true, false, not, ◌&&◌, ◌||◌, if◌then◌else◌, List, [], ◌∷◌, ◌++◌, map, flat_map, fold, None, bytes_eq, refl, sym, ap, ◌∙◌, append_assoc, append-nil}
use Rattle.std.specs.Prelude.{is_some}
use Rattle.std.specs.List.{AllByRecursion, list_any}
use Rattle.std.proofs.lemmas.Bool.{and_parts, and_from, or_right}
use Rattle.std.proofs.lemmas.List.Folds.{list_any-append}
use Rattle.sg_kinds.specs.Values.{Bytes}
use Rattle.sg_kinds.proofs.Elementary.{bytes_is}
use Rattle.sg_ast.specs.declared.decl.Alt.{Alt}
use Rattle.sg_ast.specs.Declarations as decl
use Rattle.sg_ast.specs.Declarations.{Decl, Right}
use Rattle.sg_names.specs.declared.heads.Head.{Head}
use Rattle.sg_names.specs.Heads.{is_head, with_head, base_heads}
use Rattle.sg_names.specs.Names.{phylum_defined, nonterminal_defined, phyla_in, nonterminals_in}
use Rattle.sg_names.proofs.HeadLaws.{some_place}
use Rattle.sg_counts.specs.declared.definitions.Form.{Form}
use Rattle.sg_counts.specs.declared.definitions.Form.TheVariants as form
use Rattle.sg_counts.specs.declared.definitions.Definition.{Definition}
use Rattle.sg_counts.specs.Definitions.{Space, Phyla, Callables, Key, is_same_space, is_same_key, adds_up, clashes}
use Rattle.sg_counts.specs.Duplicates.{defined, expr_defined, definitions_of, definitions_in, given, duplicate}
use Rattle.sg_resolve.proofs.Counting.{equal_bytes}
use Rattle.sg_resolve.proofs.ShapeApart.{definitions_apart}
use Rattle.sg_resolve.proofs.ShapeApart as places
use Rattle.sg_record.specs.Premises.{AreApart}
use Rattle.sg_record.proofs.Known.{phylum_in_heads, nonterminal_in_heads}
use Rattle.sg_record.proofs.Lists.{any_left, any_right}
use Rattle.sg_remote.specs.Longer.{names_of}

-- among elements of which none is like one before it, none is like another
none_like : {X : Type 0} (same : X → X → Bool) (p : X → Bool) (x : X) (xs : List X) → ((y : X) → p y ≡ true → same x y ≡ true) → AllByRecursion (λ y. same x y ≡ false) xs → list_any p xs ≡ true → ⊥
none_like same p x [] like apart any = cc any
none_like same p x (y ∷ xs) like apart any = by (p y) refl any (none_like same p x xs like apart.1)
  where
    by : (b : Bool) → p y ≡ b → (b || list_any p xs) ≡ true → (list_any p xs ≡ true → ⊥) → ⊥
    by true e any rest = let never : false ≡ true = sym apart.0 ∙ like y e in cc never
    by false e any rest = rest any

module _ {X : Type 0} (same : X → X → Bool) (p q : X → Bool) (differ : (x : X) → p x ≡ true → q x ≡ true → ⊥) (before : (x y : X) → p x ≡ true → q y ≡ true → same x y ≡ true)
    (behind : (x y : X) → q x ≡ true → p y ≡ true → same x y ≡ true) where
  never_both : (xs : List X) → places.AreApart same xs → list_any p xs ≡ true → list_any q xs ≡ true → ⊥
  never_both [] apart a b = cc a
  never_both (x ∷ xs) apart a b = by (p x) refl (q x) refl a b (never_both xs apart.1)
    where
      by : (c : Bool) → p x ≡ c → (d : Bool) → q x ≡ d → (c || list_any p xs) ≡ true → (d || list_any q xs) ≡ true → (list_any p xs ≡ true → list_any q xs ≡ true → ⊥) → ⊥
      by true c true d e f rest = differ x c d
      by true c false d e f rest = none_like same q x xs (λ y h. before x y c h) apart.0 f
      by false c true d e f rest = none_like same p x xs (λ y h. behind x y d h) apart.0 e
      by false c false d e f rest = rest e f

-- the definitions of a nonterminal and of a phylum by a name
abbrev in_phyla : Space → Bool
in_phyla Phyla = true
in_phyla s = false

abbrev has_productions : Form → Bool
has_productions form.Productions = true
has_productions f = false

abbrev of_nonterminal : Bytes → Definition Key → Bool
of_nonterminal n d = in_phyla d.key.space && (has_productions d.form && bytes_eq n d.key.name)

abbrev of_phylum : Bytes → Definition Key → Bool
of_phylum n d = in_phyla d.key.space && (not (has_productions d.form) && bytes_eq n d.key.name)

-- they clash, whichever comes first
is_phyla : (s : Space) → in_phyla s ≡ true → s ≡ Phyla
is_phyla Phyla e = refl
is_phyla s e = absurd (cc e)

apart_before : (f g : Form) → has_productions f ≡ true → not (has_productions g) ≡ true → not (adds_up f g) ≡ true
apart_before form.Productions form.Productions e h = absurd (cc h)
apart_before form.Productions g e h = refl
apart_before f g e h = absurd (cc e)

apart_behind : (f g : Form) → not (has_productions f) ≡ true → has_productions g ≡ true → not (adds_up f g) ≡ true
apart_behind form.Productions g e h = absurd (cc e)
apart_behind f form.Productions e h = refl
apart_behind f g e h = absurd (cc h)

same_key : (n : Bytes) (d e : Key) → in_phyla d.space ≡ true → in_phyla e.space ≡ true → bytes_eq n d.name ≡ true → bytes_eq n e.name ≡ true → is_same_key d e ≡ true
same_key n d e s t a b =
    let left : d.space ≡ Phyla = is_phyla d.space s in
    let right : e.space ≡ Phyla = is_phyla e.space t in
    let spaces : is_same_space d.space e.space ≡ true = λ i. is_same_space (left i) (right i) in
    and_from (is_same_space d.space e.space) (bytes_eq d.name e.name) spaces (equal_bytes d.name e.name (sym (bytes_is n d.name a) ∙ bytes_is n e.name b))

clash : (n : Bytes) (a b : Bool) (d e : Definition Key) → (a ≡ true → b ≡ true → not (adds_up d.form e.form) ≡ true) → (in_phyla d.key.space && (a && bytes_eq n d.key.name)) ≡ true → (in_phyla e.key.space && (b && bytes_eq n e.key.name)) ≡ true
    → clashes is_same_key d e ≡ true
clash n a b d e forms x y =
    let s = and_parts (in_phyla d.key.space) (a && bytes_eq n d.key.name) x in
    let t = and_parts (in_phyla e.key.space) (b && bytes_eq n e.key.name) y in
    let f = and_parts a (bytes_eq n d.key.name) s.1 in
    let g = and_parts b (bytes_eq n e.key.name) t.1 in
    and_from (is_same_key d.key e.key) (not (adds_up d.form e.form)) (same_key n d.key e.key s.0 t.0 f.1 g.1) (forms f.0 g.0)

never_one : (n : Bytes) (d : Definition Key) → of_nonterminal n d ≡ true → of_phylum n d ≡ true → ⊥
never_one n d x y =
    let s = and_parts (in_phyla d.key.space) (has_productions d.form && bytes_eq n d.key.name) x in
    let t = and_parts (in_phyla d.key.space) (not (has_productions d.form) && bytes_eq n d.key.name) y in
    by (has_productions d.form) (and_parts (has_productions d.form) (bytes_eq n d.key.name) s.1).0 (and_parts (not (has_productions d.form)) (bytes_eq n d.key.name) t.1).0
  where
    by : (b : Bool) → b ≡ true → not b ≡ true → ⊥
    by true e f = cc f
    by false e f = cc e

-- where there is a first definition of a name, there is a definition of it
any_between : {X : Type 0} (p : X → Bool) (xs : List X) (y : X) (ys : List X) → list_any p (xs ++ ys) ≡ true → list_any p (xs ++ y ∷ ys) ≡ true
any_between p [] y ys e = or_right (p y) (list_any p ys) e
any_between p (x ∷ xs) y ys e = by (p x) e (any_between p xs y ys)
  where
    by : (b : Bool) → (b || list_any p (xs ++ ys)) ≡ true → (list_any p (xs ++ ys) ≡ true → list_any p (xs ++ y ∷ ys) ≡ true) → (b || list_any p (xs ++ y ∷ ys)) ≡ true
    by true f rest = refl
    by false f rest = rest f

some_defined : (n : Bytes) (heads defs : List Head) → list_any (is_head n) (fold with_head heads defs) ≡ true → list_any (is_head n) (heads ++ defs) ≡ true
some_defined n heads [] e = ap (list_any (is_head n)) (append-nil heads) ∙ e
some_defined n heads (h ∷ defs) e = by (list_any (is_head h.name) heads) (some_defined n (with_head heads h) defs e)
  where
    by : (b : Bool) → list_any (is_head n) ((if b then heads else heads ++ h ∷ []) ++ defs) ≡ true → list_any (is_head n) (heads ++ h ∷ defs) ≡ true
    by true f = any_between (is_head n) heads h defs f
    by false f = ap (list_any (is_head n)) (sym (append_assoc heads (h ∷ []) defs)) ∙ f

any_flat : {X A B : Type 0} (p : A → Bool) (q : B → Bool) (f : X → List A) (g : X → List B) → ((x : X) → list_any p (f x) ≡ true → list_any q (g x) ≡ true) → (xs : List X)
    → list_any p (flat_map f xs) ≡ true → list_any q (flat_map g xs) ≡ true
any_flat p q f g step [] e = absurd (cc e)
any_flat p q f g step (x ∷ xs) e = by (list_any p (f x)) refl (sym (list_any-append p (f x) (flat_map f xs)) ∙ e) (any_flat p q f g step xs)
  where
    by : (b : Bool) → list_any p (f x) ≡ b → (b || list_any p (flat_map f xs)) ≡ true → (list_any p (flat_map f xs) ≡ true → list_any q (flat_map g xs) ≡ true) → list_any q (g x ++ flat_map g xs) ≡ true
    by true h any rest = any_left q (g x) (flat_map g xs) (step x h)
    by false h any rest = any_right q (g x) (flat_map g xs) (rest any)

nonterminal_at : (n : Bytes) (d : Decl) → list_any (is_head n) (nonterminal_defined d) ≡ true → list_any (of_nonterminal n) (definitions_of d) ≡ true
nonterminal_at n (decl.Productions m rights) e = by (bytes_eq n m.text) e
  where
    by : (b : Bool) → (b || false) ≡ true → (b || list_any (of_nonterminal n) (flat_map (λ (r : Right). expr_defined r.expr) rights)) ≡ true
    by true f = refl
    by false f = absurd (cc f)
nonterminal_at n d e = absurd (cc e)

phylum_at : (n : Bytes) (d : Decl) → list_any (is_head n) (phylum_defined d) ≡ true → list_any (of_phylum n) (definitions_of d) ≡ true
phylum_at n (decl.Operators p alts) e = by (bytes_eq n p.text) e
  where
    by : (b : Bool) → (b || false) ≡ true → (b || list_any (of_phylum n) (map (λ (a : Alt). defined form.Alone Callables a.name) alts)) ≡ true
    by true f = refl
    by false f = absurd (cc f)
phylum_at n (decl.LexemeOf p s) e = e
phylum_at n d e = absurd (cc e)

nonterminal_among : (n : Bytes) (ds : List Decl) → list_any (is_head n) (nonterminals_in ds) ≡ true → list_any (of_nonterminal n) (definitions_in ds) ≡ true
nonterminal_among n ds e =
    any_right (of_nonterminal n) given (flat_map definitions_of ds)
    (any_flat (is_head n) (of_nonterminal n) nonterminal_defined definitions_of (nonterminal_at n) ds (some_defined n [] (flat_map nonterminal_defined ds) e))

base_given : (n : Bytes) → list_any (is_head n) base_heads ≡ true → list_any (of_phylum n) given ≡ true
base_given n e = e

phylum_among : (n : Bytes) (ds : List Decl) → list_any (is_head n) (phyla_in ds) ≡ true → list_any (of_phylum n) (definitions_in ds) ≡ true
phylum_among n ds e = by (list_any (is_head n) base_heads) refl (sym (list_any-append (is_head n) base_heads (flat_map phylum_defined ds)) ∙ some_defined n base_heads (flat_map phylum_defined ds) e)
  where
    by : (b : Bool) → list_any (is_head n) base_heads ≡ b → (b || list_any (is_head n) (flat_map phylum_defined ds)) ≡ true → list_any (of_phylum n) (given ++ flat_map definitions_of ds) ≡ true
    by true base rest = any_left (of_phylum n) given (flat_map definitions_of ds) (base_given n base)
    by false base rest = any_right (of_phylum n) given (flat_map definitions_of ds) (any_flat (is_head n) (of_phylum n) phylum_defined definitions_of (phylum_at n) ds rest)

pub record_apart : (ds : List Decl) → duplicate ds ≡ None → AreApart (names_of ds)
record_apart ds e n k p nonterminal phylum =
    never_both (clashes is_same_key) (of_nonterminal n) (of_phylum n) (never_one n)
    (λ x y f g. clash n (has_productions x.form) (not (has_productions y.form)) x y (apart_before x.form y.form) f g)
    (λ x y f g. clash n (not (has_productions x.form)) (has_productions y.form) x y (apart_behind x.form y.form) f g)
    (definitions_in ds) (definitions_apart ds e)
    (nonterminal_among n ds (sym (some_place (is_head n) (nonterminals_in ds)) ∙ ap is_some (sym (nonterminal_in_heads ds n) ∙ nonterminal)))
    (phylum_among n ds (sym (some_place (is_head n) (phyla_in ds)) ∙ ap is_some (sym (phylum_in_heads ds n) ∙ phylum)))
