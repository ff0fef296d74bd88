-- Where no definition is a second one, operators stand on no base or lexeme phylum, and no lexeme phylum is declared twice.
use Rattle.std.proofs.Common.{◌≡◌, ℕ, suc, Bool, true, false, cond, not, ◌&&◌, ◌||◌, bytes_eq, List, [], ◌∷◌, ◌++◌, map, flat_map, Option, Some, None, refl, sym, ap, subst, ◌∙◌}
use Rattle.std.specs.Prelude.{codes}
use Rattle.std.specs.List.{AllByRecursion, list_any}
use Rattle.std.proofs.lemmas.List.Folds.{list_any-append}
use Rattle.std.proofs.lemmas.Grind.{flat_map-append}
use Rattle.std.proofs.lemmas.Slice.Eq.{bytes_eq-Decides}
use Rattle.std.proofs.lemmas.Bool.{or_parts}
use Rattle.sg_kinds.specs.Values.{Bytes}
use Rattle.sg_kinds.specs.declared.fault.Position.{Position}
use Rattle.sg_ast.specs.declared.decl.Alt.{Alt}
use Rattle.sg_ast.specs.declared.decl.AttrDecl.{AttrDecl}
use Rattle.sg_ast.specs.declared.name.Quoted.{Quoted}
use Rattle.sg_ast.specs.declared.name.Pair.{Pair}
use Rattle.sg_ast.specs.declared.name.Remote.{Remote}
use Rattle.sg_ast.specs.declared.name.Typed.{Typed}
use Rattle.sg_ast.specs.Declarations as decl
use Rattle.sg_ast.specs.Declarations.{Decl, Equation, Right}
use Rattle.sg_ast.specs.Expressions.{Expr}
use Rattle.sg_ast.specs.Remotes.{remotes_of}
use Rattle.sg_ast.specs.FirstFault.{repeat_from}
use Rattle.sg_names.specs.declared.heads.Head.{Head}
use Rattle.sg_names.specs.Heads.{is_head, base_heads}
use Rattle.sg_names.specs.Names.{phylum_defined}
use Rattle.sg_counts.specs.declared.definitions.Form.{Form}
use Rattle.sg_counts.specs.declared.definitions.Form.TheVariants as form
use Rattle.sg_counts.specs.declared.definitions.Definition.{Definition}
use Rattle.sg_counts.specs.Definitions.{Space, Phyla, Callables, Listings, Attributes, Locals, Schemes, Literals, Remotes, Key, is_same_space, is_same_key, adds_up, clashes}
use Rattle.sg_counts.specs.Duplicates.{defined, literal_defined, remote_defined, expr_defined, definitions_of, definitions_in, before_text, given, duplicate}
use Rattle.sg_resolve.proofs.Repeating.{no_repeat}
use Rattle.sg_resolve.proofs.ShapeLists.{each_append, each_implies, each_both, each_always, each_flat}

-- no element passes the test with one before it
abbrev pub AreApart : {X : Type 0} → (X → X → Bool) → List X → Type 0
AreApart same [] = Unit {0}
AreApart same (x ∷ xs) = AllByRecursion (λ y. same x y ≡ false) xs × AreApart same xs

not_some : {A : Type 0} (b : Bool) (x : A) (o : Option A) → cond b (Some x) o ≡ None → (b ≡ false) × (o ≡ None)
not_some true x o e = absurd (cc e)
not_some false x o e = (refl, e)

repeat_none : {X : Type 0} (same : X → X → Bool) (before : List X) (place : ℕ) (xs : List X) → repeat_from same before place xs ≡ None
    → AllByRecursion (λ x. list_any (λ y. same y x) before ≡ false) xs × AreApart same xs
repeat_none same before place [] e = (tt, tt)
repeat_none {X} same before place (x ∷ xs) e =
    let now = not_some (list_any (λ y. same y x) before) place (repeat_from same (before ++ x ∷ []) (suc place) xs) e in
    let rest = repeat_none same (before ++ x ∷ []) (suc place) xs now.1 in
    let both : AllByRecursion (λ z. (list_any (λ y. same y z) before ≡ false) × (same x z ≡ false)) xs =
    each_implies (λ z. list_any (λ y. same y z) (before ++ x ∷ []) ≡ false) (λ z. (list_any (λ y. same y z) before ≡ false) × (same x z ≡ false)) apart xs rest.0 in (
      (now.0, each_implies (λ z. (list_any (λ y. same y z) before ≡ false) × (same x z ≡ false)) (λ z. list_any (λ y. same y z) before ≡ false) (λ z h. h.0) xs both),
      (each_implies (λ z. (list_any (λ y. same y z) before ≡ false) × (same x z ≡ false)) (λ z. same x z ≡ false) (λ z h. h.1) xs both, rest.1),
    )
  where
    apart : (z : X) → list_any (λ y. same y z) (before ++ x ∷ []) ≡ false → (list_any (λ y. same y z) before ≡ false) × (same x z ≡ false)
    apart z h =
        let one = or_parts (list_any (λ y. same y z) before) (same x z || false) (sym (list_any-append (λ y. same y z) before (x ∷ [])) ∙ h) in
        (one.0, (or_parts (same x z) false one.1).0)

-- where there is no duplicate, no definition clashes with one before it
pub definitions_apart : (ds : List Decl) → duplicate ds ≡ None → AreApart (clashes is_same_key) (definitions_in ds)
definitions_apart ds e = (repeat_none (clashes is_same_key) [] 0 (definitions_in ds) (no_repeat ds e)).1

-- what is chosen of elements that are apart
apart_append : {X : Type 0} (same : X → X → Bool) (xs ys : List X) → AreApart same xs → AreApart same ys → AllByRecursion (λ x. AllByRecursion (λ y. same x y ≡ false) ys) xs → AreApart same (xs ++ ys)
apart_append same [] ys a b c = b
apart_append same (x ∷ xs) ys a b c = (each_append (λ y. same x y ≡ false) xs ys a.0 c.0, apart_append same xs ys a.1 b c.1)

pub apart_flat : {X Y : Type 0} (R : X → X → Bool) (S : Y → Y → Bool) (g : X → List Y)
    → ((x y : X) → R x y ≡ false → AllByRecursion (λ u. AllByRecursion (λ v. S u v ≡ false) (g y)) (g x)) → ((x : X) → AreApart S (g x))
    → (xs : List X) → AreApart R xs → AreApart S (flat_map g xs)
apart_flat R S g across alone [] a = tt
apart_flat {X} {Y} R S g across alone (x ∷ xs) a = apart_append S (g x) (flat_map g xs) (alone x) (apart_flat R S g across alone xs a.1) (all xs a.0)
  where
    all : (ys : List X) → AllByRecursion (λ y. R x y ≡ false) ys → AllByRecursion (λ u. AllByRecursion (λ v. S u v ≡ false) (flat_map g ys)) (g x)
    all [] h = each_always (λ u. AllByRecursion (λ v. S u v ≡ false) []) (λ u. tt) (g x)
    all (y ∷ ys) h =
        each_implies (λ u. AllByRecursion (λ v. S u v ≡ false) (g y) × AllByRecursion (λ v. S u v ≡ false) (flat_map g ys)) (λ u. AllByRecursion (λ v. S u v ≡ false) (g y ++ flat_map g ys))
        (λ u b. each_append (λ v. S u v ≡ false) (g y) (flat_map g ys) b.0 b.1) (g x)
        (each_both (λ u. AllByRecursion (λ v. S u v ≡ false) (g y)) (λ u. AllByRecursion (λ v. S u v ≡ false) (flat_map g ys)) (g x) (across x y h.0) (all ys h.1))

-- the definitions of phyla among all definitions
abbrev phylum_head : Form → Bytes → Position → List Head
phylum_head form.Operators n p = record { name = n; place = p; lexical = false } ∷ []
phylum_head form.Alone n p = record { name = n; place = p; lexical = true } ∷ []
phylum_head form.Productions n p = []

abbrev head_in : Space → Form → Bytes → Position → List Head
head_in Phyla f n p = phylum_head f n p
head_in s f n p = []

abbrev head_at : Definition Key → List Head
head_at d = head_in d.key.space d.form d.key.name d.place

none_flat : {A B C : Type 0} (g : B → List C) (f : A → B) → ((x : A) → g (f x) ≡ []) → (xs : List A) → flat_map g (map f xs) ≡ []
none_flat g f none [] = refl
none_flat g f none (x ∷ xs) = ap (λ l. l ++ flat_map g (map f xs)) (none x) ∙ none_flat g f none xs

none_each : {A B C : Type 0} (g : B → List C) (f : A → List B) → ((x : A) → flat_map g (f x) ≡ []) → (xs : List A) → flat_map g (flat_map f xs) ≡ []
none_each g f none [] = refl
none_each g f none (x ∷ xs) = flat_map-append g (f x) (flat_map f xs) ∙ ap (λ l. l ++ flat_map g (flat_map f xs)) (none x) ∙ none_each g f none xs

no_remote_head : (r : Remote) → flat_map head_at (remote_defined r) ≡ []
no_remote_head r = none_flat head_at (λ (p : Pair). defined form.Alone (Remotes r.place.token) p.phylum) (λ p. refl) r.pairs

no_expr_head : (e : Expr) → flat_map head_at (expr_defined e) ≡ []
no_expr_head e = none_each head_at remote_defined no_remote_head (remotes_of e)

heads_of : (d : Decl) → flat_map head_at (definitions_of d) ≡ phylum_defined d
heads_of (decl.Root n) = refl
heads_of (decl.Listed p) = refl
heads_of (decl.Optional listed p) = refl
heads_of (decl.Operators p alts) = ap (λ l. record { name = p.text; place = p.place; lexical = false } ∷ l) (none_flat head_at (λ (a : Alt). defined form.Alone Callables a.name) (λ a. refl) alts)
heads_of (decl.LexemeOf p s) = refl
heads_of (decl.Attributes p attrs) = none_flat head_at (λ (a : AttrDecl). defined form.Alone (Attributes p.text) a.name) (λ a. refl) attrs
heads_of (decl.Equations p op locals es) =
    flat_map-append head_at (map (λ (l : Typed). defined form.Alone (Locals p.text op.text) l.name) locals) (flat_map (λ (q : Equation). expr_defined q.expr) es)
    ∙ ap (λ l. l ++ flat_map head_at (flat_map (λ (q : Equation). expr_defined q.expr) es)) (none_flat head_at (λ (l : Typed). defined form.Alone (Locals p.text op.text) l.name) (λ l. refl) locals)
    ∙ none_each head_at (λ (q : Equation). expr_defined q.expr) (λ q. no_expr_head q.expr) es
heads_of (decl.Schemes p op view ss) = refl
heads_of (decl.Function t n params e) = no_expr_head e
heads_of (decl.Transform p title q e) = no_expr_head e
heads_of (decl.Productions n rights) = none_each head_at (λ (r : Right). expr_defined r.expr) (λ r. no_expr_head r.expr) rights
heads_of (decl.Entry p n a) = refl
heads_of (decl.Precedence g ls place) = none_flat head_at literal_defined (λ l. refl) ls

heads_among : (ds : List Decl) → flat_map head_at (flat_map definitions_of ds) ≡ flat_map phylum_defined ds
heads_among [] = refl
heads_among (d ∷ ds) = flat_map-append head_at (definitions_of d) (flat_map definitions_of ds) ∙ ap (λ l. l ++ flat_map head_at (flat_map definitions_of ds)) (heads_of d) ∙ ap (λ l. phylum_defined d ++ l) (heads_among ds)

-- two definitions of one phylum, of which one is a lexeme phylum's
abbrev pub are_one : Head → Head → Bool
are_one g h = bytes_eq g.name h.name && (g.lexical || h.lexical)

and_false : (b : Bool) → (b && false) ≡ false
and_false true = refl
and_false false = refl

forms_apart : (f g : Form) (n m : Bytes) (p q : Position) → (bytes_eq n m && not (adds_up f g)) ≡ false → AllByRecursion (λ u. AllByRecursion (λ v. are_one u v ≡ false) (phylum_head g m q)) (phylum_head f n p)
forms_apart form.Operators form.Operators n m p q e = ((and_false (bytes_eq n m), tt), tt)
forms_apart form.Operators form.Alone n m p q e = ((e, tt), tt)
forms_apart form.Operators form.Productions n m p q e = (tt, tt)
forms_apart form.Alone form.Operators n m p q e = ((e, tt), tt)
forms_apart form.Alone form.Alone n m p q e = ((e, tt), tt)
forms_apart form.Alone form.Productions n m p q e = (tt, tt)
forms_apart form.Productions g n m p q e = tt

spaces_apart : (s t : Space) (f g : Form) (n m : Bytes) (p q : Position) → ((is_same_space s t && bytes_eq n m) && not (adds_up f g)) ≡ false
    → AllByRecursion (λ u. AllByRecursion (λ v. are_one u v ≡ false) (head_in t g m q)) (head_in s f n p)
spaces_apart Phyla Phyla f g n m p q e = forms_apart f g n m p q e
spaces_apart Phyla Callables f g n m p q e = each_always (λ u. Unit {0}) (λ u. tt) (phylum_head f n p)
spaces_apart Phyla Listings f g n m p q e = each_always (λ u. Unit {0}) (λ u. tt) (phylum_head f n p)
spaces_apart Phyla (Attributes o) f g n m p q e = each_always (λ u. Unit {0}) (λ u. tt) (phylum_head f n p)
spaces_apart Phyla (Locals o r) f g n m p q e = each_always (λ u. Unit {0}) (λ u. tt) (phylum_head f n p)
spaces_apart Phyla (Schemes o r) f g n m p q e = each_always (λ u. Unit {0}) (λ u. tt) (phylum_head f n p)
spaces_apart Phyla Literals f g n m p q e = each_always (λ u. Unit {0}) (λ u. tt) (phylum_head f n p)
spaces_apart Phyla (Remotes a) f g n m p q e = each_always (λ u. Unit {0}) (λ u. tt) (phylum_head f n p)
spaces_apart Callables t f g n m p q e = tt
spaces_apart Listings t f g n m p q e = tt
spaces_apart (Attributes o) t f g n m p q e = tt
spaces_apart (Locals o r) t f g n m p q e = tt
spaces_apart (Schemes o r) t f g n m p q e = tt
spaces_apart Literals t f g n m p q e = tt
spaces_apart (Remotes a) t f g n m p q e = tt

one_head : (s : Space) (f : Form) (n : Bytes) (p : Position) → AreApart are_one (head_in s f n p)
one_head Phyla form.Operators n p = (tt, tt)
one_head Phyla form.Alone n p = (tt, tt)
one_head Phyla form.Productions n p = tt
one_head Callables f n p = tt
one_head Listings f n p = tt
one_head (Attributes o) f n p = tt
one_head (Locals o r) f n p = tt
one_head (Schemes o r) f n p = tt
one_head Literals f n p = tt
one_head (Remotes a) f n p = tt

all_heads_apart : (xs : List (Definition Key)) → AreApart (clashes is_same_key) xs → AreApart are_one (flat_map head_at xs)
all_heads_apart xs a =
    apart_flat (clashes is_same_key) are_one head_at
    (λ x y e. spaces_apart x.key.space y.key.space x.form y.form x.key.name y.key.name x.place y.place e)
    (λ x. one_head x.key.space x.form x.key.name x.place) xs a

-- a name that a base phylum has
base_form : (f : Form) (b n : Bytes) (p : Position) → (bytes_eq b n && not (adds_up form.Alone f)) ≡ false → AllByRecursion (λ (h : Head). bytes_eq b h.name ≡ false) (phylum_head f n p)
base_form form.Operators b n p e = (by (bytes_eq b n) e, tt)
  where
    by : (c : Bool) → (c && true) ≡ false → c ≡ false
    by true h = h
    by false h = refl
base_form form.Alone b n p e = (by (bytes_eq b n) e, tt)
  where
    by : (c : Bool) → (c && true) ≡ false → c ≡ false
    by true h = h
    by false h = refl
base_form form.Productions b n p e = tt

base_space : (s : Space) (f : Form) (b n : Bytes) (p : Position) → ((is_same_space Phyla s && bytes_eq b n) && not (adds_up form.Alone f)) ≡ false → AllByRecursion (λ (h : Head). bytes_eq b h.name ≡ false) (head_in s f n p)
base_space Phyla f b n p e = base_form f b n p e
base_space Callables f b n p e = tt
base_space Listings f b n p e = tt
base_space (Attributes o) f b n p e = tt
base_space (Locals o r) f b n p e = tt
base_space (Schemes o r) f b n p e = tt
base_space Literals f b n p e = tt
base_space (Remotes a) f b n p e = tt

pub turned : (b n : Bytes) → bytes_eq b n ≡ false → bytes_eq n b ≡ false
turned b n e = by (bytes_eq n b) refl
  where
    by : (c : Bool) → bytes_eq n b ≡ c → c ≡ false
    by true t = let yes : bytes_eq b n ≡ true = (bytes_eq-Decides b n).1 (sym ((bytes_eq-Decides n b).0 t)) in cc (yes, e)
    by false t = refl

pub record AreNew (ds : List Decl) : Type 0 where
  -- no name is a base phylum's
  pub base : AllByRecursion (λ (h : Head). list_any (is_head h.name) base_heads ≡ false) (flat_map phylum_defined ds)
  -- no lexeme phylum has a second definition
  pub lexical : AreApart are_one (flat_map phylum_defined ds)

one_base : (b : Bytes) (xs : List (Definition Key)) → AllByRecursion (λ d. clashes is_same_key (before_text Phyla b) d ≡ false) xs → AllByRecursion (λ (h : Head). bytes_eq b h.name ≡ false) (flat_map head_at xs)
one_base b xs a =
    each_flat (λ (h : Head). bytes_eq b h.name ≡ false) head_at xs
    (each_implies (λ d. clashes is_same_key (before_text Phyla b) d ≡ false) (λ d. AllByRecursion (λ (h : Head). bytes_eq b h.name ≡ false) (head_at d)) (λ d e. base_space d.key.space d.form b d.key.name d.place e) xs a)

none_of_three : (a b c n : Bytes) → (bytes_eq a n ≡ false) × (bytes_eq b n ≡ false) → bytes_eq c n ≡ false → (bytes_eq n a || (bytes_eq n b || (bytes_eq n c || false))) ≡ false
none_of_three a b c n ab e = rw (turned a n ab.0, turned b n ab.1, turned c n e) refl

all_bases : (a b c : Bytes) (hs : List Head) → AllByRecursion (λ (h : Head). bytes_eq a h.name ≡ false) hs → AllByRecursion (λ (h : Head). bytes_eq b h.name ≡ false) hs → AllByRecursion (λ (h : Head). bytes_eq c h.name ≡ false) hs
    → AllByRecursion (λ (h : Head). (bytes_eq h.name a || (bytes_eq h.name b || (bytes_eq h.name c || false))) ≡ false) hs
all_bases a b c [] x y z = tt
all_bases a b c (h ∷ hs) x y z = (none_of_three a b c h.name (x.0, y.0) z.0, all_bases a b c hs x.1 y.1 z.1)

new_among : (xs : List (Definition Key)) → AreApart (clashes is_same_key) (given ++ xs) → AllByRecursion (λ (h : Head). list_any (is_head h.name) base_heads ≡ false) (flat_map head_at xs) × AreApart are_one (flat_map head_at xs)
new_among xs a = (
  all_bases (codes "BOOL") (codes "INT") (codes "STR") (flat_map head_at xs)
      (one_base (codes "BOOL") xs a.0.1.1.1.1.1) (one_base (codes "INT") xs a.1.0.1.1.1.1) (one_base (codes "STR") xs a.1.1.0.1.1.1),
  all_heads_apart xs a.1.1.1.1.1.1,
)

-- where there is no duplicate, the phyla that are defined are new
pub new_phyla : (ds : List Decl) → duplicate ds ≡ None → AreNew ds
new_phyla ds e =
    let a = new_among (flat_map definitions_of ds) (definitions_apart ds e) in
    record {
      base = subst (AllByRecursion (λ (h : Head). list_any (is_head h.name) base_heads ≡ false)) (heads_among ds) a.0;
      lexical = subst (AreApart are_one) (heads_among ds) a.1;
    }
