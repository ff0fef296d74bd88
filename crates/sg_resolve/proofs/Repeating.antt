-- What it says that no definition is a second one.
use Rattle.std.proofs.Common.{◌≡◌, ℕ, suc, ◌+◌, ◌<◌, ◌≤◌, Bool, true, false, cond, not, ◌&&◌, ◌||◌, List, [], ◌∷◌, ◌++◌, length, Option, Some, None, option_and_then, slice_get, get_or, bytes_eq, refl, sym, ap, ◌∙◌, append_assoc, append-nil, arith}
use Rattle.std.specs.List.{count_by, sum_by, flat_map, list_any}
use Rattle.std.proofs.lemmas.Option.{slice_get-get_or}
use Rattle.std.proofs.lemmas.Bool.{and_parts}
use Rattle.sg_kinds.specs.Values.{Bytes}
use Rattle.sg_kinds.proofs.Elementary.{and_true, bytes_is, eq_is, eq_itself}
use Rattle.sg_ast.specs.Declarations.{Decl}
use Rattle.sg_ast.specs.FirstFault.{repeat_from, first_repeat}
use Rattle.sg_counts.specs.declared.definitions.Form.{Form}
use Rattle.sg_counts.specs.declared.definitions.Form.TheVariants as form
use Rattle.sg_counts.specs.declared.definitions.Definition.{Definition}
use Rattle.sg_counts.specs.Definitions.{Space, Phyla, Callables, Listings, Attributes, Locals, Schemes, Literals, Remotes, Key, is_same_view, is_same_space, is_same_key, adds_up, clashes}
use Rattle.sg_counts.specs.Duplicates.{definitions_of, definitions_in, given, duplicate, duplicate_fault}
use Rattle.sg_resolve.proofs.Counting.{equal_bytes, one_if, passes, fails, count-cons, count-append, count-flat}
use Rattle.sg_resolve.proofs.Limiting.{nothing_mapped}

-- where nothing repeats, elements that are all the same occur once
module _ {X : Type 0} (same : X → X → Bool) (p : X → Bool) (alike : (x y : X) → p x ≡ true → p y ≡ true → same x y ≡ true) where
  none_before : (x : X) (xs : List X) → p x ≡ true → list_any (λ y. same y x) xs ≡ false → count_by p xs ≤ 0
  none_before x [] is e = omega arith
  none_before x (y ∷ xs) is e = by (same y x) refl (p y) refl e (λ none. none_before x xs is none)
    where
      by : (b : Bool) → same y x ≡ b → (c : Bool) → p y ≡ c → (b || list_any (λ z. same z x) xs) ≡ false → (list_any (λ z. same z x) xs ≡ false → count_by p xs ≤ 0) → count_by p (y ∷ xs) ≤ 0
      by true s c q none others = absurd (cc none)
      by false s true q none others = let never : false ≡ true = sym s ∙ alike y x q is in absurd (cc never)
      by false s false q none others =
          let rest : count_by p xs ≤ 0 = others none in
          let split : count_by p (y ∷ xs) ≡ one_if (p y) + count_by p xs = count-cons p y xs in
          let zero : one_if (p y) ≡ 0 = fails (p y) q in
          omega (arith, rest, split, zero)

  once_behind : (before : List X) (place : ℕ) (xs : List X) → count_by p before ≤ 1 → repeat_from same before place xs ≡ None → count_by p (before ++ xs) ≤ 1
  once_behind before place [] once e = rw (append-nil before) once
  once_behind before place (x ∷ xs) once e = by (list_any (λ y. same y x) before) refl e (λ low none. once_behind (before ++ x ∷ []) (suc place) xs low none)
    where
      split : count_by p (before ++ x ∷ []) ≡ count_by p before + (one_if (p x) + 0)
      split = count-append p before (x ∷ []) ∙ ap (λ n. count_by p before + n) (count-cons p x [])

      more : list_any (λ y. same y x) before ≡ false → (b : Bool) → p x ≡ b → count_by p (before ++ x ∷ []) ≤ 1
      more new true is =
          let none : count_by p before ≤ 0 = none_before x before is new in
          let one : one_if (p x) ≡ 1 = passes (p x) is in
          omega (arith, none, one, split)
      more new false is =
          let zero : one_if (p x) ≡ 0 = fails (p x) is in
          omega (arith, once, zero, split)

      by : (b : Bool) → list_any (λ y. same y x) before ≡ b → cond b (Some place) (repeat_from same (before ++ x ∷ []) (suc place) xs) ≡ None
          → (count_by p (before ++ x ∷ []) ≤ 1 → repeat_from same (before ++ x ∷ []) (suc place) xs ≡ None → count_by p ((before ++ x ∷ []) ++ xs) ≤ 1) → count_by p (before ++ x ∷ xs) ≤ 1
      by true is none rest = absurd (cc none)
      by false is none rest =
          let all : count_by p ((before ++ x ∷ []) ++ xs) ≤ 1 = rest (more is (p x) refl) none in
          rw (append_assoc before (x ∷ []) xs) at all

-- the first repeat is in the list
repeat_inside : {X : Type 0} (same : X → X → Bool) (before : List X) (place k : ℕ) (xs : List X) → repeat_from same before place xs ≡ Some k → k < place + length xs
repeat_inside same before place k [] e = absurd (cc e)
repeat_inside same before place k (x ∷ xs) e = by (list_any (λ y. same y x) before) e (λ is. repeat_inside same (before ++ x ∷ []) (suc place) k xs is)
  where
    by : (b : Bool) → cond b (Some place) (repeat_from same (before ++ x ∷ []) (suc place) xs) ≡ Some k → (repeat_from same (before ++ x ∷ []) (suc place) xs ≡ Some k → k < suc place + length xs) → k < place + suc (length xs)
    by true is behind = let here : place ≡ k = cc is in omega (arith, here)
    by false is behind = let rest : k < suc place + length xs = behind is in omega (arith, rest)

pub no_repeat : (ds : List Decl) → duplicate ds ≡ None → first_repeat (clashes is_same_key) (definitions_in ds) ≡ None
no_repeat ds e = by (first_repeat (clashes is_same_key) (definitions_in ds)) refl (nothing_mapped duplicate_fault (option_and_then (slice_get (definitions_in ds)) (first_repeat (clashes is_same_key) (definitions_in ds))) e)
  where
    from_none : (n k : ℕ) → k < 0 + n → k < n
    from_none n k low = omega (arith, low)

    there : {X : Type 0} (xs : List X) (k : ℕ) → k < length xs → slice_get xs k ≡ None → ⊥
    there [] k low none = omega (arith, low)
    there {X} (x ∷ xs) k low none = let is : slice_get (x ∷ xs) k ≡ Some (get_or (x ∷ xs) k x) = slice_get-get_or (x ∷ xs) k x low in absurd (cc (is, none))

    by : (o : Option ℕ) → first_repeat (clashes is_same_key) (definitions_in ds) ≡ o → option_and_then (slice_get (definitions_in ds)) o ≡ None → o ≡ None
    by None is none = refl
    by (Some k) is none = let low : k < 0 + length (definitions_in ds) = repeat_inside (clashes is_same_key) [] 0 k (definitions_in ds) is in absurd (there (definitions_in ds) k (from_none (length (definitions_in ds)) k low) none)

-- the same space, and the same key
same_views : (a b : Option Bytes) → is_same_view a b ≡ true → a ≡ b
same_views None None e = refl
same_views (Some a) (Some b) e = ap Some (bytes_is a b e)
same_views None (Some b) e = absurd (cc e)
same_views (Some a) None e = absurd (cc e)

same_spaces : (s t : Space) → is_same_space s t ≡ true → s ≡ t
same_spaces Phyla Phyla e = refl
same_spaces Callables Callables e = refl
same_spaces Listings Listings e = refl
same_spaces (Attributes p) (Attributes q) e = ap Attributes (bytes_is p q e)
same_spaces (Locals p o) (Locals q r) e =
    let both = and_parts (bytes_eq p q) (bytes_eq o r) e in
    let a : p ≡ q = bytes_is p q both.0 in
    let b : o ≡ r = bytes_is o r both.1 in
    λ i. Locals (a i) (b i)
same_spaces (Schemes p v) (Schemes q w) e =
    let both = and_parts (bytes_eq p q) (is_same_view v w) e in
    let a : p ≡ q = bytes_is p q both.0 in
    let b : v ≡ w = same_views v w both.1 in
    λ i. Schemes (a i) (b i)
same_spaces Literals Literals e = refl
same_spaces (Remotes a) (Remotes b) e = ap Remotes (eq_is a b e)
same_spaces s t e = absurd (cc e)

self_view : (v : Option Bytes) → is_same_view v v ≡ true
self_view None = refl
self_view (Some a) = equal_bytes a a refl

self_space : (s : Space) → is_same_space s s ≡ true
self_space Phyla = refl
self_space Callables = refl
self_space Listings = refl
self_space (Attributes p) = equal_bytes p p refl
self_space (Locals p o) = and_true (bytes_eq p p) (bytes_eq o o) (equal_bytes p p refl) (equal_bytes o o refl)
self_space (Schemes p v) = and_true (bytes_eq p p) (is_same_view v v) (equal_bytes p p refl) (self_view v)
self_space Literals = refl
self_space (Remotes a) = eq_itself a

-- a definition of its own by this name in this space
abbrev is_alone : Form → Bool
is_alone form.Alone = true
is_alone f = false

abbrev pub defines : Space → Bytes → Definition Key → Bool
defines s n d = is_alone d.form && (is_same_space s d.key.space && bytes_eq n d.key.name)

clashing : (f g : Form) → is_alone f ≡ true → not (adds_up f g) ≡ true
clashing form.Alone g e = refl
clashing form.Operators g e = absurd (cc e)
clashing form.Productions g e = absurd (cc e)

same_definitions : (s : Space) (n : Bytes) (d e : Definition Key) → defines s n d ≡ true → defines s n e ≡ true → clashes is_same_key d e ≡ true
same_definitions s n d e p q =
    let a = and_parts (is_alone d.form) (is_same_space s d.key.space && bytes_eq n d.key.name) p in
    let b = and_parts (is_alone e.form) (is_same_space s e.key.space && bytes_eq n e.key.name) q in
    let c = and_parts (is_same_space s d.key.space) (bytes_eq n d.key.name) a.1 in
    let f = and_parts (is_same_space s e.key.space) (bytes_eq n e.key.name) b.1 in
    let spaces : d.key.space ≡ e.key.space = sym (same_spaces s d.key.space c.0) ∙ same_spaces s e.key.space f.0 in
    let names : d.key.name ≡ e.key.name = sym (bytes_is n d.key.name c.1) ∙ bytes_is n e.key.name f.1 in
    let space : is_same_space d.key.space e.key.space ≡ true = ap (λ t. is_same_space d.key.space t) (sym spaces) ∙ self_space d.key.space in
    and_true (is_same_key d.key e.key) (not (adds_up d.form e.form))
    (and_true (is_same_space d.key.space e.key.space) (bytes_eq d.key.name e.key.name) space (equal_bytes d.key.name e.key.name names))
    (clashing d.form e.form a.0)

-- each name of each space is defined once, in the text or before it
pub once : (ds : List Decl) → duplicate ds ≡ None → (s : Space) (n : Bytes) → count_by (defines s n) given + sum_by (λ d. count_by (defines s n) (definitions_of d)) ds ≤ 1
once ds e s n =
    let all : count_by (defines s n) (definitions_in ds) ≤ 1 = once_behind (clashes is_same_key) (defines s n) (same_definitions s n) [] 0 (definitions_in ds) (omega arith) (no_repeat ds e) in
    let split : count_by (defines s n) (definitions_in ds) ≡ count_by (defines s n) given + count_by (defines s n) (flat_map definitions_of ds) = count-append (defines s n) given (flat_map definitions_of ds) in
    let flat : count_by (defines s n) (flat_map definitions_of ds) ≡ sum_by (λ d. count_by (defines s n) (definitions_of d)) ds = count-flat (defines s n) definitions_of ds in
    omega (arith, all, split, flat)
