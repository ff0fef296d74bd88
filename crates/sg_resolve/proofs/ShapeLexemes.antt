-- The places of lexeme phyla are the numbers below their count.
use Rattle.std.proofs.Common.{◌≡◌, ℕ, suc, ◌+◌, Bool, true, false, cond, ◌&&◌, ◌||◌, if◌then◌else◌, bytes_eq, List, [], ◌∷◌, ◌++◌, length, flat_map, fold, take, count_by, slice_get, unwrap_or, refl, sym, ap, ◌∙◌, arith, length-append}
use Rattle.std.specs.List.{AllByRecursion, list_any}
use Rattle.std.proofs.lemmas.List.Folds.{list_any-append}
use Rattle.sg_kinds.specs.declared.spec.Phylum.{Phylum}
use Rattle.sg_kinds.specs.declared.marks.Shape.{Shape}
use Rattle.sg_kinds.specs.declared.marks.Shape.TheVariants.{Truths, Numbers, Texts, Lexemes, Ordinary, Optional, Listed, OptionalListed}
use Rattle.sg_kinds.specs.Specification.{is_leaf_shape}
use Rattle.sg_kinds.specs.Instances.{below}
use Rattle.sg_kinds.specs.Sound.{lexeme_place}
use Rattle.sg_ast.specs.Declarations as decl
use Rattle.sg_ast.specs.Declarations.{Decl}
use Rattle.sg_ast.specs.Parts.{lexeme_text}
use Rattle.sg_names.specs.declared.heads.Head.{Head}
use Rattle.sg_names.specs.Heads.{is_head, with_head, base_heads}
use Rattle.sg_names.specs.Names.{phyla_in, phylum_defined, lexemes_before, map_from, names_of}
use Rattle.sg_resolve.specs.ShapeLexemes.{lexeme_count}
use Rattle.sg_resolve.proofs.Counting.{count-cons, count-append}
use Rattle.sg_resolve.proofs.ShapeLists.{each_implies, each_both, from, below_from}
use Rattle.sg_resolve.proofs.ShapeApart.{AreApart, AreNew, are_one, turned}
use Rattle.sg_resolve.proofs.ShapeForms.{shape_cases, not_leaf}
use Rattle.sg_resolve.proofs.ShapeTable.{own_listings, phylum_made, phyla_are}

-- how many are lexeme phyla
abbrev is_lexeme : Head → Bool
is_lexeme h = h.lexical

-- a lexeme phylum is new where it is defined
abbrev IsNewIn : List Head → Head → Type 0
IsNewIn hs h = h.lexical ≡ true → list_any (is_head h.name) hs ≡ false

still_new : (hs : List Head) (x y : Head) → are_one x y ≡ false → IsNewIn hs y → IsNewIn (hs ++ x ∷ []) y
still_new hs x y apart new lexical =
    let other : bytes_eq y.name x.name ≡ false = turned x.name y.name (by (bytes_eq x.name y.name) x.lexical y.lexical apart lexical) in
    list_any-append (is_head y.name) hs (x ∷ []) ∙ ap (λ b. b || (bytes_eq y.name x.name || false)) (new lexical) ∙ ap (λ b. b || false) other
  where
    by : (b l r : Bool) → (b && (l || r)) ≡ false → r ≡ true → b ≡ false
    by true true r e t = e
    by true false r e t = absurd (cc (e, t))
    by false l r e t = refl

other_new : (hs xs : List Head) (x : Head) → AllByRecursion (IsNewIn hs) xs → AllByRecursion (λ y. are_one x y ≡ false) xs → AllByRecursion (IsNewIn (hs ++ x ∷ [])) xs
other_new hs xs x new apart =
    each_implies (λ y. (are_one x y ≡ false) × IsNewIn hs y) (IsNewIn (hs ++ x ∷ [])) (λ y b. still_new hs x y b.0 b.1) xs
    (each_both (λ y. are_one x y ≡ false) (IsNewIn hs) xs apart new)

old_uncounted : (hs xs : List Head) (x : Head) → IsNewIn hs x → (b : Bool) → x.lexical ≡ b → list_any (is_head x.name) hs ≡ true → count_by is_lexeme (x ∷ xs) ≡ count_by is_lexeme xs
old_uncounted hs xs x new true lexical e = let no = new lexical in absurd (cc (e, no))
old_uncounted hs xs x new false lexical e = count-cons is_lexeme x xs ∙ ap (λ c. cond c 1 0 + count_by is_lexeme xs) lexical ∙ (let z : 0 + count_by is_lexeme xs ≡ count_by is_lexeme xs = omega arith in z)

count_fold : (hs xs : List Head) → AllByRecursion (IsNewIn hs) xs → AreApart are_one xs → count_by is_lexeme (fold with_head hs xs) ≡ count_by is_lexeme hs + count_by is_lexeme xs
count_fold hs [] new apart = let z : count_by is_lexeme hs ≡ count_by is_lexeme hs + 0 = omega arith in z
count_fold hs (x ∷ xs) new apart =
    by (list_any (is_head x.name) hs) refl (count_fold hs xs new.1 apart.1) (count_fold (hs ++ x ∷ []) xs (other_new hs xs x new.1 apart.0) apart.1)
  where
    by : (b : Bool) → list_any (is_head x.name) hs ≡ b
        → count_by is_lexeme (fold with_head hs xs) ≡ count_by is_lexeme hs + count_by is_lexeme xs
        → count_by is_lexeme (fold with_head (hs ++ x ∷ []) xs) ≡ count_by is_lexeme (hs ++ x ∷ []) + count_by is_lexeme xs
        → count_by is_lexeme (fold with_head (if b then hs else hs ++ x ∷ []) xs) ≡ count_by is_lexeme hs + count_by is_lexeme (x ∷ xs)
    by true e old added = old ∙ ap (λ n. count_by is_lexeme hs + n) (sym (old_uncounted hs xs x new.0 x.lexical refl e))
    by false e old added =
        let b = count-append is_lexeme hs (x ∷ []) in
        let o = count-cons is_lexeme x [] in
        let c = count-cons is_lexeme x xs in
        omega (arith, added, b, o, c)

count_defined : (ds : List Decl) → count_by is_lexeme (flat_map phylum_defined ds) ≡ lexeme_count ds
count_defined [] = refl
count_defined (d ∷ ds) =
    count-append is_lexeme (phylum_defined d) (flat_map phylum_defined ds)
    ∙ ap (λ n. count_by is_lexeme (phylum_defined d) + n) (count_defined ds) ∙ ap (λ n. n + lexeme_count ds) (one d) ∙ sym (length-append (lexeme_text d) (flat_map lexeme_text ds))
  where
    one : (d : Decl) → count_by is_lexeme (phylum_defined d) ≡ length (lexeme_text d)
    one (decl.Root n) = refl
    one (decl.Listed n) = refl
    one (decl.Optional listed n) = refl
    one (decl.Operators n alts) = refl
    one (decl.LexemeOf n s) = refl
    one (decl.Attributes n attrs) = refl
    one (decl.Equations n op locals es) = refl
    one (decl.Schemes n op view ss) = refl
    one (decl.Function t n params e) = refl
    one (decl.Transform n title q e) = refl
    one (decl.Productions n rights) = refl
    one (decl.Entry n m a) = refl
    one (decl.Precedence g ls place) = refl

-- as many first definitions are lexeme phyla as are declared
pub lexemes_counted : (ds : List Decl) → AreNew ds → count_by is_lexeme (phyla_in ds) ≡ lexeme_count ds
lexemes_counted ds new =
    let a = count_fold base_heads (flat_map phylum_defined ds) (each_implies (λ (h : Head). list_any (is_head h.name) base_heads ≡ false) (IsNewIn base_heads) (λ h e lexical. e) (flat_map phylum_defined ds) new.base) new.lexical in
    let b : count_by is_lexeme base_heads ≡ 0 = refl in
    let c = count_defined ds in
    a ∙ omega (arith, b, c)

-- a lexeme phylum has the number of those before it
place_at : (ds : List Decl) (k : ℕ) (h : Head) → lexeme_place (phylum_made ds k h).shape ≡ (if h.lexical then lexemes_before (phyla_in ds) k ∷ [] else [])
place_at ds k h =
    shape_cases (λ s. lexeme_place s ≡ (if h.lexical then lexemes_before (phyla_in ds) k ∷ [] else [])) (lexemes_before (phyla_in ds) k) (own_listings ds k) k h
    (λ lexical. ap (λ b. if b then lexemes_before (phyla_in ds) k ∷ [] else []) (sym lexical)) (λ plain is. none plain) (λ plain is. none plain) (λ plain is. none plain)
    (λ plain low. no_place (unwrap_or (slice_get (own_listings ds k) 0) Ordinary) (not_leaf ds k) ∙ none plain)
  where
    none : h.lexical ≡ false → [] ≡ (if h.lexical then lexemes_before (phyla_in ds) k ∷ [] else [])
    none plain = ap (λ b. if b then lexemes_before (phyla_in ds) k ∷ [] else []) (sym plain)

    no_place : (s : Shape) → is_leaf_shape s ≡ false → lexeme_place s ≡ []
    no_place Truths e = refl
    no_place Numbers e = refl
    no_place Texts e = refl
    no_place (Lexemes l) e = absurd (cc e)
    no_place Ordinary e = refl
    no_place Optional e = refl
    no_place Listed e = refl
    no_place OptionalListed e = refl

-- the lexeme phyla before each place, from k on, are counted from c
abbrev AreCounted : List Decl → ℕ → ℕ → List Head → Type 0
AreCounted ds c k hs = (i : ℕ) → lexemes_before (phyla_in ds) (k + i) ≡ c + count_by is_lexeme (take i hs)

counted_first : (ds : List Decl) (c k : ℕ) (hs : List Head) → AreCounted ds c k hs → lexemes_before (phyla_in ds) k ≡ c
counted_first ds c k hs before = let e : k ≡ k + 0 = omega arith in let z : c + 0 ≡ c = omega arith in ap (lexemes_before (phyla_in ds)) e ∙ before 0 ∙ z

counted_on : (ds : List Decl) (c k n : ℕ) (h : Head) (hs : List Head) → AreCounted ds c k (h ∷ hs) → c + cond h.lexical 1 0 ≡ n → AreCounted ds n (suc k) hs
counted_on ds c k n h hs before e i =
    let s : suc k + i ≡ k + suc i = omega arith in
    let a : lexemes_before (phyla_in ds) (k + suc i) ≡ c + count_by is_lexeme (h ∷ take i hs) = before (suc i) in
    let b = count-cons is_lexeme h (take i hs) in
    ap (lexemes_before (phyla_in ds)) s ∙ omega (arith, a, b, e)

one_lexeme : (h : Head) (hs : List Head) → h.lexical ≡ true → suc (count_by is_lexeme hs) ≡ count_by is_lexeme (h ∷ hs)
one_lexeme h hs e = let z : suc (count_by is_lexeme hs) ≡ 1 + count_by is_lexeme hs = omega arith in z ∙ ap (λ b. cond b 1 0 + count_by is_lexeme hs) (sym e) ∙ sym (count-cons is_lexeme h hs)

no_lexeme : (h : Head) (hs : List Head) → h.lexical ≡ false → count_by is_lexeme hs ≡ count_by is_lexeme (h ∷ hs)
no_lexeme h hs e = let z : count_by is_lexeme hs ≡ 0 + count_by is_lexeme hs = omega arith in z ∙ ap (λ b. cond b 1 0 + count_by is_lexeme hs) (sym e) ∙ sym (count-cons is_lexeme h hs)

places_from : (ds : List Decl) (c k : ℕ) (hs : List Head) → AreCounted ds c k hs → flat_map (λ (x : Phylum). lexeme_place x.shape) (map_from (phylum_made ds) k hs) ≡ from c (count_by is_lexeme hs)
places_from ds c k [] before = refl
places_from ds c k (h ∷ hs) before =
    ap (λ l. l ++ flat_map (λ (x : Phylum). lexeme_place x.shape) (map_from (phylum_made ds) (suc k) hs)) (place_at ds k h ∙ ap (λ n. if h.lexical then n ∷ [] else []) (counted_first ds c k (h ∷ hs) before))
    ∙ by h.lexical refl (λ n. places_from ds n (suc k) hs)
  where
    by : (b : Bool) → h.lexical ≡ b → ((n : ℕ) → AreCounted ds n (suc k) hs → flat_map (λ (x : Phylum). lexeme_place x.shape) (map_from (phylum_made ds) (suc k) hs) ≡ from n (count_by is_lexeme hs))
        → (if b then c ∷ [] else []) ++ flat_map (λ (x : Phylum). lexeme_place x.shape) (map_from (phylum_made ds) (suc k) hs) ≡ from c (count_by is_lexeme (h ∷ hs))
    by true e rest =
        let n : c + cond h.lexical 1 0 ≡ suc c = ap (λ b. c + cond b 1 0) e ∙ (let z : c + 1 ≡ suc c = omega arith in z) in
        ap (λ l. c ∷ l) (rest (suc c) (counted_on ds c k (suc c) h hs before n)) ∙ ap (from c) (one_lexeme h hs e)
    by false e rest =
        let n : c + cond h.lexical 1 0 ≡ c = ap (λ b. c + cond b 1 0) e ∙ (let z : c + 0 ≡ c = omega arith in z) in
        rest c (counted_on ds c k c h hs before n) ∙ ap (from c) (no_lexeme h hs e)

-- where there is no duplicate, the lexeme phyla are numbered as they are declared
pub lexemes_placed : (ds : List Decl) → AreNew ds → flat_map (λ (x : Phylum). lexeme_place x.shape) (names_of ds).phyla ≡ below (lexeme_count ds)
lexemes_placed ds new =
    ap (λ (l : List Phylum). flat_map (λ (x : Phylum). lexeme_place x.shape) l) (phyla_are ds)
    ∙ places_from ds 0 0 (phyla_in ds) (λ i. let e : 0 + i ≡ i = omega arith in let z : count_by is_lexeme (take i (phyla_in ds)) ≡ 0 + count_by is_lexeme (take i (phyla_in ds)) = omega arith in ap (lexemes_before (phyla_in ds)) e ∙ z)
    ∙ sym (below_from (count_by is_lexeme (phyla_in ds))) ∙ ap below (lexemes_counted ds new)
