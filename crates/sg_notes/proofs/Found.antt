-- Places of words, thing by thing.
use Rattle.std.proofs.Common.{◌≡◌, ◌<◌, ◌+◌, refl, sym, ap, ◌∙◌, ℕ, Bool, true, false, List, [], ◌∷◌, ◌++◌, map, drop, get_or, length, Option, Some, None}
use Rattle.std.proofs.lemmas.List.{drop_more}
use Rattle.std.specs.Prelude.{flat_map, bytes_eq, if◌then◌else◌}
use Rattle.sg_ast.specs.FirstFault.{or_else}
use Rattle.sg_ast.specs.View.{tree_of, trees_of}
use Rattle.sg_ast.specs.declared.decl.Decl.{Decl as Written}
use Rattle.sg_kinds.specs.Values.{Bytes}
use Rattle.sg_kinds.specs.declared.fault.Position.{Position}
use Rattle.sg_kinds.specs.declared.spec.Spec.{Spec}
use Rattle.sg_text.specs.declared.tokens.Token.{Token}
use Rattle.sg_useless.specs.declared.part.Part.{Part}
use Rattle.sg_ast.specs.Declarations.{Decl}
use Rattle.sg_notes.specs.Declared.{Declared, declared, declared_at, place_in}
use Rattle.sg_notes.specs.Notes.{note_text}

chosen : {A : Type 0} (b : Bool) (x : A) (o p q : Option A) → p ≡ or_else o q → (if b then Some x else p) ≡ or_else (if b then Some x else o) q
chosen true x o p q is = refl
chosen false x o p q is = is

-- what is found first behind two rows is what is found in the first, or else in the second
pub place_append : (ds es : List Declared) (n : Bytes) → place_in (ds ++ es) n ≡ or_else (place_in ds n) (place_in es n)
place_append [] es n = refl
place_append (d ∷ ds) es n = chosen (bytes_eq n d.words) d.place (place_in ds n) (place_in (ds ++ es) n) (place_in es n) (place_append ds es n)

pub or_else_assoc : {A : Type 0} (a b c : Option A) → or_else (or_else a b) c ≡ or_else a (or_else b c)
or_else_assoc (Some x) b c = refl
or_else_assoc None b c = refl

-- one step of a row: what was found, then what the things of the next one are, then what the others are
pub place_step : (old new : Bytes → Option Position) (ds es : List Declared) (n : Bytes)
    → ((m : Bytes) → new m ≡ or_else (old m) (place_in ds m))
    → or_else (new n) (place_in es n) ≡ or_else (old n) (place_in (ds ++ es) n)
place_step old new ds es n is =
    ap (λ p. or_else p (place_in es n)) (is n) ∙ or_else_assoc (old n) (place_in ds n) (place_in es n) ∙ ap (or_else (old n)) (sym (place_append ds es n))

same_ways : (f g : Bytes → Option Position) → ((n : Bytes) → f n ≡ g n) → f ≡ g
same_ways f g h = λ i n. h n i

-- places that are found alike give the same notes
pub same_places : (file bytes : Bytes) (ts : List Token) (place : Bytes → Option Position) (ds : List Decl) (spec : Spec) (xs : List Part)
    → ((n : Bytes) → place n ≡ declared_at ds n)
    → flat_map (note_text file bytes ts place spec) xs ≡ flat_map (note_text file bytes ts (declared_at ds) spec) xs
same_places file bytes ts place ds spec xs same =
    ap (λ (p : Bytes → Option Position). flat_map (note_text file bytes ts p spec) xs) (same_ways place (declared_at ds) same)

-- a row of declarations, one further
next_is : {A : Type 0} (xs : List A) (i : ℕ) (x : A) → i < length xs → x ≡ get_or xs i x → x ∷ drop (i + 1) xs ≡ drop i xs
next_is xs i x low is = ap (λ y. y ∷ drop (i + 1) xs) is ∙ sym (drop_more xs i x low)

pub each_more : (ds : List Written) (i : ℕ) (d : Written) (old new total : Bytes → Option Position) → i < length ds → d ≡ get_or ds i d
    → ((m : Bytes) → new m ≡ or_else (old m) (place_in (declared (tree_of d)) m))
    → ((m : Bytes) → or_else (old m) (place_in (flat_map declared (trees_of (drop i ds))) m) ≡ total m)
    → (n : Bytes) → or_else (new n) (place_in (flat_map declared (trees_of (drop (i + 1) ds))) n) ≡ total n
each_more ds i d old new total low is put so_far n =
    place_step old new (declared (tree_of d)) (flat_map declared (trees_of (drop (i + 1) ds))) n put
    ∙ ap (λ (es : List Written). or_else (old n) (place_in (flat_map declared (trees_of es)) n)) (next_is ds i d low is) ∙ so_far n

-- a row of things, one further
pub mapped_more : {A : Type 0} (f : A → Declared) (xs : List A) (i : ℕ) (x : A) (old new total : Bytes → Option Position) → i < length xs → x ≡ get_or xs i x
    → ((m : Bytes) → new m ≡ or_else (old m) (place_in (f x ∷ []) m))
    → ((m : Bytes) → or_else (old m) (place_in (map f (drop i xs)) m) ≡ total m)
    → (n : Bytes) → or_else (new n) (place_in (map f (drop (i + 1) xs)) n) ≡ total n
mapped_more {A} f xs i x old new total low is put so_far n =
    place_step old new (f x ∷ []) (map f (drop (i + 1) xs)) n put
    ∙ ap (λ (ys : List A). or_else (old n) (place_in (map f ys) n)) (next_is xs i x low is) ∙ so_far n
