-- The places that trees keep rise with the tokens.
use Rattle.std.proofs.Common.{◌≡◌, ℕ, ◌+◌, ◌≤◌, List, [], ◌∷◌, ◌++◌, length, refl, sym, ap, subst, arith}
use Rattle.std.specs.Prelude.{flat_map}
use Rattle.sg_kinds.specs.declared.fault.Position.{Position}
use Rattle.sg_text.specs.declared.tokens.Token.{Token}
use Rattle.sg_text.specs.Cut.{cut}
use Rattle.sg_ast.specs.Declarations.{Decl}
use Rattle.sg_ast.specs.Spelling.{Mark, Piece, Free, Kept, Takes, none, free, kept}
use Rattle.sg_ast.specs.Spells.{Spells, EachSpells, marks_from, marked_from, declarations}
use Rattle.sg_ast.specs.Rising.{kept_places, places_of, RiseFrom, SomeOf, nothing, passed, taken}

-- places that rise between two tokens
abbrev RiseWithin : ℕ → ℕ → List Position → Type 0
RiseWithin from to [] = from ≤ to
RiseWithin from to (p ∷ ps) = (from ≤ p.token) × RiseWithin (p.token + 1) to ps

-- and marks
abbrev MarksWithin : ℕ → ℕ → List Mark → Type 0
MarksWithin from to [] = from ≤ to
MarksWithin from to ((l, p) ∷ ms) = (from ≤ p.token) × MarksWithin (p.token + 1) to ms

marks_wide : (n m : ℕ) (ms : List Mark) → MarksWithin n m ms → n ≤ m
marks_wide n m [] h = h
marks_wide n m ((l, p) ∷ ms) h = let rest = marks_wide (p.token + 1) m ms h.1 in omega (arith, h.0, rest)

sooner : (k n m : ℕ) (ps : List Position) → k ≤ n → RiseWithin n m ps → RiseWithin k m ps
sooner k n m [] less h = omega (arith, less, h)
sooner k n m (p ∷ ps) less h = (omega (arith, less, h.0), h.1)

takes_rise : {ps : List Piece} {ms rest : List Mark} (n m : ℕ) → Takes ps ms rest → MarksWithin n m ms → RiseWithin n m (kept_places ps)
takes_rise {ms = ms} n m none h = marks_wide n m ms h
takes_rise {ps = _ ∷ ps} {ms = (l, p) ∷ ms} n m (free t) h = sooner n (p.token + 1) m (kept_places ps) (omega (arith, h.0)) (takes_rise (p.token + 1) m t h.1)
takes_rise {ms = (l, p) ∷ ms} n m (kept t) h = (h.0, takes_rise (p.token + 1) m t h.1)

marks_rise : (bytes : List ℕ) (n m : ℕ) (ts : List Token) → n + length ts ≡ m → MarksWithin n m (marks_from bytes n ts)
marks_rise bytes n m [] is = omega (arith, is)
marks_rise bytes n m (t ∷ ts) is = (omega arith, marks_rise bytes (n + 1) m ts (omega (arith, is)))

behind : (n m k : ℕ) (ps qs : List Position) → RiseWithin n m ps → RiseWithin m k qs → RiseWithin n k (ps ++ qs)
behind n m k [] qs h then_ = sooner n m k qs h then_
behind n m k (p ∷ ps) qs h then_ = (h.0, behind (p.token + 1) m k ps qs h.1 then_)

open_end : (n m : ℕ) (ps : List Position) → RiseWithin n m ps → RiseFrom n ps
open_end n m [] h = tt
open_end n m (p ∷ ps) h = (h.0, open_end (p.token + 1) m ps h.1)

one_within : (bytes : List ℕ) (n : ℕ) (ts : List Token) (d : Decl) → Spells (marks_from bytes n ts) d → RiseWithin n (n + length ts) (places_of d)
one_within bytes n ts d is = takes_rise n (n + length ts) is.fits (marks_rise bytes n (n + length ts) ts refl)

-- the places of a declaration rise
pub one_rises : (bytes : List ℕ) (n : ℕ) (ts : List Token) (d : Decl) → Spells (marks_from bytes n ts) d → RiseFrom n (places_of d)
one_rises bytes n ts d is = open_end n (n + length ts) (places_of d) (one_within bytes n ts d is)

each_rises : (bytes : List ℕ) (n : ℕ) (tss : List (List Token)) (ds : List Decl) → EachSpells (marked_from bytes n tss) ds
    → (m : ℕ) × RiseWithin n m (flat_map places_of ds)
each_rises bytes n [] [] all = (n, omega arith)
each_rises bytes n [] (d ∷ ds) all = absurd all
each_rises bytes n (ts ∷ tss) [] all = absurd all
each_rises bytes n (ts ∷ tss) (d ∷ ds) all =
    let rest = each_rises bytes (n + length ts) tss ds all.1 in
    (rest.0, behind n (n + length ts) rest.0 (places_of d) (flat_map places_of ds) (one_within bytes n ts d all.0) rest.1)

-- the places of all declarations rise
pub all_rise : (bytes : List ℕ) (tokens : List Token) (ds : List Decl) → EachSpells (declarations bytes tokens) ds → RiseFrom 0 (flat_map places_of ds)
all_rise bytes tokens ds all = let h = each_rises bytes 0 (cut tokens) ds all in open_end 0 h.0 (flat_map places_of ds) h.1

-- some of what rises
sooner_open : (k n : ℕ) (ps : List Position) → k ≤ n → RiseFrom n ps → RiseFrom k ps
sooner_open k n [] less h = tt
sooner_open k n (p ∷ ps) less h = (omega (arith, less, h.0), h.1)

pub some_rise : {ps qs : List Position} (n : ℕ) → SomeOf ps qs → RiseFrom n qs → RiseFrom n ps
some_rise n nothing h = tt
some_rise {ps} {qs = q ∷ qs} n (passed s) h = sooner_open n (q.token + 1) ps (omega (arith, h.0)) (some_rise (q.token + 1) s h.1)
some_rise {qs = q ∷ qs} n (taken s) h = (h.0, some_rise (q.token + 1) s h.1)

-- some of some, and a whole list
pub some_some : {A : Type 0} {xs ys zs : List A} → SomeOf xs ys → SomeOf ys zs → SomeOf xs zs
some_some nothing t = nothing
some_some (passed s) (passed t) = passed (some_some (passed s) t)
some_some (passed s) (taken t) = passed (some_some s t)
some_some (taken s) (passed t) = passed (some_some (taken s) t)
some_some (taken s) (taken t) = taken (some_some s t)

pub whole : {A : Type 0} (xs : List A) → SomeOf xs xs
whole [] = nothing
whole (x ∷ xs) = taken (whole xs)

-- some of each are some of all
pub later : {A : Type 0} {us vs : List A} (ys : List A) → SomeOf us vs → SomeOf us (ys ++ vs)
later [] t = t
later (y ∷ ys) t = passed (later ys t)

pub some_then : {A : Type 0} {xs ys us vs : List A} → SomeOf xs ys → SomeOf us vs → SomeOf (xs ++ us) (ys ++ vs)
some_then {ys = ys} nothing t = later ys t
some_then (passed s) t = passed (some_then s t)
some_then (taken s) t = taken (some_then s t)

pub some_of_each : {D A : Type 0} (f g : D → List A) → ((d : D) → SomeOf (f d) (g d)) → (ds : List D) → SomeOf (flat_map f ds) (flat_map g ds)
some_of_each f g one [] = nothing
some_of_each f g one (d ∷ ds) = some_then (one d) (some_of_each f g one ds)

-- places among the tokens of two spellings, one behind the other
kept_append : (ps qs : List Piece) → kept_places (ps ++ qs) ≡ kept_places ps ++ kept_places qs
kept_append [] qs = refl
kept_append (Free l ∷ ps) qs = kept_append ps qs
kept_append (Kept l place ∷ ps) qs = ap (λ qs. place ∷ qs) (kept_append ps qs)

earlier : {A : Type 0} {xs ys : List A} (zs : List A) → SomeOf xs ys → SomeOf xs (ys ++ zs)
earlier zs nothing = nothing
earlier zs (passed s) = passed (earlier zs s)
earlier zs (taken s) = taken (earlier zs s)

pub in_front : (xs : List Position) (ps qs : List Piece) → SomeOf xs (kept_places ps) → SomeOf xs (kept_places (ps ++ qs))
in_front xs ps qs s = subst (λ (l : List Position). SomeOf xs l) (sym (kept_append ps qs)) (earlier (kept_places qs) s)

pub in_back : (xs : List Position) (ps qs : List Piece) → SomeOf xs (kept_places qs) → SomeOf xs (kept_places (ps ++ qs))
in_back xs ps qs s = subst (λ (l : List Position). SomeOf xs l) (sym (kept_append ps qs)) (later (kept_places ps) s)

pub in_both : (xs ys : List Position) (ps qs : List Piece) → SomeOf xs (kept_places ps) → SomeOf ys (kept_places qs) → SomeOf (xs ++ ys) (kept_places (ps ++ qs))
in_both xs ys ps qs s t = subst (λ (l : List Position). SomeOf (xs ++ ys) l) (sym (kept_append ps qs)) (some_then s t)
