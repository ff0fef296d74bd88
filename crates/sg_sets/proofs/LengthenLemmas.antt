-- Lemmas on a relation in which each number takes over what those are related to that it is related to.
use Rattle.std.proofs.Common.{◌≡◌, ℕ, ◌+◌, ◌<◌, ◌≤◌, ◌⊎◌, inl, inr, List, [], ◌∷◌, Bool, true, false, if◌then◌else◌, length, refl, sym, ◌∙◌, subst, arith}
use Rattle.std.specs.Prelude.{◌↔◌}
use Rattle.std.specs.Bool.{OnTrue, OnFalse}
use Rattle.std.proofs.lemmas.Bool.{cases_lt}
use Rattle.sg_sets.specs.Members.{IsNext}
use Rattle.sg_sets.specs.Paths.{Path, IsTransitive}
use Rattle.sg_sets.specs.Relations.{HasPassedOn}
use Rattle.sg_sets.specs.Rows.{Holds, all_missing, row_of}
use Rattle.sg_sets.proofs.BeforeLemmas.{Holds-below}
use Rattle.sg_sets.proofs.PathsLemmas.{Path-append, Path-least}

-- what stays while pairs are added that paths of the old relation lead to
pub record Lengthens (old new : List (List Bool)) (grown : Bool) : Type 0 where
  pub size : length new ≡ length old
  pub contains : (x y : ℕ) → Holds old x y → Holds new x y
  pub least : (x y : ℕ) → Holds new x y → Path (Holds old) x y
  pub grows : OnTrue grown (all_missing new < all_missing old)
  pub stays : OnFalse grown (new ≡ old)

-- a has taken over from the numbers below n
pub record PassedTo (old new : List (List Bool)) (a n : ℕ) (grown : Bool) : Type 0 where
  pub lengthens : Lengthens old new grown
  pub passed : OnFalse grown ((k b : ℕ) → k < n → Holds new a k → Holds new k b → Holds new a b)

-- each number below n has taken over
pub record LengthenedTo (old new : List (List Bool)) (n : ℕ) (grown : Bool) : Type 0 where
  pub lengthens : Lengthens old new grown
  pub passed : OnFalse grown ((a : ℕ) → a < n → HasPassedOn new a)

pub lengthens-none : (rows : List (List Bool)) → Lengthens rows rows false
lengthens-none rows = record { size = refl; contains = λ x y h. h; least = λ x y h. ([], h); grows = tt; stays = refl }

-- paths of the new relation are paths of the old one
pub paths-of : (old now next : List (List Bool)) → ((x y : ℕ) → Holds now x y → Path (Holds old) x y) → ((x y : ℕ) → Holds next x y → Path (Holds now) x y) → (x y : ℕ) → Holds next x y → Path (Holds old) x y
paths-of old now next least more x y h =
    let way = more x y h in
    Path-least (Holds now) (Path (Holds old)) least (Path-append (Holds old)) x y way.0 way.1

pub lengthens-then : (old now next : List (List Bool)) (grown more : Bool) → Lengthens old now grown → Lengthens now next more → Lengthens old next (if more then true else grown)
lengthens-then old now next grown false l m = subst (λ rows. Lengthens old rows grown) (sym m.stays) l
lengthens-then old now next true true l m = record {
  size = m.size ∙ l.size;
  contains = λ x y h. m.contains x y (l.contains x y h);
  least = paths-of old now next l.least m.least;
  grows = omega (arith, l.grows, m.grows);
  stays = tt;
}
lengthens-then old now next false true l m = subst (λ rows. Lengthens rows next true) l.stays m

-- the pairs that one number takes over from another make paths of two steps
pub takes-over : (now next : List (List Bool)) (a k : ℕ) (more : Bool) → Holds now a k → ((x y : ℕ) → Holds next x y ↔ (Holds now x y ⊎ ((x ≡ a) × Holds now k y))) → OnTrue more (all_missing next < all_missing now) → OnFalse more (next ≡ now) → length next ≡ length now → Lengthens now next more
takes-over now next a k more leads takes grows stays size = record {
  size = size;
  contains = λ x y h. (takes x y).1 (inl h);
  least = λ x y h. elim ((takes x y).0 h) [
    | inl was ↦ ([], was)
    | inr new ↦ (k ∷ [], (subst (λ v. Holds now v k) (sym new.0) leads, new.1))
  ];
  grows = grows;
  stays = stays;
}

pub passed-none : (rows : List (List Bool)) (a : ℕ) → PassedTo rows rows a 0 false
passed-none rows a = record { lengthens = lengthens-none rows; passed = λ k b below p q. absurd (omega (arith, below)) }

-- what a has taken over from the numbers below k, none between, and from k
pub passed-then : (old now next : List (List Bool)) (a from k : ℕ) (grown more : Bool) → PassedTo old now a from grown → IsNext (row_of now a) from k → ((x y : ℕ) → Holds next x y ↔ (Holds now x y ⊎ ((x ≡ a) × Holds now k y))) → OnTrue more (all_missing next < all_missing now) → OnFalse more (next ≡ now) → length next ≡ length now → PassedTo old next a (k + 1) (if more then true else grown)
passed-then old now next a from k grown true was is takes grows stays size = record {
  lengthens = lengthens-then old now next grown true was.lengthens (takes-over now next a k true is.member takes grows stays size);
  passed = tt;
}
passed-then old now next a from k true false was is takes grows stays size = record {
  lengthens = lengthens-then old now next true false was.lengthens (takes-over now next a k false is.member takes grows stays size);
  passed = tt;
}
passed-then old now next a from k false false was is takes grows stays size = record {
  lengthens = lengthens-then old now next false false was.lengthens (takes-over now next a k false is.member takes grows stays size);
  passed = λ j b below p q. elim (cases_lt j from) [
    | inl low ↦
        subst (λ rows. Holds rows a b) (sym stays)
        (was.passed j b low (subst (λ rows. Holds rows a j) stays p) (subst (λ rows. Holds rows j b) stays q))
    | inr high ↦
        let at : j ≡ k = omega (arith, below, is.least j high (subst (λ rows. Holds rows a j) stays p)) in
        (takes a b).1 (inr (refl, subst (λ v. Holds now v b) at (subst (λ rows. Holds rows j b) stays q)))
  ];
}

-- nothing is left to take over
pub passed-all : (old now : List (List Bool)) (a from : ℕ) (grown : Bool) → PassedTo old now a from grown → ((k : ℕ) → from ≤ k → ¬ (Holds now a k)) → OnFalse grown (HasPassedOn now a)
passed-all old now a from true was none = tt
passed-all old now a from false was none = λ k b p q. elim (cases_lt k from) [
  | inl low ↦ was.passed k b low p q
  | inr high ↦ absurd (none k high p)
]

pub lengthened-none : (rows : List (List Bool)) → LengthenedTo rows rows 0 false
lengthened-none rows = record { lengthens = lengthens-none rows; passed = λ a below k b p q. absurd (omega (arith, below)) }

pub lengthened-then : (old now next : List (List Bool)) (n : ℕ) (grown more : Bool) → LengthenedTo old now n grown → Lengthens now next more → OnFalse more (HasPassedOn next n) → LengthenedTo old next (n + 1) (if more then true else grown)
lengthened-then old now next n grown true was l passed = record { lengthens = lengthens-then old now next grown true was.lengthens l; passed = tt }
lengthened-then old now next n true false was l passed = record { lengthens = lengthens-then old now next true false was.lengthens l; passed = tt }
lengthened-then old now next n false false was l passed = record {
  lengthens = lengthens-then old now next false false was.lengthens l;
  passed = λ a below. elim (cases_lt a n) [
    | inl low ↦ subst (λ rows. HasPassedOn rows a) (sym l.stays) (was.passed a low)
    | inr high ↦ let at : n ≡ a = omega (arith, below, high) in subst (λ v. HasPassedOn next v) at passed
  ];
}

-- a number of the relation is below its size, so each has taken over
pub transitive-all : (old now : List (List Bool)) (grown : Bool) → LengthenedTo old now (length now) grown → OnFalse grown (IsTransitive (Holds now))
transitive-all old now true was = tt
transitive-all old now false was = λ a k b p q. was.passed a (Holds-below now a k p) k b p q
