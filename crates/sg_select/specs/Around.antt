-- The resting places around a place of a term, by recursion: those inside it, and those before and after it.
use Rattle.std.specs.Prelude.{ℕ, suc, Bool, true, false, not, List, [], ◌∷◌, ◌++◌, take, drop, Option, Some, None}
use Rattle.sg_kinds.specs.Terms.{Term, Terms, Leaf, Node, NoTerm, AndTerm, terms_of}
use Rattle.sg_kinds.specs.Places.{Place, sub}
use Rattle.sg_kinds.specs.declared.spec.Spec.{Spec}
use Rattle.sg_select.specs.RestingPlaces.{child_place, is_shown, rests_under, rests}

-- a list where a test is true, else nothing
abbrev pub when : Bool → List Place → List Place
when true us = us
when false us = []

-- the children of a term
abbrev pub kids : Term → List Term
kids (Leaf p v) = []
kids (Node op n elided ts) = terms_of ts

module _ (spec : Spec) where
  abbrev mutual
    -- those below a node that can be reached
    pub inside : Place → Term → List Place
    inside u (Leaf p v) = []
    inside u (Node op n elided ts) = when (not elided) (among u (Node op n elided ts) 0 ts)

    -- those at and below its children from a number on
    pub among : Place → Term → ℕ → Terms → List Place
    among u x k NoTerm = []
    among u x k (AndTerm y ys) =
        when (is_shown (child_place spec x k)) (when (rests_under spec x k y) ((k ∷ u) ∷ []) ++ inside (k ∷ u) y)
        ++ among u x (suc k) ys

  -- those at and below a child, and those of children from a number on
  abbrev pub part : Place → Term → ℕ → Term → List Place
  part u x k y =
      when (is_shown (child_place spec x k)) (when (rests_under spec x k y) ((k ∷ u) ∷ []) ++ inside (k ∷ u) y)

  abbrev pub parts : Place → Term → ℕ → List Term → List Place
  parts u x k [] = []
  parts u x k (y ∷ ys) = part u x k y ++ parts u x (suc k) ys

  module _ (t : Term) where
    -- a place itself, where it rests
    abbrev pub own : Place → List Place
    own u = when (rests spec t u) (u ∷ [])

    abbrev pub earlier : ℕ → Place → Option Term → List Place
    earlier k u None = []
    earlier k u (Some x) = parts u x 0 (take k (kids x))

    abbrev pub later : ℕ → Place → Option Term → List Place
    later k u None = []
    later k u (Some x) = parts u x (suc k) (drop (suc k) (kids x))

    -- those before and after a place and all below it
    abbrev pub before : Place → List Place
    before [] = []
    before (k ∷ u) = before u ++ (own u ++ earlier k u (sub t u))

    abbrev pub after : Place → List Place
    after [] = []
    after (k ∷ u) = later k u (sub t u) ++ after u
