-- Where nodes begin in what is seen of a term in a view, and what tells it before a change for the term after it.
use Rattle.std.specs.Prelude.{◌≡◌, ℕ, ◌+◌, ◌-◌, ◌*◌, ◌≤◌, List, [], ◌++◌, Some}
use Rattle.sg_kinds.specs.Terms.{Term}
use Rattle.sg_kinds.specs.Places.{Place, put, sub}
use Rattle.sg_kinds.specs.FromScratch.{value_in}
use Rattle.sg_kinds.specs.InView.{in_view}
use Rattle.sg_kinds.specs.declared.spec.Spec.{Spec}
use Rattle.sg_groves.specs.Evaluated.{IsAtOrBelow}
use Rattle.sg_unparse.specs.Begins.{AreAlikeOutside, begins_in}
use Rattle.sg_unparse.specs.Cells.{Mark, unparsed}
use Rattle.sg_unparse.specs.declared.page.Beginning.{Beginning}
use Rattle.sg_states.specs.Seen.{nothing_typed, marks_seen}
use Rattle.sg_states.specs.declared.forecast.Before.{Before}

-- a place begins behind so many newlines, and behind at most so many cells
pub record Begins (spec : Spec) (v : ℕ) (t : Term) (u : Place) (b : Beginning) : Type 0 where
  pub now : Beginning
  pub there : begins_in (marks_seen spec v t nothing_typed) u ≡ Some now
  pub newlines : b.newlines ≡ now.newlines
  pub cells : now.cells ≤ b.cells

-- what a node of the term writes alone, from margin 0, and where a place begins in that
abbrev pub marks_alone : Spec → ℕ → Term → Place → Term → List Mark
marks_alone spec v t p x = (unparsed (in_view spec v) (value_in spec t) nothing_typed p x 0).0

pub record BeginsAlone (spec : Spec) (v : ℕ) (t : Term) (p : Place) (x : Term) (u : Place) (b : Beginning) : Type 0 where
  pub below : IsAtOrBelow u p
  pub there : begins_in (marks_alone spec v t p x) u ≡ Some b

-- where a place begins then, from where it begins in what the node writes alone
abbrev pub foretold : Before → Beginning → Beginning
foretold b to = record {
  newlines = (b.old.newlines - b.from.newlines) + to.newlines;
  cells = b.old.cells + to.cells + to.newlines * b.margin;
}

-- it tells where each place that begins in what the node at a place writes alone begins in the term
pub record Foretells (spec : Spec) (v : ℕ) (t : Term) (p : Place) (b : Before) : Type 0 where
  pub tells : (y : Term) (w : Place) (to : Beginning) → sub t p ≡ Some y → BeginsAlone spec v t p y w to →
      Begins spec v t w (foretold b to)

-- and it does so once the term changed strictly below the node, and values only there
abbrev pub WillForetell : Spec → ℕ → Term → Place → Before → Type 0
WillForetell spec v t p b = (z : Place) (s : Term) → (z ≡ [] → ⊥) →
    AreAlikeOutside p (value_in spec t) (value_in spec (put t (z ++ p) s)) → Foretells spec v (put t (z ++ p) s) p b
