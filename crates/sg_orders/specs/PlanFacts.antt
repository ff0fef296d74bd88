-- What visits and positions of an operator say of each other.
use Rattle.std.specs.Prelude.{◌≡◌, ℕ, suc, ◌<◌, ◌≤◌, true, false, Some, slice_get, slice_index, Contains}
use Rattle.sg_kinds.specs.declared.plans.Plans.{Plans}
use Rattle.sg_kinds.specs.declared.spec.Rules.{Rules}
use Rattle.sg_kinds.specs.declared.spec.Rule.{Rule}
use Rattle.sg_kinds.specs.declared.spec.Occurrence.{Occurrence}
use Rattle.sg_kinds.specs.Specification.{args_of, phylum_of, is_inherited}
use Rattle.sg_kinds.specs.Dependencies.{IsAttr, occurrence}
use Rattle.sg_kinds.specs.Visits.{row_at, position_in, visit_count, belongs, after_all, seat}

pub record HasPlanFacts (rules : Rules) (plans : Plans) (p : ℕ) : Type 0 where
  -- visits never fall as positions rise, and what is behind all vertices belongs to the last
  pub visits_rise : (X q r : ℕ) → phylum_of rules.ops p ≡ Some X → q ≤ r
      → belongs rules plans p q ≤ belongs rules plans p r
  pub last : (X q : ℕ) → phylum_of rules.ops p ≡ Some X → after_all plans p ≤ q
      → belongs rules plans p q ≡ visit_count plans X
  -- the visits of an argument stand in their order
  pub seats_rise : (k X i j : ℕ) → slice_get (args_of rules.ops p) k ≡ Some X → 1 ≤ i → i < j
      → j ≤ visit_count plans X → seat rules plans p k i < seat rules plans p k j
  -- an inherited attribute has come by the visit of an equation that names it, and stands before each visit of an
  -- argument from its own on
  pub inherited_by : (X a : ℕ) (r : Rule) → phylum_of rules.ops p ≡ Some X → IsAttr rules X a → Contains rules.rules r
      → r.op ≡ p → Contains r.args (occurrence 0 a)
      → slice_index (row_at plans.visits X) a ≤ belongs rules plans p (position_in rules plans p r.target)
  pub inherited_before : (k X a j : ℕ) → slice_get (args_of rules.ops p) k ≡ Some X → IsAttr rules X a
      → is_inherited rules.phyla X a ≡ true → slice_index (row_at plans.visits X) a ≤ j
      → position_in rules plans p (occurrence (suc k) a) < seat rules plans p k j
  -- a synthesized attribute stands at its visit of an argument or after it, and belongs to its own visit on the left
  -- side
  pub seat_before : (k X b : ℕ) → slice_get (args_of rules.ops p) k ≡ Some X → IsAttr rules X b
      → is_inherited rules.phyla X b ≡ false
      → seat rules plans p k (slice_index (row_at plans.visits X) b) ≤ position_in rules plans p (occurrence (suc k) b)
  pub own_visit : (X b : ℕ) → phylum_of rules.ops p ≡ Some X → IsAttr rules X b → is_inherited rules.phyla X b ≡ false
      → belongs rules plans p (position_in rules plans p (occurrence 0 b)) ≡ slice_index (row_at plans.visits X) b
  -- what an equation names stands before what it defines
  pub named_before : (r : Rule) (o : Occurrence) → Contains rules.rules r → r.op ≡ p → Contains r.args o
      → position_in rules plans p o < position_in rules plans p r.target
