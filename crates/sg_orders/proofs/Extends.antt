-- The extended rows are the extended dependencies.
use Rattle.std.specs.Prelude.{◌≡◌, ℕ, suc, ◌<◌, Bool, List, length, Some, unwrap_or, Contains}
use Rattle.std.proofs.Common.{refl, sym, ◌∙◌, ap, subst, arith, inl, inr}
use Rattle.sg_sets.specs.Rows.{Holds}
use Rattle.sg_kinds.specs.declared.spec.Rules.{Rules}
use Rattle.sg_kinds.specs.declared.spec.Occurrence.{Occurrence}
use Rattle.sg_kinds.specs.Specification.{args_of}
use Rattle.sg_kinds.specs.Instances.{attr_count}
use Rattle.sg_kinds.specs.Dependencies.{phylum_there, IsAttr, occurrence, Direct, InOperator, direct}
use Rattle.sg_kinds.specs.Layers.{Extended, within, layered}
use Rattle.sg_dependencies.specs.Ordered as order
use Rattle.sg_dependencies.specs.Ordered.{Leads, IsAcyclic}
use Rattle.sg_kinds.specs.Visits.{vertex}
use Rattle.sg_dependencies.specs.Faults.{AreAcyclic}
use Rattle.sg_dependencies.specs.Frames.{spot_of, spots_of, frames_of}
use Rattle.sg_dependencies.specs.declared.frame.Spot.{Spot}
use Rattle.sg_dependencies.specs.declared.frame.Frame.{Frame}
use Rattle.sg_dependencies.specs.Induced.{relation_at, AreInduced}
use Rattle.sg_dependencies.specs.Rounds.{IsSpread, AreFitting, frame_at, no_frame}
use Rattle.sg_dependencies.specs.Vertices.{AreInRange, Numbered, AreRowsOf}
use Rattle.sg_dependencies.specs.declared.dependencies.Dependencies.{Dependencies}
use Rattle.sg_dependencies.proofs.Numbers.{frame_there, frames_count, spots_count, spot_there, attr_there, number_attr}
use Rattle.sg_dependencies.proofs.Ranges.{phylum_in}
use Rattle.sg_dependencies.proofs.Saturated.{AreSized, fitting_first}
use Rattle.sg_dependencies.proofs.Sound.{contained_spot, attr_at}
use Rattle.sg_orders.specs.Layerings.{layer_in, AreLayerings, AreLater, AreExtended}

-- the relations of layers are on the attributes
later_sized : (rules : Rules) (layers : List (List ℕ)) (later : List (List (List Bool))) → AreLayerings rules layers → AreLater layers later → AreSized rules later
later_sized rules layers later are is = record {
  count = is.count ∙ are.count;
  sizes = λ X low. is.sizes X (let c = are.count in omega (arith, low, c)) ∙ are.sizes X low;
}

pub fitting_later : (rules : Rules) (d : Dependencies) (frames : List Frame) (layers : List (List ℕ)) (later : List (List (List Bool))) → AreInRange rules → frames ≡ frames_of rules → AreInduced rules d → AreLayerings rules layers → AreLater layers later
    → AreFitting frames d.operators.items later
fitting_later rules d frames layers later ranges same induced are is =
    fitting_first rules frames d.operators.items later ranges same induced.operators (λ p low. (induced.in_operator p low).size) (later_sized rules layers later are is)

module _ (rules : Rules) (ranges : AreInRange rules) (p : ℕ) (op : p < length rules.ops) (layers : List (List ℕ)) (are : AreLayerings rules layers) (later : List (List (List Bool))) (is : AreLater layers later) where
  placed_sound : (spots : List Spot) (m n : ℕ) → spots ≡ spots_of rules p → IsSpread spots later m n → Numbered rules p (Extended rules (layer_in layers) p) m n
  placed_sound spots m n same spread =
      let s = contained_spot rules p spots spread.spot same spread.stands in
      let placed = spread.placed in
      let from = attr_at rules p spread.spot placed.a s.at s.is placed.a_there in
      let to = attr_at rules p spread.spot placed.b s.at s.is placed.b_there in
      let low = phylum_in rules ranges p s.at spread.spot.phylum from.phylum in
      let earlier = ((is.holds spread.spot.phylum placed.a placed.b (let c = are.count in omega (arith, low, c))).0 placed.related).earlier in
      record {
        from = occurrence s.at placed.a;
        to = occurrence s.at placed.b;
        related = layered p s.at spread.spot.phylum placed.a placed.b from.phylum from.attr to.attr earlier;
        from_number = from.number ∙ sym placed.from;
        to_number = to.number ∙ sym placed.to;
      }

  placed_whole : (spots : List Spot) (k X a b : ℕ) → spots ≡ spots_of rules p → phylum_there rules.ops p k ≡ Some X → IsAttr rules X a → IsAttr rules X b → layer_in layers X b < layer_in layers X a
      → IsSpread spots later (vertex rules p (occurrence k a)) (vertex rules p (occurrence k b))
  placed_whole spots k X a b same there m n earlier =
      let low = phylum_in rules ranges p k X there in
      let count : attr_count rules (phylum_there rules.ops p k) ≡ attr_count rules (Some X) = ap (attr_count rules) there in
      let inside : k < suc (length (args_of rules.ops p)) = attr_there rules p k a (omega (arith, count, m)) in
      let phylum : unwrap_or (phylum_there rules.ops p k) 0 ≡ X = ap (λ o. unwrap_or o 0) there in
      let size = are.sizes X low in
      let lays = (is.holds X a b (let c = are.count in omega (arith, low, c))).1 (record { from = omega (arith, m, size); to = omega (arith, n, size); earlier = earlier }) in
      record {
        spot = spot_of rules p k;
        stands = subst (λ xs. Contains xs (spot_of rules p k)) (sym same) (k, omega (arith, inside, spots_count rules p), spot_there rules p k (spot_of rules p k) inside);
        placed = record {
          a = a;
          b = b;
          a_there = omega (arith, m, count);
          b_there = omega (arith, n, count);
          related = subst (λ Y. Holds (relation_at later Y) a b) (sym phylum) lays;
          from = number_attr rules p k a (omega (arith, m, count));
          to = number_attr rules p k b (omega (arith, n, count));
        };
      }

  pub extended_rows : (frames : List Frame) (old new : List (List (List Bool))) → frames ≡ frames_of rules → AreRowsOf rules p (InOperator rules p) (relation_at old p) → AreExtended frames old new later → AreRowsOf rules p (Extended rules (layer_in layers) p) (relation_at new p)
  extended_rows frames old new same rows ext =
      let spots : (frame_at frames p).spots ≡ spots_of rules p = ap (λ (f : Frame). f.spots) (ap (λ fs. frame_at fs p) same ∙ frame_there rules p no_frame op) in
      let under : p < length frames = omega (arith, op, ap length same, frames_count rules) in
      record {
        size = ext.alike.sizes p ∙ rows.size;
        sound = λ m n h. elim ((ext.gains p m n under).0 h) [
          | inl was ↦ let s = rows.sound m n was in record { from = s.from; to = s.to; related = within p s.from s.to s.related; from_number = s.from_number; to_number = s.to_number }
          | inr spread ↦ placed_sound (frame_at frames p).spots m n spots spread
        ];
        whole = λ u v e. by (relation_at new p) (λ v' w d. (ext.gains p (vertex rules p v') (vertex rules p w) under).1 (inl (rows.whole v' w d)))
            (λ k X a b there m n earlier. (ext.gains p (vertex rules p (occurrence k a)) (vertex rules p (occurrence k b)) under).1 (inr (placed_whole (frame_at frames p).spots k X a b spots there m n earlier))) p u v refl e;
      }
    where
      by : (rows : List (List Bool)) → ((u v : Occurrence) → InOperator rules p u v → Holds rows (vertex rules p u) (vertex rules p v))
          → ((k X a b : ℕ) → phylum_there rules.ops p k ≡ Some X → IsAttr rules X a → IsAttr rules X b → layer_in layers X b < layer_in layers X a → Holds rows (vertex rules p (occurrence k a)) (vertex rules p (occurrence k b)))
          → (q : ℕ) (u v : Occurrence) → q ≡ p → Extended rules (layer_in layers) q u v → Holds rows (vertex rules p u) (vertex rules p v)
      by rows f g _ _ _ e (within q u v d) = f u v (subst (λ r. InOperator rules r u v) e d)
      by rows f g _ _ _ e (layered q k X a b there m n earlier) = g k X a b (subst (λ r. phylum_there rules.ops r k ≡ Some X) e there) m n earlier

-- the extended rows of all operators
pub record AreExtendedRows (rules : Rules) (layers : List (List ℕ)) (operators : List (List (List Bool))) : Type 0 where
  pub count : length operators ≡ length rules.ops
  pub rows : (p : ℕ) → p < length rules.ops → AreRowsOf rules p (Extended rules (layer_in layers) p) (relation_at operators p)

pub all_extended : (rules : Rules) (d : Dependencies) (frames : List Frame) (layers : List (List ℕ)) (old new : List (List (List Bool))) → AreInRange rules → frames ≡ frames_of rules → AreInduced rules d → AreLayerings rules layers → old ≡ d.operators.items
    → (later : List (List (List Bool))) → AreLater layers later → AreExtended frames old new later → AreExtendedRows rules layers new
all_extended rules d frames layers old new ranges same induced are is later lays ext = record {
  count = ext.alike.count ∙ ap length is ∙ induced.operators;
  rows = λ p low. extended_rows rules ranges p low layers are later lays frames old new same (subst (λ xs. AreRowsOf rules p (InOperator rules p) (relation_at xs p)) (sym is) (induced.in_operator p low)) ext;
}

-- a cycle of direct dependencies is one of all
leads_wider : (R S : Occurrence → Occurrence → Type 0) → ((u v : Occurrence) → R u v → S u v) → (u v : Occurrence) → Leads R u v → Leads S u v
leads_wider R S wider _ _ (order.one u v r) = order.one u v (wider u v r)
leads_wider R S wider _ _ (order.more u v w r l) = order.more u v w (wider u v r) (leads_wider R S wider v w l)

pub acyclic_narrower : (R S : Occurrence → Occurrence → Type 0) → ((u v : Occurrence) → R u v → S u v) → IsAcyclic S → IsAcyclic R
acyclic_narrower R S wider none u l = none u (leads_wider R S wider u u l)

pub acyclic_direct : (rules : Rules) → AreAcyclic rules (InOperator rules) → AreAcyclic rules (Direct rules)
acyclic_direct rules none p low = acyclic_narrower (Direct rules p) (InOperator rules p) (λ u v d. direct p u v d) (none p low)
