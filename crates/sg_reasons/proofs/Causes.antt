-- What the tests of causes find.
use Rattle.std.specs.Prelude.{◌≡◌, ℕ, ◌<◌, List, [], length, Some, slice_get, unwrap_or, All}
use Rattle.std.proofs.Common.{refl, sym, ◌∙◌, ap, subst, get_or, arith}
use Rattle.std.proofs.lemmas.Option.{slice_get_within, get_or_from_slice_get}
use Rattle.std.proofs.lemmas.List.Elements.{Contains-get_or}
use Rattle.sg_kinds.specs.declared.spec.Rules.{Rules}
use Rattle.sg_kinds.specs.declared.spec.Rule.{Rule}
use Rattle.sg_kinds.specs.declared.spec.Occurrence.{Occurrence}
use Rattle.sg_kinds.specs.Dependencies.{IsAttr}
use Rattle.sg_kinds.specs.Visits.{row_at, vertex}
use Rattle.sg_kinds.specs.ValidPlans.{vertices}
use Rattle.sg_dependencies.specs.declared.frame.Frame.{Frame}
use Rattle.sg_dependencies.specs.declared.frame.Spot.{Spot}
use Rattle.sg_dependencies.specs.Frames.{spot_of, spots_of, frame_of, number_in}
use Rattle.sg_dependencies.specs.Rounds.{IsNamed, IsNumberedBelow}
use Rattle.sg_dependencies.specs.Vertices.{AreInRange, IsVertex}
use Rattle.sg_dependencies.proofs.Directs.{AtRule, at_rule, frame_is, numbered_below}
use Rattle.sg_dependencies.proofs.Numbers.{frames_count, number_in-frame_of, spot_there, spots_count}
use Rattle.sg_dependencies.proofs.Ranges.{vertices_small}
use Rattle.sg_dependencies.proofs.Sound.{attr_at}
use Rattle.sg_orders.specs.Layerings.{layer_in}
use Rattle.sg_reasons.specs.Reasons.{AreAt, IsByEquation, IsByLayers}
use Rattle.sg_reasons.specs.Scenes.{AreLater, AreLayered, IsScene, StandAt}

-- frames and occurrences that are there
pub frame_found : (rules : Rules) (frames : List Frame) (p : ℕ) (f : Frame) → IsScene rules frames → slice_get frames p ≡ Some f → f ≡ frame_of rules p
frame_found rules frames p f scene at =
    let low = slice_get_within frames p f at in
    frame_is rules frames p f scene.frames_are (omega (arith, low, ap length scene.frames_are, frames_count rules)) at

pub spot_found : (rules : Rules) (p k : ℕ) (f : Frame) (s : Spot) → f ≡ frame_of rules p → slice_get f.spots k ≡ Some s → s ≡ spot_of rules p k
spot_found rules p k f s is at =
    let spots : f.spots ≡ spots_of rules p = ap (λ (x : Frame). x.spots) is in
    let low = slice_get_within f.spots k s at in
    sym (get_or_from_slice_get f.spots k s s at) ∙ ap (λ xs. get_or xs k s) spots ∙ spot_there rules p k s (omega (arith, low, ap length spots, spots_count rules p))

-- an equation that is there
pub record HasNumbers (f : Frame) (r : Rule) : Type 0 where
  pub target : IsNumberedBelow f f.count r.target
  pub args : All (IsNumberedBelow f f.count) r.args

rule_there : (rules : Rules) (k : ℕ) (r : Rule) → AreInRange rules → slice_get rules.rules k ≡ Some r → AtRule rules k r
rule_there rules k r range at = at_rule rules rules.rules k r range refl (slice_get_within rules.rules k r at) (sym (get_or_from_slice_get rules.rules k r r at))

pub numbers_of : (rules : Rules) (p k : ℕ) (r : Rule) (f : Frame) → AreInRange rules → slice_get rules.rules k ≡ Some r → f ≡ frame_of rules p → r.op ≡ p → HasNumbers f r
numbers_of rules p k r f range at is of =
    let there = rule_there rules k r range at in
    let small = vertices_small rules range p in
    let below : (o : Occurrence) → IsVertex rules p o → IsNumberedBelow f f.count o =
    λ o v. subst (λ g. IsNumberedBelow g g.count o) (sym is) (numbered_below rules p (vertices rules p) o v refl small) in
    record {
      target = below r.target (subst (λ q. IsVertex rules q r.target) of there.target);
      args = λ i d low. below (get_or r.args i d) (subst (λ q. IsVertex rules q (get_or r.args i d)) of (there.args i d low));
    }

pub named_by : (rules : Rules) (p m n k : ℕ) (r : Rule) (f : Frame) → AreInRange rules → slice_get rules.rules k ≡ Some r → f ≡ frame_of rules p → r.op ≡ p → IsNamed f r (length r.args) m n → IsByEquation rules p m n k
named_by rules p m n k r f range at is of named =
    let there = rule_there rules k r range at in
    let o = get_or r.args named.place r.target in
    let number : (x : Occurrence) → IsVertex rules p x → number_in f x ≡ vertex rules p x =
    λ x v. ap (λ g. number_in g x) is ∙ number_in-frame_of rules p x v in
    record {
      rule = r;
      stands = at;
      of_operator = of;
      named = o;
      names = Contains-get_or r.args named.place r.target named.low;
      from = sym (number o (subst (λ q. IsVertex rules q o) of (there.args named.place r.target named.low))) ∙ named.from;
      to = sym (number r.target (subst (λ q. IsVertex rules q r.target) of there.target)) ∙ named.to;
    }

-- attributes at an occurrence
pub stand_are : (rules : Rules) (p k X a b m n : ℕ) (s : Spot) → s ≡ spot_of rules p k → s.phylum ≡ X → StandAt s a b m n → AreAt rules p k X a b m n
stand_are rules p k X a b m n s is phylum at =
    let from = attr_at rules p s a k is at.from.there in
    let to = attr_at rules p s b k is at.to.there in
    record {
      phylum = from.phylum ∙ ap (λ Y. Some Y) phylum;
      from_there = subst (λ Y. IsAttr rules Y a) phylum from.attr;
      to_there = subst (λ Y. IsAttr rules Y b) phylum to.attr;
      from = from.number ∙ sym at.from.is;
      to = to.number ∙ sym at.to.is;
    }

pub layers_by : (rules : Rules) (layers : List (List ℕ)) (p m n k a b : ℕ) (s : Spot) → AreLayered rules layers → s ≡ spot_of rules p k → AreLater layers s a b m n → IsByLayers rules p m n k a b
layers_by rules layers p m n k a b s layered is are =
    let later = are.later in
    let same : row_at layers s.phylum ≡ later.row = ap (λ o. unwrap_or o []) later.stands in
    record {
      phylum = s.phylum;
      layer = layer_in layers s.phylum;
      layers = layered s.phylum (slice_get_within layers s.phylum later.row later.stands);
      earlier = subst (λ xs. get_or xs b 0 < get_or xs a 0) (sym same) later.earlier;
      placed = stand_are rules p k s.phylum a b m n s is refl are.placed;
    }
