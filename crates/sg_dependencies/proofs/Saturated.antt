-- The saturated relations are the dependencies.
use Rattle.std.specs.Prelude.{◌≡◌, ℕ, zero, suc, ◌<◌, ◌∷◌, Bool, true, false, List, [], length, map, replicate, Option, Some, slice_get, option_map, unwrap_or}
use Rattle.std.proofs.Common.{refl, sym, ◌∙◌, ap, subst, get_or, arith, inl, inr}
use Rattle.std.proofs.lemmas.Bool.{cases_lt, false≢true}
use Rattle.std.proofs.lemmas.List.{get_or_past, length-map, length-replicate}
use Rattle.std.proofs.lemmas.Option.{slice_get-get_or}
use Rattle.sg_sets.specs.Rows.{Holds}
use Rattle.sg_kinds.specs.declared.spec.Rules.{Rules}
use Rattle.sg_kinds.specs.declared.spec.Phylum.{Phylum}
use Rattle.sg_kinds.specs.declared.spec.Operator.{Operator}
use Rattle.sg_kinds.specs.declared.spec.Occurrence.{Occurrence}
use Rattle.sg_kinds.specs.Specification.{args_of, attrs_of}
use Rattle.sg_kinds.specs.Instances.{attr_count}
use Rattle.sg_kinds.specs.Dependencies.{phylum_there, Direct, InOperator, direct}
use Rattle.sg_kinds.specs.Visits.{vertex}
use Rattle.sg_kinds.specs.ValidPlans.{vertices}
use Rattle.sg_dependencies.specs.Vertices.{AreInRange, Numbered, AreRowsOf}
use Rattle.sg_dependencies.specs.Frames.{Frame, spot_of, spots_of, frames_of}
use Rattle.sg_dependencies.specs.Induced.{relation_at, AreInduced, AreRowsOfPhylum}
use Rattle.sg_dependencies.specs.Rounds.{no_pairs, Fits, IsSettled, AreSound, AreAlike, AreFitting, AreSettled, StaySound, frame_at, no_frame}
use Rattle.sg_dependencies.specs.declared.dependencies.Dependencies.{Dependencies}
use Rattle.sg_dependencies.proofs.Ranges.{vertices_small, phylum_in}
use Rattle.sg_dependencies.proofs.Numbers.{attrs_under, spot_there, spots_count, frame_there, frames_count}
use Rattle.sg_dependencies.proofs.Directs.{no_pair, op_there}
use Rattle.sg_dependencies.proofs.Sound.{direct_vertices}
use Rattle.sg_dependencies.proofs.Whole.{phylum_whole, operator_whole}

no_operator : Operator
no_operator = record { name = []; phylum = 0; args = []; locals = []; schemes = [] }

-- each phylum has a relation on its attributes
pub record AreSized (rules : Rules) (phyla : List (List (List Bool))) : Type 0 where
  pub count : length phyla ≡ length rules.phyla
  pub sizes : (X : ℕ) → X < length rules.phyla → length (relation_at phyla X) ≡ length (attrs_of rules.phyla X)

-- no attributes are related at first
pub record AreBare (rules : Rules) (phyla : List (List (List Bool))) : Type 0 where
  pub count : length phyla ≡ length rules.phyla
  pub sizes : (X : ℕ) → length (relation_at phyla X) ≡ length (attrs_of rules.phyla X)
  pub none : (X a b : ℕ) → Holds (relation_at phyla X) a b → ⊥

pub bare_sized : (rules : Rules) (phyla : List (List (List Bool))) → AreBare rules phyla → AreSized rules phyla
bare_sized rules phyla bare = record { count = bare.count; sizes = λ X low. bare.sizes X }

attrs_in : Option Phylum → ℕ
attrs_in o = length (unwrap_or (option_map (λ (x : Phylum). x.attrs) o) [])

-- the empty relation of a phylum that is there, or of none
bare_at : (xs : List Phylum) (X : ℕ) → relation_at (map (λ (x : Phylum). no_pairs (length x.attrs)) xs) X ≡ no_pairs (attrs_in (slice_get xs X))
unfolding attrs_in
bare_at [] X = refl
bare_at (x ∷ xs) zero = refl
bare_at (x ∷ xs) (suc X) = bare_at xs X

pub bare_phyla : (rules : Rules) (phyla : List (List (List Bool))) → phyla ≡ map (λ (x : Phylum). no_pairs (length x.attrs)) rules.phyla → AreBare rules phyla
unfolding attrs_in
bare_phyla rules phyla made =
    let at : (X : ℕ) → relation_at phyla X ≡ no_pairs (length (attrs_of rules.phyla X)) = λ X. ap (λ rs. relation_at rs X) made ∙ bare_at rules.phyla X in
    record {
      count = ap length made ∙ length-map rules.phyla (λ (x : Phylum). no_pairs (length x.attrs));
      sizes = λ X. ap length (at X) ∙ length-replicate (length (attrs_of rules.phyla X)) (replicate (length (attrs_of rules.phyla X)) false);
      none = λ X a b h. no_pair (length (attrs_of rules.phyla X)) a b (subst (λ r. Holds r a b) (at X) h);
    }

-- each occurrence's phylum and vertices are there
spot_fits : (rules : Rules) → AreInRange rules → (p k size : ℕ) (phyla : List (List (List Bool))) → p < length rules.ops → k < suc (length (args_of rules.ops p)) → size ≡ vertices rules p → AreSized rules phyla → Fits size phyla (spot_of rules p k)
spot_fits rules ranges p k size phyla op low long sized =
    let there = phylum_at_all rules p k op low in
    let attrs : attr_count rules (phylum_there rules.ops p k) ≡ length (attrs_of rules.phyla there.0) = ap (attr_count rules) there.1 in
    let same : unwrap_or (phylum_there rules.ops p k) 0 ≡ there.0 = ap (λ o. unwrap_or o 0) there.1 in
    let under = attrs_under rules p k low in
    let small = vertices_small rules ranges p in
    record {
      phylum = let h = phylum_in rules ranges p k there.0 there.1 in let c = sized.count in omega (arith, h, c, same);
      attrs = ap (λ X. length (relation_at phyla X)) same ∙ sized.sizes there.0 (phylum_in rules ranges p k there.0 there.1) ∙ sym attrs;
      room = omega (arith, under, long);
      small = omega (arith, under, small);
    }
  where
    phylum_at_all : (rules : Rules) (p k : ℕ) → p < length rules.ops → k < suc (length (args_of rules.ops p)) → (X : ℕ) × (phylum_there rules.ops p k ≡ Some X)
    phylum_at_all rules p zero op low = ((get_or rules.ops p no_operator).phylum, ap (option_map (λ (x : Operator). x.phylum)) (slice_get-get_or rules.ops p no_operator op))
    phylum_at_all rules p (suc k) op low = (get_or (args_of rules.ops p) k 0, slice_get-get_or (args_of rules.ops p) k 0 (omega (arith, low)))

pub fitting_first : (rules : Rules) (frames : List Frame) (operators phyla : List (List (List Bool))) → AreInRange rules → frames ≡ frames_of rules → length operators ≡ length rules.ops → ((p : ℕ) → p < length rules.ops → length (relation_at operators p) ≡ vertices rules p) → AreSized rules phyla
    → AreFitting frames operators phyla
fitting_first rules frames operators phyla ranges same long sizes sized = record {
  count = omega (arith, long, ap length same, frames_count rules);
  fits = λ p low k d under.
      let op : p < length rules.ops = omega (arith, low, ap length same, frames_count rules) in
      let spots : (frame_at frames p).spots ≡ spots_of rules p = ap (λ (f : Frame). f.spots) (ap (λ fs. frame_at fs p) same ∙ frame_there rules p no_frame op) in
      let inside : k < suc (length (args_of rules.ops p)) = omega (arith, under, ap length spots, spots_count rules p) in
      subst (Fits (length (relation_at operators p)) phyla) (sym (ap (λ xs. get_or xs k d) spots ∙ spot_there rules p k d inside)) (spot_fits rules ranges p k (length (relation_at operators p)) phyla op inside (sizes p op) sized);
}

direct_wider : (rules : Rules) (p m n : ℕ) → Numbered rules p (Direct rules p) m n → Numbered rules p (InOperator rules p) m n
direct_wider rules p m n x = record { from = x.from; to = x.to; related = direct p x.from x.to x.related; from_number = x.from_number; to_number = x.to_number }

-- where the relations came from, and how they are
pub record AreSaturated (rules : Rules) (frames : List Frame) (operators phyla operators' phyla' : List (List (List Bool))) : Type 0 where
  pub frames_are : frames ≡ frames_of rules
  pub long : length operators ≡ length rules.ops
  pub direct : (p : ℕ) → p < length rules.ops → AreRowsOf rules p (Direct rules p) (relation_at operators p)
  pub bare : AreBare rules phyla
  pub operators_alike : AreAlike operators operators'
  pub phyla_alike : AreAlike phyla phyla'
  pub sound : StaySound frames operators phyla operators' phyla'
  pub keeps : (p m n : ℕ) → Holds (relation_at operators p) m n → Holds (relation_at operators' p) m n
  pub settled : AreSettled frames operators' phyla'

sound_first : (rules : Rules) (operators phyla : List (List (List Bool))) → length operators ≡ length rules.ops → ((p : ℕ) → p < length rules.ops → AreRowsOf rules p (Direct rules p) (relation_at operators p)) → AreBare rules phyla → AreSound rules operators phyla
sound_first rules operators phyla long are bare = record {
  operator = λ p m n h. elim (cases_lt p (length rules.ops)) [
    | inl low ↦ direct_wider rules p m n ((are p low).sound m n h)
    | inr past ↦ absurd (false≢true (subst (λ r. get_or (get_or r m []) n false ≡ true) (get_or_past operators p [] (omega (arith, past, long))) h))
  ];
  phylum = λ X a b h. absurd (bare.none X a b h);
}

-- the relations are the dependencies
pub record AreExact (rules : Rules) (operators phyla : List (List (List Bool))) : Type 0 where
  pub as_operators : length operators ≡ length rules.ops
  pub as_phyla : length phyla ≡ length rules.phyla
  pub in_operator : (p : ℕ) → p < length rules.ops → AreRowsOf rules p (InOperator rules p) (relation_at operators p)
  pub in_phylum : (X : ℕ) → X < length rules.phyla → AreRowsOfPhylum rules X (relation_at phyla X)

pub induced_all : (rules : Rules) (frames : List Frame) (operators phyla operators' phyla' : List (List (List Bool))) → AreInRange rules → AreSaturated rules frames operators phyla operators' phyla' → AreExact rules operators' phyla'
induced_all rules frames operators phyla operators' phyla' ranges s =
    let sound : AreSound rules operators' phyla' = s.sound rules ranges s.frames_are (sound_first rules operators phyla s.long s.direct s.bare) in
    let has : (p : ℕ) (u v : Occurrence) → Direct rules p u v → Holds (relation_at operators' p) (vertex rules p u) (vertex rules p v) =
    λ p u v d. s.keeps p (vertex rules p u) (vertex rules p v) ((s.direct p (op_there rules p v (direct_vertices rules ranges p u v d).to)).whole u v d) in
    let settled : (p : ℕ) → p < length rules.ops → IsSettled (spots_of rules p) (relation_at operators' p) phyla' = λ p low.
    let spots : (frame_at frames p).spots ≡ spots_of rules p = ap (λ (f : Frame). f.spots) (ap (λ fs. frame_at fs p) s.frames_are ∙ frame_there rules p no_frame low) in
    subst (λ xs. IsSettled xs (relation_at operators' p) phyla') spots (s.settled p (omega (arith, low, ap length s.frames_are, frames_count rules))) in
    record {
      as_operators = s.operators_alike.count ∙ s.long;
      as_phyla = s.phyla_alike.count ∙ s.bare.count;
      in_operator = λ p low. record {
        size = s.operators_alike.sizes p ∙ (s.direct p low).size;
        sound = sound.operator p;
        whole = operator_whole rules ranges operators' phyla' has settled p;
      };
      in_phylum = λ X low. record {
        size = s.phyla_alike.sizes X ∙ s.bare.sizes X;
        holds = λ a b. (sound.phylum X a b, phylum_whole rules ranges operators' phyla' has settled X a b);
      };
    }

pub induced_of : (rules : Rules) (operators phyla : List (List (List Bool))) (d : Dependencies) → AreExact rules operators phyla → d.operators.items ≡ operators → d.phyla.items ≡ phyla → AreInduced rules d
induced_of rules operators phyla d is same like = record {
  operators = ap length same ∙ is.as_operators;
  phyla = ap length like ∙ is.as_phyla;
  in_operator = λ p low. subst (λ x. AreRowsOf rules p (InOperator rules p) (relation_at x p)) (sym same) (is.in_operator p low);
  in_phylum = λ X low. subst (λ x. AreRowsOfPhylum rules X (relation_at x X)) (sym like) (is.in_phylum X low);
}
