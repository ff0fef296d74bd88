-- How the frame of an operator is put together.
use Rattle.std.specs.Prelude.{◌≡◌, ℕ, suc, ◌+◌, ◌<◌, ◌^◌, List, [], ◌∷◌, ◌++◌, map, length, Option, Some, slice_get, unwrap_or, option_map}
use Rattle.std.proofs.Common.{refl, sym, ap, ◌∙◌, get_or, arith, add-one}
use Rattle.std.proofs.lemmas.Option.{slice_get_read}
use Rattle.sg_kinds.specs.declared.spec.Rules.{Rules}
use Rattle.sg_kinds.specs.declared.spec.Operator.{Operator}
use Rattle.sg_kinds.specs.Specification.{args_of, locals_of}
use Rattle.sg_kinds.specs.Instances.{attr_count, below}
use Rattle.sg_kinds.specs.Dependencies.{phylum_there}
use Rattle.sg_kinds.specs.Visits.{attrs_before}
use Rattle.sg_kinds.specs.ValidPlans.{vertices}
use Rattle.sg_dependencies.specs.Frames.{Spot, Frame, spot_of, spots_of, frame_of, frames_of}
use Rattle.sg_dependencies.proofs.Below.{map-below-more}
use Rattle.sg_dependencies.proofs.Numbers.{attrs_under}

abbrev frame_with : ℕ → ℕ → List Spot → Frame
frame_with locals count spots = record { spots = spots; locals = locals; count = count }

-- an occurrence of a phylum
abbrev pub spot_with : Rules → Option ℕ → ℕ → Spot
spot_with rules o first = record { phylum = unwrap_or o 0; first = first; attrs = attr_count rules o }

pub args_are : (rules : Rules) (p : ℕ) (x : Operator) → slice_get rules.ops p ≡ Some x → args_of rules.ops p ≡ x.args
args_are rules p x is = ap (λ o. unwrap_or (option_map (λ (y : Operator). y.args) o) []) is

pub locals_are : (rules : Rules) (p : ℕ) (x : Operator) → slice_get rules.ops p ≡ Some x → locals_of rules.ops p ≡ x.locals
locals_are rules p x is = ap (λ o. unwrap_or (option_map (λ (y : Operator). y.locals) o) []) is

pub phylum_is : (rules : Rules) (p : ℕ) (x : Operator) → slice_get rules.ops p ≡ Some x → phylum_there rules.ops p 0 ≡ Some x.phylum
phylum_is rules p x is = ap (λ o. option_map (λ (y : Operator). y.phylum) o) is

pub arg_is : (rules : Rules) (p : ℕ) (x : Operator) (i arg : ℕ) → slice_get rules.ops p ≡ Some x → i < length x.args → arg ≡ get_or x.args i arg → phylum_there rules.ops p (suc i) ≡ Some arg
arg_is rules p x i arg is low at = ap (λ xs. slice_get xs i) (args_are rules p x is) ∙ slice_get_read x.args (length x.args) i arg refl low at

pub record Framed (rules : Rules) (p k : ℕ) (spots : List Spot) (next : ℕ) : Type 0 where
  pub spots_are : spots ≡ map (spot_of rules p) (below (suc k))
  pub next_is : next ≡ attrs_before rules p (suc k)

pub framed_none : (rules : Rules) (p X : ℕ) → phylum_there rules.ops p 0 ≡ Some X → Framed rules p 0 (spot_with rules (Some X) 0 ∷ []) (attr_count rules (Some X))
framed_none rules p X is = record {
  spots_are = ap (λ o. spot_with rules o 0 ∷ []) (sym is);
  next_is = let h : attr_count rules (Some X) ≡ attr_count rules (phylum_there rules.ops p 0) = ap (attr_count rules) (sym is) in omega (arith, h);
}

pub framed_more : (rules : Rules) (p i X : ℕ) (spots : List Spot) (next : ℕ) → Framed rules p i spots next → phylum_there rules.ops p (suc i) ≡ Some X → Framed rules p (suc i) (spots ++ spot_with rules (Some X) next ∷ []) (next + attr_count rules (Some X))
framed_more rules p i X spots next is there = record {
  spots_are =
      ap (λ xs. xs ++ spot_with rules (Some X) next ∷ []) is.spots_are
      ∙ ap (λ (s : Spot). map (spot_of rules p) (below (suc i)) ++ s ∷ []) (ap (λ o. spot_with rules o next) (sym there) ∙ ap (λ n. spot_with rules (phylum_there rules.ops p (suc i)) n) is.next_is)
      ∙ sym (map-below-more (spot_of rules p) (suc i));
  next_is =
      ap (λ n. n + attr_count rules (Some X)) is.next_is ∙ ap (λ o. attrs_before rules p (suc i) + attr_count rules o) (sym there);
}

-- the next number fits
pub framed_fits : (rules : Rules) (p i X next n : ℕ) → vertices rules p < 2 ^ 32 → next ≡ attrs_before rules p (suc i) → phylum_there rules.ops p (suc i) ≡ Some X → n ≡ length (args_of rules.ops p) → i < n → next + attr_count rules (Some X) < 2 ^ 32
framed_fits rules p i X next n small is there long low =
    let h : attr_count rules (Some X) ≡ attr_count rules (phylum_there rules.ops p (suc i)) = ap (attr_count rules) (sym there) in
    let u = attrs_under rules p (suc i) (omega (arith, long, low)) in
    omega (arith, small, is, h, u)

pub framed_all : (rules : Rules) (p n : ℕ) (spots : List Spot) (next count : ℕ) → n ≡ length (args_of rules.ops p) → Framed rules p n spots next → count ≡ next + length (locals_of rules.ops p) → record { spots = spots; locals = next; count = count } ≡ frame_of rules p
unfolding spots_of
framed_all rules p n spots next count long is counts =
    let s : spots ≡ spots_of rules p = is.spots_are ∙ ap (λ m. map (spot_of rules p) (below (suc m))) long in
    let l : next ≡ attrs_before rules p (suc (length (args_of rules.ops p))) = is.next_is ∙ ap (λ m. attrs_before rules p (suc m)) long in
    let c : count ≡ vertices rules p = counts ∙ ap (λ m. m + length (locals_of rules.ops p)) l in
    ap (frame_with next count) s ∙ ap (λ m. frame_with m count (spots_of rules p)) l ∙ ap (λ m. frame_with (attrs_before rules p (suc (length (args_of rules.ops p)))) m (spots_of rules p)) c

pub frames_all : (rules : Rules) (n : ℕ) (frames : List Frame) → n ≡ length rules.ops → frames ≡ map (frame_of rules) (below n) → frames ≡ frames_of rules
unfolding frames_of
frames_all rules n frames long is = is ∙ ap (λ m. map (frame_of rules) (below m)) long

pub framed_first : (rules : Rules) (p : ℕ) (x : Operator) (none spots : List Spot) (spot : Spot) → slice_get rules.ops p ≡ Some x → none ≡ [] → spots ≡ none ++ spot ∷ [] → spot ≡ spot_with rules (Some x.phylum) 0 → Framed rules p 0 spots spot.attrs
framed_first rules p x none spots spot is empty push made =
    let all : spots ≡ spot_with rules (Some x.phylum) 0 ∷ [] = push ∙ ap (λ xs. xs ++ spot ∷ []) empty ∙ ap (λ (s : Spot). s ∷ []) made in
    let f = framed_none rules p x.phylum (phylum_is rules p x is) in
    record { spots_are = all ∙ f.spots_are; next_is = ap (λ (s : Spot). s.attrs) made ∙ f.next_is }

pub framed_next : (rules : Rules) (p i : ℕ) (x : Operator) (arg next : ℕ) (spots after : List Spot) (spot : Spot) → Framed rules p i spots next → slice_get rules.ops p ≡ Some x → i < length x.args → arg ≡ get_or x.args i arg → after ≡ spots ++ spot ∷ [] → spot ≡ spot_with rules (Some arg) next → Framed rules p (i + 1) after (next + spot.attrs)
framed_next rules p i x arg next spots after spot is there low at push made =
    let f = framed_more rules p i arg spots next is (arg_is rules p x i arg there low at) in
    rw add-one (record { spots_are = push ∙ ap (λ (s : Spot). spots ++ s ∷ []) made ∙ f.spots_are; next_is = ap (λ (s : Spot). next + s.attrs) made ∙ f.next_is })
