-- The numbers of an operator's vertices.
use Rattle.std.specs.Prelude.{◌≡◌, ℕ, zero, suc, ◌+◌, ◌-◌, ◌<◌, ◌≤◌, ◌⊎◌, cond, ◌&&◌, nat_eq, nat_le, length, Option, Some, None}
use Rattle.std.proofs.Common.{refl, sym, ap, ◌∙◌, get_or, arith, inl, inr}
use Rattle.std.proofs.lemmas.Bool.{cases_lt, cases_order, cond-true, cond-false, and_left, and_right, and_from, lt-leb, le-leb}
use Rattle.std.proofs.lemmas.Option.{slice_get_past}
use Rattle.std.proofs.Math.Dec.{eqb-suc-zero}
use Rattle.sg_kinds.specs.declared.spec.Rules.{Rules}
use Rattle.sg_kinds.specs.declared.spec.Occurrence.{Occurrence}
use Rattle.sg_kinds.specs.Specification.{args_of, locals_of}
use Rattle.sg_kinds.specs.Instances.{attr_count}
use Rattle.sg_kinds.specs.Dependencies.{phylum_there, occurrence, IsAttr}
use Rattle.sg_kinds.specs.Visits.{attrs_before, attrs_here, vertex}
use Rattle.sg_kinds.specs.ValidPlans.{vertices}
use Rattle.sg_dependencies.specs.Vertices.{IsVertex}
use Rattle.sg_dependencies.specs.Frames.{Spot, Frame, spot_of, spots_of, frame_of, frames_of, no_spot, spot_at, number_in}
use Rattle.sg_dependencies.proofs.Below.{get_or-map-below, length-map-below}

pub attrs_before-le : (rules : Rules) (p j k : ℕ) → j ≤ k → attrs_before rules p j ≤ attrs_before rules p k
attrs_before-le rules p j zero low = let is : j ≡ 0 = omega (arith, low) in rw is (omega arith)
attrs_before-le rules p j (suc k) low = elim (cases_lt j (suc k)) [
  | inl under ↦ let rest = attrs_before-le rules p j k (omega (arith, under)) in omega (arith, rest)
  | inr past ↦ let is : j ≡ suc k = omega (arith, low, past) in rw is (omega arith)
]

-- an attribute of the left side or of an argument
pub record IsAt (rules : Rules) (p : ℕ) (o : Occurrence) : Type 0 where
  pub slot : o.slot < attr_count rules (phylum_there rules.ops p o.at)
  pub number : vertex rules p o ≡ attrs_before rules p o.at + o.slot

-- a local
pub record IsLocal (rules : Rules) (p : ℕ) (o : Occurrence) : Type 0 where
  pub at : o.at ≡ 0
  pub past : attrs_here rules p ≤ o.slot
  pub under : o.slot < attrs_here rules p + length (locals_of rules.ops p)
  pub number : vertex rules p o ≡ attrs_before rules p (suc (length (args_of rules.ops p))) + (o.slot - attrs_here rules p)

pub number_attr : (rules : Rules) (p k a : ℕ) → a < attr_count rules (phylum_there rules.ops p k) → vertex rules p (occurrence k a) ≡ attrs_before rules p k + a
number_attr rules p zero a low =
    let here : a < attrs_here rules p = omega (arith, low) in
    cond-false (nat_eq 0 0 && nat_le (attrs_here rules p) a) (attrs_before rules p (suc (length (args_of rules.ops p))) + (a - attrs_here rules p)) (attrs_before rules p 0 + a)
    (and_right (nat_eq 0 0) (nat_le (attrs_here rules p) a) (lt-leb (attrs_here rules p) a here))
number_attr rules p (suc k) a low =
    cond-false (nat_eq (suc k) 0 && nat_le (attrs_here rules p) a) (attrs_before rules p (suc (length (args_of rules.ops p))) + (a - attrs_here rules p)) (attrs_before rules p (suc k) + a)
    (and_left (nat_eq (suc k) 0) (nat_le (attrs_here rules p) a) (eqb-suc-zero k))

pub number_local : (rules : Rules) (p a : ℕ) → attrs_here rules p ≤ a → vertex rules p (occurrence 0 a) ≡ attrs_before rules p (suc (length (args_of rules.ops p))) + (a - attrs_here rules p)
number_local rules p a past =
    cond-true (nat_eq 0 0 && nat_le (attrs_here rules p) a) (attrs_before rules p (suc (length (args_of rules.ops p))) + (a - attrs_here rules p)) (attrs_before rules p 0 + a)
    (and_from (nat_eq 0 0) (nat_le (attrs_here rules p) a) refl (le-leb (attrs_here rules p) a past))

split_at : (rules : Rules) (p k a : ℕ) → IsVertex rules p (occurrence k a) → IsAt rules p (occurrence k a) ⊎ IsLocal rules p (occurrence k a)
split_at rules p zero a is = elim (cases_lt a (attr_count rules (phylum_there rules.ops p zero))) [
  | inl low ↦ inl (record { slot = low; number = number_attr rules p zero a low })
  | inr past ↦ let far : attrs_here rules p ≤ a = omega (arith, past) in inr (record { at = refl; past = far; under = omega (arith, is); number = number_local rules p a far })
]
split_at rules p (suc k) a is = let low : a < attr_count rules (phylum_there rules.ops p (suc k)) = omega (arith, is) in inl (record { slot = low; number = number_attr rules p (suc k) a low })

pub split_vertex : (rules : Rules) (p : ℕ) (o : Occurrence) → IsVertex rules p o → IsAt rules p o ⊎ IsLocal rules p o
split_vertex rules p o is = split_at rules p o.at o.slot is

pub attr_there : (rules : Rules) (p k a : ℕ) → a < attr_count rules (phylum_there rules.ops p k) → k < suc (length (args_of rules.ops p))
attr_there rules p zero a low = omega arith
attr_there rules p (suc k) a low = elim (cases_lt k (length (args_of rules.ops p))) [
  | inl inside ↦ omega (arith, inside)
  | inr past ↦ absurd (let none : attr_count rules (phylum_there rules.ops p (suc k)) ≡ 0 = ap (attr_count rules) (slice_get_past (args_of rules.ops p) k past) in omega (arith, low, none))
]

-- what has an attribute is there
pub record HasAttr (rules : Rules) (o : Option ℕ) (a : ℕ) : Type 0 where
  pub phylum : ℕ
  pub is : o ≡ Some phylum
  pub attr : IsAttr rules phylum a

pub some_attr : (rules : Rules) (o : Option ℕ) (a : ℕ) → a < attr_count rules o → HasAttr rules o a
some_attr rules None a low = absurd (omega (arith, low))
some_attr rules (Some X) a low = record { phylum = X; is = refl; attr = low }

pub vertex_there : (rules : Rules) (p : ℕ) (o : Occurrence) → IsVertex rules p o → o.at < suc (length (args_of rules.ops p))
vertex_there rules p o is = elim (split_vertex rules p o is) [
  | inl at ↦ attr_there rules p o.at o.slot at.slot
  | inr local ↦ let h = local.at in omega (arith, h)
]

pub attrs_under : (rules : Rules) (p k : ℕ) → k < suc (length (args_of rules.ops p)) → attrs_before rules p k + attr_count rules (phylum_there rules.ops p k) ≤ attrs_before rules p (suc (length (args_of rules.ops p)))
attrs_under rules p k low = attrs_before-le rules p (suc k) (suc (length (args_of rules.ops p))) (omega (arith, low))

pub vertex_under : (rules : Rules) (p : ℕ) (o : Occurrence) → IsVertex rules p o → vertex rules p o < vertices rules p
vertex_under rules p o is = elim (split_vertex rules p o is) [
  | inl at ↦ let n = at.number in let s = at.slot in let u = attrs_under rules p o.at (attr_there rules p o.at o.slot at.slot) in omega (arith, n, s, u)
  | inr local ↦ let n = local.number in let s = local.under in let t = local.past in omega (arith, n, s, t)
]

-- equal numbers are of one vertex
same_attr : (rules : Rules) (p j a k b : ℕ) → a < attr_count rules (phylum_there rules.ops p j) → b < attr_count rules (phylum_there rules.ops p k) → attrs_before rules p j + a ≡ attrs_before rules p k + b → (j ≡ k) × (a ≡ b)
same_attr rules p j a k b low high e = elim (cases_order j k) [
  | inl same ↦ let f : attrs_before rules p j ≡ attrs_before rules p k = ap (attrs_before rules p) same in (same, omega (arith, e, f))
  | inr (inl under) ↦ absurd (let g = attrs_before-le rules p (suc j) k (omega (arith, under)) in omega (arith, e, g, low))
  | inr (inr over) ↦ absurd (let g = attrs_before-le rules p (suc k) j (omega (arith, over)) in omega (arith, e, g, high))
]

same_occurrence : (u v : Occurrence) → u.at ≡ v.at → u.slot ≡ v.slot → u ≡ v
same_occurrence u v e f = ap (λ k. occurrence k u.slot) e ∙ ap (λ a. occurrence v.at a) f

before_locals : (rules : Rules) (p : ℕ) (u v : Occurrence) → IsAt rules p u → IsLocal rules p v → vertex rules p u < vertex rules p v
before_locals rules p u v at local =
    let n = at.number in let s = at.slot in let m = local.number in
    let g = attrs_under rules p u.at (attr_there rules p u.at u.slot at.slot) in omega (arith, n, s, m, g)

pub same_vertex : (rules : Rules) (p : ℕ) (u v : Occurrence) → IsVertex rules p u → IsVertex rules p v → vertex rules p u ≡ vertex rules p v → u ≡ v
same_vertex rules p u v is are e = elim (split_vertex rules p u is) [
  | inl at ↦ elim (split_vertex rules p v are) [
    | inl there ↦ let s = same_attr rules p u.at u.slot v.at v.slot at.slot there.slot (sym at.number ∙ e ∙ there.number) in same_occurrence u v s.0 s.1
    | inr local ↦ absurd (let l = before_locals rules p u v at local in omega (arith, e, l))
  ]
  | inr local ↦ elim (split_vertex rules p v are) [
    | inl there ↦ absurd (let l = before_locals rules p v u there local in omega (arith, e, l))
    | inr other ↦
        let n = local.number in let m = other.number in let s = local.past in let t = other.past in
        same_occurrence u v (local.at ∙ sym other.at) (omega (arith, n, m, s, t, e))
  ]
]

-- a frame tells them
pub spot_there : (rules : Rules) (p k : ℕ) (d : Spot) → k < suc (length (args_of rules.ops p)) → get_or (spots_of rules p) k d ≡ spot_of rules p k
unfolding spots_of
spot_there rules p k d low = get_or-map-below (spot_of rules p) (suc (length (args_of rules.ops p))) k d low

pub spots_count : (rules : Rules) (p : ℕ) → length (spots_of rules p) ≡ suc (length (args_of rules.ops p))
unfolding spots_of
spots_count rules p = length-map-below (spot_of rules p) (suc (length (args_of rules.ops p)))

number_by : ℕ → Occurrence → ℕ → ℕ → ℕ
number_by locals o here first = cond (nat_eq o.at 0 && nat_le here o.slot) (locals + (o.slot - here)) (first + o.slot)

pub number_in-frame_of : (rules : Rules) (p : ℕ) (o : Occurrence) → IsVertex rules p o → number_in (frame_of rules p) o ≡ vertex rules p o
unfolding number_by
number_in-frame_of rules p o is =
    let zeroth : (spot_at (spots_of rules p) 0).attrs ≡ attr_count rules (phylum_there rules.ops p 0) = ap (λ (s : Spot). s.attrs) (spot_there rules p 0 no_spot (omega arith)) in
    let here : (spot_at (spots_of rules p) 0).attrs ≡ attrs_here rules p = omega (arith, zeroth) in
    let first : (spot_at (spots_of rules p) o.at).first ≡ attrs_before rules p o.at = ap (λ (s : Spot). s.first) (spot_there rules p o.at no_spot (vertex_there rules p o is)) in
    let locals = attrs_before rules p (suc (length (args_of rules.ops p))) in
    ap (λ x. number_by locals o x (spot_at (spots_of rules p) o.at).first) here ∙ ap (λ y. number_by locals o (attrs_here rules p) y) first

pub frame_there : (rules : Rules) (p : ℕ) (d : Frame) → p < length rules.ops → get_or (frames_of rules) p d ≡ frame_of rules p
unfolding frames_of
frame_there rules p d low = get_or-map-below (frame_of rules) (length rules.ops) p d low

pub frames_count : (rules : Rules) → length (frames_of rules) ≡ length rules.ops
unfolding frames_of
frames_count rules = length-map-below (frame_of rules) (length rules.ops)
