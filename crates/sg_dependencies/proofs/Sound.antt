-- What a round adds is dependencies.
use Rattle.std.specs.Prelude.{◌≡◌, ℕ, suc, ◌+◌, ◌<◌, Bool, List, [], ◌∷◌, length, Some, unwrap_or, Contains}
use Rattle.std.proofs.Common.{sym, ◌∙◌, ap, subst, get_or, arith}
use Rattle.std.proofs.lemmas.List.Elements.{All-contains}
use Rattle.sg_sets.specs.Rows.{Holds}
use Rattle.sg_sets.specs.Paths.{Leads, Path}
use Rattle.sg_kinds.specs.declared.spec.Rules.{Rules}
use Rattle.sg_kinds.specs.declared.spec.Rule.{Rule}
use Rattle.sg_kinds.specs.declared.spec.Occurrence.{Occurrence}
use Rattle.sg_kinds.specs.Specification.{args_of}
use Rattle.sg_kinds.specs.Instances.{attr_count}
use Rattle.sg_kinds.specs.Dependencies.{phylum_there, IsAttr, occurrence, Direct, InOperator, Chain, InPhylum, direct, induced, one, more, joined}
use Rattle.sg_kinds.specs.Visits.{vertex}
use Rattle.sg_dependencies.specs.Vertices.{IsVertex, AreInRange, Numbered}
use Rattle.sg_dependencies.specs.Frames.{Spot, spot_of, spots_of}
use Rattle.sg_dependencies.specs.Induced.{relation_at}
use Rattle.sg_dependencies.specs.Rounds.{IsSpread, IsJoined}
use Rattle.sg_dependencies.proofs.Numbers.{number_attr, some_attr, same_vertex, spot_there, spots_count}

-- what is related are vertices
pub record AreVertices (rules : Rules) (p : ℕ) (u v : Occurrence) : Type 0 where
  pub from : IsVertex rules p u
  pub to : IsVertex rules p v

pub attr_vertex : (rules : Rules) (p k X a : ℕ) → phylum_there rules.ops p k ≡ Some X → IsAttr rules X a → IsVertex rules p (occurrence k a)
attr_vertex rules p k X a is attr =
    let count : attr_count rules (phylum_there rules.ops p k) ≡ attr_count rules (Some X) = ap (attr_count rules) is in
    omega (arith, count, attr)

pub direct_vertices : (rules : Rules) → AreInRange rules → (p : ℕ) (u v : Occurrence) → Direct rules p u v → AreVertices rules p u v
direct_vertices rules ranges p u v d = record {
  from = subst (λ q. IsVertex rules q u) d.of_operator (All-contains (IsVertex rules d.rule.op) d.rule.args u (All-contains (λ (r : Rule). (k : ℕ) (e : Occurrence) → k < length r.args → IsVertex rules r.op (get_or r.args k e)) rules.rules d.rule ranges.equations.args d.stands) d.names);
  to = subst (λ q. IsVertex rules q v) d.of_operator (subst (IsVertex rules d.rule.op) d.target (All-contains (λ (r : Rule). IsVertex rules r.op r.target) rules.rules d.rule ranges.equations.targets d.stands));
}

pub phylum_attrs : (rules : Rules) (X a b : ℕ) → InPhylum rules X a b → IsAttr rules X a × IsAttr rules X b
phylum_attrs rules _ _ _ (joined p k X a b is m n c) = (m, n)

pub operator_vertices : (rules : Rules) → AreInRange rules → (p : ℕ) (u v : Occurrence) → InOperator rules p u v → AreVertices rules p u v
operator_vertices rules ranges _ _ _ (direct p u v d) = direct_vertices rules ranges p u v d
operator_vertices rules ranges _ _ _ (induced p k X a b is s) =
    let attrs = phylum_attrs rules X a b s in
    record { from = attr_vertex rules p k X a is attrs.0; to = attr_vertex rules p k X b is attrs.1 }

-- a path of numbers is a chain of vertices
path_chain : (rules : Rules) → AreInRange rules → (p : ℕ) (rows : List (List Bool)) → ((m n : ℕ) → Holds rows m n → Numbered rules p (InOperator rules p) m n)
    → (via : List ℕ) (m n : ℕ) → Leads (Holds rows) m via n → (u v : Occurrence) → IsVertex rules p u → IsVertex rules p v → vertex rules p u ≡ m → vertex rules p v ≡ n → Chain rules p u v
path_chain rules ranges p rows sound [] m n leads u v is_u is_v u_is v_is =
    let s = sound m n leads in
    let w = operator_vertices rules ranges p s.from s.to s.related in
    let from : s.from ≡ u = same_vertex rules p s.from u w.from is_u (s.from_number ∙ sym u_is) in
    let to : s.to ≡ v = same_vertex rules p s.to v w.to is_v (s.to_number ∙ sym v_is) in
    one p u v (subst (λ o. InOperator rules p o v) from (subst (λ o. InOperator rules p s.from o) to s.related))
path_chain rules ranges p rows sound (x ∷ via) m n leads u v is_u is_v u_is v_is =
    let s = sound m x leads.0 in
    let w = operator_vertices rules ranges p s.from s.to s.related in
    let from : s.from ≡ u = same_vertex rules p s.from u w.from is_u (s.from_number ∙ sym u_is) in
    more p u s.to v (subst (λ o. InOperator rules p o s.to) from s.related) (path_chain rules ranges p rows sound via x n leads.1 s.to v w.to is_v s.to_number v_is)

-- a spot is an occurrence with its phylum
pub record IsSpot (rules : Rules) (p : ℕ) (s : Spot) : Type 0 where
  pub at : ℕ
  pub is : s ≡ spot_of rules p at

pub contained_spot : (rules : Rules) (p : ℕ) (spots : List Spot) (s : Spot) → spots ≡ spots_of rules p → Contains spots s → IsSpot rules p s
contained_spot rules p spots s same (k, low, at) =
    let inside : k < suc (length (args_of rules.ops p)) = omega (arith, low, ap length same, spots_count rules p) in
    record { at = k; is = sym at ∙ ap (λ xs. get_or xs k s) same ∙ spot_there rules p k s inside }

-- an attribute at a spot
pub record IsAttrAt (rules : Rules) (p : ℕ) (s : Spot) (a k : ℕ) : Type 0 where
  pub phylum : phylum_there rules.ops p k ≡ Some s.phylum
  pub attr : IsAttr rules s.phylum a
  pub vertex_is : IsVertex rules p (occurrence k a)
  pub number : vertex rules p (occurrence k a) ≡ s.first + a

pub attr_at : (rules : Rules) (p : ℕ) (s : Spot) (a k : ℕ) → s ≡ spot_of rules p k → a < s.attrs → IsAttrAt rules p s a k
attr_at rules p s a k is low =
    let under : a < attr_count rules (phylum_there rules.ops p k) = omega (arith, low, ap (λ (x : Spot). x.attrs) is) in
    let has = some_attr rules (phylum_there rules.ops p k) a under in
    let same : s.phylum ≡ has.phylum = ap (λ (x : Spot). x.phylum) is ∙ ap (λ o. unwrap_or o 0) has.is in
    record {
      phylum = has.is ∙ ap (λ X. Some X) (sym same);
      attr = subst (λ X. IsAttr rules X a) (sym same) has.attr;
      vertex_is = omega (arith, under);
      number = number_attr rules p k a under ∙ ap (λ n. n + a) (sym (ap (λ (x : Spot). x.first) is));
    }

pub spread_sound : (rules : Rules) (p : ℕ) (spots : List Spot) (phyla : List (List (List Bool))) → spots ≡ spots_of rules p → ((X a b : ℕ) → Holds (relation_at phyla X) a b → InPhylum rules X a b)
    → (m n : ℕ) → IsSpread spots phyla m n → Numbered rules p (InOperator rules p) m n
spread_sound rules p spots phyla same sound m n is =
    let s = contained_spot rules p spots is.spot same is.stands in
    let placed = is.placed in
    let from = attr_at rules p is.spot placed.a s.at s.is placed.a_there in
    let to = attr_at rules p is.spot placed.b s.at s.is placed.b_there in
    record {
      from = occurrence s.at placed.a;
      to = occurrence s.at placed.b;
      related = induced p s.at is.spot.phylum placed.a placed.b from.phylum (sound is.spot.phylum placed.a placed.b placed.related);
      from_number = from.number ∙ sym placed.from;
      to_number = to.number ∙ sym placed.to;
    }

pub joined_sound : (rules : Rules) → AreInRange rules → (p : ℕ) (spots : List Spot) (rows : List (List Bool)) → spots ≡ spots_of rules p → ((m n : ℕ) → Holds rows m n → Numbered rules p (InOperator rules p) m n)
    → (X a b : ℕ) → IsJoined spots (Path (Holds rows)) X a b → InPhylum rules X a b
joined_sound rules ranges p spots rows same sound X a b is =
    let s = contained_spot rules p spots is.spot same is.stands in
    let met = is.met in
    let from = attr_at rules p is.spot a s.at s.is met.a_there in
    let to = attr_at rules p is.spot b s.at s.is met.b_there in
    subst (λ Y. InPhylum rules Y a b) is.phylum
    (joined p s.at is.spot.phylum a b from.phylum from.attr to.attr
    (path_chain rules ranges p rows sound met.related.0 (is.spot.first + a) (is.spot.first + b) met.related.1 (occurrence s.at a) (occurrence s.at b) from.vertex_is to.vertex_is from.number to.number))
