-- Where nothing is to be added, every dependency is there.
use Rattle.std.specs.Prelude.{◌≡◌, ℕ, suc, ◌+◌, ◌<◌, Bool, List, [], length, Some, unwrap_or, Contains}
use Rattle.std.proofs.Common.{sym, ap, subst, arith}
use Rattle.sg_sets.specs.Rows.{Holds}
use Rattle.sg_sets.specs.Paths.{Path}
use Rattle.sg_sets.proofs.PathsLemmas.{Path-append}
use Rattle.sg_kinds.specs.declared.spec.Rules.{Rules}
use Rattle.sg_kinds.specs.declared.spec.Occurrence.{Occurrence}
use Rattle.sg_kinds.specs.Specification.{args_of}
use Rattle.sg_kinds.specs.Instances.{attr_count}
use Rattle.sg_kinds.specs.Dependencies.{phylum_there, IsAttr, occurrence, Direct, InOperator, InPhylum, direct, induced}
use Rattle.sg_kinds.specs.Visits.{attrs_before, vertex}
use Rattle.sg_kinds.proofs.Least.{least_in_phylum}
use Rattle.sg_dependencies.specs.Vertices.{AreInRange}
use Rattle.sg_dependencies.specs.Frames.{spot_of, spots_of}
use Rattle.sg_dependencies.specs.Induced.{relation_at}
use Rattle.sg_dependencies.specs.Rounds.{IsSettled}
use Rattle.sg_dependencies.proofs.Numbers.{number_attr, attr_there, spot_there, spots_count}
use Rattle.sg_dependencies.proofs.Directs.{op_there}

module _ (rules : Rules) (ranges : AreInRange rules) (operators phyla : List (List (List Bool)))
    (has_direct : (p : ℕ) (u v : Occurrence) → Direct rules p u v → Holds (relation_at operators p) (vertex rules p u) (vertex rules p v))
    (settled : (p : ℕ) → p < length rules.ops → IsSettled (spots_of rules p) (relation_at operators p) phyla) where
  abbrev Leading : ℕ → Occurrence → Occurrence → Type 0
  Leading p u v = Path (Holds (relation_at operators p)) (vertex rules p u) (vertex rules p v)

  record Related (X a b : ℕ) : Type 0 where
    from : IsAttr rules X a
    to : IsAttr rules X b
    holds : Holds (relation_at phyla X) a b

  record SpotOf (p k X : ℕ) : Type 0 where
    op : p < length rules.ops
    stands : Contains (spots_of rules p) (spot_of rules p k)
    phylum : unwrap_or (phylum_there rules.ops p k) 0 ≡ X
    attrs : attr_count rules (phylum_there rules.ops p k) ≡ attr_count rules (Some X)

  spot_is : (p k X a : ℕ) → phylum_there rules.ops p k ≡ Some X → IsAttr rules X a → SpotOf p k X
  spot_is p k X a is attr =
      let count : attr_count rules (phylum_there rules.ops p k) ≡ attr_count rules (Some X) = ap (attr_count rules) is in
      let low : k < suc (length (args_of rules.ops p)) = attr_there rules p k a (omega (arith, count, attr)) in
      record {
        op = op_there rules p (occurrence k a) (omega (arith, count, attr));
        stands = (k, omega (arith, low, spots_count rules p), spot_there rules p k (spot_of rules p k) low);
        phylum = ap (λ o. unwrap_or o 0) is;
        attrs = count;
      }

  number_is : (p k X a : ℕ) → phylum_there rules.ops p k ≡ Some X → IsAttr rules X a → vertex rules p (occurrence k a) ≡ attrs_before rules p k + a
  number_is p k X a is attr = let count : attr_count rules (phylum_there rules.ops p k) ≡ attr_count rules (Some X) = ap (attr_count rules) is in number_attr rules p k a (omega (arith, count, attr))

  spread_whole : (p k X a b : ℕ) → phylum_there rules.ops p k ≡ Some X → Related X a b → Holds (relation_at operators p) (vertex rules p (occurrence k a)) (vertex rules p (occurrence k b))
  spread_whole p k X a b is r =
      let s = spot_is p k X a is r.from in
      (settled p s.op).spread (vertex rules p (occurrence k a)) (vertex rules p (occurrence k b))
      (record {
        spot = spot_of rules p k;
        stands = s.stands;
        placed = record {
          a = a;
          b = b;
          a_there = let f = r.from in let c = s.attrs in omega (arith, f, c);
          b_there = let f = r.to in let c = s.attrs in omega (arith, f, c);
          related = subst (λ Y. Holds (relation_at phyla Y) a b) (sym s.phylum) r.holds;
          from = number_is p k X a is r.from;
          to = number_is p k X b is r.to;
        };
      })

  joined_whole : (p k X a b : ℕ) → phylum_there rules.ops p k ≡ Some X → IsAttr rules X a → IsAttr rules X b → Leading p (occurrence k a) (occurrence k b) → Related X a b
  joined_whole p k X a b is m n path =
      let s = spot_is p k X a is m in
      record {
        from = m;
        to = n;
        holds = (settled p s.op).joined X a b (record {
          spot = spot_of rules p k;
          stands = s.stands;
          phylum = s.phylum;
          met = record {
            a_there = let c = s.attrs in omega (arith, m, c);
            b_there = let c = s.attrs in omega (arith, n, c);
            related = subst (λ i. Path (Holds (relation_at operators p)) i (attrs_before rules p k + b)) (number_is p k X a is m) (subst (λ j. Path (Holds (relation_at operators p)) (vertex rules p (occurrence k a)) j) (number_is p k X b is n) path);
          };
        });
      }

  related : (X a b : ℕ) → InPhylum rules X a b → Related X a b
  related = least_in_phylum rules Leading Related (λ p u v d. ([], has_direct p u v d)) (λ p u v w f g. Path-append (Holds (relation_at operators p)) _ _ _ f g) (λ p k X a b is r. ([], spread_whole p k X a b is r)) joined_whole

  pub phylum_whole : (X a b : ℕ) → InPhylum rules X a b → Holds (relation_at phyla X) a b
  phylum_whole X a b i = (related X a b i).holds

  pub operator_whole : (p : ℕ) (u v : Occurrence) → InOperator rules p u v → Holds (relation_at operators p) (vertex rules p u) (vertex rules p v)
  operator_whole _ _ _ (direct p u v d) = has_direct p u v d
  operator_whole _ _ _ (induced p k X a b is i) = spread_whole p k X a b is (related X a b i)
