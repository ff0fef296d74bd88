-- What the first cycle of rows of bits says of the relations that they hold.
use Rattle.std.specs.Prelude.{◌≡◌, ℕ, ◌<◌, Bool, List, [], ◌∷◌, length}
use Rattle.std.proofs.Common.{subst, arith}
use Rattle.sg_sets.specs.Rows.{Holds}
use Rattle.sg_sets.specs.Paths.{Path}
use Rattle.sg_sets.specs.Cycles.{HasNoCycle}
use Rattle.sg_sets.proofs.CyclesLemmas.{IsCycle-wider, StartsLeast-narrower, IsShortest-narrower, IsLeast-narrower}
use Rattle.sg_sets.proofs.PathsLemmas.{Path-append}
use Rattle.sg_kinds.specs.declared.spec.Rules.{Rules}
use Rattle.sg_kinds.specs.declared.spec.Occurrence.{Occurrence}
use Rattle.sg_dependencies.specs.Ordered as order
use Rattle.sg_dependencies.specs.Ordered.{Leads, IsAcyclic}
use Rattle.sg_kinds.specs.Visits.{vertex}
use Rattle.sg_dependencies.specs.Vertices.{Numbered, AreRowsOf}
use Rattle.sg_dependencies.specs.Reported.{IsReported}
use Rattle.sg_dependencies.specs.Induced.{relation_at}
use Rattle.sg_dependencies.specs.Faults.{AreAcyclic, IsFirst}
use Rattle.sg_dependencies.specs.Rounds.{IsFirstCycle}

module _ (rules : Rules) (p : ℕ) (R : Occurrence → Occurrence → Type 0) (rows : List (List Bool)) (are : AreRowsOf rules p R rows) where
  numbered_holds : (m n : ℕ) → Numbered rules p R m n → Holds rows m n
  numbered_holds m n x = subst (λ k. Holds rows k n) x.from_number (subst (λ k. Holds rows (vertex rules p x.from) k) x.to_number (are.whole x.from x.to x.related))

  leads_path : (u v : Occurrence) → Leads R u v → Path (Holds rows) (vertex rules p u) (vertex rules p v)
  leads_path _ _ (order.one u v r) = ([], are.whole u v r)
  leads_path _ _ (order.more u v w r l) = Path-append (Holds rows) (vertex rules p u) (vertex rules p v) (vertex rules p w) ([], are.whole u v r) (leads_path v w l)

  pub acyclic_by : HasNoCycle (Holds rows) → IsAcyclic R
  acyclic_by none u l = let path = leads_path u u l in none (vertex rules p u ∷ path.0) path.1

  pub reported_by : (c : List ℕ) → IsReported (Holds rows) c → IsReported (Numbered rules p R) c
  reported_by c is = record {
    cycle = IsCycle-wider (Holds rows) (Numbered rules p R) are.sound c is.cycle;
    start = StartsLeast-narrower (Numbered rules p R) (Holds rows) numbered_holds c is.start;
    shortest = IsShortest-narrower (Numbered rules p R) (Holds rows) numbered_holds c is.shortest;
    least = IsLeast-narrower (Numbered rules p R) (Holds rows) numbered_holds c is.least;
  }

module _ (rules : Rules) (R : ℕ → Occurrence → Occurrence → Type 0) (relations : List (List (List Bool))) (long : length relations ≡ length rules.ops)
    (are : (p : ℕ) → p < length rules.ops → AreRowsOf rules p (R p) (relation_at relations p)) where
  pub all_acyclic : ((p : ℕ) → p < length relations → HasNoCycle (Holds (relation_at relations p))) → AreAcyclic rules R
  all_acyclic none p low = acyclic_by rules p (R p) (relation_at relations p) (are p low) (none p (omega (arith, long, low)))

  pub first_by : (p : ℕ) (c : List ℕ) → IsFirstCycle relations p c → IsFirst rules R p c
  first_by p c is =
      let low : p < length rules.ops = let t = is.there in omega (arith, long, t) in
      record {
        there = low;
        before = λ q under. acyclic_by rules q (R q) (relation_at relations q) (are q (omega (arith, low, under))) (is.before q under);
        cycle = reported_by rules p (R p) (relation_at relations p) (are p low) c is.cycle;
      }
