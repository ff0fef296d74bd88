-- The visits of layers and the positions of vertices are valid.
use Rattle.std.specs.Prelude.{◌≡◌, ℕ, suc, ◌-◌, ◌<◌, ◌^◌, max, Bool, List, [], length, map, slice_index, All}
use Rattle.std.proofs.Common.{refl, sym, ap, ◌∙◌, subst, get_or, arith}
use Rattle.std.proofs.lemmas.List.{get_or_default, get_or-map, length-map}
use Rattle.sg_sets.specs.Rows.{Holds}
use Rattle.sg_sets.proofs.CyclesLemmas.{IsCycle-wider}
use Rattle.sg_kinds.specs.declared.spec.Rules.{Rules}
use Rattle.sg_kinds.specs.declared.plans.Plans.{Plans}
use Rattle.sg_kinds.specs.Specification.{attrs_of}
use Rattle.sg_kinds.specs.Instances.{below}
use Rattle.sg_kinds.specs.Layers.{Extended}
use Rattle.sg_kinds.specs.Visits.{row_at, greatest, vertex}
use Rattle.sg_kinds.specs.ValidPlans.{pair_of, pairs, visit_of, ArePositions}
use Rattle.sg_dependencies.specs.Faults.{AreAcyclic}
use Rattle.sg_dependencies.specs.Induced.{relation_at}
use Rattle.sg_dependencies.specs.Vertices.{AreInRange}
use Rattle.sg_dependencies.proofs.Numbers.{vertex_under}
use Rattle.sg_dependencies.proofs.Ranges.{vertices_small, attrs_small}
use Rattle.sg_orders.specs.declared.ordering.Extension.{Extension}
use Rattle.sg_orders.specs.Extensions.{IsExtension}
use Rattle.sg_orders.specs.Layerings.{layer_in}
use Rattle.sg_orders.specs.Positions.{IsPlaceable, AreRising, AreAllRising}
use Rattle.sg_orders.specs.Timed.{Timing, timed, IsTiming}
use Rattle.sg_orders.specs.VisitRows.{pair_count, visits_by}
use Rattle.sg_orders.proofs.Pairs.{map_by_places}
use Rattle.sg_orders.proofs.Pushed.{row_is}
use Rattle.sg_orders.proofs.Refused.{no_cycle, extended_vertices}

module _ (rules : Rules) (ranges : AreInRange rules) (e : Extension) (is : IsExtension rules e) where
  pub placeable : AreAcyclic rules (Extended rules (layer_in e.layers.items)) → (operators : List (List (List Bool))) → operators ≡ e.operators.items → All IsPlaceable operators
  placeable none operators same k d low =
      let under : k < length rules.ops = let c = is.count in omega (arith, low, c, ap length same) in
      let rows = is.rows k under in
      let at : get_or operators k d ≡ relation_at e.operators.items k = get_or_default operators k d [] low ∙ ap (λ xs. relation_at xs k) same in
      let small = vertices_small rules ranges k in
      let size = rows.size in
      subst IsPlaceable (sym at) (record {
        small = omega (arith, small, size);
        within = λ a b h.
            let s = rows.sound a b h in
            let v = vertex_under rules k s.to (extended_vertices rules ranges (layer_in e.layers.items) k s.from s.to s.related).to in
            let n = s.to_number in
            omega (arith, v, n, size);
        acyclic = λ c cycle. no_cycle rules k (Extended rules (layer_in e.layers.items) k) (extended_vertices rules ranges (layer_in e.layers.items) k) (none k under) c (IsCycle-wider (Holds (relation_at e.operators.items k)) _ rows.sound c cycle);
      })

  pub layers_low : (layers : List (List ℕ)) → layers ≡ e.layers.items → All (λ (row : List ℕ). All (λ l. l < 2 ^ 32) row) layers
  layers_low layers same X d low a c under =
      let there : X < length rules.phyla = let n = is.layers.count in omega (arith, low, n, ap length same) in
      let row : get_or layers X d ≡ row_at e.layers.items X = get_or_default layers X d [] low ∙ ap (λ xs. get_or xs X []) same ∙ sym (row_is e.layers.items X) in
      let inside : a < length (row_at e.layers.items X) = omega (arith, under, ap length row) in
      let attr : a < length (attrs_of rules.phyla X) = let s = is.layers.sizes X there in omega (arith, inside, s) in
      let most = is.layers.low X a there attr in
      let few = attrs_small rules ranges X in
      let at : get_or (get_or layers X d) a c ≡ layer_in e.layers.items X a = ap (λ xs. get_or xs a c) row ∙ get_or_default (row_at e.layers.items X) a c 0 inside in
      omega (arith, at, most, few)

  -- the visits by the rows of layers
  visits_row : (X : ℕ) → X < length rules.phyla → row_at (map visits_by e.layers.items) X ≡ map (visit_of rules X (layer_in e.layers.items X)) (below (length (attrs_of rules.phyla X)))
  visits_row X low =
      let layers = e.layers.items in
      let row = row_at layers X in
      let there : X < length layers = let n = is.layers.count in omega (arith, low, n) in
      let size : length row ≡ length (attrs_of rules.phyla X) = is.layers.sizes X low in
      let all : pair_count row ≡ pairs rules X (layer_in layers X) = ap (λ ns. max 1 (greatest ns)) (sym (map_by_places pair_of row) ∙ ap (λ n. map (λ a. pair_of (slice_index row a)) (below n)) size) in
      row_is (map visits_by layers) X ∙ get_or-map visits_by layers X [] [] there ∙ ap visits_by (sym (row_is layers X))
      ∙ sym (map_by_places (λ l. suc (pair_count row) - pair_of l) row)
      ∙ ap (λ n. map (λ a. suc (pair_count row) - pair_of (slice_index row a)) (below n)) size
      ∙ ap (λ m. map (λ a. suc m - pair_of (slice_index row a)) (below (length (attrs_of rules.phyla X)))) all

  positions_by : (places : List (List ℕ)) (plans : Plans) → AreAllRising e.operators.items places → plans.places ≡ places → (p : ℕ) → p < length rules.ops → ArePositions rules p (layer_in e.layers.items) plans
  positions_by places plans rise same p low =
      let rows = is.rows p low in
      let r : AreRising (relation_at e.operators.items p) (row_at plans.places p) = subst (λ xs. AreRising (relation_at e.operators.items p) (row_at xs p)) (sym same) (rise.each p (let c = is.count in omega (arith, low, c))) in
      record {
        count = r.count ∙ rows.size;
        different = r.different;
        agree = λ u v d. r.rising (vertex rules p u) (vertex rules p v) (rows.whole u v d);
      }

  pub timing_by : (timing : Timing) (operators : List (List (List Bool))) → timing.visits ≡ map visits_by e.layers.items → operators ≡ e.operators.items → AreAllRising operators timing.places → IsTiming rules timing
  timing_by timing operators visits same rising =
      let rise = subst (λ xs. AreAllRising xs timing.places) same rising in
      record {
        are = record {
          layer = layer_in e.layers.items;
          visits = λ X low. record { layers = is.layers.each X low; row = ap (λ xs. row_at xs X) visits ∙ visits_row X low };
          positions = positions_by timing.places (timed timing) rise refl;
        };
        visits = ap length visits ∙ length-map e.layers.items visits_by ∙ is.layers.count;
        places = rise.count ∙ is.count;
      }
