-- The layers of one phylum after another.
use Rattle.std.specs.Prelude.{◌≡◌, ℕ, ◌+◌, ◌*◌, ◌<◌, ◌≤◌, ◌^◌, Bool, List, [], ◌∷◌, ◌++◌, length, slice_index, option_map, unwrap_or}
use Rattle.std.proofs.Common.{refl, sym, ap, ◌∙◌, subst, get_or, arith, length-append}
use Rattle.std.proofs.lemmas.List.{get_or_default}
use Rattle.std.proofs.lemmas.Option.{slice_get_read}
use Rattle.sg_kinds.specs.declared.spec.Rules.{Rules}
use Rattle.sg_kinds.specs.declared.spec.Phylum.{Phylum}
use Rattle.sg_kinds.specs.Specification.{attrs_of}
use Rattle.sg_kinds.specs.Dependencies.{InOperator}
use Rattle.sg_kinds.specs.Layers.{IsLayering}
use Rattle.sg_kinds.specs.Visits.{row_at}
use Rattle.sg_dependencies.specs.declared.dependencies.Dependencies.{Dependencies}
use Rattle.sg_dependencies.specs.Faults.{AreAcyclic}
use Rattle.sg_dependencies.specs.Induced.{relation_at, AreInduced}
use Rattle.sg_dependencies.specs.Vertices.{AreInRange}
use Rattle.sg_dependencies.proofs.Ranges.{attrs_small}
use Rattle.sg_orders.specs.Layerings.{AreLayerings}
use Rattle.sg_orders.specs.LeastLayers.{AreLeastLayers}
use Rattle.sg_orders.specs.StrictOrders.{IsStrictOrder}
use Rattle.sg_orders.proofs.Layered.{strict_order, layering_by}
use Rattle.sg_orders.proofs.Pushed.{push_each, row_is}

-- the layers of one phylum
pub record IsOneLayering (rules : Rules) (X : ℕ) (layers : List ℕ) : Type 0 where
  pub size : length layers ≡ length (attrs_of rules.phyla X)
  pub layering : IsLayering rules X (slice_index layers)
  pub low : (a : ℕ) → a < length (attrs_of rules.phyla X) → slice_index layers a ≤ 2 * length (attrs_of rules.phyla X)

-- those of the first i phyla
pub record LayeringsTo (rules : Rules) (layers : List (List ℕ)) (i : ℕ) : Type 0 where
  pub count : length layers ≡ i
  pub each : (X : ℕ) → X < i → IsOneLayering rules X (get_or layers X [])

pub layerings_none : (rules : Rules) (layers : List (List ℕ)) → layers ≡ [] → LayeringsTo rules layers 0
layerings_none rules layers none = record { count = ap length none; each = λ X low. absurd (omega (arith, low)) }

attrs_are : (rules : Rules) (X : ℕ) (x : Phylum) → X < length rules.phyla → x ≡ get_or rules.phyla X x → attrs_of rules.phyla X ≡ x.attrs
attrs_are rules X x low is = ap (λ o. unwrap_or (option_map (λ (y : Phylum). y.attrs) o) []) (slice_get_read rules.phyla (length rules.phyla) X x refl low is)

-- what the layers of the next phylum are found from
pub record IsNext (rules : Rules) (d : Dependencies) (i : ℕ) (x : Phylum) (rows : List (List Bool)) : Type 0 where
  pub low : i < length rules.phyla
  pub attrs : attrs_of rules.phyla i ≡ x.attrs
  pub size : length rows ≡ length x.attrs
  pub few : length x.attrs < 2 ^ 32
  pub order : IsStrictOrder rows
  pub same : rows ≡ relation_at d.phyla.items i

pub next_is : (rules : Rules) (d : Dependencies) (items : List Phylum) (i : ℕ) (x : Phylum) (rows : List (List Bool)) → AreInRange rules → AreInduced rules d → AreAcyclic rules (InOperator rules) → items ≡ rules.phyla
    → i < length items → x ≡ get_or items i x → rows ≡ get_or d.phyla.items i rows → IsNext rules d i x rows
next_is rules d items i x rows ranges induced none are low at read =
    let under : i < length rules.phyla = omega (arith, low, ap length are) in
    let attrs = attrs_are rules i x under (at ∙ ap (λ xs. get_or xs i x) are) in
    let same = read ∙ get_or_default d.phyla.items i rows [] (let c = induced.phyla in omega (arith, under, c)) in
    let exact = induced.in_phylum i under in
    record {
      low = under;
      attrs = attrs;
      size = ap length same ∙ exact.size ∙ ap length attrs;
      few = let s = attrs_small rules ranges i in omega (arith, s, ap length attrs);
      order = subst IsStrictOrder (sym same) (strict_order rules i (relation_at d.phyla.items i) exact none);
      same = same;
    }

pub layerings_more : (rules : Rules) (d : Dependencies) (layers more : List (List ℕ)) (i : ℕ) (x : Phylum) (rows : List (List Bool)) (row found : List ℕ) → AreInduced rules d → AreAcyclic rules (InOperator rules) → LayeringsTo rules layers i → IsNext rules d i x rows
    → AreLeastLayers x.attrs rows found → row ≡ found → more ≡ layers ++ row ∷ [] → LayeringsTo rules more (i + 1)
layerings_more rules d layers more i x rows row found induced none to next least made push =
    let exact = induced.in_phylum i next.low in
    let are : AreLeastLayers (attrs_of rules.phyla i) (relation_at d.phyla.items i) row = subst (AreLeastLayers (attrs_of rules.phyla i) (relation_at d.phyla.items i)) (sym made)
    (subst (λ rs. AreLeastLayers (attrs_of rules.phyla i) rs found) next.same (subst (λ xs. AreLeastLayers xs rows found) (sym next.attrs) least)) in
    record {
      count = ap length push ∙ length-append layers (row ∷ []) ∙ ap (λ n. n + 1) to.count;
      each = push_each layers more [] i row to.count push (IsOneLayering rules) to.each (record {
        size = are.count;
        layering = layering_by rules i (relation_at d.phyla.items i) exact row (strict_order rules i (relation_at d.phyla.items i) exact none) are;
        low = are.low;
      });
    }

pub layerings_all : (rules : Rules) (layers : List (List ℕ)) (i : ℕ) → LayeringsTo rules layers i → length rules.phyla ≡ i → AreLayerings rules layers
layerings_all rules layers i to end =
    let each : (X : ℕ) → X < length rules.phyla → IsOneLayering rules X (row_at layers X) = λ X low. subst (IsOneLayering rules X) (sym (row_is layers X)) (to.each X (omega (arith, low, end))) in
    record {
      count = to.count ∙ sym end;
      sizes = λ X low. (each X low).size;
      each = λ X low. (each X low).layering;
      low = λ X a low there. (each X low).low a there;
    }
