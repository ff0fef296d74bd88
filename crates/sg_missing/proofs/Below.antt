-- One number more below a bound.
use Rattle.std.proofs.Common.{◌≡◌, ℕ, suc, ◌+◌, Bool, true, false, cond, List, [], ◌∷◌, ◌++◌, map, ap, sym, append_assoc, append-nil, ◌∙◌, arith}
use Rattle.std.specs.Prelude.{filter, flat_map}
use Rattle.std.proofs.lemmas.Grind.{flat_map-append}
use Rattle.std.proofs.lemmas.List.{map-append}
use Rattle.std.proofs.lemmas.List.Elements.{filter-append}
use Rattle.sg_kinds.specs.Dependencies.{occurrence}
use Rattle.sg_kinds.specs.Instances.{below}
use Rattle.sg_names.specs.declared.table.Table.{Table}
use Rattle.sg_equations.specs.Complete.{lacks_slot}
use Rattle.sg_equations.specs.declared.targets.Defined.{Defined}
use Rattle.sg_missing.specs.Lacks.{lacking_below}

below_more : (i : ℕ) → below (i + 1) ≡ below i ++ i ∷ []
below_more i = ap below (let e : i + 1 ≡ suc i = omega arith in e)

-- the lists of the numbers below one, and that of one more
pub flat_more : {X : Type 0} (f : ℕ → List X) (i : ℕ) → flat_map f (below (i + 1)) ≡ flat_map f (below i) ++ f i
flat_more f i = ap (flat_map f) (below_more i) ∙ flat_map-append f (below i) (i ∷ []) ∙ ap (λ xs. flat_map f (below i) ++ xs) (append-nil (f i))

filter_more : (p : ℕ → Bool) (i : ℕ) (b : Bool) → p i ≡ b → filter p (below (i + 1)) ≡ filter p (below i) ++ cond b (i ∷ []) []
filter_more p i b is = ap (filter p) (below_more i) ∙ filter-append p (below i) (i ∷ []) ∙ ap (λ c. filter p (below i) ++ cond c (i ∷ []) []) is

pub lacking_more : (t : Table) (defs : List Defined) (op at i : ℕ) → lacks_slot t defs op at i ≡ true → lacking_below t defs op at (i + 1) ≡ lacking_below t defs op at i ++ occurrence at i ∷ []
lacking_more t defs op at i is =
    ap (map (occurrence at)) (filter_more (lacks_slot t defs op at) i true is) ∙ map-append (occurrence at) (filter (lacks_slot t defs op at) (below i)) (i ∷ [])

pub lacking_same : (t : Table) (defs : List Defined) (op at i : ℕ) → lacks_slot t defs op at i ≡ false → lacking_below t defs op at (i + 1) ≡ lacking_below t defs op at i
lacking_same t defs op at i is =
    ap (map (occurrence at)) (filter_more (lacks_slot t defs op at) i false is ∙ append-nil (filter (lacks_slot t defs op at) (below i)))

-- a text to which that of one number more is written
pub flat_step : {X : Type 0} (f : ℕ → List X) (i : ℕ) (xs ys zs : List X) → ys ≡ xs ++ flat_map f (below i) → zs ≡ ys ++ f i → zs ≡ xs ++ flat_map f (below (i + 1))
flat_step f i xs ys zs so_far next =
    next ∙ ap (λ l. l ++ f i) so_far ∙ append_assoc xs (flat_map f (below i)) (f i) ∙ ap (λ l. xs ++ l) (sym (flat_more f i))
