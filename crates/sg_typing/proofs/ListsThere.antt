-- The list phyla of a table whose shapes are sound have their binary operators.
use Rattle.std.proofs.Common.{◌≡◌, refl, sym, ap, subst, ◌∙◌, arith, ℕ, Bool, true, false, nat_eq, cond, List, [], ◌∷◌, length, Option, Some, None, slice_get}
use Rattle.std.specs.Prelude.{option_map, option_and_then, unwrap_or, IsTrue}
use Rattle.std.specs.List.{AllByRecursion}
use Rattle.std.proofs.lemmas.Bool.Decides.{nat_tests}
use Rattle.std.proofs.lemmas.List.Elements.{filter_passes, recursion_from_All}
use Rattle.sg_kinds.specs.Instances.{below}
use Rattle.sg_kinds.specs.Sound.{HasShapes, is_base_at, IsList, IsPair, IsShaped, is_operator_of, operators_of}
use Rattle.sg_kinds.specs.Specification.{texts, args_of, phylum_of, has_shape, is_list_shape}
use Rattle.sg_kinds.specs.declared.marks.Shape.{Shape}
use Rattle.sg_kinds.specs.declared.marks.Shape.TheVariants.{Truths, Numbers, Texts, Lexemes, Ordinary, Optional, Listed, OptionalListed}
use Rattle.sg_kinds.specs.declared.spec.Phylum.{Phylum}
use Rattle.sg_kinds.specs.declared.spec.Spec.{Spec}
use Rattle.sg_names.specs.Drafted.{HasTable}
use Rattle.sg_names.specs.declared.table.Table.{Table}
use Rattle.sg_names.proofs.DraftedLaws.{args_kept, phylum_kept}
use Rattle.sg_types.specs.Types.{list_at, pair_of}
use Rattle.sg_typing.specs.Written.{HasLists}

listed : (spec : Spec) (l : ℕ) (x : Phylum) (s : Shape) → is_list_shape s ≡ true → IsShaped spec l x s → IsList spec l x.ops
listed spec l x Listed h k = k
listed spec l x OptionalListed h k = k
listed spec l x Truths h k = cc
listed spec l x Numbers h k = cc
listed spec l x Texts h k = cc
listed spec l x (Lexemes n) h k = cc
listed spec l x Ordinary h k = cc
listed spec l x Optional h k = cc

phylum_is : (l : ℕ) (o : Option ℕ) → unwrap_or (option_map (nat_eq l) o) false ≡ true → o ≡ Some l
phylum_is l None h = cc
phylum_is l (Some p) h = let same : p ≡ l = grind (arith, nat_tests) in ap Some same

-- each list phylum is told by its shape, and STR is none
pub record ListsTold (t : Table) : Type 0 where
  pub lists : HasLists t
  pub pairs : (l : ℕ) → has_shape t.phyla is_list_shape l ≡ true → (x : ℕ × ℕ) × (list_at t l ≡ Some x)
  pub texts : has_shape t.phyla is_list_shape texts ≡ false

module _ (t : Table) (spec : Spec) (table : HasTable t spec) (shapes : HasShapes spec) where
  pair : (l : ℕ) (ops : List ℕ) (x : ℕ × ℕ) → IsList spec l ops → AllByRecursion (λ op. is_operator_of spec l op ≡ true) ops → option_and_then (λ op. option_map (λ e. (op, e)) (slice_get (args_of t.ops op) 0)) (slice_get ops 1) ≡ Some x
      → (phylum_of t.ops x.0 ≡ Some l) × (args_of t.ops x.0 ≡ x.1 ∷ l ∷ [])
  pair l [] x h all k = cc
  pair l (nil ∷ []) x h all k = cc
  pair l (nil ∷ op ∷ ops) x h all k = two ops h
    where
      args : (rs : List ℕ) → args_of spec.ops op ≡ rs → IsPair l rs → (phylum_of t.ops x.0 ≡ Some l) × (args_of t.ops x.0 ≡ x.1 ∷ l ∷ [])
      args [] is p = absurd p
      args (e ∷ []) is p = absurd p
      args (e ∷ q ∷ []) is p =
          let there : args_of t.ops op ≡ e ∷ q ∷ [] = sym (args_kept t spec table op) ∙ is in
          let found : Some (op, e) ≡ Some x = ap (λ (rs : List ℕ). option_map (λ e. (op, e)) (slice_get rs 0)) (sym there) ∙ k in
          let same : (op, e) ≡ x = cc in
          subst (λ (z : ℕ × ℕ). (phylum_of t.ops z.0 ≡ Some l) × (args_of t.ops z.0 ≡ z.1 ∷ l ∷ [])) same
          (sym (phylum_kept t spec table op) ∙ phylum_is l (phylum_of spec.ops op) all.1.0, there ∙ ap (λ m. e ∷ m ∷ []) p.1)
      args (e ∷ q ∷ r ∷ rs) is p = absurd p

      two : (ops : List ℕ) → IsList spec l (nil ∷ op ∷ ops) → (phylum_of t.ops x.0 ≡ Some l) × (args_of t.ops x.0 ≡ x.1 ∷ l ∷ [])
      two [] p = args (args_of spec.ops op) refl p.1
      two (o ∷ os) p = absurd p

  pub lists_there : HasLists t
  lists_there l x h = by (slice_get t.phyla l) refl h
    where
      listing : (y : Phylum) → slice_get t.phyla l ≡ Some y → (b : Bool) → is_list_shape y.shape ≡ b → cond b (pair_of t y) None ≡ Some x → (phylum_of t.ops x.0 ≡ Some l) × (args_of t.ops x.0 ≡ x.1 ∷ l ∷ [])
      listing y e false s k = cc
      listing y e true s k =
          let p = shapes.phyla l y (ap (λ xs. slice_get xs l) table.phyla ∙ e) in
          let all : AllByRecursion (λ op. is_operator_of spec l op ≡ true) y.ops = subst (AllByRecursion (λ op. is_operator_of spec l op ≡ true)) (sym p.ops) (recursion_from_All (λ op. is_operator_of spec l op ≡ true) (operators_of spec l) (filter_passes (is_operator_of spec l) (below (length spec.ops)))) in
          pair l y.ops x (listed spec l y y.shape s p.shape) all k

      by : (o : Option Phylum) → slice_get t.phyla l ≡ o → cond (unwrap_or (option_map (λ (y : Phylum). is_list_shape y.shape) o) false) (option_and_then (pair_of t) o) None ≡ Some x → (phylum_of t.ops x.0 ≡ Some l) × (args_of t.ops x.0 ≡ x.1 ∷ l ∷ [])
      by None e k = cc
      by (Some y) e k = listing y e (is_list_shape y.shape) refl k

  -- a list phylum has its second operator
  pair_there : (l : ℕ) (x : Phylum) → IsList spec l x.ops → (y : ℕ × ℕ) × (pair_of t x ≡ Some y)
  pair_there l x h = by x.ops refl h
    where
      second : (op : ℕ) → slice_get x.ops 1 ≡ Some op → (rs : List ℕ) → args_of spec.ops op ≡ rs → IsPair l rs → (y : ℕ × ℕ) × (pair_of t x ≡ Some y)
      second op at [] is p = absurd p
      second op at (e ∷ rs) is p =
          let first : slice_get (args_of t.ops op) 0 ≡ Some e = ap (λ qs. slice_get qs 0) (sym (args_kept t spec table op) ∙ is) in
          ((op, e), ap (option_and_then (λ op. option_map (λ e. (op, e)) (slice_get (args_of t.ops op) 0))) at ∙ ap (option_map (λ e. (op, e))) first)

      by : (ops : List ℕ) → x.ops ≡ ops → IsList spec l ops → (y : ℕ × ℕ) × (pair_of t x ≡ Some y)
      by [] is k = absurd k
      by (nil ∷ []) is k = absurd k
      by (nil ∷ op ∷ []) is k = second op (ap (λ ops. slice_get ops 1) is) (args_of spec.ops op) refl k.1
      by (nil ∷ op ∷ m ∷ ops) is k = absurd k

  -- a phylum that is a list by its shape
  shaped : (l : ℕ) → has_shape t.phyla is_list_shape l ≡ true → (x : Phylum) × (slice_get t.phyla l ≡ Some x) × (is_list_shape x.shape ≡ true)
  shaped l h = by (slice_get t.phyla l) refl h
    where
      by : (o : Option Phylum) → slice_get t.phyla l ≡ o → unwrap_or (option_map (λ (y : Phylum). is_list_shape y.shape) o) false ≡ true → (x : Phylum) × (slice_get t.phyla l ≡ Some x) × (is_list_shape x.shape ≡ true)
      by None e k = cc
      by (Some x) e k = (x, e, k)

  pair_told : (l : ℕ) → has_shape t.phyla is_list_shape l ≡ true → (y : ℕ × ℕ) × (list_at t l ≡ Some y)
  pair_told l h =
      let x = shaped l h in
      let p = shapes.phyla l x.0 (ap (λ xs. slice_get xs l) table.phyla ∙ x.1) in
      let y = pair_there l x.0 (listed spec l x.0 x.0.shape x.2 p.shape) in
      (y.0, ap (λ b. cond b (option_and_then (pair_of t) (slice_get t.phyla l)) None) h ∙ ap (option_and_then (pair_of t)) x.1 ∙ y.1)

  not_texts : (s : Shape) → is_list_shape s ≡ true → IsTrue (is_base_at texts s) → ⊥
  not_texts Listed h k = cc
  not_texts OptionalListed h k = cc
  not_texts s h k = cc

  texts_told : (b : Bool) → has_shape t.phyla is_list_shape texts ≡ b → has_shape t.phyla is_list_shape texts ≡ false
  texts_told false e = e
  texts_told true e =
      let x = shaped texts e in
      absurd (not_texts x.0.shape x.2 (shapes.phyla texts x.0 (ap (λ xs. slice_get xs texts) table.phyla ∙ x.1)).base)

  pub lists_told : ListsTold t
  lists_told = record { lists = lists_there; pairs = pair_told; texts = texts_told (has_shape t.phyla is_list_shape texts) refl }
