-- The counts and the names of the phyla of the longer table.
use Rattle.std.proofs.Common.{◌≡◌, ℕ, zero, suc, ◌+◌, ◌≤◌, Bool, true, false, cond, not, List, [], ◌∷◌, ◌++◌, length, map, filter, take, None, Some, slice_get, refl, sym, ap, subst, ◌∙◌, arith}
use Rattle.std.specs.List.{AllByRecursion as Each, count_by}
use Rattle.std.proofs.lemmas.List.{length-map}
use Rattle.std.proofs.lemmas.List.Sums.{count_by-le-length, length-filter}
use Rattle.sg_kinds.specs.Far.{is_far, is_written}
use Rattle.sg_kinds.specs.Sound.{AreDistinct}
use Rattle.sg_kinds.specs.Values.{Bytes}
use Rattle.sg_kinds.specs.declared.spec.Attr.{Attr}
use Rattle.sg_kinds.specs.declared.spec.Far.{Far}
use Rattle.sg_kinds.specs.declared.spec.Phylum.{Phylum}
use Rattle.sg_ast.specs.Declarations.{Decl}
use Rattle.sg_counts.specs.Duplicates.{duplicate}
use Rattle.sg_counts.specs.Limits.{limit}
use Rattle.sg_names.specs.More.{and_attrs}
use Rattle.sg_names.specs.Names.{map_from}
use Rattle.sg_names.proofs.FarLaws.{AreWritten, attrs_written, far_count}
use Rattle.sg_resolve.proofs.Counting.{count-append}
use Rattle.sg_resolve.proofs.Limiting.{within_limits}
use Rattle.sg_resolve.proofs.ShapeLists.{each_both, each_from, each_implies}
use Rattle.sg_resolve.proofs.TableNames.{attrs_apart, attrs_counted}
use Rattle.sg_remote.specs.Atoms.{atoms}
use Rattle.sg_remote.specs.Bearing.{borne}
use Rattle.sg_remote.specs.Lists.{lists_of}
use Rattle.sg_remote.specs.Longer.{far_attr}
use Rattle.sg_remote.specs.Reach.{flag}
use Rattle.sg_remote.specs.declared.atoms.Atom.{Atom}
use Rattle.sg_load.proofs.FarAttrs.{borne_far, far_attrs, far_there, long, short}
use Rattle.sg_load.proofs.FarLists.{IsLegal}

-- elements of which none passes
none_pass : {A : Type 0} (p : A → Bool) (xs : List A) → ((k : ℕ) (x : A) → slice_get xs k ≡ Some x → p x ≡ false) → filter p xs ≡ []
none_pass p [] fails = refl
none_pass p (x ∷ xs) fails = ap (λ b. cond b (x ∷ filter p xs) (filter p xs)) (fails 0 x refl) ∙ none_pass p xs (λ k y at. fails (suc k) y at)

filter_front : {A : Type 0} (p : A → Bool) (xs ys : List A) → filter p ys ≡ [] → filter p (xs ++ ys) ≡ filter p xs
filter_front p [] ys none = none
filter_front {A} p (x ∷ xs) ys none = by (p x) (filter_front p xs ys none)
  where
    by : (b : Bool) → filter p (xs ++ ys) ≡ filter p xs → cond b (x ∷ filter p (xs ++ ys)) (filter p (xs ++ ys)) ≡ cond b (x ∷ filter p xs) (filter p xs)
    by true e = ap (λ (l : List A). x ∷ l) e
    by false e = e

not_written : (a : Attr) → is_far a ≡ true → is_written a ≡ false
not_written a far = by (is_written a) far
  where
    by : (b : Bool) → not b ≡ true → b ≡ false
    by true e = absurd (cc e)
    by false e = refl

-- the names of phyla are those of the written table
pub names_same : (more : ℕ → List Attr) (k n : ℕ) (xs : List Phylum) → map (λ (x : Phylum). x.name) (take n (map_from (and_attrs more) k xs)) ≡ map (λ (x : Phylum). x.name) (take n xs)
names_same more k zero xs = refl
names_same more k (suc n) [] = refl
names_same more k (suc n) (x ∷ xs) = ap (λ (l : List Bytes). x.name ∷ l) (names_same more (suc k) n xs)

pub all_names_same : (more : ℕ → List Attr) (k : ℕ) (xs : List Phylum) → map (λ (x : Phylum). x.name) (map_from (and_attrs more) k xs) ≡ map (λ (x : Phylum). x.name) xs
all_names_same more k [] = refl
all_names_same more k (x ∷ xs) = ap (λ (l : List Bytes). x.name ∷ l) (all_names_same more (suc k) xs)

module _ (ds : List Decl) (legal : Each (λ (a : Atom). IsLegal (short ds) a.list) (atoms (short ds) ds)) where
  none_written : (p : ℕ) → filter is_written (far_attrs ds p) ≡ []
  none_written p = none_pass is_written (far_attrs ds p) (λ k a at. not_written a (borne_far ds legal p a (far_there ds legal p k a at)))

  written_in : (x : Phylum) (p : ℕ) → filter is_written (and_attrs (far_attrs ds) p x).attrs ≡ filter is_written x.attrs
  written_in x p = filter_front is_written x.attrs (far_attrs ds p) (none_written p)

  few_far : length (lists_of (atoms (short ds) ds)) ≤ 1048576 → (p : ℕ) → length (far_attrs ds p) ≤ 1048576
  few_far few p =
      let t = short ds in
      let lists = lists_of (atoms t ds) in
      let test = λ (fs : List Far). flag (borne t (atoms t ds) fs) p in
      let made : length (far_attrs ds p) ≡ length (filter test lists) = length-map (filter test lists) (far_attr t) in
      let kept : length (filter test lists) ≡ count_by test lists = length-filter test lists in
      let low : count_by test lists ≤ length lists = count_by-le-length test lists in
      omega (arith, made, kept, low, few)

  counted_in : length (lists_of (atoms (short ds) ds)) ≤ 1048576 → (x : Phylum) → AreWritten x.attrs × ((count_by is_written x.attrs ≤ 32) × (count_by is_far x.attrs ≤ 1048576))
      → (p : ℕ) → (count_by is_written (and_attrs (far_attrs ds) p x).attrs ≤ 32) × (count_by is_far (and_attrs (far_attrs ds) p x).attrs ≤ 1048576)
  counted_in few x h p =
      let ys = far_attrs ds p in
      let front : count_by is_written (x.attrs ++ ys) ≡ count_by is_written x.attrs = sym (length-filter is_written (x.attrs ++ ys)) ∙ ap (λ (l : List Attr). length l) (written_in x p) ∙ length-filter is_written x.attrs in
      let both : count_by is_far (x.attrs ++ ys) ≡ count_by is_far x.attrs + count_by is_far ys = count-append is_far x.attrs ys in
      let none : count_by is_far x.attrs ≡ 0 = far_count x.attrs h.0 in
      let most : count_by is_far ys ≤ length ys = count_by-le-length is_far ys in
      let low : length ys ≤ 1048576 = few_far few p in
      let written : count_by is_written x.attrs ≤ 32 = h.1.0 in
      (omega (arith, front, written), omega (arith, both, none, most, low))

  pub attrs_few : length (lists_of (atoms (short ds) ds)) ≤ 1048576 → limit ds ≡ None → Each (λ (x : Phylum). (count_by is_written x.attrs ≤ 32) × (count_by is_far x.attrs ≤ 1048576)) (long ds).phyla
  attrs_few few e =
      each_from (λ (x : Phylum). (count_by is_written x.attrs ≤ 32) × (count_by is_far x.attrs ≤ 1048576)) (and_attrs (far_attrs ds)) 0 (short ds).phyla
      (each_implies (λ (x : Phylum). AreWritten x.attrs × ((count_by is_written x.attrs ≤ 32) × (count_by is_far x.attrs ≤ 1048576)))
      (λ (x : Phylum). (p : ℕ) → (count_by is_written (and_attrs (far_attrs ds) p x).attrs ≤ 32) × (count_by is_far (and_attrs (far_attrs ds) p x).attrs ≤ 1048576)) (counted_in few) (short ds).phyla
      (each_both (λ (x : Phylum). AreWritten x.attrs) (λ (x : Phylum). (count_by is_written x.attrs ≤ 32) × (count_by is_far x.attrs ≤ 1048576)) (short ds).phyla (attrs_written ds) (attrs_counted ds (within_limits ds e))))

  pub attrs_distinct : duplicate ds ≡ None → Each (λ (x : Phylum). AreDistinct (map (λ (a : Attr). a.name) (filter is_written x.attrs))) (long ds).phyla
  attrs_distinct e =
      each_from (λ (x : Phylum). AreDistinct (map (λ (a : Attr). a.name) (filter is_written x.attrs))) (and_attrs (far_attrs ds)) 0 (short ds).phyla
      (each_implies (λ (x : Phylum). AreDistinct (map (λ (a : Attr). a.name) (filter is_written x.attrs)))
      (λ (x : Phylum). (p : ℕ) → AreDistinct (map (λ (a : Attr). a.name) (filter is_written (and_attrs (far_attrs ds) p x).attrs)))
      (λ x h p. subst (λ (l : List Attr). AreDistinct (map (λ (a : Attr). a.name) l)) (sym (written_in x p)) h) (short ds).phyla (attrs_apart ds e))
