-- The phyla of the longer table: leaves and the root bear no far attribute, and the types of far attributes may be used.
use Rattle.std.proofs.Common.{◌≡◌, ◌≢◌, ◌⊎◌, inl, inr, ℕ, zero, suc, ◌<◌, ◌≤◌, true, false, not, ◌&&◌, nat_eq, bytes_eq, List, [], ◌∷◌, ◌++◌, length, Option, Some, None, option_map, unwrap_or, slice_get, refl, sym, ap, subst, ◌∙◌, arith}
use Rattle.std.specs.Prelude.{IsTrue}
use Rattle.std.specs.List.{AllByRecursion as Each, All, Contains}
use Rattle.std.proofs.lemmas.Bool.{cases_lt}
use Rattle.std.proofs.lemmas.List.Elements.{All-from_recursion, Contains-append_left, Contains-push}
use Rattle.std.proofs.lemmas.Option.{slice_get_within}
use Rattle.sg_kinds.specs.Instances.{below}
use Rattle.sg_kinds.specs.Sound.{HasShapes, IsShaped, is_operator_of, operators_of}
use Rattle.sg_kinds.specs.Specification.{attrs_of, phylum_of, has_shape, is_leaf_shape, is_lexical_shape}
use Rattle.sg_kinds.specs.Typing.{is_usable, whitespace}
use Rattle.sg_kinds.specs.declared.marks.Shape.{Shape}
use Rattle.sg_kinds.specs.declared.marks.Shape.TheVariants.{Truths, Numbers, Texts, Lexemes}
use Rattle.sg_kinds.specs.declared.spec.Attr.{Attr}
use Rattle.sg_kinds.specs.declared.spec.Far.{Far}
use Rattle.sg_kinds.specs.declared.spec.Operator.{Operator}
use Rattle.sg_kinds.specs.declared.spec.Phylum.{Phylum}
use Rattle.sg_kinds.specs.declared.spec.Spec.{Spec}
use Rattle.sg_kinds.proofs.Elementary.{eq_true}
use Rattle.sg_ast.specs.Declarations.{Decl}
use Rattle.sg_names.specs.Drafted.{drafted}
use Rattle.sg_names.specs.More.{with_more}
use Rattle.sg_names.specs.declared.table.Table.{Table}
use Rattle.sg_remote.specs.Atoms.{atoms}
use Rattle.sg_remote.specs.Bearing.{Bears, uses, passes, IsOpen, root, argument}
use Rattle.sg_remote.specs.Longer.{far_type}
use Rattle.sg_remote.specs.NoEnclosing.{IsBare, IsNoEnclosing, all_enclosed, some_bare}
use Rattle.sg_remote.specs.declared.atoms.Atom.{Atom}
use Rattle.sg_remote.proofs.Borne.{bears_only}
use Rattle.sg_remote.proofs.Knowing.{same_list}
use Rattle.sg_remote.proofs.Members.{place_of}
use Rattle.sg_load.proofs.FarAttrs.{far_attrs, far_there, in_filter, long, short}
use Rattle.sg_load.proofs.FarLists.{IsLegal, IsOfType}
use Rattle.sg_load.proofs.LongerShapes.{with_phyla}

-- the numbers below one
in_below : (n k : ℕ) → k < n → Contains (below n) k
in_below zero k low = absurd (omega (arith, low))
in_below (suc n) k low = by (cases_lt k n) (in_below n k)
  where
    by : (k < n) ⊎ (n ≤ k) → (k < n → Contains (below n) k) → Contains (below n ++ n ∷ []) k
    by (inl less) rest = Contains-append_left (below n) (n ∷ []) k (rest less)
    by (inr most) rest = let same : n ≡ k = omega (arith, low, most) in subst (Contains (below n ++ n ∷ [])) same (Contains-push (below n) n)

-- a phylum that bears a far attribute has an operator
operator_of : (t : Table) (ds : List Decl) (fs : List Far) (p : ℕ) → Bears t ds fs p → (op : ℕ) × (phylum_of t.ops op ≡ Some p)
operator_of t ds fs p (uses a q c same left) = (a.op, left)
operator_of t ds fs p (passes op q k left unlisted arg more) = (op, left)

op_within : (ops : List Operator) (op p : ℕ) → phylum_of ops op ≡ Some p → op < length ops
op_within ops op p left = by (slice_get ops op) refl left
  where
    by : (o : Option Operator) → slice_get ops op ≡ o → option_map (λ (x : Operator). x.phylum) o ≡ Some p → op < length ops
    by None at e = absurd (cc e)
    by (Some o) at e = slice_get_within ops op o at

leaf_bare : (spec : Spec) (p : ℕ) (x : Phylum) (s : Shape) → is_leaf_shape s ≡ true → IsShaped spec p x s → x.ops ≡ []
leaf_bare spec p x Truths e h = h.0
leaf_bare spec p x Numbers e h = h.0
leaf_bare spec p x Texts e h = h.0
leaf_bare spec p x (Lexemes l) e h = h.0
leaf_bare spec p x s e h = absurd (cc e)

no_leaf : (s : Shape) → is_leaf_shape s ≡ false → is_lexical_shape s ≡ false
no_leaf (Lexemes l) e = absurd (cc e)
no_leaf s e = refl

-- a phylum with operators may be used
inner_used : (spec : Spec) (p : ℕ) (x : Phylum) → slice_get spec.phyla p ≡ Some x → has_shape spec.phyla is_leaf_shape p ≡ false → is_usable spec p ≡ true
inner_used spec p x at inner =
    let leaf : is_leaf_shape x.shape ≡ false = sym (ap (λ o. unwrap_or (option_map (λ (y : Phylum). is_leaf_shape y.shape) o) false) at) ∙ inner in
    ap (λ o. unwrap_or (option_map (λ (y : Phylum). not (is_lexical_shape y.shape && bytes_eq y.name whitespace)) o) false) at
    ∙ ap (λ b. not (b && bytes_eq x.name whitespace)) (no_leaf x.shape leaf)

-- the phylum of an attribute
phylum_there : (phyla : List Phylum) (p s : ℕ) (a : Attr) → slice_get (attrs_of phyla p) s ≡ Some a → (x : Phylum) × (slice_get phyla p ≡ Some x) × (slice_get x.attrs s ≡ Some a)
phylum_there phyla p s a at = by (slice_get phyla p) at
  where
    by : (o : Option Phylum) → slice_get (unwrap_or (option_map (λ (x : Phylum). x.attrs) o) []) s ≡ Some a → (x : Phylum) × (o ≡ Some x) × (slice_get x.attrs s ≡ Some a)
    by None e = absurd (cc e)
    by (Some x) e = (x, refl, e)

all_at : {A : Type 0} (P : A → Type 0) (xs : List A) (k : ℕ) (x : A) → All P xs → slice_get xs k ≡ Some x → P x
all_at P [] k x all e = absurd (cc e)
all_at P (y ∷ xs) zero x all e = let same : y ≡ x = cc e in subst P same (all 0 y (omega arith))
all_at P (y ∷ xs) (suc k) x all e = all_at P xs k x (λ i d low. all (suc i) d (omega (arith, low))) e

first_typed : (t : Table) (of : ℕ) (fs : List Far) → fs ≢ [] → Each (IsOfType t of) fs → (f : Far) × IsOfType t of f
first_typed t of [] some all = absurd (some refl)
first_typed t of (f ∷ fs) some all = (f, all.0)

empty_or : {A : Type 0} (xs : List A) → ((x : A) → slice_get xs 0 ≡ Some x → ⊥) → xs ≡ []
empty_or [] none = refl
empty_or (x ∷ xs) none = absurd (none x refl)

all_from : {A : Type 0} (P : A → Type 0) (xs : List A) → ((k : ℕ) (x : A) → slice_get xs k ≡ Some x → P x) → Each P xs
all_from P [] each = tt
all_from P (x ∷ xs) each = (each 0 x refl, all_from P xs (λ k y at. each (suc k) y at))

-- openness is that of operators and the root alone
pub open_longer : (t : Table) (more : ℕ → List Attr) (fs : List Far) (p : ℕ) → IsOpen (drafted t) fs p → IsOpen (drafted (with_more t more)) fs p
open_longer t more fs p root = root
open_longer t more fs p (argument op q k left unlisted above arg) = argument op q k left unlisted (open_longer t more fs q above) arg

-- where a phylum bears a list and is open to it, some reference with that list is bare
open_bare : (t : Table) (ds : List Decl) (fs : List Far) (p : ℕ) → Bears t ds fs p → IsOpen (drafted t) fs p → (a : Atom) × Contains (atoms t ds) a × IsBare t a
open_bare t ds fs p (uses a q c same left) opens =
    (a, c, record { phylum = p; left = left; opens = subst (λ (l : List Far). IsOpen (drafted t) l p) (sym (same_list a.list fs same)) opens })
open_bare t ds fs p (passes op q k left unlisted arg more) opens = open_bare t ds fs k more (argument op p k left unlisted opens arg)

module _ (ds : List Decl) (legal : Each (λ (a : Atom). IsLegal (short ds) a.list) (atoms (short ds) ds)) (spec : Spec) (shapes : HasShapes (with_phyla spec (short ds).phyla)) (ops : (op : ℕ) → phylum_of spec.ops op ≡ phylum_of (short ds).ops op) where
  pub leaves_bare : (p : ℕ) (x : Phylum) → slice_get (short ds).phyla p ≡ Some x → is_leaf_shape x.shape ≡ true → far_attrs ds p ≡ []
  leaves_bare p x at leaf = empty_or (far_attrs ds p) none
    where
      none : (a : Attr) → slice_get (far_attrs ds p) 0 ≡ Some a → ⊥
      none a there =
          let b = far_there ds legal p 0 a there in
          let o = operator_of (short ds) ds b.list p (bears_only (short ds) ds b.list p b.up) in
          let left : phylum_of spec.ops o.0 ≡ Some p = ops o.0 ∙ o.1 in
          let s = shapes.phyla p x at in
          let own : is_operator_of (with_phyla spec (short ds).phyla) p o.0 ≡ true = ap (λ q. unwrap_or (option_map (nat_eq p) q) false) left ∙ eq_true p p refl in
          let c = in_filter (is_operator_of (with_phyla spec (short ds).phyla) p) (below (length spec.ops)) o.0 (in_below (length spec.ops) o.0 (op_within spec.ops o.0 p left)) own in
          let empty : operators_of (with_phyla spec (short ds).phyla) p ≡ [] = sym s.ops ∙ leaf_bare (with_phyla spec (short ds).phyla) p x x.shape leaf s.shape in
          let d = subst (λ (l : List ℕ). Contains l o.0) empty c in
          let low = d.1 in omega (arith, low)

  pub types_used : (p : ℕ) (x : Phylum) → slice_get (short ds).phyla p ≡ Some x → All (λ (a : Attr). IsTrue (is_usable (with_phyla spec (short ds).phyla) a.of)) (far_attrs ds p)
  types_used p x at = All-from_recursion (λ (a : Attr). IsTrue (is_usable (with_phyla spec (short ds).phyla) a.of)) (far_attrs ds p)
      (all_from (λ (a : Attr). IsTrue (is_usable (with_phyla spec (short ds).phyla) a.of)) (far_attrs ds p) used)
    where
      used : (k : ℕ) (a : Attr) → slice_get (far_attrs ds p) k ≡ Some a → IsTrue (is_usable (with_phyla spec (short ds).phyla) a.of)
      used k a there =
          let b = far_there ds legal p k a there in
          let f = first_typed (short ds) (far_type (short ds).phyla b.list) b.list b.legal.some b.legal.each in
          let y = phylum_there (short ds).phyla f.0.phylum f.0.slot f.1.attr f.1.there in
          let t = all_at (λ (c : Attr). (c.of ≡ f.0.phylum) ⊎ IsTrue (is_usable (with_phyla spec (short ds).phyla) c.of)) y.0.attrs f.0.slot f.1.attr (shapes.phyla f.0.phylum y.0 y.1).types y.2 in
          let same : f.1.attr.of ≡ a.of = f.1.type ∙ ap (λ (c : Attr). c.of) b.is in
          either f.0 f.1.attr y.0 y.1 f.1.inner same t
        where
          either : (f : Far) (c : Attr) (y : Phylum) → slice_get (short ds).phyla f.phylum ≡ Some y → has_shape (short ds).phyla is_leaf_shape f.phylum ≡ false → c.of ≡ a.of
              → (c.of ≡ f.phylum) ⊎ IsTrue (is_usable (with_phyla spec (short ds).phyla) c.of) → IsTrue (is_usable (with_phyla spec (short ds).phyla) a.of)
          either f c y at inner same (inl own) = ap (is_usable (with_phyla spec (short ds).phyla)) (sym same ∙ own) ∙ inner_used (with_phyla spec (short ds).phyla) f.phylum y at inner
          either f c y at inner same (inr used) = ap (is_usable (with_phyla spec (short ds).phyla)) (sym same) ∙ used

  pub owners_there : (op p : ℕ) → phylum_of (short ds).ops op ≡ Some p → (x : Phylum) × (slice_get (short ds).phyla p ≡ Some x)
  owners_there op p left = by (slice_get spec.ops op) refl (ops op ∙ left)
    where
      there : (p : ℕ) → p < length (short ds).phyla → (x : Phylum) × (slice_get (short ds).phyla p ≡ Some x)
      there p low = from (short ds).phyla p low
        where
          from : (xs : List Phylum) (k : ℕ) → k < length xs → (x : Phylum) × (slice_get xs k ≡ Some x)
          from [] k low = absurd (omega (arith, low))
          from (x ∷ xs) zero low = (x, refl)
          from (x ∷ xs) (suc k) low = from xs k (omega (arith, low))

      by : (o : Option Operator) → slice_get spec.ops op ≡ o → option_map (λ (x : Operator). x.phylum) o ≡ Some p → (x : Phylum) × (slice_get (short ds).phyla p ≡ Some x)
      by None at e = absurd (cc e)
      by (Some o) at e = let same : o.phylum ≡ p = cc e in there p (subst (λ q. q < length (short ds).phyla) same (all_at (λ (y : Operator). y.phylum < length (short ds).phyla) spec.ops op o shapes.ops at))

-- the root bears none where no reference is bare
pub root_bare : (ds : List Decl) → Each (λ (a : Atom). IsLegal (short ds) a.list) (atoms (short ds) ds) → atoms (long ds) ds ≡ atoms (short ds) ds → IsNoEnclosing (long ds) ds None → far_attrs ds (short ds).root ≡ []
root_bare ds legal same enclosed = empty_or (far_attrs ds (short ds).root) none
  where
    no_bare : IsNoEnclosing (long ds) ds None → (a : Atom) → Contains (atoms (short ds) ds) a → IsBare (long ds) a → ⊥
    no_bare (all_enclosed all e) a c bare = let k = place_of (atoms (short ds) ds) a c in all k.0 a (ap (λ (l : List Atom). slice_get l k.0) same ∙ k.1) bare
    no_bare (some_bare k b at bare before e) a c other = absurd (cc e)

    none : (a : Attr) → slice_get (far_attrs ds (short ds).root) 0 ≡ Some a → ⊥
    none a there =
        let b = far_there ds legal (short ds).root 0 a there in
        let o = open_bare (short ds) ds b.list (short ds).root (bears_only (short ds) ds b.list (short ds).root b.up) root in
        no_bare enclosed o.0 o.1 (record { phylum = o.2.phylum; left = o.2.left; opens = open_longer (short ds) (far_attrs ds) o.0.list o.2.phylum o.2.opens })
