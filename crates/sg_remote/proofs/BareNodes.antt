-- The phyla that are open are those of nodes without an enclosing node of a listed phylum.
use Rattle.std.proofs.Common.{◌≡◌, ℕ, zero, suc, ◌<◌, Bool, false, not, ◌&&◌, List, [], ◌∷◌, length, get_or, Option, Some, None, slice_get, refl, sym, ap, ◌∙◌, subst, arith}
use Rattle.std.specs.Prelude.{option_map, option_and_then, unwrap_or, bytes_eq, IsTrue, MatchOption}
use Rattle.std.specs.List.{Contains, All}
use Rattle.std.proofs.lemmas.Option.{slice_get_within}
use Rattle.sg_kinds.specs.Enclosing.{near}
use Rattle.sg_kinds.specs.Far.{listed_slot}
use Rattle.sg_kinds.specs.Fits.{Fits, AllFit}
use Rattle.sg_kinds.specs.Nets.{Reference, Operation, phylum_at, label_of}
use Rattle.sg_kinds.specs.Places.{Place, child, sub}
use Rattle.sg_kinds.specs.Specification.{args_of, phylum_of, is_lexical_shape}
use Rattle.sg_kinds.specs.Sound.{HasShapes}
use Rattle.sg_kinds.specs.Terms.{Term, Terms, Leaf, Node, NoTerm, AndTerm, terms_of}
use Rattle.sg_kinds.specs.Typing.{is_usable, whitespace}
use Rattle.sg_kinds.specs.Completing.{completing}
use Rattle.sg_kinds.specs.declared.spec.Far.{Far}
use Rattle.sg_kinds.specs.declared.spec.Operator.{Operator}
use Rattle.sg_kinds.specs.declared.spec.Phylum.{Phylum}
use Rattle.sg_kinds.specs.declared.spec.Spec.{Spec}
use Rattle.sg_kinds.proofs.MadeFits.{node_fits, completing_fits}
use Rattle.sg_names.specs.Drafted.{drafted, HasTable}
use Rattle.sg_names.proofs.DraftedLaws.{args_kept, phylum_kept}
use Rattle.sg_names.specs.declared.table.Table.{Table}
use Rattle.sg_remote.specs.Bearing.{IsOpen, root, argument}
use Rattle.sg_remote.specs.NoEnclosing.{IsBare, HasBareNode}
use Rattle.sg_remote.specs.declared.atoms.Atom.{Atom}

-- the nearest node's attribute is that of the node above, where its phylum is listed, and else of the nodes above it
abbrev or_above : {X : Type 0} → Option X → Option X → Option X
or_above o other = elim o [ Some s ↦ Some s | None ↦ other ]

abbrev listed_by : Place → List Far → Option ℕ → Option (Reference Place)
listed_by u fs o = option_map (λ s. record { node = u; slot = s }) (option_and_then (listed_slot fs) o)

near_above : (spec : Spec) (t : Term) (k : ℕ) (u : Place) (fs : List Far) (p : ℕ) → phylum_at spec.ops (label_of (sub t u)) ≡ Some p → listed_slot fs p ≡ None → near spec t (k ∷ u) fs ≡ near spec t u fs
near_above spec t k u fs p at unlisted =
    ap (λ o. or_above (listed_by u fs o) (near spec t u fs)) at
    ∙ ap (λ o. or_above (option_map (λ n. record { node = u; slot = n }) o) (near spec t u fs)) unlisted

-- what is far from all listed ones is so above, and there the phylum is not listed
not_listed : (spec : Spec) (t : Term) (k : ℕ) (u : Place) (fs : List Far) (p : ℕ) → phylum_at spec.ops (label_of (sub t u)) ≡ Some p → near spec t (k ∷ u) fs ≡ None → (listed_slot fs p ≡ None) × (near spec t u fs ≡ None)
not_listed spec t k u fs p at bare = by (listed_slot fs p) refl
  where
    by : (o : Option ℕ) → listed_slot fs p ≡ o → (listed_slot fs p ≡ None) × (near spec t u fs ≡ None)
    by None is = (is, sym (near_above spec t k u fs p at is) ∙ bare)
    by (Some s) is = absurd (cc (sym (ap (λ o. or_above (listed_by u fs o) (near spec t u fs)) at ∙ ap (λ o. or_above (option_map (λ n. record { node = u; slot = n }) o) (near spec t u fs)) is) ∙ bare))

-- completing terms with another term at one place
filled : Spec → List ℕ → Terms
filled spec [] = NoTerm
filled spec (p ∷ ps) = AndTerm (completing spec p) (filled spec ps)

kids : Spec → List ℕ → ℕ → Term → Terms
kids spec [] k s = NoTerm
kids spec (p ∷ ps) zero s = AndTerm s (filled spec ps)
kids spec (p ∷ ps) (suc k) s = AndTerm (completing spec p) (kids spec ps k s)

kid_there : (spec : Spec) (ps : List ℕ) (k : ℕ) (s : Term) → k < length ps → slice_get (terms_of (kids spec ps k s)) k ≡ Some s
unfolding kids
kid_there spec [] k s low = absurd (omega (arith, low))
kid_there spec (p ∷ ps) zero s low = refl
kid_there spec (p ∷ ps) (suc k) s low = kid_there spec ps k s (omega (arith, low))

usable_in : (spec : Spec) (p : ℕ) → IsTrue (is_usable spec p) → p < length spec.phyla
usable_in spec p is = by (slice_get spec.phyla p) refl is
  where
    by : (o : Option Phylum) → slice_get spec.phyla p ≡ o → IsTrue (unwrap_or (option_map (λ (x : Phylum). not (is_lexical_shape x.shape && bytes_eq x.name whitespace)) o) false) → p < length spec.phyla
    by None at is = absurd (cc is)
    by (Some x) at is = slice_get_within spec.phyla p x at

module _ (spec : Spec) (shapes : HasShapes spec) where
  filled_fit : (ps : List ℕ) → All (λ p. IsTrue (is_usable spec p)) ps → AllFit spec (filled spec ps) ps
  unfolding filled
  filled_fit [] all = tt
  filled_fit (p ∷ ps) all = (completing_fits spec shapes p (usable_in spec p (all 0 0 (omega arith))), filled_fit ps (λ i d low. all (suc i) d (omega (arith, low))))

  kids_fit : (ps : List ℕ) (k q : ℕ) (s : Term) → All (λ p. IsTrue (is_usable spec p)) ps → k < length ps → get_or ps k q ≡ q → Fits spec s q → AllFit spec (kids spec ps k s) ps
  unfolding kids
  kids_fit [] k q s all low is fit = absurd (omega (arith, low))
  kids_fit (p ∷ ps) zero q s all low is fit = (subst (Fits spec s) (sym is) fit, filled_fit ps (λ i d l. all (suc i) d (omega (arith, l))))
  kids_fit (p ∷ ps) (suc k) q s all low is fit = (completing_fits spec shapes p (usable_in spec p (all 0 0 (omega arith))), kids_fit ps k q s (λ i d l. all (suc i) d (omega (arith, l))) (omega (arith, low)) is fit)

  usable_args : (op p : ℕ) → phylum_of spec.ops op ≡ Some p → All (λ q. IsTrue (is_usable spec q)) (args_of spec.ops op)
  usable_args op p left = by (slice_get spec.ops op) refl left
    where
      all_at : (ops : List Operator) (k : ℕ) (o : Operator) → slice_get ops k ≡ Some o → All (λ (x : Operator). All (λ q. IsTrue (is_usable spec q)) x.args) ops → All (λ q. IsTrue (is_usable spec q)) o.args
      all_at [] k o at all = absurd (cc at)
      all_at (x ∷ ops) zero o at all = let e : x ≡ o = cc at in subst (λ (y : Operator). All (λ q. IsTrue (is_usable spec q)) y.args) e (all 0 x (omega arith))
      all_at (x ∷ ops) (suc k) o at all = all_at ops k o at (λ i d low. all (suc i) d (omega (arith, low)))

      by : (o : Option Operator) → slice_get spec.ops op ≡ o → option_map (λ (x : Operator). x.phylum) o ≡ Some p → All (λ q. IsTrue (is_usable spec q)) (args_of spec.ops op)
      by None at got = absurd (cc got)
      by (Some o) at got = subst (λ (l : List ℕ). All (λ q. IsTrue (is_usable spec q)) l) (sym (ap (λ x. unwrap_or (option_map (λ (y : Operator). y.args) x) []) at)) (all_at spec.ops op o at shapes.args)

  -- a term of the root phylum in which a term stands below no listed phylum
  record IsPut (fs : List Far) (s : Term) : Type 0 where
    term : Term
    fits : Fits spec term spec.root
    place : Place
    there : sub term place ≡ Some s
    bare : near spec term place fs ≡ None

  put : (fs : List Far) {p : ℕ} → IsOpen spec fs p → (s : Term) → Fits spec s p → IsPut fs s
  put fs root s fit = record { term = s; fits = fit; place = []; there = refl; bare = refl }
  put fs (argument op p q left unlisted above (k, low, is)) s fit =
      let ts = kids spec (args_of spec.ops op) k s in
      let whole = node_fits spec op p ts left (kids_fit (args_of spec.ops op) k q s (usable_args op p left) low is fit) in
      let up = put fs above (Node op 0 false ts) whole in
      let label : phylum_at spec.ops (label_of (sub up.term up.place)) ≡ Some p = ap (λ o. phylum_at spec.ops (label_of o)) up.there ∙ left in
      record {
        term = up.term;
        fits = up.fits;
        place = k ∷ up.place;
        there = ap (option_and_then (child k)) up.there ∙ kid_there spec (args_of spec.ops op) k s low;
        bare = near_above spec up.term k up.place fs p label unlisted ∙ up.bare;
      }

  -- so each operator of an open phylum has such a node
  node_bare : (fs : List Far) (op p : ℕ) → phylum_of spec.ops op ≡ Some p → IsOpen spec fs p → HasBareNode spec op fs
  node_bare fs op p left opens =
      let ts = filled spec (args_of spec.ops op) in
      let got = put fs opens (Node op 0 false ts) (node_fits spec op p ts left (filled_fit (args_of spec.ops op) (usable_args op p left))) in
      record { term = got.term; fits = got.fits; place = got.place; node = ap label_of got.there; bare = got.bare }

-- the phyla of what stands in a term that fits
kid_fits : (spec : Spec) (ts : Terms) (ps : List ℕ) (k : ℕ) (s : Term) → AllFit spec ts ps → slice_get (terms_of ts) k ≡ Some s → (q : ℕ) × Contains ps q × Fits spec s q
kid_fits spec NoTerm ps k s fit at = absurd (cc at)
kid_fits spec (AndTerm t ts) [] k s fit at = absurd fit
kid_fits spec (AndTerm t ts) (p ∷ ps) zero s fit at = let e : t ≡ s = cc at in (p, (0, omega arith, refl), subst (λ x. Fits spec x p) e fit.0)
kid_fits spec (AndTerm t ts) (p ∷ ps) (suc k) s fit at = let r = kid_fits spec ts ps k s fit.1 at in let c = r.1 in (r.0, (suc c.0, (let low = c.1 in omega (arith, low)), c.2), r.2)

record IsFitting (spec : Spec) (op : ℕ) (ts : Terms) (p : ℕ) : Type 0 where
  left : phylum_of spec.ops op ≡ Some p
  kids : AllFit spec ts (args_of spec.ops op)

fitting : (spec : Spec) (op scheme : ℕ) (elided : Bool) (ts : Terms) (p : ℕ) → Fits spec (Node op scheme elided ts) p → IsFitting spec op ts p
fitting spec op scheme elided ts p fit = by (slice_get spec.ops op) refl fit
  where
    by : (o : Option Operator) → slice_get spec.ops op ≡ o → MatchOption o ⊥ (λ x. (x.phylum ≡ p) × (scheme < 16) × AllFit spec ts x.args) → IsFitting spec op ts p
    by None at none = absurd none
    by (Some x) at fits = record {
      left = ap (option_map (λ (y : Operator). y.phylum)) at ∙ ap (λ n. Some n) fits.0;
      kids = subst (AllFit spec ts) (sym (ap (λ o. unwrap_or (option_map (λ (y : Operator). y.args) o) []) at)) fits.2;
    }

module _ (spec : Spec) (t : Term) (fits : Fits spec t spec.root) (fs : List Far) where
  -- what stands below no listed phylum has an open one
  record IsOpenAt (s : Term) : Type 0 where
    phylum : ℕ
    fit : Fits spec s phylum
    opens : IsOpen spec fs phylum

  -- a node in it has a phylum
  phylum_there : (u : Place) (op scheme : ℕ) (elided : Bool) (ts : Terms) → sub t u ≡ Some (Node op scheme elided ts) → (p : ℕ) × (phylum_of spec.ops op ≡ Some p)
  phylum_there u op scheme elided ts is =
      let f = fits_at u (Node op scheme elided ts) is in
      (f.0, (fitting spec op scheme elided ts f.0 f.1).left)
    where
      fits_at : (u : Place) (s : Term) → sub t u ≡ Some s → (q : ℕ) × Fits spec s q
      fits_at [] s at = let e : t ≡ s = cc at in (spec.root, subst (λ x. Fits spec x spec.root) e fits)
      fits_at (k ∷ u) s at = by (sub t u) refl at (fits_at u)
        where
          by : (o : Option Term) → sub t u ≡ o → option_and_then (child k) o ≡ Some s → ((x : Term) → sub t u ≡ Some x → (q : ℕ) × Fits spec x q) → (q : ℕ) × Fits spec s q
          by None is got above = absurd (cc got)
          by (Some (Leaf p v)) is got above = absurd (cc got)
          by (Some (Node op scheme elided ts)) is got above =
              let a = above (Node op scheme elided ts) is in
              let found = kid_fits spec ts (args_of spec.ops op) k s (fitting spec op scheme elided ts a.0 a.1).kids got in
              (found.0, found.2)

  open_at : (u : Place) (s : Term) → sub t u ≡ Some s → near spec t u fs ≡ None → IsOpenAt s
  open_at [] s at bare = let e : t ≡ s = cc at in record { phylum = spec.root; fit = subst (λ x. Fits spec x spec.root) e fits; opens = root }
  open_at (k ∷ u) s at bare = by (sub t u) refl at (open_at u)
    where
      by : (o : Option Term) → sub t u ≡ o → option_and_then (child k) o ≡ Some s → ((x : Term) → sub t u ≡ Some x → near spec t u fs ≡ None → IsOpenAt x) → IsOpenAt s
      by None is got above = absurd (cc got)
      by (Some (Leaf p v)) is got above = absurd (cc got)
      by (Some (Node op scheme elided ts)) is got above =
          let p = phylum_there u op scheme elided ts is in
          let parts = not_listed spec t k u fs p.0 (ap (λ o. phylum_at spec.ops (label_of o)) is ∙ p.1) bare in
          let up = above (Node op scheme elided ts) is parts.1 in
          let known = fitting spec op scheme elided ts up.phylum up.fit in
          let same : p.0 ≡ up.phylum = cc (sym p.1 ∙ known.left) in
          let found = kid_fits spec ts (args_of spec.ops op) k s known.kids got in
          record { phylum = found.0; fit = found.2; opens = argument op up.phylum found.0 known.left (ap (listed_slot fs) (sym same) ∙ parts.0) up.opens found.1 }

  open_phylum : (op : ℕ) (u : Place) → label_of (sub t u) ≡ Operation op → near spec t u fs ≡ None → (p : ℕ) × (phylum_of spec.ops op ≡ Some p) × IsOpen spec fs p
  open_phylum op u label bare = by (sub t u) refl label
    where
      by : (o : Option Term) → sub t u ≡ o → label_of o ≡ Operation op → (p : ℕ) × (phylum_of spec.ops op ≡ Some p) × IsOpen spec fs p
      by None at is = absurd (cc is)
      by (Some (Leaf p v)) at is = absurd (cc is)
      by (Some (Node o scheme elided ts)) at is =
          let same : o ≡ op = cc is in
          let got = open_at u (Node o scheme elided ts) at bare in
          (got.phylum, ap (phylum_of spec.ops) (sym same) ∙ (fitting spec o scheme elided ts got.phylum got.fit).left, got.opens)

-- the specification has the operators and the root of the table
module _ (t : Table) (spec : Spec) (has : HasTable t spec) (fs : List Far) where
  from_table : {p : ℕ} → IsOpen (drafted t) fs p → IsOpen spec fs p
  from_table root = subst (IsOpen spec fs) has.root root
  from_table (argument op p q left unlisted above arg) =
      argument op p q (phylum_kept t spec has op ∙ left) unlisted (from_table above) (subst (λ (l : List ℕ). Contains l q) (sym (args_kept t spec has op)) arg)

  to_table : {p : ℕ} → IsOpen spec fs p → IsOpen (drafted t) fs p
  to_table root = subst (IsOpen (drafted t) fs) (sym has.root) root
  to_table (argument op p q left unlisted above arg) =
      argument op p q (sym (phylum_kept t spec has op) ∙ left) unlisted (to_table above) (subst (λ (l : List ℕ). Contains l q) (args_kept t spec has op) arg)

pub bare_node : (t : Table) (spec : Spec) → HasTable t spec → HasShapes spec → (a : Atom) → IsBare t a → HasBareNode spec a.op a.list
bare_node t spec has shapes a bare = node_bare spec shapes a.list a.op bare.phylum (phylum_kept t spec has a.op ∙ bare.left) (from_table t spec has a.list bare.opens)

pub node_is_bare : (t : Table) (spec : Spec) → HasTable t spec → (a : Atom) → HasBareNode spec a.op a.list → IsBare t a
node_is_bare t spec has a is =
    let got = open_phylum spec is.term is.fits a.list a.op is.place is.node is.bare in
    record { phylum = got.0; left = sym (phylum_kept t spec has a.op) ∙ got.1; opens = to_table t spec has a.list got.2 }
