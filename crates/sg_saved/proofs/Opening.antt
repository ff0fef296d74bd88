-- Each text is opened in one way.
use Rattle.std.proofs.Common.{◌≡◌, ◌⊎◌, inl, inr, ℕ, ◌<◌, ◌≤◌, List, [], ◌∷◌, ◌++◌, length, refl, sym, ap, ◌∙◌, subst, arith, Option, Some, None, MatchOption}
use Rattle.std.proofs.lemmas.Bool.{cases_eq, cases_lt}
use Rattle.sg_kinds.specs.Fits.{Fits}
use Rattle.sg_kinds.specs.Plain.{plain}
use Rattle.sg_kinds.specs.Sound.{HasNames}
use Rattle.sg_kinds.specs.Specification.{args_of, phylum_of}
use Rattle.sg_kinds.specs.Terms.{Leaf, nodes_of, height_of}
use Rattle.sg_kinds.specs.Values.{Bytes, Value, Truth, Number, Chars}
use Rattle.sg_kinds.specs.declared.spec.Spec.{Spec}
use Rattle.sg_patterns.proofs.Deciding.{decide-fits}
use Rattle.sg_saved_form.specs.Files.{Raw, Branch, Whole, Quote, Flag, IsRaw, IsFile, file_of}
use Rattle.sg_saved_form.specs.Notes.{count_of, first_place}
use Rattle.sg_saved_form.proofs.Forms.{one-file, each-text, one-place}
use Rattle.sg_saved.specs.Spelling.{raw_of, saved, AreNamed}
use Rattle.sg_saved.specs.Misfits.{op_named, value_of, Part, LeafFits, HeadFits, PartFits, EachFits, parts_of, IsFirstMisfit}
use Rattle.sg_saved.specs.Read.{Opened, FormAt, PhylumAt, TooLarge, Holds, most_nodes, most_depth, IsFileOf, HasMisfit, IsOpened}
use Rattle.sg_saved.proofs.OneSpelling.{one-value, raw-is}
use Rattle.sg_saved.proofs.Fitting.{each-both, fits-read, fits-written}

-- whether a subterm fits is decided
leaf-decided : (spec : Spec) (p : ℕ) (v : Value) → LeafFits spec p v ⊎ (LeafFits spec p v → ⊥)
leaf-decided spec p v = elim (decide-fits spec (Leaf p v) p) [ inl f ↦ inl f.1 | inr no_fit ↦ inr (λ h. no_fit (refl, h)) ]

some-decided : (o : Option ℕ) (p : ℕ) → (o ≡ Some p) ⊎ (o ≡ Some p → ⊥)
some-decided None p = inr (λ e. cc)
some-decided (Some q) p = elim (cases_eq q p) [ inl same ↦ inl (ap Some same) | inr other ↦ inr (λ e. other (let k : q ≡ p = cc in k)) ]

node-decided : (spec : Spec) (p count : ℕ) (o : Option ℕ) → MatchOption o ⊥ (λ op. (phylum_of spec.ops op ≡ Some p) × (length (args_of spec.ops op) ≡ count))
    ⊎ (MatchOption o ⊥ (λ op. (phylum_of spec.ops op ≡ Some p) × (length (args_of spec.ops op) ≡ count)) → ⊥)
node-decided spec p count None = inr (λ h. h)
node-decided spec p count (Some op) = elim (some-decided (phylum_of spec.ops op) p) [
  | inl own ↦ elim (cases_eq (length (args_of spec.ops op)) count) [ inl same ↦ inl (own, same) | inr other ↦ inr (λ h. other h.1) ]
  | inr foreign ↦ inr (λ h. foreign h.0)
]

head-decided : (spec : Spec) (p : ℕ) (r : Raw) → HeadFits spec p r ⊎ (HeadFits spec p r → ⊥)
head-decided spec p (Branch name rs) = node-decided spec p (count_of rs) (op_named spec.ops name)
head-decided spec p (Whole z) = leaf-decided spec p (Number z)
head-decided spec p (Quote s) = leaf-decided spec p (Chars s)
head-decided spec p (Flag b) = leaf-decided spec p (Truth b)

first-misfit : (spec : Spec) (xs : List Part) → EachFits spec xs ⊎ ((k : ℕ) × IsFirstMisfit spec xs k)
first-misfit spec [] = inl tt
first-misfit spec (x ∷ xs) = elim (head-decided spec x.phylum x.raw) [
  | inl fits ↦ elim (first-misfit spec xs) [
    | inl all ↦ inl (fits, all)
    | inr m ↦ inr (m.0, record { before = x ∷ m.1.before; part = m.1.part; behind = m.1.behind; are = ap (λ l. x ∷ l) m.1.are; fit = (fits, m.1.fit); misfit = m.1.misfit; place = m.1.place })
  ]
  | inr misfit ↦ inr (x.at, record { before = []; part = x; behind = xs; are = refl; fit = tt; misfit = misfit; place = refl })
]

-- the first misfit is one, and there is none where each subterm fits
one-part : (spec : Spec) (b c r s : List Part) (x y : Part) → b ++ x ∷ r ≡ c ++ y ∷ s → EachFits spec b → EachFits spec c → (PartFits spec x → ⊥) → (PartFits spec y → ⊥) → x ≡ y
one-part spec [] [] r s x y same f g no_x no_y = cc
one-part spec [] (z ∷ c) r s x y same f g no_x no_y = let k : z ≡ x = cc in absurd (no_x (subst (PartFits spec) k g.0))
one-part spec (z ∷ b) [] r s x y same f g no_x no_y = let k : z ≡ y = cc in absurd (no_y (subst (PartFits spec) k f.0))
one-part spec (z ∷ b) (w ∷ c) r s x y same f g no_x no_y = let rest : b ++ x ∷ r ≡ c ++ y ∷ s = cc in one-part spec b c r s x y rest f.1 g.1 no_x no_y

one-misfit : (spec : Spec) (xs : List Part) (k n : ℕ) → IsFirstMisfit spec xs k → IsFirstMisfit spec xs n → k ≡ n
one-misfit spec xs k n m l =
    let same = one-part spec m.before l.before m.behind l.behind m.part l.part (sym m.are ∙ l.are) m.fit l.fit m.misfit l.misfit in
    sym m.place ∙ ap (λ x. x.at) same ∙ l.place

no-misfit : (spec : Spec) (xs : List Part) (k : ℕ) → EachFits spec xs → IsFirstMisfit spec xs k → ⊥
no-misfit spec xs k all m = m.misfit (each-both spec m.before (m.part ∷ m.behind) (subst (EachFits spec) m.are all)).1.0

-- each text is opened
module _ (spec : Spec) (bytes : Bytes) where
  value-opened : (r : Raw) → IsRaw r → bytes ≡ file_of r → EachFits spec (parts_of spec spec.root first_place r) → (x : Opened) × IsOpened spec bytes x
  value-opened r is same fit = within (cases_lt most_nodes (nodes_of (plain spec (value_of spec r) spec.root))) (cases_lt most_depth (height_of (plain spec (value_of spec r) spec.root)))
    where
      file : IsFileOf spec bytes (value_of spec r) (nodes_of (plain spec (value_of spec r) spec.root)) (height_of (plain spec (value_of spec r) spec.root))
      file =
          let read = fits-read spec r spec.root first_place fit in
          record { is = subst IsRaw (sym read.back) is; same = same ∙ ap file_of (sym read.back); fits = read.fits; nodes = refl; depth = refl }

      within : (most_nodes < nodes_of (plain spec (value_of spec r) spec.root)) ⊎ (nodes_of (plain spec (value_of spec r) spec.root) ≤ most_nodes) → (most_depth < height_of (plain spec (value_of spec r) spec.root)) ⊎ (height_of (plain spec (value_of spec r) spec.root) ≤ most_depth)
          → (x : Opened) × IsOpened spec bytes x
      within (inl many) d = (TooLarge (nodes_of (plain spec (value_of spec r) spec.root)) (height_of (plain spec (value_of spec r) spec.root)), (value_of spec r, file, inl many))
      within (inr few) (inl deep) = (TooLarge (nodes_of (plain spec (value_of spec r) spec.root)) (height_of (plain spec (value_of spec r) spec.root)), (value_of spec r, file, inr deep))
      within (inr few) (inr flat) = (Holds (value_of spec r), (nodes_of (plain spec (value_of spec r) spec.root), height_of (plain spec (value_of spec r) spec.root), file, few, flat))

  file-opened : IsFile bytes → (x : Opened) × IsOpened spec bytes x
  file-opened f = elim (first-misfit spec (parts_of spec spec.root first_place f.raw)) [
    | inl all ↦ value-opened f.raw f.is f.same all
    | inr m ↦ (PhylumAt m.0, record { raw = f.raw; is = f.is; same = f.same; misfit = m.1 })
  ]

  pub each-opened : (x : Opened) × IsOpened spec bytes x
  each-opened = elim (each-text bytes) [ inl f ↦ file-opened f | inr none ↦ (FormAt none.0, none.1) ]

-- in one way
module _ (spec : Spec) (names : HasNames spec) (bytes : Bytes) where
  is-file : (v : Value) (n d : ℕ) → IsFileOf spec bytes v n d → IsFile bytes
  is-file v n d f = record { raw = raw_of spec v; is = f.is; same = f.same }

  same-value : (v w : Value) (n d m e : ℕ) → IsFileOf spec bytes v n d → IsFileOf spec bytes w m e → v ≡ w
  same-value v w n d m e f g = one-value spec names v w spec.root f.fits g.fits (one-file (raw_of spec v) (raw_of spec w) f.is g.is (sym f.same ∙ g.same))

  same-nodes : (v w : Value) (n d m e : ℕ) → IsFileOf spec bytes v n d → IsFileOf spec bytes w m e → n ≡ m
  same-nodes v w n d m e f g = sym f.nodes ∙ ap (λ x. nodes_of (plain spec x spec.root)) (same-value v w n d m e f g) ∙ g.nodes

  same-depth : (v w : Value) (n d m e : ℕ) → IsFileOf spec bytes v n d → IsFileOf spec bytes w m e → d ≡ e
  same-depth v w n d m e f g = sym f.depth ∙ ap (λ x. height_of (plain spec x spec.root)) (same-value v w n d m e f g) ∙ g.depth

  misfit-fits : (k : ℕ) (v : Value) (n d : ℕ) → HasMisfit spec bytes k → IsFileOf spec bytes v n d → ⊥
  misfit-fits k v n d m f =
      let same : raw_of spec v ≡ m.raw = one-file (raw_of spec v) m.raw f.is m.is (sym f.same ∙ m.same) in
      no-misfit spec (parts_of spec spec.root first_place m.raw) k (subst (λ r. EachFits spec (parts_of spec spec.root first_place r)) same ((fits-written spec names v spec.root f.fits).fit first_place)) m.misfit

  same-misfit : (k n : ℕ) → HasMisfit spec bytes k → HasMisfit spec bytes n → k ≡ n
  same-misfit k n m l =
      let same : m.raw ≡ l.raw = one-file m.raw l.raw m.is l.is (sym m.same ∙ l.same) in
      one-misfit spec (parts_of spec spec.root first_place l.raw) k n (subst (λ r. IsFirstMisfit spec (parts_of spec spec.root first_place r) k) same m.misfit) l.misfit

  pub one-opening : (x y : Opened) → IsOpened spec bytes x → IsOpened spec bytes y → x ≡ y
  one-opening (FormAt k) (FormAt n) f g = ap FormAt (one-place bytes k n f g)
  one-opening (FormAt k) (PhylumAt n) f g = absurd (f.no_file (record { raw = g.raw; is = g.is; same = g.same }))
  one-opening (FormAt k) (TooLarge n d) f g = absurd (f.no_file (is-file g.0 n d g.1))
  one-opening (FormAt k) (Holds w) f g = absurd (f.no_file (is-file w g.0 g.1 g.2))
  one-opening (PhylumAt k) (FormAt n) f g = absurd (g.no_file (record { raw = f.raw; is = f.is; same = f.same }))
  one-opening (PhylumAt k) (PhylumAt n) f g = ap PhylumAt (same-misfit k n f g)
  one-opening (PhylumAt k) (TooLarge n d) f g = absurd (misfit-fits k g.0 n d f g.1)
  one-opening (PhylumAt k) (Holds w) f g = absurd (misfit-fits k w g.0 g.1 f g.2)
  one-opening (TooLarge n d) (FormAt k) f g = absurd (g.no_file (is-file f.0 n d f.1))
  one-opening (TooLarge n d) (PhylumAt k) f g = absurd (misfit-fits k f.0 n d g f.1)
  one-opening (TooLarge n d) (TooLarge m e) f g = (λ i. TooLarge (same-nodes f.0 g.0 n d m e f.1 g.1 i) (same-depth f.0 g.0 n d m e f.1 g.1 i))
  one-opening (TooLarge n d) (Holds w) f g = absurd (over f.2 (same-nodes f.0 w n d g.0 g.1 f.1 g.2) (same-depth f.0 w n d g.0 g.1 f.1 g.2) g.3 g.4)
    where
      over : (most_nodes < n) ⊎ (most_depth < d) → n ≡ g.0 → d ≡ g.1 → g.0 ≤ most_nodes → g.1 ≤ most_depth → ⊥
      over (inl many) a b few flat = omega arith
      over (inr deep) a b few flat = omega arith
  one-opening (Holds v) (FormAt k) f g = absurd (g.no_file (is-file v f.0 f.1 f.2))
  one-opening (Holds v) (PhylumAt k) f g = absurd (misfit-fits k v f.0 f.1 g f.2)
  one-opening (Holds v) (TooLarge m e) f g = absurd (over g.2 (same-nodes v g.0 f.0 f.1 m e f.2 g.1) (same-depth v g.0 f.0 f.1 m e f.2 g.1) f.3 f.4)
    where
      over : (most_nodes < m) ⊎ (most_depth < e) → f.0 ≡ m → f.1 ≡ e → f.0 ≤ most_nodes → f.1 ≤ most_depth → ⊥
      over (inl many) a b few flat = omega arith
      over (inr deep) a b few flat = omega arith
  one-opening (Holds v) (Holds w) f g = ap Holds (same-value v w f.0 f.1 g.0 g.1 f.2 g.2)

-- what is written is read
pub written-read : (spec : Spec) → AreNamed spec → (v : Value) → Fits spec (plain spec v spec.root) spec.root → nodes_of (plain spec v spec.root) ≤ most_nodes → height_of (plain spec v spec.root) ≤ most_depth
    → IsOpened spec (saved spec v) (Holds v)
written-read spec named v fits few flat =
    (nodes_of (plain spec v spec.root), height_of (plain spec v spec.root), record { is = raw-is spec named v spec.root fits; same = refl; fits = fits; nodes = refl; depth = refl }, few, flat)
