-- The lines of a node, of its children, and of those that are left.
use Rattle.std.specs.Prelude.{◌≡◌, refl, ℕ, suc, ◌+◌, ◌-◌, ◌≤◌, Bool, true, false, cond, nat_eq, List, [], ◌∷◌, ◌++◌, length, codes, Some, slice_get, option_map, option_and_then, unwrap_or}
use Rattle.std.specs.Fmt.{decimal}
use Rattle.std.specs.List.{flat_map}
use Rattle.std.proofs.Common.{sym, ap, ◌∙◌, arith, take, drop, append_assoc, add-one, length-append}
use Rattle.std.proofs.Math.Seq.{take-append_seam}
use Rattle.std.proofs.lemmas.Grind.{flat_map-append}
use Rattle.std.proofs.lemmas.List.{reverse-append}
use Rattle.std.proofs.lemmas.List.Elements.{filter-append}
use Rattle.sg_kinds.specs.Values.{Bytes}
use Rattle.sg_kinds.specs.Terms.{Term, Terms, Leaf, Node, NoTerm, AndTerm, kids_of, nodes_of, nodes_of_all}
use Rattle.sg_kinds.specs.Places.{Place, child, sub, place_of, places_from, places_among}
use Rattle.sg_kinds.specs.Nets.{label_of, phylum_at}
use Rattle.sg_kinds.specs.Fits.{Fits}
use Rattle.sg_kinds.specs.declared.spec.Spec.{Spec}
use Rattle.sg_forest.specs.declared.node_id.NodeId.{NodeId}
use Rattle.sg_forest.specs.Trees.{IsChild, IsLive}
use Rattle.sg_groves.specs.Grove.{Grove, nodes, IsGrove}
use Rattle.sg_plans.proofs.Nodes.{fitting_phylum}
use Rattle.sg_build.proofs.Told.{kids_in, the_term, child_is, kid_told, left_more, none_left}
use Rattle.sg_printing.specs.At.{IsAt}
use Rattle.sg_report.specs.Lines.{is_of, line_at, of_these, lines_at, last_line}
use Rattle.sg_report.specs.declared.attrs.Named.{Named}

module _ (spec : Spec) (t : Term) (a : Named) where
  pub of_these-append : (us vs : List Place) → of_these spec t a (us ++ vs) ≡ of_these spec t a us ++ of_these spec t a vs
  of_these-append us vs = filter-append (is_of spec t a.phylum) us vs

  pub lines_at-append : (us vs : List Place) → lines_at spec t a (us ++ vs) ≡ lines_at spec t a us ++ lines_at spec t a vs
  lines_at-append us vs =
      ap (flat_map (line_at spec t a.slot)) (of_these-append us vs)
      ∙ flat_map-append (line_at spec t a.slot) (of_these spec t a us) (of_these spec t a vs)

  -- lines are put behind lines
  pub next_written : (old new : Bytes) (all first rest : List Place) → new ≡ old ++ lines_at spec t a first → all ≡ first ++ rest → new ++ lines_at spec t a rest ≡ old ++ lines_at spec t a all
  next_written old new all first rest wrote parts =
      ap (λ s. s ++ lines_at spec t a rest) wrote ∙ append_assoc old (lines_at spec t a first) (lines_at spec t a rest)
      ∙ ap (λ s. old ++ s) (sym (ap (lines_at spec t a) parts ∙ lines_at-append first rest))

  pub next_count : (all first rest : List Place) → all ≡ first ++ rest → length (of_these spec t a all) ≡ length (of_these spec t a first) + length (of_these spec t a rest)
  next_count all first rest parts =
      ap (λ us. length (of_these spec t a us)) parts ∙ ap length (of_these-append first rest) ∙ length-append (of_these spec t a first) (of_these spec t a rest)

  fewer : (b : Bool) (u : Place) (us : List Place) (n : ℕ) → length us ≤ n → length (cond b (u ∷ us) us) ≤ suc n
  fewer true u us n le = omega (arith, le)
  fewer false u us n le = omega (arith, le)

  pub few : (us : List Place) → length (of_these spec t a us) ≤ length us
  few [] = omega arith
  few (u ∷ us) = fewer (is_of spec t a.phylum u) u (of_these spec t a us) (length us) (few us)

-- the places of a node of an operator, and those at and below its children from a number on
abbrev pub rest_of : Place → ℕ → List Term → List Place
rest_of u k ts = places_among u k (kids_of (drop k ts))

pub places_over : (u : Place) (x : Term) (op k : ℕ) (elided : Bool) → x ≡ Node op k elided (kids_of (kids_in x)) → places_from u x ≡ u ∷ [] ++ rest_of u 0 (kids_in x)
places_over u x op k elided is = ap (places_from u) is

pub rest_more : (u : Place) (ts : List Term) (k : ℕ) (y : Term) → slice_get ts k ≡ Some y → rest_of u k ts ≡ places_from (k ∷ u) y ++ rest_of u (k + 1) ts
rest_more u ts k y at =
    ap (λ l. places_among u k (kids_of l)) (left_more ts k y at)
    ∙ ap (λ j. places_from (k ∷ u) y ++ places_among u j (kids_of (drop (k + 1) ts))) (sym (add-one k))

pub rest_none : (u : Place) (ts : List Term) (k : ℕ) → length ts ≤ k → rest_of u k ts ≡ []
rest_none u ts k all = ap (λ l. places_among u k (kids_of l)) (none_left ts k all)

-- there are as many places as nodes
mutual
  pub places_count : (u : Place) (t : Term) → length (places_from u t) ≡ nodes_of t
  places_count u (Leaf p v) = refl
  places_count u (Node op k elided ts) = ap suc (places_count_all u 0 ts)

  places_count_all : (u : Place) (k : ℕ) (ts : Terms) → length (places_among u k ts) ≡ nodes_of_all ts
  places_count_all u k NoTerm = refl
  places_count_all u k (AndTerm t ts) =
      let first = places_count (k ∷ u) t in
      let rest = places_count_all u (suc k) ts in
      let both = length-append (places_from (k ∷ u) t) (places_among u (suc k) ts) in
      omega (arith, first, rest, both)

-- the place of a child by its path, and the path without the child's number
pub place_pushed : (path old new : List ℕ) (k : ℕ) → new ≡ old ++ k ∷ [] → old ≡ path → place_of new ≡ k ∷ place_of path
place_pushed path old new k pushed same = ap place_of (pushed ∙ ap (λ l. l ++ k ∷ []) same) ∙ reverse-append path (k ∷ [])

pub popped : (path old new last now : List ℕ) (k n : ℕ) → new ≡ old ++ k ∷ [] → old ≡ path → last ≡ new → n ≡ length last → now ≡ take (n - 1) last → now ≡ path
popped path old new last now k n pushed same kept long taken =
    let all : last ≡ old ++ k ∷ [] = kept ∙ pushed in
    let count = ap length all in
    let both = length-append old (k ∷ []) in
    let less : n - 1 ≡ length old = omega (arith, long, count, both) in
    taken ∙ ap (λ m. take m last) less ∙ ap (take (length old)) all ∙ take-append_seam old (k ∷ []) ∙ same

-- the last line behind the others
pub last_written : (o1 o2 o3 o4 o5 o6 : Bytes) (v e : ℕ) → o2 ≡ o1 ++ codes "values " → o3 ≡ o2 ++ decimal v → o4 ≡ o3 ++ codes " evaluated " → o5 ≡ o4 ++ decimal e → o6 ≡ o5 ++ 10 ∷ [] → o6 ≡ o1 ++ last_line v e
last_written o1 o2 o3 o4 o5 o6 v e first second third fourth fifth =
    fifth ∙ ap (λ s. s ++ 10 ∷ []) (fourth ∙ ap (λ s. s ++ decimal e) (third ∙ ap (λ s. s ++ codes " evaluated ") (second ∙ ap (λ s. s ++ decimal v) first)))
    ∙ regrouped (codes "values ") (decimal v) (codes " evaluated ") (decimal e)
  where
    regrouped : (a b c d : Bytes) → ((((o1 ++ a) ++ b) ++ c) ++ d) ++ 10 ∷ [] ≡ o1 ++ ((((a ++ b) ++ c) ++ d) ++ 10 ∷ [])
    regrouped a b c d = simp append_assoc

module _ (g : Grove) (is : IsGrove g) where
  -- a child of a node is at the child's place
  pub kid_at : (root n kid : NodeId) (t : Term) (u : Place) (k : ℕ) → IsLive (nodes g) n → IsAt g root n t u (the_term g n) → IsChild (nodes g) kid n k → IsAt g root kid t (k ∷ u) (the_term g kid)
  kid_at root n kid t u k live at hangs = record {
    whole = at.whole;
    fits = at.fits;
    part = ap (option_and_then (child k)) at.part ∙ child_is (the_term g n) k ∙ kid_told g is n kid k live hangs;
    way = (n, hangs, at.way);
  }

module _ (spec : Spec) (t x : Term) (u : Place) (part : sub t u ≡ Some x) (p : ℕ) (fits : Fits spec x p) where
  -- whether a node is of a phylum
  pub is_of-fits : (q : ℕ) → is_of spec t q u ≡ nat_eq q p
  is_of-fits q = ap (λ o. unwrap_or (option_map (nat_eq q) (phylum_at spec.ops (label_of o))) false) part
      ∙ ap (λ o. unwrap_or (option_map (nat_eq q) o) false) (fitting_phylum spec x p fits)
