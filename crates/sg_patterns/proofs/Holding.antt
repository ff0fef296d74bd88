-- A program in the making holds the trees of the steps so far.
use Rattle.std.proofs.Common.{◌≡◌, ◌≢◌, ◌⊎◌, inl, inr, ℕ, zero, suc, ◌+◌, ◌<◌, ◌≤◌, Bool, true, false, ◌&&◌, ◌||◌, List, [], ◌∷◌, ◌++◌, length, get_or, refl, sym, ap, ◌∙◌, subst, arith, Option, Some, length-append, map, take}
use Rattle.std.specs.Prelude.{Result, Ok, Err, OnOk}
use Rattle.std.proofs.lemmas.List.{length-set, take_more, map-append}
use Rattle.std.specs.Prelude.{slice_get}
use Rattle.std.proofs.lemmas.Option.{slice_get_within}
use Rattle.std.proofs.Math.ListN.{set, get_or-append}
use Rattle.std.proofs.Math.Seq.{get_or-append_seam}
use Rattle.sg_kinds.specs.Lexemes as plain
use Rattle.sg_kinds.specs.LexemeCode.{Instruction, act, acts, of_one, of_two, first_of}
use Rattle.sg_patterns.specs.declared.program.Node.{Node}
use Rattle.sg_patterns.specs.declared.program.Node.TheVariants as node
use Rattle.sg_patterns.specs.declared.program.Leaf.{Leaf}
use Rattle.sg_patterns.specs.declared.program.Above.{Above}
use Rattle.sg_patterns.specs.declared.program.Above.TheVariants.{Top, Same, After, Again}
use Rattle.sg_patterns.specs.Leaves.{leaf_pattern}
use Rattle.sg_patterns.specs.Trees.{Tree, Nothing, OneByte, Then, Either, Many, Several, Maybe, root_of, pattern_of, IsLaidOut}
use Rattle.sg_patterns.specs.declared.program.Building.{Building}
use Rattle.sg_patterns.specs.declared.program.Program.{Program}
use Rattle.sg_patterns.specs.Flags.{flag_at}
use Rattle.sg_patterns.specs.Rows.{AreRows}
use Rattle.sg_patterns.specs.Programs.{AreLaidOut, StandBelow, roots_of, HoldsIn, Holds, Pushes, IsProgram, PartsBefore, NodeAfter, EachAfterParts, EachBeforeNode}

slice_get-set_other : {A : Type 0} (xs : List A) (i j : ℕ) (v : A) → j ≢ i → slice_get (set xs i v) j ≡ slice_get xs j
slice_get-set_other [] i j v ne = refl
slice_get-set_other (x ∷ xs) zero zero v ne = absurd (ne refl)
slice_get-set_other (x ∷ xs) zero (suc j) v ne = refl
slice_get-set_other (x ∷ xs) (suc i) zero v ne = refl
slice_get-set_other (x ∷ xs) (suc i) (suc j) v ne = slice_get-set_other xs i j v (λ e. ne (ap suc e))

slice_get-set_same : {A : Type 0} (xs : List A) (i : ℕ) (v : A) → i < length xs → slice_get (set xs i v) i ≡ Some v
slice_get-set_same [] i v within = absurd (omega arith)
slice_get-set_same (x ∷ xs) zero v within = refl
slice_get-set_same (x ∷ xs) (suc i) v within = slice_get-set_same xs i v (omega arith)

slice_get-left : {A : Type 0} (xs ys : List A) (i : ℕ) (x : A) → slice_get xs i ≡ Some x → slice_get (xs ++ ys) i ≡ Some x
slice_get-left [] ys i x e = absurd (cc)
slice_get-left (y ∷ xs) ys zero x e = e
slice_get-left (y ∷ xs) ys (suc i) x e = slice_get-left xs ys i x e

slice_get-last : {A : Type 0} (xs : List A) (x : A) → slice_get (xs ++ x ∷ []) (length xs) ≡ Some x
slice_get-last [] x = refl
slice_get-last (y ∷ xs) x = slice_get-last xs x

-- what stands in a list with one more, and in one with a place written to
slice_get-snoc : {A : Type 0} (xs : List A) (x : A) (k : ℕ) (y : A) → slice_get (xs ++ x ∷ []) k ≡ Some y → (slice_get xs k ≡ Some y) ⊎ ((k ≡ length xs) × (x ≡ y))
slice_get-snoc [] x zero y e = inr (refl, cc)
slice_get-snoc [] x (suc k) y e = absurd (cc)
slice_get-snoc (z ∷ xs) x zero y e = inl e
slice_get-snoc (z ∷ xs) x (suc k) y e = elim (slice_get-snoc xs x k y e) [ inl f ↦ inl f | inr f ↦ inr (ap suc f.0, f.1) ]

slice_get-set : {A : Type 0} (xs : List A) (i : ℕ) (v : A) (k : ℕ) (y : A) → slice_get (set xs i v) k ≡ Some y → (slice_get xs k ≡ Some y) ⊎ ((k ≡ i) × (v ≡ y))
slice_get-set [] i v k y e = absurd (cc)
slice_get-set (x ∷ xs) zero v zero y e = inr (refl, cc)
slice_get-set (x ∷ xs) zero v (suc k) y e = inl e
slice_get-set (x ∷ xs) (suc i) v zero y e = inl e
slice_get-set (x ∷ xs) (suc i) v (suc k) y e = elim (slice_get-set xs i v k y e) [ inl f ↦ inl f | inr f ↦ inr (ap suc f.0, f.1) ]

-- the order stays with one more node, and with a node that is put above a part
parts-more : (nodes : List Node) (x : Node) → EachAfterParts nodes → PartsBefore (length nodes) x → EachAfterParts (nodes ++ x ∷ [])
parts-more nodes x each new k y is =
    elim (slice_get-snoc nodes x k y is) [ inl e ↦ each k y e | inr e ↦ subst (PartsBefore k) e.1 (subst (λ j. PartsBefore j x) (sym e.0) new) ]

order-more : (above : List Above) → EachBeforeNode above → EachBeforeNode (above ++ Top ∷ [])
order-more above each k a is = elim (slice_get-snoc above Top k a is) [ inl e ↦ each k a e | inr e ↦ subst (NodeAfter k) e.1 tt ]

order-set : (above : List Above) (i : ℕ) (v : Above) → EachBeforeNode above → NodeAfter i v → EachBeforeNode (set above i v)
order-set above i v each new k a is =
    elim (slice_get-set above i v k a is) [ inl e ↦ each k a e | inr e ↦ subst (NodeAfter k) e.1 (subst (λ j. NodeAfter j v) (sym e.0) new) ]

-- the root of a tree that stands is a node
root-node : (ns : ℕ → Option Node) (up : ℕ → Option Above) (em : ℕ → Bool) (t : Tree) → IsLaidOut ns up em t → (x : Node) × (ns (root_of t) ≡ Some x)
root-node ns up em (Nothing k) st = (node.Nothing, st.0)
root-node ns up em (OneByte k l) st = (node.Leaf l, st.0)
root-node ns up em (Then k t u) st = (node.Then (root_of t) (root_of u), st.0)
root-node ns up em (Either k t u) st = (node.Either (root_of t) (root_of u), st.0)
root-node ns up em (Many k t) st = (node.Over (root_of t), st.0)
root-node ns up em (Several k t) st = (node.Over (root_of t), st.0)
root-node ns up em (Maybe k t) st = (node.Over (root_of t), st.0)

-- a tree stands on where its nodes stay and what is above them
module _ (ns ms : ℕ → Option Node) (up vp : ℕ → Option Above) (em dm : ℕ → Bool) (nodes : (k : ℕ) (x : Node) → ns k ≡ Some x → (ms k ≡ Some x) × (dm k ≡ em k)) (above : (k : ℕ) (a : Above) → up k ≡ Some a → a ≢ Top → vp k ≡ Some a) where
  root-empty : (t : Tree) → IsLaidOut ns up em t → dm (root_of t) ≡ em (root_of t)
  root-empty t st = let r = root-node ns up em t st in (nodes (root_of t) r.0 r.1).1

  laid_out-kept : (t : Tree) → IsLaidOut ns up em t → IsLaidOut ms vp dm t
  laid_out-kept (Nothing k) st = let n = nodes k _ st.0 in (n.0, n.1 ∙ st.1)
  laid_out-kept (OneByte k l) st = let n = nodes k _ st.0 in (n.0, n.1 ∙ st.1)
  laid_out-kept (Then k t u) st =
      let n = nodes k _ st.0 in
      (n.0, n.1 ∙ st.1 ∙ sym (λ i. root-empty t st.4 i && root-empty u st.5 i), above _ _ st.2 (λ e. cc), above _ _ st.3 (λ e. cc), laid_out-kept t st.4, laid_out-kept u st.5)
  laid_out-kept (Either k t u) st =
      let n = nodes k _ st.0 in
      (n.0, n.1 ∙ st.1 ∙ sym (λ i. root-empty t st.4 i || root-empty u st.5 i), above _ _ st.2 (λ e. cc), above _ _ st.3 (λ e. cc), laid_out-kept t st.4, laid_out-kept u st.5)
  laid_out-kept (Many k t) st = let n = nodes k _ st.0 in (n.0, n.1 ∙ st.1, above _ _ st.2 (λ e. cc), laid_out-kept t st.3)
  laid_out-kept (Several k t) st = let n = nodes k _ st.0 in (n.0, n.1 ∙ st.1 ∙ sym (root-empty t st.3), above _ _ st.2 (λ e. cc), laid_out-kept t st.3)
  laid_out-kept (Maybe k t) st = let n = nodes k _ st.0 in (n.0, n.1 ∙ st.1, above _ _ st.2 (λ e. cc), laid_out-kept t st.3)

-- one more node: the trees of which no part is written to stand on
module _ (nodes : List Node) (above over : List Above) (empties : List Bool) (x : Node) (e : Bool) (empty_each : length empties ≡ length nodes) (kept : (k : ℕ) (a : Above) → slice_get above k ≡ Some a → a ≢ Top → slice_get over k ≡ Some a) where
  pub one-more : (t : Tree) → AreLaidOut nodes above empties t → AreLaidOut (nodes ++ x ∷ []) (over ++ Top ∷ []) (empties ++ e ∷ []) t
  one-more t st =
      laid_out-kept (slice_get nodes) (slice_get (nodes ++ x ∷ [])) (slice_get above) (slice_get (over ++ Top ∷ [])) (flag_at empties) (flag_at (empties ++ e ∷ [])) (λ k y is. (slice_get-left nodes (x ∷ []) k y is, get_or-append empties (e ∷ []) false k (omega (arith, slice_get_within nodes k y is)))) (λ k a is other. slice_get-left over (Top ∷ []) k a (kept k a is other)) t st

  pub all-more : (n : ℕ) (ts : List Tree) → ((k : ℕ) → k < n → slice_get above k ≡ Some Top → slice_get over k ≡ Some Top) → StandBelow nodes above empties n ts → StandBelow (nodes ++ x ∷ []) (over ++ Top ∷ []) (empties ++ e ∷ []) n ts
  all-more n [] tops st = tt
  all-more n (t ∷ ts) tops st =
      (st.0, slice_get-left over (Top ∷ []) (root_of t) Top (tops (root_of t) st.0 st.1), one-more t st.2, all-more (root_of t) ts (λ k less is. tops k (omega (arith, st.0)) is) st.3)

-- a new tree over the node that is pushed, before which the trees ts stay
new-tree : (nodes : List Node) (above over : List Above) (empties : List Bool) (x : Node) (e : Bool) (roots : List ℕ) (n : ℕ) (t : Tree) (ts : List Tree) (ps : List plain.Lexeme)
    → length empties ≡ length nodes → length over ≡ length nodes → root_of t ≡ length nodes → n ≤ length nodes
    → ((k : ℕ) (a : Above) → slice_get above k ≡ Some a → a ≢ Top → slice_get over k ≡ Some a)
    → ((k : ℕ) → k < n → slice_get above k ≡ Some Top → slice_get over k ≡ Some Top)
    → StandBelow nodes above empties n ts → AreLaidOut (nodes ++ x ∷ []) (over ++ Top ∷ []) (empties ++ e ∷ []) t
    → roots ≡ roots_of ts → pattern_of t ∷ map pattern_of ts ≡ ps → EachAfterParts nodes → PartsBefore (length nodes) x → EachBeforeNode over
    → HoldsIn (nodes ++ x ∷ []) (over ++ Top ∷ []) (empties ++ e ∷ []) (roots ++ length nodes ∷ []) ps
new-tree nodes above over empties x e roots n t ts ps empty_each above_each root fits kept tops below stands rest patterns parts new order =
    let last : slice_get (over ++ Top ∷ []) (root_of t) ≡ Some Top = ap (slice_get (over ++ Top ∷ [])) (root ∙ sym above_each) ∙ slice_get-last over Top in
    record {
      trees = t ∷ ts;
      patterns = patterns;
      at_roots = λ i. rest i ++ sym root i ∷ [];
      stand = (omega (arith, length-append nodes (x ∷ []), root), last, stands, widen n (root_of t) ts (omega (arith, root)) (all-more nodes above over empties x e empty_each kept n ts tops below));
      above_each = omega (arith, length-append nodes (x ∷ []), length-append over (Top ∷ []));
      empty_each = omega (arith, length-append nodes (x ∷ []), length-append empties (e ∷ []));
      parts = parts-more nodes x parts new;
      order = order-more over order;
    }
  where
    widen : (n m : ℕ) (us : List Tree) → n ≤ m → StandBelow (nodes ++ x ∷ []) (over ++ Top ∷ []) (empties ++ e ∷ []) n us → StandBelow (nodes ++ x ∷ []) (over ++ Top ∷ []) (empties ++ e ∷ []) m us
    widen n m [] le st = tt
    widen n m (u ∷ us) le st = (omega (arith, st.0), st.1, st.2, st.3)

-- what a new node's flag is
new-flag : (empties : List Bool) (e : Bool) (n : ℕ) → length empties ≡ n → flag_at (empties ++ e ∷ []) n ≡ e
new-flag empties e n len = ap (flag_at (empties ++ e ∷ [])) (sym len) ∙ get_or-append_seam empties e [] false

old-flag : (empties : List Bool) (e : Bool) (k : ℕ) → k < length empties → flag_at (empties ++ e ∷ []) k ≡ flag_at empties k
old-flag empties e k less = get_or-append empties (e ∷ []) false k less

module _ (nodes : List Node) (above : List Above) (empties : List Bool) (roots : List ℕ) (ps : List plain.Lexeme) (h : HoldsIn nodes above empties roots ps) where
  -- a node without parts
  pub nothing-pushed : HoldsIn (nodes ++ node.Nothing ∷ []) (above ++ Top ∷ []) (empties ++ true ∷ []) (roots ++ length nodes ∷ []) (plain.Nothing ∷ ps)
  nothing-pushed =
      new-tree nodes above above empties node.Nothing true roots (length nodes) (Nothing (length nodes)) h.trees (plain.Nothing ∷ ps) h.empty_each h.above_each refl (omega arith) (λ k a is other. is) (λ k less is. is) h.stand (slice_get-last nodes node.Nothing, new-flag empties true (length nodes) h.empty_each) h.at_roots (ap (λ qs. plain.Nothing ∷ qs) h.patterns) h.parts tt h.order

  pub leaf-pushed : (l : Leaf) → HoldsIn (nodes ++ node.Leaf l ∷ []) (above ++ Top ∷ []) (empties ++ false ∷ []) (roots ++ length nodes ∷ []) (leaf_pattern l ∷ ps)
  leaf-pushed l =
      new-tree nodes above above empties (node.Leaf l) false roots (length nodes) (OneByte (length nodes) l) h.trees (leaf_pattern l ∷ ps) h.empty_each h.above_each refl (omega arith) (λ k a is other. is) (λ k less is. is) h.stand (slice_get-last nodes (node.Leaf l), new-flag empties false (length nodes) h.empty_each) h.at_roots (ap (λ qs. leaf_pattern l ∷ qs) h.patterns) h.parts tt h.order

-- what holds after a push
pub holds-pushed : (mid new : Building) (x : Node) (e : Bool) (nodes : List Node) (over : List Above) (empties : List Bool) (roots : List ℕ) (ps : List plain.Lexeme) → mid.nodes.items ≡ nodes → mid.above.items ≡ over → mid.empties.items ≡ empties → mid.roots.items ≡ roots → Pushes mid new x e → HoldsIn (nodes ++ x ∷ []) (over ++ Top ∷ []) (empties ++ e ∷ []) (roots ++ length nodes ∷ []) ps → Holds new ps
holds-pushed mid new x e nodes over empties roots ps nodes_are above_is empties_are roots_are push h =
    rw (push.nodes, push.above, push.empties, push.roots, nodes_are, above_is, empties_are, roots_are) h

snoc_front : (xs ys : List ℕ) (a b : ℕ) → xs ++ a ∷ [] ≡ ys ++ b ∷ [] → (xs ≡ ys) × (a ≡ b)
snoc_front [] [] a b e = (refl, cc)
snoc_front [] (y ∷ ys) a b e = absurd (omega (arith, ap length e, length-append ys (b ∷ [])))
snoc_front (x ∷ xs) [] a b e = absurd (omega (arith, ap length e, length-append xs (a ∷ [])))
snoc_front (x ∷ xs) (y ∷ ys) a b e =
    let tails : xs ++ a ∷ [] ≡ ys ++ b ∷ [] = cc in
    let heads : x ≡ y = cc in
    let more = snoc_front xs ys a b tails in
    ((λ i. heads i ∷ more.0 i), more.1)

-- the tree made last, with this root
record IsOne (nodes : List Node) (above : List Above) (empties : List Bool) (rest : List ℕ) (part : ℕ) (ps : List plain.Lexeme) : Type 0 where
  t : Tree
  ts : List Tree
  patterns : pattern_of t ∷ map pattern_of ts ≡ ps
  root : root_of t ≡ part
  rest_roots : rest ≡ roots_of ts
  within : root_of t < length nodes
  is_top : slice_get above (root_of t) ≡ Some Top
  stands : AreLaidOut nodes above empties t
  below : StandBelow nodes above empties (root_of t) ts

one-of : (nodes : List Node) (above : List Above) (empties : List Bool) (rest : List ℕ) (part : ℕ) (ps : List plain.Lexeme) (trees : List Tree) → map pattern_of trees ≡ ps → StandBelow nodes above empties (length nodes) trees → rest ++ part ∷ [] ≡ roots_of trees → IsOne nodes above empties rest part ps
one-of nodes above empties rest part ps [] patterns st roots = absurd (omega (arith, ap length roots, length-append rest (part ∷ [])))
one-of nodes above empties rest part ps (t ∷ ts) patterns st roots =
    let same = snoc_front rest (roots_of ts) part (root_of t) roots in
    record { t = t; ts = ts; patterns = patterns; root = sym same.1; rest_roots = same.0; within = st.0; is_top = st.1; stands = st.2; below = st.3 }

-- the two trees made last, with these roots
record IsTwo (nodes : List Node) (above : List Above) (empties : List Bool) (rest : List ℕ) (first second : ℕ) (ps : List plain.Lexeme) : Type 0 where
  t : Tree
  u : Tree
  ts : List Tree
  patterns : pattern_of u ∷ pattern_of t ∷ map pattern_of ts ≡ ps
  first_root : root_of t ≡ first
  second_root : root_of u ≡ second
  rest_roots : rest ≡ roots_of ts
  within : root_of u < length nodes
  before : root_of t < root_of u
  first_top : slice_get above (root_of t) ≡ Some Top
  second_top : slice_get above (root_of u) ≡ Some Top
  first_stands : AreLaidOut nodes above empties t
  second_stands : AreLaidOut nodes above empties u
  below : StandBelow nodes above empties (root_of t) ts

two-of : (nodes : List Node) (above : List Above) (empties : List Bool) (rest : List ℕ) (first second : ℕ) (ps : List plain.Lexeme) (trees : List Tree) → map pattern_of trees ≡ ps → StandBelow nodes above empties (length nodes) trees → (rest ++ first ∷ []) ++ second ∷ [] ≡ roots_of trees → IsTwo nodes above empties rest first second ps
two-of nodes above empties rest first second ps [] patterns st roots = absurd (omega (arith, ap length roots, length-append (rest ++ first ∷ []) (second ∷ [])))
two-of nodes above empties rest first second ps (u ∷ []) patterns st roots =
    let same = snoc_front (rest ++ first ∷ []) [] second (root_of u) roots in
    absurd (omega (arith, ap length same.0, length-append rest (first ∷ [])))
two-of nodes above empties rest first second ps (u ∷ t ∷ ts) patterns st roots =
    let last = snoc_front (rest ++ first ∷ []) (roots_of ts ++ root_of t ∷ []) second (root_of u) roots in
    let next = snoc_front rest (roots_of ts) first (root_of t) last.0 in
    record {
      t = t;
      u = u;
      ts = ts;
      patterns = patterns;
      first_root = sym next.1;
      second_root = sym last.1;
      rest_roots = next.0;
      within = st.0;
      before = st.3.0;
      first_top = st.3.1;
      second_top = st.1;
      first_stands = st.3.2;
      second_stands = st.2;
      below = st.3.3;
    }

-- what is above a top that is written
set-kept : (above : List Above) (i : ℕ) (v : Above) → slice_get above i ≡ Some Top → (k : ℕ) (a : Above) → slice_get above k ≡ Some a → a ≢ Top → slice_get (set above i v) k ≡ Some a
set-kept above i v top k a is other = slice_get-set_other above i k v (λ e. other (let same : Some a ≡ Some Top = sym is ∙ ap (slice_get above) e ∙ top in cc)) ∙ is

module _ (nodes : List Node) (above : List Above) (empties : List Bool) (roots : List ℕ) (ps : List plain.Lexeme) (h : HoldsIn nodes above empties roots ps) (rest : List ℕ) (first second : ℕ) (two : roots ≡ (rest ++ first ∷ []) ++ second ∷ []) where
  the-two : IsTwo nodes above empties rest first second ps
  the-two = two-of nodes above empties rest first second ps h.trees h.patterns h.stand (sym two ∙ h.at_roots)

  pub two-within : (first < length nodes) × (second < length nodes)
  two-within = let d = the-two in (omega (arith, d.within, d.before, d.first_root), omega (arith, d.within, d.second_root))

  module _ (mid new : Building) (v w : Above) (e : Bool) (nodes_are : mid.nodes.items ≡ nodes) (above_is : mid.above.items ≡ set (set above first v) second w) (empties_are : mid.empties.items ≡ empties) (roots_are : mid.roots.items ≡ rest) where
    kept : (k : ℕ) (a : Above) → slice_get above k ≡ Some a → a ≢ Top → slice_get (set (set above first v) second w) k ≡ Some a
    kept k a is other =
        let d = the-two in
        let ne : second ≢ first = omega (arith, d.before, d.first_root, d.second_root) in
        let top : slice_get (set above first v) second ≡ Some Top = slice_get-set_other above first second v ne ∙ ap (slice_get above) (sym d.second_root) ∙ d.second_top in
        set-kept (set above first v) second w top k a (set-kept above first v (ap (slice_get above) (sym d.first_root) ∙ d.first_top) k a is other) other

    tops : (k : ℕ) → k < first → slice_get above k ≡ Some Top → slice_get (set (set above first v) second w) k ≡ Some Top
    tops k less is =
        let d = the-two in
        let ne : k ≢ second = omega (arith, d.before, d.first_root, d.second_root) in
        let ne' : k ≢ first = omega arith in
        slice_get-set_other (set above first v) second k w ne ∙ slice_get-set_other above first k v ne' ∙ is

    first-over : slice_get (set (set above first v) second w) first ≡ Some v
    first-over =
        let d = the-two in
        let ne : first ≢ second = omega (arith, d.before, d.first_root, d.second_root) in
        slice_get-set_other (set above first v) second first w ne ∙ slice_get-set_same above first v (omega (arith, two-within, h.above_each))

    second-over : slice_get (set (set above first v) second w) second ≡ Some w
    second-over = slice_get-set_same (set above first v) second w (omega (arith, two-within, h.above_each, length-set above first v))

    -- the tree over both
    pair-holds : (x : Node) (T : Tree) (qs : List plain.Lexeme) → root_of T ≡ length nodes → AreLaidOut (nodes ++ x ∷ []) (set (set above first v) second w ++ Top ∷ []) (empties ++ e ∷ []) T → pattern_of T ∷ map pattern_of the-two.ts ≡ qs → PartsBefore (length nodes) x → NodeAfter first v → NodeAfter second w → Pushes mid new x e → Holds new qs
    pair-holds x T qs root stands patterns before v_after w_after push =
        let d = the-two in
        holds-pushed mid new x e nodes (set (set above first v) second w) empties rest qs nodes_are above_is empties_are roots_are push
        (new-tree nodes above (set (set above first v) second w) empties x e rest (root_of d.t) T d.ts qs h.empty_each (length-set (set above first v) second w ∙ length-set above first v ∙ h.above_each) root (omega (arith, d.within, d.before)) kept (λ k less is. tops k (omega (arith, d.first_root)) is) d.below stands d.rest_roots patterns h.parts before (order-set (set above first v) second w (order-set above first v h.order v_after) w_after))

    -- each of the two in the new lists
    moved : (x : Node) (s : Tree) → AreLaidOut nodes above empties s → AreLaidOut (nodes ++ x ∷ []) (set (set above first v) second w ++ Top ∷ []) (empties ++ e ∷ []) s
    moved x s st = one-more nodes above (set (set above first v) second w) empties x e h.empty_each kept s st

    first-flag : (x : Node) → flag_at (empties ++ e ∷ []) (root_of the-two.t) ≡ flag_at empties first
    first-flag x = let d = the-two in old-flag empties e (root_of d.t) (omega (arith, d.within, d.before, h.empty_each)) ∙ ap (flag_at empties) d.first_root

    second-flag : (x : Node) → flag_at (empties ++ e ∷ []) (root_of the-two.u) ≡ flag_at empties second
    second-flag x = let d = the-two in old-flag empties e (root_of d.u) (omega (arith, d.within, h.empty_each)) ∙ ap (flag_at empties) d.second_root

    pub then-holds : v ≡ Same (length nodes) → w ≡ After (length nodes) first → e ≡ (flag_at empties first && flag_at empties second) → Pushes mid new (node.Then first second) e → Holds new (of_two plain.Then ps)
    then-holds v_is w_is e_is push =
        let d = the-two in
        let x = node.Then first second in
        let k = length nodes in
        let over = set (set above first v) second w ++ Top ∷ [] in
        pair-holds x (Then k d.t d.u) (of_two plain.Then ps) refl (
          slice_get-last nodes x ∙ ap Some (λ i. node.Then (sym d.first_root i) (sym d.second_root i)),
          new-flag empties e k h.empty_each ∙ e_is ∙ (λ i. sym (first-flag x) i && sym (second-flag x) i),
          ap (slice_get over) d.first_root ∙ slice_get-left _ (Top ∷ []) first v first-over ∙ ap Some v_is,
          ap (slice_get over) d.second_root ∙ slice_get-left _ (Top ∷ []) second w second-over ∙ ap Some w_is ∙ ap (λ m. Some (After k m)) (sym d.first_root),
          moved x d.t d.first_stands,
          moved x d.u d.second_stands,
        )
        (ap (of_two plain.Then) d.patterns) two-within (subst (NodeAfter first) (sym v_is) two-within.0) (subst (NodeAfter second) (sym w_is) two-within.1) push

    pub either-holds : v ≡ Same (length nodes) → w ≡ Same (length nodes) → e ≡ (flag_at empties first || flag_at empties second) → Pushes mid new (node.Either first second) e → Holds new (of_two plain.Either ps)
    either-holds v_is w_is e_is push =
        let d = the-two in
        let x = node.Either first second in
        let k = length nodes in
        let over = set (set above first v) second w ++ Top ∷ [] in
        pair-holds x (Either k d.t d.u) (of_two plain.Either ps) refl (
          slice_get-last nodes x ∙ ap Some (λ i. node.Either (sym d.first_root i) (sym d.second_root i)),
          new-flag empties e k h.empty_each ∙ e_is ∙ (λ i. sym (first-flag x) i || sym (second-flag x) i),
          ap (slice_get over) d.first_root ∙ slice_get-left _ (Top ∷ []) first v first-over ∙ ap Some v_is,
          ap (slice_get over) d.second_root ∙ slice_get-left _ (Top ∷ []) second w second-over ∙ ap Some w_is,
          moved x d.t d.first_stands,
          moved x d.u d.second_stands,
        )
        (ap (of_two plain.Either) d.patterns) two-within (subst (NodeAfter first) (sym v_is) two-within.0) (subst (NodeAfter second) (sym w_is) two-within.1) push

-- the tree made last, and a node over it
module _ (nodes : List Node) (above : List Above) (empties : List Bool) (roots : List ℕ) (ps : List plain.Lexeme) (h : HoldsIn nodes above empties roots ps) (rest : List ℕ) (part : ℕ) (one : roots ≡ rest ++ part ∷ []) where
  the-one : IsOne nodes above empties rest part ps
  the-one = one-of nodes above empties rest part ps h.trees h.patterns h.stand (sym one ∙ h.at_roots)

  pub one-within : part < length nodes
  one-within = let d = the-one in omega (arith, d.within, d.root)

  module _ (mid new : Building) (v : Above) (e : Bool) (nodes_are : mid.nodes.items ≡ nodes) (above_is : mid.above.items ≡ set above part v) (empties_are : mid.empties.items ≡ empties) (roots_are : mid.roots.items ≡ rest) where
    one-kept : (k : ℕ) (a : Above) → slice_get above k ≡ Some a → a ≢ Top → slice_get (set above part v) k ≡ Some a
    one-kept k a is other = let d = the-one in set-kept above part v (ap (slice_get above) (sym d.root) ∙ d.is_top) k a is other

    one-tops : (k : ℕ) → k < part → slice_get above k ≡ Some Top → slice_get (set above part v) k ≡ Some Top
    one-tops k less is = let ne : k ≢ part = omega arith in slice_get-set_other above part k v ne ∙ is

    over-holds : (T : Tree) (qs : List plain.Lexeme) → root_of T ≡ length nodes → AreLaidOut (nodes ++ node.Over part ∷ []) (set above part v ++ Top ∷ []) (empties ++ e ∷ []) T → pattern_of T ∷ map pattern_of the-one.ts ≡ qs → NodeAfter part v → Pushes mid new (node.Over part) e → Holds new qs
    over-holds T qs root stands patterns after push =
        let d = the-one in
        holds-pushed mid new (node.Over part) e nodes (set above part v) empties rest qs nodes_are above_is empties_are roots_are push
        (new-tree nodes above (set above part v) empties (node.Over part) e rest (root_of d.t) T d.ts qs h.empty_each (length-set above part v ∙ h.above_each) root (omega (arith, d.within)) one-kept (λ k less is. one-tops k (omega (arith, d.root)) is) d.below stands d.rest_roots patterns h.parts one-within (order-set above part v h.order after))

    over-node : slice_get (nodes ++ node.Over part ∷ []) (length nodes) ≡ Some (node.Over (root_of the-one.t))
    over-node = slice_get-last nodes (node.Over part) ∙ ap (λ m. Some (node.Over m)) (sym the-one.root)

    over-above : slice_get (set above part v ++ Top ∷ []) (root_of the-one.t) ≡ Some v
    over-above = ap (slice_get (set above part v ++ Top ∷ [])) the-one.root ∙ slice_get-left _ (Top ∷ []) part v (slice_get-set_same above part v (omega (arith, one-within, h.above_each)))

    over-flag : flag_at (empties ++ e ∷ []) (length nodes) ≡ e
    over-flag = new-flag empties e (length nodes) h.empty_each

    over-stands : AreLaidOut (nodes ++ node.Over part ∷ []) (set above part v ++ Top ∷ []) (empties ++ e ∷ []) the-one.t
    over-stands = one-more nodes above (set above part v) empties (node.Over part) e h.empty_each one-kept the-one.t the-one.stands

    pub many-holds : v ≡ Again (length nodes) → e ≡ true → Pushes mid new (node.Over part) e → Holds new (of_one plain.Many ps)
    many-holds v_is e_is push = let d = the-one in over-holds (Many (length nodes) d.t) (of_one plain.Many ps) refl (over-node, over-flag ∙ e_is, over-above ∙ ap Some v_is, over-stands) (ap (of_one plain.Many) d.patterns) (subst (NodeAfter part) (sym v_is) one-within) push

    pub several-holds : v ≡ Again (length nodes) → e ≡ flag_at empties part → Pushes mid new (node.Over part) e → Holds new (of_one plain.Several ps)
    several-holds v_is e_is push =
        let d = the-one in
        let flag : flag_at (empties ++ e ∷ []) (root_of d.t) ≡ flag_at empties part = old-flag empties e (root_of d.t) (omega (arith, d.within, h.empty_each)) ∙ ap (flag_at empties) d.root in
        over-holds (Several (length nodes) d.t) (of_one plain.Several ps) refl (over-node, over-flag ∙ e_is ∙ sym flag, over-above ∙ ap Some v_is, over-stands) (ap (of_one plain.Several) d.patterns) (subst (NodeAfter part) (sym v_is) one-within) push

    pub maybe-holds : v ≡ Same (length nodes) → e ≡ true → Pushes mid new (node.Over part) e → Holds new (of_one plain.Maybe ps)
    maybe-holds v_is e_is push = let d = the-one in over-holds (Maybe (length nodes) d.t) (of_one plain.Maybe ps) refl (over-node, over-flag ∙ e_is, over-above ∙ ap Some v_is, over-stands) (ap (of_one plain.Maybe) d.patterns) (subst (NodeAfter part) (sym v_is) one-within) push

-- steps that lack what they join do nothing
pub few-stay : (f : plain.Lexeme → plain.Lexeme → plain.Lexeme) (nodes : List Node) (above : List Above) (empties : List Bool) (roots after : List ℕ) (ps : List plain.Lexeme) → length roots < 2 → after ≡ roots → HoldsIn nodes above empties roots ps → HoldsIn nodes above empties after (of_two f ps)
few-stay f nodes above empties roots after ps few same h = rw same (subst (HoldsIn nodes above empties roots) (sym (few-of h.trees ps h.patterns (omega (arith, ap length h.at_roots)))) h)
  where
    few-of : (ts : List Tree) (qs : List plain.Lexeme) → map pattern_of ts ≡ qs → length (roots_of ts) < 2 → of_two f qs ≡ qs
    few-of [] qs is less = ap (of_two f) (sym is) ∙ is
    few-of (t ∷ []) qs is less = ap (of_two f) (sym is) ∙ is
    few-of (u ∷ t ∷ ts) qs is less = absurd (omega (arith, length-append (roots_of ts ++ root_of t ∷ []) (root_of u ∷ []), length-append (roots_of ts) (root_of t ∷ [])))

pub none-stays : (f : plain.Lexeme → plain.Lexeme) (nodes : List Node) (above : List Above) (empties : List Bool) (roots after : List ℕ) (ps : List plain.Lexeme) → length roots ≡ 0 → after ≡ roots → HoldsIn nodes above empties roots ps → HoldsIn nodes above empties after (of_one f ps)
none-stays f nodes above empties roots after ps few same h = rw same (subst (HoldsIn nodes above empties roots) (sym (none-of h.trees ps h.patterns (omega (arith, ap length h.at_roots)))) h)
  where
    none-of : (ts : List Tree) (qs : List plain.Lexeme) → map pattern_of ts ≡ qs → length (roots_of ts) ≡ 0 → of_one f qs ≡ qs
    none-of [] qs is less = ap (of_one f) (sym is) ∙ is
    none-of (t ∷ ts) qs is less = absurd (omega (arith, length-append (roots_of ts) (root_of t ∷ [])))

pub on-ok : {T E : Type 0} (r : Result T E) (P Q : Type 0) → (P → Q) → OnOk r P → OnOk r Q
on-ok (Ok x) P Q f p = f p
on-ok (Err e) P Q f p = tt

-- before the first step nothing is held
pub none-hold : HoldsIn [] [] [] [] []
none-hold = record { trees = []; patterns = refl; at_roots = refl; stand = tt; above_each = refl; empty_each = refl; parts = λ k x is. absurd (cc); order = λ k a is. absurd (cc) }

-- the tree made last is the program
pub last-program : (nodes : List Node) (above : List Above) (empties : List Bool) (roots rest : List ℕ) (root : ℕ) (ps : List plain.Lexeme) (p : Program) → HoldsIn nodes above empties roots ps → roots ≡ rest ++ root ∷ [] → p.nodes.items ≡ nodes → p.above.items ≡ above → p.empties.items ≡ empties → p.root ≡ root → p.barred.items ≡ [] → AreRows p p.rows → IsProgram p (first_of ps)
last-program nodes above empties roots rest root ps p h last n a e r none rows =
    let d = the-one nodes above empties roots ps h rest root last in
    record {
      tree = d.t;
      is_pattern = ap first_of d.patterns;
      is_root = d.root ∙ sym r;
      is_top = rw (r, a) (ap (slice_get above) (sym d.root) ∙ d.is_top);
      stands = rw (n, a, e) d.stands;
      above_each = rw (n, a) h.above_each;
      empty_each = rw (n, e) h.empty_each;
      ordered = record { each = rw (n, a) h.above_each; parts = rw n h.parts; order = rw a h.order; rows = rows };
      barred = λ b up. absurd (let down : false ≡ true = sym (ap (λ fs. flag_at fs b) none) ∙ up in cc);
    }

-- without a root there is no pattern
pub no-roots : (nodes : List Node) (above : List Above) (empties : List Bool) (roots : List ℕ) (ps : List plain.Lexeme) → HoldsIn nodes above empties roots ps → length roots ≡ 0 → ps ≡ []
no-roots nodes above empties roots ps h none = none-of h.trees h.patterns (omega (arith, ap length h.at_roots))
  where
    none-of : (ts : List Tree) → map pattern_of ts ≡ ps → length (roots_of ts) ≡ 0 → ps ≡ []
    none-of [] is less = sym is
    none-of (t ∷ ts) is less = absurd (omega (arith, length-append (roots_of ts) (root_of t ∷ [])))

-- one more step
pub acts-more : (is : List Instruction) (i : Instruction) (ps : List plain.Lexeme) → acts (is ++ i ∷ []) ps ≡ act i (acts is ps)
acts-more [] i ps = refl
acts-more (j ∷ is) i ps = acts-more is i (act j ps)

pub acts-step : {A : Type 0} (f : A → Instruction) (xs : List A) (i : ℕ) (x : A) (ps : List plain.Lexeme) → i < length xs → x ≡ get_or xs i x → acts (map f (take (i + 1) xs)) ps ≡ act (f x) (acts (map f (take i xs)) ps)
acts-step f xs i x ps less is =
    let whole : take (i + 1) xs ≡ take i xs ++ x ∷ [] = take_more xs i x less ∙ ap (λ y. take i xs ++ y ∷ []) (sym is) in
    ap (λ ys. acts (map f ys) ps) whole ∙ ap (λ is. acts is ps) (map-append f (take i xs) (x ∷ [])) ∙ acts-more (map f (take i xs)) (f x) ps
