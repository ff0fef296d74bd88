-- Lemmas on rows that nodes share.
use Rattle.std.proofs.Common.{◌≡◌, ℕ, suc, ◌+◌, ◌<◌, ◌≤◌, ◌⊎◌, inl, inr, max, List, [], ◌∷◌, ◌++◌, length, refl, sym, ap, ◌∙◌, subst, arith}
use Rattle.std.specs.Prelude.{slice_index, slice_set}
use Rattle.std.proofs.lemmas.Bool.{cases_eq, cases_lt}
use Rattle.std.proofs.lemmas.List.{get_or_append_left, get_or_push, get_or-set_same, get_or-set_other, length_push}
use Rattle.sg_grammar.specs.Grammar.{Grammar}
use Rattle.sg_lalr.specs.declared.lookaheads.Node.{Node}
use Rattle.sg_lalr.specs.Items.{Item}
use Rattle.sg_lalr.specs.Lookaheads.{node_at, BeginsWith, IsLaid}
use Rattle.sg_lalr.specs.Slots.{Shares, AreSlots, IsOneEach, HasRow, GetsNext, GetsKnown, GetsFirst}
use Rattle.sg_lalr.proofs.CornerLemmas.{HasLeft-at}

pub same-left : (g : Grammar) (i : Item) (X Y : ℕ) → BeginsWith g i X → BeginsWith g i Y → X ≡ Y
same-left g i X Y h k = HasLeft-at g.rules X i.production k.1.0 k.1.1 h.1 ∙ sym k.1.2

shares-sym : (g : Grammar) (nodes : List Node) (b c : ℕ) → Shares g nodes b c → Shares g nodes c b
shares-sym g nodes b c (inl e) = inl (sym e)
shares-sym g nodes b c (inr s) = inr (s.0, sym s.1, s.3, s.2)

shares-trans : (g : Grammar) (nodes : List Node) (b c d : ℕ) → Shares g nodes b c → Shares g nodes c d → Shares g nodes b d
shares-trans g nodes b c d (inl e) k = subst (λ z. Shares g nodes z d) (sym e) k
shares-trans g nodes b c d (inr s) (inl e) = subst (Shares g nodes b) e (inr s)
shares-trans g nodes b c d (inr s) (inr t) = inr (s.0, s.1 ∙ t.1, s.2, subst (BeginsWith g (node_at nodes d).item) (same-left g (node_at nodes c).item t.0 s.0 t.2 s.3) t.3)

below-more : (c m : ℕ) → c < m + 1 → (c < m) ⊎ (c ≡ m)
below-more c m l = elim (cases_lt c m) [ inl low ↦ inl low | inr high ↦ inr (omega (arith, l, high)) ]

-- the rows of the nodes with one more
module _ (slots : List ℕ) (k m : ℕ) (long : length slots ≡ m) where
  pub slot-old : (c : ℕ) → c < m → slice_index (slots ++ k ∷ []) c ≡ slice_index slots c
  slot-old c l = get_or_append_left slots (k ∷ []) 0 c (omega (arith, l, long))

  pub slot-new : slice_index (slots ++ k ∷ []) m ≡ k
  slot-new = get_or_push slots k 0 m long

-- a node more with a row of its own, and with the row of another node
module _ (g : Grammar) (nodes : List Node) (m : ℕ) (slots : List ℕ) (count : ℕ) (are : AreSlots g nodes m slots count) where
  old-at : (k c : ℕ) → c < m → slice_index (slots ++ k ∷ []) c ≡ slice_index slots c
  old-at k = slot-old slots k m are.long

  new-at : (k : ℕ) → slice_index (slots ++ k ∷ []) m ≡ k
  new-at k = slot-new slots k m are.long

  pub slots-own : AreSlots g nodes (m + 1) (slots ++ count ∷ []) (count + 1)
  slots-own = record {
    long = let l = are.long in omega (arith, l, length_push slots count);
    few = let f = are.few in omega (arith, f);
    within = λ c l. elim (below-more c m l) [
      | inl low ↦ (let w = are.within c low in omega (arith, w, old-at count c low))
      | inr e ↦ (let n = ap (slice_index (slots ++ count ∷ [])) e ∙ new-at count in omega (arith, n))
    ];
    apart = λ b c l k e. elim (below-more b m l) [
      | inl low ↦ elim (below-more c m k) [
        | inl low' ↦ are.apart b c low low' (sym (old-at count b low) ∙ e ∙ old-at count c low')
        | inr same ↦ absurd (let w = are.within b low in let n = ap (slice_index (slots ++ count ∷ [])) same ∙ new-at count in omega (arith, w, n, e, old-at count b low))
      ]
      | inr same ↦ elim (below-more c m k) [
        | inl low' ↦ absurd (let w = are.within c low' in let n = ap (slice_index (slots ++ count ∷ [])) same ∙ new-at count in omega (arith, w, n, e, old-at count c low'))
        | inr same' ↦ inl (same ∙ sym same')
      ]
    ];
  }

  pub slots-shared : (d : ℕ) → d < m → Shares g nodes d m → AreSlots g nodes (m + 1) (slots ++ slice_index slots d ∷ []) count
  slots-shared d there s =
      let k = slice_index slots d in record {
        long = let l = are.long in omega (arith, l, length_push slots k);
        few = let f = are.few in omega (arith, f);
        within = λ c l. elim (below-more c m l) [
          | inl low ↦ (let w = are.within c low in omega (arith, w, old-at k c low))
          | inr e ↦ (let w = are.within d there in let n = ap (slice_index (slots ++ k ∷ [])) e ∙ new-at k in omega (arith, n, w))
        ];
        apart = λ b c l h e. elim (below-more b m l) [
          | inl low ↦ elim (below-more c m h) [
            | inl low' ↦ are.apart b c low low' (sym (old-at k b low) ∙ e ∙ old-at k c low')
            | inr same ↦ subst (Shares g nodes b) (sym same) (shares-trans g nodes b d m (are.apart b d low there (sym (old-at k b low) ∙ e ∙ ap (slice_index (slots ++ k ∷ [])) same ∙ new-at k)) s)
          ]
          | inr same ↦ elim (below-more c m h) [
            | inl low' ↦ subst (λ z. Shares g nodes z c) (sym same) (shares-sym g nodes c m (shares-trans g nodes c d m (are.apart c d low' there (sym (old-at k c low') ∙ sym e ∙ ap (slice_index (slots ++ k ∷ [])) same ∙ new-at k)) s))
            | inr same' ↦ inl (same ∙ sym same')
          ]
        ];
      }

-- the nodes of a state below a place have their rows, and the symbols theirs
pub record Filled (g : Grammar) (nodes : List Node) (from m base : ℕ) (at slots : List ℕ) (count : ℕ) : Type 0 where
  pub are : AreSlots g nodes m slots count
  pub low : base ≤ count
  pub past : (X : ℕ) → slice_index at X ≤ count
  pub known : (X k : ℕ) → HasRow base at X k → (c : ℕ) × (from ≤ c) × (c < m) × BeginsWith g (node_at nodes c).item X × (slice_index slots c ≡ k)
  pub all : (c X : ℕ) → from ≤ c → c < m → BeginsWith g (node_at nodes c).item X → HasRow base at X (slice_index slots c)

pub filled-none : (g : Grammar) (nodes : List Node) (from : ℕ) (at slots : List ℕ) (count : ℕ) → ((X : ℕ) → slice_index at X ≤ count) → AreSlots g nodes from slots count → Filled g nodes from from count at slots count
filled-none g nodes from at slots count past are = record {
  are = are;
  low = omega arith;
  past = past;
  known = λ X k e. absurd (let l = e.0 in let n = e.1 in let p = past X in omega (arith, l, n, p));
  all = λ c X l h. absurd (omega (arith, l, h));
}

module _ (g : Grammar) (nodes : List Node) (from m base : ℕ) (at slots : List ℕ) (count : ℕ) (low : from ≤ m) (f : Filled g nodes from m base at slots count) where
  old-is : (k c : ℕ) → c < m → slice_index (slots ++ k ∷ []) c ≡ slice_index slots c
  old-is k = slot-old slots k m (f.are).long

  new-is : (k : ℕ) → slice_index (slots ++ k ∷ []) m ≡ k
  new-is k = slot-new slots k m (f.are).long

  -- what was known of a symbol still is
  known-old : (s X k : ℕ) → HasRow base at X k → (c : ℕ) × (from ≤ c) × (c < m + 1) × BeginsWith g (node_at nodes c).item X × (slice_index (slots ++ s ∷ []) c ≡ k)
  known-old s X k e = let o = f.known X k e in (o.0, o.1, (let l = o.2 in omega (arith, l)), o.3, old-is s o.0 o.2 ∙ o.4)

  all-old : (s c X : ℕ) → from ≤ c → c < m → BeginsWith g (node_at nodes c).item X → HasRow base at X (slice_index (slots ++ s ∷ []) c)
  all-old s c X l h b = subst (HasRow base at X) (sym (old-is s c h)) (f.all c X l h b)

  pub filled-next : ((X : ℕ) → BeginsWith g (node_at nodes m).item X → ⊥) → Filled g nodes from (m + 1) base at (slots ++ count ∷ []) (count + 1)
  filled-next none = record {
    are = slots-own g nodes m slots count f.are;
    low = let l = f.low in omega (arith, l);
    past = λ X. let p = f.past X in omega (arith, p);
    known = known-old count;
    all = λ c X l h b. elim (below-more c m h) [
      | inl before ↦ all-old count c X l before b
      | inr same ↦ absurd (none X (subst (λ z. BeginsWith g (node_at nodes z).item X) same b))
    ];
  }

  pub filled-known : (X slot : ℕ) → BeginsWith g (node_at nodes m).item X → HasRow base at X slot → ((b : ℕ) → from ≤ b → b < m → (node_at nodes b).state ≡ (node_at nodes m).state) → (slot < count) × Filled g nodes from (m + 1) base at (slots ++ slot ∷ []) count
  filled-known X slot begins is here =
      let o = f.known X slot is in
      let more = slots-shared g nodes m slots count f.are o.0 o.2 (inr (X, here o.0 o.1 o.2, o.3, begins)) in (
        (let w = (f.are).within o.0 o.2 in let e = o.4 in omega (arith, w, e)),
        record {
          are = subst (λ k. AreSlots g nodes (m + 1) (slots ++ k ∷ []) count) o.4 more;
          low = f.low;
          past = f.past;
          known = known-old slot;
          all = λ c Y l h b. elim (below-more c m h) [
            | inl before ↦ all-old slot c Y l before b
            | inr same ↦
                let there = subst (λ z. BeginsWith g (node_at nodes z).item Y) same b in
                let last = sym (ap (slice_index (slots ++ slot ∷ [])) same ∙ new-is slot) in
                subst (λ Z. HasRow base at Z (slice_index (slots ++ slot ∷ []) c)) (sym (same-left g (node_at nodes m).item Y X there begins)) (subst (HasRow base at X) last is)
          ];
        },
      )

  pub filled-first : (X : ℕ) → BeginsWith g (node_at nodes m).item X → slice_index at X ≤ base → X < length at → Filled g nodes from (m + 1) base (slice_set at X (count + 1)) (slots ++ count ∷ []) (count + 1)
  filled-first X begins none there = record {
    are = slots-own g nodes m slots count f.are;
    low = let l = f.low in omega (arith, l);
    past = λ Y. elim (cases_eq Y X) [
      | inl same ↦ (let e = ap (slice_index (slice_set at X (count + 1))) same ∙ here in omega (arith, e))
      | inr other ↦ (let p = f.past Y in omega (arith, p, other-is Y other))
    ];
    known = λ Y k e. elim (cases_eq Y X) [
      | inl same ↦
          let is : count ≡ k = let n = e.1 in omega (arith, n, ap (slice_index (slice_set at X (count + 1))) same ∙ here) in
          (m, low, omega arith, subst (BeginsWith g (node_at nodes m).item) (sym same) begins, new-is count ∙ is)
      | inr other ↦ known-old count Y k (e.0, sym (other-is Y other) ∙ e.1)
    ];
    all = λ c Y l h b. elim (below-more c m h) [
      | inl before ↦
          let was = all-old count c Y l before b in
          let other : Y ≡ X → ⊥ = λ e. let i = ap (slice_index at) e in let b = was.0 in let n = was.1 in omega (arith, none, i, b, n) in
          (was.0, other-is Y other ∙ was.1)
      | inr same ↦
          let e = same-left g (node_at nodes m).item Y X (subst (λ z. BeginsWith g (node_at nodes z).item Y) same b) begins in
          let last : slice_index (slots ++ count ∷ []) c ≡ count = ap (slice_index (slots ++ count ∷ [])) same ∙ new-is count in
          subst (λ Z. HasRow base (slice_set at X (count + 1)) Z (slice_index (slots ++ count ∷ []) c)) (sym e) (subst (HasRow base (slice_set at X (count + 1)) X) (sym last) (f.low, here))
    ];
  }
    where
      here : slice_index (slice_set at X (count + 1)) X ≡ count + 1
      here = get_or-set_same at X (count + 1) 0 there

      other-is : (Y : ℕ) → (Y ≡ X → ⊥) → slice_index (slice_set at X (count + 1)) Y ≡ slice_index at Y
      other-is = λ Y other. get_or-set_other at X Y (count + 1) 0 other

  -- the row that a node gets
  pub filled-more : (new : List ℕ) (slot more : ℕ) → more ≡ max count (slot + 1) → ((b : ℕ) → from ≤ b → b < m → (node_at nodes b).state ≡ (node_at nodes m).state)
      → GetsNext g (node_at nodes m).item at new count slot ⊎ (GetsKnown g (node_at nodes m).item base at new slot ⊎ GetsFirst g (node_at nodes m).item base at new count slot)
      → (slot ≤ count) × Filled g nodes from (m + 1) base new (slots ++ slot ∷ []) more
  filled-more new slot more is here (inl next) = (
    (let e = next.2 in omega (arith, e)),
    subst (λ a. Filled g nodes from (m + 1) base a (slots ++ slot ∷ []) more) (sym next.1)
        (subst (λ k. Filled g nodes from (m + 1) base at (slots ++ k ∷ []) more) (sym next.2) (subst (Filled g nodes from (m + 1) base at (slots ++ count ∷ [])) (let e = next.2 in let q : count + 1 ≡ more = omega (arith, e, is) in q) (filled-next next.0))),
  )
  filled-more new slot more is here (inr (inl known)) =
      let k = filled-known known.0 slot known.1 known.2 here in (
        (let l = k.0 in omega (arith, l)),
        subst (λ a. Filled g nodes from (m + 1) base a (slots ++ slot ∷ []) more) (sym known.3) (subst (Filled g nodes from (m + 1) base at (slots ++ slot ∷ [])) (let l = k.0 in let q : count ≡ more = omega (arith, l, is) in q) k.1),
      )
  filled-more new slot more is here (inr (inr first)) = (
    (let e = first.5 in omega (arith, e)),
    subst (λ a. Filled g nodes from (m + 1) base a (slots ++ slot ∷ []) more) (sym first.4)
        (subst (λ k. Filled g nodes from (m + 1) base (slice_set at first.0 (count + 1)) (slots ++ k ∷ []) more) (sym first.5) (subst (Filled g nodes from (m + 1) base (slice_set at first.0 (count + 1)) (slots ++ count ∷ [])) (let e = first.5 in let q : count + 1 ≡ more = omega (arith, e, is) in q) (filled-first first.0 first.1 first.2 first.3))),
  )

  -- nodes that begin productions of one symbol have one row
  pub filled-one : IsOneEach g nodes from m slots
  filled-one b c X l h k j x y = let s = (f.all b X l h x).1 in let t = (f.all c X k j y).1 in omega (arith, s, t)

-- the rows of the states before one
pub record Stated (g : Grammar) (nodes : List Node) (firsts : List ℕ) (s : ℕ) (slots : List ℕ) (count : ℕ) : Type 0 where
  pub are : AreSlots g nodes (slice_index firsts s) slots count
  pub low : (t : ℕ) → t < s → slice_index firsts (suc t) ≤ slice_index firsts s
  pub one : (t : ℕ) → t < s → IsOneEach g nodes (slice_index firsts t) (slice_index firsts (suc t)) slots

pub stated-none : (g : Grammar) (cores : List (List Item)) (nodes : List Node) (firsts : List ℕ) → IsLaid cores nodes firsts → Stated g nodes firsts 0 [] 0
stated-none g cores nodes firsts laid = record {
  are = subst (λ n. AreSlots g nodes n [] 0) (sym laid.start) (record {
    long = refl;
    few = omega arith;
    within = λ m l. absurd (omega (arith, l));
    apart = λ b c l. absurd (omega (arith, l));
  });
  low = λ t l. absurd (omega (arith, l));
  one = λ t l. absurd (omega (arith, l));
}

pub stated-more : (g : Grammar) (cores : List (List Item)) (nodes : List Node) (firsts : List ℕ) → IsLaid cores nodes firsts → (s : ℕ) (old now : List ℕ) (was count : ℕ) → s < length cores → Stated g nodes firsts s old was
    → AreSlots g nodes (slice_index firsts (suc s)) now count → IsOneEach g nodes (slice_index firsts s) (slice_index firsts (suc s)) now → ((m : ℕ) → m < slice_index firsts s → slice_index now m ≡ slice_index old m)
    → Stated g nodes firsts (suc s) now count
stated-more g cores nodes firsts laid s old now was count there st are one keeps = record {
  are = are;
  low = λ t l. elim (cases_lt t s) [
    | inl before ↦ (let k = st.low t before in let r = laid.rising s there in omega (arith, k, r))
    | inr late ↦ (let e : s ≡ t = omega (arith, l, late) in subst (λ z. slice_index firsts (suc z) ≤ slice_index firsts (suc s)) e (omega arith))
  ];
  one = λ t l. elim (cases_lt t s) [
    | inl before ↦ (λ b c X h k i j x y.
        let top = st.low t before in
        keeps b (omega (arith, k, top)) ∙ st.one t before b c X h k i j x y ∙ sym (keeps c (omega (arith, j, top))))
    | inr late ↦ (let e : s ≡ t = omega (arith, l, late) in subst (λ z. IsOneEach g nodes (slice_index firsts z) (slice_index firsts (suc z)) now) e one)
  ];
}
