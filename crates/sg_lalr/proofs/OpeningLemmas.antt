-- Lemmas on the productions that begin because of symbols, and on what a kernel opens.
use Rattle.std.proofs.Common.{◌≡◌, ◌≢◌, ℕ, suc, ◌+◌, ◌<◌, ◌≤◌, ◌⊎◌, inl, inr, Bool, true, false, List, [], ◌∷◌, ◌++◌, length, get_or, take, refl, sym, ap, ◌∙◌, subst, arith, Some, None}
use Rattle.std.specs.Prelude.{◌↔◌, slice_index_or, Contains, AllPairs, nat_eq}
use Rattle.std.specs.Ordering.{nat_cmp}
use Rattle.std.specs.Cmp.{unsigned_Decides}
use Rattle.std.specs.List.Sorted.{IsPermutation, IsSorted}
use Rattle.std.proofs.Math.ListN.{set}
use Rattle.std.proofs.lemmas.Bool.{cases_lt, cases_eq}
use Rattle.std.proofs.lemmas.Cmp.{nat_eq_equiv}
use Rattle.std.proofs.lemmas.List.{take_more, get_or_append_left, get_or_push, get_or_past, length_push, get_or-set_same, get_or-set_other}
use Rattle.std.proofs.lemmas.List.Elements.{Contains-get_or, Contains-push, Contains-push_cases, Contains-append_left, Contains-append_right, Contains-append_cases}
use Rattle.std.proofs.lemmas.List.Quantifiers.{all_pairs_push}
use Rattle.std.proofs.lemmas.List.Sorted.{Contains-permutation, IsPermutation-sym, IsNonDecreasingBy-from_sort}
use Rattle.std.proofs.lemmas.Map.Keys.{IsDistinct-IsPermutation}
use Rattle.std.proofs.lemmas.Map.Made.{AllPairs-from_IsDistinct, IsDistinct-from_AllPairs}
use Rattle.std.proofs.lemmas.Map.Steps.{length-le_from_distinct_below}
use Rattle.std.proofs.lemmas.Map.Views.{Contains-from_any}
use Rattle.std.proofs.lemmas.Option.{slice_get_within, get_or_from_slice_get, same_Some, none-some}
use Rattle.sg_grammar.specs.declared.grammar.Production.{Production}
use Rattle.sg_grammar.specs.Grammar.{Grammar}
use Rattle.sg_grammar.specs.WellFormed.{IsRule, IsWellFormed}
use Rattle.sg_sets.specs.Members.{Has}
use Rattle.sg_sets.proofs.MembersLemmas.{has-below}
use Rattle.sg_lalr.specs.Items.{Item, symbol_of}
use Rattle.sg_lalr.specs.Closure.{Corner, same, further, Opens, OpensAt, AreOpenings, AreOpened}
use Rattle.sg_lalr.proofs.RisingLemmas.{Contains-nil, pairs-nil}

opens-within-corner : (rules : List Production) (a q : ℕ) → Corner rules a q → q < length rules
opens-within-corner rules _ _ (same a r is) = slice_get_within rules a r is
opens-within-corner rules _ _ (further a b c X r corner is first left) = slice_get_within rules c left.0 left.1

pub opens-within : (rules : List Production) (X q : ℕ) → Opens rules X q → q < length rules
opens-within rules X q o = opens-within-corner rules o.0 q o.2

-- what opens productions is a nonterminal
pub opens-left : (g : Grammar) (X q : ℕ) → IsWellFormed g → Opens g.rules X q → (g.terminals ≤ X) × (X < g.symbols)
opens-left g X q formed o =
    let left = o.1 in
    let rule : IsRule (suc (length g.entries)) g.terminals g.symbols left.0 = subst (IsRule (suc (length g.entries)) g.terminals g.symbols) (get_or_from_slice_get g.rules o.0 left.0 left.0 left.1) (formed.rules o.0 left.0 (slice_get_within g.rules o.0 left.0 left.1)) in
    let is = left.2 in
    let low = rule.0 in
    let high = rule.1 in
    (omega (arith, is, low), omega (arith, is, high))

-- the lists of the first n symbols
pub record OpeningsTo (g : Grammar) (lists : List (List ℕ)) (n : ℕ) : Type 0 where
  pub count : length lists ≡ n
  pub exact : (X q : ℕ) → X < n → Contains (slice_index_or lists X []) q ↔ Opens g.rules X q

pub openings-none : (g : Grammar) → OpeningsTo g [] 0
openings-none g = record { count = refl; exact = λ X q l. absurd (omega (arith, l)) }

pub openings-more : (g : Grammar) (lists : List (List ℕ)) (n : ℕ) (list : List ℕ) → ((q : ℕ) → Contains list q ↔ Opens g.rules n q) → OpeningsTo g lists n → OpeningsTo g (lists ++ list ∷ []) (n + 1)
openings-more g lists n list is o =
    let long = o.count in record {
      count = omega (arith, length_push lists list, long);
      exact = λ X q l. elim (cases_lt X n) [
        | inl low ↦ subst (λ r. Contains r q ↔ Opens g.rules X q) (sym (get_or_append_left lists (list ∷ []) [] X (omega (arith, low, long)))) (o.exact X q low)
        | inr high ↦
            let e : n ≡ X = omega (arith, l, high) in
            subst (λ Y. Contains (slice_index_or (lists ++ list ∷ []) Y []) q ↔ Opens g.rules Y q) e (subst (λ r. Contains r q ↔ Opens g.rules n q) (sym (get_or_push lists list [] n long)) (is q))
      ];
    }

pub openings-terminal : (g : Grammar) (X : ℕ) (list : List ℕ) → IsWellFormed g → X < g.terminals → list ≡ [] → (q : ℕ) → Contains list q ↔ Opens g.rules X q
openings-terminal g X list formed low none q = (
  λ c. absurd (Contains-nil q (subst (λ l. Contains l q) none c)),
  λ o. absurd (let high = (opens-left g X q formed o).0 in omega (arith, low, high)),
)

pub openings-all : (g : Grammar) (lists : List (List ℕ)) (n : ℕ) → IsWellFormed g → n ≡ g.symbols → OpeningsTo g lists n → AreOpenings g lists
openings-all g lists n formed end o =
    let long = o.count in record {
      count = long ∙ end;
      exact = λ X q. elim (cases_lt X n) [
        | inl low ↦ o.exact X q low
        | inr high ↦ (
          λ c. absurd (Contains-nil q (subst (λ l. Contains l q) (get_or_past lists X [] (omega (arith, high, long))) c)),
          λ h. absurd (let low = (opens-left g X q formed h).1 in omega (arith, low, high, end)),
        )
      ];
    }

-- what stands in the rows of some symbols
abbrev pub GathersAll : List (List ℕ) → List ℕ → List ℕ → Type 0
GathersAll rows symbols list = (q : ℕ) → Contains list q ↔ ((Y : ℕ) × Contains symbols Y × Contains (slice_index_or rows Y []) q)

pub gathers-none : (rows : List (List ℕ)) → GathersAll rows [] []
gathers-none rows q = (λ c. absurd (Contains-nil q c), λ h. absurd (Contains-nil h.0 h.1))

pub gathers-more : (rows : List (List ℕ)) (symbols list : List ℕ) (k Y : ℕ) → k < length symbols → Y ≡ get_or symbols k Y → GathersAll rows (take k symbols) list → GathersAll rows (take (k + 1) symbols) (list ++ slice_index_or rows Y [])
gathers-more rows symbols list k Y low is gathers q =
    let row = slice_index_or rows Y [] in
    let more : take (k + 1) symbols ≡ take k symbols ++ Y ∷ [] = take_more symbols k Y low ∙ ap (λ y. take k symbols ++ y ∷ []) (sym is) in (
      λ c. elim (Contains-append_cases list row q c) [
        | inl old ↦ (let by = (gathers q).0 old in (by.0, subst (λ l. Contains l by.0) (sym more) (Contains-append_left (take k symbols) (Y ∷ []) by.0 by.1), by.2))
        | inr new ↦ (Y, subst (λ l. Contains l Y) (sym more) (Contains-push (take k symbols) Y), new)
      ],
      λ h. elim (Contains-push_cases (take k symbols) Y h.0 (subst (λ l. Contains l h.0) more h.1)) [
        | inl before ↦ Contains-append_left list row q ((gathers q).1 (h.0, before, h.2))
        | inr e ↦ Contains-append_right list row q (subst (λ y. Contains (slice_index_or rows y []) q) (sym e) h.2)
      ],
    )

-- a set with a number more
has-set : (there : List Bool) (p q : ℕ) → p < length there → Has (set there p true) q ↔ (Has there q ⊎ (p ≡ q))
has-set there p q low = (
  λ h. elim (cases_eq q p) [
    | inl e ↦ inr (sym e)
    | inr other ↦ inl (sym (get_or-set_other there p q true false other) ∙ h)
  ],
  λ h. elim (cases_eq q p) [
    | inl e ↦ ap (λ k. get_or (set there p true) k false) e ∙ get_or-set_same there p true false low
    | inr other ↦ elim h [ inl old ↦ get_or-set_other there p q true false other ∙ old | inr e ↦ absurd (other (sym e)) ]
  ],
)

pub opened-none : (there : List Bool) → ((q : ℕ) → Has there q → ⊥) → AreOpened there []
opened-none there none = record { apart = pairs-nil ◌≢◌; exact = λ q. (λ c. absurd (Contains-nil q c), λ h. absurd (none q h)) }

pub opened-new : (there : List Bool) (list : List ℕ) (p : ℕ) → p < length there → (Has there p → ⊥) → AreOpened there list → AreOpened (set there p true) (list ++ p ∷ [])
opened-new there list p low absent o = record {
  apart = all_pairs_push ◌≢◌ list p o.apart (λ k d l e. absent ((o.exact p).0 (subst (Contains list) e (Contains-get_or list k d l))));
  exact = λ q. (
    λ c. elim (Contains-push_cases list p q c) [ inl old ↦ (has-set there p q low).1 (inl ((o.exact q).0 old)) | inr e ↦ (has-set there p q low).1 (inr e) ],
    λ h. elim ((has-set there p q low).0 h) [
      | inl old ↦ Contains-append_left list (p ∷ []) q ((o.exact q).1 old)
      | inr e ↦ subst (Contains (list ++ p ∷ [])) e (Contains-push list p)
    ],
  );
}

pub opened-old : (there : List Bool) (list : List ℕ) (p : ℕ) → p < length there → Has there p → AreOpened there list → AreOpened (set there p true) list
opened-old there list p low has o = record {
  apart = o.apart;
  exact = λ q. (
    λ c. (has-set there p q low).1 (inl ((o.exact q).0 c)),
    λ h. elim ((has-set there p q low).0 h) [ inl old ↦ (o.exact q).1 old | inr e ↦ (o.exact q).1 (subst (Has there) e has) ],
  );
}

-- numbers that are each once in the set are no more than its width
pub opened-few : (there : List Bool) (list : List ℕ) → AreOpened there list → length list ≤ length there
opened-few there list o = length-le_from_distinct_below list (length there) (IsDistinct-from_AllPairs unsigned_Decides list o.apart) (λ q e. has-below there q ((o.exact q).0 (Contains-from_any (λ x y. (unsigned_Decides x y).0) q list e)))

-- the set has gained these numbers
abbrev pub GainsAll : List Bool → List Bool → List ℕ → Type 0
GainsAll old there list = (q : ℕ) → Has there q ↔ (Has old q ⊎ Contains list q)

pub gains-none : (old : List Bool) → GainsAll old old []
gains-none old q = (λ h. inl h, λ h. elim h [ inl o ↦ o | inr c ↦ absurd (Contains-nil q c) ])

pub gains-more : (old there : List Bool) (list : List ℕ) (k p : ℕ) → k < length list → p ≡ get_or list k p → p < length there → GainsAll old there (take k list) → GainsAll old (set there p true) (take (k + 1) list)
gains-more old there list k p low is within o q =
    let more : take (k + 1) list ≡ take k list ++ p ∷ [] = take_more list k p low ∙ ap (λ y. take k list ++ y ∷ []) (sym is) in (
      λ h. elim ((has-set there p q within).0 h) [
        | inl was ↦ elim ((o q).0 was) [ inl older ↦ inl older | inr c ↦ inr (subst (λ l. Contains l q) (sym more) (Contains-append_left (take k list) (p ∷ []) q c)) ]
        | inr e ↦ inr (subst (λ l. Contains l q) (sym more) (subst (Contains (take k list ++ p ∷ [])) e (Contains-push (take k list) p)))
      ],
      λ h. elim h [
        | inl older ↦ (has-set there p q within).1 (inl ((o q).1 (inl older)))
        | inr c ↦ elim (Contains-push_cases (take k list) p q (subst (λ l. Contains l q) more c)) [
          | inl before ↦ (has-set there p q within).1 (inl ((o q).1 (inr before)))
          | inr e ↦ (has-set there p q within).1 (inr e)
        ]
      ],
    )

pub gains-openings : (g : Grammar) (lists : List (List ℕ)) (old now : List Bool) (list : List ℕ) (X : ℕ) → AreOpenings g lists → list ≡ slice_index_or lists X [] → GainsAll old now list → (q : ℕ) → Has now q ↔ (Has old q ⊎ Opens g.rules X q)
gains-openings g lists old now list X are is gains q = (
  λ h. elim ((gains q).0 h) [ inl was ↦ inl was | inr c ↦ inr ((are.exact X q).0 (subst (λ l. Contains l q) is c)) ],
  λ h. elim h [ inl was ↦ (gains q).1 (inl was) | inr o ↦ (gains q).1 (inr (subst (λ l. Contains l q) (sym is) ((are.exact X q).1 o))) ],
)

-- what the items open
abbrev pub OpenedBy : Grammar → List Bool → List Item → Type 0
OpenedBy g there items = (q : ℕ) → Has there q ↔ ((i : Item) × Contains items i × OpensAt g i q)

pub by-none : (g : Grammar) (there : List Bool) → ((q : ℕ) → Has there q → ⊥) → OpenedBy g there []
by-none g there none q = (λ h. absurd (none q h), λ by. absurd (Contains-nil by.0 by.1))

module _ (g : Grammar) (kernel : List Item) (n : ℕ) (i : Item) (low : n < length kernel) (reads : i ≡ get_or kernel n i) where
  more : take (n + 1) kernel ≡ take n kernel ++ i ∷ []
  more = take_more kernel n i low ∙ ap (λ j. take n kernel ++ j ∷ []) (sym reads)

  older : (q : ℕ) → (j : Item) × Contains (take n kernel) j × OpensAt g j q → (j : Item) × Contains (take (n + 1) kernel) j × OpensAt g j q
  older q by = (by.0, subst (λ l. Contains l by.0) (sym more) (Contains-append_left (take n kernel) (i ∷ []) by.0 by.1), by.2)

  pub by-more : (now next : List Bool) (X : ℕ) → symbol_of g i ≡ Some X → OpenedBy g now (take n kernel) → ((q : ℕ) → Has next q ↔ (Has now q ⊎ Opens g.rules X q)) → OpenedBy g next (take (n + 1) kernel)
  by-more now next X is o gains q = (
    λ h. elim ((gains q).0 h) [
      | inl was ↦ older q ((o q).0 was)
      | inr opens ↦ (i, subst (λ l. Contains l i) (sym more) (Contains-push (take n kernel) i), (X, is, opens))
    ],
    λ by. elim (Contains-push_cases (take n kernel) i by.0 (subst (λ l. Contains l by.0) more by.1)) [
      | inl before ↦ (gains q).1 (inl ((o q).1 (by.0, before, by.2)))
      | inr itself ↦
          let symbol : by.2.0 ≡ X = same_Some by.2.0 X (sym by.2.1 ∙ ap (symbol_of g) (sym itself) ∙ is) in
          (gains q).1 (inr (subst (λ Y. Opens g.rules Y q) symbol by.2.2))
    ],
  )

  pub by-same : (now : List Bool) → symbol_of g i ≡ None → OpenedBy g now (take n kernel) → OpenedBy g now (take (n + 1) kernel)
  by-same now is o q = (
    λ h. older q ((o q).0 h),
    λ by. elim (Contains-push_cases (take n kernel) i by.0 (subst (λ l. Contains l by.0) more by.1)) [
      | inl before ↦ (o q).1 (by.0, before, by.2)
      | inr itself ↦ absurd (none-some by.2.0 (sym is ∙ ap (symbol_of g) itself ∙ by.2.1))
    ],
  )

-- numbers each once, sorted
pub sorted-rising : (numbers sorted : List ℕ) → AllPairs ◌≢◌ numbers → IsPermutation numbers sorted → IsSorted nat_cmp sorted → AllPairs ◌<◌ sorted
sorted-rising numbers sorted each p up i j d l m =
    let rises = IsNonDecreasingBy-from_sort (λ x. x) sorted up i j d (omega (arith, l)) m in
    let apart = AllPairs-from_IsDistinct unsigned_Decides sorted (IsDistinct-IsPermutation nat_eq nat_eq_equiv.symm numbers sorted p (IsDistinct-from_AllPairs unsigned_Decides numbers each)) i j d l m in
    omega (arith, rises, apart)

pub sorted-exact : (P : ℕ → Type 0) (numbers sorted : List ℕ) → IsPermutation numbers sorted → ((q : ℕ) → Contains numbers q ↔ P q) → (q : ℕ) → Contains sorted q ↔ P q
sorted-exact P numbers sorted p e q = (λ c. (e q).0 (Contains-permutation sorted numbers q (IsPermutation-sym numbers sorted p) c), λ h. Contains-permutation numbers sorted q p ((e q).1 h))
