-- States and the prefixes that lead to them.
use Rattle.std.proofs.Common.{◌≡◌, ℕ, zero, suc, ◌+◌, ◌<◌, ◌≤◌, ◌⊎◌, inl, inr, true, false, List, [], ◌∷◌, length, map, get_or, refl, sym, ap, ◌∙◌, subst, arith, eqb}
use Rattle.std.specs.Prelude.{Contains, AllPairs}
use Rattle.std.specs.List.{IsDistinct, list_any}
use Rattle.std.proofs.lemmas.Bool.{cases_lt, ne_eqb, eqb-true, or_cases, false≢true}
use Rattle.std.proofs.lemmas.List.{length-map}
use Rattle.std.proofs.lemmas.List.Elements.{Contains-get_or, All-contains, All-map, recursion_from_All}
use Rattle.std.proofs.lemmas.Map.Steps.{length-le_from_distinct_below}
use Rattle.sg_grammar.specs.Grammar.{Grammar}
use Rattle.sg_grammar.specs.WellFormed.{IsWellFormed}
use Rattle.sg_grammar.specs.Derives.{AllProductive}
use Rattle.sg_lalr.specs.declared.states.Move.{Move}
use Rattle.sg_lalr.specs.declared.states.Origin.{Origin}
use Rattle.sg_lalr.specs.ValidItems.{start, step, Viable, SameCore}
use Rattle.sg_lalr.specs.Items.{Item, item, HasNext, advance}
use Rattle.sg_lalr.specs.Automaton.{row_at, goto, origin, IsBehind, origin_at, IsPart, IsWhole, state_of, FoundBy, at_first, further}
use Rattle.sg_lalr.specs.Prefixes.{Less, TooMany}
use Rattle.sg_lalr.proofs.StartLemmas.{starts-from}
use Rattle.sg_lalr.proofs.RisingLemmas.{advance-has, pairs-cons, pairs-nil, pairs-head, pairs-tail, Contains-front, Contains-behind, Contains-cons, Contains-nil, All-contained}
use Rattle.sg_lalr.proofs.PartLemmas.{advance-kernel}
use Rattle.sg_lalr.proofs.CoreLemmas.{KernelOf, CoreOf, before-step, core-of-kernel, kernel-start, kernel-behind, same-kernels}

pub less-then : (u v w : List ℕ) → Less u v → Less v w → Less u w
less-then [] [] w h k = absurd h
less-then [] (Y ∷ v) [] h k = absurd k
less-then [] (Y ∷ v) (Z ∷ w) h k = tt
less-then (X ∷ u) [] w h k = absurd h
less-then (X ∷ u) (Y ∷ v) [] h k = absurd k
less-then (X ∷ u) (Y ∷ v) (Z ∷ w) (inl h) (inl k) = inl (less-then u v w h k)
less-then (X ∷ u) (Y ∷ v) (Z ∷ w) (inl h) (inr k) = inl (subst (Less u) k.0 h)
less-then (X ∷ u) (Y ∷ v) (Z ∷ w) (inr h) (inl k) = inl (subst (λ l. Less l w) (sym h.0) k)
less-then (X ∷ u) (Y ∷ v) (Z ∷ w) (inr h) (inr k) = inr (h.0 ∙ k.0, (let a = h.1 in let b = k.1 in omega (arith, a, b)))

module _ (g : Grammar) (formed : IsWellFormed g) (productive : AllProductive g) (entry : 0 < length g.entries)
    (kernels cores : List (List Item)) (moves : List (List Move)) (origins : List Origin) (part : IsPart g kernels cores moves origins) where
  pub kernel-same : (i j : ℕ) → i < length kernels → j < length kernels → row_at kernels i ≡ row_at kernels j → i ≡ j
  kernel-same i j l m e = elim (cases_lt i j) [
    | inl less ↦ absurd (part.distinct i j [] less m e)
    | inr ge ↦ elim (cases_lt j i) [ inl more ↦ absurd (part.distinct j i [] more l (sym e)) | inr le ↦ omega (arith, ge, le) ]
  ]

  pub core-at : (w : List ℕ) (s : ℕ) → s < length cores → KernelOf g w (row_at kernels s) → CoreOf g w (row_at cores s)
  core-at w s l k = core-of-kernel g formed productive w (row_at kernels s) (row_at cores s) (part.kernel s (let f = part.few in omega (arith, f, l))) k (part.closed s l)

  pub found-kernel : (s : ℕ) (w : List ℕ) → FoundBy origins s w → (s < length kernels) × KernelOf g w (row_at kernels s)
  found-kernel _ _ at_first = (part.some, subst (KernelOf g []) (sym part.first) (kernel-start g formed productive))
  found-kernel _ _ (further k s w low is f) =
      let c = part.comes k low in
      let i = found-kernel s w f in
      let core = core-at w (origin_at origins k).state c.expanded (subst (λ t. KernelOf g w (row_at kernels t)) is i.1) in
      ((let n = part.count in omega (arith, n, low)), subst (KernelOf g ((origin_at origins k).symbol ∷ w)) (sym c.behind) (kernel-behind g formed productive w (row_at cores (origin_at origins k).state) (origin_at origins k).symbol core))

  pub longer-viable : (w : List ℕ) (core : List Item) (X : ℕ) → CoreOf g w core → HasNext g core X → Viable g (X ∷ w)
  longer-viable w core X c h =
      let v = (c h.0.production h.0.dot).0 h.1 in
      (h.0.production, suc h.0.dot, (v.0, step w h.0.production h.0.dot v.0 X v.1 h.2))

  pub found-viable : (s : ℕ) (w : List ℕ) → FoundBy origins s w → Viable g w
  found-viable _ _ at_first = (length g.rules + 0, zero, (zero, start 0 (length g.rules + 0) entry refl))
  found-viable _ _ (further k s w low is f) =
      let c = part.comes k low in
      longer-viable w (row_at cores (origin_at origins k).state) (origin_at origins k).symbol (core-at w (origin_at origins k).state c.expanded (subst (λ t. KernelOf g w (row_at kernels t)) is (found-kernel s w f).1)) c.next

  found-upto : (f s : ℕ) → s ≤ f → s < length kernels → (w : List ℕ) × FoundBy origins s w
  found-upto f zero l m = ([], at_first)
  found-upto zero (suc k) l m = absurd (omega (arith, l))
  found-upto (suc f) (suc k) l m =
      let low : k < length origins = let n = part.count in omega (arith, n, m) in
      let c = part.comes k low in
      let i = found-upto f (origin_at origins k).state (let e = c.earlier in omega (arith, e, l)) (let e = c.earlier in omega (arith, e, m)) in
      ((origin_at origins k).symbol ∷ i.0, further k (origin_at origins k).state i.0 low refl i.1)

  pub found-some : (s : ℕ) → s < length kernels → (w : List ℕ) × FoundBy origins s w
  found-some s l = found-upto s s (omega arith) l

  pub found-same : (s t : ℕ) (w v : List ℕ) → s ≡ t → FoundBy origins s w → FoundBy origins t v → w ≡ v
  found-same _ _ _ _ e at_first at_first = refl
  found-same _ _ _ _ e at_first (further k s w low is f) = absurd (omega (arith, e))
  found-same _ _ _ _ e (further k s w low is f) at_first = absurd (omega (arith, e))
  found-same _ _ _ _ e (further k s w low is f) (further k' s' w' low' is' f') =
      let same : k ≡ k' = omega (arith, e) in
      let rest : w ≡ w' = found-same s s' w w' (is ∙ ap (λ j. (origin_at origins j).state) same ∙ sym is') f f' in
      (λ i. (origin_at origins (same i)).symbol ∷ rest i)

  -- states that were found earlier were found by lesser prefixes
  pub found-less : (i j : ℕ) (u v : List ℕ) → i < j → FoundBy origins i u → FoundBy origins j v → Less u v
  found-less _ _ _ _ l at_first at_first = absurd (omega (arith, l))
  found-less _ _ _ _ l at_first (further k s w low is f) = tt
  found-less _ _ _ _ l (further k s w low is f) at_first = absurd (omega (arith, l))
  found-less _ _ _ _ l (further a s w low is f) (further b s' w' low' is' f') = elim (part.rising a b (origin 0 0) (omega (arith, l)) low') [
    | inl less ↦ inl (found-less s s' w w' (subst (λ t. t < s') (sym is) (subst (λ t. (origin_at origins a).state < t) (sym is') less)) f f')
    | inr same ↦ inr (found-same s s' w w' (is ∙ same.0 ∙ sym is') f f', same.1)
  ]

  -- the prefixes of the first n states, the last first
  abbrev Listed : ℕ → List (List ℕ) → Type 0
  Listed zero [] = Unit {0}
  Listed zero (w ∷ ws) = ⊥
  Listed (suc n) [] = ⊥
  Listed (suc n) (w ∷ ws) = FoundBy origins n w × Listed n ws

  listed-some : (n : ℕ) → n ≤ length kernels → (ws : List (List ℕ)) × Listed n ws
  listed-some zero l = ([], tt)
  listed-some (suc n) l = let i = listed-some n (omega (arith, l)) in let w = found-some n (omega (arith, l)) in (w.0 ∷ i.0, (w.1, i.1))

  listed-length : (n : ℕ) (ws : List (List ℕ)) → Listed n ws → length ws ≡ n
  listed-length zero [] h = refl
  listed-length zero (w ∷ ws) h = absurd h
  listed-length (suc n) [] h = absurd h
  listed-length (suc n) (w ∷ ws) h = ap suc (listed-length n ws h.1)

  listed-at : (n : ℕ) (ws : List (List ℕ)) (u : List ℕ) → Listed n ws → Contains ws u → (v : ℕ) × (v < n) × FoundBy origins v u
  listed-at zero [] u h c = absurd (Contains-nil u c)
  listed-at zero (w ∷ ws) u h c = absurd h
  listed-at (suc n) [] u h c = absurd h
  listed-at (suc n) (w ∷ ws) u h c = elim (Contains-cons w ws u c) [
    | inl e ↦ (n, omega arith, subst (FoundBy origins n) e h.0)
    | inr r ↦ let i = listed-at n ws u h.1 r in (i.0, (let l = i.1 in omega (arith, l)), i.2)
  ]

  abbrev Differ : List ℕ → List ℕ → Type 0
  Differ w h = SameCore g w h → ⊥

  found-differ : (i j : ℕ) (u v : List ℕ) → (i ≡ j → ⊥) → FoundBy origins i u → FoundBy origins j v → Differ u v
  found-differ i j u v apart f f' same =
      let k = found-kernel i u f in
      let k' = found-kernel j v f' in
      apart (kernel-same i j k.0 k'.0 (same-kernels g formed productive u v (row_at kernels i) (row_at kernels j) (part.kernel i k.0) (part.kernel j k'.0) k.1 k'.1 same))

  listed-differ : (n : ℕ) (ws : List (List ℕ)) → Listed n ws → AllPairs Differ ws
  listed-differ zero [] h = pairs-nil Differ
  listed-differ zero (w ∷ ws) h = absurd h
  listed-differ (suc n) [] h = absurd h
  listed-differ (suc n) (w ∷ ws) h =
      pairs-cons Differ w ws (λ u c. let i = listed-at n ws u h.1 c in found-differ n i.0 w u (λ e. let l = i.1 in omega (arith, e, l)) h.0 i.2) (listed-differ n ws h.1)

  -- a kernel more than there may be
  pub too-many : length kernels ≡ 65536 → (s X : ℕ) → s < length cores → HasNext g (row_at cores s) X → (Contains kernels (advance g X (row_at cores s)) → ⊥) → TooMany g
  too-many full s X low next absent =
      let all = listed-some (length kernels) (omega arith) in
      let f = found-some s (let e = part.few in omega (arith, e, low)) in
      let core = core-at f.0 s low (found-kernel s f.0 f.1).1 in
      let kernel = kernel-behind g formed productive f.0 (row_at cores s) X core in
      let long = listed-length (length kernels) all.0 all.1 in
      record {
        prefixes = (X ∷ f.0) ∷ all.0;
        many = omega (arith, long, full);
        viable = All-contained (Viable g) ((X ∷ f.0) ∷ all.0) (λ u c. elim (Contains-cons (X ∷ f.0) all.0 u c) [
          | inl e ↦ subst (Viable g) e (longer-viable f.0 (row_at cores s) X core next)
          | inr r ↦ let i = listed-at (length kernels) all.0 u all.1 r in found-viable i.0 u i.2
        ]);
        different = pairs-cons Differ (X ∷ f.0) all.0 (λ u c same.
            let i = listed-at (length kernels) all.0 u all.1 c in
            let k = found-kernel i.0 u i.2 in
            absent (subst (Contains kernels) (sym (same-kernels g formed productive (X ∷ f.0) u (advance g X (row_at cores s)) (row_at kernels i.0) (advance-kernel g X (row_at kernels s) (row_at cores s) (part.closed s low)) (part.kernel i.0 k.0) kernel k.1 same)) (Contains-get_or kernels i.0 [] k.0)))
            (listed-differ (length kernels) all.0 all.1);
      }

distinct-numbers : (f : List ℕ → ℕ) (ws : List (List ℕ)) → AllPairs (λ (w h : List ℕ). f w ≡ f h → ⊥) ws → IsDistinct eqb (map f ws)
unfolding IsDistinct
distinct-numbers f [] h = tt
distinct-numbers f (w ∷ ws) h = (
  recursion_from_All (λ y. eqb (f w) y ≡ false) (map f ws) (All-map (λ y. eqb (f w) y ≡ false) f ws (All-contained (λ v. eqb (f w) (f v) ≡ false) ws (λ v c. ne_eqb (f w) (f v) (pairs-head (λ (u v : List ℕ). f u ≡ f v → ⊥) w ws h v c)))),
  distinct-numbers f ws (pairs-tail (λ (u v : List ℕ). f u ≡ f v → ⊥) w ws h),
)

numbers-below : (f : List ℕ → ℕ) (n : ℕ) (ws : List (List ℕ)) → ((w : List ℕ) → Contains ws w → f w < n) → (q : ℕ) → list_any (eqb q) (map f ws) ≡ true → q < n
numbers-below f n [] h q e = absurd (false≢true e)
numbers-below f n (w ∷ ws) h q e = elim (or_cases (eqb q (f w)) (list_any (eqb q) (map f ws)) e) [
  | inl here ↦ (let l = h w (Contains-front w ws) in let s = eqb-true q (f w) here in omega (arith, l, s))
  | inr later ↦ numbers-below f n ws (λ u c. h u (Contains-behind w ws u c)) q later
]

module _ (g : Grammar) (formed : IsWellFormed g) (productive : AllProductive g) (entry : 0 < length g.entries)
    (kernels cores : List (List Item)) (moves : List (List Move)) (origins : List Origin) (whole : IsWhole g kernels cores moves origins) where
  part : IsPart g kernels cores moves origins
  part = whole.part

  -- the move on a symbol behind a dot
  leads : (w : List ℕ) (s X : ℕ) → s < length kernels → HasNext g (row_at cores s) X → IsBehind g kernels (row_at cores s) X (goto moves s X)
  leads w s X l h = part.leads s X (let m = whole.moved in omega (arith, m, l)) h

  pub cored : (s : ℕ) → s < length kernels → s < length cores
  cored s l = let c = whole.cored in omega (arith, c, l)

  pub state-of-viable : (w : List ℕ) → Viable g w → (state_of moves w < length kernels) × KernelOf g w (row_at kernels (state_of moves w))
  state-of-viable [] v = (part.some, subst (KernelOf g []) (sym part.first) (kernel-start g formed productive))
  state-of-viable (X ∷ w) v =
      let b = before-step g X w v.0 v.1 v.2.0 v.2.1 in
      let i = state-of-viable w (b.0, b.1, b.2) in
      let s = state_of moves w in
      let core = core-at g formed productive entry kernels cores moves origins part w s (cored s i.0) i.1 in
      let next : HasNext g (row_at cores s) X = (item b.0 b.1, (core b.0 b.1).1 b.2, b.3) in
      let to = leads w s X i.0 next in
      (to.0, subst (KernelOf g (X ∷ w)) (sym to.1) (kernel-behind g formed productive w (row_at cores s) X core))

  pub core-of-state : (w : List ℕ) → Viable g w → CoreOf g w (row_at cores (state_of moves w))
  core-of-state w v = let i = state-of-viable w v in core-at g formed productive entry kernels cores moves origins part w (state_of moves w) (cored (state_of moves w) i.0) i.1

  pub same-state : (w h : List ℕ) → Viable g w → Viable g h → SameCore g w h → state_of moves w ≡ state_of moves h
  same-state w h v v' same =
      let i = state-of-viable w v in
      let j = state-of-viable h v' in
      kernel-same g formed productive entry kernels cores moves origins part (state_of moves w) (state_of moves h) i.0 j.0
      (same-kernels g formed productive w h (row_at kernels (state_of moves w)) (row_at kernels (state_of moves h)) (part.kernel (state_of moves w) i.0) (part.kernel (state_of moves h) j.0) i.1 j.1 same)

  pub same-core : (w h : List ℕ) → Viable g w → Viable g h → state_of moves w ≡ state_of moves h → SameCore g w h
  same-core w h v v' same p d =
      let c = core-of-state w v in
      let c' = subst (λ s. CoreOf g h (row_at cores s)) (sym same) (core-of-state h v') in
      (λ m. (c' p d).0 ((c p d).1 m), λ m. (c p d).0 ((c' p d).1 m))

  pub found-state : (s : ℕ) (w : List ℕ) → FoundBy origins s w → state_of moves w ≡ s
  found-state _ _ at_first = refl
  found-state _ _ (further k s w low is f) =
      let c = part.comes k low in
      let i = found-state s w f in
      let o = origin_at origins k in
      let to = leads w o.state o.symbol (let e = c.earlier in let n = part.count in omega (arith, e, n, low)) c.next in
      ap (λ t. goto moves t o.symbol) (i ∙ is) ∙ kernel-same g formed productive entry kernels cores moves origins part (goto moves o.state o.symbol) (suc k) to.0 (let n = part.count in omega (arith, n, low)) (to.1 ∙ sym c.behind)

  -- the prefix by which the state of a prefix was found is the least that leads to it
  found-least-step : (X : ℕ) (w m l : List ℕ) (s : ℕ) → Viable g (X ∷ w) → (m ≡ w) ⊎ Less m w → FoundBy origins (state_of moves w) m → s ≡ state_of moves (X ∷ w) → FoundBy origins s l → (l ≡ X ∷ w) ⊎ Less l (X ∷ w)
  found-least-step X w m _ _ v le fm e at_first =
      let b = before-step g X w v.0 v.1 v.2.0 v.2.1 in
      let low = (state-of-viable w (b.0, b.1, b.2)).0 in
      let core = core-of-state w (b.0, b.1, b.2) in
      let here = (core b.0 b.1).1 b.2 in
      let to = leads w (state_of moves w) X low (item b.0 b.1, here, b.3) in
      let c : Contains (row_at kernels 0) (item b.0 (suc b.1)) = subst (λ t. Contains (row_at kernels t) (item b.0 (suc b.1))) (sym e) (subst (λ r. Contains r (item b.0 (suc b.1))) (sym to.1) (advance-has g X (row_at cores (state_of moves w)) (item b.0 b.1) here b.3)) in
      let z = starts-from (length g.rules) (length g.entries) (item b.0 (suc b.1)) (subst (λ r. Contains r (item b.0 (suc b.1))) part.first c) in
      absurd (let d : suc b.1 ≡ 0 = ap (λ (i : Item). i.dot) z.2 in omega (arith, d))
  found-least-step X w m _ _ v le fm e (further k s l low is f) =
      let b = before-step g X w v.0 v.1 v.2.0 v.2.1 in
      let there = (state-of-viable w (b.0, b.1, b.2)).0 in
      let core = core-of-state w (b.0, b.1, b.2) in
      let next : HasNext g (row_at cores (state_of moves w)) X = (item b.0 b.1, (core b.0 b.1).1 b.2, b.3) in
      let o = origin_at origins k in
      let not_later = part.earliest (state_of moves w) X k (let n = whole.moved in omega (arith, n, there)) next (sym e) in
      let less : Less l m → Less l w = λ h. elim le [ inl is' ↦ subst (Less l) is' h | inr k' ↦ less-then l m w h k' ] in
      elim not_later [
        | inl earlier ↦ elim earlier [
          | inl before ↦ inr (inl (less (found-less g formed productive entry kernels cores moves origins part s (state_of moves w) l m (subst (λ t. t < state_of moves w) (sym is) before) f fm)))
          | inr same ↦
              let one : l ≡ m = found-same g formed productive entry kernels cores moves origins part s (state_of moves w) l m (is ∙ same.0) f fm in
              elim le [
                | inl is' ↦ inr (inr (one ∙ is', same.1))
                | inr k' ↦ inr (inl (subst (λ z. Less z w) (sym one) k'))
              ]
        ]
        | inr same ↦
            let one : l ≡ m = found-same g formed productive entry kernels cores moves origins part s (state_of moves w) l m (is ∙ same.0) f fm in
            elim le [
              | inl is' ↦ inl (λ i. same.1 i ∷ (one ∙ is') i)
              | inr k' ↦ inr (inl (subst (λ z. Less z w) (sym one) k'))
            ]
      ]

  pub found-least : (w l : List ℕ) → Viable g w → FoundBy origins (state_of moves w) l → (l ≡ w) ⊎ Less l w
  found-least [] l v f = inl (found-same g formed productive entry kernels cores moves origins part 0 0 l [] refl f at_first)
  found-least (X ∷ w) l v f =
      let b = before-step g X w v.0 v.1 v.2.0 v.2.1 in
      let m = found-some g formed productive entry kernels cores moves origins part (state_of moves w) (state-of-viable w (b.0, b.1, b.2)).0 in
      found-least-step X w m.0 l (state_of moves (X ∷ w)) v (found-least w m.0 (b.0, b.1, b.2) m.1) m.1 refl f

  pub not-too-many : TooMany g → ⊥
  not-too-many t =
      let below = λ (w : List ℕ) (c : Contains t.prefixes w). (state-of-viable w (All-contains (Viable g) t.prefixes w t.viable c)).0 in
      let apart : AllPairs (λ (w h : List ℕ). state_of moves w ≡ state_of moves h → ⊥) t.prefixes = λ i j d l m e.
      t.different i j d l m (same-core (get_or t.prefixes i d) (get_or t.prefixes j d) (t.viable i d (omega (arith, l, m))) (t.viable j d m) e) in
      let few = length-le_from_distinct_below (map (state_of moves) t.prefixes) (length kernels) (distinct-numbers (state_of moves) t.prefixes apart) (numbers-below (state_of moves) (length kernels) t.prefixes below) in
      let long = length-map t.prefixes (state_of moves) in
      let many = t.many in
      let fit = whole.fit in
      omega (arith, few, long, many, fit)
