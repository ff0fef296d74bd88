-- The outermost places of a term by recursion, and what is put in them.
use Rattle.std.specs.Prelude.{◌≡◌, refl, ℕ, suc, ◌+◌, ◌≤◌, Bool, true, false, not, ◌||◌, cond, List, [], ◌∷◌, ◌++◌, length, filter, Option, Some, None, slice_get, option_and_then}
use Rattle.std.specs.List.{list_any}
use Rattle.std.specs.Option.{option_map_or, option_or}
use Rattle.std.proofs.Common.{sym, ap, ◌∙◌, subst, arith, length-append}
use Rattle.std.proofs.lemmas.Bool.{or_left, false≢true}
use Rattle.std.proofs.lemmas.List.Elements.{filter-append}
use Rattle.sg_kinds.specs.Places.{Place, child, sub, put, with_child, with_kid, places_from, places_among, places_in}
use Rattle.sg_kinds.specs.Terms.{Term, Terms, Leaf, Node, NoTerm, AndTerm, terms_of, nodes_of, nodes_of_all}
use Rattle.sg_kinds.specs.declared.marks.FaultKind.{FaultKind}
use Rattle.sg_kinds.proofs.Elementary.{or_right, or_neither}
use Rattle.sg_kinds.proofs.TermLaws.{put_sub, sub_put}
use Rattle.sg_groves.proofs.Puts.{put_put}
use Rattle.sg_build.proofs.Placed.{put_over}
use Rattle.sg_select.specs.RestingPlaces.{above}
use Rattle.sg_search.specs.Walked.{hits, some_hit, stops, first_stop, changed, all_changed, added, all_added}

-- a list that is not empty
pub record HasFirst (us : List Place) : Type 0 where
  pub first : Place
  pub rest : List Place
  pub is : us ≡ first ∷ rest

has_first : (us vs : List Place) → HasFirst us → HasFirst (us ++ vs)
has_first us vs h = record { first = h.first; rest = h.rest ++ vs; is = ap (λ l. l ++ vs) h.is }

no_or : (a b : Bool) → (a || b) ≡ false → (a ≡ false) × (b ≡ false)
no_or true b h = absurd (false≢true (sym h))
no_or false b h = (refl, h)

or_none : {A : Type 0} (o : Option A) → option_or o None ≡ o
or_none None = refl
or_none (Some a) = refl

or_or : {A : Type 0} (a b c : Option A) → option_or (option_or a b) c ≡ option_or a (option_or b c)
or_or None b c = refl
or_or (Some x) b c = refl

-- a row of terms behind a list of terms
joined : List Term → Terms → Terms
joined [] ts = ts
joined (t ∷ done) ts = AndTerm t (joined done ts)

joined_kid : (done : List Term) (y : Term) (ys : Terms) → slice_get (terms_of (joined done (AndTerm y ys))) (length done) ≡ Some y
unfolding joined
joined_kid [] y ys = refl
joined_kid (t ∷ done) y ys = joined_kid done y ys

joined_put : (done : List Term) (y s : Term) (ys : Terms) → with_kid (joined done (AndTerm y ys)) (length done) s ≡ joined (done ++ s ∷ []) ys
unfolding joined
joined_put [] y s ys = refl
joined_put (t ∷ done) y s ys = ap (AndTerm t) (joined_put done y s ys)

joined_more : (done : List Term) (s : Term) (ys : Terms) → joined (done ++ s ∷ []) ys ≡ joined done (AndTerm s ys)
unfolding joined
joined_more [] s ys = refl
joined_more (t ∷ done) s ys = ap (AndTerm t) (joined_more done s ys)

joined_none : (ts : Terms) → joined [] ts ≡ ts
unfolding joined
joined_none ts = refl

-- the children from a number on stand in a whole term
StandFrom : Term → Place → ℕ → Terms → Type 0
StandFrom t u k ts = (i : ℕ) (y : Term) → slice_get (terms_of ts) i ≡ Some y → sub t ((k + i) ∷ u) ≡ Some y

stand_all : (t : Term) (u : Place) (op n : ℕ) (elided : Bool) (ts : Terms) → sub t u ≡ Some (Node op n elided ts) → StandFrom t u 0 ts
unfolding StandFrom
stand_all t u op n elided ts here i y at = let same : 0 + i ≡ i = omega arith in ap (λ j. sub t (j ∷ u)) same ∙ ap (option_and_then (child i)) here ∙ at

stand_first : (t : Term) (u : Place) (k : ℕ) (y : Term) (ys : Terms) → StandFrom t u k (AndTerm y ys) → sub t (k ∷ u) ≡ Some y
unfolding StandFrom
stand_first t u k y ys these = let same : k ≡ k + 0 = omega arith in ap (λ j. sub t (j ∷ u)) same ∙ these 0 y refl

stand_rest : (t : Term) (u : Place) (k : ℕ) (y : Term) (ys : Terms) → StandFrom t u k (AndTerm y ys) → StandFrom t u (suc k) ys
unfolding StandFrom
stand_rest t u k y ys these i x at = let same : suc k + i ≡ k + suc i = omega arith in ap (λ j. sub t (j ∷ u)) same ∙ these (suc i) x at

module _ (hit : Term → Bool) where
  -- where it applies, whether nothing above does, and the places where both are so
  abbrev pub hit_at : Term → Place → Bool
  hit_at t u = option_map_or hit (sub t u) false

  abbrev pub kept : Term → List Place → List Place
  kept t us = filter (λ u. not (list_any (hit_at t) (above u))) (filter (hit_at t) us)

  kept-append : (t : Term) (us vs : List Place) → kept t (us ++ vs) ≡ kept t us ++ kept t vs
  kept-append t us vs =
      ap (filter (λ u. not (list_any (hit_at t) (above u)))) (filter-append (hit_at t) us vs)
      ∙ filter-append (λ u. not (list_any (hit_at t) (above u))) (filter (hit_at t) us) (filter (hit_at t) vs)

  kept_in : (t : Term) (u : Place) (us : List Place) → hit_at t u ≡ true → list_any (hit_at t) (above u) ≡ false → kept t (u ∷ us) ≡ u ∷ kept t us
  kept_in t u us here none =
      ap (λ b. filter (λ v. not (list_any (hit_at t) (above v))) (cond b (u ∷ filter (hit_at t) us) (filter (hit_at t) us))) here
      ∙ ap (λ b. cond (not b) (u ∷ kept t us) (kept t us)) none

  kept_off : (t : Term) (u : Place) (us : List Place) → hit_at t u ≡ false → kept t (u ∷ us) ≡ kept t us
  kept_off t u us here = ap (λ b. filter (λ v. not (list_any (hit_at t) (above v))) (cond b (u ∷ filter (hit_at t) us) (filter (hit_at t) us))) here

  kept_out : (t : Term) (u : Place) (us : List Place) → list_any (hit_at t) (above u) ≡ true → kept t (u ∷ us) ≡ kept t us
  kept_out t u us over = by (hit_at t u) refl
    where
      by : (b : Bool) → hit_at t u ≡ b → kept t (u ∷ us) ≡ kept t us
      by true here =
          ap (λ b. filter (λ v. not (list_any (hit_at t) (above v))) (cond b (u ∷ filter (hit_at t) us) (filter (hit_at t) us))) here
          ∙ ap (λ b. cond (not b) (u ∷ kept t us) (kept t us)) over
      by false here = kept_off t u us here

  -- the outermost places at and below a place
  abbrev mutual
    pub outs_from : Place → Term → List Place
    outs_from u (Leaf p v) = cond (hit (Leaf p v)) (u ∷ []) []
    outs_from u (Node op n elided ts) = cond (hit (Node op n elided ts)) (u ∷ []) (outs_among u 0 ts)

    pub outs_among : Place → ℕ → Terms → List Place
    outs_among u k NoTerm = []
    outs_among u k (AndTerm t ts) = outs_from (k ∷ u) t ++ outs_among u (suc k) ts

  -- none below one of them
  mutual
    none_from : (t x : Term) (u : Place) → list_any (hit_at t) (above u) ≡ true → kept t (places_from u x) ≡ []
    none_from t (Leaf p v) u over = kept_out t u [] over
    none_from t (Node op n elided ts) u over = kept_out t u (places_among u 0 ts) over ∙ none_among t ts u 0 (or_right (hit_at t u) (list_any (hit_at t) (above u)) over)

    none_among : (t : Term) (ts : Terms) (u : Place) (k : ℕ) → (hit_at t u || list_any (hit_at t) (above u)) ≡ true → kept t (places_among u k ts) ≡ []
    none_among t NoTerm u k over = refl
    none_among t (AndTerm y ys) u k over =
        kept-append t (places_from (k ∷ u) y) (places_among u (suc k) ys)
        ∙ ap (λ l. l ++ kept t (places_among u (suc k) ys)) (none_from t y (k ∷ u) over) ∙ none_among t ys u (suc k) over

  mutual
    outs_are : (t x : Term) (u : Place) → sub t u ≡ Some x → list_any (hit_at t) (above u) ≡ false → kept t (places_from u x) ≡ outs_from u x
    outs_are t (Leaf p v) u there none = by (hit (Leaf p v)) refl
      where
        here : hit_at t u ≡ hit (Leaf p v)
        here = ap (λ o. option_map_or hit o false) there

        by : (b : Bool) → hit (Leaf p v) ≡ b → kept t (u ∷ []) ≡ cond (hit (Leaf p v)) (u ∷ []) []
        by true is = kept_in t u [] (here ∙ is) none ∙ sym (ap (λ b. cond b (u ∷ []) []) is)
        by false is = kept_off t u [] (here ∙ is) ∙ sym (ap (λ b. cond b (u ∷ []) []) is)
    outs_are t (Node op n elided ts) u there none =
        by (hit (Node op n elided ts)) refl (none_among t ts u 0)
        (λ clear. among_are t ts u 0 (stand_all t u op n elided ts there) clear)
      where
        x : Term
        x = Node op n elided ts

        here : hit_at t u ≡ hit (Node op n elided ts)
        here = ap (λ o. option_map_or hit o false) there

        by : (b : Bool) → hit (Node op n elided ts) ≡ b → ((hit_at t u || list_any (hit_at t) (above u)) ≡ true → kept t (places_among u 0 ts) ≡ [])
            → ((hit_at t u || list_any (hit_at t) (above u)) ≡ false → kept t (places_among u 0 ts) ≡ outs_among u 0 ts)
            → kept t (u ∷ places_among u 0 ts) ≡ cond (hit (Node op n elided ts)) (u ∷ []) (outs_among u 0 ts)
        by true is below further =
            kept_in t u (places_among u 0 ts) (here ∙ is) none
            ∙ ap (λ l. u ∷ l) (below (or_left (hit_at t u) (list_any (hit_at t) (above u)) (here ∙ is)))
            ∙ sym (ap (λ b. cond b (u ∷ []) (outs_among u 0 ts)) is)
        by false is below further =
            kept_off t u (places_among u 0 ts) (here ∙ is)
            ∙ further (or_neither (hit_at t u) (list_any (hit_at t) (above u)) (here ∙ is) none)
            ∙ sym (ap (λ b. cond b (u ∷ []) (outs_among u 0 ts)) is)

    among_are : (t : Term) (ts : Terms) (u : Place) (k : ℕ) → StandFrom t u k ts → (hit_at t u || list_any (hit_at t) (above u)) ≡ false → kept t (places_among u k ts) ≡ outs_among u k ts
    among_are t NoTerm u k these none = refl
    among_are t (AndTerm y ys) u k these none =
        kept-append t (places_from (k ∷ u) y) (places_among u (suc k) ys)
        ∙ ap (λ l. l ++ kept t (places_among u (suc k) ys)) (outs_are t y (k ∷ u) (stand_first t u k y ys these) none)
        ∙ ap (λ l. outs_from (k ∷ u) y ++ l) (among_are t ys u (suc k) (stand_rest t u k y ys these) none)

  pub outermost_are : (t : Term) → kept t (places_in t) ≡ outs_from [] t
  outermost_are t = outs_are t t [] refl refl

  -- whether there is one
  mutual
    pub outs_none : (x : Term) (u : Place) → hits hit x ≡ false → outs_from u x ≡ []
    outs_none (Leaf p v) u none = ap (λ b. cond b (u ∷ []) []) none
    outs_none (Node op n elided ts) u none =
        let both = no_or (hit (Node op n elided ts)) (some_hit hit ts) none in
        ap (λ b. cond b (u ∷ []) (outs_among u 0 ts)) both.0 ∙ among_none ts u 0 both.1

    among_none : (ts : Terms) (u : Place) (k : ℕ) → some_hit hit ts ≡ false → outs_among u k ts ≡ []
    among_none NoTerm u k none = refl
    among_none (AndTerm y ys) u k none =
        let both = no_or (hits hit y) (some_hit hit ys) none in
        ap (λ l. l ++ outs_among u (suc k) ys) (outs_none y (k ∷ u) both.0) ∙ among_none ys u (suc k) both.1

  mutual
    pub outs_some : (x : Term) (u : Place) → hits hit x ≡ true → HasFirst (outs_from u x)
    outs_some (Leaf p v) u some = record { first = u; rest = []; is = ap (λ b. cond b (u ∷ []) []) some }
    outs_some (Node op n elided ts) u some = by (hit (Node op n elided ts)) refl some (among_some ts u 0)
      where
        by : (b : Bool) → hit (Node op n elided ts) ≡ b → (hit (Node op n elided ts) || some_hit hit ts) ≡ true → (some_hit hit ts ≡ true → HasFirst (outs_among u 0 ts))
            → HasFirst (cond (hit (Node op n elided ts)) (u ∷ []) (outs_among u 0 ts))
        by true is h below = record { first = u; rest = []; is = ap (λ b. cond b (u ∷ []) (outs_among u 0 ts)) is }
        by false is h below = subst (λ b. HasFirst (cond b (u ∷ []) (outs_among u 0 ts))) (sym is) (below (sym (ap (λ b. b || some_hit hit ts) is) ∙ h))

    among_some : (ts : Terms) (u : Place) (k : ℕ) → some_hit hit ts ≡ true → HasFirst (outs_among u k ts)
    among_some NoTerm u k some = absurd (false≢true some)
    among_some (AndTerm y ys) u k some = by (hits hit y) refl some (outs_some y (k ∷ u)) (among_some ys u (suc k))
      where
        by : (b : Bool) → hits hit y ≡ b → (hits hit y || some_hit hit ys) ≡ true → (hits hit y ≡ true → HasFirst (outs_from (k ∷ u) y)) → (some_hit hit ys ≡ true → HasFirst (outs_among u (suc k) ys))
            → HasFirst (outs_from (k ∷ u) y ++ outs_among u (suc k) ys)
        by true is h first rest = has_first (outs_from (k ∷ u) y) (outs_among u (suc k) ys) (first is)
        by false is h first rest =
            subst (λ l. HasFirst (l ++ outs_among u (suc k) ys)) (sym (outs_none y (k ∷ u) is)) (rest (sym (ap (λ b. b || some_hit hit ys) is) ∙ h))

  -- the first fault
  module _ (fault : Term → Option FaultKind) where
    abbrev pub faults : Term → List Place → Option FaultKind
    faults t [] = None
    faults t (u ∷ us) = option_or (option_and_then fault (sub t u)) (faults t us)

    faults-append : (t : Term) (us vs : List Place) → faults t (us ++ vs) ≡ option_or (faults t us) (faults t vs)
    faults-append t [] vs = refl
    faults-append t (u ∷ us) vs =
        ap (option_or (option_and_then fault (sub t u))) (faults-append t us vs)
        ∙ sym (or_or (option_and_then fault (sub t u)) (faults t us) (faults t vs))

    fault_one : (t x : Term) (u : Place) → sub t u ≡ Some x → faults t (u ∷ []) ≡ fault x
    fault_one t x u there = or_none (option_and_then fault (sub t u)) ∙ ap (option_and_then fault) there

    mutual
      pub stops_are : (t x : Term) (u : Place) → sub t u ≡ Some x → faults t (outs_from u x) ≡ stops hit fault x
      stops_are t (Leaf p v) u there = by (hit (Leaf p v))
        where
          by : (b : Bool) → faults t (cond b (u ∷ []) []) ≡ cond b (fault (Leaf p v)) None
          by true = fault_one t (Leaf p v) u there
          by false = refl
      stops_are t (Node op n elided ts) u there = by (hit (Node op n elided ts)) (first_stops_are t ts u 0 (stand_all t u op n elided ts there))
        where
          by : (b : Bool) → faults t (outs_among u 0 ts) ≡ first_stop hit fault ts → faults t (cond b (u ∷ []) (outs_among u 0 ts)) ≡ cond b (fault (Node op n elided ts)) (first_stop hit fault ts)
          by true below = fault_one t (Node op n elided ts) u there
          by false below = below

      first_stops_are : (t : Term) (ts : Terms) (u : Place) (k : ℕ) → StandFrom t u k ts → faults t (outs_among u k ts) ≡ first_stop hit fault ts
      first_stops_are t NoTerm u k these = refl
      first_stops_are t (AndTerm y ys) u k these =
          faults-append t (outs_from (k ∷ u) y) (outs_among u (suc k) ys)
          ∙ ap (λ o. option_or o (faults t (outs_among u (suc k) ys))) (stops_are t y (k ∷ u) (stand_first t u k y ys these))
          ∙ ap (option_or (stops hit fault y)) (first_stops_are t ys u (suc k) (stand_rest t u k y ys these))

    -- none where it applies nowhere
    mutual
      pub no_stop : (x : Term) → hits hit x ≡ false → stops hit fault x ≡ None
      no_stop (Leaf p v) none = ap (λ b. cond b (fault (Leaf p v)) None) none
      no_stop (Node op n elided ts) none =
          let both = no_or (hit (Node op n elided ts)) (some_hit hit ts) none in
          ap (λ b. cond b (fault (Node op n elided ts)) (first_stop hit fault ts)) both.0 ∙ no_first_stop ts both.1

      pub no_first_stop : (ts : Terms) → some_hit hit ts ≡ false → first_stop hit fault ts ≡ None
      no_first_stop NoTerm none = refl
      no_first_stop (AndTerm y ys) none =
          let both = no_or (hits hit y) (some_hit hit ys) none in
          ap (λ o. option_or o (first_stop hit fault ys)) (no_stop y both.0) ∙ no_first_stop ys both.1

  -- what is put
  module _ (made : Term → Term) where
    abbrev pub puts : Term → Term → List Place → Term
    puts t w [] = w
    puts t w (u ∷ us) = puts t (put w u (option_map_or made (sub t u) t)) us

    puts-append : (t w : Term) (us vs : List Place) → puts t w (us ++ vs) ≡ puts t (puts t w us) vs
    puts-append t w [] vs = refl
    puts-append t w (u ∷ us) vs = puts-append t (put w u (option_map_or made (sub t u) t)) us vs

    put_one : (t w x : Term) (u : Place) → sub t u ≡ Some x → puts t w (u ∷ []) ≡ put w u (made x)
    put_one t w x u there = ap (λ o. put w u (option_map_or made o t)) there

    mutual
      pub puts_are : (t w x : Term) (u : Place) → sub t u ≡ Some x → sub w u ≡ Some x → puts t w (outs_from u x) ≡ put w u (changed hit made x)
      puts_are t w (Leaf p v) u there here = by (hit (Leaf p v))
        where
          by : (b : Bool) → puts t w (cond b (u ∷ []) []) ≡ put w u (cond b (made (Leaf p v)) (Leaf p v))
          by true = put_one t w (Leaf p v) u there
          by false = sym (put_sub w u (Leaf p v) here)
      puts_are t w (Node op n elided ts) u there here =
          by (hit (Node op n elided ts))
          (all_puts_are t w op n elided [] ts u 0 refl (stand_all t u op n elided ts there) (subst (λ l. sub w u ≡ Some (Node op n elided l)) (sym (joined_none ts)) here)
          ∙ ap (λ l. put w u (Node op n elided l)) (joined_none (all_changed hit made ts)))
        where
          by : (b : Bool) → puts t w (outs_among u 0 ts) ≡ put w u (Node op n elided (all_changed hit made ts))
              → puts t w (cond b (u ∷ []) (outs_among u 0 ts)) ≡ put w u (cond b (made (Node op n elided ts)) (Node op n elided (all_changed hit made ts)))
          by true below = put_one t w (Node op n elided ts) u there
          by false below = below

      all_puts_are : (t w : Term) (op n : ℕ) (elided : Bool) (done : List Term) (ts : Terms) (u : Place) (k : ℕ) → k ≡ length done → StandFrom t u k ts → sub w u ≡ Some (Node op n elided (joined done ts))
          → puts t w (outs_among u k ts) ≡ put w u (Node op n elided (joined done (all_changed hit made ts)))
      all_puts_are t w op n elided done NoTerm u k long these here = sym (put_sub w u (Node op n elided (joined done NoTerm)) here)
      all_puts_are t w op n elided done (AndTerm y ys) u k long these here =
          let r = changed hit made y in
          let old = Node op n elided (joined done (AndTerm y ys)) in
          let new = Node op n elided (joined (done ++ r ∷ []) ys) in
          let kid : child k old ≡ Some y = ap (slice_get (terms_of (joined done (AndTerm y ys)))) long ∙ joined_kid done y ys in
          let first = puts_are t w y (k ∷ u) (stand_first t u k y ys these) (ap (option_and_then (child k)) here ∙ kid) in
          let changes : with_child old k r ≡ new = ap (λ l. Node op n elided l) (ap (λ j. with_kid (joined done (AndTerm y ys)) j r) long ∙ joined_put done y r ys) in
          let now : puts t w (outs_from (k ∷ u) y) ≡ put w u new = first ∙ put_over w k u old r here ∙ ap (put w u) changes in
          let more : suc k ≡ length (done ++ r ∷ []) = (let long_is = length-append done (r ∷ []) in omega (arith, long, long_is)) in
          let rest = all_puts_are t (put w u new) op n elided (done ++ r ∷ []) ys u (suc k) more (stand_rest t u k y ys these) (sub_put w u old new here) in
          puts-append t w (outs_from (k ∷ u) y) (outs_among u (suc k) ys)
          ∙ ap (λ z. puts t z (outs_among u (suc k) ys)) now ∙ rest ∙ put_put w u new (Node op n elided (joined (done ++ r ∷ []) (all_changed hit made ys)))
          ∙ ap (λ l. put w u (Node op n elided l)) (joined_more done r (all_changed hit made ys))

    -- where it applies nowhere the term stays
    mutual
      pub unchanged : (x : Term) → hits hit x ≡ false → changed hit made x ≡ x
      unchanged (Leaf p v) none = ap (λ b. cond b (made (Leaf p v)) (Leaf p v)) none
      unchanged (Node op n elided ts) none =
          let both = no_or (hit (Node op n elided ts)) (some_hit hit ts) none in
          ap (λ b. cond b (made (Node op n elided ts)) (Node op n elided (all_changed hit made ts))) both.0 ∙ ap (Node op n elided) (all_unchanged ts both.1)

      pub all_unchanged : (ts : Terms) → some_hit hit ts ≡ false → all_changed hit made ts ≡ ts
      all_unchanged NoTerm none = refl
      all_unchanged (AndTerm y ys) none =
          let both = no_or (hits hit y) (some_hit hit ys) none in
          λ i. AndTerm (unchanged y both.0 i) (all_unchanged ys both.1 i)

    -- and its results have no nodes; all have no more than the new term
    mutual
      pub none_added : (x : Term) → hits hit x ≡ false → added hit made x ≡ 0
      none_added (Leaf p v) none = ap (λ b. cond b (nodes_of (made (Leaf p v))) 0) none
      none_added (Node op n elided ts) none =
          let both = no_or (hit (Node op n elided ts)) (some_hit hit ts) none in
          ap (λ b. cond b (nodes_of (made (Node op n elided ts))) (all_added hit made ts)) both.0 ∙ none_all_added ts both.1

      pub none_all_added : (ts : Terms) → some_hit hit ts ≡ false → all_added hit made ts ≡ 0
      none_all_added NoTerm none = refl
      none_all_added (AndTerm y ys) none =
          let both = no_or (hits hit y) (some_hit hit ys) none in
          let first = none_added y both.0 in
          let rest = none_all_added ys both.1 in
          omega (arith, first, rest)

    mutual
      pub added_low : (x : Term) → added hit made x ≤ nodes_of (changed hit made x)
      added_low (Leaf p v) = by (hit (Leaf p v))
        where
          by : (b : Bool) → cond b (nodes_of (made (Leaf p v))) 0 ≤ nodes_of (cond b (made (Leaf p v)) (Leaf p v))
          by true = omega arith
          by false = omega arith
      added_low (Node op n elided ts) = by (hit (Node op n elided ts)) (all_added_low ts)
        where
          by : (b : Bool) → all_added hit made ts ≤ nodes_of_all (all_changed hit made ts)
              → cond b (nodes_of (made (Node op n elided ts))) (all_added hit made ts) ≤ nodes_of (cond b (made (Node op n elided ts)) (Node op n elided (all_changed hit made ts)))
          by true below = omega arith
          by false below = omega (arith, below)

      all_added_low : (ts : Terms) → all_added hit made ts ≤ nodes_of_all (all_changed hit made ts)
      all_added_low NoTerm = omega arith
      all_added_low (AndTerm y ys) =
          let first = added_low y in
          let rest = all_added_low ys in
          omega (arith, first, rest)
