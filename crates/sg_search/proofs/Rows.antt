-- What a walk made of a row of terms, one more at a time, and of the node over the row.
use Rattle.std.specs.Prelude.{◌≡◌, refl, ℕ, suc, ◌+◌, Bool, true, false, cond, ◌||◌, List, [], ◌∷◌, ◌++◌, map, take, Option, Some, None, slice_get}
use Rattle.std.specs.Option.{option_or}
use Rattle.std.proofs.Common.{sym, ap, ◌∙◌, arith, drop}
use Rattle.std.proofs.lemmas.Bool.{false≢true, or_left}
use Rattle.std.proofs.lemmas.List.{map_push}
use Rattle.sg_kinds.specs.Terms.{Term, Node, AndTerm, kids_of, nodes_of}
use Rattle.sg_kinds.specs.Values.{Bytes}
use Rattle.sg_kinds.specs.declared.marks.FaultKind.{FaultKind}
use Rattle.sg_kinds.specs.declared.spec.Spec.{Spec}
use Rattle.sg_kinds.proofs.Elementary.{or_neither, or_right}
use Rattle.sg_select.proofs.Around.{split_at}
use Rattle.sg_search.specs.Found.{applies_to}
use Rattle.sg_search.specs.Made.{AreMade, IsMade, IsNew, IsOver}
use Rattle.sg_search.specs.ReplacedAll.{fault_to}
use Rattle.sg_search.specs.Walked.{hits, some_hit, stops, first_stop, changed, all_changed, added, all_added}
use Rattle.sg_search.specs.declared.replaced.WalkedRow.{WalkedRow}
use Rattle.sg_search.specs.declared.replaced.WalkedRow.TheVariants as row_made
use Rattle.sg_search.specs.declared.replaced.Walked.{Walked}
use Rattle.sg_search.specs.declared.replaced.Walked.TheVariants as made
use Rattle.sg_search.proofs.Walked.{no_first_stop, no_stop, none_added, none_all_added, unchanged}

neither : (a b : Bool) → (a || b) ≡ false → (a ≡ false) × (b ≡ false)
neither true b h = absurd (false≢true (sym h))
neither false b h = (refl, h)

-- a row with one more at its end
module _ (hit : Term → Bool) where
  hit_more : (ts : List Term) (t : Term) → some_hit hit (kids_of (ts ++ t ∷ [])) ≡ (some_hit hit (kids_of ts) || hits hit t)
  hit_more [] t = by (hits hit t)
    where
      by : (b : Bool) → (b || false) ≡ b
      by true = refl
      by false = refl
  hit_more (x ∷ ts) t = by (hits hit x) (hit_more ts t)
    where
      by : (b : Bool) → some_hit hit (kids_of (ts ++ t ∷ [])) ≡ (some_hit hit (kids_of ts) || hits hit t) → (b || some_hit hit (kids_of (ts ++ t ∷ []))) ≡ ((b || some_hit hit (kids_of ts)) || hits hit t)
      by true rest = refl
      by false rest = rest

  module _ (fault : Term → Option FaultKind) where
    stop_more : (ts us : List Term) → first_stop hit fault (kids_of (ts ++ us)) ≡ option_or (first_stop hit fault (kids_of ts)) (first_stop hit fault (kids_of us))
    stop_more [] us = refl
    stop_more (x ∷ ts) us = by (stops hit fault x) (stop_more ts us)
      where
        by : (o : Option FaultKind) → first_stop hit fault (kids_of (ts ++ us)) ≡ option_or (first_stop hit fault (kids_of ts)) (first_stop hit fault (kids_of us))
            → option_or o (first_stop hit fault (kids_of (ts ++ us))) ≡ option_or (option_or o (first_stop hit fault (kids_of ts))) (first_stop hit fault (kids_of us))
        by None rest = rest
        by (Some why) rest = refl

    none_more : (ts : List Term) (t : Term) → first_stop hit fault (kids_of ts) ≡ None → stops hit fault t ≡ None → first_stop hit fault (kids_of (ts ++ t ∷ [])) ≡ None
    none_more ts t whole rest = stop_more ts (t ∷ []) ∙ (λ i. option_or (whole i) (option_or (rest i) None))

    -- the first one that stops
    pub stop_there : (xs : List Term) (k : ℕ) (y : Term) (why : FaultKind) → slice_get xs k ≡ Some y → first_stop hit fault (kids_of (take k xs)) ≡ None → stops hit fault y ≡ Some why
        → first_stop hit fault (kids_of xs) ≡ Some why
    stop_there xs k y why at whole stop =
        ap (λ l. first_stop hit fault (kids_of l)) (split_at xs k y at) ∙ stop_more (take k xs) (y ∷ drop (suc k) xs)
        ∙ (λ i. option_or (whole i) (option_or (stop i) (first_stop hit fault (kids_of (drop (suc k) xs)))))

  module _ (made : Term → Term) where
    added_more : (ts : List Term) (t : Term) → all_added hit made (kids_of (ts ++ t ∷ [])) ≡ all_added hit made (kids_of ts) + added hit made t
    added_more [] t = omega arith
    added_more (x ∷ ts) t = let rest = added_more ts t in omega (arith, rest)

    same_items : (ts : List Term) → some_hit hit (kids_of ts) ≡ false → map (changed hit made) ts ≡ ts
    same_items [] none = refl
    same_items (x ∷ ts) none =
        let both = neither (hits hit x) (some_hit hit (kids_of ts)) none in
        λ i. unchanged hit made x both.0 i ∷ same_items ts both.1 i

    items_changed : (ts : List Term) → kids_of (map (changed hit made) ts) ≡ all_changed hit made (kids_of ts)
    items_changed [] = refl
    items_changed (t ∷ ts) = ap (AndTerm (changed hit made t)) (items_changed ts)

  module _ (fault : Term → Option FaultKind) (made : Term → Term) where
    abbrev pub NewRow : List Term → (old new : ℕ) → List Term → Type 0
    NewRow xs old new items =
        IsNew (some_hit hit (kids_of xs)) (first_stop hit fault (kids_of xs)) (all_added hit made (kids_of xs)) old new
        × (items ≡ map (changed hit made) xs)

    abbrev pub NewTerm : Term → (old new : ℕ) → Term → Type 0
    NewTerm x old new s = IsNew (hits hit x) (stops hit fault x) (added hit made x) old new × (s ≡ changed hit made x)

    abbrev pub OverRow : List Term → ℕ → Type 0
    OverRow xs old = IsOver (some_hit hit (kids_of xs)) (first_stop hit fault (kids_of xs)) (all_added hit made (kids_of xs)) old

    abbrev pub OverTerm : Term → ℕ → Type 0
    OverTerm x old = IsOver (hits hit x) (stops hit fault x) (added hit made x) old

    module _ (xs : List Term) (y : Term) (old mid now : ℕ) where
      pub same_same : some_hit hit (kids_of xs) ≡ false → mid ≡ old → hits hit y ≡ false → now ≡ mid → (some_hit hit (kids_of (xs ++ y ∷ [])) ≡ false) × (now ≡ old)
      same_same none one last two = (hit_more xs y ∙ or_neither (some_hit hit (kids_of xs)) (hits hit y) none last, two ∙ one)

      pub same_new : (s : Term) (items : List Term) → some_hit hit (kids_of xs) ≡ false → mid ≡ old → NewTerm y mid now s → items ≡ xs ++ s ∷ [] → NewRow (xs ++ y ∷ []) old now items
      same_new s items none one two is = (
        record {
          some = hit_more xs y ∙ or_right (some_hit hit (kids_of xs)) (hits hit y) two.0.some;
          whole = none_more fault xs y (no_first_stop hit fault (kids_of xs) none) two.0.whole;
          taken = let zero_is = none_all_added hit made (kids_of xs) none in let sum = added_more made xs y in let t = two.0.taken in omega (arith, zero_is, sum, t, one);
        },
        is ∙ (λ i. sym (same_items made xs none) i ++ two.1 i ∷ []) ∙ sym (map_push (changed hit made) xs y),
      )

      pub same_over : some_hit hit (kids_of xs) ≡ false → mid ≡ old → OverTerm y mid → OverRow (xs ++ y ∷ []) old
      same_over none one two = record {
        some = hit_more xs y ∙ or_right (some_hit hit (kids_of xs)) (hits hit y) two.some;
        whole = none_more fault xs y (no_first_stop hit fault (kids_of xs) none) two.whole;
        more = let sum = added_more made xs y in let t = two.more in omega (arith, sum, t, one);
      }

      pub new_same : (items more : List Term) → NewRow xs old mid items → hits hit y ≡ false → now ≡ mid → more ≡ items ++ y ∷ [] → NewRow (xs ++ y ∷ []) old now more
      new_same items more one last two is = (
        record {
          some = hit_more xs y ∙ or_left (some_hit hit (kids_of xs)) (hits hit y) one.0.some;
          whole = none_more fault xs y one.0.whole (no_stop hit fault y last);
          taken = let zero_is = none_added hit made y last in let sum = added_more made xs y in let t = one.0.taken in omega (arith, zero_is, sum, t, two);
        },
        is ∙ (λ i. one.1 i ++ sym (unchanged hit made y last) i ∷ []) ∙ sym (map_push (changed hit made) xs y),
      )

      pub new_new : (s : Term) (items more : List Term) → NewRow xs old mid items → NewTerm y mid now s → more ≡ items ++ s ∷ [] → NewRow (xs ++ y ∷ []) old now more
      new_new s items more one two is = (
        record {
          some = hit_more xs y ∙ or_left (some_hit hit (kids_of xs)) (hits hit y) one.0.some;
          whole = none_more fault xs y one.0.whole two.0.whole;
          taken = let sum = added_more made xs y in let t = one.0.taken in let u = two.0.taken in omega (arith, sum, t, u);
        },
        is ∙ (λ i. one.1 i ++ two.1 i ∷ []) ∙ sym (map_push (changed hit made) xs y),
      )

      pub new_over : (items : List Term) → NewRow xs old mid items → OverTerm y mid → OverRow (xs ++ y ∷ []) old
      new_over items one two = record {
        some = hit_more xs y ∙ or_left (some_hit hit (kids_of xs)) (hits hit y) one.0.some;
        whole = none_more fault xs y one.0.whole two.whole;
        more = let sum = added_more made xs y in let t = one.0.taken in let u = two.more in omega (arith, sum, t, u);
      }

      pub over_any : OverRow xs old → stops hit fault y ≡ None → OverRow (xs ++ y ∷ []) old
      over_any one rest = record {
        some = hit_more xs y ∙ or_left (some_hit hit (kids_of xs)) (hits hit y) one.some;
        whole = none_more fault xs y one.whole rest;
        more = let sum = added_more made xs y in let t = one.more in omega (arith, sum, t);
      }

    -- the node over a row
    module _ (op n : ℕ) (elided : Bool) (xs : List Term) (x : Term) (is : x ≡ Node op n elided (kids_of xs)) (off : hit x ≡ false) where
      node_off : hit (Node op n elided (kids_of xs)) ≡ false
      node_off = ap hit (sym is) ∙ off

      pub hits_over : hits hit x ≡ some_hit hit (kids_of xs)
      hits_over = ap (hits hit) is ∙ ap (λ b. b || some_hit hit (kids_of xs)) node_off

      pub stops_over : stops hit fault x ≡ first_stop hit fault (kids_of xs)
      stops_over = ap (stops hit fault) is ∙ ap (λ b. cond b (fault (Node op n elided (kids_of xs))) (first_stop hit fault (kids_of xs))) node_off

      pub added_over : added hit made x ≡ all_added hit made (kids_of xs)
      added_over = ap (added hit made) is ∙ ap (λ b. cond b (nodes_of (made (Node op n elided (kids_of xs)))) (all_added hit made (kids_of xs))) node_off

      pub changed_over : Node op n elided (kids_of (map (changed hit made) xs)) ≡ changed hit made x
      changed_over =
          ap (Node op n elided) (items_changed made xs)
          ∙ sym (ap (λ b. cond b (made (Node op n elided (kids_of xs))) (Node op n elided (all_changed hit made (kids_of xs)))) node_off)
          ∙ sym (ap (changed hit made) is)

      pub new_node : (old now : ℕ) (items : List Term) → NewRow xs old now items → NewTerm x old now (Node op n elided (kids_of items))
      new_node old now items row = (
        record { some = hits_over ∙ row.0.some; whole = stops_over ∙ row.0.whole; taken = let same = added_over in let t = row.0.taken in omega (arith, same, t) },
        ap (λ l. Node op n elided (kids_of l)) row.1 ∙ changed_over,
      )

      pub over_node : (old : ℕ) → OverRow xs old → OverTerm x old
      over_node old row = record { some = hits_over ∙ row.some; whole = stops_over ∙ row.whole; more = let same = added_over in let t = row.more in omega (arith, same, t) }

-- no fault where something was made
module _ (spec : Spec) (name : Bytes) where
  pub term_whole : (y : Term) (mid now : ℕ) (m : Walked) → IsMade spec name y mid now m → stops (applies_to spec name) (fault_to spec name) y ≡ None
  term_whole y mid now made.Same h = no_stop (applies_to spec name) (fault_to spec name) y h.0
  term_whole y mid now (made.New s) h = h.0.whole
  term_whole y mid now made.Over h = h.whole

  pub row_whole : (xs : List Term) (old now : ℕ) (r : WalkedRow) → AreMade spec name xs old now r → first_stop (applies_to spec name) (fault_to spec name) (kids_of xs) ≡ None
  row_whole xs old now row_made.Same h = no_first_stop (applies_to spec name) (fault_to spec name) (kids_of xs) h.0
  row_whole xs old now (row_made.New ss) h = h.0.whole
  row_whole xs old now row_made.Over h = h.whole
