-- What is replaced everywhere, by the walk over the term.
use Rattle.std.specs.Prelude.{◌≡◌, refl, ℕ, ◌<◌, Bool, true, false, cond, List, [], ◌∷◌, Option, Some, None, slice_get, option_and_then, MatchOption}
use Rattle.std.specs.Option.{option_map_or, option_or}
use Rattle.std.proofs.Common.{sym, ap, ◌∙◌, arith}
use Rattle.std.proofs.lemmas.Bool.{false≢true, or_left}
use Rattle.sg_kinds.specs.Fits.{Fits, AllFit}
use Rattle.sg_kinds.specs.Places.{Place, put, sub}
use Rattle.sg_kinds.specs.Sound.{IsSound}
use Rattle.sg_kinds.specs.Terms.{Term, Terms, Leaf, Node, NoTerm, AndTerm, nodes_of}
use Rattle.sg_kinds.specs.Values.{Bytes}
use Rattle.sg_kinds.specs.declared.marks.FaultKind.{FaultKind}
use Rattle.sg_kinds.specs.declared.spec.Operator.{Operator}
use Rattle.sg_kinds.specs.declared.spec.Spec.{Spec}
use Rattle.sg_search.specs.Found.{applies_to, is_known, outer}
use Rattle.sg_search.specs.ReplacedAll.{NoneNamed, NoneApplies, Fails, Makes, by_places, fault_to, first_fault, made_to, put_all, replaced_all}
use Rattle.sg_search.specs.Walked.{hits, some_hit, stops, first_stop, changed, all_changed, added, all_added}
use Rattle.sg_search.specs.Why.{IsTooLarge}
use Rattle.sg_search.proofs.Given.{made_fits}
use Rattle.sg_search.proofs.Walked.{added_low, faults, outermost_are, outs_from, outs_none, outs_some, puts, puts_are, stops_are}

-- the walk at a term at which it applies
module _ (hit : Term → Bool) where
  pub hits_here : (x : Term) → hit x ≡ true → hits hit x ≡ true
  hits_here (Leaf p v) here = here
  hits_here (Node op n elided ts) here = or_left (hit (Node op n elided ts)) (some_hit hit ts) here

  module _ (fault : Term → Option FaultKind) where
    pub stops_here : (x : Term) → hit x ≡ true → stops hit fault x ≡ fault x
    stops_here (Leaf p v) here = ap (λ b. cond b (fault (Leaf p v)) None) here
    stops_here (Node op n elided ts) here = ap (λ b. cond b (fault (Node op n elided ts)) (first_stop hit fault ts)) here

    -- a fault is that of a place at which it applies
    pub stops_some : (x : Term) (why : FaultKind) → (hits hit x ≡ false → stops hit fault x ≡ None) → stops hit fault x ≡ Some why → hits hit x ≡ true
    stops_some x why none stop = by (hits hit x) refl
      where
        by : (b : Bool) → hits hit x ≡ b → hits hit x ≡ true
        by true is = is
        by false is = let e : ◌≡◌ {A = Option FaultKind} None (Some why) = sym (none is) ∙ stop in absurd (cc e)

  module _ (made : Term → Term) where
    pub changed_here : (x : Term) → hit x ≡ true → changed hit made x ≡ made x
    changed_here (Leaf p v) here = ap (λ b. cond b (made (Leaf p v)) (Leaf p v)) here
    changed_here (Node op n elided ts) here = ap (λ b. cond b (made (Node op n elided ts)) (Node op n elided (all_changed hit made ts))) here

    pub added_here : (x : Term) → hit x ≡ true → added hit made x ≡ nodes_of (made x)
    added_here (Leaf p v) here = ap (λ b. cond b (nodes_of (made (Leaf p v))) 0) here
    added_here (Node op n elided ts) here = by (hit (Node op n elided ts)) here
      where
        by : (b : Bool) → b ≡ true → cond b (nodes_of (made (Node op n elided ts))) (all_added hit made ts) ≡ nodes_of (made (Node op n elided ts))
        by true is = refl
        by false is = absurd (false≢true is)

-- the new term fits
module _ (spec : Spec) (hit : Term → Bool) (fault : Term → Option FaultKind) (made : Term → Term)
    (fit : (y : Term) (q : ℕ) → Fits spec y q → hit y ≡ true → fault y ≡ None → Fits spec (made y) q) where
  none_or : (a b : Option FaultKind) → option_or a b ≡ None → (a ≡ None) × (b ≡ None)
  none_or None b h = (refl, h)
  none_or (Some why) b h = absurd (cc h)

  mutual
    pub changed_fits : (x : Term) (p : ℕ) → Fits spec x p → stops hit fault x ≡ None → Fits spec (changed hit made x) p
    changed_fits (Leaf q v) p fits whole = by (hit (Leaf q v)) refl whole
      where
        by : (b : Bool) → hit (Leaf q v) ≡ b → cond b (fault (Leaf q v)) None ≡ None → Fits spec (cond b (made (Leaf q v)) (Leaf q v)) p
        by true is none = fit (Leaf q v) p fits is none
        by false is none = fits
    changed_fits (Node op n elided ts) p fits whole = by (hit (Node op n elided ts)) refl whole (all_changed_fit ts)
      where
        over : (o : Option Operator) → ((ps : List ℕ) → AllFit spec ts ps → AllFit spec (all_changed hit made ts) ps)
            → MatchOption o ⊥ (λ (y : Operator). (y.phylum ≡ p) × (n < 16) × AllFit spec ts y.args)
            → MatchOption o ⊥ (λ (y : Operator). (y.phylum ≡ p) × (n < 16) × AllFit spec (all_changed hit made ts) y.args)
        over None below h = h
        over (Some y) below h = (h.0, h.1, below y.args h.2)

        by : (b : Bool) → hit (Node op n elided ts) ≡ b → cond b (fault (Node op n elided ts)) (first_stop hit fault ts) ≡ None
            → ((ps : List ℕ) → AllFit spec ts ps → first_stop hit fault ts ≡ None → AllFit spec (all_changed hit made ts) ps)
            → Fits spec (cond b (made (Node op n elided ts)) (Node op n elided (all_changed hit made ts))) p
        by true is none below = fit (Node op n elided ts) p fits is none
        by false is none below = over (slice_get spec.ops op) (λ ps all. below ps all none) fits

    all_changed_fit : (ts : Terms) (ps : List ℕ) → AllFit spec ts ps → first_stop hit fault ts ≡ None → AllFit spec (all_changed hit made ts) ps
    all_changed_fit NoTerm [] fits whole = tt
    all_changed_fit NoTerm (p ∷ ps) fits whole = fits
    all_changed_fit (AndTerm y ys) [] fits whole = absurd fits
    all_changed_fit (AndTerm y ys) (p ∷ ps) fits whole =
        let both = none_or (stops hit fault y) (first_stop hit fault ys) whole in
        (changed_fits y p fits.0 both.0, all_changed_fit ys ps fits.1 both.1)

module _ (spec : Spec) (name : Bytes) where
  -- the definitions over places are those of the walk
  same_faults : (x : Term) (us : List Place) → first_fault spec name x us ≡ faults (applies_to spec name) (fault_to spec name) x us
  same_faults x [] = refl
  same_faults x (u ∷ us) = ap (option_or (option_and_then (fault_to spec name) (sub x u))) (same_faults x us)

  same_puts : (x t : Term) (us : List Place) → put_all spec name x t us ≡ puts (applies_to spec name) (made_to spec name) x t us
  same_puts x t [] = refl
  same_puts x t (u ∷ us) = same_puts x (put t u (option_map_or (made_to spec name) (sub x u) x)) us

  module _ (x : Term) where
    outer_is : outer spec name x ≡ outs_from (applies_to spec name) [] x
    outer_is = outermost_are (applies_to spec name) x

    by_known : (b : Bool) → is_known spec name ≡ b → replaced_all spec name x ≡ cond b (by_places spec name x (outer spec name x)) NoneNamed
    by_known b is = ap (λ c. cond c (by_places spec name x (outer spec name x)) NoneNamed) is

    pub none_named : is_known spec name ≡ false → replaced_all spec name x ≡ NoneNamed
    none_named is = by_known false is

    pub none_applies : is_known spec name ≡ true → hits (applies_to spec name) x ≡ false → replaced_all spec name x ≡ NoneApplies
    none_applies is none = by_known true is ∙ ap (by_places spec name x) (outer_is ∙ outs_none (applies_to spec name) x [] none)

    some_applies : is_known spec name ≡ true → hits (applies_to spec name) x ≡ true
        → replaced_all spec name x ≡ option_map_or Fails (stops (applies_to spec name) (fault_to spec name) x) (Makes (changed (applies_to spec name) (made_to spec name) x))
    some_applies is some =
        let h = outs_some (applies_to spec name) x [] some in
        let us = h.first ∷ h.rest in
        let whole : outs_from (applies_to spec name) [] x ≡ us = h.is in
        let stop : first_fault spec name x us ≡ stops (applies_to spec name) (fault_to spec name) x =
        same_faults x us ∙ ap (faults (applies_to spec name) (fault_to spec name) x) (sym whole) ∙ stops_are (applies_to spec name) (fault_to spec name) x x [] refl in
        let term : put_all spec name x x us ≡ changed (applies_to spec name) (made_to spec name) x =
        same_puts x x us ∙ ap (puts (applies_to spec name) (made_to spec name) x x) (sym whole) ∙ puts_are (applies_to spec name) (made_to spec name) x x x [] refl refl in
        by_known true is ∙ ap (by_places spec name x) (outer_is ∙ whole)
        ∙ (λ i. option_map_or Fails (stop i) (Makes (term i)))

    pub one_fails : (why : FaultKind) → is_known spec name ≡ true → hits (applies_to spec name) x ≡ true → stops (applies_to spec name) (fault_to spec name) x ≡ Some why → replaced_all spec name x ≡ Fails why
    one_fails why is some stop = some_applies is some ∙ ap (λ o. option_map_or Fails o (Makes (changed (applies_to spec name) (made_to spec name) x))) stop

    pub all_made : is_known spec name ≡ true → hits (applies_to spec name) x ≡ true → stops (applies_to spec name) (fault_to spec name) x ≡ None → replaced_all spec name x ≡ Makes (changed (applies_to spec name) (made_to spec name) x)
    all_made is some whole = some_applies is some ∙ ap (λ o. option_map_or Fails o (Makes (changed (applies_to spec name) (made_to spec name) x))) whole

    -- a term with more nodes than the limit
    pub too_large : is_known spec name ≡ true → hits (applies_to spec name) x ≡ true → stops (applies_to spec name) (fault_to spec name) x ≡ None
        → 65536 < added (applies_to spec name) (made_to spec name) x → IsTooLarge spec name x
    too_large is some whole more = record {
      term = changed (applies_to spec name) (made_to spec name) x;
      made = all_made is some whole;
      large = λ small. let low = added_low (applies_to spec name) (made_to spec name) x in let few = small.0 in omega (arith, low, few, more);
    }

    pub whole_fits : IsSound spec → (p : ℕ) → Fits spec x p → stops (applies_to spec name) (fault_to spec name) x ≡ None → Fits spec (changed (applies_to spec name) (made_to spec name) x) p
    whole_fits sound p fits whole = changed_fits spec (applies_to spec name) (fault_to spec name) (made_to spec name) (made_fits spec sound name) x p fits whole
