-- The last form of each name tells which definitions clash, as long as none does.
use Rattle.std.proofs.Common.{◌≡◌, ℕ, ◌+◌, ◌<◌, Bool, true, false, cond, not, ◌&&◌, ◌||◌, List, [], ◌∷◌, ◌++◌, length, take, drop, get_or, Option, Some, None, refl, sym, ap, ◌∙◌, add-one}
use Rattle.std.specs.List.{list_any}
use Rattle.std.specs.Cmp.{IsEquivalence}
use Rattle.sg_ast.specs.FirstFault.{or_else, repeat_from}
use Rattle.sg_kinds.proofs.Kids.{take_more, drop_more}
use Rattle.sg_counts.specs.declared.definitions.Form.{Form}
use Rattle.sg_counts.specs.declared.definitions.Form.TheVariants.{Operators, Productions, Alone}
use Rattle.sg_counts.specs.declared.definitions.Definition.{Definition}
use Rattle.sg_counts.specs.Definitions.{adds_up, clashes, is_clash}

module _ {K : Type 0} (same : K → K → Bool) where
  -- the form of the last definition of a name
  abbrev pub last_form : List (Definition K) → K → Option Form
  last_form [] q = None
  last_form (d ∷ ds) q = or_else (last_form ds q) (cond (same d.key q) (Some d.form) None)

  -- each definition of a name has this form
  abbrev pub Tells : Option Form → K → List (Definition K) → Type 0
  Tells f q [] = Unit {0}
  Tells f q (d ∷ ds) = (same d.key q ≡ true → f ≡ Some d.form) × Tells f q ds

  abbrev pub IsSettled : List (Definition K) → Type 0
  IsSettled ds = (q : K) → Tells (last_form ds q) q ds

  pub last_push : (ds : List (Definition K)) (d : Definition K) (q : K) → last_form (ds ++ d ∷ []) q ≡ cond (same d.key q) (Some d.form) (last_form ds q)
  last_push [] d q = refl
  last_push (e ∷ ds) d q = ap (λ o. or_else o (cond (same e.key q) (Some e.form) None)) (last_push ds d q) ∙ by (same d.key q)
    where
      by : (b : Bool) → or_else (cond b (Some d.form) (last_form ds q)) (cond (same e.key q) (Some e.form) None) ≡ cond b (Some d.form) (or_else (last_form ds q) (cond (same e.key q) (Some e.form) None))
      by true = refl
      by false = refl

  none_clash : (x : Definition K) (ds : List (Definition K)) → Tells None x.key ds → list_any (λ y. clashes same y x) ds ≡ false
  none_clash x [] t = refl
  none_clash x (d ∷ ds) t = by (same d.key x.key) t.0 (none_clash x ds t.1)
    where
      by : (b : Bool) → (b ≡ true → None ≡ Some d.form) → list_any (λ y. clashes same y x) ds ≡ false → ((b && not (adds_up d.form x.form)) || list_any (λ y. clashes same y x) ds) ≡ false
      by true e rest = let never : None ≡ Some d.form = e refl in absurd (cc never)
      by false e rest = rest

  absorbed : (b c : Bool) → (b || (c && b)) ≡ b
  absorbed true c = refl
  absorbed false true = refl
  absorbed false false = refl

  all_clash : (f : Form) (x : Definition K) (ds : List (Definition K)) → Tells (Some f) x.key ds → list_any (λ y. clashes same y x) ds ≡ (list_any (λ y. same y.key x.key) ds && not (adds_up f x.form))
  all_clash f x [] t = refl
  all_clash f x (d ∷ ds) t = by (same d.key x.key) t.0 (all_clash f x ds t.1)
    where
      by : (b : Bool) → (b ≡ true → Some f ≡ Some d.form) → list_any (λ y. clashes same y x) ds ≡ (list_any (λ y. same y.key x.key) ds && not (adds_up f x.form)) → ((b && not (adds_up d.form x.form)) || list_any (λ y. clashes same y x) ds) ≡ ((b || list_any (λ y. same y.key x.key) ds) && not (adds_up f x.form))
      by true e rest =
          let is : Some f ≡ Some d.form = e refl in
          let form : d.form ≡ f = cc is in
          ap (λ g. not (adds_up g x.form) || list_any (λ y. clashes same y x) ds) form ∙ ap (λ b. not (adds_up f x.form) || b) rest ∙ absorbed (not (adds_up f x.form)) (list_any (λ y. same y.key x.key) ds)
      by false e rest = rest

  is_there : (f : Form) (q : K) (ds : List (Definition K)) → last_form ds q ≡ Some f → list_any (λ y. same y.key q) ds ≡ true
  is_there f q [] e = absurd (cc e)
  is_there f q (d ∷ ds) e = by (same d.key q) e (λ h. is_there f q ds h)
    where
      either : (o : Option Form) → or_else o None ≡ Some f → o ≡ Some f
      either None h = absurd (cc h)
      either (Some g) h = h

      by : (b : Bool) → or_else (last_form ds q) (cond b (Some d.form) None) ≡ Some f → (last_form ds q ≡ Some f → list_any (λ y. same y.key q) ds ≡ true) → (b || list_any (λ y. same y.key q) ds) ≡ true
      by true h rest = refl
      by false h rest = rest (either (last_form ds q) h)

  -- the last form decides
  pub decides : (x : Definition K) (ds : List (Definition K)) (f : Option Form) → last_form ds x.key ≡ f → IsSettled ds → list_any (λ y. clashes same y x) ds ≡ is_clash f x.form
  decides x ds None e s = none_clash x ds (rw e at (s x.key))
  decides x ds (Some f) e s = all_clash f x ds (rw e at (s x.key)) ∙ ap (λ b. b && not (adds_up f x.form)) (is_there f x.key ds e)

  tells_push : (f : Option Form) (q : K) (ds : List (Definition K)) (x : Definition K) → Tells f q ds → (same x.key q ≡ true → f ≡ Some x.form) → Tells f q (ds ++ x ∷ [])
  tells_push f q [] x t last = (last, tt)
  tells_push f q (d ∷ ds) x t last = (t.0, tells_push f q ds x t.1 last)

  one_form : (f g : Form) → not (adds_up f g) ≡ false → Some g ≡ Some f
  one_form Operators Operators e = refl
  one_form Operators Productions e = absurd (cc e)
  one_form Operators Alone e = absurd (cc e)
  one_form Productions Operators e = absurd (cc e)
  one_form Productions Productions e = refl
  one_form Productions Alone e = absurd (cc e)
  one_form Alone Operators e = absurd (cc e)
  one_form Alone Productions e = absurd (cc e)
  one_form Alone Alone e = absurd (cc e)

  retold : (f : Option Form) (x : Definition K) (q : K) (ds : List (Definition K)) → ((y : K) → same y q ≡ true → same y x.key ≡ true) → is_clash f x.form ≡ false → Tells f x.key ds → Tells (Some x.form) q ds
  retold f x q [] alike fits t = tt
  retold f x q (d ∷ ds) alike fits t = (λ is. by f fits (t.0 (alike d.key is)), retold f x q ds alike fits t.1)
    where
      by : (o : Option Form) → is_clash o x.form ≡ false → o ≡ Some d.form → Some x.form ≡ Some d.form
      by None n e = absurd (cc e)
      by (Some g) n e = one_form g x.form n ∙ e

  pub settled_more : IsEquivalence same → (ds : List (Definition K)) (x : Definition K) (f : Option Form) → last_form ds x.key ≡ f → is_clash f x.form ≡ false → IsSettled ds → IsSettled (ds ++ x ∷ [])
  settled_more laws ds x f e fits s q = rw (last_push ds x q) (by (same x.key q) refl)
    where
      alike : same x.key q ≡ true → (y : K) → same y q ≡ true → same y x.key ≡ true
      alike is y other = sym (laws.symm x.key y) ∙ laws.congr x.key q y is ∙ sym (laws.symm y q) ∙ other

      by : (b : Bool) → same x.key q ≡ b → Tells (cond b (Some x.form) (last_form ds q)) q (ds ++ x ∷ [])
      by true is = tells_push (Some x.form) q ds x (retold f x q ds (alike is) fits (rw e at (s x.key))) (λ _. refl)
      by false is = tells_push (last_form ds q) q ds x (s q) (λ yes. absurd (cc (is, yes)))

  -- one more definition, in a loop along them
  step : (ds : List (Definition K)) (i : ℕ) (d : Definition K) (f : Option Form) {whole : Option ℕ} → i < length ds → d ≡ get_or ds i d → IsSettled (take i ds) → last_form (take i ds) d.key ≡ f
      → repeat_from (clashes same) (take i ds) i (drop i ds) ≡ whole → cond (is_clash f d.form) (Some i) (repeat_from (clashes same) (take (i + 1) ds) (i + 1) (drop (i + 1) ds)) ≡ whole
  step ds i d f low here s e so_far =
      ap (λ b. cond b (Some i) (repeat_from (clashes same) (take (i + 1) ds) (i + 1) (drop (i + 1) ds))) (sym (decides d (take i ds) f e s))
      ∙ ap (λ (l : List (Definition K)). cond (list_any (λ y. clashes same y d) (take i ds)) (Some i) (repeat_from (clashes same) l (i + 1) (drop (i + 1) ds))) (take_more ds i d low here)
      ∙ ap (λ n. cond (list_any (λ y. clashes same y d) (take i ds)) (Some i) (repeat_from (clashes same) (take i ds ++ d ∷ []) n (drop (i + 1) ds))) (add-one i)
      ∙ ap (repeat_from (clashes same) (take i ds) i) (sym (drop_more ds i d low here)) ∙ so_far

  pub found_here : (ds : List (Definition K)) (i : ℕ) (d : Definition K) (f : Option Form) {whole : Option ℕ} → i < length ds → d ≡ get_or ds i d → IsSettled (take i ds) → last_form (take i ds) d.key ≡ f
      → repeat_from (clashes same) (take i ds) i (drop i ds) ≡ whole → is_clash f d.form ≡ true → Some i ≡ whole
  found_here ds i d f low here s e so_far clash = ap (λ b. cond b (Some i) (repeat_from (clashes same) (take (i + 1) ds) (i + 1) (drop (i + 1) ds))) (sym clash) ∙ step ds i d f low here s e so_far

  pub goes_on : (ds : List (Definition K)) (i : ℕ) (d : Definition K) (f : Option Form) {whole : Option ℕ} → i < length ds → d ≡ get_or ds i d → IsSettled (take i ds) → last_form (take i ds) d.key ≡ f
      → repeat_from (clashes same) (take i ds) i (drop i ds) ≡ whole → is_clash f d.form ≡ false → repeat_from (clashes same) (take (i + 1) ds) (i + 1) (drop (i + 1) ds) ≡ whole
  goes_on ds i d f low here s e so_far fits = ap (λ b. cond b (Some i) (repeat_from (clashes same) (take (i + 1) ds) (i + 1) (drop (i + 1) ds))) (sym fits) ∙ step ds i d f low here s e so_far

  pub forms_more : (ds : List (Definition K)) (i : ℕ) (d : Definition K) (q : K) (old new : Option Form) → i < length ds → d ≡ get_or ds i d → old ≡ last_form (take i ds) q → new ≡ cond (same d.key q) (Some d.form) old
      → new ≡ last_form (take (i + 1) ds) q
  forms_more ds i d q old new low here was is =
      is ∙ ap (λ o. cond (same d.key q) (Some d.form) o) was ∙ sym (last_push (take i ds) d q) ∙ ap (λ (l : List (Definition K)). last_form l q) (sym (take_more ds i d low here))

  pub settled_on : IsEquivalence same → (ds : List (Definition K)) (i : ℕ) (d : Definition K) (f : Option Form) → i < length ds → d ≡ get_or ds i d → IsSettled (take i ds) → last_form (take i ds) d.key ≡ f → is_clash f d.form ≡ false
      → IsSettled (take (i + 1) ds)
  settled_on laws ds i d f low here s e fits = let more : take (i + 1) ds ≡ take i ds ++ d ∷ [] = take_more ds i d low here in rw more (settled_more laws (take i ds) d f e fits s)
