-- What stands on a marker begins a sentence of its entry.
use Rattle.std.proofs.Common.{◌≡◌, ◌≢◌, ℕ, zero, suc, ◌+◌, ◌<◌, inl, inr, List, [], ◌∷◌, ◌++◌, length, drop, refl, sym, ap, ◌∙◌, subst, arith, append_assoc, Some}
use Rattle.std.specs.Prelude.{slice_get}
use Rattle.std.proofs.lemmas.Bool.{cases_lt}
use Rattle.std.proofs.lemmas.List.{append-nil}
use Rattle.std.proofs.lemmas.List.Elements.{All-drop}
use Rattle.std.proofs.lemmas.Option.{same_Some}
use Rattle.sg_grammar.specs.Grammar.{Grammar, right_of, symbol_at}
use Rattle.sg_grammar.specs.WellFormed.{IsWellFormed}
use Rattle.sg_grammar.specs.Derives.{Token, Derives, under, plain, AllProductive}
use Rattle.sg_lalr.specs.ValidItems.{Valid, start, close, step}
use Rattle.sg_lalr.proofs.MoveLemmas.{right_of-fits}
use Rattle.sg_machine.specs.Machine.{pushed}
use Rattle.sg_machine.proofs.Lists.{same-head, same-tail, drop-at, pushed-append, length-pushed, last-cases}
use Rattle.sg_machine.proofs.Exact.{right_of-rule}
use Rattle.sg_machine.proofs.Derivations.{derives-append, in-two, no-tokens, derives-some}
use Rattle.sg_machine.proofs.Suffix.{All-at, within-some, entry-begins, marker-at, no-marker}

at-nothing : (g : Grammar) (w : List ℕ) (p d t : ℕ) → Valid g w p d t → w ≡ [] → d ≡ zero
at-nothing g _ _ _ _ (start k p l e) h = refl
at-nothing g _ _ _ _ (close w p d t X q u r v a b c f) h = refl
at-nothing g _ _ _ _ (step w p d t X v a) h = absurd (let l : suc (length w) ≡ 0 = ap length h in omega (arith, l))

-- the item that expects a marker is that of its start production
marked : (g : Grammar) → IsWellFormed g → (k : ℕ) → k < length g.entries → (w : List ℕ) (p d t : ℕ) → Valid g w p d t → w ≡ [] → symbol_at g p d ≡ Some (suc k) → (d ≡ zero) × (p ≡ length g.rules + k)
marked g f k l w p d t v h at =
    let none = at-nothing g w p d t v h in
    elim (cases_lt p (length g.rules)) [
      | inl low ↦
          let r = within-some g.rules p low in
          absurd (All-at (λ X. X ≢ suc k) r.0.right d (suc k) (no-marker g f p r.0 r.1 k l) (ap (λ z. slice_get z d) (sym (right_of-rule g p r.0 r.1)) ∙ at) refl)
      | inr high ↦
          let e = entry-begins g w p t (subst (λ z. Valid g w p z t) none v) high in
          let same : suc e.0 ≡ suc k = same_Some (suc e.0) (suc k) (sym (marker-at g f e.0 p e.1 e.2) ∙ (ap (λ z. symbol_at g p z) (sym none) ∙ at)) in
          let place = e.2 in
          (none, omega (arith, same, place))
    ]

regroup : (us ts os zs : List Token) → (us ++ (ts ++ os)) ++ zs ≡ (us ++ ts) ++ (os ++ zs)
regroup us ts os zs = ap (λ z. z ++ zs) (sym (append_assoc us ts os)) ∙ append_assoc (us ++ ts) os zs

module _ (g : Grammar) (formed : IsWellFormed g) (productive : AllProductive g) (k : ℕ) (entry : k < length g.entries) where
  -- tokens that begin what the start production of the entry derives behind its marker
  abbrev pub GoesOn : List Token → Type 0
  GoesOn ts = (zs : List Token) × (vs : List (Unit {0})) × (n : ℕ) × Derives g plain (drop (suc zero) (right_of g (length g.rules + k))) (ts ++ zs) vs n

  pub rest-of : (p d : ℕ) → (ts : List Token) × (vs : List (Unit {0})) × (n : ℕ) × Derives g plain (drop d (right_of g p)) ts vs n
  rest-of p d = derives-some g formed productive (drop d (right_of g p)) (All-drop (λ X. X < g.symbols) d (right_of g p) (right_of-fits g p formed).1)

  pub goes-on : (w : List ℕ) (p d t : ℕ) → Valid g w p d t → (Xs : List ℕ) → w ≡ pushed Xs (suc k ∷ []) → (us : List Token) (bs : List (Unit {0})) (i : ℕ) → Derives g plain Xs us bs i → (ts : List Token) (cs : List (Unit {0})) (j : ℕ) → Derives g plain (drop d (right_of g p)) ts cs j → GoesOn (us ++ ts)
  goes-on _ _ _ _ (start n p l e) Xs h us bs i D ts cs j E = absurd (let a = length-pushed Xs (suc k ∷ []) in let b : 0 ≡ length (pushed Xs (suc k ∷ [])) = ap length h in omega (arith, a, b))
  goes-on _ _ _ _ (close w p d t X q u r v at is left b) Xs h us bs i D ts cs j E =
      let side : Derives g plain r.right ts cs j = subst (λ z. Derives g plain z ts cs j) (right_of-rule g q r is) E in
      let o = rest-of p (suc d) in
      let F = under q r X (drop (suc d) (right_of g p)) ts o.0 (ts ++ o.0) cs o.1 j o.2 (j + o.2) is left side o.3 refl refl in
      let G = subst (λ z. Derives g plain z (ts ++ o.0) (tt ∷ o.1) (suc (j + o.2))) (sym (drop-at (right_of g p) d X at)) F in
      let s = goes-on w p d t v Xs h us bs i D (ts ++ o.0) (tt ∷ o.1) (suc (j + o.2)) G in
      (o.0 ++ s.0, s.1, s.2, subst (λ z. Derives g plain (drop (suc zero) (right_of g (length g.rules + k))) z s.1 s.2) (regroup us ts o.0 s.0) s.3)
  goes-on _ _ _ _ (step w p d t X v at) Xs h us bs i D ts cs j E =
      elim (last-cases Xs) [
        | inl e ↦
            let same : X ∷ w ≡ suc k ∷ [] = h ∙ ap (λ z. pushed z (suc k ∷ [])) e in
            let here = marked g formed k entry w p d t v (same-tail X (suc k) w [] same) (at ∙ ap Some (same-head X (suc k) w [] same)) in
            let none = no-tokens g plain us bs i (subst (λ z. Derives g plain z us bs i) e D) in
            let F = subst (λ z. Derives g plain (drop (suc d) (right_of g z)) ts cs j) here.1 E in
            let G = subst (λ z. Derives g plain (drop (suc z) (right_of g (length g.rules + k))) ts cs j) here.0 F in
            let tokens : ts ≡ (us ++ ts) ++ [] = sym (append-nil (us ++ ts) ∙ ap (λ z. z ++ ts) none) in
            ([], cs, j, subst (λ z. Derives g plain (drop (suc zero) (right_of g (length g.rules + k))) z cs j) tokens G)
        | inr l ↦
            let Ys = l.0 in
            let Y = l.1 in
            let same : X ∷ w ≡ Y ∷ pushed Ys (suc k ∷ []) = h ∙ (ap (λ z. pushed z (suc k ∷ [])) l.2 ∙ pushed-append Ys (Y ∷ []) (suc k ∷ [])) in
            let two = in-two g plain Ys (Y ∷ []) us bs i (subst (λ z. Derives g plain z us bs i) l.2 D) in
            let last = subst (λ z. Derives g plain (z ∷ []) two.back two.back_results two.back_nodes) (sym (same-head X Y w (pushed Ys (suc k ∷ [])) same)) two.second in
            let F = derives-append g plain (X ∷ []) (drop (suc d) (right_of g p)) two.back ts two.back_results cs two.back_nodes j last E in
            let G = subst (λ z. Derives g plain z (two.back ++ ts) (two.back_results ++ cs) (two.back_nodes + j)) (sym (drop-at (right_of g p) d X at)) F in
            let s = goes-on w p d t v Ys (same-tail X Y w (pushed Ys (suc k ∷ [])) same) two.front two.front_results two.front_nodes two.first (two.back ++ ts) (two.back_results ++ cs) (two.back_nodes + j) G in
            let tokens : two.front ++ (two.back ++ ts) ≡ us ++ ts = sym (append_assoc two.front two.back ts) ∙ ap (λ z. z ++ ts) (sym two.tokens) in
            (s.0, s.1, s.2, subst (λ z. Derives g plain (drop (suc zero) (right_of g (length g.rules + k))) (z ++ s.0) s.1 s.2) tokens s.3)
      ]
