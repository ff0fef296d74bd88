-- What the end of a run says: acceptance of a sentence with its one result, or the place where the tokens fail.
use Rattle.std.proofs.Common.{◌≡◌, ℕ, zero, suc, ◌+◌, ◌<◌, ◌≤◌, inl, inr, List, [], ◌∷◌, ◌++◌, length, take, drop, refl, sym, ap, ◌∙◌, subst, arith, append_assoc, Some, None}
use Rattle.std.specs.Prelude.{slice_get}
use Rattle.std.proofs.lemmas.Bool.{cases_lt, cases_order}
use Rattle.std.proofs.lemmas.List.{append-nil, length-append, take_at, take-take, take-append-drop}
use Rattle.std.proofs.lemmas.Option.{slice_get_within}
use Rattle.sg_grammar.specs.Grammar.{Grammar, right_of, symbol_at}
use Rattle.sg_grammar.specs.Derives.{Token, Algebra, Derives, plain}
use Rattle.sg_lalr.specs.declared.table.Action.TheVariants.{Accept, Stop}
use Rattle.sg_lalr.specs.ValidItems.{behind, start, step}
use Rattle.sg_lalr.specs.Tables.{View, IsTables, Decided}
use Rattle.sg_machine.specs.Machine.{look, state_behind, top, pushed, begun, ended, Run, Accepts, StopsBefore}
use Rattle.sg_machine.specs.Sentences.{IsEntry, AreTokens, IsSentenceOf, BeginsSentence, FailsAt}
use Rattle.sg_machine.specs.Kept.{cells_of, Kept}
use Rattle.sg_machine.proofs.Lists.{same-head, drop-at, take-past, length-pushed, same-pushed}
use Rattle.sg_machine.proofs.Exact.{core-at, accepts, right_of-entry}
use Rattle.sg_machine.proofs.Derivations.{retold, one-result}
use Rattle.sg_machine.proofs.Running.{one-end}
use Rattle.sg_machine.proofs.Consume.{consume}
use Rattle.sg_machine.proofs.Suffix.{suffix, entry-begins, entry-looks, marker-at}
use Rattle.sg_machine.proofs.Keeping.{kept-start, kept-acts, kept-run}
use Rattle.sg_machine.proofs.Goes.{rest-of, goes-on}

-- ---- the place where tokens fail

pub no-sentence : (g : Grammar) (N : ℕ) (ts : List Token) (k : ℕ) → FailsAt g N ts k → IsSentenceOf g N ts → ⊥
no-sentence g N ts k f s =
    elim (cases_lt k (length ts)) [
      | inl low ↦ f.before low (drop (suc k) ts, subst (λ z. IsSentenceOf g N z) (sym (take-append-drop (suc k) ts)) s)
      | inr high ↦ f.at_end (let l = f.within in omega (arith, high, l)) s
    ]

not-later : (g : Grammar) (N : ℕ) (ts : List Token) (k j : ℕ) → FailsAt g N ts k → FailsAt g N ts j → k < j → ⊥
not-later g N ts k j f h low =
    let b = h.begins in
    let cut : take j ts ≡ take (suc k) ts ++ drop (suc k) (take j ts) = sym (take-append-drop (suc k) (take j ts)) ∙ ap (λ z. z ++ drop (suc k) (take j ts)) (take-take (suc k) j ts low) in
    let whole = ap (λ z. z ++ b.0) cut ∙ append_assoc (take (suc k) ts) (drop (suc k) (take j ts)) b.0 in
    f.before (let l = h.within in omega (arith, l, low)) (drop (suc k) (take j ts) ++ b.0, subst (λ z. IsSentenceOf g N z) whole b.1)

pub one-place : (g : Grammar) (N : ℕ) (ts : List Token) (k j : ℕ) → FailsAt g N ts k → FailsAt g N ts j → k ≡ j
one-place g N ts k j f h =
    elim (cases_order k j) [
      | inl e ↦ e
      | inr apart ↦ elim apart [ inl less ↦ absurd (not-later g N ts k j f h less) | inr more ↦ absurd (not-later g N ts j k h f more) ]
    ]

-- tokens fail behind what was read, where no sentence goes on with the next of them, or ends if there is none
pub fails-behind : (g : Grammar) (N : ℕ) (us rest : List Token) → BeginsSentence g N us → ((zs : List Token) → look zs ≡ look rest → IsSentenceOf g N (us ++ zs) → ⊥) → FailsAt g N (us ++ rest) (length us)
fails-behind g N us [] begins never = record {
  within = let l = length-append us [] in omega (arith, l);
  begins = subst (λ z. BeginsSentence g N z) (sym (take_at us [] (length us) refl)) begins;
  before = λ low. absurd (let l : length (us ++ []) ≡ length us = ap length (append-nil us) in omega (arith, l, low));
  at_end = λ e s. never [] refl s;
}
fails-behind g N us (x ∷ rest) begins never = record {
  within = let l = length-append us (x ∷ rest) in omega (arith, l);
  begins = subst (λ z. BeginsSentence g N z) (sym (take_at us (x ∷ rest) (length us) refl)) begins;
  before = λ low b.
      let one : take (suc (length us)) (us ++ x ∷ rest) ≡ us ++ x ∷ [] = ap (λ z. take (suc (length us)) z) (sym (append_assoc us (x ∷ []) rest)) ∙ take_at (us ++ x ∷ []) rest (suc (length us)) (let l = length-append us (x ∷ []) in omega (arith, l)) in
      never (x ∷ b.0) refl (subst (λ z. IsSentenceOf g N z) (ap (λ z. z ++ b.0) one ∙ append_assoc us (x ∷ []) b.0) b.1);
  at_end = λ e s. absurd (let l = length-append us (x ∷ rest) in omega (arith, l, e));
}

-- ---- the end of a run

module _ {A : Type 0} (v : View) (tables : IsTables v) (m : Decided v) (alg : Algebra A) (k N : ℕ) (entry : IsEntry v.grammar k N) (a : A) where
  within : k < length v.grammar.entries
  within = slice_get_within v.grammar.entries k entry.0 entry.1

  right-side : right_of v.grammar (length v.grammar.rules + k) ≡ suc k ∷ N ∷ []
  right-side = right_of-entry v.grammar k (length v.grammar.rules + k) entry.0 refl entry.1 ∙ entry.2

  pub accepted : (ts : List Token) (b : A) (n : ℕ) → Derives v.grammar alg (N ∷ []) ts (b ∷ []) n → Accepts alg m n (begun m k a) ts (ended m k N a b)
  accepted ts b n d =
      let g = v.grammar in
      let p = length g.rules + k in
      let x = step [] p zero zero (suc k) (start k p within refl) (marker-at g tables.formed k p within refl) in
      let rest : drop (suc zero) (right_of g p) ≡ N ∷ [] = ap (λ z. drop (suc zero) z) right-side in
      let at : symbol_at g p (suc zero) ≡ Some N = ap (λ z. slice_get z (suc zero)) right-side in
      let none : symbol_at g p (suc (suc zero)) ≡ None = ap (λ z. slice_get z (suc (suc zero))) right-side in
      let run = consume v tables m alg (suc k ∷ []) (N ∷ []) [] p (suc zero) zero ts (b ∷ []) n d x rest [] (behind zero) (begun m k a) refl in (
        subst (λ z. Run alg m n (begun m k a) z (ended m k N a b) []) (append-nil ts) run,
        accepts v tables m (N ∷ suc k ∷ []) p (suc (suc zero)) zero (step (suc k ∷ []) p (suc zero) zero N x at) none (omega arith),
      )

  pub one-derivation : (ts : List Token) (b c : A) (i j : ℕ) → Derives v.grammar alg (N ∷ []) ts (b ∷ []) i → Derives v.grammar alg (N ∷ []) ts (c ∷ []) j → (b ≡ c) × (i ≡ j)
  one-derivation ts b c i j d e =
      let x = accepted ts b i d in
      let y = accepted ts c j e in
      let z : ℕ × A = (state_behind m (N ∷ suc k ∷ []), b) in
      let z' : ℕ × A = (state_behind m (N ∷ suc k ∷ []), c) in
      let o = one-end v alg m i j (begun m k a) (z ∷ begun m k a) (z' ∷ begun m k a) ts [] [] x.0 (inl x.1) y.0 (inl y.1) in
      (ap (λ (q : ℕ × A). q.1) (same-head z z' (begun m k a) (begun m k a) o.1), o.0)

  same-answer : Accept ≡ Stop → ⊥
  same-answer e = cc

  -- where the machine stops no sentence goes on
  pub stop-right : (us : List Token) (t : ℕ) (s : List (ℕ × A)) → Kept alg m k a us t s → m.act (top s) t ≡ Stop → (zs : List Token) → look zs ≡ t → IsSentenceOf v.grammar N (us ++ zs) → ⊥
  stop-right us t s K stop zs l sentence =
      let d = retold v.grammar plain alg (N ∷ []) (us ++ zs) sentence.0 sentence.1 sentence.2 in
      let o = one-result v.grammar alg N (us ++ zs) d.0 sentence.1 d.1 in
      let x = accepted (us ++ zs) o.0 sentence.1 (subst (λ z. Derives v.grammar alg (N ∷ []) (us ++ zs) z sentence.1) o.1 d.1) in
      let r = K.reached zs l in
      let stops : m.act (top s) (look zs) ≡ Stop = ap (λ z. m.act (top s) z) l ∙ stop in
      let z : ℕ × A = (state_behind m (N ∷ suc k ∷ []), o.0) in
      let e = one-end v alg m sentence.1 r.0 (begun m k a) (z ∷ begun m k a) s (us ++ zs) [] zs x.0 (inl x.1) r.1 (inr stops) in
      same-answer (sym x.1 ∙ (ap (λ y. m.act (top y) zero) e.1 ∙ (ap (λ y. m.act (top s) (look y)) e.2 ∙ stops)))

  -- what is on the stack begins a sentence
  pub kept-begins : (us : List Token) (t : ℕ) (s : List (ℕ × A)) → Kept alg m k a us t s → BeginsSentence v.grammar N us
  kept-begins us t s K =
      let g = v.grammar in
      let x = K.viable in
      let d = retold g alg plain K.string us K.results K.nodes K.derived in
      let o = rest-of g tables.formed tables.productive k within x.0 x.1 in
      let e = goes-on g tables.formed tables.productive k within (pushed K.string (suc k ∷ [])) x.0 x.1 x.2.0 x.2.1 K.string refl us d.0 K.nodes d.1 o.0 o.1 o.2 o.3 in
      let side : drop (suc zero) (right_of g (length g.rules + k)) ≡ N ∷ [] = ap (λ z. drop (suc zero) z) right-side in
      let f = subst (λ z. Derives g plain z ((us ++ o.0) ++ e.0) e.1 e.2) side e.3 in
      (o.0 ++ e.0, (e.1, e.2, subst (λ z. Derives g plain (N ∷ []) z e.1 e.2) (append_assoc us o.0 e.0) f))

  pub stop-fails : (us : List Token) (s : List (ℕ × A)) (rest : List Token) → Kept alg m k a us (look rest) s → m.act (top s) (look rest) ≡ Stop → FailsAt v.grammar N (us ++ rest) (length us)
  stop-fails us s rest K stop = fails-behind v.grammar N us rest (kept-begins us (look rest) s K) (λ zs l sentence. stop-right us (look rest) s K stop zs l sentence)

  -- where the machine accepts, the tokens are at their end, and derived with the result on the stack
  pub accept-right : (us : List Token) (t : ℕ) (s : List (ℕ × A)) → Kept alg m k a us t s → t < v.grammar.terminals → m.act (top s) t ≡ Accept → (n : ℕ) × (b : A) × Derives v.grammar alg (N ∷ []) us (b ∷ []) n × (s ≡ ended m k N a b) × (t ≡ 0)
  accept-right us t s K low act =
      let g = v.grammar in
      let M = suc k ∷ [] in
      let w = pushed K.string M in
      let c = core-at v tables m w K.viable in
      let does = kept-acts v tables m alg k a us t s K low Accept act in
      let i = does.2.0 in
      let b = does.2.1 w c.1 in
      let p = i.production in
      let high : length g.rules ≤ p = (let e = b.0 in let l = does.1 in omega (arith, e, l)) in
      let x = (b.2.1 p i.dot).1 (t, b.2.2) in
      let began = suffix g w p i.dot x.0 x.1 in
      let e = entry-begins g began.before p x.0 began.begins high in
      let R = right_of g p in
      let first : R ≡ suc e.0 ∷ drop (suc zero) R = drop-at R zero (suc e.0) (marker-at g tables.formed e.0 p e.1 e.2) in
      let ends : w ≡ pushed (drop (suc zero) R) (suc e.0 ∷ []) = began.is ∙ (ap (λ z. pushed z began.before) (take-past R i.dot b.1) ∙ (ap (λ z. pushed R z) e.3 ∙ ap (λ z. pushed z []) first)) in
      let lengths : length K.string ≡ length (drop (suc zero) R) = (let l1 = length-pushed K.string M in let l2 = length-pushed (drop (suc zero) R) (suc e.0 ∷ []) in let l3 : length w ≡ length (pushed (drop (suc zero) R) (suc e.0 ∷ [])) = ap length ends in omega (arith, l1, l2, l3)) in
      let same = same-pushed K.string (drop (suc zero) R) M (suc e.0 ∷ []) ends lengths in
      let marker : suc k ≡ suc e.0 = same-head (suc k) (suc e.0) [] [] same.1 in
      let place : p ≡ length g.rules + k = (let q = e.2 in omega (arith, q, marker)) in
      let string : K.string ≡ N ∷ [] = same.0 ∙ (ap (λ z. drop (suc zero) (right_of g z)) place ∙ ap (λ z. drop (suc zero) z) right-side) in
      let d = subst (λ z. Derives g alg z us K.results K.nodes) string K.derived in
      let o = one-result g alg N us K.results K.nodes d in (
        K.nodes,
        o.0,
        subst (λ z. Derives g alg (N ∷ []) us z K.nodes) o.1 d,
        K.stacked ∙ (ap (λ z. pushed (cells_of m M z K.results) (begun m k a)) string ∙ ap (λ z. pushed (cells_of m M (N ∷ []) z) (begun m k a)) o.1),
        entry-looks g b.2.0 p i.dot t b.2.2 high,
      )

  zero-terminal : zero < v.grammar.terminals
  zero-terminal = let e = tables.formed.ends in omega (arith, e)

  pub accepts-only : (ts : List Token) → AreTokens v.grammar ts → (n : ℕ) (z : List (ℕ × A)) → Accepts alg m n (begun m k a) ts z → (b : A) × Derives v.grammar alg (N ∷ []) ts (b ∷ []) n × (z ≡ ended m k N a b)
  accepts-only ts h n z x =
      let r = kept-run v tables m alg k a within n (begun m k a) z ts [] x.0 [] h (kept-start v tables m alg k a within (look ts)) in
      let y = accept-right r.0 zero z r.2 zero-terminal x.1 in
      let d = subst (λ u. Derives v.grammar alg (N ∷ []) u (y.1 ∷ []) y.0) (sym (r.1 ∙ append-nil r.0)) y.2 in
      let q = accepted ts y.1 y.0 d in
      let cell : ℕ × A = (state_behind m (N ∷ suc k ∷ []), y.1) in
      let e = one-end v alg m y.0 n (begun m k a) (cell ∷ begun m k a) z ts [] [] q.0 (inl q.1) x.0 (inl x.1) in
      (y.1, subst (λ u. Derives v.grammar alg (N ∷ []) ts (y.1 ∷ []) u) e.0 d, y.3)

  pub stops-fail : (ts : List Token) → AreTokens v.grammar ts → (rest : List Token) → StopsBefore alg m (begun m k a) ts rest → (read : List Token) × (ts ≡ read ++ rest) × FailsAt v.grammar N ts (length read)
  stops-fail ts h rest x =
      let r = kept-run v tables m alg k a within x.0 (begun m k a) x.1 ts rest x.2 [] h (kept-start v tables m alg k a within (look ts)) in
      (r.0, r.1, subst (λ z. FailsAt v.grammar N z (length r.0)) (sym r.1) (stop-fails r.0 x.1 rest r.2 x.3))
