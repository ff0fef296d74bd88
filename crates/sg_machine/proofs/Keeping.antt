-- What the machine keeps to, from step to step.
use Rattle.std.proofs.Common.{◌≡◌, ℕ, zero, suc, ◌+◌, ◌<◌, List, [], ◌∷◌, ◌++◌, length, take, refl, sym, ap, ◌∙◌, subst, arith, append_assoc, Some}
use Rattle.std.specs.Prelude.{slice_get, All}
use Rattle.std.proofs.lemmas.List.{append-nil}
use Rattle.std.proofs.lemmas.List.Elements.{All-head, All-tail}
use Rattle.std.proofs.lemmas.Option.{same_Some}
use Rattle.sg_grammar.specs.declared.grammar.Production.{Production}
use Rattle.sg_grammar.specs.Grammar.{right_of, symbol_at}
use Rattle.sg_grammar.specs.Derives.{Token, Algebra, Derives, nothing, token, under}
use Rattle.sg_lalr.specs.declared.table.Action.{Action}
use Rattle.sg_lalr.specs.declared.table.Action.TheVariants.{Shift, Reduce}
use Rattle.sg_lalr.specs.ValidItems.{start, step, Viable}
use Rattle.sg_lalr.specs.Tables.{View, IsTables, IsAction, Decided}
use Rattle.sg_machine.specs.Machine.{look, state_behind, top, pushed, results_in, begun, Run, stay, shift, reduce}
use Rattle.sg_machine.specs.Sentences.{AreTokens}
use Rattle.sg_machine.specs.Kept.{cells_of, Kept}
use Rattle.sg_machine.proofs.Lists.{pushed-append, same-pushed, same-cons, take-past}
use Rattle.sg_machine.proofs.Exact.{core-at, shifts, right_of-rule}
use Rattle.sg_machine.proofs.Derivations.{derives-append, in-two, length-results}
use Rattle.sg_machine.proofs.Running.{same-shift, joined}
use Rattle.sg_machine.proofs.Consume.{cells-results, top-cells}
use Rattle.sg_machine.proofs.Suffix.{suffix, expected, marker-at, no-marker, within-some, cut}

cells-append : {A : Type 0} (v : View) (m : Decided v) (w Xs Ys : List ℕ) (bs cs : List A) → length bs ≡ length Xs → cells_of m w (Xs ++ Ys) (bs ++ cs) ≡ cells_of m w Xs bs ++ cells_of m (pushed Xs w) Ys cs
cells-append v m w [] Ys [] cs l = refl
cells-append v m w [] Ys (b ∷ bs) cs l = absurd (omega (arith, l))
cells-append v m w (X ∷ Xs) Ys [] cs l = absurd (omega (arith, l))
cells-append v m w (X ∷ Xs) Ys (b ∷ bs) cs l = ap (λ z. (state_behind m (X ∷ w), b) ∷ z) (cells-append v m (X ∷ w) Xs Ys bs cs (omega (arith, l)))

-- the cells of two strings on a stack
pub stacked-append : {A : Type 0} (v : View) (m : Decided v) (w Xs Ys : List ℕ) (bs cs : List A) (s : List (ℕ × A)) → length bs ≡ length Xs → pushed (cells_of m w (Xs ++ Ys) (bs ++ cs)) s ≡ pushed (cells_of m (pushed Xs w) Ys cs) (pushed (cells_of m w Xs bs) s)
stacked-append v m w Xs Ys bs cs s l = ap (λ z. pushed z s) (cells-append v m w Xs Ys bs cs l) ∙ pushed-append (cells_of m w Xs bs) (cells_of m (pushed Xs w) Ys cs) s

-- the terminal in front of tokens is one
pub look-within : (terminals : ℕ) (ts : List Token) → 0 < terminals → All (λ (x : Token). (0 < x.terminal) × (x.terminal < terminals)) ts → look ts < terminals
look-within terminals [] l h = l
look-within terminals (x ∷ ts) l h = (All-head (λ (y : Token). (0 < y.terminal) × (y.terminal < terminals)) x ts h).1

module _ {A : Type 0} (v : View) (tables : IsTables v) (m : Decided v) (alg : Algebra A) (k : ℕ) (a : A) where
  pub kept-start : k < length v.grammar.entries → (t : ℕ) → Kept alg m k a [] t (begun m k a)
  kept-start l t =
      let p = length v.grammar.rules + k in
      record {
        string = [];
        results = [];
        nodes = zero;
        derived = nothing;
        viable = (p, suc zero, (zero, step [] p zero zero (suc k) (start k p l refl) (marker-at v.grammar tables.formed k p l refl)));
        stacked = refl;
        reached = λ zs e. (zero, stay (begun m k a) zs);
      }

  pub kept-top : (us : List Token) (t : ℕ) (s : List (ℕ × A)) (K : Kept alg m k a us t s) → top s ≡ state_behind m (pushed K.string (suc k ∷ []))
  kept-top us t s K = ap top K.stacked ∙ top-cells v m (suc k ∷ []) K.string K.results (begun m k a) (length-results v.grammar alg K.string us K.results K.nodes K.derived) refl

  -- what the items of the top state do
  pub kept-acts : (us : List Token) (t : ℕ) (s : List (ℕ × A)) (K : Kept alg m k a us t s) → t < v.grammar.terminals → (act : Action) → m.act (top s) t ≡ act → IsAction v (state_behind m (pushed K.string (suc k ∷ []))) t act
  kept-acts us t s K low act is =
      let w = pushed K.string (suc k ∷ []) in
      let c = core-at v tables m w K.viable in
      subst (λ z. IsAction v (state_behind m w) t z) (ap (λ z. m.act z t) (sym (kept-top us t s K)) ∙ is) (m.acts (state_behind m w) t c.0 low)

  pub kept-shift : (us : List Token) (t : ℕ) (s : List (ℕ × A)) → Kept alg m k a us t s → (x : Token) (u : ℕ) → t ≡ x.terminal → x.terminal < v.grammar.terminals → m.act (top s) x.terminal ≡ Shift u → (t' : ℕ) → Kept alg m k a (us ++ x ∷ []) t' ((u, alg.leaf x) ∷ s)
  kept-shift us t s K x u first low act t' =
      let X = x.terminal in
      let w = pushed K.string (suc k ∷ []) in
      let c = core-at v tables m w K.viable in
      let does = kept-acts us t s K (subst (λ z. z < v.grammar.terminals) (sym first) low) (Shift u) (ap (λ z. m.act (top s) z) first ∙ act) in
      let i = does.0.0 in
      let b = does.0.1 w c.1 in
      let at : symbol_at v.grammar i.production i.dot ≡ Some X = b.0 ∙ ap Some first in
      let state : u ≡ state_behind m (X ∷ w) = same-shift u (state_behind m (X ∷ w)) (sym act ∙ (ap (λ z. m.act z X) (kept-top us t s K) ∙ shifts v tables m w i.production i.dot b.1.0 X b.1.1 at low)) in
      let lengths = length-results v.grammar alg K.string us K.results K.nodes K.derived in
      let grown = pushed-append K.string (X ∷ []) (suc k ∷ []) in
      let cell = stacked-append v m (suc k ∷ []) K.string (X ∷ []) K.results (alg.leaf x ∷ []) (begun m k a) lengths in
      record {
        string = K.string ++ X ∷ [];
        results = K.results ++ alg.leaf x ∷ [];
        nodes = K.nodes + suc zero;
        derived = derives-append v.grammar alg K.string (X ∷ []) us (x ∷ []) K.results (alg.leaf x ∷ []) K.nodes (suc zero) K.derived (token x X [] [] [] zero low refl nothing);
        viable = subst (λ z. Viable v.grammar z) (sym grown) (i.production, suc i.dot, (b.1.0, step w i.production i.dot b.1.0 X b.1.1 at));
        stacked = same-cons (u, alg.leaf x) (state_behind m (X ∷ w), alg.leaf x) s (pushed (cells_of m (suc k ∷ []) K.string K.results) (begun m k a)) (ap (λ z. (z, alg.leaf x)) state) K.stacked ∙ sym cell;
        reached = λ zs e.
            let r = K.reached (x ∷ zs) (sym first) in (
              r.0 + suc zero,
              subst (λ z. Run alg m (r.0 + suc zero) (begun m k a) z ((u, alg.leaf x) ∷ s) zs) (sym (append_assoc us (x ∷ []) zs))
                  (joined v alg m r.0 (suc zero) (begun m k a) s ((u, alg.leaf x) ∷ s) (us ++ (x ∷ zs)) (x ∷ zs) zs r.1 (shift zero u x s ((u, alg.leaf x) ∷ s) zs zs act (stay ((u, alg.leaf x) ∷ s) zs))),
            );
      }

  -- a reduction pops the cells of a right side, and keeps to what is kept
  pub record Reduced (us : List Token) (t : ℕ) (s : List (ℕ × A)) (p : ℕ) : Type 0 where
    pub rule : Production
    pub is : slice_get v.grammar.rules p ≡ Some rule
    pub cells : List (ℕ × A)
    pub base : List (ℕ × A)
    pub stacked : s ≡ pushed cells base
    pub lengths : length cells ≡ length rule.right
    pub kept : Kept alg m k a us t ((m.go (top base) rule.left, alg.node p (results_in cells)) ∷ base)

  pub kept-reduce : k < length v.grammar.entries → (us : List Token) (t : ℕ) (s : List (ℕ × A)) → Kept alg m k a us t s → t < v.grammar.terminals → (p : ℕ) → m.act (top s) t ≡ Reduce p → Reduced us t s p
  kept-reduce entry us t s K low p act =
      let g = v.grammar in
      let M = suc k ∷ [] in
      let w = pushed K.string M in
      let c = core-at v tables m w K.viable in
      let does = kept-acts us t s K low (Reduce p) act in
      let i = does.1.0 in
      let b = does.1.1 w c.1 in
      let x = (b.2.1 i.production i.dot).1 (t, b.2.2) in
      let began = suffix g w i.production i.dot x.0 x.1 in
      let rule = within-some g.rules p does.0 in
      let r = rule.0 in
      let here : slice_get g.rules i.production ≡ Some r = ap (λ z. slice_get g.rules z) (sym b.0) ∙ rule.1 in
      let side : take i.dot (right_of g i.production) ≡ r.right = take-past (right_of g i.production) i.dot b.1 ∙ right_of-rule g i.production r here in
      let ends : w ≡ pushed r.right began.before = began.is ∙ ap (λ z. pushed z began.before) side in
      let parts = cut (suc k) K.string r.right began.before (no-marker g tables.formed p r rule.1 k entry) ends in
      let Ys = parts.0 in
      let two = in-two g alg Ys r.right us K.results K.nodes (subst (λ z. Derives g alg z us K.results K.nodes) parts.1 K.derived) in
      let expects = expected g began.before i.production x.0 r began.begins here in
      let fit = length-results g alg Ys two.front two.front_results two.front_nodes two.first in
      let fits = length-results g alg r.right two.back two.back_results two.back_nodes two.second in
      let base = pushed (cells_of m M Ys two.front_results) (begun m k a) in
      let cells = cells_of m (pushed Ys M) r.right two.back_results in
      let counted = cells-results v m (pushed Ys M) r.right two.back_results fits in
      let made = alg.node p (results_in cells) in
      let stack : s ≡ pushed cells base = K.stacked ∙ (ap (λ z. pushed (cells_of m M z K.results) (begun m k a)) parts.1 ∙ (ap (λ z. pushed (cells_of m M (Ys ++ r.right) z) (begun m k a)) two.results ∙ stacked-append v m M Ys r.right two.front_results two.back_results (begun m k a) fit)) in
      let topped : top base ≡ state_behind m (pushed Ys M) = top-cells v m M Ys two.front_results (begun m k a) fit refl in
      let cell : ℕ × A = (m.go (top base) r.left, made) in
      let node = under p r r.left [] two.back [] two.back two.back_results [] two.back_nodes zero two.back_nodes rule.1 refl two.second nothing (sym (append-nil two.back)) (omega arith) in
      record {
        rule = r;
        is = rule.1;
        cells = cells;
        base = base;
        stacked = stack;
        lengths = counted.1;
        kept = record {
          string = Ys ++ r.left ∷ [];
          results = two.front_results ++ alg.node p two.back_results ∷ [];
          nodes = two.front_nodes + suc two.back_nodes;
          derived = subst (λ z. Derives g alg (Ys ++ r.left ∷ []) z (two.front_results ++ alg.node p two.back_results ∷ []) (two.front_nodes + suc two.back_nodes)) (sym two.tokens)
              (derives-append g alg Ys (r.left ∷ []) two.front two.back two.front_results (alg.node p two.back_results ∷ []) two.front_nodes (suc two.back_nodes) two.first node);
          viable = subst (λ z. Viable g z) (ap (λ z. r.left ∷ z) parts.2 ∙ sym (pushed-append Ys (r.left ∷ []) M)) (expects.0, suc expects.1, (expects.2, step began.before expects.0 expects.1 expects.2 r.left expects.3 expects.4));
          stacked = ap (λ z. (m.go z r.left, made) ∷ base) topped ∙ (ap (λ z. (state_behind m (r.left ∷ pushed Ys M), alg.node p z) ∷ base) counted.0 ∙ sym (stacked-append v m M Ys (r.left ∷ []) two.front_results (alg.node p two.back_results ∷ []) (begun m k a) fit));
          reached = λ zs e.
              let n = K.reached zs e in (
                n.0 + suc zero,
                joined v alg m n.0 (suc zero) (begun m k a) s (cell ∷ base) (us ++ zs) zs zs n.1 (reduce zero p r cells base s (cell ∷ base) zs zs (ap (λ z. m.act (top s) z) e ∙ act) rule.1 stack counted.1 (stay (cell ∷ base) zs)),
              );
        };
      }

  -- the same for the cells that are popped
  pub kept-popped : k < length v.grammar.entries → (us : List Token) (t : ℕ) (s : List (ℕ × A)) → Kept alg m k a us t s → t < v.grammar.terminals → (p : ℕ) (r : Production) (cells base : List (ℕ × A)) → m.act (top s) t ≡ Reduce p → slice_get v.grammar.rules p ≡ Some r → s ≡ pushed cells base → length cells ≡ length r.right
      → Kept alg m k a us t ((m.go (top base) r.left, alg.node p (results_in cells)) ∷ base)
  kept-popped entry us t s K low p r cells base act is stack lengths =
      let R = kept-reduce entry us t s K low p act in
      let rule : R.rule ≡ r = same_Some R.rule r (sym R.is ∙ is) in
      let same = same-pushed R.cells cells R.base base (sym R.stacked ∙ stack) (R.lengths ∙ (ap (λ (z : Production). length z.right) rule ∙ sym lengths)) in
      let k1 = subst (λ (z : Production). Kept alg m k a us t ((m.go (top R.base) z.left, alg.node p (results_in R.cells)) ∷ R.base)) rule R.kept in
      let k2 = subst (λ z. Kept alg m k a us t ((m.go (top R.base) r.left, alg.node p (results_in z)) ∷ R.base)) same.0 k1 in
      subst (λ z. Kept alg m k a us t ((m.go (top z) r.left, alg.node p (results_in cells)) ∷ z)) same.1 k2

  -- along a run
  pub kept-run : k < length v.grammar.entries → (n : ℕ) (s z : List (ℕ × A)) (ts us : List Token) → Run alg m n s ts z us → (so : List Token) → AreTokens v.grammar ts → Kept alg m k a so (look ts) s → (read : List Token) × (ts ≡ read ++ us) × Kept alg m k a (so ++ read) (look us) z × AreTokens v.grammar us
  kept-run entry _ _ _ _ _ (stay s ts) so h K = ([], refl, subst (λ z. Kept alg m k a z (look ts) s) (sym (append-nil so)) K, h)
  kept-run entry _ _ z _ us (shift n u x s _ ts _ act run) so h K =
      let P = λ (y : Token). (0 < y.terminal) × (y.terminal < v.grammar.terminals) in
      let K' = kept-shift so x.terminal s K x u refl (All-head P x ts h).1 act (look ts) in
      let i = kept-run entry n ((u, alg.leaf x) ∷ s) z ts us run (so ++ x ∷ []) (All-tail P x ts h) K' in
      (x ∷ i.0, ap (λ y. x ∷ y) i.1, subst (λ y. Kept alg m k a y (look us) z) (append_assoc so (x ∷ []) i.0) i.2, i.3)
  kept-run entry _ _ z ts us (reduce n p r cells base s _ _ _ act is stack lengths run) so h K =
      let low = look-within v.grammar.terminals ts (let e = tables.formed.ends in omega (arith, e)) h in
      kept-run entry n ((m.go (top base) r.left, alg.node p (results_in cells)) ∷ base) z ts us run so h (kept-popped entry so (look ts) s K low p r cells base act is stack lengths)
