-- Derivations of strings put together and taken apart.
use Rattle.std.proofs.Common.{◌≡◌, ℕ, zero, suc, ◌+◌, ◌<◌, List, [], ◌∷◌, ◌++◌, length, refl, sym, ap, ◌∙◌, subst, arith, append_assoc}
use Rattle.std.specs.Prelude.{All}
use Rattle.std.proofs.lemmas.List.Elements.{All-append, All-head, All-tail}
use Rattle.sg_grammar.specs.Grammar.{Grammar}
use Rattle.sg_grammar.specs.WellFormed.{IsWellFormed}
use Rattle.sg_grammar.specs.Derives.{Token, Algebra, Derives, nothing, token, under, plain, AllProductive}
use Rattle.sg_lalr.specs.ValidItems.{Begins, behind, here, inside}
use Rattle.sg_lalr.proofs.MoveLemmas.{right_of-fits}
use Rattle.sg_machine.specs.Machine.{look}
use Rattle.sg_machine.proofs.Exact.{right_of-rule}

pub derives-append : {A : Type 0} (g : Grammar) (alg : Algebra A) (Xs Ys : List ℕ) (ts us : List Token) (vs ws : List A) (i j : ℕ) → Derives g alg Xs ts vs i → Derives g alg Ys us ws j → Derives g alg (Xs ++ Ys) (ts ++ us) (vs ++ ws) (i + j)
derives-append g alg _ Ys _ us _ ws _ j nothing d = subst (λ k. Derives g alg Ys us ws k) (omega arith) d
derives-append g alg _ Ys _ us _ ws _ j (token x X Xs ts vs n h e f) d =
    subst (λ k. Derives g alg (X ∷ (Xs ++ Ys)) (x ∷ (ts ++ us)) (alg.leaf x ∷ (vs ++ ws)) k) (omega arith)
    (token x X (Xs ++ Ys) (ts ++ us) (vs ++ ws) (n + j) h e (derives-append g alg Xs Ys ts us vs ws n j f d))
derives-append g alg _ Ys _ us _ ws _ j (under p r X Xs bs ts all cs vs m n k a l f1 f2 e q) d =
    subst (λ z. Derives g alg (X ∷ (Xs ++ Ys)) (all ++ us) (alg.node p cs ∷ (vs ++ ws)) z) (omega arith)
    (under p r X (Xs ++ Ys) bs (ts ++ us) (all ++ us) cs (vs ++ ws) m (n + j) (k + j) a l f1 (derives-append g alg Xs Ys ts us vs ws n j f2 d) (ap (λ z. z ++ us) e ∙ append_assoc bs ts us) (omega (arith, q)))

-- a derivation of two strings, one behind the other, is one of each
pub record InTwo {A : Type 0} (g : Grammar) (alg : Algebra A) (Xs Ys : List ℕ) (ts : List Token) (vs : List A) (n : ℕ) : Type 0 where
  pub front : List Token
  pub back : List Token
  pub front_results : List A
  pub back_results : List A
  pub front_nodes : ℕ
  pub back_nodes : ℕ
  pub first : Derives g alg Xs front front_results front_nodes
  pub second : Derives g alg Ys back back_results back_nodes
  pub tokens : ts ≡ front ++ back
  pub results : vs ≡ front_results ++ back_results
  pub nodes : n ≡ front_nodes + back_nodes

pub in-two : {A : Type 0} (g : Grammar) (alg : Algebra A) (Xs Ys : List ℕ) (ts : List Token) (vs : List A) (n : ℕ) → Derives g alg (Xs ++ Ys) ts vs n → InTwo g alg Xs Ys ts vs n
in-two g alg [] Ys ts vs n d = record {
  front = [];
  back = ts;
  front_results = [];
  back_results = vs;
  front_nodes = zero;
  back_nodes = n;
  first = nothing;
  second = d;
  tokens = refl;
  results = refl;
  nodes = omega arith;
}
in-two g alg (X ∷ Xs) Ys _ _ _ (token x _ _ ts vs n h e f) =
    let i = in-two g alg Xs Ys ts vs n f in
    record {
      front = x ∷ i.front;
      back = i.back;
      front_results = alg.leaf x ∷ i.front_results;
      back_results = i.back_results;
      front_nodes = suc i.front_nodes;
      back_nodes = i.back_nodes;
      first = token x X Xs i.front i.front_results i.front_nodes h e i.first;
      second = i.second;
      tokens = ap (λ z. x ∷ z) i.tokens;
      results = ap (λ z. alg.leaf x ∷ z) i.results;
      nodes = let k = i.nodes in omega (arith, k);
    }
in-two g alg (X ∷ Xs) Ys _ _ _ (under p r _ _ us ts all ws vs m n k a l f1 f2 e q) =
    let i = in-two g alg Xs Ys ts vs n f2 in
    record {
      front = us ++ i.front;
      back = i.back;
      front_results = alg.node p ws ∷ i.front_results;
      back_results = i.back_results;
      front_nodes = suc (m + i.front_nodes);
      back_nodes = i.back_nodes;
      first = under p r X Xs us i.front (us ++ i.front) ws i.front_results m i.front_nodes (m + i.front_nodes) a l f1 i.first refl refl;
      second = i.second;
      tokens = e ∙ (ap (λ z. us ++ z) i.tokens ∙ sym (append_assoc us i.front i.back));
      results = ap (λ z. alg.node p ws ∷ z) i.results;
      nodes = let j = i.nodes in omega (arith, j, q);
    }

-- the same derivation with other results
pub retold : {A B : Type 0} (g : Grammar) (alg : Algebra A) (bet : Algebra B) (Xs : List ℕ) (ts : List Token) (vs : List A) (n : ℕ) → Derives g alg Xs ts vs n → (ws : List B) × Derives g bet Xs ts ws n
retold g alg bet _ _ _ _ nothing = ([], nothing)
retold g alg bet _ _ _ _ (token x X Xs ts vs n h e f) =
    let i = retold g alg bet Xs ts vs n f in (bet.leaf x ∷ i.0, token x X Xs ts i.0 n h e i.1)
retold g alg bet _ _ _ _ (under p r X Xs us ts all ws vs m n k a l f1 f2 e q) =
    let i = retold g alg bet r.right us ws m f1 in
    let j = retold g alg bet Xs ts vs n f2 in
    (bet.node p i.0 ∷ j.0, under p r X Xs us ts all i.0 j.0 m n k a l i.1 j.1 e q)

-- there is a result for each symbol
pub length-results : {A : Type 0} (g : Grammar) (alg : Algebra A) (Xs : List ℕ) (ts : List Token) (vs : List A) (n : ℕ) → Derives g alg Xs ts vs n → length vs ≡ length Xs
length-results g alg _ _ _ _ nothing = refl
length-results g alg _ _ _ _ (token x X Xs ts vs n h e f) = ap suc (length-results g alg Xs ts vs n f)
length-results g alg _ _ _ _ (under p r X Xs us ts all ws vs m n k a l f1 f2 e q) = ap suc (length-results g alg Xs ts vs n f2)

only : {A : Type 0} (vs : List A) → length vs ≡ 1 → (a : A) × (vs ≡ a ∷ [])
only [] l = absurd (omega (arith, l))
only (a ∷ []) l = (a, refl)
only (a ∷ b ∷ vs) l = absurd (omega (arith, l))

pub one-result : {A : Type 0} (g : Grammar) (alg : Algebra A) (X : ℕ) (ts : List Token) (vs : List A) (n : ℕ) → Derives g alg (X ∷ []) ts vs n → (a : A) × (vs ≡ a ∷ [])
one-result g alg X ts vs n d = only vs (length-results g alg (X ∷ []) ts vs n d)

-- what derives nothing but the empty string
pub no-tokens : {A : Type 0} (g : Grammar) (alg : Algebra A) (ts : List Token) (vs : List A) (n : ℕ) → Derives g alg [] ts vs n → ts ≡ []
no-tokens g alg _ _ _ nothing = refl

-- ---- how derivations begin

pub begins-append : (g : Grammar) (Ys Xs : List ℕ) (s t u : ℕ) → Begins g Ys s u → Begins g Xs t s → Begins g (Ys ++ Xs) t u
begins-append g _ Xs _ t _ (behind s) b = b
begins-append g _ Xs s t _ (here X Ys _ h) b = here X (Ys ++ Xs) t h
begins-append g _ Xs s t u (inside q r X Ys _ _ e l a) b =
    inside q r X (Ys ++ Xs) t u e l (subst (λ w. Begins g w t u) (append_assoc r.right Ys Xs) (begins-append g (r.right ++ Ys) Xs s t u a b))

pub begins-of : {A : Type 0} (g : Grammar) (alg : Algebra A) (Xs : List ℕ) (ts : List Token) (vs : List A) (n : ℕ) → Derives g alg Xs ts vs n → (rest : List Token) → Begins g Xs (look rest) (look (ts ++ rest))
begins-of g alg _ _ _ _ nothing rest = behind (look rest)
begins-of g alg _ _ _ _ (token x X Xs ts vs n h e d) rest = subst (λ u. Begins g (X ∷ Xs) (look rest) u) e (here X Xs (look rest) h)
begins-of g alg _ _ _ _ (under p r X Xs us ts all ws vs m n k a l d f s q) rest =
    let first : Begins g r.right (look (ts ++ rest)) (look (us ++ (ts ++ rest))) = begins-of g alg r.right us ws m d (ts ++ rest) in
    let both : Begins g (r.right ++ Xs) (look rest) (look (us ++ (ts ++ rest))) = begins-append g r.right Xs (look (ts ++ rest)) (look rest) (look (us ++ (ts ++ rest))) first (begins-of g alg Xs ts vs n f rest) in
    let same : look (us ++ (ts ++ rest)) ≡ look (all ++ rest) = ap look (sym (append_assoc us ts rest) ∙ ap (λ z. z ++ rest) (sym s)) in
    subst (λ u. Begins g (X ∷ Xs) (look rest) u) same (inside p r X Xs (look rest) (look (us ++ (ts ++ rest))) a l both)

-- ---- what is productive

module _ (g : Grammar) (formed : IsWellFormed g) (productive : AllProductive g) where
  -- some tokens that a string derives
  pub derives-some : (Xs : List ℕ) → All (λ X. X < g.symbols) Xs → (ts : List Token) × (vs : List (Unit {0})) × (n : ℕ) × Derives g plain Xs ts vs n
  derives-some [] h = ([], [], zero, nothing)
  derives-some (X ∷ Xs) h =
      let i = derives-some Xs (All-tail (λ Y. Y < g.symbols) X Xs h) in
      let d = productive X (All-head (λ Y. Y < g.symbols) X Xs h) in
      (d.0 ++ i.0, d.1 ++ i.1, d.2 + i.2, derives-append g plain (X ∷ []) Xs d.0 i.0 d.1 i.1 d.2 i.2 d.3 i.3)

  -- some that begin as the string can begin
  pub derives-beginning : (Xs : List ℕ) (t u : ℕ) → Begins g Xs t u → All (λ X. X < g.symbols) Xs → (rest : List Token) → look rest ≡ t → (ts : List Token) × (vs : List (Unit {0})) × (n : ℕ) × Derives g plain Xs ts vs n × (look (ts ++ rest) ≡ u)
  derives-beginning _ _ _ (behind t) h rest l = ([], [], zero, nothing, l)
  derives-beginning _ _ _ (here X Xs t low) h rest l =
      let i = derives-some Xs (All-tail (λ Y. Y < g.symbols) X Xs h) in
      let x : Token = record { terminal = X; text = [] } in
      (x ∷ i.0, tt ∷ i.1, suc i.2, token x X Xs i.0 i.1 i.2 low refl i.3, refl)
  derives-beginning _ _ _ (inside q r X Xs t u is left b) h rest l =
      let fits : All (λ Y. Y < g.symbols) r.right = subst (λ z. All (λ Y. Y < g.symbols) z) (right_of-rule g q r is) (right_of-fits g q formed).1 in
      let i = derives-beginning (r.right ++ Xs) t u b (All-append (λ Y. Y < g.symbols) r.right Xs fits (All-tail (λ Y. Y < g.symbols) X Xs h)) rest l in
      let s = in-two g plain r.right Xs i.0 i.1 i.2 i.3 in
      (i.0, tt ∷ s.back_results, suc i.2, under q r X Xs s.front s.back i.0 s.front_results s.back_results s.front_nodes s.back_nodes i.2 is left s.first s.second s.tokens s.nodes, i.4)
