-- What the grammar of a sound specification derives in numbers is what the specification derives in symbols: the levels
-- of the spread grammar stand between.
use Rattle.std.proofs.Common.{◌≡◌, ℕ, zero, suc, ◌+◌, Bool, true, false, cond, List, [], ◌∷◌, ◌++◌, map, refl, sym, ap, ◌∙◌, subst, arith, Some}
use Rattle.std.specs.Prelude.{Option, slice_get, option_map, unwrap_or, nat_lt, All, Contains}
use Rattle.std.proofs.lemmas.List.{append-nil}
use Rattle.std.proofs.lemmas.List.Elements.{All-head, All-tail, All-cons, All-nil}
use Rattle.std.proofs.lemmas.Option.{same_Some, none-some, slice_get-get_or}
use Rattle.sg_kinds.specs.Values.{Bytes, Value, Chars}
use Rattle.sg_kinds.specs.Outcome.{outcome_of}
use Rattle.sg_kinds.specs.Sound.{IsSound}
use Rattle.sg_prec.specs.WellGrouped as named
use Rattle.sg_prec.specs.LevelDerives as levels
use Rattle.sg_prec.specs.LevelDerives.{LevelDerives, made_from}
use Rattle.sg_prec.specs.Spread.{spread_of}
use Rattle.sg_prec.specs.declared.productions.LevelSymbol.{LevelSymbol}
use Rattle.sg_prec.specs.declared.productions.LevelSymbol.TheVariants.{Quoted, Lexical, Level}
use Rattle.sg_prec.specs.declared.productions.From.{From}
use Rattle.sg_prec.specs.declared.productions.From.TheVariants.{Written, Chain}
use Rattle.sg_prec.specs.declared.productions.Spread.{Spread}
use Rattle.sg_prec.proofs.Between.{to_written, first_from}
use Rattle.sg_kinds.specs.InputPieces.{InputPiece}
use Rattle.sg_kinds.specs.declared.spec.Spec.{Spec}
use Rattle.sg_kinds.specs.declared.spec.Production as record_of
use Rattle.sg_kinds.specs.declared.spec.Symbol.{Symbol}
use Rattle.sg_kinds.specs.declared.spec.Symbol.TheVariants as written
use Rattle.sg_grammar.specs.declared.grammar.Production.{Production}
use Rattle.sg_grammar.specs.Derives.{Token, Derives, nothing, token, under}
use Rattle.sg_grammar.specs.Numbered.{first_lexeme, level_number, symbol_number, spread_number, made_by, rule_of, grammar_of}
use Rattle.sg_grammar.proofs.LevelNumbers.{level_behind, level_once}
use Rattle.sg_input.specs.Pieces.{terminal_of}
use Rattle.sg_input.specs.Results.{joined, made_of, results_of}
use Rattle.sg_input.proofs.Symbols.{lt-true, lt-false, IsLevelSymbol, literal-number, lexeme-number, literal-back, lexeme-back, spread-symbols, spread-level}

-- a token as a piece, and a piece as a token
abbrev pub piece_for : Spec → Token → InputPiece
piece_for spec x = record { terminal = terminal_of spec x.terminal; text = x.text }

abbrev pub token_for : Spec → InputPiece → Token
token_for spec p = record { terminal = symbol_number spec p.terminal; text = p.text }

pub map-append : {A B : Type 0} (f : A → B) (xs ys : List A) → map f (xs ++ ys) ≡ map f xs ++ map f ys
map-append f [] ys = refl
map-append f (x ∷ xs) ys = ap (λ z. f x ∷ z) (map-append f xs ys)

pub map-at : {A B : Type 0} (f : A → B) (xs : List A) (k : ℕ) (y : B) → slice_get (map f xs) k ≡ Some y → (x : A) × (slice_get xs k ≡ Some x) × (y ≡ f x)
map-at f [] k y e = absurd (none-some y e)
map-at f (x ∷ xs) zero y e = (x, refl, sym (same_Some (f x) y e))
map-at f (x ∷ xs) (suc k) y e = map-at f xs k y e

pub at-map : {A B : Type 0} (f : A → B) (xs : List A) (k : ℕ) (x : A) → slice_get xs k ≡ Some x → slice_get (map f xs) k ≡ Some (f x)
at-map f [] k x e = absurd (none-some x e)
at-map f (y ∷ xs) zero x e = ap (λ z. Some (f z)) (same_Some y x e)
at-map f (y ∷ xs) (suc k) x e = at-map f xs k x e

pub contains-at : {A : Type 0} (xs : List A) (k : ℕ) (x : A) → slice_get xs k ≡ Some x → Contains xs x
contains-at [] k x e = absurd (none-some x e)
contains-at (y ∷ xs) zero x e = (zero, omega arith, same_Some y x e)
contains-at (y ∷ xs) (suc k) x e = let i = contains-at xs k x e in (suc i.0, (let l = i.1 in omega (arith, l)), i.2)

pub at-contains : {A : Type 0} (xs : List A) (x : A) → Contains xs x → (k : ℕ) × (slice_get xs k ≡ Some x)
at-contains xs x c = (c.0, slice_get-get_or xs c.0 x c.1 ∙ ap Some c.2)

head_or : {A : Type 0} → A → List A → A
head_or a [] = a
head_or a (x ∷ xs) = x

tail_of : {A : Type 0} → List A → List A
tail_of [] = []
tail_of (x ∷ xs) = xs

same-head : {A : Type 0} (x y : A) (xs ys : List A) → x ∷ xs ≡ y ∷ ys → x ≡ y
unfolding head_or
same-head x y xs ys e = ap (head_or x) e

same-tail : {A : Type 0} (x y : A) (xs ys : List A) → x ∷ xs ≡ y ∷ ys → xs ≡ ys
unfolding tail_of
same-tail x y xs ys e = ap tail_of e

nil-cons : {A : Type 0} (x : A) (xs : List A) → [] ≡ x ∷ xs → ⊥
nil-cons x xs e = cc

-- the values of what stands first, before the others
abbrev leaf_values : Bool → Bytes → List Value
leaf_values b text = cond b [] (Chars text ∷ [])

module _ (spec : Spec) where
  pub rule-at : (p : ℕ) (r : Production) → slice_get (grammar_of spec).rules p ≡ Some r
      → (x : Spread) × (slice_get (spread_of spec.levels spec.productions) p ≡ Some x) × (r ≡ rule_of spec x)
  rule-at p r e = map-at (rule_of spec) (spread_of spec.levels spec.productions) p r e

  made-same : (f : From) (vs : List Value) → made_of spec (made_by f) vs ≡ made_from spec f vs
  made-same (Written e) vs = refl
  made-same (Chain k) vs = refl

  pub node-values : (p : ℕ) (x : Spread) → slice_get (spread_of spec.levels spec.productions) p ≡ Some x → (ws : List (List Value)) → (results_of spec).node p ws ≡ made_from spec x.from (joined ws)
  node-values p x e ws = ap (λ o. unwrap_or (option_map (λ (r : Production). made_of spec r.made (joined ws)) o) []) (at-map (rule_of spec) (spread_of spec.levels spec.productions) p x e) ∙ made-same x.from (joined ws)

module _ (spec : Spec) (sound : IsSound spec) where
  -- from numbers to symbols
  pub to-symbols : (Xs : List ℕ) (ts : List Token) (bs : List (List Value)) (n : ℕ) → Derives (grammar_of spec) (results_of spec) Xs ts bs n → (Ys : List LevelSymbol) → All (IsLevelSymbol spec sound) Ys → Xs ≡ map (spread_number spec) Ys
      → LevelDerives spec Ys (map (piece_for spec) ts) (joined bs) n
  to-symbols _ _ _ _ nothing [] h e = levels.nothing
  to-symbols _ _ _ _ nothing (Y ∷ Ys) h e = absurd (nil-cons (spread_number spec Y) (map (spread_number spec) Ys) e)
  to-symbols _ _ _ _ (token x X Xs ts vs n low is d) [] h e = absurd (nil-cons X Xs (sym e))
  to-symbols _ _ _ _ (token x X Xs ts vs n low is d) (Quoted s ∷ Ys) h e =
      let P = IsLevelSymbol spec sound in
      let known = All-head P (Quoted s) Ys h in
      let first : X ≡ symbol_number spec (written.Quoted s) = same-head X (symbol_number spec (written.Quoted s)) Xs (map (spread_number spec) Ys) e in
      let rest = to-symbols Xs ts vs n d Ys (All-tail P (Quoted s) Ys h) (same-tail X (symbol_number spec (written.Quoted s)) Xs (map (spread_number spec) Ys) e) in
      let stands : written.Quoted s ≡ terminal_of spec x.terminal = sym (ap (terminal_of spec) (sym is ∙ first) ∙ literal-back spec sound s known) in
      let high = (literal-number spec sound s known).1 in
      let low : true ≡ nat_lt x.terminal (first_lexeme spec) = sym (lt-true x.terminal (first_lexeme spec) (omega (arith, is, first, high))) in
      let one = levels.literal s x.text Ys (map (piece_for spec) ts) (joined vs) n rest in
      let two = subst (λ (z : Symbol). let p : InputPiece = record { terminal = z; text = x.text } in LevelDerives spec (Quoted s ∷ Ys) (p ∷ map (piece_for spec) ts) (joined vs) (suc n)) stands one in
      subst (λ b. LevelDerives spec (Quoted s ∷ Ys) (piece_for spec x ∷ map (piece_for spec) ts) (leaf_values b x.text ++ joined vs) (suc n)) low two
  to-symbols _ _ _ _ (token x X Xs ts vs n low is d) (Lexical l ∷ Ys) h e =
      let P = IsLevelSymbol spec sound in
      let known = All-head P (Lexical l) Ys h in
      let first : X ≡ symbol_number spec (written.Lexical l) = same-head X (symbol_number spec (written.Lexical l)) Xs (map (spread_number spec) Ys) e in
      let rest = to-symbols Xs ts vs n d Ys (All-tail P (Lexical l) Ys h) (same-tail X (symbol_number spec (written.Lexical l)) Xs (map (spread_number spec) Ys) e) in
      let stands : written.Lexical l ≡ terminal_of spec x.terminal = sym (ap (terminal_of spec) (sym is ∙ first) ∙ lexeme-back spec sound l known) in
      let high = (lexeme-number spec sound l known).0 in
      let low : false ≡ nat_lt x.terminal (first_lexeme spec) = sym (lt-false x.terminal (first_lexeme spec) (omega (arith, is, first, high))) in
      let one = levels.lexeme l x.text Ys (map (piece_for spec) ts) (joined vs) n rest in
      let two = subst (λ (z : Symbol). let p : InputPiece = record { terminal = z; text = x.text } in LevelDerives spec (Lexical l ∷ Ys) (p ∷ map (piece_for spec) ts) (Chars x.text ∷ joined vs) (suc n)) stands one in
      subst (λ b. LevelDerives spec (Lexical l ∷ Ys) (piece_for spec x ∷ map (piece_for spec) ts) (leaf_values b x.text ++ joined vs) (suc n)) low two
  to-symbols _ _ _ _ (token x X Xs ts vs n low is d) (Level j i ∷ Ys) h e =
      let first : X ≡ level_number spec j i = same-head X (level_number spec j i) Xs (map (spread_number spec) Ys) e in
      absurd (omega (arith, low, first, level_behind spec j i))
  to-symbols _ _ _ _ (under p r X Xs us ts all ws vs m n k is left d f split count) [] h e = absurd (nil-cons X Xs (sym e))
  to-symbols _ _ _ _ (under p r X Xs us ts all ws vs m n k is left d f split count) (Quoted s ∷ Ys) h e =
      let first : X ≡ symbol_number spec (written.Quoted s) = same-head X (symbol_number spec (written.Quoted s)) Xs (map (spread_number spec) Ys) e in
      let high = (literal-number spec sound s (All-head (IsLevelSymbol spec sound) (Quoted s) Ys h)).1 in
      let q = rule-at spec p r is in
      let side : X ≡ level_number spec q.0.left q.0.level = left ∙ ap (λ (z : Production). z.left) q.2 in
      absurd (omega (arith, first, high, side, level_behind spec q.0.left q.0.level))
  to-symbols _ _ _ _ (under p r X Xs us ts all ws vs m n k is left d f split count) (Lexical l ∷ Ys) h e =
      let first : X ≡ symbol_number spec (written.Lexical l) = same-head X (symbol_number spec (written.Lexical l)) Xs (map (spread_number spec) Ys) e in
      let high = (lexeme-number spec sound l (All-head (IsLevelSymbol spec sound) (Lexical l) Ys h)).1 in
      let q = rule-at spec p r is in
      let side : X ≡ level_number spec q.0.left q.0.level = left ∙ ap (λ (z : Production). z.left) q.2 in
      absurd (omega (arith, first, high, side, level_behind spec q.0.left q.0.level))
  to-symbols _ _ _ _ (under p r X Xs us ts all ws vs m n k is left d f split count) (Level j i ∷ Ys) h e =
      let P = IsLevelSymbol spec sound in
      let q = rule-at spec p r is in
      let here = contains-at (spread_of spec.levels spec.productions) p q.0 q.1 in
      let first : X ≡ level_number spec j i = same-head X (level_number spec j i) Xs (map (spread_number spec) Ys) e in
      let side : X ≡ level_number spec q.0.left q.0.level = left ∙ ap (λ (z : Production). z.left) q.2 in
      let same = level_once spec q.0.left j q.0.level i (spread-level spec sound q.0 here) (All-head P (Level j i) Ys h) (sym side ∙ first) in
      let level : Level q.0.left q.0.level ≡ Level j i = λ t. Level (same.0 t) (same.1 t) in
      let inner = to-symbols r.right us ws m d q.0.right (spread-symbols spec sound q.0 here) (ap (λ (z : Production). z.right) q.2) in
      let outer = to-symbols Xs ts vs n f Ys (All-tail P (Level j i) Ys h) (same-tail X (level_number spec j i) Xs (map (spread_number spec) Ys) e) in
      let one = levels.under q.0 Ys (map (piece_for spec) us) (map (piece_for spec) ts) (map (piece_for spec) all) (joined ws) (joined vs) m n k here inner outer (ap (map (piece_for spec)) split ∙ map-append (piece_for spec) us ts) count in
      let two = subst (λ (z : LevelSymbol). LevelDerives spec (z ∷ Ys) (map (piece_for spec) all) (made_from spec q.0.from (joined ws) ++ joined vs) (suc k)) level one in
      subst (λ z. LevelDerives spec (Level j i ∷ Ys) (map (piece_for spec) all) (z ++ joined vs) (suc k)) (sym (node-values spec p q.0 q.1 ws)) two

  -- from symbols to numbers
  pub to-numbers : (Ys : List LevelSymbol) (ps : List InputPiece) (vs : List Value) (n : ℕ) → LevelDerives spec Ys ps vs n → All (IsLevelSymbol spec sound) Ys
      → (bs : List (List Value)) × (joined bs ≡ vs) × Derives (grammar_of spec) (results_of spec) (map (spread_number spec) Ys) (map (token_for spec) ps) bs n
  to-numbers _ _ _ _ levels.nothing h = ([], refl, nothing)
  to-numbers _ _ _ _ (levels.literal s text Xs ts vs n d) h =
      let P = IsLevelSymbol spec sound in
      let i = to-numbers Xs ts vs n d (All-tail P (Quoted s) Xs h) in
      let X = symbol_number spec (written.Quoted s) in
      let high = (literal-number spec sound s (All-head P (Quoted s) Xs h)).1 in
      let x : Token = record { terminal = X; text = text } in (
        (results_of spec).leaf x ∷ i.0,
        ap (λ b. leaf_values b text ++ joined i.0) (lt-true X (first_lexeme spec) high) ∙ i.1,
        token x X (map (spread_number spec) Xs) (map (token_for spec) ts) i.0 n (omega (arith, high)) refl i.2,
      )
  to-numbers _ _ _ _ (levels.lexeme l text Xs ts vs n d) h =
      let P = IsLevelSymbol spec sound in
      let i = to-numbers Xs ts vs n d (All-tail P (Lexical l) Xs h) in
      let X = symbol_number spec (written.Lexical l) in
      let bounds = lexeme-number spec sound l (All-head P (Lexical l) Xs h) in
      let x : Token = record { terminal = X; text = text } in (
        (results_of spec).leaf x ∷ i.0,
        ap (λ b. leaf_values b text ++ joined i.0) (lt-false X (first_lexeme spec) bounds.0) ∙ ap (λ z. Chars text ∷ z) i.1,
        token x X (map (spread_number spec) Xs) (map (token_for spec) ts) i.0 n bounds.1 refl i.2,
      )
  to-numbers _ _ _ _ (levels.under x Xs us ts all ws vs m n k c d f split count) h =
      let q = at-contains (spread_of spec.levels spec.productions) x c in
      let i = to-numbers x.right us ws m d (spread-symbols spec sound x c) in
      let j = to-numbers Xs ts vs n f (All-tail (IsLevelSymbol spec sound) (Level x.left x.level) Xs h) in (
        (results_of spec).node q.0 i.0 ∷ j.0,
        ap (λ z. z ++ joined j.0) (node-values spec q.0 x q.1 i.0) ∙ (ap (λ z. made_from spec x.from z ++ joined j.0) i.1 ∙ ap (λ z. made_from spec x.from ws ++ z) j.1),
        under q.0 (rule_of spec x) (level_number spec x.left x.level) (map (spread_number spec) Xs) (map (token_for spec) us) (map (token_for spec) ts) (map (token_for spec) all) i.0 j.0 m n k
            (at-map (rule_of spec) (spread_of spec.levels spec.productions) q.0 x q.1) refl i.2 j.2 (ap (map (token_for spec)) split ∙ map-append (token_for spec) us ts) count,
      )

  -- for one nonterminal
  only-nothing : (ts : List InputPiece) (vs : List Value) (bs : List (Option record_of.Production)) (n : ℕ) → named.Derives spec [] ts vs bs n → vs ≡ []
  only-nothing _ _ _ _ named.nothing = refl

  pub one-value : (N : ℕ) (ts : List InputPiece) (vs : List Value) (bs : List (Option record_of.Production)) (n : ℕ) → named.Derives spec (written.Nonterminal N ∷ []) ts vs bs n → (v : Value) × (vs ≡ v ∷ [])
  one-value _ _ _ _ _ (named.under r _ us ts all ws vs below bs m n k c g d f split count) = (outcome_of spec r.expr ws, ap (λ z. outcome_of spec r.expr ws ∷ z) (only-nothing ts vs bs n f))

  level-symbol : (N : ℕ) → All (IsLevelSymbol spec sound) (Level N 0 ∷ [])
  level-symbol N = All-cons (IsLevelSymbol spec sound) (Level N 0) [] (omega arith) (All-nil (IsLevelSymbol spec sound))

  pub nonterminal-derives : (N : ℕ) (ts : List Token) (b : List Value) (n : ℕ) → Derives (grammar_of spec) (results_of spec) (level_number spec N 0 ∷ []) ts (b ∷ []) n → (v : Value) × (b ≡ v ∷ []) × named.derives spec N (map (piece_for spec) ts) v
  nonterminal-derives N ts b n d =
      let e = to-symbols (level_number spec N 0 ∷ []) ts (b ∷ []) n d (Level N 0 ∷ []) (level-symbol N) refl in
      let e2 = subst (λ z. LevelDerives spec (Level N 0 ∷ []) (map (piece_for spec) ts) z n) (append-nil b) e in
      let w = to_written spec (Level N 0 ∷ []) (map (piece_for spec) ts) b n e2 in
      let o = one-value N (map (piece_for spec) ts) b w.0 w.1 w.2 in
      (o.0, o.1, (w.0, w.1, subst (λ z. named.Derives spec (written.Nonterminal N ∷ []) (map (piece_for spec) ts) z w.0 w.1) o.1 w.2))

  single : (bs : List (List Value)) (n : ℕ) (ts : List Token) (X : ℕ) → Derives (grammar_of spec) (results_of spec) (X ∷ []) ts bs n → (b : List Value) × (bs ≡ b ∷ [])
  single _ _ _ _ (token x X _ _ _ n low is nothing) = ((results_of spec).leaf x, refl)
  single _ _ _ _ (under p r X _ us _ all ws _ m _ k is left d nothing split count) = ((results_of spec).node p ws, refl)

  pub numbers-derive : (N : ℕ) (ps : List InputPiece) (v : Value) → named.derives spec N ps v → (n : ℕ) × Derives (grammar_of spec) (results_of spec) (level_number spec N 0 ∷ []) (map (token_for spec) ps) ((v ∷ []) ∷ []) n
  numbers-derive N ps v d =
      let l = first_from spec N ps v d in
      let i = to-numbers (Level N 0 ∷ []) ps (v ∷ []) l.0 l.1 (level-symbol N) in
      let s = single i.0 l.0 (map (token_for spec) ps) (level_number spec N 0) i.2 in
      let e : s.0 ≡ v ∷ [] = sym (append-nil s.0) ∙ (ap joined (sym s.1) ∙ i.1) in
      (l.0, subst (λ z. Derives (grammar_of spec) (results_of spec) (level_number spec N 0 ∷ []) (map (token_for spec) ps) z l.0) (s.1 ∙ ap (λ z. z ∷ []) e) i.2)
