-- The steps of the parser over the tokens of a text.
use Rattle.std.proofs.Common.{◌≡◌, ℕ, zero, suc, ◌+◌, ◌-◌, ◌<◌, ◌≤◌, inl, inr, cond, List, [], ◌∷◌, ◌++◌, length, get_or, map, take, drop, refl, sym, ap, ◌∙◌, subst, arith, Some, None}
use Rattle.std.specs.Prelude.{IfNone, IfSome, IsSome, OnOk, Result, Ok, Err, Option, slice_get, option_map, unwrap_or, All}
use Rattle.std.proofs.lemmas.Bool.{cases_lt}
use Rattle.std.proofs.lemmas.List.{append-nil, length-append, length-map, length-drop, take-append-drop}
use Rattle.std.proofs.lemmas.List.Elements.{All-nil, All-append, All-cons, All-head, All-tail, All-take, All-drop}
use Rattle.std.proofs.lemmas.Option.{slice_get_within, none-some, same_Some, slice_get_past}
use Rattle.sg_kinds.specs.Values.{Bytes, Value, Chars}
use Rattle.sg_kinds.specs.Evaluation.{untyped}
use Rattle.sg_kinds.specs.Outcome.{outcome_of}
use Rattle.sg_kinds.specs.Sound.{IsSound}
use Rattle.sg_prec.specs.WellGrouped.{derives}
use Rattle.sg_kinds.specs.declared.spec.Spec.{Spec}
use Rattle.sg_pool.specs.Pools.{value_at, IsGrown, StandsFor}
use Rattle.sg_patterns.specs.declared.scanning.InToken.{InToken}
use Rattle.sg_prec.specs.Spread.{spread_of}
use Rattle.sg_prec.specs.declared.productions.Spread.{Spread}
use Rattle.sg_prec.proofs.Spreads.{spread_cases}
use Rattle.sg_grammar.specs.Grammar.{Grammar, right_of, symbol_at}
use Rattle.sg_grammar.specs.WellFormed.{IsWellFormed, IsRule, IsStart, AreBetween}
use Rattle.sg_grammar.specs.declared.grammar.Made.{Made}
use Rattle.sg_grammar.specs.declared.grammar.Made.TheVariants.{Outcome, Same}
use Rattle.sg_grammar.specs.declared.grammar.Production.{Production}
use Rattle.sg_grammar.specs.Derives.{Token, Derives}
use Rattle.sg_grammar.specs.Numbered.{first_lexeme, first_nonterminal, level_number, made_by, grammar_of}
use Rattle.sg_lalr.specs.declared.table.Action.TheVariants.{Shift, Accept, Stop}
use Rattle.sg_lalr.specs.Tables.{View, IsTables, IsAction}
use Rattle.sg_machine.specs.Machine.{look}
use Rattle.sg_machine.specs.Sentences as machine
use Rattle.sg_machine.proofs.Lists.{take-at}
use Rattle.sg_machine.proofs.Exact.{right_of-rule, right_of-entry}
use Rattle.sg_machine.proofs.Suffix.{All-at, within-some}
use Rattle.sg_machine.proofs.Keeping.{look-within}
use Rattle.sg_eval.specs.Applied.{IsApplied}
use Rattle.sg_input.specs.Pieces.{part, pieces_of, IsToken, AreTokens}
use Rattle.sg_input.specs.Failing.{FailsAt}
use Rattle.sg_input.specs.Entered.{nonterminal_of}
use Rattle.sg_input.specs.Results.{token_in, tokens_in, made_of, results_of}
use Rattle.sg_input.specs.Driven.{Driven}
use Rattle.sg_input.proofs.Symbols.{lt-true, lt-false}
use Rattle.sg_input.proofs.Bridge.{map-append, at-map, contains-at, rule-at}
use Rattle.sg_input.proofs.Reading.{tokens-fit, text-fails, text-derives}
use Rattle.sg_input.proofs.Driving.{driven-shift, driven-stop, driven-accept}

-- ---- options

pub is-some : {A : Type 0} (o : Option A) (P : Type 0) → IfNone o (P → ⊥) → P → IsSome o
is-some None P h p = absurd (h p)
is-some (Some x) P h p = refl

pub if-some : {A : Type 0} (o : Option A) (x : A) (P : A → Type 0) → o ≡ Some x → IfSome o P → P x
if-some o x P e h = subst (λ z. IfSome z P) e h

-- ---- lists and pools

take-none : {A : Type 0} (xs : List A) (n : ℕ) → length xs ≤ n → take n xs ≡ xs
take-none [] zero l = refl
take-none [] (suc n) l = refl
take-none (x ∷ xs) zero l = absurd (omega (arith, l))
take-none (x ∷ xs) (suc n) l = ap (λ z. x ∷ z) (take-none xs n (omega (arith, l)))

pub rest-is : {A : Type 0} (xs : List A) (n : ℕ) → take (length xs - n) (drop n xs) ≡ drop n xs
rest-is xs n = take-none (drop n xs) (length xs - n) (let l = length-drop n xs in omega (arith, l))

take-long : {A : Type 0} (xs : List A) (n : ℕ) → n ≤ length xs → length (take n xs) ≡ n
take-long [] zero l = refl
take-long [] (suc n) l = absurd (omega (arith, l))
take-long (x ∷ xs) zero l = refl
take-long (x ∷ xs) (suc n) l = ap suc (take-long xs n (omega (arith, l)))

get-left : {A : Type 0} (xs ys : List A) (k : ℕ) → k < length xs → slice_get (xs ++ ys) k ≡ slice_get xs k
get-left [] ys k l = absurd (omega (arith, l))
get-left (x ∷ xs) ys zero l = refl
get-left (x ∷ xs) ys (suc k) l = get-left xs ys k (omega (arith, l))

pub later-numbers : (old new : List Value) (ids : List ℕ) → IsGrown old new → All (λ id. id < length old) ids → All (λ id. id < length new) ids
later-numbers old new ids g h k d l = let low = h k d l in let e = ap length g.is in let a = length-append old g.more in omega (arith, low, e, a)

pub later-values : (old new : List Value) (ids : List ℕ) → IsGrown old new → All (λ id. id < length old) ids → map (value_at new) ids ≡ map (value_at old) ids
later-values old new [] g h = refl
later-values old new (id ∷ ids) g h =
    let low = All-head (λ j. j < length old) id ids h in
    let one : value_at new id ≡ value_at old id = ap (λ z. unwrap_or z untyped) (ap (λ z. slice_get z id) g.is ∙ get-left old g.more id low) in
    ap (λ z. z ∷ map (value_at new) ids) one ∙ ap (λ z. value_at old id ∷ z) (later-values old new ids g (All-tail (λ j. j < length old) id ids h))

map-one : {A B : Type 0} (f : A → B) (xs : List A) (x : A) → map f (xs ++ x ∷ []) ≡ map f xs ++ f x ∷ []
map-one f [] x = refl
map-one f (y ∷ xs) x = ap (λ z. f y ∷ z) (map-one f xs x)

pub value-of : (pool : List Value) (id : ℕ) (v : Value) → StandsFor pool id v → value_at pool id ≡ v
value-of pool id v e = ap (λ z. unwrap_or z untyped) e

pub put-numbers : (old new : List Value) (ids : List ℕ) (id : ℕ) (v : Value) → IsGrown old new → All (λ k. k < length old) ids → StandsFor new id v → All (λ k. k < length new) (ids ++ id ∷ [])
put-numbers old new ids id v g h e = All-append (λ k. k < length new) ids (id ∷ []) (later-numbers old new ids g h) (All-cons (λ k. k < length new) id [] (slice_get_within new id v e) (All-nil (λ k. k < length new)))

pub put-values : (old new : List Value) (ids : List ℕ) (id : ℕ) (v : Value) → IsGrown old new → All (λ k. k < length old) ids → StandsFor new id v → map (value_at new) (ids ++ id ∷ []) ≡ map (value_at old) ids ++ v ∷ []
put-values old new ids id v g h e = map-one (value_at new) ids id ∙ (ap (λ z. z ++ value_at new id ∷ []) (later-values old new ids g h) ∙ ap (λ z. map (value_at old) ids ++ z ∷ []) (value-of new id v e))

-- what is made of the values from a place on
pub outcome-values : (spec : Spec) (old new : List Value) (ids after : List ℕ) (from id e : ℕ) (made : Made) → made ≡ Outcome e → IsGrown old new → All (λ k. k < length old) ids → StandsFor new id (outcome_of spec e (map (value_at old) (drop from ids))) → after ≡ take from ids ++ id ∷ []
    → map (value_at new) after ≡ map (value_at old) (take from ids) ++ made_of spec made (map (value_at old) (drop from ids))
outcome-values spec old new ids after from id e made is g h stands put =
    let v = outcome_of spec e (map (value_at old) (drop from ids)) in
    ap (map (value_at new)) put ∙ (put-values old new (take from ids) id v g (All-take (λ k. k < length old) from ids h) stands ∙ sym (ap (λ m. map (value_at old) (take from ids) ++ made_of spec m (map (value_at old) (drop from ids))) is))

pub same-values : (spec : Spec) (pool : List Value) (ids : List ℕ) (from : ℕ) (made : Made) → made ≡ Same → map (value_at pool) ids ≡ map (value_at pool) (take from ids) ++ made_of spec made (map (value_at pool) (drop from ids))
same-values spec pool ids from made is =
    ap (map (value_at pool)) (sym (take-append-drop from ids)) ∙ (map-append (value_at pool) (take from ids) (drop from ids) ∙ sym (ap (λ m. map (value_at pool) (take from ids) ++ made_of spec m (map (value_at pool) (drop from ids))) is))

pub on-ok : {T E : Type 0} (r : Result T E) (P Q : Type 0) → OnOk r P → (P → Q) → OnOk r Q
on-ok (Ok x) P Q h f = f h
on-ok (Err e) P Q h f = tt

pub on-both : {T E : Type 0} (r : Result T E) (P P2 Q : Type 0) → OnOk r P → OnOk r P2 → (P → P2 → Q) → OnOk r Q
on-both (Ok x) P P2 Q h k f = f h k
on-both (Err e) P P2 Q h k f = tt

-- ---- what stands behind a dot is not the end

between : (first symbols d X : ℕ) (Xs : List ℕ) → AreBetween first symbols Xs → slice_get Xs d ≡ Some X → first ≤ X
between first symbols d X Xs h e = (All-at (λ Y. (first ≤ Y) × (Y < symbols)) Xs d X h e).0

in-start : (first symbols k d X : ℕ) (Xs : List ℕ) → 0 < first → IsStart first symbols k Xs → slice_get Xs d ≡ Some X → 0 < X
in-start first symbols k d X [] some h e = absurd h
in-start first symbols k zero X (Y ∷ Xs) some h e = let a : Y ≡ X = same_Some Y X e in let b = h.0 in omega (arith, a, b)
in-start first symbols k (suc d) X (Y ∷ Xs) some h e = let l = between first symbols d X Xs h.2 e in omega (arith, l, some)

pub never-end : (g : Grammar) → IsWellFormed g → (p d X : ℕ) → symbol_at g p d ≡ Some X → 0 < X
never-end g f p d X e =
    elim (cases_lt p (length g.rules)) [
      | inl low ↦
          let r = within-some g.rules p low in
          let h = All-at (IsRule (suc (length g.entries)) g.terminals g.symbols) g.rules p r.0 f.rules r.1 in
          let l = between (suc (length g.entries)) g.symbols d X r.0.right h.2.1 (ap (λ z. slice_get z d) (sym (right_of-rule g p r.0 r.1)) ∙ e) in
          omega (arith, l)
      | inr high ↦
          elim (cases_lt (p - length g.rules) (length g.entries)) [
            | inl low ↦
                let k = p - length g.rules in
                let r = within-some g.entries k low in
                in-start (suc (length g.entries)) g.symbols k d X r.0.right (omega arith) (f.entries k r.0 r.1) (ap (λ z. slice_get z d) (sym (right_of-entry g k p r.0 (omega (arith, high)) r.1)) ∙ e)
            | inr past ↦
                let none : slice_get (g.rules ++ g.entries) p ≡ None = slice_get_past (g.rules ++ g.entries) p (let a = length-append g.rules g.entries in omega (arith, a, high, past)) in
                let empty : right_of g p ≡ [] = ap (λ o. unwrap_or (option_map (λ (r : Production). r.right) o) []) none in
                absurd (none-some X (ap (λ z. slice_get z d) (sym empty) ∙ e))
          ]
    ]

-- the token in front
look-at : (text : Bytes) (ts : List InToken) (at : ℕ) (x : InToken) → slice_get ts at ≡ Some x → look (drop at (tokens_in text ts)) ≡ x.terminal
look-at text [] at x e = absurd (none-some x e)
look-at text (y ∷ ts) zero x e = ap (λ (z : InToken). z.terminal) (same_Some y x e)
look-at text (y ∷ ts) (suc at) x e = look-at text ts at x e

pub look-some : (text : Bytes) (ts : List InToken) (at : ℕ) (x : InToken) → slice_get ts at ≡ Some x → x.terminal ≡ look (drop at (tokens_in text ts))
look-some text ts at x e = sym (look-at text ts at x e)

pub look-none : (text : Bytes) (ts : List InToken) (at : ℕ) → length ts ≤ at → 0 ≡ look (drop at (tokens_in text ts))
look-none text [] zero l = refl
look-none text [] (suc at) l = refl
look-none text (y ∷ ts) zero l = absurd (omega (arith, l))
look-none text (y ∷ ts) (suc at) l = look-none text ts at (omega (arith, l))

module _ (spec : Spec) (sound : IsSound spec) (v : View) (same : v.grammar ≡ grammar_of spec) (tables : IsTables v) (entry : ℕ) (within : entry < length spec.entries) (text : Bytes) (tokens : List InToken) (are : AreTokens spec text tokens) where
  terminals-are : v.grammar.terminals ≡ first_nonterminal spec
  terminals-are = ap (λ (g : Grammar). g.terminals) same

  pub low-terminal : (at : ℕ) → look (drop at (tokens_in text tokens)) < v.grammar.terminals
  low-terminal at =
      let fit = All-drop (λ (x : Token). (0 < x.terminal) × (x.terminal < (grammar_of spec).terminals)) at (tokens_in text tokens) (tokens-fit spec sound text tokens are) in
      subst (λ n. look (drop at (tokens_in text tokens)) < n) (sym terminals-are) (look-within (first_nonterminal spec) (drop at (tokens_in text tokens)) (omega arith) fit)

  token-at : (at : ℕ) (x : InToken) → slice_get tokens at ≡ Some x → IsToken spec text x
  token-at at x e = All-at (IsToken spec text) tokens at x are e

  -- at the end nothing is shifted
  pub shift-inside : (at s u : ℕ) → s < length v.cores → IsAction v s (look (drop at (tokens_in text tokens))) (Shift u) → at < length tokens
  shift-inside at s u low act =
      elim (cases_lt at (length tokens)) [
        | inl l ↦ l
        | inr past ↦
            let none = look-none text tokens at past in
            let r = tables.realized s low in
            let b = act.0.1 r.0 r.2 in
            let l = never-end v.grammar tables.formed act.0.0.production act.0.0.dot (look (drop at (tokens_in text tokens))) b.0 in
            absurd (omega (arith, l, none))
      ]

  module _ (at : ℕ) (states ids : List ℕ) (pool : List Value) (D : Driven v spec entry (take at (tokens_in text tokens)) (look (drop at (tokens_in text tokens))) states ids pool) where
    shifted : (x : InToken) → slice_get tokens at ≡ Some x → (s u : ℕ) → s ≡ get_or states (length states - 1) 0 → IsAction v s (look (drop at (tokens_in text tokens))) (Shift u) → (more : List ℕ) (later : List Value)
        → All (λ id. id < length later) more → map (value_at later) more ≡ map (value_at pool) ids ++ (results_of spec).leaf (token_in text x) → Driven v spec entry (take (at + 1) (tokens_in text tokens)) (look (drop (at + 1) (tokens_in text tokens))) (states ++ u ∷ []) more later
    shifted x e s u is act more later numbers values =
        let there : slice_get (tokens_in text tokens) at ≡ Some (token_in text x) = at-map (token_in text) tokens at x e in
        let next : suc at ≡ at + 1 = omega arith in
        let d = driven-shift spec sound v same tables entry within (take at (tokens_in text tokens)) (look (drop at (tokens_in text tokens))) states ids pool D (token_in text x) (look-at text tokens at x e) (low-terminal at) s u is act (look (drop (suc at) (tokens_in text tokens))) more later numbers values in
        let d2 = subst (λ z. Driven v spec entry z (look (drop (suc at) (tokens_in text tokens))) (states ++ u ∷ []) more later) (sym (take-at (tokens_in text tokens) at (token_in text x) there)) d in
        subst (λ n. Driven v spec entry (take n (tokens_in text tokens)) (look (drop n (tokens_in text tokens))) (states ++ u ∷ []) more later) next d2

    pub shifted-literal : (x : InToken) → slice_get tokens at ≡ Some x → (s u : ℕ) → s ≡ get_or states (length states - 1) 0 → IsAction v s (look (drop at (tokens_in text tokens))) (Shift u) → x.terminal < first_lexeme spec
        → Driven v spec entry (take (at + 1) (tokens_in text tokens)) (look (drop (at + 1) (tokens_in text tokens))) (states ++ u ∷ []) ids pool
    shifted-literal x e s u is act literal =
        let leaf : (results_of spec).leaf (token_in text x) ≡ [] = ap (λ b. cond b [] (Chars (part text x.from x.to) ∷ [])) (lt-true x.terminal (first_lexeme spec) literal) in
        shifted x e s u is act ids pool D.numbers_are (sym (ap (λ z. map (value_at pool) ids ++ z) leaf ∙ append-nil (map (value_at pool) ids)))

    pub shifted-lexeme : (x : InToken) → slice_get tokens at ≡ Some x → (s u : ℕ) → s ≡ get_or states (length states - 1) 0 → IsAction v s (look (drop at (tokens_in text tokens))) (Shift u) → first_lexeme spec ≤ x.terminal
        → (later : List Value) (id : ℕ) → IsGrown pool later → StandsFor later id (Chars (part text x.from x.to))
        → Driven v spec entry (take (at + 1) (tokens_in text tokens)) (look (drop (at + 1) (tokens_in text tokens))) (states ++ u ∷ []) (ids ++ id ∷ []) later
    shifted-lexeme x e s u is act lexeme later id grown stands =
        let leaf : (results_of spec).leaf (token_in text x) ≡ Chars (part text x.from x.to) ∷ [] = ap (λ b. cond b [] (Chars (part text x.from x.to) ∷ [])) (lt-false x.terminal (first_lexeme spec) lexeme) in
        let c = Chars (part text x.from x.to) in
        shifted x e s u is act (ids ++ id ∷ []) later (put-numbers pool later ids id c grown D.numbers_are stands) (put-values pool later ids id c grown D.numbers_are stands ∙ sym (ap (λ z. map (value_at pool) ids ++ z) leaf))

    -- ---- ends

    pub stopped : at ≤ length tokens → (s : ℕ) → s ≡ get_or states (length states - 1) 0 → IsAction v s (look (drop at (tokens_in text tokens))) Stop → FailsAt spec (nonterminal_of spec entry) (pieces_of spec text tokens) at
    stopped inside s is act =
        let N = nonterminal_of spec entry in
        let ts = tokens_in text tokens in
        let f = driven-stop spec sound v same tables entry within (take at ts) (look (drop at ts)) states ids pool D (drop at ts) refl (low-terminal at) s is act in
        let long : length (take at ts) ≡ at = take-long ts at (let m = length-map tokens (token_in text) in omega (arith, m, inside)) in
        let f1 = subst (λ z. machine.FailsAt (grammar_of spec) (level_number spec N 0) z (length (take at ts))) (take-append-drop at ts) f in
        text-fails spec sound N text tokens at are (subst (λ n. machine.FailsAt (grammar_of spec) (level_number spec N 0) ts n) long f1)

    pub accepted : (s : ℕ) → s ≡ get_or states (length states - 1) 0 → IsAction v s (look (drop at (tokens_in text tokens))) Accept → (w : Value) × (map (value_at pool) ids ≡ w ∷ []) × derives spec (nonterminal_of spec entry) (pieces_of spec text tokens) w
    accepted s is act =
        let N = nonterminal_of spec entry in
        let ts = tokens_in text tokens in
        let a = driven-accept spec sound v same tables entry within (take at ts) (look (drop at ts)) states ids pool D (low-terminal at) s is act in
        let past : length tokens ≤ at = elim (cases_lt at (length tokens)) [
          | inl l ↦
              let x = within-some tokens at l in
              let t = (token-at at x.0 x.1).0 in
              let e = look-at text tokens at x.0 x.1 in
              let z = a.4 in
              absurd (omega (arith, t, e, z))
          | inr p ↦ p
        ] in
        let whole : take at ts ≡ ts = take-none ts at (let m = length-map tokens (token_in text) in omega (arith, m, past)) in
        let d = text-derives spec sound N text tokens a.1 a.0 (subst (λ z. Derives (grammar_of spec) (results_of spec) (level_number spec N 0 ∷ []) z (a.1 ∷ []) a.0) whole a.2) in
        (d.0, a.3 ∙ d.1, d.2)

  -- ---- what a production needs

  pub rule-left : (p : ℕ) (r : Production) → slice_get v.grammar.rules p ≡ Some r → r.left < v.grammar.symbols
  rule-left p r e = (All-at (IsRule (suc (length v.grammar.entries)) v.grammar.terminals v.grammar.symbols) v.grammar.rules p r tables.formed.rules e).1

  same-outcome : (e f : ℕ) → Outcome e ≡ Outcome f → e ≡ f
  same-outcome e f h = cc

  pub rule-applied : (p : ℕ) (r : Production) → slice_get v.grammar.rules p ≡ Some r → (e : ℕ) → r.made ≡ Outcome e → IsApplied spec e
  rule-applied p r at e is =
      let q = rule-at spec p r (subst (λ (g : Grammar). slice_get g.rules p ≡ Some r) same at) in
      let made : made_by q.0.from ≡ Outcome e = sym (ap (λ (z : Production). z.made) q.2) ∙ is in
      elim (spread_cases spec.levels spec.productions q.0 (contains-at (spread_of spec.levels spec.productions) p q.0 q.1)) [
        | inl (w, there, rule) ↦
            let whole : Outcome w.expr ≡ Outcome e = ap (λ (z : Spread). made_by z.from) rule ∙ made in
            inr (there.0, w, there.1, there.2, same-outcome w.expr e whole)
        | inr (N, i, low, step) ↦ let no : Same ≡ Outcome e = ap (λ (z : Spread). made_by z.from) step ∙ made in absurd (cc)
      ]
