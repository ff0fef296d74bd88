-- The steps of the parser keep its stacks to those of the machine.
use Rattle.std.proofs.Common.{◌≡◌, ℕ, zero, suc, ◌+◌, ◌-◌, ◌<◌, ◌≤◌, inl, inr, true, false, cond, List, [], ◌∷◌, ◌++◌, length, get_or, map, take, drop, refl, sym, ap, ◌∙◌, subst, arith, Some}
use Rattle.std.specs.Prelude.{◌⊎◌, slice_get, option_map, unwrap_or, nat_le, count_by, All, Contains}
use Rattle.std.proofs.lemmas.Option.{slice_get_within}
use Rattle.std.proofs.lemmas.List.{append-nil, length-append, length-map, take_at, drop-map, take-map}
use Rattle.std.proofs.lemmas.List.Concat.{flat_map-append}
use Rattle.std.proofs.lemmas.List.Sums.{sum_by-cons}
use Rattle.std.proofs.lemmas.List.Elements.{All-nil}
use Rattle.sg_kinds.specs.Values.{Value, Chars}
use Rattle.sg_kinds.specs.Sound.{IsSound}
use Rattle.sg_kinds.specs.declared.spec.Spec.{Spec}
use Rattle.sg_pool.specs.Pools.{value_at}
use Rattle.sg_prec.specs.Spread.{spread_of}
use Rattle.sg_prec.specs.declared.productions.Spread.{Spread}
use Rattle.sg_prec.specs.LevelDerives.{made_from}
use Rattle.sg_prec.proofs.Spreads.{spread_cases}
use Rattle.sg_grammar.proofs.LevelNumbers.{level_behind}
use Rattle.sg_grammar.specs.Grammar.{Grammar, right_of}
use Rattle.sg_grammar.specs.declared.grammar.Production.{Production}
use Rattle.sg_grammar.specs.Derives.{Token, Derives, nothing, token, under}
use Rattle.sg_grammar.specs.Numbered.{first_lexeme, level_number, spread_number, grammar_of}
use Rattle.sg_lalr.specs.declared.table.Action.{Action}
use Rattle.sg_lalr.specs.declared.table.Action.TheVariants.{Shift, Reduce, Accept, Stop}
use Rattle.sg_lalr.specs.Items.{item, HasNext}
use Rattle.sg_lalr.specs.ValidItems.{Valid, start}
use Rattle.sg_lalr.specs.Automaton.{row_at}
use Rattle.sg_lalr.specs.Tables.{View, IsTables, IsAction, Decided, Leads}
use Rattle.sg_lalr.proofs.TableLaws.{one_action, one_behind}
use Rattle.sg_machine.specs.Machine.{look, top, state_behind, pushed, results_in, begun}
use Rattle.sg_machine.specs.Sentences as machine
use Rattle.sg_machine.specs.Kept.{cells_of, Kept}
use Rattle.sg_machine.proofs.Lists.{pushed-append, same-pushed, length-pushed, take-past}
use Rattle.sg_machine.proofs.Exact.{core-at, right_of-rule}
use Rattle.sg_machine.proofs.Derivations.{in-two, length-results}
use Rattle.sg_machine.proofs.Consume.{cells-results, top-cells}
use Rattle.sg_machine.proofs.Suffix.{suffix, expected, marker-at, no-marker, cut}
use Rattle.sg_machine.proofs.Keeping.{stacked-append, kept-start, kept-top, kept-acts, kept-shift, kept-popped}
use Rattle.sg_machine.proofs.Ends.{stop-fails, accept-right}
use Rattle.sg_input.specs.Entered.{nonterminal_of}
use Rattle.sg_input.specs.Results.{joined, made_of, results_of}
use Rattle.sg_input.specs.Driven.{bound_in, Driven}
use Rattle.sg_input.proofs.Symbols.{lt-true, lt-false}
use Rattle.sg_input.proofs.Bridge.{map-append, contains-at, node-values, rule-at}
use Rattle.sg_input.proofs.Reading.{is-entry}

-- ---- lists

pub top-last : {A : Type 0} (c : ℕ × A) (cs s : List (ℕ × A)) (d : ℕ) → top (pushed (c ∷ cs) s) ≡ get_or (map (λ (e : ℕ × A). e.0) (c ∷ cs)) (length cs) d
top-last c [] s d = refl
top-last c (e ∷ cs) s d = top-last e cs (c ∷ s) d

-- the state on top of a stack, by the list of its states
pub top-of : {A : Type 0} (cells : List (ℕ × A)) (d : ℕ) → 0 < length cells → top (pushed cells []) ≡ get_or (map (λ (e : ℕ × A). e.0) cells) (length cells - 1) d
top-of [] d l = absurd (omega (arith, l))
top-of (c ∷ cs) d l = top-last c cs [] d ∙ ap (λ k. get_or (map (λ e. e.0) (c ∷ cs)) k d) (omega arith)

-- one more cell on top
pub pushed-one : {A : Type 0} (cells : List A) (c : A) → pushed (cells ++ c ∷ []) [] ≡ c ∷ pushed cells []
pushed-one cells c = pushed-append cells (c ∷ []) []

take-length : {A : Type 0} (xs : List A) → take (length xs) xs ≡ xs
take-length [] = refl
take-length (x ∷ xs) = ap (λ z. x ∷ z) (take-length xs)

drop-length : {A : Type 0} (xs ys : List A) (n : ℕ) → n ≡ length xs → drop n (xs ++ ys) ≡ ys
drop-length [] ys n e = ap (λ k. drop k ys) e
drop-length (x ∷ xs) ys zero e = absurd (omega (arith, e))
drop-length (x ∷ xs) ys (suc n) e = drop-length xs ys n (omega (arith, e))

pub joined-append : (xs ys : List (List Value)) → joined (xs ++ ys) ≡ joined xs ++ joined ys
joined-append xs ys = flat_map-append (λ (vs : List Value). vs) xs ys

pub joined-one : (xs : List (List Value)) (b : List Value) → joined (xs ++ b ∷ []) ≡ joined xs ++ b
joined-one xs b = joined-append xs (b ∷ []) ∙ ap (λ z. joined xs ++ z) (append-nil b)

results-append : {A : Type 0} (xs ys : List (ℕ × A)) → results_in (xs ++ ys) ≡ results_in xs ++ results_in ys
results-append xs ys = map-append (λ c. c.1) xs ys

results-one : (xs : List (ℕ × List Value)) (u : ℕ) (b : List Value) → joined (results_in (xs ++ (u, b) ∷ [])) ≡ joined (results_in xs) ++ b
results-one xs u b = ap joined (results-append xs ((u, b) ∷ [])) ∙ joined-one (results_in xs) b

-- how many values a string has
count-yes : (f : ℕ) (X : ℕ) (Xs : List ℕ) → f ≤ X → count_by (λ Y. nat_le f Y) (X ∷ Xs) ≡ suc (count_by (λ Y. nat_le f Y) Xs)
count-yes f X Xs l = let e : nat_le f X ≡ true = grind arith in sum_by-cons (λ Y. cond (nat_le f Y) 1 0) X Xs ∙ (ap (λ b. cond b 1 0 + count_by (λ Y. nat_le f Y) Xs) e ∙ omega arith)

count-no : (f : ℕ) (X : ℕ) (Xs : List ℕ) → X < f → count_by (λ Y. nat_le f Y) (X ∷ Xs) ≡ count_by (λ Y. nat_le f Y) Xs
count-no f X Xs l = let e : nat_le f X ≡ false = grind arith in sum_by-cons (λ Y. cond (nat_le f Y) 1 0) X Xs ∙ (ap (λ b. cond b 1 0 + count_by (λ Y. nat_le f Y) Xs) e ∙ omega arith)

module _ (spec : Spec) (sound : IsSound spec) where
  leaf-counted : (x : Token) (X : ℕ) (Xs : List ℕ) (vs : List (List Value)) → X ≡ x.terminal → length (joined vs) ≡ bound_in spec Xs → length (joined ((results_of spec).leaf x ∷ vs)) ≡ bound_in spec (X ∷ Xs)
  leaf-counted x X Xs vs e i =
      elim (cases-below x.terminal (first_lexeme spec)) [
        | inl low ↦
            let n = count-no (first_lexeme spec) X Xs (omega (arith, e, low)) in
            ap (λ b. length (cond b [] (Chars x.text ∷ []) ++ joined vs)) (lt-true x.terminal (first_lexeme spec) low) ∙ (i ∙ sym n)
        | inr high ↦
            let n = count-yes (first_lexeme spec) X Xs (omega (arith, e, high)) in
            ap (λ b. length (cond b [] (Chars x.text ∷ []) ++ joined vs)) (lt-false x.terminal (first_lexeme spec) high) ∙ (ap suc i ∙ sym n)
      ]
    where
      cases-below : (a b : ℕ) → (a < b) ⊎ (b ≤ a)
      cases-below a b = grind arith

  -- a production gives one value
  one-bound : (N i : ℕ) → bound_in spec (level_number spec N i ∷ []) ≡ 1
  one-bound N i = count-yes (first_lexeme spec) (level_number spec N i) [] (omega (arith, level_behind spec N i))

  one-made : (x : Spread) → Contains (spread_of spec.levels spec.productions) x → (vs : List Value) → length vs ≡ bound_in spec (map (spread_number spec) x.right) → length (made_from spec x.from vs) ≡ 1
  one-made x has vs = elim (spread_cases spec.levels spec.productions x has) [
    | inl (r, there, is) ↦ subst (λ (z : Spread). length vs ≡ bound_in spec (map (spread_number spec) z.right) → length (made_from spec z.from vs) ≡ 1) is (λ long. refl)
    | inr (N, i, low, is) ↦ subst (λ (z : Spread). length vs ≡ bound_in spec (map (spread_number spec) z.right) → length (made_from spec z.from vs) ≡ 1) is (λ long. long ∙ one-bound N (suc i))
  ]

  pub counted : (Xs : List ℕ) (ts : List Token) (bs : List (List Value)) (n : ℕ) → Derives (grammar_of spec) (results_of spec) Xs ts bs n → length (joined bs) ≡ bound_in spec Xs
  counted _ _ _ _ nothing = refl
  counted _ _ _ _ (token x X Xs ts vs n low is d) = leaf-counted x X Xs vs is (counted Xs ts vs n d)
  counted _ _ _ _ (under p r X Xs us ts all ws vs m n k is left d f split count) =
      let q = rule-at spec p r is in
      let side : X ≡ level_number spec q.0.left q.0.level = left ∙ ap (λ (z : Production). z.left) q.2 in
      let i = counted Xs ts vs n f in
      let within = counted r.right us ws m d ∙ ap (λ (z : Production). bound_in spec z.right) q.2 in
      let one = one-made q.0 (contains-at (spread_of spec.levels spec.productions) p q.0 q.1) (joined ws) within in
      let c = count-yes (first_lexeme spec) X Xs (omega (arith, side, level_behind spec q.0.left q.0.level)) in
      let made = ap (λ z. length (z ++ joined vs)) (node-values spec p q.0 q.1 ws) ∙ length-append (made_from spec q.0.from (joined ws)) (joined vs) in
      omega (arith, made, one, i, c)

  module _ (v : View) (same : v.grammar ≡ grammar_of spec) (tables : IsTables v) (entry : ℕ) (within : entry < length spec.entries) where
    entries-of : length v.grammar.entries ≡ length (grammar_of spec).entries
    entries-of = ap (λ (g : Grammar). length g.entries) same

    is-entry-here : machine.IsEntry v.grammar entry (level_number spec (nonterminal_of spec entry) 0)
    is-entry-here = subst (λ g. machine.IsEntry g entry (level_number spec (nonterminal_of spec entry) 0)) (sym same) (is-entry spec entry within)

    pub within-tables : entry < length v.grammar.entries
    within-tables = slice_get_within v.grammar.entries entry is-entry-here.0 is-entry-here.1

    -- ---- the beginning

    viable-start : Valid v.grammar [] (length v.grammar.rules + entry) zero zero
    viable-start = start entry (length v.grammar.rules + entry) within-tables refl

    pub start-next : (0 < length v.cores) × HasNext v.grammar (row_at v.cores 0) (suc entry)
    start-next =
        let p = length v.grammar.rules + entry in
        let first = tables.first (let l = within-tables in omega (arith, l)) in
        (first.0, (item p zero, (first.1.1 p zero).1 (zero, viable-start), marker-at v.grammar tables.formed entry p within-tables refl))

    pub driven-start : Decided v → (t u : ℕ) → Leads v 0 (suc entry) u → (pool : List Value) → Driven v spec entry [] t (u ∷ []) [] pool
    driven-start m t u leads pool =
        let n = start-next in
        let e = one_behind v tables 0 (suc entry) n.0 u (m.go 0 (suc entry)) leads (m.leads 0 (suc entry) n.0 n.1) in
        record {
          decided = m;
          cells = begun m entry [];
          kept = kept-start v tables m (results_of spec) entry [] within-tables t;
          states_are = ap (λ z. z ∷ []) e;
          numbers_are = All-nil (λ id. id < length pool);
          values_are = refl;
        }

    module _ (us : List Token) (t : ℕ) (states ids : List ℕ) (pool : List Value) (D : Driven v spec entry us t states ids pool) where
      -- ---- the state on top

      viable-top : (top (pushed D.cells []) ≡ state_behind D.decided (pushed D.kept.string (suc entry ∷ [])))
      viable-top = kept-top v tables D.decided (results_of spec) entry [] us t (pushed D.cells []) D.kept

      some-cells : 0 < length D.cells
      some-cells =
          let a = length-pushed D.cells [] in
          let b : length (pushed D.cells []) ≡ length (pushed (cells_of D.decided (suc entry ∷ []) D.kept.string D.kept.results) (begun D.decided entry [])) = ap length D.kept.stacked in
          let c = length-pushed (cells_of D.decided (suc entry ∷ []) D.kept.string D.kept.results) (begun D.decided entry []) in
          omega (arith, a, b, c)

      counted-states : length states ≡ length D.cells
      counted-states = ap length D.states_are ∙ length-map D.cells (λ c. c.0)

      pub driven-states : 0 < length states
      driven-states = let a = some-cells in let b = counted-states in omega (arith, a, b)

      pub top-state : (d : ℕ) → get_or states (length states - 1) d ≡ top (pushed D.cells [])
      top-state d = ap (λ z. get_or z (length states - 1) d) D.states_are ∙ (ap (λ n. get_or (map (λ c. c.0) D.cells) (n - 1) d) counted-states ∙ sym (top-of D.cells d some-cells))

      pub driven-top : (d : ℕ) → get_or states (length states - 1) d < length v.cores
      driven-top d =
          let c = core-at v tables D.decided (pushed D.kept.string (suc entry ∷ [])) D.kept.viable in
          subst (λ z. z < length v.cores) (sym (top-state d ∙ viable-top)) c.0

      -- what the machine does there
      acts : t < v.grammar.terminals → (s : ℕ) → s ≡ get_or states (length states - 1) 0 → (a : Action) → IsAction v s t a → D.decided.act (top (pushed D.cells [])) t ≡ a
      acts low s is a x =
          let here : s ≡ top (pushed D.cells []) = is ∙ top-state 0 in
          let c : s < length v.cores = subst (λ z. z < length v.cores) (sym is) (driven-top 0) in
          ap (λ z. D.decided.act z t) (sym here) ∙ one_action v tables s t c low (D.decided.act s t) a (D.decided.acts s t c low) x

      -- ---- a shift

      pub driven-shift : (x : Token) → t ≡ x.terminal → t < v.grammar.terminals → (s u : ℕ) → s ≡ get_or states (length states - 1) 0 → IsAction v s t (Shift u) → (next : ℕ) (more : List ℕ) (later : List Value)
          → All (λ id. id < length later) more → map (value_at later) more ≡ map (value_at pool) ids ++ (results_of spec).leaf x → Driven v spec entry (us ++ x ∷ []) next (states ++ u ∷ []) more later
      driven-shift x first low s u is act next more later numbers values =
          let does = acts low s is (Shift u) act in
          let b = (results_of spec).leaf x in
          let k = kept-shift v tables D.decided (results_of spec) entry [] us t (pushed D.cells []) D.kept x u first (subst (λ z. z < v.grammar.terminals) first low) (ap (λ z. D.decided.act (top (pushed D.cells [])) z) (sym first) ∙ does) next in
          record {
            decided = D.decided;
            cells = D.cells ++ (u, b) ∷ [];
            kept = subst (λ z. Kept (results_of spec) D.decided entry [] (us ++ x ∷ []) next z) (sym (pushed-one D.cells (u, b))) k;
            states_are = ap (λ z. z ++ u ∷ []) D.states_are ∙ sym (map-append (λ c. c.0) D.cells ((u, b) ∷ []));
            numbers_are = numbers;
            values_are = values ∙ (ap (λ z. z ++ b) D.values_are ∙ sym (results-one D.cells u b));
          }

      -- ---- where it ends

      pub driven-stop : (rest : List Token) → t ≡ look rest → t < v.grammar.terminals → (s : ℕ) → s ≡ get_or states (length states - 1) 0 → IsAction v s t Stop → machine.FailsAt (grammar_of spec) (level_number spec (nonterminal_of spec entry) 0) (us ++ rest) (length us)
      driven-stop rest first low s is act =
          let does = acts low s is Stop act in
          let K = subst (λ z. Kept (results_of spec) D.decided entry [] us z (pushed D.cells [])) first D.kept in
          let f = stop-fails v tables D.decided (results_of spec) entry (level_number spec (nonterminal_of spec entry) 0) is-entry-here [] us (pushed D.cells []) rest K (ap (λ z. D.decided.act (top (pushed D.cells [])) z) (sym first) ∙ does) in
          subst (λ g. machine.FailsAt g (level_number spec (nonterminal_of spec entry) 0) (us ++ rest) (length us)) same f

      -- the tokens are at their end, and the only result is that of the entry's nonterminal
      pub driven-accept : t < v.grammar.terminals → (s : ℕ) → s ≡ get_or states (length states - 1) 0 → IsAction v s t Accept
          → (n : ℕ) × (b : List Value) × Derives (grammar_of spec) (results_of spec) (level_number spec (nonterminal_of spec entry) 0 ∷ []) us (b ∷ []) n × (map (value_at pool) ids ≡ b) × (t ≡ 0)
      driven-accept low s is act =
          let N = level_number spec (nonterminal_of spec entry) 0 in
          let does = acts low s is Accept act in
          let r = accept-right v tables D.decided (results_of spec) entry N is-entry-here [] us t (pushed D.cells []) D.kept low does in
          let m = D.decided in
          let first : ℕ × List Value = (state_behind m (suc entry ∷ []), []) in
          let last : ℕ × List Value = (state_behind m (N ∷ suc entry ∷ []), r.1) in
          let whole : pushed D.cells [] ≡ pushed (first ∷ last ∷ []) [] = r.3 in
          let two = same-pushed D.cells (first ∷ last ∷ []) [] [] whole (let a = length-pushed D.cells [] in let b = length-pushed (first ∷ last ∷ []) [] in let c : length (pushed D.cells []) ≡ length (pushed (first ∷ last ∷ []) []) = ap length whole in omega (arith, a, b, c)) in (
            r.0,
            r.1,
            subst (λ g. Derives g (results_of spec) (N ∷ []) us (r.1 ∷ []) r.0) same r.2,
            D.values_are ∙ (ap (λ z. joined (results_in z)) two.0 ∙ append-nil r.1),
            r.4,
          )

      -- ---- a reduction

      -- the cells below those of the right side, and these
      pub record Popped (p : ℕ) (r : Production) : Type 0 where
        pub front : List (ℕ × List Value)
        pub back : List (ℕ × List Value)
        pub is : D.cells ≡ front ++ back
        pub some : 0 < length front
        pub fits : length back ≡ length r.right
        pub bound : length (joined (results_in back)) ≡ bound_in spec r.right
        pub low : top (pushed front []) < length v.cores
        pub next : HasNext v.grammar (row_at v.cores (top (pushed front []))) r.left
        pub kept : Kept (results_of spec) D.decided entry [] us t ((D.decided.go (top (pushed front [])) r.left, (results_of spec).node p (results_in back)) ∷ pushed front [])

      pub popped : t < v.grammar.terminals → (s : ℕ) → s ≡ get_or states (length states - 1) 0 → (p : ℕ) → IsAction v s t (Reduce p) → (r : Production) → slice_get v.grammar.rules p ≡ Some r → Popped p r
      popped low s is p act r rule =
          let g = v.grammar in
          let m = D.decided in
          let K = D.kept in
          let M = suc entry ∷ [] in
          let w = pushed K.string M in
          let all = pushed D.cells [] in
          let c = core-at v tables m w K.viable in
          let reduces = acts low s is (Reduce p) act in
          let does = kept-acts v tables m (results_of spec) entry [] us t all K low (Reduce p) reduces in
          let i = does.1.0 in
          let b = does.1.1 w c.1 in
          let x = (b.2.1 i.production i.dot).1 (t, b.2.2) in
          let began = suffix g w i.production i.dot x.0 x.1 in
          let here : slice_get g.rules i.production ≡ Some r = ap (λ z. slice_get g.rules z) (sym b.0) ∙ rule in
          let side : take i.dot (right_of g i.production) ≡ r.right = take-past (right_of g i.production) i.dot b.1 ∙ right_of-rule g i.production r here in
          let ends : w ≡ pushed r.right began.before = began.is ∙ ap (λ z. pushed z began.before) side in
          let parts = cut (suc entry) K.string r.right began.before (no-marker g tables.formed p r rule entry within-tables) ends in
          let Ys = parts.0 in
          let two = in-two g (results_of spec) Ys r.right us K.results K.nodes (subst (λ z. Derives g (results_of spec) z us K.results K.nodes) parts.1 K.derived) in
          let expects = expected g began.before i.production x.0 r began.begins here in
          let fit = length-results g (results_of spec) Ys two.front two.front_results two.front_nodes two.first in
          let fits = length-results g (results_of spec) r.right two.back two.back_results two.back_nodes two.second in
          let low_cells = cells_of m M Ys two.front_results in
          let front = begun m entry [] ++ low_cells in
          let back = cells_of m (pushed Ys M) r.right two.back_results in
          let made = cells-results v m (pushed Ys M) r.right two.back_results fits in
          let stack : all ≡ pushed back (pushed low_cells (begun m entry [])) = K.stacked ∙ (ap (λ z. pushed (cells_of m M z K.results) (begun m entry [])) parts.1 ∙ (ap (λ z. pushed (cells_of m M (Ys ++ r.right) z) (begun m entry [])) two.results ∙ stacked-append v m M Ys r.right two.front_results two.back_results (begun m entry []) fit)) in
          let whole : all ≡ pushed (front ++ back) [] = stack ∙ sym (pushed-append front back []) in
          let longs : length D.cells ≡ length (front ++ back) = (let a = length-pushed D.cells [] in let d = length-pushed (front ++ back) [] in let e : length all ≡ length (pushed (front ++ back) []) = ap length whole in omega (arith, a, d, e)) in
          let cells = same-pushed D.cells (front ++ back) [] [] whole longs in
          let topped : top (pushed front []) ≡ state_behind m (pushed Ys M) = top-cells v m M Ys two.front_results (begun m entry []) fit refl in
          let before : pushed Ys M ≡ began.before = sym parts.2 in
          let core = core-at v tables m began.before (expects.0, expects.1, (expects.2, expects.3)) in
          let at : state_behind m began.before ≡ top (pushed front []) = sym (topped ∙ ap (state_behind m) before) in
          let derived = subst (λ h. Derives h (results_of spec) r.right two.back two.back_results two.back_nodes) same two.second in
          record {
            front = front;
            back = back;
            is = cells.0;
            some = (let a = length-append (begun m entry []) low_cells in omega (arith, a));
            fits = made.1;
            bound = ap (λ z. length (joined z)) made.0 ∙ counted r.right two.back two.back_results two.back_nodes derived;
            low = subst (λ z. z < length v.cores) at core.0;
            next = subst (λ z. HasNext v.grammar (row_at v.cores z) r.left) at (item expects.0 expects.1, (core.1.1 expects.0 expects.1).1 (expects.2, expects.3), expects.4);
            kept = kept-popped v tables m (results_of spec) entry [] within-tables us t all K low p r back (pushed front []) reduces rule (whole ∙ pushed-append front back []) made.1;
          }

      -- what is popped, in the lists of the stacks
      pub record Reduces (p : ℕ) (r : Production) : Type 0 where
        pub room : length r.right < length states
        pub bound : bound_in spec r.right ≤ length ids
        pub some : 0 < length (take (length states - length r.right) states)
        pub low : (d : ℕ) → get_or (take (length states - length r.right) states) (length (take (length states - length r.right) states) - 1) d < length v.cores
        pub next : (s : ℕ) → s ≡ get_or (take (length states - length r.right) states) (length (take (length states - length r.right) states) - 1) 0 → HasNext v.grammar (row_at v.cores s) r.left
        pub then : (u : ℕ) → ((s : ℕ) → s ≡ get_or (take (length states - length r.right) states) (length (take (length states - length r.right) states) - 1) 0 → Leads v s r.left u) → (more : List ℕ) (later : List Value) → All (λ id. id < length later) more
            → map (value_at later) more ≡ map (value_at pool) (take (length ids - bound_in spec r.right) ids) ++ made_of spec r.made (map (value_at pool) (drop (length ids - bound_in spec r.right) ids))
            → Driven v spec entry us t (take (length states - length r.right) states ++ u ∷ []) more later

      pub driven-reduce : t < v.grammar.terminals → (s : ℕ) → s ≡ get_or states (length states - 1) 0 → (p : ℕ) → IsAction v s t (Reduce p) → (r : Production) → slice_get v.grammar.rules p ≡ Some r → Reduces p r
      driven-reduce low s is p act r rule =
          let P = popped low s is p act r rule in
          let F = joined (results_in P.front) in
          let B = joined (results_in P.back) in
          let n = length states - length r.right in
          let k = length ids - bound_in spec r.right in
          let a = counted-states in
          let b : length D.cells ≡ length (P.front ++ P.back) = ap length P.is in
          let c = length-append P.front P.back in
          let fits = P.fits in
          let some = P.some in
          let states_is : states ≡ map (λ e. e.0) P.front ++ map (λ e. e.0) P.back = D.states_are ∙ (ap (map (λ e. e.0)) P.is ∙ map-append (λ e. e.0) P.front P.back) in
          let fronts = length-map P.front (λ (e : ℕ × List Value). e.0) in
          let kept_states : take n states ≡ map (λ e. e.0) P.front = ap (take n) states_is ∙ take_at (map (λ e. e.0) P.front) (map (λ e. e.0) P.back) n (omega (arith, a, b, c, fits, fronts)) in
          let values_is : map (value_at pool) ids ≡ F ++ B = D.values_are ∙ (ap (λ z. joined (results_in z)) P.is ∙ (ap joined (results-append P.front P.back) ∙ joined-append (results_in P.front) (results_in P.back))) in
          let ids_long : length ids ≡ length F + length B = sym (length-map ids (value_at pool)) ∙ (ap length values_is ∙ length-append F B) in
          let bounds = P.bound in
          let front_values : map (value_at pool) (take k ids) ≡ F = sym (take-map (value_at pool) k ids) ∙ (ap (take k) values_is ∙ take_at F B k (omega (arith, ids_long, bounds))) in
          let back_values : map (value_at pool) (drop k ids) ≡ B = sym (drop-map (value_at pool) k ids) ∙ (ap (drop k) values_is ∙ drop-length F B k (omega (arith, ids_long, bounds))) in
          let topped : (d : ℕ) → get_or (take n states) (length (take n states) - 1) d ≡ top (pushed P.front []) = λ d. ap (λ z. get_or z (length z - 1) d) kept_states ∙ (ap (λ j. get_or (map (λ e. e.0) P.front) (j - 1) d) fronts ∙ sym (top-of P.front d some)) in
          record {
            room = omega (arith, a, b, c, fits, some);
            bound = omega (arith, ids_long, bounds);
            some = (let l = ap length kept_states in omega (arith, l, fronts, some));
            low = λ d. subst (λ z. z < length v.cores) (sym (topped d)) P.low;
            next = λ s e. subst (λ z. HasNext v.grammar (row_at v.cores z) r.left) (sym (e ∙ topped 0)) P.next;
            then = λ u leads more later numbers values.
                let m = D.decided in
                let f = top (pushed P.front []) in
                let go : m.go f r.left ≡ u = one_behind v tables f r.left P.low (m.go f r.left) u (m.leads f r.left P.low P.next) (leads f (sym (topped 0))) in
                let node : (results_of spec).node p (results_in P.back) ≡ made_of spec r.made B = ap (λ o. unwrap_or (option_map (λ (q : Production). made_of spec q.made B) o) []) (subst (λ (g : Grammar). slice_get g.rules p ≡ Some r) same rule) in
                let made : (results_of spec).node p (results_in P.back) ≡ made_of spec r.made (map (value_at pool) (drop k ids)) = node ∙ ap (made_of spec r.made) (sym back_values) in
                let result = made_of spec r.made (map (value_at pool) (drop k ids)) in
                let K1 = subst (λ z. Kept (results_of spec) m entry [] us t ((z, (results_of spec).node p (results_in P.back)) ∷ pushed P.front [])) go P.kept in
                let K2 = subst (λ z. Kept (results_of spec) m entry [] us t ((u, z) ∷ pushed P.front [])) made K1 in
                record {
                  decided = m;
                  cells = P.front ++ (u, result) ∷ [];
                  kept = subst (λ z. Kept (results_of spec) m entry [] us t z) (sym (pushed-one P.front (u, result))) K2;
                  states_are = ap (λ z. z ++ u ∷ []) kept_states ∙ sym (map-append (λ e. e.0) P.front ((u, result) ∷ []));
                  numbers_are = numbers;
                  values_are = values ∙ (ap (λ z. z ++ result) front_values ∙ sym (results-one P.front u result));
                };
          }
