-- The marks of a program's tree, and the longest match so far.
use Rattle.std.proofs.Common.{◌≡◌, ℕ, suc, ◌+◌, ◌<◌, ◌≤◌, inl, inr, Bool, true, false, ◌&&◌, ◌||◌, List, length, refl, sym, ap, ◌∙◌, subst, arith, Option, Some}
use Rattle.std.specs.Prelude.{slice_get, nat_eq, nat_le}
use Rattle.std.proofs.lemmas.Bool.{eqb-true, leb-true, eq-eqb}
use Rattle.std.proofs.lemmas.Bool.Decides.{nat_tests}
use Rattle.std.proofs.Math.Nat.{eq-or-lt_of_le}
use Rattle.std.proofs.lemmas.Option.{slice_get_within}
use Rattle.sg_kinds.specs.Values.{Bytes}
use Rattle.sg_kinds.specs.Matches.{MatchesFrom}
use Rattle.sg_patterns.specs.declared.program.Leaf.{Leaf}
use Rattle.sg_patterns.specs.declared.program.Leaf.TheVariants.{Byte, Dot, Class}
use Rattle.sg_patterns.specs.declared.program.Node.{Node}
use Rattle.sg_patterns.specs.declared.program.Node.TheVariants as node
use Rattle.sg_patterns.specs.declared.program.Above.{Above}
use Rattle.sg_patterns.specs.declared.program.Above.TheVariants.{Top}
use Rattle.sg_patterns.specs.declared.program.Program.{Program}
use Rattle.sg_patterns.specs.Leaves.{leaf_pattern}
use Rattle.sg_patterns.specs.Trees.{Tree, Nothing, OneByte, Then, Either, Many, Several, Maybe, root_of, pattern_of, empty_of, HasFinals, Steps}
use Rattle.sg_patterns.specs.Flags.{flag_at}
use Rattle.sg_patterns.specs.Programs.{AreLaidOut}
use Rattle.sg_patterns.specs.Marks.{begin_in, HasBegins, final_in, HasFinalsTo, IsDead}
use Rattle.sg_patterns.specs.LongestMatch.{IsLength, Pattern}
use Rattle.sg_patterns.proofs.Matching.{matches-within}
use Rattle.sg_patterns.specs.Spent.{Rest, IsSpent}
use Rattle.sg_patterns.proofs.Marking.{final-rest, rest-final, shifted-rest, rest-shifted}

leaf-empty : (l : Leaf) → empty_of (leaf_pattern l) ≡ false
leaf-empty (Byte b) = refl
leaf-empty Dot = refl
leaf-empty (Class negated ranges) = refl

module _ (p : Program) where
  ns : ℕ → Option Node
  ns = slice_get p.nodes.items

  -- the flag of the empty text is that of the pattern
  pub empty-flag : (t : Tree) → AreLaidOut p.nodes.items p.above.items p.empties.items t → flag_at p.empties.items (root_of t) ≡ empty_of (pattern_of t)
  empty-flag (Nothing k) st = st.1
  empty-flag (OneByte k l) st = st.1 ∙ sym (leaf-empty l)
  empty-flag (Then k t u) st = st.1 ∙ (λ i. empty-flag t st.4 i && empty-flag u st.5 i)
  empty-flag (Either k t u) st = st.1 ∙ (λ i. empty-flag t st.4 i || empty-flag u st.5 i)
  empty-flag (Many k t) st = st.1
  empty-flag (Several k t) st = st.1 ∙ empty-flag t st.3
  empty-flag (Maybe k t) st = st.1

  module _ (b : ℕ) (g f : List Bool) (finals : HasFinalsTo p (length p.nodes.items) b g f) where
    -- the flag of a node by what it is
    final-is : (k : ℕ) (x : Node) → slice_get p.nodes.items k ≡ Some x → flag_at f k ≡ final_in p.empties.items g f b k (Some x)
    final-is k x is = finals k (slice_get_within p.nodes.items k x is) ∙ ap (final_in p.empties.items g f b k) is

    pub stands-finals : (t : Tree) → AreLaidOut p.nodes.items p.above.items p.empties.items t → HasFinals (flag_at f) t
    stands-finals (Nothing k) st = final-is k _ st.0
    stands-finals (OneByte k l) st = tt
    stands-finals (Then k t u) st =
        (final-is k _ st.0 ∙ ap (λ e. (flag_at f (root_of t) && e) || flag_at f (root_of u)) (empty-flag u st.5), stands-finals t st.4, stands-finals u st.5)
    stands-finals (Either k t u) st = (final-is k _ st.0, stands-finals t st.4, stands-finals u st.5)
    stands-finals (Many k t) st = (final-is k _ st.0, stands-finals t st.3)
    stands-finals (Several k t) st = (final-is k _ st.0, stands-finals t st.3)
    stands-finals (Maybe k t) st = (final-is k _ st.0, stands-finals t st.3)

    module _ (starts : Bool) (before : List Bool) (begins : HasBegins p starts before g) where
      begin-is : (k : ℕ) (a : Above) → slice_get p.above.items k ≡ Some a → flag_at g k ≡ begin_in p.empties.items before g starts k (Some a)
      begin-is k a is = begins k (slice_get_within p.above.items k a is) ∙ ap (begin_in p.empties.items before g starts k) is

      pub stands-steps : (t : Tree) → AreLaidOut p.nodes.items p.above.items p.empties.items t → Steps (flag_at before) (flag_at g) (flag_at f) b t
      stands-steps (Nothing k) st = tt
      stands-steps (OneByte k l) st = final-is k _ st.0
      stands-steps (Then k t u) st =
          (begin-is (root_of t) _ st.2, begin-is (root_of u) _ st.3 ∙ ap (λ e. (flag_at g k && e) || flag_at before (root_of t)) (empty-flag t st.4), stands-steps t st.4, stands-steps u st.5)
      stands-steps (Either k t u) st = (begin-is (root_of t) _ st.2, begin-is (root_of u) _ st.3, stands-steps t st.4, stands-steps u st.5)
      stands-steps (Many k t) st = (begin-is (root_of t) _ st.2, stands-steps t st.3)
      stands-steps (Several k t) st = (begin-is (root_of t) _ st.2, stands-steps t st.3)
      stands-steps (Maybe k t) st = (begin-is (root_of t) _ st.2, stands-steps t st.3)

  -- no mark, no rest
  pub dead-rest : (text : Bytes) (f : List Bool) → IsDead p (length p.nodes.items) f → (t : Tree) → AreLaidOut p.nodes.items p.above.items p.empties.items t → (j e : ℕ) → Rest text (flag_at f) t j e → ⊥
  dead-rest text f dead (Nothing k) st j e r = r
  dead-rest text f dead (OneByte k l) st j e r = let off : flag_at f k ≡ false = dead k (node.Leaf l) (slice_get_within p.nodes.items k (node.Leaf l) st.0) st.0 refl in let both : false ≡ true = sym off ∙ r.0 in absurd (cc)
  dead-rest text f dead (Then k t u) st j e (inl r) = dead-rest text f dead t st.4 j r.0 r.1
  dead-rest text f dead (Then k t u) st j e (inr r) = dead-rest text f dead u st.5 j e r
  dead-rest text f dead (Either k t u) st j e (inl r) = dead-rest text f dead t st.4 j e r
  dead-rest text f dead (Either k t u) st j e (inr r) = dead-rest text f dead u st.5 j e r
  dead-rest text f dead (Many k t) st j e r = dead-rest text f dead t st.3 j r.0 r.1
  dead-rest text f dead (Several k t) st j e r = dead-rest text f dead t st.3 j r.0 r.1
  dead-rest text f dead (Maybe k t) st j e r = dead-rest text f dead t st.3 j e r

  -- flags that are all down are right, and say nothing
  clear-finals : (f : List Bool) → ((k : ℕ) → k < length p.nodes.items → flag_at f k ≡ false) → (t : Tree) → AreLaidOut p.nodes.items p.above.items p.empties.items t → HasFinals (flag_at f) t
  clear-finals f down t st = down-finals t st
    where
      root-down : (s : Tree) (x : Node) → slice_get p.nodes.items (root_of s) ≡ Some x → flag_at f (root_of s) ≡ false
      root-down s x is = down (root_of s) (slice_get_within p.nodes.items (root_of s) x is)

      tree-down : (s : Tree) → AreLaidOut p.nodes.items p.above.items p.empties.items s → flag_at f (root_of s) ≡ false
      tree-down (Nothing k) st = root-down (Nothing k) _ st.0
      tree-down (OneByte k l) st = root-down (OneByte k l) _ st.0
      tree-down (Then k t u) st = root-down (Then k t u) _ st.0
      tree-down (Either k t u) st = root-down (Either k t u) _ st.0
      tree-down (Many k t) st = root-down (Many k t) _ st.0
      tree-down (Several k t) st = root-down (Several k t) _ st.0
      tree-down (Maybe k t) st = root-down (Maybe k t) _ st.0

      down-finals : (s : Tree) → AreLaidOut p.nodes.items p.above.items p.empties.items s → HasFinals (flag_at f) s
      down-finals (Nothing k) st = tree-down (Nothing k) st
      down-finals (OneByte k l) st = tt
      down-finals (Then k t u) st = (tree-down (Then k t u) st ∙ sym (λ i. (tree-down t st.4 i && empty_of (pattern_of u)) || tree-down u st.5 i), down-finals t st.4, down-finals u st.5)
      down-finals (Either k t u) st = (tree-down (Either k t u) st ∙ sym (λ i. tree-down t st.4 i || tree-down u st.5 i), down-finals t st.4, down-finals u st.5)
      down-finals (Many k t) st = (tree-down (Many k t) st ∙ sym (tree-down t st.3), down-finals t st.3)
      down-finals (Several k t) st = (tree-down (Several k t) st ∙ sym (tree-down t st.3), down-finals t st.3)
      down-finals (Maybe k t) st = (tree-down (Maybe k t) st ∙ sym (tree-down t st.3), down-finals t st.3)

-- the flags at a place say how matches from `at` on may end, and the longest that has ended is known
pub record Matched (text : Bytes) (t : Tree) (f : List Bool) (at place longest : ℕ) : Type 0 where
  pub finals : HasFinals (flag_at f) t
  pub sound : (e : ℕ) → Rest text (flag_at f) t place e → (at < place) × MatchesFrom (pattern_of t) text at e
  pub complete : (e : ℕ) → at < place → place ≤ e → MatchesFrom (pattern_of t) text at e → Rest text (flag_at f) t place e
  pub found : 0 < longest → MatchesFrom (pattern_of t) text at (at + longest)
  pub most : (n : ℕ) → at + n ≤ place → MatchesFrom (pattern_of t) text at (at + n) → n ≤ longest

module _ (p : Program) (text : Bytes) (t : Tree) (st : AreLaidOut p.nodes.items p.above.items p.empties.items t) where
  pub matched-none : (f : List Bool) (at : ℕ) → ((k : ℕ) → k < length p.nodes.items → flag_at f k ≡ false) → Matched text t f at at 0
  matched-none f at down = record {
    finals = clear-finals p f down t st;
    sound = λ e r. absurd (dead-rest p text f (λ k x less is leaf. down k less) t st at e r);
    complete = λ e less. absurd (omega arith);
    found = λ less. absurd (omega arith);
    most = λ n le m. omega arith;
  }

  -- one step over the byte b, which stands at the place; f are the finals before it and h those after it
  module _ (f g h : List Bool) (at place longest b : ℕ) (starts : Bool) (m : Matched text t f at place longest) (le : at ≤ place) (here : slice_get text place ≡ Some b) (top : slice_get p.above.items (root_of t) ≡ Some Top) (starts_is : starts ≡ nat_eq place at) (begins : HasBegins p starts f g) (finals : HasFinalsTo p (length p.nodes.items) b g h) where
    steps : Steps (flag_at f) (flag_at g) (flag_at h) b t
    steps = stands-steps p b g h finals starts f begins t st

    root-begins : flag_at g (root_of t) ≡ nat_eq place at
    root-begins = begin-is p b g h finals starts f begins (root_of t) Top top ∙ starts_is

    next-sound : (e : ℕ) → Rest text (flag_at h) t (suc place) e → MatchesFrom (pattern_of t) text at e
    next-sound e r =
        let before = shifted-rest text (flag_at f) (flag_at g) (flag_at h) place b here t e m.finals steps r in
        elim before.1 [
          | inl s ↦ (m.sound e s).1
          | inr s ↦ let same : place ≡ at = eqb-true place at (sym root-begins ∙ s.0) in subst (λ i. MatchesFrom (pattern_of t) text i e) same s.1
        ]

    next-complete : (e : ℕ) → suc place ≤ e → MatchesFrom (pattern_of t) text at e → Rest text (flag_at h) t (suc place) e
    next-complete e later matched =
        rest-shifted text (flag_at f) (flag_at g) (flag_at h) place b here t e m.finals steps (omega arith)
        (elim (eq-or-lt_of_le le) [
          | inl same ↦ inr (root-begins ∙ eq-eqb place at (sym same), subst (λ i. MatchesFrom (pattern_of t) text i e) same matched)
          | inr less ↦ inl (m.complete e less (omega arith) matched)
        ])

    stepped : (n : ℕ) → (0 < n → MatchesFrom (pattern_of t) text at (at + n)) → ((k : ℕ) → at + k ≤ suc place → MatchesFrom (pattern_of t) text at (at + k) → k ≤ n) → Matched text t h at (suc place) n
    stepped n found most = record {
      finals = stands-finals p b g h finals t st;
      sound = λ e r. (omega (arith, le), next-sound e r);
      complete = λ e less later matched. next-complete e later matched;
      found = found;
      most = most;
    }

    -- a match ends behind the byte
    pub step-final : (n : ℕ) → flag_at h (root_of t) ≡ true → at + n ≡ suc place → Matched text t h at (suc place) n
    step-final n final is =
        stepped n (λ less. let ends = next-sound (suc place) (final-rest text (flag_at h) t (suc place) (stands-finals p b g h finals t st) final) in subst (MatchesFrom (pattern_of t) text at) (sym is) ends) (λ k within matched. omega arith)

    -- no match ends behind the byte
    pub step-on : flag_at h (root_of t) ≡ false → Matched text t h at (suc place) longest
    step-on off =
        stepped longest m.found (λ k within matched. elim (eq-or-lt_of_le within) [
          | inl same ↦ absurd (let final = rest-final text (flag_at h) t (suc place) (stands-finals p b g h finals t st) (next-complete (suc place) (omega arith) (subst (MatchesFrom (pattern_of t) text at) same matched)) in let both : false ≡ true = sym off ∙ final in cc)
          | inr earlier ↦ m.most k (omega arith) matched
        ])

    -- no match goes on
    pub step-dead : IsDead p (length p.nodes.items) h → IsLength (Pattern (pattern_of t)) text at longest
    step-dead dead = record {
      found = m.found;
      most = λ k matched. later k matched (nat_le (at + k) place) refl;
    }
      where
        later : (k : ℕ) → MatchesFrom (pattern_of t) text at (at + k) → (c : Bool) → nat_le (at + k) place ≡ c → k ≤ longest
        later k matched true is = m.most k (leb-true (at + k) place is) matched
        later k matched false is = absurd (dead-rest p text h dead t st (suc place) (at + k) (next-complete (at + k) (grind (arith, nat_tests)) matched))

    -- no match goes on, so none goes on from here
    pub step-dead-spent : IsDead p (length p.nodes.items) h → IsSpent text t place f
    step-dead-spent dead e less r =
        dead-rest p text h dead t st (suc place) e (rest-shifted text (flag_at f) (flag_at g) (flag_at h) place b here t e m.finals steps (omega arith) (inl r))

    -- nor where no match ends behind the byte and none goes on from there
    pub step-spent : flag_at h (root_of t) ≡ false → IsSpent text t (suc place) h → IsSpent text t place f
    step-spent off spent e less r =
        let on = rest-shifted text (flag_at f) (flag_at g) (flag_at h) place b here t e m.finals steps (omega arith) (inl r) in
        let later : suc place ≤ e = omega arith in
        elim (eq-or-lt_of_le later) [
          | inl same ↦ let final = rest-final text (flag_at h) t (suc place) (stands-finals p b g h finals t st) (subst (λ j. Rest text (flag_at h) t (suc place) j) (sym same) on) in let both : false ≡ true = sym off ∙ final in absurd (cc)
          | inr beyond ↦ spent e beyond on
        ]

  -- at the end of the text
  pub matched-all : (f : List Bool) (at place longest : ℕ) → Matched text t f at place longest → length text ≤ place → IsLength (Pattern (pattern_of t)) text at longest
  matched-all f at place longest m done = record {
    found = m.found;
    most = λ k matched. elim (matches-within (pattern_of t) text at (at + k) matched) [
      | inl same ↦ omega arith
      | inr within ↦ m.most k (omega arith) matched
    ];
  }

  pub all-spent : (f : List Bool) (at place longest : ℕ) → Matched text t f at place longest → length text ≤ place → IsSpent text t place f
  all-spent f at place longest m done e less r =
      let from = m.sound e r in
      elim (matches-within (pattern_of t) text at e from.1) [
        | inl same ↦ omega (arith, from.0)
        | inr within ↦ omega arith
      ]

  -- where no match ends behind the place
  pub matched-spent : (f : List Bool) (at place longest : ℕ) → Matched text t f at place longest → at < place → IsSpent text t place f → IsLength (Pattern (pattern_of t)) text at longest
  matched-spent f at place longest m on spent = record {
    found = m.found;
    most = λ k matched. later k matched (nat_le (at + k) place) refl;
  }
    where
      later : (k : ℕ) → MatchesFrom (pattern_of t) text at (at + k) → (c : Bool) → nat_le (at + k) place ≡ c → k ≤ longest
      later k matched true is = m.most k (leb-true (at + k) place is) matched
      later k matched false is = let beyond : place < at + k = grind (arith, nat_tests) in absurd (spent (at + k) beyond (m.complete (at + k) on (omega arith) matched))
