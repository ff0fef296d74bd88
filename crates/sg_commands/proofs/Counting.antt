-- How many entries a journal gained.
use Rattle.std.specs.Prelude.{◌≡◌, ◌≢◌, ◌⊎◌, refl, zero, suc, ◌+◌, ◌≤◌, List, [], ◌∷◌, ◌++◌, length, AllPairs, Contains}
use Rattle.std.proofs.Common.{sym, ap, ◌∙◌, subst, inl, inr, arith}
use Rattle.std.proofs.lemmas.List.{length-append}
use Rattle.std.proofs.lemmas.List.Elements.{Contains-append_left, Contains-append_right, Contains-append_cases}
use Rattle.sg_kinds.specs.Terms.{Term}
use Rattle.sg_kinds.specs.Places.{Place}
use Rattle.sg_kinds.specs.Nets.{Reference}
use Rattle.sg_kinds.specs.declared.spec.Spec.{Spec}
use Rattle.sg_eval.specs.declared.journal.Instance.{Instance}
use Rattle.sg_forest.specs.declared.node_id.NodeId.{NodeId}
use Rattle.sg_groves.specs.Grove.{Grove}
use Rattle.sg_terms.specs.Entries.{AreEntries, Gained, GainedAll}
use Rattle.sg_exchanges.specs.Noted.{Noted}
use Rattle.sg_states.specs.States.{State}
use Rattle.sg_buffer.specs.Held.{Held}
use Rattle.sg_commands.specs.Did.{NotedOf}

module _ {X : Type 0} where
  contains_first : (x : X) (xs : List X) → Contains (x ∷ xs) x
  contains_first x xs = (0, omega arith, refl)

  contains_later : (y : X) (xs : List X) (x : X) → Contains xs x → Contains (y ∷ xs) x
  contains_later y xs x (i, low, at) = (suc i, omega (arith, low), at)

  contains_either : (y : X) (xs : List X) (x : X) → Contains (y ∷ xs) x → (y ≡ x) ⊎ Contains xs x
  contains_either y xs x (zero, low, at) = inl at
  contains_either y xs x (suc i, low, at) = inr (i, omega (arith, low), at)

  contains_none : (x : X) → Contains [] x → ⊥
  contains_none x (i, low, at) = omega (arith, low)

  apart_rest : (x : X) (xs : List X) → AllPairs ◌≢◌ (x ∷ xs) → AllPairs ◌≢◌ xs
  apart_rest x xs apart i j d less low = apart (suc i) (suc j) d (omega (arith, less)) (omega (arith, low))

  apart_first : (x : X) (xs : List X) → AllPairs ◌≢◌ (x ∷ xs) → Contains xs x → ⊥
  apart_first x xs apart (i, low, at) = apart zero (suc i) x (omega arith) (omega (arith, low)) (sym at)

  -- what stands before an element and behind it
  record Parts (xs : List X) (x : X) : Type 0 where
    before : List X
    behind : List X
    are : xs ≡ before ++ x ∷ behind

  parts : (xs : List X) (x : X) → Contains xs x → Parts xs x
  parts [] x has = absurd (contains_none x has)
  parts (y ∷ xs) x has = elim (contains_either y xs x has) [
    | inl same ↦ record { before = []; behind = xs; are = ap (λ z. z ∷ xs) same }
    | inr rest ↦ let p = parts xs x rest in record { before = y ∷ p.before; behind = p.behind; are = ap (λ l. y ∷ l) p.are }
  ]

  -- another element of it stands in one of the parts
  elsewhere : (before behind : List X) (x y : X) → Contains (before ++ x ∷ behind) y → (x ≡ y → ⊥) → Contains (before ++ behind) y
  elsewhere before behind x y has other = elim (Contains-append_cases before (x ∷ behind) y has) [
    | inl first ↦ Contains-append_left before behind y first
    | inr last ↦ elim (contains_either x behind y last) [
      | inl same ↦ absurd (other same)
      | inr rest ↦ Contains-append_right before behind y rest
    ]
  ]

  -- a list in which none stands twice is at most as long as one that has all its elements
  pub most_among : (xs ys : List X) → AllPairs ◌≢◌ xs → ((x : X) → Contains xs x → Contains ys x) → length xs ≤ length ys
  most_among [] ys apart each = omega arith
  most_among (x ∷ xs) ys apart each =
      let p = parts ys x (each x (contains_first x xs)) in
      let short : length xs ≤ length (p.before ++ p.behind) =
      most_among xs (p.before ++ p.behind) (apart_rest x xs apart)
      (λ y has. elsewhere p.before p.behind x y (subst (λ l. Contains l y) p.are (each y (contains_later x xs y has)))
      (λ same. apart_first x xs apart (subst (Contains xs) (sym same) has))) in
      let one : length (p.before ++ p.behind) ≡ length p.before + length p.behind = length-append p.before p.behind in
      let two : length (p.before ++ x ∷ p.behind) ≡ length p.before + length (x ∷ p.behind) = length-append p.before (x ∷ p.behind) in
      let long : length ys ≡ length (p.before ++ x ∷ p.behind) = ap length p.are in
      omega (arith, short, one, two, long)

module _ (g : Grove) (root : NodeId) (t : Term) where
  as_many : (refs : List (Reference Place)) (es : List Instance) → AreEntries g root t refs es → length es ≡ length refs
  as_many [] [] are = refl
  as_many [] (e ∷ es) are = absurd are
  as_many (a ∷ refs) [] are = absurd are
  as_many (a ∷ refs) (e ∷ es) are = ap suc (as_many refs es are.1)

  module _ (set : List (Reference Place)) (was now : List Instance) (none : was ≡ []) where
    -- at most as many entries as there are references
    pub gained_most : Gained g root t (Contains set) was now → length now ≤ length set
    gained_most gained =
        let same : now ≡ gained.entries = gained.appended ∙ ap (λ l. l ++ gained.entries) none in
        let long : length now ≡ length gained.entries = ap length same in
        let many : length gained.entries ≡ length gained.refs = as_many gained.refs gained.entries gained.are in
        let most : length gained.refs ≤ length set = most_among gained.refs set gained.once (λ a (i, low, at). subst (Contains set) at (gained.among i a low)) in
        omega (arith, long, many, most)

    -- just as many, where none of these stands twice
    pub gained_count : AllPairs ◌≢◌ set → GainedAll g root t (Contains set) was now → length now ≡ length set
    gained_count once all =
        let gained = all.gained in
        let same : now ≡ gained.entries = gained.appended ∙ ap (λ l. l ++ gained.entries) none in
        let long : length now ≡ length gained.entries = ap length same in
        let many : length gained.entries ≡ length gained.refs = as_many gained.refs gained.entries gained.are in
        let most : length gained.refs ≤ length set = most_among gained.refs set gained.once (λ a (i, low, at). subst (Contains set) at (gained.among i a low)) in
        let least : length set ≤ length gained.refs = most_among set gained.refs once (λ a has. all.every a has) in
        omega (arith, long, many, most, least)

-- what is noted where memory was wanting
pub noted_plain : (spec : Spec) (old : Held) (then : State) (set : List (Reference Place)) (was now : List Instance) → (now ≡ was) ⊎ NotedOf spec old then set was now → Noted spec then.term (Contains set) was now
noted_plain spec old then set was now (inl same) = inl same
noted_plain spec old then set was now (inr some) = inr some.entries.some

pub noted_most : (spec : Spec) (t : Term) (set : List (Reference Place)) (was now : List Instance) → was ≡ [] → Noted spec t (Contains set) was now → length now ≤ length set
noted_most spec t set was now none (inl same) = let long : length now ≡ length {A = Instance} [] = ap length (same ∙ none) in omega (arith, long)
noted_most spec t set was now none (inr some) = gained_most some.grove some.root t set was now none some.gained
