-- What a state does on a terminal is found among its nodes.
use Rattle.std.proofs.Common.{◌≡◌, ℕ, zero, suc, ◌+◌, ◌-◌, ◌<◌, ◌≤◌, ◌⊎◌, inl, inr, Bool, true, false, List, length, refl, sym, ap, ◌∙◌, subst, arith, Option, Some, None}
use Rattle.std.specs.Prelude.{slice_index}
use Rattle.std.proofs.lemmas.Bool.{cases_eq, cases_lt, cases_Bool}
use Rattle.sg_sets.specs.Members.{has}
use Rattle.sg_sets.specs.Rows.{Holds, row_of}
use Rattle.sg_grammar.specs.Grammar.{Grammar}
use Rattle.sg_grammar.specs.WellFormed.{IsWellFormed}
use Rattle.sg_lalr.specs.declared.states.Move.{Move}
use Rattle.sg_lalr.specs.declared.states.Origin.{Origin}
use Rattle.sg_lalr.specs.declared.lookaheads.Node.{Node}
use Rattle.sg_lalr.specs.declared.conflict.Deed.{Deed}
use Rattle.sg_lalr.specs.declared.conflict.Deed.TheVariants.{Shifts, Reduces}
use Rattle.sg_lalr.specs.declared.table.Action.{Action}
use Rattle.sg_lalr.specs.declared.table.Action.TheVariants as action
use Rattle.sg_lalr.specs.Items.{Item, symbol_of}
use Rattle.sg_lalr.specs.Automaton.{goto}
use Rattle.sg_lalr.specs.Lookaheads.{node_at}
use Rattle.sg_lalr.specs.Clashes.{Does}
use Rattle.sg_lalr.specs.Tables.{viewed, IsAction, Decided, IsMade}
use Rattle.sg_lalr.proofs.TableLemmas.{made-some, shifts-to, acts-in-state, stops, leads-to}

module _ (g : Grammar) (nodes : List Node) (rows : List (List Bool)) (t : ℕ) where
  -- whether a node does something on the terminal
  decide-deed : (m : ℕ) → ((a : Deed) × Does g nodes rows t m a) ⊎ ((a : Deed) → Does g nodes rows t m a → ⊥)
  decide-deed m = by (symbol_of g (node_at nodes m).item) refl
    where
      shifted : (X : ℕ) → symbol_of g (node_at nodes m).item ≡ Some X → (X ≡ t → ⊥) → (a : Deed) → Does g nodes rows t m a → ⊥
      shifted X is other Shifts h = let both : Some X ≡ Some t = sym is ∙ h in let e : X ≡ t = cc in other e
      shifted X is other (Reduces p) h = let both : Some X ≡ None = sym is ∙ h.1 in absurd (cc)

      reduced : symbol_of g (node_at nodes m).item ≡ None → (Holds rows m t → ⊥) → (a : Deed) → Does g nodes rows t m a → ⊥
      reduced is out Shifts h = let both : None ≡ Some t = sym is ∙ h in absurd (cc)
      reduced is out (Reduces p) h = out h.2

      by : (o : Option ℕ) → symbol_of g (node_at nodes m).item ≡ o → ((a : Deed) × Does g nodes rows t m a) ⊎ ((a : Deed) → Does g nodes rows t m a → ⊥)
      by (Some X) is = elim (cases_eq X t) [ inl e ↦ inl (Shifts, is ∙ ap Some e) | inr other ↦ inr (shifted X is other) ]
      by None is = elim (cases_Bool (has (row_of rows m) t)) [ inl h ↦ inl (Reduces (node_at nodes m).item.production, (refl, is, h)) | inr out ↦ inr (reduced is (λ h. let both : true ≡ false = sym h ∙ out in absurd (cc))) ]

  -- the search among so many nodes from a place on
  search-nodes : (from n : ℕ) → ((m : ℕ) × (from ≤ m) × (m < from + n) × ((a : Deed) × Does g nodes rows t m a)) ⊎ ((m : ℕ) (a : Deed) → from ≤ m → m < from + n → Does g nodes rows t m a → ⊥)
  search-nodes from zero = inr (λ m a l h d. absurd (omega (arith, l, h)))
  search-nodes from (suc n) =
      elim (search-nodes from n) [
        | inl f ↦ inl (f.0, f.1, (let l = f.2 in omega (arith, l)), f.3)
        | inr none ↦ elim (decide-deed (from + n)) [
          | inl d ↦ inl (from + n, omega arith, omega arith, d)
          | inr not_last ↦ inr (λ m a l h d. elim (cases_lt m (from + n)) [ inl less ↦ none m a l less d | inr last ↦ not_last a (subst (λ z. Does g nodes rows t z a) (let e : m ≡ from + n = omega (arith, h, last) in e) d) ])
        ]
      ]

module _ (g : Grammar) (formed : IsWellFormed g) (kernels cores : List (List Item)) (moves : List (List Move)) (origins : List Origin) (nodes : List Node) (firsts : List ℕ) (rows : List (List Bool))
    (made : IsMade g kernels cores moves origins nodes firsts rows) where
  entered : (s : ℕ) → s < length cores → 0 < length g.entries
  entered s low = made-some g kernels cores moves origins nodes firsts rows made s low

  action-found : (s t m : ℕ) (a : Deed) → s < length cores → slice_index firsts s ≤ m → m < slice_index firsts (suc s) → Does g nodes rows t m a → (b : Action) × IsAction (viewed g cores) s t b
  action-found s t m Shifts low l h d =
      (action.Shift (goto moves s t), shifts-to g formed made.productive (entered s low) kernels cores moves origins nodes firsts rows (made.full (entered s low)) s t m low l h d)
  action-found s t m (Reduces p) low l h d =
      let acts = acts-in-state g formed made.productive (entered s low) kernels cores moves origins nodes firsts rows (made.full (entered s low)) s t m (Reduces p) low l h d in
      elim (cases_lt p (length g.rules)) [ inl less ↦ (action.Reduce p, (less, acts)) | inr past ↦ (action.Accept, (p, past, acts)) ]

  action-of : (s t : ℕ) → s < length cores → (b : Action) × IsAction (viewed g cores) s t b
  action-of s t low =
      let full = made.full (entered s low) in
      let rises = full.laid.rising s low in
      elim (search-nodes g nodes rows t (slice_index firsts s) (slice_index firsts (suc s) - slice_index firsts s)) [
        | inl f ↦ action-found s t f.0 f.3.0 low f.1 (let l = f.2 in omega (arith, l, rises)) f.3.1
        | inr none ↦ (action.Stop, stops g formed made.productive (entered s low) kernels cores moves origins nodes firsts rows full s t low (λ k a l h d. none k a l (omega (arith, h, rises)) d))
      ]

  act-at : (s t : ℕ) → (s < length cores) ⊎ (length cores ≤ s) → Action
  act-at s t (inl low) = (action-of s t low).0
  act-at s t (inr past) = action.Stop

  acts-at : (s t : ℕ) → s < length cores → (d : (s < length cores) ⊎ (length cores ≤ s)) → IsAction (viewed g cores) s t (act-at s t d)
  unfolding act-at
  acts-at s t low (inl there) = (action-of s t there).1
  acts-at s t low (inr past) = absurd (omega (arith, low, past))

  pub are-decided : Decided (viewed g cores)
  are-decided = record {
    act = λ s t. act-at s t (cases_lt s (length cores));
    go = goto moves;
    acts = λ s t low terminal. acts-at s t low (cases_lt s (length cores));
    leads = λ s X low has. leads-to g formed made.productive (entered s low) kernels cores moves origins (made.full (entered s low)).whole s X low has;
  }
