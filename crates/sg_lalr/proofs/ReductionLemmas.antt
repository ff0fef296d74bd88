-- Lemmas on the reductions of states.
use Rattle.std.proofs.Common.{◌≡◌, ℕ, ◌+◌, ◌<◌, ◌≤◌, ◌⊎◌, inl, inr, Bool, List, [], ◌∷◌, ◌++◌, length, get_or, take, sym, ap, ◌∙◌, subst, arith, None}
use Rattle.std.specs.Prelude.{◌↔◌}
use Rattle.std.proofs.lemmas.Bool.{cases_lt}
use Rattle.std.proofs.lemmas.List.{get_or_append_left, get_or_push, take_more, take_all}
use Rattle.std.proofs.lemmas.List.Elements.{Contains-push, Contains-push_cases, Contains-append_left}
use Rattle.sg_grammar.specs.Grammar.{Grammar}
use Rattle.sg_sets.specs.Members.{Has}
use Rattle.sg_sets.specs.Rows.{row_of}
use Rattle.sg_lalr.specs.declared.lookaheads.Node.{Node}
use Rattle.sg_lalr.specs.Items.{symbol_of}
use Rattle.sg_lalr.specs.Lookaheads.{node_at}
use Rattle.sg_lalr.specs.Reductions.{Reduction, ReducesBy, DoesReduce, reductions_at}
use Rattle.sg_lalr.proofs.RisingLemmas.{Contains-nil}

pub by-none : (p t : ℕ) → ReducesBy [] p t → ⊥
by-none p t h = Contains-nil h.0 h.1

pub by-push : (rs : List Reduction) (r : Reduction) (p t : ℕ) → ReducesBy (rs ++ r ∷ []) p t ↔ (ReducesBy rs p t ⊎ ((p ≡ r.production) × Has r.on t))
by-push rs r p t = (
  λ h. elim (Contains-push_cases rs r h.0 h.1) [
    | inl was ↦ inl (h.0, was, h.2, h.3)
    | inr e ↦ inr (subst (λ (x : Reduction). (p ≡ x.production) × Has x.on t) (sym e) (h.2, h.3))
  ],
  λ h. elim h [
    | inl was ↦ (was.0, Contains-append_left rs (r ∷ []) was.0 was.1, was.2, was.3)
    | inr new ↦ (r, Contains-push rs r, new.0, new.1)
  ],
)

-- these are the reductions of the nodes between two places
abbrev pub Reducing : Grammar → List Node → List (List Bool) → ℕ → ℕ → List Reduction → Type 0
Reducing g nodes rows from to rs = (p t : ℕ) → ReducesBy rs p t ↔ DoesReduce g nodes rows from to p t

pub reducing-none : (g : Grammar) (nodes : List Node) (rows : List (List Bool)) (from : ℕ) → Reducing g nodes rows from from []
reducing-none g nodes rows from p t = (λ h. absurd (by-none p t h), λ h. absurd (let a = h.1 in let b = h.2 in omega (arith, a, b)))

pub reducing-more : (g : Grammar) (nodes : List Node) (rows : List (List Bool)) (from m : ℕ) (rs : List Reduction) (r : Reduction) → from ≤ m → symbol_of g (node_at nodes m).item ≡ None → r.production ≡ (node_at nodes m).item.production → r.on ≡ row_of rows m → Reducing g nodes rows from m rs → Reducing g nodes rows from (m + 1) (rs ++ r ∷ [])
reducing-more g nodes rows from m rs r low ends by on all p t = (
  λ h. elim ((by-push rs r p t).0 h) [
    | inl was ↦ (let d = (all p t).0 was in let k = d.2 in (d.0, d.1, omega (arith, k), d.3))
    | inr new ↦ (m, low, omega arith, (new.0 ∙ by, ends, subst (λ s. Has s t) on new.1))
  ],
  λ d. elim (cases_lt d.0 m) [
    | inl before ↦ (by-push rs r p t).1 (inl ((all p t).1 (d.0, d.1, before, d.3)))
    | inr late ↦
        let k = d.2 in
        let e : d.0 ≡ m = omega (arith, k, late) in
        (by-push rs r p t).1 (inr (d.3.0 ∙ ap (λ z. (node_at nodes z).item.production) e ∙ sym by, subst (λ s. Has s t) (ap (row_of rows) e ∙ sym on) d.3.2))
  ],
)

pub reducing-same : (g : Grammar) (nodes : List Node) (rows : List (List Bool)) (from m : ℕ) (rs : List Reduction) → (symbol_of g (node_at nodes m).item ≡ None → ⊥) → Reducing g nodes rows from m rs → Reducing g nodes rows from (m + 1) rs
reducing-same g nodes rows from m rs next all p t = (
  λ h. (let d = (all p t).0 h in let k = d.2 in (d.0, d.1, omega (arith, k), d.3)),
  λ d. elim (cases_lt d.0 m) [
    | inl before ↦ (all p t).1 (d.0, d.1, before, d.3)
    | inr late ↦
        let k = d.2 in
        let e : d.0 ≡ m = omega (arith, k, late) in
        absurd (next (ap (λ z. symbol_of g (node_at nodes z).item) (sym e) ∙ d.3.1))
  ],
)

-- the reductions of one state more
pub states-more : (rows : List (List Reduction)) (row : List Reduction) (s : ℕ) (P : ℕ → ℕ → ℕ → Type 0) → length rows ≡ s → ((r p t : ℕ) → r < s → ReducesBy (reductions_at rows r) p t ↔ P r p t) → ((p t : ℕ) → ReducesBy row p t ↔ P s p t) → (r p t : ℕ) → r < s + 1 → ReducesBy (reductions_at (rows ++ row ∷ []) r) p t ↔ P r p t
states-more rows row s P long each last r p t l = elim (cases_lt r s) [
  | inl before ↦ subst (λ rs. ReducesBy rs p t ↔ P r p t) (sym (get_or_append_left rows (row ∷ []) [] r (omega (arith, before, long)))) (each r p t before)
  | inr late ↦
      let e : r ≡ s = omega (arith, l, late) in
      subst (λ rs. ReducesBy rs p t ↔ P r p t) (sym (get_or_push rows row [] r (omega (arith, long, e)))) (subst (λ z. ReducesBy row p t ↔ P z p t) (sym e) (last p t))
]

-- no reduction so far is on the terminal
pub none-more : (rs : List Reduction) (n t : ℕ) (r : Reduction) → n < length rs → r ≡ get_or rs n r → (Has r.on t → ⊥) → ((p : ℕ) → ReducesBy (take n rs) p t → ⊥) → (p : ℕ) → ReducesBy (take (n + 1) rs) p t → ⊥
none-more rs n t r low is not none p h =
    let more : take (n + 1) rs ≡ take n rs ++ r ∷ [] = take_more rs n r low ∙ ap (λ x. take n rs ++ x ∷ []) (sym is) in
    elim ((by-push (take n rs) r p t).0 (subst (λ l. ReducesBy l p t) more h)) [ inl was ↦ none p was | inr new ↦ not new.1 ]

pub none-all : (rs : List Reduction) (n t : ℕ) → length rs ≤ n → ((p : ℕ) → ReducesBy (take n rs) p t → ⊥) → (p : ℕ) → ReducesBy rs p t → ⊥
none-all rs n t all none p h = none p (subst (λ l. ReducesBy l p t) (sym (take_all n rs all)) h)
