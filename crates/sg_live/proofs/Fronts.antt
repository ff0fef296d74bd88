-- The first lines of a session
use Rattle.std.proofs.Common.{◌≡◌, ◌≤◌, ◌⊎◌, inl, inr, ℕ, ◌+◌, zero, suc, List, [], ◌∷◌, ◌++◌, sym, ap, subst, ◌∙◌, append-nil, append_assoc, arith}
use Rattle.sg_outside.specs.Shelf.{ShelfState}
use Rattle.sg_editor.specs.Session.{Session}
use Rattle.sg_output.specs.Session.{Desk}
use Rattle.sg_console.specs.Console.{Event}
use Rattle.sg_live.specs.Turns.{AreTurns, none, more}
use Rattle.sg_live.specs.Laws.{BeginWith}

last_or_not : (j k : ℕ) → j ≤ suc k → (j ≤ k) ⊎ (j ≡ suc k)
last_or_not zero k h = inl (omega arith)
last_or_not (suc j) zero h = inr (omega arith)
last_or_not (suc j) (suc k) h = by (last_or_not j k (omega arith))
  where
    by : (j ≤ k) ⊎ (j ≡ suc k) → (suc j ≤ suc k) ⊎ (suc j ≡ suc (suc k))
    by (inl less) = inl (omega arith)
    by (inr same) = inr (omega arith)

-- all of them are first ones
all : (d : Desk) (s : Session) (at : ShelfState) (k : ℕ) (t : Session) (to : ShelfState) (events : List Event) (n j : ℕ) → AreTurns d s at k t to events n → j ≡ k → BeginWith d s at j events
all d s at k t to events n j turns same = record {
  session = t;
  shelf = to;
  front = events;
  rest = [];
  evaluated = n;
  turns = subst (λ (i : ℕ). AreTurns d s at i t to events n) (sym same) turns;
  is = sym (append-nil events);
}

pub fronts : (d : Desk) (s : Session) (at : ShelfState) (k : ℕ) (t : Session) (to : ShelfState) (events : List Event) (n : ℕ) → AreTurns d s at k t to events n → (j : ℕ) → j ≤ k → BeginWith d s at j events
fronts d s at k t to events n none j h = all d s at 0 s at [] 0 j none (omega arith)
fronts d s at k t to events n (more i u v by there before after e x y first last) j h =
    elim (last_or_not j i h) [
      | inl less ↦
          let b = fronts d s at i u by before x first j less in
          record {
            session = b.session;
            shelf = b.shelf;
            front = b.front;
            rest = b.rest ++ e ∷ after;
            evaluated = b.evaluated;
            turns = b.turns;
            is = ap (λ (l : List Event). l ++ e ∷ after) b.is ∙ append_assoc b.front b.rest (e ∷ after);
          }
      | inr same ↦ all d s at (suc i) v there (before ++ e ∷ after) (x + y) j (more i u v by there before after e x y first last) same
    ]
