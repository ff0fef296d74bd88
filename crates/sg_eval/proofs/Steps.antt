-- How an evaluation goes on.
use Rattle.std.specs.Prelude.{◌≡◌, refl, ℕ, zero, suc, ◌-◌, ◌<◌, Bool, true, false, List, [], ◌∷◌, ◌++◌, length, map, take, Option, Some, None, slice_get, Result, Ok, Err, IsTrue}
use Rattle.std.proofs.Common.{sym, ◌∙◌, ap, subst, arith}
use Rattle.std.proofs.lemmas.List.{map-append}
use Rattle.sg_kinds.specs.Values.{Value, Truth, Number, Chars, Tree, Fault}
use Rattle.sg_kinds.specs.declared.spec.Spec.{Spec}
use Rattle.sg_kinds.specs.declared.spec.Function.{Function}
use Rattle.sg_kinds.specs.declared.marks.FaultKind.TheVariants.{NoMatch}
use Rattle.sg_kinds.specs.Expressions.{Expr, Exprs, Cases, Pattern, AndExpr, Case}
use Rattle.sg_pool.specs.Pools.{value_at, IsGrown}
use Rattle.sg_kinds.specs.Evaluation.{Inside, Reached, Operands, Gives, untyped, then_with, row_with, row_reached, with_row, first_case, if_bound, bound_by, body_of, body_reached, limited, choose, connected, step, value_within}
use Rattle.sg_eval.specs.Truths.{truth_of}
use Rattle.sg_eval.specs.Lives.{value_in, is_settled, IsKnown, IsUsable, AreUsable, IsReached, AreReached, IsHalted, IsMatched, bound_in, needs_second}
use Rattle.sg_eval.proofs.Bindings.{live_stays, lives_stay, bound_more}
use Rattle.sg_eval.proofs.Kept.{settled_limited}
use Rattle.sg_kinds.specs.declared.marks.Connective.{Connective}
use Rattle.sg_kinds.specs.declared.marks.Connective.TheVariants.{Both, Either}
use Rattle.sg_eval.specs.declared.live.Live.{Live}
use Rattle.sg_eval.specs.declared.live.Live.TheVariants as live
use Rattle.sg_eval.specs.declared.live.Stop.{Stop}
use Rattle.sg_eval.specs.declared.live.Stop.TheVariants as stop

-- a node that may be entered
pub entered : (spec : Spec) (room : ℕ) (e : Expr) (env : List Value) (fuel : ℕ) → 0 < fuel → 0 < room
    → limited (step spec (value_within spec (room - 1)) e env (fuel - 1)) ≡ value_within spec room e env fuel
entered spec room e env zero hf hr = absurd (omega arith)
entered spec zero e env (suc fuel) hf hr = absurd (omega arith)
entered spec (suc room) e env (suc fuel) hf hr =
    let r : suc room - 1 ≡ room = omega arith in
    let f : suc fuel - 1 ≡ fuel = omega arith in
    rw (r, f) refl

-- after an answer that is no value the rest is not evaluated
pub stopped : (pool : List Value) (s : Stop) (left : ℕ) (r : Reached) (go : Value → ℕ → Reached) → IsReached pool (Err s) left r → IsReached pool (Err s) left (then_with r go)
stopped pool (stop.Fault kind) left r go h = rw h refl
stopped pool stop.NoMemory left r go h = tt

pub stopped_limited : (pool : List Value) (s : Stop) (left : ℕ) (r : Reached) → IsReached pool (Err s) left r → IsReached pool (Err s) left (limited r)
stopped_limited pool (stop.Fault kind) left r h = rw h refl
stopped_limited pool stop.NoMemory left r h = tt

-- a value goes on
goes_settled : (v : Value) (left : ℕ) (go : Value → ℕ → Reached) → IsTrue (is_settled v) → then_with (Gives v left) go ≡ go v left
goes_settled (Truth b) left go h = refl
goes_settled (Number z) left go h = refl
goes_settled (Chars s) left go h = refl
goes_settled (Tree op vs) left go h = refl
goes_settled (Fault kind) left go h = cc

goes_usable : (pool : List Value) (l : Live) (left : ℕ) (go : Value → ℕ → Reached) → IsUsable pool l → then_with (Gives (value_in pool l) left) go ≡ go (value_in pool l) left
goes_usable pool live.False left go h = refl
goes_usable pool live.True left go h = refl
goes_usable pool (live.Number z) left go h = refl
goes_usable pool (live.Kept k) left go h = goes_settled (value_at pool k) left go h

pub goes : (pool : List Value) (l : Live) (left : ℕ) (r : Reached) (go : Value → ℕ → Reached) → IsReached pool (Ok l) left r → then_with r go ≡ go (value_in pool l) left
goes pool l left r go h = ap (λ x. then_with x go) h.0 ∙ goes_usable pool l left go h.1

pub then_reached : (pool : List Value) (l : Live) (left : ℕ) (r : Reached) (go : Value → ℕ → Reached) (a : Result Live Stop) (after : ℕ) → IsReached pool (Ok l) left r → IsReached pool a after (limited (go (value_in pool l) left)) → IsReached pool a after (limited (then_with r go))
then_reached pool l left r go a after h k = subst (λ x. IsReached pool a after (limited x)) (sym (goes pool l left r go h)) k

-- what was reached is in the limits
usable_limited : (pool : List Value) (l : Live) (left : ℕ) → IsUsable pool l → limited (Gives (value_in pool l) left) ≡ Gives (value_in pool l) left
usable_limited pool live.False left h = refl
usable_limited pool live.True left h = refl
usable_limited pool (live.Number z) left h = refl
usable_limited pool (live.Kept k) left h = settled_limited (value_at pool k) left h

pub reached_limited : (pool : List Value) (a : Result Live Stop) (left : ℕ) (r : Reached) → IsReached pool a left r → IsReached pool a left (limited r)
reached_limited pool (Ok l) left r h = (ap limited h.0 ∙ usable_limited pool l left h.1, h.1)
reached_limited pool (Err s) left r h = stopped_limited pool s left r h

-- a row that is not evaluated whole, and one that is
pub halted : (pool : List Value) (s : Stop) (left : ℕ) (o : Operands) (go : List Value → ℕ → Reached) → IsHalted s left o → IsReached pool (Err s) left (limited (with_row o go))
halted pool (stop.Fault kind) left o go h = rw h refl
halted pool stop.NoMemory left o go h = tt

pub row_goes : (pool : List Value) (ls : List Live) (left : ℕ) (o : Operands) (go : List Value → ℕ → Reached) (a : Result Live Stop) (after : ℕ) → AreReached pool ls left o → IsReached pool a after (limited (go (map (value_in pool) ls) left)) → IsReached pool a after (limited (with_row o go))
row_goes pool ls left o go a after h k = subst (λ x. IsReached pool a after (limited (with_row x go))) (sym h.0) k

-- a value that is no truth value chooses nothing
settled_chooses : (v : Value) (chosen other : ℕ → Reached) (left : ℕ) → IsTrue (is_settled v) → choose v chosen other left ≡ Gives untyped left
settled_chooses (Truth b) chosen other left h = cc
settled_chooses (Number z) chosen other left h = refl
settled_chooses (Chars s) chosen other left h = refl
settled_chooses (Tree op vs) chosen other left h = refl
settled_chooses (Fault kind) chosen other left h = refl

-- what stands for a truth value
pub truth_value : (pool : List Value) (l : Live) (b : Bool) → Some b ≡ truth_of l → value_in pool l ≡ Truth b
truth_value pool live.False false e = refl
truth_value pool live.False true e = cc
truth_value pool live.True false e = cc
truth_value pool live.True true e = refl
truth_value pool (live.Number z) b e = cc
truth_value pool (live.Kept k) b e = cc

pub chooses_nothing : (pool : List Value) (l : Live) (chosen other : ℕ → Reached) (left : ℕ) → IsUsable pool l → truth_of l ≡ None → choose (value_in pool l) chosen other left ≡ Gives untyped left
chooses_nothing pool live.False chosen other left u n = cc
chooses_nothing pool live.True chosen other left u n = cc
chooses_nothing pool (live.Number z) chosen other left u n = refl
chooses_nothing pool (live.Kept k) chosen other left u n = settled_chooses (value_at pool k) chosen other left u

pub connects_nothing : (pool : List Value) (how : Connective) (l : Live) (second : ℕ → Reached) (left : ℕ) → IsUsable pool l → truth_of l ≡ None → connected how (value_in pool l) second left ≡ Gives untyped left
connects_nothing pool Both l second left u n = chooses_nothing pool l second (Gives (Truth false)) left u n
connects_nothing pool Either l second left u n = chooses_nothing pool l (Gives (Truth true)) second left u n

pub connects_second : (how : Connective) (b : Bool) (second : ℕ → Reached) (left : ℕ) → needs_second how b ≡ true → connected how (Truth b) second left ≡ second left
connects_second Both true second left h = refl
connects_second Both false second left h = cc
connects_second Either true second left h = cc
connects_second Either false second left h = refl

pub connects_first : (how : Connective) (b : Bool) (second : ℕ → Reached) (left : ℕ) → needs_second how b ≡ false → connected how (Truth b) second left ≡ Gives (Truth b) left
connects_first Both true second left h = cc
connects_first Both false second left h = refl
connects_first Either true second left h = refl
connects_first Either false second left h = cc

-- a row goes on with each value, and ends at a fault
row_halted : (pool : List Value) (s : Stop) (left : ℕ) (r : Reached) (go : Value → ℕ → Operands) → IsReached pool (Err s) left r → IsHalted s left (row_with r go)
row_halted pool (stop.Fault kind) left r go h = rw h refl
row_halted pool stop.NoMemory left r go h = tt

row_settled : (v : Value) (left : ℕ) (go : Value → ℕ → Operands) → IsTrue (is_settled v) → row_with (Gives v left) go ≡ go v left
row_settled (Fault kind) left go h = cc
row_settled (Truth b) left go h = refl
row_settled (Number z) left go h = refl
row_settled (Chars s) left go h = refl
row_settled (Tree op vs) left go h = refl

row_usable : (pool : List Value) (l : Live) (left : ℕ) (go : Value → ℕ → Operands) → IsUsable pool l → row_with (Gives (value_in pool l) left) go ≡ go (value_in pool l) left
row_usable pool live.False left go h = refl
row_usable pool live.True left go h = refl
row_usable pool (live.Number z) left go h = refl
row_usable pool (live.Kept k) left go h = row_settled (value_at pool k) left go h

pub row_stops : (inside : Inside) (pool done : List Value) (e : Expr) (es : Exprs) (env : List Value) (fuel left : ℕ) (s : Stop) (whole : Operands) → row_reached inside done (AndExpr e es) env fuel ≡ whole → IsReached pool (Err s) left (inside e env fuel) → IsHalted s left whole
row_stops inside pool done e es env fuel left s whole is h = subst (IsHalted s left) is (row_halted pool s left (inside e env fuel) _ h)

pub row_steps : (inside : Inside) (pool : List Value) (ls : List Live) (l : Live) (e : Expr) (es : Exprs) (env : List Value) (fuel left : ℕ) (whole : Operands) → row_reached inside (map (value_in pool) ls) (AndExpr e es) env fuel ≡ whole → IsReached pool (Ok l) left (inside e env fuel)
    → row_reached inside (map (value_in pool) (ls ++ l ∷ [])) es env left ≡ whole
row_steps inside pool ls l e es env fuel left whole is h =
    ap (λ done. row_reached inside done es env left) (map-append (value_in pool) ls (l ∷ []))
    ∙ sym (ap (λ r. row_with r (λ v m. row_reached inside (map (value_in pool) ls ++ v ∷ []) es env m)) h.0 ∙ row_usable pool l left (λ v m. row_reached inside (map (value_in pool) ls ++ v ∷ []) es env m) h.1)
    ∙ is

pub usable_push : (pool : List Value) (ls : List Live) (l : Live) → AreUsable pool ls → IsUsable pool l → AreUsable pool (ls ++ l ∷ [])
usable_push pool [] l h u = (u, tt)
usable_push pool (x ∷ ls) l h u = (h.0, usable_push pool ls l h.1 u)

-- the body of a function that is there, and of one that is not
pub body_there : (spec : Spec) (f : ℕ) (g : Function) (o : Option Expr) → slice_get spec.functions f ≡ Some g → slice_get spec.exprs g.body ≡ o → body_of spec f ≡ o
body_there spec f g o h e = rw h e

pub no_function : (spec : Spec) (f : ℕ) → slice_get spec.functions f ≡ None → body_of spec f ≡ None
no_function spec f h = rw h refl

pub no_body : (inside : Inside) (pool : List Value) (o : Option Expr) (vs : List Value) (left : ℕ) → o ≡ None → IsReached pool (Err (stop.Fault NoMatch)) left (limited (body_reached inside o vs left))
no_body inside pool o vs left e = ap (λ x. limited (body_reached inside x vs left)) e

pub with_body : (inside : Inside) (pool : List Value) (o : Option Expr) (e : Expr) (vs : List Value) (fuel left : ℕ) (a : Result Live Stop) → o ≡ Some e → IsReached pool a left (inside e vs fuel) → IsReached pool a left (limited (body_reached inside o vs fuel))
with_body inside pool o e vs fuel left a is h = subst (λ x. IsReached pool a left (limited (body_reached inside x vs fuel))) (sym is) (reached_limited pool a left (inside e vs fuel) h)

-- a case whose pattern matches, and one whose pattern does not
module _ (spec : Spec) (inside : Inside) (pool last : List Value) (args : List ℕ) (env0 env env2 : List Live) (x : Live) (p tree : Pattern) (e : Expr) (rest : Cases) (fuel0 fuel : ℕ) (whole : Reached)
    (same_env : env ≡ env0) (same_fuel : fuel ≡ fuel0) (same_tree : tree ≡ p) (known : IsKnown (length pool) x) (g : IsGrown pool last)
    (is : first_case spec inside (value_in last x) (Case p e rest) (bound_in last args env0) fuel0 ≡ whole) where
  bound_there : (o : Option (List Value)) → bound_by spec tree (value_in pool x) ≡ o → bound_by spec p (value_in last x) ≡ o
  bound_there o b = ap (bound_by spec p) (live_stays pool last x g known) ∙ ap (λ t. bound_by spec t (value_in pool x)) (sym same_tree) ∙ b

  pub case_taken : IsMatched pool (bound_by spec tree (value_in pool x)) env env2 true → inside e (bound_in last args env2) fuel ≡ whole
  case_taken m =
      ap (λ l. inside e (bound_in last args l) fuel) (m.pushed ∙ ap (λ l. l ++ m.more) same_env)
      ∙ ap (λ l. inside e l fuel) (bound_more last args env0 m.more)
      ∙ ap (inside e (bound_in last args env0 ++ map (value_in last) m.more)) same_fuel
      ∙ sym (ap (λ o. if_bound o (λ bs. inside e (bound_in last args env0 ++ bs)) (first_case spec inside (value_in last x) rest (bound_in last args env0)) fuel0) (bound_there (Some (map (value_in last) m.more)) (m.bound ∙ ap Some (sym (lives_stay pool last m.more g m.known)))))
      ∙ is

  pub case_passed : IsMatched pool (bound_by spec tree (value_in pool x)) env env2 false → first_case spec inside (value_in last x) rest (bound_in last args env0) fuel0 ≡ whole
  case_passed m = sym (ap (λ o. if_bound o (λ bs. inside e (bound_in last args env0 ++ bs)) (first_case spec inside (value_in last x) rest (bound_in last args env0)) fuel0) (bound_there None m.bound)) ∙ is

pub take_front : (xs ys zs : List Live) (n : ℕ) → zs ≡ xs ++ ys → n ≡ length xs → take n zs ≡ xs
take_front xs ys zs n e l = rw (e, l) (front xs)
  where
    front : (xs : List Live) → take (length xs) (xs ++ ys) ≡ xs
    front [] = refl
    front (x ∷ xs) = ap (λ l. x ∷ l) (front xs)
