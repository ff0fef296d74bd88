-- A binding over the limits of values evaluates as the fault of its size.
use Rattle.std.specs.Prelude.{◌≡◌, refl, ℕ, zero, suc, Bool, true, false, cond, List, [], ◌∷◌, ◌++◌, map, Option, Some, None, slice_get, unwrap_or}
use Rattle.std.proofs.Common.{sym, ◌∙◌, ap}
use Rattle.std.proofs.lemmas.List.{map-append}
use Rattle.sg_kinds.specs.Values.{Value, Fault, Tree, is_within, row_of}
use Rattle.sg_kinds.specs.Expressions.{Expr, Exprs, Cases, Constant, Named, MadeOf, Single, Binary, Logical, Cons, Choice, Apply, Call, Let, With, NoExpr, AndExpr, NoCase, Default, Case}
use Rattle.sg_kinds.specs.declared.spec.Spec.{Spec}
use Rattle.sg_kinds.specs.declared.marks.FaultKind.TheVariants.{Size}
use Rattle.sg_kinds.specs.Evaluation.{Inside, Gives, untyped, applied, combined, bound_by, then_with, row_with, row_reached, with_row, if_bound, first_case, choose, connected, body_of, body_reached, step, clipped, limited, value_within, outcome_in}
use Rattle.sg_kinds.specs.Outcome.{outcome_of}

-- the same up to what is over the limits
abbrev Alike : List Value → List Value → Type 0
Alike xs ys = map clipped xs ≡ map clipped ys

alike_more : (xs ys more : List Value) → Alike xs ys → Alike (xs ++ more) (ys ++ more)
alike_more xs ys more a = map-append clipped xs more ∙ ap (λ l. l ++ map clipped more) a ∙ sym (map-append clipped ys more)

binding_clipped : (xs : List Value) (k : ℕ) → clipped (unwrap_or (slice_get xs k) untyped) ≡ unwrap_or (slice_get (map clipped xs) k) untyped
binding_clipped [] k = refl
binding_clipped (x ∷ xs) zero = refl
binding_clipped (x ∷ xs) (suc k) = binding_clipped xs k

module _ (spec : Spec) (inside : Inside) (same : (e : Expr) (xs ys : List Value) (left : ℕ) → Alike xs ys → inside e xs left ≡ inside e ys left) where
  row_alike : (es : Exprs) (done xs ys : List Value) (left : ℕ) → Alike xs ys → row_reached inside done es xs left ≡ row_reached inside done es ys left
  row_alike NoExpr done xs ys left a = refl
  row_alike (AndExpr e es) done xs ys left a = λ i. row_with (same e xs ys left a i) (λ v l. row_alike es (done ++ v ∷ []) xs ys l a i)

  cases_alike : (cs : Cases) (v : Value) (xs ys : List Value) (left : ℕ) → Alike xs ys → first_case spec inside v cs xs left ≡ first_case spec inside v cs ys left
  cases_alike NoCase v xs ys left a = refl
  cases_alike (Default e) v xs ys left a = same e xs ys left a
  cases_alike (Case p e rest) v xs ys left a = λ i. if_bound (bound_by spec p v) (λ bs l. same e (xs ++ bs) (ys ++ bs) l (alike_more xs ys bs a) i) (λ l. cases_alike rest v xs ys l a i) left

  step_alike : (e : Expr) (xs ys : List Value) (left : ℕ) → Alike xs ys → limited (step spec inside e xs left) ≡ limited (step spec inside e ys left)
  step_alike (Constant v) xs ys left a = refl
  step_alike (Named k) xs ys left a = ap (λ v. Gives v left) (binding_clipped xs k ∙ ap (λ l. unwrap_or (slice_get l k) untyped) a ∙ sym (binding_clipped ys k))
  step_alike (MadeOf made p) xs ys left a = refl
  step_alike (Single f x) xs ys left a = ap (λ r. limited (then_with r (λ v l. Gives (applied f v) l))) (same x xs ys left a)
  step_alike (Binary sign x y) xs ys left a = λ i. limited (then_with (same x xs ys left a i) (λ v l. then_with (same y xs ys l a i) (λ w m. Gives (combined sign v w) m)))
  step_alike (Logical how x y) xs ys left a = λ i. limited (then_with (same x xs ys left a i) (λ v l. connected how v (λ m. same y xs ys m a i) l))
  step_alike (Cons op x y) xs ys left a = λ i. limited (then_with (same x xs ys left a i) (λ v l. then_with (same y xs ys l a i) (λ w m. Gives (Tree op (row_of (v ∷ w ∷ []))) m)))
  step_alike (Choice c x y) xs ys left a = λ i. limited (then_with (same c xs ys left a i) (λ v l. choose v (λ m. same x xs ys m a i) (λ m. same y xs ys m a i) l))
  step_alike (Apply op es) xs ys left a = ap (λ o. limited (with_row o (λ vs l. Gives (Tree op (row_of vs)) l))) (row_alike es [] xs ys left a)
  step_alike (Call f es) xs ys left a = ap (λ o. limited (with_row o (body_reached inside (body_of spec f)))) (row_alike es [] xs ys left a)
  step_alike (Let x y) xs ys left a = λ i. limited (then_with (same x xs ys left a i) (λ v l. same y (xs ++ v ∷ []) (ys ++ v ∷ []) l (alike_more xs ys (v ∷ []) a) i))
  step_alike (With x cs) xs ys left a = λ i. limited (then_with (same x xs ys left a i) (λ v l. cases_alike cs v xs ys l a i))

value_alike : (spec : Spec) (room : ℕ) (e : Expr) (xs ys : List Value) (left : ℕ) → Alike xs ys → value_within spec room e xs left ≡ value_within spec room e ys left
value_alike spec zero e xs ys zero a = refl
value_alike spec (suc room) e xs ys zero a = refl
value_alike spec zero e xs ys (suc left) a = refl
value_alike spec (suc room) e xs ys (suc left) a = step_alike spec (value_within spec room) (value_alike spec room) e xs ys left a

clipped_twice : (v : Value) → clipped (clipped v) ≡ clipped v
clipped_twice v = by (is_within v) refl
  where
    by : (b : Bool) → is_within v ≡ b → clipped (cond (is_within v) v (Fault Size)) ≡ cond (is_within v) v (Fault Size)
    by true e = rw (e, e) refl
    by false e = rw e refl

all_clipped_twice : (xs : List Value) → map clipped (map clipped xs) ≡ map clipped xs
all_clipped_twice [] = refl
all_clipped_twice (x ∷ xs) = λ i. clipped_twice x i ∷ all_clipped_twice xs i

body_alike : (spec : Spec) (room : ℕ) (o : Option Expr) (xs ys : List Value) (left : ℕ) → Alike xs ys → body_reached (value_within spec room) o xs left ≡ body_reached (value_within spec room) o ys left
body_alike spec room None xs ys left a = refl
body_alike spec room (Some e) xs ys left a = value_alike spec room e xs ys left a

pub outcome_clipped : (spec : Spec) (e : ℕ) (bound : List Value) → outcome_of spec e (map clipped bound) ≡ outcome_of spec e bound
unfolding outcome_of
outcome_clipped spec e bound = ap outcome_in (body_alike spec 2048 (slice_get spec.exprs e) (map clipped bound) bound 100000 (all_clipped_twice bound))
