-- A climb over operators, beside a loop that counts up.
use Rattle.std.proofs.Common.{◌≡◌, ℕ, suc, ◌+◌, ◌-◌, ◌<◌, ◌≤◌, List, Some, None, refl, ap, ◌∙◌, arith}
use Rattle.std.specs.Prelude.{drop}
use Rattle.sg_ast.specs.declared.expr.Infix.{Infix}
use Rattle.sg_ast.specs.Expressions.{Expr, Binary}
use Rattle.sg_ast.specs.Levels.{level, right_by, next_by}
use Rattle.sg_ast.specs.Spelling.{Mark}
use Rattle.sg_ast.specs.Readers.{Reader, Outcome, and_then}
use Rattle.sg_ast.specs.ReadingExpressions.{climb, shallow, next_infix}
use Rattle.sg_expressions.specs.Joined.{joined}

-- no operator stands next
pub stops : {total : Outcome Expr} (sub : ℕ → Reader Expr) (limit n at least most : ℕ) (left : Expr) (ms : List Mark)
    → at < n → next_infix least most ms ≡ None
    → total ≡ climb sub limit (n - at) least most left ms → total ≡ Some (left, ms)
unfolding climb
stops sub limit n at least most left ms below next so_far =
    let turn : n - at ≡ suc (n - (at + 1)) = omega arith in so_far ∙ rw (turn, next) refl

-- one step behind another, or both as one
regroup : {A B C : Type 0} (o : Outcome A) (f : A → Reader B) (g : B → Reader C) → and_then o (λ a ms. and_then (f a ms) g) ≡ and_then (and_then o f) g
regroup (Some p) f g = refl
regroup None f g = refl

-- the operator is joined with no operand on the right
pub fails : {total : Outcome Expr} (sub : ℕ → Reader Expr) (limit n at least most : ℕ) (left : Expr) (ms : List Mark) (s : Infix)
    → at < n → next_infix least most ms ≡ Some s → joined sub limit s left (drop 1 ms) ≡ None
    → total ≡ climb sub limit (n - at) least most left ms → total ≡ None
unfolding climb joined
fails sub limit n at least most left ms s below next read so_far =
    let turn : n - at ≡ suc (n - (at + 1)) = omega arith in
    let again = climb sub limit (n - (at + 1)) least (next_by (level s)) in
    so_far ∙ rw (turn, next) (regroup (sub (right_by (level s)) (drop 1 ms)) (λ right. shallow limit (Binary s left right)) again ∙ ap (λ (o : Outcome Expr). and_then o again) read)

-- one more operator and its right operand
pub goes_on : {total : Outcome Expr} (sub : ℕ → Reader Expr) (limit n at least most : ℕ) (left : Expr) (ms rest : List Mark) (s : Infix) (whole : Expr)
    → at < n → next_infix least most ms ≡ Some s → joined sub limit s left (drop 1 ms) ≡ Some (whole, rest)
    → total ≡ climb sub limit (n - at) least most left ms → total ≡ climb sub limit (n - (at + 1)) least (next_by (level s)) whole rest
unfolding climb joined
goes_on sub limit n at least most left ms rest s whole below next read so_far =
    let turn : n - at ≡ suc (n - (at + 1)) = omega arith in
    let again = climb sub limit (n - (at + 1)) least (next_by (level s)) in
    so_far ∙ rw (turn, next) (regroup (sub (right_by (level s)) (drop 1 ms)) (λ right. shallow limit (Binary s left right)) again ∙ ap (λ (o : Outcome Expr). and_then o again) read)

-- no turn is left
pub ends : {total : Outcome Expr} (sub : ℕ → Reader Expr) (limit n at least most : ℕ) (left : Expr) (ms : List Mark)
    → n ≤ at → total ≡ climb sub limit (n - at) least most left ms → total ≡ None
unfolding climb
ends sub limit n at least most left ms all so_far =
    let over : n - at ≡ 0 = omega arith in so_far ∙ rw over refl
