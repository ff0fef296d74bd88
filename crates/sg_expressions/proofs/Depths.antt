-- The depth of chains that grow at their ends.
use Rattle.std.proofs.Common.{◌≡◌, ℕ, suc, ◌+◌, max, min, List, [], ◌∷◌, ◌++◌, Some, None, arith}
use Rattle.sg_ast.specs.Patterns.{Pattern}
use Rattle.sg_ast.specs.Expressions.{Expr}
use Rattle.sg_ast.specs.Chains.{exprs_chain, cases_chain}
use Rattle.sg_ast.specs.Grouped.{depth, exprs_depth, cases_depth}

pub depth_push : (es : List Expr) (e : Expr) → exprs_depth (exprs_chain (es ++ e ∷ [])) ≡ max (exprs_depth (exprs_chain es)) (depth e)
depth_push [] e = omega arith
depth_push (x ∷ es) e = omega (arith, depth_push es e)

pub case_depth_push : (cs : List (Pattern × Expr)) (c : Pattern × Expr) → cases_depth (cases_chain (cs ++ c ∷ []) None) ≡ max (cases_depth (cases_chain cs None)) (depth c.1)
case_depth_push [] c = omega arith
case_depth_push (x ∷ cs) c = omega (arith, case_depth_push cs c)

pub depth_default : (cs : List (Pattern × Expr)) (e : Expr) → cases_depth (cases_chain cs (Some e)) ≡ max (cases_depth (cases_chain cs None)) (depth e)
depth_default [] e = omega arith
depth_default (x ∷ cs) e = omega (arith, depth_default cs e)

-- one more part, as far as 255
pub grown : (old whole : List Expr) (e : Expr) (d k : ℕ) → whole ≡ old ++ e ∷ [] → d ≡ min 255 (exprs_depth (exprs_chain old)) → k ≡ min 255 (depth e)
    → max d k ≡ min 255 (exprs_depth (exprs_chain whole))
grown old whole e d k is is_d is_k = rw is (omega (arith, depth_push old e))

pub case_grown : (old whole : List (Pattern × Expr)) (c : Pattern × Expr) (d k : ℕ) → whole ≡ old ++ c ∷ [] → d ≡ min 255 (cases_depth (cases_chain old None)) → k ≡ min 255 (depth c.1)
    → max d k ≡ min 255 (cases_depth (cases_chain whole None))
case_grown old whole c d k is is_d is_k = rw is (omega (arith, case_depth_push old c))

-- the depth over two parts, as far as 255
pub above_two : (a b d k below : ℕ) → d ≡ min 255 a → k ≡ min 255 b → below ≡ max d k → min 255 (below + 1) ≡ min 255 (suc (max a b))
above_two a b d k below is_d is_k is = omega (arith, is_d, is_k, is)

-- and over three
pub above_three : (a b c d k j below : ℕ) → d ≡ min 255 a → k ≡ min 255 b → j ≡ min 255 c → below ≡ max d (max k j) → min 255 (below + 1) ≡ min 255 (suc (max a (max b c)))
above_three a b c d k j below is_d is_k is_j is = omega (arith, is_d, is_k, is_j, is)
