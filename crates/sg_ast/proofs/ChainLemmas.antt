-- Chains that are made from their ends.
use Rattle.std.proofs.Common.{◌≡◌, List, [], ◌∷◌, ◌++◌, map, Option, refl, sym, ap, ◌∙◌}
use Rattle.std.proofs.lemmas.List.{map_push}
use Rattle.sg_ast.specs.Patterns.{Pattern, Patterns, NoPattern, AndPattern}
use Rattle.sg_ast.specs.Expressions.{Expr, Exprs, Cases, NoExpr, AndExpr, Case}
use Rattle.sg_ast.specs.Chains.{chain_of, exprs_chain, cases_chain}

abbrev pub patterns_onto : List Pattern → Patterns → Patterns
patterns_onto [] ps = ps
patterns_onto (x ∷ xs) ps = AndPattern x (patterns_onto xs ps)

abbrev pub exprs_onto : List Expr → Exprs → Exprs
exprs_onto [] es = es
exprs_onto (x ∷ xs) es = AndExpr x (exprs_onto xs es)

abbrev pub cases_onto : List (Pattern × Expr) → Cases → Cases
cases_onto [] cs = cs
cases_onto (x ∷ xs) cs = Case x.0 x.1 (cases_onto xs cs)

pub patterns_all : (xs : List Pattern) → patterns_onto xs NoPattern ≡ chain_of xs
patterns_all [] = refl
patterns_all (x ∷ xs) = ap (AndPattern x) (patterns_all xs)

pub exprs_all : (xs : List Expr) → exprs_onto xs NoExpr ≡ exprs_chain xs
exprs_all [] = refl
exprs_all (x ∷ xs) = ap (AndExpr x) (exprs_all xs)

pub cases_all : (xs : List (Pattern × Expr)) (o : Option Expr) → cases_onto xs (cases_chain [] o) ≡ cases_chain xs o
cases_all [] o = refl
cases_all (x ∷ xs) o = ap (Case x.0 x.1) (cases_all xs o)

push_patterns : (xs : List Pattern) (x : Pattern) (ps : Patterns) → patterns_onto (xs ++ x ∷ []) ps ≡ patterns_onto xs (AndPattern x ps)
push_patterns [] x ps = refl
push_patterns (y ∷ xs) x ps = ap (AndPattern y) (push_patterns xs x ps)

push_exprs : (xs : List Expr) (x : Expr) (es : Exprs) → exprs_onto (xs ++ x ∷ []) es ≡ exprs_onto xs (AndExpr x es)
push_exprs [] x es = refl
push_exprs (y ∷ xs) x es = ap (AndExpr y) (push_exprs xs x es)

push_cases : (xs : List (Pattern × Expr)) (x : Pattern × Expr) (cs : Cases) → cases_onto (xs ++ x ∷ []) cs ≡ cases_onto xs (Case x.0 x.1 cs)
push_cases [] x cs = refl
push_cases (y ∷ xs) x cs = ap (Case y.0 y.1) (push_cases xs x cs)

-- the last of a list goes onto the chain
pub pattern_moves : {X : Type 0} {whole : Patterns} (f : X → Pattern) (xs ys : List X) (x : X) (ps : Patterns) → ys ≡ xs ++ x ∷ [] → patterns_onto (map f ys) ps ≡ whole → patterns_onto (map f xs) (AndPattern (f x) ps) ≡ whole
pattern_moves f xs ys x ps is e = sym (push_patterns (map f xs) (f x) ps) ∙ ap (λ (l : List _). patterns_onto l ps) (sym (map_push f xs x)) ∙ ap (λ (l : List _). patterns_onto (map f l) ps) (sym is) ∙ e

pub expr_moves : {X : Type 0} {whole : Exprs} (f : X → Expr) (xs ys : List X) (x : X) (es : Exprs) → ys ≡ xs ++ x ∷ [] → exprs_onto (map f ys) es ≡ whole → exprs_onto (map f xs) (AndExpr (f x) es) ≡ whole
expr_moves f xs ys x es is e = sym (push_exprs (map f xs) (f x) es) ∙ ap (λ (l : List _). exprs_onto l es) (sym (map_push f xs x)) ∙ ap (λ (l : List _). exprs_onto (map f l) es) (sym is) ∙ e

pub case_moves : {X : Type 0} {whole : Cases} (f : X → Pattern × Expr) (xs ys : List X) (x : X) (cs : Cases) → ys ≡ xs ++ x ∷ [] → cases_onto (map f ys) cs ≡ whole → cases_onto (map f xs) (Case (f x).0 (f x).1 cs) ≡ whole
case_moves f xs ys x cs is e = sym (push_cases (map f xs) (f x) cs) ∙ ap (λ (l : List _). cases_onto l cs) (sym (map_push f xs x)) ∙ ap (λ (l : List _). cases_onto (map f l) cs) (sym is) ∙ e
