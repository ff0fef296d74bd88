-- The rule of `with` is its two parts.
use Rattle.std.proofs.Common.{◌≡◌, ℕ, List, [], Some, None, refl}
use Rattle.sg_kinds.specs.declared.fault.Position.{Position}
use Rattle.sg_text.specs.declared.symbols.Symbol.TheVariants.{LeftParenthesis, RightParenthesis}
use Rattle.sg_text.specs.declared.words.Keyword.TheVariants as keyword
use Rattle.sg_ast.specs.Expressions.{Expr, Cases, With}
use Rattle.sg_ast.specs.Chains.{cases_chain}
use Rattle.sg_ast.specs.Levels.{choice_level}
use Rattle.sg_ast.specs.Spelling.{Mark}
use Rattle.sg_ast.specs.Readers.{Reader, Outcome, and_then, is_sign, is_reserved, expect, many}
use Rattle.sg_ast.specs.ReadingNames.{another}
use Rattle.sg_ast.specs.ReadingExpressions.{case, sees_case, default_case, with_cases}
use Rattle.sg_expressions.specs.WithParts.{with_head, other_cases, with_tail}

-- one more step in front of both
under : {A B C : Type 0} (o : Outcome A) (f : A → Reader B) (g : B → Reader C) (h : A → Reader C) → ((a : A) (ms : List Mark) → h a ms ≡ and_then (f a ms) g)
    → and_then o h ≡ and_then (and_then o f) g
under (Some p) f g h same = same p.0 p.1
under None f g h same = refl

-- the same behind one step
behind : {A B : Type 0} (o : Outcome A) (f g : A → Reader B) → ((a : A) (ms : List Mark) → f a ms ≡ g a ms) → and_then o f ≡ and_then o g
behind (Some p) f g same = same p.0 p.1
behind None f g same = refl

tail_parts : (sub : ℕ → Reader Expr) (a : Expr) (place : Position) (ms : List Mark)
    → and_then (case sub ms) (λ first m6. and_then (many sees_case (another (case sub)) [] m6) (λ found m7. and_then (default_case sub m7) (λ other m8. and_then (expect (is_sign RightParenthesis) m8)
    (λ _ m9. Some (With a first.0 first.1 (cases_chain found other) place, m9)))))
    ≡ with_tail sub a place ms
unfolding with_tail other_cases
tail_parts sub a place ms =
    behind (case sub ms) _ _ (λ first m6.
    let tail = λ (others : Cases) (m : List Mark). and_then (expect (is_sign RightParenthesis) m) (λ _ m9. Some (With a first.0 first.1 others place, m9)) in
    under (many sees_case (another (case sub)) [] m6) _ tail _ (λ found m7.
    under (default_case sub m7) _ tail _ (λ other m8. refl)))

pub with_parts : (sub : ℕ → Reader Expr) (ms : List Mark) → with_cases sub ms ≡ and_then (with_head sub ms) (λ (h : Expr × Position). with_tail sub h.0 h.1)
unfolding with_cases with_head
with_parts sub ms =
    let tail = λ (h : Expr × Position). with_tail sub h.0 h.1 in
    under (expect (is_reserved keyword.With) ms) _ tail _ (λ place m1.
    under (expect (is_sign LeftParenthesis) m1) _ tail _ (λ _ m2.
    under (sub choice_level m2) _ tail _ (λ a m3.
    under (expect (is_sign RightParenthesis) m3) _ tail _ (λ _ m4.
    under (expect (is_sign LeftParenthesis) m4) _ tail _ (λ _ m5. tail_parts sub a place m5)))))
