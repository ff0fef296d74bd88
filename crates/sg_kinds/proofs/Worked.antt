-- The definitions on worked examples.
use Rattle.std.specs.Prelude.{◌≡◌, refl, ℕ, ◌^◌, ◌-◌, pos, negsuc, false, List, [], ◌∷◌, length}
use Rattle.sg_kinds.specs.Values.{Value, Number, Chars, Tree, Fault, NoValue, row_of}
use Rattle.sg_kinds.specs.Terms.{Term, Leaf, Node, kids_of, NoTerm}
use Rattle.sg_kinds.specs.Expressions.{Named, Call}
use Rattle.sg_kinds.specs.Specification.{rules_of}
use Rattle.sg_kinds.specs.Completing.{completing}
use Rattle.sg_kinds.specs.Placeholder.{placeholder}
use Rattle.sg_kinds.specs.Evaluation.{Gives, value_within}
use Rattle.sg_kinds.specs.Outcome.{outcome, outcome_of}
use Rattle.sg_kinds.specs.Places.{Place}
use Rattle.sg_kinds.specs.Nets.{Reference, net_of}
use Rattle.sg_kinds.specs.Instances.{args_at, instances}
use Rattle.sg_kinds.specs.FromScratch.{value_in}
use Rattle.sg_kinds.specs.declared.marks.FaultKind.TheVariants.{Fuel, Depth, Overflow}
use Rattle.sg_kinds.proofs.Languages.{sums, lets, uses, runaways, rule, at, num, exprs_of}

int : ℕ → Value
int n = Number (pos n)

sum_adds : outcome sums (rule 2 (at 0 0) (at 1 0 ∷ at 2 0 ∷ []) 1) (Number (pos 3) ∷ Number (pos 4) ∷ []) ≡ Number (pos 7)
unfolding outcome_of
sum_adds = refl

sum_overflows : outcome sums (rule 2 (at 0 0) (at 1 0 ∷ at 2 0 ∷ []) 1) (Number (pos (2 ^ 63 - 1)) ∷ Number (pos 1) ∷ []) ≡ Fault Overflow
unfolding outcome_of
sum_overflows = refl

const_is : outcome sums (rule 3 (at 0 0) (at 1 0 ∷ []) 2) (Number (pos 5) ∷ []) ≡ Number (pos 5)
unfolding outcome_of
const_is = refl

sums_completing : completing sums 3 ≡ Node 0 0 false (kids_of (Node 1 0 false NoTerm ∷ []))
unfolding completing
sums_completing = refl

sums_placeholder : placeholder sums 4 ≡ Node 1 0 false NoTerm
unfolding placeholder
sums_placeholder = refl

-- the term (4 + <exp>) below its top
four_plus : Term
four_plus = Node 0 0 false (kids_of (Node 2 0 false (kids_of (Node 3 0 false (kids_of (Leaf 1 (Number (pos 4)) ∷ [])) ∷ Node 1 0 false NoTerm ∷ [])) ∷ []))

ref : Place → ℕ → Reference Place
ref u slot = record { node = u; slot = slot }

sums_instances : instances (rules_of sums) four_plus ≡ ref (0 ∷ []) 0 ∷ ref (0 ∷ 0 ∷ []) 0 ∷ ref (1 ∷ 0 ∷ []) 0 ∷ []
unfolding four_plus ref
sums_instances = refl

sums_value : value_in sums four_plus (ref (0 ∷ []) 0) ≡ Number (pos 4)
unfolding four_plus ref outcome_of
sums_value = refl

sums_args : args_at (net_of four_plus) (record { node = 0 ∷ []; rule = rule 2 (at 0 0) (at 1 0 ∷ at 2 0 ∷ []) 1 }) ≡ ref (0 ∷ 0 ∷ []) 0 ∷ ref (1 ∷ 0 ∷ []) 0 ∷ []
unfolding four_plus ref
sums_args = refl

lets_completing : completing lets 3 ≡ Node 0 0 false (kids_of (Node 2 0 false (kids_of (Node 3 0 false NoTerm ∷ Node 1 0 false NoTerm ∷ [])) ∷ []))
unfolding completing
lets_completing = refl

lets_placeholder : placeholder lets 4 ≡ Node 2 0 false (kids_of (Node 3 0 false NoTerm ∷ Node 1 0 false NoTerm ∷ []))
unfolding placeholder
lets_placeholder = refl

-- Bind("b", 7, Bind("a", 5, NoEnv()))
env : Value
env = Tree 7 (row_of (Chars (98 ∷ []) ∷ Number (pos 7) ∷ Tree 7 (row_of (Chars (97 ∷ []) ∷ Number (pos 5) ∷ Tree 6 NoValue ∷ [])) ∷ []))

look_a : outcome lets (rule 5 (at 0 3) (at 1 0 ∷ at 0 0 ∷ []) 6) (Chars (97 ∷ []) ∷ env ∷ []) ≡ Number (pos 5)
unfolding env outcome_of
look_a = refl

look_c : outcome lets (rule 5 (at 0 3) (at 1 0 ∷ at 0 0 ∷ []) 6) (Chars (99 ∷ []) ∷ env ∷ []) ≡ Number (negsuc 0)
unfolding env outcome_of
look_c = refl

-- let a = 5; print a; print b
stmts : List Term → Term
stmts [] = Node 1 0 false NoTerm
stmts (t ∷ ts) = Node 2 0 false (kids_of (t ∷ stmts ts ∷ []))

id : ℕ → Term
id b = Leaf 7 (Chars (b ∷ []))

program : Term
program = Node 0 0 false (kids_of (stmts (Node 4 0 false (kids_of (id 97 ∷ Leaf 1 (Number (pos 5)) ∷ [])) ∷ Node 5 0 false (kids_of (id 97 ∷ [])) ∷ Node 5 0 false (kids_of (id 98 ∷ [])) ∷ []) ∷ []))

-- nineteen equations, eighteen of them below the top; the completing program has seven
program_count : length (instances (rules_of lets) program) ≡ 19
unfolding program stmts id
program_count = refl

program_errors : value_in lets program (ref (0 ∷ []) 1) ≡ Number (pos 1)
unfolding program stmts id ref outcome_of
program_errors = refl

-- fuel is looked at before nesting
deep : value_within runaways 20 (Call 0 (exprs_of (num 1 ∷ []))) [] 1000 ≡ Gives (Fault Depth) 961
deep = refl

runs_out : value_within runaways 100 (Call 1 (exprs_of (num 5 ∷ []))) [] 200 ≡ Gives (Fault Fuel) 0
runs_out = refl

ends : value_within runaways 100 (Call 1 (exprs_of (num 2 ∷ []))) [] 200 ≡ Gives (Number (pos 4)) 139
ends = refl

both_gone : value_within runaways 0 (Named 0) [] 0 ≡ Gives (Fault Fuel) 0
both_gone = refl

uses_instances : length (instances (rules_of uses) (completing uses 3)) ≡ 4
unfolding completing
uses_instances = refl

uses_sum : value_in uses (completing uses 3) (ref (1 ∷ []) 2) ≡ Number (pos 1)
unfolding completing ref outcome_of
uses_sum = refl

small_count : length (instances (rules_of lets) (completing lets 3)) ≡ 7
unfolding completing
small_count = refl

four_count : length (instances (rules_of sums) four_plus) ≡ 3
unfolding four_plus
four_count = refl

-- f(1) and g(20) with all their fuel and nesting
full_depth : outcome_of runaways 2 [] ≡ Fault Depth
unfolding outcome_of
full_depth = refl

full_fuel : outcome_of runaways 3 [] ≡ Fault Fuel
unfolding outcome_of
full_fuel = refl
