-- What an expression uses: the functions that it calls, but that whose body it is, and the phyla of which it makes terms.
use Rattle.std.specs.Prelude.{ℕ, Bool, false, List, [], ◌∷◌, ◌++◌, nat_eq, Option, Some, None, option_map, unwrap_or, if◌then◌else◌}
use Rattle.sg_kinds.specs.Expressions.{Expr, Exprs, Cases, Constant, Named, MadeOf, Single, Binary, Logical, Cons, Choice, Apply, Call, Let, With, NoExpr, AndExpr, NoCase, Default, Case}
use Rattle.sg_kinds.specs.Specification.{phylum_of}
use Rattle.sg_kinds.specs.declared.spec.Operator.{Operator}
use Rattle.sg_useless.specs.Parts.{Part}
use Rattle.sg_useless.specs.declared.part.Part.TheVariants.{Function, Phylum}

abbrev pub is_own : Option ℕ → ℕ → Bool
is_own None f = false
is_own (Some g) f = nat_eq g f

abbrev pub called : Option ℕ → ℕ → List Part
called own f = if is_own own f then [] else Function f ∷ []

abbrev pub made : List Operator → ℕ → List Part
made ops op = unwrap_or (option_map (λ p. Phylum p ∷ []) (phylum_of ops op)) []

abbrev mutual
  pub named_in : List Operator → Option ℕ → Expr → List Part
  named_in ops own (Constant v) = []
  named_in ops own (Named k) = []
  named_in ops own (MadeOf how p) = Phylum p ∷ []
  named_in ops own (Single f a) = named_in ops own a
  named_in ops own (Binary sign a b) = named_in ops own a ++ named_in ops own b
  named_in ops own (Logical c a b) = named_in ops own a ++ named_in ops own b
  named_in ops own (Cons op a b) = named_in ops own a ++ named_in ops own b
  named_in ops own (Choice c a b) = named_in ops own c ++ (named_in ops own a ++ named_in ops own b)
  named_in ops own (Apply op es) = made ops op ++ named_in_all ops own es
  named_in ops own (Call f es) = called own f ++ named_in_all ops own es
  named_in ops own (Let a b) = named_in ops own a ++ named_in ops own b
  named_in ops own (With a cs) = named_in ops own a ++ named_in_cases ops own cs

  pub named_in_all : List Operator → Option ℕ → Exprs → List Part
  named_in_all ops own NoExpr = []
  named_in_all ops own (AndExpr e es) = named_in ops own e ++ named_in_all ops own es

  pub named_in_cases : List Operator → Option ℕ → Cases → List Part
  named_in_cases ops own NoCase = []
  named_in_cases ops own (Default e) = named_in ops own e
  named_in_cases ops own (Case x e cs) = named_in ops own e ++ named_in_cases ops own cs
