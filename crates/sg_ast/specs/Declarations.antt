-- Declarations as trees.
use Rattle.std.specs.Prelude.{Bool, List, Option}
use Rattle.sg_kinds.specs.declared.fault.Position.{Position}
use Rattle.sg_kinds.specs.declared.marks.Group.{Group}
use Rattle.sg_ast.specs.declared.name.Name.{Name}
use Rattle.sg_ast.specs.declared.name.Quoted.{Quoted}
use Rattle.sg_ast.specs.declared.name.Typed.{Typed}
use Rattle.sg_ast.specs.declared.decl.Alt.{Alt}
use Rattle.sg_ast.specs.declared.decl.AttrDecl.{AttrDecl}
use Rattle.sg_ast.specs.declared.decl.Target.{Target}
use Rattle.sg_ast.specs.declared.decl.SchemeDecl.{SchemeDecl}
use Rattle.sg_ast.specs.declared.decl.Part.{Part}
use Rattle.sg_ast.specs.Patterns.{Pattern}
use Rattle.sg_ast.specs.Expressions.{Expr}

-- what an equation defines, and how
pub record Equation : Type 0 where
  pub target : Target
  pub expr : Expr

-- the right side of a production with its result, and the place of its `(`
pub record Right : Type 0 where
  pub place : Position
  pub parts : List Part
  pub expr : Expr

-- the declarations, in the order of the grammar; a precedence line comes last
pub data Decl : Type 0 where
  Root : Name → Decl
  Listed : Name → Decl
  Optional : Bool → Name → Decl
  Operators : Name → List Alt → Decl
  LexemeOf : Name → Quoted → Decl
  Attributes : Name → List AttrDecl → Decl
  Equations : Name → Name → List Typed → List Equation → Decl
  Schemes : Name → Name → Option Name → List SchemeDecl → Decl
  Function : Name → Name → List Typed → Expr → Decl
  Transform : Name → Quoted → Pattern → Expr → Decl
  Productions : Name → List Right → Decl
  Entry : Name → Name → Name → Decl
  Precedence : Group → List Quoted → Position → Decl
