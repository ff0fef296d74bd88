-- What is told of a specification.
use Rattle.std.specs.Prelude.{◌≡◌, Bool, true, false, List, [], ◌∷◌, ◌++◌, length, Ok, codes}
use Rattle.sg_kinds.specs.Values.{Bytes}
use Rattle.sg_kinds.specs.declared.fault.SpecFault.{SpecFault as Fault}
use Rattle.sg_kinds.specs.declared.spec.Spec.{Spec}
use Rattle.sg_text.specs.declared.tokens.Token.{Token}
use Rattle.sg_text.specs.Tokens.{tokens_of}
use Rattle.sg_ast.specs.Declarations.{Decl}
use Rattle.sg_faults.specs.FaultLine.{fault_line}
use Rattle.sg_load.specs.Trees.{trees_in}
use Rattle.sg_load.specs.Verdict.{Verdict}
use Rattle.sg_load.specs.Verdict.Verdict.{Refused, Accepted}
use Rattle.sg_load.specs.Only.{IsTheVerdict}
use Rattle.sg_explain.specs.declared.ending.Ending.{Ending}
use Rattle.sg_explain.specs.declared.ending.Ending.TheVariants.{Done, SpecFault}
use Rattle.sg_explain.specs.declared.explaining.Explanation.{Explanation}
use Rattle.sg_kinds.specs.Specification.{rules_of}
use Rattle.sg_kinds.specs.ValidPlans.{AreValid}
use Rattle.sg_kinds.specs.declared.plans.Plans.{Plans}
use Rattle.sg_grammar.specs.Numbered.{grammar_of}
use Rattle.sg_lalr.specs.Tables.{View, IsTables}
use Rattle.sg_notes.specs.Notes.{notes_text}
use Rattle.sg_plan_text.specs.Plan.{plan_text}
use Rattle.sg_place.specs.Places.{place_of}
use Rattle.sg_place.specs.Shown.{where_text, shown}
use Rattle.sg_explain.specs.Advice.{advice}
use Rattle.sg_explain.specs.Help.{Helps}

-- the place of the fault, its line as the check of a specification prints it, and the text's line with a caret
abbrev pub heading : Bytes → Bytes → Fault → Bytes
heading file bytes f = let place = place_of bytes f in
    where_text file bytes place ++ (codes ": " ++ (fault_line f ++ shown bytes place))

-- the text tells of a specification that is refused for this fault: its heading, its advice, and what helps besides
pub record Explains (file bytes : Bytes) (f : Fault) (text : Bytes) : Type 0 where
  pub help : Bytes
  pub helps : Helps bytes f help
  pub is : text ≡ heading file bytes f ++ (advice f ++ help)

-- the text tells of one that is accepted: `ok`, and by its declarations a line for each part of its record that is of
-- no use
pub record Accepts (file bytes : Bytes) (spec : Spec) (text : Bytes) : Type 0 where
  pub tokens : List Token
  pub are : tokens_of bytes ≡ Ok tokens
  pub trees : List Decl
  pub read : trees_in bytes ≡ Ok trees
  pub is : text ≡ codes "ok" ++ (10 ∷ notes_text file bytes tokens trees spec)

-- the text tells by which plans it is evaluated, and how many states its tables have
pub record TellsPlan (spec : Spec) (text : Bytes) : Type 0 where
  pub plans : Plans
  pub valid : AreValid (rules_of spec) plans
  pub tables : View
  pub sound : IsTables tables
  pub grammar : tables.grammar ≡ grammar_of spec
  pub is : text ≡ plan_text spec plans (length tables.cores)

-- the same where it is wanted
abbrev pub TellsWanted : Bool → Spec → Bytes → Type 0
TellsWanted true spec text = TellsPlan spec text
TellsWanted false spec text = text ≡ []

-- both, one behind the other
pub record AcceptsWith (planned : Bool) (file bytes : Bytes) (spec : Spec) (text : Bytes) : Type 0 where
  pub notes : Bytes
  pub accepts : Accepts file bytes spec notes
  pub plan : Bytes
  pub tells : TellsWanted planned spec plan
  pub is : text ≡ notes ++ plan

-- the text tells of the bytes of a file with this verdict
abbrev pub Tells : Bool → Bytes → Bytes → Verdict → Bytes → Type 0
Tells planned file bytes (Refused f) text = Explains file bytes f text
Tells planned file bytes (Accepted spec) text = AcceptsWith planned file bytes spec text

-- how the run ends with it
abbrev pub ending_of : Verdict → Ending
ending_of (Refused f) = SpecFault
ending_of (Accepted spec) = Done

-- this is told by the verdict on the bytes of a file, of which there is no other
pub record IsTold (planned : Bool) (file bytes : Bytes) (e : Explanation) : Type 0 where
  pub verdict : Verdict
  pub is : IsTheVerdict bytes verdict
  pub text : Tells planned file bytes verdict e.text
  pub ending : e.ending ≡ ending_of verdict
