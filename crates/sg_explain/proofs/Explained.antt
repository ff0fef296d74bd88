-- What is told of a specification.
use Rattle.std.proofs.Common.{◌≡◌, Bool, List, ◌∷◌, ◌++◌, length, Ok, subst, sym}
use Rattle.std.specs.Prelude.{codes}
use Rattle.sg_kinds.specs.Values.{Bytes}
use Rattle.sg_kinds.specs.declared.fault.SpecFault.{SpecFault}
use Rattle.sg_kinds.specs.declared.spec.Spec.{Spec}
use Rattle.sg_text.specs.declared.tokens.Token.{Token}
use Rattle.sg_text.specs.Tokens.{tokens_of}
use Rattle.sg_ast.specs.Declarations.{Decl}
use Rattle.sg_kinds.specs.Specification.{rules_of}
use Rattle.sg_kinds.specs.ValidPlans.{AreValid}
use Rattle.sg_kinds.specs.declared.plans.Plans.{Plans}
use Rattle.sg_grammar.specs.Numbered.{grammar_of}
use Rattle.sg_lalr.specs.Tables.{View, IsTables}
use Rattle.sg_notes.specs.Notes.{notes_text}
use Rattle.sg_plan_text.specs.Plan.{plan_text}
use Rattle.sg_load.specs.Trees.{trees_in}
use Rattle.sg_load.specs.Only.{IsTheVerdict}
use Rattle.sg_load.specs.Verdict.Verdict.{Refused, Accepted}
use Rattle.sg_explain.specs.declared.ending.Ending.TheVariants as ending
use Rattle.sg_explain.specs.declared.explaining.Explanation.{Explanation}
use Rattle.sg_explain.specs.Advice.{advice}
use Rattle.sg_explain.specs.Answers.{Accepts, AcceptsWith, TellsPlan, TellsWanted, Explains, IsTold, heading}
use Rattle.sg_explain.specs.Help.{Helps}
use Rattle.sg_explain.specs.Named.{TellsBareIn}
use Rattle.sg_kinds.specs.declared.fault.Position.{Position}
use Rattle.sg_unenclosed.specs.Unenclosed.{TellsBare}

pub explains : (file bytes : Bytes) (f : SpecFault) (help text : Bytes) → Helps bytes f help → text ≡ heading file bytes f ++ (advice f ++ help) → Explains file bytes f text
explains file bytes f help text helps is = record { help = help; helps = helps; is = is }

pub told_refused : (planned : Bool) (file bytes : Bytes) (f : SpecFault) (text : Bytes) (e : Explanation) → IsTheVerdict bytes (Refused f) → Explains file bytes f text
    → e.text ≡ text → e.ending ≡ ending.SpecFault → IsTold planned file bytes e
told_refused planned file bytes f text e verdict told same ends =
    record { verdict = Refused f; is = verdict; text = subst (Explains file bytes f) (sym same) told; ending = ends }

pub accepts : (file bytes : Bytes) (spec : Spec) (text : Bytes) (tokens : List Token) (trees : List Decl) → tokens_of bytes ≡ Ok tokens → trees_in bytes ≡ Ok trees
    → text ≡ codes "ok" ++ (10 ∷ notes_text file bytes tokens trees spec) → Accepts file bytes spec text
accepts file bytes spec text tokens trees are read is = record { tokens = tokens; are = are; trees = trees; read = read; is = is }

pub tells_plan : (spec : Spec) (text : Bytes) (plans : Plans) (tables : View) → AreValid (rules_of spec) plans → IsTables tables → tables.grammar ≡ grammar_of spec
    → text ≡ plan_text spec plans (length tables.cores) → TellsPlan spec text
tells_plan spec text plans tables valid sound grammar is = record { plans = plans; valid = valid; tables = tables; sound = sound; grammar = grammar; is = is }

pub accepts_with : (planned : Bool) (file bytes : Bytes) (spec : Spec) (notes plan text : Bytes) → Accepts file bytes spec notes → TellsWanted planned spec plan
    → text ≡ notes ++ plan → AcceptsWith planned file bytes spec text
accepts_with planned file bytes spec notes plan text accepts tells is = record { notes = notes; accepts = accepts; plan = plan; tells = tells; is = is }

pub told_accepted : (planned : Bool) (file bytes : Bytes) (spec : Spec) (text : Bytes) (e : Explanation) → IsTheVerdict bytes (Accepted spec)
    → AcceptsWith planned file bytes spec text → e.text ≡ text → e.ending ≡ ending.Done → IsTold planned file bytes e
told_accepted planned file bytes spec text e verdict told same ends =
    record { verdict = Accepted spec; is = verdict; text = subst (AcceptsWith planned file bytes spec) (sym same) told; ending = ends }

pub tells_bare : (bytes : Bytes) (place : Position) (text : Bytes) (trees : List Decl) → trees_in bytes ≡ Ok trees → TellsBare trees place text → TellsBareIn bytes place text
tells_bare bytes place text trees read told = record { trees = trees; read = read; told = told }
