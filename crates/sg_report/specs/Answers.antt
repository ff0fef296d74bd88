-- What the answer of a call says, and what the call notes.
use Rattle.std.specs.Prelude.{◌≡◌, ℕ, List, Option, Some, None, Result, Ok, Err, Contains}
use Rattle.sg_kinds.specs.Terms.{Term}
use Rattle.sg_kinds.specs.Instances.{instances}
use Rattle.sg_kinds.specs.Specification.{rules_of}
use Rattle.sg_kinds.specs.declared.spec.Spec.{Spec}
use Rattle.sg_eval.specs.declared.journal.Instance.{Instance}
use Rattle.sg_forest.specs.declared.node_id.NodeId.{NodeId}
use Rattle.sg_groves.specs.Grove.{Grove, IsGrove}
use Rattle.sg_groves.specs.Holds.{Holds}
use Rattle.sg_terms.specs.Entries.{GainedAll}
use Rattle.sg_report.specs.declared.answers.Report.{Report}
use Rattle.sg_report.specs.declared.answers.ReportFault.{ReportFault}
use Rattle.sg_report.specs.declared.answers.ReportFault.TheVariants as fault

-- the answer, but for want of memory
abbrev pub answered_of : {A : Type 0} → Result A ReportFault → Option (Result A ReportFault)
answered_of (Err fault.NoMemory) = None
answered_of r = Some r

-- how many equations are evaluated for it
abbrev pub evaluated_by : Result Report ReportFault → ℕ
evaluated_by (Ok r) = r.evaluated
evaluated_by (Err f) = 0

-- a journal's list gained the entries of all instances of a term, each once, at the nodes of a tree that holds the term
pub record EachNoted (spec : Spec) (t : Term) (was now : List Instance) : Type 0 where
  pub grove : Grove
  pub is : IsGrove grove
  pub same : grove.spec ≡ spec
  pub root : NodeId
  pub holds : Holds grove root t
  pub all : GainedAll grove root t (Contains (instances (rules_of spec) t)) was now
