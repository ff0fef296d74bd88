-- Equations at the nodes of a term whose operators have them.
use Rattle.std.specs.Prelude.{◌≡◌, Contains}
use Rattle.sg_kinds.specs.declared.spec.Rules.{Rules}
use Rattle.sg_kinds.specs.Terms.{Term}
use Rattle.sg_kinds.specs.Places.{Place, sub}
use Rattle.sg_kinds.specs.Nets.{Operation, label_of}
use Rattle.sg_kinds.specs.Instances.{Site}

pub record IsLive (rules : Rules) (t : Term) (i : Site Place) : Type 0 where
  pub label : label_of (sub t i.node) ≡ Operation i.rule.op
  pub stands : Contains rules.rules i.rule
