-- A record in two parts.
use Rattle.sg_kinds.specs.declared.spec.Rules.{Rules}
use Rattle.sg_kinds.specs.declared.spec.Spec.{Spec}
use Rattle.sg_load.specs.declared.parts.Rest.{Rest}

abbrev pub rest_of : Spec → Rest
rest_of spec = record {
  functions = spec.functions;
  transforms = spec.transforms;
  lexemes = spec.lexemes;
  productions = spec.productions;
  entries = spec.entries;
  levels = spec.levels;
  views = spec.views;
  root = spec.root;
}

abbrev pub joined : Rules → Rest → Spec
joined rules rest = record {
  phyla = rules.phyla;
  ops = rules.ops;
  exprs = rules.exprs;
  rules = rules.rules;
  functions = rest.functions;
  transforms = rest.transforms;
  lexemes = rest.lexemes;
  productions = rest.productions;
  entries = rest.entries;
  levels = rest.levels;
  views = rest.views;
  root = rest.root;
}
