use Rattle.std.proofs.Common.{◌≡◌, ◌≤◌}
use Rattle.sg_ast.specs.View.{patterns_of}
use Rattle.sg_ast.specs.declared.pattern.Patterns.{size-Patterns}
use Rattle.sg_uses.specs.Noted.{noted}
use Rattle.sg_names.specs.Uses as uses
use Rattle.sg_uses.proofs.walk.+patterns.Given as goal

abbrev pub invariant-patterns-loop-left : goal.invariant-patterns-loop-left
invariant-patterns-loop-left l = record {
  scope : uses.patterns_scope l.scope (patterns_of l.left) ≡ uses.patterns_scope l.fn.scope (patterns_of l.fn.patterns);
  found : noted l.context.names.now l.found (uses.patterns_uses l.scope (patterns_of l.left)) ≡ noted l.fn.context.names.now l.fn.found (uses.patterns_uses l.fn.scope (patterns_of l.fn.patterns));
  small : size-Patterns l.left ≤ size-Patterns l.fn.patterns;
}
