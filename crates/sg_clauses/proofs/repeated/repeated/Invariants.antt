use Rattle.std.proofs.Common.{◌≡◌, ◌-◌, length}
use Rattle.sg_ast.specs.Readers.{more}
use Rattle.sg_cursor.specs.Left.{left_of}
use Rattle.sg_clauses.specs.Repeats.{is_ahead}
use Rattle.sg_clauses.proofs.repeated.repeated.Given as goal

abbrev pub invariant-loop-turn : goal.invariant-loop-turn
invariant-loop-turn g l =
    more (is_ahead l.ahead) g.rule (length (left_of l.fn.tokens)) l.fn.found.items (left_of l.fn.tokens)
    ≡ more (is_ahead l.ahead) g.rule (l._turn-end - l._turn) l.found.items (left_of l.tokens)
