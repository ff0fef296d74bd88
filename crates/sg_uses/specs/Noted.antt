-- The first faults of a walk, with further uses.
use Rattle.std.specs.Prelude.{List, Option, None, fold}
use Rattle.sg_kinds.specs.declared.fault.SpecFault.{SpecFault}
use Rattle.sg_ast.specs.FirstFault.{or_else}
use Rattle.sg_names.specs.declared.table.Table.{Table}
use Rattle.sg_uses.specs.declared.found.Found.{Found}
use Rattle.sg_names.specs.Uses.{Use}
use Rattle.sg_names.specs.UnknownName.{unknown_at}
use Rattle.sg_names.specs.TwiceBound.{twice_at}
use Rattle.sg_names.specs.Arity.{arity_at}

-- a fault more of one row, and none of the others
abbrev pub and_faults : Found → Option SpecFault → Option SpecFault → Option SpecFault → Found
and_faults f unknown twice arity = record {
  unknown = or_else f.unknown unknown;
  twice = or_else f.twice twice;
  arity = or_else f.arity arity;
}

abbrev pub and_unknown : Found → Option SpecFault → Found
and_unknown f o = and_faults f o None None

abbrev pub and_twice : Found → Option SpecFault → Found
and_twice f o = and_faults f None o None

abbrev pub and_arity : Found → Option SpecFault → Found
and_arity f o = and_faults f None None o

-- a use more
abbrev pub noted_at : Table → Found → Use → Found
noted_at t f u = and_faults f (unknown_at t u) (twice_at u) (arity_at t u)

abbrev pub noted : Table → Found → List Use → Found
noted t f us = fold (noted_at t) f us

abbrev pub nothing_found : Found
nothing_found = record { unknown = None; twice = None; arity = None }
