-- The record as far as names give it: its phyla, operators and functions. It has no views.
use Rattle.std.specs.Prelude.{◌≡◌, [], map}
use Rattle.sg_kinds.specs.declared.spec.Function.{Function}
use Rattle.sg_kinds.specs.declared.spec.Operator.{Operator}
use Rattle.sg_kinds.specs.declared.spec.Spec.{Spec}
use Rattle.sg_names.specs.declared.table.Signature.{Signature}
use Rattle.sg_names.specs.declared.table.Table.{Table}

-- a function whose body is not read yet
abbrev pub without_body : Signature → Function
without_body f = record { name = f.name; params = f.params; result = f.result; body = 0 }

abbrev pub drafted : Table → Spec
drafted t = record {
  phyla = t.phyla;
  ops = t.ops;
  exprs = [];
  rules = [];
  functions = map without_body t.functions;
  transforms = [];
  lexemes = [];
  productions = [];
  entries = [];
  levels = [];
  views = record { names = []; rows = [] };
  root = t.root;
}

-- an operator without its schemes, a function without its body
abbrev pub without_schemes : Operator → Operator
without_schemes o = record o { schemes = [] }

abbrev pub signature_of : Function → Signature
signature_of f = record { name = f.name; params = f.params; result = f.result }

-- a specification whose names are those of a table: its operators may have schemes, and its functions bodies
pub record HasTable (t : Table) (spec : Spec) : Type 0 where
  pub phyla : spec.phyla ≡ t.phyla
  pub ops : map without_schemes spec.ops ≡ t.ops
  pub functions : map signature_of spec.functions ≡ t.functions
  pub root : spec.root ≡ t.root
