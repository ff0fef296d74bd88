-- What is made of a pattern.
use Rattle.std.specs.Prelude.{◌≡◌, ℕ, List, Option}
use Rattle.sg_kinds.specs.PatternView.{pattern_of, patterns_of}
use Rattle.sg_kinds.specs.declared.fault.Position.{Position}
use Rattle.sg_ast.specs.Patterns.{Pattern, Patterns}
use Rattle.sg_names.specs.declared.table.Table.{Table}
use Rattle.sg_types.specs.declared.pattern.Checked.{Checked}
use Rattle.sg_types.specs.declared.pattern.CheckedList.{CheckedList}
use Rattle.sg_types.specs.Patterns.{mismatch_in, mismatch_in_all, recorded, recorded_all}

-- its pattern in the record, and the first of its parts that does not fit
pub record IsChecked (t : Table) (q : Pattern) (wanted : Option ℕ) (c : Checked) : Type 0 where
  pub tree : pattern_of c.tree ≡ recorded t q
  pub mismatch : c.mismatch ≡ mismatch_in t q wanted

pub record AreChecked (t : Table) (place : Position) (xs : Patterns) (ps : List ℕ) (c : CheckedList) : Type 0 where
  pub list : patterns_of c.list ≡ recorded_all t xs ps
  pub mismatch : c.mismatch ≡ mismatch_in_all t place xs ps
