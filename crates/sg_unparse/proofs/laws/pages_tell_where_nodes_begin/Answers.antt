use Rattle.sg_unparse.proofs.Told.{page_told, marks_told, none_told, region_there, line_told}
use Rattle.sg_unparse.proofs.laws.pages_tell_where_nodes_begin.Goals as goal

pub returns-clause-page : goal.returns-clause-page
returns-clause-page c = page_told

pub returns-clause-marks : goal.returns-clause-marks
returns-clause-marks c = marks_told

pub returns-clause-none : goal.returns-clause-none
returns-clause-none c = none_told

pub returns-clause-line : goal.returns-clause-line
returns-clause-line c = line_told

pub returns-clause-there : goal.returns-clause-there
returns-clause-there c = region_there
