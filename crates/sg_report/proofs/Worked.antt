-- Rows of a report, computed
use Rattle.std.proofs.Common.{◌≡◌, [], ◌∷◌, ◌++◌, Some, None, true, false, codes, refl}
use Rattle.std.specs.Fmt.{digits}
use Rattle.sg_report.specs.Attrs.{halves}
use Rattle.sg_report.specs.Found.{is_saved}
use Rattle.sg_report.specs.Lines.{path_text, last_line}

path_of_the_root : path_text [] ≡ codes "."
path_of_the_root = refl

path_of_one : path_text (7 ∷ []) ≡ codes "7"
unfolding digits
path_of_one = refl

path_of_three : path_text (1 ∷ 0 ∷ 12 ∷ []) ≡ codes "1.0.12"
unfolding digits
path_of_three = refl

two_names : halves (codes "exp.env") ≡ Some (codes "exp", codes "env")
two_names = refl

no_point : halves (codes "exp") ≡ None
no_point = refl

nothing_beside_the_point : halves (codes ".") ≡ Some ([], [])
nothing_beside_the_point = refl

first_point : halves (codes "a.b.c") ≡ Some (codes "a", codes "b.c")
first_point = refl

saved_by_a_whole_line : is_saved (codes "SGT1" ++ 10 ∷ []) ≡ true
saved_by_a_whole_line = refl

no_line : is_saved (codes "SGT1") ≡ false
no_line = refl

another_line : is_saved (codes "SGT12" ++ 10 ∷ []) ≡ false
another_line = refl

empty_file : is_saved [] ≡ false
empty_file = refl

last : last_line 3 17 ≡ codes "values 3 evaluated 17" ++ 10 ∷ []
unfolding digits
last = refl
