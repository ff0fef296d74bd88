-- Lists of a table that are short.
use Rattle.std.proofs.Common.{◌≡◌, ℕ, zero, suc, ◌<◌, Bool, true, ◌&&◌, List, [], ◌∷◌, length, Some, slice_get, arith, sym, ap, ◌∙◌}
use Rattle.std.specs.List.{list_all}
use Rattle.std.proofs.lemmas.Bool.{and_parts}
use Rattle.std.proofs.lemmas.Bool.Decides.{nat_tests}
use Rattle.sg_kinds.specs.declared.spec.Phylum.{Phylum}
use Rattle.sg_kinds.specs.declared.spec.Operator.{Operator}
use Rattle.sg_names.specs.declared.table.Table.{Table}
use Rattle.sg_names.specs.Indexed.{is_short, is_numbered}

all_at : {A : Type 0} (p : A → Bool) (xs : List A) (k : ℕ) (x : A) → list_all p xs ≡ true → slice_get xs k ≡ Some x → p x ≡ true
all_at p [] zero x h e = cc
all_at p [] (suc k) x h e = cc
all_at p (y ∷ ys) zero x h e = let same : y ≡ x = cc in ap p (sym same) ∙ (and_parts (p y) (list_all p ys) h).0
all_at p (y ∷ ys) (suc k) x h e = all_at p ys k x (and_parts (p y) (list_all p ys) h).1 e

short : {A : Type 0} (xs : List A) → is_short xs ≡ true → length xs < 4294967295
short xs h = grind (arith, nat_tests)

pub attrs_short : (t : Table) (k : ℕ) (x : Phylum) → is_numbered t ≡ true → slice_get t.phyla k ≡ Some x → length x.attrs < 4294967295
attrs_short t k x h e =
    let all : list_all (λ (y : Phylum). is_short y.attrs) t.phyla ≡ true = (and_parts _ _ h).0 in
    short x.attrs (all_at (λ (y : Phylum). is_short y.attrs) t.phyla k x all e)

at_op : (t : Table) (k : ℕ) (o : Operator) → is_numbered t ≡ true → slice_get t.ops k ≡ Some o → (is_short o.args ≡ true) × (is_short o.locals ≡ true)
at_op t k o h e = and_parts (is_short o.args) (is_short o.locals) (all_at (λ (x : Operator). is_short x.args && is_short x.locals) t.ops k o (and_parts (list_all (λ (y : Phylum). is_short y.attrs) t.phyla) (list_all (λ (x : Operator). is_short x.args && is_short x.locals) t.ops) h).1 e)

pub args_short : (t : Table) (k : ℕ) (o : Operator) → is_numbered t ≡ true → slice_get t.ops k ≡ Some o → length o.args < 4294967295
args_short t k o h e = short o.args (at_op t k o h e).0

pub locals_short : (t : Table) (k : ℕ) (o : Operator) → is_numbered t ≡ true → slice_get t.ops k ≡ Some o → length o.locals < 4294967295
locals_short t k o h e = short o.locals (at_op t k o h e).1
