-- Laws of values, plain terms and places.
use Rattle.std.specs.Prelude.{◌≡◌, refl, ℕ, zero, suc, List, [], ◌∷◌, ◌++◌, Option, Some, None, slice_get, option_and_then}
use mathlib.Core.Path.{ap}
use Rattle.sg_kinds.specs.Values.{Value, Values, Truth, Number, Chars, Tree, Fault, NoValue, AndValue, list_of, row_of}
use Rattle.sg_kinds.specs.Terms.{Term, Terms, Leaf, Node, NoTerm, AndTerm, terms_of}
use Rattle.sg_kinds.specs.Specification.{Spec, args_of}
use Rattle.sg_kinds.specs.ValueOf.{value_of, values_of}
use Rattle.sg_kinds.specs.Plain.{plain, plain_all}
use Rattle.sg_kinds.specs.Places.{Place, sub, put, child, with_child, with_kid}

pub row_of-list_of : (vs : Values) → row_of (list_of vs) ≡ vs
row_of-list_of NoValue = refl
row_of-list_of (AndValue v vs) = ap (AndValue v) (row_of-list_of vs)

-- the value of a plain term
mutual
  pub value_of_plain : (spec : Spec) (v : Value) (p : ℕ) → value_of (plain spec v p) ≡ v
  value_of_plain spec (Truth b) p = refl
  value_of_plain spec (Number z) p = refl
  value_of_plain spec (Chars s) p = refl
  value_of_plain spec (Tree op vs) p = ap (Tree op) (values_of_plain spec vs (args_of spec.ops op))
  value_of_plain spec (Fault kind) p = refl

  pub values_of_plain : (spec : Spec) (vs : Values) (ps : List ℕ) → values_of (plain_all spec vs ps) ≡ vs
  values_of_plain spec NoValue ps = refl
  values_of_plain spec (AndValue v vs) [] = cc (value_of_plain spec v 0, values_of_plain spec vs [])
  values_of_plain spec (AndValue v vs) (p ∷ ps) = cc (value_of_plain spec v p, values_of_plain spec vs ps)

-- a changed child
pub kid-with_kid : (ts : Terms) (k : ℕ) (x s : Term) → slice_get (terms_of ts) k ≡ Some x → slice_get (terms_of (with_kid ts k s)) k ≡ Some s
kid-with_kid NoTerm k x s h = cc
kid-with_kid (AndTerm t ts) zero x s h = refl
kid-with_kid (AndTerm t ts) (suc k) x s h = kid-with_kid ts k x s h

pub child-with_child : (n : Term) (k : ℕ) (x s : Term) → child k n ≡ Some x → child k (with_child n k s) ≡ Some s
child-with_child (Leaf p v) k x s h = cc
child-with_child (Node op scheme elided ts) k x s h = kid-with_kid ts k x s h

-- what stands at a place after it was put there
pub sub_put : (t : Term) (u : Place) (x s : Term) → sub t u ≡ Some x → sub (put t u s) u ≡ Some s
sub_put t [] x s h = refl
sub_put t (k ∷ u) x s h = by (λ n m e. sub_put t u n m e) (sub t u) refl h
  where
    by : ((n m : Term) → sub t u ≡ Some n → sub (put t u m) u ≡ Some m) → (o : Option Term) → sub t u ≡ o → option_and_then (child k) o ≡ Some x → option_and_then (child k) (sub (elim o [ None ↦ t | Some n ↦ put t u (with_child n k s) ]) u) ≡ Some s
    by again None e i = cc
    by again (Some n) e i = rw (again n (with_child n k s) e) (child-with_child n k x s i)

-- the child that was there
pub with_kid_same : (ts : Terms) (k : ℕ) (x : Term) → slice_get (terms_of ts) k ≡ Some x → with_kid ts k x ≡ ts
with_kid_same NoTerm k x h = refl
with_kid_same (AndTerm t ts) zero x h = cc h
with_kid_same (AndTerm t ts) (suc k) x h = ap (AndTerm t) (with_kid_same ts k x h)

pub with_child_same : (n : Term) (k : ℕ) (x : Term) → child k n ≡ Some x → with_child n k x ≡ n
with_child_same (Leaf p v) k x h = refl
with_child_same (Node op scheme elided ts) k x h = ap (Node op scheme elided) (with_kid_same ts k x h)

-- to put what stands there changes nothing
pub put_sub : (t : Term) (u : Place) (x : Term) → sub t u ≡ Some x → put t u x ≡ t
put_sub t [] x h = cc h
put_sub t (k ∷ u) x h = by (λ n e. put_sub t u n e) (sub t u) refl h
  where
    by : ((n : Term) → sub t u ≡ Some n → put t u n ≡ t) → (o : Option Term) → sub t u ≡ o → option_and_then (child k) o ≡ Some x → elim o [ None ↦ t | Some n ↦ put t u (with_child n k x) ] ≡ t
    by again None e i = refl
    by again (Some n) e i = rw (with_child_same n k x i) (again n e)

-- a subterm of what was put
pub sub_put_inside : (t : Term) (u v : Place) (x s : Term) → sub t u ≡ Some x → sub (put t u s) (v ++ u) ≡ sub s v
sub_put_inside t u [] x s h = sub_put t u x s h
sub_put_inside t u (k ∷ v) x s h = ap (option_and_then (child k)) (sub_put_inside t u v x s h)
