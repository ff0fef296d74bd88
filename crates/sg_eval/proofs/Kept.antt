-- Texts and trees that are kept by their numbers, and the values of terms.
use Rattle.std.specs.Prelude.{◌≡◌, refl, ℕ, zero, suc, ◌<◌, ◌≤◌, Bool, true, false, cond, List, [], ◌∷◌, length, map, Ok, All, IsTrue}
use Rattle.std.proofs.Common.{sym, ◌∙◌, ap, subst, arith, get_or}
use Rattle.sg_kinds.specs.Values.{Value, Truth, Number, Chars, Tree, Fault, row_of, is_within}
use Rattle.sg_kinds.specs.declared.marks.FaultKind.TheVariants.{Size}
use Rattle.sg_kinds.specs.Terms.{Term, height_of, height_of_all, kids_of}
use Rattle.sg_kinds.specs.ValueOf as term
use Rattle.sg_pool.specs.Pools.{value_at, tree_over, IsGrown}
use Rattle.sg_kinds.specs.Evaluation.{Gives, limited}
use Rattle.sg_pool.proofs.Grown.{map_stays}
use Rattle.sg_pool.proofs.Pooled.{below_all}
use Rattle.sg_eval.specs.Lives.{value_in, is_settled, IsUsable, AreUsable, IsReached}
use Rattle.sg_eval.specs.declared.live.Live.{Live}
use Rattle.sg_eval.specs.declared.live.Live.TheVariants as live

pub settled_limited : (v : Value) (left : ℕ) → IsTrue (is_settled v) → limited (Gives v left) ≡ Gives v left
settled_limited (Truth b) left h = cc
settled_limited (Number z) left h = cc
settled_limited (Chars s) left h = rw h refl
settled_limited (Tree op vs) left h = rw h refl
settled_limited (Fault kind) left h = cc

pub over_limit : (v : Value) (left : ℕ) → is_within v ≡ false → limited (Gives v left) ≡ Gives (Fault Size) left
over_limit v left h = ap (λ b. Gives (cond b v (Fault Size)) left) h

pub not_false : (b : Bool) → (b ≡ false → ⊥) → b ≡ true
not_false true h = refl
not_false false h = absurd (h refl)

pub kept_reached : (last : List Value) (v : Value) (id left : ℕ) → value_at last id ≡ v → IsTrue (is_settled v) → IsReached last (Ok (live.Kept id)) left (limited (Gives v left))
kept_reached last v id left e h = (settled_limited v left h ∙ ap (λ x. Gives x left) (sym e), subst (λ x. IsTrue (is_settled x)) (sym e) h)

pub usable_at : (pool : List Value) (ls : List Live) (i : ℕ) (d : Live) → i < length ls → AreUsable pool ls → IsUsable pool (get_or ls i d)
usable_at pool [] i d l h = absurd (omega arith)
usable_at pool (x ∷ ls) zero d l h = h.0
usable_at pool (x ∷ ls) (suc i) d l h = usable_at pool ls i d (omega arith) h.1

-- the tree over the numbers of children is the tree of the children
pub tree_is : (pool last : List Value) (op : ℕ) (numbers : List ℕ) (kids : List Live) → IsGrown pool last → All (λ k. k < length pool) numbers → map (value_at last) numbers ≡ map (value_in last) kids
    → tree_over pool op numbers ≡ Tree op (row_of (map (value_in last) kids))
tree_is pool last op numbers kids g below e = ap (λ l. Tree op (row_of l)) (sym (map_stays pool last numbers g (below_all (length pool) numbers below)) ∙ e)

-- the values of terms
pub height_item : (ts : List Term) (i : ℕ) (t : Term) → i < length ts → t ≡ get_or ts i t → height_of t ≤ height_of_all (kids_of ts)
height_item ts i t l e = subst (λ x. height_of x ≤ height_of_all (kids_of ts)) (sym e) (at ts i t l)
  where
    at : (ts : List Term) (i : ℕ) (d : Term) → i < length ts → height_of (get_or ts i d) ≤ height_of_all (kids_of ts)
    at [] i d h = absurd (omega arith)
    at (t ∷ ts) zero d h = omega arith
    at (t ∷ ts) (suc i) d h = let r : height_of (get_or ts i d) ≤ height_of_all (kids_of ts) = at ts i d (omega arith) in omega arith

pub values_of-kids_of : (ts : List Term) → row_of (map term.value_of ts) ≡ term.values_of (kids_of ts)
values_of-kids_of [] = refl
values_of-kids_of (t ∷ ts) = let r = values_of-kids_of ts in cc
