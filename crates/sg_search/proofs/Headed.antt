-- Terms of operators at which the transformations of a name cannot apply.
use Rattle.std.specs.Prelude.{◌≡◌, refl, ℕ, Bool, true, false, ◌&&◌, ◌||◌, cond, nat_eq, bytes_eq, List, [], ◌∷◌, Some, None, is_some, slice_get}
use Rattle.std.specs.List.{list_any}
use Rattle.std.proofs.Common.{sym, ap, ◌∙◌}
use Rattle.std.proofs.lemmas.Bool.{false≢true}
use Rattle.std.proofs.lemmas.Option.{none-some, same_Some}
use Rattle.sg_kinds.specs.Evaluation.{bound_by, bound_by_all}
use Rattle.sg_kinds.specs.Expressions.{Pattern, Exactly, Anything, Variable, MadeAs, Applied}
use Rattle.sg_kinds.specs.Terms.{Term, Leaf, Node}
use Rattle.sg_kinds.specs.ValueOf.{values_of}
use Rattle.sg_kinds.specs.Values.{Bytes, Values, Tree}
use Rattle.sg_kinds.specs.declared.spec.Spec.{Spec}
use Rattle.sg_kinds.specs.declared.spec.Transform.{Transform}
use Rattle.sg_terms.specs.Labels.{op_of}
use Rattle.sg_matching.specs.Transformation.{applies}
use Rattle.sg_search.specs.Found.{applies_to, phylum_in}
use Rattle.sg_search.specs.Heads.{AreHeads, may_apply, may_match}

-- a pattern that cannot match binds nothing
unmatched : (spec : Spec) (q : Pattern) (op : ℕ) (vs : Values) → may_match q op ≡ false → bound_by spec q (Tree op vs) ≡ None
unmatched spec (Exactly w) op vs off = absurd (false≢true (sym off))
unmatched spec Anything op vs off = absurd (false≢true (sym off))
unmatched spec Variable op vs off = absurd (false≢true (sym off))
unmatched spec (MadeAs made p) op vs off = absurd (false≢true (sym off))
unmatched spec (Applied o ps) op vs off = ap (λ b. cond b (bound_by_all spec ps vs) None) off

neither : (a b : Bool) → (a || b) ≡ false → (a ≡ false) × (b ≡ false)
neither true b h = absurd (false≢true (sym h))
neither false b h = (refl, h)

not_all : (n b m s : Bool) → (b && m) ≡ false → (m ≡ false → s ≡ false) → ((n && b) && s) ≡ false
not_all false b m s h k = refl
not_all true false m s h k = refl
not_all true true m s h k = k h

-- no such transformation applies
silent : (spec : Spec) (name : Bytes) (p op : ℕ) (vs : Values) (xs : List Transform) → list_any (may_apply name op) xs ≡ false → list_any (applies spec p name (Tree op vs)) xs ≡ false
silent spec name p op vs [] off = refl
silent spec name p op vs (x ∷ xs) off =
    let both = neither (may_apply name op x) (list_any (may_apply name op) xs) off in
    ap (λ b. b || list_any (applies spec p name (Tree op vs)) xs)
    (not_all (nat_eq x.phylum p) (bytes_eq x.name name) (may_match x.pattern op) (is_some (bound_by spec x.pattern (Tree op vs))) both.0 (λ h. ap is_some (unmatched spec x.pattern op vs h)))
    ∙ silent spec name p op vs xs both.1

pub other_silent : (spec : Spec) (name : Bytes) (t : Term) (op : ℕ) (heads : List Bool) → AreHeads spec name heads → op_of t ≡ Some op → slice_get heads op ≡ Some false → applies_to spec name t ≡ false
other_silent spec name (Leaf p v) op heads are at off = absurd (none-some op at)
other_silent spec name (Node o n elided ts) op heads are at off =
    silent spec name (phylum_in spec (Node o n elided ts)) o (values_of ts) spec.transforms (are o (ap (slice_get heads) (same_Some o op at) ∙ off))
