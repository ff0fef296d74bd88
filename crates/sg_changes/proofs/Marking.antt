-- Marks of a node, changed and put back.
use Rattle.std.specs.Prelude.{◌≡◌, refl, Option, Some, None, option_and_then, unwrap_or}
use Rattle.std.proofs.Common.{sym, ap, ◌∙◌}
use Rattle.std.proofs.lemmas.Option.{same_Some}
use Rattle.sg_kinds.specs.Terms.{Term, Leaf, Node}
use Rattle.sg_kinds.specs.Places.{Place, sub, put}
use Rattle.sg_kinds.proofs.TermLaws.{sub_put, put_sub}
use Rattle.sg_groves.proofs.Puts.{put_put}
use Rattle.sg_changes.specs.declared.step.Marks.{Marks}
use Rattle.sg_changes.specs.Changes.{part_of, marks_of, marks_at, with_marks, marked}

pub part_is : (t : Term) (u : Place) (x : Term) → sub t u ≡ Some x → part_of t u ≡ x
part_is t u x at = ap (λ o. unwrap_or o t) at

-- what a term that was put at a place has there
pub part_put : (t : Term) (u : Place) (x s : Term) → sub t u ≡ Some x → part_of (put t u s) u ≡ s
part_put t u x s at = part_is (put t u s) u s (sub_put t u x s at)

-- a node with marks is there
node_there : (t : Term) (u : Place) (was : Marks) → marks_at t u ≡ Some was → (sub t u ≡ Some (part_of t u)) × (marks_of (part_of t u) ≡ Some was)
node_there t u was at = by (sub t u) at
  where
    by : (o : Option Term) → option_and_then marks_of o ≡ Some was → (o ≡ Some (unwrap_or o t)) × (marks_of (unwrap_or o t) ≡ Some was)
    by None h = absurd (cc h)
    by (Some x) h = (refl, h)

marks_of-with : (x : Term) (was marks : Marks) → marks_of x ≡ Some was → marks_of (with_marks x marks) ≡ Some marks
marks_of-with (Leaf p v) was marks h = absurd (cc h)
marks_of-with (Node op scheme elided ts) was marks h = refl

with_marks_back : (x : Term) (was marks : Marks) → marks_of x ≡ Some was → with_marks (with_marks x marks) was ≡ x
with_marks_back (Leaf p v) was marks h = absurd (cc h)
with_marks_back (Node op scheme elided ts) was marks h = ap (λ (m : Marks). Node op m.scheme m.elided ts) (sym (same_Some _ _ h))

-- the new marks are there
pub marks_marked : (t : Term) (u : Place) (was marks : Marks) → marks_at t u ≡ Some was → marks_at (marked t u marks) u ≡ Some marks
marks_marked t u was marks at =
    let there = node_there t u was at in
    ap (option_and_then marks_of) (sub_put t u (part_of t u) (with_marks (part_of t u) marks) there.0)
    ∙ marks_of-with (part_of t u) was marks there.1

-- the old marks put back give the term back
pub marked_back : (t : Term) (u : Place) (was marks : Marks) → marks_at t u ≡ Some was → marked (marked t u marks) u was ≡ t
marked_back t u was marks at =
    let there = node_there t u was at in
    let part = part_of t u in
    let now = with_marks part marks in
    ap (λ x. put (put t u now) u (with_marks x was)) (part_put t u part now there.0)
    ∙ put_put t u now (with_marks now was)
    ∙ ap (put t u) (with_marks_back part was marks there.1)
    ∙ put_sub t u part there.0
