-- What the counts say of the made terms.
use Rattle.std.proofs.Common.{◌≡◌, ℕ, suc, ◌<◌, ◌≤◌, Bool, true, false, not, ◌&&◌, nat_le, List, length, get_or, Option, Some, None, MatchOption, slice_get, option_and_then, refl, sym, ap, ◌∙◌, arith}
use Rattle.std.proofs.lemmas.Bool.{and_from, and_parts, both_ways, le-leb, leb-true, not-false, not-true}
use Rattle.std.proofs.lemmas.Bool.Decides.{nat_tests}
use Rattle.std.proofs.lemmas.Option.{slice_get_read}
use Rattle.sg_kinds.specs.Terms.{Term, nodes_of, height_of}
use Rattle.sg_kinds.specs.declared.spec.Spec.{Spec}
use Rattle.sg_kinds.specs.declared.spec.Phylum.{Phylum}
use Rattle.sg_kinds.specs.declared.spec.Operator.{Operator}
use Rattle.sg_kinds.specs.declared.marks.Shape.{Shape}
use Rattle.sg_kinds.specs.Specification.{is_leaf_shape}
use Rattle.sg_kinds.specs.declared.marks.Shape.TheVariants.{Truths, Numbers, Texts, Lexemes, Ordinary, Optional, Listed, OptionalListed}
use Rattle.sg_kinds.specs.Completing.{completing_within}
use Rattle.sg_kinds.specs.Completing as term
use Rattle.sg_kinds.specs.Placeholder.{placeholder_within}
use Rattle.sg_kinds.specs.Placeholder as held
use Rattle.sg_kinds.specs.Sound.{IsSmall, IsFinite}
use Rattle.sg_names.specs.declared.table.Table.{Table}
use Rattle.sg_names.specs.Drafted.{drafted}
use Rattle.sg_shapes.specs.Counts.{capped, count_of, look, completed, placeheld, deepened, no_counts, fits, both_fit}
use Rattle.sg_shapes.specs.Unfinished.{is_small_made, is_finished, unfinished}
use Rattle.sg_shapes.proofs.Counted.{completed_made, placeheld_made, counted}
use Rattle.sg_shapes.proofs.Low.{IsLow, completing_low, placeholder_low}
use Rattle.sg_shapes.proofs.Finds.{none_found, all_not, found_is, found_before}

cap_test : (n : ℕ) → nat_le (capped n) 65536 ≡ nat_le n 65536
cap_test n = grind (arith, nat_tests)

and_true : (a b : Bool) → b ≡ true → a ≡ (a && b)
and_true true b e = sym e
and_true false b e = refl

fits_made : (o : Option Term) → IsLow 1024 o → fits (count_of o) ≡ is_small_made o
fits_made None low = refl
fits_made (Some t) low = cap_test (nodes_of t) ∙ and_true (nat_le (nodes_of t) 65536) (nat_le (height_of t) 1024) (le-leb (height_of t) 1024 low)

lower : (k m : ℕ) (o : Option Term) → k ≤ m → IsLow k o → IsLow m o
lower k m None h low = tt
lower k m (Some t) h low = omega arith

-- a phylum that is there, over the terms of at most this depth
both_made : (spec : Spec) (depth p : ℕ) (x : Phylum) → suc depth ≤ 1024 → slice_get spec.phyla p ≡ Some x
    → both_fit spec.ops (deepened spec.phyla spec.ops depth (no_counts spec.phyla)) x ≡ (is_small_made (completing_within spec (suc depth) p) && is_small_made (placeholder_within spec depth p))
both_made spec depth p x room is = ap (λ b. b && fits (placeheld spec.ops (look table) x.ops x.shape)) first ∙ ap (λ b. is_small_made (completing_within spec (suc depth) p) && b) second
  where
    table : List (Option ℕ)
    table = deepened spec.phyla spec.ops depth (no_counts spec.phyla)

    first : fits (completed spec.ops (look (deepened spec.phyla spec.ops depth (no_counts spec.phyla))) x.ops x.shape) ≡ is_small_made (completing_within spec (suc depth) p)
    first =
        ap fits (completed_made spec (completing_within spec depth) (look (deepened spec.phyla spec.ops depth (no_counts spec.phyla))) (counted spec depth) p x.ops x.shape)
        ∙ ap (λ o. fits (count_of (option_and_then (λ (x : Phylum). term.completed spec (completing_within spec depth) p x.ops x.shape) o))) (sym is)
        ∙ fits_made (completing_within spec (suc depth) p) (lower (suc depth) 1024 (completing_within spec (suc depth) p) room (completing_low spec (suc depth) p))

    second : fits (placeheld spec.ops (look (deepened spec.phyla spec.ops depth (no_counts spec.phyla))) x.ops x.shape) ≡ is_small_made (placeholder_within spec depth p)
    second =
        ap fits (placeheld_made spec (completing_within spec depth) (look (deepened spec.phyla spec.ops depth (no_counts spec.phyla))) (counted spec depth) p x.ops x.shape)
        ∙ ap (λ o. fits (count_of (option_and_then (λ (x : Phylum). held.placeheld spec (completing_within spec depth) p x.ops x.shape) o))) (sym is)
        ∙ fits_made (placeholder_within spec depth p) (lower (suc depth) 1024 (placeholder_within spec depth p) room (placeholder_low spec depth p))

pub finished_is : (spec : Spec) (p : ℕ) (x : Phylum) → slice_get spec.phyla p ≡ Some x → both_fit spec.ops (deepened spec.phyla spec.ops 1023 (no_counts spec.phyla)) x ≡ is_finished spec p
unfolding is_finished
finished_is spec p x is = both_made spec 1023 p x (omega arith) is

-- the test of the rule, for a phylum that is there
pub tested : (t : Table) (counts : List (Option ℕ)) (p : ℕ) (x : Phylum) (b : Bool) → counts ≡ deepened t.phyla t.ops 1023 (no_counts t.phyla) → slice_get t.phyla p ≡ Some x → both_fit t.ops counts x ≡ b
    → not (is_finished (drafted t) p) ≡ not b
tested t counts p x b table is fit = ap not (sym (finished_is (drafted t) p x is) ∙ ap (λ (l : List (Option ℕ)). both_fit t.ops l x) (sym table) ∙ fit)

pub at_place : (phyla : List Phylum) (p : ℕ) (x : Phylum) → p < length phyla → x ≡ get_or phyla p x → slice_get phyla p ≡ Some x
at_place phyla p x h e = slice_get_read phyla (length phyla) p x refl h e

small_made : (o : Option Term) → is_small_made o ≡ true → MatchOption o ⊥ IsSmall
small_made None e = absurd (cc e)
small_made (Some t) e = let both = and_parts (nat_le (nodes_of t) 65536) (nat_le (height_of t) 1024) e in (leb-true (nodes_of t) 65536 both.0, leb-true (height_of t) 1024 both.1)

made_small : (o : Option Term) → MatchOption o ⊥ IsSmall → is_small_made o ≡ true
made_small None s = absurd s
made_small (Some t) s = and_from (nat_le (nodes_of t) 65536) (nat_le (height_of t) 1024) (le-leb (nodes_of t) 65536 s.0) (le-leb (height_of t) 1024 s.1)

finite : (spec : Spec) (p : ℕ) → is_finished spec p ≡ true → IsFinite spec p
unfolding is_finished
finite spec p e =
    let both = and_parts (is_small_made (completing_within spec 1024 p)) (is_small_made (placeholder_within spec 1023 p)) e in
    (small_made (completing_within spec 1024 p) both.0, small_made (placeholder_within spec 1023 p) both.1)

finished : (spec : Spec) (p : ℕ) → IsFinite spec p → is_finished spec p ≡ true
unfolding is_finished
finished spec p f = and_from (is_small_made (completing_within spec 1024 p)) (is_small_made (placeholder_within spec 1023 p)) (made_small (completing_within spec 1024 p) f.0) (made_small (placeholder_within spec 1023 p) f.1)

-- where no phylum is unfinished, each is finite, and the other way round
pub all_finite : (t : Table) → unfinished t ≡ None → (p : ℕ) → p < length t.phyla → IsFinite (drafted t) p
all_finite t e p h = finite (drafted t) p (not-false (is_finished (drafted t) p) (none_found (λ q. not (is_finished (drafted t) q)) (length t.phyla) e p h))

pub all_finished : (t : Table) → ((p : ℕ) → p < length t.phyla → IsFinite (drafted t) p) → unfinished t ≡ None
all_finished t f = all_not (λ q. not (is_finished (drafted t) q)) (length t.phyla) (λ p h. ap not (finished (drafted t) p (f p h)))

pub not_finite : (t : Table) (p : ℕ) → unfinished t ≡ Some p → IsFinite (drafted t) p → ⊥
not_finite t p e f =
    let is = found_is (λ q. not (is_finished (drafted t) q)) (length t.phyla) p e in
    both_ways (is_finished (drafted t) p) (not-true (is_finished (drafted t) p) is.0) (finished (drafted t) p f)

pub finite_before : (t : Table) (p q : ℕ) → unfinished t ≡ Some p → q < p → IsFinite (drafted t) q
finite_before t p q e h = finite (drafted t) q (not-false (is_finished (drafted t) q) (found_before (λ (r : ℕ). not (is_finished (drafted t) r)) (length t.phyla) p e q h))

-- leaves are finite and small
leaf_fits : (ops : List Operator) (count : ℕ → Option ℕ) (os : List ℕ) (shape : Shape) → is_leaf_shape shape ≡ true → (fits (completed ops count os shape) && fits (placeheld ops count os shape)) ≡ true
leaf_fits ops count os Truths e = refl
leaf_fits ops count os Numbers e = refl
leaf_fits ops count os Texts e = refl
leaf_fits ops count os (Lexemes l) e = refl
leaf_fits ops count os Ordinary e = absurd (cc e)
leaf_fits ops count os Optional e = absurd (cc e)
leaf_fits ops count os Listed e = absurd (cc e)
leaf_fits ops count os OptionalListed e = absurd (cc e)

pub has_operators : (t : Table) (p : ℕ) (x : Phylum) → unfinished t ≡ Some p → slice_get t.phyla p ≡ Some x → is_leaf_shape x.shape ≡ false
has_operators t p x e is = by (is_leaf_shape x.shape) refl
  where
    by : (b : Bool) → is_leaf_shape x.shape ≡ b → b ≡ false
    by false leaf = refl
    by true leaf =
        let found = found_is (λ q. not (is_finished (drafted t) q)) (length t.phyla) p e in
        absurd (both_ways (is_finished (drafted t) p)
        (not-true (is_finished (drafted t) p) found.0)
        (sym (finished_is (drafted t) p x is) ∙ leaf_fits t.ops (look (deepened t.phyla t.ops 1023 (no_counts t.phyla))) x.ops x.shape leaf))
