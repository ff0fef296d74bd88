use Rattle.std.proofs.Common.{◌≡◌, ◌+◌, ◌-◌, ℕ, suc, List, ◌∷◌, sym, ap, ◌∙◌, subst, arith, rules, leb, get_or}
use Rattle.std.specs.List.Sorted.{IsNonDecreasingBy}
use Rattle.std.proofs.lemmas.List.Sorted.{IsPartitionPoint-from_clause, IsPartitionedBy-leb}
use Rattle.sg_unparse.proofs.Lines.{passed, begun, starts_rise}
use Rattle.sg_unparse.proofs.Sheets.{text_of, line_told, column_told, point_passed}
use Rattle.sg_unparse.proofs.page.Page.position.Goals as goal

from_is : (seen starts : List ℕ) (k p from : ℕ) → seen ≡ starts → passed k starts ≡ p → from ≡ get_or (0 ∷ seen) p 0 → from ≡ get_or (0 ∷ starts) (passed k starts) 0
from_is seen starts k p from e same f = f ∙ ap (λ xs. get_or (0 ∷ xs) p 0) e ∙ ap (λ i. get_or (0 ∷ starts) i 0) (sym same)

pub overflow_sub-result : goal.overflow_sub-result
overflow_sub-result c =
    let p = c.self.inside in
    let rise : IsNonDecreasingBy (λ x. x) c.as_slice.result.now = subst (IsNonDecreasingBy (λ x. x)) (sym (c.as_slice.ensures.value ∙ c.self.invariant.lines)) (starts_rise 0 p.text.items) in
    let parted = IsPartitionedBy-leb (λ (x : ℕ). x) c.as_slice.result.now c.args.k rise in
    let point = IsPartitionPoint-from_clause (λ (x : ℕ). leb x c.args.k) _ _ c.partition_point-line.ensures.partitioned parted (λ a r q k. search rules) in
    let same = point_passed c.as_slice.result.now p.starts.items c.args.k c.partition_point-line.result c.as_slice.ensures.value c.partition_point-line.ensures.bound point in
    let from = from_is c.deref.result.now p.starts.items c.args.k c.partition_point-line.result c.line_start.result c.deref.ensures.value same c.line_start.ensures in
    let low = begun c.args.k p.starts.items in
    omega (arith, from, low)

pub returns-clause-line : goal.returns-clause-line
returns-clause-line c =
    let p = c.self.inside in
    let t = text_of p.text.items p.runs.items p.starts.items p.spans.items p.more c.args.self.now c.self.view_is c.self.invariant in
    let rise : IsNonDecreasingBy (λ x. x) c.as_slice.result.now = subst (IsNonDecreasingBy (λ x. x)) (sym (c.as_slice.ensures.value ∙ c.self.invariant.lines)) (starts_rise 0 p.text.items) in
    let parted = IsPartitionedBy-leb (λ (x : ℕ). x) c.as_slice.result.now c.args.k rise in
    let point = IsPartitionPoint-from_clause (λ (x : ℕ). leb x c.args.k) _ _ c.partition_point-line.ensures.partitioned parted (λ a r q k. search rules) in
    let same = point_passed c.as_slice.result.now p.starts.items c.args.k c.partition_point-line.result c.as_slice.ensures.value c.partition_point-line.ensures.bound point in
    let first : c.partition_point-line.result + 1 ≡ suc (passed c.args.k p.starts.items) = omega (arith, same) in
    first ∙ sym (line_told c.args.self.now.cells p.text.items p.starts.items t c.args.k)

pub returns-clause-column : goal.returns-clause-column
returns-clause-column c =
    let p = c.self.inside in
    let t = text_of p.text.items p.runs.items p.starts.items p.spans.items p.more c.args.self.now c.self.view_is c.self.invariant in
    let rise : IsNonDecreasingBy (λ x. x) c.as_slice.result.now = subst (IsNonDecreasingBy (λ x. x)) (sym (c.as_slice.ensures.value ∙ c.self.invariant.lines)) (starts_rise 0 p.text.items) in
    let parted = IsPartitionedBy-leb (λ (x : ℕ). x) c.as_slice.result.now c.args.k rise in
    let point = IsPartitionPoint-from_clause (λ (x : ℕ). leb x c.args.k) _ _ c.partition_point-line.ensures.partitioned parted (λ a r q k. search rules) in
    let same = point_passed c.as_slice.result.now p.starts.items c.args.k c.partition_point-line.result c.as_slice.ensures.value c.partition_point-line.ensures.bound point in
    let from = from_is c.deref.result.now p.starts.items c.args.k c.partition_point-line.result c.line_start.result c.deref.ensures.value same c.line_start.ensures in
    let first : (c.args.k - c.line_start.result) + 1 ≡ suc (c.args.k - get_or (0 ∷ p.starts.items) (passed c.args.k p.starts.items) 0) = omega (arith, from) in
    first ∙ sym (column_told c.args.self.now.cells p.text.items p.starts.items t c.args.k c.requires)
