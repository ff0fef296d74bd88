use Rattle.std.proofs.Common.{◌≡◌, ◌+◌, ◌-◌, ℕ, List, [], ◌∷◌, ◌++◌, Some, sym, ap, ◌∙◌, length, arith, get_or}
use Rattle.sg_unparse.proofs.Sheets.{text_of, none_stands, one_stands, begins, ends}
use Rattle.sg_unparse.proofs.page.Page.place.Goals.{then-line-eq0-via-then-line-eq0, then-line-eq0-via-else-line-eq0+then-col-eq0, then-line-eq0-via-else-line-eq0+else-col-eq0+then-line-len}
use Rattle.sg_unparse.proofs.page.Page.place.Goals as goal

-- what the helpers read
from_is : (seen starts : List ℕ) (k from : ℕ) → seen ≡ starts → from ≡ get_or (0 ∷ seen) k 0 → from ≡ get_or (0 ∷ starts) k 0
from_is seen starts k from e f = f ∙ ap (λ xs. get_or (0 ∷ xs) k 0) e

behind_is : (seen starts : List ℕ) (k n m after : ℕ) → seen ≡ starts → n ≡ m → after ≡ get_or (seen ++ n ∷ []) k 0 → after ≡ get_or (starts ++ m ∷ []) k 0
behind_is seen starts k n m after e l f = f ∙ ap (λ xs. get_or (xs ++ n ∷ []) k 0) e ∙ ap (λ i. get_or (starts ++ i ∷ []) k 0) l

pub returns-then-line-eq0 : goal.returns-then-line-eq0
returns-then-line-eq0 c =
    let p = c.self.inside in
    let t = text_of p.text.items p.runs.items p.starts.items p.spans.items p.more c.args.self.now c.self.view_is c.self.invariant in
    elim c.then-line-eq0.branch [
      | then-line-eq0-via-then-line-eq0 w ↦ sym (none_stands c.args.self.now.cells p.text.items p.starts.items t c.args.line c.args.col (λ a b d e. omega (arith, a, w.if-line-eq0.true)))
      | then-line-eq0-via-else-line-eq0+then-col-eq0 w ↦ sym (none_stands c.args.self.now.cells p.text.items p.starts.items t c.args.line c.args.col (λ a b d e. omega (arith, d, w.if-col-eq0.true)))
      | then-line-eq0-via-else-line-eq0+else-col-eq0+then-line-len w ↦ sym (none_stands c.args.self.now.cells p.text.items p.starts.items t c.args.line c.args.col (λ a b d e. omega (arith, b, w.if-line-len.true, w.len.ensures, p.starts.ok.0)))
    ]

pub overflow_sub-after : goal.overflow_sub-after
overflow_sub-after c =
    let p = c.self.inside in
    let t = text_of p.text.items p.runs.items p.starts.items p.spans.items p.more c.args.self.now c.self.view_is c.self.invariant in
    let from = from_is c.deref.result.now p.starts.items (c.args.line - 1) c.line_start-from.result c.deref.ensures.value c.line_start-from.ensures in
    let behind = behind_is c.deref-2.result.now p.starts.items (c.args.line - 1) c.len-2.result (length p.text.items) c.line_after-after.result c.deref-2.ensures.value (c.len-2.ensures ∙ p.text.ok.0) c.line_after-after.ensures in
    let order = begins c.args.self.now.cells p.text.items p.starts.items t c.args.line c.args.col (omega (arith, c.if-line-len.false, c.len.ensures, p.starts.ok.0)) (omega (arith, c.if-line-eq0.false)) in
    omega (arith, from, behind, order)

pub returns-then-col-after : goal.returns-then-col-after
returns-then-col-after c =
    let p = c.self.inside in
    let t = text_of p.text.items p.runs.items p.starts.items p.spans.items p.more c.args.self.now c.self.view_is c.self.invariant in
    let from = from_is c.deref.result.now p.starts.items (c.args.line - 1) c.line_start-from.result c.deref.ensures.value c.line_start-from.ensures in
    let behind = behind_is c.deref-2.result.now p.starts.items (c.args.line - 1) c.len-2.result (length p.text.items) c.line_after-after.result c.deref-2.ensures.value (c.len-2.ensures ∙ p.text.ok.0) c.line_after-after.ensures in
    sym (none_stands c.args.self.now.cells p.text.items p.starts.items t c.args.line c.args.col (λ a b d e. omega (arith, e, from, behind, c.if-col-after.true)))

pub overflow_cast-result : goal.overflow_cast-result
overflow_cast-result c =
    let p = c.self.inside in
    let t = text_of p.text.items p.runs.items p.starts.items p.spans.items p.more c.args.self.now c.self.view_is c.self.invariant in
    let from = from_is c.deref.result.now p.starts.items (c.args.line - 1) c.line_start-from.result c.deref.ensures.value c.line_start-from.ensures in
    let behind = behind_is c.deref-2.result.now p.starts.items (c.args.line - 1) c.len-2.result (length p.text.items) c.line_after-after.result c.deref-2.ensures.value (c.len-2.ensures ∙ p.text.ok.0) c.line_after-after.ensures in
    let most = ends c.args.self.now.cells p.text.items p.starts.items t c.args.line c.args.col (omega (arith, c.if-line-len.false, c.len.ensures, p.starts.ok.0)) (omega (arith, c.if-line-eq0.false)) in
    omega (arith, from, behind, most, c.if-col-after.false, c.if-col-eq0.false, c.self.invariant.written.small)

pub returns : goal.returns
returns c =
    let p = c.self.inside in
    let t = text_of p.text.items p.runs.items p.starts.items p.spans.items p.more c.args.self.now c.self.view_is c.self.invariant in
    let from = from_is c.deref.result.now p.starts.items (c.args.line - 1) c.line_start-from.result c.deref.ensures.value c.line_start-from.ensures in
    let behind = behind_is c.deref-2.result.now p.starts.items (c.args.line - 1) c.len-2.result (length p.text.items) c.line_after-after.result c.deref-2.ensures.value (c.len-2.ensures ∙ p.text.ok.0) c.line_after-after.ensures in
    ap (λ i. Some (i + (c.args.col - 1))) from
    ∙ sym (one_stands c.args.self.now.cells p.text.items p.starts.items t c.args.line c.args.col (omega (arith, c.if-line-eq0.false)) (omega (arith, c.if-line-len.false, c.len.ensures, p.starts.ok.0)) (omega (arith, c.if-col-eq0.false)) (omega (arith, from, behind, c.if-col-after.false)))
