use Rattle.std.proofs.Common.{◌≡◌, ◌<◌, ◌+◌, ℕ, List, Some, sym, ap, ◌∙◌, length, arith}
use Rattle.std.specs.Prelude.{option_map, slice_get}
use Rattle.std.proofs.lemmas.Option.{slice_get-get_or}
use Rattle.sg_forest.specs.declared.node_id.NodeId.{NodeId}
use Rattle.sg_unparse.specs.Sheet.{no_node, owner_in, kept_cells, cells_from, Sheet}
use Rattle.sg_unparse.proofs.Runs.{cell_there, cells_counted}
use Rattle.sg_unparse.proofs.page.Page.owner_of.Goals as goal

there : (cells : List (ℕ × NodeId)) (text : List ℕ) (f : ℕ → NodeId) (k : ℕ) → cells_from 0 f text ≡ cells → k < length text → option_map (λ (c : ℕ × NodeId). c.1) (slice_get cells k) ≡ Some (f k)
there cells text f k e h =
    let d : ℕ × NodeId = (0, no_node) in
    let count = cells_counted 0 f text in
    let zero : 0 + k ≡ k = omega arith in
    ap (λ cs. option_map (λ (c : ℕ × NodeId). c.1) (slice_get cs k)) (sym e)
    ∙ ap (option_map (λ (c : ℕ × NodeId). c.1)) (slice_get-get_or (cells_from 0 f text) k d (omega (arith, count, h)))
    ∙ ap Some (cell_there 0 f text k d h ∙ ap f zero)

pub returns : goal.returns
returns c =
    let p = c.self.inside in
    let e : kept_cells p.text.items p.runs.items ≡ c.args.self.now.cells = ap (λ (q : Sheet). q.cells) c.self.view_is in
    let count = ap length e in
    let text = cells_counted 0 (owner_in no_node p.runs.items) p.text.items in
    there c.args.self.now.cells p.text.items (owner_in no_node p.runs.items) c.args.k e (omega (arith, count, text, c.requires))
    ∙ ap Some (ap (λ rs. owner_in no_node rs c.args.k) (sym c.deref.ensures.value) ∙ sym c.owner_in.ensures)
