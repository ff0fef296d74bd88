use Rattle.std.proofs.Common.{◌≡◌, ◌++◌, ◌-◌, ◌^◌, ℕ, List, [], length, min, ap, ◌∙◌, subst, arith}
use Rattle.sg_kinds.specs.Places.{place_of, places_from, places_in}
use Rattle.sg_kinds.specs.Terms.{Term}
use Rattle.sg_forest.specs.declared.node_id.NodeId.{NodeId}
use Rattle.sg_printing.specs.At.{IsAt}
use Rattle.sg_report.specs.Lines.{of_these, lines_at, last_line}
use Rattle.sg_report.proofs.Walking.{few, places_count, last_written}
use Rattle.sg_report.proofs.lines.report_on.Goals as goal

pub returns : goal.returns
returns c = λ t at small evaluated.
    let g = c.args.terms.now in
    let a = c.args.a.now in
    let all = places_in t in
    let count = c.in_ok-count.count in
    let text = subst (λ (way : List ℕ). (root : NodeId) (s x : Term) → IsAt g root c.args.root s (place_of way) x → c.write_below.new.out.items ≡ c.new-out.result.items ++ lines_at g.spec s a (places_from (place_of way) x)) c.new-path.ensures.items c.in_ok-count.ensures.text in
    let values = subst (λ (way : List ℕ). (root : NodeId) (s x : Term) → IsAt g root c.args.root s (place_of way) x → count ≡ min (length (of_these g.spec s a (places_from (place_of way) x))) (2 ^ 64 - 1)) c.new-path.ensures.items c.in_ok-count.ensures.count in
    let capped = values c.args.root t t at in
    let most = few g.spec t a all in
    let nodes = places_count [] t in
    let fit = small.0 in
    let counted : count ≡ length (of_these g.spec t a all) = omega (arith, capped, most, nodes, fit) in
    let first : c.write_below.new.out.items ≡ lines_at g.spec t a all = text c.args.root t t at ∙ ap (λ s. s ++ lines_at g.spec t a all) c.new-out.ensures.items in
    let whole = last_written c.write_below.new.out.items _ _ _ _ _ count c.args.evaluated c.in_ok-extend_from_slice.ensures.items c.in_ok-write_number.ensures c.in_ok-extend_from_slice-2.ensures.items c.in_ok-write_number-2.ensures c.in_ok-push.ensures.items in
    let lines = c.new.ensures ∙ whole ∙ ap (λ s. s ++ last_line count c.args.evaluated) first ∙ ap (λ n. lines_at g.spec t a all ++ last_line n c.args.evaluated) counted
    ∙ ap (λ n. lines_at g.spec t a all ++ last_line (length (of_these g.spec t a all)) n) evaluated in
    λ i. record { lines = lines i; evaluated = evaluated i }
