use Rattle.std.proofs.Common.{ap, ◌∙◌, arith}
use Rattle.sg_saved.specs.declared.heads.Head.TheVariants.{Leaf}
use Rattle.sg_saved.proofs.Texts.{is-node, is-quote, quote-head}
use Rattle.sg_saved.proofs.heads.head_at.Goals as goal

pub slice_bounds-name-count : goal.slice_bounds-name-count
slice_bounds-name-count c = let m = is-node c.args.bytes.now c.args.note c.in-Operator.end c.requires.0 c.in-Operator.is c.requires.1 in omega arith

pub slice_bounds-name-start : goal.slice_bounds-name-start
slice_bounds-name-start c = let m = is-node c.args.bytes.now c.args.note c.in-Operator.end c.requires.0 c.in-Operator.is c.requires.1 in omega arith

pub slice_bounds-name-end : goal.slice_bounds-name-end
slice_bounds-name-end c = let m = is-node c.args.bytes.now c.args.note c.in-Operator.end c.requires.0 c.in-Operator.is c.requires.1 in omega arith

pub slice_bounds-inner-count : goal.slice_bounds-inner-count
slice_bounds-inner-count c = let m = is-quote c.args.bytes.now c.args.note c.in-Text.last c.requires.0 c.in-Text.is c.requires.1 in omega arith

pub slice_bounds-inner-start : goal.slice_bounds-inner-start
slice_bounds-inner-start c = let m = is-quote c.args.bytes.now c.args.note c.in-Text.last c.requires.0 c.in-Text.is c.requires.1 in omega arith

pub slice_bounds-inner-end : goal.slice_bounds-inner-end
slice_bounds-inner-end c = let m = is-quote c.args.bytes.now c.args.note c.in-Text.last c.requires.0 c.in-Text.is c.requires.1 in omega arith

pub returns-in_ok-unescape-in-Text : goal.returns-in_ok-unescape-in-Text
returns-in_ok-unescape-in-Text c = λ spec r are n.
    ap Leaf c.text.ensures ∙ quote-head spec c.args.bytes.now c.args.note c.in-Text.last r c.new-text.result c.in-Text.is n (c.new-text.ensures ∙ c.in_ok-unescape-in-Text.ensures)
