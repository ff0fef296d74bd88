use Rattle.std.proofs.Common.{◌≡◌, ◌≤◌, ◌<◌, ◌-◌, ◌∙◌, sym, drop, length, take, arith}
use Rattle.std.specs.Prelude.{count_by, ◌==◌}
use Rattle.sg_text.specs.Bytes.{newline}
use Rattle.sg_place.specs.Shown.{left_len}
use Rattle.sg_place.proofs.Counted.{left_ends, left_goes_on, line_goes_on, long}
use Rattle.sg_place.proofs.points.onward.Goals as goal

-- a newline stands between the known place and the other
pub returns-then-left-gap-clause-point : goal.returns-then-left-gap-clause-point
returns-then-left-gap-clause-point c =
    let bytes = c.args.bytes.now in
    let from = c.args.known.at in
    let at = c.args.at in
    let value : c.left_len-left.result ≡ left_len (drop from (take at bytes)) (at - from) = rw c.stretch-between.ensures at c.left_len-left.ensures.value in
    let count : c.newlines.result ≡ count_by (λ b. b == newline) (drop from (take at bytes)) = rw c.stretch-between.ensures at c.newlines.ensures.value in
    let most : c.newlines.result ≤ length (drop from (take at bytes)) = rw c.stretch-between.ensures at c.newlines.ensures.within in
    let fewer : left_len (drop from (take at bytes)) (at - from) < at - from = omega (arith, value, c.if-left-gap.true) in
    record {
      within = c.requires.within;
      line = omega (arith, c.requires.known.line, count, line_goes_on bytes from at c.requires.rising c.requires.within);
      left = value ∙ sym (left_ends bytes from at c.requires.rising c.requires.within fewer);
      few = omega (arith, c.requires.known.few, most, long bytes from at c.requires.rising c.requires.within, c.requires.rising);
      short = omega (arith, c.if-left-gap.true);
    }

-- or none
pub returns-clause-point : goal.returns-clause-point
returns-clause-point c =
    let bytes = c.args.bytes.now in
    let from = c.args.known.at in
    let at = c.args.at in
    let value : c.left_len-left.result ≡ left_len (drop from (take at bytes)) (at - from) = rw c.stretch-between.ensures at c.left_len-left.ensures.value in
    let count : c.newlines.result ≡ count_by (λ b. b == newline) (drop from (take at bytes)) = rw c.stretch-between.ensures at c.newlines.ensures.value in
    let most : c.newlines.result ≤ length (drop from (take at bytes)) = rw c.stretch-between.ensures at c.newlines.ensures.within in
    let all : left_len (drop from (take at bytes)) (at - from) ≡ at - from = omega (arith, value, c.left_len-left.ensures.within, c.if-left-gap.false) in
    record {
      within = c.requires.within;
      line = omega (arith, c.requires.known.line, count, line_goes_on bytes from at c.requires.rising c.requires.within);
      left = omega (arith, c.requires.known.left, left_goes_on bytes from at c.requires.rising c.requires.within all);
      few = omega (arith, c.requires.known.few, most, long bytes from at c.requires.rising c.requires.within, c.requires.rising);
      short = omega (arith, c.requires.known.short, c.requires.rising);
    }
